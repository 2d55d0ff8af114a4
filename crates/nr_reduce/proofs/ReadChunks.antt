-- The region of a call's read chunk holds on what its plan put there: nothing is placed into it.
use Rattle.std.proofs.Common.{◌≡◌, ℕ, ◌+◌, ◌<◌, ◌≤◌, Bool, true, false, cond, ◌&&◌, ◌||◌, eqb, ltb, leb, List, [], ◌∷◌, ◌++◌, length, replicate, Option, Some, None, Result, Ok, Err, refl, sym, ap, subst, ◌∙◌, arith, append_assoc, append-nil, length-append}
use Rattle.std.specs.Prelude.{map, find, is_none}
use Rattle.std.specs.List.{list_any, AllByRecursion}
use Rattle.std.proofs.lemmas.Bool.{eqb-true, eq-eqb}
use Rattle.nr_wire.specs.declared.hello.Side.TheVariants.{Initiator}
use Rattle.nr_wire.specs.Segment.{Segment}
use Rattle.nr_regions.specs.Access.{Grant, TaggedSegment, applies, grant_at, grant_offer, grant_denial, access_of_tagged, after_segment, contents}
use Rattle.nr_regions.specs.RegisteredMemory.{Access, denial_in, right_for, same_right, bytes_after_write}
use Rattle.nr_regions.specs.declared.right.Right.{Right}
use Rattle.nr_regions.specs.declared.right.Right.TheVariants.{Fetch, Fill}
use Rattle.nr_regions.specs.declared.denied.Denied.TheVariants.{Bounds, Right as WrongRight}
use Rattle.nr_regions.specs.declared.right.Kind.{Kind}
use Rattle.nr_regions.specs.declared.right.Kind.TheVariants.{Write, Response}
use Rattle.nr_link.specs.declared.end.End.{End as Stop}
use Rattle.nr_link.specs.Frames.{Frame, is_hello}
use Rattle.nr_link.specs.ReceiveState.{ReadRequest, message_completed, read_request_of}
use Rattle.nr_reduce.specs.declared.call.Call.{Call}
use Rattle.nr_reduce.specs.declared.call.Form.{Form}
use Rattle.nr_reduce.specs.declared.call.Submission.TheVariants as submissions
use Rattle.nr_reduce.specs.declared.mark.Mark.{Mark}
use Rattle.nr_reduce.specs.declared.mark.Mark.TheVariants as marks
use Rattle.nr_reduce.specs.declared.mark.LinkParameters.{LinkParameters}
use Rattle.nr_reduce.specs.declared.outline.Plan.{Plan}
use Rattle.nr_reduce.specs.Plans.{TooLarge, Buffer, one_if, buffer_if, buffers, has_segment, read_stag, write_stag, reply_stag, regions_needed, total, plan_of}
use Rattle.nr_reduce.specs.History.{AcceptedCall, bytes_received}
use Rattle.nr_reduce.specs.OfferedRegions.{Region, region_grants, closed_if, regions_closed, region_bytes, region_bytes_by}
use Rattle.nr_reduce.specs.Events.{RunEvent, if_own, events_at, events}
use Rattle.nr_reduce.specs.Events.RunEvent.{FrameReceived, CallSubmitted, MemoryRevoked, CallExecuted, QueueWritten, ServerTold}
use Rattle.nr_reduce.specs.EndRules.{EndState, next_end_state_in, end_state_after}
use Rattle.nr_reduce.specs.ClientState.{ClientState, call_payload, plan_for, region_of, OutstandingCall, WaitingCall, first_of, others_than, waiting_from, waiting_regions, stag_after, waiting_call, stag_for, stag_unless, stags_unless_waiting, plan_unless}
use Rattle.nr_reduce.specs.Client.{client_rules, client_end, client_state_after, plan_or, outstanding_of, with_message, with_request, with_segment, with_hello, due_with_response, client_segment, regions_unless_waiting, revoked_waiting, initial_client}
use Rattle.nr_reduce.specs.Run.{client, grants_of, placed_bytes}
use Rattle.nr_reduce.specs.Asked.{IsAccepted}
use Rattle.nr_reduce.proofs.Steps.{client_one}
use Rattle.nr_reduce.proofs.Standing.{itself}
use Rattle.nr_reduce.proofs.OwnStags.{AreNumbered, ClientNumbers, kept_after, client_known, numbered_buffers, closed_stag, NewStag, stag_is, buffers_length, waiting_numbered, numbered_append}
use Rattle.nr_reduce.proofs.Placing.{segment_waiting}
use Rattle.nr_reduce.specs.declared.mark.ResumedCall.{ResumedCall}

-- the regions of an STag are to be read, and hold these bytes
abbrev OnlyRead : (stag : ℕ) → List ℕ → List Region → Type 0
OnlyRead stag bytes [] = Unit {0}
OnlyRead stag bytes (r ∷ regions) = (r.stag ≡ stag → (r.right ≡ Fetch) × (r.bytes ≡ bytes)) × OnlyRead stag bytes regions

abbrev IsThere : ℕ → List Region → Type 0
IsThere stag regions = list_any (λ r. eqb r.stag stag) regions ≡ true

record KeepsChunk (stag : ℕ) (bytes : List ℕ) (k : ClientState) : Type 0 where
  pub only : OnlyRead stag bytes k.regions
  pub there : IsThere stag k.regions
  pub below : stag < k.stag

only_append : (stag : ℕ) (bytes : List ℕ) (xs ys : List Region) → OnlyRead stag bytes xs → OnlyRead stag bytes ys → OnlyRead stag bytes (xs ++ ys)
only_append stag bytes [] ys h k = k
only_append stag bytes (x ∷ xs) ys h k = (h.0, only_append stag bytes xs ys h.1 k)

only_above : (stag n : ℕ) (bytes : List ℕ) (regions : List Region) → stag < n → AreNumbered n regions → OnlyRead stag bytes regions
only_above stag n bytes [] lt h = tt
only_above stag n bytes (r ∷ regions) lt h = ((λ e. absurd (let s = h.0 in omega (arith, s, e, lt))), only_above stag (n + 1) bytes regions (omega (arith, lt)) h.1)

only_below : (stag n : ℕ) (bytes : List ℕ) (regions : List Region) → n + length regions ≤ stag → AreNumbered n regions → OnlyRead stag bytes regions
only_below stag n bytes [] le h = tt
only_below stag n bytes (r ∷ regions) le h = ((λ e. absurd (let s = h.0 in omega (arith, s, e, le))), only_below stag (n + 1) bytes regions (omega (arith, le)) h.1)

there_left : (stag : ℕ) (xs ys : List Region) → IsThere stag xs → IsThere stag (xs ++ ys)
there_left stag [] ys h = absurd cc
there_left stag (x ∷ xs) ys h = by (eqb x.stag stag) h (λ g. there_left stag xs ys g)
  where
    by : (b : Bool) → (b || list_any (λ r. eqb r.stag stag) xs) ≡ true → (IsThere stag xs → IsThere stag (xs ++ ys)) → (b || list_any (λ r. eqb r.stag stag) (xs ++ ys)) ≡ true
    by true h rest = refl
    by false h rest = rest h

there_right : (stag : ℕ) (xs ys : List Region) → IsThere stag ys → IsThere stag (xs ++ ys)
there_right stag [] ys h = h
there_right stag (x ∷ xs) ys h = by (eqb x.stag stag) (there_right stag xs ys h)
  where
    by : (b : Bool) → IsThere stag (xs ++ ys) → (b || list_any (λ r. eqb r.stag stag) (xs ++ ys)) ≡ true
    by true rest = refl
    by false rest = rest

closed_only : (b : Bool) (place stag : ℕ) (bytes : List ℕ) (r : Region) → (r.stag ≡ stag → (r.right ≡ Fetch) × (r.bytes ≡ bytes)) → (closed_if b place r).stag ≡ stag → ((closed_if b place r).right ≡ Fetch) × ((closed_if b place r).bytes ≡ bytes)
closed_only true place stag bytes r h e = h e
closed_only false place stag bytes r h e = h e

only_closed : (test : Region → Bool) (place stag : ℕ) (bytes : List ℕ) (regions : List Region) → OnlyRead stag bytes regions → OnlyRead stag bytes (regions_closed test place regions)
unfolding regions_closed
only_closed test place stag bytes [] h = tt
only_closed test place stag bytes (r ∷ regions) h = (closed_only (test r) place stag bytes r h.0, only_closed test place stag bytes regions h.1)

there_closed : (test : Region → Bool) (place stag : ℕ) (regions : List Region) → list_any (λ r. eqb r.stag stag) (regions_closed test place regions) ≡ list_any (λ r. eqb r.stag stag) regions
unfolding regions_closed
there_closed test place stag [] = refl
there_closed test place stag (r ∷ regions) = (λ i. eqb (closed_stag (test r) place r i) stag || there_closed test place stag regions i)

-- ---- From event to event

chunk_same : (stag : ℕ) (bytes : List ℕ) (k t : ClientState) → t.regions ≡ k.regions → t.stag ≡ k.stag → KeepsChunk stag bytes k → KeepsChunk stag bytes t
chunk_same stag bytes k t regions next h = record {
  only = subst (λ (rs : List Region). OnlyRead stag bytes rs) (sym regions) h.only;
  there = subst (λ (rs : List Region). IsThere stag rs) (sym regions) h.there;
  below = (let b = h.below in omega (arith, b, next));
}

chunk_closed : (stag : ℕ) (bytes : List ℕ) (k t : ClientState) (test : Region → Bool) (place : ℕ) → t.regions ≡ regions_closed test place k.regions → t.stag ≡ k.stag → KeepsChunk stag bytes k → KeepsChunk stag bytes t
chunk_closed stag bytes k t test place regions next h = record {
  only = subst (λ (rs : List Region). OnlyRead stag bytes rs) (sym regions) (only_closed test place stag bytes k.regions h.only);
  there = subst (λ (rs : List Region). IsThere stag rs) (sym regions) (there_closed test place stag k.regions ∙ h.there);
  below = (let b = h.below in omega (arith, b, next));
}

chunk_request : (stag : ℕ) (bytes : List ℕ) (k : ClientState) (due : ℕ) (r : Option ReadRequest) → KeepsChunk stag bytes k → KeepsChunk stag bytes (with_request k due r)
chunk_request stag bytes k due None h = h
chunk_request stag bytes k due (Some r) h = chunk_same stag bytes k (with_request k due (Some r)) refl refl h

chunk_message : (stag : ℕ) (bytes : List ℕ) (k : ClientState) (place : ℕ) (m : Option (List ℕ)) → KeepsChunk stag bytes k → KeepsChunk stag bytes (with_message k place m)
chunk_message stag bytes k place None h = h
chunk_message stag bytes k place (Some m) h = chunk_closed stag bytes k (with_message k place (Some m)) _ place refl refl h

chunk_segment : (stag : ℕ) (bytes : List ℕ) (k : ClientState) (f : Frame) (r : Result Segment ℕ) → KeepsChunk stag bytes k → KeepsChunk stag bytes (with_segment k f r)
chunk_segment stag bytes k f (Err reason) h = h
chunk_segment stag bytes k f (Ok segment) h =
    let m : ClientState = with_request (with_message k f.end (message_completed k.received segment)) (due_with_response k f segment) (read_request_of segment) in
    chunk_same stag bytes m (with_segment k f (Ok segment)) refl refl
    (chunk_request stag bytes (with_message k f.end (message_completed k.received segment)) (due_with_response k f segment) (read_request_of segment) (chunk_message stag bytes k f.end (message_completed k.received segment) h))

only_submitted : (stag : ℕ) (bytes : List ℕ) (k : ClientState) (place : ℕ) (o : OutstandingCall) (w : Option WaitingCall) → NewStag k w o → KeepsChunk stag bytes k → OnlyRead stag bytes (regions_unless_waiting w place o)
only_submitted stag bytes k place o None own h = only_above stag o.stag bytes _ (let b = h.below in omega (arith, b, own)) (numbered_buffers o.xid place o.stag o.plan)
only_submitted stag bytes k place o (Some w) own h = tt

chunk_after : (opened : LinkParameters) (stag : ℕ) (bytes : List ℕ) (k : ClientState) (event : RunEvent) → KeepsChunk stag bytes k → KeepsChunk stag bytes (client_state_after opened k event)
unfolding client_state_after
chunk_after opened stag bytes k (FrameReceived f) h = by (is_hello f)
  where
    by : (b : Bool) → KeepsChunk stag bytes (cond b (with_hello opened k f) (with_segment k f (client_segment k f)))
    by true = chunk_same stag bytes k (with_hello opened k f) refl refl h
    by false = chunk_segment stag bytes k f (client_segment k f) h
chunk_after opened stag bytes k (CallSubmitted place a) h = record {
  only = only_append stag bytes k.regions _ h.only (only_submitted stag bytes k place (outstanding_of k a) (waiting_call k a.xid) (stag_is k a) h);
  there = there_left stag k.regions _ h.there;
  below = (let b = h.below in omega (arith, b));
}
chunk_after opened stag bytes k (MemoryRevoked place xid) h = chunk_closed stag bytes k (client_state_after opened k (MemoryRevoked place xid)) _ place refl refl h
chunk_after opened stag bytes k (CallExecuted call) h = h
chunk_after opened stag bytes k (QueueWritten taken) h = chunk_same stag bytes k (client_state_after opened k (QueueWritten taken)) refl refl h
chunk_after opened stag bytes k (ServerTold what) h = chunk_same stag bytes k (client_state_after opened k (ServerTold what)) refl refl h

chunk_more : (opened : LinkParameters) (link stag : ℕ) (bytes : List ℕ) (run more : List Mark) → KeepsChunk stag bytes (client opened link run).state → KeepsChunk stag bytes (client opened link (run ++ more)).state
chunk_more opened link stag bytes run [] h = subst (λ (r : List Mark). KeepsChunk stag bytes (client opened link r).state) (sym (append-nil run)) h
chunk_more opened link stag bytes run (mark ∷ more) h =
    let one = kept_after (client_rules opened) (KeepsChunk stag bytes) (chunk_after opened stag bytes) (client opened link run) (events_at link Initiator run mark) h in
    subst (λ (r : List Mark). KeepsChunk stag bytes (client opened link r).state) (append_assoc run (mark ∷ []) more)
    (chunk_more opened link stag bytes (run ++ mark ∷ []) more (subst (λ (r : EndState ClientState). KeepsChunk stag bytes r.state) (sym (client_one opened link run mark)) one))

-- ---- At its Submit

abbrev rest_of : ℕ → Plan → List Buffer
rest_of stag p =
    buffer_if (has_segment p.write) (write_stag stag p) Fill (replicate (total p.write) 0) ++ buffer_if (has_segment p.reply) (reply_stag stag p) Fill (replicate (total p.reply) 0)

abbrev first_of_plan : (xid place stag : ℕ) → Plan → Region
first_of_plan xid place stag p = record { call = xid; position = 0; stag = stag; right = Fetch; bytes = p.region; from = place; until = None }

read_first : (xid place stag : ℕ) (p : Plan) → has_segment (Some p.read) ≡ true → map (region_of xid place) (buffers stag p) ≡ first_of_plan xid place stag p ∷ map (region_of xid place) (rest_of stag p)
unfolding buffers
read_first xid place stag p some = ap (λ (b : Bool). map (region_of xid place) (buffer_if b stag Fetch p.region ++ rest_of stag p)) some

needs_one : (p : Plan) → has_segment (Some p.read) ≡ true → 1 ≤ regions_needed p
unfolding regions_needed
needs_one p some = (let e = ap one_if some in omega (arith, e))

offered : (opened : LinkParameters) (k t : ClientState) (xid place : ℕ) (p : Plan) → ClientNumbers opened k → has_segment (Some p.read) ≡ true
    → t.regions ≡ k.regions ++ map (region_of xid place) (buffers k.stag p) → t.stag ≡ k.stag + regions_needed p → KeepsChunk k.stag p.region t
offered opened k t xid place p numbers some regions next =
    let stag : ℕ = k.stag in
    let tail : List Region = map (region_of xid place) (rest_of stag p) in
    let new : List Region = first_of_plan xid place stag p ∷ tail in
    let all : t.regions ≡ k.regions ++ new = regions ∙ ap (λ (rs : List Region). k.regions ++ rs) (read_first xid place stag p some) in
    let numbered : AreNumbered stag new = subst (λ (rs : List Region). AreNumbered stag rs) (read_first xid place stag p some) (numbered_buffers xid place stag p) in
    let low : OnlyRead stag p.region k.regions = only_below stag opened.first_stag p.region k.regions (let n = numbers.next in omega (arith, n)) numbers.regions in
    let high : OnlyRead stag p.region tail = only_above stag (stag + 1) p.region tail (omega arith) numbered.1 in
    record {
      only = subst (λ (rs : List Region). OnlyRead stag p.region rs) (sym all) (only_append stag p.region k.regions new low ((λ e. (refl, refl)), high));
      there = subst (λ (rs : List Region). IsThere stag rs) (sym all)
          (there_right stag k.regions new (ap (λ (b : Bool). b || list_any (λ (r : Region). eqb r.stag stag) tail) (eq-eqb stag stag refl)));
      below = (let n = needs_one p some in omega (arith, n, next));
    }

-- ---- Of the calls that wait to be sent again

-- the region of a read chunk of each call that waits holds what its plan put there
abbrev WaitingChunk : ClientState → WaitingCall → Type 0
WaitingChunk k w = has_segment (Some w.plan.read) ≡ true → KeepsChunk w.stag w.plan.region k

abbrev WaitingChunks : ClientState → Type 0
WaitingChunks k = AllByRecursion (WaitingChunk k) k.waiting

chunks_moved : (k t : ClientState) (ws : List WaitingCall) → ((stag : ℕ) (bytes : List ℕ) → KeepsChunk stag bytes k → KeepsChunk stag bytes t) → AllByRecursion (WaitingChunk k) ws → AllByRecursion (WaitingChunk t) ws
chunks_moved k t [] goes h = tt
chunks_moved k t (w ∷ ws) goes h = ((λ some. goes w.stag w.plan.region (h.0 some)), chunks_moved k t ws goes h.1)

chunks_others : (k : ClientState) (ws : List WaitingCall) (xid : ℕ) → AllByRecursion (WaitingChunk k) ws → AllByRecursion (WaitingChunk k) (others_than ws xid)
chunks_others k [] xid h = tt
chunks_others k (w ∷ ws) xid h = by (eqb w.xid xid)
  where
    by : (b : Bool) → AllByRecursion (WaitingChunk k) (cond b ws (w ∷ ws))
    by true = h.1
    by false = h

chunks_revoked : (k : ClientState) (ws : List WaitingCall) (xid : ℕ) → AllByRecursion (WaitingChunk k) ws → AllByRecursion (WaitingChunk k) (map (revoked_waiting xid) ws)
chunks_revoked k [] xid h = tt
chunks_revoked k (w ∷ ws) xid h = (by (eqb w.xid xid), chunks_revoked k ws xid h.1)
  where
    by : (b : Bool) → WaitingChunk k (cond b (record w { is_revoked = true }) w)
    by true = h.0
    by false = h.0

waiting_after : (opened : LinkParameters) (k : ClientState) (event : RunEvent) → WaitingChunks k → AllByRecursion (WaitingChunk k) (client_state_after opened k event).waiting
unfolding client_state_after
waiting_after opened k (FrameReceived f) h = by (is_hello f)
  where
    by : (b : Bool) → AllByRecursion (WaitingChunk k) (cond b (with_hello opened k f) (with_segment k f (client_segment k f))).waiting
    by true = h
    by false = subst (λ (ws : List WaitingCall). AllByRecursion (WaitingChunk k) ws) (sym (segment_waiting k f (client_segment k f))) h
waiting_after opened k (CallSubmitted place a) h = chunks_others k k.waiting a.xid h
waiting_after opened k (MemoryRevoked place xid) h = chunks_revoked k k.waiting xid h
waiting_after opened k (CallExecuted call) h = h
waiting_after opened k (QueueWritten taken) h = h
waiting_after opened k (ServerTold what) h = h

chunks_after : (opened : LinkParameters) (k : ClientState) (event : RunEvent) → WaitingChunks k → WaitingChunks (client_state_after opened k event)
chunks_after opened k event h =
    chunks_moved k (client_state_after opened k event) (client_state_after opened k event).waiting (λ stag bytes own. chunk_after opened stag bytes k event own) (waiting_after opened k event h)

-- As a client is opened: the regions of a call are after those of the calls before it, and before those of the calls after it.
abbrev HasChunk : (regions : List Region) (next : ℕ) → WaitingCall → Type 0
HasChunk regions next w = has_segment (Some w.plan.read) ≡ true → OnlyRead w.stag w.plan.region regions × (IsThere w.stag regions × (w.stag < next))

first_chunk : (first stag : ℕ) (low later : List Region) (r : ResumedCall) → AreNumbered first low → stag ≡ first + length low → AreNumbered (stag + regions_needed r.plan) later → has_segment (Some r.plan.read) ≡ true →
    OnlyRead stag r.plan.region (low ++ (map (region_of r.xid 0) (buffers stag r.plan) ++ later)) × IsThere stag (low ++ (map (region_of r.xid 0) (buffers stag r.plan) ++ later))
first_chunk first stag low later r numbered next above some =
    let p : Plan = r.plan in
    let tail : List Region = map (region_of r.xid 0) (rest_of stag p) in
    let own : List Region = map (region_of r.xid 0) (buffers stag p) in
    let is : own ≡ first_of_plan r.xid 0 stag p ∷ tail = read_first r.xid 0 stag p some in
    let numbers : AreNumbered stag (first_of_plan r.xid 0 stag p ∷ tail) = subst (λ (rs : List Region). AreNumbered stag rs) is (numbered_buffers r.xid 0 stag p) in
    let rest : OnlyRead stag p.region tail = only_above stag (stag + 1) p.region tail (omega arith) numbers.1 in
    let mine : OnlyRead stag p.region own = subst (λ (rs : List Region). OnlyRead stag p.region rs) (sym is) ((λ e. (refl, refl)), rest) in
    let under : OnlyRead stag p.region low = only_below stag first p.region low (omega (arith, next)) numbered in
    let over : OnlyRead stag p.region later = only_above stag (stag + regions_needed p) p.region later (let n = needs_one p some in omega (arith, n)) above in
    let there : IsThere stag own = subst (λ (rs : List Region). IsThere stag rs) (sym is) (ap (λ (b : Bool). b || list_any (λ (r : Region). eqb r.stag stag) tail) (eq-eqb stag stag refl)) in
    (only_append stag p.region low (own ++ later) under (only_append stag p.region own later mine over), there_right stag low (own ++ later) (there_left stag own later there))

waiting_chunks : (first stag : ℕ) (low : List Region) (rs : List ResumedCall) → AreNumbered first low → stag ≡ first + length low →
    AllByRecursion (HasChunk (low ++ waiting_regions (waiting_from stag rs)) (stag_after stag rs)) (waiting_from stag rs)
waiting_chunks first stag low [] numbered next = tt
waiting_chunks first stag low (r ∷ rs) numbered next =
    let more : ℕ = stag + regions_needed r.plan in
    let own : List Region = map (region_of r.xid 0) (buffers stag r.plan) in
    let later : List Region = waiting_regions (waiting_from more rs) in
    let both = waiting_numbered more rs in
    let count = buffers_length r.xid 0 stag r.plan in
    let rest = waiting_chunks first more (low ++ own) rs (numbered_append first stag low own numbered next (numbered_buffers r.xid 0 stag r.plan)) (let l = length-append low own in omega (arith, l, next, count)) in (
      λ some. (
          (let here = first_chunk first stag low later r numbered next both.0 some in
          (here.0, (here.1, (let n = needs_one r.plan some in let a = both.1 in omega (arith, n, a)))))
          ),
      subst (λ (regions : List Region). AllByRecursion (HasChunk regions (stag_after more rs)) (waiting_from more rs)) (append_assoc low own later) rest,
    )

chunks_opened : (k : ClientState) (ws : List WaitingCall) → AllByRecursion (HasChunk k.regions k.stag) ws → AllByRecursion (WaitingChunk k) ws
chunks_opened k [] h = tt
chunks_opened k (w ∷ ws) h = ((λ some. (let c = h.0 some in record { only = c.0; there = c.1.0; below = c.1.1 })), chunks_opened k ws h.1)

chunks_first : (opened : LinkParameters) → WaitingChunks (initial_client opened).state
chunks_first opened =
    chunks_opened (initial_client opened).state (waiting_from opened.first_stag opened.resumed)
    (waiting_chunks opened.first_stag opened.first_stag [] opened.resumed tt (let s : opened.first_stag ≡ opened.first_stag + 0 = omega arith in s))

waiting_known : (opened : LinkParameters) (link : ℕ) (run : List Mark) → WaitingChunks (client opened link run).state
unfolding client
waiting_known opened link run = kept_after (client_rules opened) WaitingChunks (chunks_after opened) (initial_client opened) (events link Initiator run) (chunks_first opened)

first_holds : (Q : WaitingCall → Type 0) (ws : List WaitingCall) (xid : ℕ) (w : WaitingCall) → AllByRecursion Q ws → first_of ws xid ≡ Some w → Q w
first_holds Q [] xid w h is = absurd cc
first_holds Q (v ∷ ws) xid w h is = by (eqb v.xid xid) is
  where
    by : (b : Bool) → cond b (Some v) None ≡ Some w → Q w
    by true is = (let same : v ≡ w = cc in subst Q same h.0)
    by false is = absurd cc

-- ---- At its Submit

submitted_new : (opened : LinkParameters) (k : ClientState) (place : ℕ) (a : AcceptedCall) (plan : Plan) → ClientNumbers opened k → waiting_call k a.xid ≡ None → (outstanding_of k a).plan ≡ plan → has_segment (Some plan.read) ≡ true
    → KeepsChunk (stag_for k a.xid) plan.region (client_state_after opened k (CallSubmitted place a))
unfolding client_state_after
submitted_new opened k place a plan numbers new same some =
    let stag : stag_for k a.xid ≡ k.stag = ap (λ (w : Option WaitingCall). stag_unless w k.stag) new in
    subst (λ (n : ℕ). KeepsChunk n plan.region (client_state_after opened k (CallSubmitted place a))) (sym stag)
    (offered opened k (client_state_after opened k (CallSubmitted place a)) a.xid place plan numbers some
    (ap (λ (w : Option WaitingCall). k.regions ++ regions_unless_waiting w place (outstanding_of k a)) new ∙ (λ i. k.regions ++ map (region_of a.xid place) (buffers (stag i) (same i))))
    (λ i. k.stag + stags_unless_waiting (new i) (same i)))

submitted_again : (opened : LinkParameters) (k : ClientState) (place : ℕ) (a : AcceptedCall) (plan : Plan) (w : WaitingCall) → WaitingChunks k → waiting_call k a.xid ≡ Some w → plan_for k a.xid a.call a.form ≡ Ok plan → has_segment (Some plan.read) ≡ true
    → KeepsChunk (stag_for k a.xid) plan.region (client_state_after opened k (CallSubmitted place a))
unfolding plan_for
submitted_again opened k place a plan w waits waiting planned some =
    let stag : stag_for k a.xid ≡ w.stag = ap (λ (w : Option WaitingCall). stag_unless w k.stag) waiting in
    let ok : Ok w.plan ≡ Ok plan = sym (ap (λ (w : Option WaitingCall). plan_unless w (plan_of (call_payload a.xid a.call) a.form k.up_max k.down_max)) waiting) ∙ planned in
    let same : w.plan ≡ plan = cc in
    let own : KeepsChunk w.stag w.plan.region k = first_holds (WaitingChunk k) k.waiting a.xid w waits waiting (subst (λ (p : Plan). has_segment (Some p.read) ≡ true) (sym same) some) in
    subst (λ (n : ℕ). KeepsChunk n plan.region (client_state_after opened k (CallSubmitted place a))) (sym stag)
    (subst (λ (p : Plan). KeepsChunk w.stag p.region (client_state_after opened k (CallSubmitted place a))) same (chunk_after opened w.stag w.plan.region k (CallSubmitted place a) own))

submitted : (opened : LinkParameters) (k : ClientState) (ended : Option Stop) (place : ℕ) (a : AcceptedCall) (plan : Plan) → ClientNumbers opened k → WaitingChunks k → ended ≡ None
    → plan_for k a.xid a.call a.form ≡ Ok plan → has_segment (Some plan.read) ≡ true
    → KeepsChunk (stag_for k a.xid) plan.region (next_end_state_in (client_rules opened) k (CallSubmitted place a) ended).state
unfolding client_end
submitted opened k (Some end) place a plan numbers waits stays planned some = absurd cc
submitted opened k None place a plan numbers waits stays planned some = by (waiting_call k a.xid) refl
  where
    by : (w : Option WaitingCall) → waiting_call k a.xid ≡ w → KeepsChunk (stag_for k a.xid) plan.region (client_state_after opened k (CallSubmitted place a))
    by None is = submitted_new opened k place a plan numbers is (ap (λ (r : Result Plan TooLarge). plan_or (call_payload a.xid a.call) r) planned) some
    by (Some w) is = submitted_again opened k place a plan w waits is planned some

-- ---- What is placed

abbrev OnlyGrants : ℕ → List Grant → Type 0
OnlyGrants stag [] = Unit {0}
OnlyGrants stag (g ∷ grants) = (g.stag ≡ stag → g.right ≡ Fetch) × OnlyGrants stag grants

only_grants : (place stag : ℕ) (bytes : List ℕ) (regions : List Region) → OnlyRead stag bytes regions → OnlyGrants stag (region_grants place regions)
unfolding region_grants
only_grants place stag bytes [] h = tt
only_grants place stag bytes (r ∷ regions) h = ((λ e. (h.0 e).0), only_grants place stag bytes regions h.1)

denied_fetch : (right : Right) (len : ℕ) (kind : Kind) (access : Access) → right ≡ Fetch → access.right ≡ right_for kind → is_none (denial_in (Some (right, len)) access) ≡ false
denied_fetch right len kind access e f = ap (λ (r : Right). is_none (denial_in (Some (r, len)) access)) e ∙ by (ltb len (access.to + access.len))
  where
    by_kind : (kind : Kind) → access.right ≡ right_for kind → is_none (cond (same_right Fetch access.right) None (Some WrongRight)) ≡ false
    by_kind Write f = ap (λ (r : Right). is_none (cond (same_right Fetch r) None (Some WrongRight))) f
    by_kind Response f = ap (λ (r : Right). is_none (cond (same_right Fetch r) None (Some WrongRight))) f

    by : (b : Bool) → is_none (cond b (Some Bounds) (cond (same_right Fetch access.right) None (Some WrongRight))) ≡ false
    by true = refl
    by false = by_kind kind f

denied_find : (grants : List Grant) (stag end : ℕ) (kind : Kind) (access : Access) → OnlyGrants stag grants → access.right ≡ right_for kind → is_none (denial_in (grant_offer (find (applies stag end) grants)) access) ≡ false
denied_find [] stag end kind access h f = refl
denied_find (g ∷ grants) stag end kind access h f = by (eqb g.stag stag) refl (ltb g.from end && leb end g.until) (denied_find grants stag end kind access h.1 f)
  where
    by : (b : Bool) → eqb g.stag stag ≡ b → (d : Bool) → is_none (denial_in (grant_offer (find (applies stag end) grants)) access) ≡ false → is_none (denial_in (grant_offer (cond (b && d) (Some g) (find (applies stag end) grants))) access) ≡ false
    by true is true rest = denied_fetch g.right g.len kind access (h.0 (eqb-true g.stag stag is)) f
    by true is false rest = rest
    by false is d rest = rest

still_one : (grants : List Grant) (stag : ℕ) (bytes : List ℕ) (s : TaggedSegment) → OnlyGrants stag grants → after_segment grants stag bytes s ≡ bytes
unfolding grant_denial grant_at
still_one grants stag bytes s h = by (eqb s.stag stag) refl
  where
    by : (b : Bool) → eqb s.stag stag ≡ b → cond (b && is_none (denial_in (grant_offer (find (applies s.stag s.end) grants)) (access_of_tagged s))) (bytes_after_write bytes s.to s.payload) bytes ≡ bytes
    by true is =
        ap (λ (d : Bool). cond d (bytes_after_write bytes s.to s.payload) bytes)
        (denied_find grants s.stag s.end s.kind (access_of_tagged s) (subst (λ (n : ℕ). OnlyGrants n grants) (sym (eqb-true s.stag stag is)) h) refl)
    by false is = refl

still : (grants : List Grant) (stag : ℕ) (bytes : List ℕ) (segments : List TaggedSegment) → OnlyGrants stag grants → contents grants stag bytes segments ≡ bytes
still grants stag bytes [] h = refl
still grants stag bytes (s ∷ segments) h = ap (λ (b : List ℕ). contents grants stag b segments) (still_one grants stag bytes s h) ∙ still grants stag bytes segments h

chunk_bytes_lem : (grants : List Grant) (stag : ℕ) (bytes : List ℕ) (regions : List Region) (segments : List TaggedSegment) → OnlyGrants stag grants → OnlyRead stag bytes regions → IsThere stag regions
    → region_bytes_by grants segments (find (λ r. eqb r.stag stag) regions) ≡ bytes
chunk_bytes_lem grants stag bytes [] segments g h there = absurd cc
chunk_bytes_lem grants stag bytes (r ∷ regions) segments g h there = by (eqb r.stag stag) refl there (λ others. chunk_bytes_lem grants stag bytes regions segments g h.1 others)
  where
    by : (b : Bool) → eqb r.stag stag ≡ b → (b || list_any (λ r. eqb r.stag stag) regions) ≡ true → (IsThere stag regions → region_bytes_by grants segments (find (λ r. eqb r.stag stag) regions) ≡ bytes) → region_bytes_by grants segments (cond b (Some r) (find (λ r. eqb r.stag stag) regions)) ≡ bytes
    by true is there rest =
        let e = eqb-true r.stag stag is in
        still grants r.stag r.bytes segments (subst (λ (n : ℕ). OnlyGrants n grants) (sym e) g) ∙ (h.0 e).1
    by false is there rest = rest there

-- From its Submit on the region of a call's read chunk holds what its plan put there.
pub chunk_stays : (opened : LinkParameters) (link : ℕ) (run more : List Mark) (call : Call) (form : Form) (xid : ℕ) → (h : IsAccepted opened link run call form xid) → has_segment (Some h.plan.read) ≡ true →
    placed_bytes opened link Initiator (run ++ marks.Submit link call form (submissions.Accepted xid) ∷ more) (read_stag (stag_for (client opened link run).state xid) h.plan) ≡ h.plan.region
unfolding placed_bytes region_bytes grants_of
chunk_stays opened link run more call form xid h some =
    let k : ClientState = (client opened link run).state in
    let a : AcceptedCall = record { xid = xid; call = call; form = form } in
    let mark = marks.Submit link call form (submissions.Accepted xid) in
    let place = length (bytes_received link Initiator run) in
    let numbers : ClientNumbers opened k = client_known opened link run in
    let waits : WaitingChunks k = waiting_known opened link run in
    let stag : ℕ = stag_for k xid in
    let one : KeepsChunk stag h.plan.region (next_end_state_in (client_rules opened) k (CallSubmitted place a) (client opened link run).ended).state =
    submitted opened k (client opened link run).ended place a h.plan numbers waits h.stays h.planned some in
    let events : KeepsChunk stag h.plan.region (end_state_after (client_rules opened) (client opened link run) (events_at link Initiator run mark)).state =
    subst (λ (b : Bool). KeepsChunk stag h.plan.region (end_state_after (client_rules opened) (client opened link run) (if_own (b && true) (CallSubmitted place a ∷ []))).state) (sym (itself link)) one in
    let first = subst (λ (r : EndState ClientState). KeepsChunk stag h.plan.region r.state) (sym (client_one opened link run mark)) events in
    let last = subst (λ (r : List Mark). KeepsChunk stag h.plan.region (client opened link r).state) (append_assoc run (mark ∷ []) more) (chunk_more opened link stag h.plan.region (run ++ mark ∷ []) more first) in
    let all : List Mark = run ++ mark ∷ more in
    let t : ClientState = (client opened link all).state in
    let now = length (bytes_received link Initiator all) in
    chunk_bytes_lem (region_grants now t.regions) stag h.plan.region t.regions t.accesses_received (only_grants now stag h.plan.region t.regions last.only) last.only last.there
