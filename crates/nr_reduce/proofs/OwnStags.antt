-- The regions of an end have consecutive STags: so no two have one STag, and what is offered to be read stays as it was.
use Rattle.std.proofs.Common.{◌≡◌, ℕ, suc, ◌+◌, ◌<◌, Bool, true, false, cond, ◌&&◌, eqb, List, [], ◌∷◌, ◌++◌, length, replicate, Option, Some, None, Result, Ok, Err, refl, sym, ap, subst, ◌∙◌, arith, length-append, append-nil}
use Rattle.std.specs.Prelude.{map}
use Rattle.nr_wire.specs.declared.hello.Side.{Side}
use Rattle.nr_wire.specs.declared.hello.Side.TheVariants.{Initiator, Responder}
use Rattle.nr_wire.specs.Segment.{Segment}
use Rattle.nr_wire.specs.Segment.Segment.{Tagged, Untagged}
use Rattle.nr_header.specs.declared.header.ChunkLists.{ChunkLists}
use Rattle.nr_regions.specs.Access.{Grant, HasOwnStag, HaveOwnStags}
use Rattle.nr_regions.specs.declared.right.Right.{Right}
use Rattle.nr_regions.specs.declared.right.Right.TheVariants.{Fetch, Fill}
use Rattle.nr_link.specs.declared.end.End.{End as Stop}
use Rattle.nr_link.specs.Frames.{Frame, is_hello}
use Rattle.nr_link.specs.Ending.{frame_segment}
use Rattle.nr_link.specs.ReceiveState.{ReadRequest, message_completed, read_request_of}
use Rattle.nr_reduce.specs.declared.mark.Mark.{Mark}
use Rattle.nr_reduce.specs.declared.mark.LinkParameters.{LinkParameters}
use Rattle.nr_reduce.specs.declared.outline.Plan.{Plan}
use Rattle.nr_reduce.specs.Plans.{Buffer, buffer_if, buffers, one_if, has_segment, read_stag, write_stag, reply_stag, regions_needed, total}
use Rattle.nr_reduce.specs.OfferedRegions.{Region, region_grant, region_grants, closed_if, regions_closed}
use Rattle.nr_reduce.specs.Events.{RunEvent, events}
use Rattle.nr_reduce.specs.Events.RunEvent.{FrameReceived, CallSubmitted, MemoryRevoked, CallExecuted, QueueWritten, ServerTold}
use Rattle.nr_reduce.specs.EndRules.{EndMachine, EndState, next_end_state, next_end_state_by, next_end_state_in, end_state_after}
use Rattle.nr_reduce.specs.ClientState.{OutstandingCall, WaitingCall, ClientState, region_of, waiting_from, stag_after, waiting_regions, waiting_call, stag_unless, stags_unless_waiting}
use Rattle.nr_reduce.specs.Client.{client_rules, client_state_after, initial_client, outstanding_of, with_message, with_request, with_segment, with_hello, due_with_response, client_segment, regions_unless_waiting}
use Rattle.nr_reduce.specs.ServerState.{ServerState, PendingCall, PendingRead, next_stag}
use Rattle.nr_reduce.specs.ServerReads.{regions_from, regions_of, chunks_of, is_read, is_over}
use Rattle.nr_reduce.specs.ServerMessages.{Verdict, CallVerdict, verdict, by_payload, pending_payload}
use Rattle.nr_reduce.specs.ServerMessages.Verdict.{EndsLink, OtherVersion, BadChunks, MakesPending}
use Rattle.nr_reduce.specs.ServerMessages.CallVerdict.{Refuses, IsReady}
use Rattle.nr_reduce.specs.ServerFrames.{FrameEffect, no_effect, with_verdict, ready_if_whole, message_effect, with_refused_call, read_effect, call_of_number, response_effect, by_message, with_access, effect_in, frame_effect}
use Rattle.nr_reduce.specs.Server.{server_rules, server_state_after, initial_server, with_effect, with_own_hello}
use Rattle.nr_reduce.specs.Run.{client, server, grants_of}
use Rattle.nr_reduce.specs.StandingLaws.{StagsFrom, ClientStagsInOrder, ServerStagsInOrder, PlanStagsInOrder}
use Rattle.nr_reduce.specs.History.{AcceptedCall}
use Rattle.nr_reduce.specs.declared.mark.ResumedCall.{ResumedCall}

-- ---- Consecutive STags

abbrev pub AreNumbered : ℕ → List Region → Type 0
AreNumbered n regions = StagsFrom n regions

pub numbered_append : (n m : ℕ) (xs ys : List Region) → AreNumbered n xs → m ≡ n + length xs → AreNumbered m ys → AreNumbered n (xs ++ ys)
numbered_append n m [] ys h e k = subst (λ (i : ℕ). AreNumbered i ys) (let s : m ≡ n = omega (arith, e) in s) k
numbered_append n m (x ∷ xs) ys h e k = (h.0, numbered_append (n + 1) m xs ys h.1 (omega (arith, e)) k)

pub closed_stag : (b : Bool) (place : ℕ) (r : Region) → (closed_if b place r).stag ≡ r.stag
closed_stag true place r = refl
closed_stag false place r = refl

numbered_closed : (test : Region → Bool) (place n : ℕ) (regions : List Region) → AreNumbered n regions → AreNumbered n (regions_closed test place regions)
unfolding regions_closed
numbered_closed test place n [] h = tt
numbered_closed test place n (r ∷ regions) h = (closed_stag (test r) place r ∙ h.0, numbered_closed test place (n + 1) regions h.1)

pub closed_length : (test : Region → Bool) (place : ℕ) (regions : List Region) → length (regions_closed test place regions) ≡ length regions
unfolding regions_closed
closed_length test place [] = refl
closed_length test place (r ∷ regions) = ap (λ (n : ℕ). suc n) (closed_length test place regions)

own_above : (place m n : ℕ) (g : Grant) (regions : List Region) → g.stag ≡ m → m < n → AreNumbered n regions → HasOwnStag g (map (region_grant place) regions)
own_above place m n g [] e lt h = tt
own_above place m n g (r ∷ regions) e lt h =
    ((λ same. let s = h.0 in omega (arith, e, lt, s, same)), own_above place m (n + 1) g regions e (omega (arith, lt)) h.1)

pub own_stags : (place n : ℕ) (regions : List Region) → AreNumbered n regions → HaveOwnStags (region_grants place regions)
unfolding region_grants
own_stags place n [] h = tt
own_stags place n (r ∷ regions) h = (own_above place n (n + 1) (region_grant place r) regions h.0 (omega arith) h.1, own_stags place (n + 1) regions h.1)

-- ---- A client

pub record ClientNumbers (opened : LinkParameters) (k : ClientState) : Type 0 where
  pub regions : AreNumbered opened.first_stag k.regions
  pub next : k.stag ≡ opened.first_stag + length k.regions

buffers_if : (xid place n : ℕ) (b : Bool) (right : Right) (bytes : List ℕ) (more : List Buffer) → AreNumbered (n + one_if b) (map (region_of xid place) more) → AreNumbered n (map (region_of xid place) (buffer_if b n right bytes ++ more))
buffers_if xid place n true right bytes more h = (refl, h)
buffers_if xid place n false right bytes more h = subst (λ (i : ℕ). AreNumbered i (map (region_of xid place) more)) (let s : n + 0 ≡ n = omega arith in s) h

last_buffer : (xid place n : ℕ) (b : Bool) (right : Right) (bytes : List ℕ) → AreNumbered n (map (region_of xid place) (buffer_if b n right bytes))
last_buffer xid place n true right bytes = (refl, tt)
last_buffer xid place n false right bytes = tt

pub numbered_buffers : (xid place stag : ℕ) (p : Plan) → AreNumbered stag (map (region_of xid place) (buffers stag p))
unfolding buffers
numbered_buffers xid place stag p =
    buffers_if xid place stag (has_segment (Some p.read)) _ _ _ (buffers_if xid place (write_stag stag p) (has_segment p.write) _ _ _ (last_buffer xid place (reply_stag stag p) (has_segment p.reply) _ _))

if_length : (b : Bool) (n : ℕ) (right : Right) (bytes : List ℕ) → length (buffer_if b n right bytes) ≡ one_if b
if_length true n right bytes = refl
if_length false n right bytes = refl

map_length : {X Y : Type 0} (f : X → Y) (xs : List X) → length (map f xs) ≡ length xs
map_length f [] = refl
map_length f (x ∷ xs) = ap (λ (n : ℕ). suc n) (map_length f xs)

pub buffers_length : (xid place stag : ℕ) (p : Plan) → length (map (region_of xid place) (buffers stag p)) ≡ regions_needed p
unfolding buffers regions_needed
buffers_length xid place stag p =
    map_length (region_of xid place) (buffers stag p) ∙ counted
  where
    counted : length (buffers stag p) ≡ regions_needed p
    counted =
        let read : List Buffer = buffer_if (has_segment (Some p.read)) (read_stag stag p) Fetch p.region in
        let write : List Buffer = buffer_if (has_segment p.write) (write_stag stag p) Fill (replicate (total p.write) 0) in
        let reply : List Buffer = buffer_if (has_segment p.reply) (reply_stag stag p) Fill (replicate (total p.reply) 0) in
        let a = if_length (has_segment (Some p.read)) (read_stag stag p) Fetch p.region in
        let b = if_length (has_segment p.write) (write_stag stag p) Fill (replicate (total p.write) 0) in
        let c = if_length (has_segment p.reply) (reply_stag stag p) Fill (replicate (total p.reply) 0) in
        let d = length-append read (write ++ reply) in
        let e = length-append write reply in
        omega (arith, a, b, c, d, e)

numbers_same : (opened : LinkParameters) (k t : ClientState) → t.regions ≡ k.regions → t.stag ≡ k.stag → ClientNumbers opened k → ClientNumbers opened t
numbers_same opened k t regions stag h = record {
  regions = subst (λ (rs : List Region). AreNumbered opened.first_stag rs) (sym regions) h.regions;
  next = stag ∙ h.next ∙ ap (λ (rs : List Region). opened.first_stag + length rs) (sym regions);
}

numbers_closed : (opened : LinkParameters) (k t : ClientState) (test : Region → Bool) (place : ℕ) → t.regions ≡ regions_closed test place k.regions → t.stag ≡ k.stag → ClientNumbers opened k → ClientNumbers opened t
numbers_closed opened k t test place regions stag h = record {
  regions = subst (λ (rs : List Region). AreNumbered opened.first_stag rs) (sym regions) (numbered_closed test place opened.first_stag k.regions h.regions);
  next = (let a = ap (λ (rs : List Region). length rs) regions ∙ closed_length test place k.regions in let b = h.next in omega (arith, a, b, stag));
}

numbers_request : (opened : LinkParameters) (k : ClientState) (due : ℕ) (r : Option ReadRequest) → ClientNumbers opened k → ClientNumbers opened (with_request k due r)
numbers_request opened k due None h = h
numbers_request opened k due (Some r) h = numbers_same opened k (with_request k due (Some r)) refl refl h

numbers_message : (opened : LinkParameters) (k : ClientState) (place : ℕ) (m : Option (List ℕ)) → ClientNumbers opened k → ClientNumbers opened (with_message k place m)
numbers_message opened k place None h = h
numbers_message opened k place (Some m) h = numbers_closed opened k (with_message k place (Some m)) _ place refl refl h

numbers_segment : (opened : LinkParameters) (k : ClientState) (f : Frame) (r : Result Segment ℕ) → ClientNumbers opened k → ClientNumbers opened (with_segment k f r)
numbers_segment opened k f (Err reason) h = h
numbers_segment opened k f (Ok segment) h =
    let m : ClientState = with_request (with_message k f.end (message_completed k.received segment)) (due_with_response k f segment) (read_request_of segment) in
    numbers_same opened m (with_segment k f (Ok segment)) refl refl
    (numbers_request opened (with_message k f.end (message_completed k.received segment)) (due_with_response k f segment) (read_request_of segment) (numbers_message opened k f.end (message_completed k.received segment) h))

-- a new call has the next STags; one that is sent again has its own, and adds none
abbrev pub NewStag : ClientState → Option WaitingCall → OutstandingCall → Type 0
NewStag k None o = o.stag ≡ k.stag
NewStag k (Some w) o = Unit {0}

pub stag_is : (k : ClientState) (a : AcceptedCall) → NewStag k (waiting_call k a.xid) (outstanding_of k a)
stag_is k a = by (waiting_call k a.xid) refl
  where
    by : (w : Option WaitingCall) → waiting_call k a.xid ≡ w → NewStag k w (outstanding_of k a)
    by None is = ap (λ (w : Option WaitingCall). stag_unless w k.stag) is
    by (Some w) is = tt

numbers_submitted : (opened : LinkParameters) (k : ClientState) (place : ℕ) (o : OutstandingCall) (w : Option WaitingCall) → NewStag k w o → ClientNumbers opened k →
    AreNumbered opened.first_stag (k.regions ++ regions_unless_waiting w place o) × (k.stag + stags_unless_waiting w o.plan ≡ opened.first_stag + length (k.regions ++ regions_unless_waiting w place o))
numbers_submitted opened k place o None own h =
    let more = map (region_of o.xid place) (buffers o.stag o.plan) in (
      numbered_append opened.first_stag o.stag k.regions more h.regions (own ∙ h.next) (numbered_buffers o.xid place o.stag o.plan),
      (let a = buffers_length o.xid place o.stag o.plan in let b = length-append k.regions more in let c = h.next in omega (arith, a, b, c)),
    )
numbers_submitted opened k place o (Some w) own h =
    let none : k.regions ++ [] ≡ k.regions = append-nil k.regions in
    (subst (λ (rs : List Region). AreNumbered opened.first_stag rs) (sym none) h.regions, (let a = ap (λ (rs : List Region). length rs) none in let c = h.next in omega (arith, a, c)))

numbers_after : (opened : LinkParameters) (k : ClientState) (event : RunEvent) → ClientNumbers opened k → ClientNumbers opened (client_state_after opened k event)
unfolding client_state_after
numbers_after opened k (FrameReceived f) h = by (is_hello f)
  where
    by : (b : Bool) → ClientNumbers opened (cond b (with_hello opened k f) (with_segment k f (client_segment k f)))
    by true = numbers_same opened k (with_hello opened k f) refl refl h
    by false = numbers_segment opened k f (client_segment k f) h
numbers_after opened k (CallSubmitted place a) h =
    let both = numbers_submitted opened k place (outstanding_of k a) (waiting_call k a.xid) (stag_is k a) h in
    record { regions = both.0; next = both.1 }
numbers_after opened k (MemoryRevoked place xid) h = numbers_closed opened k (client_state_after opened k (MemoryRevoked place xid)) _ place refl refl h
numbers_after opened k (CallExecuted call) h = h
numbers_after opened k (QueueWritten taken) h = numbers_same opened k (client_state_after opened k (QueueWritten taken)) refl refl h
numbers_after opened k (ServerTold what) h = numbers_same opened k (client_state_after opened k (ServerTold what)) refl refl h

-- what each event keeps of a state stands after all of them
kept_next : {S : Type 0} (rules : EndMachine S) (P : S → Type 0) → ((s : S) (event : RunEvent) → P s → P (rules.state_after s event)) → (r : EndState S) (event : RunEvent) → P r.state → P (next_end_state rules r event).state
kept_next {S} rules P keeps r event h = by_end r.state r.ended h
  where
    by_why : (s : S) (why : Option Stop) → P s → P (next_end_state_by rules s event why).state
    by_why s None h = keeps s event h
    by_why s (Some end) h = h

    by_end : (s : S) (ended : Option Stop) → P s → P (next_end_state_in rules s event ended).state
    by_end s None h = by_why s (rules.end_at s event) h
    by_end s (Some end) h = h

pub kept_after : {S : Type 0} (rules : EndMachine S) (P : S → Type 0) → ((s : S) (event : RunEvent) → P s → P (rules.state_after s event)) → (r : EndState S) (es : List RunEvent) → P r.state → P (end_state_after rules r es).state
kept_after rules P keeps r [] h = h
kept_after rules P keeps r (event ∷ es) h = kept_after rules P keeps (next_end_state rules r event) es (kept_next rules P keeps r event h)

-- those that a reopened client offers from the start
pub waiting_numbered : (stag : ℕ) (rs : List ResumedCall) → AreNumbered stag (waiting_regions (waiting_from stag rs)) × (stag_after stag rs ≡ stag + length (waiting_regions (waiting_from stag rs)))
waiting_numbered stag [] = (tt, (let s : stag ≡ stag + 0 = omega arith in s))
waiting_numbered stag (r ∷ rs) =
    let own = map (region_of r.xid 0) (buffers stag r.plan) in
    let rest = waiting_numbered (stag + regions_needed r.plan) rs in
    let later = waiting_regions (waiting_from (stag + regions_needed r.plan) rs) in
    let count = buffers_length r.xid 0 stag r.plan in (
      numbered_append stag (stag + regions_needed r.plan) own later (numbered_buffers r.xid 0 stag r.plan) (omega (arith, count)) rest.0,
      (let a = length-append own later in let b = rest.1 in omega (arith, a, b, count)),
    )

numbers_first : (opened : LinkParameters) → ClientNumbers opened (initial_client opened).state
numbers_first opened = (let both = waiting_numbered opened.first_stag opened.resumed in record { regions = both.0; next = both.1 })

pub client_numbers : (opened : LinkParameters) (es : List RunEvent) → ClientNumbers opened (end_state_after (client_rules opened) (initial_client opened) es).state
client_numbers opened es =
    kept_after (client_rules opened) (ClientNumbers opened) (numbers_after opened) (initial_client opened) es (numbers_first opened)

pub client_known : (opened : LinkParameters) (link : ℕ) (run : List Mark) → ClientNumbers opened (client opened link run).state
unfolding client
client_known opened link run = client_numbers opened (events link Initiator run)

-- ---- A server

abbrev ServerNumbers : ServerState → Type 0
ServerNumbers k = AreNumbered 1 k.regions

numbered_from : (number place stag : ℕ) (lists : ChunkLists) (ps : List ℕ) → AreNumbered stag (regions_from number place stag lists ps)
numbered_from number place stag lists [] = tt
numbered_from number place stag lists (p ∷ ps) = (refl, numbered_from number place (stag + 1) lists ps)

effect_if : (b : Bool) (s t : FrameEffect) → AreNumbered 1 s.regions → AreNumbered 1 t.regions → AreNumbered 1 (cond b s t).regions
effect_if true s t h g = h
effect_if false s t h g = g

effect_verdict : (v : CallVerdict) (s : FrameEffect) → AreNumbered 1 s.regions → AreNumbered 1 (with_verdict v s).regions
effect_verdict (Refuses reason) s h = h
effect_verdict (IsReady r) s h = h

effect_whole : (k : ServerState) (place : ℕ) (c : PendingCall) (s : FrameEffect) → AreNumbered 1 s.regions → AreNumbered 1 (ready_if_whole k place c s).regions
effect_whole k place c s h = effect_if (is_read s.reads c.number) _ s (effect_verdict (by_payload c (pending_payload k place c)) s h) h

effect_message : (k : ServerState) (place : ℕ) (message : List ℕ) (v : Verdict) → ServerNumbers k → AreNumbered 1 (message_effect k place message v).regions
effect_message k place message (EndsLink reason) h = h
effect_message k place message OtherVersion h = h
effect_message k place message BadChunks h = h
effect_message k place message (MakesPending c) h =
    effect_whole k place c _ (numbered_append 1 (next_stag k) k.regions (regions_of k place c) h refl (numbered_from c.number place (next_stag k) c.lists (chunks_of c.lists)))

effect_read : (k : ServerState) (place : ℕ) (r : PendingRead) (o : Option PendingCall) (s : FrameEffect) → AreNumbered 1 s.regions → AreNumbered 1 (read_effect k place r o s).regions
effect_read k place r None s h = h
effect_read k place r (Some c) s h = effect_if _ (with_refused_call k c s) (ready_if_whole k place c s) h (effect_whole k place c s h)

effect_response : (k : ServerState) (place : ℕ) (reads : List PendingRead) → ServerNumbers k → AreNumbered 1 (response_effect k place reads).regions
effect_response k place [] h = h
effect_response k place (r ∷ reads) h = effect_read k place r (call_of_number k r.number) _ h

effect_by_message : (k : ServerState) (place : ℕ) (o : Option (List ℕ)) → ServerNumbers k → AreNumbered 1 (by_message k place o).regions
effect_by_message k place None h = h
effect_by_message k place (Some message) h = effect_message k place message (verdict k message) h

effect_in_lem : (k : ServerState) (f : Frame) (r : Result Segment ℕ) → ServerNumbers k → AreNumbered 1 (effect_in k f r).regions
effect_in_lem k f (Err reason) h = h
effect_in_lem k f (Ok (Tagged last opcode stag to payload)) h =
    let t : ServerState = with_access k f (Tagged last opcode stag to payload) in
    effect_if (eqb opcode 2 && last) (response_effect t f.end k.reads) (no_effect t) (effect_response t f.end k.reads h) h
effect_in_lem k f (Ok (Untagged last opcode w queue msn offset payload)) h = effect_by_message k f.end (message_completed k.received (Untagged last opcode w queue msn offset payload)) h

effect_frame : (k : ServerState) (f : Frame) → ServerNumbers k → AreNumbered 1 (frame_effect k f).regions
unfolding frame_effect
effect_frame k f h = effect_in_lem k f (frame_segment f) h

server_after : (opened : LinkParameters) (k : ServerState) (event : RunEvent) → ServerNumbers k → ServerNumbers (server_state_after opened k event)
unfolding server_state_after
server_after opened k (FrameReceived f) h = by (is_hello f)
  where
    by : (b : Bool) → ServerNumbers (cond b (with_own_hello opened k f) (with_effect k f (frame_effect k f)))
    by true = h
    by false = numbered_closed (is_over (frame_effect k f).calls (frame_effect k f).reads) f.end 1 (frame_effect k f).regions (effect_frame k f h)
server_after opened k (CallSubmitted place a) h = h
server_after opened k (MemoryRevoked place xid) h = h
server_after opened k (CallExecuted e) h = h
server_after opened k (QueueWritten taken) h = h
server_after opened k (ServerTold what) h = h

pub server_numbers : (opened : LinkParameters) (es : List RunEvent) → ServerNumbers (end_state_after (server_rules opened) (initial_server opened) es).state
server_numbers opened es = kept_after (server_rules opened) ServerNumbers (server_after opened) (initial_server opened) es tt

-- ---- Grants

pub grants_own : (opened : LinkParameters) (link : ℕ) (side : Side) (run : List Mark) → HaveOwnStags (grants_of opened link side run)
unfolding grants_of client server
grants_own opened link Initiator run = own_stags _ opened.first_stag _ (client_numbers opened (events link Initiator run)).regions
grants_own opened link Responder run = own_stags _ 1 _ (server_numbers opened (events link Responder run))

-- ---- In order

pub client_in_order : ClientStagsInOrder
client_in_order opened link run = (client_known opened link run).regions

pub server_in_order : ServerStagsInOrder
unfolding server
server_in_order opened link run = server_numbers opened (events link Responder run)

pub plan_in_order : PlanStagsInOrder
plan_in_order xid place stag plan = (numbered_buffers xid place stag plan, buffers_length xid place stag plan)
