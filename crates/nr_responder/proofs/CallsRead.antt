-- A Send whose call has a read list: its sinks are registered, and its reads open or wait.
use Rattle.std.proofs.Common.{◌≡◌, ◌≢◌, ℕ, zero, suc, ◌+◌, ◌-◌, ◌<◌, ◌≤◌, Bool, true, false, not, ◌&&◌, ◌||◌, eqb, cond, List, [], ◌∷◌, ◌++◌, length, take, drop, Option, Some, None, Ok, refl, sym, ap, subst, ◌∙◌, arith, inl, is_some, append-nil, replicate}
use Rattle.std.specs.Prelude.{find}
use Rattle.std.specs.List.{AllByRecursion, list_any, filter}
use Rattle.std.proofs.lemmas.Bool.{eq-eqb, ne_eqb}
use Rattle.nr_wire.specs.declared.stream.Awaited.TheVariants.{Fpdu}
use Rattle.nr_wire.specs.Constants.{OPCODE_SEND}
use Rattle.nr_wire.specs.Segment.{Segment}
use Rattle.nr_wire.specs.Segment.Segment.{Untagged}
use Rattle.nr_regions.specs.declared.right.Right.TheVariants.{Sink}
use Rattle.nr_regions.specs.RegisteredMemory.{RegisteredMemory, NoneIsDead, after_register}
use Rattle.nr_regions.proofs.Holding.{none_dead_register}
use Rattle.nr_header.specs.declared.header.ReadSegment.{ReadSegment}
use Rattle.nr_header.specs.declared.header.ChunkLists.{ChunkLists}
use Rattle.nr_link.specs.Frames.{Frame, is_hello}
use Rattle.nr_link.specs.Input.{InputState}
use Rattle.nr_link.specs.ReceiveState.{ReceiveState, begun_bytes, received_after}
use Rattle.nr_link.specs.SegmentFaults.{ExpectedResponse, is_begun}
use Rattle.nr_link.specs.Ending.{segment_taken, frame_segment}
use Rattle.nr_endpoint.specs.LinkState.{LinkState}
use Rattle.nr_endpoint.specs.SegmentEnds.{SendIsFine}
use Rattle.nr_endpoint.specs.Judging.{segment_end, next_frame, with_frame}
use Rattle.nr_endpoint.proofs.Alive.{alive_send}
use Rattle.nr_reduce.specs.declared.mark.LinkParameters.{LinkParameters}
use Rattle.nr_reduce.specs.Chunks.{total_at}
use Rattle.nr_reduce.specs.OfferedRegions.{Region, regions_closed}
use Rattle.nr_reduce.specs.OfferedMemory.{AreReceived}
use Rattle.nr_reduce.specs.StandingLaws.{StagsFrom}
use Rattle.nr_reduce.specs.Events.RunEvent.{FrameReceived}
use Rattle.nr_reduce.specs.EndRules.{EndState, live, next_end_state}
use Rattle.nr_reduce.specs.ServerState.{PendingCall, PendingRead, ReadyCall, ServerState, next_stag, is_pending}
use Rattle.nr_reduce.specs.ServerReads.{chunks_of, is_over, is_read, is_read_at, open_reads, reads_from, reads_of, regions_from, regions_of, sink_of, stag_by}
use Rattle.nr_reduce.specs.ServerMessages.{Verdict, by_payload, pending_payload, verdict}
use Rattle.nr_reduce.specs.ServerMessages.Verdict.{MakesPending}
use Rattle.nr_reduce.specs.ServerFrames.{FrameEffect, by_message, frame_effect, message_effect, with_verdict}
use Rattle.nr_reduce.specs.Server.{server_rules, with_effect, received_by, response_bytes_after, requests_from, tagged_accesses}
use Rattle.nr_reduce.proofs.MemorySteps.{offered_later, received_later}
use Rattle.nr_responder.specs.Fetching.{SinkRegion, open_if, open_sinks, sink_of_region}
use Rattle.nr_responder.specs.ResponderState.{ResponderSide, queued_bytes, unsent}
use Rattle.nr_responder.specs.Keeping.{IsReadyOf, IsServer, Keeps, KeepsEnd, LinkKeeps, later_responses, open_responses}
use Rattle.nr_responder.specs.private.Reading.{opening, with_requests}
use Rattle.nr_responder.specs.private.CallsRead.{reading_call, registered}
use Rattle.nr_responder.specs.private.Handling.{on_link}
use Rattle.nr_responder.proofs.Frames.{behind, TakesFrame, later_frame}
use Rattle.nr_responder.proofs.PendingReads.{AreOf, over_unread, ready_before, reads_own, same_read, some_read}
use Rattle.nr_responder.proofs.ReadEffects.{later_append, open_zero, requested_has, requested_queue, requests_ends}
use Rattle.nr_responder.proofs.SendFrames.{calls_later, calls_pushed, frame_lives, framed, last_more, numbers_pushed, payloads_pushed, reads_later, regions_later, send_framed, still_ready, told_keeps, xids_pushed}
use Rattle.nr_responder.proofs.ServerSteps.{closed_if_over, closed_same, effect_is}
use Rattle.nr_responder.proofs.SinkRegistrations.{AreRegistered, all_registered, sinks_begin, sinks_numbered}
use Rattle.nr_responder.proofs.Whole.{begun_behind, goes_on_lem, lives_on_lem, same_message, told_framed, told_link, whole_message}

-- ---- The regions of the call

abbrev pub is_of : (number position : ℕ) → Region → Bool
is_of number position r = eqb r.call number && eqb r.position position

-- the STag of a sink, whatever offset the Send has in the stream
find_alike : (number position n place stag : ℕ) (lists : ChunkLists) (ps : List ℕ) →
    stag_by (find (is_of number position) (regions_from n place stag lists ps)) ≡ stag_by (find (is_of number position) (regions_from n 0 stag lists ps))
find_alike number position n place stag lists [] = refl
find_alike number position n place stag lists (p ∷ ps) = by (find_alike number position n place (stag + 1) lists ps) (eqb n number && eqb p position)
  where
    first : ℕ → Region
    first at = record { call = n; position = p; stag = stag; right = Sink; bytes = replicate (total_at p lists.read) 0; from = at; until = None }

    by : stag_by (find (is_of number position) (regions_from n place (stag + 1) lists ps)) ≡ stag_by (find (is_of number position) (regions_from n 0 (stag + 1) lists ps)) → (b : Bool) →
        stag_by (cond b (Some (first place)) (find (is_of number position) (regions_from n place (stag + 1) lists ps))) ≡ stag_by (cond b (Some (first 0)) (find (is_of number position) (regions_from n 0 (stag + 1) lists ps)))
    by rest true = refl
    by rest false = rest

-- no older region is one of the call
pub skip_old : (n number position : ℕ) (old new : List Region) → AllByRecursion (λ r. r.call ≤ n) old → number ≡ n + 1 → find (is_of number position) (old ++ new) ≡ find (is_of number position) new
skip_old n number position [] new h is = refl
skip_old n number position (r ∷ old) new h is =
    ap (λ (b : Bool). cond (b && eqb r.position position) (Some r) (find (is_of number position) (old ++ new))) (ne_eqb r.call number (λ e. (let le : r.call ≤ n = h.0 in omega (arith, le, e, is))))
    ∙ skip_old n number position old new h.1 is

sink_same : (n number position place stag : ℕ) (old : List Region) (lists : ChunkLists) (ps : List ℕ) → AllByRecursion (λ r. r.call ≤ n) old → number ≡ n + 1 →
    sink_of (old ++ regions_from number place stag lists ps) number position ≡ sink_of (regions_from number 0 stag lists ps) number position
sink_same n number position place stag old lists ps h is =
    ap stag_by (skip_old n number position old (regions_from number place stag lists ps) h is) ∙ find_alike number position number place stag lists ps

reads_same : (a b : List Region) (n : ℕ) → ((p : ℕ) → sink_of a n p ≡ sink_of b n p) → (before read : List ReadSegment) → reads_from a n before read ≡ reads_from b n before read
reads_same a b n same before [] = refl
reads_same a b n same before (r ∷ read) = λ i. cond (eqb r.length 0) [] (record {
  number = n;
  position = r.position;
  sink = same r.position i;
  at = total_at r.position before;
  size = r.length;
  stag = r.handle;
  to = r.offset;
} ∷ []) ++ reads_same a b n same (before ++ r ∷ []) read i

open_append : (xs ys : List Region) → open_sinks (xs ++ ys) ≡ open_sinks xs ++ open_sinks ys
open_append [] ys = refl
open_append (r ∷ xs) ys = by r.until (open_append xs ys)
  where
    by : (u : Option ℕ) → open_sinks (xs ++ ys) ≡ open_sinks xs ++ open_sinks ys → open_if u (sink_of_region r) (open_sinks (xs ++ ys)) ≡ open_if u (sink_of_region r) (open_sinks xs) ++ open_sinks ys
    by None rest = ap (λ (s : List SinkRegion). sink_of_region r ∷ s) rest
    by (Some until) rest = rest

open_alike : (n place stag : ℕ) (lists : ChunkLists) (ps : List ℕ) → open_sinks (regions_from n place stag lists ps) ≡ open_sinks (regions_from n 0 stag lists ps)
open_alike n place stag lists [] = refl
open_alike n place stag lists (p ∷ ps) =
    let zeros : List ℕ = replicate (total_at p lists.read) 0 in
    ap (λ (s : List SinkRegion). record { number = n; position = p; stag = stag; len = length zeros } ∷ s) (open_alike n place (stag + 1) lists ps)

registered_alike : (n place stag : ℕ) (lists : ChunkLists) (ps : List ℕ) (m : RegisteredMemory) → registered (regions_from n place stag lists ps) m ≡ registered (regions_from n 0 stag lists ps) m
registered_alike n place stag lists [] m = refl
registered_alike n place stag lists (p ∷ ps) m = registered_alike n place (stag + 1) lists ps (after_register m Sink (replicate (total_at p lists.read) 0))

all_append : {X : Type 0} (P : X → Type 0) (xs ys : List X) → AllByRecursion P xs → AllByRecursion P ys → AllByRecursion P (xs ++ ys)
all_append P [] ys h more = more
all_append P (x ∷ xs) ys h more = (h.0, all_append P xs ys h.1 more)

new_right : (n place stag : ℕ) (lists : ChunkLists) (ps : List ℕ) → AllByRecursion (λ r. r.right ≡ Sink) (regions_from n place stag lists ps)
new_right n place stag lists [] = tt
new_right n place stag lists (p ∷ ps) = (refl, new_right n place (stag + 1) lists ps)

new_call : (n m place stag : ℕ) (lists : ChunkLists) (ps : List ℕ) → n ≤ m → AllByRecursion (λ r. r.call ≤ m) (regions_from n place stag lists ps)
new_call n m place stag lists [] le = tt
new_call n m place stag lists (p ∷ ps) le = (le, new_call n m place (stag + 1) lists ps le)

-- ---- Something is read for it

chunk_there : (f : ℕ → Bool) (ps : List ℕ) → filter f ps ≢ [] → (p : ℕ) × (f p ≡ true)
chunk_there f [] some = absurd (some refl)
chunk_there f (p ∷ ps) some = by (chunk_there f ps) (f p) refl some
  where
    by : (filter f ps ≢ [] → (p : ℕ) × (f p ≡ true)) → (b : Bool) → f p ≡ b → cond b (p ∷ filter f ps) (filter f ps) ≢ [] → (p : ℕ) × (f p ≡ true)
    by rest true is some = (p, is)
    by rest false is some = rest some

any_front : (p : PendingRead → Bool) (xs ys : List PendingRead) → list_any p ys ≡ true → list_any p (xs ++ ys) ≡ true
any_front p [] ys e = e
any_front p (x ∷ xs) ys e = by (p x) (any_front p xs ys e)
  where
    by : (b : Bool) → list_any p (xs ++ ys) ≡ true → (b || list_any p (xs ++ ys)) ≡ true
    by true rest = refl
    by false rest = rest

not_zero_total : (n : ℕ) → not (eqb n 0) ≡ true → n ≢ 0
not_zero_total n is e = (let two : not (eqb n 0) ≡ false = ap (λ (b : Bool). not b) (eq-eqb n 0 e) in absurd (let both : true ≡ false = sym is ∙ two in cc))

still_read : (regions : List Region) (c : PendingCall) (reads : List PendingRead) → chunks_of c.lists ≢ [] → is_read (reads ++ reads_of regions c) c.number ≡ false
still_read regions c reads some =
    let p = chunk_there (λ p. not (eqb (total_at p c.lists.read) 0)) _ some in
    ap (λ (b : Bool). not b) (any_front (λ r. eqb r.number c.number) reads (reads_of regions c) (some_read regions c.number p.0 [] c.lists.read (not_zero_total (total_at p.0 c.lists.read) p.1)))

-- ---- Which regions are closed

old_closed : (n : ℕ) (calls : List PendingCall) (c : PendingCall) (reads new : List PendingRead) (regions : List Region) → c.number ≡ n + 1 → AreOf c.number new → AllByRecursion (λ r. r.call ≤ n) regions →
    AllByRecursion (λ r. is_some r.until ≡ is_over calls reads r) regions → AllByRecursion (λ r. is_some r.until ≡ is_over (calls ++ c ∷ []) (reads ++ new) r) regions
old_closed n calls c reads new [] is own before h = tt
old_closed n calls c reads new (g ∷ regions) is own before h =
    (h.0 ∙ sym (over_unread calls c reads new g (λ e. (let le : g.call ≤ n = before.0 in omega (arith, le, e, is))) own), old_closed n calls c reads new regions is own before.1 h.1)

new_open : (calls : List PendingCall) (c : PendingCall) (reads : List PendingRead) (g : Region) → g.call ≡ c.number → is_read reads c.number ≡ false → is_over (calls ++ c ∷ []) reads g ≡ false
new_open calls c reads g same more =
    ap (λ (b : Bool). cond b (is_read reads g.call) (is_read_at reads g.call g.position)) (last_more (λ (x : PendingCall). eqb x.number g.call) calls c (eq-eqb c.number g.call (sym same)))
    ∙ ap (is_read reads) same
    ∙ more

new_closed : (calls : List PendingCall) (c : PendingCall) (reads : List PendingRead) (place stag : ℕ) (lists : ChunkLists) (ps : List ℕ) → is_read reads c.number ≡ false →
    AllByRecursion (λ r. is_some r.until ≡ is_over (calls ++ c ∷ []) reads r) (regions_from c.number place stag lists ps)
new_closed calls c reads place stag lists [] more = tt
new_closed calls c reads place stag lists (p ∷ ps) more = (
  sym (new_open calls c reads (record { call = c.number; position = p; stag = stag; right = Sink; bytes = replicate (total_at p lists.read) 0; from = place; until = None }) refl more),
  new_closed calls c reads place (stag + 1) lists ps more,
)

-- ---- The server after it

abbrev new_regions : ServerState → ℕ → PendingCall → List Region
new_regions k place c = regions_of k place c

abbrev new_reads : ServerState → ℕ → PendingCall → List PendingRead
new_reads k place c = reads_of (k.regions ++ regions_of k place c) c

abbrev opens : ServerState → ℕ → PendingCall → List PendingRead
opens k place c = opening (length (open_reads k)) (k.reads ++ new_reads k place c)

abbrev reading_effect : ServerState → ℕ → PendingCall → FrameEffect
reading_effect k place c = record {
  calls = k.calls ++ c ∷ [];
  reads = k.reads ++ new_reads k place c;
  regions = k.regions ++ new_regions k place c;
  ready = [];
  errors = [];
  kept = length (open_reads k);
  refusal = None;
}

reading_message : (k : ServerState) (place : ℕ) (message : List ℕ) (c : PendingCall) → verdict k message ≡ MakesPending c → is_read (k.reads ++ new_reads k place c) c.number ≡ false → by_message k place (Some message) ≡ reading_effect k place c
reading_message k place message c is more =
    ap (λ (v : Verdict). message_effect k place message v) is
    ∙ ap (λ (b : Bool). cond b (with_verdict (by_payload c (pending_payload k place c)) (reading_effect k place c)) (reading_effect k place c)) more

abbrev with_reading : ServerState → ReceiveState → ℕ → PendingCall → ServerState
with_reading k h place c = record k {
  received = h;
  calls = k.calls ++ c ∷ [];
  reads = k.reads ++ new_reads k place c;
  requests_sent = k.requests_sent + length (opens k place c);
  regions = k.regions ++ new_regions k place c;
  due = k.due + length (requests_from (k.requests_sent + 1) (opens k place c));
}

reading_state : (k : ServerState) (f : Frame) (last : Bool) (opcode w queue msn offset : ℕ) (payload : List ℕ) (c : PendingCall) → frame_segment f ≡ Ok (Untagged last opcode w queue msn offset payload) →
    AllByRecursion (λ r. is_over (k.calls ++ c ∷ []) (k.reads ++ new_reads k f.end c) r ≡ true → is_some r.until ≡ true) (k.regions ++ new_regions k f.end c) →
    with_effect k f (reading_effect k f.end c) ≡ with_reading k (received_after k.received (Untagged last opcode w queue msn offset payload)) f.end c
reading_state k f last opcode w queue msn offset payload c is closed =
    let regions : regions_closed (is_over (k.calls ++ c ∷ []) (k.reads ++ new_reads k f.end c)) f.end (k.regions ++ new_regions k f.end c) ≡ k.regions ++ new_regions k f.end c =
    closed_same (is_over (k.calls ++ c ∷ []) (k.reads ++ new_reads k f.end c)) f.end (k.regions ++ new_regions k f.end c) closed in
    (λ i. record {
      received = received_by k.received (is i);
      calls = k.calls ++ c ∷ [];
      reads = k.reads ++ new_reads k f.end c;
      response_bytes = response_bytes_after k (is i);
      requests_sent = k.requests_sent + length (opens k f.end c);
      regions = regions i;
      accesses_received = k.accesses_received ++ tagged_accesses f (is i);
      messages_queued = k.messages_queued + 0;
      due = k.due + length (requests_from (k.requests_sent + 1) (opens k f.end c));
      written = k.written;
      message_ends = append-nil k.message_ends i;
      ready = append-nil k.ready i;
      receives = k.receives;
      credit = k.credit;
      low = k.low;
      up_max = k.up_max;
      down_max = k.down_max;
      invalidates = k.invalidates;
    })
    ∙ (λ i. record {
      received = received_after k.received (Untagged last opcode w queue msn offset payload);
      calls = k.calls ++ c ∷ [];
      reads = k.reads ++ new_reads k f.end c;
      response_bytes = k.response_bytes;
      requests_sent = k.requests_sent + length (opens k f.end c);
      regions = k.regions ++ new_regions k f.end c;
      accesses_received = append-nil k.accesses_received i;
      messages_queued = (let e : k.messages_queued + 0 ≡ k.messages_queued = omega arith in e) i;
      due = k.due + length (requests_from (k.requests_sent + 1) (opens k f.end c));
      written = k.written;
      message_ends = k.message_ends;
      ready = k.ready;
      receives = k.receives;
      credit = k.credit;
      low = k.low;
      up_max = k.up_max;
      down_max = k.down_max;
      invalidates = k.invalidates;
    })

-- ---- The side of the link after it

front_more : (m : ℕ) (xs ys : List PendingRead) → take m xs ++ drop (length (take m xs)) (take m (xs ++ ys)) ≡ take m (xs ++ ys)
front_more zero xs ys = refl
front_more (suc m) [] ys = refl
front_more (suc m) (x ∷ xs) ys = ap (λ (rs : List PendingRead). x ∷ rs) (front_more m xs ys)

opened_more : (received : ℕ) (reads new : List PendingRead) → (reads ≡ [] → received ≡ 0) →
    open_responses received (take 8 reads) ++ later_responses (opening (length (take 8 reads)) (reads ++ new)) ≡ open_responses received (take 8 (reads ++ new))
opened_more received [] new idle = sym (open_zero (take 8 new)) ∙ ap (λ (n : ℕ). open_responses n (take 8 new)) (sym (idle refl))
opened_more received (x ∷ reads) new idle =
    ap (λ (rs : List ExpectedResponse). record { sink = x.sink; at = x.at + received; left = x.size - received } ∷ rs)
    (sym (later_append (take 7 reads) (drop (length (take 7 reads)) (take 7 (reads ++ new)))) ∙ ap later_responses (front_more 7 reads new))

abbrev reading_side : LinkState → List PendingRead → RegisteredMemory → LinkState
reading_side t reads m = record t { send_queue = with_requests reads t.send_queue; reads = t.reads ++ later_responses reads; memory = m }

abbrev taken_received : ServerState → ReceiveState
taken_received k = record { sends = k.received.sends + 1; begun = None; requests = k.received.requests }

abbrev pub taken_side : LinkState → List ℕ → LinkState
taken_side s frame = send_framed s frame (record { sends = s.receive_queue.received.sends + 1; begun = None; requests = s.receive_queue.received.requests }) (cond (not (is_begun s.receive_queue.received.begun)) (s.receive_queue.free - 1) s.receive_queue.free) (s.receive_queue.lent + 1) []

none_dead_registered : (regions : List Region) (m : RegisteredMemory) → NoneIsDead m → NoneIsDead (registered regions m)
none_dead_registered [] m h = h
none_dead_registered (r ∷ regions) m h = none_dead_registered regions (after_register m r.right r.bytes) (none_dead_register m r.right r.bytes h)

are_registered : (opened : LinkParameters) (k : ServerState) (s : LinkState) (frame : List ℕ) (c : PendingCall) → LinkKeeps opened k s → IsServer k s.place → (is_begun s.receive_queue.received.begun ≡ false → 0 < s.receive_queue.free) →
    AreRegistered (k.regions ++ new_regions k (s.place + length frame) c) k.accesses_received (s.place + length frame) (registered (new_regions k (s.place + length frame) c) s.memory)
are_registered opened k s frame c h is some =
    let place : ℕ = s.place + length frame in
    let told_h = told_keeps opened k s frame c [] h is some in
    let received : AreReceived place k.accesses_received = received_later s.place place k.accesses_received (omega arith) is.accesses in
    all_registered place k.accesses_received (new_regions k place c) k.regions s.memory received
    (subst (λ (n : ℕ). StagsFrom n (new_regions k place c)) (sym h.next) (sinks_numbered c.number place (next_stag k) c.lists (chunks_of c.lists))) (sinks_begin c.number place (next_stag k) c.lists (chunks_of c.lists))
    (record { holds = told_h.memory; offered = offered_later s.place place k.regions (omega arith) is.offered; numbered = is.numbered; next = h.next })

reading_keeps : (opened : LinkParameters) (k : ServerState) (s : LinkState) (frame : List ℕ) (c : PendingCall) → LinkKeeps opened k s → IsServer k s.place → (is_begun s.receive_queue.received.begun ≡ false → 0 < s.receive_queue.free) →
    LinkKeeps opened (with_reading k (taken_received k) (s.place + length frame) c) (reading_side (taken_side s frame) (opens k (s.place + length frame) c) (registered (new_regions k (s.place + length frame) c) s.memory))
reading_keeps opened k s frame c h is some =
    let place : ℕ = s.place + length frame in
    let reads : List PendingRead = opens k place c in
    let told_h = told_keeps opened k s frame c [] h is some in
    let r = are_registered opened k s frame c h is some in
    let count : length (with_requests reads s.send_queue).send_ends ≡ unsent s = ap (λ (xs : List ℕ). length xs) (requests_ends reads s.send_queue) in
    record {
      live = told_h.live;
      side = told_h.side;
      received = told_h.received;
      receive_length = told_h.receive_length;
      message_max = told_h.message_max;
      fits = told_h.fits;
      terms = told_h.terms;
      up = told_h.up;
      down = told_h.down;
      invalidates = told_h.invalidates;
      free = (let all = told_h.free in omega (arith, all, count));
      lent = (let all = told_h.lent in omega (arith, all, count));
      told = refl;
      reads = ap (λ (rs : List ExpectedResponse). rs ++ later_responses reads) h.reads ∙ opened_more k.response_bytes k.reads (new_reads k place c) is.idle;
      memory = r.holds;
      none_dead = none_dead_registered (new_regions k place c) s.memory h.none_dead;
      next = r.next;
      queue = requested_has k.written k.due k.messages_queued k.requests_sent k.message_ends reads s.send_queue h.queue;
    }

-- ---- What holds of the server then

ready_of_more : (n : ℕ) (calls : List PendingCall) (c : PendingCall) (reads new : List PendingRead) (ready : List ReadyCall) → c.number ≡ n + 1 → AreOf c.number new → AllByRecursion (λ x. x.number ≤ n) calls → list_any (λ d. eqb d.xid c.xid) calls ≡ false →
    AllByRecursion (IsReadyOf calls reads) ready → AllByRecursion (IsReadyOf (calls ++ c ∷ []) reads) ready → AllByRecursion (IsReadyOf (calls ++ c ∷ []) (reads ++ new)) ready
ready_of_more n calls c reads new [] is own before none known h = tt
ready_of_more n calls c reads new (r ∷ ready) is own before none known h =
    let le : r.number ≤ n = ready_before n calls r.xid r.number known.0.pending known.0.own before in (
      record { pending = h.0.pending; own = h.0.own; read = same_read c.number r.number reads new (λ e. omega (arith, le, e, is)) own ∙ h.0.read },
      ready_of_more n calls c reads new ready is own before none known.1 h.1,
    )

read_numbers : (n m : ℕ) (reads : List PendingRead) → n ≤ m → AreOf n reads → AllByRecursion (λ r. r.number ≤ m) reads
read_numbers n m [] le h = tt
read_numbers n m (r ∷ reads) le h = ((let e : r.number ≡ n = h.0 in omega (arith, e, le)), read_numbers n m reads le h.1)

not_nil : (reads new : List PendingRead) (n : ℕ) → is_read (reads ++ new) n ≡ false → reads ++ new ≢ []
not_nil reads new n more none = (let two : true ≡ false = ap (λ (rs : List PendingRead). is_read rs n) (sym none) ∙ more in absurd cc)

reading_server : (opened : LinkParameters) (k : ServerState) (s : LinkState) (frame : List ℕ) (c : PendingCall) → LinkKeeps opened k s → IsServer k s.place → (is_begun s.receive_queue.received.begun ≡ false → 0 < s.receive_queue.free) →
    c.number ≡ k.received.sends + 1 → is_pending k c.xid ≡ false → is_read (k.reads ++ new_reads k (s.place + length frame) c) c.number ≡ false → IsServer (with_reading k (taken_received k) (s.place + length frame) c) (s.place + length frame)
reading_server opened k s frame c h is some own none more =
    let n : ℕ = k.received.sends in
    let place : ℕ = s.place + length frame in
    let new : List PendingRead = new_reads k place c in
    let r = are_registered opened k s frame c h is some in
    let of_call : AreOf c.number new = reads_own (k.regions ++ new_regions k place c) c.number [] c.lists.read in
    record {
      offered = r.offered;
      accesses = received_later s.place place k.accesses_received (omega arith) is.accesses;
      numbered = r.numbered;
      sinks = all_append (λ r. r.right ≡ Sink) k.regions (new_regions k place c) is.sinks (new_right c.number place (next_stag k) c.lists (chunks_of c.lists));
      calls_before = calls_pushed (n + 1) k.calls c (omega (arith, own)) (calls_later n (n + 1) k.calls (omega arith) is.calls_before);
      reads_before = all_append (λ r. r.number ≤ n + 1) k.reads new (reads_later n (n + 1) k.reads (omega arith) is.reads_before) (read_numbers c.number (n + 1) new (omega (arith, own)) of_call);
      regions_before = all_append (λ r. r.call ≤ n + 1) k.regions (new_regions k place c) (regions_later n (n + 1) k.regions (omega arith) is.regions_before) (new_call c.number (n + 1) place (next_stag k) c.lists (chunks_of c.lists) (omega (arith, own)));
      closed = all_append (λ r. is_some r.until ≡ is_over (k.calls ++ c ∷ []) (k.reads ++ new) r) k.regions (new_regions k place c) (old_closed n k.calls c k.reads new k.regions own of_call is.regions_before is.closed)
          (new_closed k.calls c (k.reads ++ new) place (next_stag k) c.lists (chunks_of c.lists) more);
      numbers = numbers_pushed n k.calls c own is.calls_before is.numbers;
      xids = xids_pushed k.calls c none is.xids;
      ready_xids = is.ready_xids;
      ready = ready_of_more n k.calls c k.reads new k.ready own of_call is.calls_before none is.ready (still_ready k.calls k.reads c k.ready none is.ready);
      idle = λ nothing. absurd (not_nil k.reads new c.number more nothing);
      up = is.up;
      down = is.down;
    }

-- ---- The frame

-- the responder with these reads and sinks more
abbrev reading_value : ResponderSide → LinkState → List PendingCall → PendingCall → (reads new : List PendingRead) → (sinks more : List SinkRegion) → RegisteredMemory → ResponderSide
reading_value v t calls c reads new sinks more m = record {
  link = record { awaited = Fpdu; rest = []; state = reading_side t (opening (length (take 8 reads)) (reads ++ new)) m };
  calls = calls ++ c ∷ [];
  ready = v.ready;
  credits = v.credits;
  fetching = record { reads = reads ++ new; sinks = sinks ++ more; payloads = v.fetching.payloads };
}

pub reading_takes : (opened : LinkParameters) (k : ServerState) (input : InputState) (v : ResponderSide) (frame : List ℕ) (w queue_number msn offset : ℕ) (payload : List ℕ) (c : PendingCall) → Keeps opened k input v → 0 < v.link.state.place → 0 < length frame →
    segment_taken false frame ≡ Ok (Untagged true OPCODE_SEND w queue_number msn offset payload) → (with_frame v.link.state Fpdu frame).ended ≡ None →
    c.number ≡ k.received.sends + 1 → is_pending k c.xid ≡ false → verdict k (whole_message v.link.state payload) ≡ MakesPending c → chunks_of c.lists ≢ [] →
    TakesFrame opened k (behind input frame) (next_frame v.link.state frame) v (reading_call (on_link v (record { awaited = Fpdu; rest = []; state = told_link v.link.state frame })) c)
unfolding frame_segment
reading_takes opened k input v frame w queue_number msn offset payload c h behind_hello some is lives own none judged chunks =
    let s : LinkState = v.link.state in
    let f : Frame = next_frame s frame in
    let place : ℕ = s.place + length frame in
    let segment : Segment = Untagged true OPCODE_SEND w queue_number msn offset payload in
    let k' : ServerState = with_reading k (taken_received k) place c in
    let new : List PendingRead = new_reads k place c in
    let regions : List Region = new_regions k place c in
    let both : (segment_end s f segment ≡ None) × (with_frame s Fpdu frame ≡ framed s frame segment) = frame_lives s frame segment h.link.side is lives in
    let fine : SendIsFine s true payload = (alive_send s f true OPCODE_SEND w queue_number msn offset payload refl refl (λ e. omega (arith, e)) both.0).1 in
    let later : is_hello f ≡ false = later_frame s.place behind_hello in
    let more : is_read (k.reads ++ new) c.number ≡ false = still_read (k.regions ++ regions) c k.reads chunks in
    let message : verdict k (begun_bytes k.received.begun ++ payload) ≡ MakesPending c = ap (verdict k) (sym (same_message opened k s payload h.link (fine.fits refl))) ∙ judged in
    let effect : frame_effect k f ≡ reading_effect k place c =
    effect_is k f true OPCODE_SEND w queue_number msn offset payload is ∙ reading_message k place (begun_bytes k.received.begun ++ payload) c message more in
    let at = goes_on_lem opened k f (reading_effect k place c) later (lives_on_lem opened k input v frame h behind_hello some lives) effect refl in
    let server : IsServer k' place = reading_server opened k s frame c h.link h.server fine.receive own none more in
    let state : with_effect k f (reading_effect k place c) ≡ k' = reading_state k f true OPCODE_SEND w queue_number msn offset payload c is (closed_if_over (is_over (k.calls ++ c ∷ []) (k.reads ++ new)) (k.regions ++ regions) server.closed) in
    let next : next_end_state (server_rules opened) (live k) (FrameReceived f) ≡ live k' = at.next ∙ ap (λ (t : ServerState). live t) state in
    let after : LinkState = taken_side s frame in
    let link : told_link s frame ≡ after = told_framed opened k s frame w queue_number msn offset payload h.link both.1 in
    let value : ResponderSide = reading_value v after k.calls c k.reads new (open_sinks k.regions) (open_sinks regions) (registered regions s.memory) in
    let keeps : Keeps opened k' (behind input frame) value =
    record {
      link = reading_keeps opened k s frame c h.link h.server fine.receive;
      input = record { awaited = refl; rest = refl; place = ap (λ (n : ℕ). n + length frame) h.input.place };
      begins = begun_behind v.link (reading_side after (opens k place c) (registered regions s.memory)) h.begins behind_hello refl (omega arith);
      server = server;
      calls = refl;
      ready = h.ready;
      credits = h.credits;
      reads = refl;
      sinks = sym (open_append k.regions regions);
      payloads = payloads_pushed k.calls k.reads c k.ready v.fetching.payloads none h.server.ready h.payloads;
      quiet = λ e. absurd (omega (arith, e, behind_hello));
    } in
    let given : ResponderSide = reading_call (on_link v (record { awaited = Fpdu; rest = []; state = told_link s frame })) c in
    let plain : ℕ → List Region = λ stag. regions_from c.number 0 stag c.lists (chunks_of c.lists) in
    let old : AllByRecursion (λ r. r.call ≤ k.received.sends) k.regions = h.server.regions_before in
    let reads_are : reads_from (plain s.memory.next) c.number [] c.lists.read ≡ new =
    ap (λ (stag : ℕ). reads_from (plain stag) c.number [] c.lists.read) h.link.next
    ∙ sym (reads_same (k.regions ++ regions) (plain (next_stag k)) c.number (λ p. sink_same k.received.sends c.number p place (next_stag k) k.regions c.lists (chunks_of c.lists) old own) [] c.lists.read) in
    let sinks_are : open_sinks (plain s.memory.next) ≡ open_sinks regions =
    ap (λ (stag : ℕ). open_sinks (plain stag)) h.link.next ∙ sym (open_alike c.number place (next_stag k) c.lists (chunks_of c.lists)) in
    let memory_is : registered (plain s.memory.next) s.memory ≡ registered regions s.memory =
    ap (λ (stag : ℕ). registered (plain stag) s.memory) h.link.next ∙ sym (registered_alike c.number place (next_stag k) c.lists (chunks_of c.lists) s.memory) in
    let same : given ≡ value =
    ap (λ (t : LinkState). reading_call (on_link v (record { awaited = Fpdu; rest = []; state = t })) c) link
    ∙ (λ i. reading_value v after (h.calls i) c (h.reads i) (reads_are i) (h.sinks i) (sinks_are i) (memory_is i)) in
    record {
      keeps = subst (λ (e : EndState ServerState). KeepsEnd opened e (behind input frame) given) (sym next) (inl (refl, subst (λ (x : ResponderSide). Keeps opened k' (behind input frame) x) (sym same) keeps));
      output =
          ap (λ (x : ResponderSide). queued_bytes x.link.state.send_queue) same
          ∙ requested_queue k.requests_sent (opens k place c) s.send_queue h.link.queue.requests_are
          ∙ ap (λ (bytes : List ℕ). queued_bytes s.send_queue ++ bytes) (sym at.due);
    }
