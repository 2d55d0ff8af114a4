-- What an untagged frame makes of the server of a run, if it doesn't end it.
use Rattle.std.proofs.Common.{◌≡◌, ℕ, ◌+◌, ◌≤◌, Bool, true, false, not, ◌||◌, eqb, cond, List, [], ◌∷◌, ◌++◌, length, take, drop, Option, Some, None, Result, Ok, refl, sym, ap, ◌∙◌, arith, is_some}
use Rattle.std.specs.List.{AllByRecursion, list_any}
use Rattle.std.proofs.lemmas.List.{append-nil, drop_all}
use Rattle.std.proofs.lemmas.Bool.{ne_eqb, eq-eqb}
use Rattle.nr_wire.specs.Segment.{Segment}
use Rattle.nr_wire.specs.Segment.Segment.{Untagged}
use Rattle.nr_header.specs.declared.header.RdmaSegment.{RdmaSegment}
use Rattle.nr_rpc.specs.declared.head.CallHead.{CallHead}
use Rattle.nr_rpc.specs.Reading.{call_of, head_xid}
use Rattle.nr_link.specs.Frames.{Frame}
use Rattle.nr_link.specs.ReceiveState.{ReceiveState, received_after, message_completed}
use Rattle.nr_link.specs.Ending.{frame_segment}
use Rattle.nr_reduce.specs.Chunks.{call_conveyed, item_position}
use Rattle.nr_reduce.specs.OfferedRegions.{Region, until_at, closed_if, regions_closed}
use Rattle.nr_reduce.specs.ServerState.{PendingCall, PendingRead, ReadyCall, ServerState}
use Rattle.nr_reduce.specs.ServerReads.{open_reads, is_read, is_read_at, is_over}
use Rattle.nr_reduce.specs.ServerMessages.{pending_payload, by_payload, by_head, Verdict, verdict}
use Rattle.nr_reduce.specs.ServerMessages.CallVerdict.{Refuses, IsReady}
use Rattle.nr_reduce.specs.ServerMessages.Verdict.{MakesPending}
use Rattle.nr_reduce.specs.ServerFrames.{FrameEffect, no_effect, with_verdict, ready_if_whole, by_message, message_effect, effect_in, frame_effect}
use Rattle.nr_responder.specs.private.Handling.{inline_call}
use Rattle.nr_reduce.specs.Server.{with_effect, received_by, response_bytes_after, tagged_accesses, effect_output, requests_from}

-- ---- Regions that are over are closed already

until_stays : (place : ℕ) (u : Option ℕ) → is_some u ≡ true → until_at place u ≡ u
until_stays place None is = absurd cc
until_stays place (Some until) is = refl

closed_one : (b : Bool) (place : ℕ) (r : Region) → (b ≡ true → is_some r.until ≡ true) → closed_if b place r ≡ r
closed_one true place r h = λ i. record r { until = until_stays place r.until (h refl) i }
closed_one false place r h = refl

pub closed_same : (test : Region → Bool) (place : ℕ) (regions : List Region) → AllByRecursion (λ r. test r ≡ true → is_some r.until ≡ true) regions → regions_closed test place regions ≡ regions
unfolding regions_closed
closed_same test place [] h = refl
closed_same test place (r ∷ regions) h = λ i. closed_one (test r) place r h.0 i ∷ closed_same test place regions h.1 i

-- ---- The state after an untagged frame

pub none_new : {X : Type 0} (n : ℕ) (xs : List X) → drop (length (take n xs)) (take n xs) ≡ []
none_new n xs = drop_all (length (take n xs)) (take n xs) (omega arith)

abbrev pub with_received : ReceiveState → ServerState → ServerState
with_received h k = record k { received = h }

pub quiet_output : (k : ServerState) → effect_output k (no_effect k) ≡ []
quiet_output k = ap (λ (reads : List PendingRead). requests_from (k.requests_sent + 1) reads) (none_new 8 k.reads)

-- a frame without effect
pub quiet : (k : ServerState) (f : Frame) (last : Bool) (opcode w queue msn offset : ℕ) (payload : List ℕ) →
    frame_segment f ≡ Ok (Untagged last opcode w queue msn offset payload) →
    AllByRecursion (λ r. is_over k.calls k.reads r ≡ true → is_some r.until ≡ true) k.regions →
    with_effect k f (no_effect k) ≡ with_received (received_after k.received (Untagged last opcode w queue msn offset payload)) k
quiet k f last opcode w queue msn offset payload is closed =
    let none : drop (length (open_reads k)) (open_reads k) ≡ [] = none_new 8 k.reads in
    let sent : k.requests_sent + length (drop (length (open_reads k)) (open_reads k)) ≡ k.requests_sent = (let e : length (drop (length (open_reads k)) (open_reads k)) ≡ 0 = ap (λ (xs : List PendingRead). length xs) none in omega (arith, e)) in
    let regions : regions_closed (is_over k.calls k.reads) f.end k.regions ≡ k.regions = closed_same (is_over k.calls k.reads) f.end k.regions closed in
    let due : k.due + length (effect_output k (no_effect k)) ≡ k.due = omega (arith, ap (λ (xs : List ℕ). length xs) (quiet_output k)) in
    (λ i. record {
      received = received_by k.received (is i);
      calls = k.calls;
      reads = k.reads;
      response_bytes = response_bytes_after k (is i);
      requests_sent = sent i;
      regions = regions i;
      accesses_received = k.accesses_received ++ tagged_accesses f (is i);
      messages_queued = k.messages_queued + 0;
      due = due i;
      written = k.written;
      message_ends = append-nil k.message_ends i;
      ready = append-nil k.ready i;
      receives = k.receives;
      credit = k.credit;
      low = k.low;
      up_max = k.up_max;
      down_max = k.down_max;
      invalidates = k.invalidates;
    })
    ∙ (λ i. record {
      received = received_after k.received (Untagged last opcode w queue msn offset payload);
      calls = k.calls;
      reads = k.reads;
      response_bytes = k.response_bytes;
      requests_sent = k.requests_sent;
      regions = k.regions;
      accesses_received = append-nil k.accesses_received i;
      messages_queued = (let e : k.messages_queued + 0 ≡ k.messages_queued = omega arith in e) i;
      due = k.due;
      written = k.written;
      message_ends = k.message_ends;
      ready = k.ready;
      receives = k.receives;
      credit = k.credit;
      low = k.low;
      up_max = k.up_max;
      down_max = k.down_max;
      invalidates = k.invalidates;
    })

-- ---- A call without a read chunk

abbrev pub ready_call : PendingCall → List ℕ → ReadyCall
ready_call c payload = record { number = c.number; xid = c.xid; payload = payload }

other_number : (n m : ℕ) → m ≤ n → eqb m (n + 1) ≡ false
other_number n m le = ne_eqb m (n + 1) (λ e. omega (arith, e))

pub none_of_number : (n : ℕ) (reads : List PendingRead) → AllByRecursion (λ r. r.number ≤ n) reads → list_any (λ r. eqb r.number (n + 1)) reads ≡ false
none_of_number n [] h = refl
none_of_number n (r ∷ reads) h =
    ap (λ (b : Bool). b || list_any (λ (x : PendingRead). eqb x.number (n + 1)) reads) (other_number n r.number h.0) ∙ none_of_number n reads h.1

-- nothing is read for a Send that comes now
pub new_is_read : (k : ServerState) → AllByRecursion (λ r. r.number ≤ k.received.sends) k.reads → is_read k.reads (k.received.sends + 1) ≡ true
new_is_read k before = ap (λ (b : Bool). not b) (none_of_number k.received.sends k.reads before)

inline_payload : (k : ServerState) (place xid : ℕ) (write : List (List RdmaSegment)) (reply : Option (List RdmaSegment)) (stream : List ℕ) →
    pending_payload k place (inline_call k xid write reply stream) ≡ Some stream
unfolding pending_payload call_conveyed item_position
inline_payload k place xid write reply stream = refl

-- what such a call makes of a server
abbrev pub inline_effect : ServerState → PendingCall → List ℕ → FrameEffect
inline_effect k c stream = record {
  calls = k.calls ++ c ∷ [];
  reads = k.reads;
  regions = k.regions;
  ready = ready_call c stream ∷ [];
  errors = [];
  kept = length (open_reads k);
  refusal = None;
}

by_verdict_lem : (c : PendingCall) (stream : List ℕ) (head : CallHead) (s : FrameEffect) → call_of stream ≡ Ok head → head_xid head ≡ c.xid →
    with_verdict (by_payload c (Some stream)) s ≡ record s { ready = ready_call c stream ∷ [] }
by_verdict_lem c stream head s is xid =
    (λ i. with_verdict (by_head c stream (is i)) s)
    ∙ ap (λ (b : Bool). with_verdict (cond b (IsReady (ready_call c stream)) (Refuses 19)) s) (eq-eqb (head_xid head) c.xid xid)

-- a call more, before it is judged
abbrev pub pending_effect : ServerState → PendingCall → FrameEffect
pending_effect k c = record { calls = k.calls ++ c ∷ []; reads = k.reads; regions = k.regions; ready = []; errors = []; kept = length (open_reads k); refusal = None }

pub inline_message_lem : (k : ServerState) (place : ℕ) (message : List ℕ) (xid : ℕ) (write : List (List RdmaSegment)) (reply : Option (List RdmaSegment)) (stream : List ℕ) →
    is_read k.reads (k.received.sends + 1) ≡ true → verdict k message ≡ MakesPending (inline_call k xid write reply stream) →
    by_message k place (Some message) ≡ with_verdict (by_payload (inline_call k xid write reply stream) (Some stream)) (pending_effect k (inline_call k xid write reply stream))
inline_message_lem k place message xid write reply stream whole is =
    let c : PendingCall = inline_call k xid write reply stream in
    let pending : FrameEffect = record { calls = k.calls ++ c ∷ []; reads = k.reads ++ []; regions = k.regions ++ []; ready = []; errors = []; kept = length (open_reads k); refusal = None } in
    let plain : FrameEffect = pending_effect k c in
    let same : pending ≡ plain = λ i. record { calls = k.calls ++ c ∷ []; reads = append-nil k.reads i; regions = append-nil k.regions i; ready = []; errors = []; kept = length (open_reads k); refusal = None } in
    ap (λ (v : Verdict). message_effect k place message v) is
    ∙ ap (λ (s : FrameEffect). ready_if_whole k place c s) same
    ∙ ap (λ (b : Bool). cond b (with_verdict (by_payload c (pending_payload k place c)) plain) plain) whole
    ∙ ap (λ (p : Option (List ℕ)). with_verdict (by_payload c p) plain) (inline_payload k place xid write reply stream)

pub inline_ready : (k : ServerState) (f : Frame) (message : List ℕ) (xid : ℕ) (write : List (List RdmaSegment)) (reply : Option (List RdmaSegment)) (stream : List ℕ) (head : CallHead) →
    is_read k.reads (k.received.sends + 1) ≡ true → verdict k message ≡ MakesPending (inline_call k xid write reply stream) → call_of stream ≡ Ok head → head_xid head ≡ xid →
    by_message k f.end (Some message) ≡ inline_effect k (inline_call k xid write reply stream) stream
inline_ready k f message xid write reply stream head none is reads own =
    inline_message_lem k f.end message xid write reply stream none is
    ∙ by_verdict_lem (inline_call k xid write reply stream) stream head (pending_effect k (inline_call k xid write reply stream)) reads own

pub effect_is : (k : ServerState) (f : Frame) (last : Bool) (opcode w queue msn offset : ℕ) (payload : List ℕ) → frame_segment f ≡ Ok (Untagged last opcode w queue msn offset payload) →
    frame_effect k f ≡ by_message k f.end (message_completed k.received (Untagged last opcode w queue msn offset payload))
unfolding frame_effect
effect_is k f last opcode w queue msn offset payload is = ap (λ (r : Result Segment ℕ). effect_in k f r) is

-- a region of another call is over as before
over_same : (calls : List PendingCall) (c : PendingCall) (reads : List PendingRead) (r : Region) (n : ℕ) → c.number ≡ n + 1 → r.call ≤ n → is_over (calls ++ c ∷ []) reads r ≡ is_over calls reads r
over_same calls c reads r n is le =
    ap (λ (b : Bool). cond b (is_read reads r.call) (is_read_at reads r.call r.position)) (by calls)
  where
    by : (cs : List PendingCall) → list_any (λ x. eqb x.number r.call) (cs ++ c ∷ []) ≡ list_any (λ x. eqb x.number r.call) cs
    by [] = ap (λ (b : Bool). b || false) (ne_eqb c.number r.call (λ e. omega (arith, e, is)))
    by (x ∷ cs) = ap (λ (b : Bool). eqb x.number r.call || b) (by cs)

pub over_pushed : (calls : List PendingCall) (c : PendingCall) (reads : List PendingRead) (n : ℕ) (regions : List Region) → c.number ≡ n + 1 → AllByRecursion (λ r. r.call ≤ n) regions →
    AllByRecursion (λ r. is_some r.until ≡ is_over calls reads r) regions → AllByRecursion (λ r. is_some r.until ≡ is_over (calls ++ c ∷ []) reads r) regions
over_pushed calls c reads n [] is before closed = tt
over_pushed calls c reads n (r ∷ regions) is before closed =
    (closed.0 ∙ sym (over_same calls c reads r n is before.0), over_pushed calls c reads n regions is before.1 closed.1)

-- a region that is over is closed
pub closed_if_over : (test : Region → Bool) (regions : List Region) → AllByRecursion (λ r. is_some r.until ≡ test r) regions → AllByRecursion (λ r. test r ≡ true → is_some r.until ≡ true) regions
closed_if_over test [] h = tt
closed_if_over test (r ∷ regions) h = ((λ over. h.0 ∙ over), closed_if_over test regions h.1)

-- the state after a frame with the call's Send
abbrev pub with_inline_call : ServerState → ReceiveState → PendingCall → List ℕ → ServerState
with_inline_call k h c stream = record k { received = h; calls = k.calls ++ c ∷ []; ready = k.ready ++ ready_call c stream ∷ [] }

pub ready_state : (k : ServerState) (f : Frame) (last : Bool) (opcode w queue msn offset : ℕ) (payload : List ℕ) (c : PendingCall) (stream : List ℕ) →
    frame_segment f ≡ Ok (Untagged last opcode w queue msn offset payload) →
    AllByRecursion (λ r. is_over (k.calls ++ c ∷ []) k.reads r ≡ true → is_some r.until ≡ true) k.regions →
    with_effect k f (inline_effect k c stream) ≡ with_inline_call k (received_after k.received (Untagged last opcode w queue msn offset payload)) c stream
ready_state k f last opcode w queue msn offset payload c stream is closed =
    let none : drop (length (open_reads k)) (open_reads k) ≡ [] = none_new 8 k.reads in
    let sent : k.requests_sent + length (drop (length (open_reads k)) (open_reads k)) ≡ k.requests_sent = (let e : length (drop (length (open_reads k)) (open_reads k)) ≡ 0 = ap (λ (xs : List PendingRead). length xs) none in omega (arith, e)) in
    let regions : regions_closed (is_over (k.calls ++ c ∷ []) k.reads) f.end k.regions ≡ k.regions = closed_same (is_over (k.calls ++ c ∷ []) k.reads) f.end k.regions closed in
    let due : k.due + length (effect_output k (inline_effect k c stream)) ≡ k.due = omega (arith, ap (λ (xs : List ℕ). length xs) (quiet_output k)) in
    (λ i. record {
      received = received_by k.received (is i);
      calls = k.calls ++ c ∷ [];
      reads = k.reads;
      response_bytes = response_bytes_after k (is i);
      requests_sent = sent i;
      regions = regions i;
      accesses_received = k.accesses_received ++ tagged_accesses f (is i);
      messages_queued = k.messages_queued + 0;
      due = due i;
      written = k.written;
      message_ends = append-nil k.message_ends i;
      ready = k.ready ++ ready_call c stream ∷ [];
      receives = k.receives;
      credit = k.credit;
      low = k.low;
      up_max = k.up_max;
      down_max = k.down_max;
      invalidates = k.invalidates;
    })
    ∙ (λ i. record {
      received = received_after k.received (Untagged last opcode w queue msn offset payload);
      calls = k.calls ++ c ∷ [];
      reads = k.reads;
      response_bytes = k.response_bytes;
      requests_sent = k.requests_sent;
      regions = k.regions;
      accesses_received = append-nil k.accesses_received i;
      messages_queued = (let e : k.messages_queued + 0 ≡ k.messages_queued = omega arith in e) i;
      due = k.due;
      written = k.written;
      message_ends = k.message_ends;
      ready = k.ready ++ ready_call c stream ∷ [];
      receives = k.receives;
      credit = k.credit;
      low = k.low;
      up_max = k.up_max;
      down_max = k.down_max;
      invalidates = k.invalidates;
    })
