-- A read that is done, by which the stream of a call is there, and whose call is refused: its read chunk isn't the item's.
use Rattle.std.proofs.Common.{◌≡◌, ◌≢◌, ℕ, zero, suc, ◌+◌, ◌-◌, ◌<◌, ◌≤◌, Bool, true, false, not, ◌&&◌, ◌||◌, eqb, cond, List, [], ◌∷◌, ◌++◌, length, take, drop, Option, Some, None, Ok, refl, sym, ap, subst, ◌∙◌, arith, inl, append-nil, length-append, append_assoc}
use Rattle.std.specs.Prelude.{map, find}
use Rattle.std.specs.List.{AllByRecursion, list_any, filter}
use Rattle.std.proofs.lemmas.Bool.{eq-eqb, eqb-true}
use Rattle.std.proofs.lemmas.List.{length-take}
use Rattle.nr_wire.specs.declared.stream.Awaited.TheVariants.{Fpdu}
use Rattle.nr_wire.specs.Constants.{OPCODE_READ_RESPONSE}
use Rattle.nr_wire.specs.Segment.Segment.{Tagged}
use Rattle.nr_regions.specs.declared.right.Kind.TheVariants.{Response}
use Rattle.nr_regions.specs.Access.{TaggedSegment}
use Rattle.nr_link.specs.Frames.{Frame}
use Rattle.nr_link.specs.Input.{InputState}
use Rattle.nr_link.specs.Output.{send}
use Rattle.nr_link.specs.Ending.{segment_taken, frame_segment}
use Rattle.nr_endpoint.specs.LinkState.{LinkState}
use Rattle.nr_endpoint.specs.SendQueue.{with_send, send_output}
use Rattle.nr_endpoint.specs.Judging.{next_frame, with_frame}
use Rattle.nr_reduce.specs.declared.mark.LinkParameters.{LinkParameters}
use Rattle.nr_reduce.specs.Holds.{chunk_error}
use Rattle.nr_reduce.specs.OfferedRegions.{Region, regions_closed}
use Rattle.nr_reduce.specs.Events.RunEvent.{FrameReceived}
use Rattle.nr_reduce.specs.EndRules.{EndState, live, next_end_state}
use Rattle.nr_reduce.specs.ServerState.{PendingCall, PendingRead, ReadyCall, ServerState, credit_word}
use Rattle.nr_reduce.specs.ServerReads.{is_over, is_read, is_read_at, open_reads}
use Rattle.nr_reduce.specs.ServerFrames.{FrameEffect, frame_effect}
use Rattle.nr_reduce.specs.Server.{server_rules, with_effect, effect_output, received_by, requests_from, response_bytes_after, tagged_accesses}
use Rattle.nr_responder.specs.Fetching.{SinkRegion, open_sinks}
use Rattle.nr_responder.specs.ResponderState.{ResponderSide, queued_bytes, unsent}
use Rattle.nr_responder.specs.Keeping.{ArePayloads, HasPayload, IsReadyOf, IsServer, Keeps, KeepsEnd, OwnNumbers, OwnReady, OwnXids, later_responses}
use Rattle.nr_responder.specs.private.Reading.{left_sinks, opening, over_sinks}
use Rattle.nr_responder.specs.private.Handling.{on_link}
use Rattle.nr_responder.specs.private.ReadsDone.{RefusesCall, calls_without, reads_without, reading_on, side_after_done, still_open, with_sent}
use Rattle.nr_responder.proofs.Executed.{read_at_each}
use Rattle.nr_responder.proofs.Frames.{behind, TakesFrame, later_frame}
use Rattle.nr_responder.proofs.LastResponses.{EffectHolds, TakesLast, after_done, done_link, done_server}
use Rattle.nr_responder.proofs.Queues.{sent_has, sent_queue}
use Rattle.nr_responder.proofs.ReadCases.{call_refused, fewer_over, found_number, heard, heard_word, last_effect}
use Rattle.nr_responder.proofs.ReadEffects.{requested_queue}
use Rattle.nr_responder.proofs.ReadsTaken.{done_side, response_reads, same_as, taken_less, takes_last}
use Rattle.nr_responder.proofs.Responses.{IsResponse, response_access}
use Rattle.nr_responder.proofs.Sinks.{open_left}
use Rattle.nr_responder.proofs.Whole.{begun_behind, goes_on_lem, lives_on_lem}

-- ---- Calls without one

abbrev is_other : ℕ → PendingCall → Bool
is_other n other = not (eqb other.number n)

all_without : (P : PendingCall → Type 0) (n : ℕ) (calls : List PendingCall) → AllByRecursion P calls → AllByRecursion P (calls_without n calls)
all_without P n [] h = tt
all_without P n (c ∷ calls) h = by (all_without P n calls h.1) (not (eqb c.number n))
  where
    by : AllByRecursion P (calls_without n calls) → (b : Bool) → AllByRecursion P (cond b (c ∷ calls_without n calls) (calls_without n calls))
    by rest true = (h.0, rest)
    by rest false = rest

any_without : (p : PendingCall → Bool) (n : ℕ) (calls : List PendingCall) → list_any p calls ≡ false → list_any p (calls_without n calls) ≡ false
any_without p n [] none = none
any_without p n (c ∷ calls) none = by (any_without p n calls) (p c) refl none (not (eqb c.number n))
  where
    by : (list_any p calls ≡ false → list_any p (calls_without n calls) ≡ false) → (b : Bool) → p c ≡ b → (b || list_any p calls) ≡ false → (k : Bool) → list_any p (cond k (c ∷ calls_without n calls) (calls_without n calls)) ≡ false
    by rest true is none k = absurd cc
    by rest false is none true = ap (λ (b : Bool). b || list_any p (calls_without n calls)) is ∙ rest none
    by rest false is none false = rest none

numbers_without : (n : ℕ) (calls : List PendingCall) → OwnNumbers calls → OwnNumbers (calls_without n calls)
numbers_without n [] h = tt
numbers_without n (c ∷ calls) h = by (numbers_without n calls h.1) (not (eqb c.number n))
  where
    by : OwnNumbers (calls_without n calls) → (b : Bool) → OwnNumbers (cond b (c ∷ calls_without n calls) (calls_without n calls))
    by rest true = (any_without (λ d. eqb d.number c.number) n calls h.0, rest)
    by rest false = rest

xids_without : (n : ℕ) (calls : List PendingCall) → OwnXids calls → OwnXids (calls_without n calls)
xids_without n [] h = tt
xids_without n (c ∷ calls) h = by (xids_without n calls h.1) (not (eqb c.number n))
  where
    by : OwnXids (calls_without n calls) → (b : Bool) → OwnXids (cond b (c ∷ calls_without n calls) (calls_without n calls))
    by rest true = (any_without (λ d. eqb d.xid c.xid) n calls h.0, rest)
    by rest false = rest

-- a call with another number stays
still_there : (x m n : ℕ) (calls : List PendingCall) → list_any (λ c. eqb c.xid x) calls ≡ true → AllByRecursion (λ c. c.xid ≡ x → c.number ≡ m) calls → m ≢ n → list_any (λ c. eqb c.xid x) (calls_without n calls) ≡ true
still_there x m n [] there own ne = absurd cc
still_there x m n (c ∷ calls) there own ne = by (λ (e : list_any (λ c. eqb c.xid x) calls ≡ true). still_there x m n calls e own.1 ne) (eqb c.xid x) refl there (eqb c.number n) refl
  where
    or_true : (b : Bool) → (b || true) ≡ true
    or_true true = refl
    or_true false = refl

    kept : (k : Bool) → eqb c.number n ≡ k → list_any (λ c. eqb c.xid x) (cond (not k) (c ∷ calls_without n calls) (calls_without n calls)) ≡ true → list_any (λ c. eqb c.xid x) (calls_without n (c ∷ calls)) ≡ true
    kept k is e = ap (λ (b : Bool). list_any (λ c. eqb c.xid x) (cond (not b) (c ∷ calls_without n calls) (calls_without n calls))) is ∙ e

    by : (list_any (λ c. eqb c.xid x) calls ≡ true → list_any (λ c. eqb c.xid x) (calls_without n calls) ≡ true) → (b : Bool) → eqb c.xid x ≡ b → (b || list_any (λ c. eqb c.xid x) calls) ≡ true → (k : Bool) → eqb c.number n ≡ k →
        list_any (λ c. eqb c.xid x) (calls_without n (c ∷ calls)) ≡ true
    by rest true is e true same = absurd (ne (sym (own.0 (eqb-true c.xid x is)) ∙ eqb-true c.number n same))
    by rest true is e false other = kept false other (ap (λ (b : Bool). b || list_any (λ c. eqb c.xid x) (calls_without n calls)) is)
    by rest false is e true same = kept true same (rest e)
    by rest false is e false other = kept false other (ap (λ (b : Bool). eqb c.xid x || b) (rest e) ∙ or_true (eqb c.xid x))

-- without one that isn't there
none_without : (n : ℕ) (calls : List PendingCall) → list_any (λ d. eqb d.number n) calls ≡ false → length (calls_without n calls) ≡ length calls
none_without n [] none = refl
none_without n (c ∷ calls) none = by (none_without n calls) (eqb c.number n) refl none
  where
    by : (list_any (λ d. eqb d.number n) calls ≡ false → length (calls_without n calls) ≡ length calls) → (b : Bool) → eqb c.number n ≡ b → (b || list_any (λ d. eqb d.number n) calls) ≡ false → length (calls_without n (c ∷ calls)) ≡ length (c ∷ calls)
    by rest true is e = absurd cc
    by rest false is e =
        ap (λ (b : Bool). length (cond (not b) (c ∷ calls_without n calls) (calls_without n calls))) is
        ∙ (let same = rest e in let here : length (c ∷ calls_without n calls) ≡ length (c ∷ calls) = omega (arith, same) in here)

-- without one call
one_without : (n : ℕ) (calls : List PendingCall) (c : PendingCall) → OwnNumbers calls → find (λ d. eqb d.number n) calls ≡ Some c → length (calls_without n calls) + 1 ≡ length calls
one_without n [] c own is = absurd cc
one_without n (x ∷ calls) c own is = by (λ (e : find (λ d. eqb d.number n) calls ≡ Some c). one_without n calls c own.1 e) (eqb x.number n) refl is
  where
    by : (find (λ d. eqb d.number n) calls ≡ Some c → length (calls_without n calls) + 1 ≡ length calls) → (b : Bool) → eqb x.number n ≡ b → cond b (Some x) (find (λ d. eqb d.number n) calls) ≡ Some c → length (calls_without n (x ∷ calls)) + 1 ≡ length (x ∷ calls)
    by rest true same e =
        let none : list_any (λ d. eqb d.number n) calls ≡ false = ap (λ (m : ℕ). list_any (λ d. eqb d.number m) calls) (sym (eqb-true x.number n same)) ∙ own.0 in
        let count = none_without n calls none in
        let left : length (calls_without n (x ∷ calls)) ≡ length (calls_without n calls) = ap (λ (b : Bool). length (cond (not b) (x ∷ calls_without n calls) (calls_without n calls))) same in
        omega (arith, count, left)
    by rest false other e =
        let count = rest e in
        let left : length (calls_without n (x ∷ calls)) ≡ length (x ∷ calls_without n calls) = ap (λ (b : Bool). length (cond (not b) (x ∷ calls_without n calls) (calls_without n calls))) other in
        omega (arith, count, left)

-- ---- Reads of which some are dropped

none_filtered : (p f : PendingRead → Bool) (reads : List PendingRead) → list_any p reads ≡ false → list_any p (filter f reads) ≡ false
none_filtered p f [] none = none
none_filtered p f (r ∷ reads) none = by (none_filtered p f reads) (p r) refl none (f r)
  where
    by : (list_any p reads ≡ false → list_any p (filter f reads) ≡ false) → (b : Bool) → p r ≡ b → (b || list_any p reads) ≡ false → (k : Bool) → list_any p (cond k (r ∷ filter f reads) (filter f reads)) ≡ false
    by rest true is none k = absurd cc
    by rest false is none true = ap (λ (b : Bool). b || list_any p (filter f reads)) is ∙ rest none
    by rest false is none false = rest none

none_left : (p f : PendingRead → Bool) (kept : ℕ) (reads : List PendingRead) → list_any p reads ≡ false → list_any p (take kept reads ++ filter f (drop kept reads)) ≡ false
none_left p f zero reads none = none_filtered p f reads none
none_left p f (suc kept) [] none = none
none_left p f (suc kept) (r ∷ reads) none = by (none_left p f kept reads) (p r) refl none
  where
    by : (list_any p reads ≡ false → list_any p (take kept reads ++ filter f (drop kept reads)) ≡ false) → (b : Bool) → p r ≡ b → (b || list_any p reads) ≡ false → (p r || list_any p (take kept reads ++ filter f (drop kept reads))) ≡ false
    by rest true is none = absurd cc
    by rest false is none = ap (λ (b : Bool). b || list_any p (take kept reads ++ filter f (drop kept reads))) is ∙ rest none

all_filtered : (P : PendingRead → Type 0) (f : PendingRead → Bool) (reads : List PendingRead) → AllByRecursion P reads → AllByRecursion P (filter f reads)
all_filtered P f [] h = tt
all_filtered P f (r ∷ reads) h = by (all_filtered P f reads h.1) (f r)
  where
    by : AllByRecursion P (filter f reads) → (b : Bool) → AllByRecursion P (cond b (r ∷ filter f reads) (filter f reads))
    by rest true = (h.0, rest)
    by rest false = rest

all_left : (P : PendingRead → Type 0) (f : PendingRead → Bool) (kept : ℕ) (reads : List PendingRead) → AllByRecursion P reads → AllByRecursion P (take kept reads ++ filter f (drop kept reads))
all_left P f zero reads h = all_filtered P f reads h
all_left P f (suc kept) [] h = tt
all_left P f (suc kept) (r ∷ reads) h = (h.0, all_left P f kept reads h.1)

is_false : (b : Bool) → not b ≡ true → b ≡ false
is_false true e = absurd cc
is_false false e = refl

-- if nothing was left to be read, nothing is
read_left : (n kept m : ℕ) (reads : List PendingRead) → is_read reads m ≡ true → is_read (reads_without n kept reads) m ≡ true
read_left n kept m reads read = ap (λ (b : Bool). not b) (none_left (λ r. eqb r.number m) (λ r. not (eqb r.number n)) kept reads (is_false (list_any (λ r. eqb r.number m) reads) read))

read_at_left : (n kept m p : ℕ) (reads : List PendingRead) → is_read_at reads m p ≡ true → is_read_at (reads_without n kept reads) m p ≡ true
read_at_left n kept m p reads read =
    ap (λ (b : Bool). not b) (none_left (λ r. eqb r.number m && eqb r.position p) (λ r. not (eqb r.number n)) kept reads (is_false (list_any (λ r. eqb r.number m && eqb r.position p) reads) read))

-- a region that is over stays so
over_left : (n kept : ℕ) (calls : List PendingCall) (reads : List PendingRead) (g : Region) → is_over calls reads g ≡ true → is_over (calls_without n calls) (reads_without n kept reads) g ≡ true
over_left n kept calls reads g over = by (list_any (λ c. eqb c.number g.call) calls) refl (list_any (λ c. eqb c.number g.call) (calls_without n calls)) refl
  where
    left : List PendingRead
    left = reads_without n kept reads

    before : Bool → Bool
    before b = cond b (is_read reads g.call) (is_read_at reads g.call g.position)

    after : Bool → Bool
    after b = cond b (is_read left g.call) (is_read_at left g.call g.position)

    by : (a : Bool) → list_any (λ c. eqb c.number g.call) calls ≡ a → (b : Bool) → list_any (λ c. eqb c.number g.call) (calls_without n calls) ≡ b → is_over (calls_without n calls) left g ≡ true
    by true is true stays = ap after stays ∙ read_left n kept g.call reads (sym (ap before is) ∙ over)
    by true is false stays = ap after stays ∙ read_at_left n kept g.call g.position reads (read_at_each reads g.call g.position (sym (ap before is) ∙ over))
    by false is b stays = ap after (any_without (λ c. eqb c.number g.call) n calls is) ∙ read_at_left n kept g.call g.position reads (sym (ap before is) ∙ over)

-- ---- What holds of the server then

less_read : (b c : Bool) → not (b || c) ≡ true → not c ≡ true
less_read true c e = absurd cc
less_read false c e = e

other_call : (x : PendingRead) (rest : List PendingRead) (n m : ℕ) → x.number ≡ n → is_read (x ∷ rest) m ≡ true → m ≢ n
other_call x rest n m is read same = by (eqb x.number m) (eq-eqb x.number m (is ∙ sym same)) read
  where
    by : (b : Bool) → b ≡ true → not (b || list_any (λ r. eqb r.number m) rest) ≡ true → ⊥
    by true is e = absurd cc
    by false is e = absurd cc

ready_left : (n kept : ℕ) (calls : List PendingCall) (x : PendingRead) (rest : List PendingRead) (ready : List ReadyCall) → x.number ≡ n → AllByRecursion (IsReadyOf calls (x ∷ rest)) ready →
    AllByRecursion (IsReadyOf (calls_without n calls) (reads_without n kept rest)) ready
ready_left n kept calls x rest [] is h = tt
ready_left n kept calls x rest (q ∷ ready) is h = (
  record {
    pending = still_there q.xid q.number n calls h.0.pending h.0.own (other_call x rest n q.number is h.0.read);
    own = all_without (λ c. c.xid ≡ q.xid → c.number ≡ q.number) n calls h.0.own;
    read = read_left n kept q.number rest (less_read (eqb x.number q.number) (list_any (λ r. eqb r.number q.number) rest) h.0.read);
  },
  ready_left n kept calls x rest ready is h.1,
)

refused_holds : (k : ServerState) (place kept n : ℕ) (x : PendingRead) (rest : List PendingRead) → k.reads ≡ x ∷ rest → x.number ≡ n → IsServer k place → EffectHolds k (calls_without n k.calls) (reads_without n kept rest) []
refused_holds k place kept n x rest reads is server = record {
  calls_before = all_without (λ c. c.number ≤ k.received.sends) n k.calls server.calls_before;
  reads_before = all_left (λ r. r.number ≤ k.received.sends) (λ r. not (eqb r.number n)) kept rest (subst (λ (rs : List PendingRead). AllByRecursion (λ x. x.number ≤ k.received.sends) rs) reads server.reads_before).1;
  over = λ g over. over_left n kept k.calls rest g (fewer_over k.calls x rest g (sym (ap (λ (rs : List PendingRead). is_over k.calls rs g) reads) ∙ over));
  numbers = numbers_without n k.calls server.numbers;
  xids = xids_without n k.calls server.xids;
  ready_xids = subst OwnReady (sym (append-nil k.ready)) server.ready_xids;
  ready_of = subst (λ (ready : List ReadyCall). AllByRecursion (IsReadyOf (calls_without n k.calls) (reads_without n kept rest)) ready) (sym (append-nil k.ready))
      (ready_left n kept k.calls x rest k.ready is (subst (λ (rs : List PendingRead). AllByRecursion (IsReadyOf k.calls rs) k.ready) reads server.ready));
}

payload_left : (n : ℕ) (calls : List PendingCall) (q : ReadyCall) (p : Option (List ℕ)) → HasPayload calls q p → HasPayload (calls_without n calls) q p
payload_left n calls q None h = all_without (λ c. c.xid ≡ q.xid → c.inline ≡ Some q.payload) n calls h
payload_left n calls q (Some payload) h = h

payloads_left : (n : ℕ) (calls : List PendingCall) (ready : List ReadyCall) (payloads : List (Option (List ℕ))) → ArePayloads calls ready payloads → ArePayloads (calls_without n calls) ready payloads
payloads_left n calls [] [] h = tt
payloads_left n calls [] (p ∷ payloads) h = absurd h
payloads_left n calls (q ∷ ready) [] h = absurd h
payloads_left n calls (q ∷ ready) (p ∷ payloads) h = (payload_left n calls q p h.0, payloads_left n calls ready payloads h.1)

-- ---- The server after it

abbrev refused_effect : ServerState → List PendingCall → List PendingRead → List ℕ → ℕ → FrameEffect
refused_effect k calls reads message kept = record { calls = calls; reads = reads; regions = k.regions; ready = []; errors = message ∷ []; kept = kept; refusal = None }

-- with the error message queued
abbrev with_error : ServerState → List PendingCall → List ℕ → ServerState
with_error k calls message = record k {
  calls = calls;
  messages_queued = k.messages_queued + 1;
  due = k.due + length (send (k.messages_queued + 1) message);
  message_ends = k.message_ends ++ (k.due + length (send (k.messages_queued + 1) message)) ∷ [];
}

refused_output : (k : ServerState) (calls : List PendingCall) (reads : List PendingRead) (message : List ℕ) (kept : ℕ) →
    effect_output k (refused_effect k calls reads message kept) ≡ send (k.messages_queued + 1) message ++ requests_from (k.requests_sent + 1) (opening kept reads)
refused_output k calls reads message kept = ap (λ (bytes : List ℕ). bytes ++ requests_from (k.requests_sent + 1) (opening kept reads)) (append-nil (send (k.messages_queued + 1) message))

refused_state : (k : ServerState) (f : Frame) (stag to : ℕ) (payload message : List ℕ) (a : TaggedSegment) (calls : List PendingCall) (reads : List PendingRead) (kept : ℕ) → frame_segment f ≡ Ok (Tagged true OPCODE_READ_RESPONSE stag to payload) →
    a ≡ record { kind = Response; stag = stag; to = to; payload = payload; end = f.end } →
    with_effect k f (refused_effect k calls reads message kept) ≡ after_done (with_error k calls message) a calls reads [] kept
refused_state k f stag to payload message a calls reads kept is access =
    let bytes : List ℕ = send (k.messages_queued + 1) message in
    let requests : List ℕ = requests_from (k.requests_sent + 1) (opening kept reads) in
    let due : k.due + length (effect_output k (refused_effect k calls reads message kept)) ≡ k.due + length bytes + length requests =
    (let same = ap (λ (xs : List ℕ). length xs) (refused_output k calls reads message kept) in omega (arith, same, length-append bytes requests)) in
    (λ i. record {
      received = received_by k.received (is i);
      calls = calls;
      reads = reads;
      response_bytes = response_bytes_after k (is i);
      requests_sent = k.requests_sent + length (opening kept reads);
      regions = regions_closed (is_over calls reads) f.end k.regions;
      accesses_received = k.accesses_received ++ tagged_accesses f (is i);
      messages_queued = k.messages_queued + 1;
      due = due i;
      written = k.written;
      message_ends = k.message_ends ++ (k.due + length bytes) ∷ [];
      ready = k.ready ++ [];
      receives = k.receives;
      credit = k.credit;
      low = k.low;
      up_max = k.up_max;
      down_max = k.down_max;
      invalidates = k.invalidates;
    })
    ∙ ap (λ (x : TaggedSegment). after_done (with_error k calls message) x calls reads [] kept) (sym access)

-- ---- The side of the link after it

kept_front : (kept : ℕ) (f : PendingRead → Bool) (rest : List PendingRead) → kept ≤ length rest → take kept (take kept rest ++ filter f (drop kept rest)) ≡ take kept rest
kept_front zero f rest le = refl
kept_front (suc kept) f [] le = absurd (omega (arith, le))
kept_front (suc kept) f (r ∷ rest) le = ap (λ (rs : List PendingRead). r ∷ rs) (kept_front kept f rest (omega (arith, le)))

sent_last : (opened : LinkParameters) (k : ServerState) (f : Frame) (a : TaggedSegment) (rest : List PendingRead) (calls : List PendingCall) (message : List ℕ) (t : LinkState) → TakesLast k f a rest opened t → length calls + 1 ≡ length k.calls →
    TakesLast (with_error k calls message) f a rest opened (with_sent t message)
sent_last opened k f a rest calls message t h fewer =
    let one : length (t.send_queue.send_ends ++ length (t.send_queue.fpdus ++ send_output t.send_queue None message) ∷ []) ≡ unsent t + 1 =
    length-append t.send_queue.send_ends (length (t.send_queue.fpdus ++ send_output t.send_queue None message) ∷ []) in
    record {
      live = h.live;
      side = h.side;
      received = h.received;
      receive_length = h.receive_length;
      message_max = h.message_max;
      fits = h.fits;
      terms = h.terms;
      up = h.up;
      down = h.down;
      invalidates = h.invalidates;
      free = (let all = h.free in omega (arith, all, fewer, one));
      lent = (let all = h.lent in omega (arith, all, fewer, one));
      told = h.told;
      reads = h.reads;
      memory = h.memory;
      none_dead = h.none_dead;
      next = h.next;
      queue = sent_has k.written k.due k.messages_queued k.requests_sent k.message_ends message t.send_queue h.queue;
      place = h.place;
      last = h.last;
    }

with_error_server : (k : ServerState) (a : TaggedSegment) (calls : List PendingCall) (reads : List PendingRead) (message : List ℕ) (kept place : ℕ) → IsServer (after_done k a calls reads [] kept) place → IsServer (after_done (with_error k calls message) a calls reads [] kept) place
with_error_server k a calls reads message kept place is = record {
  offered = is.offered;
  accesses = is.accesses;
  numbered = is.numbered;
  sinks = is.sinks;
  calls_before = is.calls_before;
  reads_before = is.reads_before;
  regions_before = is.regions_before;
  closed = is.closed;
  numbers = is.numbers;
  xids = is.xids;
  ready_xids = is.ready_xids;
  ready = is.ready;
  idle = is.idle;
  up = is.up;
  down = is.down;
}

-- ---- The frame

-- the responder without the call
abbrev refused_value : ResponderSide → LinkState → List PendingCall → List PendingRead → List SinkRegion → ℕ → ResponderSide
refused_value v t calls reads sinks kept = record {
  link = record { awaited = Fpdu; rest = []; state = side_after_done t (opening kept reads) (over_sinks calls reads sinks) };
  calls = calls;
  ready = v.ready ++ [];
  credits = v.credits;
  fetching = record { reads = reads; sinks = left_sinks calls reads sinks; payloads = v.fetching.payloads ++ [] };
}

pub refused_done : (opened : LinkParameters) (k : ServerState) (so_far : InputState) (v : ResponderSide) (frame : List ℕ) (x : PendingRead) (rest : List PendingRead) → Keeps opened k so_far v → 0 < v.link.state.place → 0 < length frame →
    (with_frame v.link.state Fpdu frame).ended ≡ None → (r : IsResponse v.link.state frame) → r.last ≡ true → k.reads ≡ x ∷ rest →
    (c : RefusesCall (on_link v (record { awaited = Fpdu; rest = []; state = done_side v.link.state frame r.stag r.to r.payload })) x rest) → credit_word k ≡ v.credits.word →
    TakesFrame opened k (behind so_far frame) (next_frame v.link.state frame) v
    (reading_on (on_link v (record { awaited = Fpdu; rest = []; state = done_side v.link.state frame r.stag r.to r.payload })) (with_sent (done_side v.link.state frame r.stag r.to r.payload) (chunk_error c.call.xid v.credits.word))
    (calls_without c.call.number v.calls) (reads_without c.call.number (still_open x rest) rest) (still_open x rest) [] [])
unfolding frame_segment
refused_done opened k so_far v frame x rest h some long lives r is reads c word =
    let s : LinkState = v.link.state in
    let f : Frame = next_frame s frame in
    let a : TaggedSegment = response_access s frame r.stag r.to r.payload in
    let t : LinkState = done_side s frame r.stag r.to r.payload in
    let n : ℕ = c.call.number in
    let kept : ℕ = still_open x rest in
    let calls : List PendingCall = calls_without n k.calls in
    let left : List PendingRead = reads_without n kept rest in
    let message : List ℕ = chunk_error c.call.xid (credit_word (heard k a)) in
    let k1 : ServerState = with_error k calls message in
    let k' : ServerState = after_done k1 a calls left [] kept in
    let segment : segment_taken false frame ≡ Ok (Tagged true OPCODE_READ_RESPONSE r.stag r.to r.payload) = response_reads s frame r true is in
    let same = same_as opened k so_far v frame x rest c.call h long r reads c.found in
    let number : c.call.number ≡ x.number = found_number x.number k.calls c.call same.found in
    let few : kept ≡ length (take 7 rest) = omega arith in
    let within : kept ≤ length rest = omega (arith, few, length-take 7 rest) in
    let count : length (open_reads k) - 1 ≡ kept = ap (λ (rs : List PendingRead). length (take 8 rs) - 1) reads in
    let effect : frame_effect k f ≡ refused_effect k calls left message kept =
    last_effect k f r.stag r.to r.payload x rest segment reads
    ∙ call_refused k (heard k a) f.end x rest c.call same.found (same.bad ∙ c.bad)
    ∙ ap (λ (m : ℕ). refused_effect k calls (reads_without n m rest) message m) count in
    let at = goes_on_lem opened k f (refused_effect k calls left message kept) (later_frame s.place some) (lives_on_lem opened k so_far v frame h some long lives) effect refl in
    let state : with_effect k f (refused_effect k calls left message kept) ≡ k' = refused_state k f r.stag r.to r.payload message a calls left kept segment refl in
    let next : next_end_state (server_rules opened) (live k) (FrameReceived f) ≡ live k' = at.next ∙ ap (λ (t : ServerState). live t) state in
    let fewer : length calls + 1 ≡ length k.calls = one_without n k.calls c.call h.server.numbers (ap (λ (m : ℕ). find (λ d. eqb d.number m) k.calls) number ∙ same.found) in
    let last : TakesLast k1 f a rest opened (with_sent t message) = sent_last opened k f a rest calls message t (takes_last opened k so_far v frame x rest h long r reads) fewer in
    let opens : t.reads ≡ later_responses (take kept left) =
    last.reads ∙ ap later_responses (sym (taken_less kept rest few) ∙ sym (kept_front kept (λ (r : PendingRead). not (eqb r.number n)) rest within)) in
    let holds : EffectHolds k calls left [] = refused_holds k s.place kept n x rest reads (sym number) h.server in
    let after : LinkState = side_after_done (with_sent t message) (opening kept left) (over_sinks calls left (open_sinks k.regions)) in
    let value : ResponderSide = refused_value v (with_sent t message) calls left (open_sinks k.regions) kept in
    let keeps : Keeps opened k' (behind so_far frame) value =
    record {
      link = done_link opened k1 f a rest left calls [] kept (with_sent t message) last h.server.accesses h.server.offered (omega arith) refl refl (omega (arith, few, length-take 7 rest)) opens;
      input = record { awaited = refl; rest = refl; place = ap (λ (n : ℕ). n + length frame) h.input.place };
      begins = begun_behind v.link after h.begins some refl (omega arith);
      server = with_error_server k a calls left message kept a.end (done_server k f a calls left [] kept h.server (omega arith) holds);
      calls = refl;
      ready = append-nil v.ready ∙ h.ready ∙ ap (λ (rs : List ReadyCall). map (λ q. q.xid) rs) (sym (append-nil k.ready));
      credits = h.credits;
      reads = refl;
      sinks = sym (open_left calls left f.end k.regions);
      payloads = subst (λ (rs : List ReadyCall). ArePayloads calls rs (v.fetching.payloads ++ [])) (sym (append-nil k.ready))
          (subst (λ (ps : List (Option (List ℕ))). ArePayloads calls k.ready ps) (sym (append-nil v.fetching.payloads)) (payloads_left n k.calls k.ready v.fetching.payloads h.payloads));
      quiet = λ e. absurd (omega (arith, e, some));
    } in
    let given : ResponderSide = refused_value v (with_sent t (chunk_error c.call.xid v.credits.word)) (calls_without n v.calls) left v.fetching.sinks kept in
    let own_word : v.credits.word ≡ credit_word (heard k a) = sym word ∙ sym (heard_word k a) in
    let same_value : given ≡ value = λ i. refused_value v (with_sent t (chunk_error c.call.xid (own_word i))) (calls_without n (h.calls i)) left (h.sinks i) kept in
    record {
      keeps = subst (λ (e : EndState ServerState). KeepsEnd opened e (behind so_far frame) given) (sym next) (inl (refl, subst (λ (w : ResponderSide). Keeps opened k' (behind so_far frame) w) (sym same_value) keeps));
      output =
          ap (λ (w : ResponderSide). queued_bytes w.link.state.send_queue) same_value
          ∙ requested_queue k.requests_sent (opening kept left) (with_send message s.send_queue) h.link.queue.requests_are
          ∙ ap (λ (bytes : List ℕ). bytes ++ requests_from (k.requests_sent + 1) (opening kept left)) (sent_queue k.messages_queued message s.send_queue h.link.queue.sends)
          ∙ append_assoc (queued_bytes s.send_queue) (send (k.messages_queued + 1) message) (requests_from (k.requests_sent + 1) (opening kept left))
          ∙ ap (λ (bytes : List ℕ). queued_bytes s.send_queue ++ bytes) (sym (at.due ∙ refused_output k calls left message kept));
    }
