-- The list of faults, one kind of segment at a time.
use Rattle.std.proofs.Common.{◌≡◌, ℕ, ◌+◌, Bool, true, false, not, cond, ◌&&◌, ◌||◌, eqb, nat_lt, nat_le, List, [], ◌∷◌, ◌++◌, length, Option, Some, None, inl, inr, refl, sym, ap, ◌∙◌, length-append, arith}
use Rattle.std.specs.Prelude.{is_some, IsTrue, ◌≢◌, ◌⊎◌}
use Rattle.std.proofs.lemmas.Bool.{eqb-true, eqb-false}
use Rattle.nr_wire.specs.Constants.{OPCODE_READ_REQUEST, OPCODE_READ_RESPONSE, OPCODE_SEND, OPCODE_SEND_INVALIDATE, OPCODE_TERMINATE}
use Rattle.nr_wire.specs.Segment.{Segment, is_untagged_opcode}
use Rattle.nr_wire.specs.Segment.Segment.{Tagged, Untagged}
use Rattle.nr_regions.specs.declared.denied.Denied.{Denied}
use Rattle.nr_regions.specs.RegisteredMemory.{denial, right_for}
use Rattle.nr_link.specs.declared.end.End.{End}
use Rattle.nr_link.specs.declared.end.End.TheVariants as ends
use Rattle.nr_link.specs.Limits.{open_reads_max}
use Rattle.nr_link.specs.Frames.{Frame}
use Rattle.nr_link.specs.Reasons.{REASON_MSN, REASON_OFFSET, REASON_FORM, REASON_RESPONSE, REASON_REQUESTS, REASON_SHORT, REASON_LONG}
use Rattle.nr_link.specs.ReceiveState.{begun_bytes, is_send, read_request_in}
use Rattle.nr_link.specs.SegmentFaults.{SegmentReason, segment_reason, first_fault, reason_if, missing_fault, no_buffer, message_length_is, terminate_fault, next_msn, next_offset, is_begun, is_malformed, is_expected}
use Rattle.nr_link.specs.SegmentFaults.SegmentReason.{NoBuffer, PeerTerminated}
use Rattle.nr_link.specs.Ending.{end_of_fault, kind_of}
use Rattle.nr_endpoint.specs.LinkState.{LinkState}
use Rattle.nr_endpoint.specs.Judging.{readiness, missing_access, segment_end, expected_response, fetch_access}
use Rattle.nr_endpoint.specs.SegmentEnds.{bad_if, denied_if, no_buffer_if, or_end, tagged_end, message_end, send_end, request_end, terminate_end}
use Rattle.nr_xdr.specs.Fields.{word_at}

abbrev Faults : Type 0
Faults = List (Option (SegmentReason Denied))

reason_first : (f : Frame) (segment : Segment) (reason : ℕ) (b : Bool) (others : Faults) →
    end_of_fault f segment (first_fault (reason_if reason b ∷ others)) ≡ bad_if f.at reason b (end_of_fault f segment (first_fault others))
reason_first f segment reason true others = refl
reason_first f segment reason false others = refl

-- ---- Tagged segments

tagged_cases : (f : Frame) (last : Bool) (opcode stag to : ℕ) (payload : List ℕ) (why : Option Denied) (b : Bool) →
    end_of_fault f (Tagged last opcode stag to payload) (first_fault (missing_fault why ∷ reason_if REASON_RESPONSE b ∷ [])) ≡ denied_if stag to why (bad_if f.at REASON_RESPONSE b None)
tagged_cases f last opcode stag to payload None true = refl
tagged_cases f last opcode stag to payload None false = refl
tagged_cases f last opcode stag to payload (Some why) b = refl

pub tagged_end_lem : (s : LinkState) (f : Frame) (last : Bool) (opcode stag to : ℕ) (payload : List ℕ) → f.at ≡ s.place →
    tagged_end s last opcode stag to payload ≡ segment_end s f (Tagged last opcode stag to payload)
unfolding segment_end segment_reason tagged_end
tagged_end_lem s f last opcode stag to payload at =
    rw (← at) (sym (tagged_cases f last opcode stag to payload (denial s.memory (record { right = right_for (kind_of opcode); stag = stag; to = to; len = length payload }))
    (eqb opcode OPCODE_READ_RESPONSE && not (is_expected (expected_response s.reads) last stag to (length payload)))))

-- ---- Untagged segments: number and offset first

first_two : (at : ℕ) (b1 b2 : Bool) (others : Option End) → bad_if at REASON_MSN b1 (bad_if at REASON_OFFSET b2 others) ≡ or_end (bad_if at REASON_MSN b1 (bad_if at REASON_OFFSET b2 None)) others
first_two at true b2 others = refl
first_two at false true others = refl
first_two at false false others = refl

-- the faults after number and offset
abbrev later_faults : LinkState → Bool → (opcode w queue msn offset : ℕ) → List ℕ → Faults
later_faults s last opcode w queue msn offset payload =
    no_buffer (readiness s (missing_access s.memory (Untagged last opcode w queue msn offset payload))) (is_send opcode) msn
    ∷ reason_if REASON_FORM (is_malformed opcode last payload)
    ∷ missing_fault (missing_access s.memory (Untagged last opcode w queue msn offset payload))
    ∷ reason_if REASON_REQUESTS (eqb opcode OPCODE_READ_REQUEST && nat_le open_reads_max (length s.send_queue.response_ends))
    ∷ reason_if REASON_LONG (message_length_is (nat_lt s.message_max) (cond (is_send opcode && last) (Some (begun_bytes s.receive_queue.received.begun ++ payload)) None))
    ∷ reason_if REASON_SHORT (message_length_is (λ n. nat_lt n 16) (cond (is_send opcode && last) (Some (begun_bytes s.receive_queue.received.begun ++ payload)) None))
    ∷ terminate_fault opcode payload
    ∷ []

pub untagged_end : (s : LinkState) (f : Frame) (last : Bool) (opcode w queue msn offset : ℕ) (payload : List ℕ) → f.at ≡ s.place →
    segment_end s f (Untagged last opcode w queue msn offset payload)
    ≡ or_end (message_end s queue msn offset) (end_of_fault f (Untagged last opcode w queue msn offset payload) (first_fault (later_faults s last opcode w queue msn offset payload)))
unfolding segment_end segment_reason message_end
untagged_end s f last opcode w queue msn offset payload at =
    let segment : Segment = Untagged last opcode w queue msn offset payload in
    reason_first f segment REASON_MSN (not (eqb msn (next_msn s.receive_queue.received queue))) (reason_if REASON_OFFSET (not (eqb offset (next_offset s.receive_queue.received queue))) ∷ later_faults s last opcode w queue msn offset payload)
    ∙ ap (bad_if f.at REASON_MSN (not (eqb msn (next_msn s.receive_queue.received queue)))) (reason_first f segment REASON_OFFSET (not (eqb offset (next_offset s.receive_queue.received queue))) (later_faults s last opcode w queue msn offset payload))
    ∙ first_two f.at (not (eqb msn (next_msn s.receive_queue.received queue))) (not (eqb offset (next_offset s.receive_queue.received queue))) (end_of_fault f segment (first_fault (later_faults s last opcode w queue msn offset payload)))
    ∙ ap (λ (place : ℕ). or_end (bad_if place REASON_MSN (not (eqb msn (next_msn s.receive_queue.received queue))) (bad_if place REASON_OFFSET (not (eqb offset (next_offset s.receive_queue.received queue))) None)) (end_of_fault f segment (first_fault (later_faults s last opcode w queue msn offset payload)))) at

-- a message that isn't the next ends the side, whatever its kind
pub message_first : (s : LinkState) (f : Frame) (last : Bool) (opcode w queue msn offset : ℕ) (payload : List ℕ) (end : End) → f.at ≡ s.place →
    message_end s queue msn offset ≡ Some end → Some end ≡ segment_end s f (Untagged last opcode w queue msn offset payload)
message_first s f last opcode w queue msn offset payload end at is =
    sym (untagged_end s f last opcode w queue msn offset payload at ∙ ap (λ (e : Option End). or_end e (end_of_fault f (Untagged last opcode w queue msn offset payload) (first_fault (later_faults s last opcode w queue msn offset payload)))) is)

kind_end : (s : LinkState) (f : Frame) (last : Bool) (opcode w queue msn offset : ℕ) (payload : List ℕ) → f.at ≡ s.place → message_end s queue msn offset ≡ None →
    segment_end s f (Untagged last opcode w queue msn offset payload)
    ≡ end_of_fault f (Untagged last opcode w queue msn offset payload) (first_fault (later_faults s last opcode w queue msn offset payload))
kind_end s f last opcode w queue msn offset payload at is =
    untagged_end s f last opcode w queue msn offset payload at ∙ ap (λ (e : Option End). or_end e (end_of_fault f (Untagged last opcode w queue msn offset payload) (first_fault (later_faults s last opcode w queue msn offset payload)))) is

-- ---- A Send

length_is_lem : (test : ℕ → Bool) (last : Bool) (begun payload : List ℕ) →
    message_length_is test (cond (true && last) (Some (begun ++ payload)) None) ≡ (last && test (length begun + length payload))
length_is_lem test true begun payload = ap test (length-append begun payload)
length_is_lem test false begun payload = refl

send_cases : (f : Frame) (segment : Segment) (msn : ℕ) (ready b1 b2 : Bool) →
    end_of_fault f segment (first_fault (cond ready None (Some (NoBuffer msn)) ∷ reason_if REASON_FORM false ∷ missing_fault None ∷ reason_if REASON_REQUESTS false ∷ reason_if REASON_LONG b1 ∷ reason_if REASON_SHORT b2 ∷ None ∷ []))
    ≡ no_buffer_if msn (not ready) (bad_if f.at REASON_LONG b1 (bad_if f.at REASON_SHORT b2 None))
send_cases f segment msn false b1 b2 = refl
send_cases f segment msn true true b2 = refl
send_cases f segment msn true false true = refl
send_cases f segment msn true false false = refl

send_end_lem : (s : LinkState) (f : Frame) (last : Bool) (w queue msn offset : ℕ) (payload : List ℕ) → f.at ≡ s.place → message_end s queue msn offset ≡ None →
    send_end s last msn payload ≡ segment_end s f (Untagged last OPCODE_SEND w queue msn offset payload)
unfolding send_end
send_end_lem s f last w queue msn offset payload at is =
    sym (kind_end s f last OPCODE_SEND w queue msn offset payload at is
    ∙ send_cases f (Untagged last OPCODE_SEND w queue msn offset payload) msn (is_begun s.receive_queue.received.begun || nat_lt 0 s.receive_queue.free)
    (message_length_is (nat_lt s.message_max) (cond (true && last) (Some (begun_bytes s.receive_queue.received.begun ++ payload)) None))
    (message_length_is (λ n. nat_lt n 16) (cond (true && last) (Some (begun_bytes s.receive_queue.received.begun ++ payload)) None))
    ∙ (λ i. no_buffer_if msn (not (is_begun s.receive_queue.received.begun || nat_lt 0 s.receive_queue.free))
    (bad_if (at i) REASON_LONG (length_is_lem (nat_lt s.message_max) last (begun_bytes s.receive_queue.received.begun) payload i)
    (bad_if (at i) REASON_SHORT (length_is_lem (λ n. nat_lt n 16) last (begun_bytes s.receive_queue.received.begun) payload i) None))))

invalidate_end_lem : (s : LinkState) (f : Frame) (last : Bool) (w queue msn offset : ℕ) (payload : List ℕ) → f.at ≡ s.place → message_end s queue msn offset ≡ None →
    send_end s last msn payload ≡ segment_end s f (Untagged last OPCODE_SEND_INVALIDATE w queue msn offset payload)
unfolding send_end
invalidate_end_lem s f last w queue msn offset payload at is =
    sym (kind_end s f last OPCODE_SEND_INVALIDATE w queue msn offset payload at is
    ∙ send_cases f (Untagged last OPCODE_SEND_INVALIDATE w queue msn offset payload) msn (is_begun s.receive_queue.received.begun || nat_lt 0 s.receive_queue.free)
    (message_length_is (nat_lt s.message_max) (cond (true && last) (Some (begun_bytes s.receive_queue.received.begun ++ payload)) None))
    (message_length_is (λ n. nat_lt n 16) (cond (true && last) (Some (begun_bytes s.receive_queue.received.begun ++ payload)) None))
    ∙ (λ i. no_buffer_if msn (not (is_begun s.receive_queue.received.begun || nat_lt 0 s.receive_queue.free))
    (bad_if (at i) REASON_LONG (length_is_lem (nat_lt s.message_max) last (begun_bytes s.receive_queue.received.begun) payload i)
    (bad_if (at i) REASON_SHORT (length_is_lem (λ n. nat_lt n 16) last (begun_bytes s.receive_queue.received.begun) payload i) None))))

-- the opcodes of a Send
pub which_send : (opcode : ℕ) → is_send opcode ≡ true → (opcode ≡ OPCODE_SEND) ⊎ (opcode ≡ OPCODE_SEND_INVALIDATE)
which_send opcode is = by (eqb opcode OPCODE_SEND) refl is
  where
    by : (b : Bool) → eqb opcode OPCODE_SEND ≡ b → (b || eqb opcode OPCODE_SEND_INVALIDATE) ≡ true → (opcode ≡ OPCODE_SEND) ⊎ (opcode ≡ OPCODE_SEND_INVALIDATE)
    by true e h = inl (eqb-true opcode OPCODE_SEND e)
    by false e h = inr (eqb-true opcode OPCODE_SEND_INVALIDATE h)

pub any_send_end_lem : (s : LinkState) (f : Frame) (last : Bool) (opcode w queue msn offset : ℕ) (payload : List ℕ) → is_send opcode ≡ true → f.at ≡ s.place → message_end s queue msn offset ≡ None →
    send_end s last msn payload ≡ segment_end s f (Untagged last opcode w queue msn offset payload)
any_send_end_lem s f last opcode w queue msn offset payload is at none = by (which_send opcode is)
  where
    by : (opcode ≡ OPCODE_SEND) ⊎ (opcode ≡ OPCODE_SEND_INVALIDATE) → send_end s last msn payload ≡ segment_end s f (Untagged last opcode w queue msn offset payload)
    by (inl same) = send_end_lem s f last w queue msn offset payload at none ∙ ap (λ (o : ℕ). segment_end s f (Untagged last o w queue msn offset payload)) (sym same)
    by (inr same) = invalidate_end_lem s f last w queue msn offset payload at none ∙ ap (λ (o : ℕ). segment_end s f (Untagged last o w queue msn offset payload)) (sym same)

-- ---- A Read Request

request_cases : (f : Frame) (last : Bool) (w queue msn offset : ℕ) (payload : List ℕ) (b1 b2 : Bool) (why : Option Denied) →
    end_of_fault f (Untagged last OPCODE_READ_REQUEST w queue msn offset payload) (first_fault (None ∷ reason_if REASON_FORM b1 ∷ missing_fault why ∷ reason_if REASON_REQUESTS b2 ∷ reason_if REASON_LONG false ∷ reason_if REASON_SHORT false ∷ None ∷ []))
    ≡ bad_if f.at REASON_FORM b1 (denied_if (read_request_in payload).stag (read_request_in payload).to why (bad_if f.at REASON_REQUESTS b2 None))
request_cases f last w queue msn offset payload true b2 why = refl
request_cases f last w queue msn offset payload false b2 (Some why) = refl
request_cases f last w queue msn offset payload false true None = refl
request_cases f last w queue msn offset payload false false None = refl

pub request_end_lem : (s : LinkState) (f : Frame) (last : Bool) (w queue msn offset : ℕ) (payload : List ℕ) → f.at ≡ s.place → message_end s queue msn offset ≡ None →
    request_end s last payload ≡ segment_end s f (Untagged last OPCODE_READ_REQUEST w queue msn offset payload)
unfolding request_end
request_end_lem s f last w queue msn offset payload at is =
    sym (kind_end s f last OPCODE_READ_REQUEST w queue msn offset payload at is
    ∙ request_cases f last w queue msn offset payload (is_malformed OPCODE_READ_REQUEST last payload) (nat_le open_reads_max (length s.send_queue.response_ends)) (denial s.memory (fetch_access (read_request_in payload)))
    ∙ ap (λ (place : ℕ). bad_if place REASON_FORM (is_malformed OPCODE_READ_REQUEST last payload) (denied_if (read_request_in payload).stag (read_request_in payload).to (denial s.memory (fetch_access (read_request_in payload)))
    (bad_if place REASON_REQUESTS (nat_le open_reads_max (length s.send_queue.response_ends)) None))) at)

-- ---- A Terminate

terminate_cases : (f : Frame) (segment : Segment) (b : Bool) (word : ℕ) →
    end_of_fault f segment (first_fault (None ∷ reason_if REASON_FORM b ∷ missing_fault None ∷ reason_if REASON_REQUESTS false ∷ reason_if REASON_LONG false ∷ reason_if REASON_SHORT false ∷ Some (PeerTerminated word) ∷ []))
    ≡ bad_if f.at REASON_FORM b (Some (ends.Terminated word))
terminate_cases f segment true word = refl
terminate_cases f segment false word = refl

pub terminate_end_lem : (s : LinkState) (f : Frame) (last : Bool) (w queue msn offset : ℕ) (payload : List ℕ) → f.at ≡ s.place → message_end s queue msn offset ≡ None →
    terminate_end s last payload ≡ segment_end s f (Untagged last OPCODE_TERMINATE w queue msn offset payload)
unfolding terminate_end
terminate_end_lem s f last w queue msn offset payload at is =
    sym (kind_end s f last OPCODE_TERMINATE w queue msn offset payload at is
    ∙ terminate_cases f (Untagged last OPCODE_TERMINATE w queue msn offset payload) (is_malformed OPCODE_TERMINATE last payload) (word_at 0 payload)
    ∙ ap (λ (place : ℕ). bad_if place REASON_FORM (is_malformed OPCODE_TERMINATE last payload) (Some (ends.Terminated (word_at 0 payload)))) at)

-- ---- For the function over all kinds

pub none_of_lem : (e message : Option End) → is_some e ≡ false → e ≡ message → message ≡ None
none_of_lem None message h is = sym is
none_of_lem (Some end) message h is = absurd cc

pub message_ends_lem : (s : LinkState) (f : Frame) (last : Bool) (opcode w queue msn offset : ℕ) (payload : List ℕ) (e : Option End) → f.at ≡ s.place →
    is_some e ≡ true → e ≡ message_end s queue msn offset → e ≡ segment_end s f (Untagged last opcode w queue msn offset payload)
message_ends_lem s f last opcode w queue msn offset payload None at h is = absurd cc
message_ends_lem s f last opcode w queue msn offset payload (Some end) at h is = message_first s f last opcode w queue msn offset payload end at (sym is)

-- a supported opcode that is neither of the two others is that of a Terminate
terminates : (opcode : ℕ) → IsTrue (is_untagged_opcode opcode) → opcode ≢ OPCODE_SEND → opcode ≢ OPCODE_SEND_INVALIDATE → opcode ≢ OPCODE_READ_REQUEST → opcode ≡ OPCODE_TERMINATE
terminates opcode h a i b = grind (arith, h, a, i, b)

neither_lem : (a b : Bool) → (a || b) ≡ false → (a ≡ false) × (b ≡ false)
neither_lem true b is = absurd cc
neither_lem false b is = (refl, is)

pub is_terminate : (opcode : ℕ) → IsTrue (is_untagged_opcode opcode) → is_send opcode ≡ false → opcode ≢ OPCODE_READ_REQUEST → opcode ≡ OPCODE_TERMINATE
is_terminate opcode h none b =
    let parts : (eqb opcode OPCODE_SEND ≡ false) × (eqb opcode OPCODE_SEND_INVALIDATE ≡ false) = neither_lem (eqb opcode OPCODE_SEND) (eqb opcode OPCODE_SEND_INVALIDATE) none in
    terminates opcode h (eqb-false opcode OPCODE_SEND parts.0) (eqb-false opcode OPCODE_SEND_INVALIDATE parts.1) b
