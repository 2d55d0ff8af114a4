-- What holds of a segment that doesn't end the side.
use Rattle.std.proofs.Common.{◌≡◌, ℕ, ◌+◌, ◌^◌, ◌<◌, ◌≤◌, Bool, true, false, not, ◌&&◌, ◌||◌, eqb, nat_lt, nat_le, List, length, Option, Some, None, refl, subst, ◌∙◌}
use Rattle.std.specs.Prelude.{IsTrue, ◌≢◌}
use Rattle.std.proofs.lemmas.Bool.{eqb-true, ltb-false, ltb-true, leb-false}
use Rattle.nr_wire.specs.Constants.{OPCODE_READ_REQUEST, OPCODE_TERMINATE}
use Rattle.nr_wire.specs.Segment.{is_untagged_opcode}
use Rattle.nr_wire.specs.Segment.Segment.{Tagged, Untagged}
use Rattle.nr_regions.specs.declared.denied.Denied.{Denied}
use Rattle.nr_regions.specs.RegisteredMemory.{denial}
use Rattle.nr_link.specs.declared.end.End.{End}
use Rattle.nr_link.specs.declared.end.End.TheVariants as ends
use Rattle.nr_link.specs.Limits.{open_reads_max}
use Rattle.nr_link.specs.Frames.{Frame}
use Rattle.nr_link.specs.Reasons.{REASON_FORM, REASON_REQUESTS, REASON_LONG, REASON_SHORT}
use Rattle.nr_link.specs.ReceiveState.{is_send, read_request_in}
use Rattle.nr_link.specs.SegmentFaults.{is_begun, is_malformed}
use Rattle.nr_endpoint.specs.LinkState.{LinkState}
use Rattle.nr_endpoint.specs.Judging.{segment_end, fetch_access}
use Rattle.nr_endpoint.specs.SegmentEnds.{bad_if, denied_if, no_buffer_if, or_end, tagged_end, message_end, send_end, send_len, request_end, terminate_end, RequestIsFine, SendIsFine}
use Rattle.nr_endpoint.proofs.FaultList.{tagged_end_lem, any_send_end_lem, request_end_lem, terminate_end_lem, message_first, is_terminate}

pub alive_tagged : (s : LinkState) (f : Frame) (last : Bool) (opcode stag to : ℕ) (payload : List ℕ) → f.at ≡ s.place →
    segment_end s f (Tagged last opcode stag to payload) ≡ None → tagged_end s last opcode stag to payload ≡ None
alive_tagged s f last opcode stag to payload at lives = tagged_end_lem s f last opcode stag to payload at ∙ lives

none_first : (e others : Option End) → or_end e others ≡ None → e ≡ None
none_first None others is = refl
none_first (Some end) others is = absurd cc

pub alive_message : (s : LinkState) (f : Frame) (last : Bool) (opcode w queue msn offset : ℕ) (payload : List ℕ) → f.at ≡ s.place →
    segment_end s f (Untagged last opcode w queue msn offset payload) ≡ None → message_end s queue msn offset ≡ None
alive_message s f last opcode w queue msn offset payload at lives =
    by (message_end s queue msn offset) refl
  where
    by : (e : Option End) → message_end s queue msn offset ≡ e → message_end s queue msn offset ≡ None
    by None is = is
    by (Some end) is = absurd (let h : Some end ≡ None = message_first s f last opcode w queue msn offset payload end at is ∙ lives in cc)

-- ---- A Read Request

not_bad : (at reason : ℕ) (b : Bool) (others : Option End) → bad_if at reason b others ≡ None → (b ≡ false) × (others ≡ None)
not_bad at reason true others is = absurd cc
not_bad at reason false others is = (refl, is)

not_denied_lem : (stag to : ℕ) (why : Option Denied) (others : Option End) → denied_if stag to why others ≡ None → why ≡ None
not_denied_lem stag to None others is = refl
not_denied_lem stag to (Some why) others is = absurd cc

denied_none : (stag to : ℕ) (why : Option Denied) (others : Option End) → denied_if stag to why others ≡ None → others ≡ None
denied_none stag to None others is = is
denied_none stag to (Some why) others is = absurd cc

well_formed : (last : Bool) (a b : Bool) → (not last || (not a || b)) ≡ false → (a ≡ true) × (b ≡ false)
well_formed true true false is = (refl, refl)
well_formed true true true is = absurd cc
well_formed true false b is = absurd cc
well_formed false a b is = absurd cc

request_fine : (s : LinkState) (last : Bool) (payload : List ℕ) → request_end s last payload ≡ None → RequestIsFine s payload
unfolding request_end
request_fine s last payload is =
    let parts : (is_malformed OPCODE_READ_REQUEST last payload ≡ false) × (denied_if (read_request_in payload).stag (read_request_in payload).to (denial s.memory (fetch_access (read_request_in payload)))
    (bad_if s.place REASON_REQUESTS (nat_le open_reads_max (length s.send_queue.response_ends)) None) ≡ None) =
    not_bad s.place REASON_FORM (is_malformed OPCODE_READ_REQUEST last payload) _ is in
    let form : (eqb (length payload) 28 ≡ true) × (nat_lt (2 ^ 64) ((read_request_in payload).sink_to + (read_request_in payload).size) ≡ false) =
    well_formed last (eqb (length payload) 28) (nat_lt (2 ^ 64) ((read_request_in payload).sink_to + (read_request_in payload).size)) parts.0 in
    record {
      size = eqb-true (length payload) 28 form.0;
      within = ltb-false (2 ^ 64) ((read_request_in payload).sink_to + (read_request_in payload).size) form.1;
      allowed = not_denied_lem (read_request_in payload).stag (read_request_in payload).to (denial s.memory (fetch_access (read_request_in payload))) _ parts.1;
      few = leb-false open_reads_max (length s.send_queue.response_ends)
          (not_bad s.place REASON_REQUESTS (nat_le open_reads_max (length s.send_queue.response_ends)) None
          (denied_none (read_request_in payload).stag (read_request_in payload).to (denial s.memory (fetch_access (read_request_in payload))) _ parts.1)).0;
    }

pub alive_request : (s : LinkState) (f : Frame) (last : Bool) (w queue msn offset : ℕ) (payload : List ℕ) → f.at ≡ s.place →
    segment_end s f (Untagged last OPCODE_READ_REQUEST w queue msn offset payload) ≡ None → RequestIsFine s payload
alive_request s f last w queue msn offset payload at lives =
    request_fine s last payload (request_end_lem s f last w queue msn offset payload at (alive_message s f last OPCODE_READ_REQUEST w queue msn offset payload at lives) ∙ lives)

-- ---- A Send

has_buffer : (msn : ℕ) (b : Bool) (others : Option End) → no_buffer_if msn b others ≡ None → (b ≡ false) × (others ≡ None)
has_buffer msn true others is = absurd cc
has_buffer msn false others is = (refl, is)

free_or_begun : (begun : Bool) (free : ℕ) → not (begun || nat_lt 0 free) ≡ false → begun ≡ false → 0 < free
free_or_begun true free is none = absurd cc
free_or_begun false free is none = by (nat_lt 0 free) refl is
  where
    by : (b : Bool) → nat_lt 0 free ≡ b → not b ≡ false → 0 < free
    by true h n = ltb-true 0 free h
    by false h n = absurd cc

not_long : (last : Bool) (most n : ℕ) → (last && nat_lt most n) ≡ false → last ≡ true → n ≤ most
not_long true most n is h = ltb-false most n is
not_long false most n is h = absurd cc

not_short : (last : Bool) (least n : ℕ) → (last && nat_lt n least) ≡ false → last ≡ true → least ≤ n
not_short true least n is h = ltb-false n least is
not_short false least n is h = absurd cc

pub send_fine : (s : LinkState) (last : Bool) (msn : ℕ) (payload : List ℕ) → send_end s last msn payload ≡ None → SendIsFine s last payload
unfolding send_end
send_fine s last msn payload is =
    let parts : (not (is_begun s.receive_queue.received.begun || nat_lt 0 s.receive_queue.free) ≡ false) × (bad_if s.place REASON_LONG (last && nat_lt s.message_max (send_len s payload))
    (bad_if s.place REASON_SHORT (last && nat_lt (send_len s payload) 16) None) ≡ None) =
    has_buffer msn (not (is_begun s.receive_queue.received.begun || nat_lt 0 s.receive_queue.free)) _ is in
    record {
      receive = free_or_begun (is_begun s.receive_queue.received.begun) s.receive_queue.free parts.0;
      fits = not_long last s.message_max (send_len s payload) (not_bad s.place REASON_LONG (last && nat_lt s.message_max (send_len s payload)) _ parts.1).0;
      enough = not_short last 16 (send_len s payload)
          (not_bad s.place REASON_SHORT (last && nat_lt (send_len s payload) 16) None (not_bad s.place REASON_LONG (last && nat_lt s.message_max (send_len s payload)) _ parts.1).1).0;
    }

never_none : (at : ℕ) (b : Bool) (word : ℕ) → bad_if at REASON_FORM b (Some (ends.Terminated word)) ≢ None
never_none at true word is = absurd cc
never_none at false word is = absurd cc

no_terminate : (s : LinkState) (last : Bool) (payload : List ℕ) → terminate_end s last payload ≢ None
unfolding terminate_end
no_terminate s last payload is = never_none s.place (is_malformed OPCODE_TERMINATE last payload) _ is

-- a Send that doesn't end the side
pub alive_any_send : (s : LinkState) (f : Frame) (last : Bool) (opcode w queue msn offset : ℕ) (payload : List ℕ) → f.at ≡ s.place → is_send opcode ≡ true →
    segment_end s f (Untagged last opcode w queue msn offset payload) ≡ None → SendIsFine s last payload
alive_any_send s f last opcode w queue msn offset payload at is lives =
    send_fine s last msn payload (any_send_end_lem s f last opcode w queue msn offset payload is at (alive_message s f last opcode w queue msn offset payload at lives) ∙ lives)

pub alive_send : (s : LinkState) (f : Frame) (last : Bool) (opcode w queue msn offset : ℕ) (payload : List ℕ) → f.at ≡ s.place → IsTrue (is_untagged_opcode opcode) → opcode ≢ OPCODE_READ_REQUEST →
    segment_end s f (Untagged last opcode w queue msn offset payload) ≡ None → (is_send opcode ≡ true) × SendIsFine s last payload
alive_send s f last opcode w queue msn offset payload at supported other lives =
    by (is_send opcode) refl
  where
    by : (b : Bool) → is_send opcode ≡ b → (is_send opcode ≡ true) × SendIsFine s last payload
    by true is = (is, alive_any_send s f last opcode w queue msn offset payload at is lives)
    by false is =
        let same : opcode ≡ OPCODE_TERMINATE = is_terminate opcode supported is other in
        let goes : segment_end s f (Untagged last OPCODE_TERMINATE w queue msn offset payload) ≡ None = subst (λ (o : ℕ). segment_end s f (Untagged last o w queue msn offset payload) ≡ None) same lives in
        absurd (no_terminate s last payload (terminate_end_lem s f last w queue msn offset payload at (alive_message s f last OPCODE_TERMINATE w queue msn offset payload at goes) ∙ goes))
