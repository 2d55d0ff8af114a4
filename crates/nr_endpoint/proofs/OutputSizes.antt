-- How many bytes the output of a side has at most, by what is queued in it.
use Rattle.std.proofs.Common.{◌≡◌, ℕ, zero, suc, ◌+◌, ◌-◌, ◌*◌, ◌<◌, ◌≤◌, Bool, true, false, cond, eqb, List, [], ◌∷◌, ◌++◌, length, drop, replicate, refl, ap, ◌∙◌, inl, inr, arith, length-append, Option, None, Some}
use Rattle.std.specs.Prelude.{◌⊎◌}
use Rattle.std.specs.List.{flat_map, range_with_len}
use Rattle.std.proofs.lemmas.Bool.{cases_lt}
use Rattle.std.proofs.lemmas.List.{length-replicate, length-take, length-drop}
use Rattle.nr_xdr.specs.Item.{pad_len, word, hyper}
use Rattle.nr_xdr.proofs.WordBytes.{length_word, length_hyper}
use Rattle.nr_wire.specs.Fields.{half_word}
use Rattle.nr_wire.specs.Segment.{Segment, encoding, header, control, payload_in, tail_len, ulpdu_size}
use Rattle.nr_wire.specs.Segment.Segment.{Tagged, Untagged}
use Rattle.nr_wire.specs.Constants.{LENGTH_LEN, HELLO_LEN, NUMBERED_TERMS_LEN, UNITS_MAX, OPCODE_SEND, OPCODE_WRITE, OPCODE_READ_REQUEST, OPCODE_READ_RESPONSE, OPCODE_TERMINATE, QUEUE_SEND, QUEUE_READ_REQUEST, QUEUE_TERMINATE, REASON_FLAGS, OPCODE_SEND_INVALIDATE}
use Rattle.nr_wire.specs.Hello.{hello_encoding, key}
use Rattle.nr_wire.specs.declared.hello.Side.{Side}
use Rattle.nr_wire.specs.declared.hello.Side.TheVariants.{Initiator, Responder}
use Rattle.nr_wire.proofs.HalfWords.{length_half_word}
use Rattle.nr_link.specs.declared.end.End.{End}
use Rattle.nr_link.specs.declared.end.End.TheVariants as ends
use Rattle.nr_link.specs.Ending.{final_output, rejection, is_hello_reason}
use Rattle.nr_link.specs.Reasons.{denied_word, NO_BUFFER_WORD}
use Rattle.nr_link.specs.Limits.{segment_max, send_unit}
use Rattle.nr_link.specs.Output.{msn_word, cut, hello_with, read_request, read_response, refusing_hello, segment_count, segment_payload, send, terminate_message, write, send_by, send_invalidating}
use Rattle.nr_endpoint.specs.SendQueue.{SendQueue, ends_left, fpdus_written, send_output, with_end, with_fpdus, with_response, with_send, written, with_send_by}
use Rattle.nr_endpoint.specs.OutputSizes.{framing_max, frame_max, send_frames_max, request_max, hello_max, QueueWithin}
use Rattle.nr_endpoint.proofs.ItemEnds.{left_gone, left_kept, left_twice}

-- ---- A frame

header_len : (segment : Segment) → length (header 0 0 segment) ≤ 18
unfolding header
header_len (Tagged last opcode stag to payload) =
    omega (arith, length-append (control 0 0 true last opcode ++ word stag) (hyper to), length-append (control 0 0 true last opcode) (word stag), length_word stag, length_hyper to)
header_len (Untagged last opcode w queue msn offset payload) =
    omega (
      arith,
      length-append (control 0 0 false last opcode ++ word w ++ word queue ++ word msn) (word offset),
      length-append (control 0 0 false last opcode ++ word w ++ word queue) (word msn),
      length-append (control 0 0 false last opcode ++ word w) (word queue),
      length-append (control 0 0 false last opcode) (word w),
      length_word w,
      length_word queue,
      length_word msn,
      length_word offset,
    )

pad_small : (n : ℕ) → pad_len n ≤ 3
unfolding pad_len
pad_small n = omega arith

four : (a b c d : List ℕ) → length (a ++ b ++ c ++ d) ≡ length a + length b + length c + length d
four a b c d = omega (arith, length-append (a ++ b ++ c) d, length-append (a ++ b) c, length-append a b)

pub encoding_len : (segment : Segment) → length (encoding segment) ≤ length (payload_in segment) + framing_max
unfolding encoding
encoding_len segment =
    omega (
      arith,
      four (half_word (ulpdu_size segment)) (header 0 0 segment) (payload_in segment) (replicate (tail_len (ulpdu_size segment)) 0),
      length_half_word (ulpdu_size segment),
      header_len segment,
      length-replicate {A = ℕ} (tail_len (ulpdu_size segment)) 0,
      pad_small (LENGTH_LEN + ulpdu_size segment),
    )

-- each frame is short
abbrev AreShort : (ℕ → List ℕ) → Type 0
AreShort f = (i : ℕ) → length (f i) ≤ frame_max

frames_len : (f : ℕ → List ℕ) (start n : ℕ) → AreShort f → length (flat_map f (range_with_len start n)) ≤ frame_max * n
frames_len f start zero short = omega arith
frames_len f start (suc n) short =
    omega (arith, short start, length-append (f start) (flat_map f (range_with_len (start + 1) n)), frames_len f (start + 1) n short)

-- it has the payload that it is made of
abbrev pub IsOfPayload : (Bool → ℕ → List ℕ → Segment) → Type 0
IsOfPayload segment = (last : Bool) (offset : ℕ) (payload : List ℕ) → payload_in (segment last offset payload) ≡ payload

pub cut_len : (segment : Bool → ℕ → List ℕ → Segment) (bytes : List ℕ) → IsOfPayload segment → length (cut segment bytes) ≤ frame_max * segment_count bytes
unfolding cut
cut_len segment bytes of =
    frames_len (λ i. encoding (segment (eqb (i + 1) (segment_count bytes)) (segment_max * i) (segment_payload bytes i))) 0 (segment_count bytes)
    (λ i. one (segment (eqb (i + 1) (segment_count bytes)) (segment_max * i) (segment_payload bytes i)) i (of (eqb (i + 1) (segment_count bytes)) (segment_max * i) (segment_payload bytes i)))
  where
    one : (s : Segment) (i : ℕ) → payload_in s ≡ segment_payload bytes i → length (encoding s) ≤ frame_max
    one s i is =
        let len : length (payload_in s) ≡ length (segment_payload bytes i) = ap (λ (xs : List ℕ). length xs) is in
        omega (arith, encoding_len s, len, length-take segment_max (drop (segment_max * i) bytes))

-- ---- What is queued

pub send_len : (msn : ℕ) (message : List ℕ) → length message ≤ send_unit * UNITS_MAX → length (send msn message) ≤ send_frames_max
unfolding send
send_len msn message small =
    let len = cut_len (λ last offset payload. Untagged last OPCODE_SEND 0 QUEUE_SEND (msn_word msn) offset payload) message (λ last offset payload. refl) in
    omega (arith, small, len)

pub send_by_len : (named : Option ℕ) (msn : ℕ) (message : List ℕ) → length message ≤ send_unit * UNITS_MAX → length (send_by named msn message) ≤ send_frames_max
unfolding send_invalidating
send_by_len None msn message small = send_len msn message small
send_by_len (Some stag) msn message small =
    let len = cut_len (λ last offset payload. Untagged last OPCODE_SEND_INVALIDATE (cond last stag 0) QUEUE_SEND (msn_word msn) offset payload) message (λ last offset payload. refl) in
    omega (arith, small, len)

pub write_len : (stag to : ℕ) (bytes : List ℕ) → length (write stag to bytes) ≤ frame_max * segment_count bytes
unfolding write
write_len stag to bytes = cut_len (λ last offset payload. Tagged last OPCODE_WRITE stag (to + offset) payload) bytes (λ last offset payload. refl)

pub response_len : (stag to : ℕ) (bytes : List ℕ) → length (read_response stag to bytes) ≤ frame_max * segment_count bytes
unfolding read_response
response_len stag to bytes = cut_len (λ last offset payload. Tagged last OPCODE_READ_RESPONSE stag (to + offset) payload) bytes (λ last offset payload. refl)

pub request_len : (msn sink sink_to size stag to : ℕ) → length (read_request msn sink sink_to size stag to) ≤ request_max
unfolding read_request
request_len msn sink sink_to size stag to =
    let payload : List ℕ = word sink ++ (hyper sink_to ++ (word size ++ (word stag ++ hyper to))) in
    omega (
      arith,
      encoding_len (Untagged true OPCODE_READ_REQUEST 0 QUEUE_READ_REQUEST (msn_word msn) 0 payload),
      length-append (word sink) (hyper sink_to ++ (word size ++ (word stag ++ hyper to))),
      length-append (hyper sink_to) (word size ++ (word stag ++ hyper to)),
      length-append (word size) (word stag ++ hyper to),
      length-append (word stag) (hyper to),
      length_word sink,
      length_hyper sink_to,
      length_word size,
      length_word stag,
      length_hyper to,
    )

pub terminate_len : (n : ℕ) → length (terminate_message n) ≤ frame_max
unfolding terminate_message
terminate_len n = omega (arith, encoding_len (Untagged true OPCODE_TERMINATE 0 QUEUE_TERMINATE 1 0 (word n)), length_word n)

-- ---- What a side writes last, and a hello

pub last_len : (end : End) → length (final_output end) ≤ frame_max
unfolding final_output
last_len (ends.Bad at reason) = by (is_hello_reason reason)
  where
    by : (b : Bool) → length (cond b [] (terminate_message reason)) ≤ frame_max
    by true = omega arith
    by false = terminate_len reason
last_len (ends.Denied stag offset why) = terminate_len (denied_word why)
last_len (ends.NoBuffer msn) = terminate_len NO_BUFFER_WORD
last_len (ends.Terminated reason) = omega arith
last_len ends.Memory = omega arith

refusing_is : length refusing_hello ≡ HELLO_LEN
unfolding refusing_hello hello_encoding key half_word
refusing_is = refl

pub rejection_len : (side : Side) (end : End) → length (rejection side end) ≤ HELLO_LEN
rejection_len Initiator end = omega arith
rejection_len Responder (ends.Bad at reason) = by (eqb reason REASON_FLAGS)
  where
    by : (b : Bool) → length (cond b refusing_hello []) ≤ HELLO_LEN
    by true = omega (arith, refusing_is)
    by false = omega arith
rejection_len Responder (ends.Denied stag offset why) = omega arith
rejection_len Responder (ends.NoBuffer msn) = omega arith
rejection_len Responder (ends.Terminated reason) = omega arith
rejection_len Responder ends.Memory = omega arith

pub hello_len : (side : Side) (private : List ℕ) → length private ≤ NUMBERED_TERMS_LEN → length (hello_with side private) ≤ hello_max
unfolding hello_with hello_encoding key half_word
hello_len Initiator private short = omega (arith, short)
hello_len Responder private short = omega (arith, short)

-- ---- The items that end after an offset

count_kept : (n end : ℕ) (ends : List ℕ) → n < end → length (ends_left n (end ∷ ends)) ≡ length (ends_left n ends) + 1
count_kept n end ends lt = (let e : length (ends_left n (end ∷ ends)) ≡ length ((end - n) ∷ ends_left n ends) = ap (λ (xs : List ℕ). length xs) (left_kept n end ends lt) in omega (arith, e))

count_gone : (n end : ℕ) (ends : List ℕ) → end ≤ n → length (ends_left n (end ∷ ends)) ≡ length (ends_left n ends)
count_gone n end ends le = ap (λ (xs : List ℕ). length xs) (left_gone n end ends le)

pub count_more : (n y : ℕ) (ends : List ℕ) → n < y → length (ends_left n (ends ++ y ∷ [])) ≡ length (ends_left n ends) + 1
count_more n y [] lt = count_kept n y [] lt
count_more n y (end ∷ ends) lt = by (cases_lt n end) (count_more n y ends lt)
  where
    by : (n < end) ⊎ (end ≤ n) → length (ends_left n (ends ++ y ∷ [])) ≡ length (ends_left n ends) + 1 → length (ends_left n (end ∷ (ends ++ y ∷ []))) ≡ length (ends_left n (end ∷ ends)) + 1
    by (inl kept) rest = omega (arith, rest, count_kept n end (ends ++ y ∷ []) kept, count_kept n end ends kept)
    by (inr gone) rest = omega (arith, rest, count_gone n end (ends ++ y ∷ []) gone, count_gone n end ends gone)

-- ---- A queue stays within its bounds

-- with more bytes that no end is counted for
pub appended_within : (for_send for_response others spare more left : ℕ) (q : SendQueue) (bytes : List ℕ) → length bytes + left + others ≤ spare + more → QueueWithin for_send for_response others spare q →
    QueueWithin for_send for_response more left (with_fpdus bytes q)
appended_within for_send for_response others spare more left q bytes le fits n = omega (arith, length-append q.fpdus bytes, le, fits n)

one_more : (each n y : ℕ) (ends : List ℕ) → n < y → each * length (ends_left n (ends ++ y ∷ [])) ≡ each * length (ends_left n ends) + each
one_more each n y ends lt = ap (λ (k : ℕ). each * k) (count_more n y ends lt) ∙ omega arith

-- a Send
pub send_by_within : (for_send for_response others spare more left : ℕ) (q : SendQueue) (named : Option ℕ) (message : List ℕ) → length (send_output q named message) + left + others ≤ for_send + spare + more → left ≤ more → QueueWithin for_send for_response others spare q →
    QueueWithin for_send for_response more left (with_send_by named message q)
send_by_within for_send for_response others spare more left q named message le fewer fits n =
    let out : List ℕ = send_output q named message in
    let all = length-append q.fpdus out in
    elim (cases_lt n (length (q.fpdus ++ out))) [
      | inl kept ↦ omega (arith, le, all, fits n, one_more for_send n (length (q.fpdus ++ out)) q.send_ends kept)
      | inr gone ↦ omega (arith, gone, fewer)
    ]

pub send_within : (for_send for_response others spare more left : ℕ) (q : SendQueue) (message : List ℕ) → length (send_output q None message) + left + others ≤ for_send + spare + more → left ≤ more → QueueWithin for_send for_response others spare q →
    QueueWithin for_send for_response more left (with_send message q)
send_within for_send for_response others spare more left q message le fewer fits n = send_by_within for_send for_response others spare more left q None message le fewer fits n

-- a Read Response
pub response_within : (for_send for_response others spare more left : ℕ) (q : SendQueue) (stag to : ℕ) (bytes : List ℕ) → length (read_response stag to bytes) + left + others ≤ for_response + spare + more → left ≤ more →
    QueueWithin for_send for_response others spare q → QueueWithin for_send for_response more left (with_response stag to bytes q)
response_within for_send for_response others spare more left q stag to bytes le fewer fits n =
    let out : List ℕ = read_response stag to bytes in
    let all = length-append q.fpdus out in
    elim (cases_lt n (length (q.fpdus ++ out))) [
      | inl kept ↦ omega (arith, le, all, fits n, one_more for_response n (length (q.fpdus ++ out)) q.response_ends kept)
      | inr gone ↦ omega (arith, gone, fewer)
    ]

-- what a side writes last
pub end_within : (for_send for_response others spare : ℕ) (side : Side) (end : End) (q : SendQueue) → QueueWithin for_send for_response others spare q → QueueWithin for_send for_response (others + frame_max) spare (with_end side end q)
unfolding with_end
end_within for_send for_response others spare side end q fits n = omega (arith, length-append q.fpdus (final_output end), last_len end, fits n)

pub end_hello : (side : Side) (end : End) (q : SendQueue) → length (with_end side end q).hello ≡ length q.hello + length (rejection side end)
unfolding with_end
end_hello side end q = length-append q.hello (rejection side end)

pub end_held : (side : Side) (end : End) (q : SendQueue) → (with_end side end q).held ≡ q.held
unfolding with_end
end_held side end q = refl

-- some bytes were written
fpdus_within : (for_send for_response others spare m : ℕ) (q : SendQueue) → QueueWithin for_send for_response others spare q → QueueWithin for_send for_response others spare (fpdus_written m q)
fpdus_within for_send for_response others spare m q fits n =
    let sends : for_send * length (ends_left n (ends_left m q.send_ends)) ≡ for_send * length (ends_left (m + n) q.send_ends) = ap (λ (xs : List ℕ). for_send * length xs) (left_twice m n q.send_ends) in
    let responses : for_response * length (ends_left n (ends_left m q.response_ends)) ≡ for_response * length (ends_left (m + n) q.response_ends) = ap (λ (xs : List ℕ). for_response * length xs) (left_twice m n q.response_ends) in
    omega (arith, sends, responses, fits (m + n), length-drop m q.fpdus)

pub written_within : (for_send for_response others spare n : ℕ) (q : SendQueue) → QueueWithin for_send for_response others spare q → QueueWithin for_send for_response others spare (written n q)
unfolding written
written_within for_send for_response others spare n q fits = fpdus_within for_send for_response others spare (n - length q.hello) (record q { hello = drop n q.hello }) fits

pub written_hello : (n : ℕ) (q : SendQueue) → length (written n q).hello ≤ length q.hello
unfolding written
written_hello n q = omega (arith, length-drop n q.hello)

pub written_held : (n : ℕ) (q : SendQueue) → (written n q).held ≡ q.held
unfolding written
written_held n q = refl
