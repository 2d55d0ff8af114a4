-- The output of an end is the bytes of its frame contents.
use Rattle.std.proofs.Common.{◌≡◌, ℕ, ◌+◌, ◌*◌, zero, suc, true, false, eqb, List, [], ◌∷◌, ◌++◌, map, refl, sym, ap, ◌∙◌, arith, add-zero}
use Rattle.std.specs.List.{flat_map, range_with_len}
use Rattle.nr_wire.specs.Constants.{OPCODE_WRITE, OPCODE_READ_RESPONSE, QUEUE_SEND}
use Rattle.nr_wire.specs.declared.hello.Side.{Side}
use Rattle.nr_wire.specs.declared.hello.Side.TheVariants.{Initiator, Responder}
use Rattle.nr_wire.specs.Segment.{encoding, Segment}
use Rattle.nr_wire.specs.Segment.Segment.{Tagged, Untagged}
use Rattle.nr_reduce.specs.declared.mark.LinkParameters.{LinkParameters}
use Rattle.nr_link.specs.Limits.{segment_max}
use Rattle.nr_link.specs.Output.{msn_word, segment_count, segment_payload, cut, send, write, read_response, read_request, send_by, send_invalidating}
use Rattle.nr_reduce.specs.ServerState.{ServerState, PendingRead}
use Rattle.nr_reduce.specs.ServerFrames.{FrameEffect}
use Rattle.nr_reduce.specs.Server.{sends_from, requests_from, newly_open_reads, effect_output}
use Rattle.nr_reduce.specs.ClientState.{OutstandingCall}
use Rattle.nr_reduce.specs.Client.{calls_output}
use Rattle.nr_laws.proofs.FrameContents.{FrameContent, output_bytes, total_of, sends_in, requests_in, tagged_frame, tagged_frames, request_frame, effect_frames, part_frame, last_part, last_index, send_frames, errors_frames, calls_frames, part_opcode, written_part}
use Rattle.nr_laws.proofs.FrameContents.FrameContent.{SendFrame}
use Rattle.nr_laws.proofs.StreamFrames.{spelled_append}
use Rattle.nr_laws.proofs.Outputs.{message_of_call}
use Rattle.nr_laws.proofs.SegmentedMessages.{is_last_lem, not_last}
use Rattle.nr_laws.proofs.SendFrames.{send_counts, sends_zero}
use Rattle.std.specs.Prelude.{is_some, Option, None, Some}
use Rattle.nr_laws.specs.MessageSegments.{named_segment, send_opcode, send_word}

-- numbers that don't change
same_numbers : (opened : LinkParameters) (side : Side) (n r : ℕ) (ps : List FrameContent) → output_bytes opened side (n + 0) (r + 0) ps ≡ output_bytes opened side n r ps
same_numbers opened side n r ps = λ i. output_bytes opened side (add-zero n i) (add-zero r i) ps

-- ---- A Send

-- a segment that isn't the last
part_is : (named : Option ℕ) (msn offset : ℕ) (payload : List ℕ) → Untagged false (send_opcode named) (send_word named false) QUEUE_SEND msn offset payload ≡ Untagged false (part_opcode (is_some named)) 0 QUEUE_SEND msn offset payload
part_is None msn offset payload = refl
part_is (Some stag) msn offset payload = refl

message_segments_said : (opened : LinkParameters) (side : Side) (n r : ℕ) (named : Option ℕ) (message : List ℕ) (k i : ℕ) → i + k ≡ last_index message
    → flat_map (λ j. encoding (named_segment named (n + 1) message j)) (range_with_len i (suc k))
    ≡ output_bytes opened side n r (map (part_frame named message) (range_with_len i k) ++ SendFrame (last_part named message) ∷ [])
message_segments_said opened side n r named message zero i all =
    let last : i ≡ last_index message = omega (arith, all) in
    let ends : eqb (i + 1) (segment_count message) ≡ true = is_last_lem i (segment_count message) (omega (arith, all)) in
    λ j. encoding (Untagged (ends j) (send_opcode named) (send_word named (ends j)) QUEUE_SEND (msn_word (n + 1)) (segment_max * last j) (segment_payload message (last j))) ++ []
message_segments_said opened side n r named message (suc k) i all =
    let more : eqb (i + 1) (segment_count message) ≡ false = not_last i k (segment_count message) (omega (arith, all)) in
    let later = map (part_frame named message) (range_with_len (i + 1) k) ++ SendFrame (last_part named message) ∷ [] in
    (λ j. encoding (Untagged (more j) (send_opcode named) (send_word named (more j)) QUEUE_SEND (msn_word (n + 1)) (segment_max * i) (segment_payload message i)) ++ message_segments_said opened side n r named message k (i + 1) (omega (arith, all)) j)
    ∙ ap (λ (s : Segment). encoding s ++ output_bytes opened side n r later) (part_is named (msn_word (n + 1)) (segment_max * i) (segment_payload message i))
    ∙ ap (λ (xs : List ℕ). encoding (written_part n (is_some named) (segment_max * i) (segment_payload message i)) ++ xs) (sym (same_numbers opened side n r later))

pub message_said : (opened : LinkParameters) (side : Side) (n r : ℕ) (named : Option ℕ) (message : List ℕ) → send_by named (n + 1) message ≡ output_bytes opened side n r (send_frames named message)
unfolding send send_invalidating cut send_frames
message_said opened side n r None message =
    let count : segment_count message ≡ suc (last_index message) = omega arith in
    ap (λ (k : ℕ). flat_map (λ j. encoding (named_segment None (n + 1) message j)) (range_with_len 0 k)) count
    ∙ message_segments_said opened side n r None message (last_index message) 0 (omega arith)
message_said opened side n r (Some stag) message =
    let count : segment_count message ≡ suc (last_index message) = omega arith in
    ap (λ (k : ℕ). flat_map (λ j. encoding (named_segment (Some stag) (n + 1) message j)) (range_with_len 0 k)) count
    ∙ message_segments_said opened side n r (Some stag) message (last_index message) 0 (omega arith)

-- a message and what comes after it
pub message_first : (opened : LinkParameters) (side : Side) (n r : ℕ) (message : List ℕ) (ps : List FrameContent) → send (n + 1) message ++ output_bytes opened side (n + 1) r ps ≡ output_bytes opened side n r (send_frames None message ++ ps)
message_first opened side n r message ps =
    let sends : n + 1 ≡ n + total_of sends_in (send_frames None message) = omega (arith, send_counts sends_in 1 (λ named offset payload. refl) (λ m. refl) None message) in
    let requests : r ≡ r + total_of requests_in (send_frames None message) = omega (arith, send_counts requests_in 0 (λ named offset payload. refl) (λ m. refl) None message) in
    (λ i. message_said opened side n r None message i ++ output_bytes opened side (sends i) (requests i) ps)
    ∙ sym (spelled_append opened side n r (send_frames None message) ps)

sends_said : (opened : LinkParameters) (side : Side) (n r : ℕ) (messages : List (List ℕ)) → sends_from (n + 1) messages ≡ output_bytes opened side n r (errors_frames messages)
sends_said opened side n r [] = refl
sends_said opened side n r (m ∷ messages) = ap (λ (xs : List ℕ). send (n + 1) m ++ xs) (sends_said opened side (n + 1) r messages) ∙ message_first opened side n r m (errors_frames messages)

requests_said : (opened : LinkParameters) (side : Side) (n r : ℕ) (reads : List PendingRead) → requests_from (r + 1) reads ≡ output_bytes opened side n r (map request_frame reads)
unfolding read_request
requests_said opened side n r [] = refl
requests_said opened side n r (x ∷ reads) =
    ap (λ (xs : List ℕ). read_request (r + 1) x.sink x.at x.size x.stag x.to ++ xs)
    (requests_said opened side n (r + 1) reads ∙ ap (λ (k : ℕ). output_bytes opened side k (r + 1) (map request_frame reads)) (sym (add-zero n)))

pub step_said : (opened : LinkParameters) (k : ServerState) (st : FrameEffect) → effect_output k st ≡ output_bytes opened Responder k.messages_queued k.requests_sent (effect_frames st)
step_said opened k st =
    let none : total_of requests_in (errors_frames st.errors) ≡ 0 = sends_zero requests_in (λ (m : List ℕ). m) st.errors (λ named offset payload. refl) (λ m. refl) in
    (λ i. sends_said opened Responder k.messages_queued k.requests_sent st.errors i ++ requests_said opened Responder (k.messages_queued + total_of sends_in (errors_frames st.errors)) k.requests_sent (newly_open_reads st) i)
    ∙ ap (λ (r : ℕ). output_bytes opened Responder k.messages_queued k.requests_sent (errors_frames st.errors) ++ output_bytes opened Responder (k.messages_queued + total_of sends_in (errors_frames st.errors)) r (map request_frame (newly_open_reads st)))
    (sym (ap (λ (x : ℕ). k.requests_sent + x) none ∙ add-zero k.requests_sent))
    ∙ sym (spelled_append opened Responder k.messages_queued k.requests_sent (errors_frames st.errors) (map request_frame (newly_open_reads st)))

-- ---- Accesses

tagged_said : (opened : LinkParameters) (side : Side) (n r opcode stag to : ℕ) (bytes : List ℕ) (is : List ℕ) →
    flat_map (λ i. encoding (Tagged (eqb (i + 1) (segment_count bytes)) opcode stag (to + segment_max * i) (segment_payload bytes i))) is ≡ output_bytes opened side n r (map (tagged_frame opcode stag to bytes) is)
tagged_said opened side n r opcode stag to bytes [] = refl
tagged_said opened side n r opcode stag to bytes (i ∷ is) =
    ap (λ (xs : List ℕ). encoding (Tagged (eqb (i + 1) (segment_count bytes)) opcode stag (to + segment_max * i) (segment_payload bytes i)) ++ xs)
    (tagged_said opened side n r opcode stag to bytes is ∙ sym (same_numbers opened side n r (map (tagged_frame opcode stag to bytes) is)))

pub write_said : (opened : LinkParameters) (side : Side) (n r stag to : ℕ) (bytes : List ℕ) → write stag to bytes ≡ output_bytes opened side n r (tagged_frames OPCODE_WRITE stag to bytes)
unfolding write cut tagged_frames
write_said opened side n r stag to bytes = tagged_said opened side n r OPCODE_WRITE stag to bytes (range_with_len 0 (segment_count bytes))

pub response_said : (opened : LinkParameters) (side : Side) (n r stag to : ℕ) (bytes : List ℕ) → read_response stag to bytes ≡ output_bytes opened side n r (tagged_frames OPCODE_READ_RESPONSE stag to bytes)
unfolding read_response cut tagged_frames
response_said opened side n r stag to bytes = tagged_said opened side n r OPCODE_READ_RESPONSE stag to bytes (range_with_len 0 (segment_count bytes))

-- ---- What a client asks

pub outs_said : (opened : LinkParameters) (n r : ℕ) (outs : List OutstandingCall) → calls_output opened (n + 1) outs ≡ output_bytes opened Initiator n r (calls_frames opened outs)
outs_said opened n r [] = refl
outs_said opened n r (o ∷ outs) =
    ap (λ (xs : List ℕ). send (n + 1) (message_of_call opened o) ++ xs) (outs_said opened (n + 1) r outs) ∙ message_first opened Initiator n r (message_of_call opened o) (calls_frames opened outs)
