-- What a server sends can be written, and its output is the bytes of it; the offers of its calls stay within their limits.
use Rattle.std.proofs.Common.{◌≡◌, ℕ, ◌+◌, min, Bool, true, false, cond, eqb, List, [], ◌∷◌, ◌++◌, length, map, take, drop, Option, Some, None, Ok, refl, sym, ap, ◌∙◌, arith, lit<, length-take, append_assoc}
use Rattle.nr_xdr.specs.Item.{IsBytes}
use Rattle.nr_wire.specs.Constants.{OPCODE_WRITE}
use Rattle.nr_wire.specs.declared.hello.Side.TheVariants.{Responder}
use Rattle.nr_wire.specs.Segment.Segment.{Tagged}
use Rattle.nr_header.specs.declared.header.RdmaSegment.{RdmaSegment}
use Rattle.nr_header.specs.declared.header.ChunkLists.{ChunkLists}
use Rattle.nr_rpc.specs.declared.head.CallTarget.{CallTarget}
use Rattle.nr_rpc.specs.Reading.{call_of, target_of}
use Rattle.nr_link.specs.Frames.{Frame}
use Rattle.nr_link.specs.Output.{write, send_by}
use Rattle.nr_link.specs.Ending.{frame_segment}
use Rattle.nr_reduce.proofs.OwnLimits.{ServerLimits}
use Rattle.nr_reduce.specs.Holds.{Answer, answer_message, answer_writes, writes_into, chunk_error, first_chunk, no_segments}
use Rattle.nr_reduce.specs.History.{ExecutedCall}
use Rattle.nr_reduce.specs.ServerState.{PendingRead, ServerState, credit_word}
use Rattle.nr_reduce.specs.ServerFrames.{FrameEffect, frame_effect}
use Rattle.nr_reduce.specs.Server.{newly_open_reads, offer_of, answer_of_target, answer_output, execution_output, stag_named}
use Rattle.nr_reduce.specs.declared.mark.LinkParameters.{LinkParameters}
use Rattle.nr_laws.proofs.FrameContents.{SentMessage, CompletesMessage, last_segment, FrameContent, output_bytes, total_of, sends_in, requests_in, request_frame, effect_frames, write_frames, answer_frames, tagged_frames, part_segment, send_frames, errors_frames}
use Rattle.nr_laws.proofs.TotalsAtServer.{fills_none, long_none}
use Rattle.nr_laws.proofs.StreamFrames.{spelled_append}
use Rattle.nr_laws.proofs.OutputFrames.{write_said, message_said}
use Rattle.nr_laws.proofs.Writable.{AreWritable, all_proper_append, tagged_proper, send_proper}
use Rattle.nr_laws.proofs.ServerOutputs.{chunk_error_short, CallsFit, answer_short_lem, for_target, found_fits, IsFine, fine_messages, fine_responses, errors_short}
use Rattle.nr_laws.proofs.WritableOffers.{SegmentsFit, OfferFits}
use Rattle.nr_laws.proofs.Outputs.{IsShort, AreShort}
use Rattle.nr_laws.proofs.EachEffect.{send_effect, tagged_effect_lem, part_effect}
use Rattle.nr_laws.proofs.NamedStags.{IsStagWord, named_word_lem}

-- ---- The calls of a server

-- of a Send, and of a tagged segment
pub record SaysFine (s : FrameEffect) : Type 0 where
  pub short : AreShort s.errors
  pub fit : CallsFit s.calls
  pub proper : AreWritable (effect_frames s)

pub short_proper : (named : Option ℕ) (message : List ℕ) → IsStagWord named → IsShort message → AreWritable (send_frames named message)
short_proper named message word short = send_proper named message word (omega (arith, short))

sends_proper : (messages : List (List ℕ)) → AreShort messages → AreWritable (errors_frames messages)
sends_proper [] h = tt
sends_proper (m ∷ messages) h = all_proper_append (send_frames None m) (errors_frames messages) (short_proper None m tt h.0) (sends_proper messages h.1)

reads_proper : (reads : List PendingRead) → AreWritable (map request_frame reads)
reads_proper [] = tt
reads_proper (r ∷ reads) = (tt, reads_proper reads)

says_fine : (s : FrameEffect) → IsFine s → SaysFine s
says_fine s h =
    let short = errors_short s.errors h.errors in
    record { short = short; fit = h.fit; proper = all_proper_append (errors_frames s.errors) (map request_frame (newly_open_reads s)) (sends_proper s.errors short) (reads_proper (newly_open_reads s)) }

pub fine_send : (k : ServerState) (f : Frame) (message : SentMessage) → CompletesMessage k.received message → IsBytes message.bytes → CallsFit k.calls → frame_segment f ≡ Ok (last_segment k.received.sends message) → SaysFine (frame_effect k f)
fine_send k f message completes bytes h is = says_fine (frame_effect k f) (send_effect k IsBytes IsFine (fine_messages k h) f message completes bytes is)

-- of a segment of a Send that isn't its last
pub fine_part : (k : ServerState) (f : Frame) (offset : ℕ) (payload : List ℕ) → CallsFit k.calls → frame_segment f ≡ Ok (part_segment k.received.sends offset payload) → SaysFine (frame_effect k f)
fine_part k f offset payload h is = says_fine (frame_effect k f) (part_effect k IsFine (fine_responses k h).unchanged f offset payload is)

pub fine_tagged : (k : ServerState) (f : Frame) (last : Bool) (opcode stag to : ℕ) (payload : List ℕ) → CallsFit k.calls → frame_segment f ≡ Ok (Tagged last opcode stag to payload) → SaysFine (frame_effect k f)
fine_tagged k f last opcode stag to payload h is = says_fine (frame_effect k f) (tagged_effect_lem k IsFine (fine_responses k h) f last opcode stag to payload is)

-- ---- Answers

fills_proper : (chunk : List RdmaSegment) (bytes : List ℕ) → SegmentsFit chunk → AreWritable (write_frames chunk bytes)
fills_proper [] bytes h = tt
fills_proper (s ∷ chunk) bytes h =
    all_proper_append (cond (eqb (min s.length (length bytes)) 0) [] (tagged_frames OPCODE_WRITE s.handle s.offset (take s.length bytes))) (write_frames chunk (drop s.length bytes))
    (by (eqb (min s.length (length bytes)) 0)) (fills_proper chunk (drop s.length bytes) h.1)
  where
    by : (b : Bool) → AreWritable (cond b [] (tagged_frames OPCODE_WRITE s.handle s.offset (take s.length bytes)))
    by true = tt
    by false = tagged_proper OPCODE_WRITE s.handle s.offset (take s.length bytes) refl (lit< tt) h.0.0 h.0.1 (omega (arith, h.0.2, length-take s.length bytes))

answer_proper : (k : ServerState) → ServerLimits k → (xid : ℕ) (offer : ChunkLists) (reply : List ℕ) (t : Option CallTarget) (o : Option Answer) → answer_of_target offer k.down_max reply t ≡ o → OfferFits offer → AreWritable (answer_frames k xid offer o)
answer_proper k l xid offer reply t None e fits = short_proper None (chunk_error xid (credit_word k)) tt (chunk_error_short xid (credit_word k))
answer_proper k l xid offer reply t (Some a) e fits =
    let down = l.down.1 in
    let target = for_target offer k.down_max reply t a e in
    let short = answer_short_lem offer k.down_max target.0 target.1 target.2 xid (credit_word k) reply a (omega (arith, down)) fits target.3 in
    all_proper_append (write_frames (first_chunk offer.write) a.moved) (cond a.long (write_frames (no_segments offer.reply) a.stream) [] ++ send_frames (stag_named k.invalidates offer) (answer_message xid (credit_word k) offer a))
    (fills_proper (first_chunk offer.write) a.moved fits.writes)
    (all_proper_append (cond a.long (write_frames (no_segments offer.reply) a.stream) []) (send_frames (stag_named k.invalidates offer) (answer_message xid (credit_word k) offer a)) (by a.long) (short_proper (stag_named k.invalidates offer) (answer_message xid (credit_word k) offer a) (named_word_lem k.invalidates offer fits) short))
  where
    by : (b : Bool) → AreWritable (cond b (write_frames (no_segments offer.reply) a.stream) [])
    by true = fills_proper (no_segments offer.reply) a.stream fits.replies
    by false = tt

abbrev pub execution_frames : ServerState → ExecutedCall → List FrameContent
execution_frames k e = answer_frames k e.xid (offer_of k e.xid) (answer_of_target (offer_of k e.xid) k.down_max e.reply (target_of (call_of e.payload)))

writes_said : (opened : LinkParameters) (n r : ℕ) (chunk : List RdmaSegment) (bytes : List ℕ) → writes_into chunk bytes ≡ output_bytes opened Responder n r (write_frames chunk bytes)
writes_said opened n r [] bytes = refl
writes_said opened n r (s ∷ chunk) bytes =
    (λ i. by (eqb (min s.length (length bytes)) 0) i ++ writes_said opened (n + total_of sends_in first) (r + total_of requests_in first) chunk (drop s.length bytes) i)
    ∙ sym (spelled_append opened Responder n r first (write_frames chunk (drop s.length bytes)))
  where
    first : List FrameContent
    first = cond (eqb (min s.length (length bytes)) 0) [] (tagged_frames OPCODE_WRITE s.handle s.offset (take s.length bytes))

    by : (b : Bool) → cond b [] (write s.handle s.offset (take s.length bytes)) ≡ output_bytes opened Responder n r (cond b [] (tagged_frames OPCODE_WRITE s.handle s.offset (take s.length bytes)))
    by true = refl
    by false = write_said opened Responder n r s.handle s.offset (take s.length bytes)

long_said : (opened : LinkParameters) (n r : ℕ) (b : Bool) (chunk : List RdmaSegment) (bytes : List ℕ) → cond b (writes_into chunk bytes) [] ≡ output_bytes opened Responder n r (cond b (write_frames chunk bytes) [])
long_said opened n r true chunk bytes = writes_said opened n r chunk bytes
long_said opened n r false chunk bytes = refl

answer_said : (opened : LinkParameters) (k : ServerState) (r xid : ℕ) (offer : ChunkLists) (o : Option Answer) → answer_output k xid offer o ≡ output_bytes opened Responder k.messages_queued r (answer_frames k xid offer o)
unfolding answer_writes
answer_said opened k r xid offer None = message_said opened Responder k.messages_queued r None (chunk_error xid (credit_word k))
answer_said opened k r xid offer (Some a) =
    let n = k.messages_queued in
    let named = stag_named k.invalidates offer in
    let message = answer_message xid (credit_word k) offer a in
    let moved = write_frames (first_chunk offer.write) a.moved in
    let long = cond a.long (write_frames (no_segments offer.reply) a.stream) [] in
    let moved_sends : total_of sends_in moved ≡ 0 = fills_none sends_in (λ last stag to payload. refl) (first_chunk offer.write) a.moved in
    let moved_reads : total_of requests_in moved ≡ 0 = fills_none requests_in (λ last stag to payload. refl) (first_chunk offer.write) a.moved in
    let long_sends : total_of sends_in long ≡ 0 = long_none sends_in (λ last stag to payload. refl) a.long (no_segments offer.reply) a.stream in
    let long_reads : total_of requests_in long ≡ 0 = long_none requests_in (λ last stag to payload. refl) a.long (no_segments offer.reply) a.stream in
    let moved_n : n + total_of sends_in moved ≡ n = omega (arith, moved_sends) in
    let moved_r : r + total_of requests_in moved ≡ r = omega (arith, moved_reads) in
    let long_n : n + total_of sends_in long ≡ n = omega (arith, long_sends) in
    let long_r : r + total_of requests_in long ≡ r = omega (arith, long_reads) in
    append_assoc (writes_into (first_chunk offer.write) a.moved) (cond a.long (writes_into (no_segments offer.reply) a.stream) []) (send_by named (n + 1) message)
    ∙ (λ i. writes_said opened n r (first_chunk offer.write) a.moved i ++ (long_said opened n r a.long (no_segments offer.reply) a.stream i ++ message_said opened Responder n r named message i))
    ∙ ap (λ (xs : List ℕ). output_bytes opened Responder n r moved ++ xs)
    ((λ i. output_bytes opened Responder n r long ++ output_bytes opened Responder (sym long_n i) (sym long_r i) (send_frames named message))
    ∙ sym (spelled_append opened Responder n r long (send_frames named message))
    ∙ (λ i. output_bytes opened Responder (sym moved_n i) (sym moved_r i) (long ++ (send_frames named message))))
    ∙ sym (spelled_append opened Responder n r moved (long ++ (send_frames named message)))

pub execution_proper : (k : ServerState) (e : ExecutedCall) → ServerLimits k → CallsFit k.calls → AreWritable (execution_frames k e)
execution_proper k e l h = answer_proper k l e.xid (offer_of k e.xid) e.reply (target_of (call_of e.payload)) _ refl (found_fits e.xid k.calls h)

pub execution_said : (opened : LinkParameters) (k : ServerState) (r : ℕ) (e : ExecutedCall) → execution_output k e ≡ output_bytes opened Responder k.messages_queued r (execution_frames k e)
unfolding execution_output
execution_said opened k r e = answer_said opened k r e.xid (offer_of k e.xid) (answer_of_target (offer_of k e.xid) k.down_max e.reply (target_of (call_of e.payload)))
