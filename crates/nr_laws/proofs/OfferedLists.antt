-- The offer that a server reads of a message is one that can be written, and each message that it received is bytes.
use Rattle.std.proofs.Common.{◌≡◌, ℕ, Bool, true, false, cond, List, [], ◌∷◌, ◌++◌, None, Some, Result, Ok, Err, refl, sym, subst, arith}
use Rattle.std.proofs.lemmas.List.Elements.{All-nil}
use Rattle.nr_xdr.specs.Item.{IsBytes}
use Rattle.nr_xdr.specs.Items.{AllFit}
use Rattle.nr_header.specs.declared.header.Body.{Body}
use Rattle.nr_header.specs.declared.header.Body.TheVariants.{Msg, Nomsg, ErrVers, ErrChunk}
use Rattle.nr_header.specs.declared.header.Header.{Header}
use Rattle.nr_header.specs.Header.{body_items}
use Rattle.nr_header.specs.WithinLimits.{CanRead}
use Rattle.nr_header.specs.Reading.{header_of}
use Rattle.nr_header.proofs.Messages.{header_take}
use Rattle.nr_wire.specs.declared.hello.Side.TheVariants.{Responder}
use Rattle.nr_wire.specs.Segment.{Segment, segment_of}
use Rattle.nr_link.specs.Frames.{Frame, is_hello}
use Rattle.nr_link.specs.Ending.{frame_segment}
use Rattle.nr_link.proofs.TakenSegments.{frame_read}
use Rattle.nr_link.specs.ReceiveState.{ReceiveState, begun_bytes, message_completed}
use Rattle.nr_reduce.specs.declared.mark.Mark.{Mark}
use Rattle.nr_reduce.specs.declared.mark.LinkParameters.{LinkParameters}
use Rattle.nr_reduce.specs.Matched.{Matched}
use Rattle.nr_reduce.specs.Events.{RunEvent, events}
use Rattle.nr_reduce.specs.Events.RunEvent.{FrameReceived, CallSubmitted, MemoryRevoked, CallExecuted, QueueWritten, ServerTold}
use Rattle.nr_reduce.specs.EndRules.{EndState, end_state_after, next_end_state}
use Rattle.nr_reduce.specs.ChunkBytes.{IsOffer, lists_by}
use Rattle.nr_reduce.specs.Asked.{AskedSoFar}
use Rattle.nr_reduce.specs.Served.{ServedSoFar}
use Rattle.nr_reduce.specs.ServerState.{ServerState}
use Rattle.nr_reduce.specs.Server.{server_rules, initial_server, received_by}
use Rattle.nr_reduce.specs.RunLaws.{server_by}
use Rattle.nr_laws.specs.Typed.{IsTyped}
use Rattle.nr_laws.proofs.EventOutputs.{IsNext, place_after, GoesOn, later_preserve}
use Rattle.nr_laws.proofs.Words.{payload_bytes_lem}
use Rattle.nr_laws.proofs.ReceivedMessages.{received_event, one_step_lem, was_live_lem, server_receives}
use Rattle.nr_laws.proofs.ServerEvents.{received_bytes as bytes-after, completed_bytes}
use Rattle.nr_laws.proofs.ServerAlong.{ServerPlain}
use Rattle.nr_laws.proofs.ServerSide.{server_goes}
use Rattle.nr_laws.proofs.InlineReplies.{no_chunks}

-- ---- An offer that was read

pub no_offer_lem : IsOffer no_chunks
no_offer_lem = record {
  fits = (tt, (tt, (tt, tt)));
  within = record {
    read_segments = omega arith;
    read_ends = All-nil _;
    one_position = (0, All-nil _);
    write_chunks = omega arith;
    chunk_segments = All-nil _;
    write_segments = omega arith;
    write_ends = All-nil _;
    reply_segments = tt;
    reply_ends = tt;
  };
}

pub read_offer : (message : List ℕ) (h : Header) → IsBytes message → header_of message ≡ Ok h → IsOffer (lists_by h.body)
read_offer message h bytes is =
    let m = header_take message h bytes is in
    by h.body m.fits m.can
  where
    by : (b : Body) → AllFit (body_items h.xid h.credit b) → CanRead b (header_take message h bytes is).stream → IsOffer (lists_by b)
    by (Msg lists at) fits can = record { fits = fits.1.1.1.1; within = can.0 }
    by (Nomsg lists) fits can = record { fits = fits.1.1.1.1; within = can.1 }
    by (ErrVers version low high) fits can = no_offer_lem
    by (ErrChunk version) fits can = no_offer_lem

-- ---- A message that a server received is of bytes

begun_event : (h : ReceiveState) (place : ℕ) (e : RunEvent) → IsNext place e → IsBytes (begun_bytes h.begun) → IsBytes (begun_bytes (received_event h e).begun)
begun_event h place (FrameReceived f) next b = by (is_hello f) (segment_of f.bytes) refl
  where
    by : (c : Bool) (r : Result Segment ℕ) → segment_of f.bytes ≡ r → IsBytes (begun_bytes (cond c h (received_by h r)).begun)
    by true r is = b
    by false (Err reason) is = b
    by false (Ok segment) is = bytes-after h segment b (payload_bytes_lem f.bytes segment next.2 is)
begun_event h place (CallSubmitted p a) next b = b
begun_event h place (MemoryRevoked p xid) next b = b
begun_event h place (CallExecuted e) next b = b
begun_event h place (QueueWritten taken) next b = b
begun_event h place (ServerTold what) next b = b

-- so are those of a Send that has begun
begun_along : (opened : LinkParameters) (place : ℕ) (r : EndState ServerState) (es rest : List RunEvent) → GoesOn (server_rules opened) ServerPlain place r (es ++ rest) → (end_state_after (server_rules opened) r es).ended ≡ None
    → IsBytes (begun_bytes r.state.received.begun) → IsBytes (begun_bytes (end_state_after (server_rules opened) r es).state.received.begun)
begun_along opened place r [] rest g live b = b
begun_along opened place r (e ∷ es) rest g live b =
    let t = next_end_state (server_rules opened) r e in
    let same = one_step_lem (server_rules opened) (λ (k : ServerState). k.received) (server_receives opened) r e (was_live_lem (server_rules opened) t es live) in
    begun_along opened (place_after place e) t es rest g.2 live (subst (λ (h : ReceiveState). IsBytes (begun_bytes h.begun)) (sym same) (begun_event r.state.received place e g.0 b))

pub received_bytes : (opened : LinkParameters) (link : ℕ) (run : List Mark) → IsTyped run → AskedSoFar opened link run → ServedSoFar opened link run → Matched link run
    → (es : List RunEvent) (f : Frame) (rest : List RunEvent) (s : Segment) (message : List ℕ) → events link Responder run ≡ es ++ FrameReceived f ∷ rest → is_hello f ≡ false → frame_segment f ≡ Ok s
    → message_completed (server_by opened es).received s ≡ Some message → (end_state_after (server_rules opened) (initial_server opened) es).ended ≡ None → IsBytes message
received_bytes opened link run typed asked served matched es f rest s message all behind is whole live =
    let g = server_goes opened link run typed served in
    let goes = subst (λ (xs : List RunEvent). GoesOn (server_rules opened) ServerPlain 0 (initial_server opened) xs) all g.goes in
    let next = (later_preserve (server_rules opened) ServerPlain 0 (initial_server opened) es (FrameReceived f ∷ rest) goes).0 in
    let begun = begun_along opened 0 (initial_server opened) es (FrameReceived f ∷ rest) goes live (λ i. omega arith) in
    completed_bytes (server_by opened es).received s message begun (payload_bytes_lem f.bytes s next.2 (frame_read f s is)) whole
