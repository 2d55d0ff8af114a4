-- What a frame has of its content is what a side reads of it, if the side takes it: plain in kind, with the STag beside it.
use Rattle.std.proofs.Common.{◌≡◌, ℕ, Bool, true, false, cond, ◌&&◌, eqb, List, Option, None, Some, Result, Ok, Err, refl, sym, ap, ◌∙◌, ◌+◌}
use Rattle.std.proofs.lemmas.Option.{same_Some}
use Rattle.nr_wire.specs.Constants.{OPCODE_SEND_INVALIDATE, QUEUE_SEND, REASON_OPCODE}
use Rattle.nr_wire.specs.Segment.{Segment, opcode_of, opcode_in, segment_of}
use Rattle.nr_wire.specs.Segment.Segment.{Tagged, Untagged}
use Rattle.nr_link.specs.Output.{msn_word}
use Rattle.nr_link.specs.Frames.{Frame, is_hello}
use Rattle.nr_link.specs.Ending.{frame_segment, opcode_is_judged, segment_taken}
use Rattle.nr_link.specs.ReceiveState.{message_completed, stag_invalidated}
use Rattle.nr_link.proofs.TakenSegments.{taken_read, read_opcode, plain_taken, tagged_taken}
use Rattle.nr_reduce.specs.declared.mark.LinkParameters.{LinkParameters}
use Rattle.nr_reduce.specs.Events.RunEvent.{FrameReceived}
use Rattle.nr_reduce.specs.ClientState.{ClientState}
use Rattle.nr_reduce.specs.Client.{client_end, client_message_end, client_segment, segment_message, segment_names}
use Rattle.nr_reduce.specs.ServerState.{ServerState}
use Rattle.nr_reduce.specs.Server.{server_end}
use Rattle.nr_laws.specs.MessageSegments.{send_opcode, send_word}
use Rattle.nr_laws.proofs.FrameContents.{FrameContent, SentMessage, IsSent, Carries, IsPlainContent, IsTaken, name_in, numbered_segment, written_segment, last_segment, part_opcode}
use Rattle.nr_laws.proofs.FrameContents.FrameContent.{HelloFrame, PartFrame, SendFrame, RequestFrame, TaggedFrame}
use Rattle.nr_laws.proofs.NamedReplies.{message_end_in}
use Rattle.nr_laws.proofs.PlainSegments.{plain, plain_message, plain_other, plain_result, plain_segment, is_plain_send, other_read}
use Rattle.nr_laws.proofs.ReadFrames.{client_read, server_read}

-- ---- What is written, without the STags

abbrev plain_option : Option Segment → Option Segment
plain_option None = None
plain_option (Some s) = Some (plain s)

plain_last : (n : ℕ) (message : SentMessage) (named : Option ℕ) → plain_option (Some (Untagged true (send_opcode named) (send_word named true) QUEUE_SEND (msn_word (n + 1)) message.offset message.payload)) ≡ Some (last_segment n message)
plain_last n message None = refl
plain_last n message (Some stag) = refl

plain_numbered : (n r : ℕ) (p : FrameContent) → plain_option (written_segment n r p) ≡ numbered_segment n r p
plain_numbered n r HelloFrame = refl
plain_numbered n r (PartFrame true offset payload) = refl
plain_numbered n r (PartFrame false offset payload) = refl
plain_numbered n r (SendFrame message) = plain_last n message message.named
plain_numbered n r (RequestFrame sink at size stag to) = refl
plain_numbered n r (TaggedFrame last opcode stag to payload) = refl

abbrev names_option : Option Segment → Option ℕ
names_option None = None
names_option (Some s) = stag_invalidated s

last_names : (n : ℕ) (message : SentMessage) (named : Option ℕ) → names_option (Some (Untagged true (send_opcode named) (send_word named true) QUEUE_SEND (msn_word (n + 1)) message.offset message.payload)) ≡ named
last_names n message None = refl
last_names n message (Some stag) = refl

names_numbered : (n r : ℕ) (p : FrameContent) → names_option (written_segment n r p) ≡ name_in p
names_numbered n r HelloFrame = refl
names_numbered n r (PartFrame true offset payload) = refl
names_numbered n r (PartFrame false offset payload) = refl
names_numbered n r (SendFrame message) = last_names n message message.named
names_numbered n r (RequestFrame sink at size stag to) = refl
names_numbered n r (TaggedFrame last opcode stag to payload) = refl

-- ---- A frame that a side takes

carries_of : (b : Bool) (n r : ℕ) (f : Frame) (p : FrameContent) (sent : IsSent n r f p) → segment_taken b f.bytes ≡ Ok sent.segment → Carries b n r f p
carries_of b n r f p sent taken = record {
  behind = sent.behind;
  segment = plain sent.segment;
  is_segment = sym (plain_numbered n r p) ∙ ap plain_option sent.is_segment;
  reads = ap plain_result taken;
  names = ap segment_names taken ∙ ap names_option (sym sent.is_segment) ∙ names_numbered n r p;
}

-- whether a segment is of a Send with Invalidate
abbrev is_named : Option Segment → Bool
is_named None = false
is_named (Some s) = eqb (opcode_in s) OPCODE_SEND_INVALIDATE

taken_content : (b : Bool) (n r : ℕ) (f : Frame) (p : FrameContent) (s : Segment) → IsPlainContent p → written_segment n r p ≡ Some s → segment_of f.bytes ≡ Ok s → segment_taken b f.bytes ≡ Ok s
taken_content b n r f HelloFrame s h is reads = absurd cc
taken_content b n r f (PartFrame named offset payload) s h is reads =
    plain_taken b f.bytes s reads (ap is_named (sym is) ∙ ap (λ (x : Bool). eqb (part_opcode x) OPCODE_SEND_INVALIDATE) h)
taken_content b n r f (SendFrame message) s h is reads =
    plain_taken b f.bytes s reads (ap is_named (sym is) ∙ ap (λ (x : Option ℕ). eqb (send_opcode x) OPCODE_SEND_INVALIDATE) h)
taken_content b n r f (RequestFrame sink at size stag to) s h is reads = plain_taken b f.bytes s reads (ap is_named (sym is))
taken_content b n r f (TaggedFrame last opcode stag to payload) s h is reads =
    let same : Tagged last opcode stag to payload ≡ s = same_Some _ _ is in
    tagged_taken b f.bytes last opcode stag to payload (reads ∙ ap (λ (x : Segment). Ok x) (sym same)) ∙ ap (λ (x : Segment). Ok x) same

all_taken : (bytes : List ℕ) → segment_taken true bytes ≡ segment_of bytes
unfolding segment_taken
all_taken bytes = refl

pub carries_taken : (b : Bool) (n r : ℕ) (f : Frame) (p : FrameContent) → IsTaken b p → IsSent n r f p → Carries b n r f p
carries_taken true n r f p h sent = carries_of true n r f p sent (all_taken f.bytes ∙ sent.reads)
carries_taken false n r f p h sent = carries_of false n r f p sent (taken_content false n r f p sent.segment h sent.is_segment sent.reads)

-- a frame that doesn't end a side is taken
pub carries_at_client : (k : ClientState) (n r : ℕ) (f : Frame) (p : FrameContent) → client_end k (FrameReceived f) ≡ None → IsSent n r f p → Carries k.invalidates n r f p
carries_at_client k n r f p lives sent = carries_of k.invalidates n r f p sent (client_read k f sent.behind lives ∙ sent.reads)

pub carries_at_server : (opened : LinkParameters) (s : ServerState) (n r : ℕ) (f : Frame) (p : FrameContent) → server_end opened s (FrameReceived f) ≡ None → IsSent n r f p → Carries false n r f p
unfolding frame_segment
carries_at_server opened s n r f p lives sent = carries_of false n r f p sent (server_read opened s f sent.behind lives ∙ sent.reads)

-- ---- A side that takes no Send with Invalidate

not_named : (bytes : List ℕ) (s : Segment) → segment_taken false bytes ≡ Ok s → eqb (opcode_in s) OPCODE_SEND_INVALIDATE ≡ false
unfolding segment_taken
not_named bytes s is = by (eqb (opcode_of bytes) OPCODE_SEND_INVALIDATE) refl
  where
    reads : segment_of bytes ≡ Ok s
    reads = taken_read false bytes s is

    by : (b : Bool) → eqb (opcode_of bytes) OPCODE_SEND_INVALIDATE ≡ b → eqb (opcode_in s) OPCODE_SEND_INVALIDATE ≡ false
    by false e = ap (λ (n : ℕ). eqb n OPCODE_SEND_INVALIDATE) (sym (read_opcode bytes s reads)) ∙ e
    by true e =
        let bad : segment_taken false bytes ≡ Err REASON_OPCODE = (λ i. cond (e i && opcode_is_judged (reads i)) (Err REASON_OPCODE) (segment_of bytes)) in
        absurd (let wrong : Err REASON_OPCODE ≡ Ok s = sym bad ∙ is in cc)

pub unnamed_is : (bytes : List ℕ) (s : Segment) → plain_result (segment_taken false bytes) ≡ Ok s → segment_taken false bytes ≡ Ok s
unnamed_is bytes s plainly = by (segment_taken false bytes) refl plainly
  where
    by : (r : Result Segment ℕ) → segment_taken false bytes ≡ r → plain_result r ≡ Ok s → segment_taken false bytes ≡ Ok s
    by (Ok x) is e = is ∙ ap (λ (y : Segment). Ok y) (sym (plain_other x (not_named bytes x is))) ∙ e
    by (Err reason) is e = absurd cc

-- ---- What each side reads of a frame

pub segment_is : (n r : ℕ) (f : Frame) (p : FrameContent) (segment : Segment) → Carries false n r f p → numbered_segment n r p ≡ Some segment → frame_segment f ≡ Ok segment
unfolding frame_segment
segment_is n r f p segment is e = unnamed_is f.bytes segment (is.reads ∙ ap (λ (s : Segment). Ok s) (same_Some _ _ (sym is.is_segment ∙ e)))

pub plain_is : (k : ClientState) (f : Frame) (p : FrameContent) (segment : Segment) → Carries k.invalidates k.received.sends k.received.requests f p → numbered_segment k.received.sends k.received.requests p ≡ Some segment → plain_segment k f ≡ Ok segment
plain_is k f p segment is e = is.reads ∙ ap (λ (s : Segment). Ok s) (same_Some _ _ (sym is.is_segment ∙ e))

pub own_is : (k : ClientState) (f : Frame) (p : FrameContent) (segment : Segment) → Carries k.invalidates k.received.sends k.received.requests f p → numbered_segment k.received.sends k.received.requests p ≡ Some segment → is_plain_send segment ≡ false → client_segment k f ≡ Ok segment
own_is k f p segment is e other = other_read (client_segment k f) segment (plain_is k f p segment is e) other

-- why a client ends for the message that a segment completes
pub message_end_is : (k : ClientState) (f : Frame) (segment : Segment) → plain_segment k f ≡ Ok segment → message_end_in k f (client_segment k f) ≡ client_message_end k f (segment_names (client_segment k f)) (message_completed k.received segment)
message_end_is k f segment is =
    ap (λ (o : Option (List ℕ)). client_message_end k f (segment_names (client_segment k f)) o) (sym (plain_message k (client_segment k f)) ∙ ap (λ (r : Result Segment ℕ). segment_message k r) is)

-- a tagged segment is of no Send
pub carries_tagged : (n r : ℕ) (f : Frame) (last : Bool) (opcode stag to : ℕ) (payload : List ℕ) → is_hello f ≡ false → frame_segment f ≡ Ok (Tagged last opcode stag to payload) → Carries false n r f (TaggedFrame last opcode stag to payload)
unfolding frame_segment
carries_tagged n r f last opcode stag to payload behind is = record { behind = behind; segment = Tagged last opcode stag to payload; is_segment = refl; reads = ap plain_result is; names = ap segment_names is }
