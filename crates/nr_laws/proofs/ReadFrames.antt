-- A frame that doesn't end a side is read as its segment, whether or not the side takes Sends with Invalidate.
use Rattle.std.proofs.Common.{◌≡◌, ℕ, Bool, false, cond, None, Some, Result, Ok, Err, refl, sym, ap, ◌∙◌}
use Rattle.nr_wire.specs.declared.hello.Side.TheVariants.{Initiator, Responder}
use Rattle.nr_wire.specs.Hello.{hello_of}
use Rattle.nr_wire.specs.Segment.{Segment, segment_of}
use Rattle.nr_link.specs.declared.end.End.{End as Stop}
use Rattle.nr_link.specs.declared.end.End.TheVariants as ends
use Rattle.nr_link.specs.Frames.{Frame, is_hello}
use Rattle.nr_link.specs.Ending.{frame_segment, frame_end, frame_end_by, hello_end}
use Rattle.nr_link.proofs.TakenSegments.{frame_read, taken_read}
use Rattle.nr_reduce.specs.declared.mark.LinkParameters.{LinkParameters}
use Rattle.nr_reduce.specs.Events.RunEvent.{FrameReceived}
use Rattle.nr_reduce.specs.OfferedRegions.{region_grants}
use Rattle.nr_reduce.specs.ClientState.{ClientState}
use Rattle.nr_reduce.specs.Client.{client_end, client_readiness, client_segment, or_message_end, or_other_sizes}
use Rattle.nr_reduce.specs.ServerState.{ServerState}
use Rattle.nr_reduce.specs.Server.{server_end, server_readiness, or_refusal}

never : {A : Type 0} (end : Stop) → Some end ≡ None → A
never end wrong = absurd cc

pub server_read : (opened : LinkParameters) (k : ServerState) (f : Frame) → is_hello f ≡ false → server_end opened k (FrameReceived f) ≡ None → frame_segment f ≡ segment_of f.bytes
unfolding server_end frame_end
server_read opened k f behind lives = by (frame_segment f) refl
  where
    by : (r : Result Segment ℕ) → frame_segment f ≡ r → frame_segment f ≡ segment_of f.bytes
    by (Ok s) is = is ∙ sym (frame_read f s is)
    by (Err reason) is =
        let whole : server_end opened k (FrameReceived f) ≡ Some (ends.Bad f.at reason) =
        (λ i. cond (behind i) (hello_end (hello_of Initiator f.bytes)) (or_refusal k f (frame_end_by (server_readiness opened k) (region_grants f.end k.regions) f (is i)))) in
        never (ends.Bad f.at reason) (sym whole ∙ lives)

-- a frame that isn't taken ends a client
pub bad_frame : (k : ClientState) (f : Frame) (reason : ℕ) → is_hello f ≡ false → client_segment k f ≡ Err reason → client_end k (FrameReceived f) ≡ Some (ends.Bad f.at reason)
unfolding client_end
bad_frame k f reason behind is =
    ap (λ (b : Bool). cond b (or_other_sizes k f (hello_end (hello_of Responder f.bytes))) (or_message_end k f (frame_end_by (client_readiness k) (region_grants f.end k.regions) f (client_segment k f)))) behind
    ∙ ap (λ (r : Result Segment ℕ). or_message_end k f (frame_end_by (client_readiness k) (region_grants f.end k.regions) f r)) is

pub client_read : (k : ClientState) (f : Frame) → is_hello f ≡ false → client_end k (FrameReceived f) ≡ None → client_segment k f ≡ segment_of f.bytes
client_read k f behind lives = by (client_segment k f) refl
  where
    by : (r : Result Segment ℕ) → client_segment k f ≡ r → client_segment k f ≡ segment_of f.bytes
    by (Ok s) is = is ∙ sym (taken_read k.invalidates f.bytes s is)
    by (Err reason) is = never (ends.Bad f.at reason) (sym (bad_frame k f reason behind is) ∙ lives)
