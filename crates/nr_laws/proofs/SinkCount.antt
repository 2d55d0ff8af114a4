-- A server of a matched link gives at most one STag for each Send that it receives.
use Rattle.std.proofs.Common.{◌≡◌, ℕ, ◌+◌, ◌≤◌, Bool, List, ◌++◌, length, Ok, refl, arith, length-append}
use Rattle.nr_xdr.specs.Item.{IsBytes}
use Rattle.nr_wire.specs.Segment.Segment.{Tagged}
use Rattle.nr_link.specs.Frames.{Frame}
use Rattle.nr_link.specs.Ending.{frame_segment}
use Rattle.nr_reduce.specs.ServerState.{PendingCall, ServerState, next_stag}
use Rattle.nr_reduce.specs.ServerReads.{regions_of, chunks_of}
use Rattle.nr_reduce.specs.ServerMessages.{verdict}
use Rattle.nr_reduce.specs.ServerMessages.Verdict.{MakesPending}
use Rattle.nr_reduce.specs.ServerFrames.{frame_effect}
use Rattle.nr_laws.proofs.FrameContents.{SentMessage, CompletesMessage, last_segment}
use Rattle.nr_laws.proofs.ServerInvariant.{length_from}
use Rattle.nr_laws.proofs.WritableOffers.{verdict_one}
use Rattle.nr_laws.proofs.OneChunk.{OneChunk}
use Rattle.nr_laws.proofs.EachEffect.{held_messages, held_responses, send_effect, tagged_effect_lem}

pub count_send : (k : ServerState) (f : Frame) (message : SentMessage) → CompletesMessage k.received message → IsBytes message.bytes → OneChunk message.bytes → frame_segment f ≡ Ok (last_segment k.received.sends message)
    → length (frame_effect k f).regions ≤ length k.regions + 1
count_send k f message completes bytes one is =
    send_effect k (λ m. IsBytes m × OneChunk m) (λ s. length s.regions ≤ length k.regions + 1)
    (held_messages k (λ m. IsBytes m × OneChunk m) (λ calls reads regions. length regions ≤ length k.regions + 1) (omega arith) pending) f message completes (bytes, one) is
  where
    pending : (place : ℕ) (message : List ℕ) (c : PendingCall) → IsBytes message × OneChunk message → verdict k message ≡ MakesPending c → length (k.regions ++ regions_of k place c) ≤ length k.regions + 1
    pending place message c good is =
        let few = verdict_one k message c good.0 good.1 is in
        omega (arith, length-append k.regions (regions_of k place c), length_from c.number place (next_stag k) c.lists (chunks_of c.lists), few)

pub count_tagged : (k : ServerState) (f : Frame) (last : Bool) (opcode stag to : ℕ) (payload : List ℕ) → frame_segment f ≡ Ok (Tagged last opcode stag to payload) → length (frame_effect k f).regions ≡ length k.regions
count_tagged k f last opcode stag to payload is =
    tagged_effect_lem k (λ s. length s.regions ≡ length k.regions) (held_responses k (λ calls reads regions. length regions ≡ length k.regions) refl (λ c s g. g) (λ r reads is. refl)) f last opcode stag to payload is
