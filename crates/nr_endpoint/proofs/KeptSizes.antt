-- An initiator that accepted a hello has agreed on the lengths of Sends of an earlier link, call after call.
use Rattle.std.proofs.Common.{◌≡◌, ℕ, Bool, true, false, cond, not, List, [], ◌∷◌, length, Option, Some, None, Result, Ok, Err, refl, sym, ap, ◌∙◌, eqb}
use Rattle.nr_wire.specs.Constants.{OPCODE_READ_RESPONSE}
use Rattle.nr_wire.specs.declared.hello.Side.{Side}
use Rattle.nr_wire.specs.declared.hello.Side.TheVariants.{Initiator, Responder}
use Rattle.nr_wire.specs.declared.stream.Awaited.{Awaited}
use Rattle.nr_wire.specs.declared.stream.Awaited.TheVariants.{Hello as HelloFrom, Fpdu}
use Rattle.nr_wire.specs.Hello.{Hello, hello_of}
use Rattle.nr_wire.specs.Segment.{Segment}
use Rattle.nr_wire.specs.Segment.Segment.{Tagged, Untagged}
use Rattle.nr_regions.specs.RegisteredMemory.{after_place}
use Rattle.nr_link.specs.declared.agreement.SideTerms.{SideTerms}
use Rattle.nr_link.specs.declared.agreement.Agreement.{Agreement}
use Rattle.nr_link.specs.declared.end.End.{End}
use Rattle.nr_link.specs.Frames.{Frame}
use Rattle.nr_endpoint.specs.Hellos.{has_same_sizes}
use Rattle.nr_endpoint.specs.LinkState.{LinkState, LinkSide, has_ended, initial_link}
use Rattle.nr_endpoint.specs.Judging.{agreed_with, segment_end, next_frame, with_frame, with_segment_by, with_fpdu, with_hello_from, with_other_sizes, with_peer_hello, with_effect, with_read_response, next_segment}
use Rattle.nr_endpoint.specs.Calls.{Call, after_call, after_calls}
use Rattle.nr_endpoint.specs.Calls.Call.{Feed, FeedOne, NextEvent, Post, Stop, OutOfMemory, Send, SendInvalidate, Hold, SendHeld, WriteRemote, ReadRemote, Drain, Register, Release, Invalidate}
use Rattle.nr_endpoint.specs.AgreedLaws.{KeepsSizes}
use Rattle.nr_endpoint.proofs.AlongFrames.{feed_keeps, feed_one_keeps}
use Rattle.nr_endpoint.proofs.HelloLaws.{IsOfPeer}

record Kept (earlier : Option Agreement) (a : Awaited) (side : Side) (own : Option Agreement) (has_hello : Bool) (agreed : Agreement) : Type 0 where
  of : side ≡ Initiator
  same : own ≡ earlier
  from : IsOfPeer Initiator a
  sizes : has_hello ≡ true → has_same_sizes earlier agreed ≡ true

module _ (earlier : Option Agreement) where
  abbrev SideKept : Awaited → LinkState → Type 0
  SideKept a s = Kept earlier a s.side s.earlier s.has_hello s.agreed

  abbrev LinkKept : LinkSide → Type 0
  LinkKept link = SideKept link.awaited link.state

  -- ---- A frame

  sizes_kept : (a : Awaited) (s : LinkState) (f : Frame) (hello : Hello) (b : Bool) → has_same_sizes s.earlier (agreed_with s hello.private) ≡ b → SideKept a s →
      SideKept Fpdu (cond (not b) (with_other_sizes f s) (with_peer_hello f (Ok hello) s))
  unfolding with_peer_hello
  sizes_kept a s f hello true is k = record {
    of = k.of;
    same = k.same;
    from = tt;
    sizes = λ some. ap (λ (o : Option Agreement). has_same_sizes o (agreed_with s hello.private)) (sym k.same) ∙ is;
  }
  sizes_kept a s f hello false is k = record { of = k.of; same = k.same; from = tt; sizes = k.sizes }

  hello_kept : (a : Awaited) (s : LinkState) (f : Frame) (r : Result Hello ℕ) → SideKept a s → SideKept Fpdu (with_hello_from Responder f r s)
  unfolding with_peer_hello
  hello_kept a s f (Ok hello) k = sizes_kept a s f hello (has_same_sizes s.earlier (agreed_with s hello.private)) refl k
  hello_kept a s f (Err reason) k = record { of = k.of; same = k.same; from = tt; sizes = k.sizes }

  placed_kept : (s : LinkState) (b last : Bool) (n : ℕ) → SideKept Fpdu s → SideKept Fpdu (cond b (with_read_response last n s) s)
  placed_kept s true last n k = k
  placed_kept s false last n k = k

  segment_kept : (s : LinkState) (f : Frame) (segment : Segment) (e : Option End) → SideKept Fpdu s → SideKept Fpdu (with_segment_by f segment e s)
  unfolding with_effect
  segment_kept s f segment (Some end) k = k
  segment_kept s f (Untagged last opcode w queue msn offset payload) None k = k
  segment_kept s f (Tagged last opcode stag to payload) None k =
      placed_kept (record s { memory = after_place s.memory stag to payload }) (eqb opcode OPCODE_READ_RESPONSE) last (length payload) k

  fpdu_kept : (s : LinkState) (f : Frame) (r : Result Segment ℕ) → SideKept Fpdu s → SideKept Fpdu (with_fpdu f r s)
  unfolding with_fpdu
  fpdu_kept s f (Ok segment) k = segment_kept s f segment (segment_end s f segment) k
  fpdu_kept s f (Err reason) k = k

  frame_kept : (a : Awaited) (s : LinkState) (frame : List ℕ) → has_ended s ≡ false → SideKept a s → SideKept Fpdu (with_frame s a frame)
  frame_kept (HelloFrom Initiator) s frame live k = absurd (let wrong : Initiator ≡ Responder = k.from in cc)
  frame_kept (HelloFrom Responder) s frame live k = hello_kept (HelloFrom Responder) s (next_frame s frame) (hello_of Responder frame) k
  frame_kept Fpdu s frame live k = fpdu_kept s (next_frame s frame) (next_segment s frame) k

  -- ---- A call

  either_kept : (a : Awaited) (s after : LinkState) (b : Bool) → SideKept a s → SideKept a after → SideKept a (cond b s after)
  either_kept a s after true k later = k
  either_kept a s after false k later = later

  call_kept : (link : LinkSide) (call : Call) → LinkKept link → LinkKept (after_call link call)
  unfolding after_call
  call_kept link (Feed piece) k = feed_keeps SideKept frame_kept link piece k
  call_kept link (FeedOne piece) k = feed_one_keeps SideKept frame_kept link piece k
  call_kept link NextEvent k = k
  call_kept link Post k = k
  call_kept link (Stop reason) k = either_kept link.awaited link.state _ (has_ended link.state) k k
  call_kept link OutOfMemory k = either_kept link.awaited link.state _ (has_ended link.state) k k
  call_kept link (Send message) k = either_kept link.awaited link.state _ (has_ended link.state) k k
  call_kept link (SendInvalidate stag message) k = either_kept link.awaited link.state _ (has_ended link.state) k k
  call_kept link (Hold message) k = either_kept link.awaited link.state _ (has_ended link.state) k k
  call_kept link (SendHeld message) k = either_kept link.awaited link.state _ (has_ended link.state) k k
  call_kept link (WriteRemote stag to bytes) k = either_kept link.awaited link.state _ (has_ended link.state) k k
  call_kept link (ReadRemote sink at stag to len) k = either_kept link.awaited link.state _ (has_ended link.state) k k
  call_kept link (Drain count) k = k
  call_kept link (Register buf right) k = k
  call_kept link (Release stag) k = k
  call_kept link (Invalidate stag) k = k

  calls_kept : (link : LinkSide) (calls : List Call) → LinkKept link → LinkKept (after_calls link calls)
  unfolding after_calls
  calls_kept link [] k = k
  calls_kept link (call ∷ calls) k = calls_kept (after_call link call) calls (call_kept link call k)

initial_kept : (receives first_stag : ℕ) (terms : SideTerms) (earlier : Option Agreement) → LinkKept earlier (initial_link Initiator receives first_stag terms earlier)
unfolding initial_link
initial_kept receives first_stag terms earlier = record { of = refl; same = refl; from = refl; sizes = λ some. absurd (let wrong : true ≡ false = sym some in cc) }

pub keeps_sizes_lem : KeepsSizes
keeps_sizes_lem receives first_stag terms earlier calls = (calls_kept earlier (initial_link Initiator receives first_stag terms earlier) calls (initial_kept receives first_stag terms earlier)).sizes
