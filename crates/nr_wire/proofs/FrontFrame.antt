-- A frame at the front of some bytes.
use Rattle.nr_wire.specs.Next.Next.{More}
use Rattle.nr_wire.specs.Next.{hello_in, segment_in, frame_answer}
use Rattle.nr_wire.specs.Segment.{segment_of}
use Rattle.nr_wire.specs.Hello.{hello_of}
use Rattle.nr_wire.specs.declared.stream.Awaited.TheVariants.{Hello as HelloFrom, Fpdu}
use Rattle.nr_wire.specs.declared.hello.Side.{Side}
use Rattle.std.proofs.Common.{◌≡◌, ℕ, true, List, ◌++◌, length, take, refl, ap, ◌∙◌, arith, cond}
use Rattle.std.proofs.lemmas.List.{take_at}
use Rattle.nr_wire.specs.declared.stream.Awaited.{Awaited}
use Rattle.nr_wire.specs.Stream.{frame_len, is_whole, IsFrame}
use Rattle.nr_wire.proofs.Frames.{frame_len_append, is_whole_from, whole_append, Whole}

pub record Front (a : Awaited) (frame more : List ℕ) : Type 0 where
  pub whole : is_whole a (frame ++ more) ≡ true
  pub len : frame_len a (frame ++ more) ≡ length frame
  pub front : take (frame_len a (frame ++ more)) (frame ++ more) ≡ frame

pub front_frame : (a : Awaited) (frame more : List ℕ) → IsFrame a frame → Front a frame more
front_frame a frame more f =
    let w : Whole a frame = record { fields = f.fields; frame = omega (arith, f.len) } in
    let len : frame_len a (frame ++ more) ≡ length frame = frame_len_append a frame more f.fields ∙ f.len in
    record {
      whole = is_whole_from a (frame ++ more) (whole_append a frame more w);
      len = len;
      front = ap (λ (n : ℕ). take n (frame ++ more)) len ∙ take_at frame more (length frame) refl;
    }

-- what stands at the front of some bytes is judged by its frame alone
pub hello_in_frame : (side : Side) (frame more : List ℕ) → IsFrame (HelloFrom side) frame → hello_in side (frame ++ more) ≡ frame_answer (hello_of side frame) (length frame)
unfolding hello_in
hello_in_frame side frame more f =
    let at = front_frame (HelloFrom side) frame more f in
    λ i. cond (at.whole i) (frame_answer (hello_of side (at.front i)) (at.len i)) More

pub segment_in_frame_lem : (frame more : List ℕ) → IsFrame Fpdu frame → segment_in (frame ++ more) ≡ frame_answer (segment_of frame) (length frame)
unfolding segment_in
segment_in_frame_lem frame more f =
    let at = front_frame Fpdu frame more f in
    λ i. cond (at.whole i) (frame_answer (segment_of (at.front i)) (at.len i)) More
