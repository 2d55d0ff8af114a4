-- On a matched link more bytes complete the frames of the next contents that the other side sent, each of which reads as it was sent.
use Rattle.std.proofs.Common.{◌≡◌, ℕ, ◌+◌, ◌≤◌, ◌<◌, false, eqb, List, [], ◌∷◌, ◌++◌, length, drop, Option, None, Some, refl, sym, ap, ◌∙◌, arith, length-append, ne_eqb}
use Rattle.std.proofs.Math.Seq.{drop-append_seam}
use Rattle.std.specs.List.{concat}
use Rattle.nr_wire.specs.declared.hello.Side.{Side}
use Rattle.nr_wire.specs.declared.stream.Awaited.TheVariants.{Hello as HelloFrom, Fpdu}
use Rattle.nr_wire.specs.Segment.{Segment, segment_of}
use Rattle.nr_wire.specs.Stream.{Split, split, awaited_after}
use Rattle.nr_wire.proofs.Splits.{split_append}
use Rattle.nr_link.specs.Frames.{Frame, frames_from, frames_of, frames_completed}
use Rattle.nr_reduce.specs.declared.mark.LinkParameters.{LinkParameters}
use Rattle.nr_laws.proofs.FrameContents.{FrameContent, written_segment, frame_bytes, output_bytes, total_of, sends_in, requests_in, IsSent}
use Rattle.nr_laws.proofs.StreamFrames.{AreWritableFrom, IsWritableAs, frames_at, frames_append, length_frames, front}
use Rattle.nr_laws.proofs.Brought.{encoding_is}
use Rattle.nr_link.proofs.Streams.{frames_from_append}

-- of two beginnings of a list the longer one goes on
record Longer (xs ys zs ws : List FrameContent) : Type 0 where
  new : List FrameContent
  longer : zs ≡ xs ++ new
  left : ys ≡ new ++ ws

longer : (xs ys zs ws : List FrameContent) → xs ++ ys ≡ zs ++ ws → length xs ≤ length zs → Longer xs ys zs ws
longer [] ys zs ws e le = record { new = zs; longer = refl; left = e }
longer (x ∷ xs) ys [] ws e le = absurd (omega (arith, le))
longer (x ∷ xs) ys (z ∷ zs) ws e le =
    let rest = longer xs ys zs ws (ap (λ (ps : List FrameContent). drop 1 ps) e) (omega (arith, le)) in
    record { new = rest.new; longer = (λ i. head_same (sym e) i ∷ rest.longer i); left = rest.left }
  where
    head_same : {x z : FrameContent} {xs zs : List FrameContent} → z ∷ zs ≡ x ∷ xs → z ≡ x
    head_same e = cc

-- the frames that was received by then, those that more bytes bring, and those that are left
pub record NewFrames (opened : LinkParameters) (side : Side) (got bytes : List ℕ) (came way : List FrameContent) : Type 0 where
  pub new : List FrameContent
  pub left : List FrameContent
  pub parts : way ≡ new ++ left
  pub frames : frames_completed side got bytes ≡ frames_from (length (concat (frames_at opened side 0 0 came))) (frames_at opened side (0 + total_of sends_in came) (0 + total_of requests_in came) new)
  pub all : (split (HelloFrom side) (got ++ bytes)).frames ≡ frames_at opened side 0 0 (came ++ new)

pub fed : (opened : LinkParameters) (side : Side) (got bytes rest : List ℕ) (came way : List FrameContent) → AreWritableFrom (HelloFrom side) 0 0 (came ++ way) → (split (HelloFrom side) got).frames ≡ frames_at opened side 0 0 came
    → (got ++ bytes) ++ rest ≡ output_bytes opened side 0 0 (came ++ way) → NewFrames opened side got bytes came way
unfolding frames_completed frames_of
fed opened side got bytes rest came way proper before sent =
    let a = HelloFrom side in
    let f = front opened side a 0 0 (came ++ way) (got ++ bytes) rest refl proper sent in
    let later = (split (awaited_after a (split a got).frames) ((split a got).rest ++ bytes)).frames in
    let goes_on : frames_at opened side 0 0 f.came ≡ (split a got).frames ++ later = sym f.frames ∙ ap (λ (s : Split). s.frames) (split_append a got bytes) in
    let as_many : length came ≤ length f.came =
    omega (arith, length_frames opened side 0 0 came, length_frames opened side 0 0 f.came, ap (λ (fs : List (List ℕ)). length fs) goes_on, length-append (split a got).frames later, ap (λ (fs : List (List ℕ)). length fs) before) in
    let l = longer came way f.came f.left (sym f.parts) as_many in
    let all : (split a (got ++ bytes)).frames ≡ frames_at opened side 0 0 (came ++ l.new) = f.frames ∙ ap (λ (ps : List FrameContent). frames_at opened side 0 0 ps) l.longer in
    let old = frames_at opened side 0 0 came in
    let news = frames_at opened side (0 + total_of sends_in came) (0 + total_of requests_in came) l.new in
    record {
      new = l.new;
      left = f.left;
      parts = l.left;
      frames =
          (λ i. drop (length (frames_from 0 (before i))) (frames_from 0 ((all ∙ frames_append opened side 0 0 came l.new) i)))
          ∙ ap (λ (fs : List Frame). drop (length (frames_from 0 old)) fs) (frames_from_append 0 old news)
          ∙ drop-append_seam (frames_from 0 old) (frames_from (0 + length (concat old)) news)
          ∙ ap (λ (n : ℕ). frames_from n news) (omega arith);
      all = all;
    }

-- after the hello each of them is a frame as it was sent
pub is_piece : (opened : LinkParameters) (side : Side) (n r place : ℕ) (p : FrameContent) → IsWritableAs Fpdu (written_segment n r p) → 0 < place
    → IsSent n r (record { at = place; end = place + length (frame_bytes opened side (written_segment n r p)); bytes = frame_bytes opened side (written_segment n r p) }) p
is_piece opened side n r place p proper some = by (written_segment n r p) refl proper
  where
    behind : eqb place 0 ≡ false
    behind = ne_eqb place 0 (λ e. omega (arith, e, some))

    by : (s : Option Segment) → written_segment n r p ≡ s → IsWritableAs Fpdu s
        → IsSent n r (record { at = place; end = place + length (frame_bytes opened side (written_segment n r p)); bytes = frame_bytes opened side (written_segment n r p) }) p
    by None is h = absurd h
    by (Some segment) is h = record {
      behind = behind;
      segment = segment;
      is_segment = is;
      reads = ap (λ (o : Option Segment). segment_of (frame_bytes opened side o)) is ∙ (encoding_is segment h).says;
    }
