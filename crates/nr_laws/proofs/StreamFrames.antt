-- The frames of the first bytes of a side's output are its hello and the segments of its first frame contents.
use Rattle.std.proofs.Common.{◌≡◌, ℕ, suc, ◌+◌, ◌≤◌, ◌<◌, ◌⊎◌, inl, inr, List, [], ◌∷◌, ◌++◌, length, take, drop, Option, None, Some, refl, sym, ap, subst, ◌∙◌, arith, append_assoc, length-drop, take-append-drop, take_all, add-zero}
use Rattle.std.specs.List.{concat}
use Rattle.std.proofs.lemmas.Bool.{cases_lt}
use Rattle.std.proofs.lemmas.List.{take-append-le}
use Rattle.nr_wire.specs.declared.hello.Side.{Side}
use Rattle.nr_wire.specs.declared.stream.Awaited.{Awaited}
use Rattle.nr_wire.specs.declared.stream.Awaited.TheVariants.{Hello as HelloFrom, Fpdu}
use Rattle.nr_wire.specs.Segment.{Segment}
use Rattle.nr_wire.specs.Stream.{Split, split, IsFrame, IsPartial}
use Rattle.nr_wire.proofs.Frames.{partial_nil, partial_not_whole}
use Rattle.nr_wire.proofs.Splits.{split_frame, split_partial}
use Rattle.nr_reduce.specs.declared.mark.LinkParameters.{LinkParameters}
use Rattle.nr_laws.proofs.FirstHellos.{first_hello, first_hello_is}
use Rattle.nr_laws.proofs.Brought.{IsWord, encoding_is}
use Rattle.nr_laws.proofs.FrameContents.{FrameContent, written_segment, frame_bytes, output_bytes, sends_in, requests_in, total_of}
use Rattle.nr_laws.proofs.LaterFrames.{behind}

-- ---- Pieces that are frames

abbrev pub IsWritableAs : Awaited → Option Segment → Type 0
IsWritableAs (HelloFrom side) None = Unit {0}
IsWritableAs (HelloFrom side) (Some segment) = ⊥
IsWritableAs Fpdu None = ⊥
IsWritableAs Fpdu (Some segment) = IsWord segment

-- the first frame of a side is its hello, and no other; each other is a segment whose numbers are words
abbrev pub AreWritableFrom : Awaited → (sends requests : ℕ) → List FrameContent → Type 0
AreWritableFrom a n r [] = Unit {0}
AreWritableFrom a n r (p ∷ ps) = IsWritableAs a (written_segment n r p) × AreWritableFrom Fpdu (n + sends_in p) (r + requests_in p) ps

-- the frames of frames
abbrev pub frames_at : LinkParameters → Side → (sends requests : ℕ) → List FrameContent → List (List ℕ)
frames_at opened side n r [] = []
frames_at opened side n r (p ∷ ps) = frame_bytes opened side (written_segment n r p) ∷ frames_at opened side (n + sends_in p) (r + requests_in p) ps

pub spelled_concat : (opened : LinkParameters) (side : Side) (n r : ℕ) (ps : List FrameContent) → output_bytes opened side n r ps ≡ concat (frames_at opened side n r ps)
spelled_concat opened side n r [] = refl
spelled_concat opened side n r (p ∷ ps) = ap (λ (xs : List ℕ). frame_bytes opened side (written_segment n r p) ++ xs) (spelled_concat opened side (n + sends_in p) (r + requests_in p) ps)

pub spelled_append : (opened : LinkParameters) (side : Side) (n r : ℕ) (ps qs : List FrameContent) → output_bytes opened side n r (ps ++ qs) ≡ output_bytes opened side n r ps ++ output_bytes opened side (n + total_of sends_in ps) (r + total_of requests_in ps) qs
spelled_append opened side n r [] qs = λ i. output_bytes opened side (sym (add-zero n) i) (sym (add-zero r) i) qs
spelled_append opened side n r (p ∷ ps) qs =
    let front = frame_bytes opened side (written_segment n r p) in
    let more_n : n + sends_in p + total_of sends_in ps ≡ n + (sends_in p + total_of sends_in ps) = omega arith in
    let more_r : r + requests_in p + total_of requests_in ps ≡ r + (requests_in p + total_of requests_in ps) = omega arith in
    ap (λ (xs : List ℕ). front ++ xs)
    (spelled_append opened side (n + sends_in p) (r + requests_in p) ps qs
    ∙ (λ i. output_bytes opened side (n + sends_in p) (r + requests_in p) ps ++ output_bytes opened side (more_n i) (more_r i) qs))
    ∙ sym (append_assoc front (output_bytes opened side (n + sends_in p) (r + requests_in p) ps) (output_bytes opened side (n + total_of sends_in (p ∷ ps)) (r + total_of requests_in (p ∷ ps)) qs))

pub frames_append : (opened : LinkParameters) (side : Side) (n r : ℕ) (ps qs : List FrameContent) → frames_at opened side n r (ps ++ qs) ≡ frames_at opened side n r ps ++ frames_at opened side (n + total_of sends_in ps) (r + total_of requests_in ps) qs
frames_append opened side n r [] qs = λ i. frames_at opened side (sym (add-zero n) i) (sym (add-zero r) i) qs
frames_append opened side n r (p ∷ ps) qs =
    let more_n : n + sends_in p + total_of sends_in ps ≡ n + (sends_in p + total_of sends_in ps) = omega arith in
    let more_r : r + requests_in p + total_of requests_in ps ≡ r + (requests_in p + total_of requests_in ps) = omega arith in
    ap (λ (xs : List (List ℕ)). frame_bytes opened side (written_segment n r p) ∷ xs)
    (frames_append opened side (n + sends_in p) (r + requests_in p) ps qs
    ∙ (λ i. frames_at opened side (n + sends_in p) (r + requests_in p) ps ++ frames_at opened side (more_n i) (more_r i) qs))

pub length_frames : (opened : LinkParameters) (side : Side) (n r : ℕ) (ps : List FrameContent) → length (frames_at opened side n r ps) ≡ length ps
length_frames opened side n r [] = refl
length_frames opened side n r (p ∷ ps) = ap (λ (k : ℕ). suc k) (length_frames opened side (n + sends_in p) (r + requests_in p) ps)

-- ---- Each is a complete frame

abbrev pub IsOf : Side → Awaited → Type 0
IsOf side (HelloFrom other) = other ≡ side
IsOf side Fpdu = Unit {0}

pub proper_frame : (opened : LinkParameters) (side : Side) (a : Awaited) (s : Option Segment) → IsOf side a → IsWritableAs a s → IsFrame a (frame_bytes opened side s)
proper_frame opened side (HelloFrom other) None is h = subst (λ (x : Side). IsFrame (HelloFrom x) (first_hello opened side)) (sym is) (first_hello_is opened side).is_frame
proper_frame opened side (HelloFrom other) (Some segment) is h = absurd h
proper_frame opened side Fpdu None is h = absurd h
proper_frame opened side Fpdu (Some segment) is h = (encoding_is segment h).is_frame

-- ---- The first bytes of frames

pub record FirstFrames (opened : LinkParameters) (side : Side) (a : Awaited) (n r : ℕ) (ps : List FrameContent) (x y : List ℕ) : Type 0 where
  pub came : List FrameContent
  pub left : List FrameContent
  pub parts : came ++ left ≡ ps
  pub frames : (split a x).frames ≡ frames_at opened side n r came
  pub rest : (split a x).rest ++ y ≡ output_bytes opened side (n + total_of sends_in came) (r + total_of requests_in came) left

no_bytes : (x y : List ℕ) → x ++ y ≡ [] → x ≡ []
no_bytes [] y e = refl
no_bytes (b ∷ x) y e = absurd cc

-- if fewer are there, they are less than a frame
short : (frame more x y : List ℕ) → length x < length frame → x ++ y ≡ frame ++ more → x ++ drop (length x) frame ≡ frame
short frame more x y lt e =
    let same : take (length x) frame ≡ x =
    sym (take-append-le (length x) frame more (omega (arith, lt))) ∙ ap (λ (xs : List ℕ). take (length x) xs) (sym e) ∙ take-append-le (length x) x y (omega arith) ∙ take_all (length x) x (omega arith) in
    ap (λ (xs : List ℕ). xs ++ drop (length x) frame) (sym same) ∙ take-append-drop (length x) frame

pub front : (opened : LinkParameters) (side : Side) (a : Awaited) (n r : ℕ) (ps : List FrameContent) (x y : List ℕ) → IsOf side a → AreWritableFrom a n r ps → x ++ y ≡ output_bytes opened side n r ps → FirstFrames opened side a n r ps x y
front opened side a n r [] x y of proper e =
    let none : x ≡ [] = no_bytes x y e in
    let empty : split a x ≡ record { frames = []; rest = [] } = ap (split a) none ∙ split_partial a [] (partial_not_whole a [] (partial_nil a)) in
    record {
      came = [];
      left = [];
      parts = refl;
      frames = ap (λ (s : Split). s.frames) empty;
      rest = ap (λ (s : Split). s.rest ++ y) empty ∙ ap (λ (xs : List ℕ). xs ++ y) (sym none) ∙ e;
    }
front opened side a n r (p ∷ ps) x y of proper e =
    by (cases_lt (length x) (length frame)) (λ back is. front opened side Fpdu (n + sends_in p) (r + requests_in p) ps back y tt proper.1 is)
  where
    frame : List ℕ
    frame = frame_bytes opened side (written_segment n r p)

    is_frame : IsFrame a frame
    is_frame = proper_frame opened side a (written_segment n r p) of proper.0

    more : List ℕ
    more = output_bytes opened side (n + sends_in p) (r + requests_in p) ps

    by : (length x < length frame) ⊎ (length frame ≤ length x) → ((back : List ℕ) → back ++ y ≡ more → FirstFrames opened side Fpdu (n + sends_in p) (r + requests_in p) ps back y) → FirstFrames opened side a n r (p ∷ ps) x y
    by (inl lt) later =
        let whole = short frame more x y lt e in
        let partial : IsPartial a x = record { more = drop (length x) frame; some = omega (arith, length-drop (length x) frame, lt); frame = subst (λ (xs : List ℕ). IsFrame a xs) (sym whole) is_frame } in
        let none = split_partial a x (partial_not_whole a x partial) in
        record {
          came = [];
          left = p ∷ ps;
          parts = refl;
          frames = ap (λ (s : Split). s.frames) none;
          rest = ap (λ (s : Split). s.rest ++ y) none ∙ e ∙ (λ i. output_bytes opened side (sym (add-zero n) i) (sym (add-zero r) i) (p ∷ ps));
        }
    by (inr le) later =
        let b = behind frame more x y le e in
        let rest = later b.back b.back_is in
        let is = ap (split a) b.front_is ∙ split_frame a frame b.back is_frame in
        let more_n : n + sends_in p + total_of sends_in rest.came ≡ n + (sends_in p + total_of sends_in rest.came) = omega arith in
        let more_r : r + requests_in p + total_of requests_in rest.came ≡ r + (requests_in p + total_of requests_in rest.came) = omega arith in
        record {
          came = p ∷ rest.came;
          left = rest.left;
          parts = ap (λ (qs : List FrameContent). p ∷ qs) rest.parts;
          frames = ap (λ (s : Split). s.frames) is ∙ ap (λ (fs : List (List ℕ)). frame ∷ fs) rest.frames;
          rest = ap (λ (s : Split). s.rest ++ y) is ∙ rest.rest ∙ (λ i. output_bytes opened side (more_n i) (more_r i) rest.left);
        }
