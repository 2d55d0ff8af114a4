-- A stream splits in one way, and it goes on as its rest does.
use Rattle.std.proofs.Common.{◌≡◌, ℕ, zero, suc, ◌≤◌, Bool, true, false, cond, List, [], ◌∷◌, ◌++◌, length, take, drop, refl, sym, ap, ◌∙◌, subst, append_assoc, arith}
use Rattle.std.specs.List.{concat}
use Rattle.std.proofs.lemmas.Bool.{false_from_ne_true}
use Rattle.std.proofs.lemmas.List.{length-drop, take_at, drop_at, take-append-drop, append-nil}
use Rattle.nr_wire.specs.declared.stream.Awaited.{Awaited}
use Rattle.nr_wire.specs.declared.stream.Awaited.TheVariants.{Fpdu}
use Rattle.nr_wire.specs.Stream.{frame_len, is_whole, IsFrame, IsPartial, awaited_after, AreFrames, Splits, Split, frame_then, frames_then, split_within, split}
use Rattle.nr_wire.proofs.Frames.{fields_some, fields_within, frame_len_append, Whole, whole_from, is_whole_from, whole_append, IsFrame_take, partial_not_whole, partial_from}

abbrev nothing : List ℕ → Split
nothing rest = record { frames = []; rest = rest }

-- fewer bytes than fields are no complete frame
short_not_whole : (a : Awaited) (bytes : List ℕ) → length bytes ≤ 0 → is_whole a bytes ≡ false
short_not_whole a bytes le = false_from_ne_true _ (λ e. let w = whole_from a bytes e in omega (arith, fields_some a, w.fields))

left_shorter : (a : Awaited) (bytes : List ℕ) (n : ℕ) → length bytes ≤ suc n → length (drop (frame_len a bytes) bytes) ≤ n
left_shorter a bytes n le = omega (arith, length-drop (frame_len a bytes) bytes, fields_some a, fields_within a bytes)

at_most : (n : ℕ) (a : Awaited) (bytes : List ℕ) → is_whole a bytes ≡ false → split_within (suc n) a bytes ≡ nothing bytes
at_most n a bytes e =
    ap (λ (w : Bool). cond w (frame_then (take (frame_len a bytes) bytes) (split_within n Fpdu (drop (frame_len a bytes) bytes))) (nothing bytes)) e

-- it is enough to allow one frame for each byte
enough : (n m : ℕ) (a : Awaited) (bytes : List ℕ) → length bytes ≤ n → length bytes ≤ m → split_within n a bytes ≡ split_within m a bytes
enough zero zero a bytes p q = refl
enough zero (suc m) a bytes p q = sym (at_most m a bytes (short_not_whole a bytes p))
enough (suc n) zero a bytes p q = at_most n a bytes (short_not_whole a bytes q)
enough (suc n) (suc m) a bytes p q =
    let next = enough n m Fpdu (drop (frame_len a bytes) bytes) (left_shorter a bytes n p) (left_shorter a bytes m q) in
    ap (λ (s : Split). cond (is_whole a bytes) (frame_then (take (frame_len a bytes) bytes) s) (nothing bytes)) next

one_more : (a : Awaited) (bytes : List ℕ) → split a bytes ≡ split_within (suc (length bytes)) a bytes
unfolding split
one_more a bytes = enough (length bytes) (suc (length bytes)) a bytes (omega arith) (omega arith)

pub split_whole : (a : Awaited) (bytes : List ℕ) → is_whole a bytes ≡ true → split a bytes ≡ frame_then (take (frame_len a bytes) bytes) (split Fpdu (drop (frame_len a bytes) bytes))
unfolding split
split_whole a bytes e =
    let left = drop (frame_len a bytes) bytes in
    let le : length left ≤ length bytes = omega (arith, length-drop (frame_len a bytes) bytes) in
    one_more a bytes
    ∙ ap (λ (w : Bool). cond w (frame_then (take (frame_len a bytes) bytes) (split_within (length bytes) Fpdu left)) (nothing bytes)) e
    ∙ ap (frame_then (take (frame_len a bytes) bytes)) (enough (length bytes) (length left) Fpdu left le (omega arith))

pub split_partial : (a : Awaited) (bytes : List ℕ) → is_whole a bytes ≡ false → split a bytes ≡ nothing bytes
split_partial a bytes e =
    one_more a bytes ∙ at_most (length bytes) a bytes e

-- a frame at the front
pub split_frame : (a : Awaited) (frame more : List ℕ) → IsFrame a frame → split a (frame ++ more) ≡ frame_then frame (split Fpdu more)
split_frame a frame more f =
    let w : Whole a frame = record { fields = f.fields; frame = omega (arith, f.len) } in
    let bytes = frame ++ more in
    let len : frame_len a bytes ≡ length frame = frame_len_append a frame more f.fields ∙ f.len in
    let front : take (frame_len a bytes) bytes ≡ frame = ap (λ (n : ℕ). take n bytes) len ∙ take_at frame more (length frame) refl in
    let left : drop (frame_len a bytes) bytes ≡ more = ap (λ (n : ℕ). drop n bytes) len ∙ drop_at frame more (length frame) refl in
    split_whole a bytes (is_whole_from a bytes (whole_append a frame more w))
    ∙ ap (λ (x : List ℕ). frame_then x (split Fpdu (drop (frame_len a bytes) bytes))) front
    ∙ ap (λ (x : List ℕ). frame_then frame (split Fpdu x)) left

abbrev AsSplit : Awaited → List ℕ → Split → Type 0
AsSplit a stream s = Splits a stream s.frames s.rest

no_frame : (a : Awaited) (stream : List ℕ) → is_whole a stream ≡ false → AsSplit a stream (split a stream)
no_frame a stream e =
    subst (AsSplit a stream) (sym (split_partial a stream e)) (record { whole = refl; each = tt; partial = partial_from a stream e })

-- what is awaited after FPDUs
pub awaited_after_Fpdu : (frames : List (List ℕ)) → awaited_after Fpdu frames ≡ Fpdu
awaited_after_Fpdu [] = refl
awaited_after_Fpdu (frame ∷ frames) = refl

-- a frame before a stream that is split
pub one_frame : (a : Awaited) (frame more : List ℕ) (s : Split) → IsFrame a frame → Splits Fpdu more s.frames s.rest → Splits a (frame ++ more) (frame ∷ s.frames) s.rest
one_frame a frame more s f next = record {
  whole = ap (λ (x : List ℕ). frame ++ x) next.whole ∙ sym (append_assoc frame (concat s.frames) s.rest);
  each = (f, next.each);
  partial = subst (λ (b : Awaited). IsPartial b s.rest) (awaited_after_Fpdu s.frames) next.partial;
}

splits_below : (n : ℕ) (a : Awaited) (stream : List ℕ) → length stream ≤ n → (w : Bool) → is_whole a stream ≡ w → AsSplit a stream (split a stream)
splits_below zero a stream le w e = no_frame a stream (short_not_whole a stream le)
splits_below (suc n) a stream le false e = no_frame a stream e
splits_below (suc n) a stream le true e =
    let k = frame_len a stream in
    let next = splits_below n Fpdu (drop k stream) (left_shorter a stream n le) (is_whole Fpdu (drop k stream)) refl in
    let joined = one_frame a (take k stream) (drop k stream) (split Fpdu (drop k stream)) (IsFrame_take a stream (whole_from a stream e)) next in
    let here : AsSplit a (take k stream ++ drop k stream) (split a stream) = subst (AsSplit a (take k stream ++ drop k stream)) (sym (split_whole a stream e)) joined in
    subst (λ (x : List ℕ). AsSplit a x (split a stream)) (take-append-drop k stream) here

pub split_Splits : (a : Awaited) (stream : List ℕ) → Splits a stream (split a stream).frames (split a stream).rest
split_Splits a stream = splits_below (length stream) a stream (omega arith) (is_whole a stream) refl

-- frames before some bytes
pub split_frames : (a : Awaited) (frames : List (List ℕ)) (more : List ℕ) → AreFrames a frames → split a (concat frames ++ more) ≡ frames_then frames (split (awaited_after a frames) more)
split_frames a [] more each = refl
split_frames a (frame ∷ frames) more each =
    ap (split a) (append_assoc frame (concat frames) more)
    ∙ split_frame a frame (concat frames ++ more) each.0
    ∙ ap (frame_then frame) (split_frames Fpdu frames more each.1)
    ∙ ap (λ (b : Awaited). frames_then (frame ∷ frames) (split b more)) (awaited_after_Fpdu frames)

pub split_only : (a : Awaited) (stream : List ℕ) (frames : List (List ℕ)) (rest : List ℕ) → Splits a stream frames rest → split a stream ≡ record { frames = frames; rest = rest }
split_only a stream frames rest s =
    ap (split a) s.whole
    ∙ split_frames a frames rest s.each
    ∙ ap (frames_then frames) (split_partial (awaited_after a frames) rest (partial_not_whole (awaited_after a frames) rest s.partial))
    ∙ ap (λ (fs : List (List ℕ)). record { frames = fs; rest = rest }) (append-nil frames)

pub one_split : (a : Awaited) (stream : List ℕ) (frames others : List (List ℕ)) (rest left : List ℕ) → Splits a stream frames rest → Splits a stream others left → (frames ≡ others) × (rest ≡ left)
one_split a stream frames others rest left s t =
    let same : ◌≡◌ {A = Split} (record { frames = frames; rest = rest }) (record { frames = others; rest = left }) = sym (split_only a stream frames rest s) ∙ split_only a stream others left t in
    (ap (λ (x : Split). x.frames) same, ap (λ (x : Split). x.rest) same)

pub split_append : (a : Awaited) (x y : List ℕ) → split a (x ++ y) ≡ frames_then (split a x).frames (split (awaited_after a (split a x).frames) ((split a x).rest ++ y))
split_append a x y =
    let s = split a x in
    let is = split_Splits a x in
    ap (λ (z : List ℕ). split a (z ++ y)) is.whole
    ∙ ap (split a) (append_assoc (concat s.frames) s.rest y)
    ∙ split_frames a s.frames (s.rest ++ y) is.each
