-- Frames that more bytes of a stream complete end after the bytes that were there before.
use Rattle.std.proofs.Common.{◌≡◌, ℕ, ◌+◌, ◌≤◌, ◌<◌, List, [], ◌∷◌, ◌++◌, length, refl, sym, ap, subst, ◌∙◌, arith, append_assoc, length-append, inl, inr}
use Rattle.std.proofs.lemmas.Bool.{cases_lt}
use Rattle.std.specs.List.{concat}
use Rattle.nr_wire.specs.declared.hello.Side.{Side}
use Rattle.nr_wire.specs.declared.stream.Awaited.{Awaited}
use Rattle.nr_wire.specs.declared.stream.Awaited.TheVariants.{Hello as HelloFrom, Fpdu}
use Rattle.nr_wire.specs.Stream.{Split, split, frame_then, awaited_after, AreFrames}
use Rattle.nr_wire.proofs.Frames.{partial_not_whole}
use Rattle.nr_wire.proofs.Splits.{split_Splits, split_frame, split_partial}
use Rattle.nr_link.specs.Frames.{Frame, frames_from, frames_completed}
use Rattle.nr_link.proofs.Streams.{frames_completed_split}
use Rattle.nr_laws.proofs.Basics.{first_is_lem, rest_is_lem}

abbrev pub EndBehind : ℕ → List Frame → Type 0
EndBehind n [] = Unit {0}
EndBehind n (f ∷ fs) = (n < f.end) × EndBehind n fs

abbrev pub EndBy : ℕ → List Frame → Type 0
EndBy n [] = Unit {0}
EndBy n (f ∷ fs) = (f.end ≤ n) × EndBy n fs

pub record Behind (frame more x y : List ℕ) : Type 0 where
  pub back : List ℕ
  pub front_is : x ≡ frame ++ back
  pub back_is : back ++ y ≡ more

pub behind : (frame more x y : List ℕ) → length frame ≤ length x → x ++ y ≡ frame ++ more → Behind frame more x y
behind [] more x y le e = record { back = x; front_is = refl; back_is = e }
behind (b ∷ frame) more [] y le e = absurd (omega (arith, le))
behind (b ∷ frame) more (c ∷ x) y le e =
    let rest = behind frame more x y (omega (arith, le)) (rest_is_lem c b (x ++ y) (frame ++ more) e) in
    record { back = rest.back; front_is = (λ i. first_is_lem c b (x ++ y) (frame ++ more) e i ∷ rest.front_is i); back_is = rest.back_is }

later_ends : (n at : ℕ) (fs : List (List ℕ)) → n < at → EndBehind n (frames_from at fs)
later_ends n at [] lt = tt
later_ends n at (f ∷ fs) lt = (omega (arith, lt), later_ends n (at + length f) fs (omega (arith, lt)))

-- a rest is no complete frame, so the first frame with more bytes is longer
longer : (a : Awaited) (rest more : List ℕ) (fs : List (List ℕ)) (left : List ℕ) → split a rest ≡ record { frames = []; rest = rest } → AreFrames a fs → rest ++ more ≡ concat fs ++ left → (at n : ℕ) → n ≡ at + length rest → EndBehind n (frames_from at fs)
longer a rest more [] left none h e at n is = tt
longer a rest more (f ∷ fs) left none h e at n is = elim (cases_lt (length rest) (length f)) [
  | inl lt ↦ (omega (arith, lt, is), later_ends n (at + length f) fs (omega (arith, lt, is)))
  | inr le ↦ absurd (
      let b = behind f (concat fs ++ left) rest more le (e ∙ append_assoc f (concat fs) left) in
      let again : split a rest ≡ frame_then f (split Fpdu b.back) = ap (split a) b.front_is ∙ split_frame a f b.back h.0 in
      let wrong : [] ≡ f ∷ (split Fpdu b.back).frames = ap (λ (s : Split). s.frames) (sym none ∙ again) in cc)
]

pub frames_behind : (peer : Side) (old more : List ℕ) → EndBehind (length old) (frames_completed peer old more)
frames_behind peer old more =
    let s = split (HelloFrom peer) old in
    let a = awaited_after (HelloFrom peer) s.frames in
    let is = split_Splits (HelloFrom peer) old in
    let t = split_Splits a (s.rest ++ more) in
    let none : split a s.rest ≡ record { frames = []; rest = s.rest } = split_partial a s.rest (partial_not_whole a s.rest is.partial) in
    let len : length old ≡ length (concat s.frames) + length s.rest = ap (λ (xs : List ℕ). length xs) is.whole ∙ length-append (concat s.frames) s.rest in
    subst (λ (fs : List Frame). EndBehind (length old) fs) (sym (frames_completed_split peer old more))
    (longer a s.rest more (split a (s.rest ++ more)).frames (split a (s.rest ++ more)).rest none t.each t.whole (length (concat s.frames)) (length old) len)

ends_within : (at : ℕ) (fs : List (List ℕ)) (n : ℕ) → at + length (concat fs) ≤ n → EndBy n (frames_from at fs)
ends_within at [] n le = tt
ends_within at (f ∷ fs) n le = (let l = length-append f (concat fs) in (omega (arith, l, le), ends_within (at + length f) fs n (omega (arith, l, le))))

pub frames_by_lem : (peer : Side) (old more : List ℕ) → EndBy (length (old ++ more)) (frames_completed peer old more)
frames_by_lem peer old more =
    let s = split (HelloFrom peer) old in
    let a = awaited_after (HelloFrom peer) s.frames in
    let is = split_Splits (HelloFrom peer) old in
    let t = split_Splits a (s.rest ++ more) in
    let u = split a (s.rest ++ more) in
    let len : length old ≡ length (concat s.frames) + length s.rest = ap (λ (xs : List ℕ). length xs) is.whole ∙ length-append (concat s.frames) s.rest in
    let both = length-append old more in
    let two = length-append s.rest more in
    let three = ap (λ (xs : List ℕ). length xs) t.whole ∙ length-append (concat u.frames) u.rest in
    subst (λ (fs : List Frame). EndBy (length (old ++ more)) fs) (sym (frames_completed_split peer old more))
    (ends_within (length (concat s.frames)) u.frames (length (old ++ more)) (omega (arith, len, both, two, three)))
