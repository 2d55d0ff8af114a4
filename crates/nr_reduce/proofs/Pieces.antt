-- A piece in two parts.
use Rattle.std.proofs.Common.{◌≡◌, ℕ, ◌+◌, List, [], ◌∷◌, ◌++◌, length, refl, sym, ap, ◌∙◌, append_assoc, arith, length-append}
use Rattle.std.specs.List.{concat}
use Rattle.nr_wire.specs.declared.stream.Awaited.{Awaited}
use Rattle.nr_wire.specs.Stream.{Split, split, awaited_after, frames_then}
use Rattle.nr_wire.proofs.Splits.{split_append, awaited_after_Fpdu}
use Rattle.nr_link.specs.Frames.{frames_from}
use Rattle.nr_link.specs.Input.{InputState, input_split, input_frames, input_after}
use Rattle.nr_link.proofs.Streams.{frames_from_append}
use Rattle.nr_reduce.specs.StandingLaws.{InputInParts}

after_append : (a : Awaited) (xs ys : List (List ℕ)) → awaited_after a (xs ++ ys) ≡ awaited_after (awaited_after a xs) ys
after_append a [] ys = refl
after_append a (x ∷ xs) ys = sym (awaited_after_Fpdu ys)

concat_append : (xs ys : List (List ℕ)) → concat (xs ++ ys) ≡ concat xs ++ concat ys
concat_append [] ys = refl
concat_append (x ∷ xs) ys = ap (λ (zs : List ℕ). x ++ zs) (concat_append xs ys) ∙ sym (append_assoc x (concat xs) (concat ys))

split_parts : (input : InputState) (x y : List ℕ) → input_split input (x ++ y) ≡ frames_then (input_split input x).frames (input_split (input_after input x) y)
split_parts input x y = ap (split input.awaited) (sym (append_assoc input.rest x y)) ∙ split_append input.awaited (input.rest ++ x) y

pub input_parts : (input : InputState) (x y : List ℕ) → input_after input (x ++ y) ≡ input_after (input_after input x) y
input_parts input x y =
    let fs = (input_split input x).frames in
    let gs = (input_split (input_after input x) y).frames in
    let len : input.place + length (concat (fs ++ gs)) ≡ input.place + length (concat fs) + length (concat gs) =
    omega (arith, ap (λ (xs : List ℕ). length xs) (concat_append fs gs), length-append (concat fs) (concat gs)) in
    ap (λ (s : Split). record { awaited = awaited_after input.awaited s.frames; rest = s.rest; place = input.place + length (concat s.frames) }) (split_parts input x y)
    ∙ (λ i. record { awaited = after_append input.awaited fs gs i; rest = (input_split (input_after input x) y).rest; place = len i })

pub frames_parts : (input : InputState) (x y : List ℕ) → input_frames input (x ++ y) ≡ input_frames input x ++ input_frames (input_after input x) y
frames_parts input x y =
    ap (λ (s : Split). frames_from input.place s.frames) (split_parts input x y)
    ∙ frames_from_append input.place (input_split input x).frames (input_split (input_after input x) y).frames

pub in_parts : InputInParts
in_parts input x y = (frames_parts input x y, input_parts input x y)
