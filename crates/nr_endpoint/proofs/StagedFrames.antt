-- A frame that a piece cuts, staged in two parts: its length fields, and the rest.
use Rattle.std.proofs.Common.{◌≡◌, ℕ, ◌+◌, ◌-◌, ◌<◌, ◌≤◌, min, Bool, true, false, List, ◌++◌, length, take, drop, inl, inr, refl, sym, ap, subst, ◌∙◌, arith, append_assoc, length-append, length-drop}
use Rattle.std.proofs.lemmas.Bool.{cases_lt}
use Rattle.std.proofs.lemmas.List.{length-take, take_all, drop-drop, take-append-drop}
use Rattle.std.proofs.Math.Seq.{take-append-add, take-append_seam, drop-append-add, take-add}
use Rattle.nr_wire.specs.declared.stream.Awaited.{Awaited}
use Rattle.nr_wire.specs.Feeding.{bytes_taken}
use Rattle.nr_wire.specs.Stream.{IsPartial, IsFrame, is_whole, frame_len, fields_len, bytes_needed}
use Rattle.nr_wire.proofs.Frames.{needed_some, needed_just, partial_from, partial_not_whole, whole_from, is_whole_from, IsFrame_take, shorter_than_frame, fields_within}
use Rattle.nr_wire.proofs.FrontFrame.{front_frame}
use Rattle.nr_wire.proofs.Feedings.{bytes_taken_less, bytes_taken_just, bytes_taken_staged, bytes_taken_whole, bytes_taken_partial}

-- how many bytes of a piece one part is
abbrev pub part : Awaited → List ℕ → List ℕ → ℕ
part a rest piece = min (bytes_needed a rest) (length piece)

split : (n : ℕ) (piece : List ℕ) → take n piece ++ drop n piece ≡ piece
split n piece = take-append-drop n piece

none_needed : (a : Awaited) (rest : List ℕ) → is_whole a rest ≡ true → bytes_needed a rest ≡ 0
none_needed a rest whole =
    elim (cases_lt 0 (bytes_needed a rest)) [
      | inl some ↦ absurd (let h : false ≡ true = sym (partial_not_whole a rest ((needed_some a rest).1 some)) ∙ whole in cc)
      | inr none ↦ omega (arith, none)
    ]

-- if the fields are there, one part is all that is taken
one_part : (a : Awaited) (rest piece : List ℕ) → IsPartial a rest → fields_len a ≤ length rest → part a rest piece ≡ bytes_taken a rest piece
one_part a rest piece p fields =
    elim (cases_lt (length piece) (bytes_needed a rest)) [
      | inl less ↦ omega (arith, less, bytes_taken_less a rest piece less)
      | inr enough ↦
          let n : ℕ = bytes_needed a rest in
          let count : length (take n piece) ≡ n = omega (arith, enough, length-take n piece) in
          let taken : bytes_taken a rest (take n piece ++ drop n piece) ≡ length (take n piece) = (bytes_taken_just a rest (take n piece) (drop n piece) p fields count).0 in
          let all : bytes_taken a rest (take n piece ++ drop n piece) ≡ bytes_taken a rest piece = ap (bytes_taken a rest) (split n piece) in
          omega (arith, enough, taken, all, count)
    ]

-- a frame that the first part completes
whole_part : (a : Awaited) (rest front back : List ℕ) → length rest ≤ length (rest ++ front) → is_whole a (rest ++ front) ≡ true → frame_len a (rest ++ front) ≡ length (rest ++ front) →
    bytes_taken a rest (front ++ back) ≡ length front
whole_part a rest front back le whole len =
    let frame : IsFrame a (rest ++ front) = record { fields = (whole_from a (rest ++ front) whole).fields; len = len } in
    let at = front_frame a (rest ++ front) back frame in
    let same : rest ++ (front ++ back) ≡ (rest ++ front) ++ back = sym (append_assoc rest front back) in
    let all : is_whole a (rest ++ (front ++ back)) ≡ true = ap (is_whole a) same ∙ at.whole in
    bytes_taken_whole a rest (front ++ back) all ∙ ap (λ (bytes : List ℕ). frame_len a bytes - length rest) same ∙ omega (arith, at.len, length-append rest front)

second_part : (a : Awaited) (rest front back : List ℕ) → IsPartial a rest → length rest < fields_len a → length front ≡ bytes_needed a rest →
    length front + part a (rest ++ front) back ≡ bytes_taken a rest (front ++ back)
second_part a rest front back p short count =
    by (is_whole a (rest ++ front)) refl
  where
    fields : length (rest ++ front) ≡ fields_len a
    fields = (needed_just a rest front p count).0 short

    by : (w : Bool) → is_whole a (rest ++ front) ≡ w → length front + part a (rest ++ front) back ≡ bytes_taken a rest (front ++ back)
    by true whole =
        let w = whole_from a (rest ++ front) whole in
        let len : frame_len a (rest ++ front) ≡ length (rest ++ front) = omega (arith, w.frame, fields, fields_within a (rest ++ front)) in
        omega (arith, none_needed a (rest ++ front) whole, whole_part a rest front back (omega (arith, length-append rest front)) whole len)
    by false partial =
        let q : IsPartial a (rest ++ front) = partial_from a (rest ++ front) partial in
        omega (arith, one_part a (rest ++ front) back q (omega (arith, fields)), bytes_taken_staged a rest front back q)

-- the two parts together are what is taken
pub two_parts : (a : Awaited) (rest piece : List ℕ) → IsPartial a rest →
    part a rest piece + part a (rest ++ take (part a rest piece) piece) (drop (part a rest piece) piece) ≡ bytes_taken a rest piece
two_parts a rest piece p =
    elim (cases_lt (length piece) (bytes_needed a rest)) [
      | inl less ↦
          let n : part a rest piece ≡ length piece = omega (arith, less) in
          omega (arith, n, length-drop (part a rest piece) piece, bytes_taken_less a rest piece less)
      | inr enough ↦
          elim (cases_lt (length rest) (fields_len a)) [
            | inl short ↦
                let n : part a rest piece ≡ bytes_needed a rest = omega (arith, enough) in
                let count : length (take (part a rest piece) piece) ≡ bytes_needed a rest = omega (arith, enough, n, length-take (part a rest piece) piece) in
                let two : length (take (part a rest piece) piece) + part a (rest ++ take (part a rest piece) piece) (drop (part a rest piece) piece) ≡ bytes_taken a rest (take (part a rest piece) piece ++ drop (part a rest piece) piece) =
                second_part a rest (take (part a rest piece) piece) (drop (part a rest piece) piece) p short count in
                omega (arith, n, count, two, ap (bytes_taken a rest) (split (part a rest piece) piece))
            | inr fields ↦
                let one : part a rest piece ≡ bytes_taken a rest piece = one_part a rest piece p fields in
                let n : part a rest piece ≡ bytes_needed a rest = omega (arith, enough) in
                let count : length (take (part a rest piece) piece) ≡ bytes_needed a rest = omega (arith, enough, n, length-take (part a rest piece) piece) in
                let frame : IsFrame a (rest ++ take (part a rest piece) piece) = (needed_just a rest (take (part a rest piece) piece) p count).1 fields in
                let whole : is_whole a (rest ++ take (part a rest piece) piece) ≡ true = is_whole_from a (rest ++ take (part a rest piece) piece) (record { fields = frame.fields; frame = omega (arith, frame.len) }) in
                omega (arith, one, none_needed a (rest ++ take (part a rest piece) piece) whole)
          ]
    ]

-- ---- What is staged then

-- the frame, if it is complete, else all
pub taken_whole : (a : Awaited) (rest piece : List ℕ) → IsPartial a rest → is_whole a (rest ++ piece) ≡ true →
    (rest ++ take (bytes_taken a rest piece) piece ≡ take (frame_len a (rest ++ piece)) (rest ++ piece)) × (IsFrame a (rest ++ take (bytes_taken a rest piece) piece) × (length rest + bytes_taken a rest piece ≡ frame_len a (rest ++ piece)))
taken_whole a rest piece p whole =
    let n : bytes_taken a rest piece ≡ frame_len a (rest ++ piece) - length rest = bytes_taken_whole a rest piece whole in
    let le : length rest ≤ frame_len a (rest ++ piece) = shorter_than_frame a rest piece p in
    let sum : length rest + bytes_taken a rest piece ≡ frame_len a (rest ++ piece) = omega (arith, n, le) in
    let same : rest ++ take (bytes_taken a rest piece) piece ≡ take (frame_len a (rest ++ piece)) (rest ++ piece) =
    sym (take-append-add rest piece (bytes_taken a rest piece)) ∙ ap (λ (m : ℕ). take m (rest ++ piece)) sum in
    (same, (subst (λ (bytes : List ℕ). IsFrame a bytes) (sym same) (IsFrame_take a (rest ++ piece) (whole_from a (rest ++ piece) whole)), sum))

pub taken_all : (a : Awaited) (rest piece : List ℕ) → is_whole a (rest ++ piece) ≡ false → rest ++ take (bytes_taken a rest piece) piece ≡ rest ++ piece
taken_all a rest piece partial = ap (λ (bytes : List ℕ). rest ++ bytes) (ap (λ (n : ℕ). take n piece) (bytes_taken_partial a rest piece partial) ∙ take_all (length piece) piece (omega arith))

-- what is staged is complete if and only if the piece completed the frame
pub whole_as_staged : (a : Awaited) (rest piece : List ℕ) → IsPartial a rest → is_whole a (rest ++ take (bytes_taken a rest piece) piece) ≡ is_whole a (rest ++ piece)
whole_as_staged a rest piece p = by (is_whole a (rest ++ piece)) refl
  where
    by : (w : Bool) → is_whole a (rest ++ piece) ≡ w → is_whole a (rest ++ take (bytes_taken a rest piece) piece) ≡ is_whole a (rest ++ piece)
    by true whole =
        let frame : IsFrame a (rest ++ take (bytes_taken a rest piece) piece) = (taken_whole a rest piece p whole).1.0 in
        is_whole_from a (rest ++ take (bytes_taken a rest piece) piece) (record { fields = frame.fields; frame = omega (arith, frame.len) }) ∙ sym whole
    by false partial = ap (is_whole a) (taken_all a rest piece partial)

-- ---- The staging buffer after two parts

pub front_of : (old piece : List ℕ) (s n : ℕ) → s ≤ length old → n ≤ length piece → take (s + n) (take s old ++ (take n piece ++ drop (s + n) old)) ≡ take s old ++ take n piece
front_of old piece s n some few =
    let len : length (take s old ++ take n piece) ≡ s + n = omega (arith, some, few, length-append (take s old) (take n piece), length-take s old, length-take n piece) in
    ap (take (s + n)) (sym (append_assoc (take s old) (take n piece) (drop (s + n) old)))
    ∙ subst (λ (k : ℕ). take k ((take s old ++ take n piece) ++ drop (s + n) old) ≡ take s old ++ take n piece) len (take-append_seam (take s old ++ take n piece) (drop (s + n) old))

behind_of : (old piece : List ℕ) (s n m : ℕ) → s ≤ length old → n ≤ length piece → drop ((s + n) + m) (take s old ++ (take n piece ++ drop (s + n) old)) ≡ drop ((s + n) + m) old
behind_of old piece s n m some few =
    let len : length (take s old ++ take n piece) ≡ s + n = omega (arith, some, few, length-append (take s old) (take n piece), length-take s old, length-take n piece) in
    ap (drop ((s + n) + m)) (sym (append_assoc (take s old) (take n piece) (drop (s + n) old)))
    ∙ subst (λ (k : ℕ). drop (k + m) ((take s old ++ take n piece) ++ drop (s + n) old) ≡ drop m (drop (s + n) old)) len (drop-append-add (take s old ++ take n piece) (drop (s + n) old) m)
    ∙ drop-drop m (s + n) old

pub staged_twice : (old piece first second left : List ℕ) (s n m : ℕ) → s ≤ length old → n ≤ length piece → first ≡ take s old ++ (take n piece ++ drop (s + n) old) → left ≡ drop n piece →
    second ≡ take (s + n) first ++ (take m left ++ drop ((s + n) + m) first) → second ≡ take s old ++ (take (n + m) piece ++ drop (s + (n + m)) old)
staged_twice old piece first second left s n m some few is rest then =
    then
    ∙ (λ i. take (s + n) (is i) ++ (take m (rest i) ++ drop ((s + n) + m) (is i)))
    ∙ (λ i. front_of old piece s n some few i ++ (take m (drop n piece) ++ behind_of old piece s n m some few i))
    ∙ append_assoc (take s old) (take n piece) (take m (drop n piece) ++ drop ((s + n) + m) old)
    ∙ ap (λ (bytes : List ℕ). take s old ++ bytes) (sym (append_assoc (take n piece) (take m (drop n piece)) (drop ((s + n) + m) old)))
    ∙ (λ i. take s old ++ (sym (take-add n m piece) i ++ drop (sum i) old))
  where
    sum : (s + n) + m ≡ s + (n + m)
    sum = omega arith

pub taken_twice : (a : Awaited) (old piece first left : List ℕ) (s n m : ℕ) → s ≤ length old → IsPartial a (take s old) → n ≡ part a (take s old) piece →
    first ≡ take s old ++ (take n piece ++ drop (s + n) old) → left ≡ drop n piece → m ≡ min (bytes_needed a (take (s + n) first)) (length left) → n + m ≡ bytes_taken a (take s old) piece
taken_twice a old piece first left s n m some p one is rest two =
    let few : n ≤ length piece = omega (arith, one) in
    let front : take (s + n) first ≡ take s old ++ take n piece = ap (take (s + n)) is ∙ front_of old piece s n some few in
    let second : m ≡ part a (take s old ++ take n piece) (drop n piece) = two ∙ (λ i. min (bytes_needed a (front i)) (length (rest i))) in
    subst (λ (k : ℕ). k + m ≡ bytes_taken a (take s old) piece) (sym one)
    (ap (λ (j : ℕ). part a (take s old) piece + j) (subst (λ (k : ℕ). m ≡ part a (take s old ++ take k piece) (drop k piece)) one second) ∙ two_parts a (take s old) piece p)
