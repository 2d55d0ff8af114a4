-- Steps of reading a capture.
use Rattle.std.specs.Prelude.{◌==◌}
use Rattle.std.proofs.Common.{◌≡◌, ℕ, ◌+◌, ◌<◌, List, [], ◌∷◌, length, Option, None, Some, Result, Ok, Err, refl, sym, ap, subst, ◌∙◌, arith}
use Rattle.nr_texts.specs.Words.{newline, parts}
use Rattle.std.specs.Prelude.{IfSome}
use Rattle.std.specs.Borrow.{Bor}
use Rattle.nr_texts.specs.Pieces.{parts_left}
use Rattle.nr_texts.proofs.Pieces.{split, cut_some, shorter_some}
use Rattle.nr_capture.specs.declared.capture.CaptureFault.{CaptureFault}
use Rattle.nr_capture.specs.Capture.{CaptureLines, GivesCapture, with_line, with_first_line, read_on, marks_from, capture_from}

step : (number : ℕ) (read : CaptureLines) (line next : List ℕ) →
    marks_from number read (line ∷ parts newline next) ≡ read_on number (with_line read line) (λ more. marks_from (number + 1) more (parts newline next))
step number read line next = let s = split (λ c. c == newline) next in rw (s.is) refl

pub bad : (number : ℕ) (read : CaptureLines) (all : List (List ℕ)) (line next : List ℕ) → all ≡ line ∷ parts newline next → with_line read line ≡ None →
    marks_from number read all ≡ Err number
bad number read all line next e none =
    ap (marks_from number read) e ∙ step number read line next ∙ ap (λ o. read_on number o (λ more. marks_from (number + 1) more (parts newline next))) none

pub more : (number : ℕ) (read after : CaptureLines) (all : List (List ℕ)) (line next : List ℕ) → all ≡ line ∷ parts newline next → with_line read line ≡ Some after →
    marks_from number read all ≡ marks_from (number + 1) after (parts newline next)
more number read after all line next e some =
    ap (marks_from number read) e ∙ step number read line next ∙ ap (λ o. read_on number o (λ more. marks_from (number + 1) more (parts newline next))) some

pub last_ends : (number : ℕ) (read : CaptureLines) (all : List (List ℕ)) (line : List ℕ) → all ≡ line ∷ [] → length line ≡ 0 → marks_from number read all ≡ Ok read
last_ends number read all [] e empty = ap (marks_from number read) e
last_ends number read all (c ∷ line) e empty = absurd (omega (arith, empty))

pub last_bad : (number : ℕ) (read : CaptureLines) (all : List (List ℕ)) (line : List ℕ) → all ≡ line ∷ [] → 0 < length line → marks_from number read all ≡ Err number
last_bad number read all [] e some = absurd (omega (arith, some))
last_bad number read all (c ∷ line) e some = ap (marks_from number read) e

-- the first line
pub one_line : (all : List (List ℕ)) (line : List ℕ) → all ≡ line ∷ [] → capture_from all ≡ Err 1
one_line all line e = ap capture_from e

first_step : (line next : List ℕ) → capture_from (line ∷ parts newline next) ≡ read_on 1 (with_first_line line) (λ read. marks_from 2 read (parts newline next))
first_step line next = let s = split (λ c. c == newline) next in rw (s.is) refl

pub first_bad : (all : List (List ℕ)) (line next : List ℕ) → all ≡ line ∷ parts newline next → with_first_line line ≡ None → capture_from all ≡ Err 1
first_bad all line next e none =
    ap capture_from e ∙ first_step line next ∙ ap (λ o. read_on 1 o (λ read. marks_from 2 read (parts newline next))) none

pub first_more : (all : List (List ℕ)) (line next : List ℕ) (read : CaptureLines) → all ≡ line ∷ parts newline next → with_first_line line ≡ Some read →
    capture_from all ≡ marks_from 2 read (parts newline next)
first_more all line next read e some =
    ap capture_from e ∙ first_step line next ∙ ap (λ o. read_on 1 o (λ r. marks_from 2 r (parts newline next))) some

-- a line that was cut off a text that has more
pub line_cut : (all : List (List ℕ)) (line : List ℕ) (rest : Option (Bor (List ℕ))) (next : Bor (List ℕ)) → all ≡ line ∷ parts_left newline rest → rest ≡ Some next →
    all ≡ line ∷ parts newline next.now
line_cut all line rest next e is = cut_some newline all line rest next e is

pub line_shorter : (rest : Option (Bor (List ℕ))) (next : Bor (List ℕ)) (n : ℕ) → IfSome rest (λ r. length r.now < n) → rest ≡ Some next → length next.now < n
line_shorter rest next n h is = shorter_some rest next n h is

-- the answer of reading the marks is that of reading the text
pub same_answer : (r : Result CaptureLines CaptureFault) (a b : Result CaptureLines ℕ) → b ≡ a → GivesCapture r a → GivesCapture r b
same_answer r a b e h = subst (λ (x : Result CaptureLines ℕ). GivesCapture r x) (sym e) h
