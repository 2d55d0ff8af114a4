-- Steps of reading a script.
use Rattle.std.specs.Prelude.{◌==◌}
use Rattle.std.proofs.Common.{◌≡◌, ℕ, ◌+◌, ◌<◌, List, [], ◌∷◌, length, Option, None, Some, Ok, Err, refl, ap, ◌∙◌, arith}
use Rattle.nr_texts.specs.Words.{parts, newline}
use Rattle.nr_texts.specs.declared.opening.Opening.{Opening}
use Rattle.nr_script.specs.private.Steps.{opened, with_opening}
use Rattle.nr_texts.proofs.Pieces.{split}
use Rattle.nr_script.specs.Script.{ScriptLines, with_text, read_on, script_from}

step : (number : ℕ) (read : Option ScriptLines) (line next : List ℕ) →
    script_from number read (line ∷ parts newline next) ≡ read_on number (with_text read line) (λ more. script_from (number + 1) more (parts newline next))
step number read line next = let s = split (λ c. c == newline) next in rw (s.is) refl

pub bad : (number : ℕ) (read : Option ScriptLines) (all : List (List ℕ)) (line next : List ℕ) → all ≡ line ∷ parts newline next → with_text read line ≡ None →
    script_from number read all ≡ Err number
bad number read all line next e none =
    ap (script_from number read) e ∙ step number read line next ∙ ap (λ o. read_on number o (λ more. script_from (number + 1) more (parts newline next))) none

pub more : (number : ℕ) (read after : Option ScriptLines) (all : List (List ℕ)) (line next : List ℕ) → all ≡ line ∷ parts newline next → with_text read line ≡ Some after →
    script_from number read all ≡ script_from (number + 1) after (parts newline next)
more number read after all line next e some =
    ap (script_from number read) e ∙ step number read line next ∙ ap (λ o. read_on number o (λ more. script_from (number + 1) more (parts newline next))) some

pub last_unopened : (number : ℕ) (all : List (List ℕ)) (line : List ℕ) → all ≡ line ∷ [] → script_from number None all ≡ Err number
last_unopened number all [] e = ap (script_from number None) e
last_unopened number all (c ∷ line) e = ap (script_from number None) e

pub last_ends : (number : ℕ) (script : ScriptLines) (all : List (List ℕ)) (line : List ℕ) → all ≡ line ∷ [] → length line ≡ 0 → script_from number (Some script) all ≡ Ok script
last_ends number script all [] e empty = ap (script_from number (Some script)) e
last_ends number script all (c ∷ line) e empty = absurd (omega (arith, empty))

pub last_bad : (number : ℕ) (script : ScriptLines) (all : List (List ℕ)) (line : List ℕ) → all ≡ line ∷ [] → 0 < length line → script_from number (Some script) all ≡ Err number
last_bad number script all [] e some = absurd (omega (arith, some))
last_bad number script all (c ∷ line) e some = ap (script_from number (Some script)) e

-- what a line before the first line gives
pub opens : (r : Option (Option ScriptLines)) (o : Option (Option Opening)) (opening : Opening) → r ≡ with_opening o → o ≡ Some (Some opening) → r ≡ Some (Some (opened opening))
opens r o opening e is = e ∙ ap with_opening is

pub skips : (r : Option (Option ScriptLines)) (o : Option (Option Opening)) → r ≡ with_opening o → o ≡ Some None → r ≡ Some None
skips r o e is = e ∙ ap with_opening is
