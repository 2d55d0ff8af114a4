use Rattle.std.proofs.Common.{◌≡◌, ℕ, ◌+◌, ◌<◌, ◌≤◌, List, [], ◌∷◌, map, length, drop, get_or, Some, None, String, Global, string_bytes, refl, arith, drop-cons, add-one}
use Rattle.std.specs.Prelude.{option_and_then, zero, suc}
use Rattle.nr_words.specs.declared.lines.Subcommand.{Subcommand}
use Rattle.nr_words.specs.declared.lines.State.{State}
use Rattle.nr_words.specs.Lines.{Text, steps, step, start, line_of, finished, subcommand_named}

pub step_on : (subcommand : Subcommand) (s t : State Text) (items : List (String Global)) (i : ℕ) (item : String Global) → i < length items → item ≡ get_or items i item
    → step subcommand s (string_bytes item) ≡ Some t → steps subcommand s (map string_bytes (drop i items)) ≡ steps subcommand t (map string_bytes (drop (i + 1) items))
unfolding steps
step_on subcommand s t items i item h is so = rw (drop-cons items i item h, ← is, so, add-one)

pub step_off : (subcommand : Subcommand) (s : State Text) (items : List (String Global)) (i : ℕ) (item : String Global) → i < length items → item ≡ get_or items i item
    → step subcommand s (string_bytes item) ≡ None → steps subcommand s (map string_bytes (drop i items)) ≡ None
unfolding steps
step_off subcommand s items i item h is so = rw (drop-cons items i item h, ← is, so)

pub no_step : (subcommand : Subcommand) (s : State Text) (items : List (String Global)) (i : ℕ) → length items ≤ i → steps subcommand s (map string_bytes (drop i items)) ≡ Some s
unfolding steps
no_step subcommand s [] zero h = refl
no_step subcommand s [] (suc i) h = refl
no_step subcommand s (item ∷ items) zero h = absurd (omega arith)
no_step subcommand s (item ∷ items) (suc i) h = no_step subcommand s items i (omega arith)

pub line_of_two : (words : List (String Global)) (d : String Global) → 2 ≤ length words
    → line_of (map string_bytes words) ≡ option_and_then (λ subcommand. option_and_then (finished subcommand) (steps subcommand start (map string_bytes (drop 2 words)))) (subcommand_named (string_bytes (get_or words 1 d)))
line_of_two [] d h = absurd (omega arith)
line_of_two (name ∷ []) d h = absurd (omega arith)
line_of_two (name ∷ word ∷ words) d h = refl

pub line_of_few : (words : List (String Global)) → length words < 2 → line_of (map string_bytes words) ≡ None
line_of_few [] h = refl
line_of_few (name ∷ []) h = refl
line_of_few (name ∷ word ∷ words) h = absurd (omega arith)
