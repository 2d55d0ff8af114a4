use Rattle.std.proofs.Common.{◌≡◌, ◌≤◌, drop}
use Rattle.nr_words.specs.Numbers.{value_after}
use Rattle.nr_words.proofs.numbers.number_within.Given as goal

abbrev pub invariant-loop-byte : goal.invariant-loop-byte
invariant-loop-byte l = (value_after 0 l.text ≡ value_after l.value (drop l.byte-index l.text)) × (l.value ≤ l.high)
