-- A link that loses, makes and changes nothing: at each mark, what a side received is a prefix of what the other side sent.
use Rattle.std.specs.Prelude.{◌≡◌, ℕ, List, [], ◌++◌}
use Rattle.nr_reduce.specs.declared.mark.Mark.{Mark}
use Rattle.nr_reduce.specs.declared.mark.Mark.TheVariants as marks
use Rattle.nr_wire.specs.Hello.{peer}
use Rattle.nr_reduce.specs.History.{bytes_received, bytes_sent}
use Rattle.nr_reduce.specs.AtEachMark.{AtEachMark}

abbrev pub IsPrefixOf : List ℕ → List ℕ → Type 0
IsPrefixOf xs ys = (rest : List ℕ) × (xs ++ rest ≡ ys)

abbrev pub MatchedMark : ℕ → List Mark → Mark → Type 0
MatchedMark link before (marks.Fed l side bytes) = l ≡ link → IsPrefixOf (bytes_received link side before ++ bytes) (bytes_sent link (peer side) before)
MatchedMark link before mark = Unit {0}

abbrev pub Matched : ℕ → List Mark → Type 0
Matched link run = AtEachMark (MatchedMark link) [] run
