use Rattle.std.proofs.Common.{◌≡◌, ℕ, ◌<◌, ◌≤◌, is_some, true}
use Rattle.nr_tree.specs.Paged.{page, KeepsBytes}
use Rattle.nr_tree.proofs.pages.make_room.Given as goal

abbrev pub invariant-loop-number : goal.invariant-loop-number
invariant-loop-number l = KeepsBytes l.fn.pages.entries l.pages.entries l.first l.end × ((p : ℕ) → l.first ≤ p → p < l.number → is_some (page l.pages.entries p) ≡ true)
