use Rattle.std.proofs.Common.{ℕ, ◌<◌, ◌≤◌, IfSome}
use Rattle.nr_tree.specs.Paged.{page, HasByte, KeepsBytes}
use Rattle.nr_tree.proofs.pages.drop_zeros.Given as goal

abbrev pub invariant-loop-number : goal.invariant-loop-number
invariant-loop-number l = KeepsBytes l.fn.pages.entries l.pages.entries l.first l.end × ((p : ℕ) → l.first ≤ p → p < l.number → IfSome (page l.pages.entries p) HasByte)
