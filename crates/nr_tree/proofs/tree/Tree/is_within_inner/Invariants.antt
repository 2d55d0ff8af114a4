use Rattle.std.proofs.Common.{◌≡◌, ◌-◌}
use Rattle.nr_tree.specs.Sane.{skeleton}
use Rattle.nr_tree.specs.Within.{walks_to, is_within}
use Rattle.nr_tree.proofs.tree.Tree.is_within_inner.Given as goal

-- the walk that is left finds what the complete walk finds
abbrev pub invariant-loop : goal.invariant-loop
invariant-loop l = walks_to (l.end - l.counter) (skeleton l.self) l.number l.top ≡ is_within (skeleton l.self) l.dir l.top
