use Rattle.std.proofs.Common.{◌≡◌, ◌-◌, ◌++◌}
use Rattle.nr_script.specs.Generator.{drawn_lines}
use Rattle.nr_script.proofs.generator.push_all.Given as goal

abbrev pub invariant-loop-turn : goal.invariant-loop-turn
invariant-loop-turn l = l.lines.items ++ drawn_lines l.clients (l.calls - l.turn) l.state ≡ l.fn.lines.items ++ drawn_lines l.clients l.calls l.seed
