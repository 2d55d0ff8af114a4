use Rattle.std.proofs.Common.{◌≡◌, ◌++◌, take}
use Rattle.nr_commands.specs.Printed.{names_text}
use Rattle.nr_commands.proofs.printing.push_names.Given as goal

abbrev pub invariant-loop-name : goal.invariant-loop-name
invariant-loop-name l = l.text ≡ l.initial.text ++ names_text (take l.name-index l.names)
