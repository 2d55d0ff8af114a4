use Rattle.std.proofs.Common.{◌≡◌, ◌+◌, ◌*◌, ◌≤◌, drop}
use Rattle.nr_requester.specs.HeldBytes.{answers_bytes, held_unit}
use Rattle.nr_requester.proofs.holding.answers_bytes.Given as goal

abbrev pub invariant-answers : goal.invariant-answers
invariant-answers l = record {
  bound : l.sum ≤ held_unit * l.i;
  all : l.sum + answers_bytes (drop l.i l.fn.answers) ≡ answers_bytes l.fn.answers;
}
