use Rattle.std.proofs.Common.{◌≡◌, ◌+◌, ◌*◌, ◌≤◌, drop}
use Rattle.nr_header.specs.WithinLimits.{read_total}
use Rattle.nr_responder.proofs.starting.read_len.Given as goal

abbrev pub invariant-loop-entry : goal.invariant-loop-entry
invariant-loop-entry l = record {
  left : l.total + read_total (drop l.entry-index l.read) ≡ read_total l.read;
  bounded : l.total ≤ l.entry-index * 4294967296;
}
