use Rattle.std.proofs.Common.{◌≡◌, ◌+◌, take}
use Rattle.nr_header.specs.Constants.{PAYLOAD_MAX}
use Rattle.nr_header.specs.WithinLimits.{read_total}
use Rattle.nr_header.proofs.reading.passes_payload.Given as goal

abbrev pub invariant-loop-entry : goal.invariant-loop-entry
invariant-loop-entry l = l.room + (l.stream + read_total (take l.entry-index l.read)) ≡ PAYLOAD_MAX
