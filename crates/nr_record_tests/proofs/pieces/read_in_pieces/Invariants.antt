use Rattle.std.proofs.Common.{◌+◌, ◌≤◌, ◌^◌, length}
use Rattle.nr_record.specs.RecordsState.{kept}
use Rattle.nr_record_tests.proofs.pieces.read_in_pieces.Given as goal

abbrev pub invariant-loop-fault : goal.invariant-loop-fault
invariant-loop-fault l = (kept l.reader).count + length l.rest ≤ 2 ^ 40

abbrev pub decreases-loop-fault : goal.decreases-loop-fault
decreases-loop-fault l = length l.rest
