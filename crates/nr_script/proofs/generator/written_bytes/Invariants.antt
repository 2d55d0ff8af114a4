use Rattle.std.proofs.Common.{◌≡◌}
use Rattle.nr_script.specs.Generator.{written_bytes}
use Rattle.nr_script.proofs.generator.written_bytes.Given as goal

abbrev pub invariant-loop-place : goal.invariant-loop-place
invariant-loop-place l = l.bytes.items ≡ written_bytes l.offset l.place
