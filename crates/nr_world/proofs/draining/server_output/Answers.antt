use Rattle.std.proofs.Common.{◌∙◌, ap}
use Rattle.nr_outside.specs.MemSink.{MemSinkState}
use Rattle.nr_world.proofs.Outputs.{if_ok, server_writes}
use Rattle.nr_world.proofs.draining.server_output.Goals as goal

pub returns-in-Ok-clause-writes : goal.returns-in-Ok-clause-writes
returns-in-Ok-clause-writes c =
    if_ok c.from_slice.result _ _
    (λ bytes is. server_writes _ _ _ _ bytes c.in-Ok.ensures.taken.0 c.in-Ok.ensures.taken.1.0 c.in-Ok.ensures.taken.1.1 (ap (λ (s : MemSinkState). s.bytes) c.new-sink.ensures) (is ∙ c.bytes.ensures))
    c.from_slice.ensures
