use Rattle.std.proofs.Common.{◌∙◌, ap}
use Rattle.nr_outside.specs.MemSink.{MemSinkState}
use Rattle.nr_world.proofs.Outputs.{client_writes, if_ok}
use Rattle.nr_world.proofs.draining.client_output.Goals as goal

pub returns-in-Ok-clause-writes : goal.returns-in-Ok-clause-writes
returns-in-Ok-clause-writes c =
    let taken = c.in-Ok.ensures.taken in
    if_ok c.from_slice.result _ _
    (λ bytes is. client_writes _ _ _ _ bytes taken.0 taken.2 taken.3 taken.6 taken.7 (ap (λ (s : MemSinkState). s.bytes) c.new-sink.ensures) (is ∙ c.bytes.ensures))
    c.from_slice.ensures
