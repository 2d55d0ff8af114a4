use Rattle.std.proofs.Common.{ap, sym}
use Rattle.std.specs.Arc.{arc_value}
use Rattle.nr_gate.proofs.Steps.{rests_with}
use Rattle.nr_gate.proofs.gating.gate.Goals as goal

pub returns-clause-rests : goal.returns-clause-rests
returns-clause-rests g c =
    rests_with (arc_value c.args.remote.now) (arc_value c.gate_links.new.jobs.remote.now) c.pass-1.given.0 c.gate_links.new.jobs.pass.now (ap (λ r. arc_value r) c.gate_links.ensures.remote)
    (c.pass-1.given.1 (sym c.gate_links.ensures.pass)) c.gate_links.ensures.rests
