use Rattle.std.proofs.Common.{arith}
use Rattle.nr_reduce.specs.declared.call.Form.TheVariants as forms
use Rattle.nr_reduce.specs.Plans.{plan_in_form}
use Rattle.nr_gate.specs.Forwarding.{forwarded}
use Rattle.nr_gate_laws.proofs.AutoFits.{auto_fits}
use Rattle.nr_gate_laws.proofs.Forwarding.{no_longer}
use Rattle.nr_gate_laws.proofs.laws.forwarded_calls_are_no_longer.Goals as goal

pub returns-clause-no_longer : goal.returns-clause-no_longer
returns-clause-no_longer c = no_longer

pub returns-clause-planned : goal.returns-clause-planned
returns-clause-planned c x q up down bytes within room =
    let short = no_longer x q bytes in
    (plan_in_form (forwarded x q) forms.Auto up down, auto_fits (forwarded x q) up down (omega (arith, short, within)) room)
