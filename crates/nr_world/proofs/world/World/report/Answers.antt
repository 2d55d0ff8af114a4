use Rattle.std.proofs.Common.{◌≡◌, length, arith, refl, ap, sym, subst, ◌∙◌}
use Rattle.nr_world.specs.private.Results.{AreEndsOf}
use Rattle.nr_world.proofs.Reporting.{tells_world}
use Rattle.nr_world.proofs.Stands.{if_ok}
use Rattle.nr_world.proofs.world.World.report.Goals as goal

pub report_of-requires : goal.report_of-requires
report_of-requires c =
    let all : length c.as_slice-in-Ok.result.now ≡ length c.args.self.links.items = ap length c.as_slice-in-Ok.ensures.value ∙ c.in-Ok.ensures.len in
    omega (arith, all, c.requires)

pub returns-in-Ok : goal.returns-in-Ok
returns-in-Ok c = if_ok c.report_of.result _ _ c.report_of.ensures.reports (λ report tells. tells_world c.args.self c.args.self.marks c.as_slice.result.now c.as_slice-in-Ok.result.now report refl c.as_slice.ensures.value
    (subst (AreEndsOf c.args.self) (sym c.as_slice-in-Ok.ensures.value) c.in-Ok.ensures.ends) tells)
