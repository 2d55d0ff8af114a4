use Rattle.std.proofs.Common.{sym, ap, subst, ◌∙◌}
use Rattle.nr_turnstile.specs.Passes.{mine_of, seen_by}
use Rattle.nr_shared.specs.Sharing.{SharedRests}
use Rattle.nr_gate.proofs.gated_links.GatedLinks.make_job.Goals as goal

pub new-caller-requires : goal.new-caller-requires
new-caller-requires g c = subst (λ s. SharedRests s c.split-pass.result) (c.deref.ensures ∙ sym c.requires.share) c.split-pass.ensures.rests.1

pub returns-clause-split : goal.returns-clause-split
returns-clause-split g c =
    let pass = c.new-caller.ensures.pass in
    let own = c.split-pass.ensures.new in
    let kept = c.split-pass.ensures.unchanged in
    (ap (λ p. seen_by p.main) pass ∙ own.0 ∙ sym kept.0, ap (λ p. mine_of p.main) pass ∙ own.1)

pub returns-clause-share : goal.returns-clause-share
returns-clause-share g c = c.new-caller.ensures.remote ∙ c.requires.share
