use Rattle.std.proofs.Common.{ap, ◌∙◌}
use Rattle.nr_requester.specs.RequesterState.{RequesterSide}
use Rattle.nr_requester.proofs.requester.Requester.agreed.Goals as goal

pub returns-clause-stands : goal.returns-clause-stands
returns-clause-stands c = λ opened link run s. (
  c.agreed.ensures.up ∙ (ap (λ (h : RequesterSide). h.state.side.agreed.up) c.self.view_is ∙ s.keeps.kept.keeps.up),
  c.agreed.ensures.down ∙ (ap (λ (h : RequesterSide). h.state.side.agreed.down) c.self.view_is ∙ s.keeps.kept.keeps.down),
)

pub returns-clause-keeps : goal.returns-clause-keeps
returns-clause-keeps c = λ is_own earlier opened link run s. (
  c.agreed.ensures.up ∙ (ap (λ (h : RequesterSide). h.state.side.agreed.up) c.self.view_is ∙ s.keeps.kept.keeps.up),
  c.agreed.ensures.down ∙ (ap (λ (h : RequesterSide). h.state.side.agreed.down) c.self.view_is ∙ s.keeps.kept.keeps.down),
)
