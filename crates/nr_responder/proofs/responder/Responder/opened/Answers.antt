use Rattle.std.proofs.Common.{◌≡◌, ℕ, List, subst}
use Rattle.nr_reduce.specs.declared.mark.LinkParameters.{LinkParameters}
use Rattle.nr_reduce.specs.declared.mark.Mark.{Mark}
use Rattle.nr_responder.specs.ResponderState.{ResponderState}
use Rattle.nr_responder.specs.Standing.{ResponderRepresents}
use Rattle.nr_responder.proofs.responder.Responder.opened.Goals as goal

pub returns-clause-of_run : goal.returns-clause-of_run
returns-clause-of_run c =
    subst (λ (v : ResponderState). (opened : LinkParameters) (link : ℕ) (run : List Mark) → ResponderRepresents opened link run v.side → c.opened.result ≡ opened.receives) c.self.view_is c.opened.ensures.of_run
