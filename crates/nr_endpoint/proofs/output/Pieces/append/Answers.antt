use Rattle.std.proofs.Common.{ap, ◌++◌, ◌∙◌, arith}
use Rattle.std.specs.List.{concat}
use Rattle.std.proofs.lemmas.List.Folds.{concat-append}
use Rattle.nr_endpoint.proofs.OutputPieces.{appended}
use Rattle.nr_endpoint.proofs.output.Pieces.append.Goals as goal

pub invariant_of-self-2 : goal.invariant_of-self-2
invariant_of-self-2 c =
    appended c.self.inside.queue.items c.more.inside.queue.items _ _ _ c.in_ok-append.ensures.items c.self.invariant c.more.invariant (omega arith)

pub returns-clause-ok : goal.returns-clause-ok
returns-clause-ok c =
    ap concat c.in_ok-append.ensures.items
    ∙ concat-append c.self.inside.queue.items c.more.inside.queue.items
    ∙ (λ i. c.self.view_is i ++ c.more.view_is i)
