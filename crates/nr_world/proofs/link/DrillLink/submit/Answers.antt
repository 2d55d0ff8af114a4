use Rattle.std.proofs.Common.{◌∙◌, [], ◌∷◌, ◌++◌, refl, ap}
use Rattle.nr_reduce.specs.declared.mark.Mark.TheVariants as marks
use Rattle.nr_world.specs.DrillLinkState.{DrillLinkState}
use Rattle.nr_world.proofs.GivenCalls.{submits}
use Rattle.nr_world.proofs.Standing.{on_ok}
use Rattle.nr_world.proofs.link.DrillLink.submit.Goals as goal

pub answer-requires : goal.answer-requires
answer-requires c = c.requires

pub same-self : goal.same-self
same-self c = refl

pub same-self-in-Err-add_submit : goal.same-self-in-Err-add_submit
same-self-in-Err-add_submit c = refl

pub returns-in-Ok-add_submit : goal.returns-in-Ok-add_submit
returns-in-Ok-add_submit c =
    on_ok c.settle.result _ _
    (λ settles. submits c.args.self.now c.answer.new.self c.settle.new.self c.args.call c.args.form c.in-Ok.answer c.args.marks.now c.add_submit.new.marks c.settle.new.marks c.in-Ok.ensures
    (c.in-Ok-add_submit.ensures ∙ ap (λ (v : DrillLinkState). c.args.marks.now ++ marks.Submit v.number c.args.call c.args.form c.in-Ok.answer ∷ []) c.self.view_is) settles)
    c.settle.ensures
