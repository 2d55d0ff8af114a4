use Rattle.std.proofs.Common.{sym, subst, arith}
use Rattle.nr_reduce.specs.declared.call.Form.{Form}
use Rattle.nr_reduce.specs.declared.call.Form.TheVariants as forms
use Rattle.nr_reduce.specs.declared.outline.PlanSizes.{PlanSizes}
use Rattle.nr_reduce.specs.CallOutlines.{OutlineAnswers}
use Rattle.nr_reduce.specs.Plans.{plan_of}
use Rattle.nr_reduce.specs.PlanSizes.{KindFits}
use Rattle.nr_reduce.proofs.Outlining.{own_answer, too_long, given_answer}
use Rattle.nr_reduce.proofs.planning.outline_by.Goals as goal

pub returns-then-len-gt-PAYLOAD_MAX : goal.returns-then-len-gt-PAYLOAD_MAX
returns-then-len-gt-PAYLOAD_MAX c =
    λ payload e. too_long payload c.args.form.now c.args.up c.args.down c.args.facts e (omega (arith, c.if-len-gt-PAYLOAD_MAX.true))

pub returns-in-Auto : goal.returns-in-Auto
returns-in-Auto c =
    λ payload e. subst (λ (f : Form). OutlineAnswers payload c.outline_within.result (plan_of payload f c.args.up c.args.down)) (sym c.in-Auto.is)
    (own_answer payload forms.Auto c.args.up c.args.down c.args.facts c.auto_sizes.result c.outline_within.result tt e (omega (arith, c.if-len-gt-PAYLOAD_MAX.false)) c.requires
    c.auto_sizes.ensures.sizes c.auto_sizes.ensures.fits c.outline_within.ensures)

pub returns-in-Inline : goal.returns-in-Inline
returns-in-Inline c =
    λ payload e. subst (λ (f : Form). OutlineAnswers payload c.outline_within-in-Inline.result (plan_of payload f c.args.up c.args.down)) (sym c.in-Inline.is)
    (own_answer payload forms.Inline c.args.up c.args.down c.args.facts c.inline_sizes.result c.outline_within-in-Inline.result tt e (omega (arith, c.if-len-gt-PAYLOAD_MAX.false)) c.requires
    c.inline_sizes.ensures (subst (λ (o : PlanSizes). KindFits c.args.facts.len o.kind) (sym c.inline_sizes.ensures) tt) c.outline_within-in-Inline.ensures)

pub returns-in-Chunk : goal.returns-in-Chunk
returns-in-Chunk c =
    λ payload e. subst (λ (f : Form). OutlineAnswers payload c.outline_within-in-Chunk.result (plan_of payload f c.args.up c.args.down)) (sym c.in-Chunk.is)
    (own_answer payload forms.Chunk c.args.up c.args.down c.args.facts c.chunk_sizes.result c.outline_within-in-Chunk.result tt e (omega (arith, c.if-len-gt-PAYLOAD_MAX.false)) c.requires
    c.chunk_sizes.ensures.sizes c.chunk_sizes.ensures.fits c.outline_within-in-Chunk.ensures)

pub returns-in-Long : goal.returns-in-Long
returns-in-Long c =
    λ payload e. subst (λ (f : Form). OutlineAnswers payload c.outline_within-in-Long.result (plan_of payload f c.args.up c.args.down)) (sym c.in-Long.is)
    (own_answer payload forms.Long c.args.up c.args.down c.args.facts c.long_sizes.result c.outline_within-in-Long.result tt e (omega (arith, c.if-len-gt-PAYLOAD_MAX.false)) c.requires
    c.long_sizes.ensures (subst (λ (o : PlanSizes). KindFits c.args.facts.len o.kind) (sym c.long_sizes.ensures) tt) c.outline_within-in-Long.ensures)

pub returns-in-Given : goal.returns-in-Given
returns-in-Given c =
    λ payload e. subst (λ (f : Form). OutlineAnswers payload c.offer_outline.result (plan_of payload f c.args.up c.args.down)) (sym c.in-Given.is)
    (given_answer payload c.in-Given.offer c.args.up c.args.down c.args.facts c.offer_outline.result e (omega (arith, c.if-len-gt-PAYLOAD_MAX.false)) (c.offer_outline.ensures payload))
