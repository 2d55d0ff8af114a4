-- A call whose reply is handed over was accepted before, and goes out by a plan.
use Rattle.std.proofs.Common.{ℕ, ◌∷◌, ◌++◌, ap, ◌∙◌}
use Rattle.nr_reduce.specs.declared.call.Outcome.TheVariants as outcomes
use Rattle.nr_reduce.specs.declared.mark.Mark.{Mark}
use Rattle.nr_reduce.specs.declared.mark.Mark.TheVariants as marks
use Rattle.nr_laws.specs.HandedOver.{RepliesHavePlans}
use Rattle.nr_laws.specs.MarkAt.{MarkAt}
use Rattle.nr_laws.proofs.Replied.{replied_by_lem}
use Rattle.nr_laws.proofs.ExecutedPayloads.{executes_have_plans}
use Rattle.nr_laws.proofs.LaterMarks.{mark_later, plan_later}

pub replies_have_plans : RepliesHavePlans
replies_have_plans opened link run before xid reply typed far at =
    let r = replied_by_lem opened link run before at.after xid reply typed far at.is in
    let e = r.answer.call in
    let m = r.by.mark in
    let execute : Mark = marks.Execute link xid e.moment e.payload e.place e.reply in
    let own : MarkAt before m.earlier execute = record { after = m.later; is = m.is ∙ ap (λ (x : ℕ). m.earlier ++ marks.Execute link x e.moment e.payload e.place e.reply ∷ m.later) r.own } in
    let there = mark_later run before (marks.Done link xid (outcomes.Reply reply)) at.after m.earlier execute at.is own in
    let p = executes_have_plans opened link run m.earlier xid e.moment e.payload e.place e.reply typed far there in
    (p.0, plan_later opened link before m.earlier execute m.later xid p.0 own.is p.1)
