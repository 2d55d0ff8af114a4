use Rattle.std.proofs.Common.{ℕ, sym, subst, arith}
use Rattle.nr_reduce.specs.declared.call.Submission.TheVariants as submissions
use Rattle.nr_reduce.specs.declared.mark.Mark.TheVariants as marks
use Rattle.nr_requester.specs.Standing.{StandsOn}
use Rattle.nr_requester.specs.ReopenedLinks.{KeepsOn}
use Rattle.nr_requester.proofs.Answered.{sent_stands}
use Rattle.nr_requester.proofs.CallsKeep.{sent_keeps}
use Rattle.nr_requester.specs.OpenCalls.{OpensTicket}
use Rattle.nr_requester.proofs.Tickets.{sent_opens, fed_sent}
use Rattle.nr_requester.proofs.requester.Requester.submit.Goals as goal

pub returns-in-Ok-clause-stands : goal.returns-in-Ok-clause-stands
returns-in-Ok-clause-stands c =
    subst (λ (x : ℕ). StandsOn c.args.self.now (λ link. marks.Submit link c.args.call c.args.form (submissions.Accepted x)) c.submit_as.new.self) (sym c.new.ensures)
    (sent_stands c.args.self.now c.submit_as.new.self c.args.call c.args.form c.in-Ok.xid c.in-Ok.ensures.sent)

pub returns-in-Ok-clause-keeps : goal.returns-in-Ok-clause-keeps
returns-in-Ok-clause-keeps c =
    subst (λ (x : ℕ). KeepsOn c.args.self.now (λ link. marks.Submit link c.args.call c.args.form (submissions.Accepted x)) c.submit_as.new.self) (sym c.new.ensures)
    (sent_keeps c.args.self.now c.submit_as.new.self c.args.call c.args.form c.in-Ok.xid c.in-Ok.ensures.sent c.in-Ok.ensures.accepted)

pub returns-in-Ok-clause-tickets : goal.returns-in-Ok-clause-tickets
returns-in-Ok-clause-tickets c =
    subst (λ (x : ℕ). OpensTicket x c.args.call c.args.self.now.state c.submit_as.new.self.state) (sym c.new.ensures)
    (sent_opens c.args.self.now c.submit_as.new.self c.args.call c.args.form c.in-Ok.xid c.in-Ok.ensures.sent (c.facts.ensures.fresh c.args.self.now.state.next_xid (omega arith)))

pub returns-in-Ok-clause-fed : goal.returns-in-Ok-clause-fed
returns-in-Ok-clause-fed c = fed_sent c.args.self.now c.submit_as.new.self c.args.call c.args.form c.in-Ok.xid c.in-Ok.ensures.sent
