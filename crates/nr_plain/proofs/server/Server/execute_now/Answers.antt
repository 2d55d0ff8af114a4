use Rattle.std.proofs.Common.{ap, subst, arith}
use Rattle.nr_plain.specs.Stands.{IsServing, PlainServerState, state_kept}
use Rattle.nr_plain.proofs.Executed.{executed_now}
use Rattle.nr_plain.proofs.ReplyLimits.{any_reply_small}
use Rattle.nr_plain.proofs.server.Server.execute_now.Goals as goal

pub returns-clause-executed : goal.returns-clause-executed
returns-clause-executed c =
    executed_now c.args.self.now c.answer-reply.new.self c.args.now c.args.payload.now c.in_ok-reply.field-0 c.self.inside.count c.in-Ok.head c.in-Ok.ensures.exact (ap (λ (k : PlainServerState). k.count) c.self.view_is) c.in_ok-reply.ensures.reply c.in_ok-reply.ensures.kept

pub returns-clause-limit : goal.returns-clause-limit
returns-clause-limit c =
    any_reply_small c.args.self.now.parameters (state_kept c.args.self.now) c.args.now c.args.payload.now c.in-Ok.head c.in_ok-reply.field-0 (λ i. omega (arith, c.type_inv.payload i))
    (subst IsServing c.self.view_is c.self.invariant).sane c.in-Ok.ensures.exact c.in_ok-reply.ensures.reply
