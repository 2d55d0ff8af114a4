use Rattle.std.proofs.Common.{rules}
use Rattle.nr_shared.proofs.Told.{dial_ended, not_reopened, spent_ended}
use Rattle.nr_shared.proofs.requester_with_sink.RequesterWithSink.end.Goals as goal

pub returns-in-Some-NotReopened-clause-some : goal.returns-in-Some-NotReopened-clause-some
returns-in-Some-NotReopened-clause-some g c = λ history st. not_reopened g.O.LinkSink.link g.O.Sink.taken g.O.Sink.faults g.C.CallRule.allows c.args.self.now history (search rules) st

pub returns-in-Some-DialFault-clause-some : goal.returns-in-Some-DialFault-clause-some
returns-in-Some-DialFault-clause-some g c = λ history st. dial_ended g.O.LinkSink.link g.O.Sink.taken g.O.Sink.faults g.C.CallRule.allows c.args.self.now history (search rules) st

pub returns-in-Some-Spent-clause-some : goal.returns-in-Some-Spent-clause-some
returns-in-Some-Spent-clause-some g c = λ history st. spent_ended g.O.LinkSink.link g.O.Sink.taken g.O.Sink.faults g.C.CallRule.allows c.args.self.now history c.in-Some-Spent.left c.in-Some-Spent.need (search rules) st
