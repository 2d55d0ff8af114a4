use Rattle.nr_plain.proofs.ReplyHeads.{begins_with_xid}
use Rattle.nr_plain.proofs.Placed.{begins_with_xid_at, calls_alone}
use Rattle.nr_plain.proofs.laws.replies_begin_with_the_xid.Goals as goal

pub returns-clause-answers : goal.returns-clause-answers
returns-clause-answers c = begins_with_xid

pub returns-clause-placed : goal.returns-clause-placed
returns-clause-placed c = begins_with_xid_at

pub returns-clause-calls : goal.returns-clause-calls
returns-clause-calls c = calls_alone
