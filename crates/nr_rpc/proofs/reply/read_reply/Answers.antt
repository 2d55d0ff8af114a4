use Rattle.std.proofs.Common.{arith}
use Rattle.nr_rpc.specs.Reading.{reply_of}
use Rattle.nr_rpc.proofs.Replies.{reply_is_found, begins_reply, reply_answered}
use Rattle.nr_rpc.proofs.reply.read_reply.Goals as goal

pub returns-clause-found : goal.returns-clause-found
returns-clause-found c = reply_is_found c.args.bytes.now c.read_reply_inner.result (λ i. omega (arith, c.type_inv.bytes i)) c.read_reply_inner.ensures

pub returns-clause-only : goal.returns-clause-only
returns-clause-only c = λ head begins. reply_answered c.read_reply_inner.result (reply_of c.args.bytes.now) head (begins_reply c.args.bytes.now head begins) c.read_reply_inner.ensures
