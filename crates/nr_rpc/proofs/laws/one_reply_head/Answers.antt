use Rattle.nr_rpc.proofs.Replies.{one_reply}
use Rattle.nr_rpc.proofs.laws.one_reply_head.Goals as goal

pub returns : goal.returns
returns c = one_reply
