use Rattle.nr_rpc.proofs.Replies.{reply_written}
use Rattle.nr_rpc.proofs.laws.reply_round_trip.Goals as goal

pub returns : goal.returns
returns c = reply_written
