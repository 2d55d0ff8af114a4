use Rattle.nr_reduce.proofs.XidsFollow.{next_xid_follows, xids_follow}
use Rattle.nr_reduce.proofs.standing_laws.xids_follow_sends.Goals as goal

pub returns-clause-next : goal.returns-clause-next
returns-clause-next c = next_xid_follows

pub returns-clause-outstanding : goal.returns-clause-outstanding
returns-clause-outstanding c = xids_follow
