use Rattle.nr_laws.proofs.AtMostOnce.{no_send_twice, no_call_twice}
use Rattle.nr_laws.proofs.OnceByXid.{no_xid_twice}
use Rattle.nr_laws.proofs.laws.once.Goals as goal

pub returns-clause-sends : goal.returns-clause-sends
returns-clause-sends c = no_send_twice

pub returns-clause-calls : goal.returns-clause-calls
returns-clause-calls c = no_call_twice

pub returns-clause-xids : goal.returns-clause-xids
returns-clause-xids c = no_xid_twice
