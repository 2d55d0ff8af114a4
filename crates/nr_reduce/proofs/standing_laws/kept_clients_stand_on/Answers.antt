use Rattle.nr_reduce.proofs.KeptMarks.{revoke_stands_lem, revoke_stays_out, wrote_stands, other_stands}
use Rattle.nr_reduce.proofs.standing_laws.kept_clients_stand_on.Goals as goal

pub returns-clause-revoke : goal.returns-clause-revoke
returns-clause-revoke c = revoke_stands_lem

pub returns-clause-revoke_out : goal.returns-clause-revoke_out
returns-clause-revoke_out c = revoke_stays_out

pub returns-clause-wrote : goal.returns-clause-wrote
returns-clause-wrote c = wrote_stands

pub returns-clause-other : goal.returns-clause-other
returns-clause-other c = other_stands
