use Rattle.nr_reduce.proofs.Keeping.{kept_judges, kept_responds, kept_answers, kept_counts}
use Rattle.nr_reduce.proofs.Releasing.{kept_stays, kept_revokes, kept_hands_back, kept_completes}
use Rattle.nr_reduce.proofs.Submits.{kept_places, kept_writes, kept_greets, kept_resends, kept_submits}
use Rattle.nr_reduce.proofs.Taking.{kept_takes, kept_ends}
use Rattle.nr_reduce.proofs.standing_laws.clients_keep_enough.Goals as goal

pub returns-clause-message : goal.returns-clause-message
returns-clause-message c = kept_judges

pub returns-clause-response : goal.returns-clause-response
returns-clause-response c = kept_responds

pub returns-clause-submit : goal.returns-clause-submit
returns-clause-submit c = kept_answers

pub returns-clause-counts : goal.returns-clause-counts
returns-clause-counts c = kept_counts

pub returns-clause-stays : goal.returns-clause-stays
returns-clause-stays c = kept_stays

pub returns-clause-revoked : goal.returns-clause-revoked
returns-clause-revoked c = kept_revokes

pub returns-clause-handed_back : goal.returns-clause-handed_back
returns-clause-handed_back c = kept_hands_back

pub returns-clause-completed : goal.returns-clause-completed
returns-clause-completed c = kept_completes

pub returns-clause-placed : goal.returns-clause-placed
returns-clause-placed c = kept_places

pub returns-clause-taken : goal.returns-clause-taken
returns-clause-taken c = kept_takes

pub returns-clause-ended : goal.returns-clause-ended
returns-clause-ended c = kept_ends

pub returns-clause-written : goal.returns-clause-written
returns-clause-written c = kept_writes

pub returns-clause-greeted : goal.returns-clause-greeted
returns-clause-greeted c = kept_greets

pub returns-clause-resent : goal.returns-clause-resent
returns-clause-resent c = kept_resends

pub returns-clause-submitted : goal.returns-clause-submitted
returns-clause-submitted c = kept_submits
