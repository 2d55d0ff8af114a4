use Rattle.nr_laws.proofs.OwnReplies.{executed_replies_are_handed_over}
use Rattle.nr_laws.proofs.RepliedPlans.{replies_have_plans}
use Rattle.nr_laws.proofs.handover.replies_handed_over.Goals as goal

pub returns-clause-executed : goal.returns-clause-executed
returns-clause-executed c = executed_replies_are_handed_over

pub returns-clause-planned : goal.returns-clause-planned
returns-clause-planned c = replies_have_plans
