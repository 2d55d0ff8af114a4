use Rattle.nr_reduce.proofs.OwnStags.{client_in_order, server_in_order, plan_in_order}
use Rattle.nr_reduce.proofs.standing_laws.stags_go_in_order.Goals as goal

pub returns-clause-client : goal.returns-clause-client
returns-clause-client c = client_in_order

pub returns-clause-server : goal.returns-clause-server
returns-clause-server c = server_in_order

pub returns-clause-plan : goal.returns-clause-plan
returns-clause-plan c = plan_in_order
