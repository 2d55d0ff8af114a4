use Rattle.nr_endpoint.proofs.QueuedItems.{output_is_items_lem, sends_go_by_items, sends_wait_by_items, responses_go_by_items}
use Rattle.nr_endpoint.proofs.HelloFirst.{allowed_join}
use Rattle.nr_endpoint.proofs.laws.output_in_items.Goals as goal

pub returns-clause-items : goal.returns-clause-items
returns-clause-items c = output_is_items_lem

pub returns-clause-sends : goal.returns-clause-sends
returns-clause-sends c = sends_go_by_items

pub returns-clause-waiting : goal.returns-clause-waiting
returns-clause-waiting c = sends_wait_by_items

pub returns-clause-responses : goal.returns-clause-responses
returns-clause-responses c = responses_go_by_items

pub returns-clause-join : goal.returns-clause-join
returns-clause-join c = allowed_join
