use Rattle.nr_laws.proofs.CountedReceives.{receives_follow_sends}
use Rattle.nr_laws.proofs.ItemsOfServer.{server_output_items, server_counts_items}
use Rattle.nr_laws.proofs.items.server_output_is_items.Goals as goal

pub returns-clause-output : goal.returns-clause-output
returns-clause-output c = server_output_items

pub returns-clause-counts : goal.returns-clause-counts
returns-clause-counts c = server_counts_items

pub returns-clause-receives : goal.returns-clause-receives
returns-clause-receives c = receives_follow_sends
