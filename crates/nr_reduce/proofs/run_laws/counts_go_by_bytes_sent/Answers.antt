use Rattle.nr_reduce.proofs.OutputItems.{client_bytes, server_bytes, client_counts_items}
use Rattle.nr_reduce.proofs.WroteItems.{wrote_adds_nothing}
use Rattle.nr_reduce.proofs.run_laws.counts_go_by_bytes_sent.Goals as goal

pub returns-clause-client_written : goal.returns-clause-client_written
returns-clause-client_written c = client_bytes

pub returns-clause-server_written : goal.returns-clause-server_written
returns-clause-server_written c = server_bytes

pub returns-clause-client : goal.returns-clause-client
returns-clause-client c = client_counts_items

pub returns-clause-wrote : goal.returns-clause-wrote
returns-clause-wrote c = wrote_adds_nothing
