use Rattle.nr_reduce.proofs.Steps.{client_one, output_due_up_one, server_one, output_due_down_one}
use Rattle.nr_reduce.proofs.run_laws.one_mark_more.Goals as goal

pub returns-clause-client : goal.returns-clause-client
returns-clause-client c = client_one

pub returns-clause-client_output : goal.returns-clause-client_output
returns-clause-client_output c = output_due_up_one

pub returns-clause-server : goal.returns-clause-server
returns-clause-server c = server_one

pub returns-clause-server_output : goal.returns-clause-server_output
returns-clause-server_output c = output_due_down_one
