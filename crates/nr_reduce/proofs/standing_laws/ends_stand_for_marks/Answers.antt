use Rattle.nr_reduce.proofs.Standing.{client_stands, server_stands, client_by_input_lem, server_by_input_lem, client_begins_lem, server_begins_lem, events_input, client_queue_lem, server_queue_lem, client_runs_out_lem, server_runs_out_lem, client_stays_out_lem, server_stays_out_lem}
use Rattle.nr_reduce.proofs.standing_laws.ends_stand_for_marks.Goals as goal

pub returns-clause-client_begins : goal.returns-clause-client_begins
returns-clause-client_begins c = client_begins_lem

pub returns-clause-server_begins : goal.returns-clause-server_begins
returns-clause-server_begins c = server_begins_lem

pub returns-clause-events : goal.returns-clause-events
returns-clause-events c = events_input

pub returns-clause-client : goal.returns-clause-client
returns-clause-client c = client_stands

pub returns-clause-server : goal.returns-clause-server
returns-clause-server c = server_stands

pub returns-clause-client_by_input : goal.returns-clause-client_by_input
returns-clause-client_by_input c = client_by_input_lem

pub returns-clause-server_by_input : goal.returns-clause-server_by_input
returns-clause-server_by_input c = server_by_input_lem

pub returns-clause-client_runs_out : goal.returns-clause-client_runs_out
returns-clause-client_runs_out c = client_runs_out_lem

pub returns-clause-server_runs_out : goal.returns-clause-server_runs_out
returns-clause-server_runs_out c = server_runs_out_lem

pub returns-clause-client_stays_out : goal.returns-clause-client_stays_out
returns-clause-client_stays_out c = client_stays_out_lem

pub returns-clause-server_stays_out : goal.returns-clause-server_stays_out
returns-clause-server_stays_out c = server_stays_out_lem

pub returns-clause-client_queue : goal.returns-clause-client_queue
returns-clause-client_queue c = client_queue_lem

pub returns-clause-server_queue : goal.returns-clause-server_queue
returns-clause-server_queue c = server_queue_lem
