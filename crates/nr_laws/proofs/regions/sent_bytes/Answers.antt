use Rattle.nr_laws.proofs.SentBytes.{client_sends_what_is_due, server_sends_what_is_due, sent_bytes_are_allowed}
use Rattle.nr_laws.proofs.regions.sent_bytes.Goals as goal

pub returns-clause-client : goal.returns-clause-client
returns-clause-client c = client_sends_what_is_due

pub returns-clause-server : goal.returns-clause-server
returns-clause-server c = server_sends_what_is_due

pub returns-clause-allowed : goal.returns-clause-allowed
returns-clause-allowed c = sent_bytes_are_allowed
