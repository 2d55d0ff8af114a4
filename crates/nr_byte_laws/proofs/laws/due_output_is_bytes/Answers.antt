use Rattle.nr_byte_laws.proofs.ByteClients.{client_due, outcome_bytes}
use Rattle.nr_byte_laws.proofs.ByteServers.{ready_bytes, server_due}
use Rattle.nr_byte_laws.proofs.laws.due_output_is_bytes.Goals as goal

pub returns-clause-client : goal.returns-clause-client
returns-clause-client c = client_due

pub returns-clause-server : goal.returns-clause-server
returns-clause-server c = λ opened link run none typed. server_due opened link run typed

pub returns-clause-payloads : goal.returns-clause-payloads
returns-clause-payloads c = ready_bytes

pub returns-clause-outcomes : goal.returns-clause-outcomes
returns-clause-outcomes c = outcome_bytes
