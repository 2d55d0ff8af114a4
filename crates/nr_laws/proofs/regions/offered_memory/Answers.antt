use Rattle.nr_laws.proofs.AllowedBytes.{client_bytes_are_allowed, server_bytes_are_allowed, reads_are_allowed, nothing_else_is_disclosed}
use Rattle.nr_laws.proofs.regions.offered_memory.Goals as goal

pub returns-clause-client_bytes : goal.returns-clause-client_bytes
returns-clause-client_bytes c = client_bytes_are_allowed

pub returns-clause-server_bytes : goal.returns-clause-server_bytes
returns-clause-server_bytes c = server_bytes_are_allowed

pub returns-clause-reads : goal.returns-clause-reads
returns-clause-reads c = reads_are_allowed

pub returns-clause-nothing_else : goal.returns-clause-nothing_else
returns-clause-nothing_else c = nothing_else_is_disclosed
