use Rattle.nr_laws.proofs.Touched.{client_touched, server_touched}
use Rattle.nr_laws.proofs.Frozen.{revoke_stands}
use Rattle.nr_laws.proofs.SinkRegions.{server_refuses_requests}
use Rattle.nr_laws.proofs.laws.touches.Goals as goal

pub returns-clause-client : goal.returns-clause-client
returns-clause-client c = client_touched

pub returns-clause-server : goal.returns-clause-server
returns-clause-server c = server_touched

pub returns-clause-revoked : goal.returns-clause-revoked
returns-clause-revoked c = revoke_stands

pub returns-clause-requests : goal.returns-clause-requests
returns-clause-requests c = server_refuses_requests
