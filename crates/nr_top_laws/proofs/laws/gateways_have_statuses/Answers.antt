use Rattle.nr_top_laws.proofs.GatewayStatuses.{gateway_link_faults_lem, gateways_have_statuses_lem}
use Rattle.nr_top_laws.proofs.laws.gateways_have_statuses.Goals as goal

pub returns : goal.returns
returns g c = record { statuses = gateways_have_statuses_lem; faults = gateway_link_faults_lem }
