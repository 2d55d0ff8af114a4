use Rattle.nr_endpoint.proofs.Received.{received_bytes}
use Rattle.nr_endpoint.proofs.ReceivedEvents.{events_of_received_bytes}
use Rattle.nr_endpoint.proofs.laws.accesses_follow_bytes.Goals as goal

pub returns-clause-accesses : goal.returns-clause-accesses
returns-clause-accesses c = received_bytes

pub returns-clause-events : goal.returns-clause-events
returns-clause-events c = events_of_received_bytes
