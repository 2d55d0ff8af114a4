use Rattle.nr_gate_laws.proofs.NeverTooLarge.{connections_never_end_too_large, links_never_end_too_large}
use Rattle.nr_gate_laws.proofs.laws.remote_calls_are_never_too_large.Goals as goal

pub returns-clause-connections : goal.returns-clause-connections
returns-clause-connections g c =
    λ before after need room opened link shared_after gates bytes fits. connections_never_end_too_large before after need room opened link shared_after gates bytes fits

pub returns-clause-links : goal.returns-clause-links
returns-clause-links g c =
    λ p q accepted hung_up source_faults sink_faults need room opened link shared_after gates bytes fits. links_never_end_too_large p q accepted hung_up source_faults sink_faults need room opened link shared_after gates bytes fits
