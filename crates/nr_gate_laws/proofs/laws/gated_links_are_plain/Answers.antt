use Rattle.nr_gate_laws.proofs.GatedReplies.{gated_links_are_plain}
use Rattle.nr_gate_laws.proofs.laws.gated_links_are_plain.Goals as goal

pub returns : goal.returns
returns g c =
    λ s J opened link history both p q accepted hung_up source_faults sink_faults end gates bytes begins remote. gated_links_are_plain s J opened link history both p q accepted hung_up source_faults sink_faults end gates bytes begins remote
