use Rattle.nr_gate_laws.proofs.GatedReplies.{gated_replies_are_plain}
use Rattle.nr_gate_laws.proofs.laws.gated_replies_are_plain.Goals as goal

pub returns : goal.returns
returns g c = λ s J opened link history both before after end gates bytes begins remote. gated_replies_are_plain s J opened link history both before after end gates bytes begins remote
