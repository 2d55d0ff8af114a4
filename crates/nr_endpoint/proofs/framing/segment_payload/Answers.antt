use Rattle.std.proofs.Common.{rules}
use Rattle.nr_endpoint.proofs.Cuts.{payload_within}
use Rattle.nr_endpoint.proofs.framing.segment_payload.Goals as goal

pub returns : goal.returns
returns c = search (rules, payload_within)
