use Rattle.std.proofs.Common.{rules}
use Rattle.nr_endpoint.proofs.Cuts.{slice_payload}
use Rattle.nr_endpoint.proofs.sharing.segment_bytes.Goals as goal

pub returns : goal.returns
returns c = search (rules, slice_payload)
