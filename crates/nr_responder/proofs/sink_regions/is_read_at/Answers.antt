use Rattle.std.proofs.Common.{Bool, not, sym, ap, ◌∙◌}
use Rattle.nr_responder.proofs.ReadEntries.{reads_at_view}
use Rattle.nr_responder.proofs.sink_regions.is_read_at.Goals as goal

pub returns : goal.returns
returns c = ap (λ (b : Bool). not b) (c.has_read_at.ensures ∙ sym (reads_at_view c.args.number c.args.position c.args.reads.now))
