use Rattle.std.proofs.Common.{Bool, not, sym, ap, ◌∙◌}
use Rattle.nr_responder.proofs.ReadEntries.{reads_view}
use Rattle.nr_responder.proofs.call.is_read.Goals as goal

pub returns : goal.returns
returns c = ap (λ (b : Bool). not b) (c.has_read.ensures ∙ sym (reads_view c.args.number c.args.reads.now))
