use Rattle.std.proofs.Common.{sym, ◌∙◌}
use Rattle.nr_responder.proofs.Chunks.{none_has_bytes}
use Rattle.nr_responder.proofs.server_end.ServerEnd.fetch.Goals as goal

pub complete_at_once-requires-clause-none : goal.complete_at_once-requires-clause-none
complete_at_once-requires-clause-none c = none_has_bytes c.args.read.now (sym c.has_bytes.ensures ∙ c.if-has_bytes.false)
