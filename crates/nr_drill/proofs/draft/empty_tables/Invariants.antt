use Rattle.nr_drill.specs.private.Drafts.{AreEmpty}
use Rattle.nr_drill.proofs.draft.empty_tables.Given as goal

abbrev pub invariant-loop-i : goal.invariant-loop-i
invariant-loop-i l = AreEmpty l.clients l.i l.marks l.tables.items
