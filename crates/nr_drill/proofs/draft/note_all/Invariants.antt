use Rattle.std.proofs.Common.{ℕ, [], take}
use Rattle.nr_drill.specs.Drill.{Setting}
use Rattle.nr_drill.specs.private.Drafts.{AreNumbered, IsDraft}
use Rattle.nr_drill.proofs.draft.note_all.Given as goal

abbrev pub invariant-loop-at : goal.invariant-loop-at
invariant-loop-at l = (s : Setting) (count : ℕ) → AreNumbered s l.clients count l.marks → IsDraft s l.clients count l.marks [] l.initial.draft → IsDraft s l.clients count l.marks (take l.at l.marks) l.draft
