use Rattle.std.proofs.Common.{arith}
use Rattle.nr_marks.specs.Views.{mark_seen}
use Rattle.nr_drill.proofs.DraftSteps.{next}
use Rattle.nr_drill.proofs.draft.note_all.Goals as goal

pub loop-at-preserved : goal.loop-at-preserved
loop-at-preserved c = λ s count numbered first.
    next s c.args.clients.now count c.loop-at.at c.args.marks.now (mark_seen c.mark.result) c.loop-at.draft c.note.new.self (omega arith) (c.mark.ensures (mark_seen c.mark.result)) numbered c.in_ok-note.ensures
    (c.loop-at.invariant s count numbered first)
