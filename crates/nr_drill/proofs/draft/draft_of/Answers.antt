use Rattle.nr_drill.proofs.DraftSteps.{empty}
use Rattle.nr_drill.proofs.draft.draft_of.Goals as goal

pub returns : goal.returns
returns c = λ s numbered.
    c.in_ok-note_all.ensures s c.args.count numbered (empty s c.args.clients.now c.args.count c.args.marks.now _ c.in_ok-empty_tables.ensures c.new.ensures.items c.new-2.ensures.items)
