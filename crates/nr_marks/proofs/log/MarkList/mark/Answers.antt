use Rattle.nr_marks.proofs.KeptMarks.{at_kept}
use Rattle.nr_marks.proofs.log.MarkList.mark.Goals as goal

pub view_of-requires : goal.view_of-requires
view_of-requires c = at_kept _ _ _ _ _ c.self.view_is c.self.invariant c.requires c.index.ensures
