use Rattle.nr_marks.proofs.Growing.{grows_same}
use Rattle.nr_marks.proofs.KeptMarks.{are_kept_grown, added_kept, settled, settled_fits}
use Rattle.nr_marks.proofs.log.settle.Goals as goal

pub returns-in_default-clause-grows : goal.returns-in_default-clause-grows
returns-in_default-clause-grows c = grows_same _

pub returns-in-Ok-clause-kept : goal.returns-in-Ok-clause-kept
returns-in-Ok-clause-kept c = added_kept _ _ _ _ _ _ (are_kept_grown _ _ _ c.in-Ok.ensures.grows c.requires) c.in-Ok.ensures.keeps c.add.ensures

pub returns-in-Ok-clause-marks : goal.returns-in-Ok-clause-marks
returns-in-Ok-clause-marks c = settled c.add.result _ _ _ _ _ _ _ c.in-Some.is c.in-Ok.ensures.grows c.requires c.in-Ok.ensures.keeps c.add.ensures

pub returns-in-Err-clause-kept : goal.returns-in-Err-clause-kept
returns-in-Err-clause-kept c = are_kept_grown _ _ _ c.keep.ensures.grows c.requires

pub returns-in-Ok-clause-size : goal.returns-in-Ok-clause-size
returns-in-Ok-clause-size c = settled_fits c.add.result c.args.stores.now c.keep.new.stores c.args.entries.now.items c.add.new.entries.items c.in-Ok.kept c.in-Some.mark c.args.waiting c.in-Some.is c.in-Ok.ensures.size c.add.ensures
