use Rattle.std.proofs.Common.{List, ◌++◌, ap, ◌∙◌}
use Rattle.std.specs.Option.{option_to_list}
use Rattle.nr_reduce.specs.declared.mark.Mark.{Mark}
use Rattle.nr_marks.specs.Views.{marks_len}
use Rattle.nr_marks.proofs.KeptMarks.{are_kept_grown, marks_grown, keeps_grown, added_kept, added_both, both_fit}
use Rattle.nr_marks.proofs.log.add_both.Goals as goal

pub returns-in-Err-clause-kept : goal.returns-in-Err-clause-kept
returns-in-Err-clause-kept c = are_kept_grown _ _ _ c.keep.ensures.grows c.requires

pub settle-requires : goal.settle-requires
settle-requires c = are_kept_grown _ _ _ c.keep.ensures.grows c.requires

pub returns-in-Ok-settle-clause-kept : goal.returns-in-Ok-settle-clause-kept
returns-in-Ok-settle-clause-kept c =
    added_kept _ _ _ _ _ _ c.settle.ensures.kept (keeps_grown _ _ _ _ c.settle.ensures.grows c.in-Ok.ensures.keeps) c.add.ensures

pub returns-in-Ok-settle-clause-marks : goal.returns-in-Ok-settle-clause-marks
returns-in-Ok-settle-clause-marks c =
    added_both c.add.result _ _ _ _ _ _ _ (c.in-Ok-settle.ensures.marks ∙ ap (λ (ms : List Mark). ms ++ option_to_list c.args.waiting) (marks_grown _ _ _ c.keep.ensures.grows c.requires))
    c.settle.ensures.grows c.in-Ok.ensures.keeps c.add.ensures

pub returns-in-Ok-settle-clause-size : goal.returns-in-Ok-settle-clause-size
returns-in-Ok-settle-clause-size c =
    both_fit c.add.result c.args.stores.now c.keep.new.stores c.settle.new.stores c.args.entries.now.items c.settle.new.entries.items c.add.new.entries.items c.in-Ok.kept c.args.mark
    (marks_len (option_to_list c.args.waiting)) c.in-Ok.ensures.size c.in-Ok-settle.ensures.size c.add.ensures
