use Rattle.nr_header.specs.Slices.{lists_of_slices}
use Rattle.nr_reduce.specs.CodeViews.{answer_view}
use Rattle.nr_reduce.proofs.AnswerLists.{lists_fit}
use Rattle.nr_reduce.proofs.replying.header_with.Goals as goal

pub write_with_slices-requires : goal.write_with_slices-requires
write_with_slices-requires c = lists_fit (lists_of_slices c.args.offer) (answer_view c.args.answer) (lists_of_slices c.args.lists) c.requires.within c.requires.lists
