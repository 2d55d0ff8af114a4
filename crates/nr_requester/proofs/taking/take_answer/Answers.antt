use Rattle.std.proofs.Common.{sym, ◌∙◌}
use Rattle.nr_requester.proofs.FoundAnswers.{no_answer, one_answer_there}
use Rattle.nr_requester.proofs.taking.take_answer.Goals as goal

pub returns-in_default-clause-found : goal.returns-in_default-clause-found
returns-in_default-clause-found c = sym (no_answer c.args.xid c.args.answered.now.items c.as_slice.result.now c.as_slice.ensures.value (c.answer_place.ensures.none c.in_default.is)).0

pub returns-in_default-clause-left : goal.returns-in_default-clause-left
returns-in_default-clause-left c = sym (no_answer c.args.xid c.args.answered.now.items c.as_slice.result.now c.as_slice.ensures.value (c.answer_place.ensures.none c.in_default.is)).1

pub returns-clause-found : goal.returns-clause-found
returns-clause-found c =
    (one_answer_there c.args.xid c.in-Some.at c.args.answered.now.items c.as_slice.result.now c.remove.result c.as_slice.ensures.value c.requires c.in-Some.ensures.some.0 c.in-Some.ensures.some.1 c.remove.ensures.value).0

pub returns-clause-left : goal.returns-clause-left
returns-clause-left c =
    c.remove.ensures.items
    ∙ (one_answer_there c.args.xid c.in-Some.at c.args.answered.now.items c.as_slice.result.now c.remove.result c.as_slice.ensures.value c.requires c.in-Some.ensures.some.0 c.in-Some.ensures.some.1 c.remove.ensures.value).1
