use Rattle.std.proofs.Common.{rules, ap}
use Rattle.nr_endpoint.specs.Offering.{writes_output}
use Rattle.nr_header.specs.Slices.{lists_of_slices}
use Rattle.nr_reduce.specs.CodeViews.{answer_view}
use Rattle.nr_responder.proofs.Writes.{answer_short, answer_long, writes_is}
use Rattle.nr_responder.proofs.answering.push_answer.Goals as goal

pub returns-then-not-answer-clause-output : goal.returns-then-not-answer-clause-output
returns-then-not-answer-clause-output c =
    writes_is (lists_of_slices c.args.lists) c.args.answer c.in-Some.answer _ (search rules)
    (answer_short (lists_of_slices c.args.lists) (answer_view c.in-Some.answer) _ _ (ap writes_output c.requires.none) c.if-not-answer.true c.in_ok-push_moved.ensures.output)

pub returns-clause-output : goal.returns-clause-output
returns-clause-output c =
    writes_is (lists_of_slices c.args.lists) c.args.answer c.in-Some.answer _ (search rules)
    (answer_long (lists_of_slices c.args.lists) (answer_view c.in-Some.answer) _ _ _ (ap writes_output c.requires.none) c.if-not-answer.false
    c.in_ok-push_moved.ensures.output c.in_ok-push_stream.ensures.output)
