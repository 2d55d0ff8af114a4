use Rattle.std.proofs.Common.{sym, ap, subst, ◌∙◌, length, ◌≤◌, take}
use Rattle.nr_wire.specs.Segment.{IsSupported, Reads, segment_of}
use Rattle.nr_wire.specs.View.{segment as plain, next_segment}
use Rattle.nr_wire.specs.Next.{IfWhole}
use Rattle.nr_wire.specs.declared.segment.NextSegment.{NextSegment}
use Rattle.nr_endpoint.proofs.WholeFrames.{segment_answer_lem, not_more_lem, that_value, that_error, payload_within_lem}
use Rattle.nr_endpoint.proofs.frames.whole_segment.Goals as goal

pub unreachable-requires : goal.unreachable-requires
unreachable-requires c =
    not_more_lem (segment_of c.args.frame.now) _ (sym (ap next_segment c.in-More.is) ∙ c.next_segment.ensures.exact ∙ segment_answer_lem c.args.frame.now c.requires)

pub returns-in-Whole-clause-exact : goal.returns-in-Whole-clause-exact
returns-in-Whole-clause-exact c =
    that_value (segment_of c.args.frame.now) (plain c.in-Whole.segment) c.in-Whole.len _ (sym (ap next_segment c.in-Whole.is) ∙ c.next_segment.ensures.exact ∙ segment_answer_lem c.args.frame.now c.requires)

pub returns-in-Whole-clause-size : goal.returns-in-Whole-clause-size
returns-in-Whole-clause-size c =
    payload_within_lem c.args.frame.now c.in-Whole.len (plain c.in-Whole.segment)
    (subst (λ (r : NextSegment). IfWhole (next_segment r) (λ segment len. IsSupported segment × Reads segment (take len c.args.frame.now) × (len ≤ length c.args.frame.now))) c.in-Whole.is c.next_segment.ensures.found).1

pub returns-in-Bad-clause-exact : goal.returns-in-Bad-clause-exact
returns-in-Bad-clause-exact c =
    that_error (segment_of c.args.frame.now) c.in-Bad.reason _ (sym (c.next_segment.ensures.exact ∙ segment_answer_lem c.args.frame.now c.requires) ∙ ap next_segment c.in-Bad.is)
