use Rattle.std.proofs.Common.{sym, ap, ◌∙◌}
use Rattle.nr_wire.specs.Hello.{hello_of}
use Rattle.nr_wire.specs.View.{hello as plain, next_hello}
use Rattle.nr_endpoint.proofs.WholeFrames.{hello_answer_lem, not_more_lem, that_value, that_error}
use Rattle.nr_endpoint.proofs.frames.hello_in_frame.Goals as goal

pub unreachable-requires : goal.unreachable-requires
unreachable-requires c =
    not_more_lem (hello_of c.args.side c.args.frame.now) _ (sym (ap next_hello c.in-More.is) ∙ c.read_hello.ensures.exact ∙ hello_answer_lem c.args.side c.args.frame.now c.requires)

pub returns-in-Whole : goal.returns-in-Whole
returns-in-Whole c =
    that_value (hello_of c.args.side c.args.frame.now) (plain c.in-Whole.hello) c.in-Whole.len _ (sym (ap next_hello c.in-Whole.is) ∙ c.read_hello.ensures.exact ∙ hello_answer_lem c.args.side c.args.frame.now c.requires)

pub returns-in-Bad : goal.returns-in-Bad
returns-in-Bad c =
    that_error (hello_of c.args.side c.args.frame.now) c.in-Bad.reason _ (sym (c.read_hello.ensures.exact ∙ hello_answer_lem c.args.side c.args.frame.now c.requires) ∙ ap next_hello c.in-Bad.is)
