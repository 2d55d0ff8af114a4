use Rattle.std.proofs.Common.{Bool, cond, sym, ap, ◌∙◌}
use Rattle.std.specs.Prelude.{map}
use Rattle.nr_reduce.specs.ServerReads.{is_read, is_read_at}
use Rattle.nr_responder.specs.Views.{read_view}
use Rattle.nr_responder.proofs.ReadEntries.{numbers_view}
use Rattle.nr_responder.proofs.sink_regions.is_sink_over.Goals as goal

pub returns-then-has_number : goal.returns-then-has_number
returns-then-has_number c =
    c.is_read.ensures
    ∙ sym (ap (λ (b : Bool). cond b (is_read (map read_view c.args.reads.now) c.args.sink.now.number) (is_read_at (map read_view c.args.reads.now) c.args.sink.now.number c.args.sink.now.position))
    (numbers_view c.args.sink.now.number c.args.calls.now ∙ sym c.has_number.ensures ∙ c.if-has_number.true))

pub returns : goal.returns
returns c =
    c.is_read_at.ensures
    ∙ sym (ap (λ (b : Bool). cond b (is_read (map read_view c.args.reads.now) c.args.sink.now.number) (is_read_at (map read_view c.args.reads.now) c.args.sink.now.number c.args.sink.now.position))
    (numbers_view c.args.sink.now.number c.args.calls.now ∙ sym c.has_number.ensures ∙ c.if-has_number.false))
