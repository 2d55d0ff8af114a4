use Rattle.std.proofs.Common.{ℕ, [], Option, sym, ap, ◌∙◌}
use Rattle.nr_reduce.specs.Chunks.{call_moved, whole}
use Rattle.nr_reduce.specs.declared.item.Of.TheVariants as of
use Rattle.nr_responder.proofs.JoinedPayloads.{item_alone}
use Rattle.nr_responder.proofs.payloads.is_stream_alone.Goals as goal

pub returns-in-Some-item : goal.returns-in-Some-item
returns-in-Some-item c =
    ap (λ (o : Option ℕ). whole of.Call c.args.stream.now (call_moved o (λ position. []))) (sym (sym c.in-Some.is ∙ c.item_position.ensures))
    ∙ item_alone c.args.stream.now c.in-Some-item.item (sym c.requires ∙ c.in-Some-item.is)
