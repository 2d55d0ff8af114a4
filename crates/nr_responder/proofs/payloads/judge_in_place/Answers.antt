use Rattle.std.proofs.Common.{ℕ, List, take, drop, refl, sym, ap, subst, ◌∙◌, arith}
use Rattle.nr_xdr.specs.Item.{IsBytes}
use Rattle.nr_rpc.specs.Reading.{call_of}
use Rattle.nr_responder.specs.Views.{call_view}
use Rattle.nr_responder.proofs.PlacedPayloads.{item_in_buffer, judged_placed, length_refused, restored_is}
use Rattle.nr_responder.proofs.payloads.judge_in_place.Goals as goal

pub returns-then-not-has_length-clause-verdict : goal.returns-then-not-has_length-clause-verdict
returns-then-not-has_length-clause-verdict c =
    length_refused (call_view c.args.call.now) (drop c.args.call.now.stream_at (take c.args.call.now.len c.args.call.now.buf)) c.args.moved.now c.args.item (item_in_buffer c.args.call.now c.args.item c.requires.item c.requires.call).1
    (sym c.has_length.ensures ∙ c.if-not-has_length.true)

pub returns-clause-verdict : goal.returns-clause-verdict
returns-clause-verdict c =
    let stream : List ℕ = drop c.args.call.now.stream_at (take c.args.call.now.len c.args.call.now.buf) in
    let fits : IsBytes c.stream_of-stream.result.now = c.are_bytes.ensures in
    let p = restored_is stream c.args.moved.now c.args.item (item_in_buffer c.args.call.now c.args.item c.requires.item c.requires.call).1 (sym c.has_length.ensures ∙ c.if-not-has_length.false) (subst IsBytes c.stream_of-stream.ensures fits) (λ i. omega (arith, c.type_inv.moved i)) in
    judged_placed (call_view c.args.call.now) stream c.args.moved.now p.payload c.judge_bytes.result p.is (c.judge_bytes.ensures.verdict (call_view c.args.call.now) p.payload refl (p.head ∙ sym (ap call_of c.stream_of-stream.ensures)))
