use Rattle.std.proofs.Common.{sym, ap, ◌∙◌, ℕ, Some, arith}
use Rattle.nr_rpc.specs.declared.head.CallHead.{CallHead}
use Rattle.nr_rpc.specs.Reading.{target_of}
use Rattle.std.proofs.Common.{Result}
use Rattle.nr_reduce.specs.declared.item.Of.TheVariants as of
use Rattle.nr_reduce.proofs.Places.{item_inside}
use Rattle.nr_responder.proofs.JoinedPayloads.{no_payload}
use Rattle.nr_responder.proofs.ReadHeads.{whole_head}
use Rattle.nr_responder.proofs.payloads.with_item.Goals as goal

pub returns-in-Err : goal.returns-in-Err
returns-in-Err c = no_payload c.args.stream.now c.args.moved.now c.in_ok-item.item _ (sym c.requires.head.1 ∙ c.in_ok-item.was) c.in-Err.ensures.exact

pub overflow_cast-item : goal.overflow_cast-item
overflow_cast-item c =
    let inside = item_inside of.Call c.args.stream.now (Some c.in_ok-item.item) (λ i. omega (arith, c.type_inv.stream i)) (sym c.in_ok-item.was ∙ c.requires.head.1) in
    omega (arith, inside, c.requires.small)

pub of-requires-clause-target : goal.of-requires-clause-target
of-requires-clause-target c =
    c.requires.head.0
    ∙ ap (λ (r : Result CallHead ℕ). target_of r) (sym (whole_head c.args.stream.now c.args.moved.now _ (λ i. omega (arith, c.type_inv.stream i)) (λ i. omega (arith, c.type_inv.moved i)) c.in-Ok.ensures.whole))
