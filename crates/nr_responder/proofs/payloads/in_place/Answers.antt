use Rattle.std.proofs.Common.{◌≡◌, ℕ, true, false, take, drop, Result, is_some, sym, ap, subst, ◌∙◌, arith}
use Rattle.nr_xdr.specs.Item.{IsBytes}
use Rattle.nr_rpc.specs.declared.head.CallHead.{CallHead}
use Rattle.nr_rpc.specs.Reading.{target_of}
use Rattle.nr_responder.proofs.JoinedPayloads.{no_payload}
use Rattle.nr_responder.proofs.ReadHeads.{whole_head}
use Rattle.nr_reduce.proofs.ItemSearch.{IsBytes_take}
use Rattle.nr_xdr.proofs.WordBytes.{IsBytes_drop}
use Rattle.nr_responder.proofs.payloads.in_place.Goals as goal

pub unreachable-requires : goal.unreachable-requires
unreachable-requires c =
    let none = no_payload c.args.stream.now (take c.args.moved (drop c.args.item.pos c.args.buffer)) c.args.item _ c.requires.item c.in-Err.ensures.exact in
    (let two : true ≡ false = sym c.requires.whole ∙ ap is_some (sym none) in absurd cc)

pub in_front-requires-clause-target : goal.in_front-requires-clause-target
in_front-requires-clause-target c =
    c.requires.target
    ∙ ap (λ (r : Result CallHead ℕ). target_of r)
    (sym (whole_head c.args.stream.now (take c.args.moved (drop c.args.item.pos c.args.buffer)) _ (λ i. omega (arith, c.type_inv.stream i)) (IsBytes_take c.args.moved (drop c.args.item.pos c.args.buffer) (IsBytes_drop c.args.item.pos c.args.buffer (subst IsBytes c.as_slice.ensures c.are_bytes.ensures))) c.in-Ok.ensures.whole))
