use Rattle.std.proofs.Common.{◌≡◌, ℕ, List, Ok, ap, ◌∙◌, take, arith, rules}
use Rattle.nr_rpc.specs.Reading.{reply_of}
use Rattle.nr_reduce.specs.ClientMessages.{reply_by_payload}
use Rattle.nr_requester.proofs.ReplyParts.{parts_differ, whole_head}
use Rattle.nr_requester.proofs.replies.reduced_found.Goals as goal

pub returns-in_default-rebuilt-clause-err : goal.returns-in_default-rebuilt-clause-err
returns-in_default-rebuilt-clause-err c = (
  ap (reply_by_payload c.args.xid) (parts_differ c.args.of.now c.args.stream.now c.args.moved.now c.in-Some.item c.in_default-rebuilt.field-0 c.requires.reply c.in-Some.ensures.exact.1 c.in_default-rebuilt.ensures.exact),
  search rules,
)

pub returns-in-Some-xid_fault-clause-err : goal.returns-in-Some-xid_fault-clause-err
returns-in-Some-xid_fault-clause-err c =
    let payload : List ℕ = take c.in-Ok.len c.rebuild_item_into-rebuilt.new.room.bytes in
    let head : reply_of payload ≡ Ok c.in-Some.head = whole_head c.args.of.now c.args.stream.now c.args.moved.now payload c.in-Some.item c.in-Some.head c.requires.reply (λ i. omega (arith, c.type_inv.stream i)) c.in-Some.ensures.exact.0 c.in-Some.ensures.exact.1 c.in-Ok.ensures.whole in
    let ends = c.in-Some-xid_fault.ensures payload head in
    (ap (reply_by_payload c.args.xid) c.in-Ok.ensures.whole ∙ ends.0, ends.1)

pub returns-in-None-clause-ok : goal.returns-in-None-clause-ok
returns-in-None-clause-ok c =
    let payload : List ℕ = take c.in-Ok.len c.rebuild_item_into-rebuilt.new.room.bytes in
    let head : reply_of payload ≡ Ok c.in-Some.head = whole_head c.args.of.now c.args.stream.now c.args.moved.now payload c.in-Some.item c.in-Some.head c.requires.reply (λ i. omega (arith, c.type_inv.stream i)) c.in-Some.ensures.exact.0 c.in-Some.ensures.exact.1 c.in-Ok.ensures.whole in
    ap (reply_by_payload c.args.xid) c.in-Ok.ensures.whole ∙ c.in-None.ensures payload head
