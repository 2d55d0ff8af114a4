use Rattle.std.proofs.Common.{◌≡◌, ◌-◌, length, arith}
use Rattle.nr_tree.proofs.NodeMaps.{on_err, on_ok}
use Rattle.nr_tree.proofs.Joined.{has_last, ok_or_err, pushed_last}
use Rattle.nr_tree.proofs.order.push_to_last.Goals as goal

pub returns-clause-ok : goal.returns-clause-ok
returns-clause-ok c =
    let count : c.len-last.result ≡ length c.args.blocks.now.items = omega (arith, c.len-last.ensures, c.len-last.type_inv) in
    on_ok c.push.result
    (pushed_last c.args.blocks.now.items (c.len-last.result - 1) c.index_mut.result.now c.push.new.self c.args.index (omega (arith, count, has_last c.args.blocks.now.items c.requires.room)) c.index_mut.ensures.value
    c.requires.room c.requires.joined c.push.ensures.room).0
    c.push.ensures.ok

pub returns-clause-err : goal.returns-clause-err
returns-clause-err c =
    let count : c.len-last.result ≡ length c.args.blocks.now.items = omega (arith, c.len-last.ensures, c.len-last.type_inv) in
    on_err c.push.result
    (pushed_last c.args.blocks.now.items (c.len-last.result - 1) c.index_mut.result.now c.push.new.self c.args.index (omega (arith, count, has_last c.args.blocks.now.items c.requires.room)) c.index_mut.ensures.value
    c.requires.room c.requires.joined c.push.ensures.room).1.0
    c.push.ensures.err

pub returns-clause-joined : goal.returns-clause-joined
returns-clause-joined c =
    let count : c.len-last.result ≡ length c.args.blocks.now.items = omega (arith, c.len-last.ensures, c.len-last.type_inv) in
    (pushed_last c.args.blocks.now.items (c.len-last.result - 1) c.index_mut.result.now c.push.new.self c.args.index (omega (arith, count, has_last c.args.blocks.now.items c.requires.room)) c.index_mut.ensures.value
    c.requires.room c.requires.joined c.push.ensures.room).1.1
    (ok_or_err c.push.result c.push.ensures.ok c.push.ensures.err)
