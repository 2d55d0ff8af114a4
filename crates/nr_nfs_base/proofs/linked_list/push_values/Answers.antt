use Rattle.std.proofs.lemmas.Result.{err_from_is_err_and}
use Rattle.nr_nfs_base.specs.Codec.{linked_list_read, with_front}
use Rattle.nr_nfs_base.proofs.Loops.{linked_list_goes_on, linked_list_ends, linked_list_fails, linked_list_runs_out}
use Rattle.nr_nfs_base.proofs.linked_list.push_values.Goals as goal

pub returns-in_err-is_value : goal.returns-in_err-is_value
returns-in_err-is_value g c =
    let p = err_from_is_err_and c.from_residual.result c.from_residual.ensures.1 in
    rw (p.1, p.2) (linked_list_fails g.T.Xdr.codec c.in_err-is_value.field-0.0 c.loop.values.items c.args.most c.loop.counter c.loop.reader (with_front c.args.values.now.items (linked_list_read g.T.Xdr.codec c.args.most c.args.reader)) c.loop-test.true c.in_err-is_value.ensures c.loop.invariant)

pub returns-then-not-is_value : goal.returns-then-not-is_value
returns-then-not-is_value g c =
    linked_list_ends g.T.Xdr.codec c.loop.values.items c.push_next.new.values.items c.args.most c.loop.counter c.loop.reader c.in_ok-is_value.is_value c.in_ok-is_value.behind (with_front c.args.values.now.items (linked_list_read g.T.Xdr.codec c.args.most c.args.reader)) c.loop-test.true c.if-not-is_value.true c.in_ok-is_value.ensures c.loop.invariant

pub loop-preserved : goal.loop-preserved
loop-preserved g c =
    linked_list_goes_on g.T.Xdr.codec c.loop.values.items c.push_next.new.values.items c.args.most c.loop.counter c.loop.reader c.in_ok-is_value.is_value c.in_ok-is_value.behind (with_front c.args.values.now.items (linked_list_read g.T.Xdr.codec c.args.most c.args.reader)) c.loop-test.true c.if-not-is_value.false c.in_ok-is_value.ensures c.loop.invariant

pub returns : goal.returns
returns g c =
    rw c.at.ensures (linked_list_runs_out g.T.Xdr.codec c.loop.values.items c.args.most c.loop.counter c.loop.reader (with_front c.args.values.now.items (linked_list_read g.T.Xdr.codec c.args.most c.args.reader)) c.loop-test.false c.loop.invariant)
