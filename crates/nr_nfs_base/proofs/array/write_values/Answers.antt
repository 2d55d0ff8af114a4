use Rattle.nr_nfs_base.proofs.Appending.{array_begins, array_more, array_done, array_stops, refused}
use Rattle.nr_nfs_base.proofs.array.write_values.Goals as goal

pub loop-value-init : goal.loop-value-init
loop-value-init g c = array_begins g.T.Xdr.codec c.args.writer c.args.values.now

pub loop-value-preserved : goal.loop-value-preserved
loop-value-preserved g c =
    array_more g.T.Xdr.codec c.args.values.now c.loop-value.value-index c.value-item.result c.args.writer c.loop-value.writer c.loop-value-test.true c.value-item.is c.loop-value.invariant c.in_ok-writer.writer c.in_ok-writer.ensures.exact

pub returns : goal.returns
returns g c =
    array_done g.T.Xdr.codec c.args.values.now c.loop-value.value-index c.args.writer c.loop-value.writer c.loop-value-test.false c.loop-value.invariant

pub returns-in_err-writer : goal.returns-in_err-writer
returns-in_err-writer g c =
    refused c.args.writer _ _ c.from_residual.result c.from_residual.ensures.0
    (array_stops g.T.Xdr.codec c.args.values.now c.loop-value.value-index c.value-item.result c.args.writer c.loop-value.writer c.loop-value-test.true c.value-item.is c.loop-value.invariant c.in_err-writer.ensures.exact)
