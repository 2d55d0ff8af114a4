use Rattle.nr_nfs_base.specs.Codec.{linked_list}
use Rattle.nr_nfs_base.proofs.Appending.{linked_list_begins, linked_list_more, linked_list_done, no_flag, no_value, refused_value}
use Rattle.nr_nfs_base.proofs.linked_list.write_values.Goals as goal

pub loop-value-init : goal.loop-value-init
loop-value-init g c = linked_list_begins g.T.Xdr.codec c.args.writer c.args.values.now

pub loop-value-preserved : goal.loop-value-preserved
loop-value-preserved g c =
    linked_list_more g.T.Xdr.codec c.args.values.now c.loop-value.value-index c.value-item.result c.args.writer c.loop-value.writer c.loop-value-test.true c.value-item.is c.loop-value.invariant c.in_ok-writer.writer c.in_ok-writer-2.writer c.in_ok-writer.ensures.exact c.in_ok-writer-2.ensures.exact

pub returns : goal.returns
returns g c =
    linked_list_done g.T.Xdr.codec c.args.values.now c.loop-value.value-index c.args.writer c.loop-value.writer c.write_to-2.result c.loop-value-test.false c.loop-value.invariant c.write_to-2.ensures.exact

pub returns-in_err-writer : goal.returns-in_err-writer
returns-in_err-writer g c =
    refused_value (linked_list g.T.Xdr.codec) c.args.writer c.args.values.now c.from_residual.result c.from_residual.ensures.0
    (no_flag g.T.Xdr.codec c.args.values.now c.loop-value.value-index c.value-item.result c.args.writer c.loop-value.writer c.loop-value-test.true c.value-item.is c.loop-value.invariant c.in_err-writer.ensures.exact)

pub returns-in_err-writer-2 : goal.returns-in_err-writer-2
returns-in_err-writer-2 g c =
    refused_value (linked_list g.T.Xdr.codec) c.args.writer c.args.values.now c.from_residual-in_err-writer-2.result c.from_residual-in_err-writer-2.ensures.0
    (no_value g.T.Xdr.codec c.args.values.now c.loop-value.value-index c.value-item.result c.args.writer c.loop-value.writer c.loop-value-test.true c.value-item.is c.loop-value.invariant c.in_ok-writer.writer c.in_ok-writer.ensures.exact c.in_err-writer-2.ensures.exact)
