use Rattle.nr_nfs_base.proofs.Appending.{LinkedListGoesOn}
use Rattle.nr_nfs_base.proofs.linked_list.write_values.Given as goal

abbrev pub invariant-loop-value : goal.invariant-loop-value
invariant-loop-value g l = LinkedListGoesOn g.T.Xdr.codec l.fn.writer l.values l.value-index l.writer
