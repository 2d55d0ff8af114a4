use Rattle.nr_nfs_base.proofs.Appending.{ArrayGoesOn}
use Rattle.nr_nfs_base.proofs.array.write_values.Given as goal

abbrev pub invariant-loop-value : goal.invariant-loop-value
invariant-loop-value g l = ArrayGoesOn g.T.Xdr.codec l.fn.writer l.values l.value-index l.writer
