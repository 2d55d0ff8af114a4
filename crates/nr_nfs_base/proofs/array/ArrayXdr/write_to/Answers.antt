use Rattle.std.proofs.Common.{length, refl}
use Rattle.nr_nfs_base.specs.Codec.{array}
use Rattle.nr_nfs_base.proofs.Appending.{array_writes, no_count, refused_value}
use Rattle.nr_nfs_base.proofs.array.ArrayXdr.write_to.Goals as goal

pub returns : goal.returns
returns g c = record {
  exact = array_writes g.T.Xdr.codec c.args.self.now c.as_slice-values.result.now (length c.as_slice-values.result.now) c.args.writer c.as_slice-values.ensures.value refl c.in_ok-writer.writer c.write_values.result c.in_ok-writer.ensures.exact c.write_values.ensures;
}

pub returns-in_err-writer : goal.returns-in_err-writer
returns-in_err-writer g c = record {
  exact = refused_value (array g.T.Xdr.codec) c.args.writer c.args.self.now c.from_residual.result c.from_residual.ensures.0 (no_count g.T.Xdr.codec c.args.self.now c.as_slice-values.result.now (length c.as_slice-values.result.now) c.args.writer c.as_slice-values.ensures.value refl c.in_err-writer.ensures.exact);
}
