use Rattle.nr_nfs_base.specs.Codec.{optional}
use Rattle.nr_nfs_base.proofs.Appending.{writes_none, writes_some, lacks_flag, refused_value}
use Rattle.nr_nfs_base.proofs.optional.OptionXdr.write_to.Goals as goal

pub returns-in-None : goal.returns-in-None
returns-in-None g c =
    record { exact = writes_none g.T.Xdr.codec c.args.self.now c.args.writer c.write_to.result c.in-None.is c.write_to.ensures.exact }

pub returns-in_ok-writer-in-Some : goal.returns-in_ok-writer-in-Some
returns-in_ok-writer-in-Some g c = record {
  exact = writes_some g.T.Xdr.codec c.args.self.now c.in-Some.value c.args.writer c.in_ok-writer-in-Some.writer c.write_to-in-Some-2.result c.in-Some.is c.in_ok-writer-in-Some.ensures.exact c.write_to-in-Some-2.ensures.exact;
}

pub returns-in_err-writer-in-Some : goal.returns-in_err-writer-in-Some
returns-in_err-writer-in-Some g c =
    record { exact = refused_value (optional g.T.Xdr.codec) c.args.writer c.args.self.now c.from_residual.result c.from_residual.ensures.0 (lacks_flag g.T.Xdr.codec c.args.self.now c.in-Some.value c.args.writer c.in-Some.is c.in_err-writer-in-Some.ensures.exact) }
