use Rattle.nr_nfs_base.specs.Codec.{◌⊗◌, ◌&◌}
use Rattle.nr_nfs_base.proofs.Appending.{writes_then, lacks_more, refused_value}
use Rattle.nr_nfs_base.proofs.pair.write_two.Goals as goal

pub returns : goal.returns
returns g c = writes_then c.write_to-2.result _ _ c.in_ok-writer.ensures.exact c.write_to-2.ensures.exact

pub returns-in_err-writer : goal.returns-in_err-writer
returns-in_err-writer g c = refused_value (g.A.Xdr.codec ⊗ g.B.Xdr.codec) c.args.writer (c.args.a.now & c.args.b.now) c.from_residual.result c.from_residual.ensures.0 (lacks_more c.args.writer.left _ _ c.in_err-writer.ensures.exact)
