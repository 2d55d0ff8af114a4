use Rattle.nr_nfs_base.specs.Attributes.{attributes_codec}
use Rattle.nr_nfs_base.specs.Codec.{optional}
use Rattle.nr_nfs_base.specs.StatusUnion.{status_union_codec}
use Rattle.nr_nfs_base.proofs.Appending.{writes_then, lacks_more, refused}
use Rattle.nr_nfs_res.specs.Bytes.{read_ok_codec}
use Rattle.nr_nfs_res.proofs.bytes.write_read_res.Goals as goal

pub returns-in_ok-writer-in-Done : goal.returns-in_ok-writer-in-Done
unfolding status_union_codec
returns-in_ok-writer-in-Done c = rw c.in-Done.is (writes_then c.write_to.result _ _ c.in_ok-writer-in-Done.ensures c.write_to.ensures)

pub returns-in_ok-writer-in-Failed : goal.returns-in_ok-writer-in-Failed
unfolding status_union_codec
returns-in_ok-writer-in-Failed c = rw c.in-Failed.is (writes_then c.write_to-in-Failed.result _ _ c.in_ok-writer-in-Failed.ensures c.write_to-in-Failed.ensures.exact)

pub returns-in_err-writer-in-Done : goal.returns-in_err-writer-in-Done
unfolding status_union_codec
returns-in_err-writer-in-Done c =
    rw c.in-Done.is (refused c.args.writer _ _ c.from_residual.result c.from_residual.ensures.0 (lacks_more c.args.writer.left _ (read_ok_codec.items c.in-Done.done) c.in_err-writer-in-Done.ensures))

pub returns-in_err-writer-in-Failed : goal.returns-in_err-writer-in-Failed
unfolding status_union_codec
returns-in_err-writer-in-Failed c =
    rw c.in-Failed.is (refused c.args.writer _ _ c.from_residual-in_err-writer-in-Failed.result c.from_residual-in_err-writer-in-Failed.ensures.0 (lacks_more c.args.writer.left _ ((optional attributes_codec).items c.in-Failed.part) c.in_err-writer-in-Failed.ensures))
