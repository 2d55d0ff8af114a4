use Rattle.nr_nfs_base.specs.Attributes.{attributes_codec}
use Rattle.nr_nfs_base.specs.Codec.{optional}
use Rattle.nr_nfs_base.specs.StatusUnion.{status_union_codec}
use Rattle.nr_nfs_res.specs.Bytes.{read_ok_codec}
use Rattle.nr_ops_file.proofs.Written.{items_then, items_last}
use Rattle.nr_ops_file.proofs.data.finish_read.Goals as goal

pub returns-in_ok-writer-in-Done : goal.returns-in_ok-writer-in-Done
unfolding status_union_codec
returns-in_ok-writer-in-Done c =
    rw c.in-Done.is (items_then c.args.writer c.in_ok-writer-in-Done.writer _ (read_ok_codec.items c.in-Done.done) c.append_to.result c.in_ok-writer-in-Done.ensures.appended c.append_to.ensures)

pub returns-in_ok-write_to-in-Failed : goal.returns-in_ok-write_to-in-Failed
unfolding status_union_codec
returns-in_ok-write_to-in-Failed c =
    rw c.in-Failed.is
    (items_last c.args.writer c.in_ok-writer-in-Failed.writer c.in_ok-write_to-in-Failed.field-0 _ ((optional attributes_codec).items c.in-Failed.part) c.finish.result c.in_ok-writer-in-Failed.ensures.appended c.in_ok-write_to-in-Failed.ensures.exact.appended c.finish.ensures)
