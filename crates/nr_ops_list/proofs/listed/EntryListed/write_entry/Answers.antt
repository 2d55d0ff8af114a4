use Rattle.nr_nfs_base.specs.Codec.{hyper}
use Rattle.nr_nfs_base.specs.Names.{text_codec}
use Rattle.nr_nfs_res.specs.Readdir.{entry_codec}
use Rattle.nr_ops_list.proofs.Written.{written_then, written_value}
use Rattle.nr_ops_list.proofs.listed.EntryListed.write_entry.Goals as goal

pub returns : goal.returns
unfolding entry_codec
returns c =
    written_then c.args.writer c.in_ok-writer.writer (hyper.items c.args.slot.number) _ c.write_to-2.result c.in_ok-writer.ensures.exact.appended
    (written_then c.in_ok-writer.writer c.in_ok-writer-2.writer (text_codec.items c.args.name.now) (hyper.items c.args.slot.cookie) c.write_to-2.result c.in_ok-writer-2.ensures.appended
    (written_value hyper c.in_ok-writer-2.writer c.args.slot.cookie c.write_to-2.result c.write_to-2.ensures.exact))
