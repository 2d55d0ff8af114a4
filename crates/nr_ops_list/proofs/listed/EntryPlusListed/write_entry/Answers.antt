use Rattle.nr_nfs_base.specs.Codec.{hyper}
use Rattle.nr_nfs_base.specs.Names.{text_codec}
use Rattle.nr_nfs_res.specs.Readdir.{entry_plus_codec}
use Rattle.nr_ops_list.proofs.Written.{written_then}
use Rattle.nr_ops_list.proofs.listed.EntryPlusListed.write_entry.Goals as goal

pub returns : goal.returns
unfolding entry_plus_codec
returns c =
    written_then c.args.writer c.in_ok-writer.writer (hyper.items c.args.slot.number) _ c.write_node.result c.in_ok-writer.ensures.exact.appended
    (written_then c.in_ok-writer.writer c.in_ok-writer-2.writer (text_codec.items c.args.name.now) _ c.write_node.result c.in_ok-writer-2.ensures.appended
    (written_then c.in_ok-writer-2.writer c.in_ok-writer-3.writer (hyper.items c.args.slot.cookie) _ c.write_node.result c.in_ok-writer-3.ensures.exact.appended c.write_node.ensures))
