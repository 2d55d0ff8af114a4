use Rattle.nr_nfs_res.specs.Readdir.{entry_plus_codec}
use Rattle.nr_nfs_base.proofs.Appending.{writes_then, lacks_more, refused}
use Rattle.nr_nfs_res.proofs.readdir.EntryPlusXdr.write_to.Goals as goal

pub returns : goal.returns
unfolding entry_plus_codec
returns c = record { exact = writes_then c.write_four.result _ _ c.in_ok-writer.ensures.exact c.write_four.ensures }

pub returns-in_err-writer : goal.returns-in_err-writer
unfolding entry_plus_codec
returns-in_err-writer c = record { exact = refused c.args.writer _ _ c.from_residual.result c.from_residual.ensures.0 (lacks_more c.args.writer.left _ _ c.in_err-writer.ensures.exact) }
