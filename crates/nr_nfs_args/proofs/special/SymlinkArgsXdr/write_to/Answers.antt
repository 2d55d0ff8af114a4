use Rattle.nr_nfs_args.specs.Special.{symlink_args_codec}
use Rattle.nr_nfs_base.proofs.Appending.{writes_then, lacks_more, refused}
use Rattle.nr_nfs_args.proofs.special.SymlinkArgsXdr.write_to.Goals as goal

pub returns : goal.returns
unfolding symlink_args_codec
returns c = record { exact = writes_then c.write_to.result _ _ c.in_ok-writer.ensures c.write_to.ensures.exact }

pub returns-in_err-writer : goal.returns-in_err-writer
unfolding symlink_args_codec
returns-in_err-writer c = record { exact = refused c.args.writer _ _ c.from_residual.result c.from_residual.ensures.0 (lacks_more c.args.writer.left _ _ c.in_err-writer.ensures) }
