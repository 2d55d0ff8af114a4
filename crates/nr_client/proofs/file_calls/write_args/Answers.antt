use Rattle.nr_nfs_args.specs.Bytes.{write_args_codec}
use Rattle.nr_nfs_base.proofs.Appending.{writes_then, lacks_more, refused}
use Rattle.nr_client.proofs.file_calls.write_args.Goals as goal

pub returns : goal.returns
unfolding write_args_codec
returns c = writes_then c.write_opaque.result _ _ c.in_ok-writer.ensures c.write_opaque.ensures

pub returns-in_err-writer : goal.returns-in_err-writer
unfolding write_args_codec
returns-in_err-writer c = refused c.args.writer _ _ c.from_residual.result c.from_residual.ensures.0 (lacks_more c.args.writer.left _ _ c.in_err-writer.ensures)
