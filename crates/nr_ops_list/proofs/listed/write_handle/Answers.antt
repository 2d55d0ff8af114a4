use Rattle.std.proofs.Common.{ℕ, List, true, subst}
use Rattle.nr_nfs_base.specs.Codec.{boolean, optional}
use Rattle.nr_nfs_base.specs.Names.{handle_codec}
use Rattle.nr_tree.specs.Rules.{handle_of}
use Rattle.nr_ops_list.proofs.Written.{Writes, written_then, written_value}
use Rattle.nr_ops_list.proofs.listed.write_handle.Goals as goal

pub returns : goal.returns
unfolding optional
returns c =
    written_then c.args.writer c.in_ok-writer.writer (boolean.items true) (handle_codec.items (handle_of c.args.number)) c.write_opaque.result c.in_ok-writer.ensures.exact.appended
    (subst (λ (b : List ℕ). Writes c.in_ok-writer.writer (handle_codec.items b) c.write_opaque.result) c.to_be_bytes.ensures
    (written_value handle_codec c.in_ok-writer.writer c.to_be_bytes.result c.write_opaque.result c.write_opaque.ensures))
