use Rattle.std.proofs.Common.{subst}
use Rattle.nr_nfs_base.specs.Codec.{WritesValue}
use Rattle.nr_nfs_base.proofs.Appending.{writes_then, lacks_more, refused}
use Rattle.nr_nfs_res.specs.Bytes.{read_ok_codec}
use Rattle.nr_nfs_res.specs.declared.bytes.ReadOk.{ReadOk}
use Rattle.nr_nfs_res.proofs.bytes.ReadOkRef.write_to.Goals as goal

pub returns : goal.returns
unfolding read_ok_codec
returns c =
    subst (λ (v : ReadOk). WritesValue read_ok_codec c.args.writer v c.write_opaque.result) c.self.view_is
    (writes_then c.write_opaque.result _ _ c.in_ok-writer.ensures.exact c.write_opaque.ensures)

pub returns-in_err-writer : goal.returns-in_err-writer
unfolding read_ok_codec
returns-in_err-writer c =
    subst (λ (v : ReadOk). WritesValue read_ok_codec c.args.writer v c.from_residual.result) c.self.view_is
    (refused c.args.writer _ _ c.from_residual.result c.from_residual.ensures.0 (lacks_more c.args.writer.left _ _ c.in_err-writer.ensures.exact))
