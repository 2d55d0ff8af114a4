use Rattle.std.proofs.Common.{◌≡◌, ◌++◌, ◌∷◌, [], IfOk, subst, sym}
use Rattle.nr_nfs_base.specs.Codec.{opaque}
use Rattle.nr_nfs_res.specs.Bytes.{read_ok_codec}
use Rattle.nr_nfs_res.specs.declared.bytes.ReadOk.{ReadOk}
use Rattle.nr_xdr.specs.Items.{encodings}
use Rattle.nr_xdr.specs.Item.Item.{Opaque}
use Rattle.nr_ops_file.proofs.Written.{items_then}
use Rattle.nr_ops_file.proofs.data.ReadOkPart.append_to.Goals as goal

pub returns : goal.returns
unfolding read_ok_codec opaque
returns c =
    subst (λ (v : ReadOk). IfOk c.append_data.result (λ o. o ≡ c.args.writer.bytes ++ encodings (read_ok_codec.items v))) c.self.view_is
    (items_then c.args.writer c.in_ok-writer.writer _ _ c.append_data.result c.in_ok-writer.ensures.exact.appended
    (subst (λ (v : ReadOk). IfOk c.append_data.result (λ o. o ≡ c.in_ok-writer.writer.bytes ++ encodings (Opaque v.bytes ∷ []))) (sym c.self.view_is) c.append_data.ensures))
