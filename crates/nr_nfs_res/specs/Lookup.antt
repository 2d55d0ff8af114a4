-- Results about names.
use Rattle.std.proofs.Common.{refl}
use Rattle.nr_nfs_base.specs.Attributes.{attributes_codec, attributes_lawful}
use Rattle.nr_nfs_base.specs.Codec.{Codec, Lawful, ◌⊗◌, ◌&◌, structure, optional}
use Rattle.nr_nfs_base.specs.Fronts.{readlink_ok_front, readlink_ok_front_lawful}
use Rattle.nr_nfs_base.specs.Laws.{◌⊠◌, structure_lawful, optional_lawful}
use Rattle.nr_nfs_base.specs.Names.{handle_codec, handle_lawful, text_codec, text_lawful}
use Rattle.nr_nfs_res.specs.declared.lookup.LookupOk.{LookupOk}
use Rattle.nr_nfs_res.specs.declared.lookup.ReadlinkOk.{ReadlinkOk}

-- the results of LOOKUP on success (RFC 1813 section 3.3.3)
unfoldable pub lookup_ok_codec : Codec LookupOk
lookup_ok_codec =
    structure (λ p. record { object = p.0; attributes = p.1.0; dir_attributes = p.1.1 })
    (λ v. v.object & v.attributes & v.dir_attributes)
    (handle_codec ⊗ (optional attributes_codec) ⊗ (optional attributes_codec))

pub lookup_ok_lawful : Lawful lookup_ok_codec
unfolding lookup_ok_codec
lookup_ok_lawful =
    structure_lawful _ _ _ (λ _. refl) (λ _. refl)
    (handle_lawful ⊠ (optional_lawful _ attributes_lawful) ⊠ (optional_lawful _ attributes_lawful))

-- the results of READLINK on success (RFC 1813 section 3.3.5)
unfoldable pub readlink_ok_codec : Codec ReadlinkOk
readlink_ok_codec =
    structure (λ p. record { attributes = p.0; path = p.1 })
    (λ v. v.attributes & v.path)
    (readlink_ok_front ⊗ text_codec)

pub readlink_ok_lawful : Lawful readlink_ok_codec
unfolding readlink_ok_codec
readlink_ok_lawful =
    structure_lawful _ _ _ (λ _. refl) (λ _. refl)
    (readlink_ok_front_lawful ⊠ text_lawful)
