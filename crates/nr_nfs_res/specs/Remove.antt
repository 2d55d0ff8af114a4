-- Results of the calls that change names.
use Rattle.std.proofs.Common.{refl}
use Rattle.nr_nfs_base.specs.Attributes.{attributes_codec, attributes_lawful}
use Rattle.nr_nfs_base.specs.Codec.{Codec, Lawful, ◌⊗◌, ◌&◌, structure, optional}
use Rattle.nr_nfs_base.specs.Laws.{◌⊠◌, structure_lawful, optional_lawful}
use Rattle.nr_nfs_base.specs.WeakCache.{wcc_data_codec, wcc_data_lawful}
use Rattle.nr_nfs_res.specs.declared.remove.LinkWcc.{LinkWcc}
use Rattle.nr_nfs_res.specs.declared.remove.RenameWcc.{RenameWcc}

-- the directories of RENAME before and after it (RFC 1813 section 3.3.14)
unfoldable pub rename_wcc_codec : Codec RenameWcc
rename_wcc_codec =
    structure (λ p. record { from_dir = p.0; to_dir = p.1 })
    (λ v. v.from_dir & v.to_dir)
    (wcc_data_codec ⊗ wcc_data_codec)

pub rename_wcc_lawful : Lawful rename_wcc_codec
unfolding rename_wcc_codec
rename_wcc_lawful =
    structure_lawful _ _ _ (λ _. refl) (λ _. refl)
    (wcc_data_lawful ⊠ wcc_data_lawful)

-- the file and the directory of LINK (RFC 1813 section 3.3.15)
unfoldable pub link_wcc_codec : Codec LinkWcc
link_wcc_codec =
    structure (λ p. record { attributes = p.0; dir_wcc = p.1 })
    (λ v. v.attributes & v.dir_wcc)
    ((optional attributes_codec) ⊗ wcc_data_codec)

pub link_wcc_lawful : Lawful link_wcc_codec
unfolding link_wcc_codec
link_wcc_lawful =
    structure_lawful _ _ _ (λ _. refl) (λ _. refl)
    ((optional_lawful _ attributes_lawful) ⊠ wcc_data_lawful)
