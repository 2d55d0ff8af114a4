-- Results of the calls that create files.
use Rattle.std.proofs.Common.{refl}
use Rattle.nr_nfs_base.specs.Attributes.{attributes_codec, attributes_lawful}
use Rattle.nr_nfs_base.specs.Codec.{Codec, Lawful, ◌⊗◌, ◌&◌, structure, optional}
use Rattle.nr_nfs_base.specs.Laws.{◌⊠◌, structure_lawful, optional_lawful}
use Rattle.nr_nfs_base.specs.Names.{handle_codec, handle_lawful}
use Rattle.nr_nfs_base.specs.WeakCache.{wcc_data_codec, wcc_data_lawful}
use Rattle.nr_nfs_res.specs.declared.create.CreateOk.{CreateOk}

-- the results on success of a call that creates a file (RFC 1813 sections 3.3.8 to 3.3.11)
unfoldable pub create_ok_codec : Codec CreateOk
create_ok_codec =
    structure (λ p. record { object = p.0; attributes = p.1.0; dir_wcc = p.1.1 })
    (λ v. v.object & v.attributes & v.dir_wcc)
    ((optional handle_codec) ⊗ (optional attributes_codec) ⊗ wcc_data_codec)

pub create_ok_lawful : Lawful create_ok_codec
unfolding create_ok_codec
create_ok_lawful =
    structure_lawful _ _ _ (λ _. refl) (λ _. refl)
    ((optional_lawful _ handle_lawful) ⊠ (optional_lawful _ attributes_lawful) ⊠ wcc_data_lawful)
