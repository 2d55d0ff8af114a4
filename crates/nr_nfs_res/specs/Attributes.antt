-- Results about attributes.
use Rattle.std.proofs.Common.{refl}
use Rattle.nr_nfs_base.specs.Attributes.{attributes_codec, attributes_lawful}
use Rattle.nr_nfs_base.specs.Codec.{Codec, Lawful, word, ◌⊗◌, ◌&◌, structure, optional}
use Rattle.nr_nfs_base.specs.Laws.{word_lawful, ◌⊠◌, structure_lawful, optional_lawful}
use Rattle.nr_nfs_res.specs.declared.attributes.AccessOk.{AccessOk}

-- the results of ACCESS on success (RFC 1813 section 3.3.4)
unfoldable pub access_ok_codec : Codec AccessOk
access_ok_codec =
    structure (λ p. record { attributes = p.0; access = p.1 })
    (λ v. v.attributes & v.access)
    ((optional attributes_codec) ⊗ word)

pub access_ok_lawful : Lawful access_ok_codec
unfolding access_ok_codec
access_ok_lawful =
    structure_lawful _ _ _ (λ _. refl) (λ _. refl)
    ((optional_lawful _ attributes_lawful) ⊠ word_lawful)
