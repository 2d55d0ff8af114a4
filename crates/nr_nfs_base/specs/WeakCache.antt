-- Weak cache consistency.
use Rattle.std.proofs.Common.{refl}
use Rattle.nr_nfs_base.specs.Attributes.{attributes_codec, attributes_lawful}
use Rattle.nr_nfs_base.specs.Codec.{Codec, Lawful, hyper, ◌⊗◌, ◌&◌, structure, optional}
use Rattle.nr_nfs_base.specs.Laws.{hyper_lawful, ◌⊠◌, structure_lawful, optional_lawful}
use Rattle.nr_nfs_base.specs.Time.{time_codec, time_lawful}
use Rattle.nr_nfs_base.specs.declared.weak_cache.WccAttributes.{WccAttributes}
use Rattle.nr_nfs_base.specs.declared.weak_cache.WccData.{WccData}

-- the attributes by which a client sees that a cached file has changed (RFC 1813 section 2.5, wcc_attr)
unfoldable pub wcc_attributes_codec : Codec WccAttributes
wcc_attributes_codec =
    structure (λ p. record { size = p.0; mtime = p.1.0; ctime = p.1.1 })
    (λ v. v.size & v.mtime & v.ctime)
    (hyper ⊗ time_codec ⊗ time_codec)

pub wcc_attributes_lawful : Lawful wcc_attributes_codec
unfolding wcc_attributes_codec
wcc_attributes_lawful =
    structure_lawful _ _ _ (λ _. refl) (λ _. refl)
    (hyper_lawful ⊠ time_lawful ⊠ time_lawful)

-- a file before and after a call (RFC 1813 section 2.5, wcc_data)
unfoldable pub wcc_data_codec : Codec WccData
wcc_data_codec =
    structure (λ p. record { before = p.0; after = p.1 })
    (λ v. v.before & v.after)
    ((optional wcc_attributes_codec) ⊗ (optional attributes_codec))

pub wcc_data_lawful : Lawful wcc_data_codec
unfolding wcc_data_codec
wcc_data_lawful =
    structure_lawful _ _ _ (λ _. refl) (λ _. refl)
    ((optional_lawful _ wcc_attributes_lawful) ⊠ (optional_lawful _ attributes_lawful))
