-- Arguments about attributes.
use Rattle.std.proofs.Common.{refl}
use Rattle.nr_nfs_args.specs.declared.attributes.AccessArgs.{AccessArgs}
use Rattle.nr_nfs_args.specs.declared.attributes.GetattrArgs.{GetattrArgs}
use Rattle.nr_nfs_args.specs.declared.attributes.SetattrArgs.{SetattrArgs}
use Rattle.nr_nfs_base.specs.Codec.{Codec, Lawful, word, ◌⊗◌, ◌&◌, structure, optional}
use Rattle.nr_nfs_base.specs.Laws.{word_lawful, ◌⊠◌, structure_lawful, optional_lawful}
use Rattle.nr_nfs_base.specs.Names.{handle_codec, handle_lawful}
use Rattle.nr_nfs_base.specs.SetAttributes.{set_attributes_codec, set_attributes_lawful}
use Rattle.nr_nfs_base.specs.Time.{time_codec, time_lawful}

-- the arguments of GETATTR (RFC 1813 section 3.3.1)
unfoldable pub getattr_args_codec : Codec GetattrArgs
getattr_args_codec =
    structure (λ p. record { object = p })
    (λ v. v.object)
    handle_codec

pub getattr_args_lawful : Lawful getattr_args_codec
unfolding getattr_args_codec
getattr_args_lawful =
    structure_lawful _ _ _ (λ _. refl) (λ _. refl)
    handle_lawful

-- the arguments of SETATTR (RFC 1813 section 3.3.2)
unfoldable pub setattr_args_codec : Codec SetattrArgs
setattr_args_codec =
    structure (λ p. record { object = p.0; attributes = p.1.0; guard = p.1.1 })
    (λ v. v.object & v.attributes & v.guard)
    (handle_codec ⊗ set_attributes_codec ⊗ (optional time_codec))

pub setattr_args_lawful : Lawful setattr_args_codec
unfolding setattr_args_codec
setattr_args_lawful =
    structure_lawful _ _ _ (λ _. refl) (λ _. refl)
    (handle_lawful ⊠ set_attributes_lawful ⊠ (optional_lawful _ time_lawful))

-- the arguments of ACCESS (RFC 1813 section 3.3.4)
unfoldable pub access_args_codec : Codec AccessArgs
access_args_codec =
    structure (λ p. record { object = p.0; access = p.1 })
    (λ v. v.object & v.access)
    (handle_codec ⊗ word)

pub access_args_lawful : Lawful access_args_codec
unfolding access_args_codec
access_args_lawful =
    structure_lawful _ _ _ (λ _. refl) (λ _. refl)
    (handle_lawful ⊠ word_lawful)
