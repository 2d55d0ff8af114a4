-- Arguments about names.
use Rattle.std.proofs.Common.{refl}
use Rattle.nr_nfs_args.specs.declared.lookup.LookupArgs.{LookupArgs}
use Rattle.nr_nfs_args.specs.declared.lookup.ReadlinkArgs.{ReadlinkArgs}
use Rattle.nr_nfs_base.specs.Codec.{Codec, Lawful, ◌⊗◌, ◌&◌, structure}
use Rattle.nr_nfs_base.specs.Laws.{◌⊠◌, structure_lawful}
use Rattle.nr_nfs_base.specs.Names.{handle_codec, handle_lawful, text_codec, text_lawful}

-- the arguments of LOOKUP (RFC 1813 section 3.3.3)
unfoldable pub lookup_args_codec : Codec LookupArgs
lookup_args_codec =
    structure (λ p. record { dir = p.0; name = p.1 })
    (λ v. v.dir & v.name)
    (handle_codec ⊗ text_codec)

pub lookup_args_lawful : Lawful lookup_args_codec
unfolding lookup_args_codec
lookup_args_lawful =
    structure_lawful _ _ _ (λ _. refl) (λ _. refl)
    (handle_lawful ⊠ text_lawful)

-- the arguments of READLINK (RFC 1813 section 3.3.5)
unfoldable pub readlink_args_codec : Codec ReadlinkArgs
readlink_args_codec =
    structure (λ p. record { symlink = p })
    (λ v. v.symlink)
    handle_codec

pub readlink_args_lawful : Lawful readlink_args_codec
unfolding readlink_args_codec
readlink_args_lawful =
    structure_lawful _ _ _ (λ _. refl) (λ _. refl)
    handle_lawful
