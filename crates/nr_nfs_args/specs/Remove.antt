-- Arguments of the calls that change names.
use Rattle.std.proofs.Common.{refl}
use Rattle.nr_nfs_args.specs.declared.remove.LinkArgs.{LinkArgs}
use Rattle.nr_nfs_args.specs.declared.remove.RemoveArgs.{RemoveArgs}
use Rattle.nr_nfs_args.specs.declared.remove.RenameArgs.{RenameArgs}
use Rattle.nr_nfs_args.specs.declared.remove.RmdirArgs.{RmdirArgs}
use Rattle.nr_nfs_base.specs.Codec.{Codec, Lawful, ◌⊗◌, ◌&◌, structure}
use Rattle.nr_nfs_base.specs.Laws.{◌⊠◌, structure_lawful}
use Rattle.nr_nfs_base.specs.Names.{handle_codec, handle_lawful, text_codec, text_lawful}

-- the arguments of REMOVE (RFC 1813 section 3.3.12)
unfoldable pub remove_args_codec : Codec RemoveArgs
remove_args_codec =
    structure (λ p. record { dir = p.0; name = p.1 })
    (λ v. v.dir & v.name)
    (handle_codec ⊗ text_codec)

pub remove_args_lawful : Lawful remove_args_codec
unfolding remove_args_codec
remove_args_lawful =
    structure_lawful _ _ _ (λ _. refl) (λ _. refl)
    (handle_lawful ⊠ text_lawful)

-- the arguments of RMDIR (RFC 1813 section 3.3.13)
unfoldable pub rmdir_args_codec : Codec RmdirArgs
rmdir_args_codec =
    structure (λ p. record { dir = p.0; name = p.1 })
    (λ v. v.dir & v.name)
    (handle_codec ⊗ text_codec)

pub rmdir_args_lawful : Lawful rmdir_args_codec
unfolding rmdir_args_codec
rmdir_args_lawful =
    structure_lawful _ _ _ (λ _. refl) (λ _. refl)
    (handle_lawful ⊠ text_lawful)

-- the arguments of RENAME (RFC 1813 section 3.3.14)
unfoldable pub rename_args_codec : Codec RenameArgs
rename_args_codec =
    structure (λ p. record { from_dir = p.0; from_name = p.1.0; to_dir = p.1.1.0; to_name = p.1.1.1 })
    (λ v. v.from_dir & v.from_name & v.to_dir & v.to_name)
    (handle_codec ⊗ text_codec ⊗ handle_codec ⊗ text_codec)

pub rename_args_lawful : Lawful rename_args_codec
unfolding rename_args_codec
rename_args_lawful =
    structure_lawful _ _ _ (λ _. refl) (λ _. refl)
    (handle_lawful ⊠ text_lawful ⊠ handle_lawful ⊠ text_lawful)

-- the arguments of LINK (RFC 1813 section 3.3.15)
unfoldable pub link_args_codec : Codec LinkArgs
link_args_codec =
    structure (λ p. record { file = p.0; dir = p.1.0; name = p.1.1 })
    (λ v. v.file & v.dir & v.name)
    (handle_codec ⊗ handle_codec ⊗ text_codec)

pub link_args_lawful : Lawful link_args_codec
unfolding link_args_codec
link_args_lawful =
    structure_lawful _ _ _ (λ _. refl) (λ _. refl)
    (handle_lawful ⊠ handle_lawful ⊠ text_lawful)
