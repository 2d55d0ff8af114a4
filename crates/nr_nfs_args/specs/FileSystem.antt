-- Arguments about a file system.
use Rattle.std.proofs.Common.{refl}
use Rattle.nr_nfs_args.specs.declared.file_system.FsinfoArgs.{FsinfoArgs}
use Rattle.nr_nfs_args.specs.declared.file_system.FsstatArgs.{FsstatArgs}
use Rattle.nr_nfs_args.specs.declared.file_system.PathconfArgs.{PathconfArgs}
use Rattle.nr_nfs_base.specs.Codec.{Codec, Lawful, structure}
use Rattle.nr_nfs_base.specs.Laws.{structure_lawful}
use Rattle.nr_nfs_base.specs.Names.{handle_codec, handle_lawful}

-- the arguments of FSSTAT (RFC 1813 section 3.3.18)
unfoldable pub fsstat_args_codec : Codec FsstatArgs
fsstat_args_codec =
    structure (λ p. record { fsroot = p })
    (λ v. v.fsroot)
    handle_codec

pub fsstat_args_lawful : Lawful fsstat_args_codec
unfolding fsstat_args_codec
fsstat_args_lawful =
    structure_lawful _ _ _ (λ _. refl) (λ _. refl)
    handle_lawful

-- the arguments of FSINFO (RFC 1813 section 3.3.19)
unfoldable pub fsinfo_args_codec : Codec FsinfoArgs
fsinfo_args_codec =
    structure (λ p. record { fsroot = p })
    (λ v. v.fsroot)
    handle_codec

pub fsinfo_args_lawful : Lawful fsinfo_args_codec
unfolding fsinfo_args_codec
fsinfo_args_lawful =
    structure_lawful _ _ _ (λ _. refl) (λ _. refl)
    handle_lawful

-- the arguments of PATHCONF (RFC 1813 section 3.3.20)
unfoldable pub pathconf_args_codec : Codec PathconfArgs
pathconf_args_codec =
    structure (λ p. record { object = p })
    (λ v. v.object)
    handle_codec

pub pathconf_args_lawful : Lawful pathconf_args_codec
unfolding pathconf_args_codec
pathconf_args_lawful =
    structure_lawful _ _ _ (λ _. refl) (λ _. refl)
    handle_lawful
