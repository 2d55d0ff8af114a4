-- Arguments of MOUNT.
use Rattle.std.proofs.Common.{refl}
use Rattle.nr_nfs_args.specs.declared.mount.MntArgs.{MntArgs}
use Rattle.nr_nfs_args.specs.declared.mount.UmntArgs.{UmntArgs}
use Rattle.nr_nfs_args.specs.declared.mount.UmntallArgs.{UmntallArgs}
use Rattle.nr_nfs_base.specs.Codec.{Codec, Lawful, void, structure}
use Rattle.nr_nfs_base.specs.Laws.{void_lawful, structure_lawful}
use Rattle.nr_nfs_base.specs.Names.{mount_path_codec, mount_path_lawful}

-- the arguments of MNT (RFC 1813 section 5.2.1)
unfoldable pub mnt_args_codec : Codec MntArgs
mnt_args_codec =
    structure (λ p. record { dirpath = p })
    (λ v. v.dirpath)
    mount_path_codec

pub mnt_args_lawful : Lawful mnt_args_codec
unfolding mnt_args_codec
mnt_args_lawful =
    structure_lawful _ _ _ (λ _. refl) (λ _. refl)
    mount_path_lawful

-- the arguments of UMNT (RFC 1813 section 5.2.3)
unfoldable pub umnt_args_codec : Codec UmntArgs
umnt_args_codec =
    structure (λ p. record { dirpath = p })
    (λ v. v.dirpath)
    mount_path_codec

pub umnt_args_lawful : Lawful umnt_args_codec
unfolding umnt_args_codec
umnt_args_lawful =
    structure_lawful _ _ _ (λ _. refl) (λ _. refl)
    mount_path_lawful

-- the arguments of UMNTALL (RFC 1813 section 5.2.4)
unfoldable pub umntall_args_codec : Codec UmntallArgs
umntall_args_codec =
    structure (λ _. record {}) (λ _. tt) void

pub umntall_args_lawful : Lawful umntall_args_codec
unfolding umntall_args_codec
umntall_args_lawful =
    structure_lawful _ _ _ (λ _. refl) (λ _. refl)
    void_lawful
