-- Results of MOUNT.
use Rattle.std.proofs.Common.{refl}
use Rattle.nr_nfs_base.specs.Codec.{Codec, Lawful, word, void, ◌⊗◌, ◌&◌, structure, array}
use Rattle.nr_nfs_base.specs.Laws.{word_lawful, void_lawful, ◌⊠◌, structure_lawful, array_lawful}
use Rattle.nr_nfs_base.specs.Names.{handle_codec, handle_lawful}
use Rattle.nr_nfs_res.specs.declared.mount.MountOk.{MountOk}
use Rattle.nr_nfs_res.specs.declared.mount.UmntRes.{UmntRes}
use Rattle.nr_nfs_res.specs.declared.mount.UmntallRes.{UmntallRes}

-- the results of MNT on success (RFC 1813 section 5.2.1, mountres3_ok)
unfoldable pub mount_ok_codec : Codec MountOk
mount_ok_codec =
    structure (λ p. record { handle = p.0; flavors = p.1 })
    (λ v. v.handle & v.flavors)
    (handle_codec ⊗ (array word))

pub mount_ok_lawful : Lawful mount_ok_codec
unfolding mount_ok_codec
mount_ok_lawful =
    structure_lawful _ _ _ (λ _. refl) (λ _. refl)
    (handle_lawful ⊠ (array_lawful _ word_lawful))

-- the results of UMNT (RFC 1813 section 5.2.3)
unfoldable pub umnt_res_codec : Codec UmntRes
umnt_res_codec =
    structure (λ _. record {}) (λ _. tt) void

pub umnt_res_lawful : Lawful umnt_res_codec
unfolding umnt_res_codec
umnt_res_lawful =
    structure_lawful _ _ _ (λ _. refl) (λ _. refl)
    void_lawful

-- the results of UMNTALL (RFC 1813 section 5.2.4)
unfoldable pub umntall_res_codec : Codec UmntallRes
umntall_res_codec =
    structure (λ _. record {}) (λ _. tt) void

pub umntall_res_lawful : Lawful umntall_res_codec
unfolding umntall_res_codec
umntall_res_lawful =
    structure_lawful _ _ _ (λ _. refl) (λ _. refl)
    void_lawful
