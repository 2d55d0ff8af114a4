-- Results about the bytes of a file.
use Rattle.std.proofs.Common.{refl}
use Rattle.nr_nfs_base.specs.Codec.{Codec, Lawful, word, ◌⊗◌, ◌&◌, structure}
use Rattle.nr_nfs_base.specs.Fronts.{read_ok_front, read_ok_front_lawful}
use Rattle.nr_nfs_base.specs.Laws.{word_lawful, ◌⊠◌, structure_lawful}
use Rattle.nr_nfs_base.specs.Names.{text_codec, text_lawful}
use Rattle.nr_nfs_base.specs.Stable.{stable_how_codec, stable_how_lawful}
use Rattle.nr_nfs_base.specs.Verifier.{verifier_codec, verifier_lawful}
use Rattle.nr_nfs_base.specs.WeakCache.{wcc_data_codec, wcc_data_lawful}
use Rattle.nr_nfs_res.specs.declared.bytes.CommitOk.{CommitOk}
use Rattle.nr_nfs_res.specs.declared.bytes.ReadOk.{ReadOk}
use Rattle.nr_nfs_res.specs.declared.bytes.WriteOk.{WriteOk}

-- the results of READ on success (RFC 1813 section 3.3.6)
unfoldable pub read_ok_codec : Codec ReadOk
read_ok_codec =
    structure (λ p. record { attributes = p.0.0; count = p.0.1.0; eof = p.0.1.1; bytes = p.1 })
    (λ v. (v.attributes & v.count & v.eof) & v.bytes)
    (read_ok_front ⊗ text_codec)

pub read_ok_lawful : Lawful read_ok_codec
unfolding read_ok_codec
read_ok_lawful =
    structure_lawful _ _ _ (λ _. refl) (λ _. refl)
    (read_ok_front_lawful ⊠ text_lawful)

-- the results of WRITE on success (RFC 1813 section 3.3.7)
unfoldable pub write_ok_codec : Codec WriteOk
write_ok_codec =
    structure (λ p. record { wcc = p.0; count = p.1.0; committed = p.1.1.0; verifier = p.1.1.1 })
    (λ v. v.wcc & v.count & v.committed & v.verifier)
    (wcc_data_codec ⊗ word ⊗ stable_how_codec ⊗ verifier_codec)

pub write_ok_lawful : Lawful write_ok_codec
unfolding write_ok_codec
write_ok_lawful =
    structure_lawful _ _ _ (λ _. refl) (λ _. refl)
    (wcc_data_lawful ⊠ word_lawful ⊠ stable_how_lawful ⊠ verifier_lawful)

-- the results of COMMIT on success (RFC 1813 section 3.3.21)
unfoldable pub commit_ok_codec : Codec CommitOk
commit_ok_codec =
    structure (λ p. record { wcc = p.0; verifier = p.1 })
    (λ v. v.wcc & v.verifier)
    (wcc_data_codec ⊗ verifier_codec)

pub commit_ok_lawful : Lawful commit_ok_codec
unfolding commit_ok_codec
commit_ok_lawful =
    structure_lawful _ _ _ (λ _. refl) (λ _. refl)
    (wcc_data_lawful ⊠ verifier_lawful)
