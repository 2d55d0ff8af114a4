-- Arguments about the bytes of a file.
use Rattle.std.proofs.Common.{refl}
use Rattle.nr_nfs_args.specs.declared.bytes.CommitArgs.{CommitArgs}
use Rattle.nr_nfs_args.specs.declared.bytes.ReadArgs.{ReadArgs}
use Rattle.nr_nfs_args.specs.declared.bytes.WriteArgs.{WriteArgs}
use Rattle.nr_nfs_base.specs.Codec.{Codec, Lawful, word, hyper, ◌⊗◌, ◌&◌, structure}
use Rattle.nr_nfs_base.specs.Fronts.{read_args_front, read_args_front_lawful, write_args_front, write_args_front_lawful}
use Rattle.nr_nfs_base.specs.Laws.{word_lawful, hyper_lawful, ◌⊠◌, structure_lawful}
use Rattle.nr_nfs_base.specs.Names.{handle_codec, handle_lawful, text_codec, text_lawful}

-- the arguments of READ (RFC 1813 section 3.3.6)
unfoldable pub read_args_codec : Codec ReadArgs
read_args_codec =
    structure (λ p. record { file = p.0.0; offset = p.0.1; count = p.1 })
    (λ v. (v.file & v.offset) & v.count)
    (read_args_front ⊗ word)

pub read_args_lawful : Lawful read_args_codec
unfolding read_args_codec
read_args_lawful =
    structure_lawful _ _ _ (λ _. refl) (λ _. refl)
    (read_args_front_lawful ⊠ word_lawful)

-- the arguments of WRITE (RFC 1813 section 3.3.7)
unfoldable pub write_args_codec : Codec WriteArgs
write_args_codec =
    structure (λ p. record {
      file = p.0.0;
      offset = p.0.1.0;
      count = p.0.1.1.0;
      stable = p.0.1.1.1;
      bytes = p.1;
    })
    (λ v. (v.file & v.offset & v.count & v.stable) & v.bytes)
    (write_args_front ⊗ text_codec)

pub write_args_lawful : Lawful write_args_codec
unfolding write_args_codec
write_args_lawful =
    structure_lawful _ _ _ (λ _. refl) (λ _. refl)
    (write_args_front_lawful ⊠ text_lawful)

-- the arguments of COMMIT (RFC 1813 section 3.3.21)
unfoldable pub commit_args_codec : Codec CommitArgs
commit_args_codec =
    structure (λ p. record { file = p.0; offset = p.1.0; count = p.1.1 })
    (λ v. v.file & v.offset & v.count)
    (handle_codec ⊗ hyper ⊗ word)

pub commit_args_lawful : Lawful commit_args_codec
unfolding commit_args_codec
commit_args_lawful =
    structure_lawful _ _ _ (λ _. refl) (λ _. refl)
    (handle_lawful ⊠ hyper_lawful ⊠ word_lawful)
