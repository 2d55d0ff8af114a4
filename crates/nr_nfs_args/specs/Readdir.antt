-- Arguments of the calls that list directories.
use Rattle.std.proofs.Common.{refl}
use Rattle.nr_nfs_args.specs.declared.readdir.ReaddirArgs.{ReaddirArgs}
use Rattle.nr_nfs_args.specs.declared.readdir.ReaddirplusArgs.{ReaddirplusArgs}
use Rattle.nr_nfs_base.specs.Codec.{Codec, Lawful, word, ◌⊗◌, ◌&◌, structure}
use Rattle.nr_nfs_base.specs.Fronts.{readdir_args_front, readdir_args_front_lawful, readdirplus_args_front, readdirplus_args_front_lawful}
use Rattle.nr_nfs_base.specs.Laws.{word_lawful, ◌⊠◌, structure_lawful}

-- the arguments of READDIR (RFC 1813 section 3.3.16)
unfoldable pub readdir_args_codec : Codec ReaddirArgs
readdir_args_codec =
    structure (λ p. record { dir = p.0.0; cookie = p.0.1.0; verifier = p.0.1.1; count = p.1 })
    (λ v. (v.dir & v.cookie & v.verifier) & v.count)
    (readdir_args_front ⊗ word)

pub readdir_args_lawful : Lawful readdir_args_codec
unfolding readdir_args_codec
readdir_args_lawful =
    structure_lawful _ _ _ (λ _. refl) (λ _. refl)
    (readdir_args_front_lawful ⊠ word_lawful)

-- the arguments of READDIRPLUS (RFC 1813 section 3.3.17)
unfoldable pub readdirplus_args_codec : Codec ReaddirplusArgs
readdirplus_args_codec =
    structure (λ p. record {
      dir = p.0.0;
      cookie = p.0.1.0;
      verifier = p.0.1.1.0;
      dircount = p.0.1.1.1;
      maxcount = p.1;
    })
    (λ v. (v.dir & v.cookie & v.verifier & v.dircount) & v.maxcount)
    (readdirplus_args_front ⊗ word)

pub readdirplus_args_lawful : Lawful readdirplus_args_codec
unfolding readdirplus_args_codec
readdirplus_args_lawful =
    structure_lawful _ _ _ (λ _. refl) (λ _. refl)
    (readdirplus_args_front_lawful ⊠ word_lawful)
