-- Times.
use Rattle.std.proofs.Common.{refl}
use Rattle.nr_nfs_base.specs.Codec.{Codec, Lawful, word, ◌⊗◌, ◌&◌, structure}
use Rattle.nr_nfs_base.specs.Laws.{word_lawful, ◌⊠◌, structure_lawful}
use Rattle.nr_nfs_base.specs.declared.time.Time.{Time}

-- a time (RFC 1813 section 2.5, nfstime3)
unfoldable pub time_codec : Codec Time
time_codec =
    structure (λ p. record { seconds = p.0; nanoseconds = p.1 })
    (λ v. v.seconds & v.nanoseconds)
    (word ⊗ word)

pub time_lawful : Lawful time_codec
unfolding time_codec
time_lawful =
    structure_lawful _ _ _ (λ _. refl) (λ _. refl)
    (word_lawful ⊠ word_lawful)
