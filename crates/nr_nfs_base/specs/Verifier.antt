-- Verifiers.
use Rattle.std.proofs.Common.{refl}
use Rattle.nr_nfs_base.specs.Codec.{Codec, Lawful, hyper, structure}
use Rattle.nr_nfs_base.specs.Laws.{hyper_lawful, structure_lawful}
use Rattle.nr_nfs_base.specs.declared.verifier.Verifier.{Verifier}

-- eight opaque bytes (RFC 1813 section 2.5), as the number that they encode
unfoldable pub verifier_codec : Codec Verifier
verifier_codec =
    structure (λ p. record { number = p })
    (λ v. v.number)
    hyper

pub verifier_lawful : Lawful verifier_codec
unfolding verifier_codec
verifier_lawful =
    structure_lawful _ _ _ (λ _. refl) (λ _. refl)
    hyper_lawful
