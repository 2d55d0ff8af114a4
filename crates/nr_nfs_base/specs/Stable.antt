-- Stable storage.
use Rattle.std.proofs.Common.{refl}
use Rattle.std.specs.Prelude.{◌≡◌, ℕ, List, [], ◌∷◌, Some}
use Rattle.nr_nfs_base.specs.Codec.{Codec, Lawful, value_with_number, enumeration}
use Rattle.nr_nfs_base.specs.Laws.{enumeration_lawful}
use Rattle.nr_nfs_base.specs.declared.stable.StableHow.{StableHow}
use Rattle.nr_nfs_base.specs.declared.stable.StableHow.TheVariants.{Unstable, DataSync, FileSync}

-- what is on stable storage after a WRITE (RFC 1813 section 3.3.7, stable_how)
abbrev pub stable_how_number : StableHow → ℕ
stable_how_number Unstable = 0
stable_how_number DataSync = 1
stable_how_number FileSync = 2

abbrev pub stable_hows : List StableHow
stable_hows = Unstable ∷ DataSync ∷ FileSync ∷ []

pub each_stable_how : (v : StableHow) → value_with_number stable_how_number stable_hows (stable_how_number v) ≡ Some v
each_stable_how Unstable = refl
each_stable_how DataSync = refl
each_stable_how FileSync = refl

unfoldable pub stable_how_codec : Codec StableHow
stable_how_codec = enumeration stable_how_number stable_hows

pub stable_how_lawful : Lawful stable_how_codec
unfolding stable_how_codec
stable_how_lawful = enumeration_lawful stable_how_number stable_hows each_stable_how
