-- When two codecs are the same.
use Rattle.std.proofs.Common.{refl}
use Rattle.std.specs.Prelude.{◌≡◌, ◌↔◌}
use Rattle.nr_xdr.specs.Reading.{Cursor}
use Rattle.nr_nfs_base.specs.Codec.{Codec}

-- Values are encoded by the same items, the same values are within the limits, and the same is read at each offset.
pub record Same {A : Type 0} (a b : Codec A) : Type 0 where
  pub items : (v : A) → a.items v ≡ b.items v
  pub fits : (v : A) → a.fits v ↔ b.fits v
  pub read : (at : Cursor) → a.read at ≡ b.read at

pub same : {A : Type 0} (c : Codec A) → Same c c
same c = record { items = λ _. refl; fits = λ _. ((λ f. f), (λ f. f)); read = λ _. refl }
