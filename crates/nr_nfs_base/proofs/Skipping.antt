-- The cursor after a value that is made of the parts that are read.
use Rattle.std.proofs.Common.{◌≡◌, ℕ, Result, Ok, Err, refl}
use Rattle.nr_xdr.specs.Reading.{Cursor}
use Rattle.nr_xdr.specs.Sequencing.{◌>>=◌}
use Rattle.nr_nfs_base.specs.Codec.{Codec, structure, cursor_after}

made_behind : {A B : Type 0} (make : A → B) (r : Result (A × Cursor) ℕ) → cursor_after {A = B} (r >>= λ x. Ok (make x.0, x.1)) ≡ cursor_after r
made_behind make (Ok x) = refl
made_behind make (Err at) = refl

pub structure_behind : {A B : Type 0} (make : A → B) (parts : B → A) (c : Codec A) (at : Cursor) → cursor_after ((structure make parts c).read at) ≡ cursor_after (c.read at)
structure_behind make parts c at = made_behind make (c.read at)
