-- A chunk that is refused other than by its position has no payload.
use Rattle.std.proofs.Common.{◌≡◌, ◌≢◌, ℕ, Bool, true, false, cond, not, eqb, List, Option, Some, None, Result, Ok, Err, refl, sym, ◌∙◌}
use Rattle.nr_reduce.specs.declared.item.Item.{Item}
use Rattle.nr_reduce.specs.declared.item.Of.{Of}
use Rattle.nr_reduce.specs.declared.fault.Mismatch.{Mismatch}
use Rattle.nr_reduce.specs.declared.fault.Mismatch.TheVariants as mismatches
use Rattle.nr_reduce.specs.Items.{item_of, restored_payload}
use Rattle.nr_reduce.specs.Chunks.{has_moved_length, whole_by}
use Rattle.nr_reduce.specs.Cuts.{joined_by, rebuilt_of}
use Rattle.nr_reduce.specs.PayloadLaws.{RefusedHasNoPayload}

by_length : (payload : List ℕ) (why : Mismatch) (b : Bool) → cond (not b) (Err mismatches.Length) (Ok payload) ≡ Err why → cond b (Some payload) None ≡ None
by_length payload why true e = absurd (let wrong : Ok payload ≡ Err why = e in cc)
by_length payload why false e = refl

same_reason : (x y : Mismatch) (r : Result (List ℕ) Mismatch) → r ≡ Err x → r ≡ Err y → x ≡ y
same_reason x y r e f = (let both : Err x ≡ Err y = sym e ∙ f in cc)

by_position_lem : (payload : List ℕ) (why : Mismatch) (a b : Bool) → why ≢ mismatches.Position → cond a (Err mismatches.Position) (cond (not b) (Err mismatches.Length) (Ok payload)) ≡ Err why → cond b (Some payload) None ≡ None
by_position_lem payload why true b other e = absurd (other (same_reason why mismatches.Position (Err mismatches.Position) e refl))
by_position_lem payload why false b other e = by_length payload why b e

by_item_lem : (of : Of) (stream : List ℕ) (pos : ℕ) (moved : List ℕ) (why : Mismatch) (o : Option Item) → joined_by of stream pos moved o ≡ Err why → why ≢ mismatches.Position → whole_by of stream moved o ≡ None
by_item_lem of stream pos moved why None e other = refl
by_item_lem of stream pos moved why (Some i) e other = by_position_lem (restored_payload i stream moved) why (not (eqb i.pos pos)) (has_moved_length of i moved) other e

pub refused_has_none : RefusedHasNoPayload
unfolding rebuilt_of
refused_has_none of stream pos moved why e other = by_item_lem of stream pos moved why (item_of of stream) e other
