-- Unions over a status: one part after the status 0, another after any other (RFC 1813 sections 3.3 and 5.2.1).
use Rattle.std.proofs.Common.{refl, cond}
use Rattle.std.specs.Prelude.{◌≡◌, ℕ, true, false, List, [], ◌∷◌, map, Some, None, Option, option_map, Result, Ok, ◌==◌}
use Rattle.std.specs.List.{find}
use Rattle.nr_xdr.specs.Item.{Item, IsBytes}
use Rattle.nr_xdr.specs.Items.{TakesAll}
use Rattle.nr_xdr.specs.Reading.{Cursor}
use Rattle.nr_nfs_base.specs.Codec.{Codec, Lawful, value_with_number, enumeration, Arms, discriminated_union, arm_value}
use Rattle.nr_nfs_base.specs.Laws.{enumeration_lawful, discriminated_union_lawful, arm_takes}
use Rattle.nr_nfs_base.specs.declared.status_union.StatusUnion.{StatusUnion}
use Rattle.nr_nfs_base.specs.declared.status_union.StatusUnion.TheVariants.{Done, Failed}

-- the number of a status: 0 means success
abbrev pub status_tag_number : {S : Type 0} → (S → ℕ) → Option S → ℕ
status_tag_number number None = 0
status_tag_number number (Some s) = number s

abbrev pub status_tags : {S : Type 0} → List S → List (Option S)
status_tags all = None ∷ map Some all

-- the tag with a number is the failure with that number
pub find_tags : {S : Type 0} (number : S → ℕ) (all : List S) (n : ℕ) → find (λ t. status_tag_number number t == n) (map Some all) ≡ option_map Some (value_with_number number all n)
find_tags number [] n = refl
find_tags {S} number (x ∷ xs) n =
    elim (number x == n) as (λ b. cond b (Some (Some x)) (find (λ t. status_tag_number number t == n) (map Some xs)) ≡ option_map Some (cond b (Some x) (value_with_number number xs n))) [
      | true ↦ refl
      | false ↦ find_tags number xs n
    ]

pub each_status_tag : {S : Type 0} (number : S → ℕ) (all : List S) → ((s : S) → (0 == number s) ≡ false)
    → ((s : S) → value_with_number number all (number s) ≡ Some s) → (t : Option S)
    → value_with_number (status_tag_number number) (status_tags all) (status_tag_number number t) ≡ Some t
each_status_tag number all not_ok each None = refl
each_status_tag number all not_ok each (Some s) = rw (not_ok s, find_tags number all (number s), each s) refl

abbrev pub status_union_tag : {D F S : Type 0} → StatusUnion D F S → Option S
status_union_tag (Done d) = None
status_union_tag (Failed s f) = Some s

abbrev pub status_union_items : {D F S : Type 0} → Codec D → Codec F → StatusUnion D F S → List Item
status_union_items done failed (Done d) = done.items d
status_union_items done failed (Failed s f) = failed.items f

abbrev pub status_union_fits : {D F S : Type 0} → Codec D → Codec F → StatusUnion D F S → Type 0
status_union_fits done failed (Done d) = done.fits d
status_union_fits done failed (Failed s f) = failed.fits f

abbrev pub status_union_read : {D F S : Type 0} → Codec D → Codec F → Option S → Cursor → Result (StatusUnion D F S × Cursor) ℕ
status_union_read done failed None at = arm_value Done (done.read at)
status_union_read done failed (Some s) at = arm_value (Failed s) (failed.read at)

abbrev pub status_union_arms : {D F S : Type 0} → Codec D → Codec F → Arms (Option S) (StatusUnion D F S)
status_union_arms done failed = record {
  tag_of = status_union_tag;
  items = status_union_items done failed;
  fits = status_union_fits done failed;
  read = status_union_read done failed;
}

unfoldable pub status_union_codec : {D F S : Type 0} → (S → ℕ) → List S → Codec D → Codec F → Codec (StatusUnion D F S)
status_union_codec number all done failed = discriminated_union (enumeration (status_tag_number number) (status_tags all)) (status_union_arms done failed)

-- what is read after the status is a value of that status
abbrev status_union_claim : {D F S : Type 0} → Codec D → Codec F → Option S → Cursor → StatusUnion D F S → Cursor → Type 0
status_union_claim done failed tag old v new =
    (status_union_tag v ≡ tag) × (status_union_fits done failed v × TakesAll old new (status_union_items done failed v))

status_union_takes : {D F S : Type 0} (done : Codec D) (failed : Codec F) → Lawful done → Lawful failed
    → (tag : Option S) (old : Cursor) (v : StatusUnion D F S) (new : Cursor) → IsBytes old.rest
    → status_union_read done failed tag old ≡ Ok (v, new) → status_union_claim done failed tag old v new
status_union_takes done failed ld lf None old v new fits e =
    arm_takes done ld Done (status_union_claim done failed None old) old v new fits e (λ w after t. (refl, t))
status_union_takes done failed ld lf (Some s) old v new fits e =
    arm_takes failed lf (Failed s) (status_union_claim done failed (Some s) old) old v new fits e (λ w after t. (refl, t))

status_union_again : {D F S : Type 0} (done : Codec D) (failed : Codec F) → Lawful done → Lawful failed
    → (v : StatusUnion D F S) (old new : Cursor) → status_union_fits done failed v
    → TakesAll old new (status_union_items done failed v) → status_union_read done failed (status_union_tag v) old ≡ Ok (v, new)
status_union_again done failed ld lf (Done d) old new fits t = rw (ld.encoded_is_read old d new fits t) refl
status_union_again done failed ld lf (Failed s f) old new fits t = rw (lf.encoded_is_read old f new fits t) refl

pub status_union_lawful : {D F S : Type 0} (number : S → ℕ) (all : List S) → ((s : S) → (0 == number s) ≡ false)
    → ((s : S) → value_with_number number all (number s) ≡ Some s) → (done : Codec D) (failed : Codec F) → Lawful done → Lawful failed → Lawful (status_union_codec number all done failed)
unfolding status_union_codec
status_union_lawful number all not_ok each done failed ld lf =
    discriminated_union_lawful (enumeration (status_tag_number number) (status_tags all)) (status_union_arms done failed)
    (enumeration_lawful (status_tag_number number) (status_tags all) (each_status_tag number all not_ok each))
    (record { read_is_encoded = status_union_takes done failed ld lf; encoded_is_read = status_union_again done failed ld lf })
