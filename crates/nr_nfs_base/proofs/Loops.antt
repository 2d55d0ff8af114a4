-- Values read one after the other, as a loop does.
use Rattle.std.proofs.Common.{◌≡◌, ℕ, Bool, true, false, suc, ◌-◌, ◌+◌, ◌≤◌, ◌<◌, List, [], ◌∷◌, ◌++◌, Option, Result, Ok, Err, refl, sym, ap, ◌∙◌, append_assoc, arith}
use Rattle.std.proofs.lemmas.List.{append-nil}
use Rattle.nr_xdr.specs.Reading.{Cursor}
use Rattle.nr_nfs_base.specs.declared.fault.ValueFault.{ValueFault}
use Rattle.nr_nfs_base.specs.declared.fault.ValueFault.TheVariants as faults
use Rattle.nr_nfs_base.specs.Codec.{Codec, with_first, linked_list_read, optional, values_read, Answers, NextPushed, with_front}

pub with_no_front : {A : Type 0} (read : Result (List A × Cursor) ℕ) → with_front [] read ≡ read
with_no_front (Ok x) = refl
with_no_front (Err at) = refl

regroup : {A : Type 0} (front : List A) (v : A) (read : Result (List A × Cursor) ℕ) → with_front front (with_first v read) ≡ with_front (front ++ v ∷ []) read
regroup {A} front v (Ok x) = ap (λ (vs : List A). Ok (vs, x.1)) (simp append_assoc)
regroup front v (Err at) = refl

-- ---- Linked lists

pub linked_list_goes_on : {A : Type 0} (c : Codec A) (front new : List A) (n i : ℕ) (at : Cursor) (is_value : Bool) (to : Cursor) (total : Result (List A × Cursor) ℕ) → i < n → is_value ≡ true
    → NextPushed front new is_value to ((optional c).read at) → with_front front (linked_list_read c (n - i) at) ≡ total → with_front new (linked_list_read c (n - (i + 1)) to) ≡ total
unfolding linked_list_read
linked_list_goes_on c front new n i at true to total lt is (v, read, pushed) so_far =
    let k : n - i ≡ suc (n - (i + 1)) = omega arith in
    let one : with_front front (linked_list_read c (n - i) at) ≡ with_front (front ++ v ∷ []) (linked_list_read c (n - (i + 1)) to) = rw (k, read) (regroup front v (linked_list_read c (n - (i + 1)) to)) in
    rw pushed (sym one ∙ so_far)
linked_list_goes_on c front new n i at false to total lt is next so_far = absurd cc

pub linked_list_ends : {A : Type 0} (c : Codec A) (front new : List A) (n i : ℕ) (at : Cursor) (is_value : Bool) (to : Cursor) (total : Result (List A × Cursor) ℕ) → i < n → is_value ≡ false
    → NextPushed front new is_value to ((optional c).read at) → with_front front (linked_list_read c (n - i) at) ≡ total → total ≡ Ok (new, to)
unfolding linked_list_read
linked_list_ends {A} c front new n i at false to total lt is (read, same) so_far =
    let k : n - i ≡ suc (n - (i + 1)) = omega arith in
    let one : with_front front (linked_list_read c (n - i) at) ≡ Ok (front, to) = rw (k, read) (ap (λ (vs : List A). Ok (vs, to)) (append-nil front)) in
    rw same (sym so_far ∙ one)
linked_list_ends c front new n i at true to total lt is next so_far = absurd cc

pub linked_list_fails : {A : Type 0} (c : Codec A) (e : ValueFault) (front : List A) (n i : ℕ) (at : Cursor) (total : Result (List A × Cursor) ℕ) → i < n → Answers {A = Option A × Cursor} (Err e) ((optional c).read at)
    → with_front front (linked_list_read c (n - i) at) ≡ total → Answers {A = List A × Cursor} (Err e) total
unfolding linked_list_read
linked_list_fails c faults.Memory front n i at total lt h so_far = tt
linked_list_fails c (faults.Bad place) front n i at total lt h so_far =
    let k : n - i ≡ suc (n - (i + 1)) = omega arith in
    let one : with_front front (linked_list_read c (n - i) at) ≡ Err place = rw (k, h) refl in
    sym so_far ∙ one

pub linked_list_runs_out : {A : Type 0} (c : Codec A) (front : List A) (n i : ℕ) (at : Cursor) (total : Result (List A × Cursor) ℕ) → n ≤ i → with_front front (linked_list_read c (n - i) at) ≡ total → total ≡ Err at.place
unfolding linked_list_read
linked_list_runs_out c front n i at total le so_far =
    let k : n - i ≡ 0 = omega arith in
    let one : with_front front (linked_list_read c (n - i) at) ≡ Err at.place = rw k refl in
    sym so_far ∙ one

-- ---- Arrays

pub values_go_on : {A : Type 0} (c : Codec A) (front : List A) (n i : ℕ) (at : Cursor) (v : A) (to : Cursor) (total : Result (List A × Cursor) ℕ) → i < n → c.read at ≡ Ok (v, to)
    → with_front front (values_read c (n - i) at) ≡ total → with_front (front ++ v ∷ []) (values_read c (n - (i + 1)) to) ≡ total
unfolding values_read
values_go_on c front n i at v to total lt h so_far =
    let k : n - i ≡ suc (n - (i + 1)) = omega arith in
    let one : with_front front (values_read c (n - i) at) ≡ with_front (front ++ v ∷ []) (values_read c (n - (i + 1)) to) = rw (k, h) (regroup front v (values_read c (n - (i + 1)) to)) in
    sym one ∙ so_far

pub values_fail : {A : Type 0} (c : Codec A) (e : ValueFault) (front : List A) (n i : ℕ) (at : Cursor) (total : Result (List A × Cursor) ℕ) → i < n → Answers {A = A × Cursor} (Err e) (c.read at)
    → with_front front (values_read c (n - i) at) ≡ total → Answers {A = List A × Cursor} (Err e) total
unfolding values_read
values_fail c faults.Memory front n i at total lt h so_far = tt
values_fail c (faults.Bad place) front n i at total lt h so_far =
    let k : n - i ≡ suc (n - (i + 1)) = omega arith in
    let one : with_front front (values_read c (n - i) at) ≡ Err place = rw (k, h) refl in
    sym so_far ∙ one

pub values_done : {A : Type 0} (c : Codec A) (front : List A) (n i : ℕ) (at : Cursor) (total : Result (List A × Cursor) ℕ) → n ≤ i → with_front front (values_read c (n - i) at) ≡ total → total ≡ Ok (front, at)
unfolding values_read
values_done {A} c front n i at total le so_far =
    let k : n - i ≡ 0 = omega arith in
    let one : with_front front (values_read c (n - i) at) ≡ Ok (front, at) = rw k (ap (λ (vs : List A). Ok (vs, at)) (append-nil front)) in
    sym so_far ∙ one
