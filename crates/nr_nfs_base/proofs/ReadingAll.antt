-- What is read of all the bytes is encoded by all the bytes.
use Rattle.std.proofs.Common.{◌≡◌, ℕ, ◌+◌, Bool, true, false, cond, eqb, List, [], ◌++◌, length, Result, Ok, Err, refl, sym, ap, subst, ◌∙◌}
use Rattle.std.specs.Prelude.{IfOk, MatchResult}
use Rattle.std.proofs.lemmas.Bool.{eqb-true}
use Rattle.std.proofs.lemmas.List.{nil_from_length, append-nil}
use Rattle.nr_xdr.proofs.Chains.{standing, each_takes, each_between, encodings_read}
use Rattle.nr_xdr.specs.Item.{Item, IsBytes}
use Rattle.nr_xdr.specs.Items.{ReadsAll, TakesAll, encodings}
use Rattle.nr_xdr.specs.Reading.{Cursor}
use Rattle.nr_xdr.specs.Room.{Room}
use Rattle.nr_nfs_base.specs.declared.fault.ValueFault.{ValueFault}
use Rattle.nr_nfs_base.specs.declared.fault.ValueFault.TheVariants as faults
use Rattle.nr_nfs_base.specs.Codec.{Codec, Lawful, ReadsAs, start, value_at_end, read_all, Answers, AppendsValue}
use Rattle.nr_nfs_base.specs.Laws.{ok_is, bind_ok}

-- items that are taken to the end are read from all the bytes
all_read : (old new : Cursor) (items : List Item) → TakesAll old new items → new.rest ≡ [] → ReadsAll items old.rest
all_read old new items taken none =
    let b = each_between items old new taken in
    let all : old.rest ≡ b.bytes = b.rest ∙ ap (λ (r : List ℕ). b.bytes ++ r) none ∙ append-nil b.bytes in
    subst (λ (r : List ℕ). ReadsAll items r) (sym all) b.reads

-- and the other way
all_taken : (items : List Item) (old : Cursor) → ReadsAll items old.rest → TakesAll old (standing (old.place + length old.rest) []) items
all_taken items old reads = each_takes items old.rest [] old reads (sym (append-nil old.rest))

guard_at_end : {A : Type 0} (b : Bool) (at : ℕ) (x y : A) → cond b (Ok x) (Err at) ≡ Ok y → (b ≡ true) × (x ≡ y)
guard_at_end true at x y e = (refl, cc)
guard_at_end false at x y e = absurd cc

pub found_all : {A : Type 0} (c : Codec A) → Lawful c → (bytes : List ℕ) (v : A) → IsBytes bytes → read_all c bytes ≡ Ok v → ReadsAs c v bytes
found_all {A} c l bytes v fits e =
    let x = bind_ok (c.read (start bytes)) value_at_end v e in
    let g = guard_at_end (eqb (length ((x.0).1).rest) 0) ((x.0).1).place (x.0).0 v x.2 in
    let t = l.read_is_encoded (start bytes) (x.0).0 (x.0).1 fits x.1 in
    let none : ((x.0).1).rest ≡ [] = nil_from_length ((x.0).1).rest (eqb-true (length ((x.0).1).rest) 0 g.0) in
    subst (λ (w : A). ReadsAs c w bytes) g.1 (t.0, all_read (start bytes) (x.0).1 (c.items (x.0).0) t.1 none)

pub only_all : {A : Type 0} (c : Codec A) → Lawful c → (bytes : List ℕ) (v : A) → ReadsAs c v bytes → read_all c bytes ≡ Ok v
only_all c l bytes v r =
    rw (l.encoded_is_read (start bytes) v (standing (0 + length bytes) []) r.0 (all_taken (c.items v) (start bytes) r.1)) refl

pub is_found : {A : Type 0} (c : Codec A) → Lawful c → (bytes : List ℕ) (r : Result A ValueFault) → IsBytes bytes → Answers r (read_all c bytes) → IfOk r (λ v. ReadsAs c v bytes)
is_found c l bytes (Ok v) fits e = found_all c l bytes v fits e
is_found c l bytes (Err f) fits e = tt

pub is_only : {A : Type 0} (c : Codec A) → Lawful c → (bytes : List ℕ) (r : Result A ValueFault) (v : A) → Answers r (read_all c bytes) → ReadsAs c v bytes → MatchResult r (λ w. w ≡ v) (λ e. e ≡ faults.Memory)
is_only c l bytes (Ok w) v e s = ok_is w v (sym e ∙ only_all c l bytes v s)
is_only c l bytes (Err faults.Memory) v e s = refl
is_only c l bytes (Err (faults.Bad at)) v e s = absurd (let wrong = sym e ∙ only_all c l bytes v s in cc)

-- what was written is read as the value
pub written_is_read : {A : Type 0} (c : Codec A) (v : A) (old new : Room) (bytes : List ℕ) → old ≡ record { bytes = []; left = 0 } → bytes ≡ new.bytes → AppendsValue c old v new → ReadsAs c v bytes
written_is_read c v old new bytes none same w =
    let is : bytes ≡ encodings (c.items v) = same ∙ w.appended.is ∙ ap (λ (r : Room). r.bytes ++ encodings (c.items v)) none in
    (w.fits, subst (λ (b : List ℕ). ReadsAll (c.items v) b) (sym is) (encodings_read (c.items v) w.items_fit))

-- what is read at the front of some bytes
front_read : {A : Type 0} (c : Codec A) → Lawful c → (v : A) (x more bytes : List ℕ) → ReadsAs c v x → bytes ≡ x ++ more → c.read (start bytes) ≡ Ok (v, standing (0 + length x) more)
front_read c l v x more bytes r e = l.encoded_is_read (start bytes) v (standing (0 + length x) more) r.0 (each_takes (c.items v) x more (start bytes) r.1 e)

pub one_value_is : {A : Type 0} (c : Codec A) → Lawful c → (v w : A) (x y more others : List ℕ) → ReadsAs c v x → ReadsAs c w y → x ++ more ≡ y ++ others → (v ≡ w) × (more ≡ others)
one_value_is {A} c l v w x y more others r s e =
    let p = front_read c l v x more (x ++ more) r refl in
    let q = front_read c l w y others (x ++ more) s e in
    let both = ok_is {A = A × Cursor} (v, standing (0 + length x) more) (w, standing (0 + length y) others) (sym p ∙ q) in
    (ap (λ (z : A × Cursor). z.0) both, ap (λ (z : A × Cursor). (z.1).rest) both)
