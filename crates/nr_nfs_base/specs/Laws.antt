-- The laws of the codecs: each that is made of lawful ones is lawful.
use Rattle.std.proofs.Common.{◌≡◌, ℕ, zero, suc, ◌+◌, ◌≤◌, ◌<◌, Bool, true, false, cond, eqb, List, [], ◌∷◌, ◌++◌, length, Option, Some, None, is_some, Result, Ok, Err, refl, sym, ap, subst, ◌∙◌, arith}
use Rattle.std.specs.List.{find, flat_map, AllByRecursion}
use Rattle.std.proofs.lemmas.Bool.{eqb-true}
use Rattle.std.proofs.lemmas.List.{get_or-append-add, length-append}
use Rattle.std.proofs.lemmas.List.Concat.{flat_map-cons}
use Rattle.nr_xdr.specs.declared.fault.ItemFault.{ItemFault}
use Rattle.nr_xdr.specs.Item.{Item, IsBytes, bit}
use Rattle.nr_xdr.specs.Item.Item.{Unsigned, Hyper, Boolean, Opaque}
use Rattle.nr_xdr.specs.Items.{TakesAll}
use Rattle.nr_xdr.specs.Reading.{Cursor, Takes, unsigned_at, hyper_at, boolean_at, opaque_at}
use Rattle.nr_xdr.proofs.WordBytes.{length_word}
use Rattle.nr_xdr.proofs.Items.{unsigned_takes, unsigned_again, hyper_takes, hyper_again, boolean_takes, boolean_again, opaque_takes, opaque_again}
use Rattle.nr_xdr.specs.Sequencing.{◌>>=◌, or_place}
use Rattle.nr_nfs_base.specs.Codec.{Codec, Lawful, word, hyper, boolean, opaque, void, ◌⊗◌, structure, value_with_number, value_or_fault, enumeration, Arms, discriminated_union, arm_value, value_items, value_fits, value_read, optional, linked_list_items, linked_list_fits, with_first, linked_list_rest, linked_list_read, linked_list, values_read, array}

-- ---- Results

abbrev pub done : {A : Type 0} → A → Result A ℕ
done x = Ok x

pub ok_is : {A : Type 0} (x y : A) → done x ≡ done y → x ≡ y
ok_is x y e = cc

-- the value of a step that did not fail
pub bind_ok : {A B : Type 0} (r : Result A ℕ) (f : A → Result B ℕ) (y : B) → (r >>= f) ≡ Ok y → (x : A) × (r ≡ Ok x) × (f x ≡ Ok y)
bind_ok (Ok x) f y e = (x, refl, e)
bind_ok (Err at) f y e = absurd cc

placed_ok : {X : Type 0} (r : Result X ItemFault) (x : X) → or_place r ≡ Ok x → r ≡ Ok x
placed_ok (Ok y) x e = ap Ok (ok_is y x e)
placed_ok (Err fault) x e = absurd cc

-- ---- Items taken in order

takes_one : (old new : Cursor) (item : Item) → Takes old new item → TakesAll old new (item ∷ [])
takes_one old new item t = (new, t, refl)

one_taken : (old new : Cursor) (item : Item) → TakesAll old new (item ∷ []) → Takes old new item
one_taken old new item t = subst (λ (c : Cursor). Takes old c item) t.2 t.1

pub TakesAll_append : (old mid new : Cursor) (xs ys : List Item) → TakesAll old mid xs → TakesAll mid new ys → TakesAll old new (xs ++ ys)
TakesAll_append old mid new [] ys s t = subst (λ (c : Cursor). TakesAll c new ys) (sym s) t
TakesAll_append old mid new (x ∷ xs) ys s t = (s.0, s.1, TakesAll_append s.0 mid new xs ys s.2 t)

pub TakesAll_split : (old new : Cursor) (xs ys : List Item) → TakesAll old new (xs ++ ys) → (mid : Cursor) × TakesAll old mid xs × TakesAll mid new ys
TakesAll_split old new [] ys t = (old, refl, t)
TakesAll_split old new (x ∷ xs) ys t =
    let s = TakesAll_split t.0 new xs ys t.2 in
    (s.0, (t.0, t.1, s.1), s.2)

bytes_behind : (front rest : List ℕ) → IsBytes (front ++ rest) → IsBytes rest
bytes_behind front rest h i = rw (get_or-append-add front rest i 0) at (h (length front + i))

pub IsBytes_after : (old new : Cursor) (items : List Item) → IsBytes old.rest → TakesAll old new items → IsBytes new.rest
IsBytes_after old new [] h t = subst (λ (c : Cursor). IsBytes c.rest) t h
IsBytes_after old new (x ∷ xs) h t =
    IsBytes_after t.0 new xs (bytes_behind (t.1).bytes (t.0).rest (subst (λ (b : List ℕ). IsBytes b) (t.1).rest h)) t.2

-- ---- Single items

pub word_lawful : Lawful word
unfolding word
word_lawful = record {
  read_is_encoded = λ old n new fits e. (tt, takes_one old new (Unsigned n) (unsigned_takes old n new fits (placed_ok (unsigned_at old) (n, new) e)));
  encoded_is_read = λ old n new fits t. ap or_place (unsigned_again old n new (one_taken old new (Unsigned n) t));
}

pub hyper_lawful : Lawful hyper
unfolding hyper
hyper_lawful = record {
  read_is_encoded = λ old n new fits e. (tt, takes_one old new (Hyper n) (hyper_takes old n new fits (placed_ok (hyper_at old) (n, new) e)));
  encoded_is_read = λ old n new fits t. ap or_place (hyper_again old n new (one_taken old new (Hyper n) t));
}

pub boolean_lawful : Lawful boolean
unfolding boolean
boolean_lawful = record {
  read_is_encoded = λ old b new fits e. (tt, takes_one old new (Boolean b) (boolean_takes old b new fits (placed_ok (boolean_at old) (b, new) e)));
  encoded_is_read = λ old b new fits t. ap or_place (boolean_again old b new (one_taken old new (Boolean b) t));
}

pub opaque_lawful : (max : ℕ) → Lawful (opaque max)
unfolding opaque
opaque_lawful max = record {
  read_is_encoded = λ old bytes new fits e.
      let t = opaque_takes old max bytes new fits (placed_ok (opaque_at max old) (bytes, new) e) in
      (t.1, takes_one old new (Opaque bytes) t.0);
  encoded_is_read = λ old bytes new fits t. ap or_place (opaque_again old max bytes new fits (one_taken old new (Opaque bytes) t));
}

-- ---- Composite types

pub void_lawful : Lawful void
void_lawful = record {
  read_is_encoded = λ old v new fits e. (tt, ap (λ (x : Unit {0} × Cursor). x.1) (ok_is (tt, old) (v, new) e));
  encoded_is_read = λ old v new fits t. ap (λ (c : Cursor). Ok (tt, c)) t;
}

infixr 20 ◌⊠◌
pub ◌⊠◌ : {A B : Type 0} {a : Codec A} {b : Codec B} → Lawful a → Lawful b → Lawful (a ⊗ b)
◌⊠◌ {A} {B} {a} {b} la lb = record {
  read_is_encoded = λ old v new fits e.
      let x = bind_ok (a.read old) (λ x. b.read x.1 >>= λ y. Ok ((x.0, y.0), y.1)) (v, new) e in
      let y = bind_ok (b.read (x.0).1) (λ y. Ok (((x.0).0, y.0), y.1)) (v, new) x.2 in
      let p = la.read_is_encoded old (x.0).0 (x.0).1 fits x.1 in
      let q = lb.read_is_encoded (x.0).1 (y.0).0 (y.0).1 (IsBytes_after old (x.0).1 (a.items (x.0).0) fits p.1) y.1 in
      let both = TakesAll_append old (x.0).1 (y.0).1 (a.items (x.0).0) (b.items (y.0).0) p.1 q.1 in
      subst (λ (z : (A × B) × Cursor). (a ⊗ b).fits z.0 × TakesAll old z.1 ((a ⊗ b).items z.0))
      (ok_is {A = (A × B) × Cursor} (((x.0).0, (y.0).0), (y.0).1) (v, new) y.2) ((p.0, q.0), both);
  encoded_is_read = λ old v new fits t.
      let s = TakesAll_split old new (a.items v.0) (b.items v.1) t in
      rw (la.encoded_is_read old v.0 s.0 fits.0 s.1, lb.encoded_is_read s.0 v.1 new fits.1 s.2) refl;
}

pub structure_lawful : {A B : Type 0} (make : A → B) (parts : B → A) (c : Codec A) → ((v : B) → make (parts v) ≡ v) → ((p : A) → parts (make p) ≡ p) → Lawful c → Lawful (structure make parts c)
structure_lawful {A} {B} make parts c back forth l = record {
  read_is_encoded = λ old v new fits e.
      let x = bind_ok (c.read old) (λ x. Ok (make x.0, x.1)) (v, new) e in
      let p = l.read_is_encoded old (x.0).0 (x.0).1 fits x.1 in
      subst (λ (z : B × Cursor). c.fits (parts z.0) × TakesAll old z.1 (c.items (parts z.0))) (ok_is {A = B × Cursor} (make (x.0).0, (x.0).1) (v, new) x.2)
      (subst (λ (w : A). c.fits w × TakesAll old (x.0).1 (c.items w)) (sym (forth (x.0).0)) p);
  encoded_is_read = λ old v new fits t. rw (l.encoded_is_read old (parts v) new fits t) (ap (λ (w : B). Ok (w, new)) (back v));
}

find_holds : {A : Type 0} (test : A → Bool) (all : List A) (v : A) → find test all ≡ Some v → test v ≡ true
find_holds {A} test [] v e = absurd cc
find_holds {A} test (x ∷ xs) v e =
    let by_test = λ (b : Bool). test x ≡ b → cond b (Some x) (find test xs) ≡ Some v → test v ≡ true in
    elim (test x) as by_test [
      | true ↦ λ is f. let same : x ≡ v = cc in subst (λ (w : A). test w ≡ true) same is
      | false ↦ λ is f. find_holds test xs v f
    ] refl e

value_or_fault_ok : {A : Type 0} (old new : Cursor) (o : Option A) (v : A) (to : Cursor) → value_or_fault old o to ≡ Ok (v, new) → (o ≡ Some v) × (to ≡ new)
value_or_fault_ok {A} old new (Some w) v to e =
    let p : ◌≡◌ {A = A × Cursor} (w, to) (v, new) = ok_is {A = A × Cursor} (w, to) (v, new) e in
    (ap (λ (q : A × Cursor). Some q.0) p, ap (λ (q : A × Cursor). q.1) p)
value_or_fault_ok old new None v to e = absurd cc

-- each value is found by its number
pub enumeration_lawful : {A : Type 0} (number : A → ℕ) (all : List A) → ((v : A) → value_with_number number all (number v) ≡ Some v) → Lawful (enumeration number all)
unfolding enumeration
enumeration_lawful {A} number all each = record {
  read_is_encoded = λ old v new fits e.
      let n = bind_ok (word.read old) (λ n. value_or_fault old (value_with_number number all n.0) n.1) (v, new) e in
      let is = value_or_fault_ok old new (value_with_number number all (n.0).0) v (n.0).1 n.2 in
      let same : number v ≡ (n.0).0 = eqb-true (number v) (n.0).0 (find_holds (λ w. eqb (number w) (n.0).0) all v is.0) in
      let read : word.read old ≡ Ok (number v, new) = n.1 ∙ ap (λ (d : Cursor). Ok ((n.0).0, d)) is.1 ∙ ap (λ (k : ℕ). Ok (k, new)) (sym same) in
      word_lawful.read_is_encoded old (number v) new fits read;
  encoded_is_read = λ old v new fits t. rw (word_lawful.encoded_is_read old (number v) new fits t, each v) refl;
}

-- what is read after a tag is a value of that tag
pub record LawfulArms {T A : Type 0} (arms : Arms T A) : Type 0 where
  pub read_is_encoded : (t : T) (old : Cursor) (v : A) (new : Cursor) → IsBytes old.rest → arms.read t old ≡ Ok (v, new) → (arms.tag_of v ≡ t) × (arms.fits v × TakesAll old new (arms.items v))
  pub encoded_is_read : (v : A) (old new : Cursor) → arms.fits v → TakesAll old new (arms.items v) → arms.read (arms.tag_of v) old ≡ Ok (v, new)

pub discriminated_union_lawful : {T A : Type 0} (tag : Codec T) (arms : Arms T A) → Lawful tag → LawfulArms arms → Lawful (discriminated_union tag arms)
discriminated_union_lawful {T} {A} tag arms lt la = record {
  read_is_encoded = λ old v new fits e.
      let t = bind_ok (tag.read old) (λ t. arms.read t.0 t.1) (v, new) e in
      let p = lt.read_is_encoded old (t.0).0 (t.0).1 fits t.1 in
      let q = la.read_is_encoded (t.0).0 (t.0).1 v new (IsBytes_after old (t.0).1 (tag.items (t.0).0) fits p.1) t.2 in
      let both = TakesAll_append old (t.0).1 new (tag.items (t.0).0) (arms.items v) p.1 (q.1).1 in
      subst (λ (k : T). (tag.fits k × arms.fits v) × TakesAll old new (tag.items k ++ arms.items v)) (sym q.0) ((p.0, (q.1).0), both);
  encoded_is_read = λ old v new fits t.
      let s = TakesAll_split old new (tag.items (arms.tag_of v)) (arms.items v) t in
      rw (lt.encoded_is_read old (arms.tag_of v) s.0 fits.0 s.1) (la.encoded_is_read v s.0 new fits.1 s.2);
}

-- a claim for the value made, from one for its part
pub arm_takes : {A B : Type 0} (c : Codec A) → Lawful c → (make : A → B) (Claim : B → Cursor → Type 0) (old : Cursor) (v : B) (new : Cursor) → IsBytes old.rest → arm_value make (c.read old) ≡ Ok (v, new) →
    ((a : A) (after : Cursor) → c.fits a × TakesAll old after (c.items a) → Claim (make a) after) → Claim v new
arm_takes {A} {B} c l make Claim old v new fits e claim =
    let x = bind_ok (c.read old) (λ x. Ok (make x.0, x.1)) (v, new) e in
    subst (λ (z : B × Cursor). Claim z.0 z.1) (ok_is {A = B × Cursor} (make (x.0).0, (x.0).1) (v, new) x.2) (claim (x.0).0 (x.0).1 (l.read_is_encoded old (x.0).0 (x.0).1 fits x.1))

-- the same if nothing follows the tag
pub bare_takes : {B : Type 0} (value : B) (Claim : B → Cursor → Type 0) (old : Cursor) (v : B) (new : Cursor) → done {A = B × Cursor} (value, old) ≡ Ok (v, new) → Claim value old → Claim v new
bare_takes {B} value Claim old v new e claim = subst (λ (z : B × Cursor). Claim z.0 z.1) (ok_is {A = B × Cursor} (value, old) (v, new) e) claim

optional_claim : {A : Type 0} → Codec A → Bool → Cursor → Option A → Cursor → Type 0
optional_claim c flag old o new = (is_some o ≡ flag) × (value_fits c o × TakesAll old new (value_items c o))

optional_takes : {A : Type 0} (c : Codec A) → Lawful c → (flag : Bool) (old : Cursor) (o : Option A) (new : Cursor) → IsBytes old.rest → value_read c flag old ≡ Ok (o, new) → (is_some o ≡ flag) × (value_fits c o × TakesAll old new (value_items c o))
unfolding optional_claim
optional_takes c l true old o new fits e = arm_takes c l Some (optional_claim c true old) old o new fits e (λ v after t. (refl, t))
optional_takes c l false old o new fits e = bare_takes None (optional_claim c false old) old o new e (refl, (tt, refl))

optional_again : {A : Type 0} (c : Codec A) → Lawful c → (o : Option A) (old new : Cursor) → value_fits c o → TakesAll old new (value_items c o) → value_read c (is_some o) old ≡ Ok (o, new)
optional_again c l (Some v) old new fits t = rw (l.encoded_is_read old v new fits t) refl
optional_again c l None old new fits t = ap (λ (d : Cursor). Ok (None, d)) t

pub optional_lawful : {A : Type 0} (c : Codec A) → Lawful c → Lawful (optional c)
unfolding optional
optional_lawful c l = discriminated_union_lawful boolean _ boolean_lawful (record { read_is_encoded = optional_takes c l; encoded_is_read = optional_again c l })

-- ---- Lists

length_rest : (old new : Cursor) (items : List Item) → TakesAll old new items → length new.rest ≤ length old.rest
length_rest old new [] t = subst (λ (c : Cursor). length c.rest ≤ length old.rest) t (omega arith)
length_rest old new (x ∷ xs) t = omega (arith, length_rest t.0 new xs t.2, ap length (t.1).rest, length-append (t.1).bytes (t.0).rest)

boolean_shrinks : (b : Bool) (old new : Cursor) (items : List Item) → TakesAll old new (Boolean b ∷ items) → length new.rest < length old.rest
boolean_shrinks b old new items t =
    omega (arith, length_rest t.0 new items t.2, ap length (t.1).rest, length-append (t.1).bytes (t.0).rest, ap length ((t.1).reads).bytes_are, length_word (bit b))

-- a flag takes bytes
optional_shrinks : {A : Type 0} (c : Codec A) (old new : Cursor) (o : Option A) → TakesAll old new ((optional c).items o) → length new.rest < length old.rest
unfolding optional boolean
optional_shrinks c old new o t = boolean_shrinks (is_some o) old new (value_items c o) t

with_first_ok : {A : Type 0} (v : A) (r : Result (List A × Cursor) ℕ) (vs : List A) (new : Cursor) → with_first v r ≡ Ok (vs, new) → (x : List A × Cursor) × (r ≡ Ok x) × (v ∷ x.0 ≡ vs) × (x.1 ≡ new)
with_first_ok {A} v r vs new e =
    let x = bind_ok r (λ x. Ok (v ∷ x.0, x.1)) (vs, new) e in
    let p : ◌≡◌ {A = List A × Cursor} (v ∷ (x.0).0, (x.0).1) (vs, new) = ok_is {A = List A × Cursor} (v ∷ (x.0).0, (x.0).1) (vs, new) x.2 in
    (x.0, x.1, ap (λ (q : List A × Cursor). q.0) p, ap (λ (q : List A × Cursor). q.1) p)

abbrev Chains : {A : Type 0} → Codec A → Cursor → List A → Cursor → Type 0
Chains c old vs new = linked_list_fits c vs × TakesAll old new (linked_list_items c vs)

linked_list_step : {A : Type 0} (c : Codec A) (l : Lawful (optional c)) (n : ℕ) (old new : Cursor) (o : Option A) (after : Cursor) (vs : List A) → IsBytes old.rest → (optional c).fits o × TakesAll old after ((optional c).items o)
    → linked_list_rest o after (linked_list_read c n after) ≡ Ok (vs, new) → ((others : List A) → IsBytes after.rest → linked_list_read c n after ≡ Ok (others, new) → Chains c after others new) → Chains c old vs new
linked_list_step {A} c l n old new None after vs fits p e more =
    subst (λ (z : List A × Cursor). Chains c old z.0 z.1) (ok_is {A = List A × Cursor} ([], after) (vs, new) e) p
linked_list_step {A} c l n old new (Some v) after vs fits p e more =
    let b = with_first_ok v (linked_list_read c n after) vs new e in
    let read : linked_list_read c n after ≡ Ok ((b.0).0, new) = b.1 ∙ ap (λ (d : Cursor). Ok ((b.0).0, d)) b.3 in
    let q = more (b.0).0 (IsBytes_after old after ((optional c).items (Some v)) fits p.1) read in
    subst (λ (ws : List A). Chains c old ws new) b.2 ((p.0, q.0), TakesAll_append old after new ((optional c).items (Some v)) (linked_list_items c (b.0).0) p.1 q.1)

linked_list_takes : {A : Type 0} (c : Codec A) (l : Lawful (optional c)) (n : ℕ) (old new : Cursor) (vs : List A) → IsBytes old.rest → linked_list_read c n old ≡ Ok (vs, new) → Chains c old vs new
unfolding linked_list_read
linked_list_takes c l zero old new vs fits e = absurd cc
linked_list_takes {A} c l (suc n) old new vs fits e =
    let x = bind_ok ((optional c).read old) (λ x. linked_list_rest x.0 x.1 (linked_list_read c n x.1)) (vs, new) e in
    let p = l.read_is_encoded old (x.0).0 (x.0).1 fits x.1 in
    linked_list_step c l n old new (x.0).0 (x.0).1 vs fits p x.2 (linked_list_takes c l n (x.0).1 new)

linked_list_again : {A : Type 0} (c : Codec A) (l : Lawful (optional c)) (vs : List A) (n : ℕ) (old new : Cursor) → length old.rest ≤ n → linked_list_fits c vs → TakesAll old new (linked_list_items c vs) → linked_list_read c n old ≡ Ok (vs, new)
unfolding linked_list_read
linked_list_again c l [] zero old new le fits t = absurd (omega (arith, optional_shrinks c old new None t))
linked_list_again c l [] (suc n) old new le fits t = rw (l.encoded_is_read old None new fits t) refl
linked_list_again c l (v ∷ vs) zero old new le fits t =
    let s = TakesAll_split old new ((optional c).items (Some v)) (linked_list_items c vs) t in
    absurd (omega (arith, optional_shrinks c old s.0 (Some v) s.1))
linked_list_again c l (v ∷ vs) (suc n) old new le fits t =
    let s = TakesAll_split old new ((optional c).items (Some v)) (linked_list_items c vs) t in
    let less : length (s.0).rest ≤ n = omega (arith, optional_shrinks c old s.0 (Some v) s.1) in
    rw (l.encoded_is_read old (Some v) s.0 fits.0 s.1, linked_list_again c l vs n s.0 new less fits.1 s.2) refl

pub linked_list_lawful : {A : Type 0} (c : Codec A) → Lawful c → Lawful (linked_list c)
unfolding linked_list
linked_list_lawful {A} c l = record {
  read_is_encoded = λ old vs new fits e. linked_list_takes c (optional_lawful c l) (length old.rest) old new vs fits e;
  encoded_is_read = λ old vs new fits t. linked_list_again c (optional_lawful c l) vs (length old.rest) old new (omega arith) fits t;
}

abbrev Lists : {A : Type 0} → Codec A → Cursor → List A → Cursor → Type 0
Lists c old vs new = AllByRecursion c.fits vs × TakesAll old new (flat_map c.items vs)

values_read_takes : {A : Type 0} (c : Codec A) (l : Lawful c) (n : ℕ) (old new : Cursor) (vs : List A) → IsBytes old.rest → values_read c n old ≡ Ok (vs, new) → Lists c old vs new × (length vs ≡ n)
unfolding values_read
values_read_takes {A} c l zero old new vs fits e =
    subst (λ (z : List A × Cursor). Lists c old z.0 z.1 × (length z.0 ≡ 0)) (ok_is {A = List A × Cursor} ([], old) (vs, new) e) ((tt, refl), refl)
values_read_takes {A} c l (suc n) old new vs fits e =
    let x = bind_ok (c.read old) (λ x. with_first x.0 (values_read c n x.1)) (vs, new) e in
    let p = l.read_is_encoded old (x.0).0 (x.0).1 fits x.1 in
    let b = with_first_ok (x.0).0 (values_read c n (x.0).1) vs new x.2 in
    let read : values_read c n (x.0).1 ≡ Ok ((b.0).0, new) = b.1 ∙ ap (λ (d : Cursor). Ok ((b.0).0, d)) b.3 in
    let q = values_read_takes c l n (x.0).1 new (b.0).0 (IsBytes_after old (x.0).1 (c.items (x.0).0) fits p.1) read in
    let both = TakesAll_append old (x.0).1 new (c.items (x.0).0) (flat_map c.items (b.0).0) p.1 (q.0).1 in
    subst (λ (ws : List A). Lists c old ws new × (length ws ≡ suc n)) b.2 (((p.0, (q.0).0), rw flat_map-cons both), ap suc q.1)

values_read_again : {A : Type 0} (c : Codec A) (l : Lawful c) (vs : List A) (old new : Cursor) → AllByRecursion c.fits vs → TakesAll old new (flat_map c.items vs) → values_read c (length vs) old ≡ Ok (vs, new)
unfolding values_read
values_read_again c l [] old new fits t = ap (λ (d : Cursor). Ok ([], d)) t
values_read_again c l (v ∷ vs) old new fits t =
    let cut : TakesAll old new (c.items v ++ flat_map c.items vs) = rw flat_map-cons at t in
    let s = TakesAll_split old new (c.items v) (flat_map c.items vs) cut in
    rw (l.encoded_is_read old v s.0 fits.0 s.1, values_read_again c l vs s.0 new fits.1 s.2) refl

pub array_lawful : {A : Type 0} (c : Codec A) → Lawful c → Lawful (array c)
unfolding array
array_lawful {A} c l = record {
  read_is_encoded = λ old vs new fits e.
      let n = bind_ok (word.read old) (λ n. values_read c n.0 n.1) (vs, new) e in
      let p = word_lawful.read_is_encoded old (n.0).0 (n.0).1 fits n.1 in
      let q = values_read_takes c l (n.0).0 (n.0).1 new vs (IsBytes_after old (n.0).1 (word.items (n.0).0) fits p.1) n.2 in
      let count = subst (λ (k : ℕ). word.fits k × TakesAll old (n.0).1 (word.items k)) (sym q.1) p in
      ((count.0, (q.0).0), TakesAll_append old (n.0).1 new (word.items (length vs)) (flat_map c.items vs) count.1 (q.0).1);
  encoded_is_read = λ old vs new fits t.
      let s = TakesAll_split old new (word.items (length vs)) (flat_map c.items vs) t in
      rw (word_lawful.encoded_is_read old (length vs) s.0 fits.0 s.1, values_read_again c l vs s.0 new fits.1 s.2) refl;
}
