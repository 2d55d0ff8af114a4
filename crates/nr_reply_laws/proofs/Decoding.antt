-- What was encoded is read, also of numbers that don't fit: other numbers are read of them then. A property says which value is read.
use Rattle.std.proofs.Common.{◌≡◌, ℕ, zero, suc, ◌+◌, ◌<◌, ◌≤◌, ◌^◌, Bool, true, false, cond, ltb, List, [], ◌∷◌, ◌++◌, length, drop, take, Option, None, Some, Result, Ok, Err, refl, ap, ◌∙◌, append_assoc, arith}
use Rattle.std.specs.Prelude.{◌==◌}
use Rattle.std.specs.List.{AllByRecursion}
use Rattle.std.proofs.lemmas.Bool.{le-ltb}
use Rattle.std.proofs.lemmas.List.{length-append, drop_at}
use Rattle.nr_xdr.specs.Item.{Item, word_of, hyper_of}
use Rattle.nr_xdr.specs.Item.Item.{Unsigned, Hyper, Boolean}
use Rattle.nr_xdr.specs.Items.{AllFit, encodings}
use Rattle.nr_xdr.specs.declared.fault.ItemFault.TheVariants.{Short}
use Rattle.nr_xdr.specs.Reading.{Cursor, unsigned_at, hyper_at, cursor_past}
use Rattle.nr_xdr.specs.Sequencing.{◌>>=◌, or_place}
use Rattle.nr_xdr.proofs.Chains.{standing, each_takes, encodings_read}
use Rattle.nr_nfs_base.specs.Codec.{Codec, Lawful, ◌⊗◌, structure, optional, enumeration, value_with_number, boolean, opaque, value_read, arm_value, linked_list, linked_list_items, linked_list_read, linked_list_rest, with_first, word as word_codec, hyper as hyper_codec}
use Rattle.nr_nfs_base.specs.Laws.{boolean_lawful, enumeration_lawful, opaque_lawful, word_lawful}
use Rattle.nr_nfs_base.specs.StatusUnion.{each_status_tag, status_tag_number, status_tags, status_union_codec, status_union_read}
use Rattle.nr_nfs_base.specs.declared.status_union.StatusUnion.{StatusUnion}
use Rattle.nr_nfs_base.specs.declared.status_union.StatusUnion.TheVariants.{Done, Failed}
use Rattle.nr_ops_list.proofs.Sizes.{items_size, length_encodings, items_size_append}
use Rattle.nr_plain.proofs.FrontReads.{encodings_append}

abbrev pub Any : {A : Type 0} → A → Type 0
Any value = Unit {0}

-- a value with this property is read of these bytes, whatever follows them
pub record Found {A : Type 0} (read : Cursor → Result (A × Cursor) ℕ) (place : ℕ) (bytes rest : List ℕ) (P : A → Type 0) : Type 0 where
  pub value : A
  pub after : ℕ
  pub is : read (standing place (bytes ++ rest)) ≡ Ok (value, standing after rest)
  pub holds : P value

-- so it is of these items, at any offset
pub record IsRead {A : Type 0} (c : Codec A) (xs : List Item) (P : A → Type 0) : Type 0 where
  pub at : (place : ℕ) (rest : List ℕ) → Found c.read place (encodings xs) rest P

pub weaker : {A : Type 0} (c : Codec A) (xs : List Item) (P Q : A → Type 0) → ((v : A) → P v → Q v) → IsRead c xs P → IsRead c xs Q
weaker c xs P Q so reads = record { at = λ place rest. let f = reads.at place rest in record { value = f.value; after = f.after; is = f.is; holds = so f.value f.holds } }

pub lawful_read : {A : Type 0} (c : Codec A) (v : A) → Lawful c → c.fits v → AllFit (c.items v) → IsRead c (c.items v) (λ w. w ≡ v)
lawful_read c v l fits all = record {
  at = λ place rest.
      let bytes = encodings (c.items v) in record {
        value = v;
        after = place + length bytes;
        is = l.encoded_is_read (standing place (bytes ++ rest)) v (standing (place + length bytes) rest) fits (each_takes (c.items v) bytes rest (standing place (bytes ++ rest)) (encodings_read (c.items v) all) refl);
        holds = refl;
      };
}

-- ---- Single items

number_read : (place : ℕ) (bytes rest : List ℕ) → length bytes ≡ 4 → or_place (unsigned_at (standing place (bytes ++ rest))) ≡ Ok (word_of (take 4 (bytes ++ rest)), standing (place + 4) rest)
unfolding unsigned_at cursor_past
number_read place bytes rest four =
    let enough : ltb (length (bytes ++ rest)) 4 ≡ false = le-ltb (length (bytes ++ rest)) 4 (omega (arith, length-append bytes rest, four)) in
    ap (λ (b : Bool). or_place (cond b (Err (Short place)) (Ok (word_of (take 4 (bytes ++ rest)), record { place = place + 4; rest = drop 4 (bytes ++ rest) })))) enough
    ∙ ap (λ (l : List ℕ). Ok (word_of (take 4 (bytes ++ rest)), standing (place + 4) l)) (drop_at bytes rest 4 four)

long_read : (place : ℕ) (bytes rest : List ℕ) → length bytes ≡ 8 → or_place (hyper_at (standing place (bytes ++ rest))) ≡ Ok (hyper_of (take 8 (bytes ++ rest)), standing (place + 8) rest)
unfolding hyper_at cursor_past
long_read place bytes rest eight =
    let enough : ltb (length (bytes ++ rest)) 8 ≡ false = le-ltb (length (bytes ++ rest)) 8 (omega (arith, length-append bytes rest, eight)) in
    ap (λ (b : Bool). or_place (cond b (Err (Short place)) (Ok (hyper_of (take 8 (bytes ++ rest)), record { place = place + 8; rest = drop 8 (bytes ++ rest) })))) enough
    ∙ ap (λ (l : List ℕ). Ok (hyper_of (take 8 (bytes ++ rest)), standing (place + 8) l)) (drop_at bytes rest 8 eight)

-- any number is read as some number
pub word_any : (n : ℕ) → IsRead word_codec (word_codec.items n) Any
unfolding word_codec
word_any n = record { at = λ place rest. record { value = _; after = place + 4; is = number_read place (encodings (Unsigned n ∷ [])) rest (length_encodings (Unsigned n ∷ [])); holds = tt } }

pub hyper_any : (n : ℕ) → IsRead hyper_codec (hyper_codec.items n) Any
unfolding hyper_codec
hyper_any n = record { at = λ place rest. record { value = _; after = place + 8; is = long_read place (encodings (Hyper n ∷ [])) rest (length_encodings (Hyper n ∷ [])); holds = tt } }

-- a word is read as itself, and so are a boolean and opaque data that fit
pub word_is : (n : ℕ) → n < 2 ^ 32 → IsRead word_codec (word_codec.items n) (λ m. m ≡ n)
unfolding word_codec
word_is n fits = lawful_read word_codec n word_lawful tt (fits, tt)

pub boolean_is : (b : Bool) → IsRead boolean (boolean.items b) (λ c. c ≡ b)
unfolding boolean
boolean_is b = lawful_read boolean b boolean_lawful tt (tt, tt)

pub opaque_is : (max : ℕ) (bytes : List ℕ) → length bytes ≤ max → length bytes < 2 ^ 32 → IsRead (opaque max) ((opaque max).items bytes) (λ b. b ≡ bytes)
unfolding opaque
opaque_is max bytes within fits = lawful_read (opaque max) bytes (opaque_lawful max) within (fits, tt)

pub enumeration_is : {A : Type 0} (number : A → ℕ) (all : List A) (v : A) → ((x : A) → value_with_number number all (number x) ≡ Some x) → number v < 2 ^ 32 → IsRead (enumeration number all) ((enumeration number all).items v) (λ w. w ≡ v)
unfolding enumeration word_codec
enumeration_is number all v each fits = lawful_read (enumeration number all) v (enumeration_lawful number all each) tt (fits, tt)

-- ---- Composite values

split : (xs ys : List Item) (rest : List ℕ) → encodings (xs ++ ys) ++ rest ≡ encodings xs ++ (encodings ys ++ rest)
split xs ys rest = ap (λ (l : List ℕ). l ++ rest) (encodings_append xs ys) ∙ append_assoc (encodings xs) (encodings ys) rest

pub pair_is : {A B : Type 0} (a : Codec A) (b : Codec B) (xs ys : List Item) (P : A → Type 0) (Q : B → Type 0) → IsRead a xs P → IsRead b ys Q → IsRead (a ⊗ b) (xs ++ ys) (λ (v : A × B). P v.0 × Q v.1)
pair_is {A} {B} a b xs ys P Q of_a of_b = record {
  at = λ place rest.
      let f = of_a.at place (encodings ys ++ rest) in
      let g = of_b.at f.after rest in
      let value : A × B = (f.value, g.value) in record {
        value = value;
        after = g.after;
        is = ap (λ (l : List ℕ). (a ⊗ b).read (standing place l)) (split xs ys rest)
            ∙ ap (λ (r : Result (A × Cursor) ℕ). ◌>>=◌ {A = A × Cursor} {B = (A × B) × Cursor} r (λ x. ◌>>=◌ {A = B × Cursor} {B = (A × B) × Cursor} (b.read x.1) (λ y. Ok ((x.0, y.0), y.1)))) f.is
            ∙ ap (λ (r : Result (B × Cursor) ℕ). ◌>>=◌ {A = B × Cursor} {B = (A × B) × Cursor} r (λ y. Ok ((f.value, y.0), y.1))) g.is;
        holds = (f.holds, g.holds);
      };
}

pub structure_is : {A B : Type 0} (make : A → B) (parts : B → A) (c : Codec A) (xs : List Item) (P : A → Type 0) (Q : B → Type 0) → ((v : A) → P v → Q (make v)) → IsRead c xs P → IsRead (structure make parts c) xs Q
structure_is {A} {B} make parts c xs P Q so of_c = record {
  at = λ place rest.
      let f = of_c.at place rest in
      record { value = make f.value; after = f.after; is = ap (λ (r : Result (A × Cursor) ℕ). ◌>>=◌ {A = A × Cursor} {B = B × Cursor} r (λ x. Ok (make x.0, x.1))) f.is; holds = so f.value f.holds };
}

abbrev pub IsSomeWith : {A : Type 0} → (A → Type 0) → Option A → Type 0
IsSomeWith {A} P o = (w : A) × ((o ≡ Some w) × P w)

pub none_is : {A : Type 0} (c : Codec A) → IsRead (optional c) ((optional c).items None) (λ (o : Option A). o ≡ None)
unfolding optional boolean
none_is {A} c = record {
  at = λ place rest.
      let f = (boolean_is false).at place rest in record {
        value = None;
        after = f.after;
        is = ap (λ (r : Result (Bool × Cursor) ℕ). ◌>>=◌ {A = Bool × Cursor} {B = Option A × Cursor} r (λ t. value_read c t.0 t.1)) f.is
            ∙ ap (λ (b : Bool). value_read c b (standing f.after rest)) f.holds;
        holds = refl;
      };
}

pub some_is : {A : Type 0} (c : Codec A) (v : A) (P : A → Type 0) → IsRead c (c.items v) P → IsRead (optional c) ((optional c).items (Some v)) (IsSomeWith P)
unfolding optional boolean
some_is {A} c v P of_c = record {
  at = λ place rest.
      let f = (boolean_is true).at place (encodings (c.items v) ++ rest) in
      let g = of_c.at f.after rest in record {
        value = Some g.value;
        after = g.after;
        is = ap (λ (l : List ℕ). (optional c).read (standing place l)) (split (Boolean true ∷ []) (c.items v) rest)
            ∙ ap (λ (r : Result (Bool × Cursor) ℕ). ◌>>=◌ {A = Bool × Cursor} {B = Option A × Cursor} r (λ t. value_read c t.0 t.1)) f.is
            ∙ ap (λ (b : Bool). value_read c b (standing f.after (encodings (c.items v) ++ rest))) f.holds
            ∙ ap (λ (r : Result (A × Cursor) ℕ). ◌>>=◌ {A = A × Cursor} {B = Option A × Cursor} r (λ x. Ok (Some x.0, x.1))) g.is;
        holds = (g.value, (refl, g.holds));
      };
}

pub optional_any : {A : Type 0} (c : Codec A) → ((v : A) → IsRead c (c.items v) Any) → (o : Option A) → IsRead (optional c) ((optional c).items o) Any
optional_any {A} c each None = weaker (optional c) ((optional c).items None) (λ (o : Option A). o ≡ None) Any (λ v is. tt) (none_is c)
optional_any {A} c each (Some v) = weaker (optional c) ((optional c).items (Some v)) (IsSomeWith Any) Any (λ w is. tt) (some_is c v Any (each v))

-- ---- Lists

abbrev IsAsLong : {A : Type 0} → List A → List A → Type 0
IsAsLong vs ws = length ws ≡ length vs

list_found : {A : Type 0} (c : Codec A) (P : A → Type 0) (vs : List A) (n : ℕ) → length vs < n → AllByRecursion (λ v. IsRead c (c.items v) P) vs → (place : ℕ) (rest : List ℕ)
    → Found (linked_list_read c n) place (encodings (linked_list_items c vs)) rest (IsAsLong vs)
unfolding linked_list_read
list_found c P vs zero few all place rest = absurd (omega (arith, few))
list_found {A} c P [] (suc n) few all place rest =
    let f = (none_is c).at place rest in
    record {
      value = [];
      after = f.after;
      is = ap (λ (r : Result (Option A × Cursor) ℕ). ◌>>=◌ {A = Option A × Cursor} {B = List A × Cursor} r (λ x. linked_list_rest x.0 x.1 (linked_list_read c n x.1))) f.is
          ∙ ap (λ (o : Option A). linked_list_rest o (standing f.after rest) (linked_list_read c n (standing f.after rest))) f.holds;
      holds = refl;
    }
list_found {A} c P (v ∷ vs) (suc n) few all place rest =
    let behind = encodings (linked_list_items c vs) ++ rest in
    let f = (some_is c v P all.0).at place behind in
    let g = list_found c P vs n (omega (arith, few)) all.1 f.after rest in
    record {
      value = f.holds.0 ∷ g.value;
      after = g.after;
      is = ap (λ (l : List ℕ). linked_list_read c (suc n) (standing place l)) (split ((optional c).items (Some v)) (linked_list_items c vs) rest)
          ∙ ap (λ (r : Result (Option A × Cursor) ℕ). ◌>>=◌ {A = Option A × Cursor} {B = List A × Cursor} r (λ x. linked_list_rest x.0 x.1 (linked_list_read c n x.1))) f.is
          ∙ ap (λ (o : Option A). linked_list_rest o (standing f.after behind) (linked_list_read c n (standing f.after behind))) f.holds.1.0
          ∙ ap (λ (r : Result (List A × Cursor) ℕ). with_first f.holds.0 r) g.is;
      holds = ap suc g.holds;
    }

list_size : {A : Type 0} (c : Codec A) (vs : List A) → length vs < items_size (linked_list_items c vs)
unfolding optional boolean
list_size c [] = omega arith
list_size c (v ∷ vs) = let more = list_size c vs in let all = items_size_append (c.items v) (linked_list_items c vs) in omega (arith, more, all)

pub list_is : {A : Type 0} (c : Codec A) (P : A → Type 0) (vs : List A) → AllByRecursion (λ v. IsRead c (c.items v) P) vs → IsRead (linked_list c) ((linked_list c).items vs) (λ ws. length ws ≡ length vs)
unfolding linked_list
list_is c P vs all = record {
  at = λ place rest.
      let bytes = encodings (linked_list_items c vs) in
      let n = length (bytes ++ rest) in
      let few : length vs < n = omega (arith, list_size c vs, length_encodings (linked_list_items c vs), length-append bytes rest) in
      let f = list_found c P vs n few all place rest in
      record { value = f.value; after = f.after; is = f.is; holds = f.holds };
}

-- ---- Results that begin with a status

abbrev pub UnionIs : {D F S : Type 0} → (D → Type 0) → StatusUnion D F S → Type 0
UnionIs P (Done d) = P d
UnionIs P (Failed s f) = Unit {0}

module _ {D F S : Type 0} (number : S → ℕ) (all : List S) (not_ok : (s : S) → (0 == number s) ≡ false) (each : (s : S) → value_with_number number all (number s) ≡ Some s) (few : (s : S) → number s < 2 ^ 32)
    (done : Codec D) (failed : Codec F) where
  tag_fits : (t : Option S) → status_tag_number number t < 2 ^ 32
  tag_fits None = omega arith
  tag_fits (Some s) = few s

  tag_is : (t : Option S) → IsRead (enumeration (status_tag_number number) (status_tags all)) ((enumeration (status_tag_number number) (status_tags all)).items t) (λ w. w ≡ t)
  tag_is t = enumeration_is (status_tag_number number) (status_tags all) t (each_status_tag number all not_ok each) (tag_fits t)

  pub union_from : (t : Option S) (xs : List Item) (P : StatusUnion D F S → Type 0) → ((place : ℕ) (rest : List ℕ) → Found (status_union_read done failed t) place (encodings xs) rest P)
      → IsRead (status_union_codec number all done failed) ((enumeration (status_tag_number number) (status_tags all)).items t ++ xs) P
  unfolding status_union_codec
  union_from t xs P of_part = record {
    at = λ place rest.
        let f = (tag_is t).at place (encodings xs ++ rest) in
        let g = of_part f.after rest in record {
          value = g.value;
          after = g.after;
          is = ap (λ (l : List ℕ). (status_union_codec number all done failed).read (standing place l)) (split ((enumeration (status_tag_number number) (status_tags all)).items t) xs rest)
              ∙ ap (λ (r : Result (Option S × Cursor) ℕ). ◌>>=◌ {A = Option S × Cursor} {B = StatusUnion D F S × Cursor} r (λ x. status_union_read done failed x.0 x.1)) f.is
              ∙ ap (λ (o : Option S). status_union_read done failed o (standing f.after (encodings xs ++ rest))) f.holds
              ∙ g.is;
          holds = g.holds;
        };
  }

  pub done_is : (d : D) (P : D → Type 0) → IsRead done (done.items d) P → IsRead (status_union_codec number all done failed) ((status_union_codec number all done failed).items (Done d)) (UnionIs P)
  unfolding status_union_codec
  done_is d P of_done =
      union_from None (done.items d) (UnionIs P)
      (λ place rest. let f = of_done.at place rest in record { value = Done f.value; after = f.after; is = ap (λ (r : Result (D × Cursor) ℕ). arm_value {B = StatusUnion D F S} Done r) f.is; holds = f.holds })

  pub failed_is : (s : S) (part : F) (P : D → Type 0) → IsRead failed (failed.items part) Any → IsRead (status_union_codec number all done failed) ((status_union_codec number all done failed).items (Failed s part)) (UnionIs P)
  unfolding status_union_codec
  failed_is s part P of_failed =
      union_from (Some s) (failed.items part) (UnionIs P)
      (λ place rest. let f = of_failed.at place rest in record { value = Failed s f.value; after = f.after; is = ap (λ (r : Result (F × Cursor) ℕ). arm_value {B = StatusUnion D F S} (Failed s) r) f.is; holds = tt })
