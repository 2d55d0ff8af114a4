-- Values that are written one after the other.
use Rattle.std.proofs.Common.{refl, ◌≡◌, ℕ, true, false, ◌+◌, ◌≤◌, ◌<◌, length, drop, get_or, subst, Option, Some, None, Result, Ok, Err, List, [], ◌∷◌, ◌++◌, sym, ap, ◌∙◌, arith}
use Rattle.std.specs.Result.{IsErr}
use Rattle.std.specs.List.{flat_map, AllByRecursion}
use Rattle.std.proofs.lemmas.List.{append-nil, drop_more, drop_all}
use Rattle.nr_xdr.specs.Item.{Item, Fits, encoding}
use Rattle.nr_xdr.specs.Items.{AllFit, encodings}
use Rattle.nr_xdr.specs.Room.{Room, Appended}
use Rattle.nr_xdr.specs.declared.fault.Memory.{Memory}
use Rattle.nr_xdr.proofs.Rooms.{encodings_append, size_append, appended_nothing, appended_both}
use Rattle.nr_nfs_base.specs.Codec.{Codec, AppendsItems, AppendsValue, WritesItems, WritesValue, word, boolean, optional, linked_list, array}

pub appends_one : (old new : Room) (item : Item) (P : Type 0) → Fits item → P → Appended old new (encoding item) → AppendsItems old new (item ∷ []) P
appends_one old new item P fits p a = record { appended = subst (Appended old new) (sym (append-nil (encoding item))) a; items_fit = (fits, tt); fits = p }

pub lacks_one : (n : ℕ) (item : Item) → n < length (encoding item) → n < length (encodings (item ∷ []))
lacks_one n item lt = subst (λ (b : List ℕ). n < length b) (sym (append-nil (encoding item))) lt

appends_nothing : (old : Room) → AppendsItems old old [] (Unit {0})
appends_nothing old = record { appended = appended_nothing old; items_fit = tt; fits = tt }

all_fit : (xs ys : List Item) → AllFit xs → AllFit ys → AllFit (xs ++ ys)
all_fit [] ys p q = q
all_fit (x ∷ xs) ys p q = (p.0, all_fit xs ys p.1 q)

appends_both : {a b c : Room} {xs ys : List Item} {P Q : Type 0} → AppendsItems a b xs P → AppendsItems b c ys Q → AppendsItems a c (xs ++ ys) (P × Q)
appends_both {a} {b} {c} {xs} {ys} p q = record {
  appended = subst (Appended a c) (sym (encodings_append xs ys)) (appended_both p.appended q.appended);
  items_fit = all_fit xs ys p.items_fit q.items_fit;
  fits = (p.fits, q.fits);
}

-- no room for the first items is none for all
pub lacks_more : (n : ℕ) (xs ys : List Item) → n < length (encodings xs) → n < length (encodings (xs ++ ys))
lacks_more n xs ys lt = omega (arith, lt, size_append xs ys)

-- nor is there, if there is none for the second after the first were written
lacks_then : (a b : Room) (xs ys : List Item) → Appended a b (encodings xs) → b.left < length (encodings ys) → a.left < length (encodings (xs ++ ys))
lacks_then a b xs ys p lt = omega (arith, lt, p.room, size_append xs ys)

-- a second value that is written after the first
pub writes_then : {a b : Room} {xs : List Item} {P : Type 0} (r : Result Room Memory) (ys : List Item) (Q : Type 0) → AppendsItems a b xs P → WritesItems b ys Q r → WritesItems a (xs ++ ys) (P × Q) r
writes_then (Ok c) ys Q p q = appends_both p q
writes_then {a} {b} {xs} (Err e) ys Q p lt = lacks_then a b xs ys p.appended lt

-- a write that was refused
pub refused : (old : Room) (items : List Item) (P : Type 0) (r : Result Room Memory) → IsErr r → old.left < length (encodings items) → WritesItems old items P r
refused old items P (Ok new) is lt = absurd cc
refused old items P (Err e) is lt = lt

pub refused_value : {A : Type 0} (c : Codec A) (old : Room) (v : A) (r : Result Room Memory) → IsErr r → old.left < length (encodings (c.items v)) → WritesValue c old v r
refused_value c old v r is lt = refused old (c.items v) (c.fits v) r is lt

-- ---- Optional data

pub writes_none : {A : Type 0} (c : Codec A) (o : Option A) (old : Room) (r : Result Room Memory) → o ≡ None → WritesValue boolean old false r → WritesValue (optional c) old o r
unfolding optional
writes_none c o old (Ok new) is w =
    let none : AppendsValue (optional c) old None new = appends_both w (appends_nothing new) in
    rw is none
writes_none c o old (Err e) is w =
    let none : old.left < length (encodings ((optional c).items None)) = lacks_more old.left (boolean.items false) [] w in
    rw is none

pub writes_some : {A : Type 0} (c : Codec A) (o : Option A) (v : A) (old mid : Room) (r : Result Room Memory) → o ≡ Some v → AppendsValue boolean old true mid → WritesValue c mid v r → WritesValue (optional c) old o r
unfolding optional
writes_some c o v old mid r is flag w =
    let some : WritesValue (optional c) old (Some v) r = writes_then r (c.items v) (c.fits v) flag w in
    rw is some

pub lacks_flag : {A : Type 0} (c : Codec A) (o : Option A) (v : A) (old : Room) → o ≡ Some v → old.left < length (encodings (boolean.items true)) → old.left < length (encodings ((optional c).items o))
unfolding optional
lacks_flag c o v old is lt =
    let some : old.left < length (encodings ((optional c).items (Some v))) = lacks_more old.left (boolean.items true) (c.items v) lt in
    rw is some

-- ---- Lists

-- What is left of a list is to be written after mid: so all of it is written after old, or there is no room for it.
pub record GoesOn {A : Type 0} (items : List A → List Item) (fits : List A → Type 0) (old : Room) (all : List A) (mid : Room) (others : List A) : Type 0 where
  pub written : (new : Room) → AppendsItems mid new (items others) (fits others) → AppendsItems old new (items all) (fits all)
  pub lacking : mid.left < length (encodings (items others)) → old.left < length (encodings (items all))

-- nothing is written so far
begins : {A : Type 0} (items : List A → List Item) (fits : List A → Type 0) (old : Room) (all : List A) → GoesOn items fits old all old all
begins items fits old all = record { written = λ new w. w; lacking = λ lt. lt }

module _ {A : Type 0} (items : List A → List Item) (fits : List A → Type 0) (old : Room) (all : List A) (v : A) (others : List A) (first : List Item) (P : Type 0) (parts : items (v ∷ others) ≡ first ++ items others) (fit : P × fits others → fits (v ∷ others)) where
  after_first : (mid new : Room) → AppendsItems mid new (first ++ items others) (P × fits others) → AppendsItems mid new (items (v ∷ others)) (fits (v ∷ others))
  after_first mid new w = record {
    appended = subst (λ (is : List Item). Appended mid new (encodings is)) (sym parts) w.appended;
    items_fit = subst AllFit (sym parts) w.items_fit;
    fits = fit w.fits;
  }

  goes_on : (mid after : Room) → AppendsItems mid after first P → GoesOn items fits old all mid (v ∷ others) → GoesOn items fits old all after others
  goes_on mid after w so_far = record {
    written = λ new more. so_far.written new (after_first mid new (appends_both w more));
    lacking = λ lt. so_far.lacking (subst (λ (is : List Item). mid.left < length (encodings is)) (sym parts) (lacks_then mid after first (items others) w.appended lt));
  }

  stops : (mid : Room) → mid.left < length (encodings first) → GoesOn items fits old all mid (v ∷ others) → old.left < length (encodings (items all))
  stops mid lt so_far = so_far.lacking (subst (λ (is : List Item). mid.left < length (encodings is)) (sym parts) (lacks_more mid.left first (items others) lt))

-- the element at a place, and the others after it
at_place : {A : Type 0} (vs : List A) (i : ℕ) (v : A) → i < length vs → v ≡ get_or vs i v → drop i vs ≡ v ∷ drop (i + 1) vs
at_place {A} vs i v lt is = drop_more vs i v lt ∙ ap (λ (w : A). w ∷ drop (i + 1) vs) (sym is)

-- ---- Linked lists

abbrev pub LinkedListGoesOn : {A : Type 0} → Codec A → Room → List A → ℕ → Room → Type 0
LinkedListGoesOn c old vs i mid = GoesOn (linked_list c).items (linked_list c).fits old vs mid (drop i vs)

pub linked_list_begins : {A : Type 0} (c : Codec A) (old : Room) (vs : List A) → LinkedListGoesOn c old vs 0 old
linked_list_begins c old vs = begins (linked_list c).items (linked_list c).fits old vs

module _ {A : Type 0} (c : Codec A) (vs : List A) (i : ℕ) (v : A) (old mid : Room) (lt : i < length vs) (is : v ≡ get_or vs i v) (so_far : LinkedListGoesOn c old vs i mid) where
  abbrev items : List A → List Item
  items = (linked_list c).items

  abbrev fits : List A → Type 0
  fits = (linked_list c).fits

  abbrev flagged : List Item
  flagged = boolean.items true ++ c.items v

  now : GoesOn items fits old vs mid (v ∷ drop (i + 1) vs)
  now = subst (GoesOn items fits old vs mid) (at_place vs i v lt is) so_far

  linked_parts : (others : List A) → items (v ∷ others) ≡ flagged ++ items others
  unfolding linked_list optional
  linked_parts others = refl

  linked_fit : (others : List A) → (boolean.fits true × c.fits v) × fits others → fits (v ∷ others)
  unfolding linked_list optional
  linked_fit others p = p

  pub linked_list_more : (flag after : Room) → AppendsValue boolean mid true flag → AppendsValue c flag v after → LinkedListGoesOn c old vs (i + 1) after
  linked_list_more flag after there value =
      goes_on items fits old vs v (drop (i + 1) vs) flagged (boolean.fits true × c.fits v) (linked_parts (drop (i + 1) vs)) (linked_fit (drop (i + 1) vs)) mid after (appends_both there value) now

  linked_list_stops : mid.left < length (encodings flagged) → old.left < length (encodings (items vs))
  linked_list_stops less =
      stops items fits old vs v (drop (i + 1) vs) flagged (boolean.fits true × c.fits v) (linked_parts (drop (i + 1) vs)) (linked_fit (drop (i + 1) vs)) mid less now

  pub no_flag : mid.left < length (encodings (boolean.items true)) → old.left < length (encodings (items vs))
  no_flag less = linked_list_stops (lacks_more mid.left (boolean.items true) (c.items v) less)

  pub no_value : (flag : Room) → AppendsValue boolean mid true flag → flag.left < length (encodings (c.items v)) → old.left < length (encodings (items vs))
  no_value flag there less = linked_list_stops (lacks_then mid flag (boolean.items true) (c.items v) there.appended less)

pub linked_list_done : {A : Type 0} (c : Codec A) (vs : List A) (i : ℕ) (old mid : Room) (r : Result Room Memory) → length vs ≤ i → LinkedListGoesOn c old vs i mid → WritesValue boolean mid false r → WritesValue (linked_list c) old vs r
unfolding linked_list optional
linked_list_done {A} c vs i old mid (Ok new) le so_far end =
    (subst (GoesOn (linked_list c).items (linked_list c).fits old vs mid) (drop_all i vs le) so_far).written new (appends_both end (appends_nothing new))
linked_list_done {A} c vs i old mid (Err e) le so_far end =
    (subst (GoesOn (linked_list c).items (linked_list c).fits old vs mid) (drop_all i vs le) so_far).lacking (lacks_more mid.left (boolean.items false) [] end)

-- ---- Arrays

abbrev pub ArrayGoesOn : {A : Type 0} → Codec A → Room → List A → ℕ → Room → Type 0
ArrayGoesOn c old vs i mid = GoesOn (flat_map c.items) (AllByRecursion c.fits) old vs mid (drop i vs)

pub array_begins : {A : Type 0} (c : Codec A) (old : Room) (vs : List A) → ArrayGoesOn c old vs 0 old
array_begins c old vs = begins (flat_map c.items) (AllByRecursion c.fits) old vs

module _ {A : Type 0} (c : Codec A) (vs : List A) (i : ℕ) (v : A) (old mid : Room) (lt : i < length vs) (is : v ≡ get_or vs i v) (so_far : ArrayGoesOn c old vs i mid) where
  each_now : GoesOn (flat_map c.items) (AllByRecursion c.fits) old vs mid (v ∷ drop (i + 1) vs)
  each_now = subst (GoesOn (flat_map c.items) (AllByRecursion c.fits) old vs mid) (at_place vs i v lt is) so_far

  pub array_more : (after : Room) → AppendsValue c mid v after → ArrayGoesOn c old vs (i + 1) after
  array_more after value =
      goes_on (flat_map c.items) (AllByRecursion c.fits) old vs v (drop (i + 1) vs) (c.items v) (c.fits v) refl (λ p. p) mid after value each_now

  pub array_stops : mid.left < length (encodings (c.items v)) → old.left < length (encodings (flat_map c.items vs))
  array_stops less =
      stops (flat_map c.items) (AllByRecursion c.fits) old vs v (drop (i + 1) vs) (c.items v) (c.fits v) refl (λ p. p) mid less each_now

pub array_done : {A : Type 0} (c : Codec A) (vs : List A) (i : ℕ) (old new : Room) → length vs ≤ i → ArrayGoesOn c old vs i new → AppendsItems old new (flat_map c.items vs) (AllByRecursion c.fits vs)
array_done {A} c vs i old new le so_far =
    (subst (GoesOn (flat_map c.items) (AllByRecursion c.fits) old vs new) (drop_all i vs le) so_far).written new (appends_nothing new)

module _ {A : Type 0} (c : Codec A) (vs xs : List A) (count : ℕ) (old : Room) (same : xs ≡ vs) (counted : count ≡ length xs) where
  pub array_writes : (mid : Room) (r : Result Room Memory) → AppendsValue word old count mid → WritesItems mid (flat_map c.items xs) (AllByRecursion c.fits xs) r → WritesValue (array c) old vs r
  unfolding array
  array_writes mid r head each =
      let all : WritesValue (array c) old xs r = writes_then r (flat_map c.items xs) (AllByRecursion c.fits xs) (subst (λ (k : ℕ). AppendsValue word old k mid) counted head) each in
      subst (λ (ws : List A). WritesValue (array c) old ws r) same all

  pub no_count : old.left < length (encodings (word.items count)) → old.left < length (encodings ((array c).items vs))
  unfolding array
  no_count less =
      let all : old.left < length (encodings ((array c).items xs)) = lacks_more old.left (word.items (length xs)) (flat_map c.items xs) (subst (λ (k : ℕ). old.left < length (encodings (word.items k))) counted less) in
      subst (λ (ws : List A). old.left < length (encodings ((array c).items ws))) same all
