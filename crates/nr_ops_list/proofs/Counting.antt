-- The entries of a listing are counted one after the other.
use Rattle.std.proofs.Common.{◌≡◌, ℕ, zero, suc, ◌+◌, ◌-◌, ◌<◌, ◌≤◌, Bool, true, false, cond, leb, ◌&&◌, List, [], ◌∷◌, ◌++◌, length, take, drop, Some, refl, ap, sym, ◌∙◌, subst, arith, inl, inr, ◌⊎◌, append_assoc, append-nil}
use Rattle.std.proofs.lemmas.Bool.{le-leb, lt-leb}
use Rattle.std.proofs.Math.Seq.{take-add}
use Rattle.std.specs.Prelude.{slice_get, map}
use Rattle.nr_tree.specs.Entries.{Entry, NamesAreValid}
use Rattle.nr_tree.specs.Tree.{Tree}
use Rattle.nr_ops_list.specs.Readdir.{longest, total, name_size}
use Rattle.nr_ops_list.specs.private.Sizes.{size_in, within}
use Rattle.nr_ops_list.specs.declared.listings.Limits.{Limits}

-- ===== lists

same_entry : (x y : Entry) → Some x ≡ Some y → x ≡ y
same_entry x y e = cc

pub drop_at : (xs : List Entry) (i : ℕ) (x : Entry) → slice_get xs i ≡ Some x → drop i xs ≡ x ∷ drop (i + 1) xs
drop_at [] i x e = absurd cc
drop_at (y ∷ ys) zero x e = ap (λ (z : Entry). z ∷ ys) (same_entry y x e)
drop_at (y ∷ ys) (suc i) x e = let one : suc (i + 1) ≡ suc i + 1 = omega arith in drop_at ys i x e ∙ ap (λ (k : ℕ). x ∷ drop k (y ∷ ys)) one

drop_none : (m : ℕ) → drop {A = Entry} m [] ≡ []
drop_none zero = refl
drop_none (suc m) = refl

pub drop_drop : (n m : ℕ) (xs : List Entry) → drop m (drop n xs) ≡ drop (n + m) xs
drop_drop zero m xs = let none : m ≡ 0 + m = omega arith in ap (λ (k : ℕ). drop k xs) none
drop_drop (suc n) m [] = drop_none m ∙ sym (drop_none (suc n + m))
drop_drop (suc n) m (x ∷ xs) = let more : suc (n + m) ≡ suc n + m = omega arith in drop_drop n m xs ∙ ap (λ (k : ℕ). drop k (x ∷ xs)) more

past_end : (xs : List Entry) (n : ℕ) → length xs ≤ n → drop n xs ≡ []
past_end [] n le = drop_none n
past_end (x ∷ xs) zero le = absurd (omega (arith, le))
past_end (x ∷ xs) (suc n) le = past_end xs n (omega (arith, le))

pub total_append : (f : Entry → ℕ) (xs ys : List Entry) → total f (xs ++ ys) ≡ total f xs + total f ys
total_append f [] ys = omega arith
total_append f (x ∷ xs) ys = omega (arith, total_append f xs ys)

-- ===== the longest list that passes

pub longest_same : (f g : List Entry → Bool) → ((es : List Entry) → f es ≡ g es) → (taken es : List Entry) → longest f taken es ≡ longest g taken es
longest_same f g same taken es = ap (λ (h : List Entry → Bool). longest h taken es) (λ i. λ (l : List Entry). same l i)

takes : (f : List Entry → Bool) (taken : List Entry) (e : Entry) (es : List Entry) → f (taken ++ e ∷ []) ≡ true → longest f taken (e ∷ es) ≡ longest f (taken ++ e ∷ []) es
takes f taken e es p = ap (λ (b : Bool). cond b (longest f (taken ++ e ∷ []) es) taken) p

stops : (f : List Entry → Bool) (taken : List Entry) (e : Entry) (es : List Entry) → f (taken ++ e ∷ []) ≡ false → longest f taken (e ∷ es) ≡ taken
stops f taken e es p = ap (λ (b : Bool). cond b (longest f (taken ++ e ∷ []) es) taken) p

-- ===== the count so far

module _ (t : Tree) (limits : Limits) (list : List Entry) (place : ℕ) where
  abbrev taken : ℕ → List Entry
  taken count = take count (drop place list)

  pub record IsCounted (entries names count : ℕ) : Type 0 where
    pub bounded : place + count ≤ length list
    pub entries_are : entries ≡ total (size_in t limits.detail) (taken count)
    pub names_are : names ≡ total name_size (taken count)
    pub entries_within : entries ≤ limits.entries
    pub names_within : names ≤ limits.names
    pub rest : longest (within t limits) (taken count) (drop (place + count) list) ≡ longest (within t limits) [] (drop place list)

  pub counting_begins : place ≤ length list → IsCounted 0 0 0
  counting_begins le = record {
    bounded = omega (arith, le);
    entries_are = refl;
    names_are = refl;
    entries_within = omega arith;
    names_within = omega arith;
    rest = let here : place + 0 ≡ place = omega arith in ap (λ (k : ℕ). longest (within t limits) [] (drop k list)) here;
  }

  module _ (entries names count : ℕ) (e : Entry) (is : IsCounted entries names count) (at : slice_get list (place + count) ≡ Some e) where
    next : drop (place + count) list ≡ e ∷ drop (place + count + 1) list
    next = drop_at list (place + count) e at

    one_more : taken (count + 1) ≡ taken count ++ e ∷ []
    one_more = take-add count 1 (drop place list) ∙ ap (λ (l : List Entry). taken count ++ take 1 l) (drop_drop place count list ∙ next)

    entries_next : total (size_in t limits.detail) (taken count ++ e ∷ []) ≡ entries + size_in t limits.detail e
    entries_next = omega (arith, total_append (size_in t limits.detail) (taken count) (e ∷ []), is.entries_are)

    names_next : total name_size (taken count ++ e ∷ []) ≡ names + name_size e
    names_next = omega (arith, total_append name_size (taken count) (e ∷ []), is.names_are)

    fits_by : (b c : Bool) → leb (total (size_in t limits.detail) (taken count ++ e ∷ [])) limits.entries ≡ b → leb (total name_size (taken count ++ e ∷ [])) limits.names ≡ c
        → within t limits (taken count ++ e ∷ []) ≡ (b && c)
    fits_by b c p q = λ i. p i && q i

    pub counted_more : entries + size_in t limits.detail e ≤ limits.entries → names + name_size e ≤ limits.names → place + count < length list
        → IsCounted (entries + size_in t limits.detail e) (names + name_size e) (count + 1)
    counted_more le_entries le_names lt = record {
      bounded = omega (arith, lt);
      entries_are = sym (ap (total (size_in t limits.detail)) one_more ∙ entries_next);
      names_are = sym (ap (total name_size) one_more ∙ names_next);
      entries_within = le_entries;
      names_within = le_names;
      rest =
          let place_next : place + (count + 1) ≡ place + count + 1 = omega arith in
          let fit : within t limits (taken count ++ e ∷ []) ≡ true = fits_by true true (le-leb _ _ (omega (arith, entries_next, le_entries))) (le-leb _ _ (omega (arith, names_next, le_names))) in
          ap (λ (l : List Entry). longest (within t limits) l (drop (place + (count + 1)) list)) one_more
          ∙ ap (λ (k : ℕ). longest (within t limits) (taken count ++ e ∷ []) (drop k list)) place_next
          ∙ sym (takes (within t limits) (taken count) e (drop (place + count + 1) list) fit)
          ∙ ap (longest (within t limits) (taken count)) (sym next)
          ∙ is.rest;
    }

    no_fit : (limits.entries < entries + size_in t limits.detail e) ⊎ (limits.names < names + name_size e) → within t limits (taken count ++ e ∷ []) ≡ false
    no_fit (inl lt) = λ i. lt-leb (total (size_in t limits.detail) (taken count ++ e ∷ [])) limits.entries (omega (arith, entries_next, lt)) i && leb (total name_size (taken count ++ e ∷ [])) limits.names
    no_fit (inr lt) = by (leb (total (size_in t limits.detail) (taken count ++ e ∷ [])) limits.entries) (lt-leb (total name_size (taken count ++ e ∷ [])) limits.names (omega (arith, names_next, lt))) where
      by : (b : Bool) → leb (total name_size (taken count ++ e ∷ [])) limits.names ≡ false → (b && leb (total name_size (taken count ++ e ∷ [])) limits.names) ≡ false
      by true p = p
      by false p = refl

    pub counted_stops : (limits.entries < entries + size_in t limits.detail e) ⊎ (limits.names < names + name_size e) → taken count ≡ longest (within t limits) [] (drop place list)
    counted_stops over = sym (stops (within t limits) (taken count) e (drop (place + count + 1) list) (no_fit over)) ∙ ap (longest (within t limits) (taken count)) (sym next) ∙ is.rest

  pub counted_ends : (entries names count : ℕ) → IsCounted entries names count → length list ≤ place + count → taken count ≡ longest (within t limits) [] (drop place list)
  counted_ends entries names count is le = ap (longest (within t limits) (taken count)) (sym (past_end list (place + count) le)) ∙ is.rest

  -- the same by the sizes that the code found
  pub is_counted : (entries names count : ℕ) (e : Entry) (size name : ℕ) → size_in t limits.detail e ≡ size → name_size e ≡ name → IsCounted entries names count → slice_get list (place + count) ≡ Some e
      → entries + size ≤ limits.entries → names + name ≤ limits.names → place + count < length list → IsCounted (entries + size) (names + name) (count + 1)
  is_counted entries names count e size name same_size same_name is at le_entries le_names lt =
      subst (λ (s : ℕ). IsCounted (entries + s) (names + name) (count + 1)) same_size
      (subst (λ (n : ℕ). IsCounted (entries + size_in t limits.detail e) (names + n) (count + 1)) same_name
      (counted_more entries names count e is at (omega (arith, same_size, le_entries)) (omega (arith, same_name, le_names)) lt))

-- ===== the entries as they are sent

pub names_from : (list : List Entry) (place : ℕ) → NamesAreValid list → NamesAreValid (drop place list)
names_from [] zero valid = valid
names_from [] (suc n) valid = valid
names_from (e ∷ es) zero valid = valid
names_from (e ∷ es) (suc n) valid = names_from es n valid.3

module _ {A : Type 0} (said : Entry → A) where
  -- what is said of the first entries that are left is to come after these
  pub record AreLeft (all so_far : List A) (n : ℕ) (left : List Entry) : Type 0 where
    pub some : n ≤ length left
    pub names : NamesAreValid left
    pub rest : so_far ++ map said (take n left) ≡ all

  pub left_begin : (count : ℕ) (left : List Entry) (none : List A) → none ≡ [] → count ≤ length left → NamesAreValid left → AreLeft (map said (take count left)) none (count - 0) left
  left_begin count left none is some names =
      let whole : count - 0 ≡ count = omega arith in
      record { some = omega (arith, some); names = names; rest = (λ i. is i ++ map said (take (whole i) left)) }

  module _ (all so_far : List A) (count i : ℕ) (e : Entry) (left new : List Entry) (lt : i < count) (is : left ≡ e ∷ new) (h : AreLeft all so_far (count - i) left) where
    one_less : count - i ≡ suc (count - (i + 1))
    one_less = omega (arith, lt)

    all_names : NamesAreValid (e ∷ new)
    all_names = subst NamesAreValid is h.names

    pub left_short : length e.name < 4294967296
    left_short = omega (arith, all_names.1)

    pub left_next : (more : List A) → more ≡ so_far ++ said e ∷ [] → AreLeft all more (count - (i + 1)) new
    left_next more pushed =
        let some : count - i ≤ length (e ∷ new) = subst (λ (l : List Entry). count - i ≤ length l) is h.some in
        record {
          some = omega (arith, some, one_less);
          names = all_names.3;
          rest =
              ap (λ (l : List A). l ++ map said (take (count - (i + 1)) new)) pushed
              ∙ append_assoc so_far (said e ∷ []) (map said (take (count - (i + 1)) new))
              ∙ sym (λ j. so_far ++ map said (take (one_less j) (is j)))
              ∙ h.rest;
        }

  pub left_end : (all so_far : List A) (count i : ℕ) (left : List Entry) → count ≤ i → AreLeft all so_far (count - i) left → so_far ≡ all
  left_end all so_far count i left le h =
      let none : count - i ≡ 0 = omega (arith, le) in
      sym (append-nil so_far) ∙ sym (ap (λ (n : ℕ). so_far ++ map said (take n left)) none) ∙ h.rest
