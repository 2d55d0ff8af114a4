-- Entries of a gateway's history, as marks of a run with both sides of the remote link.
use Rattle.std.proofs.Common.{◌≡◌, ℕ, zero, suc, ◌≤◌, Bool, true, false, List, [], ◌∷◌, ◌++◌, length, refl, sym, ap, ◌∙◌, append_assoc, arith}
use Rattle.std.specs.Prelude.{cond}
use Rattle.std.specs.List.{filter, flat_map}
use Rattle.std.proofs.lemmas.Grind.{flat_map-append}
use mathlib.Core.Option.{some, some-injective, some-ne-none}
use lib.ListN.{get_elem?}
use Rattle.nr_reduce.specs.declared.mark.Mark.{Mark}
use Rattle.nr_shared.specs.declared.entry.Entry.{Entry}
use Rattle.nr_shared.specs.OneLink.{mark_at, run_of}
use Rattle.nr_laws.proofs.Basics.{first_is_lem, rest_is_lem}

-- an entry stands between those before it and those after it
pub record Between {A : Type 0} (xs : List A) (k : ℕ) (x : A) : Type 0 where
  pub front : List A
  pub back : List A
  pub is : xs ≡ front ++ x ∷ back
  pub count : length front ≡ k

pub between : {A : Type 0} (xs : List A) (k : ℕ) (x : A) → get_elem? xs k ≡ some x → Between xs k x
between [] k x at = absurd (some-ne-none x (sym at))
between (y ∷ xs) zero x at = record { front = []; back = xs; is = (let same = some-injective y x at in (λ i. same i ∷ xs)); count = refl }
between (y ∷ xs) (suc k) x at =
    let b = between xs k x at in
    record { front = y ∷ b.front; back = b.back; is = (λ i. y ∷ b.is i); count = ap suc b.count }

-- of two beginnings of a list the shorter one is a beginning of the longer one
pub shorter_begins : {A : Type 0} (xs ys more rest : List A) → xs ++ more ≡ ys ++ rest → length xs ≤ length ys → (mid : List A) × (ys ≡ xs ++ mid)
shorter_begins [] ys more rest e le = (ys, refl)
shorter_begins (x ∷ xs) [] more rest e le = absurd (omega (arith, le))
shorter_begins (x ∷ xs) (y ∷ ys) more rest e le =
    let (mid, is) = shorter_begins xs ys more rest (rest_is_lem x y (xs ++ more) (ys ++ rest) e) (omega (arith, le)) in
    let same : y ≡ x = sym (first_is_lem x y (xs ++ more) (ys ++ rest) e) in
    (mid, (λ i. same i ∷ is i))

-- a mark that a filter keeps stands in the list too
pub record Kept (p : Mark → Bool) (xs ys : List Mark) (m : Mark) (zs : List Mark) : Type 0 where
  pub front : List Mark
  pub back : List Mark
  pub is : xs ≡ front ++ m ∷ back
  pub front_is : filter p front ≡ ys

kept_more : (p : Mark → Bool) (x : Mark) (xs ys : List Mark) (m : Mark) (zs : List Mark) → p x ≡ false → Kept p xs ys m zs → Kept p (x ∷ xs) ys m zs
kept_more p x xs ys m zs drops k = record {
  front = x ∷ k.front;
  back = k.back;
  is = (λ i. x ∷ k.is i);
  front_is = ap (λ (b : Bool). cond b (x ∷ filter p k.front) (filter p k.front)) drops ∙ k.front_is;
}

pub kept : (p : Mark → Bool) (xs ys : List Mark) (m : Mark) (zs : List Mark) → filter p xs ≡ ys ++ m ∷ zs → Kept p xs ys m zs
kept p [] [] m zs e = absurd (omega (arith, ap length e))
kept p [] (y ∷ ys) m zs e = absurd (omega (arith, ap length e))
kept p (x ∷ xs) ys m zs e = by (p x) refl (λ (ws : List Mark). kept p xs ws m zs) e where
  by : (b : Bool) → p x ≡ b → ((ws : List Mark) → filter p xs ≡ ws ++ m ∷ zs → Kept p xs ws m zs) → cond b (x ∷ filter p xs) (filter p xs) ≡ ys ++ m ∷ zs → Kept p (x ∷ xs) ys m zs
  by false drops goes is = kept_more p x xs ys m zs drops (goes ys is)
  by true keeps_it goes is = at ys goes is where
    at : (ws : List Mark) → ((vs : List Mark) → filter p xs ≡ vs ++ m ∷ zs → Kept p xs vs m zs) → x ∷ filter p xs ≡ ws ++ m ∷ zs → Kept p (x ∷ xs) ws m zs
    at [] goes is = record { front = []; back = xs; is = (let same = first_is_lem x m (filter p xs) zs is in (λ i. same i ∷ xs)); front_is = refl }
    at (w ∷ ws) goes is =
        let k = goes ws (rest_is_lem x w (filter p xs) (ws ++ m ∷ zs) is) in
        let same : x ≡ w = first_is_lem x w (filter p xs) (ws ++ m ∷ zs) is in
        record {
          front = x ∷ k.front;
          back = k.back;
          is = (λ i. x ∷ k.is i);
          front_is = ap (λ (b : Bool). cond b (x ∷ filter p k.front) (filter p k.front)) keeps_it ∙ (λ i. same i ∷ k.front_is i);
        }

-- the mark of an entry stands in the run of a history
pub run_at : (before : List Mark) (n link : ℕ) (history front back : List Entry) (e : Entry) (m : Mark) → history ≡ front ++ e ∷ back → mark_at n link e ≡ m ∷ []
    → run_of before n link history ≡ run_of before n link front ++ m ∷ flat_map (mark_at n link) back
unfolding run_of
run_at before n link history front back e m is one =
    let f : Entry → List Mark = mark_at n link in
    ap (λ (h : List Entry). before ++ flat_map f h) is
    ∙ ap (λ (l : List Mark). before ++ l) (flat_map-append f front (e ∷ back) ∙ ap (λ (l : List Mark). flat_map f front ++ (l ++ flat_map f back)) one)
    ∙ sym (append_assoc before (flat_map f front) (m ∷ flat_map f back))
