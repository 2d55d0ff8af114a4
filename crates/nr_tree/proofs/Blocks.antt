-- Blocks, and the list that they make up.
use Rattle.std.proofs.Common.{◌≡◌, ℕ, zero, suc, ◌+◌, ◌-◌, ◌<◌, ◌≤◌, List, [], ◌∷◌, ◌++◌, length, drop, get_or, set, remove, refl, ap, sym, ◌∙◌, subst, arith, length-append}
use Rattle.std.proofs.Math.Seq.{drop-cons, drop-append-add}
use Rattle.std.proofs.lemmas.List.{drop-append-le, get_or_append_left, get_or-append_right, set-append_left, set-append_right, append-nil, append_assoc}
use Rattle.std.proofs.lemmas.List.Edits.{remove-append_left, remove-append_right}
use Rattle.std.proofs.lemmas.List.Folds.{concat-append}
use Rattle.std.specs.List.{concat}
use Rattle.nr_tree.specs.private.Blocks.{IsIn}

-- ===== the search for a place

-- the place lies in the blocks from this one on, at this offset
pub record IsSearched (bs : List (List ℕ)) (place block offset : ℕ) : Type 0 where
  pub within : offset < length (concat (drop block bs))
  pub goes : (b o : ℕ) → IsIn (drop block bs) b o offset → IsIn bs (block + b) o place

pub search_begins : (bs : List (List ℕ)) (place : ℕ) → place < length (concat bs) → IsSearched bs place 0 place
search_begins bs place lt = record {
  within = lt;
  goes = λ b o h. let none : b ≡ 0 + b = omega arith in subst (λ (n : ℕ). IsIn bs n o place) none h;
}

some_block : (bs : List (List ℕ)) (i : ℕ) → 0 < length (concat (drop i bs)) → i < length bs
some_block [] zero lt = lt
some_block [] (suc i) lt = absurd (omega (arith, lt))
some_block (b ∷ bs) zero lt = omega arith
some_block (b ∷ bs) (suc i) lt = omega (arith, some_block bs i lt)

pub searched_within : (bs : List (List ℕ)) (place block offset : ℕ) → IsSearched bs place block offset → block < length bs
searched_within bs place block offset h = some_block bs block (omega (arith, h.within))

cut_at : (bs : List (List ℕ)) (i : ℕ) (b : List ℕ) → i < length bs → get_or bs i [] ≡ b → drop i bs ≡ b ∷ drop (suc i) bs
cut_at bs i b lt at = drop-cons bs i [] lt ∙ ap (λ (x : List ℕ). x ∷ drop (suc i) bs) at

pub search_goes_on : (bs : List (List ℕ)) (place block offset : ℕ) (b : List ℕ) → get_or bs block [] ≡ b → length b ≤ offset → IsSearched bs place block offset
    → IsSearched bs place (block + 1) (offset - length b)
search_goes_on bs place block offset b at le h =
    let lt : block < length bs = searched_within bs place block offset h in
    let cut : drop block bs ≡ b ∷ drop (suc block) bs = cut_at bs block b lt at in
    let count : length (concat (drop block bs)) ≡ length b + length (concat (drop (suc block) bs)) = ap (λ (l : List (List ℕ)). length (concat l)) cut ∙ length-append b (concat (drop (suc block) bs)) in
    let one : suc block ≡ block + 1 = omega arith in
    subst (λ (n : ℕ). IsSearched bs place n (offset - length b)) one (record {
      within = omega (arith, h.within, count, le);
      goes = λ n o k.
          let next : block + suc n ≡ suc block + n = omega arith in
          subst (λ (m : ℕ). IsIn bs m o place) next (h.goes (suc n) o (subst (λ (l : List (List ℕ)). IsIn l (suc n) o offset) (sym cut) (le, k)));
    })

pub search_ends : (bs : List (List ℕ)) (place block offset : ℕ) (b : List ℕ) → get_or bs block [] ≡ b → offset < length b → IsSearched bs place block offset → IsIn bs block offset place
search_ends bs place block offset b at less h =
    let lt : block < length bs = searched_within bs place block offset h in
    let cut : drop block bs ≡ b ∷ drop (suc block) bs = cut_at bs block b lt at in
    let none : block + 0 ≡ block = omega arith in
    subst (λ (m : ℕ). IsIn bs m offset place) none (h.goes 0 offset (subst (λ (l : List (List ℕ)). IsIn l 0 offset offset) (sym cut) (refl, less)))

-- ===== what lies at a place

pub in_block : (bs : List (List ℕ)) (block offset place : ℕ) → IsIn bs block offset place → block < length bs
in_block [] block offset place h = absurd h
in_block (b ∷ bs) zero offset place h = omega arith
in_block (b ∷ bs) (suc block) offset place h = omega (arith, in_block bs block offset (place - length b) h.1)

pub in_offset : (bs : List (List ℕ)) (block offset place : ℕ) → IsIn bs block offset place → offset < length (get_or bs block [])
in_offset [] block offset place h = absurd h
in_offset (b ∷ bs) zero offset place h = h.1
in_offset (b ∷ bs) (suc block) offset place h = in_offset bs block offset (place - length b) h.1

pub get_in : (bs : List (List ℕ)) (block offset place : ℕ) → IsIn bs block offset place → get_or (get_or bs block []) offset 0 ≡ get_or (concat bs) place 0
get_in [] block offset place h = absurd h
get_in (b ∷ bs) zero offset place h = sym (get_or_append_left b (concat bs) 0 offset h.1) ∙ ap (λ (n : ℕ). get_or (b ++ concat bs) n 0) h.0
get_in (b ∷ bs) (suc block) offset place h = get_in bs block offset (place - length b) h.1 ∙ sym (get_or-append_right b (concat bs) (length b) place 0 refl h.0)

pub set_in : (bs : List (List ℕ)) (block offset place : ℕ) (x : ℕ) → IsIn bs block offset place
    → concat (set bs block (set (get_or bs block []) offset x)) ≡ set (concat bs) place x
set_in [] block offset place x h = absurd h
set_in (b ∷ bs) zero offset place x h = sym (set-append_left b (concat bs) offset x h.1) ∙ ap (λ (n : ℕ). set (b ++ concat bs) n x) h.0
set_in (b ∷ bs) (suc block) offset place x h =
    ap (λ (l : List ℕ). b ++ l) (set_in bs block offset (place - length b) x h.1) ∙ sym (set-append_right b (concat bs) (length b) place x refl h.0)

pub remove_in : (bs : List (List ℕ)) (block offset place : ℕ) → IsIn bs block offset place
    → concat (set bs block (remove (get_or bs block []) offset)) ≡ remove (concat bs) place
remove_in [] block offset place h = absurd h
remove_in (b ∷ bs) zero offset place h = sym (remove-append_left b (concat bs) offset h.1) ∙ ap (λ (n : ℕ). remove (b ++ concat bs) n) h.0
remove_in (b ∷ bs) (suc block) offset place h =
    ap (λ (l : List ℕ). b ++ l) (remove_in bs block offset (place - length b) h.1) ∙ sym (remove-append_right b (concat bs) (length b) place refl h.0)

-- ===== blocks that come and go

no_elements : (b : List ℕ) → length b ≡ 0 → b ≡ []
no_elements [] none = refl
no_elements (x ∷ b) none = absurd (omega (arith, none))

-- a block without elements goes
pub drop_empty : (bs : List (List ℕ)) (i : ℕ) → i < length bs → length (get_or bs i []) ≡ 0 → concat (remove bs i) ≡ concat bs
drop_empty [] i lt none = absurd (omega (arith, lt))
drop_empty (b ∷ bs) zero lt none = ap (λ (l : List ℕ). l ++ concat bs) (sym (no_elements b none))
drop_empty (b ∷ bs) (suc i) lt none = ap (λ (l : List ℕ). b ++ l) (drop_empty bs i (omega (arith, lt)) none)

pub push_block : (bs : List (List ℕ)) (x : ℕ) → concat (bs ++ (x ∷ []) ∷ []) ≡ concat bs ++ x ∷ []
push_block bs x = concat-append bs ((x ∷ []) ∷ [])

-- the last block gets one element more
pub push_last : (bs : List (List ℕ)) (i x : ℕ) → i + 1 ≡ length bs → concat (set bs i (get_or bs i [] ++ x ∷ [])) ≡ concat bs ++ x ∷ []
push_last [] i x last = absurd (omega (arith, last))
push_last (b ∷ []) zero x last = append-nil (b ++ x ∷ []) ∙ ap (λ (l : List ℕ). l ++ x ∷ []) (sym (append-nil b))
push_last (b ∷ c ∷ bs) zero x last = absurd (omega (arith, last))
push_last (b ∷ bs) (suc i) x last = ap (λ (l : List ℕ). b ++ l) (push_last bs i x (omega (arith, last))) ∙ sym (append_assoc b (concat bs) (x ∷ []))

-- ===== an element that goes last

shift_at : (xs : List ℕ) (i : ℕ) → suc i < length xs → remove (set xs i (get_or xs (suc i) 0)) (suc i) ≡ remove xs i
shift_at [] i lt = absurd (omega (arith, lt))
shift_at (x ∷ []) zero lt = absurd (omega (arith, lt))
shift_at (x ∷ y ∷ xs) zero lt = refl
shift_at (x ∷ xs) (suc i) lt = ap (λ (l : List ℕ). x ∷ l) (shift_at xs i (omega (arith, lt)))

-- the element after a place moves to the place
pub shift_down : (xs ys : List ℕ) (i next : ℕ) → i + 1 < length xs → next ≡ get_or xs (i + 1) 0 → ys ≡ set xs i next → remove ys (i + 1) ≡ remove xs i
shift_down xs ys i next lt is set_is =
    let one : suc i ≡ i + 1 = omega arith in
    let at : next ≡ get_or xs (suc i) 0 = is ∙ ap (λ (n : ℕ). get_or xs n 0) (sym one) in
    ap (λ (l : List ℕ). remove l (i + 1)) (set_is ∙ ap (λ (n : ℕ). set xs i n) at)
    ∙ ap (λ (n : ℕ). remove (set xs i (get_or xs (suc i) 0)) n) (sym one)
    ∙ shift_at xs i (omega (arith, lt))

-- the last element is another one
pub put_last : (xs : List ℕ) (last x : ℕ) → last + 1 ≡ length xs → set xs last x ≡ remove xs last ++ x ∷ []
put_last [] last x is = absurd (omega (arith, is))
put_last (y ∷ []) zero x is = refl
put_last (y ∷ z ∷ xs) zero x is = absurd (omega (arith, is))
put_last (y ∷ xs) (suc last) x is = ap (λ (l : List ℕ). y ∷ l) (put_last xs last x (omega (arith, is)))

-- ===== the elements from a place on

pub drop_in : (bs : List (List ℕ)) (block offset place : ℕ) (first : List ℕ) (rest : List (List ℕ)) → IsIn bs block offset place → drop block bs ≡ first ∷ rest
    → (offset ≤ length first) × (drop offset first ++ concat rest ≡ drop place (concat bs))
drop_in [] block offset place first rest h is = absurd h
drop_in (b ∷ bs) zero offset place first rest h is =
    let same : b ≡ first = cc in
    let others : bs ≡ rest = cc in (
      omega (arith, h.1, ap (λ (l : List ℕ). length l) same),
      (λ i. drop offset (sym same i) ++ concat (sym others i)) ∙ sym (drop-append-le offset b (concat bs) (omega (arith, h.1))) ∙ ap (λ (n : ℕ). drop n (b ++ concat bs)) h.0,
    )
drop_in (b ∷ bs) (suc block) offset place first rest h is =
    let next : (offset ≤ length first) × (drop offset first ++ concat rest ≡ drop (place - length b) (concat bs)) = drop_in bs block offset (place - length b) first rest h.1 is in
    let at : length b + (place - length b) ≡ place = omega (arith, h.0) in
    (next.0, next.1 ∙ sym (drop-append-add b (concat bs) (place - length b)) ∙ ap (λ (n : ℕ). drop n (b ++ concat bs)) at)
