-- What grows keeps its pieces.
use Rattle.std.proofs.Common.{◌≡◌, ℕ, zero, suc, ◌+◌, ◌-◌, ◌≤◌, ◌<◌, arith, Bool, true, false, if◌then◌else◌, List, [], ◌∷◌, ◌++◌, length, take, drop, get_or, set, refl, sym, ap, subst, ◌∙◌, append-nil, append_assoc, length-append}
use Rattle.std.specs.Prelude.{Result, Ok, Err, OnOk}
use Rattle.std.proofs.lemmas.List.{take-append-le, drop-append-le, length-take, length-drop, take_all, drop_at, get_or-set_same, get_or_default}
use Rattle.nr_marks.specs.declared.stores.Piece.{Piece}
use Rattle.std.proofs.lemmas.List.Sums.{sum_by-set, sum_by_push}
use Rattle.nr_marks.specs.Pieces.{Grows, IsWithin, Holds, bytes_in, stored_len}

pub grows_same : (old : List (List ℕ)) → Grows old old
grows_same old = record { more = λ k. []; is = λ k. sym (append-nil (get_or old k [])) }

pub grows_trans : (a b c : List (List ℕ)) → Grows a b → Grows b c → Grows a c
grows_trans a b c first second = record {
  more = λ k. first.more k ++ second.more k;
  is = λ k. second.is k ∙ ap (λ xs. xs ++ second.more k) (first.is k) ∙ append_assoc (get_or a k []) (first.more k) (second.more k);
}

-- an empty store more
more_empty : (old : List (List ℕ)) (k : ℕ) → get_or (old ++ [] ∷ []) k [] ≡ get_or old k []
more_empty [] zero = refl
more_empty [] (suc k) = refl
more_empty (x ∷ xs) zero = refl
more_empty (x ∷ xs) (suc k) = more_empty xs k

pub grows_empty : (old new : List (List ℕ)) → new ≡ old ++ [] ∷ [] → Grows old new
grows_empty old new e = record { more = λ k. []; is = λ k. ap (λ ss. get_or ss k []) e ∙ more_empty old k ∙ sym (append-nil (get_or old k [])) }

-- a store has more
at_one : (old : List (List ℕ)) (at : ℕ) (bytes : List ℕ) (k : ℕ) → (more : List ℕ) × (get_or (set old at (get_or old at [] ++ bytes)) k [] ≡ get_or old k [] ++ more)
at_one [] at bytes k = ([], refl)
at_one (x ∷ xs) zero bytes zero = (bytes, refl)
at_one (x ∷ xs) zero bytes (suc k) = ([], sym (append-nil (get_or xs k [])))
at_one (x ∷ xs) (suc at) bytes zero = ([], sym (append-nil x))
at_one (x ∷ xs) (suc at) bytes (suc k) = at_one xs at bytes k

pub grows_at : (old : List (List ℕ)) (at : ℕ) (bytes : List ℕ) → Grows old (set old at (get_or old at [] ++ bytes))
grows_at old at bytes = record { more = λ k. (at_one old at bytes k).0; is = λ k. (at_one old at bytes k).1 }

pub within_grown : (old new : List (List ℕ)) (p : Piece) → Grows old new → IsWithin old p → IsWithin new p
within_grown old new p grows within =
    let len : length (get_or new p.store []) ≡ length (get_or old p.store []) + length (grows.more p.store) = ap (λ (xs : List ℕ). length xs) (grows.is p.store) ∙ length-append (get_or old p.store []) (grows.more p.store) in
    omega (arith, len, within)

pub bytes_grown : (old new : List (List ℕ)) (p : Piece) → Grows old new → IsWithin old p → bytes_in new p ≡ bytes_in old p
bytes_grown old new p grows within =
    let store : List ℕ = get_or old p.store [] in
    let more : List ℕ = grows.more p.store in
    let len : length (drop p.at store) ≡ length store - p.at = length-drop p.at store in
    let front : p.at ≤ length store = omega (arith, within) in
    let rest : p.len ≤ length (drop p.at store) = omega (arith, within, len) in
    ap (λ (xs : List ℕ). take p.len (drop p.at xs)) (grows.is p.store)
    ∙ ap (λ (xs : List ℕ). take p.len xs) (drop-append-le p.at store more front)
    ∙ take-append-le p.len (drop p.at store) more rest

pub holds_grown : (old new : List (List ℕ)) (p : Piece) (bytes : List ℕ) → Grows old new → Holds old p bytes → Holds new p bytes
holds_grown old new p bytes grows h = record { within = within_grown old new p grows h.within; is = bytes_grown old new p grows h.within ∙ h.is }

-- what was appended to a store
pub holds_appended : (old new : List (List ℕ)) (p : Piece) (bytes : List ℕ) → p.store < length old → p.at ≡ length (get_or old p.store []) → p.len ≡ length bytes
    → new ≡ set old p.store (get_or old p.store [] ++ bytes) → Holds new p bytes
holds_appended old new p bytes lt at len is =
    let store : List ℕ = get_or old p.store [] in
    let there : get_or new p.store [] ≡ store ++ bytes = ap (λ ss. get_or ss p.store []) is ∙ get_or-set_same old p.store (store ++ bytes) [] lt in
    let total : length (get_or new p.store []) ≡ length store + length bytes = ap (λ (xs : List ℕ). length xs) there ∙ length-append store bytes in
    record {
      within = omega (arith, at, len, total);
      is = ap (λ (xs : List ℕ). take p.len (drop p.at xs)) there ∙ ap (λ (xs : List ℕ). take p.len xs) (drop_at store bytes p.at (sym at)) ∙ take_all p.len bytes (omega (arith, len));
    }

pub grows_is : (old new : List (List ℕ)) → new ≡ old → Grows old new
grows_is old new e = subst (λ (ss : List (List ℕ)). Grows old ss) (sym e) (grows_same old)

-- a store that is pushed, if there was memory for it
pub grows_push : (pushed : Bool) (now old new : List (List ℕ)) (store : List ℕ) → old ≡ now → store ≡ [] → new ≡ (if pushed then old ++ store ∷ [] else old) → Grows now new
grows_push true now old new store same empty is = grows_empty now new (is ∙ (λ i. same i ++ empty i ∷ []))
grows_push false now old new store same empty is = grows_is now new (is ∙ same)

-- a store that is written, and one that is left as it was
pub grows_write : (now old : List (List ℕ)) (at : ℕ) (own new bytes : List ℕ) → old ≡ now → own ≡ get_or old at own → at < length old → new ≡ own ++ bytes → Grows now (set old at new)
grows_write now old at own new bytes same there lt is =
    let own_is : own ≡ get_or old at [] = there ∙ get_or_default old at own [] lt in
    subst (λ (ss : List (List ℕ)). Grows ss (set old at new)) same
    (subst (λ (xs : List ℕ). Grows old (set old at xs)) (sym (is ∙ ap (λ xs. xs ++ bytes) own_is)) (grows_at old at bytes))

pub grows_left : (now old : List (List ℕ)) (at : ℕ) (own new : List ℕ) → old ≡ now → own ≡ get_or old at own → at < length old → new ≡ own → Grows now (set old at new)
grows_left now old at own new same there lt is = grows_write now old at own new [] same there lt (is ∙ sym (append-nil own))

pub holds_write : (old : List (List ℕ)) (store at len : ℕ) (own new bytes : List ℕ) → own ≡ get_or old store own → store < length old → at ≡ length own → len ≡ length bytes → new ≡ own ++ bytes
    → Holds (set old store new) (record { store = store; at = at; len = len }) bytes
holds_write old store at len own new bytes there lt at_end all is =
    let own_is : own ≡ get_or old store [] = there ∙ get_or_default old store own [] lt in
    holds_appended old (set old store new) (record { store = store; at = at; len = len }) bytes lt (at_end ∙ ap (λ (xs : List ℕ). length xs) own_is) all
    (ap (λ (xs : List ℕ). set old store xs) (is ∙ ap (λ xs. xs ++ bytes) own_is))

-- ===== how many bytes the stores have

pub if_any : {T E : Type 0} (r : Result T E) (P : Type 0) → P → OnOk r P
if_any (Ok x) P h = h
if_any (Err e) P h = tt

pub stored_is : (old new : List (List ℕ)) → new ≡ old → stored_len new ≡ stored_len old
stored_is old new e = ap stored_len e

pub stored_push : (now old new : List (List ℕ)) (store : List ℕ) → old ≡ now → store ≡ [] → new ≡ old ++ store ∷ [] → stored_len new ≡ stored_len now
stored_push now old new store same empty is =
    let sum : stored_len (old ++ store ∷ []) ≡ stored_len old + length store = sum_by_push length old store in
    let total : stored_len old ≡ stored_len now = ap stored_len same in
    let all : stored_len new ≡ stored_len (old ++ store ∷ []) = ap stored_len is in
    let none : length store ≡ 0 = ap (λ (xs : List ℕ). length xs) empty in
    omega (arith, sum, total, all, none)

pub length_push : (now old new : List (List ℕ)) (store : List ℕ) → old ≡ now → new ≡ old ++ store ∷ [] → length new ≡ length now + 1
length_push now old new store same is =
    let all : length new ≡ length old + 1 = ap (λ (ss : List (List ℕ)). length ss) is ∙ length-append old (store ∷ []) in
    let total : length old ≡ length now = ap (λ (ss : List (List ℕ)). length ss) same in
    omega (arith, all, total)

-- a store that is written has as many more as are appended
pub stored_write : (now old : List (List ℕ)) (at : ℕ) (own new bytes : List ℕ) → old ≡ now → own ≡ get_or old at own → at < length old → new ≡ own ++ bytes →
    stored_len (set old at new) ≡ stored_len now + length bytes
stored_write now old at own new bytes same there lt is =
    let sum : stored_len (set old at new) + length (get_or old at own) ≡ stored_len old + length new = sum_by-set length old at new own lt in
    let here : length (get_or old at own) ≡ length own = ap (λ (xs : List ℕ). length xs) (sym there) in
    let more : length new ≡ length own + length bytes = ap (λ (xs : List ℕ). length xs) is ∙ length-append own bytes in
    let total : stored_len old ≡ stored_len now = ap stored_len same in
    omega (arith, sum, here, more, total)

pub few_taken : (n : ℕ) (xs : List ℕ) → length (take n xs) ≤ n
few_taken n xs = (let e = length-take n xs in omega (arith, e))

pub store_there : (now old : List (List ℕ)) (at : ℕ) → old ≡ now → at < length now → at < length old
store_there now old at same lt = subst (λ (ss : List (List ℕ)). at < length ss) (sym same) lt
