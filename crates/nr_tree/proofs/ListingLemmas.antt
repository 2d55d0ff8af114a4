-- Entries after a cookie are those from an index on, since cookies ascend.
use Rattle.std.proofs.Common.{◌≡◌, ℕ, zero, suc, ◌+◌, ◌-◌, ◌*◌, ◌/◌, ◌^◌, ◌<◌, ◌≤◌, Bool, true, false, cond, leb, ltb, length, List, [], ◌∷◌, ◌++◌, take, drop, Option, None, Some, refl, ap, sym, ◌∙◌, subst, arith}
use Rattle.std.proofs.lemmas.Bool.{le-ltb, lt-ltb, leb-true, leb-false}
use Rattle.std.proofs.lemmas.List.{take-append-drop, length-drop}
use Rattle.std.proofs.lemmas.Nat.{mul-le}
use Rattle.std.proofs.Math.Nat.{pow-suc, mul_assoc, mul-one}
use Rattle.std.specs.Prelude.{slice_get}
use Rattle.std.specs.Option.{option_map}
use Rattle.nr_tree.specs.Entries.{Entry, CookiesAscend}
use Rattle.nr_tree.specs.Listing.{entries_after, count_until}

append_step : (b : Bool) (x : Entry) (xs ys all : List Entry) → all ≡ xs ++ ys → cond b (x ∷ all) all ≡ cond b (x ∷ xs) xs ++ ys
append_step true x xs ys all e = ap (λ (l : List Entry). x ∷ l) e
append_step false x xs ys all e = e

after_append : (c : ℕ) (xs ys : List Entry) → entries_after c (xs ++ ys) ≡ entries_after c xs ++ entries_after c ys
after_append c [] ys = refl
after_append c (x ∷ xs) ys = append_step (ltb c x.cookie) x (entries_after c xs) (entries_after c ys) (entries_after c (xs ++ ys)) (after_append c xs ys)

same_cookie : (x y : ℕ) → Some x ≡ Some y → x ≡ y
same_cookie x y e = cc

pub cookie_from : (from : ℕ) (es : List Entry) (next i k : ℕ) → CookiesAscend from es next → option_map (λ (e : Entry). e.cookie) (slice_get es i) ≡ Some k → from ≤ k
cookie_from from [] next i k up at = absurd cc
cookie_from from (e ∷ es) next zero k up at = let same : e.cookie ≡ k = same_cookie e.cookie k at in omega (arith, same, up.0)
cookie_from from (e ∷ es) next (suc i) k up at = omega (arith, up.0, cookie_from (e.cookie + 1) es next i k up.1 at)

pub all_above : (c from : ℕ) (es : List Entry) (next : ℕ) → CookiesAscend from es next → c < from → entries_after c es ≡ es
all_above c from [] next up lt = refl
all_above c from (e ∷ es) next up lt =
    ap (λ (b : Bool). cond b (e ∷ entries_after c es) (entries_after c es)) (lt-ltb c e.cookie (omega (arith, lt, up.0)))
    ∙ ap (λ (l : List Entry). e ∷ l) (all_above c (e.cookie + 1) es next up.1 (omega (arith, lt, up.0)))

none_to : (c from : ℕ) (es : List Entry) (next i k : ℕ) → CookiesAscend from es next → option_map (λ (e : Entry). e.cookie) (slice_get es i) ≡ Some k → k ≤ c → entries_after c (take (suc i) es) ≡ []
none_to c from [] next i k up at le = absurd cc
none_to c from (e ∷ es) next zero k up at le =
    let same : e.cookie ≡ k = same_cookie e.cookie k at in
    ap (λ (b : Bool). cond b (e ∷ []) []) (le-ltb c e.cookie (omega (arith, same, le)))
none_to c from (e ∷ es) next (suc i) k up at le =
    let low : e.cookie + 1 ≤ k = cookie_from (e.cookie + 1) es next i k up.1 at in
    ap (λ (b : Bool). cond b (e ∷ entries_after c (take (suc i) es)) (entries_after c (take (suc i) es))) (le-ltb c e.cookie (omega (arith, low, le)))
    ∙ none_to c (e.cookie + 1) es next i k up.1 at le

-- up to and with an entry whose cookie isn't above, none is listed
pub none_until : (c from : ℕ) (es : List Entry) (next i k : ℕ) → CookiesAscend from es next → option_map (λ (e : Entry). e.cookie) (slice_get es i) ≡ Some k → k ≤ c → entries_after c (take (i + 1) es) ≡ []
none_until c from es next i k up at le = let one : suc i ≡ i + 1 = omega arith in subst (λ (n : ℕ). entries_after c (take n es) ≡ []) one (none_to c from es next i k up at le)

-- from an entry whose cookie is above, each is listed
pub all_from : (c from : ℕ) (es : List Entry) (next i k : ℕ) → CookiesAscend from es next → option_map (λ (e : Entry). e.cookie) (slice_get es i) ≡ Some k → c < k → entries_after c (drop i es) ≡ drop i es
all_from c from [] next i k up at lt = absurd cc
all_from c from (e ∷ es) next zero k up at lt = let same : e.cookie ≡ k = same_cookie e.cookie k at in all_above c e.cookie (e ∷ es) next (omega arith, up.1) (omega (arith, same, lt))
all_from c from (e ∷ es) next (suc i) k up at lt = all_from c (e.cookie + 1) es next i k up.1 at lt

pub listed : (c : ℕ) (es : List Entry) (low high : ℕ) → low ≡ high → entries_after c (take low es) ≡ [] → entries_after c (drop high es) ≡ drop high es → drop low es ≡ entries_after c es
listed c es low high same none all =
    sym (ap (entries_after c) (sym (take-append-drop low es)) ∙ after_append c (take low es) (drop low es)
    ∙ ap (λ (l : List Entry). l ++ entries_after c (drop low es)) none
    ∙ subst (λ (n : ℕ). entries_after c (drop n es) ≡ drop n es) (sym same) all)

-- ===== the middle of a range

pub middle_low : (low high : ℕ) → low < high → low + (high - low) / 2 + 1 ≤ high
middle_low low high lt = omega (arith, lt)

pub middle_high : (low high len : ℕ) → low < high → high ≤ len → low + (high - low) / 2 ≤ len
middle_high low high len lt le = omega (arith, lt, le)

pub same_place : (low high : ℕ) → low ≤ high → high ≤ low → low ≡ high
same_place low high a b = omega (arith, a, b)

pub one_left : (low high : ℕ) → low < high → 1 ≤ high - low
one_left low high lt = omega (arith, lt)

pub fewer_low : (low high : ℕ) → low < high → 2 * (high - (low + (high - low) / 2 + 1)) ≤ high - low
fewer_low low high lt = omega (arith, lt)

pub half_low : (low high : ℕ) → low < high → (high - low) + 2 ≤ 2 * (high - (low + (high - low) / 2 + 1) + 2)
half_low low high lt = omega (arith, lt)

pub half_high : (low high : ℕ) → low < high → (high - low) + 2 ≤ 2 * (low + (high - low) / 2 - low + 2)
half_high low high lt = omega (arith, lt)

pub fewer_high : (low high : ℕ) → low < high → 2 * (low + (high - low) / 2 - low) ≤ high - low
fewer_high low high lt = omega (arith, lt)

-- the cookie that was compared
pub compared : (cookie : ℕ) (o : Option Entry) (b : Bool) → option_map (λ (e : Entry). leb e.cookie cookie) o ≡ Some b → (k : ℕ) × (option_map (λ (e : Entry). e.cookie) o ≡ Some k) × (leb k cookie ≡ b)
compared cookie None b at = absurd cc
compared cookie (Some e) b at = (e.cookie, refl, cc)

-- ===== how many steps halving takes

-- after some steps, of n entries at most left may have the place; each step halves them, and no halving is without a step
pub record IsHalved (n before now left : ℕ) : Type 0 where
  pub rises : before ≤ now
  pub halved : 2 ^ (now - before) * left ≤ n
  pub few : 2 ^ (now - before) ≤ 2 * n + 1
  pub many : n + 2 ≤ 2 ^ (now - before) * (left + 2)

pub halving_begins : (n steps left : ℕ) → left ≡ n → IsHalved n steps steps left
halving_begins n steps left same =
    let none : steps - steps ≡ 0 = omega arith in
    record {
      rises = omega arith;
      halved = subst (λ (k : ℕ). 2 ^ k * left ≤ n) (sym none) (omega (arith, same));
      few = subst (λ (k : ℕ). 2 ^ k ≤ 2 * n + 1) (sym none) (omega arith);
      many = subst (λ (k : ℕ). n + 2 ≤ 2 ^ k * (left + 2)) (sym none) (omega (arith, same));
    }

-- twice the power, over half of what was left
halved_power : (k left fewer n : ℕ) → 2 * fewer ≤ left → 2 ^ k * left ≤ n → 2 ^ suc k * fewer ≤ n
halved_power k left fewer n half le =
    let twice : 2 ^ suc k * fewer ≡ 2 ^ k * (2 * fewer) = ap (λ (p : ℕ). p * fewer) (pow-suc 2 k) ∙ mul_assoc (2 ^ k) 2 fewer in
    omega (arith, twice, mul-le (2 ^ k) (2 * fewer) (2 ^ k) left (omega arith) half, le)

left_power : (p left n : ℕ) → 1 ≤ left → p * left ≤ n → p ≤ n
left_power p left n one le = omega (arith, le, mul-le p 1 p left (omega arith) one, mul-one p)

-- and half of what was left and two, over twice the power
rising_power : (k left fewer n : ℕ) → left + 2 ≤ 2 * (fewer + 2) → n + 2 ≤ 2 ^ k * (left + 2) → n + 2 ≤ 2 ^ suc k * (fewer + 2)
rising_power k left fewer n half le =
    let twice : 2 ^ suc k * (fewer + 2) ≡ 2 ^ k * (2 * (fewer + 2)) = ap (λ (p : ℕ). p * (fewer + 2)) (pow-suc 2 k) ∙ mul_assoc (2 ^ k) 2 (fewer + 2) in
    omega (arith, twice, mul-le (2 ^ k) (left + 2) (2 ^ k) (2 * (fewer + 2)) (omega arith) half, le)

pub halving_goes_on : (n before now then left fewer : ℕ) → IsHalved n before now left → then ≡ now + 1 → 1 ≤ left → 2 * fewer ≤ left → left + 2 ≤ 2 * (fewer + 2) → IsHalved n before then fewer
halving_goes_on n before now then left fewer h next one half at_least =
    let more : then - before ≡ suc (now - before) = omega (arith, next, h.rises) in
    let few : 2 ^ (now - before) ≤ n = left_power (2 ^ (now - before)) left n one h.halved in
    record {
      rises = omega (arith, next, h.rises);
      halved = subst (λ (k : ℕ). 2 ^ k * fewer ≤ n) (sym more) (halved_power (now - before) left fewer n half h.halved);
      few = subst (λ (k : ℕ). 2 ^ k ≤ 2 * n + 1) (sym more) (omega (arith, pow-suc 2 (now - before), few));
      many = subst (λ (k : ℕ). n + 2 ≤ 2 ^ k * (fewer + 2)) (sym more) (rising_power (now - before) left fewer n at_least h.many);
    }

-- if none is left, the steps are as many as that
pub halving_ends : (n before now low high : ℕ) → low ≡ high → IsHalved n before now (high - low) → n + 2 ≤ 2 * 2 ^ (now - before)
halving_ends n before now low high same h =
    let none : high - low ≡ 0 = omega (arith, same) in
    omega (arith, subst (λ (k : ℕ). n + 2 ≤ 2 ^ (now - before) * (k + 2)) none h.many)

-- ===== the place is how many entries have a cookie that is at most the given one

pub listed_or_counted : (c : ℕ) (es : List Entry) → count_until c es + length (entries_after c es) ≡ length es
listed_or_counted c [] = refl
listed_or_counted c (e ∷ es) = by (leb e.cookie c) refl (listed_or_counted c es) where
  by : (b : Bool) → leb e.cookie c ≡ b → count_until c es + length (entries_after c es) ≡ length es → count_until c (e ∷ es) + length (entries_after c (e ∷ es)) ≡ suc (length es)
  by true is rest = rw (is, le-ltb c e.cookie (leb-true e.cookie c is)) (omega (arith, rest))
  by false is rest = rw (is, lt-ltb c e.cookie (leb-false e.cookie c is)) (omega (arith, rest))

pub place_counts : (c : ℕ) (es : List Entry) (low : ℕ) → low ≤ length es → drop low es ≡ entries_after c es → low ≡ count_until c es
place_counts c es low le same = omega (arith, le, length-drop low es, ap (λ (l : List Entry). length l) same, listed_or_counted c es)

-- ===== a step of the loop

pub until_middle : (c : ℕ) (es : List Entry) (next i : ℕ) (b : Bool) → CookiesAscend 1 es next → option_map (λ (e : Entry). leb e.cookie c) (slice_get es i) ≡ Some b → b ≡ true → entries_after c (take (i + 1) es) ≡ []
until_middle c es next i b up at is =
    let k : (k : ℕ) × (option_map (λ (e : Entry). e.cookie) (slice_get es i) ≡ Some k) × (leb k c ≡ b) = compared c (slice_get es i) b at in
    none_until c 1 es next i k.0 up k.1 (leb-true k.0 c (k.2 ∙ is))

pub from_middle : (c : ℕ) (es : List Entry) (next i : ℕ) (b : Bool) → CookiesAscend 1 es next → option_map (λ (e : Entry). leb e.cookie c) (slice_get es i) ≡ Some b → b ≡ false → entries_after c (drop i es) ≡ drop i es
from_middle c es next i b up at is =
    let k : (k : ℕ) × (option_map (λ (e : Entry). e.cookie) (slice_get es i) ≡ Some k) × (leb k c ≡ b) = compared c (slice_get es i) b at in
    all_from c 1 es next i k.0 up k.1 (leb-false k.0 c (k.2 ∙ is))

-- the place that halving ends at
pub place_by : (c : ℕ) (es : List Entry) (low high : ℕ) → low ≡ high → high ≤ length es → entries_after c (take low es) ≡ [] → entries_after c (drop high es) ≡ drop high es → low ≡ count_until c es
place_by c es low high same le none all = place_counts c es low (omega (arith, same, le)) (listed c es low high same none all)
