-- Where the messages in a send queue end, as offsets in all output that is due.
use Rattle.std.proofs.Common.{◌≡◌, ℕ, ◌+◌, ◌-◌, ◌<◌, ◌≤◌, Bool, true, false, not, ltb, cond, List, [], ◌∷◌, ◌++◌, length, refl, sym, ap, ◌∙◌, arith, inl, inr}
use Rattle.std.specs.Prelude.{map}
use Rattle.std.specs.List.{AllByRecursion, filter}
use Rattle.std.proofs.lemmas.Bool.{cases_lt, lt-ltb, le-ltb}
use Rattle.std.proofs.lemmas.List.{map-append, length-map}
use Rattle.std.proofs.lemmas.List.Elements.{filter-append}
use Rattle.std.proofs.lemmas.List.Filters.{length-filter_both}
use Rattle.nr_endpoint.specs.SendQueue.{ends_left}
use Rattle.nr_responder.specs.Keeping.{ends_queued, IsEnd}

pub ends_none : (w hello : ℕ) → ends_queued w hello [] ≡ []
unfolding ends_queued
ends_none w hello = refl

-- one more message is queued
pub ends_more : (w hello end : ℕ) (ends : List ℕ) → w + hello < end → ends_queued w hello (ends ++ end ∷ []) ≡ ends_queued w hello ends ++ (end - w - hello) ∷ []
unfolding ends_queued
ends_more w hello end ends lt =
    let one : filter (ltb w) (end ∷ []) ≡ end ∷ [] = ap (λ (b : Bool). cond b (end ∷ []) []) (lt-ltb w end (omega (arith, lt))) in
    ap (map (λ (e : ℕ). e - w - hello)) (filter-append (ltb w) ends (end ∷ []) ∙ ap (λ (xs : List ℕ). filter (ltb w) ends ++ xs) one)
    ∙ map-append (λ (e : ℕ). e - w - hello) (filter (ltb w) ends) (end ∷ [])

pub each_more : (w hello end : ℕ) (ends : List ℕ) → w + hello < end → AllByRecursion (IsEnd w hello) ends → AllByRecursion (IsEnd w hello) (ends ++ end ∷ [])
each_more w hello end [] lt h = (inr lt, tt)
each_more w hello end (e ∷ ends) lt h = (h.0, each_more w hello end ends lt h.1)

-- n bytes more are written
pub ends_drained : (w hello n : ℕ) (ends : List ℕ) → AllByRecursion (IsEnd w hello) ends → ends_queued (w + n) (hello - n) ends ≡ ends_left (n - hello) (ends_queued w hello ends)
unfolding ends_queued
ends_drained w hello n [] each = refl
ends_drained w hello n (e ∷ ends) each = by (ends_drained w hello n ends each.1) each.0
  where
    late : ℕ → ℕ
    late x = x - (w + n) - (hello - n)

    soon : ℕ → ℕ
    soon x = x - w - hello

    left : List ℕ
    left = filter (ltb w) ends

    lefter : List ℕ
    lefter = filter (ltb (w + n)) ends

    -- the element is left, or not, on both sides
    both : map late lefter ≡ ends_left (n - hello) (map soon left) → (b : Bool) → ltb (w + n) e ≡ b → ltb (n - hello) (e - w - hello) ≡ b → ltb w e ≡ true → (b ≡ true → e - (w + n) - (hello - n) ≡ e - w - hello - (n - hello)) →
        map late (cond (ltb (w + n) e) (e ∷ lefter) lefter) ≡ ends_left (n - hello) (map soon (cond (ltb w e) (e ∷ left) left))
    both others true later inner first same =
        ap (λ (c : Bool). map late (cond c (e ∷ lefter) lefter)) later
        ∙ (λ i. same refl i ∷ others i)
        ∙ sym (ap (λ (c : Bool). map (λ (x : ℕ). x - (n - hello)) (cond c ((e - w - hello) ∷ filter (ltb (n - hello)) (map soon left)) (filter (ltb (n - hello)) (map soon left)))) inner)
        ∙ ap (λ (c : Bool). ends_left (n - hello) (map soon (cond c (e ∷ left) left))) (sym first)
    both others false later inner first same =
        ap (λ (c : Bool). map late (cond c (e ∷ lefter) lefter)) later
        ∙ others
        ∙ sym (ap (λ (c : Bool). map (λ (x : ℕ). x - (n - hello)) (cond c ((e - w - hello) ∷ filter (ltb (n - hello)) (map soon left)) (filter (ltb (n - hello)) (map soon left)))) inner)
        ∙ ap (λ (c : Bool). ends_left (n - hello) (map soon (cond c (e ∷ left) left))) (sym first)

    by : map late lefter ≡ ends_left (n - hello) (map soon left) → IsEnd w hello e → map late (cond (ltb (w + n) e) (e ∷ lefter) lefter) ≡ ends_left (n - hello) (map soon (cond (ltb w e) (e ∷ left) left))
    by others (inl gone) =
        ap (λ (c : Bool). map late (cond c (e ∷ lefter) lefter)) (le-ltb (w + n) e (omega (arith, gone)))
        ∙ others
        ∙ ap (λ (c : Bool). ends_left (n - hello) (map soon (cond c (e ∷ left) left))) (sym (le-ltb w e gone))
    by others (inr waits) =
        elim (cases_lt (w + n) e) [
          | inl lt ↦ both others true (lt-ltb (w + n) e lt) (lt-ltb (n - hello) (e - w - hello) (omega (arith, lt, waits))) (lt-ltb w e (omega (arith, waits))) (λ _. omega (arith, lt, waits))
          | inr le ↦ both others false (le-ltb (w + n) e le) (le-ltb (n - hello) (e - w - hello) (omega (arith, le, waits))) (lt-ltb w e (omega (arith, waits))) (λ e. absurd cc)
        ]

pub each_drained : (w hello n : ℕ) (ends : List ℕ) → AllByRecursion (IsEnd w hello) ends → AllByRecursion (IsEnd (w + n) (hello - n)) ends
each_drained w hello n [] each = tt
each_drained w hello n (e ∷ ends) each = (by each.0, each_drained w hello n ends each.1)
  where
    by : IsEnd w hello e → IsEnd (w + n) (hello - n) e
    by (inl gone) = inl (omega (arith, gone))
    by (inr waits) =
        elim (cases_lt (w + n + (hello - n)) e) [
          | inl lt ↦ inr lt
          | inr le ↦ inl (omega (arith, le, waits))
        ]

-- how many messages wait: the ends beyond what was written
pub ends_waiting_is : (w hello : ℕ) (ends : List ℕ) → length (ends_queued w hello ends) ≡ length (filter (ltb w) ends)
unfolding ends_queued
ends_waiting_is w hello ends = length-map (filter (ltb w) ends) (λ (e : ℕ). e - w - hello)

pub ends_fewer : (n : ℕ) (ends : List ℕ) → length (ends_left n ends) ≤ length ends
ends_fewer n ends =
    omega (arith, length-map (filter (ltb n) ends) (λ (end : ℕ). end - n), length-filter_both (ltb n) (λ (end : ℕ). not (ltb n end)) (λ _. refl) ends)
