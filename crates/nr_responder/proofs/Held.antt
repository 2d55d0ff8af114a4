-- How many bytes a responder keeps.
use Rattle.std.proofs.Common.{◌≡◌, ℕ, ◌+◌, ◌*◌, ◌<◌, ◌≤◌, List, ◌∷◌, length, drop, get_or, ap, ◌∙◌, arith}
use Rattle.std.specs.Prelude.{sum_by}
use Rattle.std.proofs.lemmas.List.{drop_all, drop_more}
use Rattle.std.proofs.lemmas.List.Sums.{sum_by-cons}
use Rattle.nr_responder.specs.Rooms.{payload_room}

-- the receives that are lent are counted beside what the side of the link keeps
pub held_sum : (result kept staging inside outside receives lent rooms lists : ℕ) → result ≡ kept + receives + rooms + lists → kept ≡ staging + (inside + outside) → receives ≡ lent → result ≡ staging + inside + lent + (rooms + outside) + lists
held_sum result kept staging inside outside receives lent rooms lists is all same = omega (arith, is, all, same)

-- one item more of a sum
pub sum_step : {X : Type 0} (f : X → ℕ) (xs : List X) (i total all : ℕ) (d : X) → i < length xs → total + sum_by f (drop i xs) ≡ all → total + f (get_or xs i d) + sum_by f (drop (i + 1) xs) ≡ all
sum_step f xs i total all d lt so_far =
    let left : drop i xs ≡ get_or xs i d ∷ drop (i + 1) xs = drop_more xs i d lt in
    let sum : sum_by f (drop i xs) ≡ f (get_or xs i d) + sum_by f (drop (i + 1) xs) = ap (λ ys. sum_by f ys) left ∙ sum_by-cons f (get_or xs i d) (drop (i + 1) xs) in
    omega (arith, so_far, sum)

pub sum_over : {X : Type 0} (f : X → ℕ) (xs : List X) (i total all : ℕ) → length xs ≤ i → total + sum_by f (drop i xs) ≡ all → total ≡ all
sum_over f xs i total all le so_far = (let none : sum_by f (drop i xs) ≡ 0 = ap (λ ys. sum_by f ys) (drop_all i xs le) in omega (arith, so_far, none))

-- a room for each call, in the buffer of its sink or not, and one for each of those that are ready
pub rooms_most : (rooms payloads outside around calls ready : ℕ) → rooms + around ≤ payload_room * calls → payloads ≤ payload_room * ready → outside ≤ around → ready ≤ calls → rooms + payloads + outside ≤ payload_room * (2 * calls)
rooms_most rooms payloads outside around calls ready of_calls of_ready of_sinks few = omega (arith, of_calls, of_ready, of_sinks, few)
