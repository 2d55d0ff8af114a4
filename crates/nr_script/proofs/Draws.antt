-- Draws, arguments and lines of the generator.
use Rattle.std.proofs.Common.{◌≡◌, ℕ, zero, suc, ◌+◌, ◌-◌, ◌*◌, ◌/◌, ◌%◌, ◌<◌, ◌≤◌, List, [], ◌∷◌, ◌++◌, length, refl, sym, ap, ◌∙◌, append_assoc, arith}
use Rattle.std.specs.Prelude.{map}
use Rattle.std.specs.List.{range_with_len}
use Rattle.std.proofs.Math.Nat.{mod-add-div, add-mul-mod_self_left}
use Rattle.std.proofs.lemmas.List.FromFn.{length-map-range_with_len}
use Rattle.nr_script.specs.declared.script.Line.{Line}
use Rattle.nr_script.specs.declared.script.Line.TheVariants as lines
use Rattle.nr_script.specs.Generator.{written_bytes, drawn_turn, after_drawn_turn, drawn_lines}

-- a sum's remainder, of a remainder
pub mod_plus : (x c m : ℕ) → (x % m + c) % m ≡ (x + c) % m
mod_plus x c m =
    sym (add-mul-mod_self_left (x % m + c) m (x / m))
    ∙ ap (λ n. n % m) (let e : x % m + m * (x / m) ≡ x = mod-add-div x m in let sum : (x % m + c) + m * (x / m) ≡ x + c = omega (arith, e) in sum)

-- one turn more
pub turn_more : (clients calls i state : ℕ) (front all : List Line) → i < calls → front ++ drawn_lines clients (calls - i) state ≡ all →
    (front ++ drawn_turn clients state) ++ drawn_lines clients (calls - (i + 1)) (after_drawn_turn state) ≡ all
turn_more clients calls i state front all lt e =
    let left : calls - i ≡ suc (calls - (i + 1)) = omega (arith, lt) in
    append_assoc front (drawn_turn clients state) (drawn_lines clients (calls - (i + 1)) (after_drawn_turn state))
    ∙ (rw left at e)

range_more_lem : (a n : ℕ) → range_with_len a (n + 1) ≡ range_with_len a n ++ (a + n) ∷ []
range_more_lem a zero = ap (λ m. m ∷ []) (let e : a ≡ a + 0 = omega arith in e)
range_more_lem a (suc n) =
    let one : suc n + 1 ≡ suc (n + 1) = omega arith in
    let next : (a + 1) + n ≡ a + suc n = omega arith in
    rw (one) (ap (λ (l : List ℕ). a ∷ l) (rw next at (range_more_lem (a + 1) n)))

map_more : (f : ℕ → ℕ) (xs : List ℕ) (x : ℕ) → map f (xs ++ x ∷ []) ≡ map f xs ++ f x ∷ []
map_more f [] x = refl
map_more f (y ∷ xs) x = ap (λ (l : List ℕ). f y ∷ l) (map_more f xs x)

-- one byte more of a WRITE
pub written_more : (offset place : ℕ) → written_bytes offset (place + 1) ≡ written_bytes offset place ++ ((offset + place) % 256) ∷ []
written_more offset place = ap (map (λ p. p % 256)) (range_more_lem offset place) ∙ map_more (λ p. p % 256) (range_with_len offset place) (offset + place)

pub written_len : (offset count : ℕ) → length (written_bytes offset count) ≡ count
written_len offset count = length-map-range_with_len (λ p. p % 256) offset count

-- no turn more
pub turns_end : (clients calls i state : ℕ) (front : List Line) → calls ≤ i → front ++ drawn_lines clients (calls - i) state ≡ front ++ lines.Drain ∷ []
turns_end clients calls i state front le = let none : calls - i ≡ 0 = omega (arith, le) in rw (none) refl
