-- Counts of call lines, and seconds.
use Rattle.std.specs.Prelude.{◌&&◌, slice_index, slice_set, count_by}
use Rattle.std.proofs.Common.{◌≡◌, ◌≢◌, ℕ, zero, suc, ◌+◌, ◌-◌, ◌^◌, ◌<◌, ◌≤◌, Bool, true, false, cond, eqb, leb, List, [], ◌∷◌, ◌++◌, length, replicate, refl, sym, ap, ◌∙◌, arith, ne_eqb}
use Rattle.std.proofs.lemmas.Bool.{eqb-true, eqb-false, leb-true, leb-false}
use Rattle.std.proofs.lemmas.List.{get_or-set_same, get_or-set_other, get_or_past, length-set}
use Rattle.std.proofs.lemmas.List.Sums.{sum_by-append, count_by-le-length}
use Rattle.nr_script.specs.declared.script.Line.{Line}
use Rattle.nr_script.specs.declared.script.Line.TheVariants as lines
use Rattle.nr_texts.specs.Limits.{clients_max}
use Rattle.nr_script.specs.private.Counts.{caller, CountsAre, counted}
use Rattle.nr_script.specs.Script.{is_call_of, calls_of, seconds_in, seconds_after}

pub seconds_more : (before : List Line) (line : Line) → seconds_after (before ++ line ∷ []) ≡ seconds_after before + seconds_in line
unfolding seconds_after
seconds_more before line = sum_by-append seconds_in before (line ∷ []) ∙ omega arith

pub no_calls_lem : (i : ℕ) → calls_of i [] ≡ 0
unfolding calls_of
no_calls_lem i = refl

pub no_seconds : seconds_after [] ≡ 0
unfolding seconds_after
no_seconds = refl

pub few_calls_lem : (client : ℕ) (before : List Line) → calls_of client before ≤ length before
unfolding calls_of
few_calls_lem client before = count_by-le-length (is_call_of client) before

count_more_lem : (p : Line → Bool) (before : List Line) (line : Line) → count_by p (before ++ line ∷ []) ≡ count_by p before + cond (p line) 1 0
count_more_lem p before line =
    sum_by-append (λ l. cond (p l) 1 0) before (line ∷ [])
    ∙ (let sum : count_by p before + (0 + cond (p line) 1 0) ≡ count_by p before + cond (p line) 1 0 = omega arith in sum)

pub calls_more : (client : ℕ) (before : List Line) (line : Line) → calls_of client (before ++ line ∷ []) ≡ calls_of client before + cond (is_call_of client line) 1 0
unfolding calls_of
calls_more client before line = count_more_lem (is_call_of client) before line

nothing : (i : ℕ) → false ≡ eqb 0 (i + 1)
nothing i = sym (ne_eqb 0 (i + 1) (λ e. omega (arith, e)))

caller_is : (i : ℕ) (line : Line) → is_call_of (i + 1) line ≡ eqb (caller line) (i + 1)
caller_is i (lines.Call client form prog vers proc args) = refl
caller_is i (lines.Cred client cred) = nothing i
caller_is i (lines.Up client most) = nothing i
caller_is i (lines.Down client most) = nothing i
caller_is i (lines.Work client) = nothing i
caller_is i (lines.Tick seconds) = nothing i
caller_is i (lines.Forget client number) = nothing i
caller_is i (lines.Revoke client number) = nothing i
caller_is i (lines.Drop client) = nothing i
caller_is i (lines.Rejoin client) = nothing i
caller_is i (lines.Raw client side bytes) = nothing i
caller_is i (lines.Grant client credits) = nothing i
caller_is i lines.Drain = nothing i

counted_at : (c i : ℕ) (counts : List ℕ) (n : ℕ) → length counts ≡ clients_max → i < clients_max → slice_index counts i ≡ n → slice_index (counted counts c) i ≡ n + cond (eqb c (i + 1)) 1 0
counted_at c i counts n all lt e = by (leb 1 c) refl (leb c clients_max) refl (eqb c (i + 1)) refl
  where
    still : slice_index counts i ≡ n + 0
    still = e ∙ (let z : n ≡ n + 0 = omega arith in z)

    by : (low : Bool) → leb 1 c ≡ low → (high : Bool) → leb c clients_max ≡ high → (same : Bool) → eqb c (i + 1) ≡ same →
        slice_index (cond (low && high) (slice_set counts (c - 1) (slice_index counts (c - 1) + 1)) counts) i ≡ n + cond same 1 0
    by true l true h true s =
        let is : c ≡ i + 1 = eqb-true c (i + 1) s in
        let here : c - 1 ≡ i = omega (arith, is) in
        rw (here) (get_or-set_same counts i (slice_index counts i + 1) 0 (omega (arith, all, lt)) ∙ ap (λ m. m + 1) e)
    by true l true h false s =
        let apart : i ≢ c - 1 = λ (q : i ≡ c - 1). (let low = leb-true 1 c l in eqb-false c (i + 1) s (omega (arith, q, low))) in
        get_or-set_other counts (c - 1) i (slice_index counts (c - 1) + 1) 0 apart ∙ still
    by true l false h true s = absurd (let is = eqb-true c (i + 1) s in let high = leb-false c clients_max h in omega (arith, is, high, lt))
    by true l false h false s = still
    by false l true h true s = absurd (let is = eqb-true c (i + 1) s in let low = leb-false 1 c l in omega (arith, is, low))
    by false l true h false s = still
    by false l false h true s = absurd (let is = eqb-true c (i + 1) s in let low = leb-false 1 c l in omega (arith, is, low))
    by false l false h false s = still

counted_length : (c : ℕ) (counts : List ℕ) → length (counted counts c) ≡ length counts
counted_length c counts = by (leb 1 c && leb c clients_max)
  where
    by : (b : Bool) → length (cond b (slice_set counts (c - 1) (slice_index counts (c - 1) + 1)) counts) ≡ length counts
    by true = length-set counts (c - 1) (slice_index counts (c - 1) + 1)
    by false = refl

pub counted_are : (counts : List ℕ) (before : List Line) (line : Line) → CountsAre counts before → CountsAre (counted counts (caller line)) (before ++ line ∷ [])
counted_are counts before line h = record {
  all = counted_length (caller line) counts ∙ h.all;
  each = λ i lt.
      counted_at (caller line) i counts (calls_of (i + 1) before) h.all lt (h.each i lt)
      ∙ ap (λ (b : Bool). calls_of (i + 1) before + cond b 1 0) (sym (caller_is i line)) ∙ sym (calls_more (i + 1) before line);
}

zeros_at : (n i : ℕ) → slice_index (replicate n 0) i ≡ 0
zeros_at zero i = refl
zeros_at (suc n) zero = refl
zeros_at (suc n) (suc i) = zeros_at n i

pub none_counted : CountsAre (replicate clients_max 0) []
none_counted = record { all = refl; each = λ i lt. zeros_at clients_max i ∙ sym (no_calls_lem (i + 1)) }

pub room : (counts : List ℕ) (before : List Line) → CountsAre counts before → length before < 2 ^ 63 → (i : ℕ) → slice_index counts i < 2 ^ 63
room counts before h short i = by (leb clients_max i) refl
  where
    by : (b : Bool) → leb clients_max i ≡ b → slice_index counts i < 2 ^ 63
    by true e = (let past = leb-true clients_max i e in let none : slice_index counts i ≡ 0 = get_or_past counts i 0 (omega (arith, past, h.all)) in omega (arith, none))
    by false e = (let lt = leb-false clients_max i e in let is = h.each i (omega (arith, lt)) in let few = few_calls_lem (i + 1) before in omega (arith, is, few, short))
