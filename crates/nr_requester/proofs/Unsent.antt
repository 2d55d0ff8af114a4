-- How many calls' Sends haven't left: no fewer than wait in the queue.
use Rattle.std.proofs.Common.{◌≡◌, ℕ, zero, suc, ◌+◌, ◌-◌, ◌^◌, ◌<◌, ◌≤◌, min, Bool, not, cond, List, [], ◌∷◌, ◌++◌, length, inl, inr, refl, sym, ap, subst, ◌∙◌, arith}
use Rattle.std.specs.Prelude.{◌⊎◌, ◌≢◌}
use Rattle.std.specs.List.{AllByRecursion}
use Rattle.std.proofs.lemmas.Bool.{cases_lt, cases_eq, lt-ltb, le-ltb}
use Rattle.std.proofs.lemmas.List.{length-append}
use Rattle.nr_endpoint.specs.SendQueue.{SendQueue, ends_left, ends_passed, written}
use Rattle.nr_requester.specs.declared.outstanding.OutstandingCall.{OutstandingCall}
use Rattle.nr_requester.specs.HeldBytes.{AreRisingBy, send_of, unsent, CountsFit}
use Rattle.nr_endpoint.proofs.SendQueues.{ends_left_fewer}

-- one call before others
abbrev kept_if : Bool → OutstandingCall → List OutstandingCall → List OutstandingCall
kept_if b c cs = cond b (c ∷ cs) cs

-- a call whose Send has left
is_gone : (s : ℕ) (c : OutstandingCall) (cs : List OutstandingCall) → c.send < s → unsent s (c ∷ cs) ≡ unsent s cs
is_gone s c cs lt = ap (λ (b : Bool). kept_if (not b) c (unsent s cs)) (lt-ltb c.send s lt)

-- and one whose Send hasn't
waits : (s : ℕ) (c : OutstandingCall) (cs : List OutstandingCall) → s ≤ c.send → length (unsent s (c ∷ cs)) ≡ length (unsent s cs) + 1
waits s c cs le =
    let one : length (unsent s (c ∷ cs)) ≡ length (c ∷ unsent s cs) = ap (λ (b : Bool). length (kept_if (not b) c (unsent s cs))) (le-ltb c.send s le) in
    omega (arith, one)

-- ---- More have left

all_wait_both : (s : ℕ) (c : OutstandingCall) (cs : List OutstandingCall) → c.send ≡ s → AllByRecursion (λ (d : OutstandingCall). c.send < d.send) cs →
    length (unsent s cs) ≤ length (unsent (s + 1) cs)
all_wait_both s c [] same h = omega arith
all_wait_both s c (d ∷ cs) same h =
    let lt = h.0 in
    omega (arith, waits s d cs (omega (arith, same, lt)), waits (s + 1) d cs (omega (arith, same, lt)), all_wait_both s c cs same h.1)

above : (n s : ℕ) → s ≤ n → n ≢ s → s + 1 ≤ n
above n s le ne = elim (cases_lt s n) [
  | inl lt ↦ omega (arith, lt)
  | inr ge ↦ absurd (ne (omega (arith, le, ge)))
]

one_more : (s sends : ℕ) (cs : List OutstandingCall) → AreRisingBy send_of cs sends → length (unsent s cs) ≤ length (unsent (s + 1) cs) + 1
one_more s sends [] rising = omega arith
one_more s sends (c ∷ cs) rising = by (cases_eq c.send s) (cases_lt c.send s) (one_more s sends cs rising.1.1)
  where
    by : (c.send ≡ s) ⊎ (c.send ≢ s) → (c.send < s) ⊎ (s ≤ c.send) → length (unsent s cs) ≤ length (unsent (s + 1) cs) + 1 →
        length (unsent s (c ∷ cs)) ≤ length (unsent (s + 1) (c ∷ cs)) + 1
    by (inl same) order rest =
        let now = waits s c cs (omega (arith, same)) in
        let later : length (unsent (s + 1) (c ∷ cs)) ≡ length (unsent (s + 1) cs) = ap (λ (xs : List OutstandingCall). length xs) (is_gone (s + 1) c cs (omega (arith, same))) in
        omega (arith, now, later, all_wait_both s c cs same rising.1.0)
    by (inr other) (inl lt) rest =
        let now : length (unsent s (c ∷ cs)) ≡ length (unsent s cs) = ap (λ (xs : List OutstandingCall). length xs) (is_gone s c cs lt) in
        let later : length (unsent (s + 1) (c ∷ cs)) ≡ length (unsent (s + 1) cs) = ap (λ (xs : List OutstandingCall). length xs) (is_gone (s + 1) c cs (omega (arith, lt))) in
        omega (arith, now, later, rest)
    by (inr other) (inr le) rest = omega (arith, waits s c cs le, waits (s + 1) c cs (above c.send s le other), rest)

more_gone : (s sends p : ℕ) (cs : List OutstandingCall) → AreRisingBy send_of cs sends → length (unsent s cs) ≤ length (unsent (s + p) cs) + p
more_gone s sends zero cs rising = (let same : s + 0 ≡ s = omega arith in subst (λ (n : ℕ). length (unsent s cs) ≤ length (unsent n cs) + 0) (sym same) (omega arith))
more_gone s sends (suc p) cs rising =
    let one = one_more (s + p) sends cs rising in
    let same : s + p + 1 ≡ s + suc p = omega arith in
    let step : length (unsent (s + p) cs) ≤ length (unsent (s + suc p) cs) + 1 = subst (λ (n : ℕ). length (unsent (s + p) cs) ≤ length (unsent n cs) + 1) same one in
    omega (arith, step, more_gone s sends p cs rising)

fewer_gone : (s t : ℕ) (cs : List OutstandingCall) → s ≤ t → length (unsent t cs) ≤ length (unsent s cs)
fewer_gone s t [] le = omega arith
fewer_gone s t (c ∷ cs) le = by (cases_lt c.send t) (cases_lt c.send s) (fewer_gone s t cs le)
  where
    by : (c.send < t) ⊎ (t ≤ c.send) → (c.send < s) ⊎ (s ≤ c.send) → length (unsent t cs) ≤ length (unsent s cs) → length (unsent t (c ∷ cs)) ≤ length (unsent s (c ∷ cs))
    by (inl lt) (inl less) rest = omega (arith, ap (λ (xs : List OutstandingCall). length xs) (is_gone t c cs lt), ap (λ (xs : List OutstandingCall). length xs) (is_gone s c cs less), rest)
    by (inl lt) (inr more) rest = omega (arith, ap (λ (xs : List OutstandingCall). length xs) (is_gone t c cs lt), waits s c cs more, rest)
    by (inr ge) (inl less) rest = absurd (omega (arith, ge, less, le))
    by (inr ge) (inr more) rest = omega (arith, waits t c cs ge, waits s c cs more, rest)

-- at most as many wait as there are
pub few_wait : (s : ℕ) (cs : List OutstandingCall) → length (unsent s cs) ≤ length cs
few_wait s [] = omega arith
few_wait s (c ∷ cs) = elim (cases_lt c.send s) [
  | inl lt ↦ omega (arith, ap (λ (xs : List OutstandingCall). length xs) (is_gone s c cs lt), few_wait s cs)
  | inr ge ↦ omega (arith, waits s c cs ge, few_wait s cs)
]

-- ---- The queue

pub counts_written : (n all sends : ℕ) (q : SendQueue) (cs : List OutstandingCall) → AreRisingBy send_of cs all → CountsFit sends q cs → CountsFit sends (written n q) cs
unfolding written
counts_written n all sends q cs rising h =
    let m : ℕ = n - length q.hello in
    let left : ℕ = length (ends_left m q.send_ends) in
    let passed : ℕ = ends_passed m q.send_ends in
    let fewer = ends_left_fewer m q.send_ends in
    let more = more_gone q.sends_left all passed cs rising in
    let later = fewer_gone (min (q.sends_left + passed) (2 ^ 64 - 1)) (q.sends_left + passed) cs (omega arith) in
    record {
      waiting = omega (arith, h.waiting, fewer, more, later);
      numbered = omega (arith, h.numbered, fewer);
    }

-- a call more, whose Send is queued
unsent_append : (s : ℕ) (cs : List OutstandingCall) (o : OutstandingCall) → s ≤ o.send → length (unsent s (cs ++ o ∷ [])) ≡ length (unsent s cs) + 1
unsent_append s [] o le = waits s o [] le
unsent_append s (c ∷ cs) o le = elim (cases_lt c.send s) [
  | inl lt ↦ omega (arith, ap (λ (xs : List OutstandingCall). length xs) (is_gone s c (cs ++ o ∷ []) lt), ap (λ (xs : List OutstandingCall). length xs) (is_gone s c cs lt), unsent_append s cs o le)
  | inr ge ↦ omega (arith, waits s c (cs ++ o ∷ []) ge, waits s c cs ge, unsent_append s cs o le)
]

pub counts_sent : (sends end : ℕ) (q after : SendQueue) (cs : List OutstandingCall) (o : OutstandingCall) → after.sends_left ≡ q.sends_left → after.send_ends ≡ q.send_ends ++ end ∷ [] → after.held ≡ q.held → o.send ≡ sends → CountsFit sends q cs →
    CountsFit (sends + 1) after (cs ++ o ∷ [])
counts_sent sends end q after cs o left ends held number h =
    let one = unsent_append q.sends_left cs o (omega (arith, number, h.numbered)) in
    let count : length after.send_ends ≡ length q.send_ends + 1 = ap (λ (xs : List ℕ). length xs) ends ∙ length-append q.send_ends (end ∷ []) in
    let same = ap (λ (messages : List (List ℕ)). length messages) held in
    record {
      waiting = subst (λ (s : ℕ). length after.send_ends + length after.held ≤ length (unsent s (cs ++ o ∷ []))) (sym left) (omega (arith, one, count, same, h.waiting));
      numbered = omega (arith, left, count, h.numbered);
    }

-- none has left: all wait
pub all_unsent : (cs : List OutstandingCall) → length (unsent 0 cs) ≡ length cs
all_unsent [] = refl
all_unsent (c ∷ cs) = (let one = waits 0 c cs (omega arith) in omega (arith, one, all_unsent cs))
