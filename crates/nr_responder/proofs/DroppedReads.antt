-- The reads of a call that wait are dropped.
use Rattle.std.proofs.Common.{◌≡◌, ℕ, zero, suc, ◌+◌, ◌<◌, ◌≤◌, Bool, not, cond, eqb, List, [], ◌∷◌, ◌++◌, length, take, drop, get_or, map, sym, ap, ◌∙◌, arith, append-nil}
use Rattle.std.proofs.lemmas.List.{length-map, take_all, drop_all}
use Rattle.std.proofs.lemmas.Bool.{eq-eqb, ne_eqb}
use Rattle.std.specs.Prelude.{◌≢◌}
use Rattle.std.specs.List.{filter, remove}
use Rattle.nr_reduce.specs.ServerState.{PendingRead}
use Rattle.nr_responder.specs.declared.call.ReadEntry.{ReadEntry}
use Rattle.nr_responder.specs.Views.{read_view}

abbrev pub left_from : (number at : ℕ) → List PendingRead → List PendingRead
left_from number at reads = take at reads ++ filter (λ r. not (eqb r.number number)) (drop at reads)

-- the read at a place is of another call
pub stays_there : (number : ℕ) (reads : List ReadEntry) (at : ℕ) (d : ReadEntry) → at < length reads → (get_or reads at d).number ≢ number → left_from number (at + 1) (map read_view reads) ≡ left_from number at (map read_view reads)
stays_there number reads at d lt other = ap (λ (n : ℕ). left_from number n (map read_view reads)) (let e : at + 1 ≡ suc at = omega arith in e) ∙ by reads at lt other
  where
    by : (reads : List ReadEntry) (at : ℕ) → at < length reads → (get_or reads at d).number ≢ number → left_from number (suc at) (map read_view reads) ≡ left_from number at (map read_view reads)
    by [] at lt other = absurd (omega (arith, lt))
    by (r ∷ reads) zero lt other =
        sym (ap (λ (b : Bool). cond (not b) (read_view r ∷ filter (λ q. not (eqb q.number number)) (map read_view reads)) (filter (λ q. not (eqb q.number number)) (map read_view reads))) (ne_eqb r.number number other))
    by (r ∷ reads) (suc at) lt other = ap (λ (rs : List PendingRead). read_view r ∷ rs) (by reads at (omega (arith, lt)) other)

-- or of this one
pub drops_there : (number : ℕ) (reads : List ReadEntry) (at : ℕ) (d : ReadEntry) → at < length reads → (get_or reads at d).number ≡ number → left_from number at (map read_view (remove reads at)) ≡ left_from number at (map read_view reads)
drops_there number [] at d lt own = absurd (omega (arith, lt))
drops_there number (r ∷ reads) zero d lt own =
    sym (ap (λ (b : Bool). cond (not b) (read_view r ∷ filter (λ q. not (eqb q.number number)) (map read_view reads)) (filter (λ q. not (eqb q.number number)) (map read_view reads))) (eq-eqb r.number number own))
drops_there number (r ∷ reads) (suc at) d lt own = ap (λ (rs : List PendingRead). read_view r ∷ rs) (drops_there number reads at d (omega (arith, lt)) own)

pub all_dropped : (number : ℕ) (reads : List ReadEntry) (at : ℕ) (all : List PendingRead) → length reads ≤ at → left_from number at (map read_view reads) ≡ all → map read_view reads ≡ all
all_dropped number reads at all le is =
    let len : length (map read_view reads) ≡ length reads = length-map reads read_view in
    sym (append-nil (map read_view reads))
    ∙ sym (λ i. take_all at (map read_view reads) (omega (arith, le, len)) i ++ filter (λ r. not (eqb r.number number)) (drop_all at (map read_view reads) (omega (arith, le, len)) i))
    ∙ is
