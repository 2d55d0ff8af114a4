-- What a clock in memory gave.
use Rattle.std.proofs.Common.{◌≡◌, Some, None, Bool, true, false, suc, arith, refl, ap, nat_lt}
use Rattle.std.specs.Prelude.{if◌then◌else◌}
use Rattle.std.proofs.lemmas.Bool.{ltb-true, lt-ltb}
use Rattle.std.proofs.Math.Numerals.{suc-eq-add-one}
use Rattle.nr_outside.specs.Faults.{last_count, next_count}
use Rattle.nr_links.specs.Moments.{Gives}
use Rattle.nr_links.specs.MemClock.{MemClockState, moment_at, first_moments, after_moment, given_by}
use Rattle.nr_outside.specs.declared.moment.Moment.{Moment}

gives_by : (c : MemClockState) (b : Bool) → nat_lt (next_count c.count) last_count ≡ b
    → Gives (given_by c) (if b then Some (first_moments c.moments (next_count c.count)) else None) (moment_at c.moments c.count)
gives_by c false more = tt
gives_by c true more =
    let below = ltb-true (next_count c.count) last_count more in
    let next : next_count c.count ≡ suc c.count = omega (arith, below, suc-eq-add-one c.count) in
    let before : nat_lt c.count last_count ≡ true = lt-ltb c.count last_count (omega (arith, below)) in (
      first_moments c.moments c.count,
      ap (λ b. if b then Some (first_moments c.moments c.count) else None) before,
      ap (first_moments c.moments) next,
    )

pub gives_moment : (c c' : MemClockState) (m : Moment) → m ≡ moment_at c.moments c.count → c' ≡ after_moment c → Gives (given_by c) (given_by c') m
gives_moment c c' m is next = rw (is, next) (gives_by c (nat_lt (next_count c.count) last_count) refl)
