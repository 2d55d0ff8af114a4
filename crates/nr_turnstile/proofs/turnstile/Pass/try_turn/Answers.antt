use Rattle.std.proofs.Common.{ℕ, refl, sym, ap, subst}
use mathlib.Core.Option.{some}
use Rattle.nr_turnstile.specs.declared.turnstile.Turnstile.{Turnstile}
use Rattle.nr_turnstile.specs.declared.turnstile.Pass.{Pass}
use Rattle.nr_turnstile.specs.Passes.{Gets}
use Rattle.nr_turnstile.specs.Turns.{turnstile_of}
use Rattle.nr_turnstile.proofs.turnstile.Pass.try_turn.Goals as goal

pub returns : goal.returns
returns g c = let s = g.M.Machine.stands in let k = g.M.Machine.closes in let parts = c.of.ensures.parts in (
  (ap (λ (n : ℕ). some n) (sym c.of.ensures.borrow), (λ w. refl), tt),
  record {
    busy = tt;
    borrow = c.of.ensures.borrow;
    got = (
      parts.0,
      subst (λ (q : Pass g.row.M.Denot g.row.M-Entry.Denot). Gets s k (turnstile_of c.of.result) c.args.self.now q) (sym parts.1)
          (subst (λ (t : Turnstile g.row.M.Denot g.row.M-Entry.Denot). Gets s k t c.args.self.now c.seize.new.pass) (sym parts.0) c.in_ok-seize.ensures.ok),
    );
  },
)
