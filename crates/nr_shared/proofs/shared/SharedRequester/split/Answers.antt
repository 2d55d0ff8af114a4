use Rattle.std.proofs.Common.{ap, sym, subst, ◌∙◌}
use Rattle.nr_shared.specs.Callers.{KeepsLaw}
use Rattle.nr_shared.proofs.Resting.{caller_same, new_caller}
use Rattle.nr_shared.proofs.shared.SharedRequester.split.Goals as goal

pub returns-clause-rests : goal.returns-clause-rests
returns-clause-rests g c =
    let r = c.requires in let u = c.split.ensures.unchanged in let v = c.split-2.ensures.unchanged in (
      record {
        main = (u.0.0 ∙ r.main.0, ap (λ m. m.1) u.1 ∙ r.main.1, ap (λ m. m.0.stage) u.1 ∙ r.main.2);
        source = (v.0.0 ∙ r.source.0, ap (λ m. m.1) v.1 ∙ r.source.1, ap (λ m. m.0.stage) v.1 ∙ r.source.2);
        initial_source = r.initial_source;
        has_seen = ap (λ m. m.0.seen) v.1 ∙ r.has_seen;
        home = r.home;
        caller = caller_same c.args.pass.now.main c.split.new.pass (ap (λ m. m.0.seen) u.1) (ap (λ m. m.0.mine) u.1) r.caller;
        law = subst KeepsLaw (sym (ap (λ m. m.0.seen) u.1)) r.law;
      },
      record {
        main = c.split.ensures.new.0;
        source = c.split-2.ensures.new.0;
        initial_source = r.initial_source;
        has_seen = ap (λ w. w.seen) c.split-2.ensures.new.1 ∙ r.has_seen;
        home = r.home;
        caller = new_caller c.split.result (ap (λ w. w.mine) c.split.ensures.new.1);
        law = subst KeepsLaw (sym (ap (λ w. w.seen) c.split.ensures.new.1)) r.law;
      },
    )

pub returns-clause-source : goal.returns-clause-source
returns-clause-source g c = (ap (λ m. m.0.seen) c.split-2.ensures.unchanged.1, ap (λ w. w.seen) c.split-2.ensures.new.1)
