use Rattle.std.proofs.Common.{ℕ, Some, sym, ap, ◌∙◌}
use Rattle.std.proofs.lemmas.Bool.{eqb-true}
use Rattle.nr_responder.proofs.fetching.has_one_position.Goals as goal

pub returns-in-Some : goal.returns-in-Some
returns-in-Some c = λ same.
    (sym c.are_at.ensures ∙ c.if-not-are_at.false, (c.if-position-eq0.false, sym (sym c.in-Some.is ∙ c.item_position.ensures) ∙ ap (λ (n : ℕ). Some n) (eqb-true c.in-Some.found c.args.position same)))
