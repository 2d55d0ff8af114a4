-- The event that ends a side.
use Rattle.std.proofs.Common.{◌≡◌, List, [], ◌∷◌, ◌++◌, Option, None, Some, refl, sym, ap, ◌∙◌}
use Rattle.nr_link.specs.declared.end.End.{End as Stop}
use Rattle.nr_reduce.specs.Events.{RunEvent}
use Rattle.nr_reduce.specs.EndRules.{EndMachine, EndState, next_end_state, next_end_state_by, next_end_state_in, end_state_after}
use Rattle.nr_reduce.proofs.Steps.{ended_stays}

pub record EndsAt {S : Type 0} (rules : EndMachine S) (start : EndState S) (es : List RunEvent) (end : Stop) : Type 0 where
  pub earlier : List RunEvent
  pub event : RunEvent
  pub later : List RunEvent
  pub is : es ≡ earlier ++ event ∷ later
  pub live : (end_state_after rules start earlier).ended ≡ None
  pub ends : rules.end_at (end_state_after rules start earlier).state event ≡ Some end

pub ends_at_lem : {S : Type 0} (rules : EndMachine S) (start : EndState S) (es : List RunEvent) (end : Stop) → start.ended ≡ None → (end_state_after rules start es).ended ≡ Some end → EndsAt rules start es end
ends_at_lem rules start [] end live e = absurd (let wrong : None ≡ Some end = sym live ∙ e in cc)
ends_at_lem {S} rules start (x ∷ es) end live e = by (rules.end_at start.state x) refl (λ next. ends_at_lem rules (next_end_state rules start x) es end next e)
  where
    step : next_end_state rules start x ≡ next_end_state_by rules start.state x (rules.end_at start.state x)
    step = ap (λ (o : Option Stop). next_end_state_in rules start.state x o) live

    by : (o : Option Stop) → rules.end_at start.state x ≡ o → ((next_end_state rules start x).ended ≡ None → EndsAt rules (next_end_state rules start x) es end) → EndsAt rules start (x ∷ es) end
    by None is rest =
        let r = rest (ap (λ (y : EndState S). y.ended) step ∙ ap (λ (o : Option Stop). (next_end_state_by rules start.state x o).ended) is) in
        record { earlier = x ∷ r.earlier; event = r.event; later = r.later; is = ap (λ (all : List RunEvent). x ∷ all) r.is; live = r.live; ends = r.ends }
    by (Some other) is rest =
        let next : next_end_state rules start x ≡ record { state = start.state; ended = Some other } = step ∙ ap (λ (o : Option Stop). next_end_state_by rules start.state x o) is in
        let stays : (end_state_after rules (next_end_state rules start x) es).ended ≡ Some other =
        ap (λ (y : EndState S). (end_state_after rules y es).ended) next ∙ ap (λ (y : EndState S). y.ended) (ended_stays rules start.state other es).0 in
        record { earlier = []; event = x; later = es; is = refl; live = live; ends = is ∙ sym stays ∙ e }
