use Rattle.std.proofs.Common.{◌≡◌, ◌+◌, ◌-◌, List, ℕ, [], ◌∷◌, ◌++◌, drop, take, sym, ap, subst, ◌∙◌}
use Rattle.nr_client.proofs.Pieces.{Pushed, empty_piece, name_pushed, too_long}
use Rattle.nr_client.proofs.path.push_components.Goals as goal
use Rattle.nr_client.proofs.path.push_components.Goals.{then-end-at+else-end-at-gt-COMPONENT_MAX+in-Ok+in-Ok-push, else-end-at}

pub returns-then-end-at-gt-COMPONENT_MAX-clause-pushes : goal.returns-then-end-at-gt-COMPONENT_MAX-clause-pushes
returns-then-end-at-gt-COMPONENT_MAX-clause-pushes c =
    too_long c.args.path.now c.loop-at.at c.piece_end-end.result c.piece_end-end.ensures.is c.piece_end-end.ensures.within c.args.names.now c.loop-at.names
    c.if-end-at.true c.if-end-at-gt-COMPONENT_MAX.true c.loop-at.invariant

pub loop-at-preserved : goal.loop-at-preserved
loop-at-preserved c =
    elim c.if-end-at.branch [
      | then-end-at+else-end-at-gt-COMPONENT_MAX+in-Ok+in-Ok-push w ↦
          let pushed : c.if-end-at.names ≡ c.loop-at.names ++ take (c.piece_end-end.result - c.loop-at.at) (drop c.loop-at.at c.args.path.now) ∷ [] =
          w.names-is ∙ w.in-Ok-push.ensures ∙ ap (λ (name : List ℕ). c.loop-at.names ++ name ∷ []) w.in-Ok.ensures in
          subst (λ (names : List (List ℕ)). Pushed c.args.names.now c.args.path.now names (c.piece_end-end.result + 1)) (sym pushed)
          (name_pushed c.args.path.now c.loop-at.at c.piece_end-end.result c.piece_end-end.ensures.is c.piece_end-end.ensures.within c.args.names.now c.loop-at.names
          w.if-end-at.true w.if-end-at-gt-COMPONENT_MAX.false c.loop-at.invariant)
      | else-end-at w ↦
          subst (λ (names : List (List ℕ)). Pushed c.args.names.now c.args.path.now names (c.piece_end-end.result + 1)) (sym w.names-is)
          (empty_piece c.args.path.now c.loop-at.at c.piece_end-end.result c.piece_end-end.ensures.is c.piece_end-end.ensures.within c.args.names.now c.loop-at.names
          w.if-end-at.false c.loop-at.invariant)
    ]
