-- The call of each Execute is pending at its server, whatever the client sends.
use Rattle.std.proofs.Common.{◌≡◌, ℕ, true, eqb, List, ◌∷◌, ◌++◌, subst}
use Rattle.std.specs.List.{list_any}
use Rattle.nr_wire.specs.declared.hello.Side.TheVariants.{Responder}
use Rattle.nr_reduce.specs.declared.mark.Mark.{Mark}
use Rattle.nr_reduce.specs.declared.mark.LinkParameters.{LinkParameters}
use Rattle.nr_reduce.specs.History.{ExecutedCall}
use Rattle.nr_reduce.specs.Events.{RunEvent, events}
use Rattle.nr_reduce.specs.Events.RunEvent.{CallExecuted}
use Rattle.nr_reduce.specs.EndRules.{end_state_after}
use Rattle.nr_reduce.specs.ServerState.{PendingCall}
use Rattle.nr_reduce.specs.Server.{server_rules, initial_server}
use Rattle.nr_reduce.specs.Served.{ServedSoFar}
use Rattle.nr_reduce.specs.RunLaws.{server_by}
use Rattle.nr_laws.specs.Typed.{IsTyped}
use Rattle.nr_laws.proofs.EventOutputs.{GoesOn, later_preserve}
use Rattle.nr_laws.proofs.PendingExecuted.{executed_there}
use Rattle.nr_laws.proofs.KeptAtServer.{kept_at_server}
use Rattle.nr_laws.proofs.ServerAlong.{IsGoodExecution, ServerPlain}
use Rattle.nr_laws.proofs.ServerSide.{server_goes}

pub executes_pending : (opened : LinkParameters) (link : ℕ) (run : List Mark) → IsTyped run → ServedSoFar opened link run → (es : List RunEvent) (e : ExecutedCall) (more : List RunEvent) → events link Responder run ≡ es ++ CallExecuted e ∷ more
    → list_any (λ (c : PendingCall). eqb c.xid e.xid) (server_by opened es).calls ≡ true
executes_pending opened link run typed served es e more is =
    let rules = server_rules opened in
    let g = server_goes opened link run typed served in
    let goes : GoesOn rules ServerPlain 0 (initial_server opened) (es ++ CallExecuted e ∷ more) = subst (λ (xs : List RunEvent). GoesOn rules ServerPlain 0 (initial_server opened) xs) is g.goes in
    let rest = later_preserve rules ServerPlain 0 (initial_server opened) es (CallExecuted e ∷ more) goes in
    let x : IsGoodExecution (end_state_after rules (initial_server opened) es) e = rest.1 in
    executed_there (server_by opened es) e.xid x.call x.others (kept_at_server opened link run typed served es (CallExecuted e ∷ more) is).agree x.is_next x.xid
