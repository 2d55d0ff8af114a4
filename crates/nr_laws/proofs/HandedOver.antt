-- The frame of the message that brought an outcome.
use Rattle.std.proofs.Common.{ℕ, ◌<◌, List, ◌∷◌, subst}
use Rattle.nr_xdr.specs.Item.{IsBytes}
use Rattle.nr_reduce.specs.declared.mark.Mark.{Mark}
use Rattle.nr_reduce.specs.declared.mark.LinkParameters.{LinkParameters}
use Rattle.nr_reduce.specs.History.{CompletedCall}
use Rattle.nr_reduce.specs.Events.{RunEvent}
use Rattle.nr_reduce.specs.Events.RunEvent.{FrameReceived}
use Rattle.nr_reduce.specs.Client.{client_rules, initial_client}
use Rattle.nr_reduce.specs.Asked.{AskedSoFar}
use Rattle.nr_laws.specs.Typed.{IsTyped}
use Rattle.nr_laws.proofs.EventOutputs.{GoesOn, later_preserve, places_after}
use Rattle.nr_laws.proofs.ClientSays.{ClientGood}
use Rattle.nr_laws.proofs.ClientRun.{client_goes}
use Rattle.nr_laws.proofs.Outcomes.{OutcomeSaid}

-- it ends after what was received before, and is of bytes
pub outcome_frame : (opened : LinkParameters) (link : ℕ) (run : List Mark) (c : CompletedCall) → IsTyped run → AskedSoFar opened link run → (d : OutcomeSaid opened link run c) → (places_after 0 d.given.earlier < d.given.frame.end) × IsBytes d.given.frame.bytes
outcome_frame opened link run c typed asked d =
    let w = d.given in
    let g = client_goes opened link run typed asked in
    let rest = later_preserve (client_rules opened) (ClientGood opened) 0 (initial_client opened) w.earlier (FrameReceived w.frame ∷ w.later)
    (subst (λ (xs : List RunEvent). GoesOn (client_rules opened) (ClientGood opened) 0 (initial_client opened) xs) w.is g.goes) in
    let next = rest.0 in
    (next.1, next.2)
