-- What a peer accesses is allowed, or ends the side.
use Rattle.std.proofs.Common.{◌≡◌, List, ◌∷◌, Option, None, Some, refl, ap, ◌∙◌, inl, inr, ◌⊎◌}
use Rattle.nr_regions.specs.Access.{Allowed}
use Rattle.nr_link.specs.declared.end.End.{End as Stop}
use Rattle.nr_link.specs.Frames.{Frame}
use Rattle.nr_reduce.specs.Events.{RunEvent}
use Rattle.nr_reduce.specs.Events.RunEvent.{FrameReceived}
use Rattle.nr_reduce.specs.EndRules.{EndMachine, EndState, next_end_state, next_end_state_by, next_end_state_in, end_state_after}
use Rattle.nr_reduce.specs.OfferedRegions.{region_grants}
use Rattle.nr_reduce.specs.Client.{client_rules, client_end, initial_client}
use Rattle.nr_reduce.specs.Server.{server_rules, server_end, initial_server}
use Rattle.nr_reduce.specs.Run.{client, server}
use Rattle.nr_reduce.specs.ClientState.{ClientState}
use Rattle.nr_reduce.specs.ServerState.{ServerState}
use Rattle.nr_reduce.proofs.Touches.{client_allows, server_allows}
use Rattle.nr_reduce.proofs.Steps.{ended_stays, end_state_after_append}
use Rattle.nr_laws.specs.Touches.{StopsAt, ClientAccessesAreAllowed, ServerAccessesAreAllowed}

-- a frame that ends an end leaves what it knew
stops : {S : Type 0} (rules : EndMachine S) (r : EndState S) (f : Frame) (later : List RunEvent) (end : Stop) → r.ended ≡ None → rules.end_at r.state (FrameReceived f) ≡ Some end → StopsAt rules r f (end_state_after rules r (FrameReceived f ∷ later))
stops {S} rules r f later end live is =
    let one : next_end_state rules r (FrameReceived f) ≡ record { state = r.state; ended = Some end } =
    ap (λ (o : Option Stop). next_end_state_in rules r.state (FrameReceived f) o) live ∙ ap (λ (o : Option Stop). next_end_state_by rules r.state (FrameReceived f) o) is in
    let all : end_state_after rules r (FrameReceived f ∷ later) ≡ record { state = r.state; ended = Some end } =
    ap (λ (x : EndState S). end_state_after rules x later) one ∙ (ended_stays rules r.state end later).0 in
    record { end = end; stops = one; stays = all }

pub client_touched : ClientAccessesAreAllowed
unfolding client
client_touched opened link run earlier later f segment access is live behind own asks = by (client_end before.state (FrameReceived f)) refl
  where
    before : EndState ClientState
    before = end_state_after (client_rules opened) (initial_client opened) earlier

    whole : client opened link run ≡ end_state_after (client_rules opened) before (FrameReceived f ∷ later)
    whole = ap (λ (es : List RunEvent). end_state_after (client_rules opened) (initial_client opened) es) is ∙ end_state_after_append (client_rules opened) (initial_client opened) earlier (FrameReceived f ∷ later)

    by : (o : Option Stop) → client_end before.state (FrameReceived f) ≡ o → Allowed (region_grants f.end before.state.regions) access f.end ⊎ StopsAt (client_rules opened) before f (client opened link run)
    by None e = inl (client_allows opened earlier f segment access behind own asks e)
    by (Some end) e =
        let s = stops (client_rules opened) before f later end live e in
        inr (record { end = s.end; stops = s.stops; stays = whole ∙ s.stays })

pub server_touched : ServerAccessesAreAllowed
unfolding server
server_touched opened link run earlier later f segment access is live behind own asks = by (server_end opened before.state (FrameReceived f)) refl
  where
    before : EndState ServerState
    before = end_state_after (server_rules opened) (initial_server opened) earlier

    whole : server opened link run ≡ end_state_after (server_rules opened) before (FrameReceived f ∷ later)
    whole = ap (λ (es : List RunEvent). end_state_after (server_rules opened) (initial_server opened) es) is ∙ end_state_after_append (server_rules opened) (initial_server opened) earlier (FrameReceived f ∷ later)

    by : (o : Option Stop) → server_end opened before.state (FrameReceived f) ≡ o → Allowed (region_grants f.end before.state.regions) access f.end ⊎ StopsAt (server_rules opened) before f (server opened link run)
    by None e = inl (server_allows opened earlier f segment access behind own asks e)
    by (Some end) e =
        let s = stops (server_rules opened) before f later end live e in
        inr (record { end = s.end; stops = s.stops; stays = whole ∙ s.stays })
