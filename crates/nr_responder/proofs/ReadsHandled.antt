-- A complete frame with the last segment of a Read Response, by what was made of the read.
use Rattle.std.proofs.Common.{◌≡◌, ℕ, ◌<◌, true, List, [], ◌∷◌, length, Some, None, refl, sym, ap, subst, ◌∙◌}
use Rattle.nr_wire.specs.declared.stream.Awaited.TheVariants.{Fpdu}
use Rattle.nr_link.specs.declared.end.End.TheVariants as ends
use Rattle.nr_link.specs.Input.{InputState}
use Rattle.nr_endpoint.specs.LinkState.{LinkState, LinkSide}
use Rattle.nr_endpoint.specs.Judging.{next_frame, with_frame, with_end_of}
use Rattle.nr_endpoint.specs.Calls.{after_call}
use Rattle.nr_endpoint.specs.Calls.Call.{NextEvent, Stop}
use Rattle.nr_reduce.specs.declared.mark.LinkParameters.{LinkParameters}
use Rattle.nr_reduce.specs.ServerState.{PendingRead, ReadyCall, ServerState, credit_word}
use Rattle.nr_responder.specs.ResponderState.{ResponderSide}
use Rattle.nr_responder.specs.Keeping.{Keeps}
use Rattle.nr_responder.specs.private.Handling.{on_link}
use Rattle.nr_responder.specs.private.ReadsDone.{ReadHandled, ended_as}
use Rattle.nr_responder.specs.private.ReadsDone.ReadHandled.{GoesOn, Readies, Stops, Refused}
use Rattle.nr_responder.proofs.SendFrames.{payloads_ready}
use Rattle.nr_responder.proofs.Frames.{behind, TakesFrame}
use Rattle.nr_responder.proofs.ReadCases.{waits_hold, ready_holds}
use Rattle.nr_responder.proofs.ReadsRefused.{refused_done}
use Rattle.nr_responder.proofs.ReadsTaken.{done_link_is, done_side, done_stopped, done_takes, found_same, no_more, nothing_effect, ready_effect, stops_effect}
use Rattle.nr_responder.proofs.Responses.{IsResponse}
use Rattle.nr_responder.proofs.Told.{stopped_is}

pub read_takes : (opened : LinkParameters) (k : ServerState) (so_far : InputState) (v after : ResponderSide) (frame : List ℕ) (x : PendingRead) (rest : List PendingRead) → Keeps opened k so_far v → 0 < v.link.state.place → 0 < length frame → (with_frame v.link.state Fpdu frame).ended ≡ None →
    (r : IsResponse v.link.state frame) → r.last ≡ true → k.reads ≡ x ∷ rest → ReadHandled (on_link v (after_call (record { awaited = Fpdu; rest = []; state = with_frame v.link.state Fpdu frame }) NextEvent)) x rest after → credit_word k ≡ v.credits.word →
    TakesFrame opened k (behind so_far frame) (next_frame v.link.state frame) v after
read_takes opened k so_far v after frame x rest h some long lives r is reads handled word =
    by (subst (λ (l : LinkSide). ReadHandled (on_link v l) x rest after) (done_link_is opened k so_far v frame h lives r is) handled)
  where
    s : LinkState
    s = v.link.state

    t : LinkState
    t = done_side s frame r.stag r.to r.payload

    by : ReadHandled (on_link v (record { awaited = Fpdu; rest = []; state = t })) x rest after → TakesFrame opened k (behind so_far frame) (next_frame s frame) v after
    by (GoesOn nothing is_after) =
        subst (λ (w : ResponderSide). TakesFrame opened k (behind so_far frame) (next_frame s frame) v w) (sym is_after)
        (done_takes opened k so_far v frame x rest [] [] h some long lives r is reads (nothing_effect opened k so_far v frame x rest h long r is reads nothing) (waits_hold k s.place x rest reads h.server)
        (no_more k.calls k.ready v.fetching.payloads h.payloads))
    by (Readies m is_after) =
        let q : ReadyCall = record { number = m.call.number; xid = m.call.xid; payload = m.payload } in
        subst (λ (w : ResponderSide). TakesFrame opened k (behind so_far frame) (next_frame s frame) v w) (sym is_after)
        (done_takes opened k so_far v frame x rest (q ∷ []) (Some m.payload ∷ []) h some long lives r is reads (ready_effect opened k so_far v frame x rest h long r is reads m)
        (ready_holds k s.place x rest m.call q reads (found_same k v x (Some m.call) h.calls m.complete.fine.found) m.complete.read refl refl h.server)
        (payloads_ready k.calls q (Some m.payload) k.ready v.fetching.payloads refl h.payloads))
    by (Stops reason other m fetching sinks fewer is_after) =
        let link : after_call (record { awaited = Fpdu; rest = []; state = t }) (Stop reason) ≡ record { awaited = Fpdu; rest = []; state = with_end_of (ends.Bad s.place reason) t } =
        stopped_is (record { awaited = Fpdu; rest = []; state = t }) t reason refl h.link.live in
        subst (λ (w : ResponderSide). TakesFrame opened k (behind so_far frame) (next_frame s frame) v w) (sym (is_after ∙ ap (λ (l : LinkSide). ended_as v l fetching) link))
        (done_stopped opened k so_far (behind so_far frame) v frame reason fetching h some long lives r (stops_effect opened k so_far v frame x rest reason h long r is reads m) other)
    by (Refused c is_after) =
        subst (λ (w : ResponderSide). TakesFrame opened k (behind so_far frame) (next_frame s frame) v w) (sym is_after)
        (refused_done opened k so_far v frame x rest h some long lives r is reads c word)
