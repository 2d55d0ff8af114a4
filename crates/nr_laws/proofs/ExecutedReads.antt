-- On a matched link a call is executed with the payload that its form conveys.
use Rattle.std.proofs.Common.{◌≡◌, ℕ, ◌+◌, true, false, List, [], ◌∷◌, ◌++◌, Option, None, Some, Ok, refl, sym, ap, subst, ◌∙◌, append_assoc, inl, inr}
use Rattle.nr_wire.specs.declared.hello.Side.TheVariants.{Responder}
use Rattle.nr_wire.specs.Segment.{Segment}
use Rattle.nr_link.specs.declared.end.End.{End as Stop}
use Rattle.nr_link.specs.Frames.{Frame, is_hello}
use Rattle.nr_link.specs.Ending.{frame_segment}
use Rattle.nr_reduce.specs.declared.mark.Mark.{Mark}
use Rattle.nr_reduce.specs.declared.mark.LinkParameters.{LinkParameters}
use Rattle.nr_reduce.specs.ClientState.{call_payload}
use Rattle.nr_reduce.specs.Events.{RunEvent, events}
use Rattle.nr_reduce.specs.Events.RunEvent.{FrameReceived}
use Rattle.nr_reduce.specs.EndRules.{EndState, next_end_state_by, next_end_state_in, end_state_after}
use Rattle.nr_reduce.specs.Matched.{Matched}
use Rattle.nr_reduce.specs.Asked.{AskedSoFar}
use Rattle.nr_reduce.specs.Served.{ServedSoFar, IsExecuted}
use Rattle.nr_reduce.specs.ServerState.{ServerState}
use Rattle.nr_reduce.specs.Server.{server_rules, server_end, initial_server}
use Rattle.nr_reduce.specs.RunLaws.{server_by}
use Rattle.nr_reduce.proofs.Touches.{server_touched}
use Rattle.nr_reduce.proofs.Steps.{end_state_after_append}
use Rattle.nr_laws.specs.Typed.{IsTyped}
use Rattle.nr_laws.specs.Payloads.{form_conveyed}
use Rattle.nr_laws.proofs.EventOutputs.{GoesOn, later_preserve}
use Rattle.nr_laws.proofs.CallsAtFrames.{conveyed_by_message, conveyed_by_read}
use Rattle.nr_laws.proofs.ClientRun.{WasSubmitted}
use Rattle.nr_laws.proofs.ExecutedCalls.{live_server, live_part}
use Rattle.nr_laws.proofs.ReceivedMessages.{live_first}
use Rattle.nr_laws.proofs.HeldChunks.{server_good}
use Rattle.nr_laws.proofs.ReadyCauses.{ReadyBy, ReadyAt, ready_by, executed_ready}
use Rattle.nr_laws.proofs.ReadyCauses.ReadyBy.{AtMessage, AtRead}
use Rattle.nr_laws.proofs.ServerAlong.{ServerGood, FrameGood}

-- ---- The call

pub record ReadCall (opened : LinkParameters) (link : ℕ) (before : List Mark) (number : ℕ) (payload : List ℕ) : Type 0 where
  pub index : ℕ
  pub message : List ℕ
  pub submitted : WasSubmitted opened link before index message
  pub number_is : number ≡ index + 1
  pub conveyed : form_conveyed submitted.form (call_payload submitted.xid submitted.call) ≡ Some payload

stays_by : (opened : LinkParameters) (k : ServerState) (e : RunEvent) (ended : Option Stop) → ended ≡ None → (next_end_state_in (server_rules opened) k e ended).ended ≡ None → server_end opened k e ≡ None
stays_by opened k e (Some end) is live = absurd cc
stays_by opened k e None is live = by (server_end opened k e) refl live
  where
    by : (o : Option Stop) → server_end opened k e ≡ o → (next_end_state_by (server_rules opened) k e o).ended ≡ None → server_end opened k e ≡ None
    by None same live = same
    by (Some end) same live = absurd cc

is_segment_lem : (f : Frame) → is_hello f ≡ false → FrameGood f → (s : Segment) × (frame_segment f ≡ Ok s)
is_segment_lem f behind (inl h) = absurd (let t : true ≡ false = sym h.0 ∙ behind in cc)
is_segment_lem f behind (inr (s, b, is)) = (s, is)

pub read_call_lem : (opened : LinkParameters) (link : ℕ) (before : List Mark) (xid : ℕ) (payload : List ℕ) → IsTyped before → AskedSoFar opened link before → ServedSoFar opened link before → Matched link before → (h : IsExecuted opened link before xid payload)
    → ReadCall opened link before h.call.number payload
read_call_lem opened link before xid payload typed asked served matched h =
    let ra = executed_ready opened link before xid payload h in
    let es : List RunEvent = events link Responder before in
    let whole : es ≡ (ra.earlier ++ FrameReceived ra.frame ∷ []) ++ ra.later = ra.is ∙ sym (append_assoc ra.earlier (FrameReceived ra.frame ∷ []) ra.later) in
    let after = live_part opened link before (ra.earlier ++ FrameReceived ra.frame ∷ []) ra.later whole (live_server opened link before h.call h.is_next) in
    let live = live_first (server_rules opened) (initial_server opened) ra.earlier (FrameReceived ra.frame ∷ []) after in
    let r = end_state_after (server_rules opened) (initial_server opened) ra.earlier in
    let stays = stays_by opened r.state (FrameReceived ra.frame) r.ended live (ap (λ (x : EndState ServerState). x.ended) (sym (end_state_after_append (server_rules opened) (initial_server opened) ra.earlier (FrameReceived ra.frame ∷ []))) ∙ after) in
    let good = later_preserve (server_rules opened) ServerGood 0 (initial_server opened) ra.earlier (FrameReceived ra.frame ∷ ra.later) (subst (λ (ev : List RunEvent). GoesOn (server_rules opened) ServerGood 0 (initial_server opened) ev) ra.is (server_good opened link before typed asked served matched)) in
    let s = is_segment_lem ra.frame ra.behind good.1 in
    by ra s.0 s.1 live stays (ready_by (server_by opened ra.earlier) ra.frame s.0 h.call s.1 ra.ready)
  where
    by : (ra : ReadyAt opened (events link Responder before) h.call) (s : Segment) → frame_segment ra.frame ≡ Ok s → (end_state_after (server_rules opened) (initial_server opened) ra.earlier).ended ≡ None → server_end opened (server_by opened ra.earlier) (FrameReceived ra.frame) ≡ None
        → ReadyBy (server_by opened ra.earlier) ra.frame s h.call → ReadCall opened link before h.call.number payload
    by ra s is live stays (AtMessage message c whole v read conveyed) =
        let x = conveyed_by_message opened link before typed asked served matched ra.earlier ra.frame ra.later s ra.is ra.behind is live message c whole v read in
        record { index = x.index; message = x.message; submitted = x.submitted; number_is = conveyed.number ∙ x.number; conveyed = sym x.conveyed ∙ conveyed.payload ∙ ap (λ (y : List ℕ). Some y) (sym h.conveyed) }
    by ra s is live stays (AtRead q rest c ends reads found read conveyed) =
        let allowed = server_touched opened (server_by opened ra.earlier) ra.frame s ra.behind is stays in
        let x = conveyed_by_read opened link before typed asked served matched ra.earlier ra.frame ra.later s ra.is ra.behind is live allowed q rest c ends reads found read in
        record { index = x.index; message = x.message; submitted = x.submitted; number_is = conveyed.number ∙ x.number; conveyed = sym x.conveyed ∙ conveyed.payload ∙ ap (λ (y : List ℕ). Some y) (sym h.conveyed) }
