-- What a responder counts is what the server of a run does.
use Rattle.std.proofs.Common.{◌≡◌, ℕ, ◌+◌, List, [], ◌∷◌, ◌++◌, length, Some, None, Ok, Err, ap, subst, ◌∙◌, arith, inl, inr}
use Rattle.std.specs.Prelude.{◌≢◌, Result, IfOk, OnOk}
use Rattle.nr_link.specs.Agreement.{IsSendLimit}
use Rattle.nr_link.specs.Input.{InputState}
use Rattle.nr_link.specs.SegmentFaults.{is_begun}
use Rattle.nr_link.specs.declared.end.End.TheVariants as ends
use Rattle.nr_outside.specs.declared.moment.Moment.{Moment}
use Rattle.nr_reduce.specs.declared.mark.LinkParameters.{LinkParameters}
use Rattle.nr_reduce.specs.declared.mark.Mark.{Mark}
use Rattle.nr_reduce.specs.declared.mark.Mark.TheVariants as marks
use Rattle.nr_reduce.specs.EndRules.{EndState}
use Rattle.nr_reduce.specs.Plans.{one_if}
use Rattle.nr_reduce.specs.Run.{server}
use Rattle.nr_reduce.specs.ServerState.{PendingCall, ServerState, receives_in_use}
use Rattle.nr_reduce.specs.Served.{IsExecuted}
use Rattle.nr_responder.specs.declared.call.Sent.{Sent}
use Rattle.nr_responder.specs.Answering.{Answers}
use Rattle.nr_responder.specs.ResponderState.{ResponderSide, end_of, unsent}
use Rattle.nr_responder.specs.Keeping.{Keeps, KeepsAgreed, KeepsEnd}
use Rattle.nr_responder.specs.Standing.{RepresentsServer, RepresentsSome, ResponderRepresents}
use Rattle.nr_responder.proofs.Answered.{answered_stands}
use Rattle.nr_responder.proofs.Fed.{not_ended_lem}
use Rattle.nr_responder.proofs.FrameEnds.{in_use, waiting_is}
use Rattle.nr_responder.proofs.Frames.{keeps_agreed}
use Rattle.nr_responder.proofs.Marks.{represents}
use Rattle.nr_responder.proofs.SendFrames.{begun_fine}

pub calls_of_run : (opened : LinkParameters) (link : ℕ) (run : List Mark) (v : ResponderSide) → end_of v ≢ Some ends.Memory → ResponderRepresents opened link run v → length v.calls ≡ length (server opened link run).state.calls
calls_of_run opened link run v other (inr out) = absurd (other out.output.0)
calls_of_run opened link run v other (inl h) =
    ap (λ (cs : List PendingCall). length cs) (kept h.keeps) ∙ ap (λ (e : EndState ServerState). length e.state.calls) h.stands.keeps
  where
    kept : KeepsEnd opened h.end h.input v → v.calls ≡ h.end.state.calls
    kept (inl live) = live.1.calls
    kept (inr ended) = ended.calls

pub in_use_of_run : (opened : LinkParameters) (link : ℕ) (run : List Mark) (v : ResponderSide) → end_of v ≡ None → ResponderRepresents opened link run v →
    length v.calls + (unsent v.link.state + one_if (is_begun v.link.state.receive_queue.received.begun)) ≡ receives_in_use (server opened link run).state
in_use_of_run opened link run v live stands =
    let h : RepresentsServer opened link run v = represents opened link run v live stands in
    let k : ServerState = h.end.state in
    let keeps : Keeps opened k h.input v = (not_ended_lem opened h.end h.input v live h.keeps).1 in
    let begun = ap one_if (begun_fine opened k v.link.state keeps.link) in
    let used = in_use k (unsent v.link.state) (waiting_is k v.link.state.send_queue keeps.link.queue) in
    let count = ap (λ (cs : List PendingCall). length cs) keeps.calls in
    let own : length v.calls + (unsent v.link.state + one_if (is_begun v.link.state.receive_queue.received.begun)) ≡ receives_in_use k = omega (arith, begun, used, count) in
    own ∙ ap (λ (e : EndState ServerState). receives_in_use e.state) h.stands.keeps

-- an answer stands on by the execution of its call
pub answered_all : {E : Type 0} (r : Result Sent E) (v after : ResponderSide) (xid : ℕ) (reply : List ℕ) → end_of v ≡ None → IfOk r (λ (sent : Sent). Answers v after xid reply sent) →
    OnOk r ((opened : LinkParameters) (link : ℕ) (run : List Mark) (moment : Moment) (payload : List ℕ) (place : ℕ) → ResponderRepresents opened link run v → IsExecuted opened link run xid payload →
    ResponderRepresents opened link (run ++ marks.Execute link xid moment payload place reply ∷ []) after)
answered_all (Ok sent) v after xid reply live a = λ opened link run moment payload place h x. answered_stands opened link run v after xid moment payload place reply sent h live x a
answered_all (Err e) v after xid reply live a = tt

-- what is agreed is what the server of a run has agreed on
kept_agreed : (opened : LinkParameters) (end : EndState ServerState) (input : InputState) (v : ResponderSide) → KeepsEnd opened end input v → KeepsAgreed end.state v.link.state.agreed
kept_agreed opened end input v (inl live) = keeps_agreed opened end.state v.link.state v.link.state.place live.1.link live.1.server
kept_agreed opened end input v (inr ended) = ended.agreed

agreed_now : (opened : LinkParameters) (link : ℕ) (run : List Mark) (v : ResponderSide) → end_of v ≢ Some ends.Memory → ResponderRepresents opened link run v → KeepsAgreed (server opened link run).state v.link.state.agreed
agreed_now opened link run v other (inr out) = absurd (other out.output.0)
agreed_now opened link run v other (inl h) = subst (λ (e : EndState ServerState). KeepsAgreed e.state v.link.state.agreed) h.stands.keeps (kept_agreed opened h.end h.input v h.keeps)

pub agreed_of_run : (opened : LinkParameters) (link : ℕ) (run : List Mark) (v : ResponderSide) → end_of v ≢ Some ends.Memory → ResponderRepresents opened link run v →
    (v.link.state.agreed.up ≡ (server opened link run).state.up_max) × (v.link.state.agreed.down ≡ (server opened link run).state.down_max)
agreed_of_run opened link run v other h = (let a = agreed_now opened link run v other h in (a.up, a.down))

pub invalidates_of_run : (opened : LinkParameters) (link : ℕ) (run : List Mark) (v : ResponderSide) → end_of v ≢ Some ends.Memory → ResponderRepresents opened link run v →
    v.link.state.agreed.invalidates ≡ (server opened link run).state.invalidates
invalidates_of_run opened link run v other h = (agreed_now opened link run v other h).invalidates

-- it is from one unit to UNITS_MAX of them
pub agreed_limits : (v : ResponderSide) → RepresentsSome v → IsSendLimit v.link.state.agreed.up × IsSendLimit v.link.state.agreed.down
agreed_limits v s = by s.1.1.1
  where
    by : ResponderRepresents s.0 s.1.0 s.1.1.0 v → IsSendLimit v.link.state.agreed.up × IsSendLimit v.link.state.agreed.down
    by (inr out) = (out.agreed.up_limit, out.agreed.down_limit)
    by (inl h) = (let a = kept_agreed s.0 h.end h.input v h.keeps in (a.up_limit, a.down_limit))
