-- An outcome of a client stays in its state.
use Rattle.std.proofs.Common.{ℕ, Bool, true, false, cond, List, [], ◌∷◌, ◌++◌, Option, None, Some, Result, Ok, Err, sym, subst, append_assoc, append-nil}
use Rattle.std.specs.List.{Contains}
use Rattle.std.proofs.lemmas.List.Elements.{Contains-append_left}
use Rattle.nr_wire.specs.declared.hello.Side.TheVariants.{Initiator}
use Rattle.nr_wire.specs.Segment.{Segment}
use Rattle.nr_link.specs.ReceiveState.{ReadRequest, message_completed, read_request_of}
use Rattle.nr_link.specs.Frames.{is_hello}
use Rattle.nr_reduce.specs.declared.mark.Mark.{Mark}
use Rattle.nr_reduce.specs.declared.mark.LinkParameters.{LinkParameters}
use Rattle.nr_reduce.specs.History.{CompletedCall}
use Rattle.nr_reduce.specs.Events.{RunEvent, events_at}
use Rattle.nr_reduce.specs.Events.RunEvent.{FrameReceived, CallSubmitted, MemoryRevoked, CallExecuted, QueueWritten, ServerTold}
use Rattle.nr_reduce.specs.EndRules.{EndState}
use Rattle.nr_reduce.specs.ClientState.{ClientState}
use Rattle.nr_reduce.specs.Client.{client_rules, client_state_after, outcomes_of, with_message, with_request, with_segment, with_hello, due_with_response, client_segment}
use Rattle.nr_reduce.specs.ClientMessages.{reply_verdict}
use Rattle.nr_reduce.specs.Run.{client}
use Rattle.nr_reduce.specs.StandingLaws.{OutcomesStay}
use Rattle.nr_reduce.proofs.Steps.{client_one}
use Rattle.nr_reduce.proofs.OwnStags.{kept_after}

outcome_kept : (opened : LinkParameters) (c : CompletedCall) (k : ClientState) (e : RunEvent) → Contains k.outcomes c → Contains (client_state_after opened k e).outcomes c
unfolding client_state_after
outcome_kept opened c k (FrameReceived f) h = by (is_hello f)
  where
    by_message : (m : Option (List ℕ)) (due : ℕ) (q : Option ReadRequest) → Contains (with_request (with_message k f.end m) due q).outcomes c
    by_message None due None = h
    by_message None due (Some q) = h
    by_message (Some m) due None = Contains-append_left k.outcomes (outcomes_of (reply_verdict k f.end m)) c h
    by_message (Some m) due (Some q) = Contains-append_left k.outcomes (outcomes_of (reply_verdict k f.end m)) c h

    by_segment : (r : Result Segment ℕ) → Contains (with_segment k f r).outcomes c
    by_segment (Err reason) = h
    by_segment (Ok segment) = by_message (message_completed k.received segment) (due_with_response k f segment) (read_request_of segment)

    by : (b : Bool) → Contains (cond b (with_hello opened k f) (with_segment k f (client_segment k f))).outcomes c
    by true = h
    by false = by_segment (client_segment k f)
outcome_kept opened c k (CallSubmitted place a) h = h
outcome_kept opened c k (MemoryRevoked place xid) h = h
outcome_kept opened c k (CallExecuted call) h = h
outcome_kept opened c k (QueueWritten taken) h = h
outcome_kept opened c k (ServerTold what) h = h

outcome_one : (opened : LinkParameters) (link : ℕ) (run : List Mark) (mark : Mark) (c : CompletedCall) → Contains (client opened link run).state.outcomes c → Contains (client opened link (run ++ mark ∷ [])).state.outcomes c
outcome_one opened link run mark c h =
    subst (λ (r : EndState ClientState). Contains r.state.outcomes c) (sym (client_one opened link run mark))
    (kept_after (client_rules opened) (λ (k : ClientState). Contains k.outcomes c) (outcome_kept opened c) (client opened link run) (events_at link Initiator run mark) h)

pub outcomes_stay : OutcomesStay
outcomes_stay opened link run [] c h = subst (λ (r : List Mark). Contains (client opened link r).state.outcomes c) (sym (append-nil run)) h
outcomes_stay opened link run (mark ∷ more) c h =
    subst (λ (r : List Mark). Contains (client opened link r).state.outcomes c) (append_assoc run (mark ∷ []) more)
    (outcomes_stay opened link (run ++ mark ∷ []) more c (outcome_one opened link run mark c h))
