-- A requester that sends a call again stands for one mark more.
use Rattle.std.proofs.Common.{◌≡◌, ℕ, ◌+◌, min, Bool, true, false, cond, List, [], ◌∷◌, ◌++◌, length, map, Option, None, refl, sym, ap, subst, ◌∙◌, arith, append_assoc}
use Rattle.std.specs.List.{AllByRecursion, Contains}
use Rattle.std.proofs.lemmas.List.Elements.{Contains-append_left}
use Rattle.nr_wire.specs.declared.hello.Side.TheVariants.{Initiator}
use Rattle.nr_link.specs.declared.end.End.{End}
use Rattle.nr_reduce.specs.declared.mark.LinkParameters.{LinkParameters}
use Rattle.nr_reduce.specs.declared.mark.Mark.{Mark}
use Rattle.nr_reduce.specs.Asked.{as_accepted, client_calls}
use Rattle.nr_reduce.specs.Events.{RunEvent, events, events_at}
use Rattle.nr_reduce.specs.Events.RunEvent.{CallSubmitted}
use Rattle.nr_reduce.specs.EndRules.{EndState, next_end_state}
use Rattle.nr_reduce.specs.History.{AcceptedCall, accepted_at, accepted_calls, bytes_received}
use Rattle.nr_reduce.specs.Resending.{resend_mark}
use Rattle.nr_reduce.specs.ClientState.{WaitingCall, ClientState}
use Rattle.nr_reduce.specs.Client.{client_rules, client_end, initial_client}
use Rattle.nr_reduce.specs.Run.{client}
use Rattle.nr_reduce.proofs.Standing.{itself}
use Rattle.nr_reduce.proofs.Steps.{end_state_after_append, events_one}
use Rattle.nr_reduce.proofs.Submits.{after_resent, resent_is}
use Rattle.nr_requester.specs.CountedMarks.{marks_max, marks_of}
use Rattle.nr_requester.specs.KeptAnswers.{KeepsAnswers, client_by, is_due}
use Rattle.nr_requester.specs.RequesterState.{RequesterState, RequesterSide}
use Rattle.nr_requester.specs.ReopenedLinks.{HasOwnCalls, own_side}
use Rattle.nr_requester.specs.Resends.{after_resend}
use Rattle.nr_requester.specs.Standing.{AnswersWith, KeepsClient, waiting_message}
use Rattle.nr_requester.proofs.AnswerSteps.{accepted_one, due_same}
use Rattle.nr_requester.proofs.CountedMarks.{counted_beside}
use Rattle.nr_requester.proofs.Links.{accepted_again}
use Rattle.nr_requester.proofs.Marks.{ended_as, own_events}
use Rattle.nr_requester.proofs.Resent.{resend_keeps}
use Rattle.nr_requester.proofs.ResentAnswers.{resent_answers, waits_asked}

-- the state of its client
resent_state : (opened : LinkParameters) (link : ℕ) (run : List Mark) (count : ℕ) (w : WaitingCall) (ws : List WaitingCall) → (client opened link run).ended ≡ None → (client opened link run).state.waiting ≡ w ∷ ws →
    (client_by opened (events link Initiator run ++ CallSubmitted count (accepted_again w) ∷ [])).state ≡ after_resent opened (client opened link run).state w ws
unfolding client client_end
resent_state opened link run count w ws stays first =
    let es : List RunEvent = events link Initiator run in
    let event : RunEvent = CallSubmitted count (accepted_again w) in
    ap (λ (e : EndState ClientState). e.state)
    (end_state_after_append (client_rules opened) (initial_client opened) es (event ∷ [])
    ∙ ap (λ (x : Option End). next_end_state (client_rules opened) (ended_as (client_by opened es) x) event) stays)
    ∙ resent_is opened (client_by opened es).state count w ws first

-- all its calls, with this one again
calls_again_more : (opened : LinkParameters) (link : ℕ) (run : List Mark) (w : WaitingCall) → client_calls opened link run ++ accepted_again w ∷ [] ≡ client_calls opened link (run ++ resend_mark link w ∷ [])
calls_again_more opened link run w =
    let own : accepted_at link (resend_mark link w) ≡ accepted_again w ∷ [] = ap (λ (b : Bool). cond b (accepted_again w ∷ []) []) (itself link) in
    append_assoc (map as_accepted opened.resumed) (accepted_calls link run) (accepted_again w ∷ [])
    ∙ ap (λ (xs : List AcceptedCall). map as_accepted opened.resumed ++ (accepted_calls link run ++ xs)) (sym own)
    ∙ ap (λ (xs : List AcceptedCall). map as_accepted opened.resumed ++ xs) (sym (accepted_one link run (resend_mark link w)))

-- what it stands for while some calls can still be sent again
pub record KeepsSoFar (is_own : ℕ → Bool) (earlier : ℕ) (opened : LinkParameters) (link : ℕ) (h : RequesterSide) (run : List Mark) : Type 0 where
  pub keeps : KeepsClient opened link h run
  pub calls : HasOwnCalls is_own h.state
  pub answers : AnswersWith (map as_accepted opened.resumed) opened link (own_side is_own h) run
  pub counted : h.marks ≡ min (earlier + marks_of link run) marks_max

module _ (is_own : ℕ → Bool) (earlier : ℕ) (opened : LinkParameters) (link : ℕ) (h : RequesterSide) (run : List Mark) (w : WaitingCall) (ws : List WaitingCall) (s : KeepsSoFar is_own earlier opened link h run) (none : h.state.side.ended ≡ None) (first : (client opened link run).state.waiting ≡ w ∷ ws) where
  abbrev es : List RunEvent
  es = events link Initiator run

  abbrev mark : Mark
  mark = resend_mark link w

  abbrev count : ℕ
  count = length (bytes_received link Initiator run)

  abbrev event : RunEvent
  event = CallSubmitted count (accepted_again w)

  abbrev after : RequesterSide
  after = after_resend h (waiting_message opened w)

  abbrev kept : RequesterState
  kept = (own_side is_own after).state

  asked_before : Contains (client_calls opened link run) (accepted_again w)
  asked_before =
      Contains-append_left (map as_accepted opened.resumed) (accepted_calls link run) (accepted_again w)
      (subst (λ (xs : List WaitingCall). AllByRecursion (λ (x : WaitingCall). Contains (map as_accepted opened.resumed) (accepted_again x)) xs) first (waits_asked opened link run)).0

  stays : (client opened link run).ended ≡ None
  stays = sym s.keeps.kept.keeps.ended ∙ none

  by_one : KeepsAnswers opened (es ++ event ∷ []) (is_due link (run ++ mark ∷ [])) (client_calls opened link run ++ accepted_again w ∷ []) kept
  unfolding after_resend client
  by_one =
      resent_answers opened es count (is_due link run) (is_due link (run ++ mark ∷ [])) (client_calls opened link run) w ws (own_side is_own h).state after.state.side after.state.sends first
      (resent_state opened link run count w ws stays first) (due_same link run mark (λ x. refl)) asked_before s.answers

  answers_next : AnswersWith (map as_accepted opened.resumed) opened link (own_side is_own after) (run ++ mark ∷ [])
  answers_next =
      subst (λ (xs : List RunEvent). KeepsAnswers opened xs (is_due link (run ++ mark ∷ [])) (client_calls opened link (run ++ mark ∷ [])) kept) (ap (λ (xs : List RunEvent). es ++ xs) (sym (own_events link (event ∷ []))) ∙ sym (events_one link Initiator run mark))
      (subst (λ (xs : List AcceptedCall). KeepsAnswers opened (es ++ event ∷ []) (is_due link (run ++ mark ∷ [])) xs kept) (calls_again_more opened link run w) by_one)

  pub resend_so_far : KeepsSoFar is_own earlier opened link (after_resend h (waiting_message opened w)) (run ++ resend_mark link w ∷ [])
  unfolding after_resend
  resend_so_far = record {
    keeps = resend_keeps opened link h run w ws s.keeps none first;
    calls = record { outstanding = s.calls.outstanding; to_come = s.calls.to_come };
    answers = answers_next;
    counted = counted_beside earlier link run mark h.marks true (itself link) s.counted;
  }
