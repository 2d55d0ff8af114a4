-- A call that waits is sent again: a requester keeps the client of the marks with that Submit.
use Rattle.std.proofs.Common.{◌≡◌, ℕ, ◌+◌, ◌≤◌, List, [], ◌∷◌, ◌++◌, length, None, refl, sym, ap, subst, ◌∙◌, arith, append-nil, length-append}
use Rattle.nr_wire.specs.declared.hello.Side.TheVariants.{Initiator, Responder}
use Rattle.nr_link.specs.Input.{input_count}
use Rattle.nr_link.proofs.Inputs.{input_of_count}
use Rattle.nr_endpoint.specs.SendQueue.{writable, with_held_sent}
use Rattle.nr_reduce.specs.declared.call.Submission.TheVariants as submissions
use Rattle.nr_reduce.specs.declared.mark.LinkParameters.{LinkParameters}
use Rattle.nr_reduce.specs.declared.mark.Mark.{Mark}
use Rattle.nr_reduce.specs.declared.mark.Mark.TheVariants as marks
use Rattle.nr_reduce.specs.History.{bytes_received, bytes_sent}
use Rattle.nr_reduce.specs.Events.{RunEvent}
use Rattle.nr_reduce.specs.Events.RunEvent.{CallSubmitted}
use Rattle.nr_reduce.specs.EndRules.{EndState, next_end_state, end_state_after, output_for, output_for_all}
use Rattle.nr_reduce.specs.Written as reduce
use Rattle.nr_reduce.specs.ClientState.{WaitingCall, ClientState}
use Rattle.nr_reduce.specs.Client.{client_rules, client_end, client_output}
use Rattle.nr_reduce.specs.Run.{client, output_due}
use Rattle.nr_reduce.specs.KeptClient.{KeptClient, ClientKeeps, kept_resent}
use Rattle.nr_reduce.specs.Standing.{input_events}
use Rattle.nr_reduce.specs.StandingLaws.{GoesOn}
use Rattle.nr_reduce.proofs.Standing.{client_stands}
use Rattle.nr_reduce.proofs.Submits.{kept_resends}
use Rattle.nr_reduce.proofs.CountedBytes.{client_bytes_due, client_bytes_written}
use Rattle.nr_requester.specs.RequesterState.{RequesterSide, queue_of, kept_client, input_kept}
use Rattle.nr_requester.specs.Standing.{LinkKeeps, KeepsClient, waiting_message}
use Rattle.nr_requester.specs.Resends.{after_resend}
use Rattle.nr_requester.proofs.Links.{accepted_again, sent_is, link_resent, queue_resent}
use Rattle.nr_requester.proofs.Marks.{state_of, lives_as, own_events, state_next}
use Rattle.nr_requester.proofs.Accepting.{same_input}

module _ (opened : LinkParameters) (link : ℕ) (h : RequesterSide) (run : List Mark) (w : WaitingCall) (ws : List WaitingCall) (s : KeepsClient opened link h run) (none : h.state.side.ended ≡ None) (first : (state_of opened link run).waiting ≡ w ∷ ws) where
  abbrev k : ClientState
  k = state_of opened link run

  abbrev count : ℕ
  count = length (bytes_received link Initiator run)

  abbrev pub resend : Mark
  resend = marks.Submit link w.call w.form (submissions.Accepted w.xid)

  abbrev event : RunEvent
  event = CallSubmitted count (accepted_again w)

  abbrev pub after : RequesterSide
  after = after_resend h (waiting_message opened w)

  stays : (client opened link run).ended ≡ None
  stays = sym s.kept.keeps.ended ∙ none

  keeps : LinkKeeps opened h.state.side k
  keeps = s.side none

  due : k.due ≡ k.written + length (queue_of h.state)
  due =
      (let due = client_bytes_due opened link run stays in
      let wrote = client_bytes_written opened link run stays in
      let all : length (bytes_sent link Initiator run ++ queue_of h.state) ≡ length (output_due opened link Initiator run) = ap (λ (xs : List ℕ). length xs) s.kept.output in
      omega (arith, due, wrote, all, length-append (bytes_sent link Initiator run) (queue_of h.state)))

  left_few : reduce.ends_written k.written k.send_ends ≤ k.sends
  left_few = (let sent = sent_is opened h.state.side k keeps (omega (arith, due)) in let left = keeps.left in omega (arith, sent, left))

  kept_next : ClientKeeps opened (kept_client after.state) (next_end_state (client_rules opened) (client opened link run) event) count
  unfolding kept_resent after_resend
  kept_next =
      subst (λ (e : EndState ClientState). ClientKeeps opened (kept_resent (kept_client h.state)) (next_end_state (client_rules opened) e event) count) (sym (lives_as (client opened link run) stays))
      (kept_resends opened (kept_client h.state) k count w ws (subst (λ (e : EndState ClientState). ClientKeeps opened (kept_client h.state) e count) (lives_as (client opened link run) stays) s.kept.keeps) first (omega (arith, due)) left_few)

  queue_next : queue_of after.state ≡ queue_of h.state ++ client_output opened k event
  unfolding after_resend
  queue_next = queue_resent opened h.state.side k count w ws keeps first due

  output_next : output_for (client_rules opened) (client opened link run) event ≡ client_output opened k event
  unfolding client_end
  output_next = ap (λ (e : EndState ClientState). output_for (client_rules opened) e event) (lives_as (client opened link run) stays)

  at : input_count (input_kept h) ≡ count
  at = ap input_count (s.kept.received stays) ∙ input_of_count Responder (bytes_received link Initiator run)

  events_are : input_events link Initiator (input_kept h) resend ≡ event ∷ []
  events_are = own_events link (CallSubmitted (input_count (input_kept h)) (accepted_again w) ∷ []) ∙ ap (λ (n : ℕ). CallSubmitted n (accepted_again w) ∷ []) at

  goes_on : GoesOn (ClientKeeps opened) (client_rules opened) link Initiator (kept_client after.state) (input_kept h) (queue_of h.state) (queue_of after.state) resend (client opened link run) count
  goes_on =
      let zero_more : count ≡ count + 0 = omega arith in
      record {
        keeps = subst (λ (n : ℕ). ClientKeeps opened (kept_client after.state) (end_state_after (client_rules opened) (client opened link run) (input_events link Initiator (input_kept h) resend)) n) zero_more
            (subst (λ (es : List RunEvent). ClientKeeps opened (kept_client after.state) (end_state_after (client_rules opened) (client opened link run) es) count) (sym events_are) kept_next);
        output = queue_next
            ∙ ap (λ (xs : List ℕ). queue_of h.state ++ xs) (sym output_next ∙ sym (append-nil (output_for (client_rules opened) (client opened link run) event)))
            ∙ ap (λ (es : List RunEvent). queue_of h.state ++ output_for_all (client_rules opened) (client opened link run) es) (sym events_are);
      }

  side_next : LinkKeeps opened after.state.side (state_of opened link (run ++ resend ∷ []))
  unfolding client_end after_resend
  side_next =
      subst (λ (x : ClientState). LinkKeeps opened (record h.state.side { send_queue = with_held_sent (waiting_message opened w) h.state.side.send_queue }) x)
      (sym (state_next opened link run resend event stays (own_events link (event ∷ [])) refl))
      (link_resent opened h.state.side k count w ws keeps first due)

  pub resend_keeps : KeepsClient opened link after (run ++ resend ∷ [])
  unfolding after_resend
  resend_keeps = record {
    wished = s.wished;
    resumes = s.resumes;
    kept = client_stands opened link (kept_client h.state) (kept_client after.state) (input_kept h) (input_kept after) (queue_of h.state) (queue_of after.state) run resend s.kept goes_on
        (λ lives_on. same_input link run (input_kept h) (s.kept.received stays));
    sent = λ lives_on. s.sent none;
    side = λ lives_on. side_next;
  }
