-- A call is lost: its link ended, no message of it came, and it is handed back.
use Rattle.std.proofs.Common.{◌≡◌, ℕ, true, List, [], ◌∷◌, ◌++◌, length, Option, None, Some, refl, sym, ap, subst, ◌∙◌}
use Rattle.nr_wire.specs.declared.hello.Side.TheVariants.{Initiator}
use Rattle.nr_link.specs.declared.end.End.{End}
use Rattle.nr_reduce.specs.declared.mark.LinkParameters.{LinkParameters}
use Rattle.nr_reduce.specs.declared.mark.Mark.{Mark}
use Rattle.nr_reduce.specs.declared.mark.Mark.TheVariants as marks
use Rattle.nr_reduce.specs.History.{bytes_received}
use Rattle.nr_reduce.specs.Events.{RunEvent}
use Rattle.nr_reduce.specs.Events.RunEvent.{MemoryRevoked}
use Rattle.nr_reduce.specs.EndRules.{EndState, next_end_state, next_end_state_in}
use Rattle.nr_reduce.specs.ClientState.{ClientState}
use Rattle.nr_reduce.specs.Client.{client_rules}
use Rattle.nr_reduce.specs.Run.{client}
use Rattle.nr_reduce.specs.KeptClient.{KeptClient, ClientKeeps, kept_revoked}
use Rattle.nr_reduce.specs.Standing.{ClientRepresents}
use Rattle.nr_reduce.proofs.Releasing.{kept_revokes}
use Rattle.nr_requester.specs.RequesterState.{RequesterSide, queue_of, kept_client, input_kept}
use Rattle.nr_requester.specs.Standing.{KeepsClient}
use Rattle.nr_requester.specs.AfterCalls.{revoked_if, after_revoke}
use Rattle.nr_requester.specs.Takes.{LostIsAMark}
use Rattle.nr_requester.proofs.AnswerSteps.{revokes, given_state, given_mark, lost_gives}
use Rattle.nr_requester.proofs.KeptCalls.{kept_after_revoke}
use Rattle.nr_requester.proofs.Marks.{others_leave_client}
use Rattle.nr_reduce.proofs.Standing.{itself}
use Rattle.nr_requester.specs.CountedMarks.{counted_marks}
use Rattle.nr_requester.proofs.CountedMarks.{counted_more}

ended_state : (opened : LinkParameters) (e : EndState ClientState) (event : RunEvent) (end : End) → e.ended ≡ Some end → next_end_state (client_rules opened) e event ≡ e
ended_state opened e event end is =
    ap (λ (x : Option End). next_end_state_in (client_rules opened) e.state event x) is
    ∙ sym (ap (λ (x : Option End). ended_as e x) is)
  where
    ended_as : EndState ClientState → Option End → EndState ClientState
    ended_as r x = record { state = r.state; ended = x }

no_end : {X : Type 0} (end : End) → Some end ≡ None → X
no_end end e = absurd cc

pub lost_client : (opened : LinkParameters) (link : ℕ) (h : RequesterSide) (run : List Mark) (xid : ℕ) (end : End) → h.state.side.ended ≡ Some end → KeepsClient opened link h run → KeepsClient opened link (after_revoke h xid) run
unfolding after_revoke
lost_client opened link h run xid end is s =
    let count : ℕ = length (bytes_received link Initiator run) in
    let e : EndState ClientState = client opened link run in
    let same : next_end_state (client_rules opened) e (MemoryRevoked count xid) ≡ e = ended_state opened e (MemoryRevoked count xid) end (sym s.kept.keeps.ended ∙ is) in
    let keeps : ClientKeeps opened (kept_revoked (kept_client h.state) xid) e count =
    subst (λ (x : EndState ClientState). ClientKeeps opened (kept_revoked (kept_client h.state) xid) x count) same (kept_revokes opened (kept_client h.state) e count xid s.kept.keeps) in
    record {
      wished = s.wished;
      resumes = s.resumes;
      kept = subst (λ (x : KeptClient). ClientRepresents opened link x (input_kept h) (queue_of h.state) run) (kept_after_revoke h xid)
          (record { keeps = keeps; received = s.kept.received; output = s.kept.output });
      sent = λ none. no_end end (sym is ∙ none);
      side = λ none. no_end end (sym is ∙ none);
    }

pub lost_given : (h : RequesterSide) (xid : ℕ) → given_state revoked_if xid h.state (after_revoke h xid).state
unfolding after_revoke
lost_given h xid = (refl, (refl, refl))

lost_counted : (h : RequesterSide) (xid link : ℕ) (run : List Mark) → h.marks ≡ counted_marks link run → (after_revoke h xid).marks ≡ counted_marks link (run ++ marks.Lost link xid ∷ [])
unfolding after_revoke
lost_counted h xid link run is = counted_more link run (marks.Lost link xid) h.marks true (itself link) is

pub lost_is_a_mark : LostIsAMark
lost_is_a_mark h xid end is lt opened link run s = record {
  keeps = others_leave_client opened link (after_revoke h xid) run (marks.Lost link xid) (lost_client opened link h run xid end is s.keeps) refl refl refl;
  first = s.first;
  answers = given_mark revoked_if [] opened link h (after_revoke h xid) run (marks.Lost link xid) xid revokes (tt, tt) (lost_gives link xid) lt s.answers (lost_given h xid);
  counted = lost_counted h xid link run s.counted;
}
