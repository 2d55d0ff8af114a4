-- A requester that ran out of memory, on a link that may be one that was reopened, goes on from mark to mark.
use Rattle.std.proofs.Common.{◌≡◌, ℕ, ◌+◌, ◌<◌, min, Bool, true, false, List, [], ◌∷◌, ◌++◌, length, map, take, None, Some, refl, sym, ap, subst, ◌∙◌, append-nil}
use Rattle.nr_wire.specs.declared.hello.Side.TheVariants.{Initiator}
use Rattle.nr_link.specs.declared.end.End.TheVariants as ends
use Rattle.nr_endpoint.specs.SendQueue.{writable}
use Rattle.nr_reduce.specs.declared.call.Refused.TheVariants as refusals
use Rattle.nr_reduce.specs.declared.call.Submission.TheVariants as submissions
use Rattle.nr_reduce.specs.declared.mark.LinkParameters.{LinkParameters}
use Rattle.nr_reduce.specs.declared.mark.Mark.{Mark}
use Rattle.nr_reduce.specs.declared.mark.Mark.TheVariants as marks
use Rattle.nr_reduce.specs.declared.mark.ResumedCall.{ResumedCall}
use Rattle.nr_reduce.specs.Asked.{as_accepted, client_calls}
use Rattle.nr_reduce.specs.Events.{events, events_at}
use Rattle.nr_reduce.specs.History.{AcceptedCall, accepted_calls, bytes_received, bytes_sent}
use Rattle.nr_reduce.specs.KeptClient.{ClientKeeps, KeptClient}
use Rattle.nr_reduce.specs.Run.{client, output_due}
use Rattle.nr_reduce.proofs.Standing.{itself, client_stays_out_lem}
use Rattle.nr_requester.specs.RequesterState.{RequesterState, RequesterSide, feeding_of, queue_of, kept_client}
use Rattle.nr_requester.specs.AfterCalls.{after_drain, after_forget, after_revoke}
use Rattle.nr_requester.specs.AfterPiece.{after_fed}
use Rattle.nr_requester.specs.CountedMarks.{has_bytes, is_counted, marks_max, marks_of}
use Rattle.nr_requester.specs.KeptAnswers.{KeepsAnswers, is_due}
use Rattle.nr_requester.specs.Standing.{AnswersWith, RequesterRunsOut}
use Rattle.nr_requester.specs.ReopenedLinks.{FirstLinksStop, RequesterStops, StopsOn, own_answers, own_side}
use Rattle.nr_requester.specs.StoppedLinks.{PieceStops, DrainStopsOn, RevokeStopsOn, ForgetStopsOn, DoneStopsOn, OthersStopOn, RefusesStopped}
use Rattle.nr_requester.proofs.AllMarks.{HasNoEvent, forget_out, kept_out, none_quiet, quiet_since, received_same, revoked_since, same_answers, written_since}
use Rattle.nr_requester.proofs.AllResent.{fed_so_far}
use Rattle.nr_requester.proofs.Answered.{ended_answer}
use Rattle.nr_requester.proofs.AnswerSteps.{GivesUp, done_gives, forget_gives, quiet_mark}
use Rattle.nr_requester.proofs.CountedMarks.{counted_beside, others_uncounted}
use Rattle.nr_requester.proofs.KeptOn.{drained_answers, drained_calls, drained_marks, forget_counts, forgotten_answers, forgotten_calls, revoke_counts, revoked_answers, revoked_calls}
use Rattle.nr_requester.proofs.Marks.{drain_stays_out, lives_as, revoke_stays_out_lem}
use Rattle.nr_requester.proofs.OwnSides.{same_calls}
use Rattle.nr_requester.proofs.ReopenedLinks.{all_answers, all_calls, first_counted}
use Rattle.nr_requester.proofs.ResendStands.{KeepsSoFar}

-- ---- A piece for which memory runs out

pub piece_stops : PieceStops
piece_stops h after piece lives out more is_own earlier opened link run s =
    let mark : Mark = marks.Fed link Initiator piece in
    let all : List Mark = run ++ mark ∷ [] in
    let before : RequesterSide = after_fed h piece h.staging in
    let c : KeepsSoFar is_own earlier opened link before all = fed_so_far is_own earlier opened link h run piece h.staging s in
    let is_live : (client opened link all).ended ≡ None = sym c.keeps.kept.keeps.ended ∙ lives in
    let queued : bytes_sent link Initiator all ++ queue_of after.state ≡ output_due opened link Initiator all = (λ i. bytes_sent link Initiator all ++ writable (out.hello i) (out.queue i)) ∙ c.keeps.kept.output in
    let next : after.state.next_xid ≡ before.state.next_xid = ap (λ (r : RequesterState). r.next_xid) out.same in
    let outstanding : after.state.outstanding ≡ before.state.outstanding = ap (λ (r : RequesterState). r.outstanding) out.same in
    record {
      out = record {
        ended = out.ended;
        keeps = subst (λ (x : KeptClient). ClientKeeps opened x (client opened link all) (length (bytes_received link Initiator all))) (kept_out (feeding_of before) (feeding_of after) lives out) c.keeps.kept.keeps;
        queued = ([], append-nil (output_due opened link Initiator all) ∙ sym queued);
        output = ([], append-nil (bytes_sent link Initiator all ++ queue_of after.state) ∙ queued);
      };
      received = refl;
      written = (client opened link all).state.written;
      same = lives_as (client opened link all) is_live;
      calls = same_calls is_own before.state after.state outstanding next c.calls;
      answers = same_answers opened (events link Initiator all) (is_due link all) (client_calls opened link all) (own_side is_own before).state (own_side is_own after).state c.answers
          (ap (λ (r : RequesterState). own_answers is_own r) out.same) outstanding next;
      counted = more ∙ c.counted;
    }

-- ---- A drain

pub drain_stops_on : DrainStopsOn
drain_stops_on h n is_own earlier opened link stopped run s =
    let bytes : List ℕ = take n (queue_of h.state) in
    record {
      out = drain_stays_out h n opened link stopped run s.out;
      received = received_same link run (marks.Wrote link Initiator bytes) refl ∙ s.received;
      written = s.written + length bytes;
      same = written_since opened link stopped run s.written bytes s.same;
      calls = drained_calls is_own h n s.calls;
      answers = drained_answers is_own opened link h run n bytes s.answers;
      counted = drained_marks h n earlier link run s.counted;
    }

-- ---- A call that is revoked, given up or handed over

pub revoke_stops_on : RevokeStopsOn
revoke_stops_on h xid bytes lt is_own earlier opened link stopped run s =
    let mark : Mark = marks.Revoke link xid bytes in
    record {
      out = revoke_stays_out_lem opened link h stopped run xid bytes s.out;
      received = received_same link run mark refl ∙ s.received ∙ sym (received_same link stopped mark refl);
      written = s.written;
      same = revoked_since opened link stopped run s.written xid bytes (sym s.out.keeps.ended) s.received s.same;
      calls = revoked_calls is_own h xid s.calls;
      answers = revoked_answers is_own opened link h run xid bytes lt s.answers;
      counted = revoke_counts h xid earlier link run mark (itself link) s.counted;
    }

-- a mark that has no event, is counted, and gives up the call of an xid
given_stops_on : (h : RequesterSide) (mark : ℕ → Mark) (xid : ℕ) → ((link : ℕ) → HasNoEvent link (mark link)) → ((link : ℕ) → GivesUp link (mark link) xid) → ((link : ℕ) → is_counted link (mark link) ≡ true) → xid < h.state.next_xid → StopsOn h mark (after_forget h xid)
given_stops_on h mark xid none gives own lt is_own earlier opened link stopped run s =
    let n = none link run in
    record {
      out = forget_out opened link h stopped (run ++ mark link ∷ []) xid
          (client_stays_out_lem opened link (kept_client h.state) (queue_of h.state) (queue_of h.state) stopped run (mark link) s.out (ap (λ (xs : List ℕ). xs ++ queue_of h.state) n.1.0));
      received = received_same link run (mark link) n.1.1 ∙ s.received;
      written = s.written;
      same = quiet_since opened link stopped run s.written (mark link) n.0 s.same;
      calls = forgotten_calls is_own h xid s.calls;
      answers = forgotten_answers is_own opened link h run (mark link) xid n.0 (gives link) lt s.answers;
      counted = forget_counts h xid earlier link run (mark link) (own link) s.counted;
    }

pub forget_stops_on : ForgetStopsOn
forget_stops_on h xid lt = given_stops_on h (λ link. marks.Forget link xid) xid (λ link run. (refl, (refl, refl))) (λ link. forget_gives link xid) itself lt

pub done_stops_on : DoneStopsOn
done_stops_on h xid outcome lt = given_stops_on h (λ link. marks.Done link xid outcome) xid (λ link run. (refl, (refl, refl))) (λ link. done_gives link xid outcome) itself lt

-- ---- A mark that is no event, and gives up nothing

pub others_stop_on : OthersStopOn
others_stop_on is_own earlier opened link h stopped run mark s no_events no_write no_feed none = record {
  out = client_stays_out_lem opened link (kept_client h.state) (queue_of h.state) (queue_of h.state) stopped run mark s.out (ap (λ (xs : List ℕ). xs ++ queue_of h.state) no_write);
  received = received_same link run mark no_feed ∙ s.received;
  written = s.written;
  same = quiet_since opened link stopped run s.written mark no_events s.same;
  calls = s.calls;
  answers = quiet_mark (map as_accepted opened.resumed) opened link (own_side is_own h) (own_side is_own h) run mark (none_quiet (events_at link Initiator run mark) no_events) none s.answers refl refl refl;
  counted = counted_beside earlier link run mark h.marks false (others_uncounted link run mark no_events no_write no_feed none) s.counted;
}

pub refuses_stopped : RefusesStopped
refuses_stopped is_own earlier opened link h stopped run call form s = (
  ended_answer h.state call form ends.Memory (sym s.out.ended),
  others_stop_on is_own earlier opened link h stopped run (marks.Submit link call form (submissions.Refused (refusals.Ended ends.Memory))) s refl refl refl (λ x. refl),
)

-- ---- On a first link

pub first_links_stop : FirstLinksStop
first_links_stop opened link h stopped run first out =
    record {
      out = out.out;
      received = out.received;
      written = out.written;
      same = out.same;
      calls = all_calls h;
      answers = all_answers opened link h run first.resumed out.answers;
      counted = first_counted link run h.marks out.counted;
    }
