-- What each call of an owner makes of a requester, as a mark more of a link that may be one that was reopened.
use Rattle.std.proofs.Common.{◌≡◌, ℕ, ◌^◌, ◌<◌, ◌≤◌, List, length, take, Some, sym, subst, arith}
use Rattle.nr_wire.specs.declared.hello.Side.TheVariants.{Initiator}
use Rattle.nr_link.specs.declared.end.End.{End}
use Rattle.nr_reduce.specs.declared.call.Call.{Call}
use Rattle.nr_reduce.specs.declared.call.Form.{Form}
use Rattle.nr_reduce.specs.declared.call.Outcome.{Outcome}
use Rattle.nr_reduce.specs.declared.call.Submission.TheVariants as submissions
use Rattle.nr_reduce.specs.declared.mark.Mark.{Mark}
use Rattle.nr_reduce.specs.declared.mark.Mark.TheVariants as marks
use Rattle.nr_requester.specs.RequesterState.{RequesterSide, queue_of}
use Rattle.nr_requester.specs.AfterCalls.{after_submit, after_drain, after_revoke, after_forget}
use Rattle.nr_requester.specs.Answers.{WasSent, answer_of}
use Rattle.nr_requester.specs.ReopenedLinks.{KeepsOn, StopsOn, StopsOnRevoke}
use Rattle.nr_requester.proofs.HeldBack.{accepted_unheld}
use Rattle.nr_requester.proofs.KeptOn.{submit_keeps_on, drain_keeps_on, revoke_keeps_on, forget_keeps_on, done_keeps_on, lost_keeps_on}
use Rattle.nr_requester.proofs.StopsOn.{drain_stops_on, revoke_stops_on, forget_stops_on, done_stops_on}

keeps_as : (before after same : RequesterSide) (mark : ℕ → Mark) → same ≡ after → KeepsOn before mark after → KeepsOn before mark same
keeps_as before after same mark is keeps = subst (λ (h : RequesterSide). KeepsOn before mark h) (sym is) keeps

pub sent_keeps : (before after : RequesterSide) (call : Call) (form : Form) (xid : ℕ) → WasSent before after call form xid → answer_of before.state call form ≡ submissions.Accepted xid →
    KeepsOn before (λ link. marks.Submit link call form (submissions.Accepted xid)) after
sent_keeps before after call form xid w accepted =
    keeps_as before (after_submit before call w.plan) after (λ link. marks.Submit link call form (submissions.Accepted xid)) w.after_is
    (subst (λ (n : ℕ). KeepsOn before (λ link. marks.Submit link call form (submissions.Accepted n)) (after_submit before call w.plan)) (sym w.next)
    (submit_keeps_on before call form w.plan w.live (accepted_unheld before.state call form xid accepted).1 w.is_plan))

pub revoked_keeps : (before after : RequesterSide) (xid : ℕ) (bytes : List ℕ) → xid < before.state.next_xid → after ≡ after_revoke before xid → KeepsOn before (λ link. marks.Revoke link xid bytes) after
revoked_keeps before after xid bytes lt is = keeps_as before (after_revoke before xid) after (λ link. marks.Revoke link xid bytes) is (revoke_keeps_on before xid bytes lt)

pub forgot_keeps : (before after : RequesterSide) (xid : ℕ) → xid < before.state.next_xid → after ≡ after_forget before xid → KeepsOn before (λ link. marks.Forget link xid) after
forgot_keeps before after xid lt is = keeps_as before (after_forget before xid) after (λ link. marks.Forget link xid) is (forget_keeps_on before xid lt)

pub done_keeps : (before after : RequesterSide) (xid : ℕ) (outcome : Outcome) → xid < before.state.next_xid → after ≡ after_forget before xid → KeepsOn before (λ link. marks.Done link xid outcome) after
done_keeps before after xid outcome lt is = keeps_as before (after_forget before xid) after (λ link. marks.Done link xid outcome) is (done_keeps_on before xid outcome lt)

pub lost_keeps : (before after : RequesterSide) (xid : ℕ) (end : End) → before.state.side.ended ≡ Some end → xid < before.state.next_xid → after ≡ after_revoke before xid → KeepsOn before (λ link. marks.Lost link xid) after
lost_keeps before after xid end ended lt is = keeps_as before (after_revoke before xid) after (λ link. marks.Lost link xid) is (lost_keeps_on before xid end ended lt)

pub drained_keeps : (before after : RequesterSide) (n next : ℕ) → n ≤ length (queue_of before.state) → before.state.next_xid ≡ next → next ≤ 2 ^ 32 → after ≡ after_drain n before → KeepsOn before (λ link. marks.Wrote link Initiator (take n (queue_of before.state))) after
drained_keeps before after n next within same le is =
    keeps_as before (after_drain n before) after (λ link. marks.Wrote link Initiator (take n (queue_of before.state))) is (drain_keeps_on before n within (omega (arith, le, same)))

-- ---- One that ran out of memory

stops_as : (before after same : RequesterSide) (mark : ℕ → Mark) → same ≡ after → StopsOn before mark after → StopsOn before mark same
stops_as before after same mark is stops = subst (λ (h : RequesterSide). StopsOn before mark h) (sym is) stops

pub revoked_stops : (before after : RequesterSide) (xid : ℕ) (bytes : List ℕ) → xid < before.state.next_xid → after ≡ after_revoke before xid → StopsOnRevoke before xid bytes after
revoked_stops before after xid bytes lt is = subst (λ (h : RequesterSide). StopsOnRevoke before xid bytes h) (sym is) (revoke_stops_on before xid bytes lt)

pub forgot_stops : (before after : RequesterSide) (xid : ℕ) → xid < before.state.next_xid → after ≡ after_forget before xid → StopsOn before (λ link. marks.Forget link xid) after
forgot_stops before after xid lt is = stops_as before (after_forget before xid) after (λ link. marks.Forget link xid) is (forget_stops_on before xid lt)

pub done_stops : (before after : RequesterSide) (xid : ℕ) (outcome : Outcome) → xid < before.state.next_xid → after ≡ after_forget before xid → StopsOn before (λ link. marks.Done link xid outcome) after
done_stops before after xid outcome lt is = stops_as before (after_forget before xid) after (λ link. marks.Done link xid outcome) is (done_stops_on before xid outcome lt)

pub drained_stops : (before after : RequesterSide) (n : ℕ) → after ≡ after_drain n before → StopsOn before (λ link. marks.Wrote link Initiator (take n (queue_of before.state))) after
drained_stops before after n is = stops_as before (after_drain n before) after (λ link. marks.Wrote link Initiator (take n (queue_of before.state))) is (drain_stops_on before n)
