-- The calls that a client accepted by its events are those that it accepted by the marks of its run.
use Rattle.std.proofs.Common.{◌≡◌, ℕ, Bool, true, false, cond, ◌&&◌, eqb, List, [], ◌∷◌, ◌++◌, length, map, refl, sym, ap, subst, ◌∙◌, append_assoc, append-nil}
use Rattle.nr_wire.specs.declared.hello.Side.TheVariants.{Initiator, Responder}
use Rattle.nr_link.specs.Frames.{frames_completed}
use Rattle.nr_reduce.specs.declared.call.Submission.TheVariants as submissions
use Rattle.nr_reduce.specs.declared.mark.Mark.{Mark}
use Rattle.nr_reduce.specs.declared.mark.Mark.TheVariants as marks
use Rattle.nr_reduce.specs.History.{AcceptedCall, accepted_at, accepted_calls, bytes_received}
use Rattle.nr_reduce.specs.Events.{RunEvent, if_own, events_at, events}
use Rattle.nr_reduce.specs.Events.RunEvent.{CallSubmitted, MemoryRevoked, CallExecuted, QueueWritten, ServerTold}
use Rattle.nr_reduce.proofs.Steps.{events_one}
use Rattle.nr_reduce.proofs.Waiting.{accepted_one}
use Rattle.nr_laws.proofs.ClientRun.{none_if, none_fed}
use Rattle.nr_laws.proofs.ClientSays.{accepted_in, accepted_append}

abbrev no_calls : List AcceptedCall
no_calls = []

none_accepted : (b : Bool) → no_calls ≡ cond b no_calls no_calls
none_accepted true = refl
none_accepted false = refl

accepted_mark : (link : ℕ) (before : List Mark) (mark : Mark) → accepted_in (events_at link Initiator before mark) ≡ accepted_at link mark
accepted_mark link before (marks.Submit l call form (submissions.Accepted xid)) = by (eqb l link)
  where
    a : AcceptedCall
    a = record { xid = xid; call = call; form = form }

    by : (b : Bool) → accepted_in (if_own (b && true) (CallSubmitted (length (bytes_received link Initiator before)) a ∷ [])) ≡ cond b (a ∷ []) []
    by true = refl
    by false = refl
accepted_mark link before (marks.Submit l call form (submissions.Refused why)) = none_accepted (eqb l link)
accepted_mark link before (marks.Submit l call form submissions.Dropped) = none_accepted (eqb l link)
accepted_mark link before (marks.Wrote l s bytes) = none_if _ (QueueWritten (length bytes)) refl
accepted_mark link before (marks.Fed l s bytes) = none_fed _ (frames_completed Responder (bytes_received link Initiator before) bytes)
accepted_mark link before (marks.Execute l xid moment payload place reply) = none_if _ (CallExecuted (record { xid = xid; moment = moment; payload = payload; place = place; reply = reply })) refl
accepted_mark link before (marks.Done l xid outcome) = refl
accepted_mark link before (marks.Lost l xid) = refl
accepted_mark link before (marks.Forget l xid) = refl
accepted_mark link before (marks.Revoke l xid bytes) = none_if _ (MemoryRevoked (length (bytes_received link Initiator before)) xid) refl
accepted_mark link before (marks.Drop l) = refl
accepted_mark link before (marks.Told l what) = none_if _ (ServerTold what) refl

accepted_from : (link : ℕ) (before run : List Mark) → accepted_in (events link Initiator before) ≡ accepted_calls link before → accepted_in (events link Initiator (before ++ run)) ≡ accepted_calls link (before ++ run)
accepted_from link before [] h = subst (λ (r : List Mark). accepted_in (events link Initiator r) ≡ accepted_calls link r) (sym (append-nil before)) h
accepted_from link before (mark ∷ run) h =
    let next : accepted_in (events link Initiator (before ++ mark ∷ [])) ≡ accepted_calls link (before ++ mark ∷ []) =
    ap accepted_in (events_one link Initiator before mark) ∙ accepted_append (events link Initiator before) (events_at link Initiator before mark)
    ∙ (λ i. h i ++ accepted_mark link before mark i) ∙ sym (accepted_one link before mark) in
    subst (λ (r : List Mark). accepted_in (events link Initiator r) ≡ accepted_calls link r) (append_assoc before (mark ∷ []) run) (accepted_from link (before ++ mark ∷ []) run next)

accepted_first : (link : ℕ) → accepted_in (events link Initiator []) ≡ accepted_calls link []
unfolding events accepted_calls
accepted_first link = refl

pub accepted_events : (link : ℕ) (run : List Mark) → accepted_in (events link Initiator run) ≡ accepted_calls link run
accepted_events link run = accepted_from link [] run (accepted_first link)
