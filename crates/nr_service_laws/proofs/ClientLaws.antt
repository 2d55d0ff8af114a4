-- What holds of the client's marks of a run holds of the complete run: its law, the last grant, and what is written.
use Rattle.std.proofs.Common.{◌≡◌, ℕ, Bool, true, false, cond, ◌&&◌, ◌||◌, eqb, List, [], ◌∷◌, ◌++◌, length, map, None, Ok, refl, sym, ap, subst, ◌∙◌, append-nil}
use Rattle.std.specs.Prelude.{◌<◌, ◌+◌, ◌≤◌, Contains}
use Rattle.std.specs.List.{AllByRecursion, filter, list_any}
use Rattle.std.proofs.lemmas.List.Elements.{filter-append}
use Rattle.nr_wire.specs.declared.hello.Side.TheVariants.{Initiator, Responder}
use Rattle.nr_reduce.specs.declared.call.Call.{Call}
use Rattle.nr_reduce.specs.declared.call.Form.{Form}
use Rattle.nr_reduce.specs.declared.call.Submission.TheVariants as submissions
use Rattle.nr_reduce.specs.declared.mark.LinkParameters.{LinkParameters}
use Rattle.nr_reduce.specs.declared.mark.Mark.{Mark}
use Rattle.nr_reduce.specs.declared.mark.Mark.TheVariants as marks
use Rattle.nr_reduce.specs.Asked.{AskedMark, IsAccepted, IsAll, IsAwaited, IsAwaitedOrWaits, IsResent, as_accepted}
use Rattle.nr_reduce.specs.AtEachMark.{AtEachMark}
use Rattle.nr_reduce.specs.ClientState.{ClientState, plan_for, stags_taken}
use Rattle.nr_reduce.specs.SubmitAnswer.{next_sent_xid}
use Rattle.nr_reduce.specs.Credits.{WithinGrant, calls_outstanding, credits_granted}
use Rattle.nr_reduce.specs.EndRules.{EndState, end_state_after, output_for_all}
use Rattle.nr_reduce.specs.Events.{RunEvent, events}
use Rattle.nr_reduce.specs.History.{AcceptedCall, CompletedCall, abandons, accepted_as, accepted_at, accepted_calls, bytes_sent, completed_calls, completed_at, is_abandoned, written_at}
use Rattle.nr_reduce.specs.Client.{client_rules, initial_client}
use Rattle.nr_reduce.specs.Limits.{numbers_end}
use Rattle.nr_reduce.specs.Matched.{IsPrefixOf}
use Rattle.nr_reduce.specs.Run.{client, HasWritten, output_due}
use Rattle.nr_reduce.proofs.Standing.{itself}
use Rattle.nr_reduce.specs.Hellos.{client_hello}
use Rattle.nr_client.specs.Steps.{WholeIfWrote}
use Rattle.nr_service_laws.specs.ClientMarks.{IsOwn}
use Rattle.nr_service_laws.specs.ServedCommands.{client_marks, is_client_mark}
use Rattle.nr_service_laws.proofs.OpenLinks.{events_kept}
use Rattle.nr_service_laws.proofs.ServedOutcomes.{kept_all, others_none}

-- ---- What the client's marks alone say

others_not_written : (link : ℕ) (m : Mark) → is_client_mark link m ≡ false → written_at link Initiator m ≡ []
others_not_written link (marks.Wrote l side bytes) is = ap (λ (b : Bool). cond b bytes []) is
others_not_written link (marks.Fed l side bytes) is = refl
others_not_written link (marks.Submit l call form answer) is = refl
others_not_written link (marks.Execute l xid moment payload place reply) is = refl
others_not_written link (marks.Done l xid outcome) is = refl
others_not_written link (marks.Lost l xid) is = refl
others_not_written link (marks.Forget l xid) is = refl
others_not_written link (marks.Revoke l xid bytes) is = refl
others_not_written link (marks.Drop l) is = refl
others_not_written link (marks.Told l what) is = refl

others_not_accepted : (link : ℕ) (m : Mark) → is_client_mark link m ≡ false → accepted_at link m ≡ []
others_not_accepted link (marks.Wrote l side bytes) is = refl
others_not_accepted link (marks.Fed l side bytes) is = refl
others_not_accepted link (marks.Submit l call form answer) is = ap (λ (b : Bool). cond b (accepted_as answer call form) []) is
others_not_accepted link (marks.Execute l xid moment payload place reply) is = refl
others_not_accepted link (marks.Done l xid outcome) is = refl
others_not_accepted link (marks.Lost l xid) is = refl
others_not_accepted link (marks.Forget l xid) is = refl
others_not_accepted link (marks.Revoke l xid bytes) is = refl
others_not_accepted link (marks.Drop l) is = refl
others_not_accepted link (marks.Told l what) is = refl

others_not_abandoned : (link xid : ℕ) (m : Mark) → is_client_mark link m ≡ false → abandons link xid m ≡ false
others_not_abandoned link xid (marks.Wrote l side bytes) is = refl
others_not_abandoned link xid (marks.Fed l side bytes) is = refl
others_not_abandoned link xid (marks.Submit l call form answer) is = refl
others_not_abandoned link xid (marks.Execute l x moment payload place reply) is = refl
others_not_abandoned link xid (marks.Done l x outcome) is = refl
others_not_abandoned link xid (marks.Lost l x) is = ap (λ (b : Bool). b && eqb x xid) is
others_not_abandoned link xid (marks.Forget l x) is = ap (λ (b : Bool). b && eqb x xid) is
others_not_abandoned link xid (marks.Revoke l x bytes) is = ap (λ (b : Bool). b && eqb x xid) is
others_not_abandoned link xid (marks.Drop l) is = refl
others_not_abandoned link xid (marks.Told l what) is = refl

events_same : (link : ℕ) (both : List Mark) → events link Initiator both ≡ events link Initiator (client_marks link both)
unfolding events
events_same link both = events_kept link [] [] both refl

pub client_same : (opened : LinkParameters) (link : ℕ) (both : List Mark) → client opened link both ≡ client opened link (client_marks link both)
unfolding client
client_same opened link both = ap (λ (es : List RunEvent). end_state_after (client_rules opened) (initial_client opened) es) (events_same link both)

due_same : (opened : LinkParameters) (link : ℕ) (both : List Mark) → output_due opened link Initiator both ≡ output_due opened link Initiator (client_marks link both)
unfolding output_due
due_same opened link both = ap (λ (es : List RunEvent). client_hello opened ++ output_for_all (client_rules opened) (initial_client opened) es) (events_same link both)

sent_same : (link : ℕ) (both : List Mark) → bytes_sent link Initiator both ≡ bytes_sent link Initiator (client_marks link both)
unfolding bytes_sent
sent_same link both = kept_all (written_at link Initiator) (is_client_mark link) both (others_not_written link)

accepted_same : (link : ℕ) (both : List Mark) → accepted_calls link both ≡ accepted_calls link (client_marks link both)
unfolding accepted_calls
accepted_same link both = kept_all (accepted_at link) (is_client_mark link) both (others_not_accepted link)

completed_same : (link : ℕ) (both : List Mark) → completed_calls link both ≡ completed_calls link (client_marks link both)
unfolding completed_calls
completed_same link both = kept_all (completed_at link) (is_client_mark link) both (others_none link)

any_kept : (f p : Mark → Bool) (run : List Mark) → ((m : Mark) → p m ≡ false → f m ≡ false) → list_any f run ≡ list_any f (filter p run)
any_kept f p [] none = refl
any_kept f p (m ∷ run) none = by (any_kept f p run none) (p m) refl
  where
    by : list_any f run ≡ list_any f (filter p run) → (b : Bool) → p m ≡ b → (f m || list_any f run) ≡ list_any f (cond (p m) (m ∷ filter p run) (filter p run))
    by rest true is = ap (λ (x : Bool). f m || x) rest ∙ ap (λ (b : Bool). list_any f (cond b (m ∷ filter p run) (filter p run))) (sym is)
    by rest false is = ap (λ (x : Bool). x || list_any f run) (none m is) ∙ rest ∙ ap (λ (b : Bool). list_any f (cond b (m ∷ filter p run) (filter p run))) (sym is)

abandoned_same : (link xid : ℕ) (both : List Mark) → is_abandoned link xid both ≡ is_abandoned link xid (client_marks link both)
abandoned_same link xid both = any_kept (abandons link xid) (is_client_mark link) both (others_not_abandoned link xid)

-- ---- The law of each mark

module _ (Relates : List ℕ → List ℕ → Type 0) (opened : LinkParameters) (link : ℕ) (before : List Mark) where
  awaited_back : (xid : ℕ) → IsAwaited link (client_marks link before) xid → IsAwaited link before xid
  awaited_back xid w = record {
    asked = w.asked;
    is_asked = subst (λ (l : List AcceptedCall). Contains l w.asked) (sym (accepted_same link before)) w.is_asked;
    own = w.own;
    first = λ c there. w.first c (subst (λ (l : List CompletedCall). Contains l c) (completed_same link before) there);
    kept = abandoned_same link xid before ∙ w.kept;
  }

  pub waits_back : (xid : ℕ) → IsAwaitedOrWaits opened link (client_marks link before) xid → IsAwaitedOrWaits opened link before xid
  waits_back xid w = record {
    asked = w.asked;
    is_asked = subst (λ (l : List AcceptedCall). Contains (map as_accepted opened.resumed ++ l) w.asked) (sym (accepted_same link before)) w.is_asked;
    own = w.own;
    first = λ c there. w.first c (subst (λ (l : List CompletedCall). Contains l c) (completed_same link before) there);
    kept = abandoned_same link xid before ∙ w.kept;
  }

  accepted_back : (call : Call) (form : Form) (xid : ℕ) → IsAccepted opened link (client_marks link before) call form xid → IsAccepted opened link before call form xid
  accepted_back call form xid a =
      let back : client opened link (client_marks link before) ≡ client opened link before = sym (client_same opened link before) in
      record {
        stays = subst (λ (c : EndState ClientState). c.ended ≡ None) back a.stays;
        next = subst (λ (c : EndState ClientState). xid ≡ next_sent_xid c.state) back a.next;
        resent = subst (λ (c : EndState ClientState). IsResent c.state.has_hello c.state.next_xid c.state.waiting call form) back a.resent;
        plan = a.plan;
        planned = subst (λ (c : EndState ClientState). plan_for c.state xid call form ≡ Ok a.plan) back a.planned;
        xids = a.xids;
        stags = subst (λ (c : EndState ClientState). c.state.stag + stags_taken c.state xid a.plan ≤ numbers_end) back a.stags;
        writable = a.writable;
      }

  pub asked_back : (m : Mark) → IsOwn link m → AskedMark Relates opened link (client_marks link before) m → AskedMark Relates opened link before m
  asked_back (marks.Submit l call form (submissions.Accepted xid)) own h = λ same. accepted_back call form xid (h same)
  asked_back (marks.Submit l call form (submissions.Refused why)) own h = tt
  asked_back (marks.Submit l call form submissions.Dropped) own h = tt
  asked_back (marks.Wrote l Initiator bytes) own h = λ same.
      subst (λ (sent : List ℕ). Relates (sent ++ bytes) (output_due opened link Initiator before)) (sym (sent_same link before))
      (subst (λ (due : List ℕ). Relates (bytes_sent link Initiator (client_marks link before) ++ bytes) due) (sym (due_same opened link before)) (h same))
  asked_back (marks.Wrote l Responder bytes) own h = tt
  asked_back (marks.Fed l side bytes) own h = tt
  asked_back (marks.Execute l xid moment payload place reply) own h = tt
  asked_back (marks.Done l xid outcome) own h = λ same.
      record { awaited = awaited_back xid (h same).awaited; is_received = subst (λ (c : EndState ClientState). Contains c.state.outcomes (record { xid = xid; outcome = outcome })) (sym (client_same opened link before)) (h same).is_received }
  asked_back (marks.Lost l xid) own h = absurd own
  asked_back (marks.Forget l xid) own h = λ same. waits_back xid (h same)
  asked_back (marks.Revoke l xid bytes) own h = absurd own
  asked_back (marks.Drop l) own h = tt
  asked_back (marks.Told l what) own h = tt

  not_here : (l : ℕ) → eqb l link ≡ false → l ≡ link → ⊥
  not_here l is same = absurd (let wrong : true ≡ false = sym (itself link) ∙ ap (λ (k : ℕ). eqb k link) (sym same) ∙ is in cc)

  not_here_own : (l : ℕ) → (eqb l link && true) ≡ false → l ≡ link → ⊥
  not_here_own l is same = absurd (let wrong : true ≡ false = ap (λ (b : Bool). b && true) (sym (itself link) ∙ ap (λ (k : ℕ). eqb k link) (sym same)) ∙ is in cc)

  -- of a mark that is no client's nothing is asked
  pub asked_others : (m : Mark) → is_client_mark link m ≡ false → AskedMark Relates opened link before m
  asked_others (marks.Submit l call form (submissions.Accepted xid)) is = λ same. absurd (not_here l is same)
  asked_others (marks.Submit l call form (submissions.Refused why)) is = tt
  asked_others (marks.Submit l call form submissions.Dropped) is = tt
  asked_others (marks.Wrote l Initiator bytes) is = λ same. absurd (not_here_own l is same)
  asked_others (marks.Wrote l Responder bytes) is = tt
  asked_others (marks.Fed l side bytes) is = tt
  asked_others (marks.Execute l xid moment payload place reply) is = tt
  asked_others (marks.Done l xid outcome) is = λ same. absurd (not_here l is same)
  asked_others (marks.Lost l xid) is = λ same. absurd (not_here l is same)
  asked_others (marks.Forget l xid) is = λ same. absurd (not_here l is same)
  asked_others (marks.Revoke l xid bytes) is = λ same. absurd (not_here l is same)
  asked_others (marks.Drop l) is = tt
  asked_others (marks.Told l what) is = tt

  grant_back : (m : Mark) → IsOwn link m → WithinGrant opened link (client_marks link before) m → WithinGrant opened link before m
  unfolding calls_outstanding credits_granted
  grant_back (marks.Submit l call form (submissions.Accepted xid)) own h = λ same.
      subst (λ (c : EndState ClientState). length c.state.outstanding < c.state.grant) (sym (client_same opened link before)) (h same)
  grant_back (marks.Submit l call form (submissions.Refused why)) own h = tt
  grant_back (marks.Submit l call form submissions.Dropped) own h = tt
  grant_back (marks.Wrote l side bytes) own h = tt
  grant_back (marks.Fed l side bytes) own h = tt
  grant_back (marks.Execute l xid moment payload place reply) own h = tt
  grant_back (marks.Done l xid outcome) own h = tt
  grant_back (marks.Lost l xid) own h = tt
  grant_back (marks.Forget l xid) own h = tt
  grant_back (marks.Revoke l xid bytes) own h = tt
  grant_back (marks.Drop l) own h = tt
  grant_back (marks.Told l what) own h = tt

  grant_others : (m : Mark) → is_client_mark link m ≡ false → WithinGrant opened link before m
  grant_others (marks.Submit l call form (submissions.Accepted xid)) is = λ same. absurd (not_here l is same)
  grant_others (marks.Submit l call form (submissions.Refused why)) is = tt
  grant_others (marks.Submit l call form submissions.Dropped) is = tt
  grant_others (marks.Wrote l side bytes) is = tt
  grant_others (marks.Fed l side bytes) is = tt
  grant_others (marks.Execute l xid moment payload place reply) is = tt
  grant_others (marks.Done l xid outcome) is = tt
  grant_others (marks.Lost l xid) is = tt
  grant_others (marks.Forget l xid) is = tt
  grant_others (marks.Revoke l xid bytes) is = tt
  grant_others (marks.Drop l) is = tt
  grant_others (marks.Told l what) is = tt

-- ---- The law of all marks

each_back : (P : List Mark → Mark → Type 0) (link : ℕ) → ((earlier : List Mark) (m : Mark) → IsOwn link m → P (client_marks link earlier) m → P earlier m)
    → ((earlier : List Mark) (m : Mark) → is_client_mark link m ≡ false → P earlier m) → (before rest : List Mark)
    → AllByRecursion (IsOwn link) (client_marks link rest) → AtEachMark P (client_marks link before) (client_marks link rest) → AtEachMark P before rest
each_back P link back others before [] own each = tt
each_back P link back others before (m ∷ rest) own each = by (is_client_mark link m) refl own each (each_back P link back others (before ++ m ∷ []) rest)
  where
    more : client_marks link (before ++ m ∷ []) ≡ client_marks link before ++ cond (is_client_mark link m) (m ∷ []) []
    more = filter-append (is_client_mark link) before (m ∷ [])

    later : (xs : List Mark) → client_marks link (before ++ m ∷ []) ≡ xs → AtEachMark P xs (client_marks link rest) → AtEachMark P (client_marks link (before ++ m ∷ [])) (client_marks link rest)
    later xs same each = subst (λ (l : List Mark). AtEachMark P l (client_marks link rest)) (sym same) each

    by : (b : Bool) → is_client_mark link m ≡ b → AllByRecursion (IsOwn link) (cond b (m ∷ client_marks link rest) (client_marks link rest))
        → AtEachMark P (client_marks link before) (cond b (m ∷ client_marks link rest) (client_marks link rest))
        → (AllByRecursion (IsOwn link) (client_marks link rest) → AtEachMark P (client_marks link (before ++ m ∷ [])) (client_marks link rest) → AtEachMark P (before ++ m ∷ []) rest)
        → P before m × AtEachMark P (before ++ m ∷ []) rest
    by true is own each goes =
        (back before m own.0 each.0, goes own.1 (later (client_marks link before ++ m ∷ []) (more ∙ ap (λ (b : Bool). client_marks link before ++ cond b (m ∷ []) []) is) each.1))
    by false is own each goes =
        (others before m is, goes own (later (client_marks link before) (more ∙ ap (λ (b : Bool). client_marks link before ++ cond b (m ∷ []) []) is ∙ append-nil (client_marks link before)) each))

pub asked_in_both : (Relates : List ℕ → List ℕ → Type 0) (opened : LinkParameters) (link : ℕ) (both : List Mark) → AllByRecursion (IsOwn link) (client_marks link both)
    → AtEachMark (AskedMark Relates opened link) [] (client_marks link both) → AtEachMark (AskedMark Relates opened link) [] both
asked_in_both Relates opened link both own each = each_back (AskedMark Relates opened link) link (asked_back Relates opened link) (asked_others Relates opened link) [] both own each

pub grant_in_both : (opened : LinkParameters) (link : ℕ) (both : List Mark) → AllByRecursion (IsOwn link) (client_marks link both)
    → AtEachMark (WithinGrant opened link) [] (client_marks link both) → AtEachMark (WithinGrant opened link) [] both
grant_in_both opened link both own each = each_back (WithinGrant opened link) link (grant_back IsAll opened link) (grant_others IsAll opened link) [] both own each

pub written_in_both : (opened : LinkParameters) (link : ℕ) (both : List Mark) → HasWritten opened link Initiator (client_marks link both) → HasWritten opened link Initiator both
written_in_both opened link both written = sent_same link both ∙ written ∙ sym (due_same opened link both)

pub outstanding_in_both : (opened : LinkParameters) (link : ℕ) (both : List Mark) → calls_outstanding opened link both ≡ calls_outstanding opened link (client_marks link both)
unfolding calls_outstanding
outstanding_in_both opened link both = ap (λ (c : EndState ClientState). length c.state.outstanding) (client_same opened link both)

-- ---- With each Wrote in full

whole_mark : (opened : LinkParameters) (link : ℕ) (before : List Mark) (m : Mark) → AskedMark IsPrefixOf opened link before m → WholeIfWrote opened link before m → AskedMark IsAll opened link before m
whole_mark opened link before (marks.Submit l call form (submissions.Accepted xid)) asked whole = asked
whole_mark opened link before (marks.Submit l call form (submissions.Refused why)) asked whole = tt
whole_mark opened link before (marks.Submit l call form submissions.Dropped) asked whole = tt
whole_mark opened link before (marks.Wrote l Initiator bytes) asked whole = λ same. whole
whole_mark opened link before (marks.Wrote l Responder bytes) asked whole = tt
whole_mark opened link before (marks.Fed l side bytes) asked whole = tt
whole_mark opened link before (marks.Execute l xid moment payload place reply) asked whole = tt
whole_mark opened link before (marks.Done l xid outcome) asked whole = asked
whole_mark opened link before (marks.Lost l xid) asked whole = asked
whole_mark opened link before (marks.Forget l xid) asked whole = asked
whole_mark opened link before (marks.Revoke l xid bytes) asked whole = asked
whole_mark opened link before (marks.Drop l) asked whole = tt
whole_mark opened link before (marks.Told l what) asked whole = tt

pub whole_each : (opened : LinkParameters) (link : ℕ) (before run : List Mark) → AtEachMark (AskedMark IsPrefixOf opened link) before run → AtEachMark (WholeIfWrote opened link) before run
    → AtEachMark (AskedMark IsAll opened link) before run
whole_each opened link before [] asked whole = tt
whole_each opened link before (m ∷ run) asked whole = (whole_mark opened link before m asked.0 whole.0, whole_each opened link (before ++ m ∷ []) run asked.1 whole.1)
