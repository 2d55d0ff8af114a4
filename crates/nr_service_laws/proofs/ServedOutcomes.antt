-- Each outcome that the client of a matched link hands over is a reply, if its calls are in form Auto and a plain server answers them.
use Rattle.std.proofs.Common.{◌≡◌, ℕ, Bool, true, false, cond, eqb, List, [], ◌∷◌, ◌++◌, map, Option, inl, inr, refl, sym, ap, subst, ◌∙◌, append_assoc, eqb-true}
use Rattle.std.specs.List.{AllByRecursion, filter, flat_map}
use Rattle.nr_outside.specs.declared.moment.Moment.{Moment}
use Rattle.nr_reduce.specs.declared.call.Call.{Call}
use Rattle.nr_reduce.specs.declared.call.Form.{Form}
use Rattle.nr_reduce.specs.declared.call.Form.TheVariants as forms
use Rattle.nr_reduce.specs.declared.call.Outcome.{Outcome}
use Rattle.nr_reduce.specs.declared.call.Outcome.TheVariants as outcomes
use Rattle.nr_reduce.specs.declared.call.Submission.TheVariants as submissions
use Rattle.nr_reduce.specs.declared.mark.Entry.{Entry}
use Rattle.nr_reduce.specs.declared.mark.LinkParameters.{LinkParameters}
use Rattle.nr_reduce.specs.declared.mark.Mark.{Mark}
use Rattle.nr_reduce.specs.declared.mark.Mark.TheVariants as marks
use Rattle.nr_reduce.specs.declared.outline.Plan.{Plan}
use Rattle.nr_reduce.specs.History.{CompletedCall, completed_at, completed_calls}
use Rattle.nr_reduce.specs.Opening.{lengths_before}
use Rattle.nr_reduce.proofs.Unresumed.{none_waits}
use Rattle.nr_reduce.proofs.Standing.{itself}
use Rattle.nr_laws.specs.ChunkOutcomes.{HasChunkCause}
use Rattle.nr_laws.specs.MarkAt.{MarkAt}
use Rattle.nr_laws.specs.Payloads.{HasPlan}
use Rattle.nr_laws.proofs.AutoReplies.{ArePlannedBefore, auto_replies}
use Rattle.nr_laws.proofs.ChunkCauses.{chunk_has_cause}
use Rattle.nr_laws.proofs.LaterMarks.{mark_later}
use Rattle.nr_laws.proofs.Completed.{version_never}
use Rattle.nr_laws.proofs.WaitingCalls.{IsPlannedBefore, planned_then}
use Rattle.nr_commands.specs.Running.Runs.{NotOpened, Opened}
use Rattle.nr_service_laws.specs.ClientMarks.{IsOwn}
use Rattle.nr_service_laws.specs.CommandEnds.{AreReplies, IsReplyOutcome}
use Rattle.nr_service_laws.specs.CommandRuns.{outcomes_handed_over}
use Rattle.nr_service_laws.specs.ServedCommands.{IsClientSideOf, ServedClientsHaveReplies, ServedCommandsExcludeEnds, client_marks, is_client_mark}
use Rattle.nr_service_laws.proofs.ReplyCommands.{replies_exclude_ends_lem}

-- ---- The client's marks of a run of both sides

-- what holds of all elements that are kept holds of each of them
kept_one : (P : Mark → Type 0) (p : Mark → Bool) (earlier : List Mark) (m : Mark) (later : List Mark) → AllByRecursion P (filter p (earlier ++ m ∷ later)) → p m ≡ true → P m
kept_one P p [] m later all is = (subst (λ (b : Bool). AllByRecursion P (cond b (m ∷ filter p later) (filter p later))) is all).0
kept_one P p (x ∷ earlier) m later all is = by (p x) all (λ rest. kept_one P p earlier m later rest is)
  where
    by : (b : Bool) → AllByRecursion P (cond b (x ∷ filter p (earlier ++ m ∷ later)) (filter p (earlier ++ m ∷ later))) → (AllByRecursion P (filter p (earlier ++ m ∷ later)) → P m) → P m
    by true all rest = rest all.1
    by false all rest = rest all

own_auto : (link l : ℕ) (call : Call) (form : Form) (xid : ℕ) → IsOwn link (marks.Submit l call form (submissions.Accepted xid)) → form ≡ forms.Auto
own_auto link l call forms.Auto xid own = refl
own_auto link l call forms.Inline xid own = absurd own
own_auto link l call forms.Chunk xid own = absurd own
own_auto link l call forms.Long xid own = absurd own
own_auto link l call (forms.Given offer) xid own = absurd own

-- marks that are no client's are no outcomes
pub others_none : (link : ℕ) (m : Mark) → is_client_mark link m ≡ false → completed_at link m ≡ []
others_none link (marks.Wrote l side bytes) is = refl
others_none link (marks.Fed l side bytes) is = refl
others_none link (marks.Submit l call form answer) is = refl
others_none link (marks.Execute l xid moment payload place reply) is = refl
others_none link (marks.Done l xid outcome) is = ap (λ (b : Bool). cond b (record { xid = xid; outcome = outcome } ∷ []) []) is
others_none link (marks.Lost l xid) is = refl
others_none link (marks.Forget l xid) is = refl
others_none link (marks.Revoke l xid bytes) is = refl
others_none link (marks.Drop l) is = refl
others_none link (marks.Told l what) is = refl

pub kept_all : {A : Type 0} (f : Mark → List A) (p : Mark → Bool) (run : List Mark) → ((m : Mark) → p m ≡ false → f m ≡ []) → flat_map f run ≡ flat_map f (filter p run)
kept_all f p [] none = refl
kept_all {A} f p (m ∷ run) none = by (kept_all f p run none) (p m) refl
  where
    by : flat_map f run ≡ flat_map f (filter p run) → (b : Bool) → p m ≡ b → f m ++ flat_map f run ≡ flat_map f (cond (p m) (m ∷ filter p run) (filter p run))
    by rest true is = ap (λ (l : List A). f m ++ l) rest ∙ ap (λ (b : Bool). flat_map f (cond b (m ∷ filter p run) (filter p run))) (sym is)
    by rest false is = ap (λ (l : List A). l ++ flat_map f run) (none m is) ∙ rest ∙ ap (λ (b : Bool). flat_map f (cond b (m ∷ filter p run) (filter p run))) (sym is)

outcomes_kept : (link : ℕ) (both : List Mark) → outcomes_handed_over link both ≡ outcomes_handed_over link (client_marks link both)
unfolding completed_calls
outcomes_kept link both = ap (λ (l : List CompletedCall). map (λ (c : CompletedCall). c.outcome) l) (kept_all (completed_at link) (is_client_mark link) both (λ m is. others_none link m is))

-- ---- Each outcome

auto_of : (link : ℕ) (both earlier later : List Mark) (call : Call) (form : Form) (xid : ℕ) → AllByRecursion (IsOwn link) (client_marks link both)
    → both ≡ earlier ++ marks.Submit link call form (submissions.Accepted xid) ∷ later → form ≡ forms.Auto
auto_of link both earlier later call form xid own is =
    own_auto link link call form xid
    (kept_one (IsOwn link) (is_client_mark link) earlier (marks.Submit link call form (submissions.Accepted xid)) later
    (subst (λ (r : List Mark). AllByRecursion (IsOwn link) (client_marks link r)) is own) (itself link))

-- what waits is planned for lengths that an earlier hello agreed on, at each mark
abbrev pub WaitsAsPlanned : LinkParameters → ℕ → Type 0
WaitsAsPlanned opened link = (run : List Mark) → ArePlannedBefore opened link run

-- nothing waits on a link that was not reopened
pub first_waits : (opened : LinkParameters) (link : ℕ) → opened.resumed ≡ [] → WaitsAsPlanned opened link
first_waits opened link none run = subst (AllByRecursion (IsPlannedBefore (lengths_before opened.agreed))) (sym (none_waits opened link run none)) tt

one_reply : (reply_to : List Entry → Moment → List ℕ → Option (List ℕ)) (adds : Moment → List ℕ → List ℕ → List Entry) (opened : LinkParameters) (link : ℕ) (run both : List Mark)
    → WaitsAsPlanned opened link → AllByRecursion (IsOwn link) (client_marks link both) → IsClientSideOf reply_to adds opened link run both → (before : List Mark) (xid : ℕ) (outcome : Outcome) → MarkAt both before (marks.Done link xid outcome) → IsReplyOutcome outcome
one_reply reply_to adds opened link run both waits own served before xid outcome at = by outcome at
  where
    no_chunk : (o : Outcome) → (reply : List ℕ) × (o ≡ outcomes.Reply reply) → o ≡ outcomes.Chunk → ⊥
    no_chunk (outcomes.Reply payload) has is = cc
    no_chunk outcomes.Chunk (reply, is) same = cc
    no_chunk (outcomes.Version low high) has is = cc

    planned : (plan : Plan) → HasPlan opened link before xid plan → MarkAt both before (marks.Done link xid outcomes.Chunk) → ⊥
    planned plan has there =
        let submit = mark_later both before (marks.Done link xid outcomes.Chunk) there.after has.before (marks.Submit link has.call has.form (submissions.Accepted xid)) there.is has.at in
        let auto = auto_of link both has.before submit.after has.call has.form xid own submit.is in
        no_chunk outcomes.Chunk
        (auto_replies reply_to adds opened link both has.before before has.call xid outcomes.Chunk (waits has.before) served.limits served.plain served.typed served.matched
        (subst (λ (f : Form). MarkAt both has.before (marks.Submit link has.call f (submissions.Accepted xid))) auto submit) there)
        refl

    caused : HasChunkCause opened link before xid → MarkAt both before (marks.Done link xid outcomes.Chunk) → ⊥
    caused (inl refused) there = planned refused.plan refused.has there
    caused (inr held) there = planned held.plan held.has there

    by : (o : Outcome) → MarkAt both before (marks.Done link xid o) → IsReplyOutcome o
    by (outcomes.Reply payload) there = tt
    by outcomes.Chunk there = caused ((chunk_has_cause opened link both before xid outcomes.Chunk served.typed served.matched there).0 refl) there
    by (outcomes.Version low high) there = version_never opened link both before there.after xid low high served.typed served.matched there.is

each_reply : (reply_to : List Entry → Moment → List ℕ → Option (List ℕ)) (adds : Moment → List ℕ → List ℕ → List Entry) (opened : LinkParameters) (link : ℕ) (run both : List Mark)
    → WaitsAsPlanned opened link → AllByRecursion (IsOwn link) (client_marks link both) → IsClientSideOf reply_to adds opened link run both → (before rest : List Mark) → both ≡ before ++ rest → AreReplies (map (λ (c : CompletedCall). c.outcome) (flat_map (completed_at link) rest))
each_reply reply_to adds opened link run both waits own served before [] is = tt
each_reply reply_to adds opened link run both waits own served before (m ∷ rest) is = by m is (each_reply reply_to adds opened link run both waits own served (before ++ m ∷ []) rest (is ∙ sym (append_assoc before (m ∷ []) rest)))
  where
    at_done : (l xid : ℕ) (outcome : Outcome) (b : Bool) → eqb l link ≡ b → both ≡ before ++ marks.Done l xid outcome ∷ rest → AreReplies (map (λ (c : CompletedCall). c.outcome) (flat_map (completed_at link) rest))
        → AreReplies (map (λ (c : CompletedCall). c.outcome) (cond b (record { xid = xid; outcome = outcome } ∷ []) [] ++ flat_map (completed_at link) rest))
    at_done l xid outcome true own_link is later = (
      one_reply reply_to adds opened link run both waits own served before xid outcome
          (record { after = rest; is = subst (λ (n : ℕ). both ≡ before ++ marks.Done n xid outcome ∷ rest) (eqb-true l link own_link) is }),
      later,
    )
    at_done l xid outcome false own_link is later = later

    by : (n : Mark) → both ≡ before ++ n ∷ rest → AreReplies (map (λ (c : CompletedCall). c.outcome) (flat_map (completed_at link) rest))
        → AreReplies (map (λ (c : CompletedCall). c.outcome) (completed_at link n ++ flat_map (completed_at link) rest))
    by (marks.Wrote l side bytes) is later = later
    by (marks.Fed l side bytes) is later = later
    by (marks.Submit l call form answer) is later = later
    by (marks.Execute l xid moment payload place reply) is later = later
    by (marks.Done l xid outcome) is later = at_done l xid outcome (eqb l link) refl is later
    by (marks.Lost l xid) is later = later
    by (marks.Forget l xid) is later = later
    by (marks.Revoke l xid bytes) is later = later
    by (marks.Drop l) is later = later
    by (marks.Told l what) is later = later

have_replies : (reply_to : List Entry → Moment → List ℕ → Option (List ℕ)) (adds : Moment → List ℕ → List ℕ → List Entry) (opened : LinkParameters) (link : ℕ) (run both : List Mark)
    → WaitsAsPlanned opened link → AllByRecursion (IsOwn link) run → IsClientSideOf reply_to adds opened link run both → AreReplies (outcomes_handed_over link run)
unfolding completed_calls
have_replies reply_to adds opened link run both waits own served =
    subst AreReplies (outcomes_kept link both ∙ ap (λ (r : List Mark). outcomes_handed_over link r) served.client_side)
    (each_reply reply_to adds opened link run both waits (subst (λ (r : List Mark). AllByRecursion (IsOwn link) r) (sym served.client_side) own) served [] both refl)

pub served_clients_have_replies_lem : ServedClientsHaveReplies
served_clients_have_replies_lem reply_to adds opened link run both resumes own served = have_replies reply_to adds opened link run both (λ earlier. planned_then opened link earlier resumes) own served

pub served_commands_end_lem : ServedCommandsExcludeEnds
served_commands_end_lem opened link c before after input input' out out' result (NotOpened end is fails same_input same_out) = tt
served_commands_end_lem opened link c before after input input' out out' result (Opened dialed s s' opens prints closes) = λ ran reply_to adds both served.
    let excludes = replies_exclude_ends_lem c before after input input' out out' result (Opened dialed s s' opens prints closes) in
    (excludes.0, excludes.2 (subst AreReplies ran.outcomes (have_replies reply_to adds opened link ran.run both (first_waits opened link ran.first_link.resumed) ran.own served)))
