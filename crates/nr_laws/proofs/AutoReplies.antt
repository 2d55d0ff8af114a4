-- A call in form Auto that completes has a reply, if a plain server replies.
use Rattle.std.proofs.Common.{◌≡◌, ℕ, ◌≤◌, Bool, true, false, cond, eqb, List, [], ◌∷◌, Option, Some, None, Ok, refl, sym, ap, subst, ◌∙◌, arith, inl, inr, ◌⊎◌}
use Rattle.std.specs.List.{AllByRecursion}
use Rattle.std.proofs.lemmas.Bool.{eq-eqb}
use Rattle.nr_xdr.specs.Item.{IsBytes}
use Rattle.nr_reduce.specs.declared.call.Form.TheVariants as forms
use Rattle.nr_reduce.specs.declared.call.Outcome.{Outcome}
use Rattle.nr_reduce.specs.declared.call.Outcome.TheVariants as outcomes
use Rattle.nr_reduce.specs.declared.call.Submission.TheVariants as submissions
use Rattle.nr_reduce.specs.declared.mark.Mark.{Mark}
use Rattle.nr_reduce.specs.declared.mark.Mark.TheVariants as marks
use Rattle.nr_reduce.specs.declared.outline.Plan.{Plan}
use Rattle.nr_reduce.specs.Plans.{plan_of, lists_of}
use Rattle.nr_reduce.specs.ChunkBytes.{IsNotGiven}
use Rattle.nr_reduce.specs.Matched.{IsPrefixOf}
use Rattle.nr_reduce.specs.ClientState.{ClientState, WaitingCall, call_payload, plan_for, plan_unless, stag_for, first_of as first_of_waiting}
use Rattle.nr_reduce.specs.SubmitAnswer.{first_xid_or}
use Rattle.nr_reduce.specs.Opening.{lengths_before}
use Rattle.nr_reduce.specs.KeepsReplyLimits.{KeepsReplyLimits}
use Rattle.nr_reduce.specs.declared.mark.Entry.{Entry}
use Rattle.nr_outside.specs.declared.moment.Moment.{Moment}
use Rattle.nr_reduce.specs.declared.call.Call.{Call}
use Rattle.nr_reduce.specs.declared.call.Form.{Form}
use Rattle.nr_reduce.proofs.OwnLimits.{ClientLimits, client_limits_of}
use Rattle.nr_reduce.specs.ServerState.{ReadyCall}
use Rattle.nr_reduce.specs.Run.{client, server}
use Rattle.nr_reduce.specs.Served.{ServedMark, IsExecuted, first_ready, next_call}
use Rattle.nr_reduce.specs.declared.mark.LinkParameters.{LinkParameters}
use Rattle.nr_link.specs.declared.end.End.{End}
use Rattle.nr_rpc.specs.Reading.{call_of, target_of}
use Rattle.nr_reduce.specs.Asked.{AskedMark, IsAccepted, IsPlannedAs, IsResent}
use Rattle.nr_laws.specs.Typed.{TypedMark, IsTyped}
use Rattle.nr_laws.specs.MatchedSoFar.{MatchedSoFar}
use Rattle.nr_laws.specs.MarkAt.{MarkAt}
use Rattle.nr_laws.specs.Payloads.{HasPlan}
use Rattle.nr_laws.specs.PlainLinks.{server_with, HasPlainReplies, PlainReplyMark}
use Rattle.nr_laws.specs.RefusedMessages.{HasRefusedMessage}
use Rattle.nr_laws.specs.ChunkOutcomes.{AutoHasReplies}
use Rattle.nr_laws.proofs.OnceByXid.{at_mark, before_mark}
use Rattle.nr_laws.proofs.Following.{far_before}
use Rattle.nr_laws.proofs.Completed.{version_never}
use Rattle.nr_laws.proofs.WaitingCalls.{IsPlannedBefore, planned_then}
use Rattle.nr_laws.proofs.AgreedSizes.{matched_down}
use Rattle.nr_laws.proofs.SizesAgain.{lengths_again}
use Rattle.nr_laws.proofs.MatchedSizes.{client_within, client_again, executing_sized}
use Rattle.nr_laws.proofs.MoreHeld.{more_held}
use Rattle.nr_laws.proofs.OwnPayloads.{payloads_are_own}
use Rattle.nr_laws.proofs.ChunkCauses.{ExecuteNotHeld, chunk_caused, held_by_plan}
use Rattle.nr_laws.proofs.LaterMarks.{mark_later}
use Rattle.nr_laws.proofs.OwnPlans.{one_form}
use Rattle.nr_laws.proofs.OwnMessages.{no_own_plan_is_refused}
use Rattle.nr_laws.proofs.Basics.{some_is_lem}

-- the next call is the first of those that are ready
first_of : (ready : List ReadyCall) (ended : Option End) (call : ReadyCall) → first_ready ready ended ≡ Some call → (others : List ReadyCall) × (ready ≡ call ∷ others)
first_of ready (Some end) call e = absurd cc
first_of [] None call e = absurd cc
first_of (x ∷ ready) None call e = (ready, (let s : Some x ≡ Some call = e in let t : x ≡ call = cc in ap (λ (y : ReadyCall). y ∷ ready) t))

ready_first : (opened : LinkParameters) (link : ℕ) (before : List Mark) {xid : ℕ} {payload : List ℕ} → (x : IsExecuted opened link before xid payload) → (others : List ReadyCall) × ((server opened link before).state.ready ≡ x.call ∷ others)
unfolding next_call
ready_first opened link before x = first_of (server opened link before).state.ready (server opened link before).ended x.call x.is_next

-- an accepted call is planned for answers no longer than both sides agree on
record IsPlannedWithin (opened : LinkParameters) (xid : ℕ) (call : Call) (form : Form) (plan : Plan) : Type 0 where
  planned : IsPlannedAs xid call form plan
  down : planned.down ≤ matched_down opened

-- the calls that a client has yet to send again are planned for lengths that an earlier hello agreed on
abbrev pub ArePlannedBefore : LinkParameters → ℕ → List Mark → Type 0
ArePlannedBefore opened link run = AllByRecursion (IsPlannedBefore (lengths_before opened.agreed)) (client opened link run).state.waiting

accepted_within : (opened : LinkParameters) (link : ℕ) (before : List Mark) (call : Call) (form : Form) (xid : ℕ) (plan : Plan) → ArePlannedBefore opened link before → IsTyped before → MatchedSoFar opened link before → IsAccepted opened link before call form xid
    → plan_for (client opened link before).state xid call form ≡ Ok plan → IsPlannedWithin opened xid call form plan
unfolding plan_for
accepted_within opened link before call form xid plan lengths typed far a planned = by k.waiting a.next a.resent planned lengths
  where
    k : ClientState
    k = (client opened link before).state

    limits : ClientLimits k
    limits = client_limits_of opened link before

    by : (ws : List WaitingCall) → xid ≡ first_xid_or k.next_xid ws → IsResent k.has_hello k.next_xid ws call form → plan_unless (first_of_waiting ws xid) (plan_of (call_payload xid call) form k.up_max k.down_max) ≡ Ok plan
        → AllByRecursion (IsPlannedBefore (lengths_before opened.agreed)) ws → IsPlannedWithin opened xid call form plan
    by [] own resent is first = record { planned = record { up = k.up_max; down = k.down_max; up_fits = limits.up; down_fits = limits.down; planned = is }; down = (client_within opened link before typed far).1 }
    by (w ∷ ws) own resent is first = waits (eqb w.xid xid) (eq-eqb w.xid xid (sym own)) is
      where
        waits : (b : Bool) → b ≡ true → plan_unless (cond b (Some w) None) (plan_of (call_payload xid call) form k.up_max k.down_max) ≡ Ok plan → IsPlannedWithin opened xid call form plan
        waits true e is =
            let earlier = first.0.planned in record {
              planned = record {
                up = earlier.up;
                down = earlier.down;
                up_fits = earlier.up_fits;
                down_fits = earlier.down_fits;
                planned = (λ i. plan_of (call_payload (own i) (resent.call_is i)) (resent.form_is i) earlier.up earlier.down) ∙ earlier.planned ∙ is;
              };
              down = (let less = first.0.down in let agreed = (lengths_again opened (client_again opened link before typed far resent.greeted)).1 in omega (arith, less, agreed));
            }
        waits false e is = absurd cc

-- on any link, if that is so as the call is accepted
pub auto_replies : (reply_to : List Entry → Moment → List ℕ → Option (List ℕ)) (adds : Moment → List ℕ → List ℕ → List Entry)
    (opened : LinkParameters) (link : ℕ) (run earlier before : List Mark) (call : Call) (xid : ℕ) (outcome : Outcome) →
    ArePlannedBefore opened link earlier → KeepsReplyLimits (server_with reply_to adds) → HasPlainReplies (server_with reply_to adds) link run → IsTyped run → MatchedSoFar opened link run →
    MarkAt run earlier (marks.Submit link call forms.Auto (submissions.Accepted xid)) →
    MarkAt run before (marks.Done link xid outcome) → (reply : List ℕ) × (outcome ≡ outcomes.Reply reply)
auto_replies reply_to adds opened link run earlier before call xid outcome waits plain plain_replies typed far at done = by outcome done
  where
    submit : Mark
    submit = marks.Submit link call forms.Auto (submissions.Accepted xid)

    accepted : IsAccepted opened link earlier call forms.Auto xid
    accepted = at_mark (AskedMark IsPrefixOf opened link) run earlier submit at.after at.is far.asked refl

    bytes : IsBytes (call_payload xid call)
    bytes = (at_mark TypedMark run earlier submit at.after at.is typed).0

    plan : Plan
    plan = accepted.plan

    within : IsPlannedWithin opened xid call forms.Auto plan
    within = accepted_within opened link earlier call forms.Auto xid plan waits (before_mark TypedMark run earlier submit at.after at.is typed) (far_before opened link run earlier submit at.after at.is far) accepted accepted.planned

    formed : IsPlannedAs xid call forms.Auto plan
    formed = within.planned

    has : HasPlan opened link run xid plan
    has = record { call = call; form = forms.Auto; before = earlier; at = at; planned = accepted.planned }

    not_refused : MarkAt run before (marks.Done link xid outcomes.Chunk) → HasRefusedMessage opened link before xid → ⊥
    not_refused chunk m =
        let mark : Mark = marks.Done link xid outcomes.Chunk in
        let there = mark_later run before mark chunk.after m.has.before (marks.Submit link m.has.call m.has.form (submissions.Accepted xid)) chunk.is m.has.at in
        no_own_plan_is_refused opened link before xid (before_mark TypedMark run before mark chunk.after chunk.is typed) (far_before opened link run before mark chunk.after chunk.is far).asked m
        (subst IsNotGiven (one_form opened link run earlier m.has.before at.after there.after call m.has.call forms.Auto m.has.form xid xid far.asked refl at.is there.is) tt)

    held : MarkAt run before (marks.Done link xid outcomes.Chunk) → ExecuteNotHeld opened link before xid → ⊥
    held chunk u =
        let mark : Mark = marks.Done link xid outcomes.Chunk in
        let execute : Mark = marks.Execute link xid u.moment u.payload u.place u.reply in
        let executed = mark_later run before mark chunk.after u.before execute chunk.is u.at in
        let own : call_payload xid call ≡ u.payload =
        some_is_lem (call_payload xid call) u.payload (payloads_are_own opened link run u.before xid plan u.moment u.payload u.place u.reply typed far has executed) in
        let replied = at_mark (PlainReplyMark (server_with reply_to adds) link) run u.before execute executed.after executed.is plain_replies refl in
        let up : ℕ = formed.up in
        let down : ℕ = formed.down in
        let stag : ℕ = stag_for (client opened link earlier).state xid in
        let by_plan = plain.auto replied.0 u.moment u.payload u.reply up down stag plan (subst IsBytes own bytes) replied.1 formed.down_fits.0
        (ap (λ (x : List ℕ). plan_of x forms.Auto up down) (sym own) ∙ formed.planned) in
        let there : IsExecuted opened link u.before xid u.payload = at_mark (ServedMark IsPrefixOf opened link) run u.before execute executed.after executed.is far.served refl in
        let first = ready_first opened link u.before there in
        let answers = executing_sized opened link u.before there.call first.0 (before_mark TypedMark run u.before execute executed.after executed.is typed) (far_before opened link run u.before execute executed.after executed.is far) first.1 in
        more_held (lists_of stag plan) down (server opened link u.before).state.down_max u.reply (target_of (call_of u.payload)) (let less = within.down in omega (arith, answers, less)) by_plan
        (sym (held_by_plan opened link run u.before xid plan u.moment u.payload u.place u.reply typed far has executed) ∙ u.none)

    no_cause : MarkAt run before (marks.Done link xid outcomes.Chunk) → HasRefusedMessage opened link before xid ⊎ ExecuteNotHeld opened link before xid → ⊥
    no_cause chunk (inl r) = not_refused chunk r
    no_cause chunk (inr u) = held chunk u

    by : (o : Outcome) → MarkAt run before (marks.Done link xid o) → (reply : List ℕ) × (o ≡ outcomes.Reply reply)
    by (outcomes.Reply reply) there = (reply, refl)
    by outcomes.Chunk there = absurd (no_cause there (chunk_caused opened link run before there.after xid typed far there.is))
    by (outcomes.Version low high) there = absurd (version_never opened link run before there.after xid low high typed far there.is)

pub auto_has_replies : AutoHasReplies
auto_has_replies reply_to adds opened link run earlier before call xid outcome resumes = auto_replies reply_to adds opened link run earlier before call xid outcome (planned_then opened link earlier resumes)
