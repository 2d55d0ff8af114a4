-- The message of a call in a form that isn't given is never refused.
use Rattle.std.proofs.Common.{◌≡◌, ◌≢◌, ℕ, ◌+◌, ◌≤◌, List, refl, sym, ap, subst, ◌∙◌, arith}
use Rattle.nr_xdr.specs.Fields.{word_at}
use Rattle.nr_xdr.specs.Item.{IsBytes}
use Rattle.nr_reduce.specs.declared.call.Submission.TheVariants as submissions
use Rattle.nr_reduce.specs.declared.mark.Mark.TheVariants as marks
use Rattle.nr_reduce.specs.declared.outline.Plan.{Plan}
use Rattle.nr_reduce.specs.Limits.{numbers_end}
use Rattle.nr_reduce.specs.Plans.{call_message, regions_needed}
use Rattle.nr_reduce.specs.Matched.{IsPrefixOf}
use Rattle.nr_reduce.specs.ClientState.{call_payload, plan_for, stag_for}
use Rattle.nr_reduce.specs.ServerState.{ServerState}
use Rattle.nr_reduce.specs.ServerMessages.{verdict}
use Rattle.nr_reduce.specs.ServerMessages.Verdict.{BadChunks}
use Rattle.nr_reduce.specs.Server.{initial_server}
use Rattle.nr_reduce.specs.Run.{client}
use Rattle.nr_reduce.specs.Asked.{AskedMark, IsAccepted, IsPlannedAs}
use Rattle.nr_reduce.proofs.BadMessages.{bad_refused}
use Rattle.nr_laws.specs.Typed.{TypedMark}
use Rattle.nr_laws.specs.Payloads.{HasPlan}
use Rattle.nr_laws.specs.ChunkOutcomes.{NoOwnPlanIsRefused}
use Rattle.nr_laws.proofs.WrittenBytes.{WrittenAs, written_as_lem, message_same_lem}
use Rattle.nr_laws.proofs.CallWords.{CallWords, call_words_lem}
use Rattle.nr_laws.proofs.OnceByXid.{at_mark}
use Rattle.nr_laws.proofs.WaitingCalls.{accepted_stags, accepted_plan}
use Rattle.nr_laws.proofs.OwnPlans.{payload_some, plan_suits}
use Rattle.nr_laws.proofs.RefusedMessages.{long_enough}
use Rattle.nr_laws.proofs.SubmittedPlans.{plan_is_lem}

pub no_own_plan_is_refused : NoOwnPlanIsRefused
no_own_plan_is_refused opened link run xid typed asked m own =
    plan_suits k (call_payload xid has.call) has.form formed.up formed.down xid w.number stag m.plan bytes own formed.planned (payload_some xid has.call)
    (let fits = accepted.xids in omega (arith, fits)) w.fits (let fit = stags in omega (arith, fit)) (ap (λ (x : List ℕ). verdict k x) (sym same) ∙ bad)
  where
    has : HasPlan opened link run xid m.plan
    has = m.has

    stag : ℕ
    stag = stag_for (client opened link has.before).state xid

    k : ServerState
    k = (initial_server opened).state

    accepted : IsAccepted opened link has.before has.call has.form xid
    accepted = at_mark (AskedMark IsPrefixOf opened link) run has.before (marks.Submit link has.call has.form (submissions.Accepted xid)) has.at.after has.at.is asked refl

    bytes : IsBytes (call_payload xid has.call)
    bytes = (at_mark TypedMark run has.before (marks.Submit link has.call has.form (submissions.Accepted xid)) has.at.after has.at.is typed).0

    stags : stag + regions_needed m.plan ≤ numbers_end
    stags = subst (λ (p : Plan). stag + regions_needed p ≤ numbers_end) (plan_is_lem accepted.plan m.plan (plan_for (client opened link has.before).state xid has.call has.form) accepted.planned has.planned) (accepted_stags opened link has.before has.call has.form xid accepted)

    formed : IsPlannedAs xid has.call has.form m.plan
    formed = accepted_plan opened link has.before has.call has.form xid m.plan accepted has.planned

    message : List ℕ
    message = call_message xid opened.wished stag m.plan

    -- the credits of its header are a word, whatever they are
    w : WrittenAs opened.wished
    w = written_as_lem opened.wished

    same : message ≡ call_message xid w.number stag m.plan
    same = message_same_lem xid opened.wished w.number stag m.plan w.same

    words : CallWords xid message
    words = (let fits = accepted.xids in call_words_lem xid opened.wished stag m.plan (omega (arith, fits)))

    done : word_at 12 message ≢ 3
    done e = (let kind = words.kind in omega (arith, e, kind))

    error : word_at 12 message ≢ 4
    error e = (let kind = words.kind in omega (arith, e, kind))

    bad : verdict k message ≡ BadChunks
    bad = (bad_refused k message (long_enough opened stag xid has.call has.form m.plan formed) words.version done error refl).1 m.refused
