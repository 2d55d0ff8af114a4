-- Each accepted call line of a client is settled once the calls of its last link have completed: a call that no link settled is one of the last link.
use Rattle.std.specs.Prelude.{Contains}
use Rattle.std.specs.List.{flat_map, list_any}
use Rattle.std.proofs.Common.{◌≡◌, ℕ, ◌||◌, eqb, eqb-true, Bool, true, false, List, [], refl, sym, ap, subst, ◌∙◌}
use Rattle.nr_reduce.specs.declared.call.Submission.TheVariants as submissions
use Rattle.nr_reduce.specs.declared.mark.Mark.{Mark}
use Rattle.nr_reduce.specs.declared.mark.LinkParameters.{LinkParameters}
use Rattle.nr_reduce.specs.ClientState.{WaitingCall}
use Rattle.nr_reduce.specs.History.{AcceptedCall, CompletedCall, accepted_calls, completed_calls, is_abandoned, is_dropped}
use Rattle.nr_reduce.specs.OutcomesDue.{is_completed, outcomes_due}
use Rattle.nr_reduce.specs.Run.{client}
use Rattle.nr_laws.specs.Completion.{HaveCompleted}
use Rattle.nr_laws.proofs.LiveRegions.{passes_any}
use Rattle.nr_script.specs.Script.{ScriptLines, IsScript}
use Rattle.nr_drill.specs.Drill.{SerialServer, Setting, IsLink, client_of, answer_at, settles}
use Rattle.nr_drill.specs.Follows.{Follows, last_setting}
use Rattle.nr_drill.specs.InBytes.{RepliedInBytes}
use Rattle.nr_drill.proofs.Actions.{IsLastOf}
use Rattle.nr_drill.proofs.OpenCalls.{HasCall, KnowsCalls, accepts, found, none_settles, waits, waits_or_accepted}
use Rattle.nr_drill.proofs.NumberedDrills.{held, order}
use Rattle.nr_drill.proofs.Drained.{standing_is_last}

-- of a link whose calls have completed
completed_there : (o : LinkParameters) (link : ℕ) (run : List Mark) (xid : ℕ) → HaveCompleted o link run → outcomes_due o link run ≡ [] → HasCall o link run xid → is_abandoned link xid run ≡ false → is_completed link xid run ≡ true
completed_there o link run xid complete due h kept = by (accepts (accepted_calls link run) xid) refl (waits_or_accepted o link run xid h)
  where
    none : waits (client o link run).state.waiting xid ≡ false
    none = ap (λ (ws : List WaitingCall). waits ws xid) complete.none_waits

    by : (b : Bool) → accepts (accepted_calls link run) xid ≡ b → (b || waits (client o link run).state.waiting xid) ≡ true → is_completed link xid run ≡ true
    by true is e =
        let a = found (λ (x : AcceptedCall). eqb x.xid xid) (accepted_calls link run) is in
        let same : a.0.xid ≡ xid = eqb-true a.0.xid xid a.2 in
        let outcome = complete.has_done due a.0 (record { accepted = a.1; kept = ap (λ (n : ℕ). is_abandoned link n run) same ∙ kept }) in
        passes_any (λ (c : CompletedCall). eqb c.xid xid) (completed_calls link run) (record { xid = a.0.xid; outcome = outcome.0 }) outcome.1 a.2
    by false is e = absurd (let wrong : true ≡ false = sym e ∙ none in cc)

pub all_settled : (server : SerialServer) (script : ScriptLines) (run : List Mark) → IsScript script → RepliedInBytes run → (follows : Follows server script run) → (link : ℕ) → IsLink follows.last link → is_dropped link run ≡ false →
    HaveCompleted ((last_setting follows).opened link) link run → outcomes_due ((last_setting follows).opened link) link run ≡ [] →
    (xid : ℕ) → Contains (flat_map (answer_at (last_setting follows) (client_of (last_setting follows) link)) run) (submissions.Accepted xid) → list_any (settles (last_setting follows) (client_of (last_setting follows) link) xid) run ≡ true
all_settled server script run is replied follows link within standing complete due xid there = by (list_any (settles t own xid) run) refl
  where
    t : Setting
    t = last_setting follows

    own : ℕ
    own = client_of t link

    last : IsLastOf script.opening.clients own link follows.last
    last = (let owner = (order server script run is replied follows).owners link within in record { low = owner.0; high = owner.1; is = standing_is_last server script run is replied follows link within standing })

    knows : KnowsCalls t own link run
    knows = subst (KnowsCalls t own link) (sym follows.marks_are) ((held server script run is replied follows).frame.knows own link last)

    by : (b : Bool) → list_any (settles t own xid) run ≡ b → b ≡ true
    by true e = refl
    by false e =
        absurd (let none = none_settles t link xid run e in
        let done = completed_there (t.opened link) link run xid complete due (knows xid there e) none.1 in
        let wrong : false ≡ true = sym none.0 ∙ done in cc)
