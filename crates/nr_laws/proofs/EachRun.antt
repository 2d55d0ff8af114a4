-- After each run of a matched link in which each side kept its law in full, and of which no side has ended, both ends agree.
use Rattle.std.proofs.Common.{◌≡◌, ℕ, ◌+◌, Bool, true, false, cond, ◌&&◌, eqb, List, [], ◌∷◌, ◌++◌, length, None, refl, sym, ap, subst, ◌∙◌, arith, append_assoc, append-nil, lit<}
use Rattle.std.proofs.lemmas.Bool.{eqb-true}
use Rattle.nr_wire.specs.declared.hello.Side.TheVariants.{Initiator, Responder}
use Rattle.nr_wire.specs.Stream.{split}
use Rattle.nr_reduce.specs.declared.call.Submission.TheVariants as submissions
use Rattle.nr_reduce.specs.declared.mark.Mark.{Mark}
use Rattle.nr_reduce.specs.declared.mark.Mark.TheVariants as marks
use Rattle.nr_reduce.specs.declared.mark.LinkParameters.{LinkParameters}
use Rattle.nr_reduce.specs.History.{bytes_sent, bytes_received}
use Rattle.nr_reduce.specs.Events.{RunEvent, if_own, events_at, events}
use Rattle.nr_reduce.specs.EndRules.{EndState, EndMachine, end_state_after}
use Rattle.nr_reduce.specs.ClientState.{initial_client_state as client_initial_state, waiting_from}
use Rattle.nr_reduce.specs.ServerState.{initial_server_state as server_initial_state}
use Rattle.nr_reduce.specs.Client.{client_rules}
use Rattle.nr_reduce.specs.Server.{server_rules}
use Rattle.nr_reduce.specs.Run.{client, server, output_due}
use Rattle.nr_reduce.specs.AtEachMark.{AtEachMark}
use Rattle.nr_reduce.specs.Matched.{MatchedMark}
use Rattle.nr_reduce.specs.Asked.{AskedMark, IsAll}
use Rattle.nr_reduce.specs.Served.{ServedMark}
use Rattle.nr_reduce.proofs.Steps.{client_one, server_one}
use Rattle.nr_laws.specs.Typed.{TypedMark}
use Rattle.nr_laws.proofs.AgreedSizes.{up_limited, down_limited}
use Rattle.nr_laws.proofs.FrameContents.FrameContent.{HelloFrame}
use Rattle.nr_laws.proofs.TotalsAtClient.{totals_first}
use Rattle.nr_reduce.specs.Opening.{IsOpened, AreResumed, lengths_before}
use Rattle.nr_laws.proofs.Guards.{Guards, AreSizedResends}
use Rattle.nr_laws.proofs.OfferedAccesses.{AccessesAgree}
use Rattle.nr_laws.proofs.AccessesAtClient.{first_early, first_live, first_offered}
use Rattle.nr_laws.proofs.AgreeingRuns.{place_of, RunAgrees, MarkAgrees, preserved, none_preserve, fed_up_preserves, fed_down_preserves}
use Rattle.nr_laws.proofs.AgreeingMarks.{submit_preserves, wrote_up_preserves, wrote_down_preserves, execute_preserves, revoke_preserves, told_preserves}
use Rattle.nr_laws.proofs.ReceivedMessages.{was_live_lem}
use Rattle.nr_reduce.specs.declared.mark.ResumedCall.{ResumedCall}
use Rattle.nr_laws.proofs.PlannedSizes.{planned_message}
use Rattle.nr_reduce.specs.Plans.{regions_needed}
use Rattle.nr_reduce.proofs.RisingXids.{xids_rise}
use Rattle.nr_laws.proofs.OwnXids.{own_xids_begin}
use Rattle.nr_reduce.proofs.ToldCredits.{told_in_range}

-- ---- A side that has ended stays so

unended : {S : Type 0} (rules : EndMachine S) (state : List Mark → EndState S) (added : List Mark → Mark → List RunEvent) → ((before : List Mark) (m : Mark) → state (before ++ m ∷ []) ≡ end_state_after rules (state before) (added before m)) → (before more : List Mark)
    → (state (before ++ more)).ended ≡ None → (state before).ended ≡ None
unended rules state added one before [] e = ap (λ (run : List Mark). (state run).ended) (sym (append-nil before)) ∙ e
unended {S} rules state added one before (m ∷ more) e =
    let later = unended rules state added one (before ++ m ∷ []) more (ap (λ (run : List Mark). (state run).ended) (append_assoc before (m ∷ []) more) ∙ e) in
    was_live_lem rules (state before) (added before m) (ap (λ (x : EndState S). x.ended) (sym (one before m)) ∙ later)

pub client_unended : (opened : LinkParameters) (link : ℕ) (before more : List Mark) → (client opened link (before ++ more)).ended ≡ None → (client opened link before).ended ≡ None
client_unended opened link before more e = unended (client_rules opened) (λ run. client opened link run) (λ earlier m. events_at link Initiator earlier m) (λ earlier m. client_one opened link earlier m) before more e

pub server_unended : (opened : LinkParameters) (link : ℕ) (before more : List Mark) → (server opened link (before ++ more)).ended ≡ None → (server opened link before).ended ≡ None
server_unended opened link before more e = unended (server_rules opened) (λ run. server opened link run) (λ earlier m. events_at link Responder earlier m) (λ earlier m. server_one opened link earlier m) before more e

-- ---- At the beginning

-- both ends as they are opened, with their guards
pub record BothOpened (opened : LinkParameters) (link : ℕ) : Type 0 where
  pub joined : RunAgrees opened link []
  pub guards : IsOpened opened → Guards opened joined.k joined.s joined.u joined.d joined.all_up joined.all_down joined.w (place_of opened joined.u)
  pub accessed : AccessesAgree opened joined.k joined.s joined.d joined.all_up joined.all_down (length (bytes_received link Initiator []))

-- the messages of the calls that wait have the sizes by which they were planned
resends_from : (opened : LinkParameters) (first stag : ℕ) (rs : List ResumedCall) (next : ℕ) → AreResumed (lengths_before opened.agreed) first rs next → AreSizedResends opened (waiting_from stag rs)
resends_from opened first stag [] next h = tt
resends_from opened first stag (r ∷ rs) next h =
    let own = h.1.0 in (
      λ wished at. (let size = planned_message r.xid wished at r.call r.form r.plan own.planned in (size.0, (let most = size.1 in let up = own.up in omega (arith, most, up)))),
      resends_from opened (r.xid + 1) (stag + regions_needed r.plan) rs next h.1.1,
    )

pub starts : (opened : LinkParameters) (link : ℕ) → BothOpened opened link
unfolding client server events output_due bytes_received bytes_sent split
starts opened link = record {
  joined = record {
    k = client_initial_state opened;
    s = server_initial_state opened;
    u = [];
    d = [];
    all_up = HelloFrame ∷ [];
    all_down = [];
    w = record { queued_up = HelloFrame ∷ []; up = []; queued_down = []; down = [] };
    client_is = refl;
    server_is = refl;
    linked = record {
      parts_up = refl;
      parts_down = refl;
      counts = totals_first opened;
      waits = record { numbers = tt; xids = tt; calls_below = tt; reads_below = tt; ready_apart = tt; ready_calls = tt; whole_calls = tt };
      outs = own_xids_begin opened;
      fits = tt;
      short = tt;
      stream_up = tt;
      begins_up = omega arith;
      stream_down = tt;
      hellos_down = refl;
      no_reads = refl;
      sends_up = refl;
      requests_up = refl;
      sends_down = refl;
      requests_down = refl;
      requests_sent = refl;
      bytes_up = λ i. omega arith;
    };
    frames_up = refl;
    frames_down = refl;
    sent_up = refl;
    sent_down = refl;
    due_up = refl;
    due_down = refl;
    bytes_up = λ i. omega arith;
    bytes_down = λ i. omega arith;
  };
  guards = λ o. record {
    server = record {
      counts = totals_first opened;
      reads = record { answered = []; asked = []; parts = refl; answers = (refl, refl); requests = refl };
      waits = record { numbers = tt; xids = tt; calls_below = tt; reads_below = tt; ready_apart = tt; ready_calls = tt; whole_calls = tt };
      sinks = tt;
      regions = record { stags = tt; calls = tt };
      limits = record { up = (omega arith, omega arith); down = (omega arith, omega arith) };
    };
    sizes = record { client_up = (up_limited opened).0; client_down = λ e. absurd cc; server_up = λ some. absurd (omega (arith, some)); server_down = (down_limited opened).0; client_takes = λ e. absurd cc; server_names = λ e. absurd cc };
    window = record { window = omega arith; grant = omega (arith, o.granted); receives = o.receives };
    up_said = (tt, tt);
    down_said = tt;
    names = tt;
    credit = omega arith;
    calls = tt;
    resends = resends_from opened 1 opened.first_stag opened.resumed opened.first_xid o.resumed;
    again = λ e. absurd cc;
    within = record { fit = tt; few = lit< tt; small = tt };
    sinks = omega arith;
    xids = tt;
    no_hello_numbered = λ e. tt;
    numbers = tt;
    answered = record { rise = λ n m lt. xids_rise opened n m o lt; once = λ x. omega arith; given = λ x some. absurd (omega (arith, some)); open_calls = λ n lt. absurd (omega (arith, lt)); room = λ n lt. absurd (omega (arith, lt)) };
    reached = ([], refl);
  };
  accessed = record {
    early = first_early 0 (waiting_from opened.first_stag opened.resumed);
    lives = first_live (waiting_from opened.first_stag opened.resumed);
    up_said = (tt, tt);
    asked = tt;
    resent = first_offered (waiting_from opened.first_stag opened.resumed);
    calls = tt;
    waiting = tt;
    down_said = tt;
  };
}

-- ---- Each mark

pub no_events_lem : (b c : Bool) (es : List RunEvent) → b ≡ false → if_own (b && c) es ≡ []
no_events_lem true c es e = absurd cc
no_events_lem false c es e = refl

no_bytes_lem : (b c : Bool) (bytes : List ℕ) → b ≡ false → cond (b && c) bytes [] ≡ []
no_bytes_lem true c bytes e = absurd cc
no_bytes_lem false c bytes e = refl

pub mark_preserves : (opened : LinkParameters) (link : ℕ) (run : List Mark) (mark : Mark) (j : RunAgrees opened link run) → AskedMark IsAll opened link run mark → ServedMark IsAll opened link run mark → MatchedMark link run mark → TypedMark run mark
    → (client opened link (run ++ mark ∷ [])).ended ≡ None → (server opened link (run ++ mark ∷ [])).ended ≡ None → MarkAgrees opened link run mark j
mark_preserves opened link run (marks.Submit l call form (submissions.Accepted xid)) j asked served matched typed up down = by (eqb l link) refl
  where
    by : (b : Bool) → eqb l link ≡ b → MarkAgrees opened link run (marks.Submit l call form (submissions.Accepted xid)) j
    by true e =
        let same = eqb-true l link e in
        subst (λ (n : ℕ). MarkAgrees opened link run (marks.Submit n call form (submissions.Accepted xid)) j) (sym same) (submit_preserves opened link run call form xid j (asked same))
    by false e = none_preserve opened link run (marks.Submit l call form (submissions.Accepted xid)) j (no_events_lem (eqb l link) true _ e) (no_events_lem (eqb l link) false _ e) refl refl refl refl
mark_preserves opened link run (marks.Submit l call form (submissions.Refused why)) j asked served matched typed up down = none_preserve opened link run (marks.Submit l call form (submissions.Refused why)) j refl refl refl refl refl refl
mark_preserves opened link run (marks.Submit l call form submissions.Dropped) j asked served matched typed up down = none_preserve opened link run (marks.Submit l call form submissions.Dropped) j refl refl refl refl refl refl
mark_preserves opened link run (marks.Wrote l Initiator bytes) j asked served matched typed up down = by (eqb l link) refl
  where
    by : (b : Bool) → eqb l link ≡ b → MarkAgrees opened link run (marks.Wrote l Initiator bytes) j
    by true e =
        let same = eqb-true l link e in
        subst (λ (n : ℕ). MarkAgrees opened link run (marks.Wrote n Initiator bytes) j) (sym same) (wrote_up_preserves opened link run bytes j (asked same))
    by false e = none_preserve opened link run (marks.Wrote l Initiator bytes) j (no_events_lem (eqb l link) true _ e) (no_events_lem (eqb l link) false _ e) refl refl (no_bytes_lem (eqb l link) true bytes e) (no_bytes_lem (eqb l link) false bytes e)
mark_preserves opened link run (marks.Wrote l Responder bytes) j asked served matched typed up down = by (eqb l link) refl
  where
    by : (b : Bool) → eqb l link ≡ b → MarkAgrees opened link run (marks.Wrote l Responder bytes) j
    by true e =
        let same = eqb-true l link e in
        subst (λ (n : ℕ). MarkAgrees opened link run (marks.Wrote n Responder bytes) j) (sym same) (wrote_down_preserves opened link run bytes j (served same))
    by false e = none_preserve opened link run (marks.Wrote l Responder bytes) j (no_events_lem (eqb l link) false _ e) (no_events_lem (eqb l link) true _ e) refl refl (no_bytes_lem (eqb l link) false bytes e) (no_bytes_lem (eqb l link) true bytes e)
mark_preserves opened link run (marks.Fed l Initiator bytes) j asked served matched typed up down = by (eqb l link) refl
  where
    by : (b : Bool) → eqb l link ≡ b → MarkAgrees opened link run (marks.Fed l Initiator bytes) j
    by true e =
        let same = eqb-true l link e in
        subst (λ (n : ℕ). MarkAgrees opened link run (marks.Fed n Initiator bytes) j) (sym same)
        (fed_down_preserves opened link run bytes j (matched same) typed (ap (λ (n : ℕ). (client opened link (run ++ marks.Fed n Initiator bytes ∷ [])).ended) (sym same) ∙ up))
    by false e = none_preserve opened link run (marks.Fed l Initiator bytes) j (no_events_lem (eqb l link) true _ e) (no_events_lem (eqb l link) false _ e) (no_bytes_lem (eqb l link) true bytes e) (no_bytes_lem (eqb l link) false bytes e) refl refl
mark_preserves opened link run (marks.Fed l Responder bytes) j asked served matched typed up down = by (eqb l link) refl
  where
    by : (b : Bool) → eqb l link ≡ b → MarkAgrees opened link run (marks.Fed l Responder bytes) j
    by true e =
        let same = eqb-true l link e in
        subst (λ (n : ℕ). MarkAgrees opened link run (marks.Fed n Responder bytes) j) (sym same)
        (fed_up_preserves opened link run bytes j (matched same) typed (ap (λ (n : ℕ). (server opened link (run ++ marks.Fed n Responder bytes ∷ [])).ended) (sym same) ∙ down))
    by false e = none_preserve opened link run (marks.Fed l Responder bytes) j (no_events_lem (eqb l link) false _ e) (no_events_lem (eqb l link) true _ e) (no_bytes_lem (eqb l link) false bytes e) (no_bytes_lem (eqb l link) true bytes e) refl refl
mark_preserves opened link run (marks.Execute l xid moment payload place reply) j asked served matched typed up down = by (eqb l link) refl
  where
    by : (b : Bool) → eqb l link ≡ b → MarkAgrees opened link run (marks.Execute l xid moment payload place reply) j
    by true e =
        let same = eqb-true l link e in
        subst (λ (n : ℕ). MarkAgrees opened link run (marks.Execute n xid moment payload place reply) j) (sym same) (execute_preserves opened link run xid moment payload place reply j (served same))
    by false e = none_preserve opened link run (marks.Execute l xid moment payload place reply) j (no_events_lem (eqb l link) false _ e) (no_events_lem (eqb l link) true _ e) refl refl refl refl
mark_preserves opened link run (marks.Done l xid outcome) j asked served matched typed up down = none_preserve opened link run (marks.Done l xid outcome) j refl refl refl refl refl refl
mark_preserves opened link run (marks.Lost l xid) j asked served matched typed up down = none_preserve opened link run (marks.Lost l xid) j refl refl refl refl refl refl
mark_preserves opened link run (marks.Forget l xid) j asked served matched typed up down = none_preserve opened link run (marks.Forget l xid) j refl refl refl refl refl refl
mark_preserves opened link run (marks.Revoke l xid bytes) j asked served matched typed up down = by (eqb l link) refl
  where
    by : (b : Bool) → eqb l link ≡ b → MarkAgrees opened link run (marks.Revoke l xid bytes) j
    by true e = subst (λ (n : ℕ). MarkAgrees opened link run (marks.Revoke n xid bytes) j) (sym (eqb-true l link e)) (revoke_preserves opened link run xid bytes j)
    by false e = none_preserve opened link run (marks.Revoke l xid bytes) j (no_events_lem (eqb l link) true _ e) (no_events_lem (eqb l link) false _ e) refl refl refl refl
mark_preserves opened link run (marks.Drop l) j asked served matched typed up down = none_preserve opened link run (marks.Drop l) j refl refl refl refl refl refl
mark_preserves opened link run (marks.Told l what) j asked served matched typed up down = by (eqb l link) refl
  where
    by : (b : Bool) → eqb l link ≡ b → MarkAgrees opened link run (marks.Told l what) j
    by true e =
        let same = eqb-true l link e in
        subst (λ (n : ℕ). MarkAgrees opened link run (marks.Told n what) j) (sym same) (told_preserves opened link run what j (told_in_range opened link run what (served same)) (ap (λ (n : ℕ). (server opened link (run ++ marks.Told n what ∷ [])).ended) (sym same) ∙ down))
    by false e = none_preserve opened link run (marks.Told l what) j (no_events_lem (eqb l link) false _ e) (no_events_lem (eqb l link) true _ e) refl refl refl refl

-- ---- Each run

joins_from : (opened : LinkParameters) (link : ℕ) (run before : List Mark) → RunAgrees opened link before → AtEachMark (AskedMark IsAll opened link) before run → AtEachMark (ServedMark IsAll opened link) before run → AtEachMark (MatchedMark link) before run
    → AtEachMark TypedMark before run → (client opened link (before ++ run)).ended ≡ None → (server opened link (before ++ run)).ended ≡ None → RunAgrees opened link (before ++ run)
joins_from opened link [] before j asked served matched typed up down = subst (RunAgrees opened link) (sym (append-nil before)) j
joins_from opened link (m ∷ run) before j asked served matched typed up down =
    let assoc : (before ++ m ∷ []) ++ run ≡ before ++ m ∷ run = append_assoc before (m ∷ []) run in
    let up_all : (client opened link ((before ++ m ∷ []) ++ run)).ended ≡ None = ap (λ (r : List Mark). (client opened link r).ended) assoc ∙ up in
    let down_all : (server opened link ((before ++ m ∷ []) ++ run)).ended ≡ None = ap (λ (r : List Mark). (server opened link r).ended) assoc ∙ down in
    let g = mark_preserves opened link before m j asked.0 served.0 matched.0 typed.0 (client_unended opened link (before ++ m ∷ []) run up_all) (server_unended opened link (before ++ m ∷ []) run down_all) in
    subst (RunAgrees opened link) assoc
    (joins_from opened link run (before ++ m ∷ []) (preserved opened link before m j g) asked.1 served.1 matched.1 typed.1 up_all down_all)

pub joins : (opened : LinkParameters) (link : ℕ) (run : List Mark) → AtEachMark (AskedMark IsAll opened link) [] run → AtEachMark (ServedMark IsAll opened link) [] run → AtEachMark (MatchedMark link) [] run
    → AtEachMark TypedMark [] run → (client opened link run).ended ≡ None → (server opened link run).ended ≡ None → RunAgrees opened link run
joins opened link run asked served matched typed up down = joins_from opened link run [] (starts opened link).joined asked served matched typed up down
