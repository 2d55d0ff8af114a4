-- A command whose server owes nothing doesn't end with `Closed`: a call would be outstanding, and none is.
use Rattle.std.proofs.Common.{◌≡◌, ◌⊎◌, ◌<◌, ℕ, List, [], Option, Result, Err, inl, inr, arith, sym, ap, subst, ◌∙◌}
use Rattle.std.specs.List.{AllByRecursion}
use Rattle.nr_wire.specs.declared.hello.Side.TheVariants.{Initiator}
use Rattle.nr_outside.specs.declared.moment.Moment.{Moment}
use Rattle.nr_reduce.specs.declared.mark.Entry.{Entry}
use Rattle.nr_reduce.specs.declared.mark.LinkParameters.{LinkParameters}
use Rattle.nr_reduce.specs.declared.mark.Mark.{Mark}
use Rattle.nr_reduce.specs.Credits.{calls_outstanding}
use Rattle.nr_reduce.specs.Opening.{IsOpened, IsFirstLink}
use Rattle.nr_reduce.proofs.Unresumed.{none_resent, resent_marks}
use Rattle.nr_reduce.specs.Run.{HasWritten}
use Rattle.nr_reduce.specs.SoFar.{InFull}
use Rattle.nr_laws.specs.EndCauses.{KeepLaws, HasNoOldCall}
use Rattle.nr_laws.specs.Stays.{ConveyedMark, NotRevokedMark}
use Rattle.nr_laws.proofs.NeitherEnds.{matched_calls_complete}
use Rattle.nr_laws.proofs.NoOldCalls.{no_old_call}
use Rattle.nr_requester.specs.RequesterState.{RequesterSide}
use Rattle.nr_requester.proofs.MaySubmit.{outstanding_as_client}
use Rattle.nr_shared.specs.declared.call_end.CallEnd.TheVariants as calls
use Rattle.nr_client.specs.declared.client_end.ClientEnd.{ClientEnd}
use Rattle.nr_client.specs.declared.client_end.ClientEnd.TheVariants as client
use Rattle.nr_client.specs.Steps.{IsLive}
use Rattle.nr_client.specs.Views.{LinkView}
use Rattle.nr_client.proofs.Turns.{written_now}
use Rattle.nr_commands.specs.Running.Runs.{NotOpened, Opened}
use Rattle.nr_service_laws.specs.ClientMarks.{IsOwn, StandsAt}
use Rattle.nr_service_laws.specs.EndCauses.{CauseAt}
use Rattle.nr_service_laws.specs.ServedLinks.{IsServedBy, OwesNothing, ServedCommandsAreNotClosed}
use Rattle.nr_service_laws.proofs.ClientLaws.{outstanding_in_both, written_in_both}
use Rattle.nr_service_laws.proofs.EndCauses.{ends_have_causes_lem}
use Rattle.nr_service_laws.proofs.OpenLinks.{agrees_first, conveyed, not_revoked, own_each}
use Rattle.nr_service_laws.proofs.ServedLaws.{served_keep_laws_lem}

-- once nothing is in transit, no call of a command is outstanding
none_outstanding : (reply_to : List Entry → Moment → List ℕ → Option (List ℕ)) (adds : Moment → List ℕ → List ℕ → List Entry) (opened : LinkParameters) (link : ℕ) (run both : List Mark)
    → IsOpened opened → IsFirstLink opened → AllByRecursion (IsOwn link) run → IsServedBy reply_to adds opened link run both → KeepLaws opened link both → HasNoOldCall link both → OwesNothing opened link both → HasWritten opened link Initiator run
    → calls_outstanding opened link run ≡ 0
none_outstanding reply_to adds opened link run both fine first own served laws fresh owes written =
    let back = sym served.client_side in
    let owns = subst (λ (r : List Mark). AllByRecursion (IsOwn link) r) back own in
    let full : InFull opened link both = record {
      asked = record {
        each = laws.client;
        written = written_in_both opened link both (subst (λ (r : List Mark). HasWritten opened link Initiator r) back written);
        resent = resent_marks opened link both first.resumed;
        none_left = none_resent opened link both first.resumed;
      };
      served = record { each = laws.server; written = owes.written };
      matched = laws.matched;
      grant = laws.grant;
    } in
    let complete = matched_calls_complete reply_to adds opened link both fine (agrees_first opened first.agreed) served.typed full fresh (own_each (NotRevokedMark link) link [] both (not_revoked link) owns)
    (own_each (ConveyedMark opened link) link [] both (conveyed opened link) owns) served.limits served.plain owes.nothing_waits in
    ap (λ (r : List Mark). calls_outstanding opened link r) back ∙ sym (outstanding_in_both opened link both) ∙ complete.none_outstanding

-- at `Closed` one is, and all output is written
record WaitsAt (opened : LinkParameters) (link : ℕ) (run : List Mark) : Type 0 where
  written : HasWritten opened link Initiator run
  waiting : 0 < calls_outstanding opened link run

waits_at : (opened : LinkParameters) (link : ℕ) (run : List Mark) (b : LinkView) → IsLive opened link b.requester run → CauseAt calls.Closed b → WaitsAt opened link run
waits_at opened link run b live cause =
    let (ended, (at_end, (few, (some, none)))) = cause in
    record { written = written_now opened link run b.requester none live; waiting = subst (λ (k : ℕ). 0 < k) (outstanding_as_client opened link b.requester run live.stands) some }

live_at : (result : Result (Unit {0}) ClientEnd) (opened : LinkParameters) (link : ℕ) (h : RequesterSide) (ahead : List ℕ) (run : List Mark) → result ≡ Err (client.Link calls.Closed)
    → StandsAt result opened link h ahead run → IsLive opened link h run
live_at result opened link h ahead run closed (inl (live, fed)) = live
live_at result opened link h ahead run closed (inr (is, out)) = absurd (let wrong = sym closed ∙ is in cc)

none_at_all : (n : ℕ) → n ≡ 0 → 0 < n → ⊥
none_at_all n none some = omega (arith, none, some)

pub served_not_closed_lem : ServedCommandsAreNotClosed
served_not_closed_lem opened link c before after input input' out out' result (NotOpened end is fails same_input same_out) = tt
served_not_closed_lem opened link c before after input input' out out' result (Opened dialed s s' opens prints closes) = λ ran reply_to adds both fine served owes closed.
    let laws = served_keep_laws_lem opened link c before after input input' out out' result (Opened dialed s s' opens prints closes) ran reply_to adds both fine served in
    let fresh = no_old_call opened link both served.typed laws.0 ran.unnumbered in
    let live = live_at result opened link s'.requester ran.ahead ran.run closed ran.stands in
    let cause = ends_have_causes_lem c before after input input' out out' result (Opened dialed s s' opens prints closes) calls.Closed closed in
    let waits = waits_at opened link ran.run s' live cause in
    by closed (λ kept. none_at_all (calls_outstanding opened link ran.run) (none_outstanding reply_to adds opened link ran.run both fine ran.first_link ran.own served kept fresh owes waits.written) waits.waiting) laws.1
  where
    by : {K : Type 0} → result ≡ Err (client.Link calls.Closed) → (K → ⊥) → (result ≡ Err (client.Link calls.LinkWrite)) ⊎ K → ⊥
    by closed goes (inl failed) = absurd (let wrong = sym closed ∙ failed in cc)
    by closed goes (inr kept) = goes kept
