-- A command over a matched link whose server keeps its law with each Wrote in full: the client keeps its own, and the link stays open.
use Rattle.std.proofs.Common.{◌≡◌, ◌⊎◌, ℕ, List, [], Option, Result, Err, inl, inr, sym, subst}
use Rattle.std.specs.List.{AllByRecursion}
use Rattle.nr_outside.specs.declared.moment.Moment.{Moment}
use Rattle.nr_link.specs.declared.end.End.TheVariants as ends
use Rattle.nr_reduce.specs.declared.mark.Entry.{Entry}
use Rattle.nr_reduce.specs.declared.mark.LinkParameters.{LinkParameters}
use Rattle.nr_reduce.specs.declared.mark.Mark.{Mark}
use Rattle.nr_reduce.specs.Asked.{AskedMark, AskedSoFar, IsAll}
use Rattle.nr_reduce.specs.AtEachMark.{AtEachMark}
use Rattle.nr_reduce.specs.Credits.{KeepsGrant}
use Rattle.nr_reduce.specs.Matched.{IsPrefixOf, Matched}
use Rattle.nr_reduce.specs.Served.{ServedMark}
use Rattle.nr_reduce.proofs.SoFarLaws.{AtEachMark_each, served_mark}
use Rattle.nr_laws.specs.EndCauses.{KeepLaws}
use Rattle.nr_laws.specs.MatchedSoFar.{MatchedSoFar}
use Rattle.nr_laws.proofs.NoOldCalls.{no_old_call}
use Rattle.nr_shared.specs.declared.call_end.CallEnd.TheVariants as calls
use Rattle.nr_client.specs.declared.client_end.ClientEnd.{ClientEnd}
use Rattle.nr_client.specs.declared.client_end.ClientEnd.TheVariants as client
use Rattle.nr_client.specs.Steps.{WritesInFull}
use Rattle.nr_commands.specs.Running.Runs.{NotOpened, Opened}
use Rattle.nr_service_laws.specs.ClientMarks.{IsOwn, IsWholeFor}
use Rattle.nr_service_laws.specs.ServedCommands.{IsClientSideOf, client_marks}
use Rattle.nr_service_laws.specs.ServedLinks.{IsServedBy, ServedCommandsHaveNotEnded, ServedCommandsKeepLaws}
use Rattle.nr_service_laws.proofs.ClientLaws.{asked_in_both, grant_in_both, whole_each}
use Rattle.nr_service_laws.proofs.OpenLinks.{agrees_first, requester_open, served_clients_stay_lem}

-- the server's law and the link
pub record ServerKeeps (opened : LinkParameters) (link : ℕ) (run both : List Mark) : Type 0 where
  pub client_side : client_marks link both ≡ run
  pub served : AtEachMark (ServedMark IsAll opened link) [] both
  pub matched : Matched link both

pub matched_by : (opened : LinkParameters) (link : ℕ) (run both : List Mark) → AllByRecursion (IsOwn link) run → AskedSoFar opened link run → ServerKeeps opened link run both → MatchedSoFar opened link both
matched_by opened link run both own asked keeps =
    let back = sym keeps.client_side in
    record {
      asked = asked_in_both IsPrefixOf opened link both (subst (λ (r : List Mark). AllByRecursion (IsOwn link) r) back own) (subst (λ (r : List Mark). AskedSoFar opened link r) back asked);
      served = AtEachMark_each (ServedMark IsAll opened link) (ServedMark IsPrefixOf opened link) [] both (served_mark opened link) keeps.served;
      matched = keeps.matched;
    }

pub laws_by : (opened : LinkParameters) (link : ℕ) (run both : List Mark) → AllByRecursion (IsOwn link) run → AskedSoFar opened link run → KeepsGrant opened link run → WritesInFull opened link [] run
    → ServerKeeps opened link run both → KeepLaws opened link both
laws_by opened link run both own asked granted whole keeps =
    let back = sym keeps.client_side in
    let owns = subst (λ (r : List Mark). AllByRecursion (IsOwn link) r) back own in
    record {
      client = asked_in_both IsAll opened link both owns
          (subst (λ (r : List Mark). AtEachMark (AskedMark IsAll opened link) [] r) back (whole_each opened link [] run asked whole));
      server = keeps.served;
      matched = keeps.matched;
      grant = grant_in_both opened link both owns (subst (λ (r : List Mark). KeepsGrant opened link r) back granted);
    }

laws_unless : (result : Result (Unit {0}) ClientEnd) (opened : LinkParameters) (link : ℕ) (run both : List Mark) → AllByRecursion (IsOwn link) run → AskedSoFar opened link run → KeepsGrant opened link run
    → IsWholeFor result opened link [] run → ServerKeeps opened link run both → (result ≡ Err (client.Link calls.LinkWrite)) ⊎ KeepLaws opened link both
laws_unless result opened link run both own asked granted (inl failed) keeps = inl failed.0
laws_unless result opened link run both own asked granted (inr whole) keeps = inr (laws_by opened link run both own asked granted whole keeps)

pub keeps_of : (reply_to : List Entry → Moment → List ℕ → Option (List ℕ)) (adds : Moment → List ℕ → List ℕ → List Entry) (opened : LinkParameters) (link : ℕ) (run both : List Mark)
    → IsServedBy reply_to adds opened link run both → ServerKeeps opened link run both
keeps_of reply_to adds opened link run both served = record { client_side = served.client_side; served = served.served; matched = served.matched }

pub side_of : (reply_to : List Entry → Moment → List ℕ → Option (List ℕ)) (adds : Moment → List ℕ → List ℕ → List Entry) (opened : LinkParameters) (link : ℕ) (run both : List Mark)
    → IsServedBy reply_to adds opened link run both → MatchedSoFar opened link both → IsClientSideOf reply_to adds opened link run both
side_of reply_to adds opened link run both served matched =
    record { client_side = served.client_side; typed = served.typed; matched = matched; limits = served.limits; plain = served.plain }

pub served_keep_laws_lem : ServedCommandsKeepLaws
served_keep_laws_lem opened link c before after input input' out out' result (NotOpened end is fails same_input same_out) = tt
served_keep_laws_lem opened link c before after input input' out out' result (Opened dialed s s' opens prints closes) = λ ran reply_to adds both fine served.
    let keeps = keeps_of reply_to adds opened link ran.run both served in
    (matched_by opened link ran.run both ran.own ran.asked keeps, laws_unless result opened link ran.run both ran.own ran.asked ran.granted ran.whole keeps)

pub served_not_ended_lem : ServedCommandsHaveNotEnded
served_not_ended_lem opened link c before after input input' out out' result (NotOpened end is fails same_input same_out) = tt
served_not_ended_lem opened link c before after input input' out out' result (Opened dialed s s' opens prints closes) = λ ran reply_to adds both fine served.
    let laws = served_keep_laws_lem opened link c before after input input' out out' result (Opened dialed s s' opens prints closes) ran reply_to adds both fine served in
    let side = side_of reply_to adds opened link ran.run both served laws.0 in
    let fresh = no_old_call opened link both served.typed laws.0 ran.unnumbered in
    by (λ kept. requester_open result opened link s'.requester ran.ahead ran.run ran.stands (served_clients_stay_lem reply_to adds opened link ran.run both fine (agrees_first opened ran.first_link.agreed) ran.own side kept fresh)) laws.1
  where
    memory_or : (A : Type 0) → A ⊎ (result ≡ Err (client.Link (calls.Ended ends.Memory))) → A ⊎ ((result ≡ Err (client.Link (calls.Ended ends.Memory))) ⊎ (result ≡ Err (client.Link calls.LinkWrite)))
    memory_or A (inl stays) = inl stays
    memory_or A (inr out) = inr (inl out)

    by : {K A : Type 0} → (K → A ⊎ (result ≡ Err (client.Link (calls.Ended ends.Memory)))) → (result ≡ Err (client.Link calls.LinkWrite)) ⊎ K
        → A ⊎ ((result ≡ Err (client.Link (calls.Ended ends.Memory))) ⊎ (result ≡ Err (client.Link calls.LinkWrite)))
    by goes (inl failed) = inr (inr failed)
    by {K} {A} goes (inr kept) = memory_or A (goes kept)
