-- A command over a plain server that keeps its law is done, or ends for a cause that it has.
use Rattle.std.proofs.Common.{◌≡◌, ℕ, true, false, List, length, Result, Ok, Err, inl, inr, refl, sym, ap, subst, ◌∙◌}
use Rattle.nr_outside.specs.Faults.{Rises}
use Rattle.nr_outside.specs.Streams.{SinkAt, SourceAt}
use Rattle.nr_link.specs.declared.end.End.{End}
use Rattle.nr_link.specs.declared.end.End.TheVariants as ends
use Rattle.nr_nfs_res.specs.Readdir.{ReaddirOk}
use Rattle.nr_tree.specs.Sane.{IsSane}
use Rattle.nr_plain.specs.Added.{entries_of_call}
use Rattle.nr_plain.specs.Replies.{plain_reply}
use Rattle.nr_plain.specs.Setup.{Setup}
use Rattle.nr_plain.proofs.PlainServers.{server_is_plain}
use Rattle.std.specs.List.{AllByRecursion}
use Rattle.nr_reduce.specs.Asked.{AskedSoFar}
use Rattle.nr_reduce.specs.declared.call.Outcome.{Outcome}
use Rattle.nr_reduce.specs.declared.mark.LinkParameters.{LinkParameters}
use Rattle.nr_reduce.specs.declared.mark.Mark.{Mark}
use Rattle.nr_shared.specs.declared.call_end.CallEnd.TheVariants as calls
use Rattle.nr_client.specs.declared.client_end.ClientEnd.{ClientEnd}
use Rattle.nr_client.specs.declared.client_end.ClientEnd.TheVariants as client
use Rattle.nr_words.specs.Lines.{Text}
use Rattle.nr_words.specs.declared.commands.Action.{Action}
use Rattle.nr_client.specs.Dialing.{DialerAt, OpenFails}
use Rattle.nr_client.specs.Listing.{readdir_result}
use Rattle.nr_commands.specs.Running.Runs.{NotOpened, Opened}
use Rattle.nr_commands.specs.Sessions.{CountsFaults, SessionAt}
use Rattle.nr_reply_laws.specs.Replies.{AnyValue, HasResults, IsHandle, ListsOn}
use Rattle.nr_reply_laws.proofs.Replies.{create_lem, getattr_lem, lookup_lem, mkdir_lem, mount_lem, read_lem, readdir_lem, readlink_lem, remove_lem, symlink_lem, write_lem}
use Rattle.nr_service_laws.specs.CompleteCommands.{IsComplete, IsUndisturbed, OpensForCause, ResultHasCause, IsServedPlainly, ServedCommandsComplete, ServedCommandsHaveCauses}
use Rattle.nr_service_laws.specs.Exchanges.{tells_text}
use Rattle.nr_service_laws.specs.ClientMarks.{IsOwn}
use Rattle.nr_service_laws.specs.ServedLinks.{IsServedBy}
use Rattle.nr_service_laws.proofs.EndCauses.{served_end_for_memory_lem}
use Rattle.nr_service_laws.proofs.Judged.{Any, IsReadEnd, Judgement, ReaddirEnds, ResultIs}
use Rattle.nr_service_laws.proofs.JudgedCommands.{WordsGive, opened_is}
use Rattle.nr_service_laws.proofs.JudgedParts.{GivenIs}
use Rattle.nr_service_laws.proofs.NotClosed.{served_not_closed_lem}
use Rattle.nr_service_laws.proofs.ServedAnswers.{IsPlainSide, IsServedReply, exchanges_judged}
use Rattle.nr_service_laws.proofs.ServedLaws.{matched_by, side_of}
use Rattle.nr_service_laws.proofs.ServedOutcomes.{served_commands_end_lem}

-- ---- Replies of a plain server

-- the ends of a command that are not of its link, by the fault counts of its input and its output
abbrev OwnEnd : (input_rose output_rose : Type 0) → ClientEnd → Type 0
OwnEnd input_rose output_rose (client.Rpc kind code) = Unit {0}
OwnEnd input_rose output_rose (client.Mount status) = Unit {0}
OwnEnd input_rose output_rose (client.Nfs status) = Unit {0}
OwnEnd input_rose output_rose (client.BadPath at) = Unit {0}
OwnEnd input_rose output_rose (client.Budget count) = Unit {0}
OwnEnd input_rose output_rose client.InputFault = input_rose
OwnEnd input_rose output_rose client.OutputFault = output_rose
OwnEnd input_rose output_rose end = ⊥

module _ (I O : Type 0) where
  from_results : {A : Type 0} (P V : A → Type 0) (r : Result A ClientEnd) → ((value : A) → P value → V value) → HasResults P r → ResultIs V (OwnEnd I O) r
  from_results P V (Ok value) so has = so value has
  from_results P V (Err (client.Rpc kind code)) so has = tt
  from_results P V (Err (client.Mount status)) so has = tt
  from_results P V (Err (client.Nfs status)) so has = tt
  from_results P V (Err client.DialFault) so has = absurd has
  from_results P V (Err (client.Link end)) so has = absurd has
  from_results P V (Err client.Chunk) so has = absurd has
  from_results P V (Err (client.Version low high)) so has = absurd has
  from_results P V (Err (client.BadReply at reason)) so has = absurd has
  from_results P V (Err (client.BadPath at)) so has = absurd has
  from_results P V (Err client.InputFault) so has = absurd has
  from_results P V (Err client.OutputFault) so has = absurd has
  from_results P V (Err (client.Budget count)) so has = absurd has
  from_results P V (Err client.Memory) so has = absurd has

  -- a READDIR that ends a list is refused, or the list is too long
  readdir_ends_it : (o : Outcome) (end : ClientEnd) → HasResults ListsOn (readdir_result o) → ReaddirEnds o end → IsReadEnd (OwnEnd I O) end
  readdir_ends_it o end has (inl is) = from_results {A = ReaddirOk} ListsOn Any (Err end) (λ v on. tt) (subst (λ (r : Result ReaddirOk ClientEnd). HasResults ListsOn r) is has)
  readdir_ends_it o end has (inr (listing, (is, inl (stuck, same)))) =
      absurd (let on = subst (λ (r : Result ReaddirOk ClientEnd). HasResults ListsOn r) is has in let wrong : true ≡ false = sym stuck ∙ on in cc)
  readdir_ends_it o end has (inr (listing, (is, inr same))) = subst (λ (e : ClientEnd). IsReadEnd (OwnEnd I O) e) (sym same) tt

  judged_plainly : (setup : Setup) (uid gid : ℕ) → IsSane setup.tree → Judgement (IsServedReply setup) IsHandle (OwnEnd I O) uid gid
  judged_plainly setup uid gid sane = record {
    mounted = λ export o r. from_results IsHandle IsHandle _ (λ v is. is) (mount_lem setup uid gid export o (record { uid_fits = r.cred.1.1.0; gid_fits = r.cred.1.1.1.0 }) r.replied);
    found = λ dir name o r. from_results IsHandle IsHandle _ (λ v is. is) (lookup_lem setup uid gid dir name o (record { uid_fits = r.cred.1.1.0; gid_fits = r.cred.1.1.1.0 }) r.replied);
    attributes = λ file o r. from_results AnyValue Any _ (λ v is. tt) (getattr_lem setup uid gid file o (record { uid_fits = r.cred.1.1.0; gid_fits = r.cred.1.1.1.0 }) r.replied);
    link_read = λ file o r. from_results AnyValue Any _ (λ v is. tt) (readlink_lem setup uid gid file o sane (record { uid_fits = r.cred.1.1.0; gid_fits = r.cred.1.1.1.0 }) r.replied);
    directory_made = λ dir name o r. from_results AnyValue Any _ (λ v is. tt) (mkdir_lem setup uid gid dir name o (record { uid_fits = r.cred.1.1.0; gid_fits = r.cred.1.1.1.0 }) r.replied);
    link_made = λ dir name path o r. from_results AnyValue Any _ (λ v is. tt) (symlink_lem setup uid gid dir name path o (record { uid_fits = r.cred.1.1.0; gid_fits = r.cred.1.1.1.0 }) r.replied);
    removed = λ dir name o r. from_results AnyValue Any _ (λ v is. tt) (remove_lem setup uid gid dir name o (record { uid_fits = r.cred.1.1.0; gid_fits = r.cred.1.1.1.0 }) r.replied);
    created = λ dir name o r. from_results IsHandle IsHandle _ (λ v is. is) (create_lem setup uid gid dir name o sane (record { uid_fits = r.cred.1.1.0; gid_fits = r.cred.1.1.1.0 }) r.replied);
    read = λ file offset count o holds some few r.
        from_results AnyValue Any _ (λ v is. tt) (read_lem setup uid gid file offset count o holds some few (record { uid_fits = r.cred.1.1.0; gid_fits = r.cred.1.1.1.0 }) r.replied);
    written = λ file offset bytes o holds some few r.
        from_results AnyValue Any _ (λ v is. tt) (write_lem setup uid gid file offset bytes o holds some few (record { uid_fits = r.cred.1.1.0; gid_fits = r.cred.1.1.1.0 }) r.replied);
    listed = λ dir cookie verifier earlier o end before makes r ends how.
        readdir_ends_it o end (readdir_lem setup uid gid dir cookie verifier o sane (record { uid_fits = r.cred.1.1.0; gid_fits = r.cred.1.1.1.0 }) r.replied) how;
  }

  any_words : (export : List ℕ) (action : Action Text) (input : SourceAt) → WordsGive (OwnEnd I O) export action input
  any_words export action input = record { export_long = λ long. tt; path_bad = λ at bad. tt; target_long = λ path target is long. tt; input_long = λ path is long. tt }

-- ---- The end of a command

has_cause : (result : Result (Unit {0}) ClientEnd) (s s' : SessionAt) (input input' : SourceAt) (out out' : SinkAt)
    → GivenIs Any (OwnEnd (Rises input.faults input'.faults) (Rises out.faults out'.faults)) result s' → CountsFaults s s' result
    → ((end : End) → result ≡ Err (client.Link (calls.Ended end)) → end ≡ ends.Memory) → ResultHasCause result s s' input input' out out'
has_cause (Ok done) s s' input input' out out' is counts memory = tt
has_cause (Err client.DialFault) s s' input input' out out' is counts memory = is
has_cause (Err (client.Link (calls.Ended end))) s s' input input' out out' is counts memory = memory end refl
has_cause (Err (client.Link calls.LinkRead)) s s' input input' out out' is counts memory = counts.0
has_cause (Err (client.Link calls.LinkWrite)) s s' input input' out out' is counts memory = counts.1
has_cause (Err (client.Link calls.Closed)) s s' input input' out out' is counts memory = is.1.0
has_cause (Err (client.Link (calls.Tries n))) s s' input input' out out' is counts memory = absurd is
has_cause (Err (client.Link calls.DialFault)) s s' input input' out out' is counts memory = absurd is
has_cause (Err (client.Link (calls.Spent left_over need))) s s' input input' out out' is counts memory = tt
has_cause (Err (client.Link (calls.TooLarge need room))) s s' input input' out out' is counts memory = tt
has_cause (Err (client.Link (calls.Budget count))) s s' input input' out out' is counts memory = tt
has_cause (Err (client.Link calls.Memory)) s s' input input' out out' is counts memory = tt
has_cause (Err (client.Rpc kind code)) s s' input input' out out' is counts memory = tt
has_cause (Err (client.Mount status)) s s' input input' out out' is counts memory = tt
has_cause (Err (client.Nfs status)) s s' input input' out out' is counts memory = tt
has_cause (Err client.Chunk) s s' input input' out out' is counts memory = is
has_cause (Err (client.Version low high)) s s' input input' out out' is counts memory = is
has_cause (Err (client.BadReply at reason)) s s' input input' out out' is counts memory = is
has_cause (Err (client.BadPath at)) s s' input input' out out' is counts memory = tt
has_cause (Err client.InputFault) s s' input input' out out' is counts memory = is
has_cause (Err client.OutputFault) s s' input input' out out' is counts memory = is
has_cause (Err (client.Budget count)) s s' input input' out out' is counts memory = tt
has_cause (Err client.Memory) s s' input input' out out' is counts memory = tt

opens_for_cause : (end : ClientEnd) (addr : List ℕ) (before after : DialerAt) → OpenFails end addr before after → OpensForCause end before after
opens_for_cause client.DialFault addr before after fails = fails.failed
opens_for_cause client.Memory addr before after fails = tt
opens_for_cause (client.Link end) addr before after fails = absurd fails
opens_for_cause (client.Rpc kind code) addr before after fails = absurd fails
opens_for_cause (client.Mount status) addr before after fails = absurd fails
opens_for_cause (client.Nfs status) addr before after fails = absurd fails
opens_for_cause client.Chunk addr before after fails = absurd fails
opens_for_cause (client.Version low high) addr before after fails = absurd fails
opens_for_cause (client.BadReply at reason) addr before after fails = absurd fails
opens_for_cause (client.BadPath at) addr before after fails = absurd fails
opens_for_cause client.InputFault addr before after fails = absurd fails
opens_for_cause client.OutputFault addr before after fails = absurd fails
opens_for_cause (client.Budget count) addr before after fails = absurd fails

by_server : (setup : Setup) (opened : LinkParameters) (link : ℕ) (run both : List Mark) → IsSane setup.tree → IsServedPlainly setup opened link run both
    → IsServedBy (λ entries moment payload. plain_reply setup entries (length entries) moment payload) entries_of_call opened link run both
by_server setup opened link run both sane served =
    record { client_side = served.client_side; typed = served.typed; served = served.served; matched = served.matched; limits = server_is_plain setup sane; plain = served.plain }

plain_side : (setup : Setup) (opened : LinkParameters) (link : ℕ) (run both : List Mark) → AllByRecursion (IsOwn link) run → AskedSoFar opened link run → IsServedPlainly setup opened link run both
    → IsPlainSide setup opened link run both
plain_side setup opened link run both own asked served = record {
  client_side = served.client_side;
  typed = served.typed;
  matched = matched_by opened link run both own asked (record { client_side = served.client_side; served = served.served; matched = served.matched });
  plain = served.plain;
}

pub served_commands_have_causes_lem : ServedCommandsHaveCauses
served_commands_have_causes_lem setup opened link c before after input input' out out' result (NotOpened end is fails same_input same_out) sane session = opens_for_cause end c.addr before after fails
served_commands_have_causes_lem setup opened link c before after input input' out out' result (Opened dialed s s' opens prints closes) sane session = λ ran both served.
    let I = Rises input.faults input'.faults in
    let O = Rises out.faults out'.faults in
    let made = (tells_text c.uid c.gid c.export c.action input input' out prints.written s s' prints.text prints.made).made in
    let plain = plain_side setup opened link ran.run both ran.own ran.asked served in
    let server = by_server setup opened link ran.run both sane served in
    has_cause result s s' input input' out out'
    (opened_is (IsServedReply setup) IsHandle (OwnEnd I O) c before dialed s s' input input' out out' result opens prints opened link (judged_plainly I O setup c.uid c.gid sane)
    (any_words I O c.export c.action input) (λ rose. rose) (λ rose. rose)
    session.fine session.first_xid session.first_stag session.wished (exchanges_judged setup opened link ran.run both made sane session.fine plain ran.marks_are))
    (served_commands_end_lem opened link c before after input input' out out' result (Opened dialed s s' opens prints closes) ran
    (λ entries moment payload. plain_reply setup entries (length entries) moment payload) entries_of_call both
    (side_of (λ entries moment payload. plain_reply setup entries (length entries) moment payload) entries_of_call opened link ran.run both server plain.matched)).0
    (served_end_for_memory_lem opened link c before after input input' out out' result (Opened dialed s s' opens prints closes) ran
    (λ entries moment payload. plain_reply setup entries (length entries) moment payload) entries_of_call both session.fine server)

-- ---- If nothing fails

complete_by : (result : Result (Unit {0}) ClientEnd) (s s' : SessionAt) (input input' : SourceAt) (out out' : SinkAt) → IsUndisturbed s s' input input' out out' → ResultHasCause result s s' input input' out out' → IsComplete result s'.bytes.left
complete_by (Ok done) s s' input input' out out' calm is = tt
complete_by (Err client.DialFault) s s' input input' out out' calm is = is
complete_by (Err (client.Link (calls.Ended end))) s s' input input' out out' calm is = is
complete_by (Err (client.Link calls.LinkRead)) s s' input input' out out' calm is = calm.source is
complete_by (Err (client.Link calls.LinkWrite)) s s' input input' out out' calm is = calm.sink is
complete_by (Err (client.Link calls.Closed)) s s' input input' out out' calm is = is
complete_by (Err (client.Link (calls.Tries n))) s s' input input' out out' calm is = is
complete_by (Err (client.Link calls.DialFault)) s s' input input' out out' calm is = is
complete_by (Err (client.Link (calls.Spent left_over need))) s s' input input' out out' calm is = tt
complete_by (Err (client.Link (calls.TooLarge need room))) s s' input input' out out' calm is = tt
complete_by (Err (client.Link (calls.Budget count))) s s' input input' out out' calm is = tt
complete_by (Err (client.Link calls.Memory)) s s' input input' out out' calm is = tt
complete_by (Err (client.Rpc kind code)) s s' input input' out out' calm is = tt
complete_by (Err (client.Mount status)) s s' input input' out out' calm is = tt
complete_by (Err (client.Nfs status)) s s' input input' out out' calm is = tt
complete_by (Err client.Chunk) s s' input input' out out' calm is = is
complete_by (Err (client.Version low high)) s s' input input' out out' calm is = is
complete_by (Err (client.BadReply at reason)) s s' input input' out out' calm is = is
complete_by (Err (client.BadPath at)) s s' input input' out out' calm is = tt
complete_by (Err client.InputFault) s s' input input' out out' calm is = calm.input_reads is
complete_by (Err client.OutputFault) s s' input input' out out' calm is = calm.output_writes is
complete_by (Err (client.Budget count)) s s' input input' out out' calm is = tt
complete_by (Err client.Memory) s s' input input' out out' calm is = tt

opens_complete : (end : ClientEnd) (before after : DialerAt) → OpensForCause end before after → (Rises before.faults after.faults → ⊥) → end ≡ client.Memory
opens_complete client.DialFault before after is calm = absurd (calm is)
opens_complete client.Memory before after is calm = refl
opens_complete (client.Link end) before after is calm = absurd is
opens_complete (client.Rpc kind code) before after is calm = absurd is
opens_complete (client.Mount status) before after is calm = absurd is
opens_complete (client.Nfs status) before after is calm = absurd is
opens_complete client.Chunk before after is calm = absurd is
opens_complete (client.Version low high) before after is calm = absurd is
opens_complete (client.BadReply at reason) before after is calm = absurd is
opens_complete (client.BadPath at) before after is calm = absurd is
opens_complete client.InputFault before after is calm = absurd is
opens_complete client.OutputFault before after is calm = absurd is
opens_complete (client.Budget count) before after is calm = absurd is

pub served_commands_complete_lem : ServedCommandsComplete
served_commands_complete_lem setup opened link c before after input input' out out' result (NotOpened end is fails same_input same_out) sane session = λ calm.
    is ∙ ap (λ (e : ClientEnd). Err e) (opens_complete end before after (opens_for_cause end c.addr before after fails) calm)
served_commands_complete_lem setup opened link c before after input input' out out' result (Opened dialed s s' opens prints closes) sane session = λ ran both served calm. (
  complete_by result s s' input input' out out' calm
      (served_commands_have_causes_lem setup opened link c before after input input' out out' result (Opened dialed s s' opens prints closes) sane session ran both served),
  served_not_closed_lem opened link c before after input input' out out' result (Opened dialed s s' opens prints closes) ran
      (λ entries moment payload. plain_reply setup entries (length entries) moment payload) entries_of_call both session.fine (by_server setup opened link ran.run both sane served),
)
