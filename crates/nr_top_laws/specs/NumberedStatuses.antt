-- What the status of a command of a client with a number says, whatever its server does.
use Rattle.std.specs.Prelude.{◌≡◌, ◌≢◌, ⊤, ℕ, ◌≤◌, ◌⊎◌, List, [], ◌∷◌, Option, None, Some, Result, Err}
use mathlib.Core.Option.{some}
use lib.ListN.{get_elem?}
use Rattle.nr_outside.specs.Faults.{Rises}
use Rattle.nr_outside.specs.Streams.{SinkAt, SourceAt}
use Rattle.nr_link.specs.declared.end.End.{End}
use Rattle.nr_link.specs.declared.end.End.TheVariants as ends
use Rattle.nr_turnstile.specs.Rule.{Begins}
use Rattle.nr_nfs_base.specs.declared.status.Status.{Status}
use Rattle.nr_reduce.specs.declared.call.Call.{Call}
use Rattle.nr_reduce.specs.declared.call.Form.TheVariants as forms
use Rattle.nr_reduce.specs.declared.call.Outcome.{Outcome}
use Rattle.nr_words.specs.Limits.{tries_max}
use Rattle.nr_words.specs.Lines.{Text}
use Rattle.nr_words.specs.declared.commands.NumberedClient.{NumberedClient}
use Rattle.nr_shared.specs.declared.call_end.CallEnd.{CallEnd}
use Rattle.nr_shared.specs.declared.call_end.CallEnd.TheVariants as calls
use Rattle.nr_shared.specs.declared.entry.Entry.{Entry}
use Rattle.nr_shared.specs.declared.entry.Entry.TheVariants as entries
use Rattle.nr_shared.specs.declared.entry.InitialState.{InitialState}
use Rattle.nr_shared.specs.Ending.{IsCause}
use Rattle.nr_shared.specs.Histories.{initial_of}
use Rattle.nr_client.specs.declared.client_end.ClientEnd.{ClientEnd}
use Rattle.nr_client.specs.declared.client_end.ClientEnd.TheVariants as client
use Rattle.nr_client.specs.CallerViews.{CallerView}
use Rattle.nr_client.specs.Dialing.{DialerAt}
use Rattle.nr_commands.specs.NumberedRuns.{RunsNumbered}
use Rattle.nr_commands.specs.NumberedRuns.RunsNumbered.{FirstOpened, NoneOpened}
use Rattle.nr_service_laws.specs.Exchanges.{Exchange}
use Rattle.nr_service_laws.specs.Exchanges.Exchange.{Answered}
use Rattle.nr_service_laws.specs.PeerEnds.{IsBadPath, PassesLimit}
use Rattle.nr_service_laws.specs.ReplyEnds.{EndsByOutcome}
use Rattle.nr_top.specs.Clients.{NumberedEnds}
use Rattle.nr_top.specs.Clients.NumberedEnds.{NumberedDone, NumberedNotDone}
use Rattle.nr_top.specs.Statuses as statuses
use Rattle.nr_top_laws.specs.StatusCauses.{IsRefusal, IsTransportError}

-- ---- What the caller's own entries tell

-- the call of the Submit that stands at the place which a Done closes was answered with its outcome
abbrev pub with_call : mathlib.Core.Option.Option Entry → Outcome → List Exchange → List Exchange
with_call (some (entries.Submit call form xid)) outcome later = Answered call outcome ∷ later
with_call e outcome later = later

abbrev pub with_exchange : List Entry → mathlib.Core.Option.Option Entry → List Exchange → List Exchange
with_exchange seen (some (entries.Done xid outcome submit)) later = with_call (get_elem? seen submit) outcome later
with_exchange seen e later = later

abbrev pub exchanges_at : List Entry → List ℕ → List Exchange
exchanges_at seen [] = []
exchanges_at seen (k ∷ ks) = with_exchange seen (get_elem? seen k) (exchanges_at seen ks)

-- each call of the caller's own that was answered, with its outcome
abbrev pub answered_calls : CallerView → List Exchange
answered_calls v = exchanges_at v.seen v.mine

-- A beginning of the history that the caller has seen, in which the requester was shared already, is the cause of this end of a call.
abbrev pub HasCause : CallEnd → CallerView → Type 0
HasCause end v = (call : Call) × ((history : List Entry) × ((initial : InitialState) × ((initial_of history ≡ Some initial) × (Begins history v.seen × IsCause end call forms.Auto history))))

-- ---- The status

-- what its caller knew when the session of a command was closed, if it had one
abbrev pub last_view : (c : NumberedClient Text) (before after : DialerAt) (input input' : SourceAt) (out out' : SinkAt) (result : Result (Unit {0}) ClientEnd) → RunsNumbered c before after input input' out out' result → Option CallerView
last_view c before after input input' out out' result (NoneOpened end is fails same_input same_out) = None
last_view c before after input input' out out' result (FirstOpened dialed source v v' opens prints closes) = Some v'

-- there was a session, and this is so of what its caller knew at last
abbrev pub AtLastView : (CallerView → Type 0) → Option CallerView → Type 0
AtLastView Is None = ⊥
AtLastView Is (Some v) = Is v

-- numbers are spent, a call is too large, or as many bytes as a link may give were read
abbrev pub IsLimit : CallEnd → Type 0
IsLimit (calls.Spent left need) = ⊤
IsLimit (calls.TooLarge need room) = ⊤
IsLimit (calls.Budget count) = ⊤
IsLimit end = ⊥

-- A command that was not done, for this end: one line for each status that it may have. Of what ends it by an outcome, `EndsByOutcome` says which call of the
-- caller's own was answered with it, that it is read as this end, and what it says.
pub data NumberedStatusSays (c : NumberedClient Text) (status : ℕ) (end : ClientEnd) (dialer dialer' : DialerAt) (input input' : SourceAt) (out out' err err' : SinkAt) (last : Option CallerView) : Type 0 where
  -- 2: memory ran out
  NoMemory : status ≡ statuses.no_memory → NumberedStatusSays c status end dialer dialer' input input' out out' err err' last
  -- 3: the dialer's count of faults rose
  DialFails : status ≡ statuses.link_fault → Rises dialer.faults dialer'.faults → NumberedStatusSays c status end dialer dialer' input input' out out' err err' last
  -- 4: the link was lost once more after all tries
  LostAgain : status ≡ statuses.link_closed → end ≡ client.Link (calls.Tries c.tries) → AtLastView (HasCause (calls.Tries c.tries)) last → NumberedStatusSays c status end dialer dialer' input input' out out' err err' last
  -- 5: the client's side of the link at hand has ended for this reason, which is not out of memory
  SideEnded : status ≡ statuses.protocol_fault → (why : End) → why ≢ ends.Memory → end ≡ client.Link (calls.Ended why) → AtLastView (HasCause (calls.Ended why)) last
      → NumberedStatusSays c status end dialer dialer' input input' out out' err err' last
  -- 5: or a call was answered with a reply that is bad, at this offset, for this reason
  ReplyBad : status ≡ statuses.protocol_fault → (at reason : ℕ) → end ≡ client.BadReply at reason → AtLastView (λ v. EndsByOutcome (answered_calls v) c.client.uid c.client.gid end) last
      → NumberedStatusSays c status end dialer dialer' input input' out out' err err' last
  -- 6: a call was answered with a reply that refuses it, or MNT with its status
  Refused : status ≡ statuses.refused → IsRefusal end → AtLastView (λ v. EndsByOutcome (answered_calls v) c.client.uid c.client.gid end) last → NumberedStatusSays c status end dialer dialer' input input' out out' err err' last
  -- 7: a call was answered with a reply that has this status, other than NFS3_OK (RFC 1813 section 2.6)
  NfsFailed : status ≡ statuses.nfs_failed → (why : Status) → end ≡ client.Nfs why → AtLastView (λ v. EndsByOutcome (answered_calls v) c.client.uid c.client.gid end) last
      → NumberedStatusSays c status end dialer dialer' input input' out out' err err' last
  -- 8: a call was answered with ERR_CHUNK or ERR_VERS (RFC 8166 section 4.5)
  TransportError : status ≡ statuses.transport_error → IsTransportError end → AtLastView (λ v. EndsByOutcome (answered_calls v) c.client.uid c.client.gid end) last
      → NumberedStatusSays c status end dialer dialer' input input' out out' err err' last
  -- 9: a count of faults rose: of the input, of the output, or of what reports
  Fault : status ≡ statuses.fault → Rises input.faults input'.faults ⊎ (Rises out.faults out'.faults ⊎ Rises err.faults err'.faults) → NumberedStatusSays c status end dialer dialer' input input' out out' err err' last
  -- 10: the command's path is bad, at this offset
  BadPath : status ≡ statuses.bad_input → (at : ℕ) → end ≡ client.BadPath at → IsBadPath c.client.action at → NumberedStatusSays c status end dialer dialer' input input' out out' err err' last
  -- 11: the export's path, a target, a list or the input passes this limit
  OverBudget : status ≡ statuses.over_budget → (count : ℕ) → end ≡ client.Budget count → AtLastView (λ v. PassesLimit c.client input (answered_calls v) count) last
      → NumberedStatusSays c status end dialer dialer' input input' out out' err err' last
  -- 11: or the history has the cause: numbers are spent, a call is too large, or as many bytes as a link may give were read
  AtLimit : status ≡ statuses.over_budget → (cause : CallEnd) → IsLimit cause → end ≡ client.Link cause → AtLastView (HasCause cause) last → NumberedStatusSays c status end dialer dialer' input input' out out' err err' last

abbrev pub NumberedSays : (c : NumberedClient Text) (status : ℕ) (dialer dialer' : DialerAt) (input input' : SourceAt) (out out' err err' : SinkAt) → NumberedEnds c status dialer dialer' input input' out out' err err' → Type 0
NumberedSays c status dialer dialer' input input' out out' err err' (NumberedDone is runs same) = status ≡ statuses.done
NumberedSays c status dialer dialer' input input' out out' err err' (NumberedNotDone end runs reports) =
    NumberedStatusSays c status end dialer dialer' input input' out out' err err' (last_view c dialer dialer' input input' out out' (Err end) runs)

-- of a command that says at most 16 tries, as each line of words does
abbrev pub NumberedStatusesHaveCauses : Type 0
NumberedStatusesHaveCauses =
    (c : NumberedClient Text) (status : ℕ) (dialer dialer' : DialerAt) (input input' : SourceAt) (out out' err err' : SinkAt) → c.tries ≤ tries_max → (ends : NumberedEnds c status dialer dialer' input input' out out' err err') →
    NumberedSays c status dialer dialer' input input' out out' err err' ends

-- Such a command never has the status of words that are no command.
abbrev pub NumberedLinesAreRead : Type 0
NumberedLinesAreRead =
    (c : NumberedClient Text) (status : ℕ) (dialer dialer' : DialerAt) (input input' : SourceAt) (out out' err err' : SinkAt) → c.tries ≤ tries_max → NumberedEnds c status dialer dialer' input input' out out' err err'
    → status ≡ statuses.bad_arguments → ⊥
