-- What the status of a command of a client says, whatever its server does.
use Rattle.std.specs.Prelude.{◌≡◌, ◌≢◌, ℕ, ◌<◌, ◌⊎◌, List, [], length, Option, None, Some, Result, Err}
use Rattle.std.specs.Io.KnownBytes.{IsAtEnd}
use Rattle.nr_outside.specs.Faults.{Rises}
use Rattle.nr_outside.specs.Streams.{SinkAt, SourceAt}
use Rattle.nr_link.specs.declared.end.End.{End}
use Rattle.nr_link.specs.declared.end.End.TheVariants as ends
use Rattle.nr_links.specs.Limits.{read_max}
use Rattle.nr_reduce.specs.declared.call.Refused.{Refused as CallRefused}
use Rattle.nr_reduce.specs.declared.call.Refused.TheVariants as refusals
use Rattle.nr_nfs_base.specs.declared.mount_status.MountStatus.{MountStatus}
use Rattle.nr_nfs_base.specs.declared.status.Status.{Status}
use Rattle.nr_words.specs.Lines.{Text}
use Rattle.nr_words.specs.declared.commands.Client.{Client}
use Rattle.nr_shared.specs.declared.call_end.CallEnd.TheVariants as calls
use Rattle.nr_client.specs.declared.client_end.ClientEnd.{ClientEnd}
use Rattle.nr_client.specs.declared.client_end.ClientEnd.TheVariants as client
use Rattle.nr_client.specs.declared.client_end.RpcKind.{RpcKind}
use Rattle.nr_client.specs.Dialing.{DialerAt}
use Rattle.nr_commands.specs.Running.{Runs}
use Rattle.nr_commands.specs.Running.Runs.{NotOpened, Opened}
use Rattle.nr_commands.specs.Sessions.{SessionAt}
use Rattle.nr_service_laws.specs.EndCauses.{RefusesOne}
use Rattle.nr_service_laws.specs.Exchanges.{Exchange, tells_text}
use Rattle.nr_service_laws.specs.PeerEnds.{IsBadPath, PassesLimit}
use Rattle.nr_service_laws.specs.ReplyEnds.{EndsByOutcome}
use Rattle.nr_top.specs.Clients.{ClientEnds}
use Rattle.nr_top.specs.Clients.ClientEnds.{Done, NotDone}
use Rattle.nr_top.specs.Statuses as statuses

-- the session of a command when its link was hung up, if it had one
abbrev pub last_session : (c : Client Text) (before after : DialerAt) (input input' : SourceAt) (out out' : SinkAt) (result : Result (Unit {0}) ClientEnd) → Runs c before after input input' out out' result → Option SessionAt
last_session c before after input input' out out' result (NotOpened end is fails same_input same_out) = None
last_session c before after input input' out out' result (Opened dialed s s' opens prints closes) = Some s'

-- what its requests exchanged
abbrev pub exchanges_of : (c : Client Text) (before after : DialerAt) (input input' : SourceAt) (out out' : SinkAt) (result : Result (Unit {0}) ClientEnd) → Runs c before after input input' out out' result → List Exchange
exchanges_of c before after input input' out out' result (NotOpened end is fails same_input same_out) = []
exchanges_of c before after input input' out out' result (Opened dialed s s' opens prints closes) =
    (tells_text c.uid c.gid c.export c.action input input' out prints.written s s' prints.text prints.made).made

-- there was a session, and this is so of it when its link was hung up
abbrev pub AtLast : (SessionAt → Type 0) → Option SessionAt → Type 0
AtLast Is None = ⊥
AtLast Is (Some s) = Is s

-- No known byte of the link is left, and a call is open.
abbrev pub IsClosed : SessionAt → Type 0
IsClosed s = IsAtEnd s.bytes.left × (0 < length s.requester.state.outstanding)

-- the call was refused (RFC 5531 section 9), or MNT has a status other than MNT3_OK (RFC 1813 section 5.1.5)
abbrev pub IsRefusal : ClientEnd → Type 0
IsRefusal end = ((kind : RpcKind) × ((code : ℕ) × (end ≡ client.Rpc kind code))) ⊎ ((status : MountStatus) × (end ≡ client.Mount status))

-- ERR_CHUNK, or ERR_VERS with these versions (RFC 8166 section 4.5)
abbrev pub IsTransportError : ClientEnd → Type 0
IsTransportError end = (end ≡ client.Chunk) ⊎ ((low : ℕ) × ((high : ℕ) × (end ≡ client.Version low high)))

-- the end of a command whose requester refuses a call for this: STags or xids are spent, or the call is too large
abbrev pub IsRefusedFor : CallRefused → ClientEnd → Type 0
IsRefusedFor (refusals.Spent left need) end = end ≡ client.Link (calls.Spent left need)
IsRefusedFor (refusals.TooLarge need room) end = end ≡ client.Link (calls.TooLarge need room)
IsRefusedFor why end = ⊥

-- A command that was not done, for this end: one line for each status that it may have. Of what ends it by an outcome, `EndsByOutcome` says which call
-- was answered with it, that it is read as this end, and what it says.
pub data StatusSays (c : Client Text) (status : ℕ) (end : ClientEnd) (dialer dialer' : DialerAt) (input input' : SourceAt) (out out' err err' : SinkAt) (last : Option SessionAt) (made : List Exchange) : Type 0 where
  -- 2: memory ran out
  NoMemory : status ≡ statuses.no_memory → StatusSays c status end dialer dialer' input input' out out' err err' last made
  -- 3: the dialer's count of faults rose, or its count of lost links
  LinkFault : status ≡ statuses.link_fault → Rises dialer.faults dialer'.faults ⊎ Rises dialer.lost dialer'.lost → StatusSays c status end dialer dialer' input input' out out' err err' last made
  -- 4: the server ended its stream while a call was open
  LinkClosed : status ≡ statuses.link_closed → end ≡ client.Link calls.Closed → AtLast IsClosed last → StatusSays c status end dialer dialer' input input' out out' err err' last made
  -- 5: the client's side has ended for this reason, which is not out of memory
  LinkBroken : status ≡ statuses.protocol_fault → (why : End) → why ≢ ends.Memory → end ≡ client.Link (calls.Ended why) → AtLast (λ s. s.requester.state.side.ended ≡ Some why) last
      → StatusSays c status end dialer dialer' input input' out out' err err' last made
  -- 5: or a call was answered with a reply that is bad, at this offset, for this reason
  ReplyBad : status ≡ statuses.protocol_fault → (at reason : ℕ) → end ≡ client.BadReply at reason → EndsByOutcome made c.uid c.gid end → StatusSays c status end dialer dialer' input input' out out' err err' last made
  -- 6: a call was answered with a reply that refuses it, or MNT with its status
  Refused : status ≡ statuses.refused → IsRefusal end → EndsByOutcome made c.uid c.gid end → StatusSays c status end dialer dialer' input input' out out' err err' last made
  -- 7: a call was answered with a reply that has this status, other than NFS3_OK (RFC 1813 section 2.6)
  NfsFailed : status ≡ statuses.nfs_failed → (why : Status) → end ≡ client.Nfs why → EndsByOutcome made c.uid c.gid end → StatusSays c status end dialer dialer' input input' out out' err err' last made
  -- 8: a call was answered with ERR_CHUNK or ERR_VERS
  TransportError : status ≡ statuses.transport_error → IsTransportError end → EndsByOutcome made c.uid c.gid end → StatusSays c status end dialer dialer' input input' out out' err err' last made
  -- 9: a count of faults rose: of the input, of the output, or of what reports
  Fault : status ≡ statuses.fault → Rises input.faults input'.faults ⊎ (Rises out.faults out'.faults ⊎ Rises err.faults err'.faults) → StatusSays c status end dialer dialer' input input' out out' err err' last made
  -- 10: the command's path is bad, at this offset
  BadPath : status ≡ statuses.bad_input → (at : ℕ) → end ≡ client.BadPath at → IsBadPath c.action at → StatusSays c status end dialer dialer' input input' out out' err err' last made
  -- 11: the export's path, a target, a list or the input passes this limit
  OverBudget : status ≡ statuses.over_budget → (count : ℕ) → end ≡ client.Budget count → PassesLimit c input made count → StatusSays c status end dialer dialer' input input' out out' err err' last made
  -- 11: or the requester refuses a call, since numbers are spent, or since it is too large
  NotSubmitted : status ≡ statuses.over_budget → (why : CallRefused) → IsRefusedFor why end → AtLast (λ s. RefusesOne s.requester why) last → StatusSays c status end dialer dialer' input input' out out' err err' last made
  -- 11: or as many bytes as a link may give were read
  LinkIsRead : status ≡ statuses.over_budget → end ≡ client.Link (calls.Budget read_max) → AtLast (λ s. s.bytes.read ≡ read_max) last → StatusSays c status end dialer dialer' input input' out out' err err' last made

abbrev pub CommandSays : (c : Client Text) (status : ℕ) (dialer dialer' : DialerAt) (input input' : SourceAt) (out out' err err' : SinkAt) → ClientEnds c status dialer dialer' input input' out out' err err' → Type 0
CommandSays c status dialer dialer' input input' out out' err err' (Done is runs same) = status ≡ statuses.done
CommandSays c status dialer dialer' input input' out out' err err' (NotDone end runs reports) =
    StatusSays c status end dialer dialer' input input' out out' err err' (last_session c dialer dialer' input input' out out' (Err end) runs) (exchanges_of c dialer dialer' input input' out out' (Err end) runs)

abbrev pub StatusesHaveCauses : Type 0
StatusesHaveCauses =
    (c : Client Text) (status : ℕ) (dialer dialer' : DialerAt) (input input' : SourceAt) (out out' err err' : SinkAt) (ends : ClientEnds c status dialer dialer' input input' out out' err err') →
    CommandSays c status dialer dialer' input input' out out' err err' ends

-- A command of a client never has the status of words that are no command.
abbrev pub LinesAreRead : Type 0
LinesAreRead =
    (c : Client Text) (status : ℕ) (dialer dialer' : DialerAt) (input input' : SourceAt) (out out' err err' : SinkAt) → ClientEnds c status dialer dialer' input input' out out' err err' → status ≡ statuses.bad_arguments → ⊥
