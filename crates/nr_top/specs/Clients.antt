-- How a command of a client ends, and what the status of its run says.
use Rattle.std.specs.Prelude.{◌≡◌, ℕ, ◌⊎◌, Ok, Err}
use Rattle.nr_outside.specs.Streams.{SinkAt, SourceAt}
use Rattle.nr_link.specs.declared.end.End.{End}
use Rattle.nr_link.specs.declared.end.End.TheVariants as ends
use Rattle.nr_words.specs.Lines.{Text}
use Rattle.nr_words.specs.declared.commands.Client.{Client}
use Rattle.nr_words.specs.declared.commands.GetByJobs.{GetByJobs}
use Rattle.nr_words.specs.declared.commands.NumberedClient.{NumberedClient}
use Rattle.nr_shared.specs.declared.call_end.CallEnd.{CallEnd}
use Rattle.nr_shared.specs.declared.call_end.CallEnd.TheVariants as calls
use Rattle.nr_client.specs.declared.client_end.ClientEnd.{ClientEnd}
use Rattle.nr_client.specs.declared.client_end.ClientEnd.TheVariants as client
use Rattle.nr_commands.specs.Endings.{end_text}
use Rattle.nr_client.specs.Dialing.{DialerAt}
use Rattle.nr_commands.specs.ByJobs.{GetsByJobs}
use Rattle.nr_commands.specs.NumberedRuns.{RunsNumbered}
use Rattle.nr_commands.specs.Running.{Runs}
use Rattle.nr_top.specs.Ends.{Reported, memory_text}
use Rattle.nr_top.specs.Statuses as statuses

-- the status for each end of the client's side of a link
abbrev pub link_status : End → ℕ
link_status ends.Memory = statuses.no_memory
link_status end = statuses.protocol_fault

-- the status for each reason that a call has no answer
abbrev pub call_status : CallEnd → ℕ
call_status (calls.Ended end) = link_status end
call_status calls.LinkRead = statuses.link_fault
call_status calls.LinkWrite = statuses.link_fault
call_status calls.Closed = statuses.link_closed
call_status (calls.Tries n) = statuses.link_closed
call_status calls.DialFault = statuses.link_fault
call_status (calls.Spent left need) = statuses.over_budget
call_status (calls.TooLarge need room) = statuses.over_budget
call_status (calls.Budget read) = statuses.over_budget
call_status calls.Memory = statuses.no_memory

-- the status for each reason that a command was not done
abbrev pub status_of : ClientEnd → ℕ
status_of client.DialFault = statuses.link_fault
status_of (client.Link end) = call_status end
status_of (client.Rpc kind code) = statuses.refused
status_of (client.Mount status) = statuses.refused
status_of (client.Nfs status) = statuses.nfs_failed
status_of client.Chunk = statuses.transport_error
status_of (client.Version low high) = statuses.transport_error
status_of (client.BadReply at reason) = statuses.protocol_fault
status_of (client.BadPath at) = statuses.bad_input
status_of client.InputFault = statuses.fault
status_of client.OutputFault = statuses.fault
status_of (client.Budget count) = statuses.over_budget
status_of client.Memory = statuses.no_memory

-- The status and the text for a reason. The text needs memory; if there is none, that is written.
abbrev pub ReportsEnd : ClientEnd → ℕ → SinkAt → SinkAt → Type 0
ReportsEnd end status err err' = Reported (status_of end) (end_text end) status err err' ⊎ Reported statuses.no_memory memory_text status err err'

-- what the status says
pub data ClientEnds (c : Client Text) (status : ℕ) (dialer dialer' : DialerAt) (input input' : SourceAt) (out out' err err' : SinkAt) : Type 0 where
  Done : status ≡ statuses.done → Runs c dialer dialer' input input' out out' (Ok tt) → err' ≡ err → ClientEnds c status dialer dialer' input input' out out' err err'
  NotDone : (end : ClientEnd) → Runs c dialer dialer' input input' out out' (Err end) → ReportsEnd end status err err' →
      ClientEnds c status dialer dialer' input input' out out' err err'

-- what the status of a command of a client with a number says
pub data NumberedEnds (c : NumberedClient Text) (status : ℕ) (dialer dialer' : DialerAt) (input input' : SourceAt) (out out' err err' : SinkAt) : Type 0 where
  NumberedDone : status ≡ statuses.done → RunsNumbered c dialer dialer' input input' out out' (Ok tt) → err' ≡ err → NumberedEnds c status dialer dialer' input input' out out' err err'
  NumberedNotDone : (end : ClientEnd) → RunsNumbered c dialer dialer' input input' out out' (Err end) → ReportsEnd end status err err' →
      NumberedEnds c status dialer dialer' input input' out out' err err'

-- what the status of a `get` by several jobs says
pub data GetEnds (get : GetByJobs Text) (status : ℕ) (dialer dialer' : DialerAt) (out out' err err' : SinkAt) : Type 0 where
  GetDone : status ≡ statuses.done → GetsByJobs get dialer dialer' out out' (Ok tt) → err' ≡ err → GetEnds get status dialer dialer' out out' err err'
  GetNotDone : (end : ClientEnd) → GetsByJobs get dialer dialer' out out' (Err end) → ReportsEnd end status err err' → GetEnds get status dialer dialer' out out' err err'
