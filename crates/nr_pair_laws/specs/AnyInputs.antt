-- A command over an input of which nothing is known, as standard input: what it read of it.
use Rattle.std.specs.Prelude.{⊤, ℕ, ◌<◌, ◌^◌, List, [], ◌++◌, Result}
use mathlib.Core.Logic.{inl, inr}
use Rattle.nr_xdr.specs.Item.{IsBytes}
use Rattle.nr_outside.specs.Streams.{SinkAt, SourceAt}
use Rattle.nr_reduce.specs.declared.mark.Entry.{Entry}
use Rattle.nr_reduce.specs.declared.mark.LinkParameters.{LinkParameters}
use Rattle.nr_laws.specs.Typed.{IsTyped}
use Rattle.nr_plain.specs.History.{AreOfCalls, Opening, setup_in}
use Rattle.nr_byte_laws.specs.InBytes.{IsInBytes}
use Rattle.nr_words.specs.Lines.{Text}
use Rattle.nr_words.specs.declared.commands.Action.{Action}
use Rattle.nr_words.specs.declared.commands.Action.TheVariants as actions
use Rattle.nr_words.specs.declared.commands.Client.{Client}
use Rattle.nr_client.specs.declared.client_end.ClientEnd.{ClientEnd}
use Rattle.nr_client.specs.Dialing.{DialerAt}
use Rattle.nr_commands.specs.Commands.{Puts}
use Rattle.nr_commands.specs.Running.{Runs, text_of}
use Rattle.nr_commands.specs.Running.Runs.{NotOpened, Opened}
use Rattle.nr_commands.specs.Sessions.{SessionAt}
use Rattle.nr_host.specs.Connections.{Outside}
use Rattle.nr_host.specs.declared.connection_limits.ConnectionLimits.{ConnectionLimits}
use Rattle.nr_host.specs.declared.conn_end.ConnEnd.{ConnEnd}
use Rattle.nr_pair_laws.specs.Pairs.{IsConnectionRun, SaysOfPair}

-- what a `put` read of its input, by its own clause: nothing if it found no directory
abbrev pub input_read : (uid gid : ℕ) (export path : List ℕ) (input input' : SourceAt) (s s' : SessionAt) (text : Result (List ℕ) ClientEnd) → Puts uid gid export path input input' s s' text → List ℕ
input_read uid gid export path input input' s s' text (inl (place, (mid, (finds, (done, ((writes, counts), silent)))))) = writes.handed
input_read uid gid export path input input' s s' text (inr (end, (finds, same))) = []

-- and what it left of it
abbrev pub input_left : (uid gid : ℕ) (export path : List ℕ) (input input' : SourceAt) (s s' : SessionAt) (text : Result (List ℕ) ClientEnd) → Puts uid gid export path input input' s s' text → List ℕ
input_left uid gid export path input input' s s' text (inl (place, (mid, (finds, (done, ((writes, counts), silent)))))) = writes.rest
input_left uid gid export path input input' s s' text (inr (end, (finds, same))) = []

-- the paths and the target that a command names are bytes
abbrev pub NamesAreBytes : Action Text → Type 0
NamesAreBytes actions.Mount = ⊤
NamesAreBytes (actions.List path) = IsBytes path
NamesAreBytes (actions.Stat path) = IsBytes path
NamesAreBytes (actions.ReadLink path) = IsBytes path
NamesAreBytes (actions.MakeDirectory path) = IsBytes path
NamesAreBytes (actions.Remove path) = IsBytes path
NamesAreBytes (actions.Link path target) = IsBytes path × IsBytes target
NamesAreBytes (actions.Get path) = IsBytes path
NamesAreBytes (actions.Put path) = IsBytes path

-- The user and the group of a command are 32-bit words, and what it names are bytes.
pub record NamesOnlyBytes (c : Client Text) : Type 0 where
  pub uid : c.uid < 2 ^ 32
  pub gid : c.gid < 2 ^ 32
  pub export : IsBytes c.export
  pub names : NamesAreBytes c.action

-- what a `put` read of its input and what it left are bytes; another command reads nothing of it
abbrev pub ReadsOnlyBytes : (uid gid : ℕ) (export : List ℕ) (action : Action Text) (input input' : SourceAt) (out out' : SinkAt) (s s' : SessionAt) (text : Result (List ℕ) ClientEnd)
    → text_of uid gid export action input input' out out' s s' text → Type 0
ReadsOnlyBytes uid gid export actions.Mount input input' out out' s s' text is = ⊤
ReadsOnlyBytes uid gid export (actions.List path) input input' out out' s s' text is = ⊤
ReadsOnlyBytes uid gid export (actions.Stat path) input input' out out' s s' text is = ⊤
ReadsOnlyBytes uid gid export (actions.ReadLink path) input input' out out' s s' text is = ⊤
ReadsOnlyBytes uid gid export (actions.MakeDirectory path) input input' out out' s s' text is = ⊤
ReadsOnlyBytes uid gid export (actions.Remove path) input input' out out' s s' text is = ⊤
ReadsOnlyBytes uid gid export (actions.Link path target) input input' out out' s s' text is = ⊤
ReadsOnlyBytes uid gid export (actions.Get path) input input' out out' s s' text is = ⊤
ReadsOnlyBytes uid gid export (actions.Put path) input input' out out' s s' text is =
    IsBytes (input_read uid gid export path input input' s s' text is.0 ++ input_left uid gid export path input input' s s' text is.0)

abbrev pub RunReadsOnlyBytes : (c : Client Text) (before after : DialerAt) (input input' : SourceAt) (out out' : SinkAt) (result : Result (Unit {0}) ClientEnd) → Runs c before after input input' out out' result → Type 0
RunReadsOnlyBytes c before after input input' out out' result (NotOpened why is fails same_input same_out) = ⊤
RunReadsOnlyBytes c before after input input' out out' result (Opened dialed s s' opens prints closes) =
    ReadsOnlyBytes c.uid c.gid c.export c.action input input' out prints.written s s' prints.text prints.made

-- The marks of a command and a connection on one link are of their types, as `PairsAreTyped` says, whatever is known of the
-- input: it is enough that the bytes that the command itself read and left of it are bytes.
abbrev pub PairsOverAnyInputAreTyped : Type 0
PairsOverAnyInputAreTyped =
    (limits : ConnectionLimits) (first : Opening) (J : List Entry) (opened : LinkParameters) (link : ℕ) (outside outside' : Outside) (end : ConnEnd) (connection : IsConnectionRun limits first J opened link outside outside' end)
    (c : Client Text) (before after : DialerAt) (input input' : SourceAt) (out out' : SinkAt) (result : Result (Unit {0}) ClientEnd) (runs : Runs c before after input input' out out' result) →
    NamesOnlyBytes c → RunReadsOnlyBytes c before after input input' out out' result runs → IsInBytes (setup_in first).tree → AreOfCalls (setup_in first) [] J →
    SaysOfPair limits first J opened link outside outside' end connection (λ run both made. IsTyped both) c before after input input' out out' result runs
