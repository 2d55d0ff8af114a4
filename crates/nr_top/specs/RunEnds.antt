-- How a run of the program ends, by its words.
use Rattle.std.specs.Prelude.{◌≡◌, Bool, ℕ, ◌⊎◌, List, Option, Result, Ok, Err, codes, string_bytes}
use Rattle.std.specs.Borrow.{Bor}
use Rattle.nr_outside.specs.Streams.{SinkAt, SourceAt, Writes, WritesSome}
use Rattle.nr_outside.specs.declared.moment.Moment.{Moment}
use Rattle.nr_words.specs.Lines.{Text, plain_command}
use Rattle.nr_words.specs.Reads.{Reads}
use Rattle.nr_words.specs.declared.commands.Command.{Command}
use Rattle.nr_words.specs.declared.commands.Command.TheVariants as commands
use Rattle.nr_words.specs.declared.words.WordsFault.{WordsFault}
use Rattle.nr_words.specs.declared.words.WordsFault.TheVariants as faults
use Rattle.nr_client.specs.Dialing.{DialerAt}
use Rattle.nr_serve.specs.Serving.{AcceptorAt, SpawnerAt}
use Rattle.nr_gateway.specs.Gateways.{around}
use Rattle.nr_top.specs.Clients.{ClientEnds, GetEnds, NumberedEnds}
use Rattle.nr_top.specs.Ends.{Ends, Reported, memory_text}
use Rattle.nr_top.specs.Gating.{GatewayEnds}
use Rattle.nr_top.specs.Statuses as statuses
use Rattle.nr_top.specs.declared.drill.ScriptSource.{ScriptSource}
use Rattle.nr_top.specs.declared.drill.ScriptSource.TheVariants as sources
use Rattle.nr_top.specs.Serving.{ServeEnds}

-- what is known of all that a run uses: its input, both outputs, the dialer, the acceptor, the spawner of a server's jobs, that of a gateway's,
-- and the moments that the clock gave
pub record Outside : Type 0 where
  pub input : SourceAt
  pub out : SinkAt
  pub err : SinkAt
  pub dialer : DialerAt
  pub acceptor : AcceptorAt
  pub spawner : SpawnerAt
  pub gates : SpawnerAt
  pub gave : Option (List Moment)

abbrev pub outside : SourceAt → SinkAt → SinkAt → DialerAt → AcceptorAt → (spawner gates : SpawnerAt) → Option (List Moment) → Outside
outside input out err dialer acceptor spawner gates gave =
    record { input = input; out = out; err = err; dialer = dialer; acceptor = acceptor; spawner = spawner; gates = gates; gave = gave }

-- the acceptor, the spawners and the clock were not used
pub record AcceptsNone (before after : Outside) : Type 0 where
  pub acceptor : after.acceptor ≡ before.acceptor
  pub spawner : after.spawner ≡ before.spawner
  pub gates : after.gates ≡ before.gates
  pub gave : after.gave ≡ before.gave

-- a drill; the dialer was not used
abbrev pub DrillEnds : (log : Bool) → ScriptSource → ℕ → (before after : Outside) → Type 0
DrillEnds log source status before after =
    Ends log source status before.input after.input before.out after.out before.err after.err × ((after.dialer ≡ before.dialer) × AcceptsNone before after)

-- Each command of a line. `O` and `C` are the types of the sink of the dialer's links, and of the rule on the calls of a gateway.
abbrev pub CommandEnds : (O C : Type 0) → Command Text → ℕ → (before after : Outside) → Type 0
CommandEnds O C (commands.Client c) status before after =
    ClientEnds c status before.dialer after.dialer before.input after.input before.out after.out before.err after.err × AcceptsNone before after
CommandEnds O C (commands.NumberedClient c) status before after =
    NumberedEnds c status before.dialer after.dialer before.input after.input before.out after.out before.err after.err × AcceptsNone before after
CommandEnds O C (commands.GetByJobs get) status before after =
    GetEnds get status before.dialer after.dialer before.out after.out before.err after.err × ((after.input ≡ before.input) × AcceptsNone before after)
CommandEnds O C (commands.Serve config) status before after =
    ServeEnds status before.input after.input before.out after.out before.err after.err before.acceptor after.acceptor before.spawner after.spawner before.gave after.gave
    × ((after.dialer ≡ before.dialer) × (after.gates ≡ before.gates))
CommandEnds O C (commands.Gate config) status before after =
    GatewayEnds O C status before.input after.input before.out after.out before.err after.err (around before.acceptor before.dialer before.gates) (around after.acceptor after.dialer after.gates)
    × ((after.spawner ≡ before.spawner) × (after.gave ≡ before.gave))
CommandEnds O C (commands.Drill log) status before after = DrillEnds log sources.Input status before after
CommandEnds O C (commands.GeneratedDrill seed clients calls log) status before after = DrillEnds log (sources.Seed seed clients calls) status before after

-- Words that give no command: help or the version is printed; or they are refused with a text; or no command is what they spell; or memory
-- ran out.
abbrev pub WordsEnd : WordsFault → ℕ → (out out' err err' : SinkAt) → Type 0
WordsEnd (faults.Asked text) status out out' err err' =
    ((status ≡ statuses.done) × (Writes out out' (string_bytes text) × (err' ≡ err)))
    ⊎ (WritesSome out out' (string_bytes text) × Reported statuses.fault (codes "output fault\n") status err err')
WordsEnd (faults.Refused text) status out out' err err' = Reported statuses.bad_arguments (string_bytes text) status err err' × (out' ≡ out)
WordsEnd faults.Bad status out out' err err' = Reported statuses.bad_arguments (codes "bad words\n") status err err' × (out' ≡ out)
WordsEnd faults.Memory status out out' err err' = Reported statuses.no_memory memory_text status err err' × (out' ≡ out)

-- what is read of the words: a command, or none
abbrev pub ReadEnds : (O C : Type 0) → Result (Command (Bor Text)) WordsFault → ℕ → (before after : Outside) → Type 0
ReadEnds O C (Ok command) status before after = CommandEnds O C (plain_command command) status before after
ReadEnds O C (Err fault) status before after =
    WordsEnd fault status before.out after.out before.err after.err × ((after.input ≡ before.input) × ((after.dialer ≡ before.dialer) × AcceptsNone before after))

-- A run ends by what is read of its words. A line gives its command, whatever memory there is.
abbrev pub RunEnds : (O C : Type 0) → List Text → ℕ → (before after : Outside) → Type 0
RunEnds O C words status before after = (read : Result (Command (Bor Text)) WordsFault) × (Reads words read × ReadEnds O C read status before after)
