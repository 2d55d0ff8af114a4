-- What an end of a link keeps, and the marks that it stands for. An end keeps neither marks nor bytes of the past: it keeps what its
-- state asks for, the input that isn't a complete frame yet, and the queue that isn't written yet.
use Rattle.std.specs.Prelude.{◌≡◌, ℕ, List, ◌++◌, length, Option, None, Some}
use Rattle.nr_wire.specs.declared.hello.Side.{Side}
use Rattle.nr_wire.specs.declared.hello.Side.TheVariants.{Initiator, Responder}
use Rattle.nr_link.specs.declared.end.End.{End}
use Rattle.nr_link.specs.declared.end.End.TheVariants as ends
use Rattle.nr_link.specs.Input.{InputState, input_of, input_count, input_frames}
use Rattle.nr_reduce.specs.declared.mark.Mark.{Mark}
use Rattle.nr_reduce.specs.declared.mark.LinkParameters.{LinkParameters}
use Rattle.nr_wire.specs.Hello.{peer}
use Rattle.nr_reduce.specs.History.{bytes_sent, bytes_received}
use Rattle.nr_reduce.specs.Events.{RunEvent, mark_events}
use Rattle.nr_reduce.specs.EndRules.{EndState}
use Rattle.nr_reduce.specs.KeptClient.{KeptClient, ClientKeeps}
use Rattle.nr_reduce.specs.ServerState.{ServerState}
use Rattle.nr_reduce.specs.Matched.{IsPrefixOf}
use Rattle.nr_reduce.specs.Run.{client, server, output_due}

-- the events of a mark, by the input alone
abbrev pub input_events : ℕ → Side → InputState → Mark → List RunEvent
input_events link side input mark = mark_events link side (input_count input) (input_frames input) mark

-- An end of this side that hasn't run out of memory stands for these marks: it keeps what its state after them asks for; its input is
-- what they fed to it, until it has ended; and its queue is the output that is due by them and isn't written.
pub record RepresentsMarks {K S : Type 0} (Keeps : K → EndState S → ℕ → Type 0) (link : ℕ) (side : Side) (state_of : List Mark → EndState S) (due : List Mark → List ℕ) (kept : K) (input : InputState) (queue : List ℕ) (run : List Mark) : Type 0 where
  pub keeps : Keeps kept (state_of run) (length (bytes_received link side run))
  pub received : (state_of run).ended ≡ None → input ≡ input_of (peer side) (bytes_received link side run)
  pub output : bytes_sent link side run ++ queue ≡ due run

-- An end that ran out of memory stands for these marks: what it wrote and its queue are the first bytes of what is due by them.
abbrev pub RunsOut : (link : ℕ) → Side → (List Mark → List ℕ) → Option End → List ℕ → List Mark → Type 0
RunsOut link side due ended queue run = (ended ≡ Some ends.Memory) × IsPrefixOf (bytes_sent link side run ++ queue) (due run)

-- a client, by what it keeps
abbrev pub ClientRepresents : LinkParameters → ℕ → KeptClient → InputState → List ℕ → List Mark → Type 0
ClientRepresents opened link kept input queue run =
    RepresentsMarks (ClientKeeps opened) link Initiator (client opened link) (output_due opened link Initiator) kept input queue run

-- A client ran out of memory while it was fed. When it stopped, after the marks `stopped`, it hadn't ended, and what it keeps, but for
-- why it ended, was kept of it; so each of its calls still has the memory that the client's regions held. All that these marks make due
-- is written or in its queue, and what it wrote and its queue are the first bytes of what is due by `run`.
pub record ClientRunsOut (opened : LinkParameters) (link : ℕ) (kept : KeptClient) (queue : List ℕ) (stopped run : List Mark) : Type 0 where
  pub ended : kept.ended ≡ Some ends.Memory
  pub keeps : ClientKeeps opened (record kept { ended = None }) (client opened link stopped) (length (bytes_received link Initiator stopped))
  pub queued : IsPrefixOf (output_due opened link Initiator stopped) (bytes_sent link Initiator run ++ queue)
  pub output : IsPrefixOf (bytes_sent link Initiator run ++ queue) (output_due opened link Initiator run)

-- a server, by the state that it keeps
abbrev pub IsState : EndState ServerState → EndState ServerState → ℕ → Type 0
IsState end e count = end ≡ e

abbrev pub ServerRepresents : LinkParameters → ℕ → EndState ServerState → InputState → List ℕ → List Mark → Type 0
ServerRepresents opened link end input queue run =
    RepresentsMarks IsState link Responder (server opened link) (output_due opened link Responder) end input queue run

abbrev pub ServerRunsOut : LinkParameters → ℕ → Option End → List ℕ → List Mark → Type 0
ServerRunsOut opened link ended queue run = RunsOut link Responder (output_due opened link Responder) ended queue run
