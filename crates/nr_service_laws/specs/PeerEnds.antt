-- What the end of a command that opened a session says, whatever its server does.
use Rattle.std.specs.Prelude.{◌≡◌, ⊤, ℕ, ◌<◌, ◌⊎◌, List, [], length, IfSome, Result, Ok, Err}
use Rattle.nr_outside.specs.Faults.{Rises}
use Rattle.nr_outside.specs.Streams.{SinkAt, SourceAt}
use Rattle.nr_outside.specs.Whole.{input_max}
use Rattle.nr_nfs_base.specs.Limits.{link_target_max}
use Rattle.nr_words.specs.Limits.{mount_path_max}
use Rattle.nr_words.specs.Lines.{Text}
use Rattle.nr_words.specs.declared.commands.Action.{Action}
use Rattle.nr_words.specs.declared.commands.Action.TheVariants as actions
use Rattle.nr_words.specs.declared.commands.Client.{Client}
use Rattle.nr_shared.specs.declared.call_end.CallEnd.TheVariants as calls
use Rattle.nr_client.specs.declared.client_end.ClientEnd.{ClientEnd}
use Rattle.nr_client.specs.declared.client_end.ClientEnd.TheVariants as client
use Rattle.nr_client.specs.Dialing.{DialerAt}
use Rattle.nr_client.specs.Paths.{path_names}
use Rattle.nr_commands.specs.Running.{Runs}
use Rattle.nr_commands.specs.Running.Runs.{NotOpened, Opened}
use Rattle.nr_commands.specs.Sessions.{SessionAt}
use Rattle.nr_service_laws.specs.EndCauses.{CauseAt}
use Rattle.nr_service_laws.specs.Exchanges.{Exchange, tells_text}
use Rattle.nr_service_laws.specs.ReplyEnds.{EndsByOutcome}

-- ---- A bad path

-- The first component of the path that is longer than a name may be begins at this offset.
abbrev pub HasLongName : List ℕ → ℕ → Type 0
HasLongName path at = path_names path ≡ Err (client.BadPath at)

-- Or the path has no component, and this is its length.
abbrev pub LacksName : List ℕ → ℕ → Type 0
LacksName path at = HasLongName path at ⊎ ((path_names path ≡ Ok []) × (at ≡ length path))

-- the path of a command is bad at this offset: what makes or removes a file needs a name
abbrev pub IsBadPath : Action Text → ℕ → Type 0
IsBadPath actions.Mount at = ⊥
IsBadPath (actions.List path) at = HasLongName path at
IsBadPath (actions.Stat path) at = HasLongName path at
IsBadPath (actions.ReadLink path) at = HasLongName path at
IsBadPath (actions.Get path) at = HasLongName path at
IsBadPath (actions.MakeDirectory path) at = LacksName path at
IsBadPath (actions.Remove path) at = LacksName path at
IsBadPath (actions.Put path) at = LacksName path at
IsBadPath (actions.Link path target) at = LacksName path at

-- ---- A limit

-- More than this count: of bytes of the export's path, of a link's target or of the input; or of entries that READDIRs listed.
pub data PassesLimit (c : Client Text) (input : SourceAt) (made : List Exchange) (count : ℕ) : Type 0 where
  ExportIsLong : count ≡ mount_path_max → count < length c.export → PassesLimit c input made count
  TargetIsLong : (path target : List ℕ) → c.action ≡ actions.Link path target → count ≡ link_target_max → count < length target → PassesLimit c input made count
  ListIsLong : EndsByOutcome made c.uid c.gid (client.Budget count) → PassesLimit c input made count
  InputIsLong : (path : List ℕ) → c.action ≡ actions.Put path → count ≡ input_max → IfSome input.left (λ known. count < length known) → PassesLimit c input made count

-- ---- Each end

-- Each end by the exchanges of the command, by its session when it was opened and when its link was hung up, and by its input and its output. No
-- session ends for its dialer. At a refusal, a failure, a bad reply, ERR_CHUNK and ERR_VERS (RFC 8166 section 4.5) a call was answered with just that; a
-- path is bad; a limit was passed; a count of faults rose; or the call has the cause of its end.
abbrev pub EndSays : (c : Client Text) (made : List Exchange) (s s' : SessionAt) (input input' : SourceAt) (out out' : SinkAt) → ClientEnd → Type 0
EndSays c made s s' input input' out out' client.DialFault = ⊥
EndSays c made s s' input input' out out' (client.Link calls.LinkRead) = Rises s.source_faults s'.source_faults × CauseAt calls.LinkRead s'
EndSays c made s s' input input' out out' (client.Link calls.LinkWrite) = Rises s.sink_faults s'.sink_faults
EndSays c made s s' input input' out out' (client.Link end) = CauseAt end s'
EndSays c made s s' input input' out out' (client.BadPath at) = IsBadPath c.action at
EndSays c made s s' input input' out out' client.InputFault = Rises input.faults input'.faults
EndSays c made s s' input input' out out' client.OutputFault = Rises out.faults out'.faults
EndSays c made s s' input input' out out' (client.Budget count) = PassesLimit c input made count
EndSays c made s s' input input' out out' client.Memory = ⊤
EndSays c made s s' input input' out out' end = EndsByOutcome made c.uid c.gid end

abbrev pub SaysOfEnd : (c : Client Text) (before after : DialerAt) (input input' : SourceAt) (out out' : SinkAt) (result : Result (Unit {0}) ClientEnd)
    → Runs c before after input input' out out' result → Type 0
SaysOfEnd c before after input input' out out' result (NotOpened end is fails same_input same_out) = ⊤
SaysOfEnd c before after input input' out out' result (Opened dialed s s' opens prints closes) =
    (end : ClientEnd) → result ≡ Err end →
    EndSays c (tells_text c.uid c.gid c.export c.action input input' out prints.written s s' prints.text prints.made).made s s' input input' out out' end

abbrev pub EndsSay : Type 0
EndsSay =
    (c : Client Text) (before after : DialerAt) (input input' : SourceAt) (out out' : SinkAt) (result : Result (Unit {0}) ClientEnd)
    (runs : Runs c before after input input' out out' result) → SaysOfEnd c before after input input' out out' result runs
