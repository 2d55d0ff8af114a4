-- That what is written down of a command as bytes are bytes.
use Rattle.std.specs.Prelude.{◌≡◌, ⊤, ℕ, ◌<◌, ◌^◌, not, List, Some, Result}
use Rattle.std.specs.List.{filter}
use Rattle.nr_xdr.specs.Item.{IsBytes}
use Rattle.nr_outside.specs.Streams.{SinkAt, SourceAt}
use Rattle.nr_reduce.specs.declared.mark.LinkParameters.{LinkParameters}
use Rattle.nr_reduce.specs.declared.mark.Mark.{Mark}
use Rattle.nr_laws.specs.Typed.{IsTyped}
use Rattle.nr_words.specs.Lines.{Text}
use Rattle.nr_words.specs.declared.commands.Action.{Action}
use Rattle.nr_words.specs.declared.commands.Action.TheVariants as actions
use Rattle.nr_words.specs.declared.commands.Client.{Client}
use Rattle.nr_client.specs.declared.client_end.ClientEnd.{ClientEnd}
use Rattle.nr_client.specs.Dialing.{DialerAt}
use Rattle.nr_commands.specs.Running.{Runs}
use Rattle.nr_commands.specs.Running.Runs.{NotOpened, Opened}
use Rattle.nr_commands.specs.Sessions.{SessionAt}
use Rattle.nr_service_laws.specs.CommandRuns.{IsCommandRun}
use Rattle.nr_service_laws.specs.Exchanges.{tells_text}
use Rattle.nr_service_laws.specs.ServedCommands.{client_marks, is_client_mark}

-- A session's source had these bytes left, which are bytes.
pub record IsOverBytes (s : SessionAt) : Type 0 where
  pub left : List ℕ
  pub known : s.bytes.left ≡ Some left
  pub bytes : IsBytes left

-- what is left of an input is known, and is bytes
abbrev pub IsKnownInput : SourceAt → Type 0
IsKnownInput input = (known : List ℕ) × ((input.left ≡ Some known) × IsBytes known)

-- the paths and the target that a command names are bytes, and so is what `put` reads
abbrev pub NamesBytes : Action Text → SourceAt → Type 0
NamesBytes actions.Mount input = ⊤
NamesBytes (actions.List path) input = IsBytes path
NamesBytes (actions.Stat path) input = IsBytes path
NamesBytes (actions.ReadLink path) input = IsBytes path
NamesBytes (actions.MakeDirectory path) input = IsBytes path
NamesBytes (actions.Remove path) input = IsBytes path
NamesBytes (actions.Link path target) input = IsBytes path × IsBytes target
NamesBytes (actions.Get path) input = IsBytes path
NamesBytes (actions.Put path) input = IsBytes path × IsKnownInput input

-- The user and the group of a command are 32-bit words, and what it names are bytes.
pub record IsOfBytes (c : Client Text) (input : SourceAt) : Type 0 where
  pub uid : c.uid < 2 ^ 32
  pub gid : c.gid < 2 ^ 32
  pub export : IsBytes c.export
  pub names : NamesBytes c.action input

-- Then the marks of such a command over such a source are of their types: its calls too, though the file handles in them come from replies.
abbrev pub CommandIsTyped : (opened : LinkParameters) (link : ℕ) (c : Client Text) (before after : DialerAt) (input input' : SourceAt) (out out' : SinkAt) (result : Result (Unit {0}) ClientEnd)
    → (runs : Runs c before after input input' out out' result) → Type 0
CommandIsTyped opened link c before after input input' out out' result (NotOpened end is fails same_input same_out) = ⊤
CommandIsTyped opened link c before after input input' out out' result (Opened dialed s s' opens prints closes) =
    (ran : IsCommandRun opened link s s' dialed.ended after.ended result (tells_text c.uid c.gid c.export c.action input input' out prints.written s s' prints.text prints.made)) →
    IsOverBytes s → IsOfBytes c input → IsTyped ran.run

abbrev pub CommandsAreTyped : Type 0
CommandsAreTyped =
    (opened : LinkParameters) (link : ℕ) (c : Client Text) (before after : DialerAt) (input input' : SourceAt) (out out' : SinkAt) (result : Result (Unit {0}) ClientEnd)
    (runs : Runs c before after input input' out out' result) → CommandIsTyped opened link c before after input input' out out' result runs

-- the marks that are not of the client of this link
abbrev pub other_marks : ℕ → List Mark → List Mark
other_marks link both = filter (λ mark. not (is_client_mark link mark)) both

-- A run is of its types if the marks of the client of a link are, and the others.
abbrev pub SidesAreTyped : Type 0
SidesAreTyped = (link : ℕ) (both : List Mark) → IsTyped (client_marks link both) → IsTyped (other_marks link both) → IsTyped both
