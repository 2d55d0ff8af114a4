-- The status of a server whose configuration is right.
use Rattle.std.specs.Prelude.{◌≡◌, ℕ, ◌≤◌, ◌⊎◌, List, length, Option, Some}
use Rattle.nr_outside.specs.Faults.{Rises}
use Rattle.nr_outside.specs.Streams.{SinkAt, SourceAt}
use Rattle.nr_outside.specs.Whole.{input_max}
use Rattle.nr_outside.specs.declared.moment.Moment.{Moment}
use Rattle.nr_words.specs.Lines.{Text}
use Rattle.nr_words.specs.Settings.{config_of}
use Rattle.nr_words.specs.declared.settings.Settings.{Settings}
use Rattle.nr_serve.specs.Serving.{AcceptorAt, SpawnerAt}
use Rattle.nr_top.specs.Serving.{ServeEnds}
use Rattle.nr_top.specs.Statuses as statuses

-- no fault count of what a server uses rises: of its configuration's input, of the output, of what reports, of the acceptor
pub record NoFaultRises (input input' : SourceAt) (out out' err err' : SinkAt) (before after : AcceptorAt) : Type 0 where
  pub input_reads : Rises input.faults input'.faults → ⊥
  pub output_writes : Rises out.faults out'.faults → ⊥
  pub error_writes : Rises err.faults err'.faults → ⊥
  pub accepts : Rises before.faults after.faults → ⊥

-- the complete input is a configuration within the maximum length
pub record IsConfigured (input : SourceAt) : Type 0 where
  pub text : List ℕ
  pub settings : Settings Text
  pub whole : input.left ≡ Some text
  pub within : length text ≤ input_max
  pub reads : config_of text ≡ Some settings

-- Then the server has served all its connections and printed that, or memory ran out.
abbrev pub ServersHaveStatuses : Type 0
ServersHaveStatuses =
    (status : ℕ) (input input' : SourceAt) (out out' err err' : SinkAt) (before after : AcceptorAt) (spawner spawner' : SpawnerAt) (gave gave' : Option (List Moment)) →
    IsConfigured input → NoFaultRises input input' out out' err err' before after → ServeEnds status input input' out out' err err' before after spawner spawner' gave gave' →
    (status ≡ statuses.done) ⊎ (status ≡ statuses.no_memory)
