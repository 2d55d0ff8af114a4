-- What stops a server whose configuration is right.
use Rattle.std.specs.Prelude.{◌≡◌, ℕ, ◌≤◌, List, length, Option, Some}
use Rattle.nr_outside.specs.Faults.{Rises}
use Rattle.nr_outside.specs.Streams.{SourceAt, SinkAt}
use Rattle.nr_outside.specs.Whole.{input_max}
use Rattle.nr_outside.specs.declared.moment.Moment.{Moment}
use Rattle.nr_words.specs.declared.settings.Settings.{Settings}
use Rattle.nr_words.specs.Lines.{Text}
use Rattle.nr_words.specs.Settings.{config_of}
use Rattle.nr_serve.specs.Serving.{AcceptorAt, SpawnerAt}
use Rattle.nr_serve.specs.Stops.{Stopped}
use Rattle.nr_serve.specs.declared.stop.ServeStop.{ServeStop}
use Rattle.nr_serve.specs.declared.stop.ServeStop.TheVariants as stops

-- Nothing but memory stops a server whose input is a configuration within the maximum length, if no fault count rises: that of the input, of
-- the output, or of the acceptor. Jobs that the spawner hands back stop nothing.
abbrev pub OnlyMemoryStops : Type 0
OnlyMemoryStops =
    (stop : ServeStop) (text : List ℕ) (settings : Settings Text) (input input' : SourceAt) (out out' : SinkAt) (before after : AcceptorAt) (spawner spawner' : SpawnerAt) (gave gave' : Option (List Moment)) →
    input.left ≡ Some text → length text ≤ input_max → config_of text ≡ Some settings →
    (Rises input.faults input'.faults → ⊥) → (Rises out.faults out'.faults → ⊥) → (Rises before.faults after.faults → ⊥) →
    Stopped stop input input' out out' before after spawner spawner' gave gave' → stop ≡ stops.Memory
