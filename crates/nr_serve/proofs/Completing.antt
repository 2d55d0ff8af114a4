-- Why a server whose configuration is right stops.
use Rattle.std.proofs.Common.{◌≡◌, ℕ, List, Option, Some, None, refl, arith, subst, sym, ap, ◌∙◌}
use Rattle.std.specs.Prelude.{◌≤◌, ◌<◌, length, IfSome}
use Rattle.nr_outside.specs.Faults.{Rises}
use Rattle.nr_outside.specs.Streams.{SourceAt, SinkAt}
use Rattle.nr_outside.specs.Whole.{input_max}
use Rattle.nr_words.specs.declared.settings.Settings.{Settings}
use Rattle.nr_words.specs.Lines.{Text}
use Rattle.nr_words.specs.Settings.{config_of}
use Rattle.nr_serve.specs.Laws.{OnlyMemoryStops}
use Rattle.nr_serve.specs.Serving.{served_text}
use Rattle.nr_serve.specs.Stops.{IsServeFault, StoppedPrinting, StoppedReading}
use Rattle.nr_serve.specs.Stops.StopsServing.{AtServing, AtPrinting}
use Rattle.nr_serve.specs.Stops.Stopped.{AtReading, AfterReading}
use Rattle.nr_serve.specs.declared.stop.ServeStop.{ServeStop}
use Rattle.nr_serve.specs.declared.stop.ServeStop.TheVariants as stops

pub too_long : (left : Option (List ℕ)) (text : List ℕ) → left ≡ Some text → length text ≤ input_max → IfSome left (λ known. input_max < length known) → ⊥
too_long left text is within long = above (subst (λ (l : Option (List ℕ)). IfSome l (λ known. input_max < length known)) is long)
  where
    above : input_max < length text → ⊥
    above more = omega (arith, within, more)

pub same_text : (left : Option (List ℕ)) (text other : List ℕ) → left ≡ Some text → IfSome left (λ known. other ≡ known) → other ≡ text
same_text left text other is all = subst (λ (l : Option (List ℕ)). IfSome l (λ known. other ≡ known)) is all

not_none : (settings : Settings Text) (text other : List ℕ) → other ≡ text → config_of text ≡ Some settings → config_of other ≡ None → ⊥
not_none settings text other same is none = some_none (sym is ∙ (ap config_of (sym same) ∙ none))
  where
    some_none : Some settings ≡ None → ⊥
    some_none e = absurd cc

reading : (stop : ServeStop) (text : List ℕ) (settings : Settings Text) (input input' : SourceAt) → input.left ≡ Some text → length text ≤ input_max → config_of text ≡ Some settings
    → (Rises input.faults input'.faults → ⊥) → StoppedReading stop input input' → stop ≡ stops.Memory
reading stops.Memory text settings input input' is within right quiet stopped = refl
reading stops.Input text settings input input' is within right quiet stopped = absurd (quiet stopped.1)
reading stops.Budget text settings input input' is within right quiet stopped = absurd (too_long input.left text is within stopped.0)
reading stops.Configuration text settings input input' is within right quiet (other, both) =
    absurd (not_none settings text other (same_text input.left text other is both.0.all) right both.1)
reading stops.Link text settings input input' is within right quiet stopped = absurd stopped
reading stops.Output text settings input input' is within right quiet stopped = absurd stopped

pub serving : (stop : ServeStop) (before after : ℕ) → (Rises before after → ⊥) → IsServeFault stop before after → stop ≡ stops.Memory
serving stops.Memory before after quiet fault = refl
serving stops.Link before after quiet fault = absurd (quiet fault)
serving stops.Input before after quiet fault = absurd fault
serving stops.Budget before after quiet fault = absurd fault
serving stops.Configuration before after quiet fault = absurd fault
serving stops.Output before after quiet fault = absurd fault

pub printing : (stop : ServeStop) (out out' : SinkAt) (text : List ℕ) → (Rises out.faults out'.faults → ⊥) → StoppedPrinting stop out out' text → stop ≡ stops.Memory
printing stops.Memory out out' text quiet stopped = refl
printing stops.Output out out' text quiet stopped = absurd (quiet stopped.rose)
printing stops.Input out out' text quiet stopped = absurd stopped
printing stops.Budget out out' text quiet stopped = absurd stopped
printing stops.Configuration out out' text quiet stopped = absurd stopped
printing stops.Link out out' text quiet stopped = absurd stopped

pub only_memory : OnlyMemoryStops
only_memory stop text settings input input' out out' before after spawner spawner' gave gave' is within right reads writes accepts (AtReading stopped none same unused given) =
    reading stop text settings input input' is within right reads stopped
only_memory stop text settings input input' out out' before after spawner spawner' gave gave' is within right reads writes accepts (AfterReading read config (AtServing stopped none)) =
    serving stop before.faults after.faults accepts stopped.1
only_memory stop text settings input input' out out' before after spawner spawner' gave gave' is within right reads writes accepts (AfterReading read config (AtPrinting serves stopped)) =
    printing stop out out' (served_text read.connections (length serves.journal)) writes stopped
