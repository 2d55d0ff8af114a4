-- Why a server wasn't opened, or stopped early, and what was done until then.
use Rattle.std.specs.Prelude.{◌≡◌, ℕ, ◌+◌, ◌<◌, ◌≤◌, ◌⊎◌, List, [], ◌∷◌, length, Option, IfSome, None, Some}
use Rattle.nr_outside.specs.Faults.{Rises}
use Rattle.nr_outside.specs.Streams.{SourceAt, SinkAt, ReadsAll, ReadsWithin, ReadsBeyond, Writes, WritesSome}
use Rattle.nr_outside.specs.declared.moment.Moment.{Moment}
use Rattle.nr_words.specs.declared.settings.Settings.{Settings}
use Rattle.nr_words.specs.Lines.{Text}
use Rattle.nr_words.specs.Settings.{config_of}
use Rattle.nr_words.specs.Limits.{capacity_max, connections_max, credits_max}
use Rattle.nr_words.specs.declared.settings.ConfigFault.{ConfigFault}
use Rattle.nr_words.specs.declared.settings.ConfigFault.TheVariants as faults
use Rattle.nr_outside.specs.declared.whole.ReadEnd.{ReadEnd}
use Rattle.nr_outside.specs.declared.whole.ReadEnd.TheVariants as ends
use Rattle.nr_links.specs.Asked.{Asks}
use Rattle.nr_links.specs.Moments.{Gives}
use Rattle.nr_plain.specs.History.{IsHistory, Opening, PassView}
use Rattle.nr_plain.specs.Numbered.{RepresentsTagged}
use Rattle.nr_plain.specs.Stands.{PlainServerState}
use Rattle.nr_host.specs.Serving as host
use Rattle.nr_accept.specs.declared.fault.ServeFault.{ServeFault}
use Rattle.nr_accept.specs.declared.fault.ServeFault.TheVariants as serve_faults
use Rattle.nr_host.specs.declared.link_end.LinkEnd.{LinkEnd}
use Rattle.nr_outside.specs.Whole.{input_max}
use Rattle.nr_serve.specs.Serving.{AcceptorAt, Opens, Serves, ServesConnections, SpawnerAt, limits_of, served_text, setup_of}
use Rattle.nr_serve.specs.declared.stop.ServeStop.{ServeStop}
use Rattle.nr_serve.specs.declared.stop.ServeStop.TheVariants as stops

-- the input has this configuration
pub record ReadsConfig (input input' : SourceAt) (settings : Settings Text) : Type 0 where
  pub text : List ℕ
  pub whole : ReadsAll input_max input input' text
  pub reads : config_of text ≡ Some settings

-- no configuration was read
abbrev pub StoppedReading : ServeStop → SourceAt → SourceAt → Type 0
StoppedReading stops.Memory input input' = ReadsWithin input_max input input' × (input'.faults ≡ input.faults)
StoppedReading stops.Input input input' = ReadsWithin input_max input input' × Rises input.faults input'.faults
StoppedReading stops.Budget input input' =
    IfSome input.left (λ left. input_max < length left) × ReadsBeyond input_max input input' × (input'.faults ≡ input.faults)
StoppedReading stops.Configuration input input' = (text : List ℕ) × (ReadsAll input_max input input' text × (config_of text ≡ None))
StoppedReading stops.Link input input' = ⊥
StoppedReading stops.Output input input' = ⊥

-- the clock gave one moment
abbrev pub GivesOne : Option (List Moment) → Option (List Moment) → Type 0
GivesOne gave gave' = (moment : Moment) × Gives gave gave' moment

-- Fewer links were taken than the configuration asks for, and the spawner's fault count rose if one of them was served
-- here; or the acceptor did not listen, no job was given to the spawner, and the clock gave the moment of the root alone.
abbrev pub ServesFewer : Settings Text → (before after : AcceptorAt) → (spawner spawner' : SpawnerAt) → (gave gave' : Option (List Moment)) → Type 0
ServesFewer settings before after spawner spawner' gave gave' =
    (((after.asked ≡ before.asked) × ((after.ended ≡ before.ended) × (after.lost ≡ before.lost))) × ((spawner' ≡ spawner) × GivesOne gave gave'))
    ⊎ ((ends : List LinkEnd)
    × ((spawner'.started + length ends < spawner.started + settings.connections)
    × (host.BackCount ends spawner.faults spawner'.faults
    × ((first : Opening) × ((view : PassView) × Serves settings before after spawner spawner' gave gave' ends first view)))))

-- memory ran out, or the acceptor's count rose
abbrev pub IsServeFault : ServeStop → (before after : ℕ) → Type 0
IsServeFault stops.Memory before after = after ≡ before
IsServeFault stops.Link before after = Rises before after
IsServeFault _ before after = ⊥

-- not all links were served
abbrev pub StoppedServing : ServeStop → Settings Text → (before after : AcceptorAt) → (spawner spawner' : SpawnerAt) → (gave gave' : Option (List Moment)) → Type 0
StoppedServing stop settings before after spawner spawner' gave gave' =
    ServesFewer settings before after spawner spawner' gave gave' × IsServeFault stop before.faults after.faults

-- what it printed was not complete
abbrev pub StoppedPrinting : ServeStop → SinkAt → SinkAt → List ℕ → Type 0
StoppedPrinting stops.Memory out out' text = out' ≡ out
StoppedPrinting stops.Output out out' text = WritesSome out out' text
StoppedPrinting _ out out' text = ⊥

-- all connections that the configuration asks for were served, and that was printed
pub record ServesAndPrints (settings : Settings Text) (out out' : SinkAt) (before after : AcceptorAt) (spawner spawner' : SpawnerAt) (gave gave' : Option (List Moment)) : Type 0 where
  pub serves : ServesConnections settings before after spawner spawner' gave gave'
  pub prints : Writes out out' (served_text settings.connections (length serves.journal))

-- It stopped while it served, or when it printed.
pub data StopsServing (stop : ServeStop) (settings : Settings Text) (out out' : SinkAt) (before after : AcceptorAt) (spawner spawner' : SpawnerAt) (gave gave' : Option (List Moment)) : Type 0 where
  AtServing : StoppedServing stop settings before after spawner spawner' gave gave' → out' ≡ out → StopsServing stop settings out out' before after spawner spawner' gave gave'
  AtPrinting : (serves : ServesConnections settings before after spawner spawner' gave gave') → StoppedPrinting stop out out' (served_text settings.connections (length serves.journal)) →
      StopsServing stop settings out out' before after spawner spawner' gave gave'

-- the configuration was read, its connections were served, and that was printed
pub record Done (input input' : SourceAt) (out out' : SinkAt) (before after : AcceptorAt) (spawner spawner' : SpawnerAt) (gave gave' : Option (List Moment)) : Type 0 where
  pub settings : Settings Text
  pub reads : ReadsConfig input input' settings
  pub served : ServesAndPrints settings out out' before after spawner spawner' gave gave'

-- It stopped while it read the configuration, or after that.
pub data Stopped (stop : ServeStop) (input input' : SourceAt) (out out' : SinkAt) (before after : AcceptorAt) (spawner spawner' : SpawnerAt) (gave gave' : Option (List Moment)) : Type 0 where
  AtReading : StoppedReading stop input input' → out' ≡ out → after ≡ before → spawner' ≡ spawner → gave' ≡ gave → Stopped stop input input' out out' before after spawner spawner' gave gave'
  AfterReading : (settings : Settings Text) → ReadsConfig input input' settings → StopsServing stop settings out out' before after spawner spawner' gave gave' →
      Stopped stop input input' out out' before after spawner spawner' gave gave'

-- ===== for the code

abbrev pub stop_of_read : ReadEnd → ServeStop
stop_of_read ends.Failed = stops.Input
stop_of_read ends.TooLong = stops.Budget
stop_of_read ends.Memory = stops.Memory

abbrev pub stop_of_config : ConfigFault → ServeStop
stop_of_config faults.Bad = stops.Configuration
stop_of_config faults.Memory = stops.Memory

abbrev pub stop_of_serve : ServeFault → ServeStop
stop_of_serve serve_faults.AcceptFault = stops.Link
stop_of_serve serve_faults.Memory = stops.Memory

-- a server was opened at the moment that the clock gave, as the configuration asks for, for the empty journal
pub record OpensServer (settings : Settings Text) (before after : Option (List Moment)) (kept : PlainServerState) : Type 0 where
  pub moment : Moment
  pub gave : Gives before after moment
  pub stands : RepresentsTagged (setup_of settings moment) [] kept

-- it stands behind a turnstile, and this is what the first pass knows
pub record OpensShared (settings : Settings Text) (before after : Option (List Moment)) (view : PassView) : Type 0 where
  pub first : Opening
  pub opens : Opens settings before after first
  pub empty : IsHistory first [] view.seen
  pub own : view.mine ≡ 0 ∷ []

-- links were taken, at the address and within the limits of the configuration, by a pass that knew and knows this
pub record ServesLinks (settings : Settings Text) (before after : AcceptorAt) (spawner spawner' : SpawnerAt) (view view' : PassView) (ends : List LinkEnd) : Type 0 where
  pub listens : Asks before.asked after.asked settings.listen
  pub serves : host.Serves (limits_of settings) settings.records (host.between before.ended before.lost spawner.started view) ends (host.between after.ended after.lost spawner'.started view')
  pub waited : spawner'.ended ≡ spawner'.started

-- all of them
pub record ServesLinksOf (settings : Settings Text) (before after : AcceptorAt) (spawner spawner' : SpawnerAt) (view view' : PassView) : Type 0 where
  pub ends : List LinkEnd
  pub all : spawner'.started + length ends ≡ spawner.started + settings.connections
  pub back : host.BackCount ends spawner.faults spawner'.faults
  pub serves : ServesLinks settings before after spawner spawner' view view' ends
  pub unfailing : after.faults ≡ before.faults

abbrev pub LinksStopped : ServeStop → Settings Text → (before after : AcceptorAt) → (spawner spawner' : SpawnerAt) → (view view' : PassView) → Type 0
LinksStopped stop settings before after spawner spawner' view view' =
    ((((after.asked ≡ before.asked) × ((after.ended ≡ before.ended) × (after.lost ≡ before.lost))) × (spawner' ≡ spawner))
    ⊎ ((ends : List LinkEnd)
    × ((spawner'.started + length ends < spawner.started + settings.connections)
    × (host.BackCount ends spawner.faults spawner'.faults × ServesLinks settings before after spawner spawner' view view' ends))))
    × IsServeFault stop before.faults after.faults

-- the ranges of a configuration
pub record InRanges (settings : Settings Text) : Type 0 where
  pub credits : settings.credits ≤ credits_max
  pub low : settings.low_credits ≤ settings.credits
  pub capacity : settings.capacity ≤ capacity_max
  pub connections : settings.connections ≤ connections_max
