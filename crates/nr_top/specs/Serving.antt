-- How a server that a configuration asks for ends, and what the status of its run says.
use Rattle.std.specs.Prelude.{◌≡◌, ℕ, List, codes, Option}
use Rattle.nr_outside.specs.declared.moment.Moment.{Moment}
use Rattle.nr_outside.specs.Streams.{SourceAt, SinkAt}
use Rattle.nr_serve.specs.Serving.{AcceptorAt, SpawnerAt}
use Rattle.nr_serve.specs.Stops.{Done, Stopped}
use Rattle.nr_serve.specs.declared.stop.ServeStop.{ServeStop}
use Rattle.nr_serve.specs.declared.stop.ServeStop.TheVariants as stops
use Rattle.nr_top.specs.Ends.{Reported, memory_text, budget_text}
use Rattle.nr_top.specs.Statuses as statuses

-- the status and the text for each reason (a configuration may be as long as a script)
abbrev pub ReportsStop : ServeStop → ℕ → SinkAt → SinkAt → Type 0
ReportsStop stops.Memory status err err' = Reported statuses.no_memory memory_text status err err'
ReportsStop stops.Link status err err' = Reported statuses.link_fault (codes "link fault\n") status err err'
ReportsStop stops.Input status err err' = Reported statuses.fault (codes "input fault\n") status err err'
ReportsStop stops.Output status err err' = Reported statuses.fault (codes "output fault\n") status err err'
ReportsStop stops.Configuration status err err' = Reported statuses.bad_input (codes "bad configuration\n") status err err'
ReportsStop stops.Budget status err err' = Reported statuses.over_budget budget_text status err err'

-- what the status says
pub data ServeEnds (status : ℕ) (input input' : SourceAt) (out out' err err' : SinkAt) (before after : AcceptorAt) (spawner spawner' : SpawnerAt) (gave gave' : Option (List Moment)) : Type 0 where
  Served : status ≡ statuses.done → Done input input' out out' before after spawner spawner' gave gave' → err' ≡ err → ServeEnds status input input' out out' err err' before after spawner spawner' gave gave'
  NotServed : (stop : ServeStop) → Stopped stop input input' out out' before after spawner spawner' gave gave' → ReportsStop stop status err err' →
      ServeEnds status input input' out out' err err' before after spawner spawner' gave gave'
