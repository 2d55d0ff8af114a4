-- A server that a configuration asks for.
use Rattle.std.specs.Prelude.{◌≡◌, ℕ, ◌+◌, ◌++◌, List, [], ◌∷◌, length, codes, Option}
use Rattle.std.specs.Fmt.{decimal}
use Rattle.std.specs.Int.{w64, from_be_bytes}
use Rattle.nr_outside.specs.declared.moment.Moment.{Moment}
use Rattle.nr_links.specs.Asked.{Asks}
use Rattle.nr_links.specs.Links.{LinkLog}
use Rattle.nr_links.specs.Moments.{Gives}
use Rattle.nr_reduce.specs.declared.mark.Entry.{Entry}
use Rattle.nr_turnstile.specs.Rule.{Begins}
use Rattle.nr_tree.specs.Roots.{root_only}
use Rattle.nr_plain.specs.History.{AreOfCalls, HasNoCallTwice, IsHistory, OnlyOthersAdded, Opening, PassView, setup_in}
use Rattle.nr_plain.specs.Setup.{Setup, time_of}
use Rattle.nr_words.specs.declared.settings.Settings.{Settings}
use Rattle.nr_words.specs.Lines.{Text}
use Rattle.nr_host.specs.declared.connection_limits.ConnectionLimits.{ConnectionLimits}
use Rattle.nr_host.specs.declared.link_end.LinkEnd.{LinkEnd}
use Rattle.nr_host.specs.Serving as host

-- the setup that a configuration asks for: a root alone, made at this moment
abbrev pub setup_of : Settings Text → Moment → Setup
setup_of settings moment = record {
  tree = root_only (time_of moment);
  parameters = record { capacity = settings.capacity; verifier = record { number = from_be_bytes w64 settings.write_verifier }; export = settings.export };
}

-- the limits of each connection that a configuration asks for
abbrev pub limits_of : Settings Text → ConnectionLimits
limits_of settings = record { credits = settings.credits; low = settings.low_credits; units = settings.units; invalidates = settings.invalidates }

-- what is known of an acceptor: the addresses at which it listened, its links, and its counts
pub record AcceptorAt : Type 0 where
  pub asked : Option (List (List ℕ))
  pub ended : Option LinkLog
  pub lost : ℕ
  pub faults : ℕ

abbrev pub acceptor_at : Option (List (List ℕ)) → Option LinkLog → ℕ → ℕ → AcceptorAt
acceptor_at asked ended lost faults = record { asked = asked; ended = ended; lost = lost; faults = faults }

-- what is known of a spawner: how many jobs it started, how many of them have ended, and its fault count, which rises if it hands one back
pub record SpawnerAt : Type 0 where
  pub started : ℕ
  pub ended : ℕ
  pub faults : ℕ

abbrev pub spawner_at : ℕ → ℕ → ℕ → SpawnerAt
spawner_at started ended faults = record { started = started; ended = ended; faults = faults }

-- A server was opened at the moment that the clock gave, as the configuration asks for.
pub record Opens (settings : Settings Text) (before after : Option (List Moment)) (first : Opening) : Type 0 where
  pub moment : Moment
  pub gave : Gives before after moment
  pub setup : setup_in first ≡ setup_of settings moment

-- A server was opened so, and listened at the address of the configuration. Links were taken then: of each the spawner
-- counted a job more as started, or it was served here, and these are the ends of those. All jobs that were started have
-- ended. The server's own pass had seen no entry of the journal at first, place 0 of the history alone was its own, and
-- this is what it knows at last.
pub record Serves (settings : Settings Text) (before after : AcceptorAt) (spawner spawner' : SpawnerAt) (gave gave' : Option (List Moment)) (ends : List LinkEnd) (first : Opening) (view : PassView) : Type 0 where
  pub opened : PassView
  pub opens : Opens settings gave gave' first
  pub empty : IsHistory first [] opened.seen
  pub own : opened.mine ≡ 0 ∷ []
  pub listens : Asks before.asked after.asked settings.listen
  pub serves : host.Serves (limits_of settings) settings.records (host.between before.ended before.lost spawner.started opened) ends (host.between after.ended after.lost spawner'.started view)
  pub waited : spawner'.ended ≡ spawner'.started

-- what is printed at the end: the number of connections, and the length of the journal
unfoldable pub served_text : ℕ → ℕ → List ℕ
served_text connections journal = codes "served " ++ decimal connections ++ codes " journal " ++ decimal journal ++ codes "\n"

-- All connections that a configuration asks for were taken: of each a job more was counted as started, or it was served
-- here. After that the server's own pass, which knew a journal, had one turn more, and this is the journal that it saw
-- then. It begins with the one that the pass knew, and each of its entries is that of a call. No two are of one call of a
-- client that has a number.
pub record ServesConnections (settings : Settings Text) (before after : AcceptorAt) (spawner spawner' : SpawnerAt) (gave gave' : Option (List Moment)) : Type 0 where
  pub first : Opening
  pub ends : List LinkEnd
  pub view : PassView
  pub last : PassView
  pub known : List Entry
  pub journal : List Entry
  pub serves : Serves settings before after spawner spawner' gave gave' ends first view
  pub all : spawner'.started + length ends ≡ spawner.started + settings.connections
  pub back : host.BackCount ends spawner.faults spawner'.faults
  pub knew : IsHistory first known view.seen
  pub turn : OnlyOthersAdded view last
  pub saw : IsHistory first journal last.seen
  pub begins : Begins known journal
  pub of_calls : AreOfCalls (setup_in first) [] journal
  pub once : HasNoCallTwice last.seen
  pub unfailing : after.faults ≡ before.faults
