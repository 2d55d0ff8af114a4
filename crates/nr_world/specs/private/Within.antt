-- What a line needs of a world.
use Rattle.std.specs.Prelude.{ℕ, ◌+◌, ◌-◌, ◌≤◌, List, [], ◌∷◌, slice_index_or}
use Rattle.nr_rpc.specs.Credential.{CanWriteCred}
use Rattle.nr_tree.specs.Tree.{Tree}
use Rattle.nr_texts.specs.declared.opening.Opening.{Opening}
use Rattle.nr_script.specs.declared.script.Line.{Line}
use Rattle.nr_texts.specs.Limits.{number_max}
use Rattle.nr_script.specs.Script.{seconds_in}
use Rattle.nr_reduce.specs.Served.{CreditsInRange}
use Rattle.nr_drill.specs.Drill.{Drill}
use Rattle.nr_world.specs.DrillLinkState.{DrillLinkState}
use Rattle.nr_world.specs.declared.world.World.{World}
use Rattle.nr_world.specs.private.Stands.{MayRejoinIn, WorldStands, drill_setting}
use Rattle.nr_script.specs.declared.script.Line.TheVariants as lines

-- a client of the script
abbrev pub IsClient : ℕ → ℕ → Type 0
IsClient clients client = (1 ≤ client) × (client ≤ clients)

-- the owner of the server of a client's link may set this many credits
abbrev pub MayGrant : World → ℕ → ℕ → Type 0
MayGrant w client credits = (v : DrillLinkState) → CreditsInRange (slice_index_or w.links.items (client - 1) v).server.credits.receives credits

-- a line names a client of the script, its credential can be encoded, its credits are at most those of the first line, and the clock doesn't
-- pass its end
abbrev pub IsLineWithin : Opening → ℕ → Line → Type 0
IsLineWithin opening seconds (lines.Cred client cred) = IsClient opening.clients client × CanWriteCred cred
IsLineWithin opening seconds (lines.Call client form prog vers proc args) = IsClient opening.clients client
IsLineWithin opening seconds (lines.Up client most) = IsClient opening.clients client
IsLineWithin opening seconds (lines.Down client most) = IsClient opening.clients client
IsLineWithin opening seconds (lines.Work client) = IsClient opening.clients client
IsLineWithin opening seconds (lines.Tick more) = seconds + more ≤ number_max
IsLineWithin opening seconds (lines.Forget client number) = IsClient opening.clients client
IsLineWithin opening seconds (lines.Revoke client number) = IsClient opening.clients client
IsLineWithin opening seconds (lines.Drop client) = IsClient opening.clients client
IsLineWithin opening seconds (lines.Rejoin client) = IsClient opening.clients client
IsLineWithin opening seconds (lines.Grant client credits) = IsClient opening.clients client × CreditsInRange opening.credits credits
IsLineWithin opening seconds (lines.Raw client side bytes) = IsClient opening.clients client
IsLineWithin opening seconds lines.Drain = Unit {0}

-- each of these lines, one after another
abbrev pub AreWithin : Opening → ℕ → List Line → Type 0
AreWithin opening seconds [] = Unit {0}
AreWithin opening seconds (line ∷ others) = IsLineWithin opening seconds line × AreWithin opening (seconds + seconds_in line) others

-- the world stands for a drill in which this line, or each of these lines, may come next; a client that begins another link may leave the one that it has
abbrev pub CanMake : Line → World → Type 0
CanMake line w = (tree : Tree) × (opening : Opening) × (d : Drill) × WorldStands tree opening d w × IsLineWithin opening d.seconds line

abbrev pub CanMakeAll : List Line → World → Type 0
CanMakeAll all w = (tree : Tree) × (opening : Opening) × (d : Drill) × WorldStands tree opening d w × AreWithin opening d.seconds all ×
    MayRejoinIn (drill_setting tree opening) opening.clients all d
