-- The drills that a world stands for.
use Rattle.std.specs.Prelude.{◌≡◌, ℕ, ◌-◌, ◌≤◌, List, [], ◌∷◌, length, map, None, slice_index_or}
use Rattle.std.specs.List.{AllByRecursion, range_with_len}
use Rattle.nr_rpc.specs.Credential.{CanWriteCred}
use Rattle.nr_rpc.specs.declared.cred.Cred.{Cred}
use Rattle.nr_reduce.specs.declared.call.Call.{Call}
use Rattle.nr_reduce.specs.declared.mark.Mark.{Mark}
use Rattle.nr_reduce.specs.History.{is_dropped}
use Rattle.nr_reduce.specs.Run.{client}
use Rattle.nr_tree.specs.Tree.{Tree}
use Rattle.nr_texts.specs.declared.opening.Opening.{Opening}
use Rattle.nr_script.specs.declared.script.Line.{Line}
use Rattle.nr_drill.specs.Drill.{link_of, IsLink, Setting, Drill, client_of, last_link, setting_now, after_drop_if, after_leaving}
use Rattle.nr_drill.specs.DrillSetup.{drill_setup, server_of}
use Rattle.nr_drill.specs.Follows.{MakeAll, Makes, setting_of}
use Rattle.nr_drill.specs.InBytes.{RepliedInBytes}
use Rattle.nr_world.specs.DrillLinkState.{DrillLinkState}
use Rattle.nr_world.specs.LinkStands.{LinkStands}
use Rattle.nr_world.specs.Steps.{MayLeave, OpensServerSo, ServerStands}
use Rattle.nr_world.specs.declared.steps.Procedure.{Procedure}
use Rattle.nr_world.specs.declared.world.World.{World}
use Rattle.nr_rpc.specs.declared.cred.Cred.TheVariants as creds
use Rattle.nr_script.specs.declared.script.Line.TheVariants as lines

-- what a drill over this tree is with, if this is its first line
abbrev pub drill_setting : Tree → Opening → Setting
drill_setting tree opening = setting_of (server_of (drill_setup tree opening)) opening

-- A world in which the first clients have links: each stands for the drill, whose links are opened with what `t` says. Its marks, its clock and its
-- credentials are those of the drill, each reply is bytes, each credential can be encoded, and its server stands for the drill's journal.
pub record HasOpened (tree : Tree) (opening : Opening) (t : Setting) (clients : ℕ) (d : Drill) (w : World) : Type 0 where
  pub first_line : w.opening ≡ opening
  pub count : length w.links.items ≡ clients
  pub links : (c : ℕ) (v : DrillLinkState) → 1 ≤ c → c ≤ clients → LinkStands t (last_link c d) d (slice_index_or w.links.items (c - 1) v)
  pub marks : w.marks ≡ d.marks
  pub replies : RepliedInBytes d.marks
  pub seconds : w.seconds ≡ d.seconds
  pub creds : w.creds.items ≡ d.creds
  pub creds_count : length w.creds.items ≡ opening.clients
  pub creds_fit : AllByRecursion CanWriteCred w.creds.items
  pub server : ServerStands (drill_setup tree opening) d w.server

-- How the links of a drill are its clients': each client has a last link, which is its own, and each mark is of a link.
pub record HasLastLinks (s : Setting) (clients : ℕ) (d : Drill) : Type 0 where
  pub count : length d.last_links ≡ clients
  pub pipes : length d.pipes ≡ length d.opened
  pub owned : (c : ℕ) → 1 ≤ c → c ≤ clients → IsLink d (last_link c d) × (client_of (setting_now s d) (last_link c d) ≡ c)
  pub within : AllByRecursion (λ (mark : Mark). IsLink d (link_of mark)) d.marks

-- Each client has a link, whose server is opened as the first line says; and the world knows the client of each link.
pub record WorldStands (tree : Tree) (opening : Opening) (d : Drill) (w : World) : Type 0 where
  pub opened : HasOpened tree opening (setting_now (drill_setting tree opening) d) opening.clients d w
  pub frame : HasLastLinks (drill_setting tree opening) opening.clients d
  pub servers : (c : ℕ) → 1 ≤ c → c ≤ opening.clients → OpensServerSo opening ((setting_now (drill_setting tree opening) d).opened (last_link c d))
  pub owners : w.owners.items ≡ map (client_of (setting_now (drill_setting tree opening) d)) (range_with_len 1 (length d.opened))

-- a client's call of this procedure, with these arguments and with the credential that the client has
abbrev pub call_of_client : List Cred → (client : ℕ) → Procedure → (args : List ℕ) → Call
call_of_client all client procedure args = record { prog = procedure.prog; vers = procedure.vers; proc = procedure.proc; cred = slice_index_or all (client - 1) creds.None; args = args }

-- For every drill that the world stood for, it stands for the drill after a step.
abbrev pub Steps : (Setting → Drill → Drill) → World → World → Type 0
Steps step old new = (tree : Tree) (opening : Opening) (d : Drill) → WorldStands tree opening d old → WorldStands tree opening (step (drill_setting tree opening) d) new

-- A client that hasn't ended may leave its link once that is dropped, if a line has it begin another one and each reply so far is bytes.
abbrev pub MayRejoin : Setting → Line → Drill → Type 0
MayRejoin s (lines.Rejoin c) d = RepliedInBytes d.marks → (client ((setting_now s d).opened (last_link c d)) (last_link c d) d.marks).ended ≡ None →
    MayLeave ((setting_now s d).opened (last_link c d)) (last_link c d) (after_drop_if (is_dropped (last_link c d) d.marks) (last_link c d) d).marks
MayRejoin s line d = Unit {0}

-- so for each of these lines, whatever those before it make of the drill
abbrev pub MayRejoinIn : Setting → (clients : ℕ) → List Line → Drill → Type 0
MayRejoinIn s clients [] d = Unit {0}
MayRejoinIn s clients (line ∷ others) d = MayRejoin s line d × ((next : Drill) → Makes s clients line d next → MayRejoinIn s clients others next)

-- For every drill that the world stood for, it stands for the drill after a line.
abbrev pub MakesLine : Line → World → World → Type 0
MakesLine line old new = (tree : Tree) (opening : Opening) (d : Drill) → WorldStands tree opening d old → MayRejoin (drill_setting tree opening) line d →
    (after : Drill) × Makes (drill_setting tree opening) opening.clients line d after × WorldStands tree opening after new

-- The same after some lines.
abbrev pub MakesLines : List Line → World → World → Type 0
MakesLines all old new = (tree : Tree) (opening : Opening) (d : Drill) → WorldStands tree opening d old → MayRejoinIn (drill_setting tree opening) opening.clients all d →
    (after : Drill) × MakeAll (drill_setting tree opening) opening.clients all d after × WorldStands tree opening after new

-- A client whose link is dropped begins the next one.
abbrev pub BeginsLink : (client : ℕ) → World → World → Type 0
BeginsLink c old new = (tree : Tree) (opening : Opening) (d : Drill) → WorldStands tree opening d old →
    MayLeave ((setting_now (drill_setting tree opening) d).opened (last_link c d)) (last_link c d) d.marks →
    WorldStands tree opening (after_leaving (drill_setting tree opening) c (last_link c d) d) new
