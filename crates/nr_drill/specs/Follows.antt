-- The marks that a script makes, in order.
use Rattle.std.specs.Prelude.{Bool, true, false, ◌&&◌, if◌then◌else◌, is_none, None, ◌≡◌, ℕ, zero, suc, ◌+◌, List, [], ◌∷◌, ◌++◌}
use Rattle.std.specs.List.{list_all}
use Rattle.nr_wire.specs.declared.hello.Side.{Side}
use Rattle.nr_link.specs.Agreement.{terms_with}
use Rattle.nr_link.specs.declared.agreement.SideTerms.{SideTerms}
use Rattle.nr_reduce.specs.declared.mark.LinkParameters.{LinkParameters}
use Rattle.nr_reduce.specs.declared.mark.Mark.{Mark}
use Rattle.nr_reduce.specs.History.{is_dropped}
use Rattle.nr_texts.specs.declared.opening.Opening.{Opening}
use Rattle.nr_script.specs.declared.script.Line.{Line}
use Rattle.nr_script.specs.declared.script.Line.TheVariants as lines
use Rattle.nr_script.specs.Script.{ScriptLines}
use Rattle.nr_drill.specs.Drill.{SerialServer, Setting, Drill, pipes_of, waiting_call, start, links_of, cred_of, with_cred, after_submit, after_up, after_down, after_work, after_forget, after_revoke, after_drop, after_raw, after_grant, after_round, after_openings, setting_now, last_link, after_rejoin}

-- a drill after a line, but for the line `drain`
abbrev pub after_line : Setting → Line → Drill → Drill
after_line s (lines.Cred client cred) d = with_cred client cred d
after_line s (lines.Call client form prog vers proc args) d =
    after_submit (setting_now s d) (last_link client d) (record { prog = prog; vers = vers; proc = proc; cred = cred_of client d; args = args }) form d
after_line s (lines.Up client most) d = after_up (setting_now s d) (last_link client d) most d
after_line s (lines.Down client most) d = after_down (setting_now s d) (last_link client d) most d
after_line s (lines.Work client) d = after_work (setting_now s d) (last_link client d) d
after_line s (lines.Tick seconds) d = record d { seconds = d.seconds + seconds }
after_line s (lines.Forget client number) d = after_forget (setting_now s d) (last_link client d) number d
after_line s (lines.Revoke client number) d = after_revoke (setting_now s d) (last_link client d) number d
after_line s (lines.Drop client) d = after_drop (last_link client d) d
after_line s (lines.Rejoin client) d = after_rejoin s client d
after_line s (lines.Raw client side bytes) d = after_raw (last_link client d) side bytes (is_dropped (last_link client d) d.marks) d
after_line s (lines.Grant client credits) d = after_grant (last_link client d) credits d
after_line s lines.Drain d = d

-- Nothing moves on a link: nothing waits in its pipes, and no call waits to be executed.
abbrev pub is_empty : List ℕ → Bool
is_empty [] = true
is_empty (b ∷ bytes) = false

unfoldable pub is_still : Setting → Drill → ℕ → Bool
is_still s d link = is_empty (pipes_of link d).up && (is_empty (pipes_of link d).down && is_none (waiting_call s link d.marks))

-- A drain is this many rounds, before each of which something moves on a link, until nothing moves on any.
abbrev pub Drains : Setting → List ℕ → ℕ → Drill → Drill → Type 0
Drains s links zero old new = (list_all (is_still s old) links ≡ true) × (new ≡ old)
Drains s links (suc rounds) old new = (list_all (is_still s old) links ≡ false) × Drains s links rounds (after_round s links old) new

-- what a line makes of a drill with this many clients
abbrev pub Makes : Setting → ℕ → Line → Drill → Drill → Type 0
Makes s clients lines.Drain old new = (rounds : ℕ) × Drains (setting_now s old) old.last_links rounds old new
Makes s clients line old new = new ≡ after_line s line old

abbrev pub MakeAll : Setting → ℕ → List Line → Drill → Drill → Type 0
MakeAll s clients [] old new = new ≡ old
MakeAll s clients (line ∷ others) old new = (mid : Drill) × Makes s clients line old mid × MakeAll s clients others mid new

-- what the ends of the first link of each client are opened with, by the first line of the script
abbrev pub client_terms : Opening → ℕ → SideTerms
client_terms opening link = record { units = opening.client_units; number = if opening.numbered then link else 0; invalidates = opening.invalidates }

abbrev pub parameters_of : Opening → ℕ → LinkParameters
parameters_of opening link = record {
  first_xid = 1;
  first_stag = 1;
  wished = opening.credits;
  granted = opening.credits;
  low = opening.credits;
  receives = opening.credits;
  client = client_terms opening link;
  server = terms_with opening.server_units opening.invalidates;
  resumed = [];
  agreed = None;
}

abbrev pub setting_of : SerialServer → Opening → Setting
setting_of server opening = record { server = server; opened = parameters_of opening }

-- the drill whose links are open, and that made nothing else yet
unfoldable pub opened_drill : SerialServer → Opening → Drill
opened_drill server opening = after_openings (setting_of server opening) (links_of opening.clients) (start (setting_of server opening) opening.clients)

-- the run's marks are those that the script makes, and no others
pub record Follows (server : SerialServer) (script : ScriptLines) (run : List Mark) : Type 0 where
  pub last : Drill
  pub makes : MakeAll (setting_of server script.opening) script.opening.clients script.lines (opened_drill server script.opening) last
  pub marks_are : run ≡ last.marks

-- A `raw` line of the script puts bytes into the pipes of a link: after the lines before it, the link is the last one of the client that it names, and
-- isn't dropped.
pub record HasRawLine (server : SerialServer) (script : ScriptLines) (link : ℕ) : Type 0 where
  pub before : List Line
  pub after : List Line
  pub client : ℕ
  pub side : Side
  pub bytes : List ℕ
  pub is_cut : script.lines ≡ before ++ lines.Raw client side bytes ∷ after
  pub old : Drill
  pub made : MakeAll (setting_of server script.opening) script.opening.clients before (opened_drill server script.opening) old
  pub is_last : last_link client old ≡ link
  pub stands : is_dropped link old.marks ≡ false

-- what the links of the run were opened with
abbrev pub last_setting : {server : SerialServer} {script : ScriptLines} {run : List Mark} → Follows server script run → Setting
last_setting {server = server} {script = script} follows = setting_now (setting_of server script.opening) follows.last
