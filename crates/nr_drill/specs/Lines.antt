-- What lines of a script do on the links of a client.
use Rattle.std.specs.Prelude.{◌≡◌, ℕ, ◌≤◌, Bool, true, false, ◌==◌, List, ◌∷◌, ◌++◌}
use Rattle.std.specs.List.{list_any}
use Rattle.nr_script.specs.declared.script.Line.{Line}
use Rattle.nr_script.specs.declared.script.Line.TheVariants as lines
use Rattle.nr_script.specs.Script.{ScriptLines}

abbrev pub is_raw_of : (client : ℕ) → Line → Bool
is_raw_of client (lines.Raw c side bytes) = c == client
is_raw_of client line = false

-- none of these lines is a `raw` line of this client
abbrev pub HasNoRaw : List Line → (client : ℕ) → Type 0
HasNoRaw all client = list_any (is_raw_of client) all ≡ false

-- a line that does something on a link of a client: a drain does it on the last link of each
abbrev pub acts_on : (client : ℕ) → Line → Bool
acts_on client (lines.Cred c cred) = false
acts_on client (lines.Call c form prog vers proc args) = c == client
acts_on client (lines.Up c most) = c == client
acts_on client (lines.Down c most) = c == client
acts_on client (lines.Work c) = c == client
acts_on client (lines.Tick seconds) = false
acts_on client (lines.Forget c number) = c == client
acts_on client (lines.Revoke c number) = c == client
acts_on client (lines.Drop c) = c == client
acts_on client (lines.Rejoin c) = c == client
acts_on client (lines.Raw c side bytes) = c == client
acts_on client (lines.Grant c credits) = c == client
acts_on client lines.Drain = true

-- a drain that no later line of the client follows
pub record EndsWithDrain (script : ScriptLines) (client : ℕ) : Type 0 where
  pub before : List Line
  pub after : List Line
  pub is_cut : script.lines ≡ before ++ lines.Drain ∷ after
  pub none_after : list_any (acts_on client) after ≡ false

abbrev pub IsClient : ScriptLines → ℕ → Type 0
IsClient script client = (1 ≤ client) × (client ≤ script.opening.clients)

-- the clients have no numbers, so each has one link, which has its number
abbrev pub IsUnnumbered : ScriptLines → Type 0
IsUnnumbered script = script.opening.numbered ≡ false
