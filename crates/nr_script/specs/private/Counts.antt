-- How many call lines of each client were read.
use Rattle.std.specs.Prelude.{◌≡◌, ℕ, ◌+◌, ◌-◌, ◌<◌, ◌&&◌, nat_le, if◌then◌else◌, List, length, slice_index, slice_set}
use Rattle.nr_script.specs.declared.script.Line.{Line}
use Rattle.nr_script.specs.declared.script.Line.TheVariants as lines
use Rattle.nr_texts.specs.Limits.{clients_max}
use Rattle.nr_script.specs.Script.{calls_of}

-- the client of a call line, and 0 of any other line
abbrev pub caller : Line → ℕ
caller (lines.Call client form prog vers proc args) = client
caller line = 0

-- the counts of the clients, in order
pub record CountsAre (counts : List ℕ) (before : List Line) : Type 0 where
  pub all : length counts ≡ clients_max
  pub each : (i : ℕ) → i < clients_max → slice_index counts i ≡ calls_of (i + 1) before

-- the counts after a call of this client
abbrev pub counted : List ℕ → ℕ → List ℕ
counted counts client =
    if nat_le 1 client && nat_le client clients_max then slice_set counts (client - 1) (slice_index counts (client - 1) + 1) else counts
