-- The text of a script: what it says, or its first line that is outside the grammar. Each line ends with a newline; words are parted by
-- one space; empty lines and lines that begin with `#` are skipped; all is ASCII.
use Rattle.std.specs.Prelude.{◌≡◌, ℕ, ◌+◌, ◌^◌, ◌<◌, ◌≤◌, Bool, true, false, ◌==◌, ◌&&◌, nat_lt, nat_le, if◌then◌else◌, List, [], ◌∷◌, ◌++◌, length, count_by, sum_by, Option, None, Some, Result, Ok, Err}
use Rattle.std.specs.List.{list_all, AllByRecursion}
use Rattle.nr_xdr.specs.Item.{IsBytes}
use Rattle.nr_rpc.specs.declared.cred.Cred.{Cred}
use Rattle.nr_rpc.specs.declared.cred.Cred.TheVariants as creds
use Rattle.nr_rpc.specs.Credential.{CanWriteCred, CredFits}
use Rattle.nr_texts.specs.declared.opening.Opening.{Opening}
use Rattle.nr_script.specs.declared.script.Line.{Line}
use Rattle.nr_script.specs.declared.script.Line.TheVariants as lines
use Rattle.nr_script.specs.declared.script.ScriptFault.{ScriptFault}
use Rattle.nr_script.specs.declared.script.ScriptFault.TheVariants as faults
use Rattle.nr_wire.specs.Constants.{UNITS_MAX}
use Rattle.nr_reduce.specs.Limits.{credits_max}
use Rattle.nr_texts.specs.Limits.{clients_max, capacity_max, number_max}
use Rattle.nr_script.specs.Limits.{lines_max}
use Rattle.nr_texts.specs.Words.{parts, newline, space}
use Rattle.nr_texts.specs.Openings.{opening_in}
use Rattle.nr_reduce.specs.Plans.{HasWordPosition}
use Rattle.nr_script.specs.Lines.{line_in}

-- a script: its first line, and the others in order
pub record ScriptLines : Type 0 where
  pub opening : Opening
  pub lines : List Line

-- ===== which lines may follow others

-- the call lines of a client
abbrev pub is_call_of : ℕ → Line → Bool
is_call_of client (lines.Call c form prog vers proc args) = c == client
is_call_of client line = false

unfoldable pub calls_of : ℕ → List Line → ℕ
calls_of client before = count_by (is_call_of client) before

-- the seconds that the clock shows
abbrev pub seconds_in : Line → ℕ
seconds_in (lines.Tick seconds) = seconds
seconds_in line = 0

unfoldable pub seconds_after : List Line → ℕ
seconds_after before = sum_by seconds_in before

-- clients and call lines are numbered from 1
abbrev pub is_client : Opening → ℕ → Bool
is_client opening client = nat_le 1 client && nat_le client opening.clients

abbrev pub is_call_line : ℕ → ℕ → List Line → Bool
is_call_line client number before = nat_le 1 number && nat_le number (calls_of client before)

-- a server grants at least one credit (RFC 8166 section 3.3), and at most those that it was opened with
abbrev pub credits_in_range : Opening → ℕ → Bool
credits_in_range opening credits = nat_le 1 credits && nat_le credits opening.credits

-- A line names a client of the script, and a call line that came before it; the clock doesn't pass its end; credits are granted within
-- those of the first line; only a client with a number begins another link.
abbrev pub may_follow : Opening → List Line → Line → Bool
may_follow opening before (lines.Cred client cred) = is_client opening client
may_follow opening before (lines.Call client form prog vers proc args) = is_client opening client
may_follow opening before (lines.Up client most) = is_client opening client
may_follow opening before (lines.Down client most) = is_client opening client
may_follow opening before (lines.Work client) = is_client opening client
may_follow opening before (lines.Tick seconds) = nat_le (seconds_after before + seconds) number_max
may_follow opening before (lines.Forget client number) = is_client opening client && is_call_line client number before
may_follow opening before (lines.Revoke client number) = is_client opening client && is_call_line client number before
may_follow opening before (lines.Drop client) = is_client opening client
may_follow opening before (lines.Rejoin client) = is_client opening client && opening.numbered
may_follow opening before (lines.Raw client side bytes) = is_client opening client
may_follow opening before (lines.Grant client credits) = is_client opening client && credits_in_range opening credits
may_follow opening before lines.Drain = true

-- ===== a text

abbrev pub hash : ℕ
hash = 35

abbrev pub is_ascii : List ℕ → Bool
is_ascii text = list_all (λ c. nat_lt c 128) text

abbrev pub is_skipped : List ℕ → Bool
is_skipped [] = true
is_skipped (c ∷ others) = c == hash

-- what is read so far, with one line more: at first nothing, then the first line, then the others
abbrev pub opened_by : Option Opening → Option ScriptLines
opened_by None = None
opened_by (Some opening) = Some (record { opening = opening; lines = [] })

abbrev pub followed_by : ScriptLines → Option Line → Option ScriptLines
followed_by script None = None
followed_by script (Some line) =
    if may_follow script.opening script.lines line then Some (record script { lines = script.lines ++ line ∷ [] }) else None

abbrev pub with_words : Option ScriptLines → List (List ℕ) → Option ScriptLines
with_words None words = opened_by (opening_in words)
with_words (Some script) words = followed_by script (line_in words)

abbrev pub if_read : Option ScriptLines → Option (Option ScriptLines)
if_read None = None
if_read (Some script) = Some (Some script)

unfoldable pub with_text : Option ScriptLines → List ℕ → Option (Option ScriptLines)
with_text read text =
    if is_ascii text then (if is_skipped text then Some read else if_read (with_words read (parts space text))) else None

-- The last part of a text follows its last newline. It is empty in a script, and the first line was read.
abbrev pub script_at_end : ℕ → Option ScriptLines → List ℕ → Result ScriptLines ℕ
script_at_end number read (c ∷ others) = Err number
script_at_end number None [] = Err number
script_at_end number (Some script) [] = Ok script

abbrev pub read_on : {A : Type 0} → ℕ → Option A → (A → Result ScriptLines ℕ) → Result ScriptLines ℕ
read_on number None rest = Err number
read_on number (Some read) rest = rest read

-- what the parts of a text say, from the line of this number on
abbrev pub script_from : ℕ → Option ScriptLines → List (List ℕ) → Result ScriptLines ℕ
script_from number read [] = Err number
script_from number read (text ∷ []) = script_at_end number read text
script_from number read (text ∷ next ∷ others) = read_on number (with_text read text) (λ more. script_from (number + 1) more (next ∷ others))

-- what a text says, or the number of its first invalid line, from 1
unfoldable pub script_of : List ℕ → Result ScriptLines ℕ
script_of text = script_from 1 None (parts newline text)

-- The answer of reading is what the text says, or its first invalid line. Memory may run out.
abbrev pub GivesScript : Result ScriptLines ScriptFault → Result ScriptLines ℕ → Type 0
GivesScript (Ok script) read = read ≡ Ok script
GivesScript (Err (faults.BadLine line)) read = read ≡ Err line
GivesScript (Err faults.Memory) read = Unit {0}

-- ===== scripts, however they are made

-- each line may follow those before it
abbrev pub FollowOn : Opening → List Line → List Line → Type 0
FollowOn opening before [] = Unit {0}
FollowOn opening before (line ∷ others) = (may_follow opening before line ≡ true) × FollowOn opening (before ++ line ∷ []) others

-- a credential can be encoded (RFC 5531 section 8.2)
abbrev pub HasWritableCred : Line → Type 0
HasWritableCred (lines.Cred client cred) = CanWriteCred cred
HasWritableCred line = Unit {0}

-- What a line writes down as bytes are bytes, and its numbers are words (RFC 4506 sections 4.2 and 4.10).
abbrev pub IsTypedCred : Cred → Type 0
IsTypedCred creds.None = Unit {0}
IsTypedCred (creds.Sys stamp machine uid gid gids) = IsBytes machine × CredFits (creds.Sys stamp machine uid gid gids)
IsTypedCred (creds.Other flavor) = flavor < 2 ^ 32

abbrev pub IsTypedLine : Line → Type 0
IsTypedLine (lines.Cred client cred) = IsTypedCred cred
IsTypedLine (lines.Call client form prog vers proc args) = HasWordPosition form × (prog < 2 ^ 32) × (vers < 2 ^ 32) × (proc < 2 ^ 32) × IsBytes args
IsTypedLine (lines.Raw client side bytes) = IsBytes bytes
IsTypedLine line = Unit {0}

-- The numbers of the first line are in range, there are at most 2^24 other lines, each may follow those before it and is of its type, and
-- credentials can be encoded.
pub record IsScript (script : ScriptLines) : Type 0 where
  pub some_clients : 1 ≤ script.opening.clients
  pub few_clients : script.opening.clients ≤ clients_max
  pub some_credits : 1 ≤ script.opening.credits
  pub few_credits : script.opening.credits ≤ credits_max
  pub capacity : script.opening.capacity ≤ capacity_max
  pub some_client_units : 1 ≤ script.opening.client_units
  pub few_client_units : script.opening.client_units ≤ UNITS_MAX
  pub some_server_units : 1 ≤ script.opening.server_units
  pub few_server_units : script.opening.server_units ≤ UNITS_MAX
  pub few_lines : length script.lines ≤ lines_max
  pub follow_on : FollowOn script.opening [] script.lines
  pub creds : AllByRecursion HasWritableCred script.lines
  pub typed : AllByRecursion IsTypedLine script.lines
