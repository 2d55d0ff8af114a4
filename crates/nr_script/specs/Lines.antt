-- The lines of a script after its first, word by word.
use Rattle.std.specs.Prelude.{ℕ, if◌then◌else◌, List, [], ◌∷◌, codes, Option, None, Some}
use Rattle.std.specs.Str.{bytes_eq}
use Rattle.nr_rpc.specs.declared.cred.Cred.{Cred}
use Rattle.nr_rpc.specs.declared.cred.Cred.TheVariants as creds
use Rattle.nr_wire.specs.declared.hello.Side.{Side}
use Rattle.nr_wire.specs.declared.hello.Side.TheVariants.{Initiator, Responder}
use Rattle.nr_script.specs.declared.script.Line.{Line}
use Rattle.nr_script.specs.declared.script.Line.TheVariants as lines
use Rattle.nr_reduce.specs.declared.call.Form.{Form}
use Rattle.nr_texts.specs.declared.program.Program.{Program}
use Rattle.nr_texts.specs.Words.{◌>>=◌, number_in, bytes_in, arguments_in, one_number, two_numbers}
use Rattle.nr_texts.specs.Forms.{form_in, program_in}
use Rattle.nr_texts.specs.Openings.{sys_cred}

-- ===== by what follows their first word

abbrev pub sys_line : ℕ → List (List ℕ) → Option Line
sys_line client words = two_numbers words >>= λ p. Some (lines.Cred client (sys_cred p.0 p.1))

abbrev pub cred_line_of : ℕ → List (List ℕ) → Option Line
cred_line_of client (none ∷ []) = if bytes_eq none (codes "none") then Some (lines.Cred client creds.None) else None
cred_line_of client words = sys_line client words

abbrev pub cred_line : List (List ℕ) → Option Line
cred_line [] = None
cred_line (client ∷ others) = number_in client >>= λ c. cred_line_of c others

abbrev pub target_in : List ℕ → List ℕ → List ℕ → Option (ℕ × Program × ℕ)
target_in client program proc = number_in client >>= λ c. program_in program >>= λ p. number_in proc >>= λ n. Some (c, p, n)

abbrev pub call_with : ℕ × Program × ℕ → Option Form → List ℕ → Option Line
call_with target form args = form >>= λ f. Some (lines.Call target.0 f target.1.prog target.1.vers target.2 args)

abbrev pub call_line : List (List ℕ) → Option Line
call_line (client ∷ form ∷ program ∷ proc ∷ args ∷ []) = target_in client program proc >>= λ t. arguments_in args >>= λ bytes. call_with t (form_in form) bytes
call_line words = None

-- a client alone, or a client and a number
abbrev pub client_line : (ℕ → Line) → List (List ℕ) → Option Line
client_line line words = one_number words >>= λ c. Some (line c)

abbrev pub number_line : (ℕ → ℕ → Line) → List (List ℕ) → Option Line
number_line line words = two_numbers words >>= λ p. Some (line p.0 p.1)

-- up is the stream that the client writes, down that of the server
abbrev pub side_in : List ℕ → Option Side
side_in word = if bytes_eq word (codes "up") then Some Initiator else (if bytes_eq word (codes "down") then Some Responder else None)

abbrev pub raw_line : List (List ℕ) → Option Line
raw_line (client ∷ way ∷ hex ∷ []) = number_in client >>= λ c. side_in way >>= λ side. bytes_in hex >>= λ bytes. Some (lines.Raw c side bytes)
raw_line words = None

abbrev pub drain_line : List (List ℕ) → Option Line
drain_line [] = Some lines.Drain
drain_line (word ∷ others) = None

abbrev pub later_line : List ℕ → List (List ℕ) → Option Line
later_line name others =
    if bytes_eq name (codes "forget") then number_line lines.Forget others
    else (if bytes_eq name (codes "revoke") then number_line lines.Revoke others
    else (if bytes_eq name (codes "drop") then client_line lines.Drop others
    else (if bytes_eq name (codes "rejoin") then client_line lines.Rejoin others
    else (if bytes_eq name (codes "grant") then number_line lines.Grant others
    else (if bytes_eq name (codes "drain") then drain_line others
    else None)))))

-- a line of numbers
abbrev pub plain_line : List ℕ → List (List ℕ) → Option Line
plain_line name others =
    if bytes_eq name (codes "up") then number_line lines.Up others
    else (if bytes_eq name (codes "down") then number_line lines.Down others
    else (if bytes_eq name (codes "work") then client_line lines.Work others
    else (if bytes_eq name (codes "tick") then client_line lines.Tick others
    else later_line name others)))

abbrev pub line_named : List ℕ → List (List ℕ) → Option Line
line_named name others =
    if bytes_eq name (codes "cred") then cred_line others
    else (if bytes_eq name (codes "call") then call_line others
    else (if bytes_eq name (codes "raw") then raw_line others
    else plain_line name others))

unfoldable pub line_in : List (List ℕ) → Option Line
line_in [] = None
line_in (name ∷ others) = line_named name others
