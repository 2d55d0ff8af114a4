-- The marks of a capture, word by word.
use Rattle.std.specs.Prelude.{ℕ, if◌then◌else◌, List, [], ◌∷◌, codes, Option, None, Some}
use Rattle.std.specs.Str.{bytes_eq}
use Rattle.nr_rpc.specs.declared.cred.Cred.{Cred}
use Rattle.nr_rpc.specs.declared.cred.Cred.TheVariants as creds
use Rattle.nr_wire.specs.declared.hello.Side.{Side}
use Rattle.nr_wire.specs.declared.hello.Side.TheVariants.{Initiator, Responder}
use Rattle.nr_reduce.specs.declared.call.Call.{Call}
use Rattle.nr_reduce.specs.declared.call.Form.{Form}
use Rattle.nr_reduce.specs.declared.call.Outcome.{Outcome}
use Rattle.nr_reduce.specs.declared.call.Outcome.TheVariants as outcomes
use Rattle.nr_texts.specs.declared.program.Program.{Program}
use Rattle.nr_texts.specs.Words.{◌>>=◌, parts, number_in, bytes_in, arguments_in, one_number, two_numbers}
use Rattle.nr_texts.specs.Forms.{dot, form_in, numbered_program}
use Rattle.nr_texts.specs.Openings.{sys_cred}
use Rattle.nr_capture.specs.declared.capture.CapturedMark.{CapturedMark}
use Rattle.nr_capture.specs.declared.capture.CapturedMark.TheVariants as marks

-- ===== submit C XID FORM P.V PROC CRED HEX

-- AUTH_NONE, or AUTH_SYS of a drill with a user and a group
abbrev pub cred_in : List ℕ → Option Cred
cred_in word = if bytes_eq word (codes "none") then Some creds.None else (two_numbers (parts dot word) >>= λ p. Some (sys_cred p.0 p.1))

-- the program and the procedure of a call
abbrev pub called_in : List ℕ → List ℕ → Option (Program × ℕ)
called_in program proc = numbered_program (parts dot program) >>= λ p. number_in proc >>= λ n. Some (p, n)

abbrev pub call_with : Program × ℕ → Option Cred → Option (List ℕ) → Option Call
call_with called cred args = cred >>= λ c. args >>= λ bytes. Some (record { prog = called.0.prog; vers = called.0.vers; proc = called.1; cred = c; args = bytes })

abbrev pub call_in : List ℕ → List ℕ → List ℕ → List ℕ → Option Call
call_in program proc cred args = called_in program proc >>= λ called. call_with called (cred_in cred) (arguments_in args)

abbrev pub submit_with : ℕ × ℕ → Option Form → Option Call → Option CapturedMark
submit_with at form call = form >>= λ f. call >>= λ c. Some (marks.Submit at.0 at.1 f c)

abbrev pub submit_in : List (List ℕ) → Option CapturedMark
submit_in (link ∷ xid ∷ form ∷ program ∷ proc ∷ cred ∷ args ∷ []) =
    two_numbers (link ∷ xid ∷ []) >>= λ at. submit_with at (form_in form) (call_in program proc cred args)
submit_in words = None

-- ===== out C SIDE HEX, in C SIDE HEX

abbrev pub side_in : List ℕ → Option Side
side_in word = if bytes_eq word (codes "client") then Some Initiator else (if bytes_eq word (codes "server") then Some Responder else None)

-- the link and the side
abbrev pub end_in : List ℕ → List ℕ → Option (ℕ × Side)
end_in link side = number_in link >>= λ l. side_in side >>= λ s. Some (l, s)

-- the link, the side and the bytes of a piece
abbrev pub bytes_with : ℕ × Side → Option (List ℕ) → Option ((ℕ × Side) × List ℕ)
bytes_with at bytes = bytes >>= λ b. Some (at, b)

abbrev pub piece_in : List (List ℕ) → Option ((ℕ × Side) × List ℕ)
piece_in (link ∷ side ∷ hex ∷ []) = end_in link side >>= λ at. bytes_with at (bytes_in hex)
piece_in words = None

abbrev pub piece_as : (ℕ → Side → List ℕ → CapturedMark) → (ℕ × Side) × List ℕ → CapturedMark
piece_as mark piece = mark piece.0.0 piece.0.1 piece.1

abbrev pub piece_mark : (ℕ → Side → List ℕ → CapturedMark) → List (List ℕ) → Option CapturedMark
piece_mark mark words = piece_in words >>= λ p. Some (piece_as mark p)

-- ===== done C XID reply HEX, done C XID chunk, done C XID version LOW HIGH

abbrev pub reply_with : Option (List ℕ) → Option Outcome
reply_with bytes = bytes >>= λ b. Some (outcomes.Reply b)

abbrev pub version_in : List ℕ → List ℕ → Option Outcome
version_in low high = two_numbers (low ∷ high ∷ []) >>= λ p. Some (outcomes.Version p.0 p.1)

abbrev pub outcome_in : List (List ℕ) → Option Outcome
outcome_in (kind ∷ []) = if bytes_eq kind (codes "chunk") then Some outcomes.Chunk else None
outcome_in (kind ∷ hex ∷ []) = if bytes_eq kind (codes "reply") then reply_with (arguments_in hex) else None
outcome_in (kind ∷ low ∷ high ∷ []) = if bytes_eq kind (codes "version") then version_in low high else None
outcome_in words = None

abbrev pub done_with : ℕ × ℕ → Option Outcome → Option CapturedMark
done_with at outcome = outcome >>= λ o. Some (marks.Done at.0 at.1 o)

abbrev pub done_in : List (List ℕ) → Option CapturedMark
done_in (link ∷ xid ∷ others) = two_numbers (link ∷ xid ∷ []) >>= λ at. done_with at (outcome_in others)
done_in words = None

-- ===== lines of numbers

abbrev pub exec_in : List (List ℕ) → Option CapturedMark
exec_in (link ∷ xid ∷ seconds ∷ []) = two_numbers (link ∷ xid ∷ []) >>= λ at. number_in seconds >>= λ s. Some (marks.Exec at.0 at.1 s)
exec_in words = None

abbrev pub call_mark_in : (ℕ → ℕ → CapturedMark) → List (List ℕ) → Option CapturedMark
call_mark_in mark words = two_numbers words >>= λ at. Some (mark at.0 at.1)

abbrev pub link_mark_in : (ℕ → CapturedMark) → List (List ℕ) → Option CapturedMark
link_mark_in mark words = one_number words >>= λ link. Some (mark link)

-- ===== a line

abbrev pub plain_mark : List ℕ → List (List ℕ) → Option CapturedMark
plain_mark name others =
    if bytes_eq name (codes "exec") then exec_in others
    else (if bytes_eq name (codes "forget") then call_mark_in marks.Forget others
    else (if bytes_eq name (codes "revoke") then call_mark_in marks.Revoke others
    else (if bytes_eq name (codes "drop") then link_mark_in marks.Drop others
    else (if bytes_eq name (codes "grant") then call_mark_in marks.Grant others
    else None))))

abbrev pub mark_named : List ℕ → List (List ℕ) → Option CapturedMark
mark_named name others =
    if bytes_eq name (codes "submit") then submit_in others
    else (if bytes_eq name (codes "out") then piece_mark marks.Out others
    else (if bytes_eq name (codes "in") then piece_mark marks.In others
    else (if bytes_eq name (codes "done") then done_in others
    else plain_mark name others)))

unfoldable pub mark_in : List (List ℕ) → Option CapturedMark
mark_in [] = None
mark_in (name ∷ others) = mark_named name others
