-- The text of a capture, as it is written: numbers in decimal, bytes in hexadecimal of lower case, `-` for none.
use Rattle.std.specs.Prelude.{ℕ, Bool, ◌==◌, ◌&&◌, if◌then◌else◌, List, [], ◌∷◌, ◌++◌, codes, Option, None, Some}
use Rattle.std.specs.Fmt.{decimal}
use Rattle.std.specs.List.{flat_map}
use Rattle.hex.specs.Hex.{encode_lower}
use Rattle.nr_rpc.specs.declared.cred.Cred.{Cred}
use Rattle.nr_rpc.specs.declared.cred.Cred.TheVariants as creds
use Rattle.nr_wire.specs.declared.hello.Side.{Side}
use Rattle.nr_wire.specs.declared.hello.Side.TheVariants.{Initiator, Responder}
use Rattle.nr_reduce.specs.declared.call.Call.{Call}
use Rattle.nr_reduce.specs.declared.call.Form.{Form}
use Rattle.nr_reduce.specs.declared.call.Form.TheVariants as forms
use Rattle.nr_reduce.specs.declared.call.Offer.{Offer}
use Rattle.nr_reduce.specs.declared.call.Outcome.{Outcome}
use Rattle.nr_reduce.specs.declared.call.Outcome.TheVariants as outcomes
use Rattle.nr_texts.specs.declared.opening.Opening.{Opening}
use Rattle.nr_texts.specs.Limits.{default_capacity, default_units}
use Rattle.nr_capture.specs.declared.capture.CapturedMark.{CapturedMark}
use Rattle.nr_capture.specs.declared.capture.CapturedMark.TheVariants as marks
use Rattle.nr_capture.specs.Capture.{CaptureLines}

abbrev pub two_numbers_text : ℕ → ℕ → List ℕ
two_numbers_text first second = decimal first ++ codes " " ++ decimal second

abbrev pub bytes_text : List ℕ → List ℕ
bytes_text [] = codes "-"
bytes_text (b ∷ bytes) = encode_lower (b ∷ bytes)

-- ===== forms

abbrev pub length_after : ℕ → List ℕ
length_after n = codes "," ++ decimal n

abbrev pub lengths_after : List ℕ → List ℕ
lengths_after lengths = flat_map length_after lengths

abbrev pub lengths_text : List ℕ → List ℕ
lengths_text [] = []
lengths_text (n ∷ lengths) = decimal n ++ lengths_after lengths

-- a part of an offer that is given, and a semicolon before it unless it is the first
abbrev pub part_text : List ℕ → List ℕ → Option (List ℕ) → List ℕ
part_text before name None = []
part_text before name (Some lengths) = before ++ name ++ lengths_text lengths

abbrev pub semicolon_after : Option (List ℕ) → List ℕ
semicolon_after None = []
semicolon_after (Some lengths) = codes ";"

abbrev pub semicolon_if : List ℕ → List ℕ → List ℕ
semicolon_if [] second = second
semicolon_if (c ∷ first) second = codes ";"

unfoldable pub read_text : Offer → List ℕ
read_text offer = part_text [] (codes "read@" ++ decimal offer.read_at ++ codes "=") offer.read

unfoldable pub offer_text : Offer → List ℕ
offer_text offer =
    read_text offer ++ part_text (semicolon_after offer.read) (codes "write=") offer.write
    ++ part_text (semicolon_if (semicolon_after offer.read) (semicolon_after offer.write)) (codes "reply=") offer.reply

abbrev pub form_text : Form → List ℕ
form_text forms.Auto = codes "auto"
form_text forms.Inline = codes "inline"
form_text forms.Chunk = codes "chunk"
form_text forms.Long = codes "long"
form_text (forms.Given offer) = codes "given:" ++ offer_text offer

-- ===== marks

-- Credentials other than AUTH_NONE and AUTH_SYS don't come in a drill.
abbrev pub cred_text : Cred → List ℕ
cred_text creds.None = codes "none"
cred_text (creds.Sys stamp machine uid gid gids) = decimal uid ++ codes "." ++ decimal gid
cred_text (creds.Other flavor) = codes "none"

unfoldable pub call_text : Call → List ℕ
call_text call = decimal call.prog ++ codes "." ++ decimal call.vers ++ codes " " ++ decimal call.proc ++ codes " " ++ cred_text call.cred ++ codes " " ++ bytes_text call.args

abbrev pub side_text : Side → List ℕ
side_text Initiator = codes " client "
side_text Responder = codes " server "

abbrev pub outcome_text : Outcome → List ℕ
outcome_text (outcomes.Reply payload) = codes " reply " ++ bytes_text payload
outcome_text outcomes.Chunk = codes " chunk"
outcome_text (outcomes.Version low high) = codes " version " ++ two_numbers_text low high

-- a call that was submitted
abbrev pub submit_text : (link xid : ℕ) → Form → Call → List ℕ
submit_text link xid form call = codes "submit " ++ two_numbers_text link xid ++ codes " " ++ form_text form ++ codes " " ++ call_text call

unfoldable pub mark_text : CapturedMark → List ℕ
mark_text (marks.Submit link xid form call) = submit_text link xid form call
mark_text (marks.Out link side bytes) = codes "out " ++ decimal link ++ side_text side ++ bytes_text bytes
mark_text (marks.In link side bytes) = codes "in " ++ decimal link ++ side_text side ++ bytes_text bytes
mark_text (marks.Exec link xid seconds) = codes "exec " ++ two_numbers_text link xid ++ codes " " ++ decimal seconds
mark_text (marks.Done link xid outcome) = codes "done " ++ two_numbers_text link xid ++ outcome_text outcome
mark_text (marks.Forget link xid) = codes "forget " ++ two_numbers_text link xid
mark_text (marks.Revoke link xid) = codes "revoke " ++ two_numbers_text link xid
mark_text (marks.Drop link) = codes "drop " ++ decimal link
mark_text (marks.Grant link credits) = codes "grant " ++ two_numbers_text link credits

-- ===== a capture

-- what is the default is left out
abbrev pub capacity_text : ℕ → List ℕ
capacity_text capacity = if capacity == default_capacity then [] else codes " capacity " ++ decimal capacity

abbrev pub sizes_text : ℕ → ℕ → List ℕ
sizes_text client server = if client == default_units && server == default_units then [] else codes " sizes " ++ two_numbers_text client server

abbrev pub numbered_text : Bool → List ℕ
numbered_text numbered = if numbered then codes " numbered" else []

abbrev pub invalidate_text : Bool → List ℕ
invalidate_text invalidates = if invalidates then codes " invalidate" else []

unfoldable pub opening_text : Opening → List ℕ
opening_text opening =
    codes "clients " ++ decimal opening.clients ++ codes " credits " ++ decimal opening.credits ++ capacity_text opening.capacity
    ++ sizes_text opening.client_units opening.server_units ++ numbered_text opening.numbered ++ invalidate_text opening.invalidates

abbrev pub line_text : CapturedMark → List ℕ
line_text mark = mark_text mark ++ codes "\n"

unfoldable pub capture_text : CaptureLines → List ℕ
capture_text capture = opening_text capture.opening ++ codes "\n" ++ flat_map line_text capture.marks
