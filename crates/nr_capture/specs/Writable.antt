-- Captures that their text says completely: what is written of such a capture is read back as it.
use Rattle.std.specs.Prelude.{◌≡◌, ℕ, ◌<◌, true, List, length, Ok}
use Rattle.std.specs.List.{AllByRecursion}
use Rattle.nr_xdr.specs.Item.{IsBytes}
use Rattle.nr_rpc.specs.declared.cred.Cred.{Cred}
use Rattle.nr_rpc.specs.declared.cred.Cred.TheVariants as creds
use Rattle.nr_reduce.specs.declared.call.Call.{Call}
use Rattle.nr_reduce.specs.declared.call.Outcome.{Outcome}
use Rattle.nr_reduce.specs.declared.call.Outcome.TheVariants as outcomes
use Rattle.nr_texts.specs.Words.{IsWord}
use Rattle.nr_texts.specs.Forms.{IsWritableForm}
use Rattle.nr_texts.specs.Openings.{IsOpening, sys_cred}
use Rattle.nr_capture.specs.declared.capture.CapturedMark.{CapturedMark}
use Rattle.nr_capture.specs.declared.capture.CapturedMark.TheVariants as marks
use Rattle.nr_capture.specs.Capture.{CaptureLines, capture_of, is_link, link_of}
use Rattle.nr_capture.specs.Texts.{capture_text}

-- AUTH_NONE, or AUTH_SYS of a user of a drill
abbrev pub IsWritableCred : Cred → Type 0
IsWritableCred creds.None = Unit {0}
IsWritableCred (creds.Sys stamp machine uid gid gids) = (creds.Sys stamp machine uid gid gids ≡ sys_cred uid gid) × IsWord uid × IsWord gid
IsWritableCred (creds.Other flavor) = ⊥

pub record IsWritableCall (call : Call) : Type 0 where
  pub prog : IsWord call.prog
  pub vers : IsWord call.vers
  pub proc : IsWord call.proc
  pub cred : IsWritableCred call.cred
  pub args : IsBytes call.args

abbrev pub IsWritableOutcome : Outcome → Type 0
IsWritableOutcome (outcomes.Reply payload) = IsBytes payload
IsWritableOutcome outcomes.Chunk = Unit {0}
IsWritableOutcome (outcomes.Version low high) = IsWord low × IsWord high

-- a piece has one byte or more
abbrev pub IsPiece : List ℕ → Type 0
IsPiece bytes = (0 < length bytes) × IsBytes bytes

abbrev pub IsWritableMark : CapturedMark → Type 0
IsWritableMark (marks.Submit link xid form call) = IsWord xid × IsWritableForm form × IsWritableCall call
IsWritableMark (marks.Out link side bytes) = IsPiece bytes
IsWritableMark (marks.In link side bytes) = IsPiece bytes
IsWritableMark (marks.Exec link xid seconds) = IsWord xid × IsWord seconds
IsWritableMark (marks.Done link xid outcome) = IsWord xid × IsWritableOutcome outcome
IsWritableMark (marks.Forget link xid) = IsWord xid
IsWritableMark (marks.Revoke link xid) = IsWord xid
IsWritableMark (marks.Drop link) = Unit {0}
IsWritableMark (marks.Grant link credits) = IsWord credits

-- the numbers of the first line are in range, and each mark is of a link of it
pub record IsWritable (capture : CaptureLines) : Type 0 where
  pub opening : IsOpening capture.opening
  pub links : AllByRecursion (λ mark. is_link capture.opening (link_of mark) ≡ true) capture.marks
  pub marks : AllByRecursion IsWritableMark capture.marks

-- what is written of a capture is read back as it
abbrev pub TextIsReadBack : Type 0
TextIsReadBack = (capture : CaptureLines) → IsWritable capture → capture_of (capture_text capture) ≡ Ok capture

-- what is read of a text can be written
abbrev pub ReadIsWritable : Type 0
ReadIsWritable = (text : List ℕ) (capture : CaptureLines) → capture_of text ≡ Ok capture → IsWritable capture
