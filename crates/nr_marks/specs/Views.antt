-- Marks that are read.
use Rattle.std.specs.Prelude.{ℕ, ◌+◌, Bool, true, false, List, length, sum_by, Option, Some, None}
use Rattle.nr_rpc.specs.declared.cred.Cred.TheVariants as creds
use Rattle.nr_reduce.specs.declared.call.Form.TheVariants as forms
use Rattle.nr_reduce.specs.declared.call.Outcome.{Outcome}
use Rattle.nr_reduce.specs.declared.call.Outcome.TheVariants as outcomes
use Rattle.nr_reduce.specs.declared.call.Submission.TheVariants as submissions
use Rattle.nr_reduce.specs.declared.mark.Mark.{Mark}
use Rattle.nr_reduce.specs.declared.mark.Mark.TheVariants as marks
use Rattle.nr_marks.specs.declared.kept.MarkView.{MarkView}
use Rattle.nr_marks.specs.declared.kept.MarkView.TheVariants as views

-- a call line of a call without a credential, in the Auto form, that was accepted
abbrev pub plain_submit : ℕ → ℕ → ℕ → ℕ → ℕ → List ℕ → Mark
plain_submit link prog vers proc xid args = marks.Submit link (record { prog = prog; vers = vers; proc = proc; cred = creds.None; args = args }) forms.Auto (submissions.Accepted xid)

-- the mark that is read
abbrev pub mark_seen : MarkView → Mark
mark_seen (views.Submit link prog vers proc xid args) = plain_submit link prog vers proc xid args.now
mark_seen (views.Wrote link side bytes) = marks.Wrote link side bytes.now
mark_seen (views.Fed link side bytes) = marks.Fed link side bytes.now
mark_seen (views.Execute link xid moment payload place reply) = marks.Execute link xid moment payload.now place reply.now
mark_seen (views.Done link xid reply) = marks.Done link xid (outcomes.Reply reply.now)
mark_seen (views.Other mark) = mark.now

-- the link of a mark, if it is a call line
abbrev pub submit_link : Mark → Option ℕ
submit_link (marks.Submit link call form answer) = Some link
submit_link mark = None

-- The bytes of a mark: its byte strings, and of a call line the arguments, with the 40 bytes of a call head without a credential that stand before
-- them in its payload (RFC 5531 section 9).
abbrev pub outcome_len : Outcome → ℕ
outcome_len (outcomes.Reply reply) = length reply
outcome_len outcomes.Chunk = 0
outcome_len (outcomes.Version low high) = 0

abbrev pub mark_len : Mark → ℕ
mark_len (marks.Submit link call form answer) = 40 + length call.args
mark_len (marks.Wrote link side bytes) = length bytes
mark_len (marks.Fed link side bytes) = length bytes
mark_len (marks.Execute link xid moment payload place reply) = length payload + length reply
mark_len (marks.Done link xid outcome) = outcome_len outcome
mark_len (marks.Lost link xid) = 0
mark_len (marks.Forget link xid) = 0
mark_len (marks.Revoke link xid bytes) = length bytes
mark_len (marks.Drop link) = 0
mark_len (marks.Told link what) = 0

-- the bytes of all marks
abbrev pub marks_len : List Mark → ℕ
marks_len run = sum_by mark_len run

-- a mark right after which its own bytes are written: a call line, and an execution
abbrev pub is_written_next : Mark → Bool
is_written_next (marks.Submit link call form answer) = true
is_written_next (marks.Execute link xid moment payload place reply) = true
is_written_next mark = false
