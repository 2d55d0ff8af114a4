-- How many marks a requester made: what its owner did with it, and what it was fed. Refused calls and marks of no bytes are left out.
use Rattle.std.specs.Prelude.{ℕ, ◌+◌, min, Bool, true, false, ◌==◌, ◌&&◌, if◌then◌else◌, List, [], ◌∷◌, length}
use Rattle.std.specs.List.{filter}
use Rattle.nr_wire.specs.declared.hello.Side.TheVariants.{Initiator, Responder}
use Rattle.nr_reduce.specs.declared.call.Submission.TheVariants as submissions
use Rattle.nr_reduce.specs.declared.mark.Mark.{Mark}
use Rattle.nr_reduce.specs.declared.mark.Mark.TheVariants as marks

abbrev pub has_bytes : List ℕ → Bool
has_bytes [] = false
has_bytes (byte ∷ bytes) = true

-- whether a mark is one of the client of a link, and is counted
abbrev pub is_counted : ℕ → Mark → Bool
is_counted link (marks.Submit l call form (submissions.Accepted xid)) = l == link
is_counted link (marks.Submit l call form (submissions.Refused why)) = false
is_counted link (marks.Submit l call form submissions.Dropped) = false
is_counted link (marks.Wrote l Initiator bytes) = l == link && has_bytes bytes
is_counted link (marks.Wrote l Responder bytes) = false
is_counted link (marks.Fed l Initiator bytes) = l == link && has_bytes bytes
is_counted link (marks.Fed l Responder bytes) = false
is_counted link (marks.Execute l xid moment payload place reply) = false
is_counted link (marks.Done l xid outcome) = l == link
is_counted link (marks.Lost l xid) = l == link
is_counted link (marks.Forget l xid) = l == link
is_counted link (marks.Revoke l xid bytes) = l == link
is_counted link (marks.Drop l) = false
is_counted link (marks.Told l what) = false

unfoldable pub marks_of : ℕ → List Mark → ℕ
marks_of link run = length (filter (is_counted link) run)

-- the maximum of the count: it stands still there
abbrev pub marks_max : ℕ
marks_max = 18446744073709551615

abbrev pub counted_marks : ℕ → List Mark → ℕ
counted_marks link run = min (marks_of link run) marks_max

-- a count of released regions, with some more
abbrev pub with_releases : (more n : ℕ) → ℕ
with_releases more n = if more == 0 then n else min (n + more) marks_max

-- the count after one mark more; and after one that is counted only if it has bytes
abbrev pub one_mark_more : ℕ → ℕ
one_mark_more n = min (n + 1) marks_max

abbrev pub marks_if : Bool → ℕ → ℕ
marks_if true n = one_mark_more n
marks_if false n = n
