-- Which marks concern a side of a link. Each other mark leaves the side as it is, and the side's law asks nothing of it: marks of other links,
-- of the other side, refused calls, and drops.
use Rattle.std.specs.Prelude.{ℕ, Bool, false, ◌==◌, ◌&&◌, ◌||◌}
use Rattle.nr_wire.specs.declared.hello.Side.{Side}
use Rattle.nr_wire.specs.declared.hello.Side.TheVariants.{Initiator, Responder}
use Rattle.nr_reduce.specs.declared.call.Submission.TheVariants as submissions
use Rattle.nr_reduce.specs.declared.mark.Mark.{Mark}
use Rattle.nr_reduce.specs.declared.mark.Mark.TheVariants as marks
use Rattle.nr_reduce.specs.History.{same_side}

-- Whether the law of a side asks something of a mark: a client's of a call that it accepts, hands over, loses or gives up, a server's of a call
-- that it executes and of what it is told, and either of what the side writes.
abbrev pub is_judged : ℕ → Side → Mark → Bool
is_judged link side (marks.Submit l call form (submissions.Accepted xid)) = l == link && same_side Initiator side
is_judged link side (marks.Submit l call form (submissions.Refused why)) = false
is_judged link side (marks.Submit l call form submissions.Dropped) = false
is_judged link side (marks.Wrote l s bytes) = l == link && same_side s side
is_judged link side (marks.Fed l s bytes) = false
is_judged link side (marks.Execute l xid moment payload place reply) = l == link && same_side Responder side
is_judged link side (marks.Done l xid outcome) = l == link && same_side Initiator side
is_judged link side (marks.Lost l xid) = l == link && same_side Initiator side
is_judged link side (marks.Forget l xid) = l == link && same_side Initiator side
is_judged link side (marks.Revoke l xid bytes) = l == link && same_side Initiator side
is_judged link side (marks.Drop l) = false
is_judged link side (marks.Told l what) = l == link && same_side Responder side

-- whether the side is fed at a mark
abbrev pub is_fed : ℕ → Side → Mark → Bool
is_fed link side (marks.Fed l s bytes) = l == link && same_side s side
is_fed link side mark = false

abbrev pub concerns : ℕ → Side → Mark → Bool
concerns link side mark = is_judged link side mark || is_fed link side mark
