-- Credits (RFC 8166 section 3.3): how many calls of a link are outstanding, and how many its server grants.
use Rattle.std.specs.Prelude.{◌≡◌, ℕ, ◌<◌, List, [], length}
use Rattle.nr_reduce.specs.declared.call.Submission.TheVariants as submissions
use Rattle.nr_reduce.specs.declared.mark.Mark.{Mark}
use Rattle.nr_reduce.specs.declared.mark.Mark.TheVariants as marks
use Rattle.nr_reduce.specs.declared.mark.LinkParameters.{LinkParameters}
use Rattle.nr_reduce.specs.Run.{client}
use Rattle.nr_reduce.specs.AtEachMark.{AtEachMark}

-- The calls that are outstanding: accepted on this link, with no message of their xid received. A call that waits to be sent again isn't among
-- them. The credits that the last message grants: 1 before the first message.
unfoldable pub calls_outstanding : LinkParameters → ℕ → List Mark → ℕ
calls_outstanding opened link run = length (client opened link run).state.outstanding

unfoldable pub credits_granted : LinkParameters → ℕ → List Mark → ℕ
credits_granted opened link run = (client opened link run).state.grant

-- a call is accepted, or sent again, only while fewer calls are outstanding than are granted
abbrev pub WithinGrant : LinkParameters → ℕ → List Mark → Mark → Type 0
WithinGrant opened link before (marks.Submit l call form (submissions.Accepted xid)) = l ≡ link → calls_outstanding opened link before < credits_granted opened link before
WithinGrant opened link before mark = Unit {0}

abbrev pub KeepsGrant : LinkParameters → ℕ → List Mark → Type 0
KeepsGrant opened link run = AtEachMark (WithinGrant opened link) [] run
