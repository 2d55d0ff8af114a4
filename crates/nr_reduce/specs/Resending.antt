-- A client sends again, one after the other, the calls that it can.
use Rattle.std.specs.Prelude.{◌≡◌, ℕ, List, [], ◌++◌, map}
use Rattle.nr_reduce.specs.declared.call.Submission.TheVariants as submissions
use Rattle.nr_reduce.specs.declared.mark.Mark.{Mark}
use Rattle.nr_reduce.specs.declared.mark.Mark.TheVariants as marks
use Rattle.nr_reduce.specs.declared.mark.LinkParameters.{LinkParameters}
use Rattle.nr_reduce.specs.ClientState.{WaitingCall}
use Rattle.nr_reduce.specs.SubmitAnswer.{calls_to_resend}
use Rattle.nr_reduce.specs.Run.{client}
use Rattle.nr_reduce.specs.Opening.{IsOpened}
use Rattle.nr_reduce.specs.Asked.{AskedSoFar}
use Rattle.nr_reduce.specs.Credits.{KeepsGrant}

-- a call is sent again by a Submit under its xid
abbrev pub resend_mark : (link : ℕ) → WaitingCall → Mark
resend_mark link w = marks.Submit link w.call w.form (submissions.Accepted w.xid)

-- the Submits by which a client sends the calls again that it can, after these marks
abbrev pub resends_after : LinkParameters → (link : ℕ) → List Mark → List Mark
resends_after opened link run = map (resend_mark link) (calls_to_resend (client opened link run))

-- These Submits keep the law of the client and the grant, and after them no call can be sent again.
abbrev pub ResendsKeepLaw : Type 0
ResendsKeepLaw = (opened : LinkParameters) (link : ℕ) (run : List Mark) → IsOpened opened → AskedSoFar opened link run → KeepsGrant opened link run →
    (AskedSoFar opened link (run ++ resends_after opened link run) × KeepsGrant opened link (run ++ resends_after opened link run))
    × (calls_to_resend (client opened link (run ++ resends_after opened link run)) ≡ [])
