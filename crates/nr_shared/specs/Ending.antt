-- Why a call has no answer, by the history of the shared requester.
use Rattle.std.specs.Prelude.{◌≡◌, ◌≢◌, ⊤, ◌⊎◌, ℕ, true, List, Option, None, Some}
use Rattle.nr_link.specs.declared.end.End.{End}
use Rattle.nr_link.specs.declared.end.End.TheVariants as ends
use Rattle.nr_links.specs.Limits.{read_max}
use Rattle.nr_reduce.specs.declared.call.Call.{Call}
use Rattle.nr_reduce.specs.declared.call.Form.{Form}
use Rattle.nr_reduce.specs.declared.call.Refused.{Refused}
use Rattle.nr_reduce.specs.declared.call.Refused.TheVariants as refusals
use Rattle.nr_reduce.specs.declared.call.Submission.TheVariants as submissions
use Rattle.nr_reduce.specs.Run.{client}
use Rattle.nr_reduce.specs.SubmitAnswer.{submit_answer}
use Rattle.nr_shared.specs.declared.call_end.CallEnd.{CallEnd}
use Rattle.nr_shared.specs.declared.call_end.CallEnd.TheVariants as calls
use Rattle.nr_shared.specs.declared.entry.Entry.{Entry}
use Rattle.nr_shared.specs.declared.entry.Stop.TheVariants as causes
use Rattle.nr_shared.specs.Histories.{has_write_failed, is_lost, rejoins, stop_of, tries_of}
use Rattle.nr_shared.specs.LinkRuns.{OnLink}

-- the client of the run has ended so, whatever else the link was opened with
abbrev pub ClientEnded : End → List Entry → Type 0
ClientEnded end history = OnLink 0 history (λ opened link run. (client opened link run).ended ≡ Some end)

-- the requester has ended so: memory ran out for a frame, or the client of the run ended
abbrev pub HasEnded : End → List Entry → Type 0
HasEnded ends.Memory history = stop_of history ≡ Some causes.Memory
HasEnded end history = ClientEnded end history

-- memory hasn't run out for a frame, and the client of the run refuses the call so
abbrev pub ClientRefuses : Refused → Call → Form → List Entry → Type 0
ClientRefuses why call form history = (stop_of history ≢ Some causes.Memory) × OnLink 0 history (λ opened link run. submit_answer (client opened link run) call form ≡ submissions.Refused why)

-- Why a call is refused: its requester has ended, the client of the run refuses it, or memory ran out.
abbrev pub IsRefused : Refused → Call → Form → List Entry → Type 0
IsRefused (refusals.Ended end) call form history = HasEnded end history
IsRefused refusals.Memory call form history = ⊤
IsRefused why call form history = ClientRefuses why call form history

-- How a link ends without an End. If it is never dialled again: a read or a write failed, or the server ended its stream. If it may be dialled again so often:
-- it was, and is lost once more; a dial failed; or the requester couldn't be reopened, for want of STags or of memory.
abbrev pub LossEnds : Option ℕ → CallEnd → List Entry → Type 0
LossEnds None calls.LinkWrite history = has_write_failed history ≡ true
LossEnds None calls.LinkRead history = stop_of history ≡ Some causes.LinkRead
LossEnds None calls.Closed history = stop_of history ≡ Some causes.Closed
LossEnds (Some tries) (calls.Tries n) history = (n ≡ tries) × ((rejoins history ≡ tries) × (is_lost history ≡ true))
LossEnds (Some tries) calls.DialFault history = stop_of history ≡ Some causes.DialFault
LossEnds (Some tries) (calls.Spent left need) history = stop_of history ≡ Some (causes.Spent left need)
LossEnds (Some tries) calls.Memory history = stop_of history ≡ Some causes.NotReopened
LossEnds tries end history = ⊥

-- Why no answer comes over the link any more: the requester has ended, the maximum was read, or the link is lost.
abbrev pub LinkEnded : CallEnd → List Entry → Type 0
LinkEnded (calls.Ended end) history = HasEnded end history
LinkEnded (calls.Budget read) history = (read ≡ read_max) × (stop_of history ≡ Some causes.Budget)
LinkEnded end history = LossEnds (tries_of history) end history

-- why a call wasn't submitted
abbrev pub IsCause : CallEnd → Call → Form → List Entry → Type 0
IsCause (calls.Spent left need) call form history = ClientRefuses (refusals.Spent left need) call form history ⊎ LinkEnded (calls.Spent left need) history
IsCause (calls.TooLarge need room) call form history = ClientRefuses (refusals.TooLarge need room) call form history
IsCause calls.Memory call form history = ⊤
IsCause end call form history = LinkEnded end history

-- a refusal of a call while a credit is left and the next xid isn't too far above the least one
abbrev pub HasCredit : Refused → Type 0
HasCredit (refusals.NoCredit out grant) = ⊥
HasCredit (refusals.Window oldest next) = ⊥
HasCredit why = ⊤
