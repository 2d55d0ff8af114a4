-- Why a call has no answer, and the fault counts then.
use Rattle.std.specs.Prelude.{◌≡◌, ⊤, ℕ, ◌<◌, List, [], length, Option, None, Some, Result, Ok, Err}
use Rattle.std.specs.Io.KnownBytes.{IsAtEnd}
use Rattle.nr_outside.specs.Faults.{Rises}
use Rattle.nr_reduce.specs.declared.call.Call.{Call}
use Rattle.nr_reduce.specs.declared.call.Form.TheVariants as forms
use Rattle.nr_reduce.specs.declared.call.Refused.{Refused}
use Rattle.nr_reduce.specs.declared.call.Refused.TheVariants as refusals
use Rattle.nr_reduce.specs.declared.call.Submission.TheVariants as submissions
use Rattle.nr_links.specs.Limits.{read_max}
use Rattle.nr_requester.specs.RequesterState.{RequesterSide, queue_of}
use Rattle.nr_requester.specs.Answers.{answer_of}
use Rattle.nr_shared.specs.declared.call_end.CallEnd.{CallEnd}
use Rattle.nr_shared.specs.declared.call_end.CallEnd.TheVariants as calls
use Rattle.nr_client.specs.Views.{LinkView}

-- The cause of an end of the link, by what the source has left, the number of bytes read and the requester. The end of the source ends a call
-- only while a call is outstanding, no message of whose xid came, and all that may be written is written.
abbrev pub LinkCause : CallEnd → Option (List ℕ) → ℕ → RequesterSide → Type 0
LinkCause (calls.Ended end) left read h = h.state.side.ended ≡ Some end
LinkCause calls.LinkRead left read h = (h.state.side.ended ≡ None) × (read < read_max)
LinkCause calls.LinkWrite left read h = ⊤
LinkCause calls.Closed left read h = (h.state.side.ended ≡ None) × (IsAtEnd left × ((read < read_max) × ((0 < length h.state.outstanding) × (queue_of h.state ≡ []))))
LinkCause (calls.Tries n) left read h = ⊥
LinkCause calls.DialFault left read h = ⊥
LinkCause (calls.Spent left_over need) left read h = ⊥
LinkCause (calls.TooLarge need room) left read h = ⊥
LinkCause (calls.Budget count) left read h = (h.state.side.ended ≡ None) × ((count ≡ read_max) × (read ≡ read_max))
LinkCause calls.Memory left read h = ⊥

-- The cause of each end of a call: one of the link; or what its requester answers to the call; or memory ran out before it was submitted.
abbrev pub IsCause : CallEnd → Option (List ℕ) → ℕ → RequesterSide → Call → Type 0
IsCause (calls.Spent left_over need) left read h call = answer_of h.state call forms.Auto ≡ submissions.Refused (refusals.Spent left_over need)
IsCause (calls.TooLarge need room) left read h call = answer_of h.state call forms.Auto ≡ submissions.Refused (refusals.TooLarge need room)
IsCause calls.Memory left read h call = ⊤
IsCause end left read h call = LinkCause end left read h

-- the cause of the end of a call over a link
abbrev pub IsCauseIn : CallEnd → LinkView → Call → Type 0
IsCauseIn end v call = IsCause end v.bytes.left v.bytes.read v.requester call

-- a refusal of a call that may be submitted, and the end of the call then
abbrev pub HasCredit : Refused → Type 0
HasCredit (refusals.NoCredit out grant) = ⊥
HasCredit (refusals.Window oldest next) = ⊥
HasCredit why = ⊤

abbrev pub IsEndOf : Refused → CallEnd → Type 0
IsEndOf (refusals.Ended why) end = end ≡ calls.Ended why
IsEndOf (refusals.TooLarge need room) end = end ≡ calls.TooLarge need room
IsEndOf (refusals.NoCredit out grant) end = ⊥
IsEndOf (refusals.Window oldest next) end = ⊥
IsEndOf (refusals.Spent left_over need) end = end ≡ calls.Spent left_over need
IsEndOf refusals.Memory end = end ≡ calls.Memory

-- the fault counts of the source and of the sink: each rises at one end alone
abbrev pub SourceCountAt : CallEnd → ℕ → ℕ → Type 0
SourceCountAt calls.LinkRead before after = Rises before after
SourceCountAt _ before after = after ≡ before

abbrev pub SinkCountAt : CallEnd → ℕ → ℕ → Type 0
SinkCountAt calls.LinkWrite before after = Rises before after
SinkCountAt _ before after = after ≡ before

abbrev pub SourceCount : {A : Type 0} → Result A CallEnd → ℕ → ℕ → Type 0
SourceCount (Ok _) before after = after ≡ before
SourceCount (Err end) before after = SourceCountAt end before after

abbrev pub SinkCount : {A : Type 0} → Result A CallEnd → ℕ → ℕ → Type 0
SinkCount (Ok _) before after = after ≡ before
SinkCount (Err end) before after = SinkCountAt end before after
