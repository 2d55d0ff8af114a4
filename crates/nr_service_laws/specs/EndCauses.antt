-- Why a command has no answer to a call, by its session when its link is hung up.
use Rattle.std.specs.Prelude.{◌≡◌, ⊤, ℕ, ◌<◌, ◌⊎◌, List, [], length, Option, None, Some, Result, Err}
use Rattle.std.specs.Io.KnownBytes.{IsAtEnd}
use Rattle.nr_outside.specs.Streams.{SinkAt, SourceAt}
use Rattle.nr_outside.specs.declared.moment.Moment.{Moment}
use Rattle.nr_link.specs.declared.end.End.{End}
use Rattle.nr_link.specs.declared.end.End.TheVariants as ends
use Rattle.nr_links.specs.Limits.{read_max}
use Rattle.nr_reduce.specs.declared.call.Call.{Call}
use Rattle.nr_reduce.specs.declared.call.Form.TheVariants as forms
use Rattle.nr_reduce.specs.declared.call.Refused.{Refused}
use Rattle.nr_reduce.specs.declared.call.Refused.TheVariants as refusals
use Rattle.nr_reduce.specs.declared.call.Submission.TheVariants as submissions
use Rattle.nr_reduce.specs.declared.mark.Entry.{Entry}
use Rattle.nr_reduce.specs.declared.mark.LinkParameters.{LinkParameters}
use Rattle.nr_reduce.specs.declared.mark.Mark.{Mark}
use Rattle.nr_reduce.specs.Opening.{IsOpened}
use Rattle.nr_requester.specs.Answers.{answer_of}
use Rattle.nr_requester.specs.RequesterState.{RequesterSide, queue_of}
use Rattle.nr_words.specs.Lines.{Text}
use Rattle.nr_words.specs.declared.commands.Client.{Client}
use Rattle.nr_shared.specs.declared.call_end.CallEnd.{CallEnd}
use Rattle.nr_shared.specs.declared.call_end.CallEnd.TheVariants as calls
use Rattle.nr_client.specs.declared.client_end.ClientEnd.{ClientEnd}
use Rattle.nr_client.specs.declared.client_end.ClientEnd.TheVariants as client
use Rattle.nr_client.specs.Dialing.{DialerAt}
use Rattle.nr_client.specs.Views.{LinkView}
use Rattle.nr_commands.specs.Running.{Runs}
use Rattle.nr_commands.specs.Running.Runs.{NotOpened, Opened}
use Rattle.nr_service_laws.specs.CommandRuns.{IsCommandRun}
use Rattle.nr_service_laws.specs.Exchanges.{tells_text}
use Rattle.nr_service_laws.specs.ServedLinks.{IsServedBy}

-- there is a call to which the requester answers this
abbrev pub RefusesOne : RequesterSide → Refused → Type 0
RefusesOne h why = (call : Call) × (answer_of h.state call forms.Auto ≡ submissions.Refused why)

-- The cause of an end, by the link. A requester of which memory ran out may be in any state.
abbrev pub CauseAt : CallEnd → LinkView → Type 0
CauseAt (calls.Ended end) v = (end ≡ ends.Memory) ⊎ (v.requester.state.side.ended ≡ Some end)
CauseAt calls.LinkRead v = (v.requester.state.side.ended ≡ None) × (v.bytes.read < read_max)
CauseAt calls.LinkWrite v = ⊤
CauseAt calls.Closed v = (v.requester.state.side.ended ≡ None) × (IsAtEnd v.bytes.left × ((v.bytes.read < read_max) × ((0 < length v.requester.state.outstanding) × (queue_of v.requester.state ≡ []))))
CauseAt (calls.Tries n) v = ⊥
CauseAt calls.DialFault v = ⊥
CauseAt (calls.Spent left_over need) v = RefusesOne v.requester (refusals.Spent left_over need)
CauseAt (calls.TooLarge need room) v = RefusesOne v.requester (refusals.TooLarge need room)
CauseAt (calls.Budget count) v = (v.requester.state.side.ended ≡ None) × ((count ≡ read_max) × (v.bytes.read ≡ read_max))
CauseAt calls.Memory v = ⊤

-- A command that ends since a call has no answer has the cause of that end when its link is hung up.
abbrev pub HasCause : (c : Client Text) (before after : DialerAt) (input input' : SourceAt) (out out' : SinkAt) (result : Result (Unit {0}) ClientEnd)
    → Runs c before after input input' out out' result → Type 0
HasCause c before after input input' out out' result (NotOpened end is fails same_input same_out) = ⊤
HasCause c before after input input' out out' result (Opened dialed s s' opens prints closes) =
    (end : CallEnd) → result ≡ Err (client.Link end) → CauseAt end s'

abbrev pub EndsHaveCauses : Type 0
EndsHaveCauses =
    (c : Client Text) (before after : DialerAt) (input input' : SourceAt) (out out' : SinkAt) (result : Result (Unit {0}) ClientEnd)
    (runs : Runs c before after input input' out out' result) → HasCause c before after input input' out out' result runs

-- So a command over a matched link whose server keeps its law with each Wrote in full ends with `Ended` only if memory ran out.
abbrev pub EndsForMemory : (opened : LinkParameters) (link : ℕ) (c : Client Text) (before after : DialerAt) (input input' : SourceAt) (out out' : SinkAt) (result : Result (Unit {0}) ClientEnd)
    → (runs : Runs c before after input input' out out' result) → Type 0
EndsForMemory opened link c before after input input' out out' result (NotOpened end is fails same_input same_out) = ⊤
EndsForMemory opened link c before after input input' out out' result (Opened dialed s s' opens prints closes) =
    (ran : IsCommandRun opened link s s' dialed.ended after.ended result (tells_text c.uid c.gid c.export c.action input input' out prints.written s s' prints.text prints.made)) →
    (reply_to : List Entry → Moment → List ℕ → Option (List ℕ)) (adds : Moment → List ℕ → List ℕ → List Entry) (both : List Mark) →
    IsOpened opened → IsServedBy reply_to adds opened link ran.run both →
    (end : End) → result ≡ Err (client.Link (calls.Ended end)) → end ≡ ends.Memory

abbrev pub ServedCommandsEndForMemory : Type 0
ServedCommandsEndForMemory =
    (opened : LinkParameters) (link : ℕ) (c : Client Text) (before after : DialerAt) (input input' : SourceAt) (out out' : SinkAt) (result : Result (Unit {0}) ClientEnd)
    (runs : Runs c before after input input' out out' result) → EndsForMemory opened link c before after input input' out out' result runs
