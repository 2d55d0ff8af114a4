-- The link of a command whose server keeps its law stays open.
use Rattle.std.specs.Prelude.{◌≡◌, ⊤, ℕ, ◌⊎◌, List, [], Option, None, Result, Err}
use Rattle.std.specs.List.{AllByRecursion}
use Rattle.nr_outside.specs.Streams.{SinkAt, SourceAt}
use Rattle.nr_outside.specs.declared.moment.Moment.{Moment}
use Rattle.nr_wire.specs.declared.hello.Side.TheVariants.{Initiator, Responder}
use Rattle.nr_link.specs.declared.end.End.TheVariants as ends
use Rattle.nr_reduce.specs.declared.mark.Entry.{Entry}
use Rattle.nr_reduce.specs.declared.mark.LinkParameters.{LinkParameters}
use Rattle.nr_reduce.specs.declared.mark.Mark.{Mark}
use Rattle.nr_reduce.specs.Opening.{IsOpened}
use Rattle.nr_reduce.specs.Asked.{IsAll}
use Rattle.nr_reduce.specs.AtEachMark.{AtEachMark}
use Rattle.nr_reduce.specs.KeepsReplyLimits.{KeepsReplyLimits}
use Rattle.nr_reduce.specs.Matched.{Matched}
use Rattle.nr_reduce.specs.Run.{end_of_side, HasWritten}
use Rattle.nr_reduce.specs.Served.{ServedMark}
use Rattle.nr_laws.specs.Completion.{NothingInTransit}
use Rattle.nr_laws.specs.EndCauses.{KeepLaws, AgreesAgain, HasNoOldCall}
use Rattle.nr_laws.specs.MatchedSoFar.{MatchedSoFar}
use Rattle.nr_requester.specs.RequesterState.{RequesterSide}
use Rattle.nr_laws.specs.PlainLinks.{HasPlainReplies, server_with}
use Rattle.nr_laws.specs.Typed.{IsTyped}
use Rattle.nr_words.specs.Lines.{Text}
use Rattle.nr_words.specs.declared.commands.Client.{Client}
use Rattle.nr_shared.specs.declared.call_end.CallEnd.TheVariants as calls
use Rattle.nr_client.specs.declared.client_end.ClientEnd.{ClientEnd}
use Rattle.nr_client.specs.declared.client_end.ClientEnd.TheVariants as client
use Rattle.nr_client.specs.Dialing.{DialerAt}
use Rattle.nr_commands.specs.Running.{Runs}
use Rattle.nr_commands.specs.Running.Runs.{NotOpened, Opened}
use Rattle.nr_service_laws.specs.ClientMarks.{IsOwn}
use Rattle.nr_service_laws.specs.CommandRuns.{IsCommandRun}
use Rattle.nr_service_laws.specs.Exchanges.{tells_text}
use Rattle.nr_service_laws.specs.ServedCommands.{IsClientSideOf, client_marks}

-- A run has both sides of a link, whose client has made these marks. The server keeps its law with each Wrote in full, the link is matched, and calls
-- are answered as a plain server answers that keeps what `KeepsReplyLimits` says. Nothing is asked of what the client does.
pub record IsServedBy (reply_to : List Entry → Moment → List ℕ → Option (List ℕ)) (adds : Moment → List ℕ → List ℕ → List Entry) (opened : LinkParameters) (link : ℕ) (run both : List Mark) : Type 0 where
  pub client_side : client_marks link both ≡ run
  pub typed : IsTyped both
  pub served : AtEachMark (ServedMark IsAll opened link) [] both
  pub matched : Matched link both
  pub limits : KeepsReplyLimits (server_with reply_to adds)
  pub plain : HasPlainReplies (server_with reply_to adds) link both

-- The server wrote all that it owes. Each side received all that the other sent, and the server executed each complete call (`NothingInTransit`).
pub record OwesNothing (opened : LinkParameters) (link : ℕ) (both : List Mark) : Type 0 where
  pub written : HasWritten opened link Responder both
  pub nothing_waits : NothingInTransit opened link both

-- If both sides of the link also keep their laws with each Wrote in full, no call is refused as old, and the hellos agree on the lengths of an
-- earlier one, if there was one, the client's side of these marks has not ended.
abbrev pub ServedClientsStayOpen : Type 0
ServedClientsStayOpen =
    (reply_to : List Entry → Moment → List ℕ → Option (List ℕ)) (adds : Moment → List ℕ → List ℕ → List Entry) (opened : LinkParameters) (link : ℕ) (run both : List Mark) →
    IsOpened opened → AgreesAgain opened → AllByRecursion (IsOwn link) run → IsClientSideOf reply_to adds opened link run both → KeepLaws opened link both → HasNoOldCall link both → end_of_side opened link Initiator run ≡ None

-- So the requester of a command over such a link has not ended when the link is hung up, unless memory ran out for a frame.
abbrev pub EndsOpen : (opened : LinkParameters) (link : ℕ) (c : Client Text) (before after : DialerAt) (input input' : SourceAt) (out out' : SinkAt) (result : Result (Unit {0}) ClientEnd)
    → (runs : Runs c before after input input' out out' result) → Type 0
EndsOpen opened link c before after input input' out out' result (NotOpened end is fails same_input same_out) = ⊤
EndsOpen opened link c before after input input' out out' result (Opened dialed s s' opens prints closes) =
    (ran : IsCommandRun opened link s s' dialed.ended after.ended result (tells_text c.uid c.gid c.export c.action input input' out prints.written s s' prints.text prints.made)) →
    (reply_to : List Entry → Moment → List ℕ → Option (List ℕ)) (adds : Moment → List ℕ → List ℕ → List Entry) (both : List Mark) →
    IsOpened opened → IsClientSideOf reply_to adds opened link ran.run both → KeepLaws opened link both →
    (s'.requester.state.side.ended ≡ None) ⊎ (result ≡ Err (client.Link (calls.Ended ends.Memory)))

abbrev pub ServedCommandsStayOpen : Type 0
ServedCommandsStayOpen =
    (opened : LinkParameters) (link : ℕ) (c : Client Text) (before after : DialerAt) (input input' : SourceAt) (out out' : SinkAt) (result : Result (Unit {0}) ClientEnd)
    (runs : Runs c before after input input' out out' result) → EndsOpen opened link c before after input input' out out' result runs

-- ---- With a premise on the server alone

-- What is said of a command that opened a session, if its run is the client's side of such a link.
abbrev pub SaysServed : ((opened : LinkParameters) → ℕ → (both : List Mark) → RequesterSide → Type 0) → (opened : LinkParameters) (link : ℕ) (c : Client Text) (before after : DialerAt) (input input' : SourceAt) (out out' : SinkAt)
    (result : Result (Unit {0}) ClientEnd) → (runs : Runs c before after input input' out out' result) → Type 0
SaysServed Says opened link c before after input input' out out' result (NotOpened end is fails same_input same_out) = ⊤
SaysServed Says opened link c before after input input' out out' result (Opened dialed s s' opens prints closes) =
    (ran : IsCommandRun opened link s s' dialed.ended after.ended result (tells_text c.uid c.gid c.export c.action input input' out prints.written s s' prints.text prints.made)) →
    (reply_to : List Entry → Moment → List ℕ → Option (List ℕ)) (adds : Moment → List ℕ → List ℕ → List Entry) (both : List Mark) →
    IsOpened opened → IsServedBy reply_to adds opened link ran.run both → Says opened link both s'.requester

-- Both sides keep their laws so far, and the link is matched. Unless the command ends for a write of its link that failed, they keep their laws with
-- each Wrote in full, and the client the last grant.
abbrev pub ServedCommandsKeepLaws : Type 0
ServedCommandsKeepLaws =
    (opened : LinkParameters) (link : ℕ) (c : Client Text) (before after : DialerAt) (input input' : SourceAt) (out out' : SinkAt) (result : Result (Unit {0}) ClientEnd)
    (runs : Runs c before after input input' out out' result) →
    SaysServed (λ o l both h. MatchedSoFar o l both × ((result ≡ Err (client.Link calls.LinkWrite)) ⊎ KeepLaws o l both)) opened link c before after input input' out out' result runs

-- So its requester has not ended when the link is hung up, unless memory ran out for a frame or a write failed.
abbrev pub ServedCommandsHaveNotEnded : Type 0
ServedCommandsHaveNotEnded =
    (opened : LinkParameters) (link : ℕ) (c : Client Text) (before after : DialerAt) (input input' : SourceAt) (out out' : SinkAt) (result : Result (Unit {0}) ClientEnd)
    (runs : Runs c before after input input' out out' result) →
    SaysServed (λ o l both h. (h.state.side.ended ≡ None) ⊎ ((result ≡ Err (client.Link (calls.Ended ends.Memory))) ⊎ (result ≡ Err (client.Link calls.LinkWrite)))) opened link c before after input input' out out' result runs

-- And it doesn't end with `Closed` if the server owes nothing.
abbrev pub ServedCommandsAreNotClosed : Type 0
ServedCommandsAreNotClosed =
    (opened : LinkParameters) (link : ℕ) (c : Client Text) (before after : DialerAt) (input input' : SourceAt) (out out' : SinkAt) (result : Result (Unit {0}) ClientEnd)
    (runs : Runs c before after input input' out out' result) →
    SaysServed (λ o l both h. OwesNothing o l both → result ≡ Err (client.Link calls.Closed) → ⊥) opened link c before after input input' out out' result runs
