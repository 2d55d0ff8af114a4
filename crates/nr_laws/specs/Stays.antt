-- Neither side of a matched link ends, if no memory is taken back and each payload that is conveyed is that of a call.
use Rattle.std.specs.Prelude.{◌≡◌, ◌≢◌, ℕ, List, [], Option, None, Some, Ok, IsOk, ◌⊎◌}
use Rattle.nr_rpc.specs.Reading.{call_of}
use Rattle.nr_wire.specs.declared.hello.Side.TheVariants.{Initiator, Responder}
use Rattle.nr_link.specs.declared.end.End.{End}
use Rattle.nr_reduce.specs.declared.call.Form.{Form}
use Rattle.nr_reduce.specs.declared.call.Form.TheVariants as forms
use Rattle.nr_reduce.specs.declared.call.Submission.TheVariants as submissions
use Rattle.nr_outside.specs.declared.moment.Moment.{Moment}
use Rattle.nr_reduce.specs.declared.mark.Entry.{Entry}
use Rattle.nr_reduce.specs.declared.mark.Mark.{Mark}
use Rattle.nr_reduce.specs.declared.mark.Mark.TheVariants as marks
use Rattle.nr_reduce.specs.declared.mark.LinkParameters.{LinkParameters}
use Rattle.nr_reduce.specs.declared.outline.Plan.{Plan}
use Rattle.nr_reduce.specs.AtEachMark.{AtEachMark}
use Rattle.nr_reduce.specs.ClientState.{call_payload, plan_for, stag_for}
use Rattle.nr_reduce.specs.KeepsReplyLimits.{KeepsReplyLimits}
use Rattle.nr_reduce.specs.Opening.{IsOpened}
use Rattle.nr_reduce.specs.PayloadLaws.{given_conveyed}
use Rattle.nr_reduce.specs.Plans.{call_message}
use Rattle.nr_reduce.specs.Run.{client, end_of_side}
use Rattle.nr_reduce.specs.SoFar.{InFull}
use Rattle.nr_laws.specs.Completion.{NothingInTransit, HaveCompleted}
use Rattle.nr_laws.specs.EndCauses.{KeepLaws, IsReplyEnd, AgreesAgain, HasNoOldCall}
use Rattle.nr_laws.specs.PlainLinks.{server_with, HasPlainReplies}
use Rattle.nr_laws.specs.RefusedMessages.{IsRefusedMessage}
use Rattle.nr_laws.specs.Typed.{IsTyped}

-- no memory of this link's calls is taken back
abbrev pub NotRevokedMark : ℕ → List Mark → Mark → Type 0
NotRevokedMark link before (marks.Revoke l xid bytes) = l ≢ link
NotRevokedMark link before mark = Unit {0}

abbrev pub HasNoRevoke : ℕ → List Mark → Type 0
HasNoRevoke link run = AtEachMark (NotRevokedMark link) [] run

-- something is conveyed, and it begins with an RPC call head (RFC 5531 section 9)
abbrev pub HasCallHead : Option (List ℕ) → Type 0
HasCallHead None = ⊥
HasCallHead (Some payload) = IsOk (call_of payload)

-- An offer that is given conveys a payload with a call head, or its message is refused. Other forms convey the call's own payload.
abbrev pub IsConveyedOrRefused : Form → (payload message : List ℕ) → Type 0
IsConveyedOrRefused forms.Auto payload message = Unit {0}
IsConveyedOrRefused forms.Inline payload message = Unit {0}
IsConveyedOrRefused forms.Chunk payload message = Unit {0}
IsConveyedOrRefused forms.Long payload message = Unit {0}
IsConveyedOrRefused (forms.Given offer) payload message = HasCallHead (given_conveyed payload offer.read_at offer.read) ⊎ IsRefusedMessage message

-- so it is of each accepted call of a link, with the message of its plan
abbrev pub ConveyedMark : LinkParameters → ℕ → List Mark → Mark → Type 0
ConveyedMark opened link before (marks.Submit l call form (submissions.Accepted xid)) = l ≡ link → (plan : Plan) → plan_for (client opened link before).state xid call form ≡ Ok plan →
    IsConveyedOrRefused form (call_payload xid call) (call_message xid opened.wished (stag_for (client opened link before).state xid) plan)
ConveyedMark opened link before mark = Unit {0}

abbrev pub AreConveyedOrRefused : LinkParameters → ℕ → List Mark → Type 0
AreConveyedOrRefused opened link run = AtEachMark (ConveyedMark opened link) [] run

-- On a matched link that was opened with numbers and credits in range, and whose hellos agree on the lengths of an earlier one, if there was
-- one: if each Wrote writes all output due, no memory is taken back, each offer that is given conveys a payload with a call head or is refused,
-- calls are answered as a plain server answers that keeps what `KeepsReplyLimits` says, and none is old, neither side ends.
abbrev pub MatchedLinksStayOpen : Type 0
MatchedLinksStayOpen = (reply_to : List Entry → Moment → List ℕ → Option (List ℕ)) (adds : Moment → List ℕ → List ℕ → List Entry) (opened : LinkParameters) (link : ℕ) (run : List Mark) →
    IsOpened opened → AgreesAgain opened → IsTyped run → KeepLaws opened link run → HasNoOldCall link run → HasNoRevoke link run → AreConveyedOrRefused opened link run → KeepsReplyLimits (server_with reply_to adds) → HasPlainReplies (server_with reply_to adds) link run →
    (end_of_side opened link Initiator run ≡ None) × (end_of_side opened link Responder run ≡ None)

-- So if its laws hold in full and nothing waits, all its calls have completed.
abbrev pub MatchedCallsComplete : Type 0
MatchedCallsComplete = (reply_to : List Entry → Moment → List ℕ → Option (List ℕ)) (adds : Moment → List ℕ → List ℕ → List Entry) (opened : LinkParameters) (link : ℕ) (run : List Mark) →
    IsOpened opened → AgreesAgain opened → IsTyped run → InFull opened link run → HasNoOldCall link run → HasNoRevoke link run → AreConveyedOrRefused opened link run → KeepsReplyLimits (server_with reply_to adds) → HasPlainReplies (server_with reply_to adds) link run →
    NothingInTransit opened link run → HaveCompleted opened link run

-- If no memory is taken back, no access to the memory of a client is denied before its server ends, whatever its offers convey and whatever
-- is replied.
abbrev pub NoAccessIsDenied : Type 0
NoAccessIsDenied = (opened : LinkParameters) (link : ℕ) (run : List Mark) → IsOpened opened → AgreesAgain opened → IsTyped run → KeepLaws opened link run → HasNoRevoke link run →
    end_of_side opened link Responder run ≡ None → (end : End) → end_of_side opened link Initiator run ≡ Some end → IsReplyEnd end

-- If calls are answered as a plain server answers, the client doesn't end before its server, whatever its offers convey.
abbrev pub ClientsStayOpen : Type 0
ClientsStayOpen = (reply_to : List Entry → Moment → List ℕ → Option (List ℕ)) (adds : Moment → List ℕ → List ℕ → List Entry) (opened : LinkParameters) (link : ℕ) (run : List Mark) →
    IsOpened opened → AgreesAgain opened → IsTyped run → KeepLaws opened link run → HasNoRevoke link run → KeepsReplyLimits (server_with reply_to adds) → HasPlainReplies (server_with reply_to adds) link run →
    end_of_side opened link Responder run ≡ None → end_of_side opened link Initiator run ≡ None
