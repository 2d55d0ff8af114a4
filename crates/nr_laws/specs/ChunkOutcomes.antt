-- Which calls complete without a reply: by ERR_CHUNK (RFC 8166 section 4.5), if the call's message is refused or its offer doesn't hold the reply.
use Rattle.std.specs.Prelude.{◌≡◌, ◌≢◌, ℕ, ◌+◌, List, [], ◌∷◌, ◌++◌, Option, None, Some, Contains, ◌⊎◌, ◌↔◌}
use Rattle.nr_wire.specs.declared.hello.Side.TheVariants.{Responder}
use Rattle.nr_rpc.specs.Reading.{call_of, target_of}
use Rattle.nr_link.specs.Output.{send_by}
use Rattle.nr_reduce.specs.declared.call.Call.{Call}
use Rattle.nr_reduce.specs.declared.call.Form.TheVariants as forms
use Rattle.nr_reduce.specs.declared.call.Outcome.{Outcome}
use Rattle.nr_reduce.specs.declared.call.Outcome.TheVariants as outcomes
use Rattle.nr_reduce.specs.declared.call.Submission.TheVariants as submissions
use Rattle.nr_outside.specs.declared.moment.Moment.{Moment}
use Rattle.nr_reduce.specs.declared.mark.Entry.{Entry}
use Rattle.nr_reduce.specs.declared.mark.Mark.{Mark}
use Rattle.nr_reduce.specs.declared.mark.Mark.TheVariants as marks
use Rattle.nr_reduce.specs.declared.mark.LinkParameters.{LinkParameters}
use Rattle.nr_reduce.specs.declared.outline.Plan.{Plan}
use Rattle.nr_reduce.specs.History.{AcceptedCall, completed_calls}
use Rattle.nr_reduce.specs.Plans.{lists_of}
use Rattle.nr_reduce.specs.ChunkBytes.{IsNotGiven}
use Rattle.nr_reduce.specs.Holds.{Answer, answer_writes, answer_message}
use Rattle.nr_reduce.specs.ServerState.{credit_word}
use Rattle.nr_reduce.specs.Server.{offer_of, answer_of_target, stag_named}
use Rattle.nr_reduce.specs.Run.{client, server, output_due}
use Rattle.nr_reduce.specs.OutcomesDue.{outcomes_due}
use Rattle.nr_reduce.specs.Asked.{Asked, AskedSoFar}
use Rattle.nr_reduce.specs.Served.{Served, ServedSoFar}
use Rattle.nr_reduce.specs.Matched.{Matched}
use Rattle.nr_reduce.specs.KeepsReplyLimits.{KeepsReplyLimits}
use Rattle.nr_laws.specs.MarkAt.{MarkAt}
use Rattle.nr_laws.specs.MatchedSoFar.{MatchedSoFar}
use Rattle.nr_laws.specs.Typed.{IsTyped}
use Rattle.nr_laws.specs.Completion.{IsQuiescent, IsAwaitedStill}
use Rattle.nr_laws.specs.Payloads.{HasPlan}
use Rattle.nr_laws.specs.Resuming.{ResumesArePlanned}
use Rattle.nr_laws.specs.RefusedMessages.{HasRefusedMessage}
use Rattle.nr_laws.specs.PlainLinks.{server_with, HasPlainReplies}
use Rattle.nr_reduce.specs.ClientState.{stag_for}

-- ---- The two causes

-- The accepted call of this xid was executed with a reply that what its plan offers doesn't hold, by the length of a Send that is agreed on for
-- the server as it executes the call.
pub record HasReplyNotHeld (opened : LinkParameters) (link : ℕ) (run : List Mark) (xid : ℕ) : Type 0 where
  pub plan : Plan
  pub has : HasPlan opened link run xid plan
  pub moment : Moment
  pub payload : List ℕ
  pub place : ℕ
  pub reply : List ℕ
  pub before : List Mark
  pub at : MarkAt run before (marks.Execute link xid moment payload place reply)
  pub none : answer_of_target (lists_of (stag_for (client opened link has.before).state xid) plan) (server opened link before).state.down_max reply (target_of (call_of payload)) ≡ None

-- the message of the accepted call of this xid is refused, or its offer doesn't hold its reply
abbrev pub HasChunkCause : LinkParameters → ℕ → List Mark → ℕ → Type 0
HasChunkCause opened link run xid = HasRefusedMessage opened link run xid ⊎ HasReplyNotHeld opened link run xid

-- On a matched link a call completes with Chunk if and only if one of these two stands before.
abbrev pub ChunkHasCause : Type 0
ChunkHasCause = (opened : LinkParameters) (link : ℕ) (run before : List Mark) (xid : ℕ) (outcome : Outcome) →
    IsTyped run → MatchedSoFar opened link run → MarkAt run before (marks.Done link xid outcome) → (outcome ≡ outcomes.Chunk) ↔ HasChunkCause opened link before xid

-- A call that completes with another outcome has none of them, before or after.
abbrev pub OthersHaveNoCause : Type 0
OthersHaveNoCause = (opened : LinkParameters) (link : ℕ) (run before : List Mark) (xid : ℕ) (outcome : Outcome) →
    IsTyped run → MatchedSoFar opened link run → MarkAt run before (marks.Done link xid outcome) → outcome ≢ outcomes.Chunk → HasChunkCause opened link run xid → ⊥

-- On a matched link, if nothing is left to do and all outcomes that are due are handed over, each accepted call with such a cause that wasn't given
-- up has its Done with Chunk.
abbrev pub CausedCallsComplete : Type 0
CausedCallsComplete = (opened : LinkParameters) (link : ℕ) (run : List Mark) → IsTyped run → Asked opened link run → Served opened link run → Matched link run →
    IsQuiescent opened link run → outcomes_due opened link run ≡ [] → (a : AcceptedCall) → IsAwaitedStill link run a → HasChunkCause opened link run a.xid →
    Contains (completed_calls link run) (record { xid = a.xid; outcome = outcomes.Chunk })

-- On a matched link no call completes with another version: both sides use version 1 (RFC 8166 section 4.2.2).
abbrev pub NoOtherVersion : Type 0
NoOtherVersion = (opened : LinkParameters) (link : ℕ) (run before : List Mark) (xid low high : ℕ) →
    IsTyped run → MatchedSoFar opened link run → MarkAt run before (marks.Done link xid (outcomes.Version low high)) → ⊥

-- ---- What is offered, and what is refused

-- On a matched link the offer by which an executed call is answered is what the plan of the accepted call of its xid offers.
abbrev pub OffersArePlanned : Type 0
OffersArePlanned = (opened : LinkParameters) (link : ℕ) (run before : List Mark) (xid : ℕ) (plan : Plan) (moment : Moment) (payload : List ℕ) (place : ℕ) (reply : List ℕ) →
    IsTyped run → MatchedSoFar opened link run → (has : HasPlan opened link run xid plan) →
    MarkAt run before (marks.Execute link xid moment payload place reply) →
    offer_of (server opened link before).state xid ≡ lists_of (stag_for (client opened link has.before).state xid) plan

-- On every link of which the client keeps its law no message is refused of a call in a form that isn't given.
abbrev pub NoOwnPlanIsRefused : Type 0
NoOwnPlanIsRefused = (opened : LinkParameters) (link : ℕ) (run : List Mark) (xid : ℕ) →
    IsTyped run → AskedSoFar opened link run → (refused : HasRefusedMessage opened link run xid) → IsNotGiven refused.has.form → ⊥

-- ---- When a plain server replies

-- On a matched link whose calls are answered as a plain server answers, and whose client sends no calls again but such as were planned, a call in
-- form Auto that completes has a reply.
abbrev pub AutoHasReplies : Type 0
AutoHasReplies = (reply_to : List Entry → Moment → List ℕ → Option (List ℕ)) (adds : Moment → List ℕ → List ℕ → List Entry)
    (opened : LinkParameters) (link : ℕ) (run earlier before : List Mark) (call : Call) (xid : ℕ) (outcome : Outcome) →
    ResumesArePlanned opened → KeepsReplyLimits (server_with reply_to adds) → HasPlainReplies (server_with reply_to adds) link run → IsTyped run → MatchedSoFar opened link run →
    MarkAt run earlier (marks.Submit link call forms.Auto (submissions.Accepted xid)) →
    MarkAt run before (marks.Done link xid outcome) → (reply : List ℕ) × (outcome ≡ outcomes.Reply reply)

-- the answer that the offer of a pending call holds, if it does, as its call is executed with this payload and this reply
abbrev pub answer_held : LinkParameters → ℕ → List Mark → ℕ → List ℕ → List ℕ → Option Answer
answer_held opened link before xid payload reply =
    answer_of_target (offer_of (server opened link before).state xid) (server opened link before).state.down_max reply (target_of (call_of payload))

-- the reply to an executed call goes out: its offer holds an answer, and what is due for the call is the answer's RDMA Writes and its Send,
-- with Invalidate if that is agreed on and the offer has a segment
pub record IsAnswered (opened : LinkParameters) (link : ℕ) (before : List Mark) (xid : ℕ) (moment : Moment) (payload : List ℕ) (place : ℕ) (reply : List ℕ) : Type 0 where
  pub answer : Answer
  pub is_held : answer_held opened link before xid payload reply ≡ Some answer
  pub due : output_due opened link Responder (before ++ marks.Execute link xid moment payload place reply ∷ [])
      ≡ output_due opened link Responder before
      ++ (answer_writes (offer_of (server opened link before).state xid) answer
      ++ send_by (stag_named (server opened link before).state.invalidates (offer_of (server opened link before).state xid)) ((server opened link before).state.messages_queued + 1)
      (answer_message xid (credit_word (server opened link before).state) (offer_of (server opened link before).state xid) answer))

-- On every link, whatever its client sends, the reply to each executed call that adds an entry to the journal goes out.
abbrev pub ChangesAreAnswered : Type 0
ChangesAreAnswered = (reply_to : List Entry → Moment → List ℕ → Option (List ℕ)) (adds : Moment → List ℕ → List ℕ → List Entry)
    (opened : LinkParameters) (link : ℕ) (run before : List Mark) (xid : ℕ) (moment : Moment) (payload : List ℕ) (place : ℕ) (reply : List ℕ) →
    KeepsReplyLimits (server_with reply_to adds) → HasPlainReplies (server_with reply_to adds) link run → IsTyped run → ServedSoFar opened link run →
    MarkAt run before (marks.Execute link xid moment payload place reply) → adds moment payload reply ≢ [] →
    IsAnswered opened link before xid moment payload place reply

-- So on a matched link a call that was executed and completes with Chunk added nothing.
abbrev pub ChunkAddsNothing : Type 0
ChunkAddsNothing = (reply_to : List Entry → Moment → List ℕ → Option (List ℕ)) (adds : Moment → List ℕ → List ℕ → List Entry)
    (opened : LinkParameters) (link : ℕ) (run before done : List Mark) (xid : ℕ) (moment : Moment) (payload : List ℕ) (place : ℕ) (reply : List ℕ) →
    KeepsReplyLimits (server_with reply_to adds) → HasPlainReplies (server_with reply_to adds) link run → IsTyped run → MatchedSoFar opened link run →
    MarkAt run before (marks.Execute link xid moment payload place reply) → MarkAt run done (marks.Done link xid outcomes.Chunk) → adds moment payload reply ≡ []
