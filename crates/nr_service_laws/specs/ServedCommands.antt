-- A command whose link is a side of a matched link.
use Rattle.std.specs.Prelude.{◌≡◌, ⊤, ℕ, Bool, false, ◌==◌, ◌&&◌, List, Option, Result}
use Rattle.std.specs.List.{AllByRecursion, filter}
use Rattle.nr_outside.specs.Streams.{SinkAt, SourceAt}
use Rattle.nr_outside.specs.declared.moment.Moment.{Moment}
use Rattle.nr_wire.specs.declared.hello.Side.TheVariants.{Initiator}
use Rattle.nr_reduce.specs.declared.mark.Entry.{Entry}
use Rattle.nr_reduce.specs.declared.mark.LinkParameters.{LinkParameters}
use Rattle.nr_reduce.specs.declared.mark.Mark.{Mark}
use Rattle.nr_reduce.specs.declared.mark.Mark.TheVariants as marks
use Rattle.nr_reduce.specs.History.{same_side}
use Rattle.nr_reduce.specs.KeepsReplyLimits.{KeepsReplyLimits}
use Rattle.nr_laws.specs.MatchedSoFar.{MatchedSoFar}
use Rattle.nr_laws.specs.PlainLinks.{HasPlainReplies, server_with}
use Rattle.nr_laws.specs.Typed.{IsTyped}
use Rattle.nr_laws.specs.Resuming.{ResumesArePlanned}
use Rattle.nr_words.specs.Lines.{Text}
use Rattle.nr_words.specs.declared.commands.Client.{Client}
use Rattle.nr_client.specs.declared.client_end.ClientEnd.{ClientEnd}
use Rattle.nr_client.specs.Dialing.{DialerAt}
use Rattle.nr_commands.specs.Running.{Runs}
use Rattle.nr_commands.specs.Running.Runs.{NotOpened, Opened}
use Rattle.nr_commands.specs.Sessions.{CountsFaults}
use Rattle.nr_service_laws.specs.ClientMarks.{IsOwn}
use Rattle.nr_service_laws.specs.CommandEnds.{AreReplies, ResultCanFollowReplies}
use Rattle.nr_service_laws.specs.CommandRuns.{IsCommandRun, outcomes_handed_over}
use Rattle.nr_service_laws.specs.Exchanges.{tells_text}

-- whether a mark is one of the client of this link
abbrev pub is_client_mark : ℕ → Mark → Bool
is_client_mark link (marks.Wrote l side bytes) = l == link && same_side side Initiator
is_client_mark link (marks.Fed l side bytes) = l == link && same_side side Initiator
is_client_mark link (marks.Submit l call form answer) = l == link
is_client_mark link (marks.Done l xid outcome) = l == link
is_client_mark link (marks.Lost l xid) = l == link
is_client_mark link (marks.Forget l xid) = l == link
is_client_mark link (marks.Revoke l xid bytes) = l == link
is_client_mark link mark = false

abbrev pub client_marks : ℕ → List Mark → List Mark
client_marks link both = filter (is_client_mark link) both

-- A run has both sides of a link, whose client has made these marks. The link is matched so far, and calls are answered as a plain server answers
-- that keeps what `KeepsReplyLimits` says.
pub record IsClientSideOf (reply_to : List Entry → Moment → List ℕ → Option (List ℕ)) (adds : Moment → List ℕ → List ℕ → List Entry) (opened : LinkParameters) (link : ℕ) (run both : List Mark) : Type 0 where
  pub client_side : client_marks link both ≡ run
  pub typed : IsTyped both
  pub matched : MatchedSoFar opened link both
  pub limits : KeepsReplyLimits (server_with reply_to adds)
  pub plain : HasPlainReplies (server_with reply_to adds) link both

-- Then each outcome that a client of such marks handed over is a reply, if it sends no calls again but such as were planned.
abbrev pub ServedClientsHaveReplies : Type 0
ServedClientsHaveReplies =
    (reply_to : List Entry → Moment → List ℕ → Option (List ℕ)) (adds : Moment → List ℕ → List ℕ → List Entry) (opened : LinkParameters) (link : ℕ) (run both : List Mark) →
    ResumesArePlanned opened → AllByRecursion (IsOwn link) run → IsClientSideOf reply_to adds opened link run both → AreReplies (outcomes_handed_over link run)

-- So a command of which a run of its link is such a side ends by the replies or for another reason, but not for ERR_CHUNK or another version.
abbrev pub EndsServed : (opened : LinkParameters) (link : ℕ) (c : Client Text) (before after : DialerAt) (input input' : SourceAt) (out out' : SinkAt) (result : Result (Unit {0}) ClientEnd)
    → (runs : Runs c before after input input' out out' result) → Type 0
EndsServed opened link c before after input input' out out' result (NotOpened end is fails same_input same_out) = ⊤
EndsServed opened link c before after input input' out out' result (Opened dialed s s' opens prints closes) =
    (ran : IsCommandRun opened link s s' dialed.ended after.ended result (tells_text c.uid c.gid c.export c.action input input' out prints.written s s' prints.text prints.made)) →
    (reply_to : List Entry → Moment → List ℕ → Option (List ℕ)) (adds : Moment → List ℕ → List ℕ → List Entry) (both : List Mark) → IsClientSideOf reply_to adds opened link ran.run both →
    CountsFaults s s' result × ResultCanFollowReplies result

abbrev pub ServedCommandsExcludeEnds : Type 0
ServedCommandsExcludeEnds =
    (opened : LinkParameters) (link : ℕ) (c : Client Text) (before after : DialerAt) (input input' : SourceAt) (out out' : SinkAt) (result : Result (Unit {0}) ClientEnd)
    (runs : Runs c before after input input' out out' result) → EndsServed opened link c before after input input' out out' result runs
