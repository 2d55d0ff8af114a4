-- A command that opened a session is one run of its link.
use Rattle.std.specs.Prelude.{◌≡◌, ⊤, ℕ, List, [], ◌++◌, length, map, Option, Some, IfSome, Result}
use Rattle.std.specs.List.{AllByRecursion}
use Rattle.std.specs.Io.KnownBytes.{Consumes}
use Rattle.nr_outside.specs.Streams.{SinkAt, SourceAt}
use Rattle.nr_links.specs.Links.{EndsLink, IsTold, LinkLog, ended_link}
use Rattle.nr_wire.specs.declared.hello.Side.TheVariants.{Initiator}
use Rattle.nr_reduce.specs.declared.call.Call.{Call}
use Rattle.nr_reduce.specs.declared.call.Outcome.{Outcome}
use Rattle.nr_reduce.specs.declared.mark.LinkParameters.{LinkParameters}
use Rattle.nr_reduce.specs.declared.mark.Mark.{Mark}
use Rattle.nr_reduce.specs.Asked.{AskedSoFar}
use Rattle.nr_reduce.specs.Credits.{KeepsGrant}
use Rattle.nr_reduce.specs.History.{AcceptedCall, CompletedCall, accepted_calls, bytes_received, bytes_sent, completed_calls}
use Rattle.nr_reduce.specs.Opening.{IsOpened, IsFirstLink, ClientOpened}
use Rattle.nr_words.specs.Lines.{Text}
use Rattle.nr_words.specs.declared.commands.Client.{Client}
use Rattle.nr_client.specs.declared.client_end.ClientEnd.{ClientEnd}
use Rattle.nr_client.specs.Dialing.{DialerAt, session_credits}
use Rattle.nr_client.specs.Steps.{WritesFirst}
use Rattle.nr_commands.specs.Running.{Runs, terms_of}
use Rattle.nr_commands.specs.Running.Runs.{NotOpened, Opened}
use Rattle.nr_commands.specs.Sessions.{SessionAt}
use Rattle.nr_service_laws.specs.Exchanges.{Exchanges, calls_in, outcomes_in, tells_text}
use Rattle.nr_service_laws.specs.ClientMarks.{AreMarksOf, IsOwn, IsWholeFor, IsWrittenAt, LacksOutcome, StandsAt, without_bytes}

-- known bytes of a new link are these later
abbrev pub AreThen : (known known' : Option (List ℕ)) → List ℕ → Type 0
AreThen known known' bytes = IfSome known (λ nothing. known' ≡ Some bytes)

-- the calls that a link's client accepted, and the outcomes that it handed over, each in order
abbrev pub calls_of : ℕ → List Mark → List Call
calls_of link run = map (λ (a : AcceptedCall). a.call) (accepted_calls link run)

abbrev pub outcomes_handed_over : ℕ → List Mark → List Outcome
outcomes_handed_over link run = map (λ (c : CompletedCall). c.outcome) (completed_calls link run)

-- One run of a link has all that a command did over a session, from its opening to the moment at which its link was hung up.
pub record IsCommandRun (opened : LinkParameters) (link : ℕ) (s s' : SessionAt) (log log' : Option LinkLog) (result : Result (Unit {0}) ClientEnd) (exchanges : Exchanges) : Type 0 where
  pub run : List Mark
  -- its link was not reopened, and its client has no number
  pub first_link : IsFirstLink opened
  pub unnumbered : opened.client.number ≡ 0
  -- It is a run of the client's side alone. The client keeps its law and the last grant.
  pub own : AllByRecursion (IsOwn link) run
  pub asked : AskedSoFar opened link run
  pub granted : KeepsGrant opened link run
  -- each time that bytes are fed, all output was written before
  pub first : WritesFirst opened link [] run
  pub written : IsWrittenAt exchanges.unanswered opened link run
  -- each Wrote writes all output that is due; only the one may fall short whose write failed
  pub whole : IsWholeFor result opened link [] run
  -- no message had brought an outcome of a call that was forgotten as one without an answer
  pub lacks : LacksOutcome exchanges.lost opened link run
  -- its calls are submitted, handed over and forgotten as the requests say, in their order
  pub marks_are : AreMarksOf link exchanges.made (without_bytes run)
  pub calls : calls_of link run ≡ calls_in exchanges.made
  pub outcomes : outcomes_handed_over link run ≡ outcomes_in exchanges.made
  -- The bytes of its marks are those of the link that was hung up. Bytes that were read are fed in no mark only if memory ran out for a frame.
  pub ahead : List ℕ
  pub given : AreThen s.bytes.given s'.bytes.given (bytes_received link Initiator run ++ ahead)
  pub left : Consumes s.bytes.left s'.bytes.left (bytes_received link Initiator run ++ ahead)
  pub taken : AreThen s.bytes.taken s'.bytes.taken (bytes_sent link Initiator run)
  pub count : s'.bytes.read ≡ length (bytes_received link Initiator run ++ ahead)
  -- over a dialer whose links are known the bytes of a new link are known
  pub told : IsTold log s.bytes.given s.bytes.left s.bytes.taken
  pub number : ℕ
  pub hung_up : EndsLink log log' (ended_link number s'.bytes.given s'.bytes.left s'.bytes.taken)
  pub stands : StandsAt result opened link s'.requester ahead run

-- the run of a command by what was done
abbrev pub HasRun : LinkParameters → ℕ → (c : Client Text) (before after : DialerAt) (input input' : SourceAt) (out out' : SinkAt) (result : Result (Unit {0}) ClientEnd)
    → Runs c before after input input' out out' result → Type 0
HasRun opened link c before after input input' out out' result (NotOpened end is fails same_input same_out) = ⊤
HasRun opened link c before after input input' out out' result (Opened dialed s s' opens prints closes) =
    IsCommandRun opened link s s' dialed.ended after.ended result
    (tells_text c.uid c.gid c.export c.action input input' out prints.written s s' prints.text prints.made)

-- A client that opened a session is opened with these first numbers and that wish, whatever its server is opened with.
abbrev pub CommandsHaveARun : Type 0
CommandsHaveARun =
    (c : Client Text) (before after : DialerAt) (input input' : SourceAt) (out out' : SinkAt) (result : Result (Unit {0}) ClientEnd)
    (runs : Runs c before after input input' out out' result) (opened : LinkParameters) (link : ℕ) →
    IsOpened opened → opened.first_xid ≡ 1 → opened.first_stag ≡ 1 → ClientOpened opened session_credits (terms_of c) →
    HasRun opened link c before after input input' out out' result runs
