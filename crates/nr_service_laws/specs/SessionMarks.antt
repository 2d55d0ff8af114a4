-- What each request of a session makes of the marks that its requester stands for.
use Rattle.std.specs.Prelude.{◌≡◌, ◌≢◌, ℕ, ◌+◌, List, ◌++◌, length, Result, Err, [], Option}
use Rattle.std.specs.List.{AllByRecursion}
use Rattle.std.specs.Io.KnownBytes.{Appends}
use Rattle.nr_outside.specs.Content.{HandsOut}
use Rattle.nr_wire.specs.declared.hello.Side.TheVariants.{Initiator}
use Rattle.nr_reduce.specs.declared.mark.LinkParameters.{LinkParameters}
use Rattle.nr_reduce.specs.declared.mark.Mark.{Mark}
use Rattle.nr_reduce.specs.History.{bytes_received, bytes_sent}
use Rattle.nr_link.specs.declared.agreement.SideTerms.{SideTerms}
use Rattle.nr_reduce.specs.Opening.{IsOpened, ClientOpened}
use Rattle.nr_requester.specs.RequesterState.{RequesterSide}
use Rattle.nr_link.specs.declared.end.End.TheVariants as ends
use Rattle.nr_shared.specs.declared.call_end.CallEnd.TheVariants as calls
use Rattle.nr_client.specs.declared.client_end.ClientEnd.{ClientEnd}
use Rattle.nr_client.specs.declared.client_end.ClientEnd.TheVariants as client
use Rattle.nr_client.specs.Steps.{IsLive, WritesFirst}
use Rattle.nr_client.specs.Transfers.{LinkBytes}
use Rattle.nr_client.specs.Views.{LinkView}
use Rattle.nr_reduce.specs.declared.call.Call.{Call}
use Rattle.nr_reduce.specs.declared.call.Outcome.{Outcome}
use Rattle.nr_client.specs.Following.{Follows, Next}
use Rattle.nr_client.specs.Reading.{ReadsFile}
use Rattle.nr_client.specs.Requests.{Asks}
use Rattle.nr_client.specs.Writing.{WritesFile}
use Rattle.nr_client.specs.Dialing.{DialerAt, session_credits}
use Rattle.nr_commands.specs.Running.{Opens}
use Rattle.nr_commands.specs.Sessions.{SessionAt}
use Rattle.nr_service_laws.specs.ClientMarks.{AreMarksOf, IsOwn, IsWholeFor, IsWrittenAt, LacksOutcome, StandsAt, without_bytes}
use Rattle.nr_service_laws.specs.Exchanges.{Exchange, Exchanges, and_then, asked_exchanges, followed_exchanges, outcomes_in, read_exchanges, write_exchanges}

-- These marks follow a run. They are marks of the client of the link, have these exchanges, and bring its bytes from one moment to another.
pub record Extends (opened : LinkParameters) (link : ℕ) (run : List Mark) (b b' : LinkBytes) (ahead : List ℕ) (made : List Exchange) (more : List Mark) : Type 0 where
  pub own : AllByRecursion (IsOwn link) more
  pub handed : HandsOut b.left b.given b'.left b'.given (bytes_received link Initiator more ++ ahead)
  pub taken : Appends b.taken b'.taken (bytes_sent link Initiator more)
  pub count : b.read + length (bytes_received link Initiator more ++ ahead) ≡ b'.read
  pub first : WritesFirst opened link run more
  pub marks_are : AreMarksOf link made (without_bytes more)

-- Something was done after a run: these marks more were made, and the requester stands for all.
pub record Does {A : Type 0} (result : Result A ClientEnd) (opened : LinkParameters) (link : ℕ) (run : List Mark) (b b' : LinkBytes) (h' : RequesterSide) (exchanges : Exchanges) : Type 0 where
  pub more : List Mark
  pub ahead : List ℕ
  pub extends : Extends opened link run b b' ahead exchanges.made more
  pub stands : StandsAt result opened link h' ahead (run ++ more)
  pub whole : IsWholeFor result opened link run more
  pub written : IsWrittenAt exchanges.unanswered opened link (run ++ more)
  pub lacks : LacksOutcome exchanges.lost opened link (run ++ more)

-- so it is for all marks that the requester stood for
abbrev pub HasDone : {A : Type 0} → Result A ClientEnd → (v w : LinkView) → Exchanges → Type 0
HasDone result v w exchanges =
    (opened : LinkParameters) (link : ℕ) (run : List Mark) → IsOpened opened → IsLive opened link v.requester run → Does result opened link run v.bytes w.bytes w.requester exchanges

-- ---- Each request of a session

-- a request of one call; a request of several calls
abbrev pub AsksHaveMarks : Type 0 → Type 0
AsksHaveMarks A =
    (reads : Outcome → Result A ClientEnd) (call : Call) (v w : LinkView) (result : Result A ClientEnd) (asks : Asks reads call v w result) →
    HasDone result v w (asked_exchanges reads call v w result asks)

abbrev pub FollowsHaveMarks : Type 0 → Type 0
FollowsHaveMarks A =
    (request : List Outcome → Next A) (v w : LinkView) (result : Result A ClientEnd) (follows : Follows request v w result) →
    HasDone result v w (followed_exchanges request v w result follows)

-- a file is read; a file is written
abbrev pub ReadsHaveMarks : Type 0
ReadsHaveMarks =
    (uid gid : ℕ) (file : List ℕ) (v w : LinkView) (taken taken' : Option (List ℕ)) (result : Result (Unit {0}) ClientEnd)
    (reads : ReadsFile uid gid file v w taken taken' result) →
    HasDone result v w (read_exchanges uid gid file v w taken taken' result reads)

abbrev pub WritesHaveMarks : Type 0
WritesHaveMarks =
    (uid gid : ℕ) (dir name : List ℕ) (v w : LinkView) (left given left' given' : Option (List ℕ)) (result : Result (Unit {0}) ClientEnd)
    (writes : WritesFile uid gid dir name v w left given left' given' result) →
    HasDone result v w (write_exchanges uid gid dir name v w left given left' given' result writes)

-- The outcomes that are handed over by these marks are the ones from which each call and the result of a request follow.
abbrev pub FollowsOutcomes : Type 0 → Type 0
FollowsOutcomes A =
    (request : List Outcome → Next A) (v w : LinkView) (result : Result A ClientEnd) (follows : Follows request v w result) →
    outcomes_in (followed_exchanges request v w result follows).made ≡ follows.outcomes

abbrev pub ReadsInOrder : Type 0
ReadsInOrder =
    (uid gid : ℕ) (file : List ℕ) (v w : LinkView) (taken taken' : Option (List ℕ)) (result : Result (Unit {0}) ClientEnd)
    (reads : ReadsFile uid gid file v w taken taken' result) →
    outcomes_in (read_exchanges uid gid file v w taken taken' result reads).made ≡ reads.last.outcomes

-- A session goes on after this result: no write failed, and memory didn't run out for a frame.
pub record LetsGoOn {A : Type 0} (result : Result A ClientEnd) : Type 0 where
  pub written : result ≢ Err (client.Link calls.LinkWrite)
  pub fed : result ≢ Err (client.Link (calls.Ended ends.Memory))

-- Two of them one after another, whatever the first gives after which a session goes on: a value, or a refusal of the server.
abbrev pub MarksGoOn : Type 0 → Type 0 → Type 0
MarksGoOn A B =
    (given : Result A ClientEnd) (result : Result B ClientEnd) (u v w : LinkView) (first later : Exchanges) →
    LetsGoOn given → HasDone given u v first → HasDone result v w later → HasDone result u w (and_then first later)

-- A session that was opened stands for no marks.
abbrev pub SessionsBegin : Type 0
SessionsBegin =
    (addr : List ℕ) (terms : SideTerms) (before after : DialerAt) (s : SessionAt) (opened : LinkParameters) (link : ℕ) →
    Opens addr terms before after s → opened.first_xid ≡ 1 → opened.first_stag ≡ 1 → ClientOpened opened session_credits terms → IsLive opened link s.requester []
