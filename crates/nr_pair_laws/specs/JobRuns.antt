-- A `get` by several jobs as one run of its link.
use Rattle.std.specs.Prelude.{◌≡◌, ◌≢◌, ⊤, ℕ, ◌<◌, ◌^◌, List, [], ◌∷◌, ◌++◌, Option, Some, Result, Ok, Err}
use Rattle.std.specs.List.{AllByRecursion}
use Rattle.std.specs.Io.KnownBytes.{Consumes}
use Rattle.nr_xdr.specs.Item.{IsBytes}
use Rattle.nr_outside.specs.Streams.{SinkAt, SourceAt}
use Rattle.nr_links.specs.Links.{EndsLink, IsTold, LinkLog, ended_link}
use Rattle.nr_wire.specs.declared.hello.Side.TheVariants.{Initiator}
use Rattle.nr_link.specs.Agreement.{terms_with}
use Rattle.nr_link.specs.declared.end.End.TheVariants as ends
use Rattle.nr_reduce.specs.declared.call.Form.TheVariants as forms
use Rattle.nr_reduce.specs.declared.call.Submission.TheVariants as submissions
use Rattle.nr_reduce.specs.declared.mark.LinkParameters.{LinkParameters}
use Rattle.nr_reduce.specs.declared.mark.Mark.{Mark}
use Rattle.nr_reduce.specs.declared.mark.Mark.TheVariants as marks
use Rattle.nr_reduce.specs.Asked.{AskedSoFar}
use Rattle.nr_reduce.specs.Opening.{IsFirstLink}
use Rattle.nr_reduce.specs.Credits.{KeepsGrant}
use Rattle.nr_reduce.specs.History.{bytes_received, bytes_sent}
use Rattle.nr_shared.specs.declared.entry.Entry.{Entry}
use Rattle.nr_shared.specs.declared.entry.Stop.TheVariants as causes
use Rattle.nr_shared.specs.Histories.{stop_of}
use Rattle.nr_shared.specs.OneLink.{run_of}
use Rattle.nr_words.specs.Lines.{Text}
use Rattle.nr_words.specs.declared.commands.GetByJobs.{GetByJobs}
use Rattle.nr_shared.specs.declared.call_end.CallEnd.TheVariants as calls
use Rattle.nr_client.specs.declared.client_end.ClientEnd.{ClientEnd}
use Rattle.nr_client.specs.declared.client_end.ClientEnd.TheVariants as client
use Rattle.nr_client.specs.Dialing.{DialerAt}
use Rattle.nr_client.specs.Jobs.{ReadsFileByJobs, view_at}
use Rattle.nr_client.specs.Jobs.ReadsFileByJobs.{NoAttributes, Shared}
use Rattle.nr_client.specs.Requests.{getattr_call, getattr_result}
use Rattle.nr_commands.specs.ByJobs.{GetsByJobs, link_of}
use Rattle.nr_commands.specs.ByJobs.GetsByJobs.{Found, NotFound, NotOpened}
use Rattle.nr_commands.specs.Sessions.{SessionAt, sink_of, source_of}
use Rattle.nr_service_laws.specs.ClientMarks.{AreMarksOf, without_bytes}
use Rattle.nr_service_laws.specs.CommandRuns.{AreThen}
use Rattle.nr_service_laws.specs.CompleteCommands.{IsSession}
use Rattle.nr_service_laws.specs.Exchanges.{Exchange, asked_exchanges, tells_finds}
use Rattle.nr_service_laws.specs.Exchanges.Exchange.{Answered}

-- A mark of the client of this link, whose requester callers may share: each call is accepted in the form that fits it
-- best.
abbrev pub IsJobMark : ℕ → Mark → Type 0
IsJobMark link (marks.Wrote l Initiator bytes) = l ≡ link
IsJobMark link (marks.Fed l Initiator bytes) = l ≡ link
IsJobMark link (marks.Submit l call forms.Auto (submissions.Accepted xid)) = l ≡ link
IsJobMark link (marks.Done l xid outcome) = l ≡ link
IsJobMark link (marks.Lost l xid) = l ≡ link
IsJobMark link (marks.Forget l xid) = l ≡ link
IsJobMark link (marks.Revoke l xid bytes) = l ≡ link
IsJobMark link mark = ⊥

-- One run of a link has all that was done over a session, from its opening to the moment at which its link was hung up,
-- with this source and this sink: these exchanges, and then what the history of its requester says, if callers shared it.
pub record IsJobsRun (opened : LinkParameters) (link : ℕ) (s : SessionAt) (source : SourceAt) (sink : SinkAt) (log log' : Option LinkLog)
    (result : Result (Unit {0}) ClientEnd) (made : List Exchange) (history : List Entry) : Type 0 where
  pub run : List Mark
  -- its link was not reopened, and its client has no number
  pub first_link : IsFirstLink opened
  pub unnumbered : opened.client.number ≡ 0
  -- It is a run of the client's side alone. The client keeps its law and the last grant.
  pub own : AllByRecursion (IsJobMark link) run
  pub asked : AskedSoFar opened link run
  pub granted : KeepsGrant opened link run
  -- the marks of the exchanges, and how many bytes were fed of the piece of the history at which memory ran out, if it did
  pub alone : List Mark
  pub fed : ℕ
  pub run_is : run ≡ run_of alone fed link history
  pub marks_are : AreMarksOf link made (without_bytes alone)
  -- The bytes of its marks are those of the link that was hung up. Bytes that were read are fed in no mark only if memory ran out for a frame.
  pub ahead : List ℕ
  pub all_fed : stop_of history ≢ Some causes.Memory → result ≢ Err (client.Link (calls.Ended ends.Memory)) → ahead ≡ []
  pub given : AreThen s.bytes.given source.given (bytes_received link Initiator run ++ ahead)
  pub left : Consumes s.bytes.left source.left (bytes_received link Initiator run ++ ahead)
  pub taken : AreThen s.bytes.taken sink.taken (bytes_sent link Initiator run)
  -- over a dialer whose links are known the bytes of a new link are known
  pub told : IsTold log s.bytes.given s.bytes.left s.bytes.taken
  pub number : ℕ
  pub hung_up : EndsLink log log' (ended_link number source.given source.left sink.taken)

-- What is said of a session over which a file was found, and then read: of its exchanges up to GETATTR, and of the complete
-- history of the requester if callers shared it, as they do if GETATTR gives a size.
abbrev pub SaysOfFile : (Says : (source : SourceAt) (sink : SinkAt) → List Exchange → List Entry → Type 0) (found : List Exchange) (uid gid : ℕ) (file : List ℕ) (s : SessionAt) (source : SourceAt) (sink : SinkAt)
    (taken taken' : Option (List ℕ)) (result : Result (Unit {0}) ClientEnd) → ReadsFileByJobs uid gid file (link_of s) source sink taken taken' result → Type 0
SaysOfFile Says found uid gid file s source sink taken taken' result (NoAttributes link end gets is same none) =
    Says source sink (found ++ (asked_exchanges getattr_result (getattr_call uid gid file) (view_at (link_of s)) (view_at link) (Err end) gets.asks).made) []
SaysOfFile Says found uid gid file s source sink taken taken' result (Shared link outcome attributes gets shared) =
    Says source sink (found ++ Answered (getattr_call uid gid file) outcome ∷ []) shared.back.history

-- What is said of a `get` by jobs that opened a session: of the session and its link as it was hung up, of the exchanges
-- before its requester was shared, and of the history of the shared requester.
abbrev pub SaysOfJobs : (get : GetByJobs Text) (before after : DialerAt) (out out' : SinkAt) (result : Result (Unit {0}) ClientEnd)
    (Says : (dialed : DialerAt) (s : SessionAt) (source : SourceAt) (sink : SinkAt) → List Exchange → List Entry → Type 0) → GetsByJobs get before after out out' result → Type 0
SaysOfJobs get before after out out' result Says (NotOpened end is fails same) = ⊤
SaysOfJobs get before after out out' result Says (NotFound dialed s s' end opens finds is same closes) =
    Says dialed s (source_of s') (sink_of s') (tells_finds get.uid get.gid get.export get.path s s' (Err end) finds).made []
SaysOfJobs get before after out out' result Says (Found dialed s s' file opens finds hangs) =
    SaysOfFile (Says dialed s) (tells_finds get.uid get.gid get.export get.path s s' (Ok file) finds).made get.uid get.gid file s' hangs.source hangs.sink out.taken out'.taken result hangs.reads

-- Such a `get` is one run of its link.
abbrev pub JobsHaveARun : Type 0
JobsHaveARun =
    (get : GetByJobs Text) (before after : DialerAt) (out out' : SinkAt) (result : Result (Unit {0}) ClientEnd) (gets : GetsByJobs get before after out out' result) (opened : LinkParameters) (link : ℕ) →
    IsSession opened (terms_with get.units get.invalidates) →
    SaysOfJobs get before after out out' result (λ dialed s source sink made history. IsJobsRun opened link s source sink dialed.ended after.ended result made history) gets

-- The user and the group of a `get` are 32-bit words, and what it names are bytes.
pub record IsGetOfBytes (get : GetByJobs Text) : Type 0 where
  pub uid : get.uid < 2 ^ 32
  pub gid : get.gid < 2 ^ 32
  pub export : IsBytes get.export
  pub path : IsBytes get.path
