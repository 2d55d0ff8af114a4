-- What a drill promises: its run follows the script, both ends of each link keep their laws, and what these mean to callers.
use Rattle.std.specs.Prelude.{◌≡◌, ◌≢◌, ℕ, ◌≤◌, true, false, List, [], ◌∷◌, ◌++◌, None, Some, ◌↔◌, Contains}
use Rattle.std.specs.List.{flat_map, list_any}
use Rattle.nr_wire.specs.declared.hello.Side.TheVariants.{Initiator, Responder}
use Rattle.nr_reduce.specs.declared.call.Call.{Call}
use Rattle.nr_reduce.specs.declared.call.Form.{Form}
use Rattle.nr_reduce.specs.declared.call.Form.TheVariants as forms
use Rattle.nr_reduce.specs.declared.call.Outcome.{Outcome}
use Rattle.nr_reduce.specs.declared.call.Outcome.TheVariants as outcomes
use Rattle.nr_reduce.specs.declared.call.Submission.TheVariants as submissions
use Rattle.nr_reduce.specs.declared.mark.Entry.{Entry}
use Rattle.nr_reduce.specs.declared.mark.TaggedEntry.{TaggedEntry}
use Rattle.nr_outside.specs.declared.moment.Moment.{Moment}
use Rattle.nr_reduce.specs.declared.mark.Mark.{Mark}
use Rattle.nr_reduce.specs.declared.mark.Mark.TheVariants as marks
use Rattle.nr_reduce.specs.declared.mark.LinkParameters.{LinkParameters}
use Rattle.nr_reduce.specs.declared.outline.Plan.{Plan}
use Rattle.nr_reduce.specs.PlainJournal.{PlainServer}
use Rattle.nr_reduce.specs.NumberedJournal.{JournaledByNumber, HasNoEntryTwice, entries_alone, number_heard}
use Rattle.nr_reduce.specs.ClientState.{call_payload}
use Rattle.nr_reduce.specs.History.{AcceptedCall, completed_calls, bytes_sent, bytes_received, is_dropped}
use Rattle.nr_reduce.specs.OutcomesDue.{outcomes_due}
use Rattle.nr_reduce.specs.Run.{end_of_side}
use Rattle.nr_reduce.specs.Asked.{Asked}
use Rattle.nr_reduce.specs.Served.{Served}
use Rattle.nr_reduce.specs.Matched.{Matched}
use Rattle.nr_reduce.specs.Credits.{KeepsGrant}
use Rattle.nr_laws.specs.MarkAt.{MarkAt}
use Rattle.nr_laws.specs.Typed.{IsTyped}
use Rattle.nr_laws.specs.Grant.{AcceptsByRule}
use Rattle.nr_laws.specs.Payloads.{HasPlan, form_conveyed}
use Rattle.nr_laws.specs.OnceEach.{IsAskedFor, HasEntry}
use Rattle.nr_laws.specs.PlainReplies.{HasPlainReply}
use Rattle.nr_laws.specs.ChunkOutcomes.{HasChunkCause, IsAnswered}
use Rattle.nr_laws.specs.Completion.{HaveCompleted, HasOutcome, IsAwaitedStill, NothingInTransit}
use Rattle.nr_laws.specs.Stays.{HasNoRevoke, AreConveyedOrRefused}
use Rattle.nr_drill.specs.declared.report.Report.{Report}
use Rattle.nr_drill.specs.declared.report.LinkLog.{LinkLog}
use Rattle.nr_script.specs.Script.{ScriptLines}
use Rattle.nr_drill.specs.Drill.{SerialServer, Setting, IsLink, plain_of, client_of, answer_at, settles, is_sent_again, journal_of}
use Rattle.nr_drill.specs.Follows.{Follows, HasRawLine, last_setting}
use Rattle.nr_drill.specs.Lines.{HasNoRaw, EndsWithDrain}
use Rattle.nr_drill.specs.Memory.{KeepsMemory}
use Rattle.nr_drill.specs.DrainSteps.{DrainStepsLeaveLess}
use Rattle.nr_drill.specs.Reports.{call_reports, link_reports}

-- ===== one link

-- Whatever the script, hostile bytes too: both ends keep their laws in full; each call is accepted by the client's rule, so within the grant;
-- each outcome that is due has been handed over; and if no line is a `raw` line of its client, or none puts bytes into its own pipes, each side
-- receives what the other sent.
pub record KeepsLaws (server : SerialServer) (script : ScriptLines) (opened : LinkParameters) (client link : ℕ) (run : List Mark) : Type 0 where
  pub asked : Asked opened link run
  pub served : Served opened link run
  pub accepts : AcceptsByRule opened link run
  pub grant : KeepsGrant opened link run
  pub handed : outcomes_due opened link run ≡ []
  pub matched : HasNoRaw script.lines client → Matched link run
  pub matched_alone : (HasRawLine server script link → ⊥) → Matched link run

-- A call that completes: with the plain server's reply at its place in the one journal; else with Chunk, if its message is refused or its
-- offer doesn't hold the reply; never with another version.
pub record Completes (plain : PlainServer) (J : List Entry) (opened : LinkParameters) (link : ℕ) (run : List Mark) : Type 0 where
  pub reply : (before : List Mark) (xid : ℕ) (reply : List ℕ) → MarkAt run before (marks.Done link xid (outcomes.Reply reply)) →
      (plan : Plan) × (has : HasPlan opened link before xid plan) × HasPlainReply plain J link before xid has.call has.form reply
  pub chunk : (before : List Mark) (xid : ℕ) (outcome : Outcome) → MarkAt run before (marks.Done link xid outcome) → (outcome ≡ outcomes.Chunk) ↔ HasChunkCause opened link before xid
  pub version : (before : List Mark) (xid low high : ℕ) → MarkAt run before (marks.Done link xid (outcomes.Version low high)) → ⊥
  pub auto : (earlier before : List Mark) (call : Call) (xid : ℕ) (outcome : Outcome) → MarkAt run earlier (marks.Submit link call forms.Auto (submissions.Accepted xid)) →
      MarkAt run before (marks.Done link xid outcome) → (reply : List ℕ) × (outcome ≡ outcomes.Reply reply)

-- The reply to each executed call that adds an entry goes out.
abbrev pub AnswersChanges : SerialServer → LinkParameters → ℕ → List Mark → Type 0
AnswersChanges server opened link run = (before : List Mark) (xid : ℕ) (moment : Moment) (payload : List ℕ) (place : ℕ) (reply : List ℕ) →
    MarkAt run before (marks.Execute link xid moment payload place reply) → server.adds moment payload reply ≢ [] → IsAnswered opened link before xid moment payload place reply

-- Neither side ends, and after a last drain all calls have completed, each that wasn't given up with its Done. And of each call line of the client that
-- was accepted, on whichever of its links, the outcome has been handed over on one of them, or it was given up.
pub record Stays (s : Setting) (script : ScriptLines) (client link : ℕ) (run : List Mark) : Type 0 where
  pub client_stays : end_of_side (s.opened link) link Initiator run ≡ None
  pub server_stays : end_of_side (s.opened link) link Responder run ≡ None
  pub complete : EndsWithDrain script client → NothingInTransit (s.opened link) link run × HaveCompleted (s.opened link) link run
  pub done : EndsWithDrain script client → (a : AcceptedCall) → IsAwaitedStill link run a → HasOutcome (completed_calls link run) a.xid
  pub settled : EndsWithDrain script client → (xid : ℕ) → Contains (flat_map (answer_at s client) run) (submissions.Accepted xid) → list_any (settles s client xid) run ≡ true

-- ===== the run

-- A link is matched, and so is each link that its client had before.
abbrev pub IsMatchedFromFirst : Setting → List Mark → ℕ → Type 0
IsMatchedFromFirst s run link = (earlier : ℕ) → 1 ≤ earlier → earlier ≤ link → client_of s earlier ≡ client_of s link → Matched earlier run

-- A call is submitted on a link for the first time, after the outcome of another was handed over. Its place isn't smaller, on whichever of its
-- client's links it is executed.
abbrev pub PlacesRise : Setting → (link other_link executing : ℕ) → List Mark → Type 0
PlacesRise s link other_link executing run = (before between before_first before_second : List Mark) (call : Call) (form : Form) (xid other_xid : ℕ) (outcome : Outcome)
    (moment other_moment : Moment) (payload other_payload : List ℕ) (place other_place : ℕ) (reply other_reply : List ℕ) →
    MarkAt run (before ++ marks.Done link xid outcome ∷ between) (marks.Submit other_link call form (submissions.Accepted other_xid)) →
    is_sent_again s other_link (submissions.Accepted other_xid) ≡ false →
    MarkAt run before_first (marks.Execute link xid moment payload place reply) →
    MarkAt run before_second (marks.Execute executing other_xid other_moment other_payload other_place other_reply) → place ≤ other_place

-- ===== each change once

-- a call that completes on a link of a client that has a number, with a reply that adds an entry, has its entry
abbrev pub ChangesHaveEntries : SerialServer → List TaggedEntry → (ℕ → LinkParameters) → ℕ → List Mark → Type 0
ChangesHaveEntries server T opened link run = (before : List Mark) (xid : ℕ) (call : Call) (form : Form) (moment : Moment) (payload reply : List ℕ) →
    IsAskedFor opened link run xid call form → MarkAt run before (marks.Done link xid (outcomes.Reply reply)) →
    form_conveyed form (call_payload xid call) ≡ Some payload → server.adds moment payload reply ≢ [] →
    HasEntry (plain_of server) T (opened link).client.number xid payload reply

-- What is promised of the run of a drill. `last_setting follows` says what its links were opened with: the first link of each client as the first
-- line of the script says, and a later one as it was reopened from the one before. A link is matched if no line puts bytes into its pipes (`laws`); it
-- may be if one does, as when these bytes are never fed.
pub record IsDrillRun (server : SerialServer) (script : ScriptLines) (run : List Mark) : Type 0 where
  pub follows : Follows server script run
  pub typed : IsTyped run
  pub journaled : JournaledByNumber (plain_of server) (number_heard run) (journal_of (last_setting follows) run) run
  pub numbers : (link : ℕ) → IsLink follows.last link → number_heard run link ≡ ((last_setting follows).opened link).client.number
  pub laws : (link : ℕ) → IsLink follows.last link → KeepsLaws server script ((last_setting follows).opened link) (client_of (last_setting follows) link) link run
  pub memory : (link : ℕ) → IsLink follows.last link → KeepsMemory ((last_setting follows).opened link) link run
  pub outcomes : (link : ℕ) → IsLink follows.last link → IsMatchedFromFirst (last_setting follows) run link →
      Completes (plain_of server) (entries_alone (journal_of (last_setting follows) run)) ((last_setting follows).opened link) link run
  pub changes : (link : ℕ) → IsLink follows.last link → AnswersChanges server ((last_setting follows).opened link) link run
  pub places : (link other_link executing : ℕ) → IsLink follows.last link → IsLink follows.last other_link → IsLink follows.last executing →
      client_of (last_setting follows) other_link ≡ client_of (last_setting follows) executing → Matched link run → IsMatchedFromFirst (last_setting follows) run executing →
      PlacesRise (last_setting follows) link other_link executing run
  pub once : HasNoEntryTwice (journal_of (last_setting follows) run)
  pub entries : (link : ℕ) → IsLink follows.last link → ((last_setting follows).opened link).client.number ≢ 0 → IsMatchedFromFirst (last_setting follows) run link →
      ChangesHaveEntries server (journal_of (last_setting follows) run) (last_setting follows).opened link run
  pub staying : (link : ℕ) → IsLink follows.last link → IsMatchedFromFirst (last_setting follows) run link → is_dropped link run ≡ false → HasNoRevoke link run →
      AreConveyedOrRefused ((last_setting follows).opened link) link run → Stays (last_setting follows) script (client_of (last_setting follows) link) link run
  pub drains : (link : ℕ) → IsLink follows.last link → DrainStepsLeaveLess server script link

-- ===== the report

-- the log of a link: what each side wrote, and what each side was fed
abbrev pub log_of : List Mark → ℕ → LinkLog
log_of run link = record {
  client_wrote = bytes_sent link Initiator run;
  server_wrote = bytes_sent link Responder run;
  client_was_fed = bytes_received link Initiator run;
  server_was_fed = bytes_received link Responder run;
}

-- what a report says beside its marks is what the marks say
pub record Reports (server : SerialServer) (script : ScriptLines) (report : Report) : Type 0 where
  pub drill : IsDrillRun server script report.marks
  pub journal : report.journal ≡ entries_alone (journal_of (last_setting drill.follows) report.marks)
  pub calls : report.calls ≡ call_reports (last_setting drill.follows) drill.follows.last.last_links report.marks
  pub links : report.links ≡ link_reports (last_setting drill.follows) drill.follows.last.last_links report.marks
