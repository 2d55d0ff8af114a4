-- A report that is being made: what is known after some marks of a run.
use Rattle.std.specs.Prelude.{◌≡◌, ℕ, ◌+◌, ◌-◌, ◌≤◌, ◌<◌, nat_le, Bool, true, false, not, ◌==◌, ◌&&◌, if◌then◌else◌, List, [], ◌∷◌, ◌++◌, length, map, count_by, replicate, slice_get, slice_set, slice_index_or, Option, None, Some, MatchOption, is_some}
use Rattle.std.specs.List.{flat_map}
use Rattle.nr_wire.specs.declared.hello.Side.TheVariants.{Initiator, Responder}
use Rattle.nr_outside.specs.declared.moment.Moment.{Moment}
use Rattle.nr_reduce.specs.declared.call.Outcome.{Outcome}
use Rattle.nr_reduce.specs.declared.call.Submission.{Submission}
use Rattle.nr_reduce.specs.declared.call.Submission.TheVariants as submissions
use Rattle.nr_reduce.specs.declared.mark.Entry.{Entry}
use Rattle.nr_reduce.specs.declared.mark.Mark.{Mark}
use Rattle.nr_reduce.specs.declared.mark.Mark.TheVariants as marks
use Rattle.nr_reduce.specs.NumberedJournal.{entries_alone}
use Rattle.nr_reduce.specs.History.{executed_calls, written_at, fed_at}
use Rattle.nr_reduce.specs.AtEachMark.{AtEachMark}
use Rattle.nr_plain.specs.Added.{entries_of_call}
use Rattle.nr_drill.specs.declared.report.CallState.{CallState}
use Rattle.nr_drill.specs.declared.report.CallState.TheVariants as states
use Rattle.nr_drill.specs.declared.report.CallReport.{CallReport}
use Rattle.nr_drill.specs.declared.report.LinkState.TheVariants as links
use Rattle.nr_drill.specs.declared.report.LinkReport.{LinkReport}
use Rattle.nr_drill.specs.declared.report.LinkEnds.{LinkEnds}
use Rattle.nr_drill.specs.declared.report.LinkLog.{LinkLog}
use Rattle.nr_drill.specs.declared.call_table.CallTable.{CallTable}
use Rattle.nr_drill.specs.declared.draft.Draft.{Draft}
use Rattle.nr_drill.specs.declared.call_table.Execution.{Execution}
use Rattle.nr_drill.specs.Drill.{Setting, link_of, client_of, is_sent_again, journal_of}
use Rattle.nr_drill.specs.Reports.{submitted_state, becomes, place_shown, is_open_as, number_of, last_place, lost_if, reports_after, side_report}

-- ===== what a mark makes of a draft

-- the client of a link, by the clients of all links in order
abbrev pub client_in : List ℕ → ℕ → ℕ
client_in clients link = slice_index_or clients (link - 1) 0

abbrev pub index_of_answer : ℕ → Submission → List ℕ
index_of_answer at (submissions.Accepted xid) = at ∷ []
index_of_answer at (submissions.Refused why) = []
index_of_answer at submissions.Dropped = []

-- a call line more, whose report has this index
pub record AddsLine (at : ℕ) (answer : Submission) (old new : CallTable) : Type 0 where
  pub lines : new.lines ≡ old.lines + 1
  pub reports : new.reports.items ≡ old.reports.items ++ index_of_answer at answer
  pub places : new.places.items ≡ old.places.items

-- an xid was executed
abbrev pub with_place : ℕ → Execution → List (Option Execution) → List (Option Execution)
with_place xid e places = if xid == 0 then places else slice_set places (xid - 1) (Some e)

pub record AddsPlace (xid : ℕ) (e : Execution) (old new : CallTable) : Type 0 where
  pub lines : new.lines ≡ old.lines
  pub reports : new.reports.items ≡ old.reports.items
  pub places : new.places.items ≡ with_place xid e old.places.items

-- the place of an execution, if it was on this link
abbrev pub place_on : ℕ → Option Execution → Option ℕ
place_on link None = None
place_on link (Some e) = if e.link == link then Some e.place else None

abbrev pub in_table : {X : Type 0} → (CallTable → Option X) → Option CallTable → Option X
in_table f None = None
in_table f (Some table) = f table

-- a call is sent again if it has the xid of an earlier one
abbrev pub is_earlier : Submission → ℕ → Bool
is_earlier (submissions.Accepted xid) count = nat_le xid count
is_earlier (submissions.Refused why) count = false
is_earlier submissions.Dropped count = false

abbrev pub is_earlier_in : Submission → Option CallTable → Bool
is_earlier_in answer None = false
is_earlier_in answer (Some t) = is_earlier answer (length t.reports.items)

unfoldable pub is_again : ℕ → Submission → Draft → Bool
is_again client answer d = is_earlier_in answer (slice_get d.tables.items (client - 1))

pub record Same (old new : Draft) : Type 0 where
  pub calls : new.calls.items ≡ old.calls.items
  pub tables : new.tables.items ≡ old.tables.items
  pub journal : new.journal.items ≡ old.journal.items

-- a new call was submitted, whose client has this table
pub record Submitted (client : ℕ) (answer : Submission) (old new : Draft) (table : CallTable) : Type 0 where
  pub changed : CallTable
  pub adds : AddsLine (length old.calls.items) answer table changed
  pub tables : new.tables.items ≡ slice_set old.tables.items (client - 1) changed
  pub calls : new.calls.items ≡ old.calls.items ++ record { client = client; number = table.lines + 1; state = submitted_state answer } ∷ []
  pub journal : new.journal.items ≡ old.journal.items

-- a call that is sent again has its report
abbrev pub SubmittedIf : Bool → ℕ → Submission → Draft → Draft → Type 0
SubmittedIf true client answer old new = Same old new
SubmittedIf false client answer old new = MatchOption (slice_get old.tables.items (client - 1)) (Unit {0}) (Submitted client answer old new)

-- The entries that a call adds: none if it isn't executed at the journal's end, since then it has an entry.
abbrev pub entries_if : Bool → Moment → List ℕ → List ℕ → List Entry
entries_if true moment payload reply = entries_of_call moment payload reply
entries_if false moment payload reply = []

-- a call was executed, whose client has this table
pub record Executed (client link xid place : ℕ) (moment : Moment) (payload reply : List ℕ) (old new : Draft) (table : CallTable) : Type 0 where
  pub changed : CallTable
  pub adds : AddsPlace xid (record { link = link; place = place }) table changed
  pub tables : new.tables.items ≡ slice_set old.tables.items (client - 1) changed
  pub calls : new.calls.items ≡ old.calls.items
  pub journal : new.journal.items ≡ old.journal.items ++ entries_if (place == length old.journal.items) moment payload reply

-- the index of the report of an accepted call of a client, and the place of its last execution on a link
unfoldable pub index_of : ℕ → ℕ → Draft → Option ℕ
index_of client xid d = in_table (λ t. slice_get t.reports.items (xid - 1)) (slice_get d.tables.items (client - 1))

unfoldable pub place_of : ℕ → ℕ → ℕ → Draft → Option ℕ
place_of client link xid d = in_table (λ t. place_on link (slice_index_or t.places.items (xid - 1) None)) (slice_get d.tables.items (client - 1))

-- the call lines after a mark that ends the call of this xid
abbrev pub EndsAt : ℕ → ℕ → CallState → List CallReport → List CallReport → Option ℕ → Type 0
EndsAt client xid state old new None = new ≡ old
EndsAt client xid state old new (Some at) = MatchOption (slice_get old at) (new ≡ old) (λ r. new ≡ slice_set old at (becomes client xid state r))

pub record Ended (client xid : ℕ) (state : CallState) (old new : Draft) : Type 0 where
  pub calls : EndsAt client xid state old.calls.items new.calls.items (index_of client xid old)
  pub tables : new.tables.items ≡ old.tables.items
  pub journal : new.journal.items ≡ old.journal.items

unfoldable pub state_done : ℕ → ℕ → ℕ → Outcome → Draft → CallState
state_done client link xid outcome d = states.Done (place_shown (length d.journal.items) (place_of client link xid d) outcome) outcome

-- what a mark of a client makes of it
abbrev pub NotedOf : ℕ → Mark → Draft → Draft → Type 0
NotedOf client (marks.Submit l call form answer) old new = SubmittedIf (is_again client answer old) client answer old new
NotedOf client (marks.Execute l xid moment payload place reply) old new = MatchOption (slice_get old.tables.items (client - 1)) (Unit {0}) (Executed client l xid place moment payload reply old new)
NotedOf client (marks.Done l xid outcome) old new = Ended client xid (state_done client l xid outcome old) old new
NotedOf client (marks.Lost l xid) old new = Ended client xid states.Lost old new
NotedOf client (marks.Forget l xid) old new = Ended client xid states.Forgotten old new
NotedOf client (marks.Revoke l xid bytes) old new = Ended client xid (states.Revoked bytes) old new
NotedOf client (marks.Wrote l side bytes) old new = Same old new
NotedOf client (marks.Fed l side bytes) old new = Same old new
NotedOf client (marks.Drop l) old new = Same old new
NotedOf client (marks.Told l what) old new = Same old new

abbrev pub Noted : List ℕ → Mark → Draft → Draft → Type 0
Noted clients mark old new = NotedOf (client_in clients (link_of mark)) mark old new

-- ===== what a draft stands for

-- the xid of a call that a client has accepted as a new one
abbrev pub new_at : Setting → ℕ → Mark → List ℕ
new_at s client (marks.Submit l call form (submissions.Accepted xid)) = if client_of s l == client && not (is_sent_again s l (submissions.Accepted xid)) then xid ∷ [] else []
new_at s client mark = []

unfoldable pub new_calls : Setting → ℕ → List Mark → List ℕ
new_calls s client run = flat_map (new_at s client) run

-- The xids of a client's new calls rise by one from 1. A call that is sent again has one of these.
abbrev pub IsNumbered : Bool → (xid count : ℕ) → Type 0
IsNumbered true xid count = xid ≤ count
IsNumbered false xid count = xid ≡ count + 1

abbrev pub HasNextXid : Setting → List Mark → Mark → Type 0
HasNextXid s before (marks.Submit l call form (submissions.Accepted xid)) = IsNumbered (is_sent_again s l (submissions.Accepted xid)) xid (length (new_calls s (client_of s l) before))
HasNextXid s before mark = Unit {0}

-- no later link of its client has executed a call
abbrev pub IsLatest : Setting → ℕ → List Mark → Type 0
IsLatest s link before = (other : ℕ) → client_of s other ≡ client_of s link → link < other → executed_calls other before ≡ []

-- what a mark adds to a journal that has this many entries
abbrev pub entries_given : ℕ → Mark → List Entry
entries_given count (marks.Execute l xid moment payload place reply) = entries_if (place == count) moment payload reply
entries_given count mark = []

abbrev pub entries_so_far : Setting → List Mark → List Entry
entries_so_far s run = entries_alone (journal_of s run)

-- a mark of the run of a drill with this many clients, of whose links these are the clients
pub record NumberedMark (s : Setting) (clients : List ℕ) (count : ℕ) (before : List Mark) (mark : Mark) : Type 0 where
  pub owner : client_in clients (link_of mark) ≡ client_of s (link_of mark)
  pub above : 1 ≤ client_of s (link_of mark)
  pub within : client_of s (link_of mark) ≤ count
  pub latest : IsLatest s (link_of mark) before
  pub xid : HasNextXid s before mark
  pub entries : entries_so_far s (before ++ mark ∷ []) ≡ entries_so_far s before ++ entries_given (length (entries_so_far s before)) mark

abbrev pub AreNumbered : Setting → List ℕ → ℕ → List Mark → Type 0
AreNumbered s clients count run = AtEachMark (NumberedMark s clients count) [] run

-- the call lines of a client, with the calls that are sent again
abbrev pub is_submit_of : List ℕ → ℕ → Mark → Bool
is_submit_of clients client (marks.Submit l call form answer) = client_in clients l == client
is_submit_of clients client mark = false

abbrev pub submits_of : List ℕ → ℕ → List Mark → ℕ
submits_of clients client run = count_by (is_submit_of clients client) run

-- What a table says of the calls of its client, whose reports are among these. Of no xid are there two open calls.
pub record IsTable (s : Setting) (clients : List ℕ) (all before : List Mark) (client : ℕ) (calls : List CallReport) (t : CallTable) : Type 0 where
  pub lines : t.lines + 1 ≡ number_of client calls
  pub accepted : length t.reports.items ≡ length (new_calls s client before)
  pub few : length t.reports.items ≤ submits_of clients client before
  pub open_at : (j xid : ℕ) (r : CallReport) → slice_get calls j ≡ Some r → r.client ≡ client → is_open_as xid r.state ≡ true → (1 ≤ xid) × (slice_get t.reports.items (xid - 1) ≡ Some j)
  pub places : (xid : ℕ) → 1 ≤ xid → xid ≤ submits_of clients client all → (link : ℕ) → client_of s link ≡ client → IsLatest s link before →
      place_on link (slice_index_or t.places.items (xid - 1) None) ≡ last_place link xid before
  pub room : length t.places.items ≡ submits_of clients client all

pub record IsDraft (s : Setting) (clients : List ℕ) (count : ℕ) (all before : List Mark) (d : Draft) : Type 0 where
  pub room : length d.tables.items ≡ count
  pub calls : d.calls.items ≡ reports_after s before
  pub journal : d.journal.items ≡ entries_so_far s before
  pub within : (j : ℕ) (r : CallReport) → slice_get d.calls.items j ≡ Some r → (1 ≤ r.client) × (r.client ≤ count)
  pub tables : (client : ℕ) → 1 ≤ client → client ≤ count → (t : CallTable) → slice_get d.tables.items (client - 1) ≡ Some t → IsTable s clients all before client d.calls.items t

-- the tables of this many clients, before the first mark
pub record AreEmpty (clients : List ℕ) (count : ℕ) (all : List Mark) (tables : List CallTable) : Type 0 where
  pub room : length tables ≡ count
  pub each : (client : ℕ) → 1 ≤ client → client ≤ count → (t : CallTable) → slice_get tables (client - 1) ≡ Some t → (t.lines ≡ 0) × (t.reports.items ≡ []) × (t.places.items ≡ replicate (submits_of clients client all) None)

-- ===== links, and calls that are lost in the end

abbrev pub link_report_by : ℕ → LinkEnds → List LinkReport
link_report_by link ends =
    if ends.dropped then record { client = link; state = links.Dropped } ∷ []
    else side_report link Initiator ends.client ++ side_report link Responder ends.server

abbrev pub link_reports_from : ℕ → List LinkEnds → List LinkReport
link_reports_from link [] = []
link_reports_from link (ends ∷ others) = link_report_by link ends ++ link_reports_from (link + 1) others

abbrev pub gone_by : Option LinkEnds → Bool
gone_by None = false
gone_by (Some ends) = if ends.dropped then true else is_some ends.client

abbrev pub at_last_by : List LinkEnds → CallReport → CallReport
at_last_by ends r = record r { state = lost_if (gone_by (slice_get ends (r.client - 1))) r.state }

-- whether a call is open
abbrev pub is_open : CallState → Bool
is_open (states.Open xid) = true
is_open (states.Done place outcome) = false
is_open states.Lost = false
is_open states.Forgotten = false
is_open (states.Revoked bytes) = false
is_open (states.Refused why) = false
is_open states.Dropped = false

-- the bytes of a mark that crossed a link are added to its log
pub record AddsToLog (link : ℕ) (mark : Mark) (old new : LinkLog) : Type 0 where
  pub client_wrote : new.client_wrote ≡ old.client_wrote ++ written_at link Initiator mark
  pub server_wrote : new.server_wrote ≡ old.server_wrote ++ written_at link Responder mark
  pub client_was_fed : new.client_was_fed ≡ old.client_was_fed ++ fed_at link Initiator mark
  pub server_was_fed : new.server_was_fed ≡ old.server_was_fed ++ fed_at link Responder mark

-- the call lines and the journal after all marks, with the calls that are lost in the end
pub record AreCalls (s : Setting) (count : ℕ) (all : List Mark) (ends : List LinkEnds) (calls : List CallReport) (entries : List Entry) : Type 0 where
  pub calls_are : calls ≡ map (at_last_by ends) (reports_after s all)
  pub journal_is : entries ≡ entries_so_far s all
  pub within : (j : ℕ) (r : CallReport) → slice_get (reports_after s all) j ≡ Some r → (1 ≤ r.client) × (r.client ≤ count)

-- what is told of marks, of whatever drill they are
abbrev pub TellsCalls : List ℕ → List Mark → List LinkEnds → List CallReport → List Entry → Type 0
TellsCalls clients all ends calls entries =
    (s : Setting) → AreNumbered s clients (length ends) all → AreCalls s (length ends) all ends calls entries
