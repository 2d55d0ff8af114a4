-- What became of each call and of each link, by the marks of a run.
use Rattle.std.specs.Prelude.{ℕ, ◌+◌, ◌-◌, slice_index_or, Bool, true, false, ◌==◌, ◌&&◌, ◌||◌, if◌then◌else◌, List, [], ◌∷◌, ◌++◌, length, map, count_by, fold, Option, None, Some, is_some}
use Rattle.std.specs.List.{flat_map}
use Rattle.nr_wire.specs.declared.hello.Side.{Side}
use Rattle.nr_wire.specs.declared.hello.Side.TheVariants.{Initiator, Responder}
use Rattle.nr_link.specs.declared.end.End.{End}
use Rattle.nr_reduce.specs.declared.call.Outcome.{Outcome}
use Rattle.nr_reduce.specs.declared.call.Outcome.TheVariants as outcomes
use Rattle.nr_reduce.specs.declared.call.Submission.{Submission}
use Rattle.nr_reduce.specs.declared.call.Submission.TheVariants as submissions
use Rattle.nr_reduce.specs.declared.mark.Mark.{Mark}
use Rattle.nr_reduce.specs.declared.mark.Mark.TheVariants as marks
use Rattle.nr_reduce.specs.History.{ExecutedCall, executed_calls, is_dropped}
use Rattle.nr_reduce.specs.Run.{end_of_side}
use Rattle.nr_drill.specs.declared.report.CallState.{CallState}
use Rattle.nr_drill.specs.declared.report.CallState.TheVariants as states
use Rattle.nr_drill.specs.declared.report.CallReport.{CallReport}
use Rattle.nr_drill.specs.declared.report.LinkState.TheVariants as links
use Rattle.nr_drill.specs.declared.report.LinkReport.{LinkReport}
use Rattle.nr_drill.specs.Drill.{Setting, client_of, is_sent_again, journal_of}

-- ===== places

-- the place of the last execution of an xid on a link
abbrev pub place_if : ℕ → Option ℕ → ExecutedCall → Option ℕ
place_if xid place e = if e.xid == xid then Some e.place else place

unfoldable pub last_place : ℕ → ℕ → List Mark → Option ℕ
last_place link xid run = fold (place_if xid) None (executed_calls link run)

-- A reply has the place of its execution, or else, if only bytes of a script made it, the journal's length. An ERR_CHUNK has the place
-- of its execution, if there was one. An ERR_VERS has none.
abbrev pub place_or : ℕ → Option ℕ → Option ℕ
place_or entries None = Some entries
place_or entries (Some place) = Some place

abbrev pub place_shown : ℕ → Option ℕ → Outcome → Option ℕ
place_shown entries place (outcomes.Reply payload) = place_or entries place
place_shown entries place outcomes.Chunk = place
place_shown entries place (outcomes.Version low high) = None

unfoldable pub done_state : Setting → ℕ → ℕ → Outcome → List Mark → CallState
done_state s link xid outcome before = states.Done (place_shown (length (journal_of s before)) (last_place link xid before) outcome) outcome

-- ===== calls

abbrev pub submitted_state : Submission → CallState
submitted_state (submissions.Accepted xid) = states.Open xid
submitted_state (submissions.Refused why) = states.Refused why
submitted_state submissions.Dropped = states.Dropped

-- whether a call line is that of a call that is open under this xid
abbrev pub is_open_as : ℕ → CallState → Bool
is_open_as xid (states.Open x) = x == xid
is_open_as xid (states.Done place outcome) = false
is_open_as xid states.Lost = false
is_open_as xid states.Forgotten = false
is_open_as xid (states.Revoked bytes) = false
is_open_as xid (states.Refused why) = false
is_open_as xid states.Dropped = false

abbrev pub becomes : ℕ → ℕ → CallState → CallReport → CallReport
becomes client xid state r = if r.client == client && is_open_as xid r.state then record r { state = state } else r

-- The reports with a call line more, or with what a mark says of an open call. A later mark changes nothing.
abbrev pub number_of : ℕ → List CallReport → ℕ
number_of client reports = count_by (λ (r : CallReport). r.client == client) reports + 1

abbrev pub with_call_line : Bool → ℕ → Submission → List CallReport → List CallReport
with_call_line true client answer reports = reports
with_call_line false client answer reports = reports ++ record { client = client; number = number_of client reports; state = submitted_state answer } ∷ []

abbrev pub reports_with : Setting → List Mark → Mark → List CallReport → List CallReport
reports_with s before (marks.Submit l call form answer) reports = with_call_line (is_sent_again s l answer) (client_of s l) answer reports
reports_with s before (marks.Done l xid outcome) reports = map (becomes (client_of s l) xid (done_state s l xid outcome before)) reports
reports_with s before (marks.Lost l xid) reports = map (becomes (client_of s l) xid states.Lost) reports
reports_with s before (marks.Forget l xid) reports = map (becomes (client_of s l) xid states.Forgotten) reports
reports_with s before (marks.Revoke l xid bytes) reports = map (becomes (client_of s l) xid (states.Revoked bytes)) reports
reports_with s before (marks.Wrote l side bytes) reports = reports
reports_with s before (marks.Fed l side bytes) reports = reports
reports_with s before (marks.Execute l xid moment payload place reply) reports = reports
reports_with s before (marks.Drop l) reports = reports
reports_with s before (marks.Told l what) reports = reports

abbrev pub reports_from : Setting → List CallReport → List Mark → List Mark → List CallReport
reports_from s reports before [] = reports
reports_from s reports before (mark ∷ others) = reports_from s (reports_with s before mark reports) (before ++ mark ∷ []) others

unfoldable pub reports_after : Setting → List Mark → List CallReport
reports_after s run = reports_from s [] [] run

-- In the end a call that is open is lost if the last link of its client was dropped, or its client ended there. `links` are these links.
abbrev pub is_gone : Setting → List Mark → ℕ → Bool
is_gone s run link = is_dropped link run || is_some (end_of_side (s.opened link) link Initiator run)

abbrev pub lost_if : Bool → CallState → CallState
lost_if gone (states.Open xid) = if gone then states.Lost else states.Open xid
lost_if gone (states.Done place outcome) = states.Done place outcome
lost_if gone states.Lost = states.Lost
lost_if gone states.Forgotten = states.Forgotten
lost_if gone (states.Revoked bytes) = states.Revoked bytes
lost_if gone (states.Refused why) = states.Refused why
lost_if gone states.Dropped = states.Dropped

abbrev pub at_last : Setting → List ℕ → List Mark → CallReport → CallReport
at_last s links run r = record r { state = lost_if (is_gone s run (slice_index_or links (r.client - 1) r.client)) r.state }

unfoldable pub call_reports : Setting → List ℕ → List Mark → List CallReport
call_reports s links run = map (at_last s links run) (reports_after s run)

-- ===== links

abbrev pub side_report : ℕ → Side → Option End → List LinkReport
side_report link side None = []
side_report link side (Some end) = record { client = link; state = links.Ended side end } ∷ []

abbrev pub link_report : Setting → List Mark → ℕ → List LinkReport
link_report s run link =
    if is_dropped link run then record { client = client_of s link; state = links.Dropped } ∷ []
    else side_report (client_of s link) Initiator (end_of_side (s.opened link) link Initiator run) ++ side_report (client_of s link) Responder (end_of_side (s.opened link) link Responder run)

unfoldable pub link_reports : Setting → List ℕ → List Mark → List LinkReport
link_reports s links run = flat_map (link_report s run) links
