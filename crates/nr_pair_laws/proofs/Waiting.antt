-- Two sides of which each waits for the other are not the sides of one list.
use Rattle.std.proofs.Common.{◌≡◌, ℕ, ◌<◌, Bool, true, false, cond, ◌&&◌, eqb, List, [], ◌∷◌, ◌++◌, length, refl, sym, ap, ◌∙◌, arith, length-append}
use Rattle.std.specs.List.{filter}
use Rattle.std.proofs.lemmas.List.Elements.{filter-append}
use Rattle.nr_wire.specs.declared.hello.Side.{Side}
use Rattle.nr_wire.specs.declared.hello.Side.TheVariants.{Initiator, Responder}
use Rattle.nr_reduce.specs.declared.call.Form.TheVariants as forms
use Rattle.nr_reduce.specs.declared.call.Submission.TheVariants as submissions
use Rattle.nr_reduce.specs.declared.mark.Mark.{Mark}
use Rattle.nr_reduce.specs.declared.mark.Mark.TheVariants as marks
use Rattle.nr_wire.specs.Hello.{peer}
use Rattle.nr_reduce.specs.History.{bytes_received, bytes_sent, fed_at, written_at}
use Rattle.nr_reduce.specs.Matched.{IsPrefixOf, Matched, MatchedMark}
use Rattle.nr_reduce.proofs.Standing.{itself}
use Rattle.nr_laws.proofs.OnceByXid.{at_mark}
use Rattle.nr_laws.proofs.Ordered.{Order, order}
use Rattle.nr_laws.proofs.Ordered.Order.{Before, Behind, Here}
use Rattle.nr_host_laws.specs.OwnMarks.{is_own}
use Rattle.nr_host_laws.proofs.OwnMarks.{not_own}
use Rattle.nr_service_laws.specs.ClientMarks as commands
use Rattle.nr_service_laws.specs.ServedCommands.{is_client_mark}
use Rattle.nr_service_laws.proofs.OpenLinks.{others_not_fed}
use Rattle.nr_service_laws.proofs.ServedOutcomes.{kept_all}
use Rattle.nr_pair_laws.specs.Interleaving.{BothWait, CommandsMakeClientMarks, JobsMakeClientMarks, SidesAreInterleaved}
use Rattle.nr_pair_laws.specs.JobRuns.{IsJobMark}
use Rattle.nr_pair_laws.specs.Pairs.{AreSidesOf}
use Rattle.nr_pair_laws.proofs.Interleaving.{runs_interleave, sent_all}
use Rattle.nr_pair_laws.proofs.JobMarks.{KeptAt, kept_at}

-- ---- The bytes of a side are those of its marks

-- these marks of a run move all bytes of this side of the link
record MovesBytes (link : ℕ) (side : Side) (p : Mark → Bool) : Type 0 where
  sent : (run : List Mark) → bytes_sent link side run ≡ bytes_sent link side (filter p run)
  received : (run : List Mark) → bytes_received link side run ≡ bytes_received link side (filter p run)

others_not_written : (link : ℕ) (m : Mark) → is_client_mark link m ≡ false → written_at link Initiator m ≡ []
others_not_written link (marks.Wrote l side bytes) is = ap (λ (b : Bool). cond b bytes []) is
others_not_written link (marks.Fed l side bytes) is = refl
others_not_written link (marks.Submit l call form answer) is = refl
others_not_written link (marks.Execute l xid moment payload place reply) is = refl
others_not_written link (marks.Done l xid outcome) is = refl
others_not_written link (marks.Lost l xid) is = refl
others_not_written link (marks.Forget l xid) is = refl
others_not_written link (marks.Revoke l xid bytes) is = refl
others_not_written link (marks.Drop l) is = refl
others_not_written link (marks.Told l what) is = refl

client_moves : (link : ℕ) → MovesBytes link Initiator (is_client_mark link)
unfolding bytes_sent bytes_received
client_moves link = record {
  sent = λ run. kept_all (written_at link Initiator) (is_client_mark link) run (others_not_written link);
  received = λ run. kept_all (fed_at link Initiator) (is_client_mark link) run (others_not_fed link);
}

server_moves : (link : ℕ) → MovesBytes link Responder (is_own link)
unfolding bytes_sent bytes_received
server_moves link = record {
  sent = λ run. kept_all (written_at link Responder) (is_own link) run (λ m is. (not_own link m is).no_output);
  received = λ run. kept_all (fed_at link Responder) (is_own link) run (λ m is. (not_own link m is).no_bytes);
}

-- ---- The first of two pieces that wait

-- A side is fed a piece in a matched run, before which the other side made some of these marks: so it had sent the piece.
never_waits : (link : ℕ) (side : Side) (p q : Mark → Bool) → MovesBytes link side p → MovesBytes link (peer side) q → (both u after : List Mark) (bytes : List ℕ) → both ≡ u ++ marks.Fed link side bytes ∷ after → Matched link both
    → (own others more : List Mark) → filter p u ≡ own → filter q u ++ more ≡ others → length (bytes_sent link (peer side) others) < length (bytes_received link side own ++ bytes) → ⊥
never_waits link side p q mine theirs both u after bytes is matched own others more own_is others_are waits =
    let fits : IsPrefixOf (bytes_received link side u ++ bytes) (bytes_sent link (peer side) u) = at_mark (MatchedMark link) both u (marks.Fed link side bytes) after is matched refl in
    let sum = length-append (bytes_received link side u ++ bytes) fits.0 in
    let whole = ap (λ (l : List ℕ). length l) fits.1 in
    let received : length (bytes_received link side u ++ bytes) ≡ length (bytes_received link side own ++ bytes) =
    ap (λ (l : List ℕ). length (l ++ bytes)) (mine.received u ∙ ap (λ (run : List Mark). bytes_received link side run) own_is) in
    let sent : length (bytes_sent link (peer side) u) ≡ length (bytes_sent link (peer side) (filter q u)) = ap (λ (l : List ℕ). length l) (theirs.sent u) in
    let later : length (bytes_sent link (peer side) others) ≡ length (bytes_sent link (peer side) (filter q u) ++ bytes_sent link (peer side) more) =
    ap (λ (l : List ℕ). length l) (ap (λ (run : List Mark). bytes_sent link (peer side) run) (sym others_are) ∙ sent_all link (peer side) (filter q u) more) in
    let parts = length-append (bytes_sent link (peer side) (filter q u)) (bytes_sent link (peer side) more) in
    absurd (omega (arith, sum, whole, received, sent, later, parts, waits))

excluded : (link : ℕ) (client_run server_run both : List Mark) → AreSidesOf link client_run server_run both → BothWait link client_run server_run → ⊥
excluded link client_run server_run both sides w = by (order c.before first c.after r.before second r.after (sym c.is ∙ r.is))
  where
    first : Mark
    first = marks.Fed link Initiator w.client_bytes

    second : Mark
    second = marks.Fed link Responder w.server_bytes

    c : KeptAt (is_client_mark link) both w.client_done first w.client_left
    c = kept_at (is_client_mark link) both w.client_done first w.client_left (sides.client_side ∙ sym w.client_parts)

    r : KeptAt (is_own link) both w.server_done second w.server_left
    r = kept_at (is_own link) both w.server_done second w.server_left (sides.server_side ∙ sym w.server_parts)

    by : Order c.before first c.after r.before second r.after → ⊥
    by (Behind between is then) =
        never_waits link Initiator (is_client_mark link) (is_own link) (client_moves link) (server_moves link) both c.before c.after w.client_bytes c.is sides.matched w.client_done w.server_done
        (filter (is_own link) (first ∷ between)) c.first (sym (filter-append (is_own link) c.before (first ∷ between)) ∙ ap (λ (l : List Mark). filter (is_own link) l) (sym is) ∙ r.first) w.client_waits
    by (Here is same) = absurd cc
    by (Before between is then) =
        never_waits link Responder (is_own link) (is_client_mark link) (server_moves link) (client_moves link) both r.before r.after w.server_bytes r.is sides.matched w.server_done w.client_done
        (filter (is_client_mark link) (second ∷ between)) r.first (sym (filter-append (is_client_mark link) r.before (second ∷ between)) ∙ ap (λ (l : List Mark). filter (is_client_mark link) l) (sym is) ∙ c.first) w.server_waits

-- ===== the laws

pub sides_are_interleaved_lem : SidesAreInterleaved
sides_are_interleaved_lem link client_run server_run own own' p p' =
    (runs_interleave link client_run server_run own own' p p', λ both sides waits. excluded link client_run server_run both sides waits)

here : (link l : ℕ) → l ≡ link → eqb l link ≡ true
here link l is = ap (λ (k : ℕ). eqb k link) is ∙ itself link

command_mark : (link : ℕ) (mark : Mark) → commands.IsOwn link mark → IsJobMark link mark
command_mark link (marks.Wrote l Initiator bytes) is = is
command_mark link (marks.Fed l Initiator bytes) is = is
command_mark link (marks.Submit l call forms.Auto (submissions.Accepted xid)) is = is
command_mark link (marks.Done l xid outcome) is = is
command_mark link (marks.Forget l xid) is = is
command_mark link (marks.Wrote l Responder bytes) is = absurd is
command_mark link (marks.Fed l Responder bytes) is = absurd is
command_mark link (marks.Submit l call forms.Auto (submissions.Refused why)) is = absurd is
command_mark link (marks.Submit l call forms.Auto submissions.Dropped) is = absurd is
command_mark link (marks.Submit l call forms.Inline answer) is = absurd is
command_mark link (marks.Submit l call forms.Chunk answer) is = absurd is
command_mark link (marks.Submit l call forms.Long answer) is = absurd is
command_mark link (marks.Submit l call (forms.Given offer) answer) is = absurd is
command_mark link (marks.Lost l xid) is = absurd is
command_mark link (marks.Revoke l xid bytes) is = absurd is
command_mark link (marks.Drop l) is = absurd is
command_mark link (marks.Told l what) is = absurd is
command_mark link (marks.Execute l xid moment payload place reply) is = absurd is

job_mark : (link : ℕ) (mark : Mark) → IsJobMark link mark → is_client_mark link mark ≡ true
job_mark link (marks.Wrote l Initiator bytes) is = ap (λ (b : Bool). b && true) (here link l is)
job_mark link (marks.Fed l Initiator bytes) is = ap (λ (b : Bool). b && true) (here link l is)
job_mark link (marks.Submit l call forms.Auto (submissions.Accepted xid)) is = here link l is
job_mark link (marks.Done l xid outcome) is = here link l is
job_mark link (marks.Lost l xid) is = here link l is
job_mark link (marks.Forget l xid) is = here link l is
job_mark link (marks.Revoke l xid bytes) is = here link l is
job_mark link (marks.Wrote l Responder bytes) is = absurd is
job_mark link (marks.Fed l Responder bytes) is = absurd is
job_mark link (marks.Submit l call forms.Auto (submissions.Refused why)) is = absurd is
job_mark link (marks.Submit l call forms.Auto submissions.Dropped) is = absurd is
job_mark link (marks.Submit l call forms.Inline answer) is = absurd is
job_mark link (marks.Submit l call forms.Chunk answer) is = absurd is
job_mark link (marks.Submit l call forms.Long answer) is = absurd is
job_mark link (marks.Submit l call (forms.Given offer) answer) is = absurd is
job_mark link (marks.Drop l) is = absurd is
job_mark link (marks.Told l what) is = absurd is
job_mark link (marks.Execute l xid moment payload place reply) is = absurd is

pub jobs_make_client_marks_lem : JobsMakeClientMarks
jobs_make_client_marks_lem link [] own = tt
jobs_make_client_marks_lem link (mark ∷ run) own = (job_mark link mark own.0, jobs_make_client_marks_lem link run own.1)

pub commands_make_client_marks_lem : CommandsMakeClientMarks
commands_make_client_marks_lem link [] own = tt
commands_make_client_marks_lem link (mark ∷ run) own = (job_mark link mark (command_mark link mark own.0), commands_make_client_marks_lem link run own.1)
