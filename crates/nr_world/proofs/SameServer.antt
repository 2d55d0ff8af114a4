-- What a step of one link leaves: the clock, and if it executes no call, the journal.
use Rattle.std.specs.Prelude.{slice_get}
use Rattle.std.proofs.Common.{◌≡◌, zero, suc, Bool, true, false, List, [], ◌∷◌, ◌++◌, length, take, drop, Option, None, Some, refl, ◌∙◌, append-nil, map, subst, append_assoc, ℕ}
use Rattle.nr_wire.specs.declared.hello.Side.{Side}
use Rattle.nr_wire.specs.declared.hello.Side.TheVariants.{Initiator, Responder}
use Rattle.nr_reduce.specs.declared.call.Call.{Call}
use Rattle.nr_reduce.specs.declared.call.Form.{Form}
use Rattle.nr_reduce.specs.declared.mark.Mark.{Mark}
use Rattle.nr_reduce.specs.declared.mark.Told.TheVariants.{Granted}
use Rattle.nr_reduce.specs.History.{CompletedCall}
use Rattle.nr_reduce.specs.ServerState.{ReadyCall}
use Rattle.nr_reduce.specs.Run.{server, client}
use Rattle.nr_reduce.specs.Asked.{revoked_bytes}
use Rattle.nr_reduce.specs.SubmitAnswer.{submit_answer_after, calls_to_resend}
use Rattle.nr_reduce.specs.OutcomesDue.{outcomes_due}
use Rattle.nr_drill.specs.Drill.{Setting, Drill, Pipes, unwritten, after_output, after_all_output, settled, pipes_of, with_mark, with_pipes, empty_pipes, appended, after_submit, after_feeding, after_feeding_up, after_up, after_feeding_down, after_handing, after_done, after_dones, after_outcomes, after_down, waiting_call, after_answer, after_execution, after_work, after_calls, answer_of_line, open_xid, after_giving_up, after_forget, after_taking_back, after_revoke, after_drop, after_grant, after_raw, after_all_up, after_all_work, after_all_down, after_moves, after_opening, after_openings, GivenReply, client_of, resend_mark, after_resends, after_call, standing_of, reply_given}
use Rattle.nr_reduce.specs.NumberedJournal.{Standing}
use Rattle.nr_reduce.specs.NumberedJournal.Standing.{Old, Kept, New}
use Rattle.nr_reduce.specs.Served.{last_frame_at}
use Rattle.nr_reduce.specs.ClientState.{WaitingCall}
use Rattle.nr_drill.proofs.AddedMarks.{AddsBy, adds_both, adds_none, adds_one}
use Rattle.nr_reduce.specs.declared.mark.Mark.TheVariants as marks
use Rattle.nr_reduce.specs.declared.mark.Told.TheVariants as told

-- ===== the marks

-- a mark that executes no call and tells of no old one
abbrev pub IsQuietMark : List Mark → Mark → Type 0
IsQuietMark before (marks.Execute l xid moment payload place reply) = ⊥
IsQuietMark before (marks.Told l (told.Old xid at)) = ⊥
IsQuietMark before mark = Unit {0}

-- the clock stays, and all marks that are added are such
pub record Leaves (old new : Drill) : Type 0 where
  pub seconds : new.seconds ≡ old.seconds
  pub marks : AddsBy IsQuietMark old new

leaves_all : (d : Drill) → Leaves d d
leaves_all d = record { seconds = refl; marks = adds_none IsQuietMark d d refl }

pub leaves_both : (a b c : Drill) → Leaves a b → Leaves b c → Leaves a c
leaves_both a b c x y = record { seconds = y.seconds ∙ x.seconds; marks = adds_both IsQuietMark a b c x.marks y.marks }

leaves_mark : (mark : Mark) (d : Drill) → IsQuietMark d.marks mark → Leaves d (with_mark mark d)
leaves_mark mark d quiet = record { seconds = refl; marks = adds_one IsQuietMark mark d (with_mark mark d) refl quiet }

leaves_pipes : (link : ℕ) (pipes : Pipes) (old new : Drill) → Leaves old new → Leaves old (with_pipes link pipes new)
leaves_pipes link pipes old new x = record { seconds = x.seconds; marks = record { added = x.marks.added; is = x.marks.is; each = x.marks.each } }

output_leaves : (s : Setting) (link : ℕ) (side : Side) (bytes : List ℕ) (d : Drill) → Leaves d (after_output link side bytes d)
output_leaves s link side [] d = leaves_all d
output_leaves s link side (b ∷ bytes) d =
    leaves_pipes link (appended side (b ∷ bytes) (pipes_of link d)) d (with_mark (marks.Wrote link side (b ∷ bytes)) d) (leaves_mark (marks.Wrote link side (b ∷ bytes)) d tt)

pub settled_leaves : (s : Setting) (link : ℕ) (d : Drill) → Leaves d (settled s link d)
unfolding settled
settled_leaves s link d =
    let up = unwritten (s.opened link) link Initiator d.marks in
    let mid = after_all_output s link Initiator d in
    let down = unwritten (s.opened link) link Responder mid.marks in
    leaves_both d mid (after_output link Responder down mid) (output_leaves s link Initiator up d) (output_leaves s link Responder down mid)

mark_leaves : (s : Setting) (link : ℕ) (mark : Mark) (d : Drill) → IsQuietMark d.marks mark → Leaves d (settled s link (with_mark mark d))
mark_leaves s link mark d quiet = leaves_both d (with_mark mark d) (settled s link (with_mark mark d)) (leaves_mark mark d quiet) (settled_leaves s link (with_mark mark d))

feeding_leaves : (s : Setting) (link : ℕ) (side : Side) (bytes : List ℕ) (rest : Pipes) (d : Drill) → Leaves d (after_feeding link side bytes rest d)
feeding_leaves s link side [] rest d = leaves_all d
feeding_leaves s link side (b ∷ bytes) rest d =
    leaves_pipes link rest d (with_mark (marks.Fed link side (b ∷ bytes)) d) (leaves_mark (marks.Fed link side (b ∷ bytes)) d tt)

pub up_leaves : (s : Setting) (link n : ℕ) (d : Drill) → Leaves d (after_up s link n d)
unfolding after_up
up_leaves s link n d =
    let fed = after_feeding_up link n d in
    leaves_both d fed (settled s link fed)
    (feeding_leaves s link Responder (take n (pipes_of link d).up) (record (pipes_of link d) { up = drop n (pipes_of link d).up }) d) (settled_leaves s link fed)

handing_leaves : (s : Setting) (link : ℕ) (c : Option CompletedCall) (d : Drill) → Leaves d (after_handing link c d)
handing_leaves s link None d = leaves_all d
handing_leaves s link (Some c) d = leaves_mark (marks.Done link c.xid c.outcome) d tt

dones_leaves : (s : Setting) (link n : ℕ) (d : Drill) → Leaves d (after_dones s link n d)
unfolding after_done
dones_leaves s link zero d = leaves_all d
dones_leaves s link (suc n) d =
    let next = after_done s link d in
    leaves_both d next (after_dones s link n next) (handing_leaves s link (slice_get (outcomes_due (s.opened link) link d.marks) 0) d) (dones_leaves s link n next)

resends_leave : (s : Setting) (link : ℕ) (d : Drill) → Leaves d (after_resends s link d)
unfolding after_resends
resends_leave s link d = resent (calls_to_resend (client (s.opened link) link d.marks)) d
  where
    resent : (ws : List WaitingCall) (d : Drill) → Leaves d (record d { marks = d.marks ++ map (resend_mark link) ws })
    resent [] d = record { seconds = refl; marks = adds_none IsQuietMark d (record d { marks = d.marks ++ [] }) (append-nil d.marks) }
    resent (w ∷ ws) d =
        let mark = resend_mark link w in
        leaves_both d (with_mark mark d) (record d { marks = d.marks ++ map (resend_mark link) (w ∷ ws) }) (leaves_mark mark d tt)
        (subst (λ (run : List Mark). Leaves (with_mark mark d) (record d { marks = run })) (append_assoc d.marks (mark ∷ []) (map (resend_mark link) ws)) (resent ws (with_mark mark d)))

pub down_leaves : (s : Setting) (link n : ℕ) (d : Drill) → Leaves d (after_down s link n d)
unfolding after_down after_outcomes
down_leaves s link n d =
    let fed = after_feeding_down link n d in
    let again = after_resends s link fed in
    let all = after_outcomes s link again in
    leaves_both d all (settled s link all)
    (leaves_both d again all
    (leaves_both d fed again (feeding_leaves s link Initiator (take n (pipes_of link d).down) (record (pipes_of link d) { down = drop n (pipes_of link d).down }) d) (resends_leave s link fed))
    (dones_leaves s link (length (outcomes_due (s.opened link) link again.marks)) again))
    (settled_leaves s link all)

pub submit_leaves : (s : Setting) (link : ℕ) (call : Call) (form : Form) (d : Drill) → Leaves d (after_submit s link call form d)
unfolding after_submit
submit_leaves s link call form d = mark_leaves s link (marks.Submit link call form (submit_answer_after (s.opened link) link d.marks call form)) d tt

giving_up_leaves : (s : Setting) (link : ℕ) (xid : Option ℕ) (d : Drill) → Leaves d (after_giving_up link xid d)
giving_up_leaves s link None d = leaves_all d
giving_up_leaves s link (Some xid) d = leaves_mark (marks.Forget link xid) d tt

pub forget_leaves : (s : Setting) (link number : ℕ) (d : Drill) → Leaves d (after_forget s link number d)
unfolding after_forget
forget_leaves s link number d = giving_up_leaves s link (open_xid s link d.marks (answer_of_line s (client_of s link) number d.marks)) d

taking_back_leaves : (s : Setting) (link : ℕ) (xid : Option ℕ) (d : Drill) → Leaves d (after_taking_back s link xid d)
taking_back_leaves s link None d = leaves_all d
taking_back_leaves s link (Some xid) d = mark_leaves s link (marks.Revoke link xid (revoked_bytes (s.opened link) link d.marks xid)) d tt

pub revoke_leaves : (s : Setting) (link number : ℕ) (d : Drill) → Leaves d (after_revoke s link number d)
unfolding after_revoke
revoke_leaves s link number d = taking_back_leaves s link (open_xid s link d.marks (answer_of_line s (client_of s link) number d.marks)) d

pub drop_leaves : (s : Setting) (link : ℕ) (d : Drill) → Leaves d (after_drop link d)
drop_leaves s link d = leaves_pipes link empty_pipes d (with_mark (marks.Drop link) d) (leaves_mark (marks.Drop link) d tt)

pub grant_leaves : (s : Setting) (link credits : ℕ) (d : Drill) → Leaves d (after_grant link credits d)
grant_leaves s link credits d = leaves_mark (marks.Told link (Granted credits)) d tt

pub raw_leaves : (s : Setting) (link : ℕ) (side : Side) (bytes : List ℕ) (dropped : Bool) (d : Drill) → Leaves d (after_raw link side bytes dropped d)
raw_leaves s link side bytes true d = leaves_all d
raw_leaves s link side bytes false d = leaves_pipes link (appended side bytes (pipes_of link d)) d d (leaves_all d)

pub opening_leaves : (s : Setting) (link : ℕ) (d : Drill) → Leaves d (after_opening s link d)
unfolding after_opening
opening_leaves s link d =
    let one = settled s link d in
    let two = after_all_up s link one in
    leaves_both d two (after_all_down s link two)
    (leaves_both d one two (settled_leaves s link d) (up_leaves s link (length (pipes_of link one).up) one))
    (down_leaves s link (length (pipes_of link two).down) two)

pub openings_clock : (s : Setting) (links : List ℕ) (d : Drill) → (after_openings s links d).seconds ≡ d.seconds
openings_clock s [] d = refl
openings_clock s (link ∷ links) d = openings_clock s links (after_opening s link d) ∙ (opening_leaves s link d).seconds

-- ===== the clock alone, if calls are executed

answer_clock : (s : Setting) (link : ℕ) (call : ReadyCall) (answer : Option GivenReply) (d : Drill) → (after_answer s link call answer d).seconds ≡ d.seconds
answer_clock s link call None d = refl
answer_clock s link call (Some g) d = (settled_leaves s link (with_mark (marks.Execute link call.xid g.moment call.payload g.place g.reply) d)).seconds

call_clock : (s : Setting) (link : ℕ) (call : ReadyCall) (is : Standing) (answer : Option GivenReply) (d : Drill) → (after_call s link call is answer d).seconds ≡ d.seconds
call_clock s link call (Old top) answer d = (settled_leaves s link (with_mark (marks.Told link (told.Old call.xid (last_frame_at link d.marks))) d)).seconds
call_clock s link call (Kept place) answer d = answer_clock s link call answer d
call_clock s link call New answer d = answer_clock s link call answer d

execution_clock : (s : Setting) (link : ℕ) (call : Option ReadyCall) (d : Drill) → (after_execution s link call d).seconds ≡ d.seconds
execution_clock s link None d = refl
execution_clock s link (Some call) d = call_clock s link call (standing_of s link d call) (reply_given s link d call) d

pub work_clock : (s : Setting) (link : ℕ) (d : Drill) → (after_work s link d).seconds ≡ d.seconds
unfolding after_work
work_clock s link d = execution_clock s link (waiting_call s link d.marks) d

calls_clock : (s : Setting) (link n : ℕ) (d : Drill) → (after_calls s link n d).seconds ≡ d.seconds
calls_clock s link zero d = refl
calls_clock s link (suc n) d = calls_clock s link n (after_work s link d) ∙ work_clock s link d

pub moves_clock : (s : Setting) (link : ℕ) (d : Drill) → (after_moves s link d).seconds ≡ d.seconds
unfolding after_moves after_all_work
moves_clock s link d =
    let one = after_all_up s link d in
    let two = after_all_work s link one in
    (down_leaves s link (length (pipes_of link two).down) two).seconds
    ∙ calls_clock s link (length (server (s.opened link) link one.marks).state.ready) one
    ∙ (up_leaves s link (length (pipes_of link d).up) d).seconds
