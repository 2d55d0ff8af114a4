-- What holds of each mark that an action of a drill adds, by a rule for each kind of mark.
use Rattle.std.specs.Prelude.{slice_get}
use Rattle.std.proofs.Common.{◌≡◌, ℕ, zero, suc, Bool, true, false, List, [], ◌∷◌, ◌++◌, length, map, take, drop, Option, None, Some, refl, sym, ap, subst, ◌∙◌, append_assoc, append-nil}
use Rattle.nr_wire.specs.declared.hello.Side.{Side}
use Rattle.nr_wire.specs.declared.hello.Side.TheVariants.{Initiator, Responder}
use Rattle.nr_reduce.specs.declared.call.Call.{Call}
use Rattle.nr_reduce.specs.declared.call.Form.{Form}
use Rattle.nr_reduce.specs.declared.call.Outcome.{Outcome}
use Rattle.nr_reduce.specs.declared.mark.Mark.{Mark}
use Rattle.nr_reduce.specs.declared.mark.Mark.TheVariants as marks
use Rattle.nr_reduce.specs.declared.mark.Told.TheVariants as told
use Rattle.nr_reduce.specs.AtEachMark.{AtEachMark}
use Rattle.nr_reduce.specs.NumberedJournal.{Standing}
use Rattle.nr_reduce.specs.NumberedJournal.Standing.{Old, Kept, New}
use Rattle.nr_reduce.specs.History.{CompletedCall}
use Rattle.nr_reduce.specs.OutcomesDue.{outcomes_due}
use Rattle.nr_reduce.specs.ClientState.{WaitingCall}
use Rattle.nr_reduce.specs.ServerState.{ReadyCall}
use Rattle.nr_reduce.specs.Served.{last_frame_at}
use Rattle.nr_reduce.specs.SubmitAnswer.{submit_answer_after, calls_to_resend}
use Rattle.nr_reduce.specs.Run.{client}
use Rattle.nr_reduce.specs.Asked.{revoked_bytes}
use Rattle.nr_reduce.proofs.Resending.{resent_next}
use Rattle.nr_drill.specs.Drill.{Setting, Drill, Pipes, GivenReply, client_of, standing_of, reply_given, unwritten, after_output, after_all_output, settled, pipes_of, with_mark, after_submit, after_feeding, after_feeding_up, after_up, after_feeding_down, resend_mark, after_resends, after_handing, after_done, after_dones, after_outcomes, after_down, waiting_call, after_answer, after_call, after_execution, after_work, answer_of_line, open_xid, after_giving_up, after_forget, after_taking_back, after_revoke, after_all_up, after_all_down, after_opening, after_raw}

-- marks are added, each of which is so after those before it
pub record AddsBy (P : List Mark → Mark → Type 0) (old new : Drill) : Type 0 where
  pub added : List Mark
  pub is : new.marks ≡ old.marks ++ added
  pub each : AtEachMark P old.marks added

pub each_both : (P : List Mark → Mark → Type 0) (before first second : List Mark) → AtEachMark P before first → AtEachMark P (before ++ first) second → AtEachMark P before (first ++ second)
each_both P before [] second h g = subst (λ (run : List Mark). AtEachMark P run second) (append-nil before) g
each_both P before (mark ∷ first) second h g =
    (h.0, each_both P (before ++ mark ∷ []) first second h.1 (subst (λ (run : List Mark). AtEachMark P run second) (sym (append_assoc before (mark ∷ []) first)) g))

pub adds_both : (P : List Mark → Mark → Type 0) (a b c : Drill) → AddsBy P a b → AddsBy P b c → AddsBy P a c
adds_both P a b c x y = record {
  added = x.added ++ y.added;
  is = y.is ∙ ap (λ (run : List Mark). run ++ y.added) x.is ∙ append_assoc a.marks x.added y.added;
  each = each_both P a.marks x.added y.added x.each (subst (λ (run : List Mark). AtEachMark P run y.added) x.is y.each);
}

pub adds_none : (P : List Mark → Mark → Type 0) (old new : Drill) → new.marks ≡ old.marks → AddsBy P old new
adds_none P old new is = record { added = []; is = is ∙ sym (append-nil old.marks); each = tt }

pub adds_one : (P : List Mark → Mark → Type 0) (mark : Mark) (d new : Drill) → new.marks ≡ d.marks ++ mark ∷ [] → P d.marks mark → AddsBy P d new
adds_one P mark d new is h = record { added = mark ∷ []; is = is; each = (h, tt) }

-- The marks that are added as bytes move on a link, and as calls are sent again.
pub record QuietRules (P : List Mark → Mark → Type 0) (s : Setting) (link : ℕ) : Type 0 where
  pub wrote : (run : List Mark) (side : Side) (bytes : List ℕ) → P run (marks.Wrote link side bytes)
  pub fed : (run : List Mark) (side : Side) (bytes : List ℕ) → P run (marks.Fed link side bytes)
  pub done : (run : List Mark) (xid : ℕ) (outcome : Outcome) → P run (marks.Done link xid outcome)
  pub resent : (run : List Mark) (w : WaitingCall) (rest : List WaitingCall) → calls_to_resend (client (s.opened link) link run) ≡ w ∷ rest → P run (resend_mark link w)

-- And those that are added as calls are executed, or given up. A call that is executed is the next one, and has the reply that the server gives.
pub record MarkRules (P : List Mark → Mark → Type 0) (s : Setting) (link : ℕ) : Type 0 where
  pub quiet : QuietRules P s link
  pub executes : (d : Drill) (call : ReadyCall) (g : GivenReply) → waiting_call s link d.marks ≡ Some call → reply_given s link d call ≡ Some g → P d.marks (marks.Execute link call.xid g.moment call.payload g.place g.reply)
  pub told_old : (d : Drill) (call : ReadyCall) (top : ℕ) → waiting_call s link d.marks ≡ Some call → standing_of s link d call ≡ Old top → P d.marks (marks.Told link (told.Old call.xid (last_frame_at link d.marks)))
  pub forgot : (run : List Mark) (xid : ℕ) → P run (marks.Forget link xid)
  pub revoked : (run : List Mark) (xid : ℕ) (bytes : List ℕ) → P run (marks.Revoke link xid bytes)

module _ (P : List Mark → Mark → Type 0) (s : Setting) (link : ℕ) (rules : QuietRules P s link) where
  output_by : (side : Side) (bytes : List ℕ) (d : Drill) → AddsBy P d (after_output link side bytes d)
  output_by side [] d = adds_none P d d refl
  output_by side (b ∷ bytes) d = adds_one P (marks.Wrote link side (b ∷ bytes)) d (after_output link side (b ∷ bytes) d) refl (rules.wrote d.marks side (b ∷ bytes))

  pub settled_by : (d : Drill) → AddsBy P d (settled s link d)
  unfolding settled
  settled_by d =
      let mid = after_all_output s link Initiator d in
      adds_both P d mid (after_all_output s link Responder mid) (output_by Initiator (unwritten (s.opened link) link Initiator d.marks) d) (output_by Responder (unwritten (s.opened link) link Responder mid.marks) mid)

  fed_by : (side : Side) (bytes : List ℕ) (rest : Pipes) (d : Drill) → AddsBy P d (after_feeding link side bytes rest d)
  fed_by side [] rest d = adds_none P d d refl
  fed_by side (b ∷ bytes) rest d = adds_one P (marks.Fed link side (b ∷ bytes)) d (after_feeding link side (b ∷ bytes) rest d) refl (rules.fed d.marks side (b ∷ bytes))

  pub up_by : (n : ℕ) (d : Drill) → AddsBy P d (after_up s link n d)
  unfolding after_up
  up_by n d =
      let pipes = pipes_of link d in
      let fed = after_feeding_up link n d in
      adds_both P d fed (settled s link fed) (fed_by Responder (take n pipes.up) (record pipes { up = drop n pipes.up }) d) (settled_by fed)

  resent_all : (ws : List WaitingCall) (d : Drill) → calls_to_resend (client (s.opened link) link d.marks) ≡ ws → AddsBy P d (record d { marks = d.marks ++ map (resend_mark link) ws })
  resent_all [] d is = adds_none P d (record d { marks = d.marks ++ [] }) (append-nil d.marks)
  resent_all (w ∷ ws) d is =
      let mark : Mark = resend_mark link w in
      let mid = with_mark mark d in
      let last : Drill = record mid { marks = mid.marks ++ map (resend_mark link) ws } in
      let all = adds_both P d mid last (adds_one P mark d mid refl (rules.resent d.marks w ws is)) (resent_all ws mid (resent_next (s.opened link) link d.marks w ws is)) in
      record { added = all.added; is = sym (append_assoc d.marks (mark ∷ []) (map (resend_mark link) ws)) ∙ all.is; each = all.each }

  resends_by : (d : Drill) → AddsBy P d (after_resends s link d)
  unfolding after_resends
  resends_by d = resent_all (calls_to_resend (client (s.opened link) link d.marks)) d refl

  handing_by : (c : Option CompletedCall) (d : Drill) → AddsBy P d (after_handing link c d)
  handing_by None d = adds_none P d d refl
  handing_by (Some c) d = adds_one P (marks.Done link c.xid c.outcome) d (after_handing link (Some c) d) refl (rules.done d.marks c.xid c.outcome)

  dones_by : (n : ℕ) (d : Drill) → AddsBy P d (after_dones s link n d)
  unfolding after_done
  dones_by zero d = adds_none P d d refl
  dones_by (suc n) d =
      let next = after_done s link d in
      adds_both P d next (after_dones s link n next) (handing_by (slice_get (outcomes_due (s.opened link) link d.marks) 0) d) (dones_by n next)

  pub down_by : (n : ℕ) (d : Drill) → AddsBy P d (after_down s link n d)
  unfolding after_down after_outcomes
  down_by n d =
      let pipes = pipes_of link d in
      let fed = after_feeding_down link n d in
      let sent = after_resends s link fed in
      let all = after_outcomes s link sent in
      adds_both P d all (settled s link all)
      (adds_both P d sent all (adds_both P d fed sent (fed_by Initiator (take n pipes.down) (record pipes { down = drop n pipes.down }) d) (resends_by fed)) (dones_by (length (outcomes_due (s.opened link) link sent.marks)) sent))
      (settled_by all)

  -- whatever the client answers
  pub submit_by : (call : Call) (form : Form) (d : Drill) → P d.marks (marks.Submit link call form (submit_answer_after (s.opened link) link d.marks call form)) → AddsBy P d (after_submit s link call form d)
  unfolding after_submit
  submit_by call form d h =
      let mark = marks.Submit link call form (submit_answer_after (s.opened link) link d.marks call form) in
      adds_both P d (with_mark mark d) (settled s link (with_mark mark d)) (adds_one P mark d (with_mark mark d) refl h) (settled_by (with_mark mark d))

  pub opening_by : (d : Drill) → AddsBy P d (after_opening s link d)
  unfolding after_opening
  opening_by d =
      let one = settled s link d in
      let two = after_all_up s link one in
      adds_both P d two (after_all_down s link two) (adds_both P d one two (settled_by d) (up_by (length (pipes_of link one).up) one)) (down_by (length (pipes_of link two).down) two)

module _ (P : List Mark → Mark → Type 0) (s : Setting) (link : ℕ) (rules : MarkRules P s link) where
  answer_by : (call : ReadyCall) (answer : Option GivenReply) (d : Drill) → waiting_call s link d.marks ≡ Some call → reply_given s link d call ≡ answer → AddsBy P d (after_answer s link call answer d)
  answer_by call None d next is = adds_none P d d refl
  answer_by call (Some g) d next is =
      let mark = marks.Execute link call.xid g.moment call.payload g.place g.reply in
      adds_both P d (with_mark mark d) (settled s link (with_mark mark d)) (adds_one P mark d (with_mark mark d) refl (rules.executes d call g next is)) (settled_by P s link rules.quiet (with_mark mark d))

  call_by : (call : ReadyCall) (is : Standing) (answer : Option GivenReply) (d : Drill) → waiting_call s link d.marks ≡ Some call → standing_of s link d call ≡ is → reply_given s link d call ≡ answer → AddsBy P d (after_call s link call is answer d)
  call_by call (Old top) answer d next stood is =
      let mark = marks.Told link (told.Old call.xid (last_frame_at link d.marks)) in
      adds_both P d (with_mark mark d) (settled s link (with_mark mark d)) (adds_one P mark d (with_mark mark d) refl (rules.told_old d call top next stood)) (settled_by P s link rules.quiet (with_mark mark d))
  call_by call (Kept place) answer d next stood is = answer_by call answer d next is
  call_by call New answer d next stood is = answer_by call answer d next is

  execution_by : (call : Option ReadyCall) (d : Drill) → waiting_call s link d.marks ≡ call → AddsBy P d (after_execution s link call d)
  execution_by None d next = adds_none P d d refl
  execution_by (Some call) d next = call_by call (standing_of s link d call) (reply_given s link d call) d next refl refl

  pub work_by : (d : Drill) → AddsBy P d (after_work s link d)
  unfolding after_work
  work_by d = execution_by (waiting_call s link d.marks) d refl

  giving_up_by : (xid : Option ℕ) (d : Drill) → AddsBy P d (after_giving_up link xid d)
  giving_up_by None d = adds_none P d d refl
  giving_up_by (Some xid) d = adds_one P (marks.Forget link xid) d (with_mark (marks.Forget link xid) d) refl (rules.forgot d.marks xid)

  pub forget_by : (number : ℕ) (d : Drill) → AddsBy P d (after_forget s link number d)
  unfolding after_forget
  forget_by number d = giving_up_by (open_xid s link d.marks (answer_of_line s (client_of s link) number d.marks)) d

  taking_back_by : (xid : Option ℕ) (d : Drill) → AddsBy P d (after_taking_back s link xid d)
  taking_back_by None d = adds_none P d d refl
  taking_back_by (Some xid) d =
      let bytes = revoked_bytes (s.opened link) link d.marks xid in
      let mark = marks.Revoke link xid bytes in
      adds_both P d (with_mark mark d) (settled s link (with_mark mark d)) (adds_one P mark d (with_mark mark d) refl (rules.revoked d.marks xid bytes)) (settled_by P s link rules.quiet (with_mark mark d))

  pub revoke_by : (number : ℕ) (d : Drill) → AddsBy P d (after_revoke s link number d)
  unfolding after_revoke
  revoke_by number d = taking_back_by (open_xid s link d.marks (answer_of_line s (client_of s link) number d.marks)) d

pub raw_by : (P : List Mark → Mark → Type 0) (link : ℕ) (side : Side) (bytes : List ℕ) (dropped : Bool) (d : Drill) → AddsBy P d (after_raw link side bytes dropped d)
raw_by P link side bytes true d = adds_none P d d refl
raw_by P link side bytes false d = adds_none P d (after_raw link side bytes false d) refl
