-- An executed call among a server's events is an Execute of the run.
use Rattle.std.proofs.Common.{◌≡◌, ℕ, Bool, true, false, ◌&&◌, eqb, List, [], ◌∷◌, ◌++◌, length, map, refl, sym, ap, subst, ◌∙◌, arith, append_assoc, append-nil, eqb-true, length-append}
use Rattle.nr_wire.specs.declared.hello.Side.TheVariants.{Initiator, Responder}
use Rattle.nr_link.specs.Frames.{Frame, frames_completed}
use Rattle.nr_reduce.specs.declared.call.Submission.TheVariants as submissions
use Rattle.nr_reduce.specs.declared.mark.Mark.{Mark}
use Rattle.nr_reduce.specs.declared.mark.Mark.TheVariants as marks
use Rattle.nr_reduce.specs.History.{ExecutedCall, bytes_received, same_side}
use Rattle.nr_reduce.specs.Events.{RunEvent, events, events_at, if_own}
use Rattle.nr_reduce.specs.Events.RunEvent.{FrameReceived, CallSubmitted, MemoryRevoked, CallExecuted, QueueWritten, ServerTold}
use Rattle.nr_reduce.proofs.Steps.{events_one}
use Rattle.nr_laws.proofs.Basics.{first_is_lem, PartedTwo, parted_two}
use Rattle.nr_laws.proofs.Basics.PartedTwo.{InFirst, InSecond}

abbrev pub execute_mark : ℕ → ExecutedCall → Mark
execute_mark link e = marks.Execute link e.xid e.moment e.payload e.place e.reply

pub record ExecuteMark (link : ℕ) (run : List Mark) (es : List RunEvent) (e : ExecutedCall) : Type 0 where
  pub earlier : List Mark
  pub later : List Mark
  pub is : run ≡ earlier ++ execute_mark link e ∷ later
  pub before : events link Responder earlier ≡ es

-- events of one mark
abbrev NoExecutes : List RunEvent → Type 0
NoExecutes [] = Unit {0}
NoExecutes (FrameReceived f ∷ es) = NoExecutes es
NoExecutes (CallSubmitted p a ∷ es) = NoExecutes es
NoExecutes (MemoryRevoked p xid ∷ es) = NoExecutes es
NoExecutes (CallExecuted e ∷ es) = ⊥
NoExecutes (QueueWritten taken ∷ es) = NoExecutes es
NoExecutes (ServerTold what ∷ es) = NoExecutes es

no_frames : (fs : List Frame) → NoExecutes (map FrameReceived fs)
no_frames [] = tt
no_frames (f ∷ fs) = no_frames fs

no_if : (b : Bool) (es : List RunEvent) → NoExecutes es → NoExecutes (if_own b es)
no_if true es h = h
no_if false es h = tt

no_at : (pre : List RunEvent) (e : ExecutedCall) (post : List RunEvent) → NoExecutes (pre ++ CallExecuted e ∷ post) → ⊥
no_at [] e post h = h
no_at (FrameReceived f ∷ pre) e post h = no_at pre e post h
no_at (CallSubmitted p a ∷ pre) e post h = no_at pre e post h
no_at (MemoryRevoked p xid ∷ pre) e post h = no_at pre e post h
no_at (CallExecuted x ∷ pre) e post h = h
no_at (QueueWritten taken ∷ pre) e post h = no_at pre e post h
no_at (ServerTold what ∷ pre) e post h = no_at pre e post h

abbrev HasMarks : ℕ → List Mark → Type 0
HasMarks link run = (pre : List RunEvent) (e : ExecutedCall) (post : List RunEvent) → events link Responder run ≡ pre ++ CallExecuted e ∷ post → ExecuteMark link run pre e

later_mark : (link : ℕ) (run : List Mark) (mark : Mark) (es : List RunEvent) (e : ExecutedCall) → ExecuteMark link run es e → ExecuteMark link (run ++ mark ∷ []) es e
later_mark link run mark es e m = record {
  earlier = m.earlier;
  later = m.later ++ mark ∷ [];
  is = ap (λ (r : List Mark). r ++ mark ∷ []) m.is ∙ append_assoc m.earlier (execute_mark link e ∷ m.later) (mark ∷ []);
  before = m.before;
}

quiet_marks : (link : ℕ) (before : List Mark) (mark : Mark) → NoExecutes (events_at link Responder before mark) → HasMarks link before → HasMarks link (before ++ mark ∷ [])
quiet_marks link before mark none has pre e post is = by (parted_two (events link Responder before) (events_at link Responder before mark) pre (CallExecuted e) post (sym (events_one link Responder before mark) ∙ is))
  where
    by : PartedTwo (events link Responder before) (events_at link Responder before mark) pre (CallExecuted e) post → ExecuteMark link (before ++ mark ∷ []) pre e
    by (InFirst more own) = later_mark link before mark pre e (has pre e more own)
    by (InSecond rest own there) = absurd (no_at rest e post (subst NoExecutes there none))

execute_marks : (link : ℕ) (before : List Mark) (x : ExecutedCall) → HasMarks link before → HasMarks link (before ++ execute_mark link x ∷ [])
execute_marks link before x has pre e post is =
    by (parted_two (events link Responder before) (CallExecuted x ∷ []) pre (CallExecuted e) post (ap (λ (es : List RunEvent). events link Responder before ++ es) (sym here) ∙ sym (events_one link Responder before (execute_mark link x)) ∙ is))
  where
    here : events_at link Responder before (execute_mark link x) ≡ CallExecuted x ∷ []
    here = ap (λ (b : Bool). if_own (b && true) (CallExecuted x ∷ [])) (Rattle.std.proofs.Common.eq-eqb link link refl)

    at_once : (rest : List RunEvent) → CallExecuted x ∷ [] ≡ rest ++ CallExecuted e ∷ post → (rest ≡ []) × (x ≡ e)
    at_once [] own = (refl, same (first_is_lem (CallExecuted x) (CallExecuted e) [] post own))
      where
        same : {x e : ExecutedCall} → CallExecuted x ≡ CallExecuted e → x ≡ e
        same own = cc
    at_once (y ∷ rest) own = absurd (let l = ap (λ (zs : List RunEvent). length zs) own in let n = length-append rest (CallExecuted e ∷ post) in omega (arith, l, n))

    by : PartedTwo (events link Responder before) (CallExecuted x ∷ []) pre (CallExecuted e) post → ExecuteMark link (before ++ execute_mark link x ∷ []) pre e
    by (InFirst more own) = later_mark link before (execute_mark link x) pre e (has pre e more own)
    by (InSecond rest own there) =
        let a = at_once rest there in
        record {
          earlier = before;
          later = [];
          is = ap (λ (c : ExecutedCall). before ++ execute_mark link c ∷ []) a.1;
          before = sym (own ∙ ap (λ (r : List RunEvent). events link Responder before ++ r) a.0 ∙ append-nil (events link Responder before));
        }

mark_marks : (link : ℕ) (before : List Mark) (mark : Mark) → HasMarks link before → HasMarks link (before ++ mark ∷ [])
mark_marks link before (marks.Execute l xid moment payload place reply) has = by (eqb l link) refl
  where
    x : ExecutedCall
    x = record { xid = xid; moment = moment; payload = payload; place = place; reply = reply }

    by : (b : Bool) → eqb l link ≡ b → HasMarks link (before ++ marks.Execute l xid moment payload place reply ∷ [])
    by true is = subst (λ (n : ℕ). HasMarks link (before ++ marks.Execute n xid moment payload place reply ∷ [])) (sym (eqb-true l link is)) (execute_marks link before x has)
    by false is = quiet_marks link before (marks.Execute l xid moment payload place reply) (subst (λ (b : Bool). NoExecutes (if_own (b && true) (CallExecuted x ∷ []))) (sym is) tt) has
mark_marks link before (marks.Submit l call form (submissions.Accepted xid)) has = quiet_marks link before (marks.Submit l call form (submissions.Accepted xid))
    (no_if (eqb l link && false) (CallSubmitted (length (bytes_received link Responder before)) (record { xid = xid; call = call; form = form }) ∷ []) tt) has
mark_marks link before (marks.Submit l call form (submissions.Refused why)) has = quiet_marks link before (marks.Submit l call form (submissions.Refused why)) tt has
mark_marks link before (marks.Submit l call form submissions.Dropped) has = quiet_marks link before (marks.Submit l call form submissions.Dropped) tt has
mark_marks link before (marks.Fed l s bytes) has = quiet_marks link before (marks.Fed l s bytes) (no_if (eqb l link && same_side s Responder) (map FrameReceived (frames_completed Initiator (bytes_received link Responder before) bytes)) (no_frames (frames_completed Initiator (bytes_received link Responder before) bytes))) has
mark_marks link before (marks.Wrote l s bytes) has = quiet_marks link before (marks.Wrote l s bytes) (no_if (eqb l link && same_side s Responder) (QueueWritten (length bytes) ∷ []) tt) has
mark_marks link before (marks.Revoke l xid bytes) has = quiet_marks link before (marks.Revoke l xid bytes) (no_if (eqb l link && false) (MemoryRevoked (length (bytes_received link Responder before)) xid ∷ []) tt) has
mark_marks link before (marks.Done l xid outcome) has = quiet_marks link before (marks.Done l xid outcome) tt has
mark_marks link before (marks.Lost l xid) has = quiet_marks link before (marks.Lost l xid) tt has
mark_marks link before (marks.Forget l xid) has = quiet_marks link before (marks.Forget l xid) tt has
mark_marks link before (marks.Drop l) has = quiet_marks link before (marks.Drop l) tt has
mark_marks link before (marks.Told l what) has = quiet_marks link before (marks.Told l what) (no_if (eqb l link && true) (ServerTold what ∷ []) tt) has

marks_from : (link : ℕ) (before run : List Mark) → HasMarks link before → HasMarks link (before ++ run)
marks_from link before [] has = subst (λ (b : List Mark). HasMarks link b) (sym (append-nil before)) has
marks_from link before (mark ∷ run) has = subst (λ (b : List Mark). HasMarks link b) (append_assoc before (mark ∷ []) run) (marks_from link (before ++ mark ∷ []) run (mark_marks link before mark has))

pub execute_mark_lem : (link : ℕ) (run : List Mark) → HasMarks link run
unfolding events
execute_mark_lem link run = marks_from link [] run none
  where
    none : HasMarks link []
    none [] e post is = absurd cc
    none (x ∷ pre) e post is = absurd cc
