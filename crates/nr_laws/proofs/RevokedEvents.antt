-- A call that wasn't given up has no event by which its memory is taken back.
use Rattle.std.proofs.Common.{◌≡◌, ◌≢◌, ℕ, Bool, true, false, ◌&&◌, ◌||◌, eqb, List, [], ◌∷◌, ◌++◌, length, map, refl, sym, ◌∙◌, eq-eqb}
use Rattle.std.specs.List.{list_any}
use Rattle.nr_wire.specs.declared.hello.Side.TheVariants.{Initiator, Responder}
use Rattle.nr_link.specs.Frames.{Frame, frames_completed}
use Rattle.nr_reduce.specs.declared.call.Submission.TheVariants as submissions
use Rattle.nr_reduce.specs.declared.mark.Mark.{Mark}
use Rattle.nr_reduce.specs.declared.mark.Mark.TheVariants as marks
use Rattle.nr_reduce.specs.History.{same_side, bytes_received, abandons, is_abandoned}
use Rattle.nr_reduce.specs.Events.{RunEvent, if_own, events_at, events_from, events}
use Rattle.nr_reduce.specs.Events.RunEvent.{FrameReceived, CallSubmitted, MemoryRevoked, CallExecuted, QueueWritten, ServerTold}

abbrev pub NotRevoke : ℕ → RunEvent → Type 0
NotRevoke x (FrameReceived f) = Unit {0}
NotRevoke x (CallSubmitted p a) = Unit {0}
NotRevoke x (MemoryRevoked p xid) = xid ≢ x
NotRevoke x (CallExecuted e) = Unit {0}
NotRevoke x (QueueWritten taken) = Unit {0}
NotRevoke x (ServerTold what) = Unit {0}

abbrev pub NoRevoke : ℕ → List RunEvent → Type 0
NoRevoke x [] = Unit {0}
NoRevoke x (e ∷ es) = NotRevoke x e × NoRevoke x es

none_append_lem : (x : ℕ) (es fs : List RunEvent) → NoRevoke x es → NoRevoke x fs → NoRevoke x (es ++ fs)
none_append_lem x [] fs h g = g
none_append_lem x (e ∷ es) fs h g = (h.0, none_append_lem x es fs h.1 g)

none_frames : (x : ℕ) (fs : List Frame) → NoRevoke x (map FrameReceived fs)
none_frames x [] = tt
none_frames x (f ∷ fs) = (tt, none_frames x fs)

none_if : (x : ℕ) (b : Bool) (es : List RunEvent) → NoRevoke x es → NoRevoke x (if_own b es)
none_if x true es h = h
none_if x false es h = tt

none_mark : (link x : ℕ) (before : List Mark) (mark : Mark) → abandons link x mark ≡ false → NoRevoke x (events_at link Initiator before mark)
none_mark link x before (marks.Fed l s bytes) e = none_if x (eqb l link && same_side s Initiator) (map FrameReceived (frames_completed Responder (bytes_received link Initiator before) bytes)) (none_frames x (frames_completed Responder (bytes_received link Initiator before) bytes))
none_mark link x before (marks.Wrote l s bytes) e = none_if x (eqb l link && same_side s Initiator) (QueueWritten (length bytes) ∷ []) (tt, tt)
none_mark link x before (marks.Submit l call form (submissions.Accepted xid)) e =
    none_if x (eqb l link && true) (CallSubmitted (length (bytes_received link Initiator before)) (record { xid = xid; call = call; form = form }) ∷ []) (tt, tt)
none_mark link x before (marks.Submit l call form (submissions.Refused why)) e = tt
none_mark link x before (marks.Submit l call form submissions.Dropped) e = tt
none_mark link x before (marks.Execute l xid moment payload at reply) e =
    none_if x (eqb l link && false) (CallExecuted (record { xid = xid; moment = moment; payload = payload; place = at; reply = reply }) ∷ []) (tt, tt)
none_mark link x before (marks.Revoke l xid bytes) e = by (eqb l link) e
  where
    by : (b : Bool) → (b && eqb xid x) ≡ false → NoRevoke x (if_own (b && true) (MemoryRevoked (length (bytes_received link Initiator before)) xid ∷ []))
    by true f = ((λ same. absurd (let wrong : false ≡ true = sym f ∙ eq-eqb xid x same in cc)), tt)
    by false f = tt
none_mark link x before (marks.Done l xid outcome) e = tt
none_mark link x before (marks.Lost l xid) e = tt
none_mark link x before (marks.Forget l xid) e = tt
none_mark link x before (marks.Drop l) e = tt
none_mark link x before (marks.Told l what) e = none_if x (eqb l link && false) (ServerTold what ∷ []) (tt, tt)

both_false : (a b : Bool) → (a || b) ≡ false → (a ≡ false) × (b ≡ false)
both_false true b e = absurd (let wrong : true ≡ false = e in cc)
both_false false b e = (refl, e)

none_from : (link x : ℕ) (before run : List Mark) → list_any (abandons link x) run ≡ false → NoRevoke x (events_from link Initiator before run)
none_from link x before [] e = tt
none_from link x before (mark ∷ run) e =
    let both = both_false (abandons link x mark) (list_any (abandons link x) run) e in
    none_append_lem x (events_at link Initiator before mark) (events_from link Initiator (before ++ mark ∷ []) run) (none_mark link x before mark both.0) (none_from link x (before ++ mark ∷ []) run both.1)

pub no_revoke : (link x : ℕ) (run : List Mark) → is_abandoned link x run ≡ false → NoRevoke x (events link Initiator run)
unfolding events
no_revoke link x run e = none_from link x [] run e

pub revoke_at : (x p : ℕ) (earlier later : List RunEvent) → NoRevoke x (earlier ++ MemoryRevoked p x ∷ later) → ⊥
revoke_at x p [] later h = h.0 refl
revoke_at x p (e ∷ earlier) later h = revoke_at x p earlier later h.1
