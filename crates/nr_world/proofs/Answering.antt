-- What the code made of a call: it answered it, or ended the server since the call is old.
use Rattle.std.specs.Prelude.{slice_get, is_err, IfOk, OnOk, OnErr, MatchOption, Result, Ok, Err}
use Rattle.std.proofs.Common.{◌≡◌, ◌≢◌, ℕ, ◌≤◌, arith, true, false, List, [], ◌∷◌, ◌++◌, Option, None, Some, refl, ap, sym, subst, ◌∙◌}
use Rattle.nr_outside.specs.declared.moment.Moment.{Moment}
use Rattle.nr_link.specs.declared.end.End.{End}
use Rattle.nr_endpoint.specs.FedBytes.{fed_bytes}
use Rattle.nr_endpoint.specs.LinkState.{LinkSide}
use Rattle.nr_reduce.specs.declared.mark.LinkParameters.{LinkParameters}
use Rattle.nr_reduce.specs.declared.mark.Mark.{Mark}
use Rattle.nr_reduce.specs.Served.{last_frame_at, IsExecuted}
use Rattle.nr_responder.specs.declared.call.Sent.{Sent}
use Rattle.nr_responder.specs.Answering.{Answers, answer_to, message_for, name_for}
use Rattle.nr_responder.specs.ResponderState.{ResponderSide, end_of, present_word}
use Rattle.nr_responder.specs.Sound.{IsNext}
use Rattle.nr_responder.specs.Standing.{ResponderRepresents}
use Rattle.nr_responder.proofs.Answered.{answer_link}
use Rattle.nr_world.specs.declared.server.Execution.{Execution}
use Rattle.nr_world.specs.DrillLinkState.{DrillLinkState}
use Rattle.nr_world.specs.DrillServers.{at_second}
use Rattle.nr_world.specs.private.Working.{AnswersWith, TellsOld, with_server}
use Rattle.nr_link.specs.declared.end.End.TheVariants as ends
use Rattle.nr_reduce.specs.declared.mark.Mark.TheVariants as marks
use Rattle.nr_reduce.specs.declared.mark.Told.TheVariants as told

-- an answer does not end a side
pub live_answered : (v v2 : ResponderSide) (xid : ℕ) (reply : List ℕ) (sent : Sent) → Answers v v2 xid reply sent → end_of v ≡ None → end_of v2 ≡ None
live_answered v v2 xid reply sent a live =
    ap end_of a.state
    ∙ ap (λ (l : LinkSide). l.state.ended) (answer_link v.link a.writes (name_for v.link.state.agreed.invalidates a.call.lists (answer_to v.link.state.agreed.down a.call a.stream reply))
    (message_for xid (present_word v) a.call.lists (answer_to v.link.state.agreed.down a.call a.stream reply)) live)
    ∙ live

-- a server that was fed nothing
pub server_fed_same : (C : Type 0) (l l2 : LinkSide) (most : ℕ) → fed_bytes l2 ≡ fed_bytes l → (fed_bytes l ≤ most) × C → (fed_bytes l2 ≤ most) × C
server_fed_same C l l2 most fed i = (subst (λ (n : ℕ). n ≤ most) (sym fed) i.0, i.1)

pub told_fed : (C : Type 0) (l l2 : LinkSide) (most : ℕ) → fed_bytes l2 ≤ fed_bytes l → (fed_bytes l ≤ most) × C → (fed_bytes l2 ≤ most) × C
told_fed C l l2 most fed i = (omega (arith, fed, i.0), i.1)

pub of_ok : {T E : Type 0} (r : Result T E) (P : Type 0) → is_err r ≡ false → OnOk r P → P
of_ok (Ok x) P e h = h
of_ok (Err x) P e h = absurd cc

pub of_if_ok : {T E : Type 0} (r : Result T E) (F : T → Type 0) → is_err r ≡ false → IfOk r F → (x : T) × F x
of_if_ok (Ok x) F e h = (x, h)
of_if_ok (Err x) F e h = absurd cc

pub of_err : {T E : Type 0} (r : Result T E) (P : Type 0) → is_err r ≡ true → OnErr r P → P
of_err (Ok x) P e h = absurd cc
of_err (Err x) P e h = h

pub of_some : (o : Option Execution) (x : Execution) (P : Type 0) (F : Execution → Type 0) → o ≡ Some x → MatchOption o P F → F x
of_some o x P F is h = subst (λ (e : Option Execution). MatchOption e P F) is h

pub of_none : (o : Option Execution) (P : Type 0) (F : Execution → Type 0) → o ≡ None → MatchOption o P F → P
of_none o P F is h = subst (λ (e : Option Execution). MatchOption e P F) is h

pub next_some : (v : ResponderSide) (xid : ℕ) → IsNext v xid → v.ready ≢ []
next_some v xid next none = absurd (let no = ap (λ (xs : List ℕ). slice_get xs 0) (sym none) ∙ next in cc)

-- the answer is queued; `sent` is the reply as a slice
pub answers_with : (v h : DrillLinkState) (server : ResponderSide) (run run2 : List Mark) (call number : ℕ) (payload : List ℕ) (e : Execution) (sent : List ℕ) → v ≡ h →
    ((opened : LinkParameters) (link : ℕ) (so_far : List Mark) (moment : Moment) (given : List ℕ) (place : ℕ) → ResponderRepresents opened link so_far v.server → IsExecuted opened link so_far call given →
    ResponderRepresents opened link (so_far ++ marks.Execute link call moment given place sent ∷ []) server) → sent ≡ e.reply → end_of server ≡ None → number ≡ call →
    run2 ≡ run ++ marks.Execute v.number number (at_second e.second) payload e.place e.reply ∷ [] → AnswersWith call payload e h (with_server v server) run run2
answers_with v h server run run2 call number payload e sent is stands same live own more =
    subst (λ (x : DrillLinkState). AnswersWith call payload e x (with_server v server) run run2) is (record {
      server = server;
      live = live;
      stands = λ opened link so_far moment given place r ex. subst (λ (reply : List ℕ). ResponderRepresents opened link (so_far ++ marks.Execute link call moment given place reply ∷ []) server) same (stands opened link so_far moment given place r ex);
      link_is = refl;
      marks_are = more ∙ ap (λ (n : ℕ). run ++ marks.Execute v.number n (at_second e.second) payload e.place e.reply ∷ []) own;
    })

abbrev bad_at : End → ℕ
bad_at (ends.Bad at reason) = at
bad_at end = 0

not_memory : (end : End) (at reason : ℕ) → end ≡ ends.Bad at reason → end ≢ ends.Memory
not_memory end at reason is e = absurd (let no = sym is ∙ e in cc)

-- the server has ended at this frame
pub told_as : (v h : DrillLinkState) (server : ResponderSide) (run run2 : List Mark) (call number at : ℕ) (end : End) (reason : ℕ) → end ≡ ends.Bad at reason → v ≡ h → end_of server ≡ Some end →
    (end ≢ ends.Memory → (reason_told : ℕ) × (end ≡ ends.Bad v.server.link.state.last reason_told)) →
    ((opened : LinkParameters) (link : ℕ) (so_far : List Mark) → ResponderRepresents opened link so_far v.server → v.server.link.state.last ≡ last_frame_at link so_far) →
    ((opened : LinkParameters) (link : ℕ) (so_far : List Mark) (xid : ℕ) → ResponderRepresents opened link so_far v.server → ResponderRepresents opened link (so_far ++ marks.Told link (told.Old xid (last_frame_at link so_far)) ∷ []) server) →
    number ≡ call → run2 ≡ run ++ marks.Told v.number (told.Old number at) ∷ [] → TellsOld call h (with_server v server) run run2
told_as v h server run run2 call number at end reason bad is ended why last stands own more =
    let some : end ≢ ends.Memory = not_memory end at reason bad in
    let here : at ≡ v.server.link.state.last = ap bad_at (sym bad ∙ (why some).1) in
    subst (λ (x : DrillLinkState). TellsOld call x (with_server v server) run run2) is (record {
      server = server;
      at = at;
      has_memory = λ e. some (let same = sym ended ∙ e in cc);
      last = λ opened link so_far r. here ∙ last opened link so_far r;
      stands = stands;
      link_is = refl;
      marks_are = more ∙ ap (λ (n : ℕ). run ++ marks.Told v.number (told.Old n at) ∷ []) own;
    })
