-- A call of a link is settled: its outcome is handed over, or it is given up.
use Rattle.std.specs.Prelude.{◌&&◌, ◌||◌, ◌==◌, not}
use Rattle.std.specs.List.{list_any}
use Rattle.std.proofs.Common.{◌≡◌, ℕ, Bool, true, false, cond, eqb, List, [], ◌∷◌, ◌++◌, length, map, filter, refl, ap, sym, ◌∙◌}
use Rattle.std.proofs.lemmas.Bool.{eq-eqb}
use Rattle.nr_wire.specs.declared.hello.Side.TheVariants.{Responder}
use Rattle.nr_reduce.specs.declared.call.Outcome.{Outcome}
use Rattle.nr_reduce.specs.declared.call.Submission.{Submission}
use Rattle.nr_reduce.specs.declared.mark.Mark.{Mark}
use Rattle.nr_reduce.specs.Concerns.{concerns}
use Rattle.nr_reduce.specs.History.{AcceptedCall, CompletedCall, accepted_at, is_drop_of}
use Rattle.nr_reduce.proofs.Standing.{itself}
use Rattle.nr_reduce.proofs.Unconcerned.{of_other_side}
use Rattle.nr_requester.specs.KeptAnswers.{is_due}
use Rattle.nr_requester.specs.Laws.{gives_up}
use Rattle.nr_requester.proofs.AnswerSteps.{due_one}
use Rattle.nr_drill.specs.Drill.{link_of, Setting, answer_at, client_of, settles}
use Rattle.nr_drill.specs.InBytes.{RepliedMark}
use Rattle.nr_world.specs.DrillLinkState.{AwaitedLine}
use Rattle.nr_world.specs.LinkStands.{TracksCalls, answers_of, awaited_lines, call_ids, due_calls, is_awaited, line_ids, lines_from, link_calls}
use Rattle.nr_world.specs.OpenTickets.{calls_without}
use Rattle.nr_world.proofs.CallLines.{answers_same, awaited_one, calls_same, filter_as}
use Rattle.nr_world.proofs.EarlierCalls.{elsewhere_on, own_elsewhere}
use Rattle.nr_world.proofs.WaitingCalls.{leaves_calls}
use Rattle.nr_reduce.specs.declared.mark.Mark.TheVariants as marks

-- a mark that settles the call of an xid of this link, and no other
pub record SettlesOne (s : Setting) (link xid : ℕ) (mark : Mark) : Type 0 where
  pub own : link_of mark ≡ link
  pub drops : is_drop_of link mark ≡ false
  pub answer : answer_at s (client_of s link) mark ≡ []
  pub settle : (x : ℕ) → settles s (client_of s link) x mark ≡ eqb xid x
  pub gives : (x : ℕ) → gives_up link x mark ≡ eqb xid x
  pub accepts : accepted_at link mark ≡ []
  pub others : concerns link Responder mark ≡ false
  pub replied : (before : List Mark) → RepliedMark before mark

or_false : (b : Bool) → (b || false) ≡ b
or_false true = refl
or_false false = refl

own_link : (link xid x : ℕ) → ((eqb link link && eqb xid x) || false) ≡ eqb xid x
own_link link xid x = ap (λ (b : Bool). (b && eqb xid x) || false) (itself link) ∙ or_false (eqb xid x)

own_client : (s : Setting) (link xid x : ℕ) → (client_of s link == client_of s link && xid == x) ≡ eqb xid x
own_client s link xid x = ap (λ (b : Bool). b && eqb xid x) (eq-eqb (client_of s link) (client_of s link) refl)

pub forget_settles : (s : Setting) (link xid : ℕ) → SettlesOne s link xid (marks.Forget link xid)
forget_settles s link xid = record { own = refl; drops = refl; answer = refl; settle = own_client s link xid; gives = own_link link xid; accepts = refl; others = of_other_side (eqb link link); replied = λ before. tt }

pub revoke_settles : (s : Setting) (link xid : ℕ) (bytes : List ℕ) → SettlesOne s link xid (marks.Revoke link xid bytes)
revoke_settles s link xid bytes =
    record { own = refl; drops = refl; answer = refl; settle = own_client s link xid; gives = own_link link xid; accepts = refl; others = of_other_side (eqb link link); replied = λ before. tt }

done_given : (link xid x : ℕ) (outcome : Outcome) → gives_up link x (marks.Done link xid outcome) ≡ eqb xid x
done_given link xid x outcome = ap (λ (b : Bool). false || list_any (λ (c : CompletedCall). eqb c.xid x) (cond b (record { xid = xid; outcome = outcome } ∷ []) [])) (itself link) ∙ or_false (eqb xid x)

pub done_settles : (s : Setting) (link xid : ℕ) (outcome : Outcome) → SettlesOne s link xid (marks.Done link xid outcome)
done_settles s link xid outcome = record {
  own = refl;
  drops = refl;
  answer = refl;
  settle = own_client s link xid;
  gives = λ x. done_given link xid x outcome;
  accepts = refl;
  others = of_other_side (eqb link link);
  replied = λ before. tt;
}

-- ---- What is left

abbrev pub lines_without : ℕ → List AwaitedLine → List AwaitedLine
lines_without xid lines = filter (λ (line : AwaitedLine). not (eqb xid line.xid)) lines

filter_both : {X : Type 0} (p q : X → Bool) (xs : List X) → filter (λ (x : X). p x && q x) xs ≡ filter q (filter p xs)
filter_both p q [] = refl
filter_both {X = X} p q (x ∷ xs) = by (p x) (filter_both p q xs)
  where
    by : (b : Bool) → filter (λ (x : X). p x && q x) xs ≡ filter q (filter p xs) → cond (b && q x) (x ∷ filter (λ (x : X). p x && q x) xs) (filter (λ (x : X). p x && q x) xs) ≡ filter q (cond b (x ∷ filter p xs) (filter p xs))
    by true rest = λ i. cond (q x) (x ∷ rest i) (rest i)
    by false rest = rest

pub ids_filtered : {X : Type 0} (id : X → ℕ) (p : ℕ → Bool) (xs : List X) → map id (filter (λ (x : X). p (id x)) xs) ≡ filter p (map id xs)
ids_filtered id p [] = refl
ids_filtered {X = X} id p (x ∷ xs) = by (p (id x)) (ids_filtered id p xs)
  where
    by : (b : Bool) → map id (filter (λ (y : X). p (id y)) xs) ≡ filter p (map id xs) → map id (cond b (x ∷ filter (λ (y : X). p (id y)) xs) (filter (λ (y : X). p (id y)) xs)) ≡ cond b (id x ∷ filter p (map id xs)) (filter p (map id xs))
    by true rest = ap (λ (ns : List ℕ). id x ∷ ns) rest
    by false rest = rest

awaited_less : (s : Setting) (link xid : ℕ) (run : List Mark) (mark : Mark) → SettlesOne s link xid mark → awaited_lines s link (run ++ mark ∷ []) ≡ lines_without xid (awaited_lines s link run)
unfolding awaited_lines
awaited_less s link xid run mark g =
    ap (λ (answers : List Submission). filter (is_awaited s link (run ++ mark ∷ [])) (lines_from 0 answers)) (answers_same s link run mark g.answer)
    ∙ filter_as (is_awaited s link (run ++ mark ∷ [])) (λ (line : AwaitedLine). is_awaited s link run line && not (eqb xid line.xid)) (lines_from 0 (answers_of s link run))
    (λ line. awaited_one s link run mark line ∙ ap (λ (b : Bool). is_awaited s link run line && not b) (g.settle line.xid))
    ∙ filter_both (is_awaited s link run) (λ (line : AwaitedLine). not (eqb xid line.xid)) (lines_from 0 (answers_of s link run))

due_less : (s : Setting) (link xid : ℕ) (run : List Mark) (mark : Mark) → SettlesOne s link xid mark → due_calls (s.opened link) link (run ++ mark ∷ []) ≡ calls_without xid (due_calls (s.opened link) link run)
unfolding due_calls
due_less s link xid run mark g =
    let o = s.opened link in
    ap (λ (calls : List AcceptedCall). filter (λ (a : AcceptedCall). is_due link (run ++ mark ∷ []) a.xid) calls) (calls_same o link run mark (leaves_calls o link run mark g.accepts))
    ∙ filter_as (λ (a : AcceptedCall). is_due link (run ++ mark ∷ []) a.xid) (λ (a : AcceptedCall). is_due link run a.xid && not (eqb xid a.xid)) (link_calls o link run)
    (λ a. due_one link run mark a.xid ∙ ap (λ (b : Bool). is_due link run a.xid && not b) (g.gives a.xid))
    ∙ filter_both (λ (a : AcceptedCall). is_due link run a.xid) (λ (a : AcceptedCall). not (eqb xid a.xid)) (link_calls o link run)

pub tracks_less : (s : Setting) (link xid : ℕ) (run : List Mark) (mark : Mark) (lines : ℕ) (awaited left : List AwaitedLine) (calls fewer waiting : List AcceptedCall) → SettlesOne s link xid mark → left ≡ lines_without xid awaited → fewer ≡ calls_without xid calls →
    TracksCalls s link run lines awaited calls waiting → TracksCalls s link (run ++ mark ∷ []) lines left fewer waiting
tracks_less s link xid run mark lines awaited left calls fewer waiting g lines_left calls_left t = record {
  lines_are = t.lines_are ∙ ap (λ (answers : List Submission). length answers) (sym (answers_same s link run mark g.answer));
  awaited_are = lines_left ∙ ap (λ (ls : List AwaitedLine). lines_without xid ls) t.awaited_are ∙ sym (awaited_less s link xid run mark g);
  calls_are = calls_left ∙ ap (λ (cs : List AcceptedCall). calls_without xid cs) t.calls_are ∙ sym (due_less s link xid run mark g);
  waiting_are = t.waiting_are ∙ sym (leaves_calls (s.opened link) link run mark g.accepts).waits;
  same_ids =
      ap (λ (cs : List AcceptedCall). call_ids cs) calls_left ∙ ids_filtered (λ (a : AcceptedCall). a.xid) (λ x. not (eqb xid x)) calls
      ∙ ap (λ (ns : List ℕ). filter (λ x. not (eqb xid x)) ns) t.same_ids
      ∙ sym (ap (λ (ls : List AwaitedLine). line_ids ls) lines_left ∙ ids_filtered (λ (l : AwaitedLine). l.xid) (λ x. not (eqb xid x)) awaited);
  none_before = λ x above. elsewhere_on s link x run mark (own_elsewhere s link x mark g.own) (t.none_before x above);
}
