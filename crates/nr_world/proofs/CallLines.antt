-- The calls of a client, after one mark more.
use Rattle.std.specs.Prelude.{◌&&◌, ◌||◌, not}
use Rattle.std.specs.List.{list_any}
use Rattle.std.proofs.Common.{◌≡◌, ℕ, ◌+◌, Bool, true, false, cond, List, [], ◌∷◌, ◌++◌, length, map, filter, refl, ap, sym, ◌∙◌, append-nil}
use Rattle.nr_wire.specs.declared.hello.Side.TheVariants.{Initiator}
use Rattle.nr_reduce.specs.declared.call.Submission.{Submission}
use Rattle.nr_reduce.specs.declared.mark.LinkParameters.{LinkParameters}
use Rattle.nr_reduce.specs.declared.mark.Mark.{Mark}
use Rattle.nr_reduce.specs.ClientState.{ClientState}
use Rattle.nr_reduce.specs.Events.{RunEvent, events_at}
use Rattle.nr_reduce.specs.EndRules.{EndState, end_state_after}
use Rattle.nr_reduce.specs.Client.{client_rules}
use Rattle.nr_reduce.specs.History.{AcceptedCall, accepted_at, accepted_calls}
use Rattle.nr_reduce.specs.Run.{client}
use Rattle.nr_reduce.proofs.Standing.{one_more}
use Rattle.nr_reduce.proofs.Steps.{client_one}
use Rattle.nr_reduce.proofs.Waiting.{accepted_one}
use Rattle.nr_laws.proofs.DistinctKeys.{any_append}
use Rattle.nr_requester.specs.KeptAnswers.{is_due}
use Rattle.nr_requester.specs.Laws.{GivesUpNothing}
use Rattle.nr_requester.proofs.AnswerSteps.{due_same}
use Rattle.nr_drill.specs.Drill.{Setting, answer_at, client_of, settles}
use Rattle.nr_world.specs.DrillLinkState.{AwaitedLine}
use Rattle.nr_world.proofs.EarlierCalls.{elsewhere_on, quiet_elsewhere}
use Rattle.nr_world.specs.LinkStands.{TracksCalls, answers_of, as_waiting, awaited_lines, due_calls, is_awaited, lines_from, link_calls, waiting_calls}
use Rattle.nr_reduce.specs.declared.call.Submission.TheVariants as submissions
use Rattle.nr_reduce.specs.declared.mark.Mark.TheVariants as marks

pub filter_as : {X : Type 0} (p q : X → Bool) (xs : List X) → ((x : X) → p x ≡ q x) → filter p xs ≡ filter q xs
filter_as p q [] same = refl
filter_as p q (x ∷ xs) same = λ i. cond (same x i) (x ∷ filter_as p q xs same i) (filter_as p q xs same i)

pub filter_parts : {X : Type 0} (p : X → Bool) (xs ys : List X) → filter p (xs ++ ys) ≡ filter p xs ++ filter p ys
filter_parts p [] ys = refl
filter_parts {X = X} p (x ∷ xs) ys = by (p x) (filter_parts p xs ys)
  where
    by : (b : Bool) → filter p (xs ++ ys) ≡ filter p xs ++ filter p ys → cond b (x ∷ filter p (xs ++ ys)) (filter p (xs ++ ys)) ≡ cond b (x ∷ filter p xs) (filter p xs) ++ filter p ys
    by true rest = λ i. x ∷ rest i
    by false rest = rest

pub answers_one : (s : Setting) (link : ℕ) (run : List Mark) (mark : Mark) → answers_of s link (run ++ mark ∷ []) ≡ answers_of s link run ++ answer_at s (client_of s link) mark
answers_one s link run mark = one_more (answer_at s (client_of s link)) run mark

-- a mark that answers no call line of the client
pub answers_same : (s : Setting) (link : ℕ) (run : List Mark) (mark : Mark) → answer_at s (client_of s link) mark ≡ [] → answers_of s link (run ++ mark ∷ []) ≡ answers_of s link run
answers_same s link run mark none = answers_one s link run mark ∙ ap (λ (more : List Submission). answers_of s link run ++ more) none ∙ append-nil (answers_of s link run)

-- whether a line is awaited after a mark more
pub awaited_one : (s : Setting) (link : ℕ) (run : List Mark) (mark : Mark) (line : AwaitedLine) →
    is_awaited s link (run ++ mark ∷ []) line ≡ (is_awaited s link run line && not (settles s (client_of s link) line.xid mark))
awaited_one s link run mark line =
    ap not (any_append (settles s (client_of s link) line.xid) run (mark ∷ []))
    ∙ both (list_any (settles s (client_of s link) line.xid) run) (settles s (client_of s link) line.xid mark)
  where
    both : (a b : Bool) → not (a || (b || false)) ≡ (not a && not b)
    both true b = refl
    both false true = refl
    both false false = refl

-- a mark that settles no call of the client
abbrev pub SettlesNothing : Setting → ℕ → Mark → Type 0
SettlesNothing s link mark = (xid : ℕ) → settles s (client_of s link) xid mark ≡ false

and_true : (b : Bool) → (b && true) ≡ b
and_true true = refl
and_true false = refl

pub awaited_still : (s : Setting) (link : ℕ) (run : List Mark) (mark : Mark) → SettlesNothing s link mark → (line : AwaitedLine) → is_awaited s link (run ++ mark ∷ []) line ≡ is_awaited s link run line
awaited_still s link run mark kept line =
    awaited_one s link run mark line ∙ ap (λ (b : Bool). is_awaited s link run line && not b) (kept line.xid) ∙ and_true (is_awaited s link run line)

pub awaited_same : (s : Setting) (link : ℕ) (run : List Mark) (mark : Mark) → answer_at s (client_of s link) mark ≡ [] → SettlesNothing s link mark → awaited_lines s link (run ++ mark ∷ []) ≡ awaited_lines s link run
unfolding awaited_lines
awaited_same s link run mark none kept =
    ap (λ (answers : List Submission). filter (is_awaited s link (run ++ mark ∷ [])) (lines_from 0 answers)) (answers_same s link run mark none)
    ∙ filter_as (is_awaited s link (run ++ mark ∷ [])) (is_awaited s link run) (lines_from 0 (answers_of s link run)) (awaited_still s link run mark kept)

-- ---- The calls of the link

-- a mark at which no call of the link is accepted, and which leaves the calls that wait
pub record LeavesCalls (o : LinkParameters) (link : ℕ) (run : List Mark) (mark : Mark) : Type 0 where
  pub accepts : accepted_at link mark ≡ []
  pub waits : waiting_calls o link (run ++ mark ∷ []) ≡ waiting_calls o link run

pub calls_same : (o : LinkParameters) (link : ℕ) (run : List Mark) (mark : Mark) → LeavesCalls o link run mark → link_calls o link (run ++ mark ∷ []) ≡ link_calls o link run
calls_same o link run mark l =
    (λ i. accepted_one link run mark i ++ l.waits i)
    ∙ ap (λ (more : List AcceptedCall). (accepted_calls link run ++ more) ++ waiting_calls o link run) l.accepts
    ∙ ap (λ (calls : List AcceptedCall). calls ++ waiting_calls o link run) (append-nil (accepted_calls link run))

pub due_still : (o : LinkParameters) (link : ℕ) (run : List Mark) (mark : Mark) → LeavesCalls o link run mark → GivesUpNothing link mark → due_calls o link (run ++ mark ∷ []) ≡ due_calls o link run
unfolding due_calls
due_still o link run mark l kept =
    ap (λ (calls : List AcceptedCall). filter (λ (a : AcceptedCall). is_due link (run ++ mark ∷ []) a.xid) calls) (calls_same o link run mark l)
    ∙ filter_as (λ (a : AcceptedCall). is_due link (run ++ mark ∷ []) a.xid) (λ (a : AcceptedCall). is_due link run a.xid) (link_calls o link run) (λ a. due_same link run mark kept a.xid)

-- marks without events of the client leave the calls that wait
pub waits_same : (o : LinkParameters) (link : ℕ) (run : List Mark) (mark : Mark) → events_at link Initiator run mark ≡ [] → waiting_calls o link (run ++ mark ∷ []) ≡ waiting_calls o link run
waits_same o link run mark none =
    ap (λ (r : EndState ClientState). map as_waiting r.state.waiting)
    (client_one o link run mark ∙ ap (λ (es : List RunEvent). end_state_after (client_rules o) (client o link run) es) none)

-- ---- What a link knows of them

-- a mark that answers no line, settles no call, and leaves the calls of the link
pub tracks_on : (s : Setting) (link : ℕ) (run : List Mark) (mark : Mark) (lines : ℕ) (awaited : List AwaitedLine) (calls waiting : List AcceptedCall) → answer_at s (client_of s link) mark ≡ [] → SettlesNothing s link mark →
    LeavesCalls (s.opened link) link run mark → GivesUpNothing link mark → TracksCalls s link run lines awaited calls waiting → TracksCalls s link (run ++ mark ∷ []) lines awaited calls waiting
tracks_on s link run mark lines awaited calls waiting none kept leaves up t = record {
  lines_are = t.lines_are ∙ ap (λ (answers : List Submission). length answers) (sym (answers_same s link run mark none));
  awaited_are = t.awaited_are ∙ sym (awaited_same s link run mark none kept);
  calls_are = t.calls_are ∙ sym (due_still (s.opened link) link run mark leaves up);
  waiting_are = t.waiting_are ∙ sym leaves.waits;
  same_ids = t.same_ids;
  none_before = λ xid above. elsewhere_on s link xid run mark (quiet_elsewhere s link xid mark (kept xid)) (t.none_before xid above);
}
