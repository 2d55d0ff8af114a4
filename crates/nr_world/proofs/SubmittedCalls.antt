-- A call line is answered, or a call is sent again.
use Rattle.std.specs.Prelude.{◌&&◌, ◌==◌, if◌then◌else◌, not}
use Rattle.std.proofs.Common.{◌≡◌, ℕ, suc, ◌+◌, ◌<◌, arith, Bool, true, false, cond, eqb, List, [], ◌∷◌, ◌++◌, length, map, filter, refl, ap, sym, ◌∙◌, append-nil, append_assoc, length-append}
use Rattle.std.proofs.lemmas.Bool.{eq-eqb, lt-ltb}
use Rattle.std.proofs.lemmas.List.{map-append}
use Rattle.nr_wire.specs.declared.hello.Side.TheVariants.{Initiator}
use Rattle.nr_reduce.specs.declared.call.Call.{Call}
use Rattle.nr_reduce.specs.declared.call.Form.{Form}
use Rattle.nr_reduce.specs.declared.call.Submission.{Submission}
use Rattle.nr_reduce.specs.declared.mark.LinkParameters.{LinkParameters}
use Rattle.nr_reduce.specs.declared.mark.Mark.{Mark}
use Rattle.nr_reduce.specs.Client.{client_rules}
use Rattle.nr_reduce.specs.ClientState.{ClientState, WaitingCall}
use Rattle.nr_reduce.specs.EndRules.{EndState}
use Rattle.nr_reduce.specs.Events.{events_at}
use Rattle.nr_reduce.specs.History.{AcceptedCall, accepted_as, accepted_at, accepted_calls}
use Rattle.nr_reduce.specs.Run.{client}
use Rattle.nr_reduce.proofs.OwnStags.{kept_after}
use Rattle.nr_reduce.proofs.Standing.{itself}
use Rattle.nr_reduce.proofs.Steps.{client_one}
use Rattle.nr_reduce.proofs.Unresumed.{NoneWaits, none_after}
use Rattle.nr_reduce.proofs.Waiting.{accepted_one}
use Rattle.nr_requester.specs.KeptAnswers.{is_due}
use Rattle.nr_requester.proofs.AnswerSteps.{due_same}
use Rattle.nr_drill.specs.Drill.{Setting, answer_at, client_of, is_sent_again, resend_mark}
use Rattle.nr_world.specs.DrillLinkState.{AwaitedLine}
use Rattle.nr_world.specs.LinkStands.{TracksCalls, accepted_line, answers_of, as_waiting, awaited_lines, due_calls, is_awaited, lines_from, link_calls, waiting_calls}
use Rattle.nr_world.proofs.CallLines.{answers_one, answers_same, awaited_same, awaited_still, due_still, filter_as, filter_parts}
use Rattle.nr_world.proofs.EarlierCalls.{elsewhere_on, own_elsewhere}
use Rattle.nr_world.proofs.WaitingCalls.{IsFirstWaiting, leaves_calls}
use Rattle.nr_reduce.specs.declared.call.Submission.TheVariants as submissions
use Rattle.nr_reduce.specs.declared.mark.Mark.TheVariants as marks

-- ---- The answers

own_client : (s : Setting) (link : ℕ) → (client_of s link == client_of s link) ≡ true
own_client s link = eq-eqb (client_of s link) (client_of s link) refl

-- a call line's answer is one of its client
pub new_answer : (s : Setting) (link : ℕ) (call : Call) (form : Form) (answer : Submission) → is_sent_again s link answer ≡ false → answer_at s (client_of s link) (marks.Submit link call form answer) ≡ answer ∷ []
new_answer s link call form answer new = λ i. cond (own_client s link i && not (new i)) (answer ∷ []) []

-- and that of a call that is sent again is none
again_answer : (s : Setting) (link : ℕ) (call : Call) (form : Form) (answer : Submission) → is_sent_again s link answer ≡ true → answer_at s (client_of s link) (marks.Submit link call form answer) ≡ []
again_answer s link call form answer again = λ i. cond (own_client s link i && not (again i)) (answer ∷ []) []

-- ---- The lines

one_later : (start : ℕ) (answers : List Submission) (answer : Submission) →
    lines_from (start + 1) answers ++ accepted_line (start + 1 + length answers) answer ≡ lines_from (start + 1) answers ++ accepted_line (start + suc (length answers)) answer
one_later start answers answer = let same : start + 1 + length answers ≡ start + suc (length answers) = omega arith in ap (λ (n : ℕ). lines_from (start + 1) answers ++ accepted_line n answer) same

lines_more : (start : ℕ) (answers : List Submission) (answer : Submission) → lines_from start (answers ++ answer ∷ []) ≡ lines_from start answers ++ accepted_line (start + length answers) answer
lines_more start [] answer = append-nil (accepted_line start answer) ∙ (let same : start ≡ start + 0 = omega arith in ap (λ (n : ℕ). accepted_line n answer) same)
lines_more start (submissions.Accepted xid ∷ answers) answer =
    ap (λ (rest : List AwaitedLine). record { xid = xid; index = start } ∷ rest) (lines_more (start + 1) answers answer ∙ one_later start answers answer)
lines_more start (submissions.Refused why ∷ answers) answer = lines_more (start + 1) answers answer ∙ one_later start answers answer
lines_more start (submissions.Dropped ∷ answers) answer = lines_more (start + 1) answers answer ∙ one_later start answers answer

count_more : (s : Setting) (link lines : ℕ) (run : List Mark) (mark : Mark) (answer : Submission) → answer_at s (client_of s link) mark ≡ answer ∷ [] → lines ≡ length (answers_of s link run) → lines + 1 ≡ length (answers_of s link (run ++ mark ∷ []))
count_more s link lines run mark answer new is =
    (let e = ap (λ (answers : List Submission). length answers) (answers_one s link run mark) in let f = length-append (answers_of s link run) (answer_at s (client_of s link) mark) in
    let g = ap (λ (answers : List Submission). length answers) new in omega (arith, e, f, g, is))

-- those of them that are awaited
awaited_more : (s : Setting) (link : ℕ) (run : List Mark) (call : Call) (form : Form) (answer : Submission) → is_sent_again s link answer ≡ false →
    awaited_lines s link (run ++ marks.Submit link call form answer ∷ []) ≡ awaited_lines s link run ++ filter (is_awaited s link run) (accepted_line (length (answers_of s link run)) answer)
unfolding awaited_lines
awaited_more s link run call form answer new =
    let mark : Mark = marks.Submit link call form answer in
    let all : answers_of s link (run ++ mark ∷ []) ≡ answers_of s link run ++ answer ∷ [] =
    answers_one s link run mark ∙ ap (λ (more : List Submission). answers_of s link run ++ more) (new_answer s link call form answer new) in
    ap (λ (answers : List Submission). filter (is_awaited s link (run ++ mark ∷ [])) (lines_from 0 answers)) all
    ∙ filter_as (is_awaited s link (run ++ mark ∷ [])) (is_awaited s link run) (lines_from 0 (answers_of s link run ++ answer ∷ [])) (awaited_still s link run mark (λ xid. refl))
    ∙ ap (λ (lines : List AwaitedLine). filter (is_awaited s link run) lines)
    (lines_more 0 (answers_of s link run) answer ∙ (let same : 0 + length (answers_of s link run) ≡ length (answers_of s link run) = omega arith in ap (λ (n : ℕ). lines_from 0 (answers_of s link run) ++ accepted_line n answer) same))
    ∙ filter_parts (is_awaited s link run) (lines_from 0 (answers_of s link run)) (accepted_line (length (answers_of s link run)) answer)

-- ---- A call that isn't accepted

none_accepted : (link : ℕ) (call : Call) (form : Form) (answer : Submission) → accepted_as answer call form ≡ [] → accepted_at link (marks.Submit link call form answer) ≡ []
none_accepted link call form answer none = by (eqb link link)
  where
    by : (b : Bool) → cond b (accepted_as answer call form) [] ≡ []
    by true = none
    by false = refl

pub tracks_refused : (s : Setting) (link : ℕ) (run : List Mark) (call : Call) (form : Form) (answer : Submission) (lines : ℕ) (awaited : List AwaitedLine) (calls waiting : List AcceptedCall) → is_sent_again s link answer ≡ false →
    accepted_as answer call form ≡ [] → ((index : ℕ) → accepted_line index answer ≡ []) → TracksCalls s link run lines awaited calls waiting → TracksCalls s link (run ++ marks.Submit link call form answer ∷ []) (lines + 1) awaited calls waiting
tracks_refused s link run call form answer lines awaited calls waiting new none no_line t =
    let mark : Mark = marks.Submit link call form answer in
    let o = s.opened link in
    let leaves = leaves_calls o link run mark (none_accepted link call form answer none) in
    record {
      lines_are = count_more s link lines run mark answer (new_answer s link call form answer new) t.lines_are;
      awaited_are = t.awaited_are ∙ sym (awaited_more s link run call form answer new
          ∙ ap (λ (ls : List AwaitedLine). awaited_lines s link run ++ filter (is_awaited s link run) ls) (no_line (length (answers_of s link run))) ∙ append-nil (awaited_lines s link run));
      calls_are = t.calls_are ∙ sym (due_still o link run mark leaves (λ xid. refl));
      waiting_are = t.waiting_are ∙ sym leaves.waits;
      same_ids = t.same_ids;
      none_before = λ x above. elsewhere_on s link x run mark (own_elsewhere s link x mark refl) (t.none_before x above);
    }

-- ---- A new call that is accepted, while none waits

abbrev pub call_of : ℕ → Call → Form → AcceptedCall
call_of xid call form = record { xid = xid; call = call; form = form }

pub none_wait_then : (o : LinkParameters) (link : ℕ) (run : List Mark) (mark : Mark) → (client o link run).state.waiting ≡ [] → (client o link (run ++ mark ∷ [])).state.waiting ≡ []
none_wait_then o link run mark none =
    ap (λ (r : EndState ClientState). r.state.waiting) (client_one o link run mark) ∙ kept_after (client_rules o) NoneWaits (none_after o) (client o link run) (events_at link Initiator run mark) none

no_calls_wait : (o : LinkParameters) (link : ℕ) (run : List Mark) → (client o link run).state.waiting ≡ [] → waiting_calls o link run ≡ []
no_calls_wait o link run none = ap (λ (ws : List WaitingCall). map as_waiting ws) none

-- the calls that are due, with a call more
more_due : (o : LinkParameters) (link : ℕ) (run : List Mark) (call : Call) (form : Form) (xid : ℕ) (calls : List AcceptedCall) → calls ≡ due_calls o link run →
    link_calls o link (run ++ marks.Submit link call form (submissions.Accepted xid) ∷ []) ≡ link_calls o link run ++ call_of xid call form ∷ [] → is_due link run xid ≡ true →
    calls ++ call_of xid call form ∷ [] ≡ due_calls o link (run ++ marks.Submit link call form (submissions.Accepted xid) ∷ [])
unfolding due_calls
more_due o link run call form xid calls is all due =
    let mark : Mark = marks.Submit link call form (submissions.Accepted xid) in
    let a : AcceptedCall = call_of xid call form in
    let p : AcceptedCall → Bool = λ c. is_due link run c.xid in
    (λ i. is i ++ cond (sym due i) (a ∷ []) [])
    ∙ sym (filter_parts p (link_calls o link run) (a ∷ []))
    ∙ sym (filter_as (λ (c : AcceptedCall). is_due link (run ++ mark ∷ []) c.xid) p (link_calls o link run ++ a ∷ []) (λ c. due_same link run mark (λ x. refl) c.xid))
    ∙ sym (ap (λ (cs : List AcceptedCall). filter (λ (c : AcceptedCall). is_due link (run ++ mark ∷ []) c.xid) cs) all)

pub tracks_accepted : (s : Setting) (link : ℕ) (run : List Mark) (call : Call) (form : Form) (xid lines : ℕ) (awaited : List AwaitedLine) (calls waiting : List AcceptedCall) → is_sent_again s link (submissions.Accepted xid) ≡ false →
    (client (s.opened link) link run).state.waiting ≡ [] → is_due link run xid ≡ true → is_awaited s link run (record { xid = xid; index = lines }) ≡ true → TracksCalls s link run lines awaited calls waiting →
    TracksCalls s link (run ++ marks.Submit link call form (submissions.Accepted xid) ∷ []) (lines + 1) (awaited ++ record { xid = xid; index = lines } ∷ []) (calls ++ call_of xid call form ∷ []) waiting
tracks_accepted s link run call form xid lines awaited calls waiting new none due open_line t =
    let o = s.opened link in
    let answer : Submission = submissions.Accepted xid in
    let mark : Mark = marks.Submit link call form answer in
    let a : AcceptedCall = call_of xid call form in
    let line : AwaitedLine = record { xid = xid; index = lines } in
    let after = none_wait_then o link run mark none in
    let own : accepted_at link mark ≡ a ∷ [] = ap (λ (b : Bool). cond b (a ∷ []) []) (itself link) in
    let all : link_calls o link (run ++ mark ∷ []) ≡ link_calls o link run ++ a ∷ [] =
    (λ i. (accepted_one link run mark ∙ ap (λ (more : List AcceptedCall). accepted_calls link run ++ more) own) i ++ no_calls_wait o link (run ++ mark ∷ []) after i)
    ∙ append-nil (accepted_calls link run ++ a ∷ [])
    ∙ sym (ap (λ (ws : List AcceptedCall). (accepted_calls link run ++ ws) ++ a ∷ []) (no_calls_wait o link run none) ∙ ap (λ (cs : List AcceptedCall). cs ++ a ∷ []) (append-nil (accepted_calls link run))) in
    record {
      lines_are = count_more s link lines run mark answer (new_answer s link call form answer new) t.lines_are;
      awaited_are =
          (λ i. t.awaited_are i ++ cond (sym open_line i) (line ∷ []) [])
          ∙ ap (λ (n : ℕ). awaited_lines s link run ++ filter (is_awaited s link run) (accepted_line n answer)) t.lines_are
          ∙ sym (awaited_more s link run call form answer new);
      calls_are = more_due o link run call form xid calls t.calls_are all due;
      waiting_are = t.waiting_are ∙ no_calls_wait o link run none ∙ sym (no_calls_wait o link (run ++ mark ∷ []) after);
      same_ids = map-append (λ (c : AcceptedCall). c.xid) calls (a ∷ []) ∙ ap (λ (ns : List ℕ). ns ++ xid ∷ []) t.same_ids ∙ sym (map-append (λ (l : AwaitedLine). l.xid) awaited (line ∷ []));
      none_before = λ x above. elsewhere_on s link x run mark (own_elsewhere s link x mark refl) (t.none_before x above);
    }

-- ---- A call that is sent again

-- the same calls are due
due_as : (o : LinkParameters) (link : ℕ) (run : List Mark) (w : WaitingCall) → link_calls o link (run ++ resend_mark link w ∷ []) ≡ link_calls o link run → due_calls o link (run ++ resend_mark link w ∷ []) ≡ due_calls o link run
unfolding due_calls
due_as o link run w all =
    ap (λ (cs : List AcceptedCall). filter (λ (c : AcceptedCall). is_due link (run ++ resend_mark link w ∷ []) c.xid) cs) all
    ∙ filter_as (λ (c : AcceptedCall). is_due link (run ++ resend_mark link w ∷ []) c.xid) (λ (c : AcceptedCall). is_due link run c.xid) (link_calls o link run) (λ c. due_same link run (resend_mark link w) (λ x. refl) c.xid)

pub tracks_resent : (s : Setting) (link : ℕ) (run : List Mark) (w : WaitingCall) (lines : ℕ) (awaited : List AwaitedLine) (calls waiting : List AcceptedCall) → (first : IsFirstWaiting (s.opened link) link run w) → w.xid < (s.opened link).first_xid →
    TracksCalls s link run lines awaited calls waiting → TracksCalls s link (run ++ resend_mark link w ∷ []) lines awaited calls (map as_waiting first.others)
tracks_resent s link run w lines awaited calls waiting first below t =
    let o = s.opened link in
    let mark : Mark = resend_mark link w in
    let a : AcceptedCall = as_waiting w in
    let none : answer_at s (client_of s link) mark ≡ [] = again_answer s link w.call w.form (submissions.Accepted w.xid) (lt-ltb w.xid o.first_xid below) in
    let own : accepted_at link mark ≡ a ∷ [] = ap (λ (b : Bool). cond b (a ∷ []) []) (itself link) in
    let all : link_calls o link (run ++ mark ∷ []) ≡ link_calls o link run =
    (λ i. (accepted_one link run mark ∙ ap (λ (more : List AcceptedCall). accepted_calls link run ++ more) own) i ++ map as_waiting (first.after i))
    ∙ append_assoc (accepted_calls link run) (a ∷ []) (map as_waiting first.others)
    ∙ sym (ap (λ (ws : List WaitingCall). accepted_calls link run ++ map as_waiting ws) first.before) in
    record {
      lines_are = t.lines_are ∙ ap (λ (answers : List Submission). length answers) (sym (answers_same s link run mark none));
      awaited_are = t.awaited_are ∙ sym (awaited_same s link run mark none (λ xid. refl));
      calls_are = t.calls_are ∙ sym (due_as o link run w all);
      waiting_are = sym (ap (λ (ws : List WaitingCall). map as_waiting ws) first.after);
      same_ids = t.same_ids;
      none_before = λ x above. elsewhere_on s link x run mark (own_elsewhere s link x mark refl) (t.none_before x above);
    }
