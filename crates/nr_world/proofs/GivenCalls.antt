-- A call that is submitted.
use Rattle.std.specs.Prelude.{◌&&◌, is_some, IfOk}
use Rattle.std.specs.List.{AllByRecursion}
use Rattle.std.proofs.Common.{◌≡◌, ◌≢◌, ℕ, ◌+◌, ◌≤◌, arith, ltb, Bool, true, false, List, [], ◌∷◌, ◌++◌, length, Option, None, Some, Result, Ok, Err, refl, ap, sym, subst, ◌∙◌, ltb-true, map, not, eqb, nat_lt, eqb-true, cond}
use Rattle.nr_link.specs.declared.end.End.{End}
use Rattle.nr_world.proofs.SubmittedCalls.{tracks_refused, tracks_accepted}
use Rattle.nr_wire.specs.declared.hello.Side.TheVariants.{Initiator}
use Rattle.nr_reduce.specs.declared.call.Call.{Call}
use Rattle.nr_reduce.specs.declared.call.Form.{Form}
use Rattle.nr_reduce.specs.declared.call.Refused.{Refused}
use Rattle.nr_reduce.specs.declared.call.Submission.{Submission}
use Rattle.nr_reduce.specs.declared.mark.LinkParameters.{LinkParameters}
use Rattle.nr_reduce.specs.declared.mark.Mark.{Mark}
use Rattle.nr_reduce.specs.declared.outline.Plan.{Plan}
use Rattle.nr_reduce.specs.Events.{if_own}
use Rattle.nr_reduce.specs.Events.RunEvent.{CallSubmitted}
use Rattle.nr_reduce.specs.EndRules.{EndState, end_state_after}
use Rattle.nr_reduce.specs.ClientState.{ClientState, WaitingCall}
use Rattle.nr_reduce.specs.Client.{client_rules, client_end}
use Rattle.nr_reduce.specs.History.{AcceptedCall, bytes_received}
use Rattle.nr_reduce.specs.Plans.{TooLarge}
use Rattle.nr_reduce.specs.Run.{client}
use Rattle.nr_reduce.specs.SubmitAnswer.{submit_answer, unless_dropped, submit_answer_after}
use Rattle.nr_reduce.proofs.Standing.{itself}
use Rattle.nr_reduce.proofs.Steps.{client_one}
use Rattle.nr_reduce.proofs.Unconcerned.{submit_elsewhere}
use Rattle.nr_requester.specs.RequesterState.{RequesterSide, RequesterState}
use Rattle.nr_requester.specs.Answers.{plan_under, answer_by_plan, answer_if, answer_of}
use Rattle.nr_requester.specs.KeptAnswers.{is_due}
use Rattle.nr_requester.specs.OpenCalls.{open_call, OpensTicket}
use Rattle.nr_requester.specs.Standing.{waiting_message}
use Rattle.nr_requester.proofs.MaySubmit.{answer_cases}
use Rattle.nr_drill.specs.Drill.{Setting, Drill, with_mark, settled, after_submit}
use Rattle.nr_drill.specs.InBytes.{RepliedInBytes}
use Rattle.nr_drill.proofs.Carried.{same_dropped}
use Rattle.nr_world.specs.DrillLinkState.{AwaitedLine, DrillLinkState}
use Rattle.nr_world.specs.LinkStands.{is_awaited, LinkStands, StandsForClient, TracksCalls}
use Rattle.nr_world.specs.OpenTickets.{LinesOpen, SubmitsLine, AnswersCall}
use Rattle.nr_world.specs.Steps.{Goes, StandsAt}
use Rattle.nr_world.proofs.Standing.{replied_one}
use Rattle.nr_world.proofs.Writes.{server_stays, one_more_mark}
use Rattle.nr_world.proofs.GivenLines.{open_others}
use Rattle.nr_world.proofs.Requesters.{ended_as, others_leave, answers_as, asks_on}
use Rattle.nr_laws.proofs.ResumedCalls.{next_least}
use Rattle.nr_requester.specs.Sending.{has_credit}
use Rattle.nr_world.proofs.EarlierCalls.{none_settled}
use Rattle.nr_link.specs.declared.end.End.TheVariants as ends
use Rattle.nr_reduce.specs.declared.call.Refused.TheVariants as refusals
use Rattle.nr_reduce.specs.declared.call.Submission.TheVariants as submissions
use Rattle.nr_reduce.specs.declared.mark.Mark.TheVariants as marks

-- the link after one call line more, with another client and these lines and calls
abbrev pub with_line : DrillLinkState → RequesterSide → List AwaitedLine → List AcceptedCall → DrillLinkState
with_line v client awaited calls = record v { client = client; lines = v.lines + 1; awaited = awaited; calls = calls }

-- ---- Tickets

call_apart : (a b : Option Call) → is_some a ≡ true → b ≡ None → a ≢ b
call_apart None b some none e = absurd cc
call_apart (Some call) b some none e = absurd (let no-call : Some call ≡ None = e ∙ none in cc)

lines_apart : (r : RequesterState) (xid : ℕ) (lines : List AwaitedLine) → open_call xid r ≡ None → LinesOpen r lines → AllByRecursion (λ (line : AwaitedLine). line.xid ≢ xid) lines
lines_apart r xid [] none h = tt
lines_apart r xid (line ∷ lines) none h =
    ((λ e. call_apart (open_call line.xid r) (open_call xid r) h.0 none (ap (λ (x : ℕ). open_call x r) e)), lines_apart r xid lines none h.1.1)

one_more_apart : (xid x index : ℕ) (lines : List AwaitedLine) → xid ≢ x → AllByRecursion (λ (line : AwaitedLine). line.xid ≢ x) lines → AllByRecursion (λ (line : AwaitedLine). line.xid ≢ x) (lines ++ record { xid = xid; index = index } ∷ [])
one_more_apart xid x index [] apart h = (apart, tt)
one_more_apart xid x index (line ∷ lines) apart h = (h.0, one_more_apart xid x index lines apart h.1)

one_more_open : (r : RequesterState) (xid index : ℕ) (lines : List AwaitedLine) → is_some (open_call xid r) ≡ true → AllByRecursion (λ (line : AwaitedLine). line.xid ≢ xid) lines → LinesOpen r lines →
    LinesOpen r (lines ++ record { xid = xid; index = index } ∷ [])
one_more_open r xid index [] own apart h = (own, (tt, tt))
one_more_open r xid index (line ∷ lines) own apart h =
    (h.0, (one_more_apart xid line.xid index lines (λ e. apart.0 (sym e)) h.1.0, one_more_open r xid index lines own apart.1 h.1.1))

pub more_open : (r r2 : RequesterState) (xid index : ℕ) (call : Call) (lines : List AwaitedLine) → OpensTicket xid call r r2 → LinesOpen r lines → LinesOpen r2 (lines ++ record { xid = xid; index = index } ∷ [])
more_open r r2 xid index call lines o h =
    let apart : AllByRecursion (λ (line : AwaitedLine). line.xid ≢ xid) lines = lines_apart r xid lines o.fresh h in
    one_more_open r2 xid index lines (ap (λ (c : Option Call). is_some c) o.own) apart (open_others r r2 xid lines o.others apart h)

-- ---- The xid of an accepted call

abbrev accepted_xid : Submission → ℕ
accepted_xid (submissions.Accepted xid) = xid
accepted_xid (submissions.Refused why) = 0
accepted_xid submissions.Dropped = 0

abbrev is_accepted : Submission → Bool
is_accepted (submissions.Accepted xid) = true
is_accepted (submissions.Refused why) = false
is_accepted submissions.Dropped = false

false_true : false ≢ true
false_true e = absurd cc

refused_apart : (why : Refused) (xid : ℕ) → submissions.Refused why ≢ submissions.Accepted xid
refused_apart why xid e = false_true (ap is_accepted e)

-- an accepted call has the next xid
abbrev AcceptsNext : ℕ → Submission → Type 0
AcceptsNext next answer = (xid : ℕ) → answer ≡ submissions.Accepted xid → xid ≡ next

next_by_plan : (r : RequesterState) (p : Result Plan TooLarge) (xid : ℕ) → answer_by_plan r p ≡ submissions.Accepted xid → xid ≡ r.next_xid
next_by_plan r (Err large) xid e = absurd (refused_apart (refusals.TooLarge large.need large.room) xid e)
next_by_plan r (Ok plan) xid e =
    answer_cases (AcceptsNext r.next_xid) r plan
    (λ x f. absurd (refused_apart (refusals.NoCredit (length r.outstanding) r.grant) x f))
    (λ oldest x f. absurd (refused_apart (refusals.Window oldest r.next_xid) x f))
    (λ left need x f. absurd (refused_apart (refusals.Spent left need) x f))
    (λ x f. sym (ap accepted_xid f)) xid e

next_if : (r : RequesterState) (call : Call) (form : Form) (ended : Option End) (xid : ℕ) → answer_if r call form ended ≡ submissions.Accepted xid → (ended ≡ None) × (xid ≡ r.next_xid)
next_if r call form (Some end) xid e = absurd (refused_apart (refusals.Ended end) xid e)
next_if r call form None xid e = (refl, next_by_plan r (plan_under r call form) xid e)

accepted_next : (r : RequesterState) (call : Call) (form : Form) (xid : ℕ) → answer_of r call form ≡ submissions.Accepted xid → (r.side.ended ≡ None) × (xid ≡ r.next_xid)
unfolding answer_of
accepted_next r call form xid e = next_if r call form r.side.ended xid e

-- a call is accepted only while no Send is held back
credit_if : (b : Bool) (answer : Submission) (why : Refused) (xid : ℕ) → cond b answer (submissions.Refused why) ≡ submissions.Accepted xid → b ≡ true
credit_if true answer why xid e = refl
credit_if false answer why xid e = absurd (refused_apart why xid e)

credit_by_plan : (r : RequesterState) (p : Result Plan TooLarge) (xid : ℕ) → answer_by_plan r p ≡ submissions.Accepted xid → has_credit r ≡ true
credit_by_plan r (Err large) xid e = absurd (refused_apart (refusals.TooLarge large.need large.room) xid e)
credit_by_plan r (Ok plan) xid e = credit_if (has_credit r) _ (refusals.NoCredit (length r.outstanding) r.grant) xid e

credit_unless_ended : (r : RequesterState) (call : Call) (form : Form) (ended : Option End) (xid : ℕ) → answer_if r call form ended ≡ submissions.Accepted xid → has_credit r ≡ true
credit_unless_ended r call form (Some end) xid e = absurd (refused_apart (refusals.Ended end) xid e)
credit_unless_ended r call form None xid e = credit_by_plan r (plan_under r call form) xid e

none_of : (held : List (List ℕ)) (other : Bool) → (eqb (length held) 0 && other) ≡ true → held ≡ []
none_of [] other e = refl
none_of (bytes ∷ held) other e = by (eqb (length (bytes ∷ held)) 0) refl e
  where
    by : (b : Bool) → eqb (length (bytes ∷ held)) 0 ≡ b → (b && other) ≡ true → bytes ∷ held ≡ []
    by true none e = absurd (let zero = eqb-true (length (bytes ∷ held)) 0 none in omega (arith, zero))
    by false none e = absurd (false_true e)

none_held : (r : RequesterState) (call : Call) (form : Form) (xid : ℕ) → answer_of r call form ≡ submissions.Accepted xid → r.side.send_queue.held ≡ []
unfolding answer_of
none_held r call form xid e = none_of r.side.send_queue.held (nat_lt (length r.outstanding) r.grant) (credit_unless_ended r call form r.side.ended xid e)

-- ---- The link with the mark of the call

marked : (s : Setting) (link : ℕ) (d : Drill) (v : DrillLinkState) (asks : RequesterSide) (left : List AwaitedLine) (calls : List AcceptedCall) (call : Call) (form : Form) (answer : Submission) → LinkStands s link d v →
    StandsForClient (s.opened link) link asks (d.marks ++ marks.Submit link call form answer ∷ []) → asks.state.side.ended ≢ Some ends.Memory →
    TracksCalls s link (d.marks ++ marks.Submit link call form answer ∷ []) (v.lines + 1) left calls v.waiting → LinkStands s link (with_mark (marks.Submit link call form answer) d) (with_line v asks left calls)
marked s link d v asks left calls call form answer h represents lives tracks =
    let mark : Mark = marks.Submit link call form answer in
    record {
      number = h.number;
      first = h.first;
      room = h.room;
      pipes = h.pipes;
      dropped = h.dropped ∙ sym (same_dropped link d.marks mark refl);
      client = represents;
      server = server_stays (s.opened link) link d.marks v.server mark (submit_elsewhere link link call form answer) h.server_memory h.server;
      client_memory = lives;
      server_memory = h.server_memory;
      tracks = tracks;
    }

-- on a dropped link
pub dropped_call : (v h v2 : DrillLinkState) (call : Call) (form : Form) → v ≡ h → v.is_dropped ≡ true → v2 ≡ with_line v v.client v.awaited v.calls → AnswersCall call form submissions.Dropped h v2
unfolding submit_answer_after
dropped_call v h v2 call form same gone is s link d stands =
    let at : LinkStands s link d v = subst (λ (x : DrillLinkState). LinkStands s link d x) (sym same) stands in
    let mark : Mark = marks.Submit link call form submissions.Dropped in (
      ap (λ (b : Bool). unless_dropped b (submit_answer (client (s.opened link) link d.marks) call form)) (sym gone ∙ at.dropped),
      subst (λ (x : DrillLinkState). LinkStands s link (with_mark mark d) x) (sym is)
          (marked s link d v v.client v.awaited v.calls call form submissions.Dropped at
          (others_leave (s.opened link) link v.client d.marks mark at.client refl refl refl (λ xid. refl)) at.client_memory
          (tracks_refused s link d.marks call form submissions.Dropped v.lines v.awaited v.calls v.waiting refl refl (λ index. refl) at.tracks)),
    )

-- by the client
client_answer : (s : Setting) (link : ℕ) (d : Drill) (v : DrillLinkState) (call : Call) (form : Form) (answer : Submission) → v.is_dropped ≡ false → LinkStands s link d v → answer_of v.client.state call form ≡ answer →
    answer ≡ submit_answer_after (s.opened link) link d.marks call form
unfolding submit_answer_after
client_answer s link d v call form answer stands h is =
    sym is ∙ answers_as (s.opened link) link v.client d.marks call form h.client
    ∙ ap (λ (b : Bool). unless_dropped b (submit_answer (client (s.opened link) link d.marks) call form)) (sym stands ∙ h.dropped)

lives_on : (o : LinkParameters) (k : ClientState) (ended : Option End) (place : ℕ) (a : AcceptedCall) → ended ≡ None → (end_state_after (client_rules o) (record { state = k; ended = ended }) (CallSubmitted place a ∷ [])).ended ≡ None
unfolding client_end
lives_on o k None place a none = refl
lives_on o k (Some end) place a none = absurd cc

pub accepted_lives : (o : LinkParameters) (link : ℕ) (run : List Mark) (call : Call) (form : Form) (xid : ℕ) → (client o link run).ended ≡ None → (client o link (run ++ marks.Submit link call form (submissions.Accepted xid) ∷ [])).ended ≡ None
accepted_lives o link run call form xid none =
    let a : AcceptedCall = record { xid = xid; call = call; form = form } in
    let place : ℕ = length (bytes_received link Initiator run) in
    ap (λ (e : EndState ClientState). e.ended) (client_one o link run (marks.Submit link call form (submissions.Accepted xid)))
    ∙ ap (λ (b : Bool). (end_state_after (client_rules o) (client o link run) (if_own (b && true) (CallSubmitted place a ∷ []))).ended) (itself link)
    ∙ lives_on o (client o link run).state (client o link run).ended place a none

-- it is a new call: its xid isn't below the first, and no other call waits
not_below : (n m : ℕ) → m ≤ n → ltb n m ≡ false
not_below n m le = by (ltb n m) refl
  where
    by : (b : Bool) → ltb n m ≡ b → b ≡ false
    by true is = absurd (let lt = ltb-true n m is in omega (arith, lt, le))
    by false is = refl

-- the next xid is at least the first one of the link
first_or_more : (s : Setting) (link : ℕ) (d : Drill) (v : DrillLinkState) → LinkStands s link d v → (s.opened link).first_xid ≤ v.client.state.next_xid
first_or_more s link d v h =
    (let least = next_least (s.opened link) link d.marks in let kept = h.client.1.keeps.kept.keeps.xid in omega (arith, least, kept))

not_memory : (ended : Option End) → ended ≡ None → ended ≢ Some ends.Memory
not_memory None none e = absurd cc
not_memory (Some end) none e = absurd cc

no_messages : (opened : LinkParameters) (ws : List WaitingCall) → map (waiting_message opened) ws ≡ [] → ws ≡ []
no_messages opened [] e = refl
no_messages opened (w ∷ ws) e = absurd cc

-- a call is accepted only while none is held back
none_wait : (s : Setting) (link : ℕ) (d : Drill) (v : DrillLinkState) (call : Call) (form : Form) (xid : ℕ) → LinkStands s link d v → answer_of v.client.state call form ≡ submissions.Accepted xid → v.client.state.side.ended ≡ None →
    (client (s.opened link) link d.marks).state.waiting ≡ []
none_wait s link d v call form xid h accepted live =
    no_messages (s.opened link) (client (s.opened link) link d.marks).state.waiting (sym (h.client.1.keeps.side live).held ∙ none_held v.client.state call form xid accepted)

pub client_call : (v h v2 : DrillLinkState) (asks : RequesterSide) (left : List AwaitedLine) (calls : List AcceptedCall) (call : Call) (form : Form) (answer : Submission) → v ≡ h → v.is_dropped ≡ false →
    SubmitsLine call form v.lines answer v.client asks v.awaited left v.calls calls → v2 ≡ with_line v asks left calls → AnswersCall call form answer h v2
client_call v h v2 asks left calls call form (submissions.Accepted xid) same standing t is s link d stands =
    let at : LinkStands s link d v = subst (λ (x : DrillLinkState). LinkStands s link d x) (sym same) stands in
    let o : LinkParameters = s.opened link in
    let mark : Mark = marks.Submit link call form (submissions.Accepted xid) in
    let next : (v.client.state.side.ended ≡ None) × (xid ≡ v.client.state.next_xid) = accepted_next v.client.state call form xid t.0 in
    let represents : StandsForClient o link asks (d.marks ++ mark ∷ []) = asks_on v.client asks (λ (l : ℕ). marks.Submit l call form (submissions.Accepted xid)) t.1 o link d.marks at.client in
    let ended : asks.state.side.ended ≡ None = ended_as o link asks (d.marks ++ mark ∷ []) represents ∙ accepted_lives o link d.marks call form xid (sym (ended_as o link v.client d.marks at.client) ∙ next.0) in
    let above : o.first_xid ≤ xid = (let least = first_or_more s link d v at in let e = next.1 in omega (arith, least, e)) in
    let high : v.client.state.next_xid ≤ xid = (let e = next.1 in omega (arith, e)) in
    let due : is_due link d.marks xid ≡ true = at.client.1.answers.to_come xid high in
    let open_line : is_awaited s link d.marks (record { xid = xid; index = v.lines }) ≡ true = ap not (none_settled s link xid d.marks due (at.tracks.none_before xid above)) in (
      client_answer s link d v call form (submissions.Accepted xid) standing at t.0,
      subst (λ (x : DrillLinkState). LinkStands s link (with_mark mark d) x) (sym is)
          (marked s link d v asks left calls call form (submissions.Accepted xid) at represents (not_memory asks.state.side.ended ended)
          (subst (λ (ls : List AwaitedLine). TracksCalls s link (d.marks ++ mark ∷ []) (v.lines + 1) ls calls v.waiting) (sym t.2)
          (subst (λ (cs : List AcceptedCall). TracksCalls s link (d.marks ++ mark ∷ []) (v.lines + 1) (v.awaited ++ record { xid = xid; index = v.lines } ∷ []) cs v.waiting) (sym t.3)
          (tracks_accepted s link d.marks call form xid v.lines v.awaited v.calls v.waiting (not_below xid o.first_xid above) (none_wait s link d v call form xid at t.0 next.0) due open_line at.tracks)))),
    )
client_call v h v2 asks left calls call form (submissions.Refused why) same standing t is s link d stands =
    let at : LinkStands s link d v = subst (λ (x : DrillLinkState). LinkStands s link d x) (sym same) stands in
    let mark : Mark = marks.Submit link call form (submissions.Refused why) in
    let rest : LinkStands s link (with_mark mark d) (with_line v v.client v.awaited v.calls) =
    marked s link d v v.client v.awaited v.calls call form (submissions.Refused why) at (others_leave (s.opened link) link v.client d.marks mark at.client refl refl refl (λ xid. refl)) at.client_memory
    (tracks_refused s link d.marks call form (submissions.Refused why) v.lines v.awaited v.calls v.waiting refl refl (λ index. refl) at.tracks) in
    let link_is : v2 ≡ with_line v v.client v.awaited v.calls = is ∙ (λ i. with_line v (t.1 i) (t.2 i) (t.3 i)) in (
      client_answer s link d v call form (submissions.Refused why) standing at t.0,
      subst (λ (x : DrillLinkState). LinkStands s link (with_mark mark d) x) (sym link_is) rest,
    )
client_call v h v2 asks left calls call form submissions.Dropped same standing t is s link d stands = absurd t

-- ---- The step

pub submits : (v v2 v3 : DrillLinkState) (call : Call) (form : Form) (answer : Submission) (run run2 run3 : List Mark) → AnswersCall call form answer v v2 → run2 ≡ run ++ marks.Submit v2.number call form answer ∷ [] → Goes settled v2 v3 run2 run3 →
    Goes (λ s link. after_submit s link call form) v v3 run run3
unfolding after_submit
submits v v2 v3 call form answer run run2 run3 answers more settles s link d at =
    let one : (answer ≡ submit_answer_after (s.opened link) link d.marks call form) × LinkStands s link (with_mark (marks.Submit link call form answer) d) v2 = answers s link d at.stands in
    let marked_at : StandsAt s link (with_mark (marks.Submit link call form answer) d) v2 run2 = record {
      stands = one.1;
      marks = one_more_mark v2.number link (λ (l : ℕ). marks.Submit l call form answer) run run2 d.marks one.1.number at.marks more;
      replies = subst RepliedInBytes (sym more) (replied_one run (marks.Submit v2.number call form answer) (λ before. tt) at.replies);
    } in
    subst (λ (a : Submission). StandsAt s link (settled s link (with_mark (marks.Submit link call form a) d)) v3 run3) one.0 (settles s link (with_mark (marks.Submit link call form answer) d) marked_at)

-- ---- For the code

-- a call and its form, as they were copied
pub copied : (P : Call → Form → Type 0) (call call2 : Call) (form form2 : Form) → call2 ≡ call → form2 ≡ form → P call2 form2 → P call form
copied P call call2 form form2 c f h = subst (λ (x : Call). P x form) c (subst (λ (y : Form). P call2 y) f h)

-- what holds of an answer
pub answered : {T E : Type 0} (r : Result T E) (P Q : T → Type 0) → ((x : T) → P x → Q x) → IfOk r P → IfOk r Q
answered (Ok x) P Q f h = f x h
answered (Err e) P Q f h = h
