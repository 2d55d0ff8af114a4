-- All calls that are complete are executed.
use Rattle.std.specs.Prelude.{is_some}
use Rattle.std.specs.List.{AllByRecursion}
use Rattle.std.proofs.Common.{◌≡◌, ℕ, ◌+◌, ◌≤◌, ◌⊎◌, arith, zero, suc, Bool, true, false, List, [], ◌∷◌, ◌++◌, length, drop, slice_get, Option, None, Some, inl, inr, refl, ap, sym, subst, ◌∙◌}
use Rattle.nr_link.specs.declared.end.End.{End}
use Rattle.nr_reduce.specs.declared.mark.LinkParameters.{LinkParameters}
use Rattle.nr_reduce.specs.declared.mark.Mark.{Mark}
use Rattle.nr_reduce.specs.NumberedJournal.{Standing}
use Rattle.nr_reduce.specs.NumberedJournal.Standing.{Old, Kept, New}
use Rattle.nr_reduce.specs.History.{ExecutedCall, is_dropped}
use Rattle.nr_reduce.specs.Events.RunEvent.{CallExecuted, ServerTold}
use Rattle.nr_reduce.specs.EndRules.{EndState, end_state_after, next_end_state_by}
use Rattle.nr_reduce.specs.ServerState.{PendingCall, ReadyCall, ServerState}
use Rattle.nr_reduce.specs.Server.{server_rules, server_end, server_state_after, old_end}
use Rattle.nr_reduce.specs.Run.{server}
use Rattle.nr_reduce.specs.Served.{first_ready, next_call, last_frame_at}
use Rattle.nr_responder.specs.Keeping.{IsReadyOf, IsServer, Keeps, KeepsEnded}
use Rattle.nr_responder.proofs.Executed.{executed, answered_server, one_out_lem}
use Rattle.nr_drill.specs.Drill.{Setting, Drill, pipes_of, with_mark, settled, if_standing, waiting_call, after_answer, after_execution, after_work, after_calls, after_all_up, after_all_work, after_all_down, after_moves, GivenReply, after_call, standing_of, reply_given}
use Rattle.nr_drill.proofs.LessWork.{is_next_lem, same_server, settled_leaves, own}
use Rattle.nr_world.specs.DrillLinkState.{DrillLinkState}
use Rattle.nr_world.specs.LinkStands.{LinkStands}
use Rattle.nr_world.specs.Steps.{StandsAt, ServerStands, Works, Goes, setting_over}
use Rattle.nr_world.specs.DrillServers.{DrillServerState}
use Rattle.nr_world.proofs.JournalSteps.{stays}
use Rattle.nr_world.proofs.SameServer.{Leaves, up_leaves, down_leaves, work_clock}
use Rattle.nr_reduce.specs.declared.mark.Mark.TheVariants as marks
use Rattle.nr_reduce.specs.declared.mark.Told.TheVariants as told

-- ---- A call that is ready is pending

few : (place : ℕ) (ready : List ReadyCall) (k : ServerState) → k.ready ≡ ready → IsServer k place → length ready ≤ length k.calls
few place [] k e is = omega arith
few place (r ∷ rest) k e is =
    let each : AllByRecursion (IsReadyOf k.calls k.reads) (r ∷ rest) = subst (λ (rs : List ReadyCall). AllByRecursion (IsReadyOf k.calls k.reads) rs) e is.ready in
    let one : length (executed k r.xid []).calls + 1 ≡ length k.calls = one_out_lem r.xid k.calls is.xids each.0.pending in
    let others : length rest ≤ length (executed k r.xid []).calls =
    few place rest (executed k r.xid []) (ap (λ (rs : List ReadyCall). drop 1 rs) e) (answered_server k place [] r rest e is) in
    omega (arith, one, others)

-- ---- A call that is executed is not ready any more

executed_state : (o : LinkParameters) (k : ServerState) (call : ExecutedCall) →
    (end_state_after (server_rules o) (record { state = k; ended = None }) (CallExecuted call ∷ [])).state.ready ≡ drop 1 k.ready
unfolding server_end server_state_after
executed_state o k call = refl

one_fewer : (ready : List ReadyCall) (call : ReadyCall) → slice_get ready 0 ≡ Some call → length (drop 1 ready) + 1 ≡ length ready
one_fewer [] call e = absurd cc
one_fewer (r ∷ ready) call e = omega arith

abbrev pub ready_count : Setting → ℕ → Drill → ℕ
ready_count s link d = length (server (s.opened link) link d.marks).state.ready

answer_takes : (s : Setting) (link : ℕ) (call : ReadyCall) (g : GivenReply) (d : Drill) → next_call (s.opened link) link d.marks ≡ Some call →
    ready_count s link (after_answer s link call (Some g) d) + 1 ≡ ready_count s link d
unfolding next_call
answer_takes s link call g d next =
    let o : LinkParameters = s.opened link in
    let mark : Mark = marks.Execute link call.xid g.moment call.payload g.place g.reply in
    let done : ExecutedCall = record { xid = call.xid; moment = g.moment; payload = call.payload; place = g.place; reply = g.reply } in
    let before : EndState ServerState = server o link d.marks in
    let first = is_next_lem before.state.ready before.ended call next in
    let after : server o link (d.marks ++ mark ∷ []) ≡ end_state_after (server_rules o) (record { state = before.state; ended = None }) (CallExecuted done ∷ []) =
    same_server o link d.marks mark (CallExecuted done ∷ []) (own link (CallExecuted done ∷ []))
    ∙ (λ i. end_state_after (server_rules o) (record { state = before.state; ended = first.0 i }) (CallExecuted done ∷ [])) in
    let ready : (server o link (settled s link (with_mark mark d)).marks).state.ready ≡ drop 1 before.state.ready =
    (settled_leaves s o link (with_mark mark d)).ready ∙ ap (λ (r : EndState ServerState). r.state.ready) after ∙ executed_state o before.state done in
    ap (λ (rs : List ReadyCall). length rs + 1) ready ∙ one_fewer before.state.ready call first.1

-- ---- A server that has ended executes nothing

ended_next : (ready : List ReadyCall) (ended : Option End) → is_some ended ≡ true → first_ready ready ended ≡ None
ended_next ready (Some end) e = refl
ended_next ready None e = absurd cc

if_none : (b : Bool) → if_standing {A = ReadyCall} b None ≡ None
if_none true = refl
if_none false = refl

ended_idle : (s : Setting) (link : ℕ) (d : Drill) → is_some (server (s.opened link) link d.marks).ended ≡ true → after_work s link d ≡ d
unfolding after_work waiting_call next_call
ended_idle s link d e =
    let k : EndState ServerState = server (s.opened link) link d.marks in
    ap (λ (c : Option ReadyCall). after_execution s link c d) (ap (λ (c : Option ReadyCall). if_standing (is_dropped link d.marks) c) (ended_next k.state.ready k.ended e) ∙ if_none (is_dropped link d.marks))

-- an old call ends it
told_state : (o : LinkParameters) (k : ServerState) (xid at : ℕ) (call : ReadyCall) → slice_get k.ready 0 ≡ Some call → is_some (end_state_after (server_rules o) (record { state = k; ended = None }) (ServerTold (told.Old xid at) ∷ [])).ended ≡ true
unfolding server_end
told_state o k xid at call first = by k.ready first
  where
    by : (ready : List ReadyCall) → slice_get ready 0 ≡ Some call → is_some (next_end_state_by (server_rules o) k (ServerTold (told.Old xid at)) (old_end at ready)).ended ≡ true
    by [] e = absurd cc
    by (r ∷ ready) e = refl

told_idle : (s : Setting) (link : ℕ) (call : ReadyCall) (d : Drill) → next_call (s.opened link) link d.marks ≡ Some call →
    after_work s link (settled s link (with_mark (marks.Told link (told.Old call.xid (last_frame_at link d.marks))) d)) ≡ settled s link (with_mark (marks.Told link (told.Old call.xid (last_frame_at link d.marks))) d)
unfolding next_call
told_idle s link call d next =
    let o : LinkParameters = s.opened link in
    let last : ℕ = last_frame_at link d.marks in
    let mark : Mark = marks.Told link (told.Old call.xid last) in
    let before : EndState ServerState = server o link d.marks in
    let first = is_next_lem before.state.ready before.ended call next in
    let after : server o link (d.marks ++ mark ∷ []) ≡ end_state_after (server_rules o) (record { state = before.state; ended = None }) (ServerTold (told.Old call.xid last) ∷ []) =
    same_server o link d.marks mark (ServerTold (told.Old call.xid last) ∷ []) (own link (ServerTold (told.Old call.xid last) ∷ []))
    ∙ (λ i. end_state_after (server_rules o) (record { state = before.state; ended = first.0 i }) (ServerTold (told.Old call.xid last) ∷ [])) in
    ended_idle s link (settled s link (with_mark mark d))
    (ap (λ (e : Option End). is_some e) ((settled_leaves s o link (with_mark mark d)).server_end ∙ ap (λ (r : EndState ServerState). r.ended) after) ∙ told_state o before.state call.xid last call first.1)

-- ---- A step leaves the drill, or takes one call, or ends the server

abbrev Taken : Setting → ℕ → Drill → Drill → Type 0
Taken s link d new = (new ≡ d) ⊎ ((ready_count s link new + 1 ≡ ready_count s link d) ⊎ (after_work s link new ≡ new))

taken_answer : (s : Setting) (link : ℕ) (call : ReadyCall) (answer : Option GivenReply) (d : Drill) → next_call (s.opened link) link d.marks ≡ Some call → Taken s link d (after_answer s link call answer d)
taken_answer s link call None d next = inl refl
taken_answer s link call (Some g) d next = inr (inl (answer_takes s link call g d next))

taken_call : (s : Setting) (link : ℕ) (call : ReadyCall) (is : Standing) (answer : Option GivenReply) (d : Drill) → next_call (s.opened link) link d.marks ≡ Some call → Taken s link d (after_call s link call is answer d)
taken_call s link call (Old top) answer d next = inr (inr (told_idle s link call d next))
taken_call s link call (Kept place) answer d next = taken_answer s link call answer d next
taken_call s link call New answer d next = taken_answer s link call answer d next

waits_next : (dropped : Bool) (call : ReadyCall) (next : Option ReadyCall) → if_standing dropped next ≡ Some call → next ≡ Some call
waits_next true call next e = absurd cc
waits_next false call next e = e

taken_execution : (s : Setting) (link : ℕ) (call : Option ReadyCall) (d : Drill) → if_standing (is_dropped link d.marks) (next_call (s.opened link) link d.marks) ≡ call → Taken s link d (after_execution s link call d)
taken_execution s link None d e = inl refl
taken_execution s link (Some call) d e =
    taken_call s link call (standing_of s link d call) (reply_given s link d call) d (waits_next (is_dropped link d.marks) call (next_call (s.opened link) link d.marks) e)

taken_work : (s : Setting) (link : ℕ) (d : Drill) → Taken s link d (after_work s link d)
unfolding after_work waiting_call
taken_work s link d = taken_execution s link (waiting_call s link d.marks) d refl

-- ---- So more steps than calls are ready change nothing

calls_same : (s : Setting) (link n : ℕ) (d : Drill) → after_work s link d ≡ d → after_calls s link n d ≡ d
calls_same s link zero d e = refl
calls_same s link (suc n) d e = ap (λ (x : Drill). after_calls s link n x) e ∙ calls_same s link n d e

none_first : (ready : List ReadyCall) (ended : Option End) → length ready ≤ 0 → first_ready ready ended ≡ None
none_first [] None few = refl
none_first [] (Some end) few = refl
none_first (r ∷ ready) ended few = absurd (omega (arith, few))

none_taken : (s : Setting) (link : ℕ) (d : Drill) → ready_count s link d ≤ 0 → after_work s link d ≡ d
unfolding after_work waiting_call next_call
none_taken s link d none =
    let k : EndState ServerState = server (s.opened link) link d.marks in
    ap (λ (c : Option ReadyCall). after_execution s link c d) (ap (λ (c : Option ReadyCall). if_standing (is_dropped link d.marks) c) (none_first k.state.ready k.ended none) ∙ if_none (is_dropped link d.marks))

enough : (s : Setting) (link n m : ℕ) (d : Drill) → ready_count s link d ≤ n → ready_count s link d ≤ m → after_calls s link n d ≡ after_calls s link m d
enough s link zero zero d a b = refl
enough s link zero (suc m) d a b = sym (calls_same s link (suc m) d (none_taken s link d a))
enough s link (suc n) zero d a b = calls_same s link (suc n) d (none_taken s link d b)
enough s link (suc n) (suc m) d a b = by (taken_work s link d) (λ x y. enough s link n m (after_work s link d) x y)
  where
    by : Taken s link d (after_work s link d) →
        (ready_count s link (after_work s link d) ≤ n → ready_count s link (after_work s link d) ≤ m → after_calls s link n (after_work s link d) ≡ after_calls s link m (after_work s link d)) →
        after_calls s link (suc n) d ≡ after_calls s link (suc m) d
    by (inl same) rest = calls_same s link (suc n) d same ∙ sym (calls_same s link (suc m) d same)
    by (inr (inl one)) rest = rest (omega (arith, one, a)) (omega (arith, one, b))
    by (inr (inr idle)) rest = calls_same s link n (after_work s link d) idle ∙ sym (calls_same s link m (after_work s link d) idle)

calls_all : (s : Setting) (link n : ℕ) (d : Drill) → ready_count s link d ≤ n → after_calls s link n d ≡ after_all_work s link d
unfolding after_all_work
calls_all s link n d le = enough s link n (ready_count s link d) d le (omega arith)

-- ---- The drill of a link, whose pending calls the code counts

all_calls : (s : Setting) (link : ℕ) (d : Drill) (v : DrillLinkState) → LinkStands s link d v → after_calls s link (length v.server.calls) d ≡ after_all_work s link d
unfolding after_all_work
all_calls s link d v h = by h.server.keeps
  where
    o : LinkParameters
    o = s.opened link

    same : h.server.end ≡ server o link d.marks
    same = h.server.stands.keeps

    by : ((h.server.end.ended ≡ None) × Keeps o h.server.end.state h.server.input v.server) ⊎ KeepsEnded h.server.end v.server → after_calls s link (length v.server.calls) d ≡ after_all_work s link d
    by (inl (live, k)) =
        let le : length h.server.end.state.ready ≤ length h.server.end.state.calls = few v.server.link.state.place h.server.end.state.ready h.server.end.state refl k.server in
        let ready : length h.server.end.state.ready ≡ ready_count s link d = ap (λ (e : EndState ServerState). length e.state.ready) same in
        let calls : length v.server.calls ≡ length h.server.end.state.calls = ap (λ (cs : List PendingCall). length cs) k.calls in
        calls_all s link (length v.server.calls) d (omega (arith, le, ready, calls))
    by (inr k) =
        let idle : after_work s link d ≡ d = ended_idle s link d (ap (λ (e : EndState ServerState). is_some e.ended) (sym same) ∙ k.over) in
        calls_same s link (length v.server.calls) d idle ∙ sym (calls_same s link (ready_count s link d) d idle)

-- ---- The clock

work_seconds : (s : Setting) (link : ℕ) (d : Drill) → (after_work s link d).seconds ≡ d.seconds
work_seconds s link d = work_clock s link d

pub calls_seconds : (s : Setting) (link n : ℕ) (d : Drill) → (after_calls s link n d).seconds ≡ d.seconds
calls_seconds s link zero d = refl
calls_seconds s link (suc n) d = calls_seconds s link n (after_work s link d) ∙ work_seconds s link d

calls_more : (s : Setting) (link n : ℕ) (d : Drill) → after_calls s link (suc n) d ≡ after_work s link (after_calls s link n d)
calls_more s link zero d = refl
calls_more s link (suc n) d = calls_more s link n (after_work s link d)

-- ---- Steps of the code

-- at most n calls were executed
abbrev pub HasWorked : (n seconds : ℕ) → (before after : DrillLinkState) → (run run' : List Mark) → (kept kept' : DrillServerState) → Type 0
HasWorked n seconds before after run run2 kept kept2 = Works (λ s link d. after_calls s link n d) seconds before after run run2 kept kept2

pub worked_none : (seconds : ℕ) (v : DrillLinkState) (run : List Mark) (kept : DrillServerState) → HasWorked 0 seconds v v run run kept kept
worked_none seconds v run kept setup opened link d second stood at = (at, stood)

pub worked_more : (n seconds : ℕ) (v v1 v2 : DrillLinkState) (run run1 run2 : List Mark) (kept kept1 kept2 : DrillServerState) →
    HasWorked n seconds v v1 run run1 kept kept1 → Works after_work seconds v1 v2 run1 run2 kept1 kept2 → HasWorked (n + 1) seconds v v2 run run2 kept kept2
worked_more n seconds v v1 v2 run run1 run2 kept kept1 kept2 before one setup opened link d second stood at =
    let s : Setting = setting_over setup opened in
    let mid : Drill = after_calls s link n d in
    let x = before setup opened link d second stood at in
    let y = one setup opened link mid (calls_seconds s link n d ∙ second) x.1 x.0 in
    let count : suc n ≡ n + 1 = omega arith in
    let is : after_work s link mid ≡ after_calls s link (n + 1) d = sym (calls_more s link n d) ∙ ap (λ (m : ℕ). after_calls s link m d) count in (
      subst (λ (z : Drill). StandsAt s link z v2 run2) is y.0,
      subst (λ (z : Drill). ServerStands setup z kept2) is y.1,
    )

pub worked_all : (n seconds : ℕ) (v v1 : DrillLinkState) (run run1 : List Mark) (kept kept1 : DrillServerState) → n ≡ length v.server.calls → HasWorked n seconds v v1 run run1 kept kept1 →
    Works after_all_work seconds v v1 run run1 kept kept1
worked_all n seconds v v1 run run1 kept kept1 count worked setup opened link d second stood at =
    let s : Setting = setting_over setup opened in
    let x = worked setup opened link d second stood at in
    let is : after_calls s link n d ≡ after_all_work s link d = ap (λ (m : ℕ). after_calls s link m d) count ∙ all_calls s link d v at.stands in (
      subst (λ (z : Drill). StandsAt s link z v1 run1) is x.0,
      subst (λ (z : Drill). ServerStands setup z kept1) is x.1,
    )

-- ---- A round of a link

pub moves_go : (seconds : ℕ) (v v1 v2 v3 : DrillLinkState) (run run1 run2 run3 : List Mark) (kept kept2 : DrillServerState) →
    Goes after_all_up v v1 run run1 → Works after_all_work seconds v1 v2 run1 run2 kept kept2 → Goes after_all_down v2 v3 run2 run3 → Works after_moves seconds v v3 run run3 kept kept2
unfolding after_moves
moves_go seconds v v1 v2 v3 run run1 run2 run3 kept kept2 rises worked falls setup opened link d second stood at =
    let s : Setting = setting_over setup opened in
    let above : Drill = after_all_up s link d in
    let up : Leaves d above = up_leaves s link (length (pipes_of link d).up) d in
    let x = worked setup opened link above (up.seconds ∙ second) (stays setup d above kept up stood) (rises s link d at) in
    let done : Drill = after_all_work s link above in
    (falls s link done x.0, stays setup done (after_all_down s link done) kept2 (down_leaves s link (length (pipes_of link done).down) done) x.1)
