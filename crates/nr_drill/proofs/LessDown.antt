-- Feeding a client all that waits for it leaves less work.
use Rattle.std.specs.Prelude.{is_none, ◌&&◌, ◌<◌, ◌≤◌, if◌then◌else◌, slice_get, filter, sum_by}
use Rattle.std.proofs.Common.{◌≡◌, ◌≢◌, ℕ, zero, suc, ◌+◌, inl, inr, arith, cond, Bool, true, false, List, [], ◌∷◌, ◌++◌, length, map, Option, None, Some, refl, sym, ap, subst, ◌∙◌, append-nil, append_assoc, length-append}
use Rattle.std.proofs.Math.Seq.{drop-length}
use Rattle.std.proofs.lemmas.List.{take_all, append_cancel_left, nil_from_length}
use Rattle.std.proofs.lemmas.List.Elements.{filter-append}
use Rattle.nr_wire.specs.declared.hello.Side.TheVariants.{Initiator, Responder}
use Rattle.nr_link.specs.declared.end.End.{End}
use Rattle.nr_link.specs.Frames.{Frame, frames_of, frames_completed, is_hello}
use Rattle.nr_reduce.specs.declared.mark.Mark.{Mark}
use Rattle.nr_reduce.specs.declared.mark.Mark.TheVariants as marks
use Rattle.nr_reduce.specs.declared.mark.LinkParameters.{LinkParameters}
use Rattle.nr_reduce.specs.History.{AcceptedCall, CompletedCall, bytes_sent, bytes_received, is_dropped}
use Rattle.nr_reduce.specs.OutcomesDue.{outcomes_due}
use Rattle.nr_reduce.specs.Events.{RunEvent, if_own}
use Rattle.nr_reduce.specs.Events.RunEvent.{FrameReceived, CallSubmitted}
use Rattle.std.proofs.lemmas.Bool.{eq-eqb}
use Rattle.nr_reduce.specs.EndRules.{EndState, next_end_state_by, next_end_state_in, next_end_state, end_state_after, output_for_all}
use Rattle.nr_reduce.specs.ClientState.{ClientState, WaitingCall, others_than}
use Rattle.nr_reduce.specs.ServerState.{ServerState, PendingRead, ReadyCall}
use Rattle.nr_reduce.specs.Client.{client_rules, client_segment, client_end, client_state_after, with_hello, with_segment}
use Rattle.nr_reduce.specs.Run.{client, server, output_due, end_of_side}
use Rattle.nr_reduce.proofs.Steps.{AtEachMark_first, ended_stays, client_one}
use Rattle.nr_reduce.proofs.Resending.{first_to_resend, resent_next}
use Rattle.nr_reduce.specs.SubmitAnswer.{calls_to_resend}
use Rattle.nr_reduce.proofs.Standing.{itself, received_one, live_before}
use Rattle.nr_laws.specs.Typed.{TypedMark, IsTyped}
use Rattle.nr_reduce.specs.Matched.{IsPrefixOf}
use Rattle.nr_reduce.specs.Asked.{AskedMark, AskedSoFar, IsAll}
use Rattle.nr_reduce.proofs.SoFarLaws.{AtEachMark_each, asked_mark}
use Rattle.nr_reduce.proofs.Placing.{segment_sends, segment_waiting}
use Rattle.nr_drill.specs.Drill.{Setting, Drill, Pipes, unwritten, settled, pipes_of, with_mark, with_pipes, after_feeding, after_feeding_down, after_handing, after_done, after_dones, after_outcomes, after_down, after_all_down, resend_mark, after_resends}
use Rattle.nr_drill.specs.WorkLeft.{frame_len, is_send, send_bytes_left, work_left, stays, IsLess}
use Rattle.nr_drill.proofs.Lawful.{IsLawful, Keeps, lawful_after_down}
use Rattle.nr_drill.proofs.Followed.{down_adds}
use Rattle.nr_drill.proofs.Carried.{Carries, carries_down}
use Rattle.nr_drill.proofs.LessWork.{Leaves, leaves_all, leaves_through, settled_leaves, done_leaves, own, not_own, not_fed_lem, no_drop, same_client, same_server, due_more_up, same_due_down}
use Rattle.nr_drill.proofs.LessFrames.{completed_two, still_heard, sends_waiting}
use Rattle.nr_reduce.specs.Opening.{IsOpened}

-- ===== outcomes that are handed over

handing_leaves : (o : LinkParameters) (link : ℕ) (c : Option CompletedCall) (d : Drill) → Leaves o link d.marks (after_handing link c d).marks
handing_leaves o link None d = leaves_all o link d.marks
handing_leaves o link (Some c) d = done_leaves o link c.xid c.outcome d.marks

dones_leave : (s : Setting) (o : LinkParameters) (link n : ℕ) (d : Drill) → Leaves o link d.marks (after_dones s link n d).marks
unfolding after_done
dones_leave s o link zero d = leaves_all o link d.marks
dones_leave s o link (suc n) d =
    leaves_through o link d.marks (after_done s link d).marks (after_dones s link (suc n) d).marks
    (handing_leaves o link (slice_get (outcomes_due (s.opened link) link d.marks) 0) d) (dones_leave s o link n (after_done s link d))

pub outcomes_leave : (s : Setting) (o : LinkParameters) (link : ℕ) (d : Drill) → Leaves o link d.marks (after_outcomes s link d).marks
unfolding after_outcomes
outcomes_leave s o link d = dones_leave s o link (length (outcomes_due (s.opened link) link d.marks)) d

-- ===== frames make a client accept no call

frame_accepts : (o : LinkParameters) (k : ClientState) (f : Frame) → (client_state_after o k (FrameReceived f)).sends ≡ k.sends
unfolding client_state_after
frame_accepts o k f = by (is_hello f)
  where
    by : (b : Bool) → (cond b (with_hello o k f) (with_segment k f (client_segment k f))).sends ≡ k.sends
    by true = refl
    by false = segment_sends k f (client_segment k f)

next_accepts : (o : LinkParameters) (k : ClientState) (ended : Option End) (f : Frame) → (next_end_state_in (client_rules o) k (FrameReceived f) ended).state.sends ≡ k.sends
next_accepts o k (Some end) f = refl
next_accepts o k None f = by (client_end k (FrameReceived f))
  where
    by : (end : Option End) → (next_end_state_by (client_rules o) k (FrameReceived f) end).state.sends ≡ k.sends
    by None = frame_accepts o k f
    by (Some end) = refl

frames_accept : (o : LinkParameters) (r : EndState ClientState) (fs : List Frame) → (end_state_after (client_rules o) r (map FrameReceived fs)).state.sends ≡ r.state.sends
frames_accept o r [] = refl
frames_accept o r (f ∷ fs) = frames_accept o (next_end_state (client_rules o) r (FrameReceived f)) fs ∙ next_accepts o r.state r.ended f

-- and none that waits to be sent again

frame_waits : (o : LinkParameters) (k : ClientState) (f : Frame) → (client_state_after o k (FrameReceived f)).waiting ≡ k.waiting
unfolding client_state_after
frame_waits o k f = by (is_hello f)
  where
    by : (b : Bool) → (cond b (with_hello o k f) (with_segment k f (client_segment k f))).waiting ≡ k.waiting
    by true = refl
    by false = segment_waiting k f (client_segment k f)

next_waits : (o : LinkParameters) (k : ClientState) (ended : Option End) (f : Frame) → (next_end_state_in (client_rules o) k (FrameReceived f) ended).state.waiting ≡ k.waiting
next_waits o k (Some end) f = refl
next_waits o k None f = by (client_end k (FrameReceived f))
  where
    by : (end : Option End) → (next_end_state_by (client_rules o) k (FrameReceived f) end).state.waiting ≡ k.waiting
    by None = frame_waits o k f
    by (Some end) = refl

frames_wait : (o : LinkParameters) (r : EndState ClientState) (fs : List Frame) → (end_state_after (client_rules o) r (map FrameReceived fs)).state.waiting ≡ r.state.waiting
frames_wait o r [] = refl
frames_wait o r (f ∷ fs) = frames_wait o (next_end_state (client_rules o) r (FrameReceived f)) fs ∙ next_waits o r.state r.ended f

-- ===== calls that are sent again

both_hold : (ended : Option End) (has_hello : Bool) → (is_none ended && has_hello) ≡ true → (ended ≡ None) × (has_hello ≡ true)
both_hold None true is = (refl, refl)
both_hold None false is = absurd cc
both_hold (Some end) has_hello is = absurd cc

submitted_waits : (o : LinkParameters) (k : ClientState) (ended : Option End) (place : ℕ) (a : AcceptedCall) (w : WaitingCall) (others : List WaitingCall) → ended ≡ None → k.waiting ≡ w ∷ others → a.xid ≡ w.xid →
    (next_end_state_in (client_rules o) k (CallSubmitted place a) ended).state.waiting ≡ others
unfolding client_state_after client_end
submitted_waits o k None place a w others none there own =
    ap (λ (ws : List WaitingCall). others_than ws a.xid) there ∙ ap (λ (b : Bool). cond b others (w ∷ others)) (eq-eqb w.xid a.xid (sym own))
submitted_waits o k (Some end) place a w others none there own = absurd cc

submitted_end : (o : LinkParameters) (k : ClientState) (ended : Option End) (place : ℕ) (a : AcceptedCall) → (next_end_state_in (client_rules o) k (CallSubmitted place a) ended).ended ≡ ended
unfolding client_end
submitted_end o k None place a = refl
submitted_end o k (Some end) place a = refl

-- each that is leaves fewer that wait
fewer_wait : (o : LinkParameters) (link : ℕ) (run : List Mark) (w : WaitingCall) (rest : List WaitingCall) → calls_to_resend (client o link run) ≡ w ∷ rest →
    length (client o link (run ++ resend_mark link w ∷ [])).state.waiting < length (client o link run).state.waiting
fewer_wait o link run w rest is =
    let r = client o link run in
    let first = first_to_resend r w rest is in
    let can = both_hold r.ended r.state.has_hello first.allowed in
    let a : AcceptedCall = record { xid = w.xid; call = w.call; form = w.form } in
    let place : ℕ = length (bytes_received link Initiator run) in
    let next : (client o link (run ++ resend_mark link w ∷ [])).state.waiting ≡ first.others =
    ap (λ (x : EndState ClientState). x.state.waiting) (client_one o link run (resend_mark link w))
    ∙ ap (λ (b : Bool). (end_state_after (client_rules o) r (if_own (b && true) (CallSubmitted place a ∷ []))).state.waiting) (itself link)
    ∙ submitted_waits o r.state r.ended place a w first.others can.0 first.there refl in
    let old : length r.state.waiting ≡ suc (length first.others) = ap (λ (ws : List WaitingCall). length ws) first.there in
    (let new = ap (λ (ws : List WaitingCall). length ws) next in omega (arith, new, old))

-- with all of them no more wait, and the client's end is as it was
record SentLeave (o : LinkParameters) (link : ℕ) (old new : List Mark) : Type 0 where
  client_end : (client o link new).ended ≡ (client o link old).ended
  server_is : server o link new ≡ server o link old
  no_more : length (client o link new).state.waiting ≤ length (client o link old).state.waiting

sent_one_leaves : (o : LinkParameters) (link : ℕ) (run : List Mark) (w : WaitingCall) → length (client o link (run ++ resend_mark link w ∷ [])).state.waiting ≤ length (client o link run).state.waiting →
    (client o link (run ++ resend_mark link w ∷ [])).ended ≡ (client o link run).ended → SentLeave o link run (run ++ resend_mark link w ∷ [])
sent_one_leaves o link run w few end = record {
  client_end = end;
  server_is = same_server o link run (resend_mark link w) [] (not_own link (CallSubmitted (length (bytes_received link Responder run)) (record { xid = w.xid; call = w.call; form = w.form }) ∷ []));
  no_more = few;
}

sent_ends : (o : LinkParameters) (link : ℕ) (run : List Mark) (w : WaitingCall) → (client o link (run ++ resend_mark link w ∷ [])).ended ≡ (client o link run).ended
sent_ends o link run w =
    let r = client o link run in
    let a : AcceptedCall = record { xid = w.xid; call = w.call; form = w.form } in
    let place : ℕ = length (bytes_received link Initiator run) in
    ap (λ (x : EndState ClientState). x.ended) (client_one o link run (resend_mark link w))
    ∙ ap (λ (b : Bool). (end_state_after (client_rules o) r (if_own (b && true) (CallSubmitted place a ∷ []))).ended) (itself link)
    ∙ submitted_end o r.state r.ended place a

sent_leave : (o : LinkParameters) (link : ℕ) (run : List Mark) (ws : List WaitingCall) → calls_to_resend (client o link run) ≡ ws → SentLeave o link run (run ++ map (resend_mark link) ws)
sent_leave o link run [] is = subst (SentLeave o link run) (sym (append-nil run)) (record { client_end = refl; server_is = refl; no_more = omega arith })
sent_leave o link run (w ∷ ws) is =
    let mid = run ++ resend_mark link w ∷ [] in
    let fewer = fewer_wait o link run w ws is in
    let one = sent_one_leaves o link run w (omega (arith, fewer)) (sent_ends o link run w) in
    let rest = sent_leave o link mid ws (resent_next o link run w ws is) in
    let few = one.no_more in
    let more = rest.no_more in
    subst (SentLeave o link run) (append_assoc run (resend_mark link w ∷ []) (map (resend_mark link) ws))
    (record { client_end = rest.client_end ∙ one.client_end; server_is = rest.server_is ∙ one.server_is; no_more = omega (arith, few, more) })

fewer_then : (o : LinkParameters) (link : ℕ) (run : List Mark) (w : WaitingCall) (ws : List WaitingCall) → calls_to_resend (client o link run) ≡ w ∷ ws →
    length (client o link (run ++ map (resend_mark link) (w ∷ ws))).state.waiting < length (client o link run).state.waiting
fewer_then o link run w ws is =
    let mid = run ++ resend_mark link w ∷ [] in
    let rest = sent_leave o link mid ws (resent_next o link run w ws is) in
    let fewer = fewer_wait o link run w ws is in
    let more = rest.no_more in
    subst (λ (all : List Mark). length (client o link all).state.waiting < length (client o link run).state.waiting) (append_assoc run (resend_mark link w ∷ []) (map (resend_mark link) ws)) (omega (arith, fewer, more))

-- ===== all down

asked_so_far_lem : (o : LinkParameters) (link : ℕ) (run : List Mark) → IsLawful o link run → AskedSoFar o link run
asked_so_far_lem o link run h = AtEachMark_each (AskedMark IsAll o link) (AskedMark IsPrefixOf o link) [] run (asked_mark o link) h.asked

pub all_written_lem : (s : Setting) (link : ℕ) (d : Drill) → Keeps s link d →
    (bytes_sent link Initiator d.marks ≡ output_due (s.opened link) link Initiator d.marks) × (bytes_sent link Responder d.marks ≡ output_due (s.opened link) link Responder d.marks)
all_written_lem s link d h =
    let up = bytes_sent link Initiator d.marks in
    let down = bytes_sent link Responder d.marks in (
      sym (append-nil up) ∙ ap (λ (xs : List ℕ). up ++ xs) (sym h.1.client) ∙ h.0.client,
      sym (append-nil down) ∙ ap (λ (xs : List ℕ). down ++ xs) (sym h.1.server) ∙ h.0.server,
    )

-- the Sends of two lists of which the first has as many as both
none_later_lem : (A B : List Frame) → length (filter is_send (A ++ B)) ≡ length (filter is_send A) → sum_by frame_len (filter is_send (A ++ B)) ≡ sum_by frame_len (filter is_send A)
none_later_lem A B e =
    let both = filter-append is_send A B in
    let none : filter is_send B ≡ [] = nil_from_length (filter is_send B) (omega (arith, e, ap (λ (fs : List Frame). length fs) both, length-append (filter is_send A) (filter is_send B))) in
    ap (λ (fs : List Frame). sum_by frame_len fs) (both ∙ ap (λ (fs : List Frame). filter is_send A ++ fs) none ∙ append-nil (filter is_send A))

abbrev fed_down : ℕ → List ℕ → Drill → Drill
fed_down link bytes d = with_pipes link (record (pipes_of link d) { down = [] }) (with_mark (marks.Fed link Initiator bytes) d)

abbrev after_fed : Setting → ℕ → Drill → Drill
after_fed s link d = settled s link (after_outcomes s link d)

fed_less : (s : Setting) (link : ℕ) (bytes : List ℕ) (d : Drill) → Keeps s link d → Carries link d → frames_of Responder (bytes_received link Initiator d.marks) ≢ [] →
    (pipes_of link d).down ≡ bytes → 0 < length bytes → IsTyped d.marks → IsTyped (after_fed s link (fed_down link bytes d)).marks → Keeps s link (after_fed s link (fed_down link bytes d)) → Carries link (after_fed s link (fed_down link bytes d)) →
    IsLess (work_left s (after_fed s link (fed_down link bytes d)) link) (work_left s d link)
unfolding work_left send_bytes_left end_of_side
fed_less s link bytes d h c heard_down waits some typed typed_new h_new c_new = by_client before.ended refl
  where
    o : LinkParameters
    o = s.opened link

    run : List Mark
    run = d.marks

    mark : Mark
    mark = marks.Fed link Initiator bytes

    fed : Drill
    fed = fed_down link bytes d

    new : Drill
    new = after_fed s link fed

    before : EndState ClientState
    before = client o link run

    got : List ℕ
    got = bytes_received link Responder run

    got_down : List ℕ
    got_down = bytes_received link Initiator run

    es : List RunEvent
    es = map FrameReceived (frames_completed Responder got_down bytes)

    up_events : List RunEvent
    up_events = map FrameReceived (frames_completed Initiator got bytes)

    after : EndState ClientState
    after = end_state_after (client_rules o) before es

    X : List ℕ
    X = output_for_all (client_rules o) before es

    leaves : Leaves o link fed.marks new.marks
    leaves = leaves_through o link fed.marks (after_outcomes s link fed).marks new.marks (outcomes_leave s o link fed) (settled_leaves s o link (after_outcomes s link fed))

    server_is : server o link fed.marks ≡ server o link run
    server_is = same_server o link run mark [] (not_own link up_events)

    server_end : (server o link new.marks).ended ≡ (server o link run).ended
    server_end = leaves.server_end ∙ ap (λ (r : EndState ServerState). r.ended) server_is

    reads : (server o link new.marks).state.reads ≡ (server o link run).state.reads
    reads = leaves.reads ∙ ap (λ (r : EndState ServerState). r.state.reads) server_is

    ready : (server o link new.marks).state.ready ≡ (server o link run).state.ready
    ready = leaves.ready ∙ ap (λ (r : EndState ServerState). r.state.ready) server_is

    got_is : bytes_received link Responder new.marks ≡ got
    got_is = leaves.got ∙ not_fed_lem link run mark (ap (λ (b : Bool). if b && false then bytes else []) (itself link))

    got_down_is : bytes_received link Initiator new.marks ≡ got_down ++ bytes
    got_down_is = leaves.heard ∙ received_one link Initiator run mark ∙ ap (λ (xs : List ℕ). got_down ++ xs) (ap (λ (b : Bool). if b && true then bytes else []) (itself link))

    client_is : client o link fed.marks ≡ after
    client_is = same_client o link run mark es (own link es)

    client_end_is : (client o link new.marks).ended ≡ after.ended
    client_end_is = leaves.client_end ∙ ap (λ (r : EndState ClientState). r.ended) client_is

    accepted : (client o link new.marks).state.sends ≡ before.state.sends
    accepted = leaves.accepted ∙ ap (λ (r : EndState ClientState). r.state.sends) client_is ∙ frames_accept o before (frames_completed Responder got_down bytes)

    waiting : (client o link new.marks).state.waiting ≡ before.state.waiting
    waiting = leaves.waits ∙ ap (λ (r : EndState ClientState). r.state.waiting) client_is ∙ frames_wait o before (frames_completed Responder got_down bytes)

    due_up : output_due o link Initiator new.marks ≡ output_due o link Initiator run ++ X
    due_up = leaves.due ∙ due_more_up o link run mark es X (own link es) refl

    due_down : output_due o link Responder new.marks ≡ output_due o link Responder run
    due_down = leaves.due_down ∙ same_due_down o link run mark [] (not_own link up_events) refl

    standing : is_dropped link run ≡ false
    standing = by (is_dropped link run) refl
      where
        by : (b : Bool) → is_dropped link run ≡ b → b ≡ false
        by false e = refl
        by true e = absurd (omega (arith, some, ap (λ (xs : List ℕ). length xs) (sym waits ∙ ap (λ (p : Pipes). p.down) (c.gone e))))

    standing_new : is_dropped link new.marks ≡ false
    standing_new = leaves.dropped ∙ no_drop link run mark refl ∙ standing

    up : (pipes_of link new).up ≡ (pipes_of link d).up ++ X
    up =
        append_cancel_left got (pipes_of link new).up ((pipes_of link d).up ++ X)
        (ap (λ (xs : List ℕ). xs ++ (pipes_of link new).up) (sym got_is) ∙ (c_new.carried standing_new).up ∙ (all_written_lem s link new h_new).0 ∙ due_up
        ∙ ap (λ (xs : List ℕ). xs ++ X) (sym (all_written_lem s link d h).0 ∙ sym (c.carried standing).up) ∙ append_assoc got (pipes_of link d).up X)

    down : (pipes_of link new).down ≡ []
    down =
        append_cancel_left (got_down ++ bytes) (pipes_of link new).down []
        (ap (λ (xs : List ℕ). xs ++ (pipes_of link new).down) (sym got_down_is) ∙ (c_new.carried standing_new).down ∙ (all_written_lem s link new h_new).1 ∙ due_down
        ∙ sym (all_written_lem s link d h).1 ∙ sym (c.carried standing).down ∙ ap (λ (xs : List ℕ). got_down ++ xs) waits ∙ sym (append-nil (got_down ++ bytes)))

    down_less : length (pipes_of link new).down < length (pipes_of link d).down
    down_less = omega (arith, some, ap (λ (xs : List ℕ). length xs) down, ap (λ (xs : List ℕ). length xs) waits)

    sent_new : List ℕ
    sent_new = (pipes_of link new).up ++ unwritten o link Initiator new.marks

    sent_old : List ℕ
    sent_old = (pipes_of link d).up ++ unwritten o link Initiator run

    sends_in : List ℕ → List ℕ → ℕ
    sends_in received way = sum_by frame_len (filter is_send (frames_completed Initiator received way))

    -- if neither the ends nor the Sends change
    last : after.ended ≡ before.ended → sends_in (bytes_received link Responder new.marks) sent_new ≡ sends_in got sent_old → IsLess (work_left s new link) (work_left s d link)
    last same same_sends = inr (
      (λ i. stays ((client_end_is ∙ same) i) + stays (server_end i)),
      inr (
        ap (λ (ws : List WaitingCall). length ws) waiting,
        inr (same_sends, inr (ap (λ (rs : List PendingRead). length rs) reads, inr (ap (λ (rs : List ReadyCall). length rs) ready, inl down_less))),
      ),
    )

    heard_down_new : frames_of Responder (bytes_received link Initiator new.marks) ≢ []
    heard_down_new = subst (λ (xs : List ℕ). frames_of Responder xs ≢ []) (sym got_down_is) (still_heard Responder got_down bytes heard_down)

    by_count : before.ended ≡ None → after.ended ≡ None → sends_in (bytes_received link Responder new.marks) sent_new ≡ sends_in got sent_old
    by_count lives still =
        let n_old = sends_waiting o link run (pipes_of link d).up typed (asked_so_far_lem o link run h.0) lives heard_down ((c.carried standing).up ∙ (all_written_lem s link d h).0) in
        let n_new = sends_waiting o link new.marks (pipes_of link new).up typed_new (asked_so_far_lem o link new.marks h_new.0) (client_end_is ∙ still) heard_down_new ((c_new.carried standing_new).up ∙ (all_written_lem s link new h_new).0) in
        let A = frames_completed Initiator got (pipes_of link d).up in
        let B = frames_completed Initiator (got ++ (pipes_of link d).up) X in
        let frames : frames_completed Initiator (bytes_received link Responder new.marks) (pipes_of link new).up ≡ A ++ B =
        (λ i. frames_completed Initiator (got_is i) (up i)) ∙ completed_two Initiator got (pipes_of link d).up X in
        let as_many : length (filter is_send (A ++ B)) ≡ length (filter is_send A) =
        omega (arith, n_old, n_new, accepted, ap (λ (fs : List Frame). length (filter is_send fs)) frames, ap (λ (xs : List ℕ). length (filter is_send (frames_of Initiator xs))) got_is) in
        ap (λ (xs : List ℕ). sends_in (bytes_received link Responder new.marks) xs) ((λ i. (pipes_of link new).up ++ h_new.1.client i) ∙ append-nil (pipes_of link new).up)
        ∙ ap (λ (fs : List Frame). sum_by frame_len (filter is_send fs)) frames
        ∙ none_later_lem A B as_many
        ∙ ap (λ (xs : List ℕ). sends_in got xs) (sym (append-nil (pipes_of link d).up) ∙ sym (λ i. (pipes_of link d).up ++ h.1.client i))

    by_after : before.ended ≡ None → (end : Option End) → after.ended ≡ end → IsLess (work_left s new link) (work_left s d link)
    by_after lives (Some end) is =
        let gone : stays (client o link new.marks).ended ≡ 0 = ap (λ (e : Option End). stays e) (client_end_is ∙ is) in
        let was : stays before.ended ≡ 1 = ap (λ (e : Option End). stays e) lives in
        let same = ap (λ (e : Option End). stays e) server_end in
        inl (omega (arith, gone, was, same))
    by_after lives None is = last (is ∙ sym lives) (by_count lives is)

    by_client : (end : Option End) → before.ended ≡ end → IsLess (work_left s new link) (work_left s d link)
    by_client None is = by_after is after.ended refl
    by_client (Some end) is =
        let was : before ≡ record { state = before.state; ended = Some end } = (λ i. record { state = before.state; ended = is i }) in
        let stands = ended_stays (client_rules o) before.state end es in
        let same : after ≡ before = ap (λ (r : EndState ClientState). end_state_after (client_rules o) r es) was ∙ stands.0 ∙ sym was in
        let nothing : X ≡ [] = ap (λ (r : EndState ClientState). output_for_all (client_rules o) r es) was ∙ stands.1 in
        let same_up : (pipes_of link new).up ≡ (pipes_of link d).up = up ∙ ap (λ (xs : List ℕ). (pipes_of link d).up ++ xs) nothing ∙ append-nil (pipes_of link d).up in
        last (ap (λ (r : EndState ClientState). r.ended) same) (λ i. sends_in (got_is i) (same_up i ++ (h_new.1.client ∙ sym h.1.client) i))

has_bytes : (n : ℕ) (bytes : List ℕ) → length bytes ≡ n → bytes ≢ [] → 0 < n
has_bytes n [] is some = absurd (some refl)
has_bytes n (b ∷ bytes) is some = omega (arith, is)

feeding_down : (link : ℕ) (bytes : List ℕ) (rest : Pipes) (d : Drill) → bytes ≢ [] → after_feeding link Initiator bytes rest d ≡ with_pipes link rest (with_mark (marks.Fed link Initiator bytes) d)
feeding_down link [] rest d some = absurd (some refl)
feeding_down link (b ∷ bytes) rest d some = refl

-- If calls are sent again, fewer wait then, and no side ends.
resent_less : (s : Setting) (link : ℕ) (bytes : List ℕ) (d : Drill) (w : WaitingCall) (ws : List WaitingCall) → calls_to_resend (client (s.opened link) link (fed_down link bytes d).marks) ≡ w ∷ ws →
    IsLess (work_left s (after_fed s link (record (fed_down link bytes d) { marks = (fed_down link bytes d).marks ++ map (resend_mark link) (w ∷ ws) })) link) (work_left s d link)
unfolding work_left end_of_side
resent_less s link bytes d w ws is =
    let o = s.opened link in
    let run = d.marks in
    let mark = marks.Fed link Initiator bytes in
    let before = client o link run in
    let es : List RunEvent = map FrameReceived (frames_completed Responder (bytes_received link Initiator run) bytes) in
    let fed = fed_down link bytes d in
    let sent : Drill = record fed { marks = fed.marks ++ map (resend_mark link) (w ∷ ws) } in
    let new = after_fed s link sent in
    let leaves = leaves_through o link sent.marks (after_outcomes s link sent).marks new.marks (outcomes_leave s o link sent) (settled_leaves s o link (after_outcomes s link sent)) in
    let again = sent_leave o link fed.marks (w ∷ ws) is in
    let client_is : client o link fed.marks ≡ end_state_after (client_rules o) before es = same_client o link run mark es (own link es) in
    let lives : (client o link fed.marks).ended ≡ None = (both_hold (client o link fed.marks).ended (client o link fed.marks).state.has_hello (first_to_resend (client o link fed.marks) w ws is).allowed).0 in
    let was : before.ended ≡ None = live_before (client_rules o) before es (ap (λ (r : EndState ClientState). r.ended) (sym client_is) ∙ lives) in
    let client_end : (client o link new.marks).ended ≡ before.ended = leaves.client_end ∙ again.client_end ∙ lives ∙ sym was in
    let server_end : (server o link new.marks).ended ≡ (server o link run).ended =
    leaves.server_end ∙ ap (λ (r : EndState ServerState). r.ended) again.server_is
    ∙ ap (λ (r : EndState ServerState). r.ended) (same_server o link run mark [] (not_own link (map FrameReceived (frames_completed Initiator (bytes_received link Responder run) bytes)))) in
    let fewer = fewer_then o link fed.marks w ws is in
    let last = ap (λ (xs : List WaitingCall). length xs) leaves.waits in
    let old = ap (λ (xs : List WaitingCall). length xs) (ap (λ (r : EndState ClientState). r.state.waiting) client_is ∙ frames_wait o before (frames_completed Responder (bytes_received link Initiator run) bytes)) in
    inr ((λ i. stays (client_end i) + stays (server_end i)), inl (omega (arith, fewer, last, old)))

-- If the client has the server's hello, what each side received and what waits is what the other sent, and bytes wait for the client, feeding it
-- all of them leaves less work.
pub down_less_lem : (s : Setting) (link : ℕ) (d : Drill) → IsOpened (s.opened link) → Keeps s link d → Carries link d → frames_of Responder (bytes_received link Initiator d.marks) ≢ [] →
    (pipes_of link d).down ≢ [] → IsTyped (after_all_down s link d).marks → IsLess (work_left s (after_all_down s link d) link) (work_left s d link)
unfolding after_down after_resends
down_less_lem s link d numbers h c heard_down some typed = by (again fed) refl
  where
    pipes : Pipes
    pipes = pipes_of link d

    n : ℕ
    n = length pipes.down

    fed : Drill
    fed = fed_down link pipes.down d

    again : Drill → List WaitingCall
    again x = calls_to_resend (client (s.opened link) link x.marks)

    with_again : Drill → List WaitingCall → Drill
    with_again x ws = record x { marks = x.marks ++ map (resend_mark link) ws }

    fed_is : after_feeding_down link n d ≡ fed
    fed_is = (λ i. after_feeding link Initiator (take_all n pipes.down (omega arith) i) (record pipes { down = drop-length pipes.down i }) d) ∙ feeding_down link pipes.down (record pipes { down = [] }) d some

    is : after_down s link n d ≡ after_fed s link (with_again fed (again fed))
    is = ap (λ (x : Drill). after_fed s link (with_again x (again x))) fed_is

    keeps : Keeps s link (after_down s link n d)
    keeps = lawful_after_down s link n d numbers h

    carried : Carries link (after_down s link n d)
    carried = carries_down s link n d h c

    before : IsTyped d.marks
    before = (let x = down_adds s link n d in AtEachMark_first TypedMark [] d.marks x.marks.added (subst IsTyped x.marks.is typed))

    goal : Drill → Type 0
    goal x = IsLess (work_left s x link) (work_left s d link)

    by : (ws : List WaitingCall) → again fed ≡ ws → goal (after_down s link n d)
    by [] none =
        let same : after_down s link n d ≡ after_fed s link fed =
        is ∙ ap (λ (ws : List WaitingCall). after_fed s link (with_again fed ws)) none ∙ ap (λ (run : List Mark). after_fed s link (record fed { marks = run })) (append-nil fed.marks) in
        subst goal (sym same)
        (fed_less s link pipes.down d h c heard_down refl (has_bytes n pipes.down refl some) before (subst (λ (x : Drill). IsTyped x.marks) same typed) (subst (Keeps s link) same keeps) (subst (Carries link) same carried))
    by (w ∷ ws) more =
        let same : after_down s link n d ≡ after_fed s link (with_again fed (w ∷ ws)) = is ∙ ap (λ (xs : List WaitingCall). after_fed s link (with_again fed xs)) more in
        subst goal (sym same) (resent_less s link pipes.down d w ws more)
