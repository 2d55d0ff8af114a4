-- What writing leaves as it was on a link, and that executing a call leaves less work.
use Rattle.std.specs.Prelude.{◌-◌, ◌&&◌, ◌||◌, ◌<◌, slice_get, filter, sum_by}
use Rattle.std.proofs.Common.{◌≡◌, ◌≢◌, ℕ, ◌+◌, inl, inr, arith, eqb, Bool, true, false, List, [], ◌∷◌, ◌++◌, length, drop, Option, None, Some, refl, sym, ap, subst, ◌∙◌, append-nil}
use Rattle.std.proofs.lemmas.List.{get_or-set_same, length-set}
use Rattle.nr_wire.specs.declared.hello.Side.{Side}
use Rattle.nr_wire.specs.declared.hello.Side.TheVariants.{Initiator, Responder}
use Rattle.nr_link.specs.declared.end.End.{End}
use Rattle.nr_link.specs.Frames.{frames_completed}
use Rattle.nr_reduce.specs.declared.call.Outcome.{Outcome}
use Rattle.nr_reduce.specs.declared.mark.Mark.{Mark}
use Rattle.nr_reduce.specs.declared.mark.Mark.TheVariants as marks
use Rattle.nr_reduce.specs.declared.mark.Told.TheVariants as told
use Rattle.nr_reduce.specs.declared.mark.LinkParameters.{LinkParameters}
use Rattle.nr_reduce.specs.History.{ExecutedCall, written_at, fed_at, bytes_received, is_drop_of, is_dropped}
use Rattle.nr_reduce.specs.Events.{RunEvent, events_at, if_own}
use Rattle.nr_reduce.specs.Events.RunEvent.{CallExecuted, QueueWritten, ServerTold}
use Rattle.nr_reduce.specs.EndRules.{EndState, end_state_after, output_for_all, next_end_state_by}
use Rattle.nr_reduce.specs.ClientState.{ClientState, WaitingCall}
use Rattle.nr_reduce.specs.ServerState.{ServerState, PendingRead, ReadyCall}
use Rattle.nr_reduce.specs.Client.{client_rules, client_end, client_output, client_state_after}
use Rattle.nr_reduce.specs.Server.{server_rules, server_end, server_output, server_state_after, old_end}
use Rattle.nr_reduce.specs.Run.{client, server, output_due, end_of_side}
use Rattle.nr_reduce.specs.Served.{next_call, first_ready, last_frame_at}
use Rattle.nr_reduce.proofs.Steps.{client_one, server_one, output_due_up_one, output_due_down_one}
use Rattle.nr_reduce.proofs.Standing.{itself, received_one}
use Rattle.nr_laws.proofs.DistinctKeys.{any_append}
use Rattle.nr_drill.specs.Drill.{Setting, Drill, Pipes, empty_pipes, unwritten, appended, after_output, after_all_output, settled, pipes_of, with_mark, with_pipes, if_standing, waiting_call, after_answer, after_execution, after_work, GivenReply, standing_of, reply_given, after_call}
use Rattle.nr_drill.specs.WorkLeft.{frame_len, is_send, send_bytes_left, work_left, stays, IsLess}
use Rattle.nr_drill.proofs.Lawful.{IsDueOf, Keeps, again_mark, other_side_lem, more_due, left_is, due_more, lawful_mark, lawful_settled}
use Rattle.nr_reduce.specs.NumberedJournal.{Standing}
use Rattle.nr_reduce.specs.NumberedJournal.Standing.{Old, Kept, New}

-- ===== what writing leaves

-- the ends of both sides, the client's calls and output due, what each side received, what the server reads and has ready, and whether the
-- link was dropped
pub record Leaves (o : LinkParameters) (link : ℕ) (old new : List Mark) : Type 0 where
  pub client_end : (client o link new).ended ≡ (client o link old).ended
  pub server_end : (server o link new).ended ≡ (server o link old).ended
  pub reads : (server o link new).state.reads ≡ (server o link old).state.reads
  pub ready : (server o link new).state.ready ≡ (server o link old).state.ready
  pub got : bytes_received link Responder new ≡ bytes_received link Responder old
  pub heard : bytes_received link Initiator new ≡ bytes_received link Initiator old
  pub due : output_due o link Initiator new ≡ output_due o link Initiator old
  pub due_down : output_due o link Responder new ≡ output_due o link Responder old
  pub accepted : (client o link new).state.sends ≡ (client o link old).state.sends
  pub waits : (client o link new).state.waiting ≡ (client o link old).state.waiting
  pub sends : (server o link new).state.received.sends ≡ (server o link old).state.received.sends
  pub dropped : is_dropped link new ≡ is_dropped link old

pub leaves_all : (o : LinkParameters) (link : ℕ) (run : List Mark) → Leaves o link run run
leaves_all o link run = record { client_end = refl; server_end = refl; reads = refl; ready = refl; got = refl; heard = refl; due = refl; due_down = refl; accepted = refl; waits = refl; sends = refl; dropped = refl }

pub leaves_through : (o : LinkParameters) (link : ℕ) (a b c : List Mark) → Leaves o link a b → Leaves o link b c → Leaves o link a c
leaves_through o link a b c x y = record {
  client_end = y.client_end ∙ x.client_end;
  server_end = y.server_end ∙ x.server_end;
  reads = y.reads ∙ x.reads;
  ready = y.ready ∙ x.ready;
  got = y.got ∙ x.got;
  heard = y.heard ∙ x.heard;
  due = y.due ∙ x.due;
  due_down = y.due_down ∙ x.due_down;
  accepted = y.accepted ∙ x.accepted;
  waits = y.waits ∙ x.waits;
  sends = y.sends ∙ x.sends;
  dropped = y.dropped ∙ x.dropped;
}

record SameWork (o : LinkParameters) (a b : EndState ServerState) (taken : ℕ) : Type 0 where
  ended : b.ended ≡ a.ended
  reads : b.state.reads ≡ a.state.reads
  ready : b.state.ready ≡ a.state.ready
  sends : b.state.received.sends ≡ a.state.received.sends
  quiet : output_for_all (server_rules o) a (QueueWritten taken ∷ []) ≡ []

record SameCalls (o : LinkParameters) (a : EndState ClientState) (event : RunEvent) : Type 0 where
  ended : (end_state_after (client_rules o) a (event ∷ [])).ended ≡ a.ended
  accepted : (end_state_after (client_rules o) a (event ∷ [])).state.sends ≡ a.state.sends
  waits : (end_state_after (client_rules o) a (event ∷ [])).state.waiting ≡ a.state.waiting
  quiet : output_for_all (client_rules o) a (event ∷ []) ≡ []

written_calls : (o : LinkParameters) (k : ClientState) (ended : Option End) (taken : ℕ) → SameCalls o (record { state = k; ended = ended }) (QueueWritten taken)
unfolding client_end client_output client_state_after
written_calls o k None taken = record { ended = refl; accepted = refl; waits = refl; quiet = refl }
written_calls o k (Some end) taken = record { ended = refl; accepted = refl; waits = refl; quiet = refl }

written_work : (o : LinkParameters) (k : ServerState) (ended : Option End) (taken : ℕ) →
    SameWork o (record { state = k; ended = ended }) (end_state_after (server_rules o) (record { state = k; ended = ended }) (QueueWritten taken ∷ [])) taken
unfolding server_end server_output server_state_after
written_work o k None taken = record { ended = refl; reads = refl; ready = refl; sends = refl; quiet = refl }
written_work o k (Some end) taken = record { ended = refl; reads = refl; ready = refl; sends = refl; quiet = refl }

-- an end without an event is as it was
pub same_client : (o : LinkParameters) (link : ℕ) (run : List Mark) (mark : Mark) (es : List RunEvent) → events_at link Initiator run mark ≡ es →
    client o link (run ++ mark ∷ []) ≡ end_state_after (client_rules o) (client o link run) es
same_client o link run mark es is = client_one o link run mark ∙ ap (λ (xs : List RunEvent). end_state_after (client_rules o) (client o link run) xs) is

pub same_server : (o : LinkParameters) (link : ℕ) (run : List Mark) (mark : Mark) (es : List RunEvent) → events_at link Responder run mark ≡ es →
    server o link (run ++ mark ∷ []) ≡ end_state_after (server_rules o) (server o link run) es
same_server o link run mark es is = server_one o link run mark ∙ ap (λ (xs : List RunEvent). end_state_after (server_rules o) (server o link run) xs) is

pub own : (link : ℕ) (es : List RunEvent) → if_own (eqb link link && true) es ≡ es
own link es = ap (λ (b : Bool). if_own (b && true) es) (itself link)

pub not_own : (link : ℕ) (es : List RunEvent) → if_own (eqb link link && false) es ≡ []
not_own link es = ap (λ (b : Bool). if_own (b && false) es) (itself link)

pub not_fed_lem : (link : ℕ) (run : List Mark) (mark : Mark) → fed_at link Responder mark ≡ [] → bytes_received link Responder (run ++ mark ∷ []) ≡ bytes_received link Responder run
not_fed_lem link run mark none = received_one link Responder run mark ∙ ap (λ (xs : List ℕ). bytes_received link Responder run ++ xs) none ∙ append-nil (bytes_received link Responder run)

or_false : (b : Bool) → (b || false) ≡ b
or_false true = refl
or_false false = refl

pub no_drop : (link : ℕ) (run : List Mark) (mark : Mark) → is_drop_of link mark ≡ false → is_dropped link (run ++ mark ∷ []) ≡ is_dropped link run
no_drop link run mark none =
    any_append (is_drop_of link) run (mark ∷ []) ∙ ap (λ (b : Bool). is_dropped link run || (b || false)) none ∙ or_false (is_dropped link run)

pub not_heard : (link : ℕ) (run : List Mark) (mark : Mark) → fed_at link Initiator mark ≡ [] → bytes_received link Initiator (run ++ mark ∷ []) ≡ bytes_received link Initiator run
not_heard link run mark none = received_one link Initiator run mark ∙ ap (λ (xs : List ℕ). bytes_received link Initiator run ++ xs) none ∙ append-nil (bytes_received link Initiator run)

-- what is due to the client after a mark
pub due_more_up : (o : LinkParameters) (link : ℕ) (run : List Mark) (mark : Mark) (es : List RunEvent) (out : List ℕ) → events_at link Initiator run mark ≡ es → output_for_all (client_rules o) (client o link run) es ≡ out →
    output_due o link Initiator (run ++ mark ∷ []) ≡ output_due o link Initiator run ++ out
due_more_up o link run mark es out is told =
    output_due_up_one o link run mark ∙ ap (λ (xs : List ℕ). output_due o link Initiator run ++ xs) (ap (λ (xs : List RunEvent). output_for_all (client_rules o) (client o link run) xs) is ∙ told)

pub same_due : (o : LinkParameters) (link : ℕ) (run : List Mark) (mark : Mark) (es : List RunEvent) → events_at link Initiator run mark ≡ es → output_for_all (client_rules o) (client o link run) es ≡ [] →
    output_due o link Initiator (run ++ mark ∷ []) ≡ output_due o link Initiator run
same_due o link run mark es is told = due_more_up o link run mark es [] is told ∙ append-nil (output_due o link Initiator run)

-- and to the server
pub same_due_down : (o : LinkParameters) (link : ℕ) (run : List Mark) (mark : Mark) (es : List RunEvent) → events_at link Responder run mark ≡ es → output_for_all (server_rules o) (server o link run) es ≡ [] →
    output_due o link Responder (run ++ mark ∷ []) ≡ output_due o link Responder run
same_due_down o link run mark es is told =
    output_due_down_one o link run mark ∙ ap (λ (xs : List ℕ). output_due o link Responder run ++ xs) (ap (λ (xs : List RunEvent). output_for_all (server_rules o) (server o link run) xs) is ∙ told)
    ∙ append-nil (output_due o link Responder run)

wrote_leaves : (o : LinkParameters) (link : ℕ) (writer : Side) (run : List Mark) (bytes : List ℕ) → Leaves o link run (run ++ marks.Wrote link writer bytes ∷ [])
wrote_leaves o link Initiator run bytes =
    let mark = marks.Wrote link Initiator bytes in
    let c = client o link run in
    let s = same_server o link run mark [] (not_own link (QueueWritten (length bytes) ∷ [])) in
    let k = same_client o link run mark (QueueWritten (length bytes) ∷ []) (own link (QueueWritten (length bytes) ∷ [])) in
    let w = written_calls o c.state c.ended (length bytes) in
    record {
      client_end = ap (λ (r : EndState ClientState). r.ended) k ∙ w.ended;
      server_end = ap (λ (r : EndState ServerState). r.ended) s;
      reads = ap (λ (r : EndState ServerState). r.state.reads) s;
      ready = ap (λ (r : EndState ServerState). r.state.ready) s;
      got = not_fed_lem link run mark refl;
      heard = not_heard link run mark refl;
      due = same_due o link run mark (QueueWritten (length bytes) ∷ []) (own link (QueueWritten (length bytes) ∷ [])) w.quiet;
      due_down = same_due_down o link run mark [] (not_own link (QueueWritten (length bytes) ∷ [])) refl;
      accepted = ap (λ (r : EndState ClientState). r.state.sends) k ∙ w.accepted;
      waits = ap (λ (r : EndState ClientState). r.state.waiting) k ∙ w.waits;
      sends = ap (λ (r : EndState ServerState). r.state.received.sends) s;
      dropped = no_drop link run mark refl;
    }
wrote_leaves o link Responder run bytes =
    let mark = marks.Wrote link Responder bytes in
    let s = same_server o link run mark (QueueWritten (length bytes) ∷ []) (own link (QueueWritten (length bytes) ∷ [])) in
    let k = same_client o link run mark [] (not_own link (QueueWritten (length bytes) ∷ [])) in
    let w = written_work o (server o link run).state (server o link run).ended (length bytes) in
    record {
      client_end = ap (λ (r : EndState ClientState). r.ended) k;
      server_end = ap (λ (r : EndState ServerState). r.ended) s ∙ w.ended;
      reads = ap (λ (r : EndState ServerState). r.state.reads) s ∙ w.reads;
      ready = ap (λ (r : EndState ServerState). r.state.ready) s ∙ w.ready;
      got = not_fed_lem link run mark refl;
      heard = not_heard link run mark refl;
      due = same_due o link run mark [] (not_own link (QueueWritten (length bytes) ∷ [])) refl;
      due_down = same_due_down o link run mark (QueueWritten (length bytes) ∷ []) (own link (QueueWritten (length bytes) ∷ [])) w.quiet;
      accepted = ap (λ (r : EndState ClientState). r.state.sends) k;
      waits = ap (λ (r : EndState ClientState). r.state.waiting) k;
      sends = ap (λ (r : EndState ServerState). r.state.received.sends) s ∙ w.sends;
      dropped = no_drop link run mark refl;
    }

-- an outcome that is handed over
pub done_leaves : (o : LinkParameters) (link xid : ℕ) (outcome : Outcome) (run : List Mark) → Leaves o link run (run ++ marks.Done link xid outcome ∷ [])
done_leaves o link xid outcome run =
    let mark = marks.Done link xid outcome in
    let s = same_server o link run mark [] refl in
    let k = same_client o link run mark [] refl in
    record {
      client_end = ap (λ (r : EndState ClientState). r.ended) k;
      server_end = ap (λ (r : EndState ServerState). r.ended) s;
      reads = ap (λ (r : EndState ServerState). r.state.reads) s;
      ready = ap (λ (r : EndState ServerState). r.state.ready) s;
      got = not_fed_lem link run mark refl;
      heard = not_heard link run mark refl;
      due = same_due o link run mark [] refl refl;
      due_down = same_due_down o link run mark [] refl refl;
      accepted = ap (λ (r : EndState ClientState). r.state.sends) k;
      waits = ap (λ (r : EndState ClientState). r.state.waiting) k;
      sends = ap (λ (r : EndState ServerState). r.state.received.sends) s;
      dropped = no_drop link run mark refl;
    }

pub output_leaves : (o : LinkParameters) (link : ℕ) (side : Side) (bytes : List ℕ) (d : Drill) → Leaves o link d.marks (after_output link side bytes d).marks
output_leaves o link side [] d = leaves_all o link d.marks
output_leaves o link side (b ∷ bytes) d = wrote_leaves o link side d.marks (b ∷ bytes)

pub settled_leaves : (s : Setting) (o : LinkParameters) (link : ℕ) (d : Drill) → Leaves o link d.marks (settled s link d).marks
unfolding settled
settled_leaves s o link d =
    let mid = after_all_output s link Initiator d in
    leaves_through o link d.marks mid.marks (settled s link d).marks
    (output_leaves o link Initiator (unwritten (s.opened link) link Initiator d.marks) d)
    (output_leaves o link Responder (unwritten (s.opened link) link Responder mid.marks) mid)

-- ===== what is left to write after a mark that writes nothing

pub more_left : (o : LinkParameters) (link : ℕ) (side : Side) (run : List Mark) (mark : Mark) → written_at link side mark ≡ [] → IsDueOf o link side run →
    unwritten o link side (run ++ mark ∷ []) ≡ unwritten o link side run ++ more_due o link side run mark
more_left o link side run mark none is =
    left_is o link side (run ++ mark ∷ []) (unwritten o link side run ++ more_due o link side run mark) (due_more o link side run mark none is)

-- if the client has nothing to write, the server alone writes
pub settled_down : (s : Setting) (link : ℕ) (d : Drill) → unwritten (s.opened link) link Initiator d.marks ≡ [] →
    settled s link d ≡ after_output link Responder (unwritten (s.opened link) link Responder d.marks) d
unfolding settled
settled_down s link d none =
    ap (λ (m : Drill). after_output link Responder (unwritten (s.opened link) link Responder m.marks) m) (ap (λ (xs : List ℕ). after_output link Initiator xs d) none)

-- ===== pipes

pub set_pipes : (link : ℕ) (pipes : Pipes) (d : Drill) → link - 1 < length d.pipes → pipes_of link (with_pipes link pipes d) ≡ pipes
set_pipes link pipes d room = get_or-set_same d.pipes (link - 1) pipes empty_pipes room

pub set_room : (link : ℕ) (pipes : Pipes) (d : Drill) → link - 1 < length d.pipes → link - 1 < length (with_pipes link pipes d).pipes
set_room link pipes d room = subst (λ (n : ℕ). link - 1 < n) (sym (length-set d.pipes (link - 1) pipes)) room

pub down_leaves_up : (link : ℕ) (bytes : List ℕ) (d : Drill) → link - 1 < length d.pipes → (pipes_of link (after_output link Responder bytes d)).up ≡ (pipes_of link d).up
down_leaves_up link [] d room = refl
down_leaves_up link (b ∷ bytes) d room =
    ap (λ (p : Pipes). p.up) (set_pipes link (appended Responder (b ∷ bytes) (pipes_of link d)) (with_mark (marks.Wrote link Responder (b ∷ bytes)) d) room)

pub up_leaves_down : (link : ℕ) (bytes : List ℕ) (d : Drill) → link - 1 < length d.pipes → (pipes_of link (after_output link Initiator bytes d)).down ≡ (pipes_of link d).down
up_leaves_down link [] d room = refl
up_leaves_down link (b ∷ bytes) d room =
    ap (λ (p : Pipes). p.down) (set_pipes link (appended Initiator (b ∷ bytes) (pipes_of link d)) (with_mark (marks.Wrote link Initiator (b ∷ bytes)) d) room)

-- ===== a call is executed

executed_end : (o : LinkParameters) (k : ServerState) (call : ExecutedCall) →
    ((end_state_after (server_rules o) (record { state = k; ended = None }) (CallExecuted call ∷ [])).ended ≡ None)
    × ((end_state_after (server_rules o) (record { state = k; ended = None }) (CallExecuted call ∷ [])).state.reads ≡ k.reads)
    × ((end_state_after (server_rules o) (record { state = k; ended = None }) (CallExecuted call ∷ [])).state.ready ≡ drop 1 k.ready)
unfolding server_end server_state_after
executed_end o k call = (refl, refl, refl)

fewer : (ready : List ReadyCall) (call : ReadyCall) → slice_get ready 0 ≡ Some call → length (drop 1 ready) < length ready
fewer [] call e = absurd cc
fewer (r ∷ ready) call e = omega arith

-- whose next call there is hasn't ended
pub is_next_lem : (ready : List ReadyCall) (ended : Option End) (call : ReadyCall) → first_ready ready ended ≡ Some call → (ended ≡ None) × (slice_get ready 0 ≡ Some call)
is_next_lem ready (Some end) call e = absurd cc
is_next_lem ready None call e = (refl, e)

-- a call that waits is the next one of a server
waits_next : (dropped : Bool) (call : ReadyCall) (next : Option ReadyCall) → if_standing dropped next ≡ Some call → next ≡ Some call
waits_next true call next e = absurd cc
waits_next false call next e = e

pub executed_less : (s : Setting) (link : ℕ) (call : ReadyCall) (g : GivenReply) (d : Drill) → Keeps s link d → link - 1 < length d.pipes → next_call (s.opened link) link d.marks ≡ Some call →
    IsLess (work_left s (after_answer s link call (Some g) d) link) (work_left s d link)
unfolding work_left send_bytes_left end_of_side next_call
executed_less s link call g d h room next =
    let o = s.opened link in
    let run = d.marks in
    let mark = marks.Execute link call.xid g.moment call.payload g.place g.reply in
    let executed : ExecutedCall = record { xid = call.xid; moment = g.moment; payload = call.payload; place = g.place; reply = g.reply } in
    let event = CallExecuted executed in
    let mid = with_mark mark d in
    let new = settled s link mid in
    let server_before = server o link run in
    let first = is_next_lem server_before.state.ready server_before.ended call next in
    let done = executed_end o server_before.state executed in
    let client_is = same_client o link run mark [] (not_own link (event ∷ [])) in
    let server_is : server o link mid.marks ≡ end_state_after (server_rules o) (record { state = server_before.state; ended = None }) (event ∷ []) =
    same_server o link run mark (event ∷ []) (own link (event ∷ []))
    ∙ (λ i. end_state_after (server_rules o) (record { state = server_before.state; ended = first.0 i }) (event ∷ [])) in
    let leaves = settled_leaves s o link mid in
    let kept = lawful_settled s link mid (again_mark o link run mark (other_side_lem (eqb link link) _) h.2) (lawful_mark o link run mark h.0 refl refl tt (λ same. record { call = call; is_next = next; own = refl; conveyed = refl }) tt tt) in
    let none : unwritten o link Initiator mid.marks ≡ [] =
    more_left o link Initiator run mark refl h.0.client
    ∙ (λ i. h.1.client i ++ output_for_all (client_rules o) (client o link run) (not_own link (event ∷ []) i)) in
    let up : (pipes_of link new).up ≡ (pipes_of link d).up =
    ap (λ (x : Drill). (pipes_of link x).up) (settled_down s link mid none) ∙ down_leaves_up link (unwritten o link Responder mid.marks) mid room in
    let client_end : (client o link new.marks).ended ≡ (client o link run).ended = leaves.client_end ∙ ap (λ (r : EndState ClientState). r.ended) client_is in
    let server_end : (server o link new.marks).ended ≡ server_before.ended = leaves.server_end ∙ ap (λ (r : EndState ServerState). r.ended) server_is ∙ done.0 ∙ sym first.0 in
    let got : bytes_received link Responder new.marks ≡ bytes_received link Responder run = leaves.got ∙ not_fed_lem link run mark refl in
    let reads : (server o link new.marks).state.reads ≡ server_before.state.reads = leaves.reads ∙ ap (λ (r : EndState ServerState). r.state.reads) server_is ∙ done.1 in
    let ready : (server o link new.marks).state.ready ≡ drop 1 server_before.state.ready = leaves.ready ∙ ap (λ (r : EndState ServerState). r.state.ready) server_is ∙ done.2 in
    inr (
      (λ i. stays (client_end i) + stays (server_end i)),
      inr (
        ap (λ (ws : List WaitingCall). length ws) (leaves.waits ∙ ap (λ (r : EndState ClientState). r.state.waiting) client_is),
        inr (
          (λ i. sum_by frame_len (filter is_send (frames_completed Initiator (got i) (up i ++ (kept.1.client ∙ sym h.1.client) i)))),
          inr (
            ap (λ (rs : List PendingRead). length rs) reads,
            inl (subst (λ (rs : List ReadyCall). length rs < length server_before.state.ready) (sym ready) (fewer server_before.state.ready call first.1)),
          ),
        ),
      ),
    )

answered_less : (s : Setting) (link : ℕ) (call : ReadyCall) (answer : Option GivenReply) (d : Drill) → Keeps s link d → link - 1 < length d.pipes → next_call (s.opened link) link d.marks ≡ Some call →
    (after_answer s link call answer d).marks ≢ d.marks → IsLess (work_left s (after_answer s link call answer d) link) (work_left s d link)
answered_less s link call None d h room next moved = absurd (moved refl)
answered_less s link call (Some g) d h room next moved = executed_less s link call g d h room next

-- ===== an old call ends its server

told_end_lem : (o : LinkParameters) (k : ServerState) (ready : List ReadyCall) (call : ReadyCall) (xid at : ℕ) → k.ready ≡ ready → slice_get ready 0 ≡ Some call →
    stays (end_state_after (server_rules o) (record { state = k; ended = None }) (ServerTold (told.Old xid at) ∷ [])).ended ≡ 0
unfolding server_end
told_end_lem o k [] call xid at is e = absurd cc
told_end_lem o k (r ∷ ready) call xid at is e = ap (λ (rs : List ReadyCall). stays (next_end_state_by (server_rules o) k (ServerTold (told.Old xid at)) (old_end at rs)).ended) is

told_less : (s : Setting) (link : ℕ) (call : ReadyCall) (d : Drill) → next_call (s.opened link) link d.marks ≡ Some call →
    IsLess (work_left s (settled s link (with_mark (marks.Told link (told.Old call.xid (last_frame_at link d.marks))) d)) link) (work_left s d link)
unfolding work_left end_of_side next_call
told_less s link call d next =
    let o = s.opened link in
    let run = d.marks in
    let at = last_frame_at link run in
    let mark = marks.Told link (told.Old call.xid at) in
    let event = ServerTold (told.Old call.xid at) in
    let mid = with_mark mark d in
    let new = settled s link mid in
    let before = server o link run in
    let first = is_next_lem before.state.ready before.ended call next in
    let leaves = settled_leaves s o link mid in
    let client_is = same_client o link run mark [] (not_own link (event ∷ [])) in
    let server_is : server o link mid.marks ≡ end_state_after (server_rules o) (record { state = before.state; ended = None }) (event ∷ []) =
    same_server o link run mark (event ∷ []) (own link (event ∷ []))
    ∙ (λ i. end_state_after (server_rules o) (record { state = before.state; ended = first.0 i }) (event ∷ [])) in
    let same : stays (client o link new.marks).ended ≡ stays (client o link run).ended = ap (λ (e : Option End). stays e) (leaves.client_end ∙ ap (λ (r : EndState ClientState). r.ended) client_is) in
    let gone : stays (server o link new.marks).ended ≡ 0 =
    ap (λ (e : Option End). stays e) (leaves.server_end ∙ ap (λ (r : EndState ServerState). r.ended) server_is) ∙ told_end_lem o before.state before.state.ready call call.xid at refl first.1 in
    let was : stays before.ended ≡ 1 = ap (λ (e : Option End). stays e) first.0 in
    inl (omega (arith, same, gone, was))

call_less : (s : Setting) (link : ℕ) (call : ReadyCall) (is : Standing) (answer : Option GivenReply) (d : Drill) → Keeps s link d → link - 1 < length d.pipes →
    next_call (s.opened link) link d.marks ≡ Some call → (after_call s link call is answer d).marks ≢ d.marks → IsLess (work_left s (after_call s link call is answer d) link) (work_left s d link)
call_less s link call (Old top) answer d h room next moved = told_less s link call d next
call_less s link call (Kept place) answer d h room next moved = answered_less s link call answer d h room next moved
call_less s link call New answer d h room next moved = answered_less s link call answer d h room next moved

waiting_less : (s : Setting) (link : ℕ) (call : Option ReadyCall) (d : Drill) → Keeps s link d → link - 1 < length d.pipes →
    if_standing (is_dropped link d.marks) (next_call (s.opened link) link d.marks) ≡ call →
    (after_execution s link call d).marks ≢ d.marks → IsLess (work_left s (after_execution s link call d) link) (work_left s d link)
waiting_less s link None d h room next moved = absurd (moved refl)
waiting_less s link (Some call) d h room next moved =
    call_less s link call (standing_of s link d call) (reply_given s link d call) d h room
    (waits_next (is_dropped link d.marks) call (next_call (s.opened link) link d.marks) next) moved

-- a call that is executed leaves less work, on any link
pub work_less : (s : Setting) (link : ℕ) (d : Drill) → Keeps s link d → link - 1 < length d.pipes → (after_work s link d).marks ≢ d.marks →
    IsLess (work_left s (after_work s link d) link) (work_left s d link)
unfolding after_work waiting_call
work_less s link d h room moved = waiting_less s link (waiting_call s link d.marks) d h room refl moved
