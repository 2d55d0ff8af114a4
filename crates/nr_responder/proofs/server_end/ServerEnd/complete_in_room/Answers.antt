use Rattle.std.proofs.Common.{◌≡◌, List, arith, map, get_or, ap, sym, subst, ◌∙◌, refl}
use Rattle.nr_reduce.specs.ServerMessages.{by_payload}
use Rattle.nr_reduce.specs.ServerState.{PendingCall}
use Rattle.nr_responder.specs.declared.call.Pending.{Pending}
use Rattle.nr_responder.specs.ResponderState.{ResponderSide}
use Rattle.nr_responder.specs.private.CallsRead.{verdict_of}
use Rattle.nr_responder.specs.private.ReadsDone.{has_bad_chunk, read_payload}
use Rattle.nr_responder.specs.HeldBytes.{sinks_share}
use Rattle.nr_responder.specs.Sound.{room_for, state_of}
use Rattle.nr_responder.specs.Views.{call_view, read_view, sink_view}
use Rattle.nr_responder.specs.private.DoneReads.{IsOfCall}
use Rattle.nr_responder.specs.declared.call.OpenSink.{OpenSink}
use Rattle.nr_reduce.specs.Chunks.{call_conveyed}
use Rattle.nr_responder.specs.private.Reading.{sink_bytes}
use Rattle.nr_reduce.specs.ServerReads.{is_read}
use Rattle.std.proofs.Common.{false, true}
use Rattle.nr_responder.proofs.DoneReads.{ends_for, readies, no_call}
use Rattle.nr_responder.proofs.ReadWindows.{done_none}
use Rattle.nr_responder.proofs.server_end.ServerEnd.complete_in_room.Goals as goal

pub returns-in-Ok-clause-handled : goal.returns-in-Ok-clause-handled
returns-in-Ok-clause-handled c =
    let d : Pending = c.index-call.result.now in
    let p : PendingCall = call_view d in
    let v : ResponderSide = state_of c.args.self.now in
    let w : ResponderSide = state_of c.take_room_at-room.new.self in
    let same : call_view (get_or c.args.self.now.calls.items c.args.at d) ≡ p = sym (c.take_room_at-room.ensures.call d) ∙ ap (λ (x : Pending). call_view x) (sym c.index-call.ensures) in
    let judged = ap (λ (u : ResponderSide). by_payload p (read_payload u p)) (sym c.take_room_at-room.ensures.same) ∙ ap (by_payload p) (sym (c.payload_read-payload.ensures ∙ ap (λ (ss : List OpenSink). call_conveyed p.inline p.lists.read (sink_bytes c.take_room_at-room.new.self.endpoint.link.state.memory (map sink_view ss) p.number)) c.as_slice.ensures.value)) ∙ c.judge_payload.ensures.verdict p refl ∙ ap (verdict_of p) c.in-Ok.is in
    readies v w (state_of c.make_ready.new.self) (read_view c.args.done) c.args.kept c.args.at p c.in-Ok.payload (subst (λ (x : PendingCall). IsOfCall v (read_view c.args.done) c.args.kept c.args.at x) same (c.requires.call d))
    (subst (λ (x : PendingCall). has_bad_chunk v x (read_view c.args.done) (map read_view c.args.self.now.reads.items) ≡ false) same (c.requires.fine d))
    (subst (λ (x : PendingCall). is_read (map read_view c.args.self.now.reads.items) x.number ≡ true) same (c.requires.read d)) judged c.take_room_at-room.ensures.same c.make_ready.ensures.made

pub returns-in-Err-clause-handled : goal.returns-in-Err-clause-handled
returns-in-Err-clause-handled c =
    let d : Pending = c.index-call.result.now in
    let p : PendingCall = call_view d in
    let v : ResponderSide = state_of c.args.self.now in
    let w : ResponderSide = state_of c.take_room_at-room.new.self in
    let same : call_view (get_or c.args.self.now.calls.items c.args.at d) ≡ p = sym (c.take_room_at-room.ensures.call d) ∙ ap (λ (x : Pending). call_view x) (sym c.index-call.ensures) in
    let judged = ap (λ (u : ResponderSide). by_payload p (read_payload u p)) (sym c.take_room_at-room.ensures.same) ∙ ap (by_payload p) (sym (c.payload_read-payload.ensures ∙ ap (λ (ss : List OpenSink). call_conveyed p.inline p.lists.read (sink_bytes c.take_room_at-room.new.self.endpoint.link.state.memory (map sink_view ss) p.number)) c.as_slice.ensures.value)) ∙ c.judge_payload.ensures.verdict p refl ∙ ap (verdict_of p) c.in-Err.is in
    ends_for v w (state_of c.end_for.new.self) (read_view c.args.done) c.args.kept c.args.at p c.in-Err.reason (subst (λ (x : PendingCall). IsOfCall v (read_view c.args.done) c.args.kept c.args.at x) same (c.requires.call d))
    (subst (λ (x : PendingCall). has_bad_chunk v x (read_view c.args.done) (map read_view c.args.self.now.reads.items) ≡ false) same (c.requires.fine d))
    (subst (λ (x : PendingCall). is_read (map read_view c.args.self.now.reads.items) x.number ≡ true) same (c.requires.read d)) c.in-Err.ensures.reason.1 judged c.take_room_at-room.ensures.same c.end_for.ensures.ended

pub take_room_at-room-requires-clause-windows : goal.take_room_at-room-requires-clause-windows
take_room_at-room-requires-clause-windows c = done_none c.args.done.number c.args.self.now.calls.items c.args.at no_call c.args.self.now.reads.items c.requires.at (c.requires.call no_call).own (c.requires.empty no_call) c.requires.windows

pub payload_read-payload-requires-clause-room : goal.payload_read-payload-requires-clause-room
payload_read-payload-requires-clause-room c =
    let d : Pending = c.index-call.result.now in
    let old : PendingCall = call_view (get_or c.args.self.now.calls.items c.args.at d) in
    let same : old ≡ call_view d = sym (c.take_room_at-room.ensures.call d) ∙ ap (λ (x : Pending). call_view x) (sym c.index-call.ensures) in
    let sinks : map sink_view c.args.self.now.sinks.items ≡ map sink_view c.as_slice.result.now = ap (λ (v : ResponderSide). v.fetching.sinks) (sym c.take_room_at-room.ensures.same) ∙ ap (λ (ss : List OpenSink). map sink_view ss) (sym c.as_slice.ensures.value) in
    let is : room_for old (sinks_share old.number (map sink_view c.args.self.now.sinks.items)) ≡ room_for (call_view d) (sinks_share d.number (map sink_view c.as_slice.result.now)) = λ i. room_for (same i) (sinks_share ((same i).number) (sinks i)) in
    let room = c.take_room_at-room.ensures.room d in
    omega (arith, is, room)
