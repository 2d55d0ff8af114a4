use Rattle.std.proofs.Common.{◌≡◌, ap, sym, subst, refl, ◌∙◌, set, get_or, List, map, arith}
use Rattle.std.proofs.Math.Seq.{map-set_same}
use Rattle.nr_reduce.specs.ServerReads.{is_read}
use Rattle.nr_reduce.specs.ServerState.{PendingCall}
use Rattle.nr_responder.specs.declared.call.Pending.{Pending}
use Rattle.nr_responder.specs.Sound.{InBuffer, InReceive, fetching_of, room_len, xids_of}
use Rattle.nr_responder.specs.Views.{call_view, read_view, sink_view}
use Rattle.nr_responder.proofs.Answered.{same_item}
use Rattle.nr_responder.proofs.DoneReads.{emptied_sound}
use Rattle.nr_responder.proofs.HeldSinks.{read_has_room}
use Rattle.nr_responder.proofs.PayloadRooms.{no_room, room_taken}
use Rattle.nr_responder.proofs.ReadWindows.{set_windows}
use Rattle.nr_responder.proofs.server_end.ServerEnd.take_room_at.Goals as goal
use Rattle.nr_responder.proofs.Sounds.{kept_receive}

pub returns-clause-same : goal.returns-clause-same
returns-clause-same c =
    let one : call_view c.take_out_room.new.call ≡ call_view (get_or c.args.self.now.calls.items c.args.at c.index_mut.result.now) = ap (λ (x : Pending). call_view x) c.take_out_room.ensures.call ∙ ap (λ (x : Pending). call_view x) c.index_mut.ensures.value in
    ap (λ (cs : List PendingCall). record { link = c.args.self.now.endpoint.link; calls = cs; ready = xids_of c.args.self.now.ready.items; credits = c.args.self.now.credits; fetching = fetching_of c.args.self.now.reads.items c.args.self.now.sinks.items c.args.self.now.ready.items })
    (map-set_same call_view c.args.self.now.calls.items c.args.at c.take_out_room.new.call c.index_mut.result.now one)

pub returns-clause-sound : goal.returns-clause-sound
returns-clause-sound c =
    let d : Pending = c.index_mut.result.now in
    let around : c.take_out_room.new.call.around ≡ (get_or c.args.self.now.calls.items c.args.at d).around = ap (λ (x : Pending). x.around) c.take_out_room.ensures.call ∙ ap (λ (x : Pending). x.around) c.index_mut.ensures.value in
    let kept = kept_receive 0 c.args.self.now.endpoint.link.state c.args.self.now.calls.items c.args.self.now.ready.items c.args.self.now.used.items _ _ _ c.args.at d c.requires.at c.index_mut.ensures.value c.requires.sound.0 in
    let whole : InBuffer d = kept.1 in
    emptied_sound c.args.self.now c.args.at c.take_out_room.new.call (set c.args.self.now.calls.items c.args.at c.take_out_room.new.call) refl
    (subst (InReceive c.args.self.now.endpoint.link.state.receive_queue.receive_length) (sym c.take_out_room.ensures.call) (kept.0, record { buf = whole.buf; len = whole.len; at = whole.at; lists = whole.lists; target = whole.target; item = whole.item }))
    (read_has_room c.args.self.now.endpoint.outside c.args.self.now.sinks.items c.args.self.now.reads.items c.take_out_room.new.call
    (ap (λ (x : Pending). is_read (map read_view c.args.self.now.reads.items) x.number) c.take_out_room.ensures.call ∙ ap (λ (x : Pending). is_read (map read_view c.args.self.now.reads.items) x.number) c.index_mut.ensures.value ∙ c.requires.read d)
    (around ∙ c.requires.empty d) (let none = ap (λ (x : Pending). room_len x.room) c.take_out_room.ensures.call in omega (arith, none)))
    c.requires.at (around ∙ ap (λ (x : Pending). x.around) (same_item c.args.self.now.calls.items c.args.at c.take_out_room.new.call d c.requires.at)) c.requires.sound

pub returns-clause-windows : goal.returns-clause-windows
returns-clause-windows c =
    let d : Pending = c.index_mut.result.now in
    let number : c.take_out_room.new.call.number ≡ (get_or c.args.self.now.calls.items c.args.at d).number = ap (λ (x : Pending). x.number) c.take_out_room.ensures.call ∙ ap (λ (x : Pending). x.number) c.index_mut.ensures.value in
    let around : c.take_out_room.new.call.around ≡ (get_or c.args.self.now.calls.items c.args.at d).around = ap (λ (x : Pending). x.around) c.take_out_room.ensures.call ∙ ap (λ (x : Pending). x.around) c.index_mut.ensures.value in
    set_windows c.args.self.now.calls.items (set c.args.self.now.calls.items c.args.at c.take_out_room.new.call) c.args.at c.take_out_room.new.call d c.args.self.now.reads.items refl c.requires.at number (omega (arith, around)) c.requires.windows

pub returns-clause-room : goal.returns-clause-room
returns-clause-room c = λ d.
    let e : Pending = c.index_mut.result.now in
    let calls = c.args.self.now.calls.items in
    let own : e ≡ get_or calls c.args.at d = c.index_mut.ensures.value ∙ same_item calls c.args.at d e c.requires.at in
    room_taken (map sink_view c.args.self.now.sinks.items) (call_view (get_or calls c.args.at d)) (get_or calls c.args.at d).room c.in-Some.room (ap (λ (x : Pending). x.room) (sym own) ∙ sym c.take_out_room.ensures.room ∙ c.in-Some.is) (c.requires.room d)

pub unreachable-requires : goal.unreachable-requires
unreachable-requires c =
    let e : Pending = c.index_mut.result.now in
    let calls = c.args.self.now.calls.items in
    no_room (map sink_view c.args.self.now.sinks.items) (call_view (get_or calls c.args.at e)) (get_or calls c.args.at e).room (ap (λ (x : Pending). x.room) (sym c.index_mut.ensures.value) ∙ sym c.take_out_room.ensures.room ∙ c.in-None.is) (c.requires.room e)
