use Rattle.std.proofs.Common.{◌∙◌, ℕ, ◌+◌, ◌-◌, length, List, refl, ap, subst, arith, inl, inr, [], sym}
use Rattle.nr_header.specs.declared.header.ReadSegment.{ReadSegment}
use Rattle.nr_endpoint.specs.LinkState.{LinkSide}
use Rattle.nr_responder.specs.declared.server_end.ServerEnd.{ServerEnd}
use Rattle.nr_responder.specs.private.Starting.{BeginsReads, with_around}
use Rattle.nr_responder.specs.Sound.{SameInput, around_of, state_of}
use Rattle.nr_responder.specs.Fetching.{open_sinks}
use Rattle.nr_responder.specs.private.CallsRead.{sinks_from, chunk_positions}
use Rattle.nr_responder.proofs.PayloadRooms.{others_none}
use Rattle.nr_responder.proofs.BegunWindows.{window_room}
use Rattle.nr_responder.proofs.BegunReads.{around_in_buffer, call_fits, kept_fetched, window_apart, started_fetched, started_input, started_is, started_sound, stopped_is}
use Rattle.nr_responder.proofs.Sounds.{sound_as}
use Rattle.nr_responder.proofs.ReadWindows.{begun_windows, begun_unread}
use Rattle.nr_reduce.specs.ServerReads.{reads_from}
use Rattle.nr_responder.proofs.server_end.ServerEnd.start_in_place.Goals as goal

pub begin_in_place-requires-clause-live : goal.begin_in_place-requires-clause-live
begin_in_place-requires-clause-live c = c.requires.call.live

pub begin_in_place-requires-clause-held : goal.begin_in_place-requires-clause-held
begin_in_place-requires-clause-held c = c.requires.call.sound.1.held

pub begin_in_place-requires-clause-short : goal.begin_in_place-requires-clause-short
begin_in_place-requires-clause-short c = c.requires.call.sound.1.short

pub begin_in_place-requires-clause-one : goal.begin_in_place-requires-clause-one
begin_in_place-requires-clause-one c = ap (λ (ps : List ℕ). length ps) c.requires.window.chunks_are

pub begin_in_place-requires-clause-window : goal.begin_in_place-requires-clause-window
begin_in_place-requires-clause-window c =
    let within = c.requires.window.within in
    let len = c.requires.call.buffer.len in
    let most = c.requires.call.buffer.buf in
    (omega (arith, within), omega (arith, len, most))

pub begin_in_place-requires-clause-stags : goal.begin_in_place-requires-clause-stags
begin_in_place-requires-clause-stags c = (let one = ap (λ (ps : List ℕ). length ps) c.requires.window.chunks_are in omega (arith, one, c.requires.stags))

pub begin_in_place-requires-clause-total : goal.begin_in_place-requires-clause-total
begin_in_place-requires-clause-total c = c.requires.reads

pub push_around-requires : goal.push_around-requires
push_around-requires c =
    call_fits c.args.self.now.endpoint.link.state c.args.self.now.calls.items c.args.self.now.ready.items c.args.self.now.used.items _ _ _ (let kept = c.facts.ensures.receives in omega (arith, kept)) c.requires.call.sound.0

pub run_out-requires : goal.run_out-requires
run_out-requires c = record {
  sound = (
    sound_as 1 0 c.args.self.now.endpoint.link.state c.begin_in_place.new.endpoint.link.state c.args.self.now.calls.items c.args.self.now.ready.items c.args.self.now.used.items _ _ _ (omega arith)
        (ap (λ (l : LinkSide). l.state.receive_queue.lent) c.in-Err.ensures.err.0) (ap (λ (l : LinkSide). l.state.receive_queue.receives) c.in-Err.ensures.err.0)
        (ap (λ (l : LinkSide). l.state.receive_queue.receive_length) c.in-Err.ensures.err.0)
        (ap (λ (l : LinkSide). l.state.send_queue.send_ends) c.in-Err.ensures.err.0) c.requires.call.sound.0,
    kept_fetched c.args.self.now.endpoint c.begin_in_place.new.endpoint c.args.self.now.reads.items c.begin_in_place.new.reads.items c.args.self.now.calls.items c.args.self.now.sinks.items c.begin_in_place.new.sinks.items c.in-Err.ensures.err.0 c.in-Err.ensures.outside_err
        c.in-Err.ensures.err.1.0 c.in-Err.ensures.err.1.1 c.requires.call.sound.1,
  );
}

pub returns-in-Ok-clause-started : goal.returns-in-Ok-clause-started
returns-in-Ok-clause-started c =
    let after : ServerEnd = record { endpoint = c.begin_in_place.new.endpoint; calls = c.push_around.new.calls; ready = c.args.self.now.ready; reads = c.begin_in_place.new.reads; sinks = c.begin_in_place.new.sinks; used = c.args.self.now.used; credits = c.args.self.now.credits; alloc = c.args.self.now.alloc } in
    inl (started_is c.args.self.now after c.args.call (with_around c.args.call (c.args.call.len - c.args.call.stream_at + 3)) c.args.chunks.now refl c.requires.chunks
    (subst (λ (read : List ReadSegment). BeginsReads c.args.call.number read c.args.chunks.now c.args.self.now.reads.items c.begin_in_place.new.reads.items c.args.self.now.sinks.items c.begin_in_place.new.sinks.items c.args.self.now.endpoint.link c.begin_in_place.new.endpoint.link) c.requires.call.list c.in-Ok.ensures.ok)
    c.push_around.ensures.items refl refl)

pub returns-in-Ok-clause-sound : goal.returns-in-Ok-clause-sound
returns-in-Ok-clause-sound c = (
  started_sound c.args.call.number c.args.read.now c.args.chunks.now c.args.self.now.reads.items c.begin_in_place.new.reads.items c.args.self.now.sinks.items c.begin_in_place.new.sinks.items c.args.self.now.endpoint.link c.begin_in_place.new.endpoint.link
      c.args.self.now.calls.items c.push_around.new.calls.items (with_around c.args.call (c.args.call.len - c.args.call.stream_at + 3)) c.args.self.now.ready.items c.args.self.now.used.items _ _ _ _ c.in-Ok.ensures.ok (c.requires.call.receive, around_in_buffer c.args.call (c.args.call.len - c.args.call.stream_at + 3) c.requires.call.buffer) c.push_around.ensures.items c.push_around.ensures.capacity c.requires.call.sound.0,
  started_fetched c.args.self.now.endpoint c.begin_in_place.new.endpoint c.args.self.now.reads.items c.begin_in_place.new.reads.items c.args.call.number c.args.self.now.endpoint.link.state.memory.next c.args.read.now c.args.chunks.now c.args.self.now.calls.items c.push_around.new.calls.items
      (with_around c.args.call (c.args.call.len - c.args.call.stream_at + 3)) c.args.self.now.sinks.items c.begin_in_place.new.sinks.items (open_sinks (sinks_from c.args.call.number c.args.self.now.endpoint.link.state.memory.next c.args.read.now c.args.chunks.now)) c.begin_in_place.ensures.held c.begin_in_place.ensures.short
      (c.in-Ok.ensures.outside.more (around_of c.args.self.now.calls.items) c.requires.call.sound.1.outside)
      c.requires.own c.in-Ok.ensures.ok.reads c.in-Ok.ensures.ok.sinks_are (λ n ne. others_none c.args.call.number c.args.self.now.endpoint.link.state.memory.next n c.args.read.now c.args.chunks.now ne) c.in-Ok.ensures.outside.kept
      (window_room c.args.self.now.endpoint c.begin_in_place.new.endpoint c.args.self.now.sinks.items c.begin_in_place.new.sinks.items c.args.self.now.reads.items c.begin_in_place.new.reads.items c.args.self.now.endpoint.link c.begin_in_place.new.endpoint.link c.args.read.now c.args.chunks.now c.args.call c.args.start (c.args.call.len - c.args.call.stream_at + 3)
      c.requires.call.buffer c.requires.call.empty.1 c.requires.window c.in-Ok.ensures.outside c.requires.call.list (let at = c.requires.call.buffer.at in omega (arith, at)) refl c.in-Ok.ensures.ok
      (window_apart c.args.self.now.reads.items c.begin_in_place.new.reads.items c.args.call.number c.args.self.now.endpoint.link.state.memory.next c.args.start c.args.read.now c.args.chunks.now c.in-Ok.ensures.ok.reads c.requires.fresh c.requires.window.some c.requires.window.each)) c.push_around.ensures.items c.requires.call.sound.1,
)

pub returns-in-Ok-clause-input : goal.returns-in-Ok-clause-input
returns-in-Ok-clause-input c =
    started_input c.args.call.number c.args.read.now c.args.chunks.now c.args.self.now.reads.items c.begin_in_place.new.reads.items c.args.self.now.sinks.items c.begin_in_place.new.sinks.items c.args.self.now.endpoint.link c.begin_in_place.new.endpoint.link c.in-Ok.ensures.ok

pub returns-in-Ok-clause-staging : goal.returns-in-Ok-clause-staging
returns-in-Ok-clause-staging c = c.begin_in_place.ensures.staging

pub returns-in-Err-clause-started : goal.returns-in-Err-clause-started
returns-in-Err-clause-started c =
    let mid : ServerEnd = record { endpoint = c.begin_in_place.new.endpoint; calls = c.args.self.now.calls; ready = c.args.self.now.ready; reads = c.begin_in_place.new.reads; sinks = c.begin_in_place.new.sinks; used = c.args.self.now.used; credits = c.args.self.now.credits; alloc = c.args.self.now.alloc } in
    inr (stopped_is c.args.self.now mid (state_of c.run_out.new.self) c.in-Err.ensures.err.0 c.in-Err.ensures.err.1.0 c.in-Err.ensures.err.1.1 refl refl refl c.run_out.ensures.out)

pub returns-in-Err-clause-sound : goal.returns-in-Err-clause-sound
returns-in-Err-clause-sound c = c.run_out.ensures.sound

pub returns-in-Err-clause-input : goal.returns-in-Err-clause-input
returns-in-Err-clause-input c = subst (λ (l : LinkSide). SameInput l c.run_out.new.self.endpoint.link) c.in-Err.ensures.err.0 c.run_out.ensures.input

pub returns-in-Err-clause-staging : goal.returns-in-Err-clause-staging
returns-in-Err-clause-staging c = c.run_out.ensures.staging ∙ c.begin_in_place.ensures.staging

pub returns-in-Ok-clause-windows : goal.returns-in-Ok-clause-windows
returns-in-Ok-clause-windows c = λ live.
    begun_windows c.args.self.now.calls.items c.push_around.new.calls.items (with_around c.args.call (c.args.call.len - c.args.call.stream_at + 3)) c.args.call.number c.args.self.now.reads.items c.begin_in_place.new.reads.items
    (reads_from (sinks_from c.args.call.number c.args.self.now.endpoint.link.state.memory.next c.args.read.now c.args.chunks.now) c.args.call.number [] c.args.read.now)
    c.in-Ok.ensures.ok.reads c.push_around.ensures.items refl c.requires.own
    (λ some. begun_unread c.args.call.number c.args.self.now.endpoint.link.state.memory.next c.args.start c.args.read.now c.args.chunks.now c.args.self.now.reads.items c.begin_in_place.new.reads.items
    (c.requires.chunks ∙ ap (λ (read : List ReadSegment). chunk_positions read) (sym c.requires.call.list)) c.requires.window.chunks_are c.in-Ok.ensures.ok.reads) c.requires.call.windows

pub returns-in-Err-clause-windows : goal.returns-in-Err-clause-windows
returns-in-Err-clause-windows c = c.run_out.ensures.windows
