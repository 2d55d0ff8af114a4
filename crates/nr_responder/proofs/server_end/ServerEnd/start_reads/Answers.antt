use Rattle.std.proofs.Common.{◌∙◌, ℕ, ◌+◌, List, length, refl, ap, subst, arith, inl, inr, []}
use Rattle.nr_header.specs.declared.header.ReadSegment.{ReadSegment}
use Rattle.nr_endpoint.specs.LinkState.{LinkSide}
use Rattle.nr_responder.specs.declared.server_end.ServerEnd.{ServerEnd}
use Rattle.nr_responder.specs.private.Starting.{BeginsReads, with_room}
use Rattle.nr_responder.specs.Sound.{SameInput, around_of, state_of}
use Rattle.nr_responder.specs.Fetching.{open_sinks}
use Rattle.nr_responder.specs.private.CallsRead.{sinks_from}
use Rattle.nr_responder.proofs.PayloadRooms.{others_none}
use Rattle.nr_responder.proofs.Windows.{more_outside}
use Rattle.nr_responder.proofs.BegunReads.{call_fits, in_buffer, kept_fetched, own_room, started_fetched, started_input, started_is, started_sound, stopped_is}
use Rattle.nr_responder.proofs.Sounds.{sound_as}
use Rattle.nr_responder.proofs.ReadWindows.{begun_windows}
use Rattle.nr_reduce.specs.ServerReads.{reads_from}
use Rattle.nr_responder.proofs.server_end.ServerEnd.start_reads.Goals as goal

pub begin_reads-requires-clause-live : goal.begin_reads-requires-clause-live
begin_reads-requires-clause-live c = c.requires.call.live

pub begin_reads-requires-clause-held : goal.begin_reads-requires-clause-held
begin_reads-requires-clause-held c = c.requires.call.sound.1.held

pub begin_reads-requires-clause-short : goal.begin_reads-requires-clause-short
begin_reads-requires-clause-short c = c.requires.call.sound.1.short

pub begin_reads-requires-clause-stags : goal.begin_reads-requires-clause-stags
begin_reads-requires-clause-stags c = c.requires.stags

pub begin_reads-requires-clause-inline : goal.begin_reads-requires-clause-inline
begin_reads-requires-clause-inline c = c.inline_stream-inline.ensures.small

pub inline_stream-inline-requires : goal.inline_stream-inline-requires
inline_stream-inline-requires c = c.requires.call.buffer

pub begin_reads-requires-clause-total : goal.begin_reads-requires-clause-total
begin_reads-requires-clause-total c = c.requires.reads

pub push_reading-requires : goal.push_reading-requires
push_reading-requires c =
    call_fits c.args.self.now.endpoint.link.state c.args.self.now.calls.items c.args.self.now.ready.items c.args.self.now.used.items _ _ _ (let kept = c.facts.ensures.receives in omega (arith, kept)) c.requires.call.sound.0

pub run_out-requires : goal.run_out-requires
run_out-requires c = record {
  sound = (
    sound_as 1 0 c.args.self.now.endpoint.link.state c.begin_reads.new.endpoint.link.state c.args.self.now.calls.items c.args.self.now.ready.items c.args.self.now.used.items _ _ _ (omega arith)
        (ap (λ (l : LinkSide). l.state.receive_queue.lent) c.in-Err.ensures.err.0) (ap (λ (l : LinkSide). l.state.receive_queue.receives) c.in-Err.ensures.err.0)
        (ap (λ (l : LinkSide). l.state.receive_queue.receive_length) c.in-Err.ensures.err.0)
        (ap (λ (l : LinkSide). l.state.send_queue.send_ends) c.in-Err.ensures.err.0) c.requires.call.sound.0,
    kept_fetched c.args.self.now.endpoint c.begin_reads.new.endpoint c.args.self.now.reads.items c.begin_reads.new.reads.items c.args.self.now.calls.items c.args.self.now.sinks.items c.begin_reads.new.sinks.items c.in-Err.ensures.err.0 c.in-Err.ensures.outside_err
        c.in-Err.ensures.err.1.0 c.in-Err.ensures.err.1.1 c.requires.call.sound.1,
  );
}

pub returns-in-Ok-clause-started : goal.returns-in-Ok-clause-started
returns-in-Ok-clause-started c =
    let after : ServerEnd = record { endpoint = c.begin_reads.new.endpoint; calls = c.push_reading.new.calls; ready = c.args.self.now.ready; reads = c.begin_reads.new.reads; sinks = c.begin_reads.new.sinks; used = c.args.self.now.used; credits = c.args.self.now.credits; alloc = c.args.self.now.alloc } in
    inl (started_is c.args.self.now after c.args.call (with_room c.args.call c.in-Ok.room) c.args.chunks.now refl c.requires.chunks
    (subst (λ (read : List ReadSegment). BeginsReads c.args.call.number read c.args.chunks.now c.args.self.now.reads.items c.begin_reads.new.reads.items c.args.self.now.sinks.items c.begin_reads.new.sinks.items c.args.self.now.endpoint.link c.begin_reads.new.endpoint.link) c.requires.call.list c.in-Ok.ensures.ok)
    c.push_reading.ensures.items refl refl)

pub returns-in-Ok-clause-sound : goal.returns-in-Ok-clause-sound
returns-in-Ok-clause-sound c = (
  started_sound c.args.call.number c.args.read.now c.args.chunks.now c.args.self.now.reads.items c.begin_reads.new.reads.items c.args.self.now.sinks.items c.begin_reads.new.sinks.items c.args.self.now.endpoint.link c.begin_reads.new.endpoint.link
      c.args.self.now.calls.items c.push_reading.new.calls.items (with_room c.args.call c.in-Ok.room) c.args.self.now.ready.items c.args.self.now.used.items _ _ _ _ c.in-Ok.ensures.ok (c.requires.call.receive, in_buffer c.args.call c.in-Ok.room c.requires.call.buffer) c.push_reading.ensures.items c.push_reading.ensures.capacity c.requires.call.sound.0,
  started_fetched c.args.self.now.endpoint c.begin_reads.new.endpoint c.args.self.now.reads.items c.begin_reads.new.reads.items c.args.call.number c.args.self.now.endpoint.link.state.memory.next c.args.read.now c.args.chunks.now c.args.self.now.calls.items c.push_reading.new.calls.items
      (with_room c.args.call c.in-Ok.room) c.args.self.now.sinks.items c.begin_reads.new.sinks.items (open_sinks (sinks_from c.args.call.number c.args.self.now.endpoint.link.state.memory.next c.args.read.now c.args.chunks.now)) c.begin_reads.ensures.held c.begin_reads.ensures.short
      (more_outside c.begin_reads.new.endpoint (around_of c.args.self.now.calls.items) (around_of c.args.self.now.calls.items + c.args.call.around) (omega arith) (c.begin_reads.ensures.outside (around_of c.args.self.now.calls.items) c.requires.call.sound.1.outside))
      c.requires.own c.in-Ok.ensures.ok.reads c.in-Ok.ensures.ok.sinks_are (λ n ne. others_none c.args.call.number c.args.self.now.endpoint.link.state.memory.next n c.args.read.now c.args.chunks.now ne) c.begin_reads.ensures.kept
      (own_room c.begin_reads.new.endpoint.outside c.args.self.now.sinks.items c.begin_reads.new.sinks.items c.begin_reads.new.reads.items c.args.call c.args.self.now.endpoint.link.state.memory.next (length c.inline_stream-inline.result.now) c.in-Ok.room c.args.read.now c.args.chunks.now c.requires.call.empty.0 c.requires.no_sink
      c.in-Ok.ensures.ok.sinks_are c.requires.call.list c.requires.chunks c.requires.reads (ap (λ (xs : List ℕ). length xs) c.inline_stream-inline.ensures.stream) c.inline_stream-inline.ensures.small c.in-Ok.ensures.room) c.push_reading.ensures.items c.requires.call.sound.1,
)

pub returns-in-Ok-clause-input : goal.returns-in-Ok-clause-input
returns-in-Ok-clause-input c =
    started_input c.args.call.number c.args.read.now c.args.chunks.now c.args.self.now.reads.items c.begin_reads.new.reads.items c.args.self.now.sinks.items c.begin_reads.new.sinks.items c.args.self.now.endpoint.link c.begin_reads.new.endpoint.link c.in-Ok.ensures.ok

pub returns-in-Ok-clause-staging : goal.returns-in-Ok-clause-staging
returns-in-Ok-clause-staging c = c.begin_reads.ensures.staging

pub returns-in-Err-clause-started : goal.returns-in-Err-clause-started
returns-in-Err-clause-started c =
    let mid : ServerEnd = record { endpoint = c.begin_reads.new.endpoint; calls = c.args.self.now.calls; ready = c.args.self.now.ready; reads = c.begin_reads.new.reads; sinks = c.begin_reads.new.sinks; used = c.args.self.now.used; credits = c.args.self.now.credits; alloc = c.args.self.now.alloc } in
    inr (stopped_is c.args.self.now mid (state_of c.run_out.new.self) c.in-Err.ensures.err.0 c.in-Err.ensures.err.1.0 c.in-Err.ensures.err.1.1 refl refl refl c.run_out.ensures.out)

pub returns-in-Err-clause-sound : goal.returns-in-Err-clause-sound
returns-in-Err-clause-sound c = c.run_out.ensures.sound

pub returns-in-Err-clause-input : goal.returns-in-Err-clause-input
returns-in-Err-clause-input c = subst (λ (l : LinkSide). SameInput l c.run_out.new.self.endpoint.link) c.in-Err.ensures.err.0 c.run_out.ensures.input

pub returns-in-Err-clause-staging : goal.returns-in-Err-clause-staging
returns-in-Err-clause-staging c = c.run_out.ensures.staging ∙ c.begin_reads.ensures.staging

pub returns-in-Ok-clause-windows : goal.returns-in-Ok-clause-windows
returns-in-Ok-clause-windows c = λ live.
    begun_windows c.args.self.now.calls.items c.push_reading.new.calls.items (with_room c.args.call c.in-Ok.room) c.args.call.number c.args.self.now.reads.items c.begin_reads.new.reads.items
    (reads_from (sinks_from c.args.call.number c.args.self.now.endpoint.link.state.memory.next c.args.read.now c.args.chunks.now) c.args.call.number [] c.args.read.now)
    c.in-Ok.ensures.ok.reads c.push_reading.ensures.items refl c.requires.own (λ some. absurd (some c.requires.call.empty.0)) c.requires.call.windows

pub returns-in-Err-clause-windows : goal.returns-in-Err-clause-windows
returns-in-Err-clause-windows c = c.run_out.ensures.windows
