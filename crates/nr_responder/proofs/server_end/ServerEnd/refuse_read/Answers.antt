use Rattle.std.proofs.Common.{rules, ◌≡◌, ℕ, List, [], ◌∷◌, ◌++◌, map, get_or, ap, sym, subst, ◌∙◌, append-nil, refl, true}
use Rattle.std.specs.Prelude.{vec_capacity}
use Rattle.std.specs.VecDeque.{deque_capacity}
use Rattle.nr_endpoint.specs.Calls.{after_call}
use Rattle.nr_endpoint.specs.Calls.Call.{OutOfMemory}
use Rattle.nr_endpoint.specs.LinkState.{LinkSide}
use Rattle.nr_reduce.specs.Holds.{chunk_error}
use Rattle.nr_reduce.specs.ServerState.{PendingCall, PendingRead}
use Rattle.nr_responder.specs.Fetching.{Fetching, SinkRegion}
use Rattle.nr_responder.specs.declared.call.Pending.{Pending}
use Rattle.nr_responder.specs.ResponderState.{ResponderSide}
use Rattle.nr_responder.specs.private.DoneReads.{IsOfCall}
use Rattle.nr_responder.specs.private.Reading.{left_sinks, opening, over_sinks, with_opened_after, with_released}
use Rattle.nr_responder.specs.private.ReadsDone.{ended_as, has_bad_chunk}
use Rattle.nr_responder.specs.Sound.{QueuesInvariant, payloads_of, state_of, xids_of}
use Rattle.nr_responder.specs.Views.{call_view, read_view, sink_view}
use Rattle.nr_responder.proofs.DoneReads.{refusal_out, refuses}
use Rattle.nr_responder.proofs.RefusedReads.{dropped_fetched, dropped_fewer, refused_ends, refused_fetched, refused_link, refused_sound}
use Rattle.nr_responder.proofs.Removed.{map_removed}
use Rattle.nr_responder.proofs.ReadWindows.{done_refused}
use Rattle.nr_responder.proofs.server_end.ServerEnd.refuse_read.Goals as goal
use Rattle.nr_responder.proofs.Sounds.{kept_receive}

pub run_out-requires : goal.run_out-requires
run_out-requires c = record {
  sound = (
    subst (λ (l : LinkSide). QueuesInvariant 0 l.state c.args.self.now.calls.items c.args.self.now.ready.items c.args.self.now.used.items (vec_capacity c.args.self.now.calls) (deque_capacity c.args.self.now.ready) (deque_capacity c.args.self.now.used)) (sym c.in-Err.ensures.err) c.requires.sound.0,
    dropped_fetched c.args.self.now.endpoint c.queue_refusal.new.endpoint c.args.done.number c.args.kept c.args.self.now.calls.items c.args.self.now.reads.items c.drop_waiting.new.reads.items c.args.self.now.sinks.items c.drop_waiting.ensures
        (ap (λ (l : LinkSide). l.state.memory) c.in-Err.ensures.err) c.queue_refusal.ensures.outside c.requires.sound.1,
  );
}

pub returns-in-Ok-clause-handled : goal.returns-in-Ok-clause-handled
returns-in-Ok-clause-handled c =
    let d : Pending = c.index.result.now in
    let v : ResponderSide = state_of c.args.self.now in
    let message : List ℕ = chunk_error d.xid c.args.self.now.credits.word in
    let same : get_or c.args.self.now.calls.items c.args.at d ≡ d = sym c.index.ensures in
    let later : List PendingCall = map call_view c.take_receive-buf.new.calls.items in
    let reads : List PendingRead = map read_view c.drop_waiting.new.reads.items in
    let sinks : List SinkRegion = map sink_view c.args.self.now.sinks.items in
    let opened = c.in-Ok.ensures.ok ∙ (λ i. with_opened_after message (opening c.args.kept (map read_view (c.as_slice.ensures.value i))) c.args.self.now.endpoint.link) in
    let over = c.close_over.ensures.link ∙ (λ i. with_released (over_sinks (map call_view (c.as_slice-in-Ok.ensures.value i)) (map read_view (c.as_slice-in-Ok-2.ensures.value i)) sinks) c.queue_refusal.new.endpoint.link) in
    let link = refused_link message (opening c.args.kept reads) (over_sinks later reads sinks) c.args.self.now.endpoint.link c.queue_refusal.new.endpoint.link c.close_over.new.endpoint.link opened over in
    let left = c.close_over.ensures.sinks ∙ (λ i. left_sinks (map call_view (c.as_slice-in-Ok.ensures.value i)) (map read_view (c.as_slice-in-Ok-2.ensures.value i)) sinks) in
    refuses v (read_view c.args.done) c.args.kept c.args.at (call_view d) later reads _ (subst (λ (x : Pending). IsOfCall v (read_view c.args.done) c.args.kept c.args.at (call_view x)) same (c.requires.call d))
    (subst (λ (x : Pending). has_bad_chunk v (call_view x) (read_view c.args.done) (map read_view c.args.self.now.reads.items) ≡ true) same (c.requires.bad d))
    (ap (λ (cs : List Pending). map call_view cs) c.take_receive-buf.ensures.items ∙ map_removed call_view c.args.self.now.calls.items c.args.at) c.drop_waiting.ensures
    (λ i. record {
      link = link i;
      calls = later;
      ready = sym (append-nil (xids_of c.args.self.now.ready.items)) i;
      credits = c.args.self.now.credits;
      fetching = record { reads = reads; sinks = left i; payloads = sym (append-nil (payloads_of c.args.self.now.ready.items)) i };
    })

pub returns-in-Ok-clause-sound : goal.returns-in-Ok-clause-sound
returns-in-Ok-clause-sound c =
    let d : Pending = c.index.result.now in
    let message : List ℕ = chunk_error d.xid c.args.self.now.credits.word in
    let reads : List PendingRead = map read_view c.drop_waiting.new.reads.items in
    let sinks : List SinkRegion = map sink_view c.args.self.now.sinks.items in
    let opened = c.in-Ok.ensures.ok ∙ (λ i. with_opened_after message (opening c.args.kept (map read_view (c.as_slice.ensures.value i))) c.args.self.now.endpoint.link) in
    let whole = kept_receive 0 c.args.self.now.endpoint.link.state c.args.self.now.calls.items c.args.self.now.ready.items c.args.self.now.used.items _ _ _ c.args.at c.index.result.now c.requires.at c.index.ensures c.requires.sound.0 in (
      refused_sound c.args.self.now.endpoint.link.state c.close_over.new.endpoint.link.state c.args.at c.index.result.now c.args.self.now.calls.items c.take_receive-buf.new.calls.items c.args.self.now.ready.items c.args.self.now.used.items c.push_back_reserved.new.self.items _ _ _ _ _
          (ap (λ (l : LinkSide). l.state.receive_queue) c.close_over.ensures.link ∙ ap (λ (l : LinkSide). l.state.receive_queue) opened)
          (refused_ends message (opening c.args.kept reads) (over_sinks (map call_view c.as_slice-in-Ok.result.now) (map read_view c.as_slice-in-Ok-2.result.now) sinks) c.args.self.now.endpoint.link c.queue_refusal.new.endpoint.link c.close_over.new.endpoint.link opened c.close_over.ensures.link)
          c.requires.at whole c.take_receive-buf.ensures.items c.requires.few (c.push_back_reserved.ensures.items ∙ ap (λ (bytes : List ℕ). c.args.self.now.used.items ++ bytes ∷ []) (c.take_receive-buf.ensures.buffer c.index.result.now ∙ ap (λ (x : Pending). x.buf) (sym c.index.ensures))) (search rules) (search rules) c.requires.sound.0,
      refused_fetched c.args.self.now.endpoint c.queue_refusal.new.endpoint c.close_over.new.endpoint c.args.done.number c.args.kept c.args.at d message (opening c.args.kept reads) c.args.self.now.calls.items c.take_receive-buf.new.calls.items c.args.self.now.reads.items c.drop_waiting.new.reads.items
          c.args.self.now.sinks.items c.close_over.new.sinks.items c.drop_waiting.ensures c.requires.at (c.requires.empty d) c.take_receive-buf.ensures.items opened c.queue_refusal.ensures.outside c.close_over.ensures.held c.close_over.ensures.short c.close_over.ensures.outside c.close_over.ensures.kept
          (c.close_over.ensures.sinks ∙ (λ i. left_sinks (map call_view (c.as_slice-in-Ok.ensures.value i)) (map read_view (c.as_slice-in-Ok-2.ensures.value i)) sinks)) c.requires.sound.1,
    )

pub returns-in-Ok-clause-windows : goal.returns-in-Ok-clause-windows
returns-in-Ok-clause-windows c = λ live.
    let d : Pending = c.index.result.now in
    done_refused c.args.done.number c.args.kept c.args.self.now.calls.items c.take_receive-buf.new.calls.items c.args.at d c.args.self.now.reads.items c.drop_waiting.new.reads.items c.requires.at (c.requires.call d).own (c.requires.empty d) c.take_receive-buf.ensures.items c.drop_waiting.ensures c.requires.windows

pub returns-in-Err-clause-handled : goal.returns-in-Err-clause-handled
returns-in-Err-clause-handled c =
    let d : Pending = c.index.result.now in
    let v : ResponderSide = state_of c.args.self.now in
    let same : get_or c.args.self.now.calls.items c.args.at d ≡ d = sym c.index.ensures in
    let reads : List PendingRead = map read_view c.drop_waiting.new.reads.items in
    let fetching : Fetching = record { reads = reads; sinks = map sink_view c.args.self.now.sinks.items; payloads = payloads_of c.args.self.now.ready.items } in
    refusal_out v (state_of c.run_out.new.self) (read_view c.args.done) c.args.kept c.args.at (call_view d) fetching (subst (λ (x : Pending). IsOfCall v (read_view c.args.done) c.args.kept c.args.at (call_view x)) same (c.requires.call d))
    (subst (λ (x : Pending). has_bad_chunk v (call_view x) (read_view c.args.done) (map read_view c.args.self.now.reads.items) ≡ true) same (c.requires.bad d)) refl
    (dropped_fewer c.args.done.number c.args.kept (map read_view c.args.self.now.reads.items) reads c.drop_waiting.ensures)
    (c.run_out.ensures.out ∙ ap (λ (l : LinkSide). ended_as v (after_call l OutOfMemory) fetching) c.in-Err.ensures.err)
