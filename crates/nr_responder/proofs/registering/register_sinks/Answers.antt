use Rattle.std.proofs.Common.{◌≡◌, List, ◌++◌, get_or, ap, ◌∙◌, arith, rules, length, length-append, [], ◌∷◌}
use Rattle.nr_regions.specs.RegisteredMemory.{claim_of}
use Rattle.nr_regions.specs.declared.right.Right.TheVariants.{Sink}
use Rattle.nr_responder.specs.declared.call.OpenSink.{OpenSink}
use Rattle.nr_responder.specs.private.CallsRead.{sink_buffer, sinks_from}
use Rattle.nr_responder.proofs.ListedReads.{buffer_small}
use Rattle.nr_responder.proofs.RegisteredSinks.{first_buffer, link_step, registered_next, sinks_step}
use Rattle.nr_responder.proofs.registering.register_sinks.Goals as goal

pub register_sink-requires-clause-len : goal.register_sink-requires-clause-len
register_sink-requires-clause-len c =
    buffer_small (get_or c.args.chunks.now c.chunks.i 0) c.args.read.now c.remove-buf.result (c.remove-buf.ensures.value ∙ (first_buffer c.args.read.now c.args.chunks.now c.chunks.i c.chunks.buffers.items c.remove-buf.result c.chunks-test.true c.chunks.invariant.buffers).0) c.requires.total

pub chunks-preserved : goal.chunks-preserved
chunks-preserved c =
    let first = first_buffer c.args.read.now c.args.chunks.now c.chunks.i c.chunks.buffers.items c.remove-buf.result c.chunks-test.true c.chunks.invariant.buffers in
    let bytes : c.remove-buf.result ≡ sink_buffer c.args.read.now (get_or c.args.chunks.now c.chunks.i 0) = c.remove-buf.ensures.value ∙ first.0 in
    let next = registered_next c.chunks.endpoint.link c.register_sink.new.endpoint.link c.remove-buf.result Sink c.register_sink.ensures.link in
    let s : OpenSink = record { number = c.args.number; position = get_or c.args.chunks.now c.chunks.i 0; registration = claim_of c.chunks.endpoint.link.state.memory c.remove-buf.result } in
    let more : c.register_sink.new.sinks.items ≡ c.chunks.sinks.items ++ s ∷ [] = search rules in
    record {
      link = link_step c.args.number c.args.read.now c.args.chunks.now c.chunks.i c.chunks.endpoint.link c.register_sink.new.endpoint.link c.args.endpoint.now.link (sinks_from c.args.number c.args.endpoint.now.link.state.memory.next c.args.read.now c.args.chunks.now) c.remove-buf.result c.chunks-test.true c.register_sink.ensures.link bytes c.chunks.invariant.link;
      sinks = sinks_step c.args.number c.args.read.now c.args.chunks.now c.chunks.i c.chunks.endpoint.link c.register_sink.new.endpoint.link c.chunks.sinks.items c.register_sink.new.sinks.items _ c.remove-buf.result s c.chunks-test.true next bytes (λ i. s) more c.chunks.invariant.sinks;
      buffers = c.remove-buf.ensures.items ∙ first.1;
      next = (let so_far = c.chunks.invariant.next in omega (arith, next, so_far));
      room = (let so_far = c.chunks.invariant.room in let one = c.register_sink.ensures.room in omega (arith, so_far, one));
      capacity = c.register_sink.ensures.capacity ∙ c.chunks.invariant.capacity;
      count = (let so_far = c.chunks.invariant.count in let one = ap (λ (ss : List OpenSink). length ss) more ∙ length-append c.chunks.sinks.items (s ∷ []) in omega (arith, so_far, one));
      held = c.register_sink.ensures.held;
      short = c.register_sink.ensures.short;
      outside = λ n h. c.register_sink.ensures.outside n (c.chunks.invariant.outside n h);
      kept = λ stag lt. (let so_far = c.chunks.invariant.next in c.register_sink.ensures.kept stag (omega (arith, lt, so_far)) ∙ c.chunks.invariant.kept stag lt);
      staging = c.register_sink.ensures.staging ∙ c.chunks.invariant.staging;
    }
