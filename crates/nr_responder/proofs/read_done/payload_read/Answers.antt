use Rattle.std.proofs.Common.{ℕ, List, length, Some, None, sym, ap, ◌∙◌, arith}
use Rattle.std.specs.Prelude.{map}
use Rattle.nr_reduce.specs.Chunks.{whole}
use Rattle.nr_reduce.specs.declared.item.Of.TheVariants as of
use Rattle.nr_responder.specs.private.Reading.{sink_bytes}
use Rattle.nr_responder.specs.Views.{call_view, sink_view}
use Rattle.nr_responder.proofs.PayloadRooms.{both_within, item_somewhere, stream_within}
use Rattle.nr_responder.proofs.JoinedPayloads.{conveyed_is}
use Rattle.nr_responder.proofs.read_done.payload_read.Goals as goal

pub returns-in-Some : goal.returns-in-Some
returns-in-Some c =
    c.with_item.ensures ∙ (λ i. whole of.Call (c.stream_read-stream.ensures.stream i) (Some (c.sink_bytes-moved.ensures.bytes i)))
    ∙ conveyed_is (call_view c.args.call.now).inline (call_view c.args.call.now).lists.read (sink_bytes c.args.endpoint.now.link.state.memory (map sink_view c.args.sinks.now) c.args.call.now.number) (Some c.in-Some.position) (sym c.in-Some.is ∙ c.position_of.ensures)

pub returns-in-None : goal.returns-in-None
returns-in-None c =
    ap (λ (s : List ℕ). Some s) (c.stream_alone.ensures ∙ c.stream_read-stream.ensures.stream)
    ∙ conveyed_is (call_view c.args.call.now).inline (call_view c.args.call.now).lists.read (sink_bytes c.args.endpoint.now.link.state.memory (map sink_view c.args.sinks.now) c.args.call.now.number) None (sym c.in-None.is ∙ c.position_of.ensures)

pub with_item-requires-clause-room : goal.with_item-requires-clause-room
with_item-requires-clause-room c =
    let stream = ap (λ (xs : List ℕ). length xs) c.stream_read-stream.ensures.stream in
    let moved = ap (λ (xs : List ℕ). length xs) c.sink_bytes-moved.ensures.bytes in
    let both = both_within (call_view c.args.call.now).inline c.args.endpoint.now.link.state.memory c.args.call.now.number c.in-Some.position c.args.sinks.now c.requires.held (item_somewhere (call_view c.args.call.now).lists.read c.in-Some.position (sym c.position_of.ensures ∙ c.in-Some.is)) in
    let room = c.requires.room in
    omega (arith, stream, moved, both, room)

pub stream_alone-requires-clause-room : goal.stream_alone-requires-clause-room
stream_alone-requires-clause-room c =
    let stream = ap (λ (xs : List ℕ). length xs) c.stream_read-stream.ensures.stream in
    let within = stream_within (call_view c.args.call.now).inline c.args.endpoint.now.link.state.memory c.args.call.now.number c.args.sinks.now c.requires.held in
    let room = c.requires.room in
    omega (arith, stream, within, room)
