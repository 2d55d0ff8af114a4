use Rattle.std.proofs.Common.{get_or, sym, subst}
use Rattle.nr_regions.specs.RegisteredMemory.{IsHeld, RegisteredMemory}
use Rattle.nr_responder.proofs.HeldSinks.{held_at}
use Rattle.nr_responder.proofs.sink_regions.sink_bytes.Goals as goal

pub bytes-requires : goal.bytes-requires
bytes-requires c =
    subst (λ (m : RegisteredMemory). IsHeld m (get_or c.args.sinks.now c.in-Some.at c.index-sinks-at.result).registration) (sym c.regions.ensures)
    (held_at c.args.endpoint.now.link.state.memory 0 c.args.sinks.now c.in-Some.at c.index-sinks-at.result c.in-Some.ensures.some.0 c.requires.held)
