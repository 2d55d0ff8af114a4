use Rattle.std.proofs.Common.{◌+◌, ◌≤◌, length, sym, subst, arith}
use Rattle.nr_link.specs.ReceiveState.{begun_bytes}
use Rattle.nr_endpoint.specs.EndpointState.{LinkView}
use Rattle.nr_endpoint.proofs.Sides.{same_side}
use Rattle.nr_endpoint.proofs.Taken.{counted_send, took_send}
use Rattle.nr_endpoint.proofs.link.LinkSide.apply_send.Goals as goal

pub receive-requires-clause-fits : goal.receive-requires-clause-fits
receive-requires-clause-fits c = λ is.
    let fits : length (begun_bytes c.self.inside.receive_queue.received.begun) + length c.args.payload.now ≤ c.self.inside.message_max =
    subst (λ (v : LinkView). length (begun_bytes v.state.receive_queue.received.begun) + length c.args.payload.now ≤ v.state.message_max) (sym c.self.view_is) (c.requires.fine.fits is) in
    omega (arith, fits, c.self.invariant.fits)

pub invariant_of-self : goal.invariant_of-self
invariant_of-self c =
    rw c.receive.ensures (counted_send c.self.inside.terms c.self.inside.has_hello c.self.inside.receive_queue c.args.named c.args.last c.args.payload.now c.self.inside.place c.self.inside.message_max _ c.self.invariant c.requires.size)

pub returns : goal.returns
returns c = record {
  state = rw (← c.self.view_is) (same_side c.self.inside.regions.room c.self.inside.regions.outside (took_send _ c.receive.new.self c.args.named c.args.last c.args.payload.now c.args.frame.now c.receive.ensures));
}
