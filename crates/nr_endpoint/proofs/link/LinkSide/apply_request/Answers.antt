use Rattle.std.proofs.Common.{ℕ, length, map, ap, ◌∙◌, arith}
use Rattle.nr_regions.specs.declared.right.Right.TheVariants.{Fetch}
use Rattle.nr_regions.specs.RegisteredMemory.{bytes_at}
use Rattle.nr_endpoint.specs.LinkState.{LinkState}
use Rattle.nr_endpoint.specs.Views.{expected, read_request_view}
use Rattle.nr_endpoint.proofs.Sides.{same_side}
use Rattle.nr_endpoint.proofs.Taken.{counted_request, took_request}
use Rattle.nr_endpoint.proofs.link.LinkSide.apply_request.Goals as goal

pub invariant_of-self-2 : goal.invariant_of-self-2
invariant_of-self-2 c =
    rw c.count_request.ensures (counted_request c.self.inside.terms c.self.inside.has_hello c.self.inside.receive_queue c.self.inside.place c.self.inside.message_max (length c.args.frame.now) c.self.invariant (omega (arith, c.requires.some)))

pub returns-clause-ok : goal.returns-clause-ok
returns-clause-ok c =
    let s : LinkState = record {
      side = c.self.inside.side;
      has_hello = c.self.inside.has_hello;
      last = c.self.inside.last;
      place = c.self.inside.place;
      ended = c.self.inside.ended;
      receive_queue = c.self.inside.receive_queue;
      reads = map expected c.self.inside.reads.items;
      memory = c.self.inside.regions.memory;
      send_queue = c.self.inside.send_queue;
      terms = c.self.inside.terms;
      private = c.self.inside.private.items;
      agreed = c.self.inside.agreed;
      message_max = c.self.inside.message_max;
      client = c.self.inside.client;
      earlier = c.self.inside.earlier;
    } in
    rw (← c.self.view_is) (same_side c.self.inside.regions.room c.self.inside.regions.outside (took_request s c.count_request.new.self c.respond.new.self (read_request_view c.read_request-request.result) c.in-Ok.bytes.now c.args.payload.now c.args.frame.now
    c.count_request.ensures c.in_ok-respond-in-Ok.ensures.ok c.read_request-request.ensures
    (c.in-Ok.ensures.ok ∙ ap (λ (len : ℕ). bytes_at c.self.inside.regions.memory (record { right = Fetch; stag = c.read_request-request.result.stag; to = c.read_request-request.result.to; len = len })) c.from.ensures)))
