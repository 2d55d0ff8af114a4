use Rattle.std.proofs.Common.{◌≡◌, ℕ, ◌∙◌, ◌≤◌, ◌+◌, ◌++◌, List, length, take, ap, sym, subst, arith, length-append}
use Rattle.nr_link.specs.KeptSends.{kept_within}
use Rattle.nr_link.specs.ReceiveState.{begun_bytes}
use Rattle.nr_endpoint.specs.ReceiveQueue.{ReceiveQueue}
use Rattle.nr_endpoint.specs.Views.{begun as begun_bytes_of}
use Rattle.nr_endpoint.proofs.ReceiveQueueBuffers.{deliveries_message}
use Rattle.nr_endpoint.proofs.ReceiveQueueBytes.{message_bytes}
use Rattle.nr_endpoint.proofs.ReceiveQueueSteps.{with_last}
use Rattle.nr_endpoint.proofs.receive_queue.ReceiveQueue.complete.Goals as goal

pub returns : goal.returns
returns c =
    let fits : length (begun_bytes (begun_bytes_of c.self.inside.receive_length c.self.inside.begun)) + length c.args.payload.now ≤ c.self.inside.receive_length =
    subst (λ (q : ReceiveQueue). length (begun_bytes q.received.begun) + length c.args.payload.now ≤ q.receive_length) (sym c.self.view_is) c.requires.fits in
    let count : length (begun_bytes (begun_bytes_of c.self.inside.receive_length c.self.inside.begun) ++ c.args.payload.now) ≡ length (begun_bytes (begun_bytes_of c.self.inside.receive_length c.self.inside.begun)) + length c.args.payload.now =
    length-append (begun_bytes (begun_bytes_of c.self.inside.receive_length c.self.inside.begun)) c.args.payload.now in
    let message : take c.extend.new.begun.len c.extend.new.begun.buf ≡ begun_bytes (begun_bytes_of c.self.inside.receive_length c.self.inside.begun) ++ c.args.payload.now =
    message_bytes c.self.inside.receive_length c.extend.new.begun (begun_bytes (begun_bytes_of c.self.inside.receive_length c.self.inside.begun) ++ c.args.payload.now)
    (c.extend.ensures.bytes ∙ ap (λ (x : List ℕ). kept_within c.self.inside.receive_length (x ++ c.args.payload.now)) c.take_receive-begun.ensures.bytes)
    (omega (arith, count, c.extend.ensures.len, c.take_receive-begun.ensures.len)) (omega (arith, count, fits)) in
    rw (← c.self.view_is, c.take_receive-begun.ensures.taken, c.push_back_reserved.ensures.items, deliveries_message c.self.inside.messages.items c.self.inside.reads_done (c.self.inside.sends + 1) c.args.named c.extend.new.begun.buf c.extend.new.begun.len)
    (with_last _ c.args.named c.args.payload.now _ _ message c.take_receive-begun.ensures.free)
