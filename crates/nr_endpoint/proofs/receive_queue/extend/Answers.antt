use Rattle.std.proofs.Common.{arith}
use Rattle.nr_endpoint.proofs.ReceiveQueueBytes.{extended_within, extended_past}
use Rattle.nr_endpoint.proofs.receive_queue.extend.Goals.{then-begun-receive_length, else-begun-receive_length}
use Rattle.nr_endpoint.proofs.receive_queue.extend.Goals as goal

pub returns-clause-bytes : goal.returns-clause-bytes
returns-clause-bytes c =
    elim c.if-begun-receive_length.branch [
      | then-begun-receive_length w ↦ rw (w.begun-is, w.write_from.ensures.bytes) (extended_within c.args.receive_length c.args.begun.now.buf c.args.payload.now c.args.begun.now.len c.requires.buf (omega arith))
      | else-begun-receive_length w ↦ rw w.begun-is (extended_past c.args.receive_length c.args.begun.now.buf c.args.payload.now c.args.begun.now.len c.requires.buf (omega arith))
    ]
