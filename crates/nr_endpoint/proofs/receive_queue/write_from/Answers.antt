use Rattle.std.proofs.Common.{◌∙◌, arith}
use Rattle.nr_endpoint.proofs.ReceiveQueueBytes.{written_all, written_part}
use Rattle.nr_endpoint.proofs.receive_queue.write_from.Goals as goal

pub returns-then-bytes-receive_length-clause-bytes : goal.returns-then-bytes-receive_length-clause-bytes
returns-then-bytes-receive_length-clause-bytes c =
    c.overwrite.ensures ∙ written_all c.args.receive_length c.args.buf.now c.args.bytes.now c.args.at c.requires.buf c.requires.within (omega arith)

pub returns-else-bytes-receive_length-clause-bytes : goal.returns-else-bytes-receive_length-clause-bytes
returns-else-bytes-receive_length-clause-bytes c =
    c.overwrite-else-bytes-receive_length.ensures ∙ written_part c.args.receive_length c.args.buf.now c.args.bytes.now c.args.at c.requires.buf c.requires.within (omega arith)
