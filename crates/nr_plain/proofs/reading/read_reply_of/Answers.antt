use Rattle.std.proofs.Common.{ap}
use Rattle.nr_xdr.specs.Room.{Room}
use Rattle.nr_nfs_res.specs.Results.{read_res_codec}
use Rattle.nr_plain.proofs.WrittenReplies.{reply_finished}
use Rattle.nr_plain.proofs.reading.read_reply_of.Goals as goal

pub returns : goal.returns
returns c =
    reply_finished read_res_codec c.args.results.now c.args.xid c.accepted_head.result c.accepted_head.ensures c.in_ok-writer.writer c.in_ok-writer-2.writer c.finish_read.result
    (ap (λ (r : Room). r.bytes) c.in_ok-writer.ensures) c.in_ok-writer-2.ensures.ok c.finish_read.ensures
