use Rattle.std.proofs.Common.{Ok, ◌∙◌, ap}
use Rattle.nr_xdr.specs.Room.{Room}
use Rattle.nr_plain.proofs.WrittenReplies.{reply_finished}
use Rattle.nr_plain.proofs.reading.listing_reply.Goals as goal

pub returns : goal.returns
returns g c =
    reply_finished g.A.Results.Xdr.codec (g.A.Listing.results c.args.tree.now c.args.call.now.caller.now c.args.arguments.now) c.args.call.now.xid c.accepted_head.result c.accepted_head.ensures c.in_ok-writer.writer c.in_ok-writer-2.writer (Ok c.finish.result)
    (ap (λ (r : Room). r.bytes) c.in_ok-writer.ensures) c.in_ok-writer-2.ensures.ok (c.finish.ensures ∙ c.in_ok-writer-3.ensures)
