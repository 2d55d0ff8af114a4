use Rattle.nr_xdr.proofs.Rooms.{on_refusal}
use Rattle.nr_plain.proofs.WrittenReplies.{reply_written, no_head, no_results}
use Rattle.nr_plain.proofs.encoding.write_accepted.Goals as goal

pub returns-clause-ok : goal.returns-clause-ok
returns-clause-ok g c =
    reply_written g.R.Xdr.codec c.args.results.now c.args.xid c.accepted_head.result c.accepted_head.ensures c.args.writer c.in_ok-writer.writer c.in_ok-writer-2.writer c.finish.result c.requires c.in_ok-writer.ensures.ok c.in_ok-writer-2.ensures.exact c.finish.ensures

pub returns-in_err-writer-clause-room : goal.returns-in_err-writer-clause-room
returns-in_err-writer-clause-room g c = on_refusal c.from_residual.result (no_head g.R.Xdr.codec c.args.results.now c.args.xid c.accepted_head.result c.accepted_head.ensures c.args.writer c.in_err-writer.ensures.room)

pub returns-in_err-writer-2-clause-room : goal.returns-in_err-writer-2-clause-room
returns-in_err-writer-2-clause-room g c =
    on_refusal c.from_residual-in_err-writer-2.result (no_results g.R.Xdr.codec c.args.results.now c.args.xid c.accepted_head.result c.accepted_head.ensures c.args.writer c.in_ok-writer.writer c.in_ok-writer.ensures.ok c.in_err-writer-2.ensures.exact)
