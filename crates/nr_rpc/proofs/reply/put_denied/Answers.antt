use Rattle.nr_xdr.proofs.Rooms.{ok_then, err_then, err_first, on_refusal}
use Rattle.nr_rpc.proofs.WordHeads.{denied_words}
use Rattle.nr_rpc.proofs.reply.put_denied.Goals as goal

pub returns-clause-ok : goal.returns-clause-ok
returns-clause-ok c = ok_then c.put_words-2.new.writer _ c.put_words-2.result (denied_words c.args.xid c.args.status.now) c.in_ok-put_words.ensures.ok c.put_words-2.ensures.ok

pub returns-clause-room : goal.returns-clause-room
returns-clause-room c = err_then _ c.put_words-2.result (denied_words c.args.xid c.args.status.now) c.in_ok-put_words.ensures.ok c.put_words-2.ensures.room

pub returns-in_err-put_words-clause-room : goal.returns-in_err-put_words-clause-room
returns-in_err-put_words-clause-room c = on_refusal c.from_residual.result (err_first c.args.writer.now.left _ _ (denied_words c.args.xid c.args.status.now) c.in_err-put_words.ensures.room)
