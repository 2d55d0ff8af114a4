use Rattle.nr_plain.proofs.Fits.{every_ok, mknod_reply_fits}
use Rattle.nr_plain.proofs.changing.MknodArgsChanging.execute.Goals as goal

pub returns-clause-fits : goal.returns-clause-fits
returns-clause-fits c = every_ok c.mknod.result c.mknod.ensures.result (mknod_reply_fits c.args.tree.now c.args.call.now.caller.now c.args.call.now.space c.args.call.now.time c.args.self)
