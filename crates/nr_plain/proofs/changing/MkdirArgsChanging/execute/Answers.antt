use Rattle.nr_plain.proofs.Fits.{every_ok, mkdir_reply_fits}
use Rattle.nr_plain.proofs.changing.MkdirArgsChanging.execute.Goals as goal

pub returns-clause-fits : goal.returns-clause-fits
returns-clause-fits c = every_ok c.mkdir.result c.mkdir.ensures.result (mkdir_reply_fits c.args.tree.now c.args.call.now.caller.now c.args.call.now.space c.args.call.now.time c.args.self)
