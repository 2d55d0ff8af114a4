use Rattle.std.proofs.Common.{sym, subst}
use Rattle.nr_client.specs.private.JobReads.{IsReady}
use Rattle.nr_client.proofs.jobs.fetch_all.Goals as goal

pub for_each_mut-requires-clause-accepts : goal.for_each_mut-requires-clause-accepts
for_each_mut-requires-clause-accepts g c κs within i p lt is =
    (subst (IsReady c.args.shared.now c.args.file.now.uid c.args.file.now.gid c.args.file.now.handle.now c.args.file.now.size) (sym is) (c.requires.ready i p.now lt), c.requires.rule)
