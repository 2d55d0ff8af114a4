use Rattle.std.proofs.Common.{arith, sym, subst}
use Rattle.nr_turnstile.specs.Passes.{mine_of, seen_by}
use Rattle.nr_client.specs.private.JobReads.{AreFetched}
use Rattle.nr_client.proofs.jobs.make_job.Goals as goal

pub returns-clause-ok : goal.returns-clause-ok
returns-clause-ok g c uid gid file =
    let p = c.split.result.main in (
      (c.split.ensures.rests.1, subst (λ l. AreFetched uid gid file c.args.size (seen_by p) (mine_of p) l) (sym c.in_ok-fetched.ensures.items) (λ k d lt. absurd (omega (arith, lt)))),
      c.in_ok-offsets.ensures,
    )
