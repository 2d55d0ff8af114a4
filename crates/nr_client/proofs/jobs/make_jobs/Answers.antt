use Rattle.std.proofs.Common.{[], ◌∷◌, refl, sym, subst, ◌∙◌, arith}
use Rattle.std.specs.List.{All}
use Rattle.std.proofs.lemmas.List.Elements.{All-append}
use Rattle.nr_client.specs.private.JobReads.{IsReady}
use Rattle.nr_client.proofs.JobCalls.{all_one}
use Rattle.nr_client.proofs.jobs.make_jobs.Goals as goal

pub jobs-init : goal.jobs-init
jobs-init g c = (c.requires.rests, refl, refl, refl, λ k d lt. absurd (grind (arith, c.in_ok-made.ensures.items, lt)))

pub jobs-preserved : goal.jobs-preserved
jobs-preserved g c =
    let (rests, source, seen, mine, ready) = c.jobs.invariant in (
      c.make_job.ensures.rests,
      c.make_job.ensures.source ∙ source,
      c.make_job.ensures.unchanged.0 ∙ seen,
      c.make_job.ensures.unchanged.1 ∙ mine,
      subst (All (IsReady c.args.shared.now c.args.file.now.uid c.args.file.now.gid c.args.file.now.handle.now c.args.file.now.size)) (sym c.in_ok-push.ensures.items)
          (All-append (IsReady c.args.shared.now c.args.file.now.uid c.args.file.now.gid c.args.file.now.handle.now c.args.file.now.size) c.jobs.made.items (c.in_ok-job.job ∷ []) ready
          (all_one (IsReady c.args.shared.now c.args.file.now.uid c.args.file.now.gid c.args.file.now.handle.now c.args.file.now.size) c.in_ok-job.job (c.in_ok-job.ensures.ok c.args.file.now.uid c.args.file.now.gid c.args.file.now.handle.now))),
    )
