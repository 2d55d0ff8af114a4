use Rattle.std.proofs.Common.{sym, subst}
use Rattle.std.specs.List.{All}
use Rattle.std.proofs.lemmas.Result.{IfOk-weaker}
use Rattle.nr_client.specs.private.JobReads.{IsReady}
use Rattle.nr_client.proofs.JobCalls.{grows_none, grows_then}
use Rattle.nr_client.proofs.JobReading.{all_done}
use Rattle.nr_client.proofs.jobs.fetch_round.Goals as goal

pub fetch_all-requires-clause-ready : goal.fetch_all-requires-clause-ready
fetch_all-requires-clause-ready g c κs bounds =
    subst (All (IsReady c.args.shared.now c.args.file.now.uid c.args.file.now.gid c.args.file.now.handle.now c.args.file.now.size)) (sym c.as_mut_slice.ensures.value) c.in_ok-made.ensures.ok

pub join_jobs-requires-clause-jobs : goal.join_jobs-requires-clause-jobs
join_jobs-requires-clause-jobs g c k d lt = (all_done c.args.shared.now c.args.file.now.uid c.args.file.now.gid c.args.file.now.handle.now c.args.file.now.size c.in_ok-made.made.len c.as_mut_slice.result.now c.fetch_all.new.made _ c.fetch_all.ensures.len c.as_mut_slice.ensures.len c.fetch_all.ensures.each k d lt).0

pub returns-in_err-made-clause-grows : goal.returns-in_err-made-clause-grows
returns-in_err-made-clause-grows g c = grows_none c.args.pass.now.main c.make_jobs.new.pass.main c.make_jobs.ensures.unchanged.0 c.make_jobs.ensures.unchanged.1

pub returns-clause-grows : goal.returns-clause-grows
returns-clause-grows g c =
    grows_then c.args.pass.now.main c.make_jobs.new.pass.main c.join_jobs.new.pass.main
    (grows_none c.args.pass.now.main c.make_jobs.new.pass.main c.make_jobs.ensures.unchanged.0 c.make_jobs.ensures.unchanged.1) c.join_jobs.ensures.grows

pub returns-clause-ok : goal.returns-clause-ok
returns-clause-ok g c =
    IfOk-weaker c.join_jobs.result _ _ (λ lists f. f c.args.file.now.uid c.args.file.now.gid c.args.file.now.size c.args.file.now.handle.now
    (all_done c.args.shared.now c.args.file.now.uid c.args.file.now.gid c.args.file.now.handle.now c.args.file.now.size c.in_ok-made.made.len c.as_mut_slice.result.now c.fetch_all.new.made _ c.fetch_all.ensures.len c.as_mut_slice.ensures.len c.fetch_all.ensures.each)) c.join_jobs.ensures.ok
