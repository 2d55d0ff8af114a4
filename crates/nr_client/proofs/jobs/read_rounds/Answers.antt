use Rattle.std.proofs.Common.{◌≤◌, arith, refl, ◌∙◌}
use Rattle.nr_client.proofs.JobCalls.{grows_none, grows_then}
use Rattle.nr_client.proofs.JobReading.{all_came}
use Rattle.nr_client.proofs.jobs.read_rounds.Goals as goal

pub rounds-init : goal.rounds-init
rounds-init g c = (c.requires.rests, refl, grows_none c.args.pass.now.main c.args.pass.now.main refl refl, refl, λ first taken so_far. so_far)

pub rounds-preserved : goal.rounds-preserved
rounds-preserved g c =
    let (rests, source, grows, outs, on) = c.rounds.invariant in (
      c.read_round.ensures.rests,
      c.read_round.ensures.source ∙ source,
      grows_then c.args.pass.now.main c.rounds.pass.main c.read_round.new.pass.main grows c.read_round.ensures.grows,
      c.in-Ok.ensures.out_faults ∙ outs,
      λ first taken so_far. c.in-Ok.ensures.ok first taken (on first taken so_far),
    )

pub returns-in-Err-clause-grows : goal.returns-in-Err-clause-grows
returns-in-Err-clause-grows g c =
    let (rests, source, grows, outs, on) = c.rounds.invariant in
    grows_then c.args.pass.now.main c.rounds.pass.main c.read_round.new.pass.main grows c.read_round.ensures.grows

pub returns-in-Err-clause-ends : goal.returns-in-Err-clause-ends
returns-in-Err-clause-ends g c first taken so_far =
    let (rests, source, grows, outs, on) = c.rounds.invariant in
    c.in-Err.ensures.err first taken (on first taken so_far)

pub returns-clause-ends : goal.returns-clause-ends
returns-clause-ends g c first taken so_far =
    let (rests, source, grows, outs, on) = c.rounds.invariant in
    let above : c.args.file.now.size ≤ c.rounds.at = grind (arith, c.rounds-test.false) in
    all_came c.args.file.now.uid c.args.file.now.gid c.args.file.now.handle.now first c.args.file.now.size c.rounds.at c.rounds.pass.main taken (g.K.Sink.taken c.rounds.out) above (on first taken so_far)
