use Rattle.std.proofs.Common.{sym}
use Rattle.nr_client.proofs.Outcomes.{gives_no_results, gives_results}
use Rattle.nr_client.proofs.results.results_of_reply.Goals as goal

pub returns-in-Ok-clause-gives : goal.returns-in-Ok-clause-gives
returns-in-Ok-clause-gives g c = gives_results g.T.Xdr.codec c.args.payload.now c.in-Ok.at c.read_results.result (sym c.in-Ok.ensures.is) c.read_results.ensures.gives

pub returns-in-Err-clause-gives : goal.returns-in-Err-clause-gives
returns-in-Err-clause-gives g c = gives_no_results g.T.Xdr.codec c.args.payload.now c.in-Err.end (sym c.in-Err.ensures.is)
