use Rattle.std.proofs.Common.{sym}
use Rattle.nr_nfs_res.specs.Results.{read_res_codec}
use Rattle.nr_client.proofs.Outcomes.{gives_no_results, gives_results}
use Rattle.nr_client.proofs.results.data_results_of_reply.Goals as goal

pub returns-in-Ok-clause-gives : goal.returns-in-Ok-clause-gives
returns-in-Ok-clause-gives c = gives_results read_res_codec c.args.payload.now c.in-Ok.at c.read_data_results.result (sym c.in-Ok.ensures.is) c.read_data_results.ensures.gives

pub returns-in-Err-clause-gives : goal.returns-in-Err-clause-gives
returns-in-Err-clause-gives c = gives_no_results read_res_codec c.args.payload.now c.in-Err.end (sym c.in-Err.ensures.is)
