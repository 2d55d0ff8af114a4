use Rattle.nr_client.specs.Requests.{nfs_reads}
use Rattle.nr_client.proofs.CallsMade.{asks_by_answer, asks_by_end}
use Rattle.nr_client.proofs.Outcomes.{no_fault, of_call_result}
use Rattle.nr_client.proofs.asking.ask_nfs.Goals as goal

pub returns-in-Err-clause-asks : goal.returns-in-Err-clause-asks
returns-in-Err-clause-asks g c asked is =
    asks_by_end g.L.Calls.relations _ (nfs_reads g.D.Xdr.codec g.F.Xdr.codec) asked (g.L.Calls.at c.args.link.now) (g.L.Calls.at c.outcome_of.new.link) c.in-Err.end (c.in-Err.ensures.err asked is)

pub returns-clause-asks : goal.returns-clause-asks
returns-clause-asks g c asked is =
    asks_by_answer g.L.Calls.relations (nfs_reads g.D.Xdr.codec g.F.Xdr.codec) asked (g.L.Calls.at c.args.link.now) (g.L.Calls.at c.outcome_of.new.link) c.in-Ok.outcome c.nfs_results.result (c.in-Ok.ensures.ok asked is) c.nfs_results.ensures.gives

pub returns-clause-of_call : goal.returns-clause-of_call
returns-clause-of_call g c = of_call_result c.nfs_results.result c.nfs_results.ensures.of_reply

pub returns-clause-faults : goal.returns-clause-faults
returns-clause-faults g c =
    no_fault g.L.Calls.relations c.nfs_results.result (g.L.Calls.at c.args.link.now) (g.L.Calls.at c.outcome_of.new.link) c.nfs_results.ensures.of_reply c.in-Ok.ensures.faults
