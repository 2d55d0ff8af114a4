use Rattle.std.proofs.Common.{ℕ, List}
use Rattle.nr_nfs_base.specs.Procedures.{mount_program, mount_version}
use Rattle.nr_client.specs.Requests.{mnt_call, mnt_result}
use Rattle.nr_client.proofs.CallsMade.{asks_by_answer, asks_by_end}
use Rattle.nr_client.proofs.Outcomes.{no_fault, writable}
use Rattle.nr_client.proofs.asking.mount_over.Goals as goal

pub outcome_of-requires : goal.outcome_of-requires
outcome_of-requires g c = writable c.mnt_call.result mount_program mount_version 1 c.args.uid c.args.gid _ c.mnt_call.ensures

pub returns-in-Err-clause-asks : goal.returns-in-Err-clause-asks
returns-in-Err-clause-asks g c =
    asks_by_end g.L.Calls.relations (List ℕ) mnt_result (mnt_call c.args.uid c.args.gid c.args.export.now) (g.L.Calls.at c.args.link.now) (g.L.Calls.at c.outcome_of.new.link) c.in-Err.end (c.in-Err.ensures.err _ c.mnt_call.ensures)

pub returns-clause-asks : goal.returns-clause-asks
returns-clause-asks g c =
    asks_by_answer g.L.Calls.relations mnt_result (mnt_call c.args.uid c.args.gid c.args.export.now) (g.L.Calls.at c.args.link.now) (g.L.Calls.at c.outcome_of.new.link) c.in-Ok.outcome c.handle_in.result (c.in-Ok.ensures.ok _ c.mnt_call.ensures) c.handle_in.ensures.gives

pub returns-clause-faults : goal.returns-clause-faults
returns-clause-faults g c =
    no_fault g.L.Calls.relations c.handle_in.result (g.L.Calls.at c.args.link.now) (g.L.Calls.at c.outcome_of.new.link) c.handle_in.ensures.of_reply c.in-Ok.ensures.faults
