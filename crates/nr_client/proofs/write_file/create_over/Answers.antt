use Rattle.std.proofs.Common.{ℕ, List}
use Rattle.nr_nfs_base.specs.Procedures.{nfs_program, nfs_version}
use Rattle.nr_client.specs.Writing.{create_call, created_file}
use Rattle.nr_client.proofs.CallsMade.{asks_by_answer, asks_by_end}
use Rattle.nr_client.proofs.Outcomes.{writable}
use Rattle.nr_client.proofs.write_file.create_over.Goals as goal

pub outcome_of-requires : goal.outcome_of-requires
outcome_of-requires g c = writable c.create_call.result nfs_program nfs_version 8 c.args.uid c.args.gid _ c.create_call.ensures

pub returns-in-Err-clause-asks : goal.returns-in-Err-clause-asks
returns-in-Err-clause-asks g c =
    asks_by_end g.L.Calls.relations (List ℕ) created_file (create_call c.args.uid c.args.gid c.args.dir.now c.args.name.now) (g.L.Calls.at c.args.link.now) (g.L.Calls.at c.outcome_of.new.link)
    c.in-Err.end (c.in-Err.ensures.err _ c.create_call.ensures)

pub returns-clause-asks : goal.returns-clause-asks
returns-clause-asks g c =
    asks_by_answer g.L.Calls.relations created_file (create_call c.args.uid c.args.gid c.args.dir.now c.args.name.now) (g.L.Calls.at c.args.link.now) (g.L.Calls.at c.outcome_of.new.link)
    c.in-Ok.outcome c.created_in.result (c.in-Ok.ensures.ok _ c.create_call.ensures) c.created_in.ensures.gives
