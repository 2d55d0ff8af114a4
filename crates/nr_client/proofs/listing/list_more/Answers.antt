use Rattle.nr_nfs_base.specs.Procedures.{nfs_program, nfs_version}
use Rattle.nr_client.specs.Listing.{listed_after, readdir_call}
use Rattle.nr_client.proofs.CallsMade.{asks_by_answer, asks_by_end}
use Rattle.nr_client.proofs.Outcomes.{writable}
use Rattle.nr_client.proofs.listing.list_more.Goals as goal

pub outcome_of-requires : goal.outcome_of-requires
outcome_of-requires g c = writable c.readdir_call-call.result nfs_program nfs_version 16 c.args.uid c.args.gid _ c.readdir_call-call.ensures

pub returns-in-Err-clause-asks : goal.returns-in-Err-clause-asks
returns-in-Err-clause-asks g c =
    asks_by_end g.L.Calls.relations _ (listed_after c.args.listed.now) (readdir_call c.args.uid c.args.gid c.args.dir.now c.args.listed.now.cookie c.args.listed.now.verifier) (g.L.Calls.at c.args.link.now) (g.L.Calls.at c.outcome_of.new.link) c.in-Err.end (c.in-Err.ensures.err _ c.readdir_call-call.ensures)

pub returns-in-Ok-clause-asks : goal.returns-in-Ok-clause-asks
returns-in-Ok-clause-asks g c =
    asks_by_answer g.L.Calls.relations (listed_after c.args.listed.now) (readdir_call c.args.uid c.args.gid c.args.dir.now c.args.listed.now.cookie c.args.listed.now.verifier) (g.L.Calls.at c.args.link.now) (g.L.Calls.at c.outcome_of.new.link) c.in-Ok.outcome _ (c.in-Ok.ensures.ok _ c.readdir_call-call.ensures) c.add_outcome.ensures.gives
