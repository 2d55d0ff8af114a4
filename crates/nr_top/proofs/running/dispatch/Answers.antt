use Rattle.std.proofs.Common.{refl}
use denote.Param.Send.{sendable}
use Rattle.nr_top.proofs.Lines.{has_jobs, has_numbers, has_ranges}
use Rattle.nr_top.proofs.running.dispatch.Goals as goal

pub returns-in-Client : goal.returns-in-Client
returns-in-Client g c = rw c.in-Client.is (c.run_client.ensures, record { acceptor = refl; spawner = refl; gates = refl; gave = refl })

pub returns-in-NumberedClient : goal.returns-in-NumberedClient
returns-in-NumberedClient g c = rw c.in-NumberedClient.is (c.run_numbered_client.ensures, record { acceptor = refl; spawner = refl; gates = refl; gave = refl })

pub run_numbered_client-requires : goal.run_numbered_client-requires
run_numbered_client-requires g c = has_numbers c.args.command.now _ c.in-NumberedClient.is c.requires.line

pub returns-in-GetByJobs : goal.returns-in-GetByJobs
returns-in-GetByJobs g c = rw c.in-GetByJobs.is (c.run_get.ensures, (refl, record { acceptor = refl; spawner = refl; gates = refl; gave = refl }))

pub returns-in-Serve : goal.returns-in-Serve
returns-in-Serve g c = rw c.in-Serve.is (c.run_server.ensures, (refl, refl))

pub returns-in-Gate : goal.returns-in-Gate
returns-in-Gate g c = rw c.in-Gate.is (c.run_gateway.ensures, (refl, refl))

pub returns-in-Drill : goal.returns-in-Drill
returns-in-Drill g c = rw c.in-Drill.is (c.run_drill.ensures, (refl, record { acceptor = refl; spawner = refl; gates = refl; gave = refl }))

pub returns-in-GeneratedDrill : goal.returns-in-GeneratedDrill
returns-in-GeneratedDrill g c = rw c.in-GeneratedDrill.is (c.run_drill-in-GeneratedDrill.ensures, (refl, record { acceptor = refl; spawner = refl; gates = refl; gave = refl }))

pub run_drill-requires-in-GeneratedDrill : goal.run_drill-requires-in-GeneratedDrill
run_drill-requires-in-GeneratedDrill g c = has_ranges c.args.command.now _ _ _ _ c.in-GeneratedDrill.is c.requires.line

pub run_get-requires : goal.run_get-requires
run_get-requires g c = (search sendable depth 40, (search sendable depth 40, (search sendable depth 40, has_jobs c.args.command.now _ c.in-GetByJobs.is c.requires.line)))
