use Rattle.nr_client.specs.Requests.{lookup_call}
use Rattle.nr_client.proofs.Walks.{asks_no_object, asks_object}
use Rattle.nr_client.proofs.walking.object_over.Goals as goal

pub returns-in-Ok-clause-asks : goal.returns-in-Ok-clause-asks
returns-in-Ok-clause-asks g c =
    asks_object g.L.Calls.relations (lookup_call c.args.uid c.args.gid c.args.dir.now c.args.name.now)
    (g.L.Calls.at c.args.link.now) (g.L.Calls.at c.ask_nfs.new.link) c.in-Ok.field-0 (c.in-Ok.ensures.asks _ c.lookup_call-call.ensures)

pub returns-in-Err-clause-asks : goal.returns-in-Err-clause-asks
returns-in-Err-clause-asks g c =
    asks_no_object g.L.Calls.relations (lookup_call c.args.uid c.args.gid c.args.dir.now c.args.name.now)
    (g.L.Calls.at c.args.link.now) (g.L.Calls.at c.ask_nfs.new.link) c.in-Err.end (c.in-Err.ensures.asks _ c.lookup_call-call.ensures)
