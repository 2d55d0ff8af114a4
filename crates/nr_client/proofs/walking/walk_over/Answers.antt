use Rattle.nr_client.specs.Walking.{walk_from}
use Rattle.nr_client.proofs.Walks.{bad_path}
use Rattle.nr_client.proofs.walking.walk_over.Goals as goal

pub returns-in-Err-clause-follows : goal.returns-in-Err-clause-follows
returns-in-Err-clause-follows g c =
    bad_path g.L.Calls.relations c.args.path.now c.in-Err.end (λ names. walk_from c.args.uid c.args.gid c.args.root.now names)
    (g.L.Calls.at c.args.link.now) c.in-Err.ensures.gives
