use Rattle.std.proofs.Common.{length}
use Rattle.nr_client.specs.Walking.{parent_along}
use Rattle.nr_client.proofs.Walks.{bad_path}
use Rattle.nr_client.proofs.walking.walk_to_parent_over.Goals as goal

pub returns-in-Err-clause-follows : goal.returns-in-Err-clause-follows
returns-in-Err-clause-follows g c =
    bad_path g.L.Calls.relations c.args.path.now c.in-Err.end (λ names. parent_along c.args.uid c.args.gid c.args.root.now (length c.args.path.now) names)
    (g.L.Calls.at c.args.link.now) c.in-Err.ensures.gives
