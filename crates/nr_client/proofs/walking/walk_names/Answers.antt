use Rattle.std.proofs.Common.{◌∙◌}
use Rattle.nr_client.specs.Walking.{walk_from}
use Rattle.nr_client.proofs.Sequences.{runs_out}
use Rattle.nr_client.proofs.Walks.{walk_ends, walk_goes_on, walk_stops}
use Rattle.nr_client.proofs.walking.walk_names.Goals as goal

pub returns-in_default-clause-follows : goal.returns-in_default-clause-follows
returns-in_default-clause-follows g c = runs_out g.L.Calls.relations (walk_from c.args.uid c.args.gid c.args.root.now c.args.names.now) (g.L.Calls.at c.args.link.now)

pub loop-name-preserved : goal.loop-name-preserved
loop-name-preserved g c = (
  c.in-Ok-object_over.ensures.faults ∙ c.loop-name.invariant.0,
  walk_goes_on g.L.Calls.relations c.args.uid c.args.gid (walk_from c.args.uid c.args.gid c.args.root.now c.args.names.now) c.loop-name.dir c.args.names.now c.loop-name.name-index c.name-item.result c.loop-name-test.true c.name-item.is
      (g.L.Calls.at c.args.link.now) (g.L.Calls.at c.loop-name.link) (g.L.Calls.at c.object_over.new.link) c.loop-name.invariant.1 c.in-Ok-object_over.object c.in-Ok-object_over.ensures.asks,
)

pub returns-in-Err-clause-follows : goal.returns-in-Err-clause-follows
returns-in-Err-clause-follows g c =
    walk_stops g.L.Calls.relations c.args.uid c.args.gid (walk_from c.args.uid c.args.gid c.args.root.now c.args.names.now) c.loop-name.dir c.args.names.now c.loop-name.name-index c.name-item.result c.loop-name-test.true c.name-item.is
    (g.L.Calls.at c.args.link.now) (g.L.Calls.at c.loop-name.link) (g.L.Calls.at c.object_over.new.link) c.loop-name.invariant.1 c.in-Err.end c.in-Err.ensures.asks

pub returns-clause-follows : goal.returns-clause-follows
returns-clause-follows g c =
    walk_ends g.L.Calls.relations c.args.uid c.args.gid (walk_from c.args.uid c.args.gid c.args.root.now c.args.names.now) c.loop-name.dir c.args.names.now c.loop-name.name-index
    (g.L.Calls.at c.args.link.now) (g.L.Calls.at c.loop-name.link) c.loop-name-test.false c.loop-name.invariant.1
