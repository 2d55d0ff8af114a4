use Rattle.std.proofs.Common.{refl}
use Rattle.nr_plain.proofs.Remembering.{none_remembered, opened_serving}
use Rattle.nr_plain.proofs.server.Server.open.Goals as goal

pub invariant_of-result : goal.invariant_of-result
invariant_of-result c =
    opened_serving c.args.tree (record { capacity = c.args.capacity; verifier = c.args.verifier; export = c.args.export }) c.facts.ensures c.requires.below c.requires.capacity

pub returns-clause-journal : goal.returns-clause-journal
returns-clause-journal c = record { tree = refl; cost = refl; count = refl; parameters = refl }

pub returns-clause-numbered : goal.returns-clause-numbered
returns-clause-numbered c = record { journal = record { tree = refl; cost = refl; count = refl; parameters = refl }; remembers = none_remembered }
