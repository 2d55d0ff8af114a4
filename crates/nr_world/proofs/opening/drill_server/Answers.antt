use Rattle.std.proofs.Common.{ℕ, ◌^◌, List, [], arith, subst}
use Rattle.nr_plain.specs.Numbered.{RepresentsTagged}
use Rattle.nr_world.proofs.OpenLinks.{below_more}
use Rattle.nr_world.proofs.opening.drill_server.Goals as goal

pub open-requires-clause-below : goal.open-requires-clause-below
open-requires-clause-below c = below_more 106 (2 ^ 62) c.in-Ok.tree (omega arith) c.in-Ok.ensures.below

pub open-requires-clause-capacity : goal.open-requires-clause-capacity
open-requires-clause-capacity c = omega (arith, c.requires)

pub returns : goal.returns
returns c = (
  c.in-Ok.tree,
  record { drill = c.in-Ok.ensures.ok; sane = c.facts.ensures },
  subst (λ (export : List ℕ). RepresentsTagged (record { tree = c.in-Ok.tree; parameters = record { capacity = c.args.opening.capacity; verifier = record { number = 1 }; export = export } }) [] c.open.result)
      c.in_ok-export.ensures c.open.ensures.numbered,
)
