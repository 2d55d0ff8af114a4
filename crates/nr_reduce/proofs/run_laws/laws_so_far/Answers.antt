use Rattle.std.proofs.Common.{[]}
use Rattle.nr_reduce.proofs.SoFarLaws.{so_far, first_part}
use Rattle.nr_reduce.proofs.Standing.{AtEachMark_more}
use Rattle.nr_reduce.specs.Matched.{IsPrefixOf}
use Rattle.nr_reduce.specs.Asked.{AskedMark}
use Rattle.nr_reduce.specs.Served.{ServedMark}
use Rattle.nr_reduce.proofs.run_laws.laws_so_far.Goals as goal

pub returns-clause-full : goal.returns-clause-full
returns-clause-full c = so_far

pub returns-clause-before : goal.returns-clause-before
returns-clause-before c = first_part

pub returns-clause-asked : goal.returns-clause-asked
returns-clause-asked c = λ opened link run mark h p. AtEachMark_more (AskedMark IsPrefixOf opened link) [] run mark h p

pub returns-clause-served : goal.returns-clause-served
returns-clause-served c = λ opened link run mark h p. AtEachMark_more (ServedMark IsPrefixOf opened link) [] run mark h p
