-- The laws of a link hold so far if each Wrote writes all output due.
use Rattle.std.proofs.Common.{ℕ, List, []}
use Rattle.nr_reduce.specs.declared.mark.Mark.{Mark}
use Rattle.nr_reduce.specs.declared.mark.LinkParameters.{LinkParameters}
use Rattle.nr_reduce.specs.Matched.{IsPrefixOf, Matched}
use Rattle.nr_reduce.specs.Asked.{AskedMark, IsAll}
use Rattle.nr_reduce.specs.Served.{ServedMark}
use Rattle.nr_reduce.proofs.SoFarLaws.{AtEachMark_each, asked_mark, served_mark}
use Rattle.nr_laws.specs.MatchedSoFar.{MatchedSoFar}
use Rattle.nr_reduce.specs.AtEachMark.{AtEachMark}

pub laws_so_far_lem : (opened : LinkParameters) (link : ℕ) (run : List Mark) → AtEachMark (AskedMark IsAll opened link) [] run → AtEachMark (ServedMark IsAll opened link) [] run → Matched link run → MatchedSoFar opened link run
laws_so_far_lem opened link run asked served matched = record {
  asked = AtEachMark_each (AskedMark IsAll opened link) (AskedMark IsPrefixOf opened link) [] run (asked_mark opened link) asked;
  served = AtEachMark_each (ServedMark IsAll opened link) (ServedMark IsPrefixOf opened link) [] run (served_mark opened link) served;
  matched = matched;
}
