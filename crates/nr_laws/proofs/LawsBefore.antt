-- The laws of a link at the first marks of a run.
use Rattle.std.proofs.Common.{[]}
use Rattle.nr_reduce.specs.Credits.{WithinGrant}
use Rattle.nr_reduce.specs.Matched.{MatchedMark}
use Rattle.nr_reduce.specs.Asked.{AskedMark, IsAll}
use Rattle.nr_reduce.specs.Served.{ServedMark}
use Rattle.nr_reduce.proofs.Steps.{AtEachMark_first}
use Rattle.nr_laws.specs.EndCauses.{LawsKeptBefore}

pub laws_kept_before : LawsKeptBefore
laws_kept_before opened link run more laws = record {
  client = AtEachMark_first (AskedMark IsAll opened link) [] run more laws.client;
  server = AtEachMark_first (ServedMark IsAll opened link) [] run more laws.server;
  matched = AtEachMark_first (MatchedMark link) [] run more laws.matched;
  grant = AtEachMark_first (WithinGrant opened link) [] run more laws.grant;
}
