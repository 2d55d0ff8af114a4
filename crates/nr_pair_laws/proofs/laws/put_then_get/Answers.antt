use Rattle.nr_pair_laws.proofs.AnyReads.{any_read}
use Rattle.nr_pair_laws.proofs.PutThenGet.{get_gives, others_keep, put_leaves, put_then_get}
use Rattle.nr_pair_laws.proofs.laws.put_then_get.Goals as goal

pub returns-clause-left : goal.returns-clause-left
returns-clause-left c = put_leaves

pub returns-clause-kept : goal.returns-clause-kept
returns-clause-kept c = others_keep

pub returns-clause-given : goal.returns-clause-given
returns-clause-given c = get_gives

pub returns-clause-both : goal.returns-clause-both
returns-clause-both c = put_then_get

pub returns-clause-read : goal.returns-clause-read
returns-clause-read c = any_read
