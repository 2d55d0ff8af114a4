use Rattle.nr_ops_list.proofs.ListingLimits.{within_limit, above_limit, plus_within_limit, plus_above_limit, is_longest}
use Rattle.nr_ops_list.proofs.counts.listing_limit.Goals as goal

pub returns-clause-within : goal.returns-clause-within
returns-clause-within c = within_limit

pub returns-clause-above : goal.returns-clause-above
returns-clause-above c = above_limit

pub returns-clause-plus_within : goal.returns-clause-plus_within
returns-clause-plus_within c = plus_within_limit

pub returns-clause-plus_above : goal.returns-clause-plus_above
returns-clause-plus_above c = plus_above_limit

pub returns-clause-longest : goal.returns-clause-longest
returns-clause-longest c = is_longest
