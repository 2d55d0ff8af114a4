use Rattle.nr_endpoint.proofs.StreamLaws.{stream_is_kept_lem, place_is_fed}
use Rattle.nr_endpoint.proofs.laws.stream_is_kept.Goals as goal

pub returns-clause-kept : goal.returns-clause-kept
returns-clause-kept c = stream_is_kept_lem

pub returns-clause-within : goal.returns-clause-within
returns-clause-within c = place_is_fed
