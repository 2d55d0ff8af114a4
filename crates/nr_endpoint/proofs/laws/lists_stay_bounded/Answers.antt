use Rattle.nr_endpoint.proofs.KeptLists.{held_regions_are_registered, waiting_sends_have_bytes}
use Rattle.nr_endpoint.proofs.laws.lists_stay_bounded.Goals as goal

pub returns-clause-sends : goal.returns-clause-sends
returns-clause-sends c = waiting_sends_have_bytes

pub returns-clause-regions : goal.returns-clause-regions
returns-clause-regions c = held_regions_are_registered
