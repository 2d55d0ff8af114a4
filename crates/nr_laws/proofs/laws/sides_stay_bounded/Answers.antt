use Rattle.nr_laws.proofs.FewSegments.{client_offers_few_segments}
use Rattle.nr_laws.proofs.BoundedSides.{client_owes_few_responses, server_reads_few, server_uses_its_receives}
use Rattle.nr_laws.proofs.laws.sides_stay_bounded.Goals as goal

pub returns-clause-responses : goal.returns-clause-responses
returns-clause-responses c = client_owes_few_responses

pub returns-clause-reads : goal.returns-clause-reads
returns-clause-reads c = server_reads_few

pub returns-clause-receives : goal.returns-clause-receives
returns-clause-receives c = server_uses_its_receives

pub returns-clause-segments : goal.returns-clause-segments
returns-clause-segments c = client_offers_few_segments
