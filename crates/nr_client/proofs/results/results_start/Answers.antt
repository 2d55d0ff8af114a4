use Rattle.nr_client.proofs.Outcomes.{begins_within}
use Rattle.nr_client.proofs.results.results_start.Goals as goal

pub returns-then-stat-eq0-clause-within : goal.returns-then-stat-eq0-clause-within
returns-then-stat-eq0-clause-within c =
    begins_within c.in-Ok-Accepted.field-0 c.in-Ok-Accepted.field-0-0 c.in-Ok-Accepted.stat c.in-Ok-Accepted.results_at c.args.payload.now c.in-Ok-Accepted.field-0-is c.in-Ok-Accepted.ensures.found
