use Rattle.nr_turnstile.proofs.Open.{begins_open}
use Rattle.nr_turnstile.proofs.laws.begins_open.Goals as goal

pub returns : goal.returns
returns g c = begins_open g.M.Machine.stands g.M.Machine.closes
