use Rattle.nr_turnstile.proofs.Open.{stays_open}
use Rattle.nr_turnstile.proofs.laws.stays_open.Goals as goal

pub returns : goal.returns
returns g c = stays_open g.M.Machine.stands g.M.Machine.closes
