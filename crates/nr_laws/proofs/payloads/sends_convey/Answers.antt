use Rattle.nr_laws.proofs.SubmittedSends.{sends_convey, own_sends_convey}
use Rattle.nr_laws.proofs.payloads.sends_convey.Goals as goal

pub returns-clause-read : goal.returns-clause-read
returns-clause-read c = sends_convey

pub returns-clause-own : goal.returns-clause-own
returns-clause-own c = own_sends_convey
