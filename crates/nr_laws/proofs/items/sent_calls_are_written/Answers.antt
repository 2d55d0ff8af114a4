use Rattle.nr_laws.proofs.SentCalls.{sent_calls_are_written}
use Rattle.nr_laws.proofs.items.sent_calls_are_written.Goals as goal

pub returns : goal.returns
returns c = sent_calls_are_written
