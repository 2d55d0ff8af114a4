use Rattle.nr_header.proofs.Messages.{message_is_bad}
use Rattle.nr_header.proofs.laws.bad_messages.Goals as goal

pub returns : goal.returns
returns c = message_is_bad
