use Rattle.nr_service_laws.proofs.ReplyCommands.{replies_exclude_ends_lem}
use Rattle.nr_service_laws.proofs.laws.replies_exclude_ends.Goals as goal

pub returns : goal.returns
returns c = replies_exclude_ends_lem
