use Rattle.nr_plain.proofs.FirstReplies.{first_replies}
use Rattle.nr_plain.proofs.numbered.first_replies_are_kept.Goals as goal

pub returns : goal.returns
returns c = first_replies
