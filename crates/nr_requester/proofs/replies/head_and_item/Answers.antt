use Rattle.nr_requester.proofs.ReplyParts.{headless}
use Rattle.nr_requester.proofs.replies.head_and_item.Goals as goal

pub returns-in_default-clause-exact : goal.returns-in_default-clause-exact
returns-in_default-clause-exact c = headless c.args.of.now c.args.stream.now c.in_default.ensures.0 c.requires.reply c.in_default.ensures.1
