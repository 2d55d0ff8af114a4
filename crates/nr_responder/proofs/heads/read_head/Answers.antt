use Rattle.nr_responder.proofs.ReadHeads.{head_is, no_head}
use Rattle.nr_responder.proofs.heads.read_head.Goals as goal

pub returns-in-Some : goal.returns-in-Some
returns-in-Some c = head_is c.args.stream.now c.in-Some.parts c.call_item_of.result c.in-Some.ensures c.call_item_of.ensures.exact

pub returns-in-None : goal.returns-in-None
returns-in-None c = no_head c.args.stream.now c.in-None.ensures
