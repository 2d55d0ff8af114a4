use Rattle.nr_client.proofs.Answering.{forgotten_ended, hands_over, lacks_answer}
use Rattle.nr_client.proofs.calling.take_outcome.Goals as goal

pub unreachable-requires : goal.unreachable-requires
unreachable-requires c = lacks_answer c.args.ticket c.args.requester.now.state c.requires.there c.in-NotYet.ensures.taken.1.0

pub unreachable-requires-in-Failed : goal.unreachable-requires-in-Failed
unreachable-requires-in-Failed c = lacks_answer c.args.ticket c.args.requester.now.state c.requires.there c.in-Failed.ensures.taken.0

pub returns-clause-ended : goal.returns-clause-ended
returns-clause-ended c = forgotten_ended c.args.ticket c.args.requester.now c.try_take.new.self c.in-Done.ensures.taken.1.1

pub returns-clause-completes : goal.returns-clause-completes
returns-clause-completes c = hands_over c.args.ticket c.args.requester.now c.try_take.new.self _ c.in-Done.ensures.taken.0 c.in-Done.ensures.stands.0
