use Rattle.nr_laws.proofs.PlainReplies.{replies_are_plain, replies_are_plain_at_places}
use Rattle.nr_laws.proofs.handover.replies_are_plain.Goals as goal

pub returns-clause-at_places : goal.returns-clause-at_places
returns-clause-at_places c = replies_are_plain_at_places

pub returns-clause-journaled : goal.returns-clause-journaled
returns-clause-journaled c = replies_are_plain
