use Rattle.nr_laws.proofs.PlacedLinks.{journaled_links_are_at_places, placed_links_have_plain_replies, plain_links_have_plain_replies}
use Rattle.nr_laws.proofs.handover.plain_links.Goals as goal

pub returns-clause-at_places : goal.returns-clause-at_places
returns-clause-at_places c = journaled_links_are_at_places

pub returns-clause-replies : goal.returns-clause-replies
returns-clause-replies c = placed_links_have_plain_replies

pub returns-clause-journaled : goal.returns-clause-journaled
returns-clause-journaled c = plain_links_have_plain_replies
