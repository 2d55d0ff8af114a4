use Rattle.std.proofs.Common.{sym}
use Rattle.nr_client.proofs.session.Session.walk_to_parent.Goals as goal

pub returns-clause-follows : goal.returns-clause-follows
returns-clause-follows g c = rw (sym c.self.view_is) c.walk_to_parent_over.ensures.follows
