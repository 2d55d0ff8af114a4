use Rattle.std.proofs.Common.{sym}
use Rattle.nr_client.proofs.session.Session.list.Goals as goal

pub returns-clause-follows : goal.returns-clause-follows
returns-clause-follows g c = rw (sym c.self.view_is) c.list_over.ensures.follows
