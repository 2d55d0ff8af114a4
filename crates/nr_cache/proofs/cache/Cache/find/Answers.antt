use Rattle.std.proofs.Common.{Some, None, ◌∙◌, arith}
use Rattle.nr_cache.proofs.Caches.{found_exact, found_here, get_is, kept_here}
use Rattle.nr_cache.proofs.cache.Cache.find.Goals as goal

pub returns-in-Some-clause-by : goal.returns-in-Some-clause-by
returns-in-Some-clause-by c =
    c.find.ensures.found
    ∙ found_here c.args.self.now c.args.client c.args.xid (Some c.in-Some.found.now)
    (get_is c.args.self.now c.self.inside.clients c.self.view_is c.args.client (Some c.in-Some.found.now) c.in-Some.ensures.value)

pub returns-in-Some-clause-exact : goal.returns-in-Some-clause-exact
returns-in-Some-clause-exact c E r =
    c.find.ensures.found
    ∙ found_here c.args.self.now c.args.client c.args.xid (Some c.in-Some.found.now)
    (get_is c.args.self.now c.self.inside.clients c.self.view_is c.args.client (Some c.in-Some.found.now) c.in-Some.ensures.value)
    ∙ found_exact E c.args.self.now c.args.client c.args.xid r

pub returns-in-Some-clause-bounded : goal.returns-in-Some-clause-bounded
returns-in-Some-clause-bounded c =
    kept_here c.args.self.now c.args.client (Some c.in-Some.found.now)
    (get_is c.args.self.now c.self.inside.clients c.self.view_is c.args.client (Some c.in-Some.found.now) c.in-Some.ensures.value) c.find.ensures.bounded

pub returns-in-None-clause-by : goal.returns-in-None-clause-by
returns-in-None-clause-by c =
    found_here c.args.self.now c.args.client c.args.xid None (get_is c.args.self.now c.self.inside.clients c.self.view_is c.args.client None c.in-None.ensures.value)

pub returns-in-None-clause-exact : goal.returns-in-None-clause-exact
returns-in-None-clause-exact c E r =
    found_here c.args.self.now c.args.client c.args.xid None (get_is c.args.self.now c.self.inside.clients c.self.view_is c.args.client None c.in-None.ensures.value)
    ∙ found_exact E c.args.self.now c.args.client c.args.xid r

pub returns-in-None-clause-bounded : goal.returns-in-None-clause-bounded
returns-in-None-clause-bounded c =
    kept_here c.args.self.now c.args.client None (get_is c.args.self.now c.self.inside.clients c.self.view_is c.args.client None c.in-None.ensures.value) (omega arith)
