use Rattle.std.proofs.Common.{Option, ap, subst}
use Rattle.nr_cache.specs.Caches.{Clients, RemembersAll}
use Rattle.nr_plain.specs.Stands.{cache_kept}
use Rattle.nr_plain.proofs.Remembering.{remembers_made}
use Rattle.nr_plain.proofs.server.make_room.Goals as goal

pub returns-in-Some-clause-same : goal.returns-in-Some-clause-same
returns-in-Some-clause-same c E r = c.ready.ensures.same E (subst (λ (o : Option Clients). RemembersAll E (cache_kept o)) c.in-Some.is r)

pub returns-in_err-ready-clause-same : goal.returns-in_err-ready-clause-same
returns-in_err-ready-clause-same c E r = r

pub returns-clause-same : goal.returns-clause-same
returns-clause-same c E r =
    c.in_ok-ready.ensures.same E (remembers_made E (cache_kept c.args.cache.now) c.new-made.result (ap cache_kept c.in_default.is) c.new-made.ensures r)
