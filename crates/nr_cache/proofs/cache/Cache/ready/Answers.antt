use Rattle.std.proofs.Common.{subst}
use Rattle.nr_cache.specs.Windows.{Replies, no_replies}
use Rattle.nr_cache.specs.Caches.{clients_of}
use Rattle.nr_cache.proofs.Caches.{ChangedAt, changed_to, has_key, has_others, has_own, no_key, remembers_room}
use Rattle.nr_cache.proofs.cache.Cache.ready.Goals as goal

pub returns-then-contains_key-clause-room : goal.returns-then-contains_key-clause-room
returns-then-contains_key-clause-room c =
    has_key c.args.self.now c.self.inside.clients c.self.view_is c.args.client c.contains_key.result c.contains_key.ensures c.if-contains_key.true

pub returns-clause-room : goal.returns-clause-room
returns-clause-room c =
    has_own c.args.self.now (clients_of c.insert.new.self) c.args.client c.in_ok-window.window
    (changed_to c.args.self.now c.self.inside.clients c.self.view_is c.insert.new.self c.args.client c.in_ok-window.window c.in_ok-insert.ensures.updates.0)

pub returns-clause-others : goal.returns-clause-others
returns-clause-others c =
    has_others c.args.self.now (clients_of c.insert.new.self) c.args.client c.in_ok-window.window
    (changed_to c.args.self.now c.self.inside.clients c.self.view_is c.insert.new.self c.args.client c.in_ok-window.window c.in_ok-insert.ensures.updates.0)

pub returns-clause-same : goal.returns-clause-same
returns-clause-same c E r =
    let change : ChangedAt c.args.self.now (clients_of c.insert.new.self) c.args.client c.in_ok-window.window =
    changed_to c.args.self.now c.self.inside.clients c.self.view_is c.insert.new.self c.args.client c.in_ok-window.window c.in_ok-insert.ensures.updates.0 in
    let empty : ChangedAt c.args.self.now (clients_of c.insert.new.self) c.args.client no_replies =
    subst (λ (w : Replies). ChangedAt c.args.self.now (clients_of c.insert.new.self) c.args.client w) c.in_ok-window.ensures change in
    remembers_room E c.args.self.now (clients_of c.insert.new.self) c.args.client empty
    (no_key c.args.self.now c.self.inside.clients c.self.view_is c.args.client c.contains_key.result c.contains_key.ensures c.if-contains_key.false) r
