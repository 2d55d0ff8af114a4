use Rattle.std.proofs.Common.{Some, None, refl, sym}
use Rattle.nr_cache.specs.Entries.{KeptEntry}
use Rattle.nr_cache.specs.Windows.{Replies}
use Rattle.nr_cache.specs.Caches.{clients_of}
use Rattle.nr_cache.proofs.Caches.{ChangedAt, absent, changed_to, get_is, has_others, remembers_kept}
use Rattle.nr_cache.proofs.cache.Cache.keep.Goals as goal

pub unreachable-requires : goal.unreachable-requires
unreachable-requires c = absent c.args.self.now c.args.client (get_is c.args.self.now c.self.inside.clients c.self.view_is c.args.client None c.in-None.ensures.value) c.requires.room

pub returns-clause-kept : goal.returns-clause-kept
returns-clause-kept c E r =
    let w : Replies = c.keep.new.self in
    let found = sym c.in-Some.ensures.value in
    let change : ChangedAt c.args.self.now (clients_of (c.get_mut.follows.lender w)) c.args.client w =
    changed_to c.args.self.now c.self.inside.clients c.self.view_is (c.get_mut.follows.lender w) c.args.client w
    ((c.get_mut.follows.holds w).3 (rw found refl)).0 in
    let e : KeptEntry = record { client = c.args.client; xid = c.args.xid; place = c.args.place; reply = c.args.reply } in
    remembers_kept E e c.args.self.now (clients_of (c.get_mut.follows.lender w)) c.in-Some.found.now w change
    (get_is c.args.self.now c.self.inside.clients c.self.view_is c.args.client (Some c.in-Some.found.now) c.in-Some.ensures.value) c.requires.new
    (λ F h new. c.keep.ensures.remembers F c.args.client h new) r

pub returns-clause-others : goal.returns-clause-others
returns-clause-others c =
    let w : Replies = c.keep.new.self in
    let found = sym c.in-Some.ensures.value in
    has_others c.args.self.now (clients_of (c.get_mut.follows.lender w)) c.args.client w
    (changed_to c.args.self.now c.self.inside.clients c.self.view_is (c.get_mut.follows.lender w) c.args.client w
    ((c.get_mut.follows.holds w).3 (rw found refl)).0)
