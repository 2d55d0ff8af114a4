use Rattle.std.proofs.Common.{List, ap, sym, subst, ◌∙◌}
use Rattle.nr_cache.specs.Caches.{Clients, RemembersAll}
use Rattle.nr_cache.specs.Entries.{KeptEntry}
use Rattle.nr_plain.specs.Stands.{IsServing, PlainServerState, cache_kept}
use Rattle.nr_plain.proofs.Remembering.{changes_more, found_same, serving_cache}
use Rattle.nr_plain.proofs.server.Server.make_ready.Goals as goal

pub invariant_of-self : goal.invariant_of-self
invariant_of-self c =
    let made : Clients = cache_kept c.make_room.new.cache in
    let same : (E : List KeptEntry) → RemembersAll E c.args.self.now.cache → RemembersAll E made =
    λ E r. c.make_room.ensures.same E (subst (RemembersAll E) (sym (ap (λ (k : PlainServerState). k.cache) c.self.view_is)) r) in
    let before : IsServing c.args.self.now = subst IsServing c.self.view_is c.self.invariant in
    subst (λ (k : PlainServerState). IsServing (record k { cache = made })) (sym c.self.view_is)
    (serving_cache c.args.self.now made before (changes_more c.args.self.now.cache made same before.remembers))

pub returns-clause-same : goal.returns-clause-same
returns-clause-same c = record {
  rest = ap (λ (k : PlainServerState). record k { cache = c.args.self.now.cache }) c.self.view_is;
  replies = λ E r. c.make_room.ensures.same E (subst (RemembersAll E) (sym (ap (λ (k : PlainServerState). k.cache) c.self.view_is)) r);
}

pub returns-clause-new : goal.returns-clause-new
returns-clause-new c xid new =
    let made : Clients = cache_kept c.make_room.new.cache in
    let same : (E : List KeptEntry) → RemembersAll E c.args.self.now.cache → RemembersAll E made =
    λ E r. c.make_room.ensures.same E (subst (RemembersAll E) (sym (ap (λ (k : PlainServerState). k.cache) c.self.view_is)) r) in
    let before : IsServing c.args.self.now = subst IsServing c.self.view_is c.self.invariant in
    found_same c.args.self.now.cache made c.args.client xid before.remembers same ∙ new
