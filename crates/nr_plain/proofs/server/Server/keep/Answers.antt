use Rattle.std.proofs.Common.{◌≡◌, ap, sym, subst, ◌∙◌}
use Rattle.nr_cache.specs.Caches.{Clients, HasClient, RemembersAll, found_by}
use Rattle.nr_cache.specs.Entries.Finding.{NewCall}
use Rattle.nr_plain.specs.Stands.{IsServing, PlainServerState, RemembersChanges, cache_kept}
use Rattle.nr_plain.proofs.Remembering.{changes_kept, none_has, serving_cache}
use Rattle.nr_plain.proofs.server.Server.keep.Goals as goal

pub keep-requires-clause-room : goal.keep-requires-clause-room
keep-requires-clause-room c =
    let is : c.args.self.now.cache ≡ c.in-Some.cache = sym (ap (λ (k : PlainServerState). k.cache) c.self.view_is) ∙ ap cache_kept c.in-Some.is in
    subst (λ (C : Clients). HasClient C c.args.client) is c.requires.room

pub keep-requires-clause-new : goal.keep-requires-clause-new
keep-requires-clause-new c =
    let is : c.args.self.now.cache ≡ c.in-Some.cache = sym (ap (λ (k : PlainServerState). k.cache) c.self.view_is) ∙ ap cache_kept c.in-Some.is in
    subst (λ (C : Clients). found_by C c.args.client c.args.xid ≡ NewCall) is c.requires.new

pub unreachable-requires : goal.unreachable-requires
unreachable-requires c =
    none_has c.args.self.now.cache c.args.client (sym (ap (λ (k : PlainServerState). k.cache) c.self.view_is) ∙ ap cache_kept c.in-None.is) c.requires.room

pub invariant_of-self : goal.invariant_of-self
invariant_of-self c =
    let is : c.args.self.now.cache ≡ c.in-Some.cache = sym (ap (λ (k : PlainServerState). k.cache) c.self.view_is) ∙ ap cache_kept c.in-Some.is in
    let before : IsServing c.args.self.now = subst IsServing c.self.view_is c.self.invariant in
    let changes : RemembersChanges c.keep.new.self =
    changes_kept c.in-Some.cache c.keep.new.self (record { client = c.args.client; xid = c.args.xid; place = c.args.place; reply = c.args.reply }) c.requires.short c.keep.ensures.kept
    (subst RemembersChanges is before.remembers) in
    subst (λ (k : PlainServerState). IsServing (record k { cache = c.keep.new.self })) (sym c.self.view_is) (serving_cache c.args.self.now c.keep.new.self before changes)

pub returns-clause-rest : goal.returns-clause-rest
returns-clause-rest c = ap (λ (k : PlainServerState). record k { cache = c.args.self.now.cache }) c.self.view_is

pub returns-clause-kept : goal.returns-clause-kept
returns-clause-kept c E r =
    let is : c.args.self.now.cache ≡ c.in-Some.cache = sym (ap (λ (k : PlainServerState). k.cache) c.self.view_is) ∙ ap cache_kept c.in-Some.is in
    c.keep.ensures.kept E (subst (RemembersAll E) is r)
