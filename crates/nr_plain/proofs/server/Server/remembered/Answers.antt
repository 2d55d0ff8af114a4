use Rattle.std.proofs.Common.{◌≡◌, ap, sym, subst, ◌∙◌}
use Rattle.std.proofs.lemmas.Result.{IfErr-weaker, IfOk-weaker}
use Rattle.nr_cache.specs.Caches.{Clients, found_by}
use Rattle.nr_cache.specs.Windows.{finding_of}
use Rattle.nr_plain.specs.Stands.{IsServing, PlainServerState, cache_kept}
use Rattle.nr_plain.specs.private.Executing.{IsFound, IsRefusedBy}
use Rattle.nr_plain.proofs.Remembering.{found_is_short, none_new}
use Rattle.nr_plain.proofs.server.Server.remembered.Goals as goal

pub returns-in-None-clause-found : goal.returns-in-None-clause-found
returns-in-None-clause-found c = none_new c.args.self.now.cache _ _ (sym (ap (λ (k : PlainServerState). k.cache) c.self.view_is) ∙ ap cache_kept c.in-None.is)

pub returns-in-Some-clause-found : goal.returns-in-Some-clause-found
returns-in-Some-clause-found c =
    let is : c.in-Some.cache ≡ c.args.self.now.cache = sym (ap cache_kept c.in-Some.is) ∙ ap (λ (k : PlainServerState). k.cache) c.self.view_is in
    let at : finding_of c.find.result ≡ found_by c.args.self.now.cache c.args.client c.args.xid = c.find.ensures.by ∙ ap (λ (C : Clients). found_by C c.args.client c.args.xid) is in
    IfOk-weaker c.reply_found.result _ _ (λ r f. subst (IsFound r) at f) c.reply_found.ensures.found

pub returns-in-Some-clause-short : goal.returns-in-Some-clause-short
returns-in-Some-clause-short c =
    let is : c.in-Some.cache ≡ c.args.self.now.cache = sym (ap cache_kept c.in-Some.is) ∙ ap (λ (k : PlainServerState). k.cache) c.self.view_is in
    let at : finding_of c.find.result ≡ found_by c.args.self.now.cache c.args.client c.args.xid = c.find.ensures.by ∙ ap (λ (C : Clients). found_by C c.args.client c.args.xid) is in
    let serving : IsServing c.args.self.now = subst IsServing c.self.view_is c.self.invariant in
    IfOk-weaker c.reply_found.result _ _ (λ r f. found_is_short c.args.self.now.cache c.args.client c.args.xid r serving.remembers (subst (IsFound r) at f)) c.reply_found.ensures.found

pub returns-in-Some-clause-refused : goal.returns-in-Some-clause-refused
returns-in-Some-clause-refused c =
    let is : c.in-Some.cache ≡ c.args.self.now.cache = sym (ap cache_kept c.in-Some.is) ∙ ap (λ (k : PlainServerState). k.cache) c.self.view_is in
    let at : finding_of c.find.result ≡ found_by c.args.self.now.cache c.args.client c.args.xid = c.find.ensures.by ∙ ap (λ (C : Clients). found_by C c.args.client c.args.xid) is in
    IfErr-weaker c.reply_found.result _ _ (λ e f. subst (IsRefusedBy e) at f) c.reply_found.ensures.refused
