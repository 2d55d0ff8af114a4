-- What a cache remembers, and what is found in it.
use Rattle.std.proofs.Common.{◌≡◌, ◌≢◌, ℕ, ◌+◌, ◌<◌, ◌≤◌, ◌^◌, Bool, true, false, cond, eqb, leb, List, [], ◌∷◌, ◌++◌, length, Option, None, Some, refl, sym, ap, subst, ◌∙◌, arith}
use Rattle.std.specs.Prelude.{All}
use Rattle.std.specs.FinMap.{empty, get, get-empty}
use Rattle.std.specs.Ordering.{nat_cmp}
use Rattle.std.specs.List.{find}
use Rattle.std.proofs.lemmas.Bool.{eqb-false, ne_eqb}
use Rattle.std.proofs.lemmas.List.Elements.{All-append, All-cons, All-filter, All-head, All-nil, All-tail}
use Rattle.nr_cache.specs.Entries.{KeptEntry, entries_of, found_for, found_in, kept_or_new, top_of, window}
use Rattle.nr_cache.specs.Entries.Finding.{KeptCall, OldCall, NewCall}
use Rattle.nr_cache.specs.Windows.{Replies}
use Rattle.nr_cache.specs.Caches.{Clients, HasClient, RemembersAll, RemembersBy, found_by, found_if}
use Rattle.nr_cache.proofs.Caches.{absent, found_exact}
use Rattle.nr_plain.specs.ReplySizes.{reply_max}
use Rattle.nr_tree.specs.Sane.{IsSane}
use Rattle.nr_tree.specs.Steps.{IsBelow}
use Rattle.nr_tree.specs.Tree.{Tree}
use Rattle.nr_plain.specs.Setup.{Parameters, Setup}
use Rattle.nr_plain.specs.Stands.{IsServing, PlainServerState, RemembersChanges}
use Rattle.nr_plain.specs.Numbered.{RepresentsTagged, finding, kept_replies}
use Rattle.nr_plain.specs.private.Executing.{IsFound, IsShort}
use Rattle.nr_reduce.specs.declared.mark.TaggedEntry.{TaggedEntry}
use Rattle.nr_plain.specs.declared.server.Reply.{Reply}

-- ===== what is found is what the entries say

-- whatever is remembered more
pub found_same : (C D : Clients) (client xid : ℕ) → RemembersChanges C → ((E : List KeptEntry) → RemembersAll E C → RemembersAll E D) → found_by D client xid ≡ found_by C client xid
found_same C D client xid is more = found_exact is.entries D client xid (more is.entries is.are) ∙ sym (found_exact is.entries C client xid is.are)

-- a call of a client with a number is what the cache of the server says
pub finding_is : (s : Setup) (T : List TaggedEntry) (client xid : ℕ) (kept : PlainServerState) → client ≢ 0 → RepresentsTagged s T kept → finding s T client xid ≡ found_by kept.cache client xid
finding_is s T client xid kept numbered is =
    ap (λ (b : Bool). cond b NewCall (found_for (kept_replies s T) client xid)) (ne_eqb client 0 numbered) ∙ sym (found_exact (kept_replies s T) kept.cache client xid is.remembers)

-- ===== without entries

none_there : (client : ℕ) → ◌≡◌ {A = Option Replies} (get (empty {X = Replies} {R = nat_cmp}) client) None
none_there client = get-empty nat_cmp client

remembers_none : (E : List KeptEntry) → RemembersAll E empty → E ≡ []
remembers_none [] is = refl
remembers_none (e ∷ E) is = absurd (own (eqb e.client e.client) refl (subst (RemembersBy (entries_of e.client (e ∷ E))) (none_there e.client) (is e.client)))
  where
    own : (b : Bool) → eqb e.client e.client ≡ b → cond b (e ∷ entries_of e.client E) (entries_of e.client E) ≡ [] → ⊥
    own true same none = cc
    own false same none = eqb-false e.client e.client same refl

pub none_remembered : RemembersAll [] empty
none_remembered client = subst (RemembersBy []) (sym (none_there client)) refl

-- a cache that wasn't made yet stands for no other entries than one that was just made
pub remembers_made : (E : List KeptEntry) (C D : Clients) → C ≡ empty → RemembersAll [] D → RemembersAll E C → RemembersAll E D
remembers_made E C D is made remembers =
    subst (λ (F : List KeptEntry). RemembersAll F D) (sym (remembers_none E (subst (RemembersAll E) is remembers))) made

pub none_new : (C : Clients) (client xid : ℕ) → C ≡ empty → found_by C client xid ≡ NewCall
unfolding found_by
none_new C client xid is = ap (λ (D : Clients). found_by D client xid) is ∙ ap (λ (o : Option Replies). found_if o xid) (none_there client)

pub none_has : (C : Clients) (client : ℕ) → C ≡ empty → HasClient C client → ⊥
none_has C client is = absent C client (ap (λ (D : Clients). get D client) is ∙ none_there client)

-- ===== a reply that is found is short

abbrev IsShortEntry : KeptEntry → Type 0
IsShortEntry e = length e.reply ≤ reply_max

found_all : (p : KeptEntry → Bool) (E : List KeptEntry) (k : KeptEntry) → All IsShortEntry E → find p E ≡ Some k → IsShortEntry k
found_all p [] k all is = absurd cc
found_all p (e ∷ E) k all is = by (p e) is (found_all p E k (All-tail IsShortEntry e E all))
  where
    by : (b : Bool) → cond b (Some e) (find p E) ≡ Some k → (find p E ≡ Some k → IsShortEntry k) → IsShortEntry k
    by true here rest = let same : e ≡ k = cc in subst IsShortEntry same (All-head IsShortEntry e E all)
    by false later rest = rest later

short_if : (o : Option KeptEntry) (place : ℕ) (reply : List ℕ) → ((k : KeptEntry) → o ≡ Some k → IsShortEntry k) → kept_or_new o ≡ KeptCall place reply → length reply ≤ reply_max
short_if None place reply all is = absurd cc
short_if (Some k) place reply all is = let same : k.reply ≡ reply = cc in subst (λ (r : List ℕ). length r ≤ reply_max) same (all k refl)

short_in : (E : List KeptEntry) (xid place : ℕ) (reply : List ℕ) → All IsShortEntry E → found_in E xid ≡ KeptCall place reply → length reply ≤ reply_max
unfolding found_in
short_in E xid place reply all is = by (leb (xid + window) (top_of E)) is
  where
    by : (b : Bool) → cond b (OldCall (top_of E)) (kept_or_new (find (λ (e : KeptEntry). eqb e.xid xid) E)) ≡ KeptCall place reply → length reply ≤ reply_max
    by true old = absurd cc
    by false kept = short_if (find (λ (e : KeptEntry). eqb e.xid xid) E) place reply (λ k found. found_all (λ (e : KeptEntry). eqb e.xid xid) E k all found) kept

found_short : (C : Clients) (client xid place : ℕ) (reply : List ℕ) → RemembersChanges C → found_by C client xid ≡ KeptCall place reply → length reply ≤ reply_max
unfolding found_for
found_short C client xid place reply is found =
    short_in (entries_of client is.entries) xid place reply (All-filter (λ (e : KeptEntry). eqb e.client client) IsShortEntry is.entries is.short)
    (sym (found_exact is.entries C client xid is.are) ∙ found)

pub found_is_short : (C : Clients) (client xid : ℕ) (r : Option Reply) → RemembersChanges C → IsFound r (found_by C client xid) → IsShort r
found_is_short C client xid None is found = tt
found_is_short C client xid (Some r) is found = found_short C client xid r.place r.payload is found

-- ===== some changes are remembered

none_changes : RemembersChanges empty
none_changes = record { entries = []; are = none_remembered; short = All-nil IsShortEntry }

pub changes_more : (C D : Clients) → ((E : List KeptEntry) → RemembersAll E C → RemembersAll E D) → RemembersChanges C → RemembersChanges D
changes_more C D more is = record { entries = is.entries; are = more is.entries is.are; short = is.short }

pub changes_kept : (C D : Clients) (e : KeptEntry) → length e.reply ≤ reply_max → ((E : List KeptEntry) → RemembersAll E C → RemembersAll (E ++ e ∷ []) D) → RemembersChanges C → RemembersChanges D
changes_kept C D e short keeps is = record {
  entries = is.entries ++ e ∷ [];
  are = keeps is.entries is.are;
  short = All-append IsShortEntry is.entries (e ∷ []) is.short (All-cons IsShortEntry e [] short (All-nil IsShortEntry));
}

-- the server with another cache
pub serving_cache : (k : PlainServerState) (C : Clients) → IsServing k → RemembersChanges C → IsServing (record k { cache = C })
serving_cache k C is changes = record {
  sane = is.sane;
  below = is.below;
  counted = is.counted;
  within = is.within;
  capacity = is.capacity;
  remembers = changes;
}

-- a server that was just opened
pub opened_serving : (tree : Tree) (prm : Parameters) → IsSane tree → IsBelow (2 ^ 62) tree → prm.capacity < 2 ^ 63
    → IsServing (record { tree = tree; count = 0; cost = 0; parameters = prm; cache = empty })
opened_serving tree prm sane below capacity = record {
  sane = sane;
  below = let none : 2 ^ 62 ≡ 2 ^ 62 + 0 = omega arith in subst (λ (l : ℕ). IsBelow l tree) none below;
  counted = omega arith;
  within = omega arith;
  capacity = capacity;
  remembers = none_changes;
}
