-- The replies of a client among those of all.
use Rattle.std.proofs.Common.{◌≡◌, ℕ, ◌≤◌, ◌%◌, Bool, cond, List, [], ◌∷◌, ◌++◌, Option, None, Some, is_some, true, false, refl, sym, ap, subst, ◌∙◌, inl, inr, arith}
use Rattle.std.specs.Prelude.{nat_eq}
use Rattle.std.specs.Ordering.{nat_cmp}
use Rattle.std.specs.Cmp.{nat_cmp_total, unsigned_tied}
use Rattle.std.specs.Map.{lookup}
use Rattle.std.specs.HashMap.{HashMap}
use Rattle.std.specs.HashMap as hash
use Rattle.std.specs.FinMap.{find, get, get-from_entries}
use Rattle.std.proofs.lemmas.Bool.{eq-eqb, ne_eqb, cases_eq}
use Rattle.std.proofs.lemmas.List.{get_or-replicate}
use Rattle.std.proofs.Math.Nat.{mod-lt}
use Rattle.nr_cache.specs.Entries.{KeptEntry, window, top_of, found_in, found_for, entries_of}
use Rattle.nr_cache.specs.Entries.Finding.{NewCall}
use Rattle.nr_cache.specs.Windows.{Replies, Remembers, found_at, by_slot, no_replies}
use Rattle.nr_cache.specs.Caches.{Clients, clients_of, RemembersAll, RemembersBy, HasClient, found_if, found_by, kept_if, kept_of}
use Rattle.nr_cache.proofs.Windows.{in_entries, at_slot}
use Rattle.nr_cache.proofs.Finding.{own_among, other_more}

-- ---- The hash map of the code

find_entries : (client : ℕ) (es : List (ℕ × Replies)) → find nat_cmp client es ≡ lookup (nat_eq client) es
find_entries client [] = refl
find_entries client (e ∷ es) = λ i. cond (unsigned_tied client e.0 i) (Some e.1) (find_entries client es i)

-- the replies of a client are these, and those of others are the same
pub record ChangedAt (C D : Clients) (client : ℕ) (w : Replies) : Type 0 where
  pub own : get D client ≡ Some w
  pub others : (other : ℕ) → (client ≡ other → ⊥) → get D other ≡ get C other

module _ {S : Type 0} where
  pub get_client : (m : HashMap ℕ Replies S) (client : ℕ) → get (clients_of m) client ≡ hash.get nat_eq m client
  get_client m client = get-from_entries nat_cmp_total m.entries client ∙ find_entries client m.entries

  pub changed_at : (m n : HashMap ℕ Replies S) (client : ℕ) (w : Replies) → ((q : ℕ) → hash.get nat_eq n q ≡ cond (nat_eq client q) (Some w) (hash.get nat_eq m q))
      → ChangedAt (clients_of m) (clients_of n) client w
  changed_at m n client w each = record {
    own = get_client n client ∙ each client ∙ ap (λ (b : Bool). cond b (Some w) (hash.get nat_eq m client)) (eq-eqb client client refl);
    others = λ other ne.
        get_client n other ∙ each other ∙ ap (λ (b : Bool). cond b (Some w) (hash.get nat_eq m other)) (ne_eqb client other ne) ∙ sym (get_client m other);
  }

-- ---- What is found

-- without entries each call is new
none_found : (xid : ℕ) → found_in [] xid ≡ NewCall
unfolding top_of
none_found xid = in_entries [] xid (omega arith)

found_of : (E : List KeptEntry) (o : Option Replies) (xid : ℕ) → RemembersBy E o → found_if o xid ≡ found_in E xid
found_of E None xid r = sym (ap (λ (F : List KeptEntry). found_in F xid) r ∙ none_found xid)
found_of E (Some w) xid r = r.found xid

pub found_exact : (E : List KeptEntry) (C : Clients) (client xid : ℕ) → RemembersAll E C → found_by C client xid ≡ found_for E client xid
unfolding found_by found_for
found_exact E C client xid r = found_of (entries_of client E) (get C client) xid (r client)

pub found_here : (C : Clients) (client xid : ℕ) (o : Option Replies) → get C client ≡ o → found_if o xid ≡ found_by C client xid
unfolding found_by
found_here C client xid o e = ap (λ (p : Option Replies). found_if p xid) (sym e)

pub kept_here : (C : Clients) (client : ℕ) (o : Option Replies) → get C client ≡ o → kept_if o ≤ window → kept_of C client ≤ window
kept_here C client o e le = subst (λ (p : Option Replies). kept_if p ≤ window) (sym e) le

-- ---- A change of one client

pub has_own : (C D : Clients) (client : ℕ) (w : Replies) → ChangedAt C D client w → HasClient D client
has_own C D client w c = ap is_some c.own

pub has_others : (C D : Clients) (client : ℕ) (w : Replies) → ChangedAt C D client w → (other : ℕ) → HasClient C other → HasClient D other
has_others C D client w c other has =
    elim (cases_eq client other) [
      | inl same ↦ subst (HasClient D) same (has_own C D client w c)
      | inr ne ↦ ap is_some (c.others other ne) ∙ has
    ]

remembers_changed : (E F : List KeptEntry) (C D : Clients) (client : ℕ) (w : Replies) → ChangedAt C D client w → Remembers (entries_of client F) w
    → ((other : ℕ) → (client ≡ other → ⊥) → entries_of other F ≡ entries_of other E) → RemembersAll E C → RemembersAll F D
remembers_changed E F C D client w c own others r q =
    elim (cases_eq client q) [
      | inl same ↦ subst (λ (n : ℕ). RemembersBy (entries_of n F) (get D n)) same (subst (RemembersBy (entries_of client F)) (sym c.own) own)
      | inr ne ↦
          subst (RemembersBy (entries_of q F)) (sym (c.others q ne)) (subst (λ (G : List KeptEntry). RemembersBy G (get C q)) (sym (others q ne)) (r q))
    ]

-- room for a client without entries
none_found_at : (xid : ℕ) → found_at no_replies xid ≡ NewCall
none_found_at xid = at_slot no_replies xid (omega arith) ∙ ap (by_slot xid) (get_or-replicate window (xid % window) None None (mod-lt xid (omega arith)))

none_remembered : (E : List KeptEntry) → E ≡ [] → Remembers E no_replies
unfolding top_of
none_remembered E none =
    subst (λ (F : List KeptEntry). Remembers F no_replies) (sym none) (record { top = refl; found = λ xid. none_found_at xid ∙ sym (none_found xid) })

pub remembers_room : (E : List KeptEntry) (C D : Clients) (client : ℕ) → ChangedAt C D client no_replies → get C client ≡ None → RemembersAll E C → RemembersAll E D
remembers_room E C D client c absent r =
    remembers_changed E E C D client no_replies c (none_remembered (entries_of client E) (subst (RemembersBy (entries_of client E)) absent (r client))) (λ other ne. refl) r

-- one reply more
pub remembers_kept : (E : List KeptEntry) (e : KeptEntry) (C D : Clients) (v w : Replies) → ChangedAt C D e.client w → get C e.client ≡ Some v → found_by C e.client e.xid ≡ NewCall
    → ((F : List KeptEntry) → Remembers F v → found_at v e.xid ≡ NewCall → Remembers (F ++ e ∷ []) w) → RemembersAll E C → RemembersAll (E ++ e ∷ []) D
remembers_kept E e C D v w c there new keeps r =
    let before : Remembers (entries_of e.client E) v = subst (RemembersBy (entries_of e.client E)) there (r e.client) in
    let after : Remembers (entries_of e.client E ++ e ∷ []) w = keeps (entries_of e.client E) before (found_here C e.client e.xid (Some v) there ∙ new) in
    remembers_changed E (E ++ e ∷ []) C D e.client w c (subst (λ (F : List KeptEntry). Remembers F w) (sym (own_among E [] e)) after) (λ other ne. other_more E e other ne) r

pub absent : (C : Clients) (client : ℕ) → get C client ≡ None → HasClient C client → ⊥
absent C client none has = let wrong : false ≡ true = sym (ap is_some none) ∙ has in cc

-- ---- The same over a hash map of the code

is_none : (o : Option Replies) → is_some o ≡ false → o ≡ None
is_none None e = refl
is_none (Some w) e = absurd (let wrong : true ≡ false = e in cc)

module _ {S : Type 0} (C : Clients) (m : HashMap ℕ Replies S) (view : clients_of m ≡ C) where
  pub get_is : (client : ℕ) (o : Option Replies) → o ≡ hash.get nat_eq m client → get C client ≡ o
  get_is client o e = ap (λ (D : Clients). get D client) (sym view) ∙ get_client m client ∙ sym e

  pub has_key : (client : ℕ) (b : Bool) → b ≡ is_some (hash.get nat_eq m client) → b ≡ true → HasClient C client
  has_key client b e is = ap is_some (get_is client (hash.get nat_eq m client) refl) ∙ sym e ∙ is

  pub no_key : (client : ℕ) (b : Bool) → b ≡ is_some (hash.get nat_eq m client) → b ≡ false → get C client ≡ None
  no_key client b e is = get_is client None (sym (is_none (hash.get nat_eq m client) (sym e ∙ is)))

  pub changed_to : (n : HashMap ℕ Replies S) (client : ℕ) (w : Replies) → ((q : ℕ) → hash.get nat_eq n q ≡ cond (nat_eq client q) (Some w) (hash.get nat_eq m q))
      → ChangedAt C (clients_of n) client w
  changed_to n client w each = subst (λ (D : Clients). ChangedAt D (clients_of n) client w) view (changed_at m n client w each)

-- without an entry in it
pub no_entries : {S : Type 0} (m : HashMap ℕ Replies S) → hash.IsEmpty m → RemembersAll [] (clients_of m)
no_entries m none client =
    let absent : get (clients_of m) client ≡ None = get_client m client ∙ ap (λ (es : List (ℕ × Replies)). lookup (nat_eq client) es) none in
    subst (RemembersBy []) (sym absent) refl
