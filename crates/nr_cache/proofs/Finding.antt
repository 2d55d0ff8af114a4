-- What is found after more calls are kept.
use Rattle.std.proofs.Common.{◌≡◌, ◌≢◌, ℕ, ◌+◌, ◌<◌, Bool, cond, eqb, List, [], ◌∷◌, ◌++◌, Option, Some, refl, sym, ap, subst, ◌∙◌}
use Rattle.std.specs.Option.{option_or}
use Rattle.std.specs.List.{find}
use Rattle.std.proofs.lemmas.Bool.{eq-eqb, ne_eqb}
use Rattle.std.proofs.lemmas.List.{append-nil}
use Rattle.std.proofs.lemmas.List.Elements.{filter-append}
use Rattle.std.proofs.lemmas.List.Folds.{find-append}
use Rattle.nr_cache.specs.Entries.{KeptEntry, window, top_of, found_in, found_for, entries_of, kept_or_new}
use Rattle.nr_cache.specs.Entries.Finding.{KeptCall, NewCall}
use Rattle.nr_cache.proofs.Windows.{is_xid, is_new, in_entries}

abbrev pub is_client : ℕ → KeptEntry → Bool
is_client client e = eqb e.client client

-- the entries of a client, with one of its own among more
pub own_among : (E F : List KeptEntry) (e : KeptEntry) → entries_of e.client (E ++ e ∷ F) ≡ entries_of e.client E ++ e ∷ entries_of e.client F
own_among E F e =
    filter-append (is_client e.client) E (e ∷ F)
    ∙ ap (λ (b : Bool). entries_of e.client E ++ cond b (e ∷ entries_of e.client F) (entries_of e.client F)) (eq-eqb e.client e.client refl)

-- with one of another client
pub other_more : (E : List KeptEntry) (e : KeptEntry) (client : ℕ) → (e.client ≡ client → ⊥) → entries_of client (E ++ e ∷ []) ≡ entries_of client E
other_more E e client ne =
    filter-append (is_client client) E (e ∷ []) ∙ ap (λ (b : Bool). entries_of client E ++ cond b (e ∷ []) []) (ne_eqb e.client client ne) ∙ append-nil (entries_of client E)

found_among : (E F : List KeptEntry) (e : KeptEntry) → found_in E e.xid ≡ NewCall → top_of (E ++ e ∷ F) < e.xid + window
    → found_in (E ++ e ∷ F) e.xid ≡ KeptCall e.place e.reply
found_among E F e new young =
    let one : find (is_xid e.xid) (e ∷ F) ≡ Some e = ap (λ (b : Bool). cond b (Some e) (find (is_xid e.xid) F)) (eq-eqb e.xid e.xid refl) in
    let entries : find (is_xid e.xid) (E ++ e ∷ F) ≡ Some e =
    find-append (is_xid e.xid) E (e ∷ F) ∙ ap (λ (o : Option KeptEntry). option_or o (find (is_xid e.xid) (e ∷ F))) (is_new E e.xid new).none ∙ one in
    in_entries (E ++ e ∷ F) e.xid young ∙ ap kept_or_new entries

pub kept_found : (E F : List KeptEntry) (e : KeptEntry) → found_for E e.client e.xid ≡ NewCall → top_of (entries_of e.client (E ++ e ∷ F)) < e.xid + window
    → found_for (E ++ e ∷ F) e.client e.xid ≡ KeptCall e.place e.reply
unfolding found_for
kept_found E F e new young =
    let among : entries_of e.client (E ++ e ∷ F) ≡ entries_of e.client E ++ e ∷ entries_of e.client F = own_among E F e in
    ap (λ (G : List KeptEntry). found_in G e.xid) among
    ∙ found_among (entries_of e.client E) (entries_of e.client F) e new (subst (λ (G : List KeptEntry). top_of G < e.xid + window) among young)

pub others_same : (E : List KeptEntry) (e : KeptEntry) (client xid : ℕ) → client ≢ e.client → found_for (E ++ e ∷ []) client xid ≡ found_for E client xid
unfolding found_for
others_same E e client xid ne = ap (λ (F : List KeptEntry). found_in F xid) (other_more E e client (λ same. ne (sym same)))
