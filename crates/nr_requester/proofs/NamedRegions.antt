-- The STag that a message names is that of a region which its outcome releases.
use Rattle.std.proofs.Common.{◌≡◌, ℕ, ◌<◌, Bool, true, false, cond, ◌&&◌, eqb, List, [], ◌∷◌, Option, None, Some, Result, Ok, Err, refl, sym, ap, subst, ◌∙◌, arith}
use Rattle.std.specs.List.{AllByRecursion, find, list_any}
use Rattle.std.proofs.lemmas.Bool.{eqb-true}
use Rattle.nr_xdr.specs.Fields.{word_at}
use Rattle.nr_header.specs.declared.fault.HeaderFault.{HeaderFault}
use Rattle.nr_header.specs.declared.header.Header.{Header}
use Rattle.nr_header.specs.Reading.{header_of}
use Rattle.nr_regions.specs.RegisteredMemory.{RegisteredMemory}
use Rattle.nr_reduce.specs.KeptCalls.{KeptCall, kept_by, kept_in, own_if, kept_named}
use Rattle.nr_reduce.specs.KeptClient.{AreRising, released_all, stags_in, stags_for}
use Rattle.nr_requester.specs.AfterPiece.{dead_memory}
use Rattle.nr_requester.proofs.DeadRegions.{dead_released}
use Rattle.nr_requester.proofs.FoundCalls.{header_xid}

-- ---- The call that is found, whether its Send has left or not

none_above : (x : ℕ) (cs : List KeptCall) (c : KeptCall) → AllByRecursion (λ (e : KeptCall). x < e.xid) cs → kept_by cs x ≡ Some c → ⊥
none_above x [] c h e = absurd cc
none_above x (d ∷ ds) c h e = by (none_above x ds c h.1) (eqb d.xid x) refl e
  where
    by : (kept_by ds x ≡ Some c → ⊥) → (b : Bool) → eqb d.xid x ≡ b → cond (b && d.is_sent) (Some d) (kept_by ds x) ≡ Some c → ⊥
    by rest true is g = absurd (let same = eqb-true d.xid x is in let lt = h.0 in omega (arith, same, lt))
    by rest false is g = rest g

found_rising : (next x : ℕ) (cs : List KeptCall) (c : KeptCall) → AreRising cs next → kept_by cs x ≡ Some c → find (λ d. eqb d.xid x) cs ≡ Some c
found_rising next x [] c h e = absurd cc
found_rising next x (d ∷ ds) c h e = by (found_rising next x ds c h.1.1) (eqb d.xid x) refl d.is_sent e
  where
    by : (kept_by ds x ≡ Some c → find (λ d. eqb d.xid x) ds ≡ Some c) → (b : Bool) → eqb d.xid x ≡ b → (s : Bool) → cond (b && s) (Some d) (kept_by ds x) ≡ Some c → cond b (Some d) (find (λ d. eqb d.xid x) ds) ≡ Some c
    by rest true is true g = g
    by rest true is false g = absurd (none_above x ds c (subst (λ (n : ℕ). AllByRecursion (λ (e : KeptCall). n < e.xid) ds) (eqb-true d.xid x is) h.1.0) g)
    by rest false is s g = rest g

-- ---- The STag is among those of the call

abbrev or_stag : ℕ → Option ℕ → ℕ
or_stag d None = d
or_stag d (Some stag) = stag

among : (stags : List ℕ) (x stag : ℕ) (b : Bool) → list_any (λ s. eqb s x) stags ≡ b → cond b (Some x) None ≡ Some stag → list_any (λ s. eqb s stag) stags ≡ true
among stags x stag true is e = subst (λ (n : ℕ). list_any (λ s. eqb s n) stags ≡ true) (ap (or_stag x) e) is
among stags x stag false is e = absurd cc

own_among : (next : ℕ) (cs : List KeptCall) (named : Option ℕ) (message : List ℕ) (stag : ℕ) → AreRising cs next → kept_named cs named message ≡ Some stag → list_any (λ s. eqb s stag) (stags_for (word_at 0 message) cs) ≡ true
own_among next cs None message stag rising e = absurd cc
own_among next cs (Some x) message stag rising e = by_header (header_of message) refl e
  where
    by_call : (h : Header) → header_of message ≡ Ok h → (o : Option KeptCall) → kept_by cs h.xid ≡ o → own_if o x ≡ Some stag → list_any (λ s. eqb s stag) (stags_for (word_at 0 message) cs) ≡ true
    by_call h is None f e = absurd cc
    by_call h is (Some c) f e =
        let found : find (λ d. eqb d.xid (word_at 0 message)) cs ≡ Some c = ap (λ (n : ℕ). find (λ d. eqb d.xid n) cs) (sym (header_xid message h is)) ∙ found_rising next h.xid cs c rising f in
        ap (λ (o : Option KeptCall). list_any (λ s. eqb s stag) (stags_in o)) found ∙ among c.stags x stag (list_any (λ s. eqb s x) c.stags) refl e

    by_header : (r : Result Header HeaderFault) → header_of message ≡ r → own_if (kept_in cs r) x ≡ Some stag → list_any (λ s. eqb s stag) (stags_for (word_at 0 message) cs) ≡ true
    by_header (Ok h) is e = by_call h is (kept_by cs h.xid) refl e
    by_header (Err fault) is e = absurd cc

-- so its region is released
pub named_released : (next : ℕ) (cs : List KeptCall) (named : Option ℕ) (message : List ℕ) (m : RegisteredMemory) (stags : List ℕ) → AreRising cs next → stags_for (word_at 0 message) cs ≡ stags → released_all (dead_memory (kept_named cs named message) m) stags ≡ released_all m stags
named_released next cs named message m stags rising are = by (kept_named cs named message) refl
  where
    by : (o : Option ℕ) → kept_named cs named message ≡ o → released_all (dead_memory o m) stags ≡ released_all m stags
    by None e = refl
    by (Some stag) e = dead_released m stag stags (ap (λ (ss : List ℕ). list_any (λ s. eqb s stag) ss) (sym are) ∙ own_among next cs named message stag rising e)
