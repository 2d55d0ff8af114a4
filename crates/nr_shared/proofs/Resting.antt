-- A pass that rests on a shared requester, after a turn.
use Rattle.std.proofs.Common.{◌≡◌, ℕ, ◌≤◌, arith, false, List, [], ◌∷◌, ◌++◌, length, length-append, append-nil, Some, refl, sym, ap, subst, ◌∙◌, ◌⊎◌, ⊎_elim, suc}
use Rattle.std.specs.List.{AllByRecursion}
use mathlib.Core.Option.{some, some-injective, some-ne-none}
use lib.ListN.{get_elem?}
use Rattle.nr_turnstile.specs.declared.turnstile.Pass.{Pass as TurnPass}
use Rattle.nr_turnstile.specs.Rule.{Begins, IsIn, Rising, longer}
use Rattle.nr_turnstile.specs.Passes.{Joins, Misses, Rests, mine_of, seen_by}
use Rattle.nr_shared.specs.declared.entry.Entry.{Entry}
use Rattle.nr_shared.specs.declared.requester_with_sink.RequesterWithSink.{RequesterWithSink}
use Rattle.nr_shared.specs.declared.shared.SharedRequester.{SharedRequester}
use Rattle.nr_shared.specs.declared.shared.Pass.{Pass}
use Rattle.nr_shared.specs.Adding.{Adds}
use Rattle.nr_shared.specs.Draining.{AreWrites}
use Rattle.nr_shared.specs.Callers.{IsCaller, KeepsLaw, KeepsOpen}
use Rattle.nr_shared.specs.Histories.{closes_of, is_feeding}
use Rattle.nr_shared.specs.Sharing.{SharedRests}
use Rattle.nr_shared.proofs.Adding.{adds_none, at_one, closes_own_on}
use Rattle.nr_shared.proofs.Alone.{AreQuiet, writes_close, writes_quiet}
use Rattle.nr_shared.proofs.Calls.{none_some}
use Rattle.nr_shared.proofs.Lists.{all_in, at_begin, at_below, in_either, in_ordered, not_twice, still_first, still_ordered}

-- of a history that has one entry a longer beginning is the same
pub seen_one : {A : Type 0} (p q : List A) (b c : A) → p ≡ b ∷ [] → q ≡ c ∷ [] → Begins p q → q ≡ p
seen_one p q b c one two ([], is) = is ∙ append-nil p
seen_one p q b c one two (x ∷ xs, is) = absurd (let l = ap length is ∙ length-append p (x ∷ xs) in let m : length p ≡ 1 = ap length one in let n : length q ≡ 1 = ap length two in omega (arith, l, m, n))

pub joined_one : {A : Type 0} (p o q : List A) (b c : A) → q ≡ longer p o → p ≡ b ∷ [] → o ≡ c ∷ [] → q ≡ b ∷ []
joined_one p o q b c is one two = is ∙ (ap (λ l. longer l o) one ∙ ap (λ l. longer (b ∷ []) l) two)

-- ---- Callers

module _ {O C : Type 0} where
  -- entries of a caller: they don't feed, and close only its own places
  abbrev pub OfCaller : TurnPass (RequesterWithSink O C) Entry → Entry → Type 0
  OfCaller p e = (is_feeding e ≡ false) × ((k : ℕ) → closes_of e ≡ Some k → IsIn k (mine_of p))

  abbrev pub AreOfCaller : TurnPass (RequesterWithSink O C) Entry → List Entry → Type 0
  AreOfCaller p es = AllByRecursion (λ (e : Entry). OfCaller p e) es

  of_quiet : (p : TurnPass (RequesterWithSink O C) Entry) (es : List Entry) → AreQuiet es → ((e : Entry) → IsIn e es → (k : ℕ) → closes_of e ≡ Some k → IsIn k (mine_of p)) → AreOfCaller p es
  of_quiet p [] quiet own = tt
  of_quiet p (e ∷ es) quiet own = ((quiet.0, own e (0, refl)), of_quiet p es quiet.1 (λ f i. own f (suc i.0, i.1)))

  pub of_writes : (p : TurnPass (RequesterWithSink O C) Entry) (es : List Entry) → AreWrites es → AreOfCaller p es
  of_writes p es are = of_quiet p es (writes_quiet es are) (λ e i k closes. absurd (none_some k (sym (writes_close es are i.0 e i.1) ∙ closes)))

  pub of_both : (p : TurnPass (RequesterWithSink O C) Entry) (xs ys : List Entry) → AreOfCaller p xs → AreOfCaller p ys → AreOfCaller p (xs ++ ys)
  of_both p [] ys one two = two
  of_both p (x ∷ xs) ys one two = (one.0, of_both p xs ys one.1 two)

  -- a caller that adds such entries
  pub caller_on : (p q : TurnPass (RequesterWithSink O C) Entry) (es : List Entry) → IsCaller p → Adds p q es → AreOfCaller p es → IsCaller q
  caller_on p q es c a of_it =
      let more : length (seen_by p) ≤ length (seen_by q) = (let l = ap length a.seen.1 ∙ length-append (seen_by p) a.seen.0 in omega (arith, l)) in
      let old_at : (k : ℕ) (e : Entry) → IsIn k (mine_of p) → get_elem? (seen_by q) k ≡ some e → get_elem? (seen_by p) k ≡ some e =
      λ k e old at. at_begin (seen_by p) a.seen.0 k e (c.lies k old) (subst (λ (l : List Entry). get_elem? l k ≡ some e) a.seen.1 at) in
      let new_of : (k : ℕ) (e : Entry) → IsIn k a.places → get_elem? (seen_by q) k ≡ some e → OfCaller p e =
      λ k e new at. (let (f, (one, there)) = at_one (seen_by q) a.places es k a.at new in
      subst (λ (x : Entry). OfCaller p x) (some-injective f e (sym there ∙ at)) (all_in (λ (x : Entry). OfCaller p x) es f of_it one)) in
      record {
        lies = λ k i. ⊎_elim
            (λ (old : IsIn k (mine_of p)). let l = c.lies k old in omega (arith, l, more))
            (λ (new : IsIn k a.places). let (e, (one, at)) = at_one (seen_by q) a.places es k a.at new in at_below (seen_by q) k e at)
            (in_either (mine_of p) a.places k (subst (IsIn k) a.mine i));
        closes_own = closes_own_on closes_of p q es c.lies c.closes_own a (λ e i k closes. (all_in (λ (x : Entry). OfCaller p x) es e of_it i).1 k closes);
        feeds_none = λ k e i at. ⊎_elim
            (λ (old : IsIn k (mine_of p)). c.feeds_none k e old (old_at k e old at))
            (λ (new : IsIn k a.places). (new_of k e new at).0)
            (in_either (mine_of p) a.places k (subst (IsIn k) a.mine i));
      }

  pub caller_same : (p q : TurnPass (RequesterWithSink O C) Entry) → seen_by q ≡ seen_by p → mine_of q ≡ mine_of p → IsCaller p → IsCaller q
  caller_same p q seen mine c = caller_on p q [] c (adds_none p q ([], seen ∙ sym (append-nil (seen_by p))) mine) tt

  pub new_caller : (p : TurnPass (RequesterWithSink O C) Entry) → mine_of p ≡ [] → IsCaller p
  new_caller p none = record {
    lies = λ k i. absurd (let j = subst (IsIn k) none i in some-ne-none k (sym j.1));
    closes_own = λ n k e i at closes. absurd (let j = subst (IsIn n) none i in some-ne-none n (sym j.1));
    feeds_none = λ k e i at. absurd (let j = subst (IsIn k) none i in some-ne-none k (sym j.1));
  }

  -- a caller that takes in another
  own_at : (p q : TurnPass (RequesterWithSink O C) Entry) (k : ℕ) (e : Entry) → IsCaller p → Begins (seen_by p) (seen_by q) → IsIn k (mine_of p) → get_elem? (seen_by q) k ≡ some e → get_elem? (seen_by p) k ≡ some e
  own_at p q k e c begins i at = at_begin (seen_by p) begins.0 k e (c.lies k i) (subst (λ (l : List Entry). get_elem? l k ≡ some e) begins.1 at)

  pub caller_joined : (p o q : TurnPass (RequesterWithSink O C) Entry) → IsCaller p → IsCaller o → Joins closes_of p o q → IsCaller q
  caller_joined p o q c d (is, first, second, mine, rising, owns, lies, missed) = record {
    lies = lies;
    closes_own = λ n k e i at closes. ⊎_elim
        (λ (old : IsIn n (mine_of p)). subst (IsIn k) (sym mine) (still_first (mine_of p) (mine_of o) k (c.closes_own n k e old (own_at p q n e c first old at) closes)))
        (λ (new : IsIn n (mine_of o)). subst (IsIn k) (sym mine) (still_ordered (mine_of p) (mine_of o) k (d.closes_own n k e new (own_at o q n e d second new at) closes)))
        (in_ordered (mine_of p) (mine_of o) n (subst (IsIn n) mine i));
    feeds_none = λ k e i at. ⊎_elim
        (λ (old : IsIn k (mine_of p)). c.feeds_none k e old (own_at p q k e c first old at))
        (λ (new : IsIn k (mine_of o)). d.feeds_none k e new (own_at o q k e d second new at))
        (in_ordered (mine_of p) (mine_of o) k (subst (IsIn k) mine i));
  }

  -- the open places of both stay open
  pub keeps_first : (p o q : TurnPass (RequesterWithSink O C) Entry) → IsCaller p → IsCaller o → Joins closes_of p o q → KeepsOpen p q
  keeps_first p o q c d (is, first, second, mine, rising, owns, lies, missed) k open_place = (
    subst (IsIn k) (sym mine) (still_first (mine_of p) (mine_of o) k open_place.0),
    λ n e at closes. ⊎_elim
        (λ (own : IsIn n (mine_of p)). open_place.1 n e (own_at p q n e c first own at) closes)
        (λ (other : IsIn n (mine_of o)). not_twice (mine_of p) (mine_of o) k (subst Rising mine rising) open_place.0 (d.closes_own n k e other (own_at o q n e d second other at) closes))
        (in_ordered (mine_of p) (mine_of o) n (subst (IsIn n) mine (owns k n e (subst (IsIn k) (sym mine) (still_first (mine_of p) (mine_of o) k open_place.0)) at closes))),
  )

  pub keeps_second : (p o q : TurnPass (RequesterWithSink O C) Entry) → IsCaller p → IsCaller o → Joins closes_of p o q → KeepsOpen o q
  keeps_second p o q c d (is, first, second, mine, rising, owns, lies, missed) k open_place = (
    subst (IsIn k) (sym mine) (still_ordered (mine_of p) (mine_of o) k open_place.0),
    λ n e at closes. ⊎_elim
        (λ (other : IsIn n (mine_of p)). not_twice (mine_of p) (mine_of o) k (subst Rising mine rising) (c.closes_own n k e other (own_at p q n e c first other at) closes) open_place.0)
        (λ (own : IsIn n (mine_of o)). open_place.1 n e (own_at o q n e d second own at) closes)
        (in_ordered (mine_of p) (mine_of o) n (subst (IsIn n) mine (owns k n e (subst (IsIn k) (sym mine) (still_ordered (mine_of p) (mine_of o) k open_place.0)) at closes))),
  )

module _ {I O C D : Type 0} where
  pub rests_on : (s : SharedRequester I O C D) (p q : Pass I O C D) → SharedRests s p → Rests s.main q.main → Rests s.source q.source → seen_by q.source ≡ seen_by p.source → IsCaller q.main → KeepsLaw (seen_by q.main) → SharedRests s q
  rests_on s p q r main source seen caller law = record { main = main; source = source; initial_source = r.initial_source; has_seen = seen ∙ r.has_seen; home = r.home; caller = caller; law = law }

  -- the turn was taken
  pub rests_missed : (s : SharedRequester I O C D) (p : Pass I O C D) (m : TurnPass (RequesterWithSink O C) Entry) → SharedRests s p → Misses p.main m → SharedRests s (record { main = m; source = p.source })
  rests_missed s p m r miss = record {
    main = (miss.0.0 ∙ r.main.0, miss.1, ap (λ v. v.stage) miss.2);
    source = r.source;
    initial_source = r.initial_source;
    has_seen = r.has_seen;
    home = r.home;
    caller = caller_same p.main m (ap (λ v. v.seen) miss.2) (ap (λ v. v.mine) miss.2) r.caller;
    law = subst KeepsLaw (sym (ap (λ v. v.seen) miss.2)) r.law;
  }
