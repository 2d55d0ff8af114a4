-- What is so of each session: no outcome comes twice, and what was offered on an earlier link is out of reach.
use Rattle.std.proofs.Common.{◌≡◌, ◌≢◌, ◌⊎◌, ⊎_elim, inl, inr, ℕ, eqb, ◌||◌, Bool, true, false, List, [], ◌∷◌, refl, sym, subst}
use Rattle.std.specs.List.{AllByRecursion, list_any}
use Rattle.std.proofs.lemmas.Bool.{eqb-true}
use Rattle.nr_reduce.specs.declared.mark.LinkParameters.{LinkParameters}
use Rattle.nr_reduce.specs.declared.mark.Mark.{Mark}
use Rattle.nr_reduce.specs.Client.{client_rules, initial_client}
use Rattle.nr_reduce.specs.EndRules.{end_state_after}
use Rattle.nr_reduce.specs.Run.{client}
use Rattle.nr_laws.specs.OnceEach.{BegunLink, GoesOn, IsEarlier}
use Rattle.nr_laws.specs.Touches.{StopsAt}
use Rattle.nr_laws.proofs.EarlierStags.{earlier_stags_are_dead}
use Rattle.nr_laws.proofs.LaterOutcomes.{no_outcome_twice}
use Rattle.nr_shared.specs.LinkRuns.{OpenedLink}
use Rattle.nr_shared_laws.specs.Sessions.{AreEarlier, IsAmong, OutcomesComeOnce, SessionStagsAreDead, opened_by}

pub pick : (P : ℕ → Type 0) (xs : List OpenedLink) (link : ℕ) → AllByRecursion (λ (e : OpenedLink). P e.link) xs → IsAmong xs link → P link
pick P [] link all there = absurd (let wrong : false ≡ true = there in cc)
pick P (x ∷ xs) link all there = by (eqb x.link link) refl there (pick P xs link all.1) where
  by : (b : Bool) → eqb x.link link ≡ b → (b || list_any (λ (e : OpenedLink). eqb e.link link) xs) ≡ true → (IsAmong xs link → P link) → P link
  by true is some later = subst P (eqb-true x.link link is) all.0
  by false is some later = later some

module _ (opened : ℕ → LinkParameters) (run : List Mark) where
  -- of two links one goes on from the other
  pub either : (xs : List OpenedLink) (link other : ℕ) → AreEarlier opened run xs → IsAmong xs link → IsAmong xs other → IsEarlier opened run link other ⊎ IsEarlier opened run other link
  either [] link other all a b = absurd (let wrong : false ≡ true = a in cc)
  either (x ∷ xs) link other all a b = by (eqb x.link other) refl (eqb x.link link) refl (λ there there_other. either xs link other all.1 there there_other) where
    rest : (k : ℕ) → IsAmong (x ∷ xs) k → eqb x.link k ≡ false → IsAmong xs k
    rest k there not = subst (λ (c : Bool). (c || list_any (λ (e : OpenedLink). eqb e.link k) xs) ≡ true) not there

    by : (c : Bool) → eqb x.link other ≡ c → (d : Bool) → eqb x.link link ≡ d → (IsAmong xs link → IsAmong xs other → IsEarlier opened run link other ⊎ IsEarlier opened run other link) → IsEarlier opened run link other ⊎ IsEarlier opened run other link
    by true is d same later = inl (subst (λ (k : ℕ). IsEarlier opened run link k) (eqb-true x.link other is) (pick (λ (k : ℕ). IsEarlier opened run k x.link) (x ∷ xs) link all.0 a))
    by false not true is later = inr (subst (λ (k : ℕ). IsEarlier opened run other k) (eqb-true x.link link is) (pick (λ (k : ℕ). IsEarlier opened run k x.link) (x ∷ xs) other all.0 b))
    by false not false neither later = later (rest link a neither) (rest other b not)

-- ---- Each session

pub outcomes_come_once : OutcomesComeOnce
outcomes_come_once l link other before other_before xid outcome other_outcome s typed has has_other at other_at =
    ⊎_elim
    (λ (e : IsEarlier (opened_by l) l.run link other). no_outcome_twice (opened_by l) link other l.run before other_before xid outcome other_outcome typed e (s.opened_with other has_other) (s.asked_with other has_other) at other_at)
    (λ (e : IsEarlier (opened_by l) l.run other link).
    (let both = no_outcome_twice (opened_by l) other link l.run other_before before xid other_outcome outcome typed e (s.opened_with link has) (s.asked_with link has) other_at at in (sym both.0, sym both.1)))
    (either (opened_by l) l.run (l.at ∷ l.left) link other s.earlier has has_other)

pub session_stags_are_dead : SessionStagsAreDead
session_stags_are_dead l first last offered earlier later f segment access e differ there stag is none hello held reached = by e.links e.goes_on where
  by : (links : List BegunLink) → GoesOn (opened_by l) l.run first (record { link = last; began = e.began }) links
      → StopsAt (client_rules (opened_by l last)) (end_state_after (client_rules (opened_by l last)) (initial_client (opened_by l last)) earlier) f (client (opened_by l last) last l.run)
  by [] goes = absurd (differ (sym goes))
  by (old ∷ links) goes =
      earlier_stags_are_dead (opened_by l) first (record { link = last; began = e.began }) old links l.run offered earlier later f segment access goes there stag is none hello held reached
