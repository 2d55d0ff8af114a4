-- The regions of a call are released: when a message of its xid comes, or when its memory is revoked.
use Rattle.std.proofs.Common.{◌≡◌, ℕ, ◌<◌, ◌⊎◌, Bool, true, false, cond, not, eqb, ltb, List, [], ◌∷◌, map, inl, inr, Option, None, Some, refl, sym, ap, subst, ◌∙◌, arith}
use Rattle.std.specs.List.{AllByRecursion, filter}
use Rattle.std.proofs.lemmas.Bool.{eqb-true, eq-eqb, cases_eq}
use Rattle.nr_regions.specs.RegisteredMemory.{RegisteredMemory, NoneIsDead, live_region, held_region, after_release}
use Rattle.nr_regions.specs.Access.{contents}
use Rattle.nr_regions.proofs.Holding.{release_other, live_release_here, live_release_other, none_dead_release}
use Rattle.nr_reduce.specs.OfferedRegions.{Region, until_at, closed_if, regions_closed, region_grants}
use Rattle.nr_reduce.specs.OfferedMemory.{region_at, held_if_open, registered_region, HoldsRegions, is_closed_by, ReleasesClosed}
use Rattle.nr_reduce.specs.Written.{ends_written}
use Rattle.nr_reduce.specs.ClientState.{OutstandingCall, ClientState}
use Rattle.nr_reduce.proofs.OwnStags.{closed_stag}
use Rattle.nr_reduce.specs.KeptCalls.{KeptCall, AreKept, numbered_calls}
use Rattle.nr_reduce.specs.KeptClient.{CallsKeep, IsOwned, IsRegionOpen, IsAmong, AreRising, OpensFor, AreBelow, released_all, without}
use Rattle.nr_reduce.proofs.Conveying.{all_among}

release_next : (m : RegisteredMemory) (stag : ℕ) → (after_release m stag).next ≡ m.next
unfolding after_release
release_next m stag = refl

pub released_next : (stags : List ℕ) (m : RegisteredMemory) → (released_all m stags).next ≡ m.next
released_next [] m = refl
released_next (stag ∷ stags) m = released_next stags (after_release m stag) ∙ release_next m stag

none_stays : (stags : List ℕ) (m : RegisteredMemory) (stag : ℕ) → live_region m stag ≡ None → live_region (released_all m stags) stag ≡ None
none_stays [] m stag none = none
none_stays (s ∷ stags) m stag none = none_stays stags (after_release m s) stag (elim (cases_eq stag s) [
  | inl e ↦ ap (λ (x : ℕ). live_region (after_release m s) x) e ∙ live_release_here m s
  | inr ne ↦ live_release_other m s stag ne ∙ none
])

released_dead : (stags : List ℕ) (m : RegisteredMemory) (stag : ℕ) → IsAmong stag stags → live_region (released_all m stags) stag ≡ None
released_dead [] m stag is = absurd is
released_dead (s ∷ stags) m stag (inl e) = none_stays stags (after_release m s) stag (ap (λ (x : ℕ). live_region (after_release m s) x) (sym e) ∙ live_release_here m s)
released_dead (s ∷ stags) m stag (inr is) = released_dead stags (after_release m s) stag is

pub released_other : (stags : List ℕ) (m : RegisteredMemory) (stag : ℕ) → (IsAmong stag stags → ⊥) → held_region (released_all m stags) stag ≡ held_region m stag
released_other [] m stag never = refl
released_other (s ∷ stags) m stag never = released_other stags (after_release m s) stag (λ is. never (inr is)) ∙ release_other m s stag (λ e. never (inl (sym e)))

released_live : (stags : List ℕ) (m : RegisteredMemory) (stag : ℕ) → (IsAmong stag stags → ⊥) → live_region (released_all m stags) stag ≡ live_region m stag
released_live [] m stag never = refl
released_live (s ∷ stags) m stag never = released_live stags (after_release m s) stag (λ is. never (inr is)) ∙ live_release_other m s stag (λ e. never (inl (sym e)))

-- a release lets no region die
pub released_none_dead : (stags : List ℕ) (m : RegisteredMemory) → NoneIsDead m → NoneIsDead (released_all m stags)
released_none_dead [] m none = none
released_none_dead (s ∷ stags) m none = released_none_dead stags (after_release m s) (none_dead_release m s none)

among_or_not : (x : ℕ) (xs : List ℕ) → IsAmong x xs ⊎ (IsAmong x xs → ⊥)
among_or_not x [] = inr (λ is. is)
among_or_not x (y ∷ xs) = elim (cases_eq y x) [
  | inl e ↦ inl (inl e)
  | inr ne ↦ elim (among_or_not x xs) [
    | inl is ↦ inl (inr is)
    | inr never ↦ inr (λ h. elim h [ inl e ↦ ne e | inr is ↦ never is ])
  ]
]

-- ---- One call of an xid

above : (n : ℕ) (cs : List KeptCall) (d : KeptCall) → AllByRecursion (λ x. n < x.xid) cs → IsAmong d cs → n < d.xid
above n [] d h is = absurd is
above n (x ∷ cs) d h (inl e) = subst (λ (y : KeptCall). n < y.xid) e h.0
above n (x ∷ cs) d h (inr is) = above n cs d h.1 is

pub one_of_xid : (cs : List KeptCall) (below : ℕ) (c d : KeptCall) → AreRising cs below → IsAmong c cs → IsAmong d cs → c.xid ≡ d.xid → c ≡ d
one_of_xid [] below c d h i j e = absurd i
one_of_xid (x ∷ cs) below c d h (inl i) (inl j) e = sym i ∙ j
one_of_xid (x ∷ cs) below c d h (inl i) (inr j) e = absurd (let lt = above x.xid cs d h.1.0 j in let same = ap (λ (y : KeptCall). y.xid) i in omega (arith, lt, same, e))
one_of_xid (x ∷ cs) below c d h (inr i) (inl j) e = absurd (let lt = above x.xid cs c h.1.0 i in let same = ap (λ (y : KeptCall). y.xid) j in omega (arith, lt, same, e))
one_of_xid (x ∷ cs) below c d h (inr i) (inr j) e = one_of_xid cs below c d h.1.1 i j e

-- ---- The region under an STag, if some are closed

abbrev pub closed_option : (Region → Bool) → ℕ → Option Region → Option Region
closed_option test place None = None
closed_option test place (Some r) = Some (closed_if (test r) place r)

pub at_closed : (test : Region → Bool) (place stag : ℕ) (regions : List Region) → region_at (regions_closed test place regions) stag ≡ closed_option test place (region_at regions stag)
unfolding regions_closed
at_closed test place stag [] = refl
at_closed test place stag (r ∷ regions) =
    ap (λ (n : ℕ). cond (eqb n stag) (Some (closed_if (test r) place r)) (region_at (map (λ x. closed_if (test x) place x) regions) stag)) (closed_stag (test r) place r)
    ∙ by (eqb r.stag stag) (at_closed test place stag regions)
  where
    by : (b : Bool) → region_at (map (λ x. closed_if (test x) place x) regions) stag ≡ closed_option test place (region_at regions stag) →
        cond b (Some (closed_if (test r) place r)) (region_at (map (λ x. closed_if (test x) place x) regions) stag) ≡ closed_option test place (cond b (Some r) (region_at regions stag))
    by true later = refl
    by false later = later

still_there : (test : Region → Bool) (place stag : ℕ) (regions : List Region) (r : Region) → region_at (regions_closed test place regions) stag ≡ Some r → (x : Region) × (region_at regions stag ≡ Some x) × (closed_if (test x) place x ≡ r)
still_there test place stag regions r e = by (region_at regions stag) refl (sym (at_closed test place stag regions) ∙ e)
  where
    by : (o : Option Region) → region_at regions stag ≡ o → closed_option test place (region_at regions stag) ≡ Some r → (x : Region) × (region_at regions stag ≡ Some x) × (closed_if (test x) place x ≡ r)
    by None is h = absurd (let wrong : None ≡ Some r = ap (closed_option test place) (sym is) ∙ h in cc)
    by (Some x) is h = (x, is, (let same : Some (closed_if (test x) place x) ≡ Some r = ap (closed_option test place) (sym is) ∙ h in cc))

pub below_closed : (test : Region → Bool) (place : ℕ) (regions : List Region) (next : ℕ) → AreBelow regions next → AreBelow (regions_closed test place regions) next
below_closed test place regions next below stag r e = below stag (still_there test place stag regions r e).0 (still_there test place stag regions r e).1

-- ---- What is released for a call is what is closed for it

abbrev pub of_call : ℕ → Region → Bool
of_call xid r = eqb r.call xid

pub releases_closed : (calls : List KeptCall) (next_xid : ℕ) (k : ClientState) (place : ℕ) (m : RegisteredMemory) (c : KeptCall) → CallsKeep calls next_xid k → HoldsRegions k.regions k.accesses_received place m → IsAmong c calls →
    ReleasesClosed (of_call c.xid) k.regions m (released_all m c.stags)
releases_closed calls next_xid k place m c keeps holds there stag = elim (among_or_not stag c.stags) [
  | inl is ↦
      let o : IsRegionOpen k.regions c.xid stag = all_among (λ (s : ℕ). IsRegionOpen k.regions c.xid s) c.stags stag (all_among (OpensFor k.regions) calls c keeps.opens there) is in
      let closes : is_closed_by (of_call c.xid) (region_at k.regions stag) ≡ true = ap (is_closed_by (of_call c.xid)) o.there ∙ eq-eqb o.region.call c.xid o.own in
      released_dead c.stags m stag is ∙ ap (λ (b : Bool). cond b None (live_region m stag)) (sym closes)
  | inr never ↦
      released_live c.stags m stag never ∙ other never (region_at k.regions stag) refl
]
  where
    other : (IsAmong stag c.stags → ⊥) → (x : Option Region) → region_at k.regions stag ≡ x → live_region m stag ≡ cond (is_closed_by (of_call c.xid) (region_at k.regions stag)) None (live_region m stag)
    other never None e = ap (λ (o : Option Region). cond (is_closed_by (of_call c.xid) o) None (live_region m stag)) (sym e)
    other never (Some r) e =
        by (eqb r.call c.xid) refl
        ∙ ap (λ (o : Option Region). cond (is_closed_by (of_call c.xid) o) None (live_region m stag)) (sym e)
      where
        closed : (u : Option ℕ) → r.until ≡ u → r.call ≡ c.xid → live_region m stag ≡ None
        closed None is_open own =
            let owner : IsOwned calls r.call stag = keeps.owned stag r e is_open in
            let same : owner.call ≡ c = one_of_xid calls next_xid owner.call c keeps.rising owner.there there (owner.xid_is ∙ own) in
            absurd (never (subst (λ (d : KeptCall). IsAmong stag d.stags) same owner.own))
        closed (Some until) ends own =
            holds stag
            ∙ ap (λ (o : Option Region). registered_region (region_grants place k.regions) k.accesses_received o) e
            ∙ ap (λ (u : Option ℕ). held_if_open u (record { right = r.right; buf = contents (region_grants place k.regions) r.stag r.bytes k.accesses_received })) ends

        by : (b : Bool) → eqb r.call c.xid ≡ b → live_region m stag ≡ cond (eqb r.call c.xid) None (live_region m stag)
        by true is = closed r.until refl (eqb-true r.call c.xid is) ∙ ap (λ (b : Bool). cond b None (live_region m stag)) (sym is)
        by false is = ap (λ (b : Bool). cond b None (live_region m stag)) (sym is)

-- ---- The calls without one

kept_without : (k : ClientState) (xid : ℕ) (cs : List KeptCall) (os : List OutstandingCall) → AreKept k cs os → AreKept k (without xid cs) (filter (λ o. not (eqb o.xid xid)) os)
kept_without k xid [] [] is = tt
kept_without k xid [] (o ∷ os) is = absurd is
kept_without k xid (c ∷ cs) [] is = absurd is
kept_without k xid (c ∷ cs) (o ∷ os) is =
    subst (λ (n : ℕ). AreKept k (cond (not (eqb c.xid xid)) (c ∷ without xid cs) (without xid cs)) (cond (not (eqb n xid)) (o ∷ filter (λ x. not (eqb x.xid xid)) os) (filter (λ x. not (eqb x.xid xid)) os))) is.0.xid
    (by (eqb c.xid xid) (kept_without k xid cs os is.1))
  where
    by : (b : Bool) → AreKept k (without xid cs) (filter (λ o. not (eqb o.xid xid)) os) →
        AreKept k (cond (not b) (c ∷ without xid cs) (without xid cs)) (cond (not b) (o ∷ filter (λ x. not (eqb x.xid xid)) os) (filter (λ x. not (eqb x.xid xid)) os))
    by true rest = rest
    by false rest = (is.0, rest)

pub all_without : (P : KeptCall → Type 0) (xid : ℕ) (cs : List KeptCall) → AllByRecursion P cs → AllByRecursion P (without xid cs)
all_without P xid [] h = tt
all_without P xid (c ∷ cs) h = by (eqb c.xid xid) (all_without P xid cs h.1)
  where
    by : (b : Bool) → AllByRecursion P (without xid cs) → AllByRecursion P (cond (not b) (c ∷ without xid cs) (without xid cs))
    by true rest = rest
    by false rest = (h.0, rest)

pub rising_without : (xid : ℕ) (cs : List KeptCall) (below : ℕ) → AreRising cs below → AreRising (without xid cs) below
rising_without xid [] below h = tt
rising_without xid (c ∷ cs) below h = by (eqb c.xid xid) (rising_without xid cs below h.1.1)
  where
    by : (b : Bool) → AreRising (without xid cs) below → AreRising (cond (not b) (c ∷ without xid cs) (without xid cs)) below
    by true rest = rest
    by false rest = (h.0, (all_without (λ d. c.xid < d.xid) xid cs h.1.0, rest))

among_without : (xid : ℕ) (d : KeptCall) (cs : List KeptCall) → IsAmong d cs → eqb d.xid xid ≡ false → IsAmong d (without xid cs)
among_without xid d [] is other = absurd is
among_without xid d (c ∷ cs) (inl e) other =
    subst (λ (b : Bool). IsAmong d (cond (not b) (c ∷ without xid cs) (without xid cs))) (sym (ap (λ (x : KeptCall). eqb x.xid xid) e ∙ other)) (inl e)
among_without xid d (c ∷ cs) (inr is) other = by (eqb c.xid xid) (among_without xid d cs is other)
  where
    by : (b : Bool) → IsAmong d (without xid cs) → IsAmong d (cond (not b) (c ∷ without xid cs) (without xid cs))
    by true rest = rest
    by false rest = inr rest

pub open_closed : (xid other place : ℕ) (regions : List Region) (s : ℕ) → eqb other xid ≡ false → IsRegionOpen regions other s → IsRegionOpen (regions_closed (of_call xid) place regions) other s
open_closed xid other place regions s apart o =
    let kept_open : of_call xid o.region ≡ false = ap (λ (n : ℕ). eqb n xid) o.own ∙ apart in
    record {
      region = o.region;
      there = at_closed (of_call xid) place s regions ∙ ap (closed_option (of_call xid) place) o.there ∙ ap (λ (b : Bool). Some (closed_if b place o.region)) kept_open;
      is_open = o.is_open;
      own = o.own;
    }

opens_closed : (xid place : ℕ) (regions : List Region) (cs : List KeptCall) → AllByRecursion (OpensFor regions) cs → AllByRecursion (OpensFor (regions_closed (of_call xid) place regions)) (without xid cs)
opens_closed xid place regions [] h = tt
opens_closed xid place regions (c ∷ cs) h = by (eqb c.xid xid) refl (opens_closed xid place regions cs h.1)
  where
    each : (ss : List ℕ) → eqb c.xid xid ≡ false → AllByRecursion (λ s. IsRegionOpen regions c.xid s) ss → AllByRecursion (λ s. IsRegionOpen (regions_closed (of_call xid) place regions) c.xid s) ss
    each [] apart o = tt
    each (s ∷ ss) apart o = (open_closed xid c.xid place regions s apart o.0, each ss apart o.1)

    by : (b : Bool) → eqb c.xid xid ≡ b → AllByRecursion (OpensFor (regions_closed (of_call xid) place regions)) (without xid cs) →
        AllByRecursion (OpensFor (regions_closed (of_call xid) place regions)) (cond (not b) (c ∷ without xid cs) (without xid cs))
    by true e rest = rest
    by false e rest = (each c.stags e h.0, rest)

-- the owner of a region that is still open: it is another call's
pub closed_owner : (xid place : ℕ) (calls : List KeptCall) (regions : List Region) → ((stag : ℕ) (r : Region) → region_at regions stag ≡ Some r → r.until ≡ None → IsOwned calls r.call stag) →
    (stag : ℕ) (r : Region) → region_at (regions_closed (of_call xid) place regions) stag ≡ Some r → r.until ≡ None → IsOwned calls r.call stag × (eqb r.call xid ≡ false)
closed_owner xid place calls regions owned stag r e is_open =
    by (still_there (of_call xid) place stag regions r e).0 (still_there (of_call xid) place stag regions r e).1 (of_call xid (still_there (of_call xid) place stag regions r e).0) refl (still_there (of_call xid) place stag regions r e).2
  where
    not_open : (u : Option ℕ) → until_at place u ≡ None → ⊥
    not_open None h = cc
    not_open (Some until) h = cc

    by : (x : Region) → region_at regions stag ≡ Some x → (b : Bool) → of_call xid x ≡ b → closed_if (of_call xid x) place x ≡ r → IsOwned calls r.call stag × (eqb r.call xid ≡ false)
    by x there true is same = absurd (not_open x.until (ap (λ (q : Region). q.until) (ap (λ (b : Bool). closed_if b place x) (sym is) ∙ same) ∙ is_open))
    by x there false is same =
        let same_region : x ≡ r = ap (λ (b : Bool). closed_if b place x) (sym is) ∙ same in
        subst (λ (q : Region). IsOwned calls q.call stag × (eqb q.call xid ≡ false)) same_region
        (owned stag x there (ap (λ (q : Region). q.until) same_region ∙ is_open), is)

owned_closed : (xid place : ℕ) (calls : List KeptCall) (regions : List Region) → ((stag : ℕ) (r : Region) → region_at regions stag ≡ Some r → r.until ≡ None → IsOwned calls r.call stag) →
    (stag : ℕ) (r : Region) → region_at (regions_closed (of_call xid) place regions) stag ≡ Some r → r.until ≡ None → IsOwned (without xid calls) r.call stag
owned_closed xid place calls regions owned stag r e is_open =
    let x : Region = (still_there (of_call xid) place stag regions r e).0 in
    by x (still_there (of_call xid) place stag regions r e).1 (of_call xid x) refl (still_there (of_call xid) place stag regions r e).2
  where
    not_open : (u : Option ℕ) → until_at place u ≡ None → ⊥
    not_open None h = cc
    not_open (Some until) h = cc

    by : (x : Region) → region_at regions stag ≡ Some x → (b : Bool) → of_call xid x ≡ b → closed_if (of_call xid x) place x ≡ r → IsOwned (without xid calls) r.call stag
    by x there true is same = absurd (not_open x.until (ap (λ (q : Region). q.until) (ap (λ (b : Bool). closed_if b place x) (sym is) ∙ same) ∙ is_open))
    by x there false is same =
        let same_region : x ≡ r = ap (λ (b : Bool). closed_if b place x) (sym is) ∙ same in
        let old : IsOwned calls x.call stag = owned stag x there (ap (λ (q : Region). q.until) same_region ∙ is_open) in
        subst (λ (q : Region). IsOwned (without xid calls) q.call stag) same_region
        (record { call = old.call; there = among_without xid old.call calls old.there (ap (λ (n : ℕ). eqb n xid) old.xid_is ∙ is); xid_is = old.xid_is; own = old.own })

-- what is kept of the calls doesn't depend on more of the state than which Sends have left
pub record SendsAlike (k k2 : ClientState) : Type 0 where
  pub written : k2.written ≡ k.written
  pub ends : k2.send_ends ≡ k.send_ends

pub kept_alike : (k k2 : ClientState) (cs : List KeptCall) (os : List OutstandingCall) → SendsAlike k k2 → AreKept k cs os → AreKept k2 cs os
kept_alike k k2 [] [] same is = tt
kept_alike k k2 [] (o ∷ os) same is = absurd is
kept_alike k k2 (c ∷ cs) [] same is = absurd is
kept_alike k k2 (c ∷ cs) (o ∷ os) same is = (
  record {
    xid = is.0.xid;
    send = is.0.send;
    sent = is.0.sent ∙ (λ i. ltb o.send (ends_written (sym same.written i) (sym same.ends i)));
    revoked = is.0.revoked;
    call = is.0.call;
    write = is.0.write;
    reply = is.0.reply;
    planned = is.0.planned;
    given = is.0.given;
    stags = is.0.stags;
  },
  kept_alike k k2 cs os same is.1,
)

-- The calls and regions, once those of an xid are closed and its call is no longer outstanding.
pub calls_closed : (calls : List KeptCall) (next_xid xid place : ℕ) (k k2 : ClientState) → SendsAlike k k2 → CallsKeep calls next_xid k →
    numbered_calls k2 ≡ filter (λ o. not (eqb o.xid xid)) (numbered_calls k) → k2.regions ≡ regions_closed (of_call xid) place k.regions → CallsKeep (without xid calls) next_xid k2
calls_closed calls next_xid xid place k k2 same keeps outstanding regions = record {
  kept = subst (λ (os : List OutstandingCall). AreKept k2 (without xid calls) os) (sym outstanding) (kept_alike k k2 (without xid calls) _ same (kept_without k xid calls (numbered_calls k) keeps.kept));
  rising = rising_without xid calls next_xid keeps.rising;
  owned = subst (λ (rs : List Region). (stag : ℕ) (r : Region) → region_at rs stag ≡ Some r → r.until ≡ None → IsOwned (without xid calls) r.call stag) (sym regions) (owned_closed xid place calls k.regions keeps.owned);
  opens = subst (λ (rs : List Region). AllByRecursion (OpensFor rs) (without xid calls)) (sym regions) (opens_closed xid place k.regions calls keeps.opens);
}
