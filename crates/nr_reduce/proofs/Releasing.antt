-- The regions of a call are released when its memory is revoked, and when a message of its xid comes.
use Rattle.std.proofs.Common.{◌≡◌, ℕ, ◌<◌, ◌≤◌, Bool, true, false, not, cond, eqb, leb, List, [], ◌∷◌, length, map, inl, inr, Option, None, Some, refl, sym, ap, subst, ◌∙◌, arith}
use Rattle.std.specs.List.{AllByRecursion, find}
use Rattle.std.proofs.lemmas.Bool.{eqb-true, eq-eqb, ne_eqb, le-leb}
use Rattle.std.proofs.lemmas.List.{length-map}
use Rattle.nr_xdr.specs.Fields.{word_at}
use Rattle.nr_regions.specs.RegisteredMemory.{RegisteredMemory, live_region, bytes_in}
use Rattle.nr_regions.specs.Access.{contents}
use Rattle.nr_link.specs.declared.end.End.{End}
use Rattle.nr_reduce.specs.declared.mark.LinkParameters.{LinkParameters}
use Rattle.nr_reduce.specs.OfferedRegions.{Region, until_or, regions_closed, region_grants, region_bytes, region_bytes_by}
use Rattle.nr_reduce.specs.OfferedMemory.{region_at, held_if_open, registered_region, AreReceived, HoldsRegions, is_closed_by, ReleasesClosed}
use Rattle.nr_reduce.specs.Events.RunEvent.{MemoryRevoked}
use Rattle.nr_reduce.specs.EndRules.{next_end_state, live}
use Rattle.nr_reduce.specs.ClientState.{OutstandingCall, ClientState, client_memory_at}
use Rattle.nr_reduce.specs.Client.{client_rules, client_end, client_state_after, revoked_call, with_message}
use Rattle.nr_reduce.specs.KeptCalls.{KeptCall, IsKeptCall, AreKept, numbered_calls, stags_unless}
use Rattle.nr_reduce.specs.Plans.{buffers}
use Rattle.nr_reduce.specs.KeptClient.{KeptClient, ClientKeeps, CallsKeep, MemoryKeeps, HoldsFor, IsOwned, IsRegionOpen, IsAmong, AreRising, OpensFor, IsWaiting, HasRegions, HasRegionsOf, bytes_under, released_all, stags_in, stags_for, without, revoked_if, revoked_kept, kept_revoked, kept_handed_back, kept_completed, IsOpenedWith}
use Rattle.nr_reduce.specs.StandingLaws.{KeptStays, KeptRevokes, KeptHandsBack, KeptCompletes}
use Rattle.nr_reduce.proofs.OfferedMemory.{grants_from, contents_same, AreAlike, alike_offers}
use Rattle.nr_reduce.proofs.MemorySteps.{holds_closed, holds_later, offered_closed, offered_later, received_later}
use Rattle.nr_reduce.proofs.Closing.{of_call, releases_closed, below_closed, released_next, released_none_dead, open_closed, closed_owner, released_other, all_without, rising_without, calls_closed, kept_alike}
use Rattle.nr_reduce.proofs.Conveying.{all_among, open_bytes}
use Rattle.nr_reduce.proofs.Keeping.{kept_count}
use Rattle.nr_reduce.proofs.Numbered.{numbered_revoked, numbered_without}

-- ---- The call of an xid

abbrev pub with_xid : ℕ → List KeptCall → Option KeptCall
with_xid xid cs = find (λ d. eqb d.xid xid) cs

pub first_found : (xid : ℕ) (cs : List KeptCall) (d : KeptCall) → with_xid xid cs ≡ Some d → IsAmong d cs × (d.xid ≡ xid)
first_found xid [] d h = absurd cc
first_found xid (x ∷ cs) d h = by (eqb x.xid xid) refl h (first_found xid cs d)
  where
    by : (b : Bool) → eqb x.xid xid ≡ b → cond b (Some x) (with_xid xid cs) ≡ Some d → (with_xid xid cs ≡ Some d → IsAmong d cs × (d.xid ≡ xid)) → IsAmong d (x ∷ cs) × (d.xid ≡ xid)
    by true is g later = (let same : x ≡ d = cc in (inl same, ap (λ (y : KeptCall). y.xid) (sym same) ∙ eqb-true x.xid xid is))
    by false is g later = (let rest = later g in (inr rest.0, rest.1))

pub never_none : (xid : ℕ) (cs : List KeptCall) (c : KeptCall) → IsAmong c cs → c.xid ≡ xid → with_xid xid cs ≡ None → ⊥
never_none xid [] c there e h = there
never_none xid (x ∷ cs) c there e h = by there (eqb x.xid xid) refl h (λ i. never_none xid cs c i e)
  where
    by : IsAmong c (x ∷ cs) → (b : Bool) → eqb x.xid xid ≡ b → cond b (Some x) (with_xid xid cs) ≡ None → (IsAmong c cs → with_xid xid cs ≡ None → ⊥) → ⊥
    by i true is g later = (let wrong : Some x ≡ None = g in cc)
    by (inl same) false is g later = (let t : true ≡ false = sym (eq-eqb x.xid xid (ap (λ (y : KeptCall). y.xid) same ∙ e)) ∙ is in cc)
    by (inr i) false is g later = later i g

-- ---- What is released for an xid is what is closed for it

nothing_closed : (calls : List KeptCall) (next_xid xid : ℕ) (k : ClientState) (place : ℕ) (m : RegisteredMemory) → CallsKeep calls next_xid k → HoldsRegions k.regions k.accesses_received place m → ((c : KeptCall) → IsAmong c calls → c.xid ≡ xid → ⊥) →
    ReleasesClosed (of_call xid) k.regions m m
nothing_closed calls next_xid xid k place m keeps holds never stag = by (region_at k.regions stag) refl
  where
    dead : (r : Region) (u : Option ℕ) → r.until ≡ u → region_at k.regions stag ≡ Some r → r.call ≡ xid → live_region m stag ≡ None
    dead r None is_open e own = (let owner : IsOwned calls r.call stag = keeps.owned stag r e is_open in absurd (never owner.call owner.there (owner.xid_is ∙ own)))
    dead r (Some until) ends e own =
        holds stag
        ∙ ap (λ (o : Option Region). registered_region (region_grants place k.regions) k.accesses_received o) e
        ∙ ap (λ (u : Option ℕ). held_if_open u (record { right = r.right; buf = contents (region_grants place k.regions) r.stag r.bytes k.accesses_received })) ends

    at : (r : Region) → region_at k.regions stag ≡ Some r → (b : Bool) → eqb r.call xid ≡ b → live_region m stag ≡ cond (eqb r.call xid) None (live_region m stag)
    at r e true is = dead r r.until refl e (eqb-true r.call xid is) ∙ ap (λ (b : Bool). cond b None (live_region m stag)) (sym is)
    at r e false is = ap (λ (b : Bool). cond b None (live_region m stag)) (sym is)

    by : (o : Option Region) → region_at k.regions stag ≡ o → live_region m stag ≡ cond (is_closed_by (of_call xid) (region_at k.regions stag)) None (live_region m stag)
    by None e = ap (λ (o : Option Region). cond (is_closed_by (of_call xid) o) None (live_region m stag)) (sym e)
    by (Some r) e = at r e (eqb r.call xid) refl ∙ ap (λ (o : Option Region). cond (is_closed_by (of_call xid) o) None (live_region m stag)) (sym e)

none_found_lem : (xid : ℕ) (calls : List KeptCall) (c : KeptCall) → with_xid xid calls ≡ None → IsAmong c calls → c.xid ≡ xid → ⊥
none_found_lem xid calls c none there e = never_none xid calls c there e none

pub releases_any : (calls : List KeptCall) (next_xid xid : ℕ) (k : ClientState) (place : ℕ) (m : RegisteredMemory) → CallsKeep calls next_xid k → HoldsRegions k.regions k.accesses_received place m →
    ReleasesClosed (of_call xid) k.regions m (released_all m (stags_for xid calls))
releases_any calls next_xid xid k place m keeps holds = by (with_xid xid calls) refl
  where
    by : (o : Option KeptCall) → with_xid xid calls ≡ o → ReleasesClosed (of_call xid) k.regions m (released_all m (stags_in (with_xid xid calls)))
    by None e =
        subst (λ (o : Option KeptCall). ReleasesClosed (of_call xid) k.regions m (released_all m (stags_in o))) (sym e)
        (nothing_closed calls next_xid xid k place m keeps holds (λ c there own. none_found_lem xid calls c e there own))
    by (Some c) e =
        let found = first_found xid calls c e in
        subst (λ (o : Option KeptCall). ReleasesClosed (of_call xid) k.regions m (released_all m (stags_in o))) (sym e)
        (subst (λ (n : ℕ). ReleasesClosed (of_call n) k.regions m (released_all m c.stags)) found.1 (releases_closed calls next_xid k place m c keeps holds found.0))

-- ---- The calls

one_revoked : (k : ClientState) (xid : ℕ) (c : KeptCall) (o : OutstandingCall) → IsKeptCall k c o → IsKeptCall k (revoked_kept xid c) (revoked_call xid o)
one_revoked k xid c o is = subst (λ (n : ℕ). IsKeptCall k (revoked_if (eqb c.xid xid) c) (cond (eqb n xid) (record o { is_revoked = true }) o)) is.xid (by (eqb c.xid xid))
  where
    by : (b : Bool) → IsKeptCall k (revoked_if b c) (cond b (record o { is_revoked = true }) o)
    by true = record { xid = is.xid; send = is.send; sent = is.sent; revoked = refl; call = tt; write = is.write; reply = is.reply; planned = tt; given = is.given; stags = refl }
    by false = is

kept_revoked_lem : (k : ClientState) (xid : ℕ) (cs : List KeptCall) (os : List OutstandingCall) → AreKept k cs os → AreKept k (map (revoked_kept xid) cs) (map (revoked_call xid) os)
kept_revoked_lem k xid [] [] is = tt
kept_revoked_lem k xid [] (o ∷ os) is = absurd is
kept_revoked_lem k xid (c ∷ cs) [] is = absurd is
kept_revoked_lem k xid (c ∷ cs) (o ∷ os) is = (one_revoked k xid c o is.0, kept_revoked_lem k xid cs os is.1)

same_xid : (xid : ℕ) (c : KeptCall) → (revoked_kept xid c).xid ≡ c.xid
same_xid xid c = by (eqb c.xid xid)
  where
    by : (b : Bool) → (revoked_if b c).xid ≡ c.xid
    by true = refl
    by false = refl

above_revoked : (xid n : ℕ) (cs : List KeptCall) → AllByRecursion (λ d. n < d.xid) cs → AllByRecursion (λ d. n < d.xid) (map (revoked_kept xid) cs)
above_revoked xid n [] is = tt
above_revoked xid n (c ∷ cs) is = (subst (λ (m : ℕ). n < m) (sym (same_xid xid c)) is.0, above_revoked xid n cs is.1)

rising_revoked : (xid : ℕ) (cs : List KeptCall) (below : ℕ) → AreRising cs below → AreRising (map (revoked_kept xid) cs) below
rising_revoked xid [] below is = tt
rising_revoked xid (c ∷ cs) below is = (
  subst (λ (m : ℕ). m < below) (sym (same_xid xid c)) is.0,
  (subst (λ (m : ℕ). AllByRecursion (λ d. m < d.xid) (map (revoked_kept xid) cs)) (sym (same_xid xid c)) (above_revoked xid c.xid cs is.1.0), rising_revoked xid cs below is.1.1),
)

among_revoked : (xid : ℕ) (d : KeptCall) (cs : List KeptCall) → IsAmong d cs → eqb d.xid xid ≡ false → IsAmong d (map (revoked_kept xid) cs)
among_revoked xid d [] is other = absurd is
among_revoked xid d (c ∷ cs) (inl e) other = inl (ap (revoked_kept xid) e ∙ ap (λ (b : Bool). revoked_if b d) other)
among_revoked xid d (c ∷ cs) (inr is) other = inr (among_revoked xid d cs is other)

opens_revoked : (xid place : ℕ) (regions : List Region) (cs : List KeptCall) → AllByRecursion (OpensFor regions) cs → AllByRecursion (OpensFor (regions_closed (of_call xid) place regions)) (map (revoked_kept xid) cs)
opens_revoked xid place regions [] h = tt
opens_revoked xid place regions (c ∷ cs) h = (by (eqb c.xid xid) refl, opens_revoked xid place regions cs h.1)
  where
    each : (ss : List ℕ) → eqb c.xid xid ≡ false → AllByRecursion (λ s. IsRegionOpen regions c.xid s) ss → AllByRecursion (λ s. IsRegionOpen (regions_closed (of_call xid) place regions) c.xid s) ss
    each [] apart o = tt
    each (s ∷ ss) apart o = (open_closed xid c.xid place regions s apart o.0, each ss apart o.1)

    by : (b : Bool) → eqb c.xid xid ≡ b → OpensFor (regions_closed (of_call xid) place regions) (revoked_if (eqb c.xid xid) c)
    by true e = subst (λ (b : Bool). OpensFor (regions_closed (of_call xid) place regions) (revoked_if b c)) (sym e) tt
    by false e = subst (λ (b : Bool). OpensFor (regions_closed (of_call xid) place regions) (revoked_if b c)) (sym e) (each c.stags e h.0)

calls_revoked : (opened : LinkParameters) (calls : List KeptCall) (next_xid xid place : ℕ) (k : ClientState) → CallsKeep calls next_xid k → CallsKeep (map (revoked_kept xid) calls) next_xid (client_state_after opened k (MemoryRevoked place xid))
unfolding client_state_after
calls_revoked opened calls next_xid xid place k keeps = record {
  kept = subst (λ (os : List OutstandingCall). AreKept (client_state_after opened k (MemoryRevoked place xid)) (map (revoked_kept xid) calls) os) (numbered_revoked xid k)
      (kept_alike k (client_state_after opened k (MemoryRevoked place xid)) (map (revoked_kept xid) calls) (map (revoked_call xid) (numbered_calls k)) (record { written = refl; ends = refl }) (kept_revoked_lem k xid calls (numbered_calls k) keeps.kept));
  rising = rising_revoked xid calls next_xid keeps.rising;
  owned = λ stag r e is_open.
      (let owner = closed_owner xid place calls k.regions keeps.owned stag r e is_open in
      record { call = owner.0.call; there = among_revoked xid owner.0.call calls owner.0.there (ap (λ (n : ℕ). eqb n xid) owner.0.xid_is ∙ owner.1); xid_is = owner.0.xid_is; own = owner.0.own });
  opens = opens_revoked xid place k.regions calls keeps.opens;
}

-- ---- Once it has ended

opens_still : (xid : ℕ) (regions : List Region) (cs : List KeptCall) → AllByRecursion (OpensFor regions) cs → AllByRecursion (OpensFor regions) (map (revoked_kept xid) cs)
opens_still xid regions [] h = tt
opens_still xid regions (c ∷ cs) h = (by (eqb c.xid xid), opens_still xid regions cs h.1)
  where
    by : (b : Bool) → OpensFor regions (revoked_if b c)
    by true = tt
    by false = h.0

-- an STag of another call isn't released
not_its : (regions : List Region) (calls : List KeptCall) (xid other s : ℕ) → AllByRecursion (OpensFor regions) calls → eqb other xid ≡ false → IsRegionOpen regions other s → IsAmong s (stags_for xid calls) → ⊥
not_its regions calls xid other s opens apart o is = by (with_xid xid calls) refl is
  where
    own : (c : KeptCall) → with_xid xid calls ≡ Some c → IsAmong s c.stags → ⊥
    own c e there =
        let found = first_found xid calls c e in
        let p : IsRegionOpen regions c.xid s = all_among (λ (x : ℕ). IsRegionOpen regions c.xid x) c.stags s (all_among (OpensFor regions) calls c opens found.0) there in
        let same : o.region ≡ p.region = (let t : Some o.region ≡ Some p.region = sym o.there ∙ p.there in cc) in
        let xids : other ≡ xid = sym o.own ∙ ap (λ (r : Region). r.call) same ∙ p.own ∙ found.1 in
        (let wrong : true ≡ false = sym (eq-eqb other xid xids) ∙ apart in cc)

    by : (x : Option KeptCall) → with_xid xid calls ≡ x → IsAmong s (stags_in (with_xid xid calls)) → ⊥
    by None e there = subst (λ (x : Option KeptCall). IsAmong s (stags_in x)) e there
    by (Some c) e there = own c e (subst (λ (x : Option KeptCall). IsAmong s (stags_in x)) e there)

stags_still : (xid other : ℕ) (m : RegisteredMemory) (k : ClientState) (count : ℕ) (calls : List KeptCall) (stags : List ℕ) → AllByRecursion (OpensFor k.regions) calls → eqb other xid ≡ false → AllByRecursion (λ s. IsRegionOpen k.regions other s) stags →
    AllByRecursion (λ s. bytes_under m s ≡ client_memory_at k count s) stags → AllByRecursion (λ s. bytes_under (released_all m (stags_for xid calls)) s ≡ client_memory_at k count s) stags
stags_still xid other m k count calls [] opens apart o h = tt
stags_still xid other m k count calls (s ∷ stags) opens apart o h = (
  ap bytes_in (released_other (stags_for xid calls) m s (not_its k.regions calls xid other s opens apart o.0)) ∙ h.0,
  stags_still xid other m k count calls stags opens apart o.1 h.1,
)

holds_still : (xid : ℕ) (m : RegisteredMemory) (k : ClientState) (count : ℕ) (calls cs : List KeptCall) → AllByRecursion (OpensFor k.regions) calls → AllByRecursion (OpensFor k.regions) cs → AllByRecursion (HoldsFor m k count) cs →
    AllByRecursion (HoldsFor (released_all m (stags_for xid calls)) k count) (map (revoked_kept xid) cs)
holds_still xid m k count calls [] opens o h = tt
holds_still xid m k count calls (c ∷ cs) opens o h = (by (eqb c.xid xid) refl, holds_still xid m k count calls cs opens o.1 h.1)
  where
    by : (b : Bool) → eqb c.xid xid ≡ b → HoldsFor (released_all m (stags_for xid calls)) k count (revoked_if (eqb c.xid xid) c)
    by true e = subst (λ (b : Bool). HoldsFor (released_all m (stags_for xid calls)) k count (revoked_if b c)) (sym e) tt
    by false e = subst (λ (b : Bool). HoldsFor (released_all m (stags_for xid calls)) k count (revoked_if b c)) (sym e) (stags_still xid c.xid m k count calls c.stags opens e o.0 h.0)

holds_revoked : (xid : ℕ) (m : RegisteredMemory) (k : ClientState) (count : ℕ) (calls : List KeptCall) (next_xid : ℕ) → AreRising calls next_xid → AllByRecursion (OpensFor k.regions) calls → AllByRecursion (HoldsFor m k count) calls →
    AllByRecursion (HoldsFor (released_all m (stags_for xid calls)) k count) (map (revoked_kept xid) calls)
holds_revoked xid m k count calls next_xid rising opens h = holds_still xid m k count calls calls opens opens h

holds_without : (xid : ℕ) (m : RegisteredMemory) (k : ClientState) (count : ℕ) (calls cs : List KeptCall) → AllByRecursion (OpensFor k.regions) calls → AllByRecursion (OpensFor k.regions) cs → AllByRecursion (HoldsFor m k count) cs →
    AllByRecursion (HoldsFor (released_all m (stags_for xid calls)) k count) (without xid cs)
holds_without xid m k count calls [] opens o h = tt
holds_without xid m k count calls (c ∷ cs) opens o h = by (eqb c.xid xid) refl (holds_without xid m k count calls cs opens o.1 h.1)
  where
    by : (b : Bool) → eqb c.xid xid ≡ b → AllByRecursion (HoldsFor (released_all m (stags_for xid calls)) k count) (without xid cs) →
        AllByRecursion (HoldsFor (released_all m (stags_for xid calls)) k count) (cond (not b) (c ∷ without xid cs) (without xid cs))
    by true e rest = rest
    by false e rest = (stags_still xid c.xid m k count calls c.stags opens e o.0 h.0, rest)

-- ---- What the memory holds

stags_hold : (k : ClientState) (count xid : ℕ) (m : RegisteredMemory) (stags : List ℕ) → HoldsRegions k.regions k.accesses_received count m → AllByRecursion (λ s. IsRegionOpen k.regions xid s) stags → AllByRecursion (λ s. bytes_under m s ≡ client_memory_at k count s) stags
stags_hold k count xid m [] holds h = tt
stags_hold k count xid m (s ∷ stags) holds h = (open_bytes k count m xid s holds h.0, stags_hold k count xid m stags holds h.1)

-- memory that holds the open regions holds those of the calls
pub calls_hold : (k : ClientState) (count : ℕ) (m : RegisteredMemory) (calls : List KeptCall) → HoldsRegions k.regions k.accesses_received count m → AllByRecursion (OpensFor k.regions) calls → AllByRecursion (HoldsFor m k count) calls
calls_hold k count m [] holds h = tt
calls_hold k count m (c ∷ calls) holds h = (stags_hold k count c.xid m c.stags holds h.0, calls_hold k count m calls holds h.1)

-- what a region holds doesn't change while no more of its accesses come
self_alike : (place later : ℕ) (regions : List Region) → place ≤ later → AreAlike place place later regions regions
self_alike place later [] le = tt
self_alike place later (r ∷ regions) le =
    (record { stag = refl; right = refl; bytes = refl; from = refl; until = λ end low. by r.until end low }, self_alike place later regions le)
  where
    by : (u : Option ℕ) (end : ℕ) → end ≤ place → leb end (until_or place u) ≡ leb end (until_or later u)
    by None end low = le-leb end place low ∙ sym (le-leb end later (omega (arith, low, le)))
    by (Some until) end low = refl

pub memory_later : (k : ClientState) (count later stag : ℕ) → count ≤ later → AreReceived count k.accesses_received → client_memory_at k later stag ≡ client_memory_at k count stag
unfolding region_bytes region_grants
memory_later k count later stag le received = by (find (λ r. eqb r.stag stag) k.regions)
  where
    by : (o : Option Region) → region_bytes_by (grants_from later k.regions) k.accesses_received o ≡ region_bytes_by (grants_from count k.regions) k.accesses_received o
    by None = refl
    by (Some r) = sym (contents_same count (grants_from count k.regions) (grants_from later k.regions) r.stag r.bytes k.accesses_received (λ end low. alike_offers count count later r.stag end k.regions k.regions (self_alike count later k.regions le) low) received)

stags_later : (k : ClientState) (count later : ℕ) (m : RegisteredMemory) (stags : List ℕ) → count ≤ later → AreReceived count k.accesses_received → AllByRecursion (λ s. bytes_under m s ≡ client_memory_at k count s) stags → AllByRecursion (λ s. bytes_under m s ≡ client_memory_at k later s) stags
stags_later k count later m [] le received h = tt
stags_later k count later m (s ∷ stags) le received h = (h.0 ∙ sym (memory_later k count later s le received), stags_later k count later m stags le received h.1)

pub holds_on : (k : ClientState) (count later : ℕ) (m : RegisteredMemory) (calls : List KeptCall) → count ≤ later → AreReceived count k.accesses_received → AllByRecursion (HoldsFor m k count) calls → AllByRecursion (HoldsFor m k later) calls
holds_on k count later m [] le received h = tt
holds_on k count later m (c ∷ calls) le received h = (stags_later k count later m c.stags le received h.0, holds_on k count later m calls le received h.1)

-- ---- The laws

pub kept_stays : KeptStays
kept_stays opened kept e count later keeps le = record {
  ended = keeps.ended;
  xid = keeps.xid;
  sends = keeps.sends;
  grant = keeps.grant;
  up = keeps.up;
  down = keeps.down;
  invalidates = keeps.invalidates;
  opening = keeps.opening;
  outstanding = keeps.outstanding;
  calls = keeps.calls;
  memory = λ lives.
      (let memory : MemoryKeeps kept.memory e.state count = keeps.memory lives in
      record {
        next = memory.next;
        offered = offered_later count later e.state.regions le memory.offered;
        holds = holds_later e.state.regions e.state.accesses_received count later kept.memory le keeps.accesses memory.holds;
        none_dead = memory.none_dead;
        below = memory.below;
      });
  waits = keeps.waits;
  rising = keeps.rising;
  opens = keeps.opens;
  accesses = received_later count later e.state.accesses_received le keeps.accesses;
  holds = holds_on e.state count later kept.memory kept.calls le keeps.accesses keeps.holds;
}

has_regions : (k : ClientState) (c : KeptCall) (o : OutstandingCall) → IsKeptCall k c o → HasRegions c o
has_regions k c o is = record { call = is.call; stags = is.stags ∙ ap (λ (b : Bool). stags_unless b (buffers o.stag o.plan)) (sym is.revoked) }

waits_first : (k : ClientState) (c : KeptCall) (o : OutstandingCall) (os : List OutstandingCall) → IsKeptCall k c o → IsWaiting (o ∷ os) c
waits_first k c o os is =
    subst (λ (b : Bool). HasRegionsOf c (cond b (Some o) (find (λ (p : OutstandingCall). eqb p.xid c.xid) os))) (sym (eq-eqb o.xid c.xid (sym is.xid))) (has_regions k c o is)

waits_more : (c : KeptCall) (o : OutstandingCall) (os : List OutstandingCall) → o.xid < c.xid → IsWaiting os c → IsWaiting (o ∷ os) c
waits_more c o os lt is =
    subst (λ (b : Bool). HasRegionsOf c (cond b (Some o) (find (λ (p : OutstandingCall). eqb p.xid c.xid) os))) (sym (ne_eqb o.xid c.xid (λ e. (let same = e in omega (arith, same, lt))))) is

all_more : (o : OutstandingCall) (os : List OutstandingCall) (cs : List KeptCall) → AllByRecursion (λ d. o.xid < d.xid) cs → AllByRecursion (IsWaiting os) cs → AllByRecursion (IsWaiting (o ∷ os)) cs
all_more o os [] lt is = tt
all_more o os (c ∷ cs) lt is = (waits_more c o os lt.0 is.0, all_more o os cs lt.1 is.1)

-- each kept call is an outstanding one
kept_waits : (k : ClientState) (cs : List KeptCall) (os : List OutstandingCall) (below : ℕ) → AreRising cs below → AreKept k cs os → AllByRecursion (IsWaiting os) cs
kept_waits k [] os below rising is = tt
kept_waits k (c ∷ cs) [] below rising is = absurd is
kept_waits k (c ∷ cs) (o ∷ os) below rising is =
    (waits_first k c o os is.0, all_more o os cs (subst (λ (n : ℕ). AllByRecursion (λ d. n < d.xid) cs) is.0.xid rising.1.0) (kept_waits k cs os below rising.1.1 is.1))

waits_revoked : (xid : ℕ) (os : List OutstandingCall) (cs : List KeptCall) → AllByRecursion (IsWaiting os) cs → AllByRecursion (IsWaiting os) (map (revoked_kept xid) cs)
waits_revoked xid os [] h = tt
waits_revoked xid os (c ∷ cs) h = (by (eqb c.xid xid), waits_revoked xid os cs h.1)
  where
    one : (o : Option OutstandingCall) → HasRegionsOf c o → HasRegionsOf (revoked_if true c) o
    one None h = h
    one (Some o) h = record { call = tt; stags = refl }

    by : (b : Bool) → IsWaiting os (revoked_if b c)
    by true = one (find (λ (p : OutstandingCall). eqb p.xid c.xid) os) h.0
    by false = h.0

-- of a client that hasn't ended the memory of its calls is that of its open regions
pub keeps_live : (opened : LinkParameters) (kept : KeptClient) (k : ClientState) (count : ℕ) → kept.ended ≡ None → kept.next_xid ≡ k.next_xid → kept.sends ≡ k.sends → kept.grant ≡ k.grant → kept.up_max ≡ k.up_max → kept.down_max ≡ k.down_max → kept.invalidates ≡ k.invalidates → IsOpenedWith kept.number kept.agreed k → kept.outstanding ≡ length (numbered_calls k) →
    AreReceived count k.accesses_received → MemoryKeeps kept.memory k count → CallsKeep kept.calls kept.next_xid k → ClientKeeps opened kept (live k) count
keeps_live opened kept k count ended xid sends grant up down invalidates opening outstanding accesses memory calls = record {
  ended = ended;
  xid = xid;
  sends = sends;
  grant = grant;
  up = up;
  down = down;
  invalidates = invalidates;
  opening = opening;
  outstanding = outstanding;
  calls = λ lives. calls;
  memory = λ lives. memory;
  waits = kept_waits k kept.calls (numbered_calls k) kept.next_xid calls.rising calls.kept;
  rising = calls.rising;
  opens = calls.opens;
  accesses = accesses;
  holds = calls_hold k count kept.memory kept.calls memory.holds calls.opens;
}

memory_closed : (xid count later : ℕ) (calls : List KeptCall) (next_xid : ℕ) (k k2 : ClientState) (m : RegisteredMemory) → count ≤ later → CallsKeep calls next_xid k → AreReceived count k.accesses_received → MemoryKeeps m k count →
    k2.stag ≡ k.stag → k2.accesses_received ≡ k.accesses_received → k2.regions ≡ regions_closed (of_call xid) later k.regions → MemoryKeeps (released_all m (stags_for xid calls)) k2 later
memory_closed xid count later calls next_xid k k2 m le keeps received memory stag accesses regions = record {
  next = released_next (stags_for xid calls) m ∙ memory.next ∙ sym stag;
  offered = subst (λ (rs : List Region). Rattle.nr_reduce.specs.OfferedMemory.AreOffered later rs) (sym regions) (offered_closed (of_call xid) count later k.regions le memory.offered);
  holds = subst (λ (rs : List Region). HoldsRegions rs k2.accesses_received later (released_all m (stags_for xid calls))) (sym regions)
      (subst (λ (xs : List Rattle.nr_regions.specs.Access.TaggedSegment). HoldsRegions (regions_closed (of_call xid) later k.regions) xs later (released_all m (stags_for xid calls))) (sym accesses)
      (holds_closed (of_call xid) k.regions k.accesses_received count later m (released_all m (stags_for xid calls)) le received (releases_any calls next_xid xid k count m keeps memory.holds) memory.holds));
  none_dead = released_none_dead (stags_for xid calls) m memory.none_dead;
  below = subst (λ (n : ℕ). Rattle.nr_reduce.specs.KeptClient.AreBelow k2.regions n) (sym stag)
      (subst (λ (rs : List Region). Rattle.nr_reduce.specs.KeptClient.AreBelow rs k.stag) (sym regions) (below_closed (of_call xid) later k.regions k.stag memory.below));
}

revokes : (opened : LinkParameters) (kept : KeptClient) (k : ClientState) (count xid : ℕ) → ClientKeeps opened kept (live k) count → ClientKeeps opened (kept_revoked kept xid) (next_end_state (client_rules opened) (live k) (MemoryRevoked count xid)) count
unfolding client_end client_state_after kept_revoked
revokes opened kept k count xid keeps =
    let calls : CallsKeep kept.calls kept.next_xid k = keeps.calls refl in
    keeps_live opened (kept_revoked kept xid) (client_state_after opened k (MemoryRevoked count xid)) count keeps.ended keeps.xid keeps.sends keeps.grant keeps.up keeps.down keeps.invalidates keeps.opening (keeps.outstanding ∙ sym (length-map (numbered_calls k) (revoked_call xid)) ∙ ap (λ (os : List OutstandingCall). length os) (numbered_revoked xid k)) keeps.accesses
    (memory_closed xid count count kept.calls kept.next_xid k (client_state_after opened k (MemoryRevoked count xid)) kept.memory (omega arith) calls keeps.accesses (keeps.memory refl) refl refl refl)
    (calls_revoked opened kept.calls kept.next_xid xid count k calls)

revokes_ended : (opened : LinkParameters) (kept : KeptClient) (k : ClientState) (end : End) (count xid : ℕ) → ClientKeeps opened kept (record { state = k; ended = Some end }) count → ClientKeeps opened (kept_revoked kept xid) (record { state = k; ended = Some end }) count
unfolding kept_revoked
revokes_ended opened kept k end count xid keeps = record {
  ended = keeps.ended;
  xid = keeps.xid;
  sends = keeps.sends;
  grant = keeps.grant;
  up = keeps.up;
  down = keeps.down;
  invalidates = keeps.invalidates;
  opening = keeps.opening;
  outstanding = keeps.outstanding;
  calls = λ e. absurd cc;
  memory = λ e. absurd cc;
  waits = waits_revoked xid (numbered_calls k) kept.calls keeps.waits;
  rising = rising_revoked xid kept.calls kept.next_xid keeps.rising;
  opens = opens_still xid k.regions kept.calls keeps.opens;
  accesses = keeps.accesses;
  holds = holds_revoked xid kept.memory k count kept.calls kept.next_xid keeps.rising keeps.opens keeps.holds;
}

pub kept_revokes : KeptRevokes
kept_revokes opened kept e count xid keeps = by e.ended refl
  where
    by : (x : Option End) → e.ended ≡ x → ClientKeeps opened (kept_revoked kept xid) (next_end_state (client_rules opened) e (MemoryRevoked count xid)) count
    by None is =
        subst (λ (y : Option End). ClientKeeps opened (kept_revoked kept xid) (next_end_state (client_rules opened) (record { state = e.state; ended = y }) (MemoryRevoked count xid)) count) (sym is)
        (revokes opened kept e.state count xid (subst (λ (y : Option End). ClientKeeps opened kept (record { state = e.state; ended = y }) count) is keeps))
    by (Some end) is =
        subst (λ (y : Option End). ClientKeeps opened (kept_revoked kept xid) (next_end_state (client_rules opened) (record { state = e.state; ended = y }) (MemoryRevoked count xid)) count) (sym is)
        (revokes_ended opened kept e.state end count xid (subst (λ (y : Option End). ClientKeeps opened kept (record { state = e.state; ended = y }) count) is keeps))

pub kept_hands_back : KeptHandsBack
unfolding kept_handed_back
kept_hands_back opened kept e end count xid ended keeps = record {
  ended = keeps.ended;
  xid = keeps.xid;
  sends = keeps.sends;
  grant = keeps.grant;
  up = keeps.up;
  down = keeps.down;
  invalidates = keeps.invalidates;
  opening = keeps.opening;
  outstanding = keeps.outstanding;
  calls = λ lives. absurd (let wrong : Some end ≡ None = sym ended ∙ lives in cc);
  memory = λ lives. absurd (let wrong : Some end ≡ None = sym ended ∙ lives in cc);
  waits = all_without (IsWaiting (numbered_calls e.state)) xid kept.calls keeps.waits;
  rising = rising_without xid kept.calls kept.next_xid keeps.rising;
  opens = all_without (OpensFor e.state.regions) xid kept.calls keeps.opens;
  accesses = keeps.accesses;
  holds = holds_without xid kept.memory e.state count kept.calls kept.calls keeps.opens keeps.opens keeps.holds;
}

pub kept_completes : KeptCompletes
unfolding kept_completed
kept_completes opened kept k count place message keeps le others =
    let calls : CallsKeep kept.calls kept.next_xid k = keeps.calls refl in
    let after : ClientState = with_message k place (Some message) in
    let closed : CallsKeep (without (word_at 0 message) kept.calls) kept.next_xid after =
    calls_closed kept.calls kept.next_xid (word_at 0 message) place k after (record { written = refl; ends = refl }) calls
    (sym (numbered_without (word_at 0 message) k.sends k.outstanding k.waiting others)) refl in
    keeps_live opened (kept_completed kept message) after place keeps.ended keeps.xid keeps.sends refl keeps.up keeps.down keeps.invalidates keeps.opening (kept_count after (without (word_at 0 message) kept.calls) (numbered_calls after) closed.kept) (received_later count place k.accesses_received le keeps.accesses)
    (memory_closed (word_at 0 message) count place kept.calls kept.next_xid k after kept.memory le calls keeps.accesses (keeps.memory refl) refl refl refl)
    closed
