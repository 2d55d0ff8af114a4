-- What a client keeps as it is opened is enough for it: the calls that it sends again are kept with their regions, one after the other.
use Rattle.std.proofs.Common.{◌≡◌, ℕ, suc, ◌+◌, ◌<◌, Bool, false, cond, ltb, List, [], ◌∷◌, ◌++◌, length, map, inl, inr, Option, None, Some, refl, sym, ap, subst, ◌∙◌, arith, append-nil, append_assoc}
use Rattle.std.specs.Prelude.{unwrap_or}
use Rattle.std.specs.List.{AllByRecursion}
use Rattle.std.specs.Ordering.{nat_cmp}
use Rattle.std.specs.FinMap.{get-empty}
use Rattle.std.proofs.lemmas.Bool.{le-ltb}
use Rattle.nr_regions.specs.RegisteredMemory.{Region as HeldRegion, RegisteredMemory, NoneIsDead, initial_memory, live_region, held_region}
use Rattle.nr_reduce.specs.declared.mark.LinkParameters.{LinkParameters}
use Rattle.nr_reduce.specs.declared.mark.ResumedCall.{ResumedCall}
use Rattle.nr_reduce.specs.Plans.{Buffer, buffers, regions_needed}
use Rattle.nr_reduce.specs.OfferedRegions.{Region}
use Rattle.nr_reduce.specs.Written.{ends_written}
use Rattle.nr_reduce.specs.OfferedMemory.{region_at, HoldsRegions}
use Rattle.nr_reduce.specs.ClientState.{ClientState, call_payload, region_of, waiting_from, waiting_regions, stag_after}
use Rattle.nr_reduce.specs.Client.{initial_client}
use Rattle.nr_reduce.specs.KeptCalls.{KeptCall, AreKept, numbered_from}
use Rattle.nr_reduce.specs.KeptClient.{ClientKeeps, IsOwned, IsRegionOpen, AreRising, OpensFor, kept_of, registered_all, resumed_kept, resumed_memory, opened_client, CanResume}
use Rattle.nr_reduce.proofs.Registering.{Registers, register_all, buffers_numbered, buffers_count, opens_new, opens_old, own_region, at_both, or_region}
use Rattle.nr_reduce.proofs.Releasing.{keeps_live}
use Rattle.nr_reduce.proofs.PlansByLists.{planned_by_lists}

-- ---- Its memory

memory_begins : (first_stag : ℕ) → HoldsRegions [] [] 0 (initial_memory first_stag)
unfolding live_region held_region initial_memory
memory_begins first_stag stag =
    let flag = get-empty {X = Bool} nat_cmp stag in
    let region = get-empty {X = HeldRegion} nat_cmp stag in
    λ i. cond (unwrap_or (flag i) false) None (region i)

none_begins : (first_stag : ℕ) → NoneIsDead (initial_memory first_stag)
unfolding initial_memory
none_begins first_stag stag = ap (λ (o : Option Bool). unwrap_or o false) (get-empty nat_cmp stag)

next_begins : (first_stag : ℕ) → (initial_memory first_stag).next ≡ first_stag
unfolding initial_memory
next_begins first_stag = refl

abbrev regions_from : (stag : ℕ) → List ResumedCall → List Region
regions_from stag rs = waiting_regions (waiting_from stag rs)

abbrev own_regions : (stag : ℕ) → ResumedCall → List Region
own_regions stag r = map (region_of r.xid 0) (buffers stag r.plan)

-- the regions of one call more
one_call : (regions : List Region) (m : RegisteredMemory) (stag : ℕ) (r : ResumedCall) → Registers regions [] 0 m stag → Registers (regions ++ own_regions stag r) [] 0 (registered_all m (buffers m.next r.plan)) (stag + regions_needed r.plan)
one_call regions m stag r h =
    subst (λ (n : ℕ). Registers (regions ++ own_regions stag r) [] 0 (registered_all m (buffers n r.plan)) (stag + regions_needed r.plan)) (sym h.next_is)
    (subst (λ (n : ℕ). Registers (regions ++ own_regions stag r) [] 0 (registered_all m (buffers stag r.plan)) (stag + n)) (buffers_count stag r.plan)
    (register_all r.xid 0 [] (buffers stag r.plan) regions m stag tt (buffers_numbered stag r.plan) h))

all_registered : (regions : List Region) (m : RegisteredMemory) (stag : ℕ) (rs : List ResumedCall) → Registers regions [] 0 m stag → Registers (regions ++ regions_from stag rs) [] 0 (resumed_memory m rs) (stag_after stag rs)
all_registered regions m stag [] h = subst (λ (xs : List Region). Registers xs [] 0 m stag) (sym (append-nil regions)) h
all_registered regions m stag (r ∷ rs) h =
    subst (λ (xs : List Region). Registers xs [] 0 (resumed_memory (registered_all m (buffers m.next r.plan)) rs) (stag_after (stag + regions_needed r.plan) rs))
    (append_assoc regions (own_regions stag r) (regions_from (stag + regions_needed r.plan) rs))
    (all_registered (regions ++ own_regions stag r) (registered_all m (buffers m.next r.plan)) (stag + regions_needed r.plan) rs (one_call regions m stag r h))

-- ---- Its calls

all_kept : (k : ClientState) (next send stag : ℕ) (rs : List ResumedCall) → CanResume rs next → k.written ≡ 0 → k.send_ends ≡ [] → AreKept k (resumed_kept send stag rs) (numbered_from send (waiting_from stag rs))
all_kept k next send stag [] can written ends = tt
all_kept k next send stag (r ∷ rs) can written ends = (
  record {
    xid = refl;
    send = refl;
    sent = sym (ap (ltb send) (λ i. ends_written (written i) (ends i)) ∙ le-ltb send 0 (omega arith));
    revoked = refl;
    call = refl;
    write = refl;
    reply = refl;
    planned = planned_by_lists (call_payload r.xid r.call) r.form can.0.up can.0.down stag r.plan can.0.planned;
    given = refl;
    stags = refl;
  },
  all_kept k next (send + 1) (stag + regions_needed r.plan) rs can.1.1.1 written ends,
)

above_kept : (n send stag : ℕ) (rs : List ResumedCall) → AllByRecursion (λ (r : ResumedCall). n < r.xid) rs → AllByRecursion (λ (c : KeptCall). n < c.xid) (resumed_kept send stag rs)
above_kept n send stag [] h = tt
above_kept n send stag (r ∷ rs) h = (h.0, above_kept n (send + 1) (stag + regions_needed r.plan) rs h.1)

rising_kept : (next send stag : ℕ) (rs : List ResumedCall) → CanResume rs next → AreRising (resumed_kept send stag rs) next
rising_kept next send stag [] h = tt
rising_kept next send stag (r ∷ rs) h = (h.1.0, (above_kept r.xid (send + 1) (stag + regions_needed r.plan) rs h.1.1.0, rising_kept next (send + 1) (stag + regions_needed r.plan) rs h.1.1.1))

-- each region is that of a kept call
all_owned : (send stag : ℕ) (rs : List ResumedCall) (s : ℕ) (g : Region) → region_at (regions_from stag rs) s ≡ Some g → IsOwned (resumed_kept send stag rs) g.call s
all_owned send stag [] s g is = absurd cc
all_owned send stag (r ∷ rs) s g is =
    by (region_at own s) refl (sym (at_both own rest s) ∙ is) (all_owned (send + 1) (stag + regions_needed r.plan) rs s g)
  where
    own : List Region
    own = own_regions stag r

    rest : List Region
    rest = regions_from (stag + regions_needed r.plan) rs

    c : KeptCall
    c = kept_of r.xid send r.call r.plan stag

    by : (o : Option Region) → region_at own s ≡ o → or_region (region_at own s) (region_at rest s) ≡ Some g → (region_at rest s ≡ Some g → IsOwned (resumed_kept (send + 1) (stag + regions_needed r.plan) rs) g.call s) →
        IsOwned (c ∷ resumed_kept (send + 1) (stag + regions_needed r.plan) rs) g.call s
    by (Some q) e h later =
        let same : q ≡ g = (let t : Some q ≡ Some g = ap (λ (o : Option Region). or_region o (region_at rest s)) (sym e) ∙ h in cc) in
        let mine = own_region r.xid 0 (buffers stag r.plan) s g (e ∙ ap (λ (x : Region). Some x) same) in
        record { call = c; there = inl refl; xid_is = sym mine.0; own = mine.1 }
    by None e h later =
        let old = later (ap (λ (o : Option Region). or_region o (region_at rest s)) (sym e) ∙ h) in
        record { call = old.call; there = inr old.there; xid_is = old.xid_is; own = old.own }

-- the regions of each call are open
still_open : (regions more : List Region) (xid : ℕ) (stags : List ℕ) → AllByRecursion (λ s. IsRegionOpen regions xid s) stags → AllByRecursion (λ s. IsRegionOpen (regions ++ more) xid s) stags
still_open regions more xid [] h = tt
still_open regions more xid (s ∷ stags) h = (opens_old regions more xid s h.0, still_open regions more xid stags h.1)

all_open : (regions : List Region) (m : RegisteredMemory) (send stag : ℕ) (rs : List ResumedCall) → Registers regions [] 0 m stag → AllByRecursion (OpensFor (regions ++ regions_from stag rs)) (resumed_kept send stag rs)
all_open regions m send stag [] h = tt
all_open regions m send stag (r ∷ rs) h =
    let own : List Region = own_regions stag r in
    let next : ℕ = stag + regions_needed r.plan in
    let rest : List Region = regions_from next rs in
    let stags : List ℕ = map (λ (b : Buffer). b.stag) (buffers stag r.plan) in
    let first : AllByRecursion (λ s. IsRegionOpen ((regions ++ own) ++ rest) r.xid s) stags =
    still_open (regions ++ own) rest r.xid stags (opens_new r.xid 0 regions (buffers stag r.plan) stag h.below (buffers_numbered stag r.plan)) in
    let later : AllByRecursion (OpensFor ((regions ++ own) ++ rest)) (resumed_kept (send + 1) next rs) =
    all_open (regions ++ own) (registered_all m (buffers m.next r.plan)) (send + 1) next rs (one_call regions m stag r h) in (
      subst (λ (xs : List Region). AllByRecursion (λ s. IsRegionOpen xs r.xid s) stags) (append_assoc regions own rest) first,
      subst (λ (xs : List Region). AllByRecursion (OpensFor xs) (resumed_kept (send + 1) next rs)) (append_assoc regions own rest) later,
    )

count_waiting : (send stag : ℕ) (rs : List ResumedCall) → length rs ≡ length (numbered_from send (waiting_from stag rs))
count_waiting send stag [] = refl
count_waiting send stag (r ∷ rs) = ap suc (count_waiting (send + 1) (stag + regions_needed r.plan) rs)

-- ---- The client

pub keeps_begins : (opened : LinkParameters) → CanResume opened.resumed opened.first_xid → ClientKeeps opened (opened_client opened) (initial_client opened) 0
keeps_begins opened rise =
    let rs : List ResumedCall = opened.resumed in
    let stag : ℕ = opened.first_stag in
    let k : ClientState = (initial_client opened).state in
    let none : Registers [] [] 0 (initial_memory stag) stag = record { offered = tt; holds = memory_begins stag; none_dead = none_begins stag; below = λ s r e. absurd cc; next_is = next_begins stag } in
    let all : Registers (regions_from stag rs) [] 0 (resumed_memory (initial_memory stag) rs) (stag_after stag rs) = all_registered [] (initial_memory stag) stag rs none in
    keeps_live opened (opened_client opened) k 0 refl refl refl refl refl refl refl (refl, refl) (count_waiting 0 stag rs) tt
    (record { next = all.next_is; offered = all.offered; holds = all.holds; none_dead = all.none_dead; below = all.below })
    (record {
      kept = all_kept k opened.first_xid 0 stag rs rise refl refl;
      rising = rising_kept opened.first_xid 0 stag rs rise;
      owned = λ s g is is_open. all_owned 0 stag rs s g is;
      opens = all_open [] (initial_memory stag) 0 stag rs none;
    })
