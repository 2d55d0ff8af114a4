-- The regions of a call are registered one after the other.
use Rattle.std.proofs.Common.{◌≡◌, ℕ, ◌+◌, ◌<◌, ◌≤◌, Bool, true, false, cond, eqb, List, [], ◌∷◌, ◌++◌, length, map, replicate, inl, inr, Option, None, Some, refl, sym, ap, subst, ◌∙◌, arith, append_assoc, length-append}
use Rattle.std.specs.List.{AllByRecursion}
use Rattle.std.proofs.lemmas.List.{append-nil}
use Rattle.std.proofs.lemmas.Bool.{eqb-true, eq-eqb, ne_eqb}
use Rattle.nr_regions.specs.declared.right.Right.{Right}
use Rattle.nr_regions.specs.declared.right.Right.TheVariants.{Fetch, Fill}
use Rattle.nr_regions.specs.Access.{TaggedSegment}
use Rattle.nr_regions.specs.RegisteredMemory.{RegisteredMemory, NoneIsDead, after_register}
use Rattle.nr_regions.proofs.Holding.{none_dead_register}
use Rattle.nr_reduce.specs.declared.outline.Plan.{Plan}
use Rattle.nr_reduce.specs.Plans.{Buffer, buffers, buffer_if, regions_needed, has_segment, one_if, total}
use Rattle.nr_reduce.specs.OfferedRegions.{Region}
use Rattle.nr_reduce.specs.OfferedMemory.{region_at, AreOffered, AreReceived, HoldsRegions}
use Rattle.nr_reduce.specs.ClientState.{region_of}
use Rattle.nr_reduce.proofs.MemorySteps.{holds_registered, offered_registered}
use Rattle.nr_reduce.specs.KeptClient.{AreBelow, IsRegionOpen, IsAmong, registered_all}

-- buffers under STags one after the other
abbrev pub AreNumbered : ℕ → List Buffer → Type 0
AreNumbered next [] = Unit {0}
AreNumbered next (b ∷ bs) = (b.stag ≡ next) × AreNumbered (next + 1) bs

-- ---- The region under an STag of two lists

abbrev pub or_region : Option Region → Option Region → Option Region
or_region None other = other
or_region (Some r) other = Some r

pub at_both : (xs ys : List Region) (stag : ℕ) → region_at (xs ++ ys) stag ≡ or_region (region_at xs stag) (region_at ys stag)
at_both [] ys stag = refl
at_both (x ∷ xs) ys stag = by (eqb x.stag stag) (at_both xs ys stag)
  where
    by : (b : Bool) → region_at (xs ++ ys) stag ≡ or_region (region_at xs stag) (region_at ys stag) →
        cond b (Some x) (region_at (xs ++ ys) stag) ≡ or_region (cond b (Some x) (region_at xs stag)) (region_at ys stag)
    by true later = refl
    by false later = later

-- ---- Registered one by one

pub record Registers (regions : List Region) (accesses : List TaggedSegment) (place : ℕ) (m : RegisteredMemory) (next : ℕ) : Type 0 where
  pub offered : AreOffered place regions
  pub holds : HoldsRegions regions accesses place m
  pub none_dead : NoneIsDead m
  pub below : AreBelow regions next
  pub next_is : m.next ≡ next

next_after : (m : RegisteredMemory) (right : Right) (bytes : List ℕ) → (after_register m right bytes).next ≡ m.next + 1
unfolding after_register
next_after m right bytes = refl

below_one : (regions : List Region) (next : ℕ) (r : Region) → AreBelow regions next → r.stag ≡ next → AreBelow (regions ++ r ∷ []) (next + 1)
below_one regions next r below is stag q there = by (region_at regions stag) refl (sym (at_both regions (r ∷ []) stag) ∙ there)
  where
    by : (o : Option Region) → region_at regions stag ≡ o → or_region (region_at regions stag) (cond (eqb r.stag stag) (Some r) None) ≡ Some q → stag < next + 1
    by (Some x) e h = (let lt = below stag x e in omega (arith, lt))
    by None e h = last (eqb r.stag stag) refl (ap (λ (o : Option Region). or_region o (cond (eqb r.stag stag) (Some r) None)) (sym e) ∙ h)
      where
        last : (b : Bool) → eqb r.stag stag ≡ b → cond b (Some r) None ≡ Some q → stag < next + 1
        last true e h = (let same = eqb-true r.stag stag e in omega (arith, same, is))
        last false e h = absurd cc

none_next : (regions : List Region) (next : ℕ) → AreBelow regions next → region_at regions next ≡ None
none_next regions next below = by (region_at regions next) refl
  where
    by : (o : Option Region) → region_at regions next ≡ o → region_at regions next ≡ None
    by None e = e
    by (Some r) e = absurd (let lt = below next r e in omega (arith, lt))

pub register_all : (xid place : ℕ) (accesses : List TaggedSegment) (bs : List Buffer) (regions : List Region) (m : RegisteredMemory) (next : ℕ) → AreReceived place accesses → AreNumbered next bs →
    Registers regions accesses place m next → Registers (regions ++ map (region_of xid place) bs) accesses place (registered_all m bs) (next + length bs)
register_all xid place accesses [] regions m next received numbered h =
    subst (λ (rs : List Region). Registers rs accesses place m (next + 0)) (sym (append-nil regions))
    (record { offered = h.offered; holds = h.holds; none_dead = h.none_dead; below = λ stag r there. (let lt = h.below stag r there in omega (arith, lt)); next_is = h.next_is ∙ omega arith })
register_all xid place accesses (b ∷ bs) regions m next received numbered h =
    let r : Region = region_of xid place b in
    let stag_is : r.stag ≡ m.next = numbered.0 ∙ sym h.next_is in
    let fresh : region_at regions m.next ≡ None = none_next regions m.next (λ stag q there. (let lt = h.below stag q there in let e = h.next_is in omega (arith, lt, e))) in
    let one : Registers (regions ++ r ∷ []) accesses place (after_register m b.right b.bytes) (next + 1) = record {
      offered = offered_registered place regions r (omega arith) refl (ap (λ (n : ℕ). region_at regions n) stag_is ∙ fresh) h.offered;
      holds = holds_registered regions accesses place m r received fresh stag_is refl refl h.holds;
      none_dead = none_dead_register m b.right b.bytes h.none_dead;
      below = below_one regions next r h.below numbered.0;
      next_is = next_after m b.right b.bytes ∙ ap (λ (n : ℕ). n + 1) h.next_is;
    } in
    let all = register_all xid place accesses bs (regions ++ r ∷ []) (after_register m b.right b.bytes) (next + 1) received numbered.1 one in
    let count : (next + 1) + length bs ≡ next + length (b ∷ bs) = omega arith in
    subst (λ (n : ℕ). Registers (regions ++ map (region_of xid place) (b ∷ bs)) accesses place (registered_all m (b ∷ bs)) n) count
    (subst (λ (rs : List Region). Registers rs accesses place (registered_all m (b ∷ bs)) ((next + 1) + length bs)) (append_assoc regions (r ∷ []) (map (region_of xid place) bs)) all)

-- ---- The regions of a plan

buffer_one : (b : Bool) (stag : ℕ) (right : Right) (bytes : List ℕ) (bs : List Buffer) → AreNumbered (stag + one_if b) bs → AreNumbered stag (buffer_if b stag right bytes ++ bs)
buffer_one true stag right bytes bs h = (refl, h)
buffer_one false stag right bytes bs h = subst (λ (n : ℕ). AreNumbered n bs) (let e : stag + 0 ≡ stag = omega arith in e) h

buffer_last : (b : Bool) (stag : ℕ) (right : Right) (bytes : List ℕ) → AreNumbered stag (buffer_if b stag right bytes)
buffer_last true stag right bytes = (refl, tt)
buffer_last false stag right bytes = tt

pub buffers_numbered : (stag : ℕ) (p : Plan) → AreNumbered stag (buffers stag p)
unfolding buffers
buffers_numbered stag p =
    buffer_one (has_segment (Some p.read)) stag Fetch p.region _
    (buffer_one (has_segment p.write) (stag + one_if (has_segment (Some p.read))) Fill (replicate (total p.write) 0) _
    (buffer_last (has_segment p.reply) ((stag + one_if (has_segment (Some p.read))) + one_if (has_segment p.write)) Fill (replicate (total p.reply) 0)))

buffer_count : (b : Bool) (stag : ℕ) (right : Right) (bytes : List ℕ) → length (buffer_if b stag right bytes) ≡ one_if b
buffer_count true stag right bytes = refl
buffer_count false stag right bytes = refl

pub buffers_count : (stag : ℕ) (p : Plan) → length (buffers stag p) ≡ regions_needed p
unfolding buffers regions_needed
buffers_count stag p =
    let a = buffer_count (has_segment (Some p.read)) stag Fetch p.region in
    let b = buffer_count (has_segment p.write) (stag + one_if (has_segment (Some p.read))) Fill (replicate (total p.write) 0) in
    let c = buffer_count (has_segment p.reply) ((stag + one_if (has_segment (Some p.read))) + one_if (has_segment p.write)) Fill (replicate (total p.reply) 0) in
    length-append (buffer_if (has_segment (Some p.read)) stag Fetch p.region) _
    ∙ ap (λ (n : ℕ). length (buffer_if (has_segment (Some p.read)) stag Fetch p.region) + n) (length-append (buffer_if (has_segment p.write) (stag + one_if (has_segment (Some p.read))) Fill (replicate (total p.write) 0)) _)
    ∙ omega (arith, a, b, c)

-- ---- The regions of one call

stags_from : (bs : List Buffer) (next : ℕ) → AreNumbered next bs → AllByRecursion (λ s. next ≤ s) (map (λ b. b.stag) bs)
stags_from [] next h = tt
stags_from (b ∷ bs) next h = ((let e = h.0 in omega (arith, e)), weaker (map (λ (x : Buffer). x.stag) bs) (stags_from bs (next + 1) h.1))
  where
    weaker : (ss : List ℕ) → AllByRecursion (λ s. next + 1 ≤ s) ss → AllByRecursion (λ s. next ≤ s) ss
    weaker [] h = tt
    weaker (s ∷ ss) h = ((let le = h.0 in omega (arith, le)), weaker ss h.1)

-- the region of each buffer is open, for its call
opens_own : (xid place : ℕ) (bs : List Buffer) (next : ℕ) → AreNumbered next bs → AllByRecursion (λ s. IsRegionOpen (map (region_of xid place) bs) xid s) (map (λ b. b.stag) bs)
opens_own xid place [] next h = tt
opens_own xid place (b ∷ bs) next h = (
  record { region = region_of xid place b; there = ap (λ (x : Bool). cond x (Some (region_of xid place b)) (region_at others b.stag)) (eq-eqb b.stag b.stag refl); is_open = refl; own = refl },
  lift (map (λ (x : Buffer). x.stag) bs) (stags_from bs (next + 1) h.1) (opens_own xid place bs (next + 1) h.1),
)
  where
    others : List Region
    others = map (region_of xid place) bs

    one : (s : ℕ) → next + 1 ≤ s → IsRegionOpen others xid s → IsRegionOpen (region_of xid place b ∷ others) xid s
    one s le o = record {
      region = o.region;
      there = ap (λ (x : Bool). cond x (Some (region_of xid place b)) (region_at others s)) (ne_eqb b.stag s (λ e. (let first = h.0 in omega (arith, e, first, le)))) ∙ o.there;
      is_open = o.is_open;
      own = o.own;
    }

    lift : (ss : List ℕ) → AllByRecursion (λ s. next + 1 ≤ s) ss → AllByRecursion (λ s. IsRegionOpen others xid s) ss → AllByRecursion (λ s. IsRegionOpen (region_of xid place b ∷ others) xid s) ss
    lift [] le o = tt
    lift (s ∷ ss) le o = (one s le.0 o.0, lift ss le.1 o.1)

-- and with other regions before it
pub opens_new : (xid place : ℕ) (regions : List Region) (bs : List Buffer) (next : ℕ) → AreBelow regions next → AreNumbered next bs →
    AllByRecursion (λ s. IsRegionOpen (regions ++ map (region_of xid place) bs) xid s) (map (λ b. b.stag) bs)
opens_new xid place regions bs next below h = lift (map (λ (x : Buffer). x.stag) bs) (stags_from bs next h) (opens_own xid place bs next h)
  where
    fresh : (s : ℕ) → next ≤ s → region_at regions s ≡ None
    fresh s le = by (region_at regions s) refl
      where
        by : (o : Option Region) → region_at regions s ≡ o → region_at regions s ≡ None
        by None e = e
        by (Some r) e = absurd (let lt = below s r e in omega (arith, lt, le))

    one : (s : ℕ) → next ≤ s → IsRegionOpen (map (region_of xid place) bs) xid s → IsRegionOpen (regions ++ map (region_of xid place) bs) xid s
    one s le o = record {
      region = o.region;
      there = at_both regions (map (region_of xid place) bs) s ∙ ap (λ (x : Option Region). or_region x (region_at (map (region_of xid place) bs) s)) (fresh s le) ∙ o.there;
      is_open = o.is_open;
      own = o.own;
    }

    lift : (ss : List ℕ) → AllByRecursion (λ s. next ≤ s) ss → AllByRecursion (λ s. IsRegionOpen (map (region_of xid place) bs) xid s) ss → AllByRecursion (λ s. IsRegionOpen (regions ++ map (region_of xid place) bs) xid s) ss
    lift [] le o = tt
    lift (s ∷ ss) le o = (one s le.0 o.0, lift ss le.1 o.1)

pub opens_old : (regions more : List Region) (xid s : ℕ) → IsRegionOpen regions xid s → IsRegionOpen (regions ++ more) xid s
opens_old regions more xid s o = record {
  region = o.region;
  there = at_both regions more s ∙ ap (λ (x : Option Region). or_region x (region_at more s)) o.there;
  is_open = o.is_open;
  own = o.own;
}

-- the region of a buffer is its call's
pub own_region : (xid place : ℕ) (bs : List Buffer) (stag : ℕ) (r : Region) → region_at (map (region_of xid place) bs) stag ≡ Some r → (r.call ≡ xid) × IsAmong stag (map (λ b. b.stag) bs)
own_region xid place [] stag r e = absurd cc
own_region xid place (b ∷ bs) stag r e = by (eqb b.stag stag) refl e (own_region xid place bs stag r)
  where
    by : (x : Bool) → eqb b.stag stag ≡ x → cond x (Some (region_of xid place b)) (region_at (map (region_of xid place) bs) stag) ≡ Some r → (region_at (map (region_of xid place) bs) stag ≡ Some r → (r.call ≡ xid) × IsAmong stag (map (λ b. b.stag) bs)) → (r.call ≡ xid) × IsAmong stag (map (λ b. b.stag) (b ∷ bs))
    by true is h later = (let same : region_of xid place b ≡ r = cc in (ap (λ (q : Region). q.call) (sym same), inl (eqb-true b.stag stag is)))
    by false is h later = (let rest = later h in (rest.0, inr rest.1))
