-- The sinks of a call are registered one after the other.
use Rattle.std.proofs.Common.{◌≡◌, ℕ, ◌+◌, ◌≤◌, Bool, cond, List, [], ◌∷◌, ◌++◌, length, Some, None, refl, sym, ap, subst, ◌∙◌, arith, append_assoc, append-nil, length-append}
use Rattle.std.proofs.lemmas.Bool.{ne_eqb}
use Rattle.nr_regions.specs.RegisteredMemory.{RegisteredMemory, after_register}
use Rattle.nr_regions.specs.Access.{TaggedSegment}
use Rattle.nr_header.specs.declared.header.ChunkLists.{ChunkLists}
use Rattle.nr_reduce.specs.OfferedRegions.{Region}
use Rattle.nr_reduce.specs.OfferedMemory.{AreOffered, AreReceived, HoldsRegions, region_at}
use Rattle.nr_reduce.specs.StandingLaws.{StagsFrom}
use Rattle.nr_reduce.specs.ServerReads.{regions_from}
use Rattle.nr_reduce.proofs.MemorySteps.{holds_registered, offered_registered}
use Rattle.nr_responder.specs.private.CallsRead.{registered}

-- regions that begin now
abbrev pub BeginAt : ℕ → List Region → Type 0
BeginAt place [] = Unit {0}
BeginAt place (r ∷ regions) = ((r.from ≡ place) × (r.until ≡ None)) × BeginAt place regions

fresh_stag : (n m : ℕ) (regions : List Region) → StagsFrom n regions → n + length regions ≤ m → region_at regions m ≡ None
fresh_stag n m [] h le = refl
fresh_stag n m (r ∷ regions) h le =
    ap (λ (b : Bool). cond b (Some r) (region_at regions m)) (ne_eqb r.stag m (λ e. (let at : r.stag ≡ n = h.0 in omega (arith, at, e, le)))) ∙ fresh_stag (n + 1) m regions h.1 (omega (arith, le))

stags_append : (n : ℕ) (regions more : List Region) → StagsFrom n regions → StagsFrom (n + length regions) more → StagsFrom n (regions ++ more)
stags_append n [] more h next = subst (λ (m : ℕ). StagsFrom m more) (let nothing : List Region = [] in let e : n + length nothing ≡ n = omega arith in e) next
stags_append n (r ∷ regions) more h next =
    (h.0, stags_append (n + 1) regions more h.1 (subst (λ (m : ℕ). StagsFrom m more) (let e : n + length (r ∷ regions) ≡ n + 1 + length regions = omega arith in e) next))

registered_step : (m : RegisteredMemory) (r : Region) → (after_register m r.right r.bytes).next ≡ m.next + 1
unfolding after_register
registered_step m r = refl

-- what the memory and the regions are once they are registered
pub record AreRegistered (regions : List Region) (accesses : List TaggedSegment) (place : ℕ) (m : RegisteredMemory) : Type 0 where
  pub holds : HoldsRegions regions accesses place m
  pub offered : AreOffered place regions
  pub numbered : StagsFrom 1 regions
  pub next : m.next ≡ 1 + length regions

one_registered : (place : ℕ) (accesses : List TaggedSegment) (regions : List Region) (r : Region) (m : RegisteredMemory) → AreReceived place accesses → r.stag ≡ m.next → r.from ≡ place → r.until ≡ None → AreRegistered regions accesses place m →
    AreRegistered (regions ++ r ∷ []) accesses place (after_register m r.right r.bytes)
one_registered place accesses regions r m received stag from opened h =
    let fresh : region_at regions m.next ≡ None = fresh_stag 1 m.next regions h.numbered (let next = h.next in omega (arith, next)) in
    record {
      holds = holds_registered regions accesses place m r received fresh stag from opened h.holds;
      offered = offered_registered place regions r (let at = from in omega (arith, at)) opened (ap (region_at regions) stag ∙ fresh) h.offered;
      numbered = stags_append 1 regions (r ∷ []) h.numbered (stag ∙ h.next, tt);
      next = registered_step m r ∙ (let next = h.next in omega (arith, next, length-append regions (r ∷ [])));
    }

pub all_registered : (place : ℕ) (accesses : List TaggedSegment) (new regions : List Region) (m : RegisteredMemory) → AreReceived place accesses → StagsFrom m.next new → BeginAt place new → AreRegistered regions accesses place m →
    AreRegistered (regions ++ new) accesses place (registered new m)
all_registered place accesses [] regions m received stags begin h = subst (λ (rs : List Region). AreRegistered rs accesses place m) (sym (append-nil regions)) h
all_registered place accesses (r ∷ new) regions m received stags begin h =
    subst (λ (rs : List Region). AreRegistered rs accesses place (registered new (after_register m r.right r.bytes))) (append_assoc regions (r ∷ []) new)
    (all_registered place accesses new (regions ++ r ∷ []) (after_register m r.right r.bytes) received
    (subst (λ (n : ℕ). StagsFrom n new) (sym (registered_step m r)) stags.1) begin.1
    (one_registered place accesses regions r m received stags.0 begin.0.0 begin.0.1 h))

-- the sinks of a call begin at its Send, under the next STags
pub sinks_numbered : (number place stag : ℕ) (lists : ChunkLists) (ps : List ℕ) → StagsFrom stag (regions_from number place stag lists ps)
sinks_numbered number place stag lists [] = tt
sinks_numbered number place stag lists (p ∷ ps) = (refl, sinks_numbered number place (stag + 1) lists ps)

pub sinks_begin : (number place stag : ℕ) (lists : ChunkLists) (ps : List ℕ) → BeginAt place (regions_from number place stag lists ps)
sinks_begin number place stag lists [] = tt
sinks_begin number place stag lists (p ∷ ps) = ((refl, refl), sinks_begin number place (stag + 1) lists ps)
