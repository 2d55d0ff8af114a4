-- The payload of a call that was read is what its sinks hold.
use Rattle.std.proofs.Common.{◌≡◌, ℕ, Bool, true, false, not, ◌||◌, eqb, cond, List, [], ◌∷◌, ◌++◌, Option, Some, None, refl, sym, ap, subst, ◌∙◌, is_some}
use Rattle.std.specs.Prelude.{find}
use Rattle.std.specs.List.{AllByRecursion, list_any}
use Rattle.std.proofs.lemmas.Bool.{eq-eqb}
use Rattle.nr_regions.specs.RegisteredMemory.{RegisteredMemory}
use Rattle.nr_regions.specs.Access.{TaggedSegment}
use Rattle.nr_reduce.specs.Chunks.{call_conveyed}
use Rattle.nr_reduce.specs.OfferedRegions.{Region}
use Rattle.nr_reduce.specs.OfferedMemory.{AreOffered, HoldsRegions}
use Rattle.nr_reduce.specs.ServerState.{PendingCall, PendingRead, ServerState}
use Rattle.nr_reduce.specs.ServerReads.{is_over, is_read, is_read_at}
use Rattle.nr_reduce.specs.ServerMessages.{chunk_bytes, pending_payload}
use Rattle.nr_reduce.specs.ServerFrames.{call_of_number}
use Rattle.nr_responder.specs.Keeping.{IsServer}
use Rattle.nr_responder.specs.Fetching.{open_sinks}
use Rattle.nr_responder.specs.private.Reading.{sink_bytes}
use Rattle.nr_responder.proofs.LastResponses.{sink_holds}
use Rattle.nr_responder.proofs.ReadCases.{heard, found_number}

none_of : (u : Option ℕ) → is_some u ≡ false → u ≡ None
none_of None e = refl
none_of (Some until) e = absurd cc

number_there : (n : ℕ) (calls : List PendingCall) (c : PendingCall) → find (λ d. eqb d.number n) calls ≡ Some c → list_any (λ d. eqb d.number n) calls ≡ true
number_there n [] c is = absurd cc
number_there n (x ∷ calls) c is = by (λ (e : find (λ d. eqb d.number n) calls ≡ Some c). number_there n calls c e) (eqb x.number n) refl is
  where
    by : (find (λ d. eqb d.number n) calls ≡ Some c → list_any (λ d. eqb d.number n) calls ≡ true) → (b : Bool) → eqb x.number n ≡ b → cond b (Some x) (find (λ d. eqb d.number n) calls) ≡ Some c → (eqb x.number n || list_any (λ d. eqb d.number n) calls) ≡ true
    by rest true same e = ap (λ (b : Bool). b || list_any (λ d. eqb d.number n) calls) same
    by rest false other e = ap (λ (b : Bool). b || list_any (λ d. eqb d.number n) calls) other ∙ rest e

not_over : (calls : List PendingCall) (r : PendingRead) (rest : List PendingRead) (c : PendingCall) (g : Region) → find (λ d. eqb d.number r.number) calls ≡ Some c → g.call ≡ r.number → is_over calls (r ∷ rest) g ≡ false
not_over calls r rest c g found same =
    ap (λ (b : Bool). cond b (is_read (r ∷ rest) g.call) (is_read_at (r ∷ rest) g.call g.position)) (ap (λ (n : ℕ). list_any (λ d. eqb d.number n) calls) same ∙ number_there r.number calls c found)
    ∙ ap (λ (b : Bool). not (b || list_any (λ x. eqb x.number g.call) rest)) (eq-eqb r.number g.call (sym same))

-- the regions of a call for which something is read are open
regions_open : (calls : List PendingCall) (r : PendingRead) (rest : List PendingRead) (c : PendingCall) (regions : List Region) → find (λ d. eqb d.number r.number) calls ≡ Some c →
    AllByRecursion (λ g. is_some g.until ≡ is_over calls (r ∷ rest) g) regions → AllByRecursion (λ g. g.call ≡ c.number → g.until ≡ None) regions
regions_open calls r rest c [] found h = tt
regions_open calls r rest c (g ∷ regions) found h = (
  (λ same. none_of g.until (h.0 ∙ not_over calls r rest c g found (same ∙ found_number r.number calls c found))),
  regions_open calls r rest c regions found h.1,
)

-- the bytes of its sinks, as a read of it is done
pub sinks_hold : (k : ServerState) (at place position : ℕ) (a : TaggedSegment) (r : PendingRead) (rest : List PendingRead) (c : PendingCall) (m : RegisteredMemory) → k.reads ≡ r ∷ rest → call_of_number k r.number ≡ Some c → IsServer k at → AreOffered place k.regions →
    HoldsRegions k.regions (k.accesses_received ++ a ∷ []) place m → chunk_bytes (heard k a) place c position ≡ sink_bytes m (open_sinks k.regions) c.number position
sinks_hold k at place position a r rest c m reads found is offered holds =
    sink_holds k place c.number position (k.accesses_received ++ a ∷ []) m offered is.numbered
    (regions_open k.calls r rest c k.regions found (subst (λ (rs : List PendingRead). AllByRecursion (λ g. is_some g.until ≡ is_over k.calls rs g) k.regions) reads is.closed)) holds

pub payload_is_read : (k : ServerState) (at place : ℕ) (a : TaggedSegment) (r : PendingRead) (rest : List PendingRead) (c : PendingCall) (m : RegisteredMemory) → k.reads ≡ r ∷ rest → call_of_number k r.number ≡ Some c → IsServer k at → AreOffered place k.regions →
    HoldsRegions k.regions (k.accesses_received ++ a ∷ []) place m → pending_payload (heard k a) place c ≡ call_conveyed c.inline c.lists.read (sink_bytes m (open_sinks k.regions) c.number)
unfolding pending_payload
payload_is_read k at place a r rest c m reads found is offered holds =
    λ i. call_conveyed c.inline c.lists.read (λ position. sinks_hold k at place position a r rest c m reads found is offered holds i)
