-- The reads of a server have words for numbers, and its regions are few and small.
use Rattle.std.proofs.Common.{◌≡◌, ℕ, ◌+◌, ◌≤◌, ◌<◌, ◌^◌, Bool, true, false, cond, not, eqb, List, [], ◌∷◌, ◌++◌, length, map, take, drop, filter, sum_by, Ok, refl, subst, arith, length-append}
use Rattle.std.specs.List.{AllByRecursion}
use Rattle.std.proofs.lemmas.List.{length-replicate, length-map}
use Rattle.std.proofs.lemmas.List.Sums.{sum_by-cons}
use Rattle.nr_xdr.specs.Item.{IsBytes}
use Rattle.nr_wire.specs.Segment.Segment.{Tagged}
use Rattle.nr_header.specs.declared.header.ReadSegment.{ReadSegment}
use Rattle.nr_header.specs.declared.header.ChunkLists.{ChunkLists}
use Rattle.nr_header.specs.Constants.{PAYLOAD_MAX}
use Rattle.nr_header.specs.WithinLimits.{read_total}
use Rattle.nr_link.specs.Frames.{Frame}
use Rattle.nr_link.specs.Ending.{frame_segment}
use Rattle.nr_reduce.specs.Limits.{numbers_end}
use Rattle.nr_reduce.specs.Chunks.{total_at, at_position}
use Rattle.nr_reduce.specs.OfferedRegions.{Region, closed_if, regions_closed}
use Rattle.nr_reduce.specs.ServerState.{PendingCall, PendingRead, ServerState, next_stag}
use Rattle.nr_reduce.specs.ServerReads.{regions_from, regions_of, reads_from, reads_of, read_of, chunks_of}
use Rattle.nr_reduce.specs.ServerMessages.{verdict}
use Rattle.nr_reduce.specs.ServerMessages.Verdict.{MakesPending}
use Rattle.nr_reduce.specs.ServerFrames.{FrameEffect, with_refused_call, frame_effect}
use Rattle.nr_laws.proofs.FrameContents.{SentMessage, CompletesMessage, last_segment}
use Rattle.nr_laws.proofs.WritableOffers.{EntriesFit, verdict_fits, verdict_few}
use Rattle.nr_laws.proofs.ServerInvariant.{length_from}
use Rattle.nr_laws.proofs.Basics.{above_zero, each_append, each_take, each_drop, each_kept}
use Rattle.nr_laws.proofs.EachEffect.{held_messages, held_responses, send_effect, tagged_effect_lem}

abbrev pub ReadFits : PendingRead → Type 0
ReadFits r = (0 < r.size) × (r.size < 2 ^ 32) × (r.stag < 2 ^ 32) × (r.to < 2 ^ 64)

abbrev pub IsSmall : Region → Type 0
IsSmall g = length g.bytes ≤ PAYLOAD_MAX

pub record AreWithin (reads : List PendingRead) (regions : List Region) : Type 0 where
  pub fit : AllByRecursion ReadFits reads
  pub few : length regions < numbers_end
  pub small : AllByRecursion IsSmall regions

-- ---- A call's reads and regions

reads_fit : (regions : List Region) (number : ℕ) (before read : List ReadSegment) → EntriesFit read → AllByRecursion ReadFits (reads_from regions number before read)
reads_fit regions number before [] h = tt
reads_fit regions number before (r ∷ read) h = by (eqb r.length 0) refl (reads_fit regions number (before ++ r ∷ []) read h.1)
  where
    first : PendingRead
    first = read_of regions number (total_at r.position before) r

    by : (b : Bool) → eqb r.length 0 ≡ b → AllByRecursion ReadFits (reads_from regions number (before ++ r ∷ []) read) → AllByRecursion ReadFits (cond b [] (first ∷ []) ++ reads_from regions number (before ++ r ∷ []) read)
    by true is k = k
    by false is k = ((above_zero r.length is, h.0.0, h.0.1, h.0.2), k)

total_below : (p : ℕ) (read : List ReadSegment) → total_at p read ≤ read_total read
unfolding total_at
total_below p [] = omega arith
total_below p (r ∷ read) = by (eqb r.position p) (total_below p read)
  where
    rest : List ReadSegment
    rest = at_position p read

    by : (b : Bool) → sum_by (λ (x : ReadSegment). x.length) rest ≤ read_total read → sum_by (λ (x : ReadSegment). x.length) (cond b (r ∷ rest) rest) ≤ read_total (r ∷ read)
    by true le = omega (arith, le, sum_by-cons (λ (x : ReadSegment). x.length) r rest, sum_by-cons (λ (x : ReadSegment). x.length) r read)
    by false le = omega (arith, le, sum_by-cons (λ (x : ReadSegment). x.length) r read)

regions_small : (number place stag : ℕ) (lists : ChunkLists) (ps : List ℕ) → read_total lists.read ≤ PAYLOAD_MAX → AllByRecursion IsSmall (regions_from number place stag lists ps)
regions_small number place stag lists [] le = tt
regions_small number place stag lists (p ∷ ps) le =
    (omega (arith, length-replicate {A = ℕ} (total_at p lists.read) 0, total_below p lists.read, le), regions_small number place (stag + 1) lists ps le)

-- ---- Effects

pub within_send : (k : ServerState) (f : Frame) (message : SentMessage) → CompletesMessage k.received message → IsBytes message.bytes → AreWithin k.reads k.regions → frame_segment f ≡ Ok (last_segment k.received.sends message)
    → AreWithin (frame_effect k f).reads (frame_effect k f).regions
within_send k f message completes bytes h is = send_effect k IsBytes (λ s. AreWithin s.reads s.regions) (held_messages k IsBytes (λ calls reads regions. AreWithin reads regions) h pending) f message completes bytes is
  where
    pending : (place : ℕ) (message : List ℕ) (c : PendingCall) → IsBytes message → verdict k message ≡ MakesPending c → AreWithin (k.reads ++ reads_of (k.regions ++ regions_of k place c) c) (k.regions ++ regions_of k place c)
    pending place message c bytes is =
        let fits = verdict_fits k message c bytes is in
        let few = verdict_few k message c is in
        let regions = k.regions ++ regions_of k place c in
        record {
          fit = each_append ReadFits k.reads (reads_of regions c) h.fit (reads_fit regions c.number [] c.lists.read fits.reads);
          few = omega (arith, length-append k.regions (regions_of k place c), length_from c.number place (next_stag k) c.lists (chunks_of c.lists), few);
          small = each_append IsSmall k.regions (regions_of k place c) h.small (regions_small c.number place (next_stag k) c.lists (chunks_of c.lists) fits.total);
        }

pub within_tagged : (k : ServerState) (f : Frame) (last : Bool) (opcode stag to : ℕ) (payload : List ℕ) → AreWithin k.reads k.regions → frame_segment f ≡ Ok (Tagged last opcode stag to payload) → AreWithin (frame_effect k f).reads (frame_effect k f).regions
within_tagged k f last opcode stag to payload h is =
    tagged_effect_lem k (λ s. AreWithin s.reads s.regions) (held_responses k (λ calls reads regions. AreWithin reads regions) h refused read) f last opcode stag to payload is
  where
    refused : (c : PendingCall) (s : FrameEffect) → AreWithin s.reads s.regions → AreWithin (with_refused_call k c s).reads s.regions
    refused c s g = record {
      fit = each_append ReadFits (take s.kept s.reads) (filter (λ (x : PendingRead). not (eqb x.number c.number)) (drop s.kept s.reads)) (each_take ReadFits s.kept s.reads g.fit)
          (each_kept ReadFits (λ (x : PendingRead). not (eqb x.number c.number)) (drop s.kept s.reads) (each_drop ReadFits s.kept s.reads g.fit));
      few = g.few;
      small = g.small;
    }

    read : (r : PendingRead) (reads : List PendingRead) → k.reads ≡ r ∷ reads → AreWithin reads k.regions
    read r reads is = (let all : AreWithin (r ∷ reads) k.regions = subst (λ (rs : List PendingRead). AreWithin rs k.regions) is h in record { fit = all.fit.1; few = all.few; small = all.small })

-- when regions are closed
small_closed : (test : Region → Bool) (place : ℕ) (regions : List Region) → AllByRecursion IsSmall regions → AllByRecursion IsSmall (map (λ (g : Region). closed_if (test g) place g) regions)
small_closed test place [] h = tt
small_closed test place (g ∷ regions) h = (by (test g), small_closed test place regions h.1)
  where
    by : (b : Bool) → IsSmall (closed_if b place g)
    by true = h.0
    by false = h.0

pub within_closed : (test : Region → Bool) (place : ℕ) (reads : List PendingRead) (regions : List Region) → AreWithin reads regions → AreWithin reads (regions_closed test place regions)
unfolding regions_closed
within_closed test place reads regions h = record {
  fit = h.fit;
  few = omega (arith, h.few, length-map regions (λ (g : Region). closed_if (test g) place g));
  small = small_closed test place regions h.small;
}
