-- The Writes of an answer are the last accesses of its call's regions: so what these regions hold conveys the reply.
use Rattle.std.proofs.Common.{◌≡◌, ℕ, ◌+◌, ◌-◌, min, Bool, true, false, cond, eqb, List, [], ◌∷◌, ◌++◌, length, map, replicate, Option, None, Some, refl, sym, ap, ◌∙◌, arith}
use Rattle.std.specs.List.{find}
use Rattle.std.proofs.lemmas.List.{length-replicate}
use Rattle.nr_xdr.specs.Item.{IsBytes}
use Rattle.nr_header.specs.declared.header.ReadSegment.{ReadSegment}
use Rattle.nr_header.specs.declared.header.ChunkLists.{ChunkLists}
use Rattle.nr_wire.specs.Segment.{Segment}
use Rattle.nr_regions.specs.Access.{TaggedSegment}
use Rattle.nr_regions.specs.declared.right.Right.{Right}
use Rattle.nr_regions.specs.declared.right.Right.TheVariants.{Fetch, Fill}
use Rattle.nr_reduce.specs.declared.item.Of.TheVariants.{Reply}
use Rattle.nr_reduce.specs.declared.outline.Plan.{Plan}
use Rattle.nr_reduce.specs.OfferedRegions.{Region, region_grants, region_bytes}
use Rattle.nr_reduce.specs.Plans.{Buffer, buffer_if, buffers, has_segment, one_if, total, read_stag, write_stag, reply_stag, read_list, segments_from, write_list, reply_chunk, lists_of}
use Rattle.nr_reduce.specs.Chunks.{Bytes, joined_bytes, filled_chunk, reply_conveyed, reply_stream, reply_moved, some_bytes, whole}
use Rattle.nr_reduce.specs.Holds.{Answer, answer_for, answer_lists, written_chunks, no_segments}
use Rattle.nr_reduce.specs.ChunkBytes.{RegionsHaveLengths, after, answer_segments, bytes_after_segments, offered_lists}
use Rattle.nr_reduce.specs.ClientState.{ClientState, client_memory_at}
use Rattle.nr_reduce.proofs.Answering.{conveyed}
use Rattle.nr_reduce.proofs.OwnStags.{AreNumbered}
use Rattle.nr_laws.proofs.Outputs.Output.{ASegment}
use Rattle.nr_laws.proofs.ClientMemory.{HasRegion, HasBuffers}
use Rattle.nr_laws.proofs.Memory.{Part, parts_of, parts_out, after_parts, after_append, laid_parts, Settled, held_parts}
use Rattle.nr_laws.proofs.RegionLengths.{parts_length}

-- ---- Two memories that agree on the regions of an offer

joined_same : (m n : Bytes) (handle offset : ℕ) (ns : List ℕ) (k : ℕ) → m handle ≡ n handle → joined_bytes m (filled_chunk (segments_from handle offset ns) k) ≡ joined_bytes n (filled_chunk (segments_from handle offset ns) k)
unfolding joined_bytes
joined_same m n handle offset [] k e = refl
joined_same m n handle offset (s ∷ ns) k e =
    let rest = joined_same m n handle (offset + s) ns (k - min s k) e in
    (λ i. Rattle.std.proofs.Common.take (min s k) (Rattle.std.proofs.Common.drop offset (e i)) ++ rest i)

chunk_same : (m n : Bytes) (handle : ℕ) (ns : List ℕ) (k : ℕ) → (has_segment (Some ns) ≡ true → m handle ≡ n handle) → joined_bytes m (filled_chunk (segments_from handle 0 ns) k) ≡ joined_bytes n (filled_chunk (segments_from handle 0 ns) k)
unfolding joined_bytes
chunk_same m n handle [] k e = refl
chunk_same m n handle (s ∷ ns) k e = joined_same m n handle 0 (s ∷ ns) k (e refl)

moved_same : (m n : Bytes) (ws : ℕ) (w : Option (List ℕ)) (k : ℕ) → (has_segment w ≡ true → m ws ≡ n ws) → reply_moved m (written_chunks (write_list ws w) k) ≡ reply_moved n (written_chunks (write_list ws w) k)
moved_same m n ws None k e = refl
moved_same m n ws (Some ns) k e = ap some_bytes (chunk_same m n ws ns k e)

stream_same : (m n : Bytes) (rs : ℕ) (r : Option (List ℕ)) (long : Bool) (stream : List ℕ) (k : ℕ) → (has_segment r ≡ true → m rs ≡ n rs)
    → reply_stream m (cond long None (Some stream)) (cond long (Some (filled_chunk (no_segments (reply_chunk rs r)) k)) None) ≡ reply_stream n (cond long None (Some stream)) (cond long (Some (filled_chunk (no_segments (reply_chunk rs r)) k)) None)
unfolding joined_bytes
stream_same m n rs r false stream k e = refl
stream_same m n rs None true stream k e = refl
stream_same m n rs (Some ns) true stream k e = chunk_same m n rs ns k e

pub conveyed_same : (m n : Bytes) (read : List ReadSegment) (ws rs : ℕ) (w r : Option (List ℕ)) (a : Answer) (prog vers proc : ℕ) → (has_segment w ≡ true → m ws ≡ n ws) → (has_segment r ≡ true → m rs ≡ n rs)
    → reply_conveyed prog vers proc (cond a.long None (Some a.stream)) (answer_lists (offered_lists read ws rs w r) a) m ≡ reply_conveyed prog vers proc (cond a.long None (Some a.stream)) (answer_lists (offered_lists read ws rs w r) a) n
unfolding reply_conveyed
conveyed_same m n read ws rs w r a prog vers proc one two =
    (λ i. whole (Reply prog vers proc) (stream_same m n rs r a.long a.stream (length a.stream) two i) (moved_same m n ws w (length a.moved) one i))

-- ---- The regions of a call

has_behind : (regions : List Region) (xs ys : List Buffer) → HasBuffers regions (xs ++ ys) → HasBuffers regions ys
has_behind regions [] ys h = h
has_behind regions (x ∷ xs) ys h = has_behind regions xs ys h.1

has_first : (regions : List Region) (b : Bool) (stag : ℕ) (right : Right) (bytes : List ℕ) (ys : List Buffer) → HasBuffers regions (buffer_if b stag right bytes ++ ys) → b ≡ true → HasRegion regions stag bytes
has_first regions true stag right bytes ys h is = h.0
has_first regions false stag right bytes ys h is = absurd cc

has_only : (regions : List Region) (b : Bool) (stag : ℕ) (right : Right) (bytes : List ℕ) → HasBuffers regions (buffer_if b stag right bytes) → b ≡ true → HasRegion regions stag bytes
has_only regions true stag right bytes h is = h.0
has_only regions false stag right bytes h is = absurd cc

record ReplyRegions (regions : List Region) (stag : ℕ) (p : Plan) : Type 0 where
  write : has_segment p.write ≡ true → HasRegion regions (write_stag stag p) (replicate (total p.write) 0)
  reply : has_segment p.reply ≡ true → HasRegion regions (reply_stag stag p) (replicate (total p.reply) 0)

reply_regions : (regions : List Region) (stag : ℕ) (p : Plan) → HasBuffers regions (buffers stag p) → ReplyRegions regions stag p
unfolding buffers
reply_regions regions stag p h =
    let reply = buffer_if (has_segment p.reply) (reply_stag stag p) Fill (replicate (total p.reply) 0) in
    let write = buffer_if (has_segment p.write) (write_stag stag p) Fill (replicate (total p.write) 0) in
    let rest = has_behind regions (buffer_if (has_segment (Some p.read)) (read_stag stag p) Fetch p.region) (write ++ reply) h in
    record {
      write = λ is. has_first regions (has_segment p.write) (write_stag stag p) Fill (replicate (total p.write) 0) reply rest is;
      reply = λ is. has_only regions (has_segment p.reply) (reply_stag stag p) Fill (replicate (total p.reply) 0) (has_behind regions write reply rest) is;
    }

-- ---- What they hold

abbrev bytes_under : Option Region → List ℕ
bytes_under None = []
bytes_under (Some r) = r.bytes

-- what the regions held before the last segments
abbrev earlier_bytes : List Region → List Part → Bytes
earlier_bytes regions parts stag = after_parts stag (bytes_under (find (λ x. eqb x.stag stag) regions)) parts

record Holds (place : ℕ) (regions : List Region) (accesses : List TaggedSegment) (stag n : ℕ) (parts : List Part) (segments : List Segment) : Type 0 where
  bytes : region_bytes (region_grants place regions) regions accesses stag ≡ bytes_after_segments stag (earlier_bytes regions parts stag) segments
  length_is : length (earlier_bytes regions parts stag) ≡ n

holds : (place first : ℕ) (regions : List Region) (accesses : List TaggedSegment) (stag n : ℕ) (parts : List Part) (segments : List Segment) → AreNumbered first regions → Settled place regions accesses → parts_of accesses ≡ parts ++ parts_out (map ASegment segments)
    → HasRegion regions stag (replicate n 0) → Holds place regions accesses stag n parts segments
holds place first regions accesses stag n parts segments numbers settled are h =
    let under : bytes_under (find (λ x. eqb x.stag stag) regions) ≡ h.region.bytes = ap bytes_under h.there in
    record {
      bytes = held_parts place stag regions accesses h.region settled h.there h.own
          ∙ (λ i. after_parts stag (sym under i) (are i))
          ∙ after_append stag (bytes_under (find (λ x. eqb x.stag stag) regions)) parts (parts_out (map ASegment segments))
          ∙ sym (laid_parts stag (earlier_bytes regions parts stag) segments);
      length_is = parts_length place first stag regions h.region (bytes_under (find (λ x. eqb x.stag stag) regions)) accesses parts (parts_out (map ASegment segments)) numbers h.there (ap (λ (b : List ℕ). length b) under) settled are
          ∙ ap (λ (b : List ℕ). length b) h.holds ∙ length-replicate {A = ℕ} n 0;
    }

pub memory_conveys : (k : ClientState) (place first stag : ℕ) (p : Plan) (a : Answer) (parts : List Part) (down prog vers proc : ℕ) (reply : List ℕ) → IsBytes reply → AreNumbered first k.regions → Settled place k.regions k.accesses_received → HasBuffers k.regions (buffers stag p)
    → parts_of k.accesses_received ≡ parts ++ parts_out (map ASegment (answer_segments (lists_of stag p) a)) → answer_for (lists_of stag p) down prog vers proc reply ≡ Some a
    → reply_conveyed prog vers proc (cond a.long None (Some a.stream)) (answer_lists (lists_of stag p) a) (client_memory_at k place) ≡ Some reply
unfolding lists_of
memory_conveys k place first stag p a parts down prog vers proc reply bytes numbers settled backed are e =
    let read : List ReadSegment = read_list stag p p.read_at in
    let ws : ℕ = write_stag stag p in
    let rs : ℕ = reply_stag stag p in
    let offer : ChunkLists = offered_lists read ws rs p.write p.reply in
    let segments : List Segment = answer_segments offer a in
    let own = reply_regions k.regions stag p backed in
    let initial : Bytes = earlier_bytes k.regions parts in
    let write = λ (is : has_segment p.write ≡ true). holds place first k.regions k.accesses_received ws (total p.write) parts segments numbers settled are (own.write is) in
    let reply_holds = λ (is : has_segment p.reply ≡ true). holds place first k.regions k.accesses_received rs (total p.reply) parts segments numbers settled are (own.reply is) in
    let lengths : RegionsHaveLengths initial ws rs p.write p.reply = record {
      write = λ is. (write is).length_is;
      reply = λ is. (reply_holds is).length_is;
      apart = λ is same. absurd (let one = ap one_if is in omega (arith, one, same));
    } in
    conveyed_same (client_memory_at k place) (after initial offer a) read ws rs p.write p.reply a prog vers proc (λ is. (write is).bytes) (λ is. (reply_holds is).bytes)
    ∙ conveyed read ws rs p.write p.reply down prog vers proc reply a initial bytes lengths e
