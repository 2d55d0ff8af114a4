-- The tagged segments among what a side writes.
use Rattle.std.proofs.Common.{ℕ, Bool, true, false, cond, List, [], ◌∷◌, ◌++◌, length, map, min, eqb, take, drop}
use Rattle.std.specs.List.{range_with_len}
use Rattle.nr_wire.specs.Segment.{Segment}
use Rattle.nr_wire.specs.Segment.Segment.{Tagged, Untagged}
use Rattle.nr_header.specs.declared.header.RdmaSegment.{RdmaSegment}
use Rattle.nr_link.specs.Output.{segment_count}
use Rattle.nr_reduce.specs.ChunkBytes.{one_write, write_segments, chunk_segments}
use Rattle.nr_laws.proofs.Outputs.{one_response, response_segments}

abbrev pub AreTagged : List Segment → Type 0
AreTagged [] = Unit {0}
AreTagged (Tagged last opcode stag to payload ∷ segments) = AreTagged segments
AreTagged (Untagged last opcode w queue msn offset payload ∷ segments) = ⊥

pub tagged_append : (xs ys : List Segment) → AreTagged xs → AreTagged ys → AreTagged (xs ++ ys)
tagged_append [] ys h g = g
tagged_append (Tagged last opcode stag to payload ∷ xs) ys h g = tagged_append xs ys h g
tagged_append (Untagged last opcode w queue msn offset payload ∷ xs) ys h g = absurd h

tagged_responses : (stag to : ℕ) (bytes : List ℕ) (is : List ℕ) → AreTagged (map (one_response stag to bytes) is)
tagged_responses stag to bytes [] = tt
tagged_responses stag to bytes (i ∷ is) = tagged_responses stag to bytes is

pub tagged_response : (stag to : ℕ) (bytes : List ℕ) → AreTagged (response_segments stag to bytes)
tagged_response stag to bytes = tagged_responses stag to bytes (range_with_len 0 (segment_count bytes))

tagged_writes : (stag to : ℕ) (bytes : List ℕ) (is : List ℕ) → AreTagged (map (one_write stag to bytes) is)
tagged_writes stag to bytes [] = tt
tagged_writes stag to bytes (i ∷ is) = tagged_writes stag to bytes is

pub tagged_write : (stag to : ℕ) (bytes : List ℕ) → AreTagged (write_segments stag to bytes)
tagged_write stag to bytes = tagged_writes stag to bytes (range_with_len 0 (segment_count bytes))

pub tagged_chunk : (chunk : List RdmaSegment) (bytes : List ℕ) → AreTagged (chunk_segments chunk bytes)
tagged_chunk [] bytes = tt
tagged_chunk (s ∷ chunk) bytes = tagged_append (first (eqb (min s.length (length bytes)) 0)) (chunk_segments chunk (drop s.length bytes)) (by (eqb (min s.length (length bytes)) 0)) (tagged_chunk chunk (drop s.length bytes))
  where
    first : Bool → List Segment
    first b = cond b [] (write_segments s.handle s.offset (take s.length bytes))

    by : (b : Bool) → AreTagged (first b)
    by true = tt
    by false = tagged_write s.handle s.offset (take s.length bytes)
