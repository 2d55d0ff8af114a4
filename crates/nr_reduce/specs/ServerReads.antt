-- Read Requests for the read lists of calls (RFC 8166 section 3.4.5; RFC 5040 section 5.2), and the regions into which they go.
use Rattle.std.specs.Prelude.{ℕ, ◌+◌, ◌-◌, Bool, not, ◌&&◌, ◌==◌, if◌then◌else◌, List, [], ◌∷◌, ◌++◌, take, replicate, Option, None, Some}
use Rattle.std.specs.List.{filter, find, list_any}
use Rattle.nr_header.specs.declared.header.ReadSegment.{ReadSegment}
use Rattle.nr_header.specs.declared.header.ChunkLists.{ChunkLists}
use Rattle.nr_regions.specs.declared.right.Right.TheVariants.{Sink}
use Rattle.nr_link.specs.Limits.{open_reads_max}
use Rattle.nr_reduce.specs.Chunks.{positions, total_at}
use Rattle.nr_link.specs.SegmentFaults.{ExpectedResponse}
use Rattle.nr_reduce.specs.OfferedRegions.{Region}
use Rattle.nr_reduce.specs.ServerState.{PendingCall, PendingRead, ServerState, next_stag}

-- the reads whose Read Requests are sent
abbrev pub open_reads : ServerState → List PendingRead
open_reads k = take open_reads_max k.reads

-- the offset at which the next Read Response continues
abbrev pub expected_read_response : ℕ → List PendingRead → Option ExpectedResponse
expected_read_response response_bytes [] = None
expected_read_response response_bytes (r ∷ reads) = Some (record { sink = r.sink; at = r.at + response_bytes; left = r.size - response_bytes })

-- The sink regions of a call: one for each chunk of its read list that has bytes, in the order of first entries.
abbrev pub chunks_of : ChunkLists → List ℕ
chunks_of lists = filter (λ p. not (total_at p lists.read == 0)) (positions lists.read)

abbrev pub regions_from : ℕ → ℕ → ℕ → ChunkLists → List ℕ → List Region
regions_from number place stag lists [] = []
regions_from number place stag lists (p ∷ ps) =
    record { call = number; position = p; stag = stag; right = Sink; bytes = replicate (total_at p lists.read) 0; from = place; until = None }
    ∷ regions_from number place (stag + 1) lists ps

abbrev pub regions_of : ServerState → ℕ → PendingCall → List Region
regions_of k place c = regions_from c.number place (next_stag k) c.lists (chunks_of c.lists)

-- the STag of a chunk's sink
abbrev pub stag_by : Option Region → ℕ
stag_by None = 0
stag_by (Some r) = r.stag

abbrev pub sink_of : List Region → ℕ → ℕ → ℕ
sink_of regions number position = stag_by (find (λ r. r.call == number && r.position == position) regions)

-- The reads of a read list: one for each entry that has bytes, after the earlier entries of its position in the sink.
abbrev pub read_of : List Region → ℕ → ℕ → ReadSegment → PendingRead
read_of regions number at r = record {
  number = number;
  position = r.position;
  sink = sink_of regions number r.position;
  at = at;
  size = r.length;
  stag = r.handle;
  to = r.offset;
}

abbrev pub reads_from : List Region → ℕ → List ReadSegment → List ReadSegment → List PendingRead
reads_from regions number before [] = []
reads_from regions number before (r ∷ read) =
    (if r.length == 0 then [] else read_of regions number (total_at r.position before) r ∷ []) ++ reads_from regions number (before ++ r ∷ []) read

abbrev pub reads_of : List Region → PendingCall → List PendingRead
reads_of regions c = reads_from regions c.number [] c.lists.read

-- whether nothing is left to be read for a call, or for its chunk at a position
abbrev pub is_read : List PendingRead → ℕ → Bool
is_read reads number = not (list_any (λ r. r.number == number) reads)

abbrev pub is_read_at : List PendingRead → ℕ → ℕ → Bool
is_read_at reads number position = not (list_any (λ r. r.number == number && r.position == position) reads)

-- whether a region is closed: its call is complete or answered, and no read into it is open
abbrev pub is_over : List PendingCall → List PendingRead → Region → Bool
is_over calls reads g =
    if list_any (λ c. c.number == g.call) calls then is_read reads g.call else is_read_at reads g.call g.position
