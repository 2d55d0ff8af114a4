-- Which lists of chunks are within the limits, whatever their encoding.
use Rattle.std.specs.Prelude.{◌≡◌, ◌≢◌, ℕ, ◌+◌, ◌^◌, ◌≤◌, List, [], ◌++◌, length, drop, sum_by, All, IfSome}
use Rattle.nr_header.specs.Constants.{READ_SEGMENTS_MAX, WRITE_CHUNKS_MAX, CHUNK_SEGMENTS_MAX, WRITE_SEGMENTS_MAX, REPLY_SEGMENTS_MAX, PAYLOAD_MAX}
use Rattle.nr_header.specs.declared.header.RdmaSegment.{RdmaSegment}
use Rattle.nr_header.specs.declared.header.ReadSegment.{ReadSegment}
use Rattle.nr_header.specs.declared.header.ChunkLists.{ChunkLists}
use Rattle.nr_header.specs.declared.header.Body.{Body}
use Rattle.nr_header.specs.declared.header.Body.TheVariants.{Msg, Nomsg, ErrVers, ErrChunk}
use Rattle.nr_header.specs.declared.header.Header.{Header}
use Rattle.nr_header.specs.Header.{header_encoding, HeaderFits}

-- a segment ends at 2 ^ 64 or before
abbrev pub Ends : ℕ → ℕ → Type 0
Ends offset len = offset + len ≤ 2 ^ 64

abbrev pub SegmentsEnd : List RdmaSegment → Type 0
SegmentsEnd segments = All (λ s. Ends s.offset s.length) segments

-- at most one position other than 0
abbrev pub OnePosition : List ReadSegment → Type 0
OnePosition read = (position : ℕ) × All (λ r. r.position ≢ 0 → r.position ≡ position) read

-- the limits of a header's lists, of either kind
pub record ListsWithin (lists : ChunkLists) : Type 0 where
  pub read_segments : length lists.read ≤ READ_SEGMENTS_MAX
  pub read_ends : All (λ r. Ends r.offset r.length) lists.read
  pub one_position : OnePosition lists.read
  pub write_chunks : length lists.write ≤ WRITE_CHUNKS_MAX
  pub chunk_segments : All (λ chunk. length chunk ≤ CHUNK_SEGMENTS_MAX) lists.write
  pub write_segments : sum_by (λ chunk. length chunk) lists.write ≤ WRITE_SEGMENTS_MAX
  pub write_ends : All SegmentsEnd lists.write
  pub reply_segments : IfSome lists.reply (λ chunk. length chunk ≤ REPLY_SEGMENTS_MAX)
  pub reply_ends : IfSome lists.reply SegmentsEnd

-- the number of bytes that the read list offers
abbrev pub read_total : List ReadSegment → ℕ
read_total read = sum_by (λ r. r.length) read

-- A header with this body can be read with this stream after it: RDMA_MSG has its stream there, and no chunk at position 0;
-- nothing follows any other header.
abbrev pub CanRead : Body → List ℕ → Type 0
CanRead (Msg lists stream_at) stream =
    ListsWithin lists × All (λ r. r.position ≢ 0) lists.read × (length stream + read_total lists.read ≤ PAYLOAD_MAX)
CanRead (Nomsg lists) stream = (stream ≡ []) × ListsWithin lists × (read_total lists.read ≤ PAYLOAD_MAX)
CanRead (ErrVers version low high) stream = stream ≡ []
CanRead (ErrChunk version) stream = stream ≡ []

-- the stream begins after a header of this many bytes
abbrev pub StreamAt : Body → ℕ → Type 0
StreamAt (Msg lists stream_at) len = stream_at ≡ len
StreamAt (Nomsg lists) len = Unit {0}
StreamAt (ErrVers version low high) len = Unit {0}
StreamAt (ErrChunk version) len = Unit {0}

-- the stream of RDMA_MSG is that from its offset on, which is at most the message's length
abbrev pub StreamWithin : Body → ℕ → Type 0
StreamWithin (Msg lists stream_at) len = stream_at ≤ len
StreamWithin (Nomsg lists) len = Unit {0}
StreamWithin (ErrVers version low high) len = Unit {0}
StreamWithin (ErrChunk version) len = Unit {0}

abbrev pub stream_after : Body → List ℕ → List ℕ
stream_after (Msg lists stream_at) bytes = drop stream_at bytes
stream_after (Nomsg lists) bytes = []
stream_after (ErrVers version low high) bytes = []
stream_after (ErrChunk version) bytes = []

-- the message is this header, within the limits, and its stream
pub record IsMessage (h : Header) (bytes : List ℕ) : Type 0 where
  pub stream : List ℕ
  pub parts : bytes ≡ header_encoding h ++ stream
  pub fits : HeaderFits h
  pub can : CanRead h.body stream
  pub place : StreamAt h.body (length (header_encoding h))

-- the header as it is read from its own encoding: the stream begins after that
abbrev pub body_again : Body → ℕ → Body
body_again (Msg lists stream_at) len = Msg lists len
body_again (Nomsg lists) len = Nomsg lists
body_again (ErrVers version low high) len = ErrVers version low high
body_again (ErrChunk version) len = ErrChunk version

abbrev pub header_again : Header → Header
header_again h = record { xid = h.xid; credit = h.credit; body = body_again h.body (length (header_encoding h)) }
