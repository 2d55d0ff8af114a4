-- What both ways of a payload undo: the message of a plan and its chunks, and the Writes of an answer.
use Rattle.std.specs.Prelude.{◌≡◌, ◌≢◌, ℕ, ◌+◌, ◌*◌, min, true, ◌==◌, if◌then◌else◌, List, [], ◌∷◌, ◌++◌, length, take, drop, map, Option, None, Some, IfSome, Ok}
use Rattle.std.specs.List.{range_with_len}
use Rattle.nr_header.specs.declared.header.RdmaSegment.{RdmaSegment}
use Rattle.nr_header.specs.declared.header.ReadSegment.{ReadSegment}
use Rattle.nr_header.specs.declared.header.ChunkLists.{ChunkLists}
use Rattle.nr_header.specs.declared.header.Body.{Body}
use Rattle.nr_header.specs.declared.header.Body.TheVariants.{Msg, Nomsg, ErrVers, ErrChunk}
use Rattle.nr_header.specs.Header.{lists_items}
use Rattle.nr_header.specs.WithinLimits.{ListsWithin}
use Rattle.nr_header.specs.Reading.{header_of}
use Rattle.nr_xdr.specs.Items.{AllFit}
use Rattle.nr_regions.specs.RegisteredMemory.{bytes_after_write}
use Rattle.nr_wire.specs.Constants.{OPCODE_WRITE}
use Rattle.nr_wire.specs.Segment.{Segment as WireSegment}
use Rattle.nr_wire.specs.Segment.Segment.{Tagged, Untagged}
use Rattle.nr_reduce.specs.declared.call.Form.{Form}
use Rattle.nr_reduce.specs.declared.call.Form.TheVariants as forms
use Rattle.nr_link.specs.Limits.{segment_max}
use Rattle.nr_reduce.specs.declared.outline.Plan.{Plan}
use Rattle.nr_reduce.specs.Plans.{total, has_segment, lists_of, inline_stream, write_list, reply_chunk}
use Rattle.nr_reduce.specs.Chunks.{Bytes, call_conveyed}
use Rattle.nr_link.specs.Output.{segment_count, segment_payload}
use Rattle.nr_reduce.specs.Holds.{Answer, answer_lists, first_chunk, no_segments}

-- the forms whose offers aren't given
abbrev pub IsNotGiven : Form → Type 0
IsNotGiven forms.Auto = Unit {0}
IsNotGiven forms.Inline = Unit {0}
IsNotGiven forms.Chunk = Unit {0}
IsNotGiven forms.Long = Unit {0}
IsNotGiven (forms.Given offer) = ⊥

-- the stream that comes with a message
abbrev pub inline_by : List ℕ → Body → Option (List ℕ)
inline_by message (Msg ls stream_at) = Some (drop stream_at message)
inline_by message (Nomsg ls) = None
inline_by message (ErrVers version low high) = None
inline_by message (ErrChunk version) = None

abbrev pub lists_by : Body → ChunkLists
lists_by (Msg ls stream_at) = ls
lists_by (Nomsg ls) = ls
lists_by (ErrVers version low high) = record { read = []; write = []; reply = None }
lists_by (ErrChunk version) = record { read = []; write = []; reply = None }

-- a chunk of the plan's read list brings its region
abbrev pub ChunkHolds : (ℕ → List ℕ) → Plan → Type 0
ChunkHolds chunk p = IfSome p.read_at (λ position. chunk position ≡ p.region)

-- A message is read under this xid, with these credits, and with the chunks of its plan it conveys the payload.
pub record MessageConveys (payload : List ℕ) (p : Plan) (xid credit stag : ℕ) (message : List ℕ) : Type 0 where
  pub body : Body
  pub reads : header_of message ≡ Ok (record { xid = xid; credit = credit; body = body })
  pub lists : lists_by body ≡ lists_of stag p
  pub conveys : (chunk : ℕ → List ℕ) → ChunkHolds chunk p → call_conveyed (inline_by message body) (lists_of stag p).read chunk ≡ Some payload

-- A message is read under this xid, with these credits, with the lists of its plan and its stream.
pub record ReadsAsPlan (p : Plan) (xid credit stag : ℕ) (message : List ℕ) : Type 0 where
  pub body : Body
  pub reads : header_of message ≡ Ok (record { xid = xid; credit = credit; body = body })
  pub lists : lists_by body ≡ lists_of stag p
  pub stream : inline_by message body ≡ inline_stream p

-- ---- Writes

-- tagged segments for an STag lay their payloads over its bytes, the later over the earlier
abbrev pub bytes_after_segments : ℕ → List ℕ → List WireSegment → List ℕ
bytes_after_segments stag bytes [] = bytes
bytes_after_segments stag bytes (Tagged last opcode s to payload ∷ segments) = bytes_after_segments stag (if s == stag then bytes_after_write bytes to payload else bytes) segments
bytes_after_segments stag bytes (Untagged last opcode w queue msn offset payload ∷ segments) = bytes_after_segments stag bytes segments

-- the segments of one RDMA Write
abbrev pub one_write : ℕ → ℕ → List ℕ → ℕ → WireSegment
one_write stag to bytes i = Tagged (i + 1 == segment_count bytes) OPCODE_WRITE stag (to + segment_max * i) (segment_payload bytes i)

abbrev pub write_segments : ℕ → ℕ → List ℕ → List WireSegment
write_segments stag to bytes = map (one_write stag to bytes) (range_with_len 0 (segment_count bytes))

-- the segments by which they come there
abbrev pub chunk_segments : List RdmaSegment → List ℕ → List WireSegment
chunk_segments [] bytes = []
chunk_segments (s ∷ chunk) bytes =
    (if min s.length (length bytes) == 0 then [] else write_segments s.handle s.offset (take s.length bytes)) ++ chunk_segments chunk (drop s.length bytes)

-- the segments by which an answer's Writes come
abbrev pub answer_segments : ChunkLists → Answer → List WireSegment
answer_segments offer a = chunk_segments (first_chunk offer.write) a.moved ++ (if a.long then chunk_segments (no_segments offer.reply) a.stream else [])

abbrev pub lengths : Option (List ℕ) → List ℕ
lengths None = []
lengths (Some ns) = ns

abbrev pub offered_lists : List ReadSegment → (ws rs : ℕ) → (w r : Option (List ℕ)) → ChunkLists
offered_lists read ws rs w r = record { read = read; write = write_list ws w; reply = reply_chunk rs r }

-- the regions have the lengths of their chunks, and are two
pub record RegionsHaveLengths (initial : Bytes) (ws rs : ℕ) (w r : Option (List ℕ)) : Type 0 where
  pub write : has_segment w ≡ true → length (initial ws) ≡ total w
  pub reply : has_segment r ≡ true → length (initial rs) ≡ total r
  pub apart : has_segment w ≡ true → ws ≢ rs

-- an offer as it was read: its numbers are words, and it is within the limits of a header
pub record IsOffer (offer : ChunkLists) : Type 0 where
  pub fits : AllFit (lists_items offer)
  pub within : ListsWithin offer

-- A message is read under this xid, with these credits, with the lists of an answer and its stream.
pub record ReadsAsAnswer (offer : ChunkLists) (a : Answer) (xid credit : ℕ) (message : List ℕ) : Type 0 where
  pub body : Body
  pub reads : header_of message ≡ Ok (record { xid = xid; credit = credit; body = body })
  pub lists : lists_by body ≡ answer_lists offer a
  pub stream : inline_by message body ≡ (if a.long then None else Some a.stream)

-- what a memory holds after an answer's Writes
abbrev pub after : Bytes → ChunkLists → Answer → Bytes
after initial offer a stag = bytes_after_segments stag (initial stag) (answer_segments offer a)
