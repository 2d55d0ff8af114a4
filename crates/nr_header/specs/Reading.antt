-- What is read of a message, or why nothing is: the offsets are those of the first word or entry at fault.
use Rattle.std.specs.Prelude.{◌≢◌, ℕ, zero, suc, ◌+◌, ◌^◌, Bool, true, false, ◌||◌, ◌&&◌, List, [], ◌∷◌, length, drop, sum_by, All, Option, Some, None, Result, Ok, Err, nat_lt, ◌==◌, if◌then◌else◌}
use Rattle.nr_xdr.specs.Fields.{word_at}
use Rattle.nr_xdr.specs.Reading.{Cursor, hyper_at, boolean_at}
use Rattle.nr_xdr.specs.Sequencing.{◌>>=◌, or_place, number_at}
use Rattle.nr_header.specs.Constants.{VERSION, FIXED_LEN, MSG, NOMSG, DONE, ERROR, ERR_VERS, ERR_CHUNK, READ_SEGMENTS_MAX, WRITE_CHUNKS_MAX, CHUNK_SEGMENTS_MAX, WRITE_SEGMENTS_MAX, REPLY_SEGMENTS_MAX, PAYLOAD_MAX}
use Rattle.nr_header.specs.declared.fault.HeaderFault.{HeaderFault}
use Rattle.nr_header.specs.declared.fault.HeaderFault.TheVariants.{Short, Version, Kind, BadChunks}
use Rattle.nr_header.specs.declared.header.RdmaSegment.{RdmaSegment}
use Rattle.nr_header.specs.declared.header.ReadSegment.{ReadSegment}
use Rattle.nr_header.specs.declared.header.ChunkLists.{ChunkLists}
use Rattle.nr_header.specs.declared.header.Body.{Body}
use Rattle.nr_header.specs.declared.header.Body.TheVariants.{Msg, Nomsg, ErrVers, ErrChunk}
use Rattle.nr_header.specs.declared.header.Header.{Header}
use Rattle.nr_header.specs.WithinLimits.{read_total}

-- a word 0 or 1: whether an entry follows
abbrev pub more_at : Cursor → Result (Bool × Cursor) ℕ
more_at c = or_place (boolean_at c)

-- an element after the word 1, or none after the word 0 (RFC 4506 section 4.19)
abbrev pub optional_at : {A : Type 0} → (Cursor → Result (A × Cursor) ℕ) → Cursor → Result (Option A × Cursor) ℕ
optional_at element c = do
  more ← more_at c
  if more.0 then (element more.1 >>= λ x. Ok (Some x.0, x.1)) else Ok (None, more.1)

-- a segment; one that ends past 2 ^ 64 fails at the given offset
unfoldable pub segment_at : ℕ → Cursor → Result (RdmaSegment × Cursor) ℕ
segment_at place c = do
  handle ← number_at c
  len ← number_at handle.1
  offset ← or_place (hyper_at len.1)
  if nat_lt (2 ^ 64) (offset.0 + len.0) then Err place else Ok (record { handle = handle.0; length = len.0; offset = offset.0 }, offset.1)

-- Whether an entry may have this position: 0 if that is allowed, or the one other position of the list. seen is that other
-- position among the entries before it, 0 if there is none yet.
abbrev pub is_allowed : Bool → ℕ → ℕ → Bool
is_allowed zero_allowed seen position = if position == 0 then zero_allowed else (seen == 0 || seen == position)

-- the position other than 0 among the entries up to one with this position
abbrev pub other_position : ℕ → ℕ → ℕ
other_position seen position = if position == 0 then seen else position

-- an entry of a read list, after the word 1 at this offset; an entry at fault fails there
unfoldable pub entry_at : ℕ → Bool → ℕ → Cursor → Result (ReadSegment × Cursor) ℕ
entry_at place zero_allowed seen c = do
  position ← number_at c
  if is_allowed zero_allowed seen position.0 then (segment_at place position.1 >>= λ segment. Ok (record { position = position.0; handle = segment.0.handle; length = segment.0.length; offset = segment.0.offset }, segment.1)) else Err place

-- the word 0 that ends a list; an entry more than the limit fails at its word
unfoldable pub end_at : Cursor → Result Cursor ℕ
end_at c = do
  more ← more_at c
  if more.0 then Err c.place else Ok more.1

-- the end of a list with these elements
abbrev pub list_end_at : {A : Type 0} → List A → Cursor → Result (List A × Cursor) ℕ
list_end_at items c = do
  end ← end_at c
  Ok (items, end)

-- a read list of at most this many entries
unfoldable pub read_list_at : ℕ → Bool → ℕ → Cursor → Result (List ReadSegment × Cursor) ℕ
read_list_at zero zero_allowed seen c = do
  end ← end_at c
  Ok ([], end)
read_list_at (suc room) zero_allowed seen c = do
  more ← more_at c
  if more.0 then (do
    entry ← entry_at c.place zero_allowed seen more.1
    others ← read_list_at room zero_allowed (other_position seen entry.0.position) entry.1
    Ok (entry.0 ∷ others.0, others.1))
      else Ok ([], more.1)

-- this many segments; one that ends past 2 ^ 64 fails at its handle
unfoldable pub segments_at : ℕ → Cursor → Result (List RdmaSegment × Cursor) ℕ
segments_at zero c = Ok ([], c)
segments_at (suc n) c = do
  first ← segment_at c.place c
  others ← segments_at n first.1
  Ok (first.0 ∷ others.0, others.1)

-- a chunk of at most this many segments
unfoldable pub chunk_at : ℕ → Cursor → Result (List RdmaSegment × Cursor) ℕ
chunk_at max c = do
  count ← number_at c
  if nat_lt max count.0 then Err c.place else segments_at count.0 count.1

-- a write list of at most this many chunks
unfoldable pub write_list_at : ℕ → Cursor → Result (List (List RdmaSegment) × Cursor) ℕ
write_list_at zero c = do
  end ← end_at c
  Ok ([], end)
write_list_at (suc room) c = do
  more ← more_at c
  if more.0 then (do
    chunk ← chunk_at CHUNK_SEGMENTS_MAX more.1
    others ← write_list_at room chunk.1
    Ok (chunk.0 ∷ others.0, others.1))
      else Ok ([], more.1)

unfoldable pub reply_chunk_at : Cursor → Result (Option (List RdmaSegment) × Cursor) ℕ
reply_chunk_at c = optional_at (chunk_at REPLY_SEGMENTS_MAX) c

-- the lists after this read list
abbrev pub lists_after : List ReadSegment → Cursor → Result (ChunkLists × Cursor) ℕ
lists_after read c = do
  write ← write_list_at WRITE_CHUNKS_MAX c
  reply ← reply_chunk_at write.1
  Ok (record { read = read; write = write.0; reply = reply.0 }, reply.1)

-- the lists; only a message without a stream may have a chunk at position 0
unfoldable pub lists_at : Bool → Cursor → Result (ChunkLists × Cursor) ℕ
lists_at zero_allowed c = do
  read ← read_list_at READ_SEGMENTS_MAX zero_allowed 0 c
  lists_after read.0 read.1

-- whether a sum passes its limit, with this many bytes of a stream after the lists
abbrev pub sums_pass : ChunkLists → ℕ → Bool
sums_pass lists stream =
    nat_lt WRITE_SEGMENTS_MAX (sum_by (λ chunk. length chunk) lists.write) || nat_lt PAYLOAD_MAX (stream + read_total lists.read)

-- the body of RDMA_MSG, and of RDMA_NOMSG, whose lists end at this offset with this many bytes after them
abbrev pub msg_body : ChunkLists → ℕ → ℕ → Result Body ℕ
msg_body lists at left = if sums_pass lists left then Err at else Ok (Msg lists at)

abbrev pub nomsg_body : ChunkLists → ℕ → ℕ → Result Body ℕ
nomsg_body lists at left = if sums_pass lists 0 || nat_lt 0 left then Err at else Ok (Nomsg lists)

-- what follows the fixed words of RDMA_MSG, and of RDMA_NOMSG
unfoldable pub msg_at : Cursor → Result Body ℕ
msg_at c = do
  lists ← lists_at false c
  msg_body lists.0 lists.1.place (length lists.1.rest)

unfoldable pub nomsg_at : Cursor → Result Body ℕ
nomsg_at c = do
  lists ← lists_at true c
  nomsg_body lists.0 lists.1.place (length lists.1.rest)

-- a complete error message: its code is one of two, and it has exactly the bytes of that code
abbrev pub error_of : List ℕ → Option Body
error_of bytes =
    if (length bytes == 28) && (word_at 16 bytes == ERR_VERS) then Some (ErrVers (word_at 4 bytes) (word_at 20 bytes) (word_at 24 bytes))
    else (if (length bytes == 20) && (word_at 16 bytes == ERR_CHUNK) then Some (ErrChunk (word_at 4 bytes)) else None)

-- a fault in the lists as a fault of the message
abbrev pub in_lists : Result Body ℕ → Result Body HeaderFault
in_lists (Ok body) = Ok body
in_lists (Err at) = Err (BadChunks at)

-- a message of version 1 that is no complete error message
unfoldable pub version1_of : ℕ → List ℕ → Result Body HeaderFault
version1_of kind bytes =
    let c : Cursor = record { place = FIXED_LEN; rest = drop FIXED_LEN bytes } in
    if kind == MSG then in_lists (msg_at c) else (if kind == NOMSG then in_lists (nomsg_at c) else Err (Kind kind))

-- what follows the fixed words of a message that has them
unfoldable pub body_by : Option Body → ℕ → ℕ → List ℕ → Result Body HeaderFault
body_by (Some body) version kind bytes = Ok body
body_by None version kind bytes = if version == VERSION then version1_of kind bytes else Err (Version version)

-- the complete error message, if the kind is RDMA_ERROR
abbrev pub error_by : ℕ → List ℕ → Option Body
error_by kind bytes = if kind == ERROR then error_of bytes else None

-- the header with this XID, these credits and this body, unless the body has a fault
abbrev pub header_by : ℕ → ℕ → Result Body HeaderFault → Result Header HeaderFault
header_by xid credit (Ok body) = Ok (record { xid = xid; credit = credit; body = body })
header_by xid credit (Err fault) = Err fault

-- the header of a message, or why it has none that can be used
unfoldable pub header_of : List ℕ → Result Header HeaderFault
header_of bytes =
    if nat_lt (length bytes) FIXED_LEN then Err Short
    else header_by (word_at 0 bytes) (word_at 8 bytes) (body_by (error_by (word_at 12 bytes) bytes) (word_at 4 bytes) (word_at 12 bytes) bytes)

-- RDMA_NOMSG whose read list has no entry at position 0, at which its stream has to begin (RFC 8166 section 3.5)
abbrev pub HasNoStream : Body → Type 0
HasNoStream (Msg lists stream_at) = ⊥
HasNoStream (Nomsg lists) = All (λ r. r.position ≢ 0) lists.read
HasNoStream (ErrVers version low high) = ⊥
HasNoStream (ErrChunk version) = ⊥

-- whether a message that is read so is bad
abbrev pub IsBad : Result Header HeaderFault → Type 0
IsBad (Ok h) = HasNoStream h.body
IsBad (Err Short) = ⊥
IsBad (Err (Version version)) = ⊥
IsBad (Err (Kind kind)) = (kind ≢ DONE) × (kind ≢ ERROR)
IsBad (Err (BadChunks at)) = Unit {0}

-- A message to a responder that is answered by ERR_CHUNK for its header: it has the fixed words and version 1, is neither
-- RDMA_DONE nor RDMA_ERROR, and its lists fail or pass a limit, its kind isn't one that is read, or it is RDMA_NOMSG without a
-- stream.
abbrev pub HeaderBad : List ℕ → Type 0
HeaderBad bytes = IsBad (header_of bytes)
