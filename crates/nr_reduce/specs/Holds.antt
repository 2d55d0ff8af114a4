-- How a reply is sent (RFC 8166 section 3.5): by what its call offered, or not at all.
use Rattle.std.specs.Prelude.{◌≢◌, ℕ, ◌+◌, min, Bool, true, false, nat_le, ◌==◌, if◌then◌else◌, List, [], ◌∷◌, ◌++◌, length, take, drop, Option, None, Some}
use Rattle.nr_header.specs.Constants.{HEADER_LEN_MIN, VERSION}
use Rattle.nr_header.specs.Length.{write_list_len}
use Rattle.nr_header.specs.declared.header.RdmaSegment.{RdmaSegment}
use Rattle.nr_header.specs.declared.header.ChunkLists.{ChunkLists}
use Rattle.nr_header.specs.declared.header.Body.{Body}
use Rattle.nr_header.specs.declared.header.Body.TheVariants.{Msg, Nomsg, ErrVers, ErrChunk}
use Rattle.nr_header.specs.Header.{header_encoding}
use Rattle.nr_reduce.specs.declared.item.Item.{Item}
use Rattle.nr_reduce.specs.declared.item.Of.{Of}
use Rattle.nr_reduce.specs.Items.{reducible_item, stream_of, moved_of}
use Rattle.nr_reduce.specs.declared.item.Of.TheVariants.{Reply}
use Rattle.nr_reduce.specs.Chunks.{chunk_total, filled_chunk}
use Rattle.nr_link.specs.Output.{write}

-- what goes as the stream, what moves into the first write chunk, and whether the stream goes in the reply chunk
pub record Answer : Type 0 where
  pub long : Bool
  pub stream : List ℕ
  pub moved : List ℕ

-- the stream and what moves, if the first write chunk has a segment and the reply an item; that item must not be longer
-- than the chunk
pub record Parts : Type 0 where
  pub stream : List ℕ
  pub moved : List ℕ

abbrev pub parts_by : List RdmaSegment → List ℕ → Option Item → Option Parts
parts_by chunk reply None = Some (record { stream = reply; moved = [] })
parts_by chunk reply (Some i) =
    if nat_le i.len (chunk_total chunk) then Some (record { stream = stream_of reply i; moved = moved_of reply i }) else None

abbrev pub parts_in : Of → List (List RdmaSegment) → List ℕ → Option Parts
parts_in of [] reply = Some (record { stream = reply; moved = [] })
parts_in of ([] ∷ chunks) reply = Some (record { stream = reply; moved = [] })
parts_in of ((s ∷ chunk) ∷ chunks) reply = parts_by (s ∷ chunk) reply (reducible_item of reply)

-- the size of a header that repeats the write list and has no reply chunk (RFC 8166 section 4.3)
abbrev pub answer_size : List (List RdmaSegment) → ℕ
answer_size chunks = HEADER_LEN_MIN + write_list_len chunks

abbrev pub fits_reply : Option (List RdmaSegment) → ℕ → Bool
fits_reply None n = false
fits_reply (Some chunk) n = nat_le n (chunk_total chunk)

abbrev pub answer_with : ChunkLists → ℕ → Option Parts → Option Answer
answer_with offer down None = None
answer_with offer down (Some p) =
    if nat_le (answer_size offer.write + length p.stream) down then Some (record { long = false; stream = p.stream; moved = p.moved })
    else (if fits_reply offer.reply (length p.stream) then Some (record { long = true; stream = p.stream; moved = p.moved })
    else None)

-- The answer that an offer holds, if a Send back has at most `down` bytes.
unfoldable pub answer_for : ChunkLists → (down prog vers proc : ℕ) → List ℕ → Option Answer
answer_for offer down prog vers proc reply = answer_with offer down (parts_in (Reply prog vers proc) offer.write reply)

abbrev pub Holds : ChunkLists → (down prog vers proc : ℕ) → List ℕ → Type 0
Holds offer down prog vers proc reply = answer_for offer down prog vers proc reply ≢ None

-- ---- What is written for it

-- the chunks of an answer: the first is filled, the others come back empty
abbrev pub empty_chunks : List (List RdmaSegment) → List (List RdmaSegment)
empty_chunks [] = []
empty_chunks (chunk ∷ chunks) = filled_chunk chunk 0 ∷ empty_chunks chunks

abbrev pub written_chunks : List (List RdmaSegment) → ℕ → List (List RdmaSegment)
written_chunks [] n = []
written_chunks (chunk ∷ chunks) n = filled_chunk chunk n ∷ empty_chunks chunks

abbrev pub first_chunk : List (List RdmaSegment) → List RdmaSegment
first_chunk [] = []
first_chunk (chunk ∷ chunks) = chunk

abbrev pub no_segments : Option (List RdmaSegment) → List RdmaSegment
no_segments None = []
no_segments (Some chunk) = chunk

-- an RDMA Write for each segment that gets bytes, in the order of the list
abbrev pub writes_into : List RdmaSegment → List ℕ → List ℕ
writes_into [] bytes = []
writes_into (s ∷ chunk) bytes =
    (if min s.length (length bytes) == 0 then [] else write s.handle s.offset (take s.length bytes)) ++ writes_into chunk (drop s.length bytes)

unfoldable pub answer_writes : ChunkLists → Answer → List ℕ
answer_writes offer a =
    writes_into (first_chunk offer.write) a.moved ++ (if a.long then writes_into (no_segments offer.reply) a.stream else [])

-- the lists say what was written
abbrev pub answer_lists : ChunkLists → Answer → ChunkLists
answer_lists offer a = record {
  read = [];
  write = written_chunks offer.write (length a.moved);
  reply = if a.long then Some (filled_chunk (no_segments offer.reply) (length a.stream)) else None;
}

abbrev pub answer_body : ChunkLists → Answer → Body
answer_body offer a = if a.long then Nomsg (answer_lists offer a) else Msg (answer_lists offer a) 0

unfoldable pub answer_message : (xid credit : ℕ) → ChunkLists → Answer → List ℕ
answer_message xid credit offer a =
    header_encoding (record { xid = xid; credit = credit; body = answer_body offer a }) ++ (if a.long then [] else a.stream)

-- the error messages: chunks that can't be used, and a version that isn't supported (RFC 8166 section 4.5)
unfoldable pub chunk_error : (xid credit : ℕ) → List ℕ
chunk_error xid credit = header_encoding (record { xid = xid; credit = credit; body = ErrChunk VERSION })

unfoldable pub version_error : (xid version credit : ℕ) → List ℕ
version_error xid version credit = header_encoding (record { xid = xid; credit = credit; body = ErrVers version VERSION VERSION })
