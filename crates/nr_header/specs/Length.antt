-- The length of an encoded header (RFC 8166 sections 4.2, 4.3).
use Rattle.std.specs.Prelude.{ℕ, ◌+◌, ◌*◌, List, length, sum_by, Option, Some, None}
use Rattle.nr_header.specs.Constants.{HEADER_LEN_MIN, SEGMENT_LEN, READ_SEGMENT_LEN}
use Rattle.nr_header.specs.declared.header.RdmaSegment.{RdmaSegment}
use Rattle.nr_header.specs.declared.header.ChunkLists.{ChunkLists}

-- the bytes that n entries of a read list take
abbrev pub read_list_len : ℕ → ℕ
read_list_len entries = READ_SEGMENT_LEN * entries

-- the bytes that a chunk of n segments takes in a write list: the word 1, their number, and they (RFC 8166 section 4.3.2)
abbrev pub write_chunk_len : ℕ → ℕ
write_chunk_len segments = 8 + SEGMENT_LEN * segments

-- the bytes that a reply chunk takes beside the word that is there without it: their number, and they (RFC 8166 section 4.3.3)
abbrev pub reply_chunk_len : ℕ → ℕ
reply_chunk_len segments = 4 + SEGMENT_LEN * segments

abbrev pub write_list_len : List (List RdmaSegment) → ℕ
write_list_len chunks = sum_by (λ (chunk : List RdmaSegment). write_chunk_len (length chunk)) chunks

abbrev pub reply_len : Option (List RdmaSegment) → ℕ
reply_len None = 0
reply_len (Some chunk) = reply_chunk_len (length chunk)

-- the length of a header with these lists
abbrev pub header_len : ChunkLists → ℕ
header_len lists = HEADER_LEN_MIN + read_list_len (length lists.read) + write_list_len lists.write + reply_len lists.reply
