-- The plan of a call as it is made again: of its payload, the position of its read chunk, if it has one, and the chunk lists of its message.
use Rattle.std.specs.Prelude.{ℕ, List, [], ◌∷◌, map, take, sum, Option, None, Some, option_map}
use Rattle.nr_header.specs.declared.header.RdmaSegment.{RdmaSegment}
use Rattle.nr_header.specs.declared.header.ReadSegment.{ReadSegment}
use Rattle.nr_header.specs.declared.header.ChunkLists.{ChunkLists}
use Rattle.nr_reduce.specs.declared.outline.Plan.{Plan}
use Rattle.nr_reduce.specs.Plans.{given_region}

-- the lengths of the segments of a chunk
abbrev pub segment_lengths : List RdmaSegment → List ℕ
segment_lengths segments = map (λ s. s.length) segments

abbrev pub entry_lengths : List ReadSegment → List ℕ
entry_lengths entries = map (λ e. e.length) entries

-- those of the write chunk, if one is offered
abbrev pub write_lengths : List (List RdmaSegment) → Option (List ℕ)
write_lengths [] = None
write_lengths (chunk ∷ chunks) = Some (segment_lengths chunk)

-- What goes inline is the payload up to the position of the read chunk, and its region has the payload from there on, and zeros up to its length
-- (RFC 8166 section 3.5). Without a read chunk all of the payload goes inline.
abbrev pub plan_by_lists : (payload : List ℕ) → (read_at : Option ℕ) → ChunkLists → Plan
plan_by_lists payload None lists = record {
  inline = payload;
  read_at = None;
  read = [];
  region = [];
  write = write_lengths lists.write;
  reply = option_map segment_lengths lists.reply;
}
plan_by_lists payload (Some at) lists = record {
  inline = take at payload;
  read_at = Some at;
  read = entry_lengths lists.read;
  region = given_region payload at (sum (entry_lengths lists.read));
  write = write_lengths lists.write;
  reply = option_map segment_lengths lists.reply;
}
