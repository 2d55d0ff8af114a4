-- How chunks carry a payload (RFC 8166 section 3.4): how bytes fill segments, what is joined out of memory, and which
-- payload a header, its inline bytes and memory convey.
use Rattle.std.specs.Prelude.{◌≡◌, ℕ, ◌+◌, ◌-◌, min, Bool, true, false, nat_le, ◌&&◌, ◌||◌, ◌==◌, not, if◌then◌else◌, List, [], ◌∷◌, length, take, drop, sum_by, Option, None, Some}
use Rattle.std.specs.List.{flat_map, filter, find, list_all}
use Rattle.nr_xdr.specs.Item.{pad_len}
use Rattle.nr_header.specs.declared.header.RdmaSegment.{RdmaSegment}
use Rattle.nr_header.specs.declared.header.ReadSegment.{ReadSegment}
use Rattle.nr_header.specs.declared.header.ChunkLists.{ChunkLists}
use Rattle.nr_reduce.specs.declared.item.Item.{Item}
use Rattle.nr_reduce.specs.declared.item.Of.{Of}
use Rattle.nr_reduce.specs.Items.{item_of, restored_payload}
use Rattle.nr_reduce.specs.declared.item.Of.TheVariants.{Call, Reply}

-- the bytes under an STag
abbrev pub Bytes : Type 0
Bytes = ℕ → List ℕ

abbrev pub segment_bytes : Bytes → RdmaSegment → List ℕ
segment_bytes memory s = take s.length (drop s.offset (memory s.handle))

-- the bytes of segments, joined in the order of the list
unfoldable pub joined_bytes : Bytes → List RdmaSegment → List ℕ
joined_bytes memory chunk = flat_map (segment_bytes memory) chunk

unfoldable pub chunk_total : List RdmaSegment → ℕ
chunk_total chunk = sum_by (λ s. s.length) chunk

-- a number of bytes fills segments in the order of the list: each with the length that it gets
abbrev pub filled_chunk : List RdmaSegment → ℕ → List RdmaSegment
filled_chunk [] n = []
filled_chunk (s ∷ chunk) n = record { handle = s.handle; length = min s.length n; offset = s.offset } ∷ filled_chunk chunk (n - min s.length n)

-- ---- Read lists

-- the position of a read list other than 0, if it has one (RFC 8166 section 3.4.5)
abbrev pub position_of : Option ReadSegment → Option ℕ
position_of None = None
position_of (Some r) = Some r.position

unfoldable pub item_position : List ReadSegment → Option ℕ
item_position read = position_of (find (λ r. not (r.position == 0)) read)

abbrev pub at_position : ℕ → List ReadSegment → List ReadSegment
at_position position read = filter (λ r. r.position == position) read

unfoldable pub total_at : ℕ → List ReadSegment → ℕ
total_at position read = sum_by (λ r. r.length) (at_position position read)

-- the positions in the order of their first entries
abbrev pub positions : List ReadSegment → List ℕ
positions [] = []
positions (r ∷ read) = r.position ∷ filter (λ p. not (p == r.position)) (positions read)

-- A read chunk belongs to a stream: it has the position of the stream's item, and its length or that rounded up.
abbrev pub is_item : Option Item → ℕ → ℕ → Bool
is_item None position n = false
is_item (Some i) position n = i.pos == position && (n == i.len || n == i.len + pad_len i.len)

abbrev pub is_read_chunk_at : List ℕ → List ReadSegment → Option ℕ → Bool
is_read_chunk_at stream read None = true
is_read_chunk_at stream read (Some position) = is_item (item_of Call stream) position (total_at position read)

unfoldable pub is_read_chunk_of_item : List ℕ → List ReadSegment → Bool
is_read_chunk_of_item stream read = is_read_chunk_at stream read (item_position read)

-- ---- Payloads

-- The payload of a stream and of what moved beside it: nothing did, or the content of the stream's item, in a call with or
-- without its pad.
abbrev pub has_moved_length : Of → Item → List ℕ → Bool
has_moved_length Call i moved = length moved == i.len || length moved == i.len + pad_len i.len
has_moved_length (Reply prog vers proc) i moved = length moved == i.len

abbrev pub whole_by : Of → List ℕ → List ℕ → Option Item → Option (List ℕ)
whole_by of stream moved None = None
whole_by of stream moved (Some i) = if has_moved_length of i moved then Some (restored_payload i stream moved) else None

abbrev pub whole : Of → List ℕ → Option (List ℕ) → Option (List ℕ)
whole of stream None = Some stream
whole of stream (Some moved) = whole_by of stream moved (item_of of stream)

abbrev pub IsWhole : Of → (payload stream : List ℕ) → Option (List ℕ) → Type 0
IsWhole of payload stream moved = whole of stream moved ≡ Some payload

-- the stream and what moved, as the chunks of a call and of a reply bring them
abbrev pub call_stream : Option (List ℕ) → (ℕ → List ℕ) → List ℕ
call_stream (Some inline) chunk = inline
call_stream None chunk = chunk 0

abbrev pub call_moved : Option ℕ → (ℕ → List ℕ) → Option (List ℕ)
call_moved None chunk = None
call_moved (Some position) chunk = Some (chunk position)

-- The payload of a call: its inline stream, or the chunk at position 0, and the chunk at the other position.
unfoldable pub call_conveyed : Option (List ℕ) → List ReadSegment → (ℕ → List ℕ) → Option (List ℕ)
call_conveyed inline read chunk = whole Call (call_stream inline chunk) (call_moved (item_position read) chunk)

-- The header of a call with its lists, the stream after it, if that is there, and memory convey a payload: the entries of a
-- position are joined in the order of the list.
abbrev pub entry_bytes : Bytes → ReadSegment → List ℕ
entry_bytes memory r = take r.length (drop r.offset (memory r.handle))

unfoldable pub read_bytes : Bytes → List ReadSegment → ℕ → List ℕ
read_bytes memory read position = flat_map (entry_bytes memory) (at_position position read)

abbrev pub ConveysCall : ChunkLists → Option (List ℕ) → Bytes → List ℕ → Type 0
ConveysCall lists inline memory payload = call_conveyed inline lists.read (read_bytes memory lists.read) ≡ Some payload

-- What moved in the first write chunk of a reply, if that has any bytes.
abbrev pub some_bytes : List ℕ → Option (List ℕ)
some_bytes [] = None
some_bytes (b ∷ bytes) = Some (b ∷ bytes)

abbrev pub reply_moved : Bytes → List (List RdmaSegment) → Option (List ℕ)
reply_moved memory [] = None
reply_moved memory (chunk ∷ chunks) = some_bytes (joined_bytes memory chunk)

abbrev pub reply_stream : Bytes → Option (List ℕ) → Option (List RdmaSegment) → List ℕ
reply_stream memory (Some inline) reply = inline
reply_stream memory None None = []
reply_stream memory None (Some chunk) = joined_bytes memory chunk

-- The payload of a reply: its inline stream, or the reply chunk, and the first write chunk.
unfoldable pub reply_conveyed : (prog vers proc : ℕ) → Option (List ℕ) → ChunkLists → Bytes → Option (List ℕ)
reply_conveyed prog vers proc inline lists memory =
    whole (Reply prog vers proc) (reply_stream memory inline lists.reply) (reply_moved memory lists.write)

abbrev pub ConveysReply : (prog vers proc : ℕ) → ChunkLists → Option (List ℕ) → Bytes → List ℕ → Type 0
ConveysReply prog vers proc lists inline memory payload = reply_conveyed prog vers proc inline lists memory ≡ Some payload

-- ---- What a reply may bring of what was offered

abbrev pub are_empty : List RdmaSegment → Bool
are_empty chunk = list_all (λ s. s.length == 0) chunk

-- a chunk as it comes back: the same segments, each no longer than offered, and once one is shorter the others are empty
abbrev pub returns : (offered back : List RdmaSegment) → Bool
returns [] [] = true
returns [] (b ∷ back) = false
returns (o ∷ offered) [] = false
returns (o ∷ offered) (b ∷ back) =
    b.handle == o.handle && (b.offset == o.offset && (nat_le b.length o.length && ((b.length == o.length || are_empty back) && returns offered back)))

abbrev pub returns_each : (offered back : List (List RdmaSegment)) → Bool
returns_each [] [] = true
returns_each [] (b ∷ back) = false
returns_each (o ∷ offered) [] = false
returns_each (o ∷ offered) (b ∷ back) = returns o b && returns_each offered back

-- the chunks after the first are empty
abbrev pub fills_first : List (List RdmaSegment) → Bool
fills_first [] = true
fills_first (chunk ∷ chunks) = list_all are_empty chunks

-- the reply chunk of a reply whose stream is inline: absent, or as offered and empty
abbrev pub returns_none : Option (List RdmaSegment) → Option (List RdmaSegment) → Bool
returns_none offered None = true
returns_none None (Some back) = false
returns_none (Some offered) (Some back) = returns offered back && are_empty back

-- and of one whose stream is in it
abbrev pub returns_stream : Option (List RdmaSegment) → Option (List RdmaSegment) → Bool
returns_stream None back = false
returns_stream (Some offered) None = false
returns_stream (Some offered) (Some back) = returns offered back

-- the lists of a reply suit those that were offered
unfoldable pub answers_offer : (long : Bool) → (offered back : ChunkLists) → Bool
answers_offer long offered back =
    length back.read == 0 && (returns_each offered.write back.write && (fills_first back.write
    && (if long then returns_stream offered.reply back.reply else returns_none offered.reply back.reply)))
