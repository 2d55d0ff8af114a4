-- The transport header (RFC 8166 section 4.2), and the bytes that encode it.
use Rattle.std.specs.Prelude.{ℕ, ◌^◌, ◌<◌, Bool, true, false, if◌then◌else◌, List, [], ◌∷◌, length, All, Option, Some, None, IfSome}
use Rattle.nr_xdr.specs.Item.{Item}
use Rattle.nr_xdr.specs.Item.Item.{Unsigned, Hyper, Boolean}
use Rattle.nr_xdr.specs.Items.{AllFit, encodings}
use Rattle.nr_header.specs.Constants.{VERSION, MSG, NOMSG, ERROR, ERR_VERS, ERR_CHUNK}
use Rattle.nr_header.specs.declared.header.RdmaSegment.{RdmaSegment}
use Rattle.nr_header.specs.declared.header.ReadSegment.{ReadSegment}
use Rattle.nr_header.specs.declared.header.ChunkLists.{ChunkLists}
use Rattle.nr_header.specs.declared.header.Body.{Body}
use Rattle.nr_header.specs.declared.header.Body.TheVariants.{Msg, Nomsg, ErrVers, ErrChunk}
use Rattle.nr_header.specs.declared.header.Header.{Header}
use Rattle.nr_header.specs.declared.header.TransportError.{TransportError}
use Rattle.nr_header.specs.declared.header.TransportError.TheVariants.{Vers, Chunk}

-- the items of a segment, then those that follow it (RFC 8166 section 3.4)
abbrev pub segment_items : RdmaSegment → List Item → List Item
segment_items s more = Unsigned s.handle ∷ (Unsigned s.length ∷ (Hyper s.offset ∷ more))

-- an entry of a read list, after the word 1 (RFC 8166 section 4.3.1)
abbrev pub entry_items : ReadSegment → List Item → List Item
entry_items r more = Boolean true ∷ (Unsigned r.position ∷ (Unsigned r.handle ∷ (Unsigned r.length ∷ (Hyper r.offset ∷ more))))

-- a read list: its entries, and the word 0 that ends it
abbrev pub read_items : List ReadSegment → List Item → List Item
read_items [] more = Boolean false ∷ more
read_items (r ∷ rs) more = entry_items r (read_items rs more)

abbrev pub segments_items : List RdmaSegment → List Item → List Item
segments_items [] more = more
segments_items (s ∷ ss) more = segment_items s (segments_items ss more)

-- a chunk: the number of its segments, and the segments
abbrev pub chunk_items : List RdmaSegment → List Item → List Item
chunk_items segments more = Unsigned (length segments) ∷ segments_items segments more

-- a write list: each chunk after the word 1, and the word 0 that ends the list (RFC 8166 section 4.3.2)
abbrev pub write_items : List (List RdmaSegment) → List Item → List Item
write_items [] more = Boolean false ∷ more
write_items (chunk ∷ chunks) more = Boolean true ∷ chunk_items chunk (write_items chunks more)

-- a reply chunk after the word 1, or the word 0 (RFC 8166 section 4.3.3)
abbrev pub reply_items : Option (List RdmaSegment) → List Item → List Item
reply_items None more = Boolean false ∷ more
reply_items (Some chunk) more = Boolean true ∷ chunk_items chunk more

abbrev pub lists_items : ChunkLists → List Item
lists_items lists = read_items lists.read (write_items lists.write (reply_items lists.reply []))

-- the fixed words
abbrev pub fixed_items : ℕ → ℕ → ℕ → ℕ → List Item → List Item
fixed_items xid version credit kind more = Unsigned xid ∷ (Unsigned version ∷ (Unsigned credit ∷ (Unsigned kind ∷ more)))

abbrev pub body_items : ℕ → ℕ → Body → List Item
body_items xid credit (Msg lists stream_at) = fixed_items xid VERSION credit MSG (lists_items lists)
body_items xid credit (Nomsg lists) = fixed_items xid VERSION credit NOMSG (lists_items lists)
body_items xid credit (ErrVers version low high) =
    fixed_items xid version credit ERROR (Unsigned ERR_VERS ∷ (Unsigned low ∷ (Unsigned high ∷ [])))
body_items xid credit (ErrChunk version) = fixed_items xid version credit ERROR (Unsigned ERR_CHUNK ∷ [])

-- the encoding, within the limits or not
abbrev pub header_encoding : Header → List ℕ
header_encoding h = encodings (body_items h.xid h.credit h.body)

-- a message with these lists: RDMA_NOMSG if its stream is in a chunk, else RDMA_MSG (RFC 8166 section 4.2.4)
abbrev pub lists_body : Bool → ChunkLists → Body
lists_body long lists = if long then Nomsg lists else Msg lists 0

-- no chunks
abbrev pub no_lists : ChunkLists
no_lists = record { read = []; write = []; reply = None }

-- an error message with this version word
abbrev pub error_body : ℕ → TransportError → Body
error_body version (Vers low high) = ErrVers version low high
error_body version Chunk = ErrChunk version

-- what has an encoding: each number of segments is a word
abbrev pub ChunksFit : ChunkLists → Type 0
ChunksFit lists = All (λ chunk. length chunk < 2 ^ 32) lists.write × IfSome lists.reply (λ chunk. length chunk < 2 ^ 32)

abbrev pub BodyFits : Body → Type 0
BodyFits (Msg lists stream_at) = ChunksFit lists
BodyFits (Nomsg lists) = ChunksFit lists
BodyFits (ErrVers version low high) = Unit {0}
BodyFits (ErrChunk version) = Unit {0}

abbrev pub CanWriteHeader : Header → Type 0
CanWriteHeader h = BodyFits h.body

-- the numbers of a header are words, its offsets hyper integers
abbrev pub HeaderFits : Header → Type 0
HeaderFits h = AllFit (body_items h.xid h.credit h.body)
