-- The message of a plan reads back as its header and its stream, and with its memory it conveys the payload.
use Rattle.std.proofs.Common.{◌≡◌, ◌≢◌, ℕ, ◌+◌, ◌^◌, ◌<◌, ◌≤◌, Bool, false, cond, eqb, List, [], ◌∷◌, ◌++◌, length, take, drop, sum_by, All, IfSome, Option, Some, Ok, refl, sym, ap, subst, ◌∙◌, arith}
use Rattle.std.proofs.lemmas.Bool.{ne_eqb}
use Rattle.std.proofs.lemmas.List.{take_all, drop_at, length-take-le}
use Rattle.std.proofs.lemmas.List.Elements.{All-nil, All-cons}
use Rattle.std.specs.Prelude.{sum}
use Rattle.std.proofs.lemmas.List.Sums.{sum_by-cons}
use Rattle.nr_xdr.specs.Item.{Item as XdrItem, IsBytes}
use Rattle.nr_xdr.specs.Items.{AllFit}
use Rattle.nr_header.specs.Constants.{PAYLOAD_MAX, WRITE_CHUNKS_MAX, CHUNK_SEGMENTS_MAX, WRITE_SEGMENTS_MAX, REPLY_SEGMENTS_MAX, READ_SEGMENTS_MAX}
use Rattle.nr_header.specs.declared.header.RdmaSegment.{RdmaSegment}
use Rattle.nr_header.specs.declared.header.ReadSegment.{ReadSegment}
use Rattle.nr_header.specs.declared.header.ChunkLists.{ChunkLists}
use Rattle.nr_header.specs.declared.header.Body.{Body}
use Rattle.nr_header.specs.declared.header.Body.TheVariants.{Msg, Nomsg}
use Rattle.nr_header.specs.declared.header.Header.{Header}
use Rattle.nr_header.specs.Header.{read_items, write_items, reply_items, lists_items, header_encoding, HeaderFits}
use Rattle.nr_header.specs.WithinLimits.{SegmentsEnd, OnePosition, ListsWithin, CanRead, body_again, header_again, read_total, Ends}
use Rattle.nr_header.specs.Reading.{header_of}
use Rattle.nr_header.proofs.Messages.{header_written}
use Rattle.nr_reduce.specs.ChunkBytes.{IsNotGiven, inline_by, lists_by, ChunkHolds, MessageConveys}
use Rattle.nr_reduce.specs.declared.call.Form.{Form}
use Rattle.nr_reduce.specs.declared.item.Item.{Item}
use Rattle.nr_reduce.specs.Items.{stream_of, moved_of}
use Rattle.nr_reduce.specs.declared.item.Of.TheVariants.{Call}
use Rattle.nr_reduce.specs.declared.outline.Plan.{Plan}
use Rattle.nr_reduce.specs.Plans.{segments_for, has_segment, one_if, segments_from, entries_from, read_stag, regions_needed, write_list, reply_chunk, lists_of, body_by, call_message, plan_of}
use Rattle.nr_reduce.specs.Chunks.{Bytes, item_position, call_moved, whole, call_conveyed, read_bytes}
use Rattle.nr_reduce.proofs.ItemSearch.{item_stands}
use Rattle.nr_reduce.proofs.Rebuilding.{reducible, moved_length, rebuilt}
use Rattle.nr_reduce.proofs.WrittenChunks.{added_up}
use Rattle.nr_reduce.proofs.Offers.{joined_at, no_item}
use Rattle.nr_reduce.proofs.Segments.{segments_sum, count_is, some_segment, own_added, entries_fit, segments_fit, segments_end, entries_end, entries_at, entries_total, item_at}
use Rattle.nr_reduce.proofs.Sizes.{entries_count, segments_count}
use Rattle.nr_reduce.proofs.PlanKinds.{Offering, offered, IsSmall, MessageKind, shape, IsKind, is_plan}
use Rattle.nr_reduce.proofs.PlanKinds.Offering.{Nothing, One}
use Rattle.nr_reduce.proofs.PlanKinds.MessageKind.{Short, Chunked, Long}

-- ---- The lists of a shape

abbrev pub entries : List ℕ → MessageKind → ℕ → List ReadSegment
entries payload Short stag = []
entries payload (Chunked i) stag = entries_from i.pos stag 0 (segments_for i.len)
entries payload Long stag = entries_from 0 stag 0 (segments_for (length payload))

abbrev pub read_lengths : List ℕ → MessageKind → List ℕ
read_lengths payload Short = []
read_lengths payload (Chunked i) = segments_for i.len
read_lengths payload Long = segments_for (length payload)

abbrev pub write_from : List ℕ → MessageKind → ℕ → ℕ
write_from payload way stag = stag + one_if (has_segment (Some (read_lengths payload way)))

abbrev pub reply_from : List ℕ → MessageKind → Offering → ℕ → ℕ
reply_from payload way w stag = write_from payload way stag + one_if (has_segment (offered w))

abbrev pub lists : List ℕ → MessageKind → Offering → Offering → ℕ → ChunkLists
lists payload way w r stag = record {
  read = entries payload way stag;
  write = write_list (write_from payload way stag) (offered w);
  reply = reply_chunk (reply_from payload way w stag) (offered r);
}

pub lists_shape : (payload : List ℕ) (way : MessageKind) (w r : Offering) (stag : ℕ) → lists_of stag (shape payload way (offered w) (offered r)) ≡ lists payload way w r stag
unfolding lists_of
lists_shape payload Short w r stag = refl
lists_shape payload (Chunked i) w r stag = refl
lists_shape payload Long w r stag = refl

needed_shape : (payload : List ℕ) (way : MessageKind) (w r : Offering) →
    regions_needed (shape payload way (offered w) (offered r)) ≡ one_if (has_segment (Some (read_lengths payload way))) + one_if (has_segment (offered w)) + one_if (has_segment (offered r))
unfolding regions_needed
needed_shape payload Short w r = refl
needed_shape payload (Chunked i) w r = refl
needed_shape payload Long w r = refl

abbrev pub body_of : MessageKind → ChunkLists → Body
body_of Short ls = Msg ls 0
body_of (Chunked i) ls = Msg ls 0
body_of Long ls = Nomsg ls

abbrev pub stream_in : List ℕ → MessageKind → List ℕ
stream_in payload Short = payload
stream_in payload (Chunked i) = stream_of payload i
stream_in payload Long = []

-- the position of an item in a payload that fits
pub record Placed (payload : List ℕ) (i : Item) : Type 0 where
  pub least : 4 ≤ i.pos
  pub size : i.pos + i.len ≤ length payload

placed : (payload : List ℕ) (way : MessageKind) (i : Item) → IsBytes payload → IsKind payload way → way ≡ Chunked i → Placed payload i
placed payload Short i fits is same = absurd cc
placed payload (Chunked j) i fits is same =
    let r = reducible Call payload j is in
    let s = item_stands Call payload j fits r.item in
    let e : j ≡ i = cc in
    subst (λ (k : Item). Placed payload k) e (record { least = s.least; size = omega (arith, r.size) })
placed payload Long i fits is same = absurd cc

positive : (n : ℕ) → 4 ≤ n → eqb n 0 ≡ false
positive n h = ne_eqb n 0 (λ e. omega (arith, e, h))

body_shape : (payload : List ℕ) (way : MessageKind) (w r : Offering) (ls : ChunkLists) → IsBytes payload → IsKind payload way → body_by (shape payload way (offered w) (offered r)).read_at ls ≡ body_of way ls
body_shape payload Short w r ls fits is = refl
body_shape payload (Chunked i) w r ls fits is = ap (λ (b : Bool). cond b (Nomsg ls) (Msg ls 0)) (positive i.pos (placed payload (Chunked i) i fits is refl).least)
body_shape payload Long w r ls fits is = refl

-- ---- Its numbers fit, and it is within the limits

-- the segments of a chunk that is not too large
record OwnSegments (stag n : ℕ) : Type 0 where
  few : length (segments_from stag 0 (segments_for n)) ≤ 16
  total : added_up (segments_for n) ≡ n
  ends : SegmentsEnd (segments_from stag 0 (segments_for n))

own_segments : (stag n : ℕ) → n ≤ PAYLOAD_MAX → OwnSegments stag n
own_segments stag n small =
    let total = own_added n in record {
      few = (let a = count_is n in let b = segments_count stag 0 (segments_for n) in omega (arith, a, b, small));
      total = total;
      ends = segments_end stag 0 (segments_for n) (omega (arith, total, small));
    }

stag_fits : (n stag : ℕ) → stag + one_if (has_segment (Some (segments_for n))) ≤ 2 ^ 32 → stag < 2 ^ 32
stag_fits n stag room = (let some = ap one_if (some_segment n) in omega (arith, some, room))

write_fit : (w : Offering) (stag : ℕ) (more : List XdrItem) → IsSmall w → stag + one_if (has_segment (offered w)) ≤ 2 ^ 32 → AllFit more → AllFit (write_items (write_list stag (offered w)) more)
write_fit Nothing stag more small room k = (tt, k)
write_fit (One n) stag more small room k =
    let s = own_segments stag n (omega (arith, small)) in
    (tt, (omega (arith, s.few), segments_fit stag 0 (segments_for n) (write_items [] more) (λ some. stag_fits n stag room) (omega (arith, s.total, small)) (tt, k)))

reply_fit : (r : Offering) (stag : ℕ) → IsSmall r → stag + one_if (has_segment (offered r)) ≤ 2 ^ 32 → AllFit (reply_items (reply_chunk stag (offered r)) [])
reply_fit Nothing stag small room = (tt, tt)
reply_fit (One n) stag small room =
    let s = own_segments stag n (omega (arith, small)) in
    (tt, (omega (arith, s.few), segments_fit stag 0 (segments_for n) [] (λ some. stag_fits n stag room) (omega (arith, s.total, small)) tt))

read_fit : (payload : List ℕ) (way : MessageKind) (stag : ℕ) (more : List XdrItem) → IsBytes payload → IsKind payload way → length payload ≤ PAYLOAD_MAX → write_from payload way stag ≤ 2 ^ 32 → AllFit more
    → AllFit (read_items (entries payload way stag) more)
read_fit payload Short stag more fits is size room k = (tt, k)
read_fit payload (Chunked i) stag more fits is size room k =
    let p = placed payload (Chunked i) i fits is refl in
    entries_fit i.pos stag 0 (segments_for i.len) more (omega (arith, p.size, size)) (λ some. stag_fits i.len stag room) (let total = own_added i.len in omega (arith, total, p.size, size)) k
read_fit payload Long stag more fits is size room k =
    entries_fit 0 stag 0 (segments_for (length payload)) more (omega arith) (λ some. stag_fits (length payload) stag room) (let total = own_added (length payload) in omega (arith, total, size)) k

lists_fit : (payload : List ℕ) (way : MessageKind) (w r : Offering) (stag : ℕ) → IsBytes payload → IsKind payload way → length payload ≤ PAYLOAD_MAX → IsSmall w → IsSmall r
    → reply_from payload way w stag + one_if (has_segment (offered r)) ≤ 2 ^ 32 → AllFit (lists_items (lists payload way w r stag))
lists_fit payload way w r stag fits is size small_w small_r room =
    read_fit payload way stag _ fits is size (omega (arith, room))
    (write_fit w (write_from payload way stag) _ small_w (omega (arith, room))
    (reply_fit r (reply_from payload way w stag) small_r room))

-- a list of one
pub all_one : {X : Type 0} (P : X → Type 0) (x : X) → P x → All P (x ∷ [])
all_one P x p = All-cons P x [] p (All-nil P)

record WriteWithin (chunks : List (List RdmaSegment)) : Type 0 where
  count : length chunks ≤ WRITE_CHUNKS_MAX
  each : All (λ chunk. length chunk ≤ CHUNK_SEGMENTS_MAX) chunks
  segments : sum_by (λ chunk. length chunk) chunks ≤ WRITE_SEGMENTS_MAX
  ends : All SegmentsEnd chunks

write_within : (w : Offering) (stag : ℕ) → IsSmall w → WriteWithin (write_list stag (offered w))
write_within Nothing stag small = record { count = omega arith; each = All-nil _; segments = omega arith; ends = All-nil _ }
write_within (One n) stag small =
    let s = own_segments stag n (omega (arith, small)) in record {
      count = omega arith;
      each = all_one (λ (chunk : List RdmaSegment). length chunk ≤ CHUNK_SEGMENTS_MAX) _ (omega (arith, s.few));
      segments = (let a = sum_by-cons (λ (chunk : List RdmaSegment). length chunk) (segments_from stag 0 (segments_for n)) [] in omega (arith, a, s.few));
      ends = all_one SegmentsEnd _ s.ends;
    }

reply_segments : (r : Offering) (stag : ℕ) → IsSmall r → IfSome (reply_chunk stag (offered r)) (λ chunk. length chunk ≤ REPLY_SEGMENTS_MAX)
reply_segments Nothing stag small = tt
reply_segments (One n) stag small = (let s = own_segments stag n (omega (arith, small)) in omega (arith, s.few))

reply_ends : (r : Offering) (stag : ℕ) → IsSmall r → IfSome (reply_chunk stag (offered r)) SegmentsEnd
reply_ends Nothing stag small = tt
reply_ends (One n) stag small = (own_segments stag n (omega (arith, small))).ends

record ReadWithin (read : List ReadSegment) (total : ℕ) : Type 0 where
  entries : length read ≤ READ_SEGMENTS_MAX
  ends : All (λ r. Ends r.offset r.length) read
  one : OnePosition read
  total_is : read_total read ≡ total

own_entries : (position stag n : ℕ) → n ≤ PAYLOAD_MAX → ReadWithin (entries_from position stag 0 (segments_for n)) n
own_entries position stag n small =
    let total = own_added n in record {
      entries = (let a = count_is n in let b = entries_count position stag 0 (segments_for n) in omega (arith, a, b, small));
      ends = entries_end position stag 0 (segments_for n) (omega (arith, total, small));
      one = (position, entries_at (λ (at : ℕ). at ≢ 0 → at ≡ position) position stag 0 (segments_for n) (λ h. refl));
      total_is = entries_total position stag 0 (segments_for n) ∙ total;
    }

abbrev moved_total : List ℕ → MessageKind → ℕ
moved_total payload Short = 0
moved_total payload (Chunked i) = i.len
moved_total payload Long = length payload

read_within : (payload : List ℕ) (way : MessageKind) (stag : ℕ) → IsBytes payload → IsKind payload way → length payload ≤ PAYLOAD_MAX → ReadWithin (entries payload way stag) (moved_total payload way)
read_within payload Short stag fits is size = record { entries = omega arith; ends = All-nil _; one = (0, All-nil _); total_is = refl }
read_within payload (Chunked i) stag fits is size =
    (let p = placed payload (Chunked i) i fits is refl in own_entries i.pos stag i.len (omega (arith, p.size, size)))
read_within payload Long stag fits is size = own_entries 0 stag (length payload) size

lists_within : (payload : List ℕ) (way : MessageKind) (w r : Offering) (stag : ℕ) → IsBytes payload → IsKind payload way → length payload ≤ PAYLOAD_MAX → IsSmall w → IsSmall r → ListsWithin (lists payload way w r stag)
lists_within payload way w r stag fits is size small_w small_r =
    let rd = read_within payload way stag fits is size in
    let wr = write_within w (write_from payload way stag) small_w in record {
      read_segments = rd.entries;
      read_ends = rd.ends;
      one_position = rd.one;
      write_chunks = wr.count;
      chunk_segments = wr.each;
      write_segments = wr.segments;
      write_ends = wr.ends;
      reply_segments = reply_segments r (reply_from payload way w stag) small_r;
      reply_ends = reply_ends r (reply_from payload way w stag) small_r;
    }

can_read : (payload : List ℕ) (way : MessageKind) (w r : Offering) (stag : ℕ) → IsBytes payload → IsKind payload way → length payload ≤ PAYLOAD_MAX → IsSmall w → IsSmall r
    → CanRead (body_of way (lists payload way w r stag)) (stream_in payload way)
can_read payload Short w r stag fits is size small_w small_r =
    (lists_within payload Short w r stag fits is size small_w small_r, All-nil _, omega (arith, size))
can_read payload (Chunked i) w r stag fits is size small_w small_r =
    let p = placed payload (Chunked i) i fits is refl in
    let len = length-take-le i.pos payload (omega (arith, p.size)) in
    let total = (read_within payload (Chunked i) stag fits is size).total_is in (
      lists_within payload (Chunked i) w r stag fits is size small_w small_r,
      entries_at (λ (at : ℕ). at ≢ 0) i.pos stag 0 (segments_for i.len) (λ e. omega (arith, e, p.least)),
      omega (arith, size, p.size, len, total),
    )
can_read payload Long w r stag fits is size small_w small_r =
    let total = (read_within payload Long stag fits is size).total_is in
    (refl, lists_within payload Long w r stag fits is size small_w small_r, omega (arith, size, total))

head_fits : (xid credit : ℕ) (way : MessageKind) (ls : ChunkLists) → xid < 2 ^ 32 → credit < 2 ^ 32 → AllFit (lists_items ls) → HeaderFits (record { xid = xid; credit = credit; body = body_of way ls })
head_fits xid credit Short ls x c k = (x, (omega arith, (c, (omega arith, k))))
head_fits xid credit (Chunked i) ls x c k = (x, (omega arith, (c, (omega arith, k))))
head_fits xid credit Long ls x c k = (x, (omega arith, (c, (omega arith, k))))

-- ---- The law

conveys_way : (payload : List ℕ) (way : MessageKind) (stag : ℕ) (head : List ℕ) (ls : ChunkLists) (chunk : ℕ → List ℕ) (w r : Offering) → IsBytes payload → IsKind payload way
    → ChunkHolds chunk (shape payload way (offered w) (offered r))
    → call_conveyed (inline_by (head ++ stream_in payload way) (body_again (body_of way ls) (length head))) (entries payload way stag) chunk ≡ Some payload
unfolding call_conveyed item_position
conveys_way payload Short stag head ls chunk w r fits is brings = ap Some (drop_at head payload (length head) refl)
conveys_way payload (Chunked i) stag head ls chunk w r fits is brings =
    let p = placed payload (Chunked i) i fits is refl in
    ap (λ (o : Option ℕ). whole Call (drop (length head) (head ++ stream_of payload i)) (call_moved o chunk)) (item_at i.pos stag 0 (segments_for i.len) (some_segment i.len) (positive i.pos p.least))
    ∙ (λ k. whole Call (drop_at head (stream_of payload i) (length head) refl k) (Some (brings k)))
    ∙ rebuilt Call payload i fits is
conveys_way payload Long stag head ls chunk w r fits is brings = (λ k. whole Call (brings k) (call_moved (no_item stag 0 (segments_for (length payload)) k) chunk))

-- the message of a shape is its header and its stream, and reads so
pub reads_shape : (payload : List ℕ) (way : MessageKind) (w r : Offering) (xid credit stag : ℕ) → IsBytes payload → IsKind payload way → length payload ≤ PAYLOAD_MAX → IsSmall w → IsSmall r → xid < 2 ^ 32 → credit < 2 ^ 32
    → stag + regions_needed (shape payload way (offered w) (offered r)) ≤ 2 ^ 32
    → (let h : Header = record { xid = xid; credit = credit; body = body_of way (lists payload way w r stag) } in
    (call_message xid credit stag (shape payload way (offered w) (offered r)) ≡ header_encoding h ++ stream_in payload way)
    × (header_of (header_encoding h ++ stream_in payload way) ≡ Ok (header_again h)))
unfolding call_message
reads_shape payload way w r xid credit stag fits is size small_w small_r fits_x fits_c room =
    let p : Plan = shape payload way (offered w) (offered r) in
    let ls : ChunkLists = lists payload way w r stag in
    let room2 : reply_from payload way w stag + one_if (has_segment (offered r)) ≤ 2 ^ 32 = (let n = needed_shape payload way w r in omega (arith, room, n)) in
    let body_same : body_by p.read_at (lists_of stag p) ≡ body_of way ls =
    ap (λ (l : ChunkLists). body_by p.read_at l) (lists_shape payload way w r stag) ∙ body_shape payload way w r ls fits is in (
      (λ k. header_encoding (record { xid = xid; credit = credit; body = body_same k }) ++ inline_shape way k),
      header_written (record { xid = xid; credit = credit; body = body_of way ls }) (stream_in payload way)
          (head_fits xid credit way ls fits_x fits_c (lists_fit payload way w r stag fits is size small_w small_r room2)) (can_read payload way w r stag fits is size small_w small_r),
    )
  where
    inline_shape : (way : MessageKind) → (shape payload way (offered w) (offered r)).inline ≡ stream_in payload way
    inline_shape Short = refl
    inline_shape (Chunked i) = refl
    inline_shape Long = refl

asks_shape : (payload : List ℕ) (way : MessageKind) (w r : Offering) (xid credit stag : ℕ) → IsBytes payload → IsKind payload way → length payload ≤ PAYLOAD_MAX → IsSmall w → IsSmall r → xid < 2 ^ 32 → credit < 2 ^ 32
    → stag + regions_needed (shape payload way (offered w) (offered r)) ≤ 2 ^ 32
    → MessageConveys payload (shape payload way (offered w) (offered r)) xid credit stag (call_message xid credit stag (shape payload way (offered w) (offered r)))
unfolding call_message
asks_shape payload way w r xid credit stag fits is size small_w small_r fits_x fits_c room =
    let p : Plan = shape payload way (offered w) (offered r) in
    let ls : ChunkLists = lists payload way w r stag in
    let h : Header = record { xid = xid; credit = credit; body = body_of way ls } in
    let room2 : reply_from payload way w stag + one_if (has_segment (offered r)) ≤ 2 ^ 32 = (let n = needed_shape payload way w r in omega (arith, room, n)) in
    let body_same : body_by p.read_at (lists_of stag p) ≡ body_of way ls =
    ap (λ (l : ChunkLists). body_by p.read_at l) (lists_shape payload way w r stag) ∙ body_shape payload way w r ls fits is in
    let message_same : call_message xid credit stag p ≡ header_encoding h ++ stream_in payload way =
    (λ k. header_encoding (record { xid = xid; credit = credit; body = body_same k }) ++ inline_shape payload way w r k) in
    let read = header_written h (stream_in payload way) (head_fits xid credit way ls fits_x fits_c (lists_fit payload way w r stag fits is size small_w small_r room2)) (can_read payload way w r stag fits is size small_w small_r) in
    subst (λ (m : List ℕ). MessageConveys payload p xid credit stag m) (sym message_same) (record {
      body = body_again (body_of way ls) (length (header_encoding h));
      reads = read;
      lists = lists_again way ls (length (header_encoding h)) ∙ sym (lists_shape payload way w r stag);
      conveys = λ chunk brings.
          ap (λ (l : ChunkLists). call_conveyed (inline_by (header_encoding h ++ stream_in payload way) (body_again (body_of way ls) (length (header_encoding h)))) l.read chunk) (lists_shape payload way w r stag)
          ∙ conveys_way payload way stag (header_encoding h) ls chunk w r fits is brings;
    })
  where
    inline_shape : (payload : List ℕ) (way : MessageKind) (w r : Offering) → (shape payload way (offered w) (offered r)).inline ≡ stream_in payload way
    inline_shape payload Short w r = refl
    inline_shape payload (Chunked i) w r = refl
    inline_shape payload Long w r = refl

    lists_again : (way : MessageKind) (ls : ChunkLists) (n : ℕ) → lists_by (body_again (body_of way ls) n) ≡ ls
    lists_again Short ls n = refl
    lists_again (Chunked i) ls n = refl
    lists_again Long ls n = refl

-- The message of a plan whose form isn't given reads back as its header and its stream, and conveys its payload by its chunks.
pub asks : (payload : List ℕ) (form : Form) (up down xid credit stag : ℕ) (p : Plan) → IsBytes payload → IsNotGiven form → plan_of payload form up down ≡ Ok p → xid < 2 ^ 32 → credit < 2 ^ 32
    → stag + regions_needed p ≤ 2 ^ 32 → MessageConveys payload p xid credit stag (call_message xid credit stag p)
asks payload form up down xid credit stag p fits own e fits_x fits_c room =
    let is = is_plan payload form up down p own e in
    let s = is.shaped in
    let law = λ (q : Plan). stag + regions_needed q ≤ 2 ^ 32 → MessageConveys payload q xid credit stag (call_message xid credit stag q) in
    subst law (sym s.is) (λ room. asks_shape payload s.kind s.write s.reply xid credit stag fits s.is_kind is.payload_fits s.write_small s.reply_small fits_x fits_c room) room

-- the entries of a chunk of n bytes bring a region of that many bytes
brings_region : (memory : Bytes) (position stag n : ℕ) (region : List ℕ) → memory stag ≡ region → length region ≡ n → read_bytes memory (entries_from position stag 0 (segments_for n)) position ≡ region
brings_region memory position stag n region holds size =
    joined_at memory position stag (segments_for n)
    ∙ ap (λ (xs : List ℕ). take (sum (segments_for n)) xs) holds
    ∙ take_all (sum (segments_for n)) region (let s = segments_sum n in omega (arith, s, size))

brings_way : (payload : List ℕ) (memory : Bytes) (stag : ℕ) (way : MessageKind) (w r : Offering) → IsKind payload way → memory (read_stag stag (shape payload way (offered w) (offered r))) ≡ (shape payload way (offered w) (offered r)).region
    → ChunkHolds (read_bytes memory (lists_of stag (shape payload way (offered w) (offered r))).read) (shape payload way (offered w) (offered r))
unfolding lists_of
brings_way payload memory stag Short w r is holds = tt
brings_way payload memory stag (Chunked i) w r is holds =
    brings_region memory i.pos stag i.len (moved_of payload i) holds (let l = moved_length Call payload i (reducible Call payload i is) in omega (arith, l))
brings_way payload memory stag Long w r is holds = brings_region memory 0 stag (length payload) payload holds refl

-- The same by its own memory: if the STag of its read chunk holds its region.
pub asks_from : (payload : List ℕ) (form : Form) (up down stag : ℕ) (p : Plan) (memory : Bytes) → IsBytes payload → IsNotGiven form → plan_of payload form up down ≡ Ok p → memory (read_stag stag p) ≡ p.region
    → ChunkHolds (read_bytes memory (lists_of stag p).read) p
asks_from payload form up down stag p memory fits own e holds =
    let is = is_plan payload form up down p own e in
    let s = is.shaped in
    let law = λ (q : Plan). memory (read_stag stag q) ≡ q.region → ChunkHolds (read_bytes memory (lists_of stag q).read) q in
    subst law (sym s.is) (λ holds. brings_way payload memory stag s.kind s.write s.reply s.is_kind holds) holds
