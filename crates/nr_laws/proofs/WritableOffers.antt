-- What a client offers by a message that makes its call pending is within the limits of a header: so each segment of an answer,
-- and its message, can be written.
use Rattle.nr_laws.proofs.OneChunk.{HasOneChunk, OneChunk}
use Rattle.std.proofs.Common.{◌≡◌, ℕ, ◌+◌, ◌≤◌, ◌<◌, ◌^◌, List, [], ◌∷◌, length, Option, Some, None, IfSome, sym, subst, arith}
use Rattle.std.specs.List.{All}
use Rattle.std.proofs.lemmas.List.Elements.{All-head, All-tail}
use Rattle.nr_xdr.specs.Item.{Item, IsBytes}
use Rattle.nr_xdr.specs.Items.{AllFit}
use Rattle.nr_header.proofs.Lengths.{write_list_segments}
use Rattle.nr_header.specs.Length.{reply_chunk_len}
use Rattle.nr_header.specs.declared.header.RdmaSegment.{RdmaSegment}
use Rattle.nr_header.specs.declared.header.ReadSegment.{ReadSegment}
use Rattle.nr_header.specs.declared.header.ChunkLists.{ChunkLists}
use Rattle.nr_header.specs.declared.header.Body.{Body}
use Rattle.nr_header.specs.declared.header.Body.TheVariants.{Msg, Nomsg, ErrVers, ErrChunk}
use Rattle.nr_header.specs.Header.{read_items, segments_items, write_items, reply_items, lists_items, body_items}
use Rattle.nr_header.specs.WithinLimits.{read_total, Ends, SegmentsEnd, ListsWithin, CanRead}
use Rattle.nr_header.specs.Constants.{PAYLOAD_MAX, REPLY_SEGMENTS_MAX}
use Rattle.nr_header.proofs.Messages.{header_take}
use Rattle.nr_reduce.specs.Limits.{send_unit}
use Rattle.nr_reduce.specs.Holds.{first_chunk, no_segments, answer_size}
use Rattle.nr_reduce.specs.ServerState.{PendingCall, ServerState, next_stag}
use Rattle.nr_reduce.specs.ServerReads.{chunks_of}
use Rattle.nr_reduce.specs.ServerMessages.{verdict}
use Rattle.nr_reduce.specs.ServerMessages.Verdict.{MakesPending}
use Rattle.nr_reduce.proofs.AnswerMessages.{segments_tail, read_tail}
use Rattle.nr_laws.proofs.MadePending.{made_pending}
use Rattle.nr_reduce.proofs.Opens.{IsCall}
use Rattle.nr_reduce.specs.ChunkBytes.{lists_by}

abbrev pub SegmentsFit : List RdmaSegment → Type 0
SegmentsFit [] = Unit {0}
SegmentsFit (s ∷ segments) = ((s.handle < 2 ^ 32) × (s.offset < 2 ^ 64) × (s.offset + s.length ≤ 2 ^ 64)) × SegmentsFit segments

abbrev pub EntriesFit : List ReadSegment → Type 0
EntriesFit [] = Unit {0}
EntriesFit (r ∷ read) = ((r.length < 2 ^ 32) × (r.handle < 2 ^ 32) × (r.offset < 2 ^ 64)) × EntriesFit read

pub record OfferFits (lists : ChunkLists) : Type 0 where
  pub reads : EntriesFit lists.read
  pub total : read_total lists.read ≤ PAYLOAD_MAX
  pub size : answer_size lists.write + reply_chunk_len (length (no_segments lists.reply)) ≤ send_unit
  pub writes : SegmentsFit (first_chunk lists.write)
  pub replies : SegmentsFit (no_segments lists.reply)
  pub items : AllFit (lists_items lists)
  pub within : ListsWithin lists

-- ---- Of items that fit

pub skip_write : (chunks : List (List RdmaSegment)) (more : List Item) → AllFit (write_items chunks more) → AllFit more
skip_write [] more h = h.1
skip_write (chunk ∷ chunks) more h = skip_write chunks more (segments_tail chunk (write_items chunks more) h.1.1)

entries_fit : (rs : List ReadSegment) (more : List Item) → AllFit (read_items rs more) → EntriesFit rs
entries_fit [] more h = tt
entries_fit (r ∷ rs) more h = ((h.1.1.1.0, h.1.1.0, h.1.1.1.1.0), entries_fit rs more h.1.1.1.1.1)

segments_fit : (ss : List RdmaSegment) (more : List Item) → AllFit (segments_items ss more) → SegmentsEnd ss → SegmentsFit ss
segments_fit [] more h ends = tt
segments_fit (s ∷ ss) more h ends = (
  (h.0, h.1.1.0, All-head (λ (x : RdmaSegment). Ends x.offset x.length) s ss ends),
  segments_fit ss more h.1.1.1 (All-tail (λ (x : RdmaSegment). Ends x.offset x.length) s ss ends),
)

first_fits : (chunks : List (List RdmaSegment)) (more : List Item) → AllFit (write_items chunks more) → All SegmentsEnd chunks → SegmentsFit (first_chunk chunks)
first_fits [] more h ends = tt
first_fits (chunk ∷ chunks) more h ends = segments_fit chunk (write_items chunks more) h.1.1 (All-head SegmentsEnd chunk chunks ends)

reply_fits : (reply : Option (List RdmaSegment)) (more : List Item) → AllFit (reply_items reply more) → IfSome reply SegmentsEnd → SegmentsFit (no_segments reply)
reply_fits None more h ends = tt
reply_fits (Some chunk) more h ends = segments_fit chunk more h.1.1 ends

-- ---- Of lists within their limits

few_segments : (reply : Option (List RdmaSegment)) → IfSome reply (λ (chunk : List RdmaSegment). length chunk ≤ REPLY_SEGMENTS_MAX) → length (no_segments reply) ≤ REPLY_SEGMENTS_MAX
few_segments None h = omega arith
few_segments (Some chunk) h = h

offer_fits : (lists : ChunkLists) → AllFit (read_items lists.read (write_items lists.write (reply_items lists.reply []))) → ListsWithin lists → read_total lists.read ≤ PAYLOAD_MAX → OfferFits lists
offer_fits lists h w total =
    let writes = read_tail lists.read (write_items lists.write (reply_items lists.reply [])) h in
    record {
      reads = entries_fit lists.read (write_items lists.write (reply_items lists.reply [])) h;
      total = total;
      size = omega (arith, write_list_segments lists.write, w.write_chunks, w.write_segments, few_segments lists.reply w.reply_segments);
      writes = first_fits lists.write (reply_items lists.reply []) writes w.write_ends;
      replies = reply_fits lists.reply [] (skip_write lists.write (reply_items lists.reply []) writes) w.reply_ends;
      items = h;
      within = w;
    }

-- ---- Of a message

body_fits : (xid credit : ℕ) (stream : List ℕ) (body : Body) → IsCall body → AllFit (body_items xid credit body) → CanRead body stream → OfferFits (lists_by body)
body_fits xid credit stream (Msg lists at) call h can = offer_fits lists h.1.1.1.1 can.0 (omega (arith, can.2))
body_fits xid credit stream (Nomsg lists) call h can = offer_fits lists h.1.1.1.1 can.1 can.2
body_fits xid credit stream (ErrVers version low high) call h can = absurd call
body_fits xid credit stream (ErrChunk version) call h can = absurd call

pub verdict_fits : (k : ServerState) (message : List ℕ) (c : PendingCall) → IsBytes message → verdict k message ≡ MakesPending c → OfferFits c.lists
verdict_fits k message c bytes e =
    let m = made_pending k message c e in
    let t = header_take message m.header bytes m.is_header in
    subst (λ (x : PendingCall). OfferFits x.lists) (sym m.is) (body_fits m.header.xid m.header.credit t.stream m.header.body m.is_call t.fits t.can)

-- ---- The STags that its reads need

pub verdict_few : (k : ServerState) (message : List ℕ) (c : PendingCall) → verdict k message ≡ MakesPending c → next_stag k + length (chunks_of c.lists) ≤ 4294967296
verdict_few k message c e = (made_pending k message c e).few

body_one : (body : Body) → IsCall body → HasOneChunk body → length (chunks_of (lists_by body)) ≤ 1
body_one (Msg lists at) call one = one
body_one (Nomsg lists) call one = one
body_one (ErrVers version low high) call one = absurd call
body_one (ErrChunk version) call one = absurd call

pub verdict_one : (k : ServerState) (message : List ℕ) (c : PendingCall) → IsBytes message → OneChunk message → verdict k message ≡ MakesPending c → length (chunks_of c.lists) ≤ 1
verdict_one k message c bytes one e =
    let m = made_pending k message c e in
    subst (λ (x : PendingCall). length (chunks_of x.lists) ≤ 1) (sym m.is) (body_one m.header.body m.is_call (one m.header bytes m.is_header))
