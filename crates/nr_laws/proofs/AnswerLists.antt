-- The lists of an answer are within the limits of a header if those of its call are: so the message of an answer can be read.
use Rattle.std.proofs.Common.{◌≡◌, ℕ, ◌^◌, ◌<◌, ◌≤◌, Bool, true, false, cond, List, [], ◌∷◌, ◌++◌, length, sum_by, IfSome, Option, Some, None, Ok, refl, subst, arith, append-nil}
use Rattle.std.proofs.lemmas.List.Sums.{sum_by-cons}
use Rattle.std.proofs.lemmas.List.Elements.{All-nil, recursion_from_All, All-from_recursion}
use Rattle.std.specs.List.{AllByRecursion}
use Rattle.nr_xdr.specs.Item.{Item}
use Rattle.nr_xdr.specs.Items.{AllFit}
use Rattle.nr_header.specs.Constants.{PAYLOAD_MAX, CHUNK_SEGMENTS_MAX, REPLY_SEGMENTS_MAX}
use Rattle.nr_header.specs.declared.header.RdmaSegment.{RdmaSegment}
use Rattle.nr_header.specs.declared.header.ChunkLists.{ChunkLists}
use Rattle.nr_header.specs.declared.header.Body.TheVariants.{Msg, Nomsg, ErrVers, ErrChunk}
use Rattle.nr_header.specs.declared.header.Header.{Header}
use Rattle.nr_header.specs.Header.{write_items, reply_items, lists_items, header_encoding, HeaderFits}
use Rattle.nr_header.specs.WithinLimits.{SegmentsEnd, ListsWithin, CanRead, header_again}
use Rattle.nr_header.specs.Reading.{header_of}
use Rattle.nr_header.proofs.Messages.{header_written}
use Rattle.nr_reduce.specs.Chunks.{filled_chunk}
use Rattle.nr_reduce.specs.Holds.{Answer, empty_chunks, written_chunks, no_segments, answer_lists, answer_message, chunk_error, version_error}
use Rattle.nr_laws.proofs.WritableOffers.{skip_write}
use Rattle.nr_reduce.proofs.AnswerMessages.{length_filled, segments_tail, read_tail, chunk_fit, filled_ends}

abbrev pub IsRead : List ℕ → Type 0
IsRead message = (h : Header) × (header_of message ≡ Ok h)

-- ---- The items

empty_fit : (chunks : List (List RdmaSegment)) (more others : List Item) → AllFit (write_items chunks more) → AllFit others → AllFit (write_items (empty_chunks chunks) others)
empty_fit [] more others h k = (tt, k)
empty_fit (chunk ∷ chunks) more others h k =
    (tt, chunk_fit chunk 0 (write_items chunks more) (write_items (empty_chunks chunks) others) h.1.0 h.1.1 (empty_fit chunks more others (segments_tail chunk (write_items chunks more) h.1.1) k))

written_fit_lem : (chunks : List (List RdmaSegment)) (n : ℕ) (more others : List Item) → AllFit (write_items chunks more) → AllFit others → AllFit (write_items (written_chunks chunks n) others)
written_fit_lem [] n more others h k = (tt, k)
written_fit_lem (chunk ∷ chunks) n more others h k =
    (tt, chunk_fit chunk n (write_items chunks more) (write_items (empty_chunks chunks) others) h.1.0 h.1.1 (empty_fit chunks more others (segments_tail chunk (write_items chunks more) h.1.1) k))

returned_fit_lem : (reply : Option (List RdmaSegment)) (b : Bool) (n : ℕ) → AllFit (reply_items reply []) → AllFit (reply_items (cond b (Some (filled_chunk (no_segments reply) n)) None) [])
returned_fit_lem reply false n h = (tt, tt)
returned_fit_lem None true n h = (tt, (omega arith, tt))
returned_fit_lem (Some chunk) true n h = (tt, chunk_fit chunk n [] [] h.1.0 h.1.1 tt)

lists_fit_lem : (offer : ChunkLists) (a : Answer) → AllFit (lists_items offer) → AllFit (lists_items (answer_lists offer a))
lists_fit_lem offer a h =
    let writes = read_tail offer.read (write_items offer.write (reply_items offer.reply [])) h in
    (tt, written_fit_lem offer.write (length a.moved) (reply_items offer.reply []) _ writes (returned_fit_lem offer.reply a.long (length a.stream) (skip_write offer.write (reply_items offer.reply []) writes)))

-- ---- Within the limits

abbrev IsSmall : List RdmaSegment → Type 0
IsSmall chunk = length chunk ≤ CHUNK_SEGMENTS_MAX

abbrev segment_total : List (List RdmaSegment) → ℕ
segment_total chunks = sum_by (λ (chunk : List RdmaSegment). length chunk) chunks

record Returned (chunks others : List (List RdmaSegment)) : Type 0 where
  count : length others ≡ length chunks
  segments : segment_total others ≡ segment_total chunks
  small : AllByRecursion IsSmall chunks → AllByRecursion IsSmall others
  ends : AllByRecursion SegmentsEnd chunks → AllByRecursion SegmentsEnd others

returned_cons : (chunk : List RdmaSegment) (n : ℕ) (chunks others : List (List RdmaSegment)) → Returned chunks others → Returned (chunk ∷ chunks) (filled_chunk chunk n ∷ others)
returned_cons chunk n chunks others r =
    let len = length_filled chunk n in record {
      count = omega (arith, r.count);
      segments = omega (arith, r.segments, len, sum_by-cons (λ (c : List RdmaSegment). length c) chunk chunks, sum_by-cons (λ (c : List RdmaSegment). length c) (filled_chunk chunk n) others);
      small = λ h. (let first = h.0 in omega (arith, len, first), r.small h.1);
      ends = λ h. (filled_ends chunk n h.0, r.ends h.1);
    }

empty_returned : (chunks : List (List RdmaSegment)) → Returned chunks (empty_chunks chunks)
empty_returned [] = record { count = refl; segments = refl; small = λ h. h; ends = λ h. h }
empty_returned (chunk ∷ chunks) = returned_cons chunk 0 chunks (empty_chunks chunks) (empty_returned chunks)

written_returned : (chunks : List (List RdmaSegment)) (n : ℕ) → Returned chunks (written_chunks chunks n)
written_returned [] n = record { count = refl; segments = refl; small = λ h. h; ends = λ h. h }
written_returned (chunk ∷ chunks) n = returned_cons chunk n chunks (empty_chunks chunks) (empty_returned chunks)

returned_count_lem : (reply : Option (List RdmaSegment)) (b : Bool) (n : ℕ) → IfSome reply (λ chunk. length chunk ≤ REPLY_SEGMENTS_MAX) → IfSome (cond b (Some (filled_chunk (no_segments reply) n)) None) (λ chunk. length chunk ≤ REPLY_SEGMENTS_MAX)
returned_count_lem reply false n h = tt
returned_count_lem None true n h = omega arith
returned_count_lem (Some chunk) true n h = (let l = length_filled chunk n in omega (arith, l, h))

returned_ends_lem : (reply : Option (List RdmaSegment)) (b : Bool) (n : ℕ) → IfSome reply SegmentsEnd → IfSome (cond b (Some (filled_chunk (no_segments reply) n)) None) SegmentsEnd
returned_ends_lem reply false n h = tt
returned_ends_lem None true n h = All-nil _
returned_ends_lem (Some chunk) true n h = filled_ends chunk n h

lists_within_lem : (offer : ChunkLists) (a : Answer) → ListsWithin offer → ListsWithin (answer_lists offer a)
lists_within_lem offer a h =
    let r = written_returned offer.write (length a.moved) in record {
      read_segments = omega arith;
      read_ends = All-nil _;
      one_position = (0, All-nil _);
      write_chunks = omega (arith, r.count, h.write_chunks);
      chunk_segments = All-from_recursion _ _ (r.small (recursion_from_All _ offer.write h.chunk_segments));
      write_segments = omega (arith, r.segments, h.write_segments);
      write_ends = All-from_recursion _ _ (r.ends (recursion_from_All _ offer.write h.write_ends));
      reply_segments = returned_count_lem offer.reply a.long (length a.stream) h.reply_segments;
      reply_ends = returned_ends_lem offer.reply a.long (length a.stream) h.reply_ends;
    }

-- ---- The messages

pub read_answer : (offer : ChunkLists) (xid credit : ℕ) (a : Answer) → xid < 2 ^ 32 → credit < 2 ^ 32 → AllFit (lists_items offer) → ListsWithin offer → (a.long ≡ false → length a.stream ≤ PAYLOAD_MAX) → IsRead (answer_message xid credit offer a)
unfolding answer_message
read_answer offer xid credit a fits_x fits_c items within room = by a.long refl
  where
    back : ChunkLists
    back = answer_lists offer a

    fit : AllFit (lists_items back)
    fit = lists_fit_lem offer a items

    in_limits : ListsWithin back
    in_limits = lists_within_lem offer a within

    by : (b : Bool) → a.long ≡ b → IsRead (header_encoding (record { xid = xid; credit = credit; body = cond b (Nomsg back) (Msg back 0) }) ++ cond b [] a.stream)
    by true is = (_, header_written (record { xid = xid; credit = credit; body = Nomsg back }) [] (fits_x, (omega arith, (fits_c, (omega arith, fit)))) (refl, in_limits, omega arith))
    by false is = (_, header_written (record { xid = xid; credit = credit; body = Msg back 0 }) a.stream (fits_x, (omega arith, (fits_c, (omega arith, fit)))) (in_limits, All-nil _, (let l = room is in omega (arith, l))))

without_stream : (h : Header) → HeaderFits h → CanRead h.body [] → IsRead (header_encoding h)
without_stream h fits can = (header_again h, subst (λ (xs : List ℕ). header_of xs ≡ Ok (header_again h)) (append-nil (header_encoding h)) (header_written h [] fits can))

pub read_chunk_error : (xid credit : ℕ) → xid < 2 ^ 32 → credit < 2 ^ 32 → IsRead (chunk_error xid credit)
unfolding chunk_error
read_chunk_error xid credit x c = without_stream (record { xid = xid; credit = credit; body = ErrChunk 1 }) (x, (omega arith, (c, (omega arith, (omega arith, tt))))) refl

pub read_version_error : (xid version credit : ℕ) → xid < 2 ^ 32 → version < 2 ^ 32 → credit < 2 ^ 32 → IsRead (version_error xid version credit)
unfolding version_error
read_version_error xid version credit x v c =
    without_stream (record { xid = xid; credit = credit; body = ErrVers version 1 1 }) (x, (v, (c, (omega arith, (omega arith, (omega arith, (omega arith, tt))))))) refl
