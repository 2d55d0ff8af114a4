-- The message of an answer reads back as its lists and its stream, and has the size that was tested.
use Rattle.std.proofs.Common.{◌≡◌, ℕ, suc, ◌+◌, ◌-◌, ◌^◌, ◌<◌, ◌≤◌, min, Bool, true, false, cond, leb, List, [], ◌∷◌, ◌++◌, length, sum_by, All, IfSome, Option, Some, None, refl, sym, ap, subst, ◌∙◌, arith, length-append, inl, inr}
use Rattle.std.proofs.lemmas.Bool.{leb-true}
use Rattle.std.proofs.lemmas.List.Sums.{sum_by-cons}
use Rattle.nr_xdr.proofs.SequencingSteps.{chosen}
use Rattle.std.proofs.lemmas.List.{drop_at}
use Rattle.std.proofs.lemmas.List.Elements.{All-nil, recursion_from_All, All-from_recursion}
use Rattle.std.specs.List.{AllByRecursion}
use Rattle.nr_xdr.specs.Item.{Item as XdrItem, IsBytes}
use Rattle.nr_xdr.specs.Items.{AllFit}
use Rattle.nr_header.specs.Constants.{PAYLOAD_MAX, WRITE_CHUNKS_MAX, CHUNK_SEGMENTS_MAX, WRITE_SEGMENTS_MAX, REPLY_SEGMENTS_MAX}
use Rattle.nr_header.specs.declared.header.RdmaSegment.{RdmaSegment}
use Rattle.nr_header.specs.declared.header.ReadSegment.{ReadSegment}
use Rattle.nr_header.specs.declared.header.ChunkLists.{ChunkLists}
use Rattle.nr_header.specs.declared.header.Body.TheVariants.{Msg, Nomsg}
use Rattle.nr_header.specs.declared.header.Header.{Header}
use Rattle.nr_header.specs.Header.{segments_items, chunk_items, read_items, write_items, reply_items, lists_items, header_encoding}
use Rattle.nr_header.specs.WithinLimits.{SegmentsEnd, Ends, ListsWithin}
use Rattle.nr_header.proofs.Messages.{header_written}
use Rattle.nr_reduce.specs.ChunkBytes.{IsOffer, ReadsAsAnswer, offered_lists}
use Rattle.nr_reduce.specs.Plans.{segments_from, write_list, reply_chunk}
use Rattle.nr_reduce.specs.Chunks.{filled_chunk}
use Rattle.nr_reduce.specs.declared.item.Of.TheVariants.{Reply}
use Rattle.nr_reduce.specs.Holds.{Answer, Parts, parts_in, answer_size, answer_with, answer_for, fits_reply, empty_chunks, written_chunks, no_segments, answer_lists, answer_message}
use Rattle.nr_reduce.proofs.Asking.{all_one}
use Rattle.nr_reduce.proofs.Answering.{Answered, answered}
use Rattle.nr_header.specs.Length.{write_chunk_len, write_list_len, reply_chunk_len}
use Rattle.nr_header.proofs.Lengths.{lists_len, msg_len, nomsg_len}

pub length_filled : (chunk : List RdmaSegment) (n : ℕ) → length (filled_chunk chunk n) ≡ length chunk
length_filled [] n = refl
length_filled (s ∷ chunk) n = ap (λ (k : ℕ). suc k) (length_filled chunk (n - min s.length n))

pub segments_fit : (chunk : List RdmaSegment) (n : ℕ) (more others : List XdrItem) → AllFit (segments_items chunk more) → AllFit others → AllFit (segments_items (filled_chunk chunk n) others)
segments_fit [] n more others h k = k
segments_fit (s ∷ chunk) n more others h k = (h.0, (let l = h.1.0 in omega (arith, l), (h.1.1.0, segments_fit chunk (n - min s.length n) more others h.1.1.1 k)))

pub segments_tail : (chunk : List RdmaSegment) (more : List XdrItem) → AllFit (segments_items chunk more) → AllFit more
segments_tail [] more h = h
segments_tail (s ∷ chunk) more h = segments_tail chunk more h.1.1.1

pub read_tail : (read : List ReadSegment) (more : List XdrItem) → AllFit (read_items read more) → AllFit more
read_tail [] more h = h.1
read_tail (r ∷ read) more h = read_tail read more h.1.1.1.1.1

write_tail : (ws : ℕ) (w : Option (List ℕ)) (more : List XdrItem) → AllFit (write_items (write_list ws w) more) → AllFit more
write_tail ws None more h = h.1
write_tail ws (Some ns) more h = (segments_tail (segments_from ws 0 ns) _ h.1.1).1

pub chunk_fit : (chunk : List RdmaSegment) (n : ℕ) (more others : List XdrItem) → length chunk < 2 ^ 32 → AllFit (segments_items chunk more) → AllFit others → AllFit (chunk_items (filled_chunk chunk n) others)
chunk_fit chunk n more others count h k = (let l = length_filled chunk n in omega (arith, l, count), segments_fit chunk n more others h k)

written_fit : (ws : ℕ) (w : Option (List ℕ)) (n : ℕ) (more others : List XdrItem) → AllFit (write_items (write_list ws w) more) → AllFit others → AllFit (write_items (written_chunks (write_list ws w) n) others)
written_fit ws None n more others h k = (tt, k)
written_fit ws (Some ns) n more others h k = (tt, chunk_fit (segments_from ws 0 ns) n _ _ h.1.0 h.1.1 (tt, k))

returned_fit : (rs : ℕ) (r : Option (List ℕ)) (b : Bool) (n : ℕ) → AllFit (reply_items (reply_chunk rs r) []) → AllFit (reply_items (cond b (Some (filled_chunk (no_segments (reply_chunk rs r)) n)) None) [])
returned_fit rs r false n h = (tt, tt)
returned_fit rs None true n h = (tt, (omega arith, tt))
returned_fit rs (Some ns) true n h = (tt, chunk_fit (segments_from rs 0 ns) n _ _ h.1.0 h.1.1 tt)

lists_fit : (read : List ReadSegment) (ws rs : ℕ) (w r : Option (List ℕ)) (a : Answer) → AllFit (lists_items (offered_lists read ws rs w r)) → AllFit (lists_items (answer_lists (offered_lists read ws rs w r) a))
lists_fit read ws rs w r a h =
    let writes = read_tail read _ h in
    (tt, written_fit ws w (length a.moved) _ _ writes (returned_fit rs r a.long (length a.stream) (write_tail ws w _ writes)))

-- ---- Within the limits

pub ends_by : (chunk : List RdmaSegment) (n : ℕ) → AllByRecursion (λ s. Ends s.offset s.length) chunk → AllByRecursion (λ s. Ends s.offset s.length) (filled_chunk chunk n)
ends_by [] n h = tt
ends_by (s ∷ chunk) n h = (let e = h.0 in omega (arith, e), ends_by chunk (n - min s.length n) h.1)

pub filled_ends : (chunk : List RdmaSegment) (n : ℕ) → SegmentsEnd chunk → SegmentsEnd (filled_chunk chunk n)
filled_ends chunk n h = All-from_recursion _ _ (ends_by chunk n (recursion_from_All _ chunk h))

first_of_one : {X : Type 0} (P : X → Type 0) (x : X) → All P (x ∷ []) → P x
first_of_one P x h = (recursion_from_All P (x ∷ []) h).0

record WriteWithin (chunks : List (List RdmaSegment)) : Type 0 where
  count : length chunks ≤ WRITE_CHUNKS_MAX
  each : All (λ chunk. length chunk ≤ CHUNK_SEGMENTS_MAX) chunks
  segments : sum_by (λ chunk. length chunk) chunks ≤ WRITE_SEGMENTS_MAX
  ends : All SegmentsEnd chunks

written_within : (ws : ℕ) (w : Option (List ℕ)) (n : ℕ) → WriteWithin (write_list ws w) → WriteWithin (written_chunks (write_list ws w) n)
written_within ws None n h = h
written_within ws (Some ns) n h =
    let chunk = segments_from ws 0 ns in
    let l = length_filled chunk n in
    let small = first_of_one (λ (c : List RdmaSegment). length c ≤ CHUNK_SEGMENTS_MAX) chunk h.each in record {
      count = omega arith;
      each = all_one (λ (c : List RdmaSegment). length c ≤ CHUNK_SEGMENTS_MAX) _ (omega (arith, l, small));
      segments = omega (arith, l, small);
      ends = all_one SegmentsEnd _ (filled_ends chunk n (first_of_one SegmentsEnd chunk h.ends));
    }

returned_count : (rs : ℕ) (r : Option (List ℕ)) (b : Bool) (n : ℕ) → IfSome (reply_chunk rs r) (λ chunk. length chunk ≤ REPLY_SEGMENTS_MAX) → IfSome (cond b (Some (filled_chunk (no_segments (reply_chunk rs r)) n)) None) (λ chunk. length chunk ≤ REPLY_SEGMENTS_MAX)
returned_count rs r false n h = tt
returned_count rs None true n h = omega arith
returned_count rs (Some ns) true n h = (let l = length_filled (segments_from rs 0 ns) n in omega (arith, l, h))

returned_ends : (rs : ℕ) (r : Option (List ℕ)) (b : Bool) (n : ℕ) → IfSome (reply_chunk rs r) SegmentsEnd → IfSome (cond b (Some (filled_chunk (no_segments (reply_chunk rs r)) n)) None) SegmentsEnd
returned_ends rs r false n h = tt
returned_ends rs None true n h = All-nil _
returned_ends rs (Some ns) true n h = filled_ends (segments_from rs 0 ns) n h

lists_within : (read : List ReadSegment) (ws rs : ℕ) (w r : Option (List ℕ)) (a : Answer) → ListsWithin (offered_lists read ws rs w r) → ListsWithin (answer_lists (offered_lists read ws rs w r) a)
lists_within read ws rs w r a h =
    let wr = written_within ws w (length a.moved) (record { count = h.write_chunks; each = h.chunk_segments; segments = h.write_segments; ends = h.write_ends }) in record {
      read_segments = omega arith;
      read_ends = All-nil _;
      one_position = (0, All-nil _);
      write_chunks = wr.count;
      chunk_segments = wr.each;
      write_segments = wr.segments;
      write_ends = wr.ends;
      reply_segments = returned_count rs r a.long (length a.stream) h.reply_segments;
      reply_ends = returned_ends rs r a.long (length a.stream) h.reply_ends;
    }

-- ---- The message

pub answer_again : (read : List ReadSegment) (ws rs : ℕ) (w r : Option (List ℕ)) (down prog vers proc xid credit : ℕ) (reply : List ℕ) (a : Answer) → IsBytes reply → IsOffer (offered_lists read ws rs w r)
    → answer_for (offered_lists read ws rs w r) down prog vers proc reply ≡ Some a → down ≤ PAYLOAD_MAX → xid < 2 ^ 32 → credit < 2 ^ 32
    → ReadsAsAnswer (offered_lists read ws rs w r) a xid credit (answer_message xid credit (offered_lists read ws rs w r) a)
unfolding answer_message
answer_again read ws rs w r down prog vers proc xid credit reply a bytes offer e room fits_x fits_c = by_long a.long refl
  where
    made : Answered (offered_lists read ws rs w r) down prog vers proc w reply a
    made = answered read ws rs w r down prog vers proc reply a bytes e

    back : ChunkLists
    back = answer_lists (offered_lists read ws rs w r) a

    fit : AllFit (lists_items back)
    fit = lists_fit read ws rs w r a offer.fits

    within : ListsWithin back
    within = lists_within read ws rs w r a offer.within

    by_long : (b : Bool) → a.long ≡ b → ReadsAsAnswer (offered_lists read ws rs w r) a xid credit (header_encoding (record { xid = xid; credit = credit; body = cond a.long (Nomsg back) (Msg back 0) }) ++ cond a.long [] a.stream)
    by_long false is =
        let h : Header = record { xid = xid; credit = credit; body = Msg back 0 } in
        let short = made.short is in
        let same : header_encoding (record { xid = xid; credit = credit; body = cond a.long (Nomsg back) (Msg back 0) }) ++ cond a.long [] a.stream ≡ header_encoding h ++ a.stream =
        ap (λ (b : Bool). header_encoding (record { xid = xid; credit = credit; body = cond b (Nomsg back) (Msg back 0) }) ++ cond b [] a.stream) is in
        subst (λ (m : List ℕ). ReadsAsAnswer (offered_lists read ws rs w r) a xid credit m) (sym same) (record {
          body = Msg back (length (header_encoding h));
          reads = header_written h a.stream (fits_x, (omega arith, (fits_c, (omega arith, fit)))) (within, All-nil _, omega (arith, short, room));
          lists = refl;
          stream = ap Some (drop_at (header_encoding h) a.stream (length (header_encoding h)) refl) ∙ ap (λ (b : Bool). cond b None (Some a.stream)) (sym is);
        })
    by_long true is =
        let h : Header = record { xid = xid; credit = credit; body = Nomsg back } in
        let same : header_encoding (record { xid = xid; credit = credit; body = cond a.long (Nomsg back) (Msg back 0) }) ++ cond a.long [] a.stream ≡ header_encoding h ++ [] =
        ap (λ (b : Bool). header_encoding (record { xid = xid; credit = credit; body = cond b (Nomsg back) (Msg back 0) }) ++ cond b [] a.stream) is in
        subst (λ (m : List ℕ). ReadsAsAnswer (offered_lists read ws rs w r) a xid credit m) (sym same) (record {
          body = Nomsg back;
          reads = header_written h [] (fits_x, (omega arith, (fits_c, (omega arith, fit)))) (refl, within, omega arith);
          lists = refl;
          stream = ap (λ (b : Bool). cond b None (Some a.stream)) (sym is);
        })

-- ---- Its size

emptied_total : (chunks : List (List RdmaSegment)) → write_list_len (empty_chunks chunks) ≡ write_list_len chunks
emptied_total [] = refl
emptied_total (chunk ∷ chunks) =
    let a = sum_by-cons (λ (k : List RdmaSegment). write_chunk_len (length k)) (filled_chunk chunk 0) (empty_chunks chunks) in
    let b = sum_by-cons (λ (k : List RdmaSegment). write_chunk_len (length k)) chunk chunks in
    let c = length_filled chunk 0 in
    let d = emptied_total chunks in
    omega (arith, a, b, c, d)

written_total : (chunks : List (List RdmaSegment)) (n : ℕ) → write_list_len (written_chunks chunks n) ≡ write_list_len chunks
written_total [] n = refl
written_total (chunk ∷ chunks) n =
    let a = sum_by-cons (λ (k : List RdmaSegment). write_chunk_len (length k)) (filled_chunk chunk n) (empty_chunks chunks) in
    let b = sum_by-cons (λ (k : List RdmaSegment). write_chunk_len (length k)) chunk chunks in
    let c = length_filled chunk n in
    let d = emptied_total chunks in
    omega (arith, a, b, c, d)

record Tested (offer : ChunkLists) (down : ℕ) (a : Answer) : Type 0 where
  short : a.long ≡ false → answer_size offer.write + length a.stream ≤ down

tested_by : (offer : ChunkLists) (down : ℕ) (o : Option Parts) (a : Answer) → answer_with offer down o ≡ Some a → Tested offer down a
tested_by offer down None a e = absurd cc
tested_by offer down (Some p) a e =
    let inline : Answer = record { long = false; stream = p.stream; moved = p.moved } in
    let chunked : Answer = record { long = true; stream = p.stream; moved = p.moved } in
    let fits = fits_reply offer.reply (length p.stream) in
    elim (chosen (leb (answer_size offer.write + length p.stream) down) (Some inline) (cond fits (Some chunked) None) (Some a) e) [
      | inl g ↦
          let same : inline ≡ a = (let s : Some inline ≡ Some a = g.1 in cc) in
          subst (λ (b : Answer). Tested offer down b) same (record { short = λ no. leb-true (answer_size offer.write + length p.stream) down g.0 })
      | inr g ↦
          elim (chosen fits (Some chunked) None (Some a) g.1) [
            | inl h ↦
                let same : chunked ≡ a = (let s : Some chunked ≡ Some a = h.1 in cc) in
                subst (λ (b : Answer). Tested offer down b) same (record { short = λ no. absurd cc })
            | inr h ↦ absurd (let wrong = h.1 in cc)
          ]
    ]

pub answer_length : (offer : ChunkLists) (down prog vers proc xid credit : ℕ) (reply : List ℕ) (a : Answer) → answer_for offer down prog vers proc reply ≡ Some a
    → (a.long ≡ false →
    (length (answer_message xid credit offer a) ≡ answer_size offer.write + length a.stream) × (length (answer_message xid credit offer a) ≤ down))
    × (a.long ≡ true → length (answer_message xid credit offer a) ≡ answer_size offer.write + reply_chunk_len (length (no_segments offer.reply)))
unfolding answer_message answer_for
answer_length offer down prog vers proc xid credit reply a e = (
  (λ no.
      let short = (tested_by offer down (parts_in (Reply prog vers proc) offer.write reply) a e).short no in
      let back : ChunkLists = record { read = []; write = written_chunks offer.write (length a.moved); reply = None } in
      let same : message a.long ≡ header_encoding (record { xid = xid; credit = credit; body = Msg back 0 }) ++ a.stream = ap message no in
      let h = ap (λ (xs : List ℕ). length xs) same in
      let b = length-append (header_encoding (record { xid = xid; credit = credit; body = Msg back 0 })) a.stream in
      let c = msg_len xid credit 0 back in
      let d = lists_len back in
      let f = written_total offer.write (length a.moved) in
      let equal : length (message a.long) ≡ answer_size offer.write + length a.stream = omega (arith, h, b, c, d, f) in
      (equal, omega (arith, equal, short))),
  λ yes.
      let chunk = filled_chunk (no_segments offer.reply) (length a.stream) in
      let back : ChunkLists = record { read = []; write = written_chunks offer.write (length a.moved); reply = Some chunk } in
      let same : message a.long ≡ header_encoding (record { xid = xid; credit = credit; body = Nomsg back }) ++ [] = ap message yes in
      let h = ap (λ (xs : List ℕ). length xs) same in
      let b = length-append (header_encoding (record { xid = xid; credit = credit; body = Nomsg back })) [] in
      let c = nomsg_len xid credit back in
      let d = lists_len back in
      let f = written_total offer.write (length a.moved) in
      let g = length_filled (no_segments offer.reply) (length a.stream) in
      omega (arith, h, b, c, d, f, g),
)
  where
    message : Bool → List ℕ
    message long =
        let back : ChunkLists = record {
          read = [];
          write = written_chunks offer.write (length a.moved);
          reply = cond long (Some (filled_chunk (no_segments offer.reply) (length a.stream))) None;
        } in
        header_encoding (record { xid = xid; credit = credit; body = cond long (Nomsg back) (Msg back 0) }) ++ cond long [] a.stream
