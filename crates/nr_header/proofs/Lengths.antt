-- The length of an encoded header: of its lists, one after the other.
use Rattle.std.proofs.Common.{◌≡◌, ℕ, ◌+◌, ◌*◌, Bool, true, false, List, [], ◌∷◌, ◌++◌, length, sum_by, Option, Some, None, refl, arith, length-append}
use Rattle.std.proofs.lemmas.List.Sums.{sum_by-cons}
use Rattle.nr_xdr.specs.Item.{Item as XdrItem, word, hyper}
use Rattle.nr_xdr.specs.Item.Item.{Unsigned}
use Rattle.nr_xdr.specs.Items.{encodings}
use Rattle.nr_header.specs.Constants.{ERROR, ERR_VERS, ERR_CHUNK, SEGMENT_LEN}
use Rattle.nr_xdr.proofs.WordBytes.{length_word, length_hyper}
use Rattle.nr_header.specs.declared.header.RdmaSegment.{RdmaSegment}
use Rattle.nr_header.specs.declared.header.ReadSegment.{ReadSegment}
use Rattle.nr_header.specs.declared.header.ChunkLists.{ChunkLists}
use Rattle.nr_header.specs.declared.header.Body.TheVariants.{Msg, Nomsg, ErrVers, ErrChunk}
use Rattle.nr_header.specs.Header.{segments_items, chunk_items, read_items, write_items, reply_items, lists_items, lists_body, fixed_items, header_encoding}
use Rattle.nr_header.specs.Length.{write_chunk_len, write_list_len, reply_len, header_len}

pub word_len : (n : ℕ) (xs : List ℕ) → length (word n ++ xs) ≡ 4 + length xs
word_len n xs = (let a = length-append (word n) xs in let b = length_word n in omega (arith, a, b))

hyper_len : (n : ℕ) (xs : List ℕ) → length (hyper n ++ xs) ≡ 8 + length xs
hyper_len n xs = (let a = length-append (hyper n) xs in let b = length_hyper n in omega (arith, a, b))

segment_len : (handle len offset : ℕ) (xs : List ℕ) → length (word handle ++ (word len ++ (hyper offset ++ xs))) ≡ 16 + length xs
segment_len handle len offset xs =
    (let a = word_len handle (word len ++ (hyper offset ++ xs)) in let b = word_len len (hyper offset ++ xs) in let c = hyper_len offset xs in omega (arith, a, b, c))

-- ---- Lists

segments_len : (chunk : List RdmaSegment) (more : List XdrItem) → length (encodings (segments_items chunk more)) ≡ 16 * length chunk + length (encodings more)
segments_len [] more = omega arith
segments_len (s ∷ chunk) more =
    (let a = segment_len s.handle s.length s.offset (encodings (segments_items chunk more)) in let b = segments_len chunk more in omega (arith, a, b))

chunk_len : (chunk : List RdmaSegment) (more : List XdrItem) → length (encodings (chunk_items chunk more)) ≡ 4 + 16 * length chunk + length (encodings more)
chunk_len chunk more =
    (let a = word_len (length chunk) (encodings (segments_items chunk more)) in let b = segments_len chunk more in omega (arith, a, b))

read_len : (read : List ReadSegment) (more : List XdrItem) → length (encodings (read_items read more)) ≡ 4 + 24 * length read + length (encodings more)
read_len [] more = word_len 0 (encodings more)
read_len (r ∷ read) more =
    let rest = encodings (read_items read more) in
    let a = word_len 1 (word r.position ++ (word r.handle ++ (word r.length ++ (hyper r.offset ++ rest)))) in
    let b = word_len r.position (word r.handle ++ (word r.length ++ (hyper r.offset ++ rest))) in
    let c = segment_len r.handle r.length r.offset rest in
    let d = read_len read more in
    omega (arith, a, b, c, d)

write_len : (chunks : List (List RdmaSegment)) (more : List XdrItem) → length (encodings (write_items chunks more)) ≡ 4 + write_list_len chunks + length (encodings more)
write_len [] more = word_len 0 (encodings more)
write_len (chunk ∷ chunks) more =
    let rest = write_items chunks more in
    let a = word_len 1 (encodings (chunk_items chunk rest)) in
    let b = chunk_len chunk rest in
    let c = write_len chunks more in
    let d = sum_by-cons (λ (k : List RdmaSegment). write_chunk_len (length k)) chunk chunks in
    omega (arith, a, b, c, d)

-- a write list by the number of its chunks, and of all their segments
pub write_list_segments : (chunks : List (List RdmaSegment)) → write_list_len chunks ≡ 8 * length chunks + SEGMENT_LEN * sum_by (λ (chunk : List RdmaSegment). length chunk) chunks
write_list_segments [] = refl
write_list_segments (chunk ∷ chunks) =
    let a = sum_by-cons (λ (k : List RdmaSegment). write_chunk_len (length k)) chunk chunks in
    let b = sum_by-cons (λ (k : List RdmaSegment). length k) chunk chunks in
    let c = write_list_segments chunks in
    omega (arith, a, b, c)

reply_length : (reply : Option (List RdmaSegment)) → length (encodings (reply_items reply [])) ≡ 4 + reply_len reply
reply_length None = word_len 0 []
reply_length (Some chunk) = (let a = word_len 1 (encodings (chunk_items chunk [])) in let b = chunk_len chunk [] in omega (arith, a, b))

pub fixed_len : (a b c d : ℕ) (more : List XdrItem) → length (encodings (fixed_items a b c d more)) ≡ 16 + length (encodings more)
fixed_len a b c d more =
    let xs = encodings more in
    (let p = word_len a (word b ++ (word c ++ (word d ++ xs))) in let q = word_len b (word c ++ (word d ++ xs)) in let r = word_len c (word d ++ xs) in let s = word_len d xs in omega (arith, p, q, r, s))

pub lists_len : (ls : ChunkLists) → length (encodings (lists_items ls)) ≡ 12 + 24 * length ls.read + write_list_len ls.write + reply_len ls.reply
lists_len ls =
    let a = read_len ls.read (write_items ls.write (reply_items ls.reply [])) in
    let b = write_len ls.write (reply_items ls.reply []) in
    let c = reply_length ls.reply in
    omega (arith, a, b, c)

pub msg_len : (xid credit at : ℕ) (ls : ChunkLists) → length (header_encoding (record { xid = xid; credit = credit; body = Msg ls at })) ≡ 16 + length (encodings (lists_items ls))
msg_len xid credit at ls = fixed_len xid 1 credit 0 (lists_items ls)

pub nomsg_len : (xid credit : ℕ) (ls : ChunkLists) → length (header_encoding (record { xid = xid; credit = credit; body = Nomsg ls })) ≡ 16 + length (encodings (lists_items ls))
nomsg_len xid credit ls = fixed_len xid 1 credit 1 (lists_items ls)

-- a header has the length of its lists
pub lists_length : (xid credit : ℕ) (long : Bool) (ls : ChunkLists) → length (header_encoding (record { xid = xid; credit = credit; body = lists_body long ls })) ≡ header_len ls
lists_length xid credit true ls = (let a = nomsg_len xid credit ls in let b = lists_len ls in omega (arith, a, b))
lists_length xid credit false ls = (let a = msg_len xid credit 0 ls in let b = lists_len ls in omega (arith, a, b))

-- the header of an error has its numbers
pub versions_length : (xid credit version low high : ℕ) → length (header_encoding (record { xid = xid; credit = credit; body = ErrVers version low high })) ≡ 28
versions_length xid credit version low high =
    let words : List XdrItem = Unsigned ERR_VERS ∷ (Unsigned low ∷ (Unsigned high ∷ [])) in
    let a = fixed_len xid version credit ERROR words in
    let b = word_len ERR_VERS (word low ++ (word high ++ [])) in
    let c = word_len low (word high ++ []) in
    let d = word_len high [] in
    omega (arith, a, b, c, d)

pub chunk_error_length : (xid credit version : ℕ) → length (header_encoding (record { xid = xid; credit = credit; body = ErrChunk version })) ≡ 20
chunk_error_length xid credit version =
    let a = fixed_len xid version credit ERROR (Unsigned ERR_CHUNK ∷ []) in
    let b = word_len ERR_CHUNK [] in
    omega (arith, a, b)
