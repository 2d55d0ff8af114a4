-- What a client writes for a call are bytes, whatever its numbers are.
use Rattle.std.proofs.Common.{◌≡◌, ℕ, zero, suc, ◌^◌, ◌<◌, Bool, true, false, cond, eqb, List, [], ◌∷◌, ◌++◌, Option, None, Some, sym, ap, arith}
use Rattle.std.specs.Int.{byte_at, bytes_high_first}
use Rattle.nr_xdr.specs.Item.{Item, IsBytes, word, word_of, hyper}
use Rattle.nr_xdr.specs.Item.Item.{Unsigned, Hyper, Boolean}
use Rattle.nr_xdr.specs.Items.{encodings}
use Rattle.nr_xdr.proofs.WordBytes.{length_word, word_word_of, word_of_below}
use Rattle.nr_header.specs.declared.header.RdmaSegment.{RdmaSegment}
use Rattle.nr_header.specs.declared.header.ReadSegment.{ReadSegment}
use Rattle.nr_header.specs.declared.header.ChunkLists.{ChunkLists}
use Rattle.nr_header.specs.declared.header.Body.TheVariants.{Msg, Nomsg}
use Rattle.nr_header.specs.Header.{read_items, segments_items, write_items, reply_items, lists_items, header_encoding}
use Rattle.nr_reduce.specs.declared.outline.Plan.{Plan}
use Rattle.nr_reduce.specs.Plans.{lists_of, body_by, call_message}
use Rattle.nr_laws.proofs.Bytes.{bytes_both}

-- ---- Words

byte_below : (i n : ℕ) → byte_at i n < 256
byte_below zero n = omega arith
byte_below (suc i) n = omega arith

bytes_more : (b : ℕ) (bytes : List ℕ) → b < 256 → IsBytes bytes → IsBytes (b ∷ bytes)
bytes_more b bytes lt h zero = lt
bytes_more b bytes lt h (suc i) = h i

bytes_first : (k n : ℕ) → IsBytes (bytes_high_first k n)
bytes_first zero n = λ i. omega arith
bytes_first (suc k) n = bytes_more (byte_at k n) (bytes_high_first k n) (byte_below k n) (bytes_first k n)

pub word_bytes : (n : ℕ) → IsBytes (word n)
unfolding word
word_bytes n = bytes_first 4 n

hyper_bytes : (n : ℕ) → IsBytes (hyper n)
unfolding hyper
hyper_bytes n = bytes_first 8 n

-- a number that is written as a word, and fits
pub record WrittenAs (n : ℕ) : Type 0 where
  pub number : ℕ
  pub fits : number < 2 ^ 32
  pub same : word n ≡ word number

pub written_as_lem : (n : ℕ) → WrittenAs n
written_as_lem n = record {
  number = word_of (word n);
  fits = word_of_below (word n) (word_bytes n);
  same = sym (word_word_of (word n) (length_word n) (word_bytes n));
}

-- ---- Lists of chunks

record AreWritten (items : List Item) : Type 0 where
  bytes : IsBytes (encodings items)

word_more : (n : ℕ) (more : List Item) → AreWritten more → AreWritten (Unsigned n ∷ more)
word_more n more h = record { bytes = bytes_both (word n) (encodings more) (word_bytes n) h.bytes }

bit_more : (b : Bool) (more : List Item) → AreWritten more → AreWritten (Boolean b ∷ more)
bit_more true more h = record { bytes = bytes_both (word 1) (encodings more) (word_bytes 1) h.bytes }
bit_more false more h = record { bytes = bytes_both (word 0) (encodings more) (word_bytes 0) h.bytes }

hyper_more : (n : ℕ) (more : List Item) → AreWritten more → AreWritten (Hyper n ∷ more)
hyper_more n more h = record { bytes = bytes_both (hyper n) (encodings more) (hyper_bytes n) h.bytes }

read_more_lem : (rs : List ReadSegment) (more : List Item) → AreWritten more → AreWritten (read_items rs more)
read_more_lem [] more h = bit_more false more h
read_more_lem (r ∷ rs) more h = bit_more true _ (word_more r.position _ (word_more r.handle _ (word_more r.length _ (hyper_more r.offset _ (read_more_lem rs more h)))))

segments_more_lem : (ss : List RdmaSegment) (more : List Item) → AreWritten more → AreWritten (segments_items ss more)
segments_more_lem [] more h = h
segments_more_lem (s ∷ ss) more h = word_more s.handle _ (word_more s.length _ (hyper_more s.offset _ (segments_more_lem ss more h)))

write_more_lem : (chunks : List (List RdmaSegment)) (more : List Item) → AreWritten more → AreWritten (write_items chunks more)
write_more_lem [] more h = bit_more false more h
write_more_lem (chunk ∷ chunks) more h = bit_more true _ (word_more _ _ (segments_more_lem chunk _ (write_more_lem chunks more h)))

reply_more : (reply : Option (List RdmaSegment)) (more : List Item) → AreWritten more → AreWritten (reply_items reply more)
reply_more None more h = bit_more false more h
reply_more (Some chunk) more h = bit_more true _ (word_more _ _ (segments_more_lem chunk more h))

lists_written_lem : (ls : ChunkLists) → AreWritten (lists_items ls)
lists_written_lem ls = read_more_lem ls.read _ (write_more_lem ls.write _ (reply_more ls.reply [] (record { bytes = λ i. omega arith })))

-- ---- Messages

head_bytes : (xid credit : ℕ) (o : Option ℕ) (ls : ChunkLists) → IsBytes (header_encoding (record { xid = xid; credit = credit; body = body_by o ls }))
head_bytes xid credit None ls = (word_more xid _ (word_more 1 _ (word_more credit _ (word_more 0 _ (lists_written_lem ls))))).bytes
head_bytes xid credit (Some position) ls = by (eqb position 0)
  where
    by : (b : Bool) → IsBytes (header_encoding (record { xid = xid; credit = credit; body = cond b (Nomsg ls) (Msg ls 0) }))
    by true = (word_more xid _ (word_more 1 _ (word_more credit _ (word_more 1 _ (lists_written_lem ls))))).bytes
    by false = (word_more xid _ (word_more 1 _ (word_more credit _ (word_more 0 _ (lists_written_lem ls))))).bytes

pub message_bytes_lem : (xid credit stag : ℕ) (p : Plan) → IsBytes p.inline → IsBytes (call_message xid credit stag p)
unfolding call_message
message_bytes_lem xid credit stag p inline =
    bytes_both (header_encoding (record { xid = xid; credit = credit; body = body_by p.read_at (lists_of stag p) })) p.inline (head_bytes xid credit p.read_at (lists_of stag p)) inline

head_same : (xid credit other : ℕ) (o : Option ℕ) (ls : ChunkLists) → word credit ≡ word other
    → header_encoding (record { xid = xid; credit = credit; body = body_by o ls }) ≡ header_encoding (record { xid = xid; credit = other; body = body_by o ls })
head_same xid credit other None ls e = λ i. word xid ++ (word 1 ++ (e i ++ (word 0 ++ encodings (lists_items ls))))
head_same xid credit other (Some position) ls e = by (eqb position 0)
  where
    by : (b : Bool) → header_encoding (record { xid = xid; credit = credit; body = cond b (Nomsg ls) (Msg ls 0) })
        ≡ header_encoding (record { xid = xid; credit = other; body = cond b (Nomsg ls) (Msg ls 0) })
    by true = λ i. word xid ++ (word 1 ++ (e i ++ (word 1 ++ encodings (lists_items ls))))
    by false = λ i. word xid ++ (word 1 ++ (e i ++ (word 0 ++ encodings (lists_items ls))))

-- two numbers of credits that are written as the same word make the same message
pub message_same_lem : (xid credit other stag : ℕ) (p : Plan) → word credit ≡ word other → call_message xid credit stag p ≡ call_message xid other stag p
unfolding call_message
message_same_lem xid credit other stag p e = ap (λ (head : List ℕ). head ++ p.inline) (head_same xid credit other p.read_at (lists_of stag p) e)
