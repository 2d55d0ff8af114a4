-- Each item: what is read at a cursor is what the cursor takes, and what a cursor takes is read.
use Rattle.std.proofs.Common.{◌≡◌, ℕ, ◌+◌, ◌^◌, ◌<◌, ◌≤◌, Bool, true, false, cond, ltb, List, [], ◌++◌, length, take, drop, Result, Ok, Err, refl, sym, ap, subst, ◌∙◌, arith}
use Rattle.std.proofs.lemmas.Bool.{ltb-false, le-ltb}
use Rattle.std.proofs.lemmas.Bool.Decides.{nat_tests}
use Rattle.std.proofs.lemmas.List.{take_at, drop_at, length-append, length-take-le, length-drop, take-take, drop-take}
use Rattle.std.proofs.Math.Seq.{take-add}
use Rattle.nr_xdr.specs.declared.fault.ItemFault.{ItemFault}
use Rattle.nr_xdr.specs.declared.fault.ItemFault.TheVariants.{Short, Long}
use Rattle.nr_xdr.specs.Item.{Reads, IsBytes, word, word_of, hyper, hyper_of, pad_len, bit}
use Rattle.nr_xdr.specs.Item.Item.{Unsigned, Hyper, Boolean, Opaque, Fixed}
use Rattle.nr_xdr.specs.Reading.{Cursor, Takes, cursor_past, unsigned_at, hyper_at, boolean_at, boolean_by, opaque_at, opaque_by, fixed_at}
use Rattle.nr_xdr.proofs.WordBytes.{IsBytes_take, length_word, word_word_of, word_of_word, word_of_below, length_hyper, hyper_hyper_of, hyper_of_hyper, hyper_of_below}
use Rattle.nr_xdr.proofs.Cursors.{guard_ok, ok_parts, past_takes, takes_past}

-- the first four bytes encode their number
record FrontWord (bytes : List ℕ) (n : ℕ) : Type 0 where
  below : n < 2 ^ 32
  encoded : take 4 bytes ≡ word n

front_word : (bytes : List ℕ) → IsBytes bytes → 4 ≤ length bytes → FrontWord bytes (word_of (take 4 bytes))
front_word bytes fits le = record {
  below = word_of_below (take 4 bytes) (IsBytes_take 4 bytes fits);
  encoded = sym (word_word_of (take 4 bytes) (length-take-le 4 bytes le) (IsBytes_take 4 bytes fits));
}

pub unsigned_takes : (c : Cursor) (n : ℕ) (after : Cursor) → IsBytes c.rest → unsigned_at c ≡ Ok (n, after) → Takes c after (Unsigned n)
unfolding unsigned_at
unsigned_takes c n after fits e =
    let g = guard_ok (ltb (length c.rest) 4) (Short c.place) (Ok (word_of (take 4 c.rest), cursor_past 4 c)) (n, after) e in
    let le : 4 ≤ length c.rest = ltb-false _ _ g.0 in
    let parts = ok_parts (word_of (take 4 c.rest)) n (cursor_past 4 c) after g.1 in
    let front = front_word c.rest fits le in
    let taken : Takes c (cursor_past 4 c) (Unsigned (word_of (take 4 c.rest))) =
    past_takes c 4 (Unsigned (word_of (take 4 c.rest))) le (record { fits = front.below; pad = []; pad_is = refl; bytes_are = front.encoded }) in
    subst (λ (m : ℕ). Takes c after (Unsigned m)) parts.0 (subst (λ (d : Cursor). Takes c d (Unsigned (word_of (take 4 c.rest)))) parts.1 taken)

pub unsigned_again : (c : Cursor) (n : ℕ) (after : Cursor) → Takes c after (Unsigned n) → unsigned_at c ≡ Ok (n, after)
unfolding unsigned_at
unsigned_again c n after t =
    let took = takes_past c after t.bytes 4 t.rest t.place (ap length t.reads.bytes_are ∙ length_word n) in
    let is : word_of (take 4 c.rest) ≡ n = ap word_of (took.front ∙ t.reads.bytes_are) ∙ word_of_word n t.reads.fits in
    rw (le-ltb (length c.rest) 4 took.enough, is, took.past) refl

pub hyper_takes : (c : Cursor) (n : ℕ) (after : Cursor) → IsBytes c.rest → hyper_at c ≡ Ok (n, after) → Takes c after (Hyper n)
unfolding hyper_at
hyper_takes c n after fits e =
    let g = guard_ok (ltb (length c.rest) 8) (Short c.place) (Ok (hyper_of (take 8 c.rest), cursor_past 8 c)) (n, after) e in
    let le : 8 ≤ length c.rest = ltb-false _ _ g.0 in
    let parts = ok_parts (hyper_of (take 8 c.rest)) n (cursor_past 8 c) after g.1 in
    let bytes = IsBytes_take 8 c.rest fits in
    let encoded : take 8 c.rest ≡ hyper (hyper_of (take 8 c.rest)) = sym (hyper_hyper_of (take 8 c.rest) (length-take-le 8 c.rest le) bytes) in
    let taken : Takes c (cursor_past 8 c) (Hyper (hyper_of (take 8 c.rest))) =
    past_takes c 8 (Hyper (hyper_of (take 8 c.rest))) le (record { fits = hyper_of_below (take 8 c.rest) bytes; pad = []; pad_is = refl; bytes_are = encoded }) in
    subst (λ (m : ℕ). Takes c after (Hyper m)) parts.0 (subst (λ (d : Cursor). Takes c d (Hyper (hyper_of (take 8 c.rest)))) parts.1 taken)

pub hyper_again : (c : Cursor) (n : ℕ) (after : Cursor) → Takes c after (Hyper n) → hyper_at c ≡ Ok (n, after)
unfolding hyper_at
hyper_again c n after t =
    let took = takes_past c after t.bytes 8 t.rest t.place (ap length t.reads.bytes_are ∙ length_hyper n) in
    let is : hyper_of (take 8 c.rest) ≡ n = ap hyper_of (took.front ∙ t.reads.bytes_are) ∙ hyper_of_hyper n t.reads.fits in
    rw (le-ltb (length c.rest) 8 took.enough, is, took.past) refl

-- the number of a boolean that was read
boolean_by_ok : (n : ℕ) (c : Cursor) (b : Bool) (after : Cursor) → boolean_by n c ≡ Ok (b, after) → (n ≡ bit b) × (cursor_past 4 c ≡ after)
unfolding boolean_by
boolean_by_ok n c true after e = grind (arith, nat_tests, e)
boolean_by_ok n c false after e = grind (arith, nat_tests, e)

pub boolean_takes : (c : Cursor) (b : Bool) (after : Cursor) → IsBytes c.rest → boolean_at c ≡ Ok (b, after) → Takes c after (Boolean b)
unfolding boolean_at
boolean_takes c b after fits e =
    let g = guard_ok (ltb (length c.rest) 4) (Short c.place) (boolean_by (word_of (take 4 c.rest)) c) (b, after) e in
    let le : 4 ≤ length c.rest = ltb-false _ _ g.0 in
    let parts = boolean_by_ok (word_of (take 4 c.rest)) c b after g.1 in
    let front = front_word c.rest fits le in
    let taken : Takes c (cursor_past 4 c) (Boolean b) =
    past_takes c 4 (Boolean b) le (record { fits = tt; pad = []; pad_is = refl; bytes_are = front.encoded ∙ ap word parts.0 }) in
    subst (λ (d : Cursor). Takes c d (Boolean b)) parts.1 taken

boolean_by_bit : (b : Bool) (c : Cursor) → boolean_by (bit b) c ≡ Ok (b, cursor_past 4 c)
unfolding boolean_by
boolean_by_bit true c = refl
boolean_by_bit false c = refl

bit_below : (b : Bool) → bit b < 2 ^ 32
bit_below true = omega arith
bit_below false = omega arith

pub boolean_again : (c : Cursor) (b : Bool) (after : Cursor) → Takes c after (Boolean b) → boolean_at c ≡ Ok (b, after)
unfolding boolean_at
boolean_again c b after t =
    let took = takes_past c after t.bytes 4 t.rest t.place (ap length t.reads.bytes_are ∙ length_word (bit b)) in
    let is : word_of (take 4 c.rest) ≡ bit b = ap word_of (took.front ∙ t.reads.bytes_are) ∙ word_of_word (bit b) (bit_below b) in
    rw (le-ltb (length c.rest) 4 took.enough, is, boolean_by_bit b c, took.past) refl

pub fixed_takes : (c : Cursor) (n : ℕ) (bytes : List ℕ) (after : Cursor) → fixed_at n c ≡ Ok (bytes, after) → Takes c after (Fixed bytes) × (length bytes ≡ n)
unfolding fixed_at
fixed_takes c n bytes after e =
    let g = guard_ok (ltb (length c.rest) (n + pad_len n)) (Short c.place) (Ok (take n c.rest, cursor_past (n + pad_len n) c)) (bytes, after) e in
    let le : n + pad_len n ≤ length c.rest = ltb-false _ _ g.0 in
    let parts = ok_parts (take n c.rest) bytes (cursor_past (n + pad_len n) c) after g.1 in
    let len : length (take n c.rest) ≡ n = length-take-le n c.rest (omega arith) in
    let left : pad_len n ≤ length (drop n c.rest) = omega (arith, length-drop n c.rest) in
    let taken : Takes c (cursor_past (n + pad_len n) c) (Fixed (take n c.rest)) =
    past_takes c (n + pad_len n) (Fixed (take n c.rest)) le (record {
      fits = tt;
      pad = take (pad_len n) (drop n c.rest);
      pad_is = length-take-le (pad_len n) (drop n c.rest) left ∙ ap pad_len (sym len);
      bytes_are = take-add n (pad_len n) c.rest;
    }) in (
      subst (λ (b : List ℕ). Takes c after (Fixed b)) parts.0 (subst (λ (d : Cursor). Takes c d (Fixed (take n c.rest))) parts.1 taken),
      ap length (sym parts.0) ∙ len,
    )

-- the front of what stands before a pad
front_of_padded : (n k : ℕ) (xs bytes pad : List ℕ) → length bytes ≡ n → n ≤ k → take k xs ≡ bytes ++ pad → take n xs ≡ bytes
front_of_padded n k xs bytes pad len le e = sym (take-take n k xs le) ∙ ap (take n) e ∙ take_at bytes pad n len

pub fixed_again : (c : Cursor) (n : ℕ) (bytes : List ℕ) (after : Cursor) → length bytes ≡ n → Takes c after (Fixed bytes) → fixed_at n c ≡ Ok (bytes, after)
unfolding fixed_at
fixed_again c n bytes after len t =
    let whole : length t.bytes ≡ n + pad_len n =
    ap length t.reads.bytes_are ∙ length-append bytes t.reads.pad ∙ ap (λ (k : ℕ). length bytes + k) t.reads.pad_is ∙ ap (λ (k : ℕ). k + pad_len k) len in
    let took = takes_past c after t.bytes (n + pad_len n) t.rest t.place whole in
    let front : take n c.rest ≡ bytes =
    front_of_padded n (n + pad_len n) c.rest bytes t.reads.pad len (omega arith) (took.front ∙ t.reads.bytes_are) in
    rw (le-ltb (length c.rest) (n + pad_len n) took.enough, front, took.past) refl

-- what the data of a count is, and that nothing was missing
record Content (c : Cursor) (max n : ℕ) (bytes : List ℕ) (after : Cursor) : Type 0 where
  within : n ≤ max
  enough : 4 + (n + pad_len n) ≤ length c.rest
  bytes_are : take n (drop 4 c.rest) ≡ bytes
  after_is : cursor_past (4 + (n + pad_len n)) c ≡ after

opaque_by_ok : (max n : ℕ) (c : Cursor) (bytes : List ℕ) (after : Cursor) → opaque_by max n c ≡ Ok (bytes, after) → Content c max n bytes after
unfolding opaque_by
opaque_by_ok max n c bytes after e =
    let whole : Result (List ℕ × Cursor) ItemFault = Ok (take n (drop 4 c.rest), cursor_past (4 + (n + pad_len n)) c) in
    let g = guard_ok (ltb max n) (Long c.place n max) (cond (ltb (length c.rest) (4 + (n + pad_len n))) (Err (Short c.place)) whole) (bytes, after) e in
    let h = guard_ok (ltb (length c.rest) (4 + (n + pad_len n))) (Short c.place) whole (bytes, after) g.1 in
    let parts = ok_parts (take n (drop 4 c.rest)) bytes (cursor_past (4 + (n + pad_len n)) c) after h.1 in
    record { within = ltb-false _ _ g.0; enough = ltb-false _ _ h.0; bytes_are = parts.0; after_is = parts.1 }

opaque_by_content : (max n : ℕ) (c : Cursor) (bytes : List ℕ) (after : Cursor) → Content c max n bytes after → opaque_by max n c ≡ Ok (bytes, after)
unfolding opaque_by
opaque_by_content max n c bytes after t =
    rw (le-ltb max n t.within, le-ltb (length c.rest) (4 + (n + pad_len n)) t.enough, t.bytes_are, t.after_is) refl

opaque_reads : (n : ℕ) (rest : List ℕ) → n < 2 ^ 32 → take 4 rest ≡ word n → 4 + (n + pad_len n) ≤ length rest → Reads (Opaque (take n (drop 4 rest))) (take (4 + (n + pad_len n)) rest)
opaque_reads n rest lt encoded le =
    let content = drop 4 rest in
    let room : n + pad_len n ≤ length content = omega (arith, length-drop 4 rest) in
    let len : length (take n content) ≡ n = length-take-le n content (omega arith) in
    let left : pad_len n ≤ length (drop n content) = omega (arith, length-drop n content) in
    record {
      fits = omega arith;
      pad = take (pad_len n) (drop n content);
      pad_is = length-take-le (pad_len n) (drop n content) left ∙ ap pad_len (sym len);
      bytes_are = take-add 4 (n + pad_len n) rest
          ∙ ap (λ (w : List ℕ). w ++ take (n + pad_len n) content) (encoded ∙ ap word (sym len))
          ∙ ap (λ (b : List ℕ). word (length (take n content)) ++ b) (take-add n (pad_len n) content);
    }

pub opaque_takes : (c : Cursor) (max : ℕ) (bytes : List ℕ) (after : Cursor) → IsBytes c.rest → opaque_at max c ≡ Ok (bytes, after) → Takes c after (Opaque bytes) × (length bytes ≤ max)
unfolding opaque_at
opaque_takes c max bytes after fits e =
    let n = word_of (take 4 c.rest) in
    let g = guard_ok (ltb (length c.rest) 4) (Short c.place) (opaque_by max n c) (bytes, after) e in
    let le : 4 ≤ length c.rest = ltb-false _ _ g.0 in
    let t = opaque_by_ok max n c bytes after g.1 in
    let front = front_word c.rest fits le in
    let reads = opaque_reads n c.rest front.below front.encoded t.enough in
    let taken : Takes c (cursor_past (4 + (n + pad_len n)) c) (Opaque (take n (drop 4 c.rest))) = past_takes c (4 + (n + pad_len n)) (Opaque (take n (drop 4 c.rest))) t.enough reads in
    let len : length (take n (drop 4 c.rest)) ≡ n = length-take-le n (drop 4 c.rest) (omega (arith, length-drop 4 c.rest, t.enough)) in (
      subst (λ (b : List ℕ). Takes c after (Opaque b)) t.bytes_are (subst (λ (d : Cursor). Takes c d (Opaque (take n (drop 4 c.rest)))) t.after_is taken),
      omega (arith, ap length t.bytes_are, t.within),
    )

pub opaque_again : (c : Cursor) (max : ℕ) (bytes : List ℕ) (after : Cursor) → length bytes ≤ max → Takes c after (Opaque bytes) → opaque_at max c ≡ Ok (bytes, after)
unfolding opaque_at
opaque_again c max bytes after le t =
    let n = length bytes in
    let p = pad_len n in
    let whole : length t.bytes ≡ 4 + (n + p) =
    ap length t.reads.bytes_are ∙ length-append (word n) (bytes ++ t.reads.pad)
    ∙ omega (arith, length_word n, length-append bytes t.reads.pad, t.reads.pad_is) in
    let took = takes_past c after t.bytes (4 + (n + p)) t.rest t.place whole in
    let encoded : take (4 + (n + p)) c.rest ≡ word n ++ (bytes ++ t.reads.pad) = took.front ∙ t.reads.bytes_are in
    let count : word_of (take 4 c.rest) ≡ n =
    ap word_of (front_of_padded 4 (4 + (n + p)) c.rest (word n) (bytes ++ t.reads.pad) (length_word n) (omega arith) encoded) ∙ word_of_word n t.reads.fits in
    let behind : take (n + p) (drop 4 c.rest) ≡ bytes ++ t.reads.pad =
    sym (drop-take 4 (n + p) c.rest) ∙ ap (drop 4) encoded ∙ drop_at (word n) (bytes ++ t.reads.pad) 4 (length_word n) in
    let content : take n (drop 4 c.rest) ≡ bytes = front_of_padded n (n + p) (drop 4 c.rest) bytes t.reads.pad refl (omega arith) behind in
    let enough : 4 ≤ length c.rest = omega (arith, took.enough) in
    rw (le-ltb (length c.rest) 4 enough, count) (opaque_by_content max n c bytes after (record { within = le; enough = took.enough; bytes_are = content; after_is = took.past }))
