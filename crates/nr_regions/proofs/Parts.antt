-- A buffer in three parts: before a region, the region, and after it.
use Rattle.std.proofs.Common.{◌≡◌, ℕ, ◌+◌, ◌-◌, ◌≤◌, List, [], ◌++◌, length, take, drop, Some, Result, IfOk, sym, ap, subst, ◌∙◌, arith}
use Rattle.std.proofs.lemmas.List.{length-take-le, length-drop, take-append-drop, take-append-le, drop-append-le, drop-drop, take_at, drop_at, take_all, drop_all, append_assoc}
use Rattle.std.specs.List.{copy_within}
use Rattle.std.proofs.Math.Seq.{paste, take-append-add, drop-append-add}
use Rattle.std.proofs.lemmas.List.Edits.{take-paste}
use Rattle.nr_regions.specs.RegisteredMemory.{RegisteredMemory, Claim, after_register, claim_of, buffer_around, bytes_after_write, nothing_outside, outside_len, outside_window, window_bytes}
use Rattle.nr_regions.specs.Windows.{window_in}
use Rattle.nr_regions.specs.declared.right.Right.{Right}
use Rattle.nr_regions.proofs.Holding.{length_bytes_after_write}

-- the parts of a buffer, one after the other, are the buffer
pub buffer_again : (start len : ℕ) (buf : List ℕ) → buffer_around (Some (outside_window start len buf)) (window_bytes start len buf) ≡ buf
buffer_again start len buf =
    ap (λ (rest : List ℕ). take start buf ++ (take len (drop start buf) ++ rest)) (sym (drop-drop len start buf))
    ∙ ap (λ (rest : List ℕ). take start buf ++ rest) (take-append-drop len (drop start buf))
    ∙ take-append-drop start buf

pub length_window : (start len : ℕ) (buf : List ℕ) → start + len ≤ length buf → length (window_bytes start len buf) ≡ len
length_window start len buf le = length-take-le len (drop start buf) (omega (arith, length-drop start buf))

pub length_outside : (start len : ℕ) (buf : List ℕ) → start + len ≤ length buf → outside_len (outside_window start len buf) ≡ length buf - len
length_outside start len buf le = omega (arith, length-take-le start buf (omega arith), length-drop (start + len) buf)

-- the region's bytes, moved to the front
pub window_moved : (start len : ℕ) (buf : List ℕ) → start + len ≤ length buf → take len (copy_within buf start (start + len) 0) ≡ window_bytes start len buf
window_moved start len buf le =
    let count : start + len - start ≡ len = omega arith in
    let end : len ≡ 0 + len = omega arith in
    ap (λ (n : ℕ). take len (paste buf 0 (drop start buf) n)) count
    ∙ ap (λ (n : ℕ). take n (paste buf 0 (drop start buf) len)) end
    ∙ take-paste buf 0 (drop start buf) len (omega arith) (omega (arith, length-drop start buf))

-- all of a buffer
pub window_of_all : (buf : List ℕ) → window_bytes 0 (length buf) buf ≡ buf
window_of_all buf = take_all (length buf) buf (omega arith)

pub outside_of_all : (buf : List ℕ) → outside_window 0 (length buf) buf ≡ nothing_outside
outside_of_all buf =
    let none : drop (0 + length buf) buf ≡ [] = drop_all (0 + length buf) buf (omega arith) in
    λ i. record { front = []; rest = none i }

-- ---- Some bytes over those of the region

parts_written : (front bytes rest over : List ℕ) (at : ℕ) → at + length over ≤ length bytes
    → bytes_after_write (front ++ (bytes ++ rest)) (length front + at) over ≡ front ++ (bytes_after_write bytes at over ++ rest)
parts_written front bytes rest over at le =
    let before : take (length front + at) (front ++ (bytes ++ rest)) ≡ front ++ take at bytes =
    take-append-add front (bytes ++ rest) at ∙ ap (λ (l : List ℕ). front ++ l) (take-append-le at bytes rest (omega arith)) in
    let sum : length front + at + length over ≡ length front + (at + length over) = omega arith in
    let after : drop (length front + at + length over) (front ++ (bytes ++ rest)) ≡ drop (at + length over) bytes ++ rest =
    ap (λ (n : ℕ). drop n (front ++ (bytes ++ rest))) sum ∙ drop-append-add front (bytes ++ rest) (at + length over) ∙ drop-append-le (at + length over) bytes rest le in
    (λ i. before i ++ (over ++ after i))
    ∙ append_assoc front (take at bytes) (over ++ (drop (at + length over) bytes ++ rest))
    ∙ ap (λ (l : List ℕ). front ++ (take at bytes ++ l)) (sym (append_assoc over (drop (at + length over) bytes) rest))
    ∙ ap (λ (l : List ℕ). front ++ l) (sym (append_assoc (take at bytes) (over ++ drop (at + length over) bytes) rest))

parts_window : (start len : ℕ) (front bytes rest : List ℕ) → length front ≡ start → length bytes ≡ len
    → window_in start len (front ++ (bytes ++ rest)) ≡ record { bytes = bytes; outside = record { front = front; rest = rest } }
parts_window start len front bytes rest s l =
    let past : drop start (front ++ (bytes ++ rest)) ≡ bytes ++ rest = drop_at front (bytes ++ rest) start s in
    let inside : take len (drop start (front ++ (bytes ++ rest))) ≡ bytes = ap (take len) past ∙ take_at bytes rest len l in
    let behind : drop (start + len) (front ++ (bytes ++ rest)) ≡ rest = sym (drop-drop len start (front ++ (bytes ++ rest))) ∙ ap (drop len) past ∙ drop_at bytes rest len l in
    let before : take start (front ++ (bytes ++ rest)) ≡ front = take_at front (bytes ++ rest) start s in
    λ i. record { bytes = inside i; outside = record { front = before i; rest = behind i } }

pub window_written : (start len at : ℕ) (buf over : List ℕ) → start + len ≤ length buf → at + length over ≤ length (window_bytes start len buf)
    → window_in start len (bytes_after_write buf (start + at) over) ≡ record (window_in start len buf) { bytes = bytes_after_write (window_bytes start len buf) at over }
window_written start len at buf over fits le =
    let front = take start buf in
    let bytes = window_bytes start len buf in
    let rest = drop (start + len) buf in
    let s : length (take start buf) ≡ start = length-take-le start buf (omega arith) in
    let l : length (window_bytes start len buf) ≡ len = length_window start len buf fits in
    ap (λ (b : List ℕ). window_in start len (bytes_after_write b (start + at) over)) (sym (buffer_again start len buf))
    ∙ ap (λ (n : ℕ). window_in start len (bytes_after_write (front ++ (bytes ++ rest)) (n + at) over)) (sym s)
    ∙ ap (window_in start len) (parts_written front bytes rest over at le)
    ∙ parts_window start len front (bytes_after_write bytes at over) rest s (length_bytes_after_write bytes at over le ∙ l)

-- ---- All of a buffer, registered

pub registered_all : {E : Type 0} (r : Result Claim E) (m n : RegisteredMemory) (right : Right) (len : ℕ) (buf : List ℕ) → len ≡ length buf
    → IfOk r (λ claim. (claim ≡ claim_of m (window_bytes 0 len buf)) × (n ≡ after_register m right (window_bytes 0 len buf)))
    → IfOk r (λ claim. (claim ≡ claim_of m buf) × (n ≡ after_register m right buf))
registered_all r m n right len buf e =
    subst (λ (b : List ℕ). IfOk r (λ claim. (claim ≡ claim_of m b) × (n ≡ after_register m right b)))
    (ap (λ (k : ℕ). window_bytes 0 k buf) e ∙ window_of_all buf)
