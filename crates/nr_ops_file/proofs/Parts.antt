-- Parts of a list of bytes: how many there are, and one after another.
use Rattle.std.proofs.Common.{◌≡◌, ℕ, ◌+◌, ◌-◌, ◌<◌, ◌≤◌, List, ◌++◌, length, take, drop, min, ap, sym, ◌∙◌, arith, append-nil, append_assoc, Bool, leb, Option}
use Rattle.nr_nfs_base.specs.Limits.{transfer_max}
use Rattle.nr_nfs_base.specs.declared.attributes.Attributes.{Attributes}
use Rattle.nr_nfs_res.specs.declared.bytes.ReadOk.{ReadOk}
use Rattle.nr_ops_file.specs.Bytes.{piece_read, read_ok}
use Rattle.std.proofs.lemmas.List.{places, same_lists}

pub taken_length : (bs : List ℕ) (o c n : ℕ) → n ≡ min c (length bs - o) → length (take c (drop o bs)) ≡ n
taken_length bs o c n is = grind (arith, places)

-- as many as are there are all
pub taken_same : (bs : List ℕ) (o c n : ℕ) → n ≡ min c (length bs - o) → take n (drop o bs) ≡ take c (drop o bs)
taken_same bs o c n is = same_lists _ _ (grind (arith, places)) (λ k d h. grind (arith, places))

-- ===== one part after another

piece_length : (bs : List ℕ) (at left room : ℕ) → length (take left (drop at bs)) ≡ left → length (take left (take room (drop at bs))) ≡ min left room
piece_length bs at left room there = grind (arith, places)

pub some_piece : (bs piece : List ℕ) (at left room : ℕ) → length (take left (drop at bs)) ≡ left → piece ≡ take left (take room (drop at bs)) → 0 < left → 0 < room → (0 < length piece) × (length piece ≤ left)
some_piece bs piece at left room there is some more = let long : length piece ≡ min left room = ap length is ∙ piece_length bs at left room there in (omega (arith, long), omega (arith, long))

rest_there : (bs : List ℕ) (at left n : ℕ) → length (take left (drop at bs)) ≡ left → n ≤ left → length (take (left - n) (drop (at + n) bs)) ≡ left - n
rest_there bs at left n there le = grind (arith, places)

both_parts : (bs : List ℕ) (at left room n : ℕ) → length (take left (drop at bs)) ≡ left → n ≡ min left room → take left (drop at bs) ≡ take left (take room (drop at bs)) ++ take (left - n) (drop (at + n) bs)
both_parts bs at left room n there is = same_lists _ _ (grind (arith, places)) (λ k d h. grind (arith, places))

-- one piece is appended, and the others are left
pub left_after : (bs old all reply new piece : List ℕ) (offset at then end room : ℕ) → at < end → offset ≤ at → 0 < room → length (take (end - at) (drop at bs)) ≡ end - at → reply ++ take (end - at) (drop at bs) ≡ old ++ all
    → piece ≡ take (end - at) (take room (drop at bs)) → new ≡ reply ++ piece → then ≡ at + length piece
    → (then ≤ end) × (offset ≤ then) × (length (take (end - then) (drop then bs)) ≡ end - then) × (new ++ take (end - then) (drop then bs) ≡ old ++ all)
left_after bs old all reply new piece offset at then end room lt from more there so_far is made next =
    let long : length piece ≡ min (end - at) room = ap length is ∙ piece_length bs at (end - at) room there in
    let left : (end - at) - length piece ≡ end - then = omega (arith, next, long) in
    let same : take ((end - at) - length piece) (drop (at + length piece) bs) ≡ take (end - then) (drop then bs) =
    ap (λ (n : ℕ). take n (drop (at + length piece) bs)) left ∙ ap (λ (n : ℕ). take (end - then) (drop n bs)) (sym next) in (
      omega (arith, next, long, lt),
      omega (arith, next, from),
      ap length (sym same) ∙ rest_there bs at (end - at) (length piece) there (omega (arith, long)) ∙ left,
      ap (λ (l : List ℕ). new ++ l) (sym same) ∙ ap (λ (l : List ℕ). l ++ take ((end - at) - length piece) (drop (at + length piece) bs)) made
          ∙ append_assoc reply piece (take ((end - at) - length piece) (drop (at + length piece) bs))
          ∙ ap (λ (l : List ℕ). reply ++ l) (ap (λ (l : List ℕ). l ++ take ((end - at) - length piece) (drop (at + length piece) bs)) is ∙ sym (both_parts bs at (end - at) room (length piece) there long))
          ∙ so_far,
    )

pub none_left : (bs old all reply : List ℕ) (at end : ℕ) → end ≤ at → reply ++ take (end - at) (drop at bs) ≡ old ++ all → reply ≡ old ++ all
none_left bs old all reply at end le so_far =
    let none : end - at ≡ 0 = omega (arith, le) in
    sym (append-nil reply) ∙ sym (ap (λ (n : ℕ). reply ++ take n (drop at bs)) none) ∙ so_far

-- ===== the part that a READ gives

module _ (bs : List ℕ) (attributes : Option Attributes) (o c n end size : ℕ) (e : Bool) (count : n ≡ min (min c transfer_max) (size - o)) (long : size ≡ length bs) (last : end ≡ o + n) (is_end : e ≡ leb size (o + n)) where
  given : n ≡ min (min c transfer_max) (length bs - o)
  given = count ∙ ap (λ (l : ℕ). min (min c transfer_max) (l - o)) long

  part_count : end - o ≡ n
  part_count = omega (arith, last)

  same_count : end - o ≡ length (piece_read bs o c)
  same_count = part_count ∙ sym (taken_length bs o (min c transfer_max) n given)

  same_bytes : take (end - o) (drop o bs) ≡ piece_read bs o c
  same_bytes = ap (λ (m : ℕ). take m (drop o bs)) part_count ∙ taken_same bs o (min c transfer_max) n given

  same_end : e ≡ leb (length bs) (o + length (piece_read bs o c))
  same_end = is_end ∙ ap (λ (l : ℕ). leb l (o + n)) long ∙ ap (λ (m : ℕ). leb (length bs) (o + m)) (sym (taken_length bs o (min c transfer_max) n given))

  pub part_is : ◌≡◌ {A = ReadOk} (record { attributes = attributes; count = end - o; eof = e; bytes = take (end - o) (drop o bs) }) (read_ok attributes bs o (piece_read bs o c))
  part_is = λ i. record { attributes = attributes; count = same_count i; eof = same_end i; bytes = same_bytes i }

  pub part_holds : (o ≤ end) × (end - o ≤ transfer_max) × (length (take (end - o) (drop o bs)) ≡ end - o)
  part_holds = (omega (arith, last), omega (arith, last, count), ap length same_bytes ∙ sym same_count)
