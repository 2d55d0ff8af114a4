-- The pieces of a file, and READs of them that are outstanding.
use Rattle.std.proofs.Common.{◌≡◌, ℕ, ◌+◌, ◌*◌, ◌/◌, ◌%◌, ◌<◌, ◌≤◌, ◌⊎◌, inl, inr, true, false, List, [], ◌∷◌, ◌++◌, length, Some, None, arith, refl, sym, ap, subst, ◌∙◌}
use Rattle.std.proofs.lemmas.Bool.{cases_lt, eq-eqb, ne_eqb, lt-ltb, le-ltb}
use Rattle.std.proofs.lemmas.Nat.{div-add-mod', mod-mul-add, mod_below}
use Rattle.nr_nfs_base.specs.Limits.{transfer_max}
use Rattle.nr_client.specs.Reading.{OpenRead, is_at_piece, offset_ahead, piece_left, read_ahead, read_call, xids_of}
use Rattle.nr_client.specs.Reading.FileRead.{SizeKnown}
use Rattle.nr_client.specs.private.OpenReads.{AreOpen, IsAtPiece, IsFull, IsInPiece, ReadsAhead, next_offset, reads_from}
use Rattle.nr_client.specs.Relations.{CallRelations}

-- ---- Offsets within a piece

mod_further : (at n : ℕ) → at % transfer_max + n < transfer_max → (at + n) % transfer_max ≡ at % transfer_max + n
mod_further at n short =
    let q : ℕ = at / transfer_max in
    let r : ℕ = at % transfer_max in
    let whole : q * transfer_max + r ≡ at = div-add-mod' at transfer_max in
    let turned : at + n ≡ q * transfer_max + (r + n) = omega (arith, whole) in
    ap (λ (k : ℕ). k % transfer_max) turned ∙ mod-mul-add q transfer_max (r + n) short

mod_piece : (at : ℕ) → at % transfer_max ≡ 0 → (at + transfer_max) % transfer_max ≡ 0
mod_piece at start =
    let q : ℕ = at / transfer_max in
    let r : ℕ = at % transfer_max in
    let whole : q * transfer_max + r ≡ at = div-add-mod' at transfer_max in
    let turned : at + transfer_max ≡ (q + 1) * transfer_max + 0 = omega (arith, whole, start) in
    ap (λ (k : ℕ). k % transfer_max) turned ∙ mod-mul-add (q + 1) transfer_max 0 (omega arith)

-- after a piece the next one begins, or the file ends
pub at_next_piece : (size at : ℕ) → at < size → IsAtPiece size at → IsAtPiece size (at + piece_left size at)
at_next_piece size at below (inr above) = absurd (omega (arith, below, above))
at_next_piece size at below (inl start) = by (cases_lt size (at + transfer_max))
  where
    by : (size < at + transfer_max) ⊎ (at + transfer_max ≤ size) → IsAtPiece size (at + piece_left size at)
    by (inr fits) =
        let is : at + piece_left size at ≡ at + transfer_max = omega (arith, start, fits) in
        inl (ap (λ (k : ℕ). k % transfer_max) is ∙ mod_piece at start)
    by (inl short) = inr (omega (arith, start, short))

-- after some of what is left of a piece the rest of it is left
rest_of : (size at n : ℕ) → at < size → n < piece_left size at → at % transfer_max + n < transfer_max
rest_of size at n below short = omega (arith, below, short, mod_below at transfer_max (omega arith))

pub within_piece : (size at end n : ℕ) → at < size → at + piece_left size at ≡ end → 0 < n → n < piece_left size at → IsInPiece size (at + n) end
within_piece size at end n below ends some short =
    let further : (at + n) % transfer_max ≡ at % transfer_max + n = mod_further at n (rest_of size at n below short) in
    inr (
      omega (arith, ends, short),
      (
        λ none. absurd (omega (arith, further, none, some)),
        omega (arith, ends, short, further),
      ),
    )

pub in_piece : (size at at' end n count : ℕ) → at < size → count ≡ piece_left size at → at' ≡ at + n → at + piece_left size at ≡ end → 0 < n → n ≤ count → IsInPiece size at' end
in_piece size at at' end n count below counted goes ends some within =
    subst (λ (k : ℕ). IsInPiece size k end) (sym goes) (by (cases_lt n (piece_left size at)))
  where
    by : (n < piece_left size at) ⊎ (piece_left size at ≤ n) → IsInPiece size (at + n) end
    by (inl short) = within_piece size at end n below ends some short
    by (inr all) = inl (omega (arith, counted, within, all, ends))

-- the end of the piece that is being read
pub ends_at : (size at end : ℕ) → at < end → IsInPiece size at end → at + piece_left size at ≡ end
ends_at size at end below (inl same) = absurd (omega (arith, below, same))
ends_at size at end below (inr (within, (apart, ends))) = ends

pub not_at_piece : (size at end : ℕ) → at < end → IsInPiece size at end → (bytes : List ℕ) → is_at_piece (SizeKnown size at bytes) ≡ false
not_at_piece size at end below (inl same) bytes = absurd (omega (arith, below, same))
not_at_piece size at end below (inr (within, (apart, ends))) bytes = ne_eqb (at % transfer_max) 0 apart

pub now_at_piece : (size at : ℕ) → at < size → IsAtPiece size at → (bytes : List ℕ) → is_at_piece (SizeKnown size at bytes) ≡ true
now_at_piece size at below (inl start) bytes = eq-eqb (at % transfer_max) 0 start
now_at_piece size at below (inr above) bytes = absurd (omega (arith, below, above))

-- all of a piece was read
pub piece_read : (size at end : ℕ) → end ≤ size → IsInPiece size at end → end ≤ at → at ≡ end
piece_read size at end within (inl same) above = same
piece_read size at end within (inr (below, rest)) above = absurd (omega (arith, below, above))

-- ---- READs that are outstanding

pub ahead_is : (uid gid : ℕ) (file : List ℕ) (size at : ℕ) (xids : List ℕ) → offset_ahead size at (reads_from uid gid file size at xids) ≡ next_offset size at xids
ahead_is uid gid file size at [] = refl
ahead_is uid gid file size at (xid ∷ xids) = ahead_is uid gid file size (at + piece_left size at) xids

pub reads_with_last : (uid gid : ℕ) (file : List ℕ) (size at : ℕ) (xids : List ℕ) (xid : ℕ)
    → reads_from uid gid file size at (xids ++ xid ∷ [])
    ≡ reads_from uid gid file size at xids ++ (record { xid = xid; call = read_call uid gid file (next_offset size at xids) (piece_left size (next_offset size at xids)) }) ∷ []
reads_with_last uid gid file size at [] xid = refl
reads_with_last uid gid file size at (x ∷ xids) xid =
    ap (λ (reads : List OpenRead). (record { xid = x; call = read_call uid gid file at (piece_left size at) }) ∷ reads) (reads_with_last uid gid file size (at + piece_left size at) xids xid)

pub next_after_last : (size at : ℕ) (xids : List ℕ) (xid : ℕ) → next_offset size at (xids ++ xid ∷ []) ≡ next_offset size at xids + piece_left size (next_offset size at xids)
next_after_last size at [] xid = refl
next_after_last size at (x ∷ xids) xid = next_after_last size (at + piece_left size at) xids xid

pub xids_from : (uid gid : ℕ) (file : List ℕ) (size at : ℕ) (xids : List ℕ) → xids_of (reads_from uid gid file size at xids) ≡ xids
xids_from uid gid file size at [] = refl
xids_from uid gid file size at (x ∷ xids) = ap (λ (all : List ℕ). x ∷ all) (xids_from uid gid file size (at + piece_left size at) xids)

-- the next READ
pub asks_next : (uid gid : ℕ) (file : List ℕ) (size at next : ℕ) (xids : List ℕ) (bytes : List ℕ) → next < size → next ≡ next_offset size at xids
    → read_ahead uid gid file (SizeKnown size at bytes) (reads_from uid gid file size at xids) ≡ Some (read_call uid gid file next (piece_left size next))
asks_next uid gid file size at next xids bytes below is =
    let here : offset_ahead size at (reads_from uid gid file size at xids) ≡ next = ahead_is uid gid file size at xids ∙ sym is in
    rw (here) (rw (lt-ltb next size below) refl)

pub asks_none : (uid gid : ℕ) (file : List ℕ) (size at next : ℕ) (xids : List ℕ) (bytes : List ℕ) → size ≤ next → next ≡ next_offset size at xids
    → read_ahead uid gid file (SizeKnown size at bytes) (reads_from uid gid file size at xids) ≡ None
asks_none uid gid file size at next xids bytes above is =
    let here : offset_ahead size at (reads_from uid gid file size at xids) ≡ next = ahead_is uid gid file size at xids ∙ sym is in
    rw (here) (rw (le-ltb next size above) refl)

-- some READ is outstanding if no more are asked for
pub some_ahead : {V : Type 0} (rel : CallRelations V) (v w : V) (size at next : ℕ) (xids : List ℕ) → at < size → ReadsAhead rel v size at next xids → IsFull rel size next xids w → 0 < length xids
some_ahead {V} rel v w size at next [] below ahead (inl above) = absurd (let is = ahead.next_is in omega (arith, below, above, is))
some_ahead {V} rel v w size at next (xid ∷ xids) below ahead (inl above) = omega arith
some_ahead {V} rel v w size at next xids below ahead (inr (some, rest)) = some

-- after a piece READs of the later ones are outstanding
pub piece_done : {V : Type 0} (rel : CallRelations V) (v w : V) (size at at' count next : ℕ) (xids ys : List ℕ) → at < size → at' ≡ at + count → count ≡ piece_left size at
    → next_offset size (at + piece_left size at) ys ≡ next_offset size at xids → ReadsAhead rel v size at next xids → AreOpen rel w ys → ReadsAhead rel w size at' next ys
piece_done {V} rel v w size at at' count next xids ys below goes same moves ahead are =
    let ends : at + piece_left size at ≡ at' = ap (λ (n : ℕ). at + n) (sym same) ∙ sym goes in
    record {
      piece = subst (λ (k : ℕ). IsAtPiece size k) ends (at_next_piece size at below ahead.piece);
      next_is = ahead.next_is ∙ sym moves ∙ ap (λ (k : ℕ). next_offset size k ys) ends;
      open_all = are;
    }
