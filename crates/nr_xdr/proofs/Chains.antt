-- Items one after another: cursors that take them in turn, and the bytes that read as them.
use Rattle.std.proofs.Common.{◌≡◌, ℕ, ◌+◌, List, [], ◌∷◌, ◌++◌, length, replicate, refl, sym, ap, subst, ◌∙◌, append_assoc, arith}
use Rattle.std.proofs.lemmas.List.{length-append, get_or-append-add, get_or_append_left, get_or_past, length-replicate}
use Rattle.std.proofs.lemmas.Bool.{cases_lt}
use Rattle.std.proofs.Common.{inl, inr}
use Rattle.nr_xdr.specs.Item.{Item, Reads, IsBytes, Fits, padding, encoding, word}
use Rattle.nr_xdr.specs.Item.Item.{Opaque}
use Rattle.nr_xdr.specs.Items.{AllFit, encodings, ReadsAll, TakesAll}
use Rattle.nr_xdr.specs.Reading.{Cursor, Takes}
use Rattle.nr_xdr.proofs.Cursors.{cursor_is}

-- some bytes from an offset on
abbrev pub standing : ℕ → List ℕ → Cursor
standing place rest = record { place = place; rest = rest }

pub reads_takes : (item : Item) (bytes behind : List ℕ) (old : Cursor) → Reads item bytes → old.rest ≡ bytes ++ behind → Takes old (standing (old.place + length bytes) behind) item
reads_takes item bytes behind old reads e = record { bytes = bytes; reads = reads; rest = e; place = refl }

-- bytes that read as the items are taken as them
pub each_takes : (items : List Item) (bytes behind : List ℕ) (old : Cursor) → ReadsAll items bytes → old.rest ≡ bytes ++ behind → TakesAll old (standing (old.place + length bytes) behind) items
each_takes [] bytes behind old none e =
    cursor_is old (standing (old.place + length bytes) behind) (omega (arith, ap length none)) (e ∙ ap (λ (b : List ℕ). b ++ behind) none)
each_takes (item ∷ items) bytes behind old (front, more, reads, others, parts) e =
    let first : old.rest ≡ front ++ (more ++ behind) = e ∙ ap (λ (b : List ℕ). b ++ behind) parts ∙ append_assoc front more behind in
    let middle = standing (old.place + length front) (more ++ behind) in
    let len : (old.place + length front) + length more ≡ old.place + length bytes = omega (arith, ap length parts, length-append front more) in (
      middle,
      reads_takes item front (more ++ behind) old reads first,
      subst (λ (p : ℕ). TakesAll middle (standing p behind) items) len (each_takes items more behind middle others refl),
    )

-- the bytes between two cursors, which read as the items
pub record Between (items : List Item) (old new : Cursor) : Type 0 where
  pub bytes : List ℕ
  pub reads : ReadsAll items bytes
  pub rest : old.rest ≡ bytes ++ new.rest
  pub place : new.place ≡ old.place + length bytes

-- what was taken as the items are bytes that read as them
pub each_between : (items : List Item) (old new : Cursor) → TakesAll old new items → Between items old new
each_between [] old new e = record {
  bytes = [];
  reads = refl;
  rest = ap (λ (c : Cursor). c.rest) e;
  place = omega (arith, ap (λ (c : Cursor). c.place) e);
}
each_between (item ∷ items) old new (middle, taken, others) =
    let b = each_between items middle new others in record {
      bytes = taken.bytes ++ b.bytes;
      reads = (taken.bytes, b.bytes, taken.reads, b.reads, refl);
      rest = taken.rest ∙ ap (λ (r : List ℕ). taken.bytes ++ r) b.rest ∙ sym (append_assoc taken.bytes b.bytes new.rest);
      place = omega (arith, taken.place, b.place, length-append taken.bytes b.bytes);
    }

pub encoding_reads : (item : Item) → Fits item → Reads item (encoding item)
encoding_reads item fits = record { fits = fits; pad = replicate (padding item) 0; pad_is = length-replicate (padding item) 0; bytes_are = refl }

-- the encoding reads as the items
pub encodings_read : (items : List Item) → AllFit items → ReadsAll items (encodings items)
encodings_read [] fits = refl
encodings_read (item ∷ items) fits = (encoding item, encodings items, encoding_reads item fits.0, encodings_read items fits.1, refl)

pub IsBytes_right : (x y : List ℕ) → IsBytes (x ++ y) → IsBytes y
IsBytes_right x y fits i = rw (← get_or-append-add x y i 0) (fits (length x + i))

pub IsBytes_left : (x y : List ℕ) → IsBytes (x ++ y) → IsBytes x
IsBytes_left x y fits i =
    elim (cases_lt i (length x)) [
      | inl lt ↦ rw (← get_or_append_left x y 0 i lt) (fits i)
      | inr le ↦ rw (get_or_past x i 0 le) (omega arith)
    ]

-- what is left after an item are bytes
pub IsBytes_after : (old new : Cursor) (item : Item) → Takes old new item → IsBytes old.rest → IsBytes new.rest
IsBytes_after old new item taken fits = IsBytes_right taken.bytes new.rest (subst IsBytes taken.rest fits)

-- the data of an item are bytes
pub IsBytes_opaque : (old new : Cursor) (bytes : List ℕ) → Takes old new (Opaque bytes) → IsBytes old.rest → IsBytes bytes
IsBytes_opaque old new bytes taken fits =
    let whole : IsBytes (word (length bytes) ++ (bytes ++ taken.reads.pad)) =
    subst IsBytes taken.reads.bytes_are (IsBytes_left taken.bytes new.rest (subst IsBytes taken.rest fits)) in
    IsBytes_left bytes taken.reads.pad (IsBytes_right (word (length bytes)) (bytes ++ taken.reads.pad) whole)
