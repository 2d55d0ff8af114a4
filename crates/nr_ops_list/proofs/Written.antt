-- Items that are written one after the other, and the entries of a listing.
use Rattle.std.proofs.Common.{◌≡◌, ℕ, suc, ◌+◌, ◌-◌, ◌<◌, ◌≤◌, true, false, List, ◌∷◌, ◌++◌, length, take, Option, None, Some, Result, Ok, Err, IfOk, ap, sym, ◌∙◌, arith, append_assoc, refl, subst}
use Rattle.std.specs.Prelude.{map}
use Rattle.nr_xdr.specs.Item.{Item}
use Rattle.nr_xdr.specs.Items.{encodings}
use Rattle.nr_xdr.specs.Room.{Room, Appended}
use Rattle.nr_xdr.specs.declared.fault.Memory.{Memory}
use Rattle.nr_xdr.proofs.Rooms.{encodings_append}
use Rattle.nr_nfs_base.specs.Codec.{Codec, WritesValue, boolean, enumeration, optional, linked_list}
use Rattle.nr_nfs_base.specs.Attributes.{attributes_codec}
use Rattle.nr_nfs_base.specs.Status.{status_number, statuses}
use Rattle.nr_nfs_base.specs.StatusUnion.{status_union_codec, status_tag_number, status_tags}
use Rattle.nr_nfs_base.specs.declared.attributes.Attributes.{Attributes}
use Rattle.nr_nfs_base.specs.declared.status.Status.{Status}
use Rattle.nr_nfs_base.specs.declared.status_union.StatusUnion.{StatusUnion}
use Rattle.nr_nfs_base.specs.declared.status_union.StatusUnion.TheVariants.{Done, Failed}
use Rattle.nr_nfs_res.specs.Readdir.{listing_codec}
use Rattle.nr_nfs_res.specs.Results.{nfs_result}
use Rattle.nr_nfs_res.specs.declared.readdir.Listing.{Listing}
use Rattle.nr_tree.specs.Entries.{Entry, NamesAreValid}

-- the bytes of these items were appended, if there was memory
abbrev pub Writes : Room → List Item → Result Room Memory → Type 0
Writes old items r = IfOk r (λ w. w.bytes ≡ old.bytes ++ encodings items)

pub written_value : {A : Type 0} (c : Codec A) (old : Room) (v : A) (r : Result Room Memory) → WritesValue c old v r → Writes old (c.items v) r
written_value c old v (Ok new) w = w.appended.is
written_value c old v (Err e) w = tt

pub written_then : (old mid : Room) (xs ys : List Item) (r : Result Room Memory) → Appended old mid (encodings xs) → Writes mid ys r → Writes old (xs ++ ys) r
written_then old mid xs ys (Ok new) first is =
    is ∙ ap (λ (b : List ℕ). b ++ encodings ys) first.is ∙ append_assoc old.bytes (encodings xs) (encodings ys) ∙ ap (λ (b : List ℕ). old.bytes ++ b) (sym (encodings_append xs ys))
written_then old mid xs ys (Err e) first is = tt

-- the same if of the first items only the bytes are known
pub bytes_then : (old mid : Room) (xs ys : List Item) (r : Result Room Memory) → mid.bytes ≡ old.bytes ++ encodings xs → Writes mid ys r → Writes old (xs ++ ys) r
bytes_then old mid xs ys (Ok new) first is =
    is ∙ ap (λ (b : List ℕ). b ++ encodings ys) first ∙ append_assoc old.bytes (encodings xs) (encodings ys) ∙ ap (λ (b : List ℕ). old.bytes ++ b) (sym (encodings_append xs ys))
bytes_then old mid xs ys (Err e) first is = tt

-- ===== the results of a listing

module _ {E : Type 0} (codec : Codec E) (old mid : Room) (reply : StatusUnion (Listing E) (Option Attributes) Status) (r : Result Room Memory) where
  pub done_written : (l : Listing E) → reply ≡ Done l → Appended old mid (encodings ((enumeration (status_tag_number status_number) (status_tags statuses)).items None)) → Writes mid ((listing_codec codec).items l) r
      → Writes old ((nfs_result (listing_codec codec) (optional attributes_codec)).items reply) r
  unfolding status_union_codec
  done_written l is first after =
      subst (λ (x : StatusUnion (Listing E) (Option Attributes) Status). Writes old ((nfs_result (listing_codec codec) (optional attributes_codec)).items x) r) (sym is)
      (written_then old mid ((enumeration (status_tag_number status_number) (status_tags statuses)).items None) ((listing_codec codec).items l) r first after)

  pub failed_written : (s : Status) (a : Option Attributes) → reply ≡ Failed s a → Appended old mid (encodings ((enumeration (status_tag_number status_number) (status_tags statuses)).items (Some s))) → Writes mid ((optional attributes_codec).items a) r
      → Writes old ((nfs_result (listing_codec codec) (optional attributes_codec)).items reply) r
  unfolding status_union_codec
  failed_written s a is first after =
      subst (λ (x : StatusUnion (Listing E) (Option Attributes) Status). Writes old ((nfs_result (listing_codec codec) (optional attributes_codec)).items x) r) (sym is)
      (written_then old mid ((enumeration (status_tag_number status_number) (status_tags statuses)).items (Some s)) ((optional attributes_codec).items a) r first after)

-- ===== a linked list of what is said of entries

module _ {A : Type 0} (c : Codec A) (said : Entry → A) where
  -- the items of the first entries
  abbrev pub items : ℕ → List Entry → List Item
  items n left = (linked_list c).items (map said (take n left))

  parts : (v : A) (others : List A) → (linked_list c).items (v ∷ others) ≡ (boolean.items true ++ c.items v) ++ (linked_list c).items others
  unfolding linked_list optional
  parts v others = refl

  -- what is left of the first entries is to be written after mid
  pub record AreLeft (old mid : List ℕ) (all : List Item) (n : ℕ) (left : List Entry) : Type 0 where
    pub some : n ≤ length left
    pub names : NamesAreValid left
    pub rest : mid ++ encodings (items n left) ≡ old ++ encodings all

  pub left_some : (old mid : List ℕ) (all : List Item) (count i : ℕ) (left : List Entry) → i < count → AreLeft old mid all (count - i) left → 0 < length left
  left_some old mid all count i left lt h = omega (arith, lt, h.some)

  pub left_begin : (old : List ℕ) (count : ℕ) (left : List Entry) → count ≤ length left → NamesAreValid left → AreLeft old old (items count left) (count - 0) left
  left_begin old count left some names =
      let whole : count ≡ count - 0 = omega arith in
      record { some = omega (arith, some); names = names; rest = ap (λ (n : ℕ). old ++ encodings (items n left)) (sym whole) }

  module _ (old w0 : List ℕ) (all : List Item) (count i : ℕ) (e : Entry) (left new : List Entry) (lt : i < count) (is : left ≡ e ∷ new) (h : AreLeft old w0 all (count - i) left) where
    abbrev rest : List ℕ
    rest = encodings (items (count - (i + 1)) new)

    all_names : NamesAreValid (e ∷ new)
    all_names = subst NamesAreValid is h.names

    pub left_short : length e.name < 4294967296
    left_short = omega (arith, all_names.1)

    one_less : count - i ≡ suc (count - (i + 1))
    one_less = omega (arith, lt)

    cut : items (count - i) left ≡ (boolean.items true ++ c.items (said e)) ++ items (count - (i + 1)) new
    cut = (λ j. items (one_less j) (is j)) ∙ parts (said e) (map said (take (count - (i + 1)) new))

    shape : (f v r : List ℕ) → ((w0 ++ f) ++ v) ++ r ≡ w0 ++ ((f ++ v) ++ r)
    shape f v r = append_assoc (w0 ++ f) v r ∙ append_assoc w0 f (v ++ r) ∙ ap (λ (b : List ℕ). w0 ++ b) (sym (append_assoc f v r))

    encoded : encodings (items (count - i) left) ≡ (encodings (boolean.items true) ++ encodings (c.items (said e))) ++ rest
    encoded =
        ap (λ (l : List Item). encodings l) cut ∙ encodings_append (boolean.items true ++ c.items (said e)) (items (count - (i + 1)) new)
        ∙ ap (λ (b : List ℕ). b ++ rest) (encodings_append (boolean.items true) (c.items (said e)))

    pub left_next : (w1 w2 : List ℕ) → w1 ≡ w0 ++ encodings (boolean.items true) → w2 ≡ w1 ++ encodings (c.items (said e)) → AreLeft old w2 all (count - (i + 1)) new
    left_next w1 w2 first second =
        let some : count - i ≤ length (e ∷ new) = subst (λ (l : List Entry). count - i ≤ length l) is h.some in
        record {
          some = omega (arith, some, one_less);
          names = all_names.3;
          rest =
              ap (λ (b : List ℕ). b ++ rest) (second ∙ ap (λ (b : List ℕ). b ++ encodings (c.items (said e))) first)
              ∙ shape (encodings (boolean.items true)) (encodings (c.items (said e))) rest
              ∙ ap (λ (b : List ℕ). w0 ++ b) (sym encoded)
              ∙ h.rest;
        }

  last_items : (left : List Entry) → encodings (items 0 left) ≡ encodings (boolean.items false)
  unfolding linked_list optional boolean
  last_items left = refl

  pub left_end : (old mid : Room) (all : List Item) (count i : ℕ) (left : List Entry) (r : Result Room Memory) → count ≤ i → AreLeft old.bytes mid.bytes all (count - i) left → WritesValue boolean mid false r → Writes old all r
  left_end old mid all count i left (Ok new) le h w =
      let none : count - i ≡ 0 = omega (arith, le) in
      w.appended.is ∙ ap (λ (b : List ℕ). mid.bytes ++ b) (sym (ap (λ (n : ℕ). encodings (items n left)) none ∙ last_items left)) ∙ h.rest
  left_end old mid all count i left (Err e) le h w = tt
