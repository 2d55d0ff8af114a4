-- How the values of a type are encoded as a sequence of items, and how they are read (RFC 4506).
use Rattle.std.specs.Prelude.{◌≡◌, ℕ, zero, suc, ◌<◌, ◌≤◌, Bool, true, false, List, [], ◌∷◌, ◌++◌, length, Option, Some, None, is_some, Result, Ok, Err, ◌==◌, if◌then◌else◌}
use Rattle.std.specs.List.{flat_map, find, AllByRecursion}
use Rattle.nr_xdr.specs.Item.{Item, IsBytes}
use Rattle.nr_xdr.specs.Item.Item.{Unsigned, Hyper, Boolean, Opaque}
use Rattle.nr_xdr.specs.declared.fault.Memory.{Memory}
use Rattle.nr_xdr.specs.Room.{Room, Appended}
use Rattle.nr_xdr.specs.Items.{AllFit, encodings, ReadsAll, TakesAll}
use Rattle.nr_xdr.specs.Reading.{Cursor, unsigned_at, hyper_at, boolean_at, opaque_at}
use Rattle.nr_xdr.specs.Sequencing.{◌>>=◌, or_place}
use Rattle.nr_nfs_base.specs.declared.fault.ValueFault.{ValueFault}
use Rattle.nr_nfs_base.specs.declared.fault.ValueFault.TheVariants as faults

-- The codec of a type: the items that encode a value; whether a value is within the limits of its type; and what is read
-- at a cursor, which is a value and the cursor after it, or the offset of the first item that fails.
pub record Codec (A : Type 0) : Type 1 where
  pub items : A → List Item
  pub fits : A → Type 0
  pub read : Cursor → Result (A × Cursor) ℕ

-- the bytes are read as this value, whatever their pad bytes are
abbrev pub ReadsAs : {A : Type 0} → Codec A → A → List ℕ → Type 0
ReadsAs c v bytes = c.fits v × ReadsAll (c.items v) bytes

-- the cursor at the first of some bytes
abbrev pub start : List ℕ → Cursor
start bytes = record { place = 0; rest = bytes }

-- a value with no bytes after it, or a fault at the first byte left over
abbrev pub value_at_end : {A : Type 0} → A × Cursor → Result A ℕ
value_at_end x = if length (x.1).rest == 0 then Ok x.0 else Err (x.1).place

-- what is read of all the bytes
abbrev pub read_all : {A : Type 0} → Codec A → List ℕ → Result A ℕ
read_all c bytes = c.read (start bytes) >>= value_at_end

-- Reading is the inverse of encoding: a value that is read is within its limits and is encoded by the items that were
-- taken, and a value within its limits is read wherever its items are taken.
pub record Lawful {A : Type 0} (c : Codec A) : Type 0 where
  pub read_is_encoded : (old : Cursor) (v : A) (new : Cursor) → IsBytes old.rest → c.read old ≡ Ok (v, new) → c.fits v × TakesAll old new (c.items v)
  pub encoded_is_read : (old : Cursor) (v : A) (new : Cursor) → c.fits v → TakesAll old new (c.items v) → c.read old ≡ Ok (v, new)

-- ---- Single items

-- an unsigned integer (RFC 4506 section 4.2)
unfoldable pub word : Codec ℕ
word = record { items = λ n. Unsigned n ∷ []; fits = λ _. Unit {0}; read = λ at. or_place (unsigned_at at) }

-- an unsigned hyper integer (RFC 4506 section 4.5)
unfoldable pub hyper : Codec ℕ
hyper = record { items = λ n. Hyper n ∷ []; fits = λ _. Unit {0}; read = λ at. or_place (hyper_at at) }

-- a boolean (RFC 4506 section 4.4)
unfoldable pub boolean : Codec Bool
boolean = record { items = λ b. Boolean b ∷ []; fits = λ _. Unit {0}; read = λ at. or_place (boolean_at at) }

-- opaque data of at most max bytes (RFC 4506 section 4.10)
unfoldable pub opaque : ℕ → Codec (List ℕ)
opaque max = record { items = λ bytes. Opaque bytes ∷ []; fits = λ bytes. length bytes ≤ max; read = λ at. or_place (opaque_at max at) }

-- ---- Composite types

-- no bytes (RFC 4506 section 4.16)
abbrev pub void : Codec (Unit {0})
void = record { items = λ _. []; fits = λ _. Unit {0}; read = λ at. Ok (tt, at) }

-- one value after the other (RFC 4506 section 4.14)
infixr 20 ◌⊗◌
abbrev pub ◌⊗◌ : {A B : Type 0} → Codec A → Codec B → Codec (A × B)
a ⊗ b = record {
  items = λ v. a.items v.0 ++ b.items v.1;
  fits = λ v. a.fits v.0 × b.fits v.1;
  read = λ at. a.read at >>= λ x. b.read x.1 >>= λ y. Ok ((x.0, y.0), y.1);
}

-- two values as such a pair
infixr 20 ◌&◌
abbrev pub ◌&◌ : {A B : Type 0} → A → B → A × B
a & b = (a, b)

-- A structure (RFC 4506 section 4.14): make gives the value with some fields, and parts gives the fields of a value. c is
-- the codec of the fields, one after the other.
abbrev pub structure : {A B : Type 0} → (A → B) → (B → A) → Codec A → Codec B
structure make parts c = record {
  items = λ v. c.items (parts v);
  fits = λ v. c.fits (parts v);
  read = λ at. c.read at >>= λ x. Ok (make x.0, x.1);
}

-- the first of these values that has this number
abbrev pub value_with_number : {A : Type 0} → (A → ℕ) → List A → ℕ → Option A
value_with_number number all n = find (λ v. number v == n) all

-- a value and the cursor after it, or a fault at the word if there is no value
abbrev pub value_or_fault : {A : Type 0} → Cursor → Option A → Cursor → Result (A × Cursor) ℕ
value_or_fault from None to = Err from.place
value_or_fault from (Some v) to = Ok (v, to)

-- an enumeration of these values, each by its number (RFC 4506 section 4.3)
unfoldable pub enumeration : {A : Type 0} → (A → ℕ) → List A → Codec A
enumeration number all = record {
  items = λ v. word.items (number v);
  fits = λ v. word.fits (number v);
  read = λ at. word.read at >>= λ n. value_or_fault at (value_with_number number all n.0) n.1;
}

-- The arms of a union: the tag of a value (the discriminant), its other items, whether these are within their limits, and
-- what is read after a tag.
pub record Arms (T A : Type 0) : Type 1 where
  pub tag_of : A → T
  pub items : A → List Item
  pub fits : A → Type 0
  pub read : T → Cursor → Result (A × Cursor) ℕ

-- a discriminated union: a tag, and the arm that it selects (RFC 4506 section 4.15)
abbrev pub discriminated_union : {T A : Type 0} → Codec T → Arms T A → Codec A
discriminated_union tag arms = record {
  items = λ v. tag.items (arms.tag_of v) ++ arms.items v;
  fits = λ v. tag.fits (arms.tag_of v) × arms.fits v;
  read = λ at. tag.read at >>= λ t. arms.read t.0 t.1;
}

-- the value of an arm, as a value of the union
abbrev pub arm_value : {A B : Type 0} → (A → B) → Result (A × Cursor) ℕ → Result (B × Cursor) ℕ
arm_value make read = read >>= λ x. Ok (make x.0, x.1)

-- the items of a value that may be absent, after the flag
abbrev pub value_items : {A : Type 0} → Codec A → Option A → List Item
value_items c (Some v) = c.items v
value_items c None = []

abbrev pub value_fits : {A : Type 0} → Codec A → Option A → Type 0
value_fits c (Some v) = c.fits v
value_fits c None = Unit {0}

abbrev pub value_read : {A : Type 0} → Codec A → Bool → Cursor → Result (Option A × Cursor) ℕ
value_read c true at = arm_value Some (c.read at)
value_read c false at = Ok (None, at)

-- optional data: a flag, and the value if the flag is 1 (RFC 4506 section 4.19)
unfoldable pub optional : {A : Type 0} → Codec A → Codec (Option A)
optional c = discriminated_union boolean (record { tag_of = is_some; items = value_items c; fits = value_fits c; read = value_read c })

-- ---- Lists

-- the items of a linked list: a 1 before each value, and a 0 at the end (RFC 4506 section 4.19)
abbrev pub linked_list_items : {A : Type 0} → Codec A → List A → List Item
linked_list_items c [] = (optional c).items None
linked_list_items c (v ∷ vs) = (optional c).items (Some v) ++ linked_list_items c vs

abbrev pub linked_list_fits : {A : Type 0} → Codec A → List A → Type 0
linked_list_fits c [] = (optional c).fits None
linked_list_fits c (v ∷ vs) = (optional c).fits (Some v) × linked_list_fits c vs

-- a value, and then the others that are read
abbrev pub with_first : {A : Type 0} → A → Result (List A × Cursor) ℕ → Result (List A × Cursor) ℕ
with_first v others = others >>= λ vs. Ok (v ∷ vs.0, vs.1)

-- the list that begins with a value, or that ends if there is none
abbrev pub linked_list_rest : {A : Type 0} → Option A → Cursor → Result (List A × Cursor) ℕ → Result (List A × Cursor) ℕ
linked_list_rest None at others = Ok ([], at)
linked_list_rest (Some v) at others = with_first v others

-- What is read as a linked list. n bounds the number of flags. Each flag takes bytes, so if n is the number of bytes,
-- none is left after n flags, and the 0 at the end is missing.
unfoldable pub linked_list_read : {A : Type 0} → Codec A → ℕ → Cursor → Result (List A × Cursor) ℕ
linked_list_read c zero at = Err at.place
linked_list_read c (suc n) at = (optional c).read at >>= λ x. linked_list_rest x.0 x.1 (linked_list_read c n x.1)

-- a linked list (RFC 4506 section 4.19)
unfoldable pub linked_list : {A : Type 0} → Codec A → Codec (List A)
linked_list c = record { items = linked_list_items c; fits = linked_list_fits c; read = λ at. linked_list_read c (length at.rest) at }

-- n values, one after the other
unfoldable pub values_read : {A : Type 0} → Codec A → ℕ → Cursor → Result (List A × Cursor) ℕ
values_read c zero at = Ok ([], at)
values_read c (suc n) at = c.read at >>= λ x. with_first x.0 (values_read c n x.1)

-- a variable-length array: the number of values, and the values (RFC 4506 section 4.13)
unfoldable pub array : {A : Type 0} → Codec A → Codec (List A)
array c = record {
  items = λ vs. word.items (length vs) ++ flat_map c.items vs;
  fits = λ vs. word.fits (length vs) × AllByRecursion c.fits vs;
  read = λ at. word.read at >>= λ n. values_read c n.0 n.1;
}

-- ---- Skipping

-- what is read, or nothing if an item fails
abbrev pub read_or_none : {A : Type 0} → Result A ℕ → Option A
read_or_none (Ok x) = Some x
read_or_none (Err at) = None

-- the cursor after the value that is read, or nothing if an item fails
abbrev pub cursor_after : {A : Type 0} → Result (A × Cursor) ℕ → Option Cursor
cursor_after (Ok x) = Some x.1
cursor_after (Err at) = None

-- ---- Results of calls

-- The encoding of these items was appended. Each item has an encoding, and P holds.
pub record AppendsItems (old new : Room) (items : List Item) (P : Type 0) : Type 0 where
  pub appended : Appended old new (encodings items)
  pub items_fit : AllFit items
  pub fits : P

-- the encoding of the value, which is within its limits, was appended
abbrev pub AppendsValue : {A : Type 0} → Codec A → Room → A → Room → Type 0
AppendsValue c old v new = AppendsItems old new (c.items v) (c.fits v)

-- the result of writing these items: they are appended, or there was no room for them
abbrev pub WritesItems : Room → List Item → Type 0 → Result Room Memory → Type 0
WritesItems old items P (Ok new) = AppendsItems old new items P
WritesItems old items P (Err e) = old.left < length (encodings items)

-- the same of a value
abbrev pub WritesValue : {A : Type 0} → Codec A → Room → A → Result Room Memory → Type 0
WritesValue c old v result = WritesItems old (c.items v) (c.fits v) result

-- The result is what is read, or out of memory.
abbrev pub Answers : {A : Type 0} → Result A ValueFault → Result A ℕ → Type 0
Answers (Ok v) read = read ≡ Ok v
Answers (Err faults.Memory) read = Unit {0}
Answers (Err (faults.Bad at)) read = read ≡ Err at

-- the values that come first, and after them those that are read
abbrev pub with_front : {A : Type 0} → List A → Result (List A × Cursor) ℕ → Result (List A × Cursor) ℕ
with_front front read = read >>= λ x. Ok (front ++ x.0, x.1)

-- The values that are read come after the old ones, and the result is the cursor after them. Else it is the fault, or out
-- of memory.
abbrev pub PushesValues : {A : Type 0} → List A → List A → Result Cursor ValueFault → Result (List A × Cursor) ℕ → Type 0
PushesValues {A} old new (Ok behind) read = with_front old read ≡ Ok (new, behind)
PushesValues {A} old new (Err e) read = Answers {A = List A × Cursor} (Err e) (with_front old read)

-- The value after a flag comes after the old ones, or there is none; the result says which, with the cursor after it.
-- Else it is the fault, or out of memory.
abbrev pub NextPushed : {A : Type 0} → List A → List A → Bool → Cursor → Result (Option A × Cursor) ℕ → Type 0
NextPushed {A} old new true behind read = (v : A) × (read ≡ Ok (Some v, behind)) × (new ≡ old ++ v ∷ [])
NextPushed old new false behind read = (read ≡ Ok (None, behind)) × (new ≡ old)

abbrev pub PushesNext : {A : Type 0} → List A → List A → Result (Bool × Cursor) ValueFault → Result (Option A × Cursor) ℕ → Type 0
PushesNext old new (Ok x) read = NextPushed old new x.0 x.1 read
PushesNext {A} old new (Err e) read = Answers {A = Option A × Cursor} (Err e) read
