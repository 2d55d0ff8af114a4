-- What was encoded is read, also of numbers that don't fit: other numbers are read of them then.
use Rattle.std.proofs.Common.{◌≡◌, ℕ, ◌+◌, ◌<◌, ◌^◌, Bool, true, false, cond, eqb, ltb, List, [], ◌∷◌, ◌++◌, length, drop, take, Option, None, Some, Result, Ok, Err, refl, sym, ap, ◌∙◌, append_assoc, arith}
use Rattle.std.proofs.lemmas.Bool.{le-ltb}
use Rattle.std.proofs.lemmas.List.{append-nil, length-append, drop_at}
use Rattle.nr_xdr.specs.Item.{Item, Fits, encoding, word_of, hyper_of}
use Rattle.nr_xdr.specs.Item.Item.{Unsigned, Hyper, Boolean}
use Rattle.nr_xdr.specs.Items.{encodings}
use Rattle.nr_xdr.specs.declared.fault.ItemFault.TheVariants.{Short}
use Rattle.nr_xdr.specs.Reading.{Cursor, Takes, unsigned_at, hyper_at, cursor_past}
use Rattle.nr_xdr.specs.Sequencing.{◌>>=◌, or_place}
use Rattle.nr_xdr.proofs.Chains.{standing, encoding_reads}
use Rattle.nr_xdr.proofs.SequencingSteps.{number_again, boolean_placed}
use Rattle.nr_nfs_base.specs.Attributes.{attributes_codec, special_data_codec}
use Rattle.nr_nfs_base.specs.Codec.{Codec, ◌⊗◌, structure, optional, enumeration, value_with_number, value_or_fault, boolean, value_read, word as word_codec, hyper as hyper_codec}
use Rattle.nr_nfs_base.specs.Fronts.{success, success_number, successes, each_success, success_codec, read_ok_front, read_res_front, readlink_res_front}
use Rattle.nr_nfs_base.specs.Laws.{done}
use Rattle.nr_nfs_base.specs.FileType.{file_type_codec, file_type_number, file_types, each_file_type}
use Rattle.nr_nfs_base.specs.Time.{time_codec}
use Rattle.nr_nfs_base.specs.declared.attributes.Attributes.{Attributes}
use Rattle.nr_nfs_base.specs.declared.attributes.SpecialData.{SpecialData}
use Rattle.nr_nfs_base.specs.declared.file_type.FileType.{FileType}
use Rattle.nr_nfs_base.specs.declared.file_type.FileType.TheVariants.{Reg, Dir, Blk, Chr, Lnk, Sock, Fifo}
use Rattle.nr_nfs_base.specs.declared.fronts.Success.{Success}
use Rattle.nr_nfs_base.specs.declared.time.Time.{Time}
use Rattle.nr_ops_list.proofs.Sizes.{items_size, length_encodings, items_size_append}

pub encodings_append : (xs ys : List Item) → encodings (xs ++ ys) ≡ encodings xs ++ encodings ys
encodings_append [] ys = refl
encodings_append (x ∷ xs) ys = ap (λ (l : List ℕ). encoding x ++ l) (encodings_append xs ys) ∙ sym (append_assoc (encoding x) (encodings xs) (encodings ys))

-- a value is read if these items were encoded, and the cursor is after them
pub record Readable {A : Type 0} (c : Codec A) (xs : List Item) : Type 0 where
  pub at : (place : ℕ) (rest : List ℕ) → (v : A) × (c.read (standing place (encodings xs ++ rest)) ≡ Ok (v, standing (place + items_size xs) rest))

-- ===== single items

pub number_readable : (n place : ℕ) (bytes rest : List ℕ) → length bytes ≡ 4 → or_place (unsigned_at (standing place (bytes ++ rest))) ≡ Ok (word_of (take 4 (bytes ++ rest)), standing (place + 4) rest)
unfolding unsigned_at cursor_past
number_readable n place bytes rest four =
    let enough : ltb (length (bytes ++ rest)) 4 ≡ false = le-ltb (length (bytes ++ rest)) 4 (omega (arith, length-append bytes rest, four)) in
    ap (λ (b : Bool). or_place (cond b (Err (Short place)) (Ok (word_of (take 4 (bytes ++ rest)), record { place = place + 4; rest = drop 4 (bytes ++ rest) })))) enough
    ∙ ap (λ (l : List ℕ). Ok (word_of (take 4 (bytes ++ rest)), standing (place + 4) l)) (drop_at bytes rest 4 four)

long_readable : (n place : ℕ) (bytes rest : List ℕ) → length bytes ≡ 8 → or_place (hyper_at (standing place (bytes ++ rest))) ≡ Ok (hyper_of (take 8 (bytes ++ rest)), standing (place + 8) rest)
unfolding hyper_at cursor_past
long_readable n place bytes rest eight =
    let enough : ltb (length (bytes ++ rest)) 8 ≡ false = le-ltb (length (bytes ++ rest)) 8 (omega (arith, length-append bytes rest, eight)) in
    ap (λ (b : Bool). or_place (cond b (Err (Short place)) (Ok (hyper_of (take 8 (bytes ++ rest)), record { place = place + 8; rest = drop 8 (bytes ++ rest) })))) enough
    ∙ ap (λ (l : List ℕ). Ok (hyper_of (take 8 (bytes ++ rest)), standing (place + 8) l)) (drop_at bytes rest 8 eight)

word_readable : (n : ℕ) → Readable word_codec (word_codec.items n)
unfolding word_codec
word_readable n = record { at = λ place rest. (_, number_readable n place (encodings (Unsigned n ∷ [])) rest (length_encodings (Unsigned n ∷ []))) }

hyper_readable : (n : ℕ) → Readable hyper_codec (hyper_codec.items n)
unfolding hyper_codec
hyper_readable n = record { at = λ place rest. (_, long_readable n place (encodings (Hyper n ∷ [])) rest (length_encodings (Hyper n ∷ []))) }

one : (item : Item) (fits : Fits item) (place : ℕ) (rest : List ℕ) → Takes (standing place (encodings (item ∷ []) ++ rest)) (standing (place + items_size (item ∷ [])) rest) item
one item fits place rest = record {
  bytes = encoding item;
  reads = encoding_reads item fits;
  rest = ap (λ (l : List ℕ). l ++ rest) (append-nil (encoding item));
  place = omega (arith, length_encodings (item ∷ []), length-append (encoding item) []);
}

boolean_read : (b : Bool) (place : ℕ) (rest : List ℕ) → boolean.read (standing place (encodings (boolean.items b) ++ rest)) ≡ Ok (b, standing (place + 4) rest)
unfolding boolean
boolean_read b place rest = boolean_placed (standing place (encodings (Boolean b ∷ []) ++ rest)) b (standing (place + 4) rest) (one (Boolean b) tt place rest)

boolean_readable : (b : Bool) → Readable boolean (boolean.items b)
unfolding boolean
boolean_readable b = record { at = λ place rest. (b, boolean_read b place rest) }

enumeration_readable : {A : Type 0} (number : A → ℕ) (all : List A) (v : A) → number v < 2 ^ 32 → value_with_number number all (number v) ≡ Some v → Readable (enumeration number all) ((enumeration number all).items v)
unfolding enumeration word_codec
enumeration_readable {A} number all v fits each = record {
  at = λ place rest.
      let from : Cursor = standing place (encodings (Unsigned (number v) ∷ []) ++ rest) in (
        v,
        ap (λ (r : Result (ℕ × Cursor) ℕ). ◌>>=◌ {A = ℕ × Cursor} {B = A × Cursor} r (λ n. value_or_fault from (value_with_number number all n.0) n.1)) (number_again from (number v) (standing (place + 4) rest) (one (Unsigned (number v)) fits place rest))
            ∙ ap (λ (o : Option A). value_or_fault from o (standing (place + 4) rest)) each,
      );
}

-- ===== composite values

pub split : (xs ys : List Item) (rest : List ℕ) → encodings (xs ++ ys) ++ rest ≡ encodings xs ++ (encodings ys ++ rest)
split xs ys rest = ap (λ (l : List ℕ). l ++ rest) (encodings_append xs ys) ∙ append_assoc (encodings xs) (encodings ys) rest

pair_readable : {A B : Type 0} (a : Codec A) (b : Codec B) (xs ys : List Item) → Readable a xs → Readable b ys → Readable (a ⊗ b) (xs ++ ys)
pair_readable {A} {B} a b xs ys of_a of_b = record {
  at = λ place rest.
      let f : (v : A) × (a.read (standing place (encodings xs ++ (encodings ys ++ rest))) ≡ Ok (v, standing (place + items_size xs) (encodings ys ++ rest))) = of_a.at place (encodings ys ++ rest) in
      let g : (v : B) × (b.read (standing (place + items_size xs) (encodings ys ++ rest)) ≡ Ok (v, standing (place + items_size xs + items_size ys) rest)) = of_b.at (place + items_size xs) rest in
      let size : place + items_size xs + items_size ys ≡ place + items_size (xs ++ ys) = omega (arith, items_size_append xs ys) in
      let value : A × B = (f.0, g.0) in (
        value,
        ap (λ (l : List ℕ). (a ⊗ b).read (standing place l)) (split xs ys rest)
            ∙ ap (λ (r : Result (A × Cursor) ℕ). ◌>>=◌ {A = A × Cursor} {B = (A × B) × Cursor} r (λ x. ◌>>=◌ {A = B × Cursor} {B = (A × B) × Cursor} (b.read x.1) (λ y. Ok ((x.0, y.0), y.1)))) f.1
            ∙ ap (λ (r : Result (B × Cursor) ℕ). ◌>>=◌ {A = B × Cursor} {B = (A × B) × Cursor} r (λ y. Ok ((f.0, y.0), y.1))) g.1
            ∙ ap (λ (p : ℕ). done {A = (A × B) × Cursor} (value, standing p rest)) size,
      );
}

structure_readable : {A B : Type 0} (make : A → B) (parts : B → A) (c : Codec A) (xs : List Item) → Readable c xs → Readable (structure make parts c) xs
structure_readable {A} {B} make parts c xs of_c = record {
  at = λ place rest.
      let f : (v : A) × (c.read (standing place (encodings xs ++ rest)) ≡ Ok (v, standing (place + items_size xs) rest)) = of_c.at place rest in
      (make f.0, ap (λ (r : Result (A × Cursor) ℕ). ◌>>=◌ {A = A × Cursor} {B = B × Cursor} r (λ x. Ok (make x.0, x.1))) f.1);
}

optional_readable : {A : Type 0} (c : Codec A) → ((v : A) → Readable c (c.items v)) → (o : Option A) → Readable (optional c) ((optional c).items o)
unfolding optional boolean
optional_readable {A} c each None = record {
  at = λ place rest. (None, ap (λ (r : Result (Bool × Cursor) ℕ). ◌>>=◌ {A = Bool × Cursor} {B = Option A × Cursor} r (λ t. value_read c t.0 t.1)) (boolean_read false place rest));
}
optional_readable {A} c each (Some v) = record {
  at = λ place rest.
      let f : (w : A) × (c.read (standing (place + 4) (encodings (c.items v) ++ rest)) ≡ Ok (w, standing (place + 4 + items_size (c.items v)) rest)) = (each v).at (place + 4) rest in
      let size : place + 4 + items_size (c.items v) ≡ place + (4 + items_size (c.items v)) = omega arith in (
        Some f.0,
        ap (λ (l : List ℕ). (optional c).read (standing place l)) (split (Boolean true ∷ []) (c.items v) rest)
            ∙ ap (λ (r : Result (Bool × Cursor) ℕ). ◌>>=◌ {A = Bool × Cursor} {B = Option A × Cursor} r (λ t. value_read c t.0 t.1)) (boolean_read true place (encodings (c.items v) ++ rest))
            ∙ ap (λ (r : Result (A × Cursor) ℕ). ◌>>=◌ {A = A × Cursor} {B = Option A × Cursor} r (λ x. Ok (Some x.0, x.1))) f.1
            ∙ ap (λ (p : ℕ). done {A = Option A × Cursor} (Some f.0, standing p rest)) size,
      );
}

-- ===== attributes

file_type_fits : (v : FileType) → file_type_number v < 2 ^ 32
file_type_fits Reg = omega arith
file_type_fits Dir = omega arith
file_type_fits Blk = omega arith
file_type_fits Chr = omega arith
file_type_fits Lnk = omega arith
file_type_fits Sock = omega arith
file_type_fits Fifo = omega arith

file_type_readable : (v : FileType) → Readable file_type_codec (file_type_codec.items v)
unfolding file_type_codec
file_type_readable v = enumeration_readable file_type_number file_types v (file_type_fits v) (each_file_type v)

time_readable : (v : Time) → Readable time_codec (time_codec.items v)
unfolding time_codec
time_readable v = structure_readable _ _ _ _ (pair_readable word_codec word_codec _ _ (word_readable v.seconds) (word_readable v.nanoseconds))

special_data_readable : (v : SpecialData) → Readable special_data_codec (special_data_codec.items v)
unfolding special_data_codec
special_data_readable v = structure_readable _ _ _ _ (pair_readable word_codec word_codec _ _ (word_readable v.major) (word_readable v.minor))

attributes_readable : (v : Attributes) → Readable attributes_codec (attributes_codec.items v)
unfolding attributes_codec
attributes_readable v =
    structure_readable _ _ _ _
    (pair_readable file_type_codec _ _ _ (file_type_readable v.file_type)
    (pair_readable word_codec _ _ _ (word_readable v.mode)
    (pair_readable word_codec _ _ _ (word_readable v.nlink)
    (pair_readable word_codec _ _ _ (word_readable v.uid)
    (pair_readable word_codec _ _ _ (word_readable v.gid)
    (pair_readable hyper_codec _ _ _ (hyper_readable v.size)
    (pair_readable hyper_codec _ _ _ (hyper_readable v.used)
    (pair_readable special_data_codec _ _ _ (special_data_readable v.rdev)
    (pair_readable hyper_codec _ _ _ (hyper_readable v.fsid)
    (pair_readable hyper_codec _ _ _ (hyper_readable v.fileid)
    (pair_readable time_codec _ _ _ (time_readable v.atime)
    (pair_readable time_codec time_codec _ _ (time_readable v.mtime) (time_readable v.ctime)))))))))))))

-- ===== what stands before the data of READ and the path of READLINK

success_readable : Readable success_codec (success_codec.items success)
unfolding success_codec
success_readable = enumeration_readable success_number successes success (omega arith) (each_success success)

pub read_front_readable : (o : Option Attributes) (count : ℕ) (eof : Bool) → Readable read_res_front (read_res_front.items (success, (o, (count, eof))))
read_front_readable o count eof =
    pair_readable success_codec read_ok_front _ _ success_readable
    (pair_readable (optional attributes_codec) (word_codec ⊗ boolean) _ _ (optional_readable attributes_codec attributes_readable o)
    (pair_readable word_codec boolean _ _ (word_readable count) (boolean_readable eof)))

pub readlink_front_readable : (o : Option Attributes) → Readable readlink_res_front (readlink_res_front.items (success, o))
readlink_front_readable o = pair_readable success_codec (optional attributes_codec) _ _ success_readable (optional_readable attributes_codec attributes_readable o)

-- no other status than that of success is read as it
pub failure_unread : (n place : ℕ) (rest : List ℕ) → n < 2 ^ 32 → eqb 0 n ≡ false → success_codec.read (standing place (encodings (Unsigned n ∷ []) ++ rest)) ≡ Err place
unfolding success_codec enumeration word_codec
failure_unread n place rest fits other =
    let from : Cursor = standing place (encodings (Unsigned n ∷ []) ++ rest) in
    ap (λ (r : Result (ℕ × Cursor) ℕ). ◌>>=◌ {A = ℕ × Cursor} {B = Success × Cursor} r (λ k. value_or_fault from (value_with_number success_number successes k.0) k.1)) (number_again from n (standing (place + 4) rest) (one (Unsigned n) fits place rest))
    ∙ ap (λ (b : Bool). value_or_fault from (cond b (Some success) None) (standing (place + 4) rest)) other
