-- How many bytes the results of a listing have.
use Rattle.std.proofs.Common.{◌≡◌, ℕ, ◌+◌, Bool, List, [], ◌∷◌, ◌++◌, length, Option, None, Some, refl, ap, sym, ◌∙◌, subst, arith, length-append}
use Rattle.std.proofs.lemmas.List.{length-replicate}
use Rattle.std.specs.Prelude.{map, replicate}
use Rattle.std.specs.Option.{option_map, option_map_or}
use Rattle.std.specs.FinMap.{get}
use Rattle.nr_xdr.specs.Item.{Item, word, hyper, pad_len, encoding, bit}
use Rattle.nr_xdr.specs.Item.Item.{Unsigned, Hyper, Boolean, Opaque, Fixed}
use Rattle.nr_xdr.specs.Items.{encodings}
use Rattle.nr_xdr.proofs.WordBytes.{length_word, length_hyper}
use Rattle.nr_nfs_base.specs.Codec.{optional, enumeration, linked_list, linked_list_items, word as word_codec, hyper as hyper_codec, boolean, opaque}
use Rattle.nr_nfs_base.specs.Attributes.{attributes_codec, special_data_codec}
use Rattle.nr_nfs_base.specs.FileType.{file_type_codec}
use Rattle.nr_nfs_base.specs.Time.{time_codec}
use Rattle.nr_nfs_base.specs.Verifier.{verifier_codec}
use Rattle.nr_nfs_base.specs.Names.{handle_codec}
use Rattle.nr_nfs_base.specs.declared.attributes.Attributes.{Attributes}
use Rattle.nr_nfs_res.specs.Readdir.{entry_codec, entry_plus_codec, listing_codec, readdir_ok_codec, readdirplus_ok_codec}
use Rattle.nr_tree.specs.Entries.{Entry}
use Rattle.nr_tree.specs.Tree.{Tree, attributes_of}
use Rattle.nr_tree.specs.Rules.{handle_of, number_of_handle, node_of_handle}
use Rattle.nr_tree.specs.Replies.{attributes_at, attributes_of_number, handle_of_live}
use Rattle.nr_tree.specs.declared.node.Node.{Node}
use Rattle.nr_ops_list.specs.Readdir.{listed, listed_plus, readdir_ok, readdirplus_ok, cookie_verifier, total}
use Rattle.nr_ops_list.specs.private.Sizes.{entry_size, node_size, size_in, empty_size}
use Rattle.nr_ops_list.specs.declared.listings.Detail.TheVariants.{Nodes}

-- ===== items

abbrev pub item_size : Item → ℕ
item_size (Unsigned n) = 4
item_size (Hyper n) = 8
item_size (Boolean b) = 4
item_size (Opaque bytes) = 4 + (length bytes + pad_len (length bytes))
item_size (Fixed bytes) = length bytes + pad_len (length bytes)

abbrev pub items_size : List Item → ℕ
items_size [] = 0
items_size (x ∷ xs) = item_size x + items_size xs

pad_size : (n : ℕ) → length (replicate {A = ℕ} n 0) ≡ n
pad_size n = length-replicate {A = ℕ} n 0

padded_size : (bytes : List ℕ) (n : ℕ) → length (bytes ++ replicate n 0) ≡ length bytes + n
padded_size bytes n = omega (arith, length-append bytes (replicate n 0), pad_size n)

length_encoding : (x : Item) → length (encoding x) ≡ item_size x
length_encoding (Unsigned n) = length_word n
length_encoding (Hyper n) = length_hyper n
length_encoding (Boolean b) = length_word (bit b)
length_encoding (Opaque bytes) =
    omega (arith, length-append (word (length bytes)) (bytes ++ replicate (pad_len (length bytes)) 0), length_word (length bytes), padded_size bytes (pad_len (length bytes)))
length_encoding (Fixed bytes) = padded_size bytes (pad_len (length bytes))

pub length_encodings : (xs : List Item) → length (encodings xs) ≡ items_size xs
length_encodings [] = refl
length_encodings (x ∷ xs) = omega (arith, length-append (encoding x) (encodings xs), length_encoding x, length_encodings xs)

pub items_size_append : (xs ys : List Item) → items_size (xs ++ ys) ≡ items_size xs + items_size ys
items_size_append [] ys = omega arith
items_size_append (x ∷ xs) ys = omega (arith, items_size_append xs ys)

-- ===== attributes and handles

pub attributes_size : (a : Attributes) → items_size (attributes_codec.items a) ≡ 84
unfolding attributes_codec file_type_codec enumeration special_data_codec time_codec word_codec hyper_codec
attributes_size a = refl

pub some_attributes_size : (a : Attributes) → items_size ((optional attributes_codec).items (Some a)) ≡ 88
unfolding optional boolean
some_attributes_size a = omega (arith, attributes_size a)

no_attributes_size : items_size ((optional attributes_codec).items None) ≡ 4
unfolding optional boolean
no_attributes_size = refl

length_handle : (n : ℕ) → length (handle_of n) ≡ 8
unfolding hyper
length_handle n = length_hyper n

handle_size : (n : ℕ) → 4 + (length (handle_of n) + pad_len (length (handle_of n))) ≡ 12
unfolding pad_len
handle_size n = subst (λ (k : ℕ). 4 + (k + pad_len k) ≡ 12) (sym (length_handle n)) refl

pub some_handle_size : (n : ℕ) → items_size ((optional handle_codec).items (Some (handle_of n))) ≡ 16
unfolding optional boolean opaque
some_handle_size n = omega (arith, handle_size n)

no_handle_size : items_size ((optional handle_codec).items None) ≡ 4
unfolding optional boolean
no_handle_size = refl

-- ===== entries

plain_entry : (e : Entry) → items_size ((optional entry_codec).items (Some (listed e))) ≡ entry_size e
unfolding optional boolean entry_codec hyper_codec opaque
plain_entry e = omega arith

pub plain_list : (es : List Entry) → items_size ((linked_list entry_codec).items (map listed es)) ≡ total entry_size es + 4
unfolding linked_list optional boolean
plain_list [] = refl
plain_list (e ∷ es) = omega (arith, items_size_append ((optional entry_codec).items (Some (listed e))) (linked_list_items entry_codec (map listed es)), plain_entry e, plain_list es)

node_part_by : (n : ℕ) (o : Option Node) → items_size ((optional attributes_codec).items (option_map (attributes_of n) o)) + items_size ((optional handle_codec).items (option_map (λ node. handle_of n) o)) ≡ option_map_or (λ node. 104) o 8
node_part_by n None = omega (arith, no_attributes_size, no_handle_size)
node_part_by n (Some v) = omega (arith, some_attributes_size (attributes_of n v), some_handle_size n)

plus_items : (e : Entry) (a : Option Attributes) (h : Option (List ℕ))
    → items_size ((optional entry_plus_codec).items (Some (record { fileid = e.number; name = e.name; cookie = e.cookie; attributes = a; handle = h })))
    ≡ entry_size e + items_size ((optional attributes_codec).items a ++ (optional handle_codec).items h)
unfolding optional boolean entry_plus_codec hyper_codec opaque
plus_items e a h = omega arith

plus_parts : (e : Entry) (a : Option Attributes) (h : Option (List ℕ))
    → items_size ((optional entry_plus_codec).items (Some (record { fileid = e.number; name = e.name; cookie = e.cookie; attributes = a; handle = h })))
    ≡ entry_size e + (items_size ((optional attributes_codec).items a) + items_size ((optional handle_codec).items h))
plus_parts e a h = omega (arith, plus_items e a h, items_size_append ((optional attributes_codec).items a) ((optional handle_codec).items h))

plus_entry : (t : Tree) (e : Entry) → items_size ((optional entry_plus_codec).items (Some (listed_plus t e))) ≡ entry_size e + node_size t e.number
plus_entry t e = omega (arith, plus_parts e (attributes_of_number t e.number) (handle_of_live t e.number), node_part_by e.number (get t.nodes e.number))

pub plus_list : (t : Tree) (es : List Entry) → items_size ((linked_list entry_plus_codec).items (map (listed_plus t) es)) ≡ total (size_in t Nodes) es + 4
unfolding linked_list optional boolean
plus_list t [] = refl
plus_list t (e ∷ es) = omega (arith, items_size_append ((optional entry_plus_codec).items (Some (listed_plus t e))) (linked_list_items entry_plus_codec (map (listed_plus t) es)), plus_entry t e, plus_list t es)

-- ===== results

readdir_items : (a : Option Attributes) (es : List Entry) (eof : Bool)
    → items_size (readdir_ok_codec.items (record { dir_attributes = a; verifier = cookie_verifier; entries = map listed es; eof = eof }))
    ≡ items_size ((optional attributes_codec).items a ++ (Hyper 0 ∷ ((linked_list entry_codec).items (map listed es) ++ Boolean eof ∷ [])))
unfolding listing_codec verifier_codec hyper_codec boolean
readdir_items a es eof = refl

readdir_parts : (a : Option Attributes) (es : List Entry) (eof : Bool)
    → items_size (readdir_ok_codec.items (record { dir_attributes = a; verifier = cookie_verifier; entries = map listed es; eof = eof }))
    ≡ items_size ((optional attributes_codec).items a) + (16 + total entry_size es)
readdir_parts a es eof =
    omega (
      arith,
      readdir_items a es eof,
      items_size_append ((optional attributes_codec).items a) (Hyper 0 ∷ ((linked_list entry_codec).items (map listed es) ++ Boolean eof ∷ [])),
      items_size_append ((linked_list entry_codec).items (map listed es)) (Boolean eof ∷ []),
      plain_list es,
    )

-- of a directory that is live
pub readdir_size : (t : Tree) (h : List ℕ) (v : Node) (es : List Entry) (eof : Bool) → node_of_handle t h ≡ Some v
    → length (encodings (readdir_ok_codec.items (readdir_ok t h es eof))) ≡ empty_size + total entry_size es
readdir_size t h v es eof e =
    let a : items_size ((optional attributes_codec).items (attributes_at t h)) ≡ 88 = ap (λ (o : Option Node). items_size ((optional attributes_codec).items (option_map (attributes_of (number_of_handle h)) o))) e ∙ some_attributes_size (attributes_of (number_of_handle h) v) in
    omega (arith, length_encodings (readdir_ok_codec.items (readdir_ok t h es eof)), readdir_parts (attributes_at t h) es eof, a)

readdirplus_items : (t : Tree) (a : Option Attributes) (es : List Entry) (eof : Bool)
    → items_size (readdirplus_ok_codec.items (record { dir_attributes = a; verifier = cookie_verifier; entries = map (listed_plus t) es; eof = eof }))
    ≡ items_size ((optional attributes_codec).items a ++ (Hyper 0 ∷ ((linked_list entry_plus_codec).items (map (listed_plus t) es) ++ Boolean eof ∷ [])))
unfolding listing_codec verifier_codec hyper_codec boolean
readdirplus_items t a es eof = refl

readdirplus_parts : (t : Tree) (a : Option Attributes) (es : List Entry) (eof : Bool)
    → items_size (readdirplus_ok_codec.items (record { dir_attributes = a; verifier = cookie_verifier; entries = map (listed_plus t) es; eof = eof }))
    ≡ items_size ((optional attributes_codec).items a) + (16 + total (size_in t Nodes) es)
readdirplus_parts t a es eof =
    omega (
      arith,
      readdirplus_items t a es eof,
      items_size_append ((optional attributes_codec).items a) (Hyper 0 ∷ ((linked_list entry_plus_codec).items (map (listed_plus t) es) ++ Boolean eof ∷ [])),
      items_size_append ((linked_list entry_plus_codec).items (map (listed_plus t) es)) (Boolean eof ∷ []),
      plus_list t es,
    )

pub readdirplus_size : (t : Tree) (h : List ℕ) (v : Node) (es : List Entry) (eof : Bool) → node_of_handle t h ≡ Some v
    → length (encodings (readdirplus_ok_codec.items (readdirplus_ok t h es eof))) ≡ empty_size + total (size_in t Nodes) es
readdirplus_size t h v es eof e =
    let a : items_size ((optional attributes_codec).items (attributes_at t h)) ≡ 88 = ap (λ (o : Option Node). items_size ((optional attributes_codec).items (option_map (attributes_of (number_of_handle h)) o))) e ∙ some_attributes_size (attributes_of (number_of_handle h) v) in
    omega (arith, length_encodings (readdirplus_ok_codec.items (readdirplus_ok t h es eof)), readdirplus_parts t (attributes_at t h) es eof, a)
