-- Lists of bytes.
use Rattle.std.specs.Prelude.{◌≡◌, ◌&&◌, ℕ, zero, suc, ◌<◌, nat_lt, Bool, true, false, List, [], ◌∷◌, ◌++◌, ◌-◌, ◌+◌, replicate, length}
use Rattle.std.specs.List.{AllByRecursion, flat_map, list_all}
use Rattle.std.specs.Int.{byte_at, bytes_high_first}
use Rattle.std.proofs.Common.{refl, ltb, ltb-true, get_or, subst, inl, inr, arith}
use Rattle.std.proofs.lemmas.Bool.{cases_lt}
use Rattle.std.proofs.lemmas.List.{get_or-append-add, get_or_append_left}
use Rattle.nr_xdr.specs.Item.{Item, IsBytes, word, hyper, pad_len, encoding}
use Rattle.nr_xdr.specs.Item.Item.{Unsigned, Hyper, Boolean, Opaque, Fixed}
use Rattle.nr_xdr.specs.Items.{encodings}
use Rattle.nr_wire.specs.Fields.{half_word}

pub no_bytes_lem : IsBytes []
no_bytes_lem = λ i. omega arith

pub bytes_more : (b : ℕ) (bytes : List ℕ) → b < 256 → IsBytes bytes → IsBytes (b ∷ bytes)
bytes_more b bytes lt h zero = lt
bytes_more b bytes lt h (suc i) = h i

pub bytes_both : (x y : List ℕ) → IsBytes x → IsBytes y → IsBytes (x ++ y)
bytes_both x y h k i =
    elim (cases_lt i (length x)) [
      | inl lt ↦ rw (get_or_append_left x y 0 i lt) (h i)
      | inr le ↦
          let at : length x + (i - length x) ≡ i = omega (arith, le) in
          subst (λ (n : ℕ). get_or (x ++ y) n 0 < 256) at (rw (get_or-append-add x y (i - length x) 0) (k (i - length x)))
    ]

pub zeros_bytes : (n : ℕ) → IsBytes (replicate n 0)
zeros_bytes zero = no_bytes_lem
zeros_bytes (suc n) = bytes_more 0 (replicate n 0) (omega arith) (zeros_bytes n)

byte_below : (i n : ℕ) → byte_at i n < 256
byte_below zero n = omega arith
byte_below (suc i) n = omega arith

bytes_first : (k n : ℕ) → IsBytes (bytes_high_first k n)
bytes_first zero n = no_bytes_lem
bytes_first (suc k) n = bytes_more (byte_at k n) (bytes_high_first k n) (byte_below k n) (bytes_first k n)

pub word_bytes : (n : ℕ) → IsBytes (word n)
unfolding word
word_bytes n = bytes_first 4 n

pub hyper_bytes : (n : ℕ) → IsBytes (hyper n)
unfolding hyper
hyper_bytes n = bytes_first 8 n

pub half_bytes : (n : ℕ) → IsBytes (half_word n)
unfolding half_word
half_bytes n = bytes_first 2 n

pub decided : (xs : List ℕ) → list_all (λ b. nat_lt b 256) xs ≡ true → IsBytes xs
decided [] e = no_bytes_lem
decided (x ∷ xs) e = by (ltb x 256) refl e (λ more. decided xs more)
  where
    by : (b : Bool) → ltb x 256 ≡ b → b && list_all (λ b. nat_lt b 256) xs ≡ true → (list_all (λ b. nat_lt b 256) xs ≡ true → IsBytes xs) → IsBytes (x ∷ xs)
    by true is e more = bytes_more x xs (ltb-true x 256 is) (more e)
    by false is e more = absurd cc

pub flat_bytes : {X : Type 0} (f : X → List ℕ) (xs : List X) → ((x : X) → IsBytes (f x)) → IsBytes (flat_map f xs)
flat_bytes f [] h = no_bytes_lem
flat_bytes f (x ∷ xs) h = bytes_both (f x) (flat_map f xs) (h x) (flat_bytes f xs h)

-- ===== items

-- an item whose data are bytes
abbrev pub OfBytes : Item → Type 0
OfBytes (Unsigned n) = Unit {0}
OfBytes (Hyper n) = Unit {0}
OfBytes (Boolean b) = Unit {0}
OfBytes (Opaque bytes) = IsBytes bytes
OfBytes (Fixed bytes) = IsBytes bytes

abbrev pub AreOfBytes : List Item → Type 0
AreOfBytes items = AllByRecursion OfBytes items

item_bytes : (item : Item) → OfBytes item → IsBytes (encoding item)
item_bytes (Unsigned n) h = word_bytes n
item_bytes (Hyper n) h = hyper_bytes n
item_bytes (Boolean b) h = word_bytes _
item_bytes (Opaque bytes) h =
    bytes_both (word (length bytes)) (bytes ++ replicate (pad_len (length bytes)) 0) (word_bytes (length bytes))
    (bytes_both bytes (replicate (pad_len (length bytes)) 0) h (zeros_bytes (pad_len (length bytes))))
item_bytes (Fixed bytes) h = bytes_both bytes (replicate (pad_len (length bytes)) 0) h (zeros_bytes (pad_len (length bytes)))

pub items_bytes : (items : List Item) → AreOfBytes items → IsBytes (encodings items)
items_bytes [] h = no_bytes_lem
items_bytes (item ∷ items) h = bytes_both (encoding item) (encodings items) (item_bytes item h.0) (items_bytes items h.1)
