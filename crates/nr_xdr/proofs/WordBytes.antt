-- A number that was encoded is read again, and what is read as a number is its encoding.
use Rattle.std.proofs.Common.{◌≡◌, ℕ, ◌+◌, ◌^◌, ◌<◌, List, length, take, drop, refl, arith, inl, inr}
use Rattle.std.proofs.lemmas.Bool.{cases_lt}
use Rattle.std.proofs.lemmas.List.{length-take, get_or-drop, get_or-take, get_or_past}
use Rattle.std.proofs.lemmas.Nat.{be_bytes_4, be_bytes_8, from_be_bytes-to_be_bytes_4, from_be_bytes-to_be_bytes_8}
use Rattle.nr_xdr.specs.Item.{IsBytes, word, word_of, hyper, hyper_of}

pub IsBytes_drop : (n : ℕ) (bytes : List ℕ) → IsBytes bytes → IsBytes (drop n bytes)
IsBytes_drop n bytes h i = rw get_or-drop (h (n + i))

pub IsBytes_take : (n : ℕ) (bytes : List ℕ) → IsBytes bytes → IsBytes (take n bytes)
IsBytes_take n bytes h i =
    elim (cases_lt i n) [
      | inl lt ↦ rw (get_or-take n bytes i 0 lt) (h i)
      | inr le ↦ rw (get_or_past (take n bytes) i 0 (omega (arith, length-take n bytes))) (omega arith)
    ]

pub length_word : (n : ℕ) → length (word n) ≡ 4
unfolding word
length_word n = refl

pub word_word_of : (bytes : List ℕ) → length bytes ≡ 4 → IsBytes bytes → word (word_of bytes) ≡ bytes
unfolding word word_of
word_word_of bytes len fits = be_bytes_4 bytes _ len fits refl

pub word_of_word : (n : ℕ) → n < 2 ^ 32 → word_of (word n) ≡ n
unfolding word word_of
word_of_word n lt = from_be_bytes-to_be_bytes_4 n lt

pub word_of_below : (bytes : List ℕ) → IsBytes bytes → word_of bytes < 2 ^ 32
unfolding word_of
word_of_below bytes fits = omega (arith, fits 0, fits 1, fits 2, fits 3)

pub length_hyper : (n : ℕ) → length (hyper n) ≡ 8
unfolding hyper
length_hyper n = refl

pub hyper_hyper_of : (bytes : List ℕ) → length bytes ≡ 8 → IsBytes bytes → hyper (hyper_of bytes) ≡ bytes
unfolding hyper hyper_of
hyper_hyper_of bytes len fits = be_bytes_8 bytes _ len fits refl

pub hyper_of_hyper : (n : ℕ) → n < 2 ^ 64 → hyper_of (hyper n) ≡ n
unfolding hyper hyper_of
hyper_of_hyper n lt = from_be_bytes-to_be_bytes_8 n lt

pub hyper_of_below : (bytes : List ℕ) → IsBytes bytes → hyper_of bytes < 2 ^ 64
unfolding hyper_of
hyper_of_below bytes fits = omega (arith, fits 0, fits 1, fits 2, fits 3, fits 4, fits 5, fits 6, fits 7)
