-- A number of two bytes that was encoded is read again, and what is read so is its encoding.
use Rattle.std.proofs.Common.{◌≡◌, ℕ, ◌^◌, ◌<◌, List, length, refl, arith}
use Rattle.std.proofs.lemmas.Nat.{be_bytes_2, from_be_bytes-to_be_bytes_2}
use Rattle.nr_xdr.specs.Item.{IsBytes}
use Rattle.nr_wire.specs.Fields.{half_word, half_word_of}

pub length_half_word : (n : ℕ) → length (half_word n) ≡ 2
unfolding half_word
length_half_word n = refl

pub half_word_half_word_of : (bytes : List ℕ) → length bytes ≡ 2 → IsBytes bytes → half_word (half_word_of bytes) ≡ bytes
unfolding half_word half_word_of
half_word_half_word_of bytes len fits = be_bytes_2 bytes _ len fits refl

pub half_word_of_half_word : (n : ℕ) → n < 2 ^ 16 → half_word_of (half_word n) ≡ n
unfolding half_word half_word_of
half_word_of_half_word n lt = from_be_bytes-to_be_bytes_2 n lt

pub half_word_of_below : (bytes : List ℕ) → IsBytes bytes → half_word_of bytes < 2 ^ 16
unfolding half_word_of
half_word_of_below bytes fits = omega (arith, fits 0, fits 1)
