-- The first byte of a record is not that of a hello.
use Rattle.std.proofs.Common.{◌≡◌, ℕ, zero, suc, ◌+◌, ◌*◌, ◌/◌, ◌%◌, ◌^◌, ◌<◌, ◌≤◌, Bool, true, false, List, [], ◌∷◌, ◌++◌, length, refl, sym, ap, subst, ◌∙◌, append_assoc, arith}
use Rattle.std.specs.List.{AllByRecursion, concat}
use Rattle.std.proofs.lemmas.List.{length-append}
use Rattle.nr_xdr.specs.Item.{IsBytes, bit, word, word_of}
use Rattle.nr_xdr.proofs.WordBytes.{word_word_of}
use Rattle.nr_record.specs.Constants.{RECORD_MAX}
use Rattle.nr_record.specs.Records.{Cut, IsAboveAt, contents, encoding, encodings, fragment, fragments}
use Rattle.nr_record.specs.RecordsState.{IsContentInLimit, IsInLimit}
use Rattle.nr_host.specs.LinkServing.{HELLO_BYTE}
use Rattle.nr_host_laws.specs.LinkLaws.{HellosAreNoRecords}

-- ---- a record within the limit

abbrev head_or : List ℕ → ℕ
head_or [] = 0
head_or (x ∷ xs) = x

-- the first byte of the header of a fragment within the limit is 0 or 128
no_high : (last : Bool) (len : ℕ) → len ≤ RECORD_MAX → (2 ^ 31 * bit last + len) / 256 ^ 3 % 256 ≡ HELLO_BYTE → ⊥
no_high true len within e = absurd (omega (arith, within, e))
no_high false len within e = absurd (omega (arith, within, e))

no_hello_by : (before : List (List ℕ)) (last x rest : List ℕ) → length (concat before ++ last) ≤ RECORD_MAX → (fragments before ++ fragment true last) ++ x ≡ HELLO_BYTE ∷ rest → ⊥
unfolding word
no_hello_by [] last x rest within e = no_high true (length last) within (ap head_or e)
no_hello_by (b ∷ before) last x rest within e =
    let b_within : length b ≤ RECORD_MAX = omega (arith, within, length-append (b ++ concat before) last, length-append b (concat before)) in
    no_high false (length b) b_within (ap head_or e)

pub no_hello : (c : Cut) (x rest : List ℕ) → IsContentInLimit c → encoding c ++ x ≡ HELLO_BYTE ∷ rest → ⊥
no_hello c x rest within e = no_hello_by c.before c.last x rest within e

none_first : (cuts : List Cut) (records : List (List ℕ)) (left rest : List ℕ) → records ≡ contents cuts → AllByRecursion IsInLimit records → HELLO_BYTE ∷ rest ≡ encodings cuts ++ left → records ≡ []
none_first [] records left rest is within e = is
none_first (c ∷ cuts) records left rest is within e =
    let all : AllByRecursion IsInLimit (contents (c ∷ cuts)) = subst (AllByRecursion IsInLimit) is within in
    absurd (no_hello_by c.before c.last (encodings cuts ++ left) rest all.0 (sym (e ∙ append_assoc (encoding c) (encodings cuts) left)))

-- ---- a hello, read as a record

all_bytes : (rest : List ℕ) → IsBytes rest → IsBytes (HELLO_BYTE ∷ rest)
all_bytes rest fits zero = omega arith
all_bytes rest fits (suc i) = fits i

abbrev first_word : (a b c : ℕ) → ℕ
first_word a b c = word_of (HELLO_BYTE ∷ a ∷ b ∷ c ∷ [])

module _ (a b c : ℕ) (a_byte : a < 256) (b_byte : b < 256) (c_byte : c < 256) where
  short : first_word a b c < 2 ^ 31
  unfolding word_of
  short = omega (arith, a_byte, b_byte, c_byte)

  above : RECORD_MAX < first_word a b c
  unfolding word_of
  above = omega arith

  four_bytes : IsBytes (HELLO_BYTE ∷ a ∷ b ∷ c ∷ [])
  four_bytes zero = omega arith
  four_bytes (suc zero) = a_byte
  four_bytes (suc (suc zero)) = b_byte
  four_bytes (suc (suc (suc zero))) = c_byte
  four_bytes (suc (suc (suc (suc i)))) = omega arith

  header_is : word (2 ^ 31 * bit false + first_word a b c) ≡ HELLO_BYTE ∷ a ∷ b ∷ c ∷ []
  header_is =
      let sum : 2 ^ 31 * bit false + first_word a b c ≡ first_word a b c = omega arith in
      ap word sum ∙ word_word_of (HELLO_BYTE ∷ a ∷ b ∷ c ∷ []) refl four_bytes

above_at : (rest : List ℕ) → IsBytes rest → 3 ≤ length rest → IsAboveAt (HELLO_BYTE ∷ rest) 0
above_at [] fits most = absurd (omega (arith, most))
above_at (a ∷ []) fits most = absurd (omega (arith, most))
above_at (a ∷ b ∷ []) fits most = absurd (omega (arith, most))
above_at (a ∷ b ∷ c ∷ more) fits most = record {
  cuts = [];
  fit = tt;
  begun = [];
  begun_fit = tt;
  last = false;
  len = first_word a b c;
  short = short a b c (fits 0) (fits 1) (fits 2);
  more = more;
  above = (let high = above a b c (fits 0) (fits 1) (fits 2) in omega (arith, high));
  stream_is = ap (λ (l : List ℕ). l ++ more) (sym (header_is a b c (fits 0) (fits 1) (fits 2)));
  at_is = refl;
}

pub hellos_are_no_records : HellosAreNoRecords
hellos_are_no_records rest = (
  λ fits most. (refl, above_at rest fits most, λ other a. omega arith),
  λ records left e within. none_first e.cuts records left rest e.records_are within e.bytes_are,
)
