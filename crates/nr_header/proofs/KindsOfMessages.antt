-- Messages by their fixed words: what is read of them, and which are bad.
use Rattle.std.proofs.Common.{◌≡◌, ◌≢◌, ℕ, ◌≤◌, ◌<◌, List, length, drop, Option, Some, None, Result, Ok, Err, refl, sym, subst, ◌∙◌, arith, inl, inr, ◌↔◌, All}
use Rattle.std.proofs.lemmas.Bool.{lt-ltb, le-ltb, ne_eqb}
use Rattle.std.proofs.lemmas.Bool.Decides.{eqb_tells}
use Rattle.nr_header.specs.Constants.{FIXED_LEN}
use Rattle.nr_xdr.specs.Fields.{word_at}
use Rattle.nr_header.specs.declared.fault.HeaderFault.{HeaderFault}
use Rattle.nr_header.specs.declared.fault.HeaderFault.TheVariants as faults
use Rattle.nr_header.specs.declared.header.Body.{Body}
use Rattle.nr_header.specs.declared.header.Body.TheVariants.{Msg, Nomsg, ErrVers, ErrChunk}
use Rattle.nr_header.specs.declared.header.ChunkLists.{ChunkLists}
use Rattle.nr_header.specs.declared.header.Header.{Header}
use Rattle.nr_header.specs.Reading.{IsBad, HeaderBad, msg_at, nomsg_at, in_lists, version1_of, body_by, error_by, error_of, header_by, header_of}
use Rattle.nr_header.specs.Kinds.{HasFixedWords, IsWholeError}

-- a message is bad as its reading is
bad_by : (bytes : List ℕ) (read : Result Header HeaderFault) → header_of bytes ≡ read → IsBad read → HeaderBad bytes
bad_by bytes read is bad = subst IsBad (sym is) bad

fine_by : (bytes : List ℕ) (read : Result Header HeaderFault) → header_of bytes ≡ read → (IsBad read → ⊥) → HeaderBad bytes → ⊥
fine_by bytes read is fine bad = fine (subst IsBad is bad)

short_read : (bytes : List ℕ) → length bytes < FIXED_LEN → header_of bytes ≡ Err faults.Short
unfolding header_of
short_read bytes lt = rw (lt-ltb (length bytes) FIXED_LEN lt) refl

pub short_is : (bytes : List ℕ) → length bytes < FIXED_LEN → (header_of bytes ≡ Err faults.Short) × (HeaderBad bytes → ⊥)
short_is bytes lt = let is = short_read bytes lt in (is, fine_by bytes (Err faults.Short) is (λ bad. bad))

-- a message that is no complete error message isn't read as one
no_error : (bytes : List ℕ) → (IsWholeError bytes → ⊥) → error_by (word_at 12 bytes) bytes ≡ None
no_error bytes none =
    elim (eqb_tells (word_at 12 bytes) 4) [
      | inl kind ↦
          elim (eqb_tells (length bytes) 28) [
            | inl long ↦
                elim (eqb_tells (word_at 16 bytes) 1) [
                  | inl code ↦ absurd (none (kind.1, inl (long.1, code.1)))
                  | inr other ↦ let apart : length bytes ≢ 20 = λ e. omega (arith, e, long.1) in rw (kind.0, long.0, other.0, ne_eqb (length bytes) 20 apart) refl
                ]
            | inr other ↦
                elim (eqb_tells (length bytes) 20) [
                  | inl short ↦
                      elim (eqb_tells (word_at 16 bytes) 2) [
                        | inl code ↦ absurd (none (kind.1, inr (short.1, code.1)))
                        | inr neither ↦ rw (kind.0, other.0, short.0, neither.0) refl
                      ]
                  | inr neither ↦ rw (kind.0, other.0, neither.0) refl
                ]
          ]
      | inr other ↦ rw other.0 refl
    ]

-- what is read after the fixed words
read_by : (bytes : List ℕ) (error : Option Body) → 16 ≤ length bytes → error_by (word_at 12 bytes) bytes ≡ error
    → header_of bytes ≡ header_by (word_at 0 bytes) (word_at 8 bytes) (body_by error (word_at 4 bytes) (word_at 12 bytes) bytes)
unfolding header_of
read_by bytes error long is = rw (le-ltb (length bytes) 16 long, is) refl

version_read : (version kind : ℕ) (bytes : List ℕ) → HasFixedWords version kind bytes → version ≢ 1 → (IsWholeError bytes → ⊥) → header_of bytes ≡ Err (faults.Version version)
unfolding body_by
version_read version kind bytes h apart none = read_by bytes None h.long (no_error bytes none) ∙ (rw (h.version_is, ne_eqb version 1 apart) refl)

pub other_version : (version kind : ℕ) (bytes : List ℕ) → HasFixedWords version kind bytes → version ≢ 1 → (IsWholeError bytes → ⊥)
    → (header_of bytes ≡ Err (faults.Version version)) × (HeaderBad bytes → ⊥)
other_version version kind bytes h apart none =
    let is = version_read version kind bytes h apart none in
    (is, fine_by bytes (Err (faults.Version version)) is (λ bad. bad))

-- version 1 and no complete error message
version1_is : (kind : ℕ) (bytes : List ℕ) → HasFixedWords 1 kind bytes → (IsWholeError bytes → ⊥)
    → header_of bytes ≡ header_by (word_at 0 bytes) (word_at 8 bytes) (version1_of kind bytes)
unfolding body_by
version1_is kind bytes h none = read_by bytes None h.long (no_error bytes none) ∙ (rw (h.version_is, h.kind_is) refl)

-- a message of another kind than 4 is no error message
other_kind : (kind : ℕ) (bytes : List ℕ) → HasFixedWords 1 kind bytes → kind ≢ 4 → IsWholeError bytes → ⊥
other_kind kind bytes h apart whole = apart (sym h.kind_is ∙ whole.0)

pub msg_is : (bytes : List ℕ) → HasFixedWords 1 0 bytes
    → header_of bytes ≡ header_by (word_at 0 bytes) (word_at 8 bytes) (in_lists (msg_at (record { place = 16; rest = drop 16 bytes })))
unfolding version1_of
msg_is bytes h = version1_is 0 bytes h (other_kind 0 bytes h (λ e. omega (arith, e)))

pub nomsg_is : (bytes : List ℕ) → HasFixedWords 1 1 bytes
    → header_of bytes ≡ header_by (word_at 0 bytes) (word_at 8 bytes) (in_lists (nomsg_at (record { place = 16; rest = drop 16 bytes })))
unfolding version1_of
nomsg_is bytes h = version1_is 1 bytes h (other_kind 1 bytes h (λ e. omega (arith, e)))

-- a kind that isn't read
kind_is : (kind : ℕ) (bytes : List ℕ) → HasFixedWords 1 kind bytes → (IsWholeError bytes → ⊥) → 1 < kind → header_of bytes ≡ Err (faults.Kind kind)
unfolding version1_of
kind_is kind bytes h none above =
    let zero : kind ≢ 0 = λ e. omega (arith, e) in
    let one : kind ≢ 1 = λ e. omega (arith, e) in
    version1_is kind bytes h none ∙ (rw (ne_eqb kind 0 zero, ne_eqb kind 1 one) refl)

pub msgp_is : (bytes : List ℕ) → HasFixedWords 1 2 bytes → (header_of bytes ≡ Err (faults.Kind 2)) × HeaderBad bytes
msgp_is bytes h =
    let is = kind_is 2 bytes h (other_kind 2 bytes h (λ e. omega (arith, e))) (omega arith) in
    (is, bad_by bytes (Err (faults.Kind 2)) is (λ e. omega (arith, e), λ e. omega (arith, e)))

pub done_is : (bytes : List ℕ) → HasFixedWords 1 3 bytes → (header_of bytes ≡ Err (faults.Kind 3)) × (HeaderBad bytes → ⊥)
done_is bytes h =
    let is = kind_is 3 bytes h (other_kind 3 bytes h (λ e. omega (arith, e))) (omega arith) in
    (is, fine_by bytes (Err (faults.Kind 3)) is (λ bad. bad.0 refl))

pub error_is : (bytes : List ℕ) → HasFixedWords 1 4 bytes → (IsWholeError bytes → ⊥) → (header_of bytes ≡ Err (faults.Kind 4)) × (HeaderBad bytes → ⊥)
error_is bytes h none =
    let is = kind_is 4 bytes h none (omega arith) in
    (is, fine_by bytes (Err (faults.Kind 4)) is (λ bad. bad.1 refl))

pub above_is : (kind : ℕ) (bytes : List ℕ) → HasFixedWords 1 kind bytes → 4 < kind → (header_of bytes ≡ Err (faults.Kind kind)) × HeaderBad bytes
above_is kind bytes h above =
    let is = kind_is kind bytes h (other_kind kind bytes h (λ e. omega (arith, e))) (omega arith) in
    (is, bad_by bytes (Err (faults.Kind kind)) is (λ e. omega (arith, e), λ e. omega (arith, e)))

-- a complete error message is read as what it says
whole_read : (bytes : List ℕ) (body : Body) → 16 ≤ length bytes → word_at 12 bytes ≡ 4 → error_of bytes ≡ Some body
    → header_of bytes ≡ Ok (record { xid = word_at 0 bytes; credit = word_at 8 bytes; body = body })
unfolding body_by
whole_read bytes body long kind error =
    let is : error_by (word_at 12 bytes) bytes ≡ Some body = rw kind error in
    read_by bytes (Some body) long is

pub versions_are : (bytes : List ℕ) → word_at 12 bytes ≡ 4 → length bytes ≡ 28 → word_at 16 bytes ≡ 1
    → (header_of bytes ≡ Ok (record { xid = word_at 0 bytes; credit = word_at 8 bytes; body = ErrVers (word_at 4 bytes) (word_at 20 bytes) (word_at 24 bytes) })) × (HeaderBad bytes → ⊥)
versions_are bytes kind len code =
    let body = ErrVers (word_at 4 bytes) (word_at 20 bytes) (word_at 24 bytes) in
    let error : error_of bytes ≡ Some body = rw (len, code) refl in
    let is = whole_read bytes body (omega (arith, len)) kind error in
    (is, fine_by bytes (Ok (record { xid = word_at 0 bytes; credit = word_at 8 bytes; body = body })) is (λ bad. bad))

pub bad_chunk_is : (bytes : List ℕ) → word_at 12 bytes ≡ 4 → length bytes ≡ 20 → word_at 16 bytes ≡ 2
    → (header_of bytes ≡ Ok (record { xid = word_at 0 bytes; credit = word_at 8 bytes; body = ErrChunk (word_at 4 bytes) })) × (HeaderBad bytes → ⊥)
bad_chunk_is bytes kind len code =
    let body = ErrChunk (word_at 4 bytes) in
    let error : error_of bytes ≡ Some body = rw (len, code) refl in
    let is = whole_read bytes body (omega (arith, len)) kind error in
    (is, fine_by bytes (Ok (record { xid = word_at 0 bytes; credit = word_at 8 bytes; body = body })) is (λ bad. bad))

pub lists_are : (at : ℕ) (bytes : List ℕ) → header_of bytes ≡ Err (faults.BadChunks at) → HeaderBad bytes
lists_are at bytes is = subst IsBad (sym is) tt

pub msg_fine : (xid credit at : ℕ) (lists : ChunkLists) (bytes : List ℕ) →
    header_of bytes ≡ Ok (record { xid = xid; credit = credit; body = Msg lists at }) → HeaderBad bytes → ⊥
msg_fine xid credit at lists bytes is bad = subst IsBad is bad

pub nomsg_bad : (xid credit : ℕ) (lists : ChunkLists) (bytes : List ℕ) →
    header_of bytes ≡ Ok (record { xid = xid; credit = credit; body = Nomsg lists }) →
    HeaderBad bytes ↔ All (λ r. r.position ≢ 0) lists.read
nomsg_bad xid credit lists bytes is = (λ bad. subst IsBad is bad, λ bad. subst IsBad (sym is) bad)
