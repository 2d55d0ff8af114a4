-- Messages by their fixed words, in the numbers of RFC 8166 section 4.2.
use Rattle.std.specs.Prelude.{◌≡◌, ℕ, ◌≤◌, ◌⊎◌, List, length}
use Rattle.nr_xdr.specs.Fields.{word_at}

-- the message has its fixed words, with this version and this kind
pub record HasFixedWords (version kind : ℕ) (bytes : List ℕ) : Type 0 where
  pub long : 16 ≤ length bytes
  pub version_is : word_at 4 bytes ≡ version
  pub kind_is : word_at 12 bytes ≡ kind

-- a complete error message, of any version: RDMA_ERROR with ERR_VERS and 28 bytes, or with ERR_CHUNK and 20 bytes
abbrev pub IsWholeError : List ℕ → Type 0
IsWholeError bytes =
    (word_at 12 bytes ≡ 4) × (((length bytes ≡ 28) × (word_at 16 bytes ≡ 1)) ⊎ ((length bytes ≡ 20) × (word_at 16 bytes ≡ 2)))
