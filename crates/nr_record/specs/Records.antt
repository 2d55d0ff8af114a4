-- Record marking (RFC 5531 section 11): a record is sent as fragments, each a header of four bytes and its payload (the fragment data).
use Rattle.std.specs.Prelude.{◌≡◌, ℕ, ◌+◌, ◌*◌, ◌^◌, ◌<◌, Bool, true, false, List, [], ◌∷◌, ◌++◌, length}
use Rattle.std.specs.List.{concat, AllByRecursion}
use Rattle.nr_xdr.specs.Item.{word, bit}
use Rattle.nr_record.specs.Constants.{RECORD_MAX}

-- the header: its high bit says that the fragment is the last of its record, its other 31 bits are the length
abbrev pub header : Bool → ℕ → List ℕ
header last len = word (2 ^ 31 * bit last + len)

abbrev pub fragment : Bool → List ℕ → List ℕ
fragment last payload = header last (length payload) ++ payload

-- fragments that aren't the last of a record
abbrev pub fragments : List (List ℕ) → List ℕ
fragments [] = []
fragments (payload ∷ more) = fragment false payload ++ fragments more

-- a record, cut into the payloads of its fragments
pub record Cut : Type 0 where
  pub before : List (List ℕ)
  pub last : List ℕ

-- the record's bytes, and those that encode it in these fragments
abbrev pub content : Cut → List ℕ
content c = concat c.before ++ c.last

abbrev pub encoding : Cut → List ℕ
encoding c = fragments c.before ++ fragment true c.last

-- a length has 31 bits
abbrev pub IsShort : List ℕ → Type 0
IsShort payload = length payload < 2 ^ 31

abbrev pub Fits : Cut → Type 0
Fits c = AllByRecursion IsShort c.before × IsShort c.last

abbrev pub contents : List Cut → List (List ℕ)
contents [] = []
contents (c ∷ cuts) = content c ∷ contents cuts

abbrev pub encodings : List Cut → List ℕ
encodings [] = []
encodings (c ∷ cuts) = encoding c ++ encodings cuts

-- the bytes are a proper prefix of the encoding of a record
pub record IsBegun (rest : List ℕ) : Type 0 where
  pub cut : Cut
  pub fits : Fits cut
  pub missing : List ℕ
  pub some : 0 < length missing
  pub encoded : encoding cut ≡ rest ++ missing

-- the bytes are encodings of the records, in their order, and a proper prefix of one
pub record RecordsEncode (bytes : List ℕ) (records : List (List ℕ)) (rest : List ℕ) : Type 0 where
  pub cuts : List Cut
  pub fit : AllByRecursion Fits cuts
  pub records_are : records ≡ contents cuts
  pub bytes_are : bytes ≡ encodings cuts ++ rest
  pub begun : IsBegun rest

-- the header of a fragment whose length takes its record above the limit begins at this offset of the stream
pub record IsAboveAt (stream : List ℕ) (at : ℕ) : Type 0 where
  pub cuts : List Cut
  pub fit : AllByRecursion Fits cuts
  pub begun : List (List ℕ)
  pub begun_fit : AllByRecursion IsShort begun
  pub last : Bool
  pub len : ℕ
  pub short : len < 2 ^ 31
  pub more : List ℕ
  pub above : RECORD_MAX < length (concat begun) + len
  pub stream_is : stream ≡ (encodings cuts ++ fragments begun) ++ (header last len ++ more)
  pub at_is : at ≡ length (encodings cuts ++ fragments begun)

-- each record in one fragment
abbrev pub as_one : List (List ℕ) → List Cut
as_one [] = []
as_one (bytes ∷ records) = record { before = []; last = bytes } ∷ as_one records
