-- The numbers of this crate, each written once more.
use Rattle.std.specs.Prelude.{ℕ}

-- the maximum length of a record in bytes
abbrev pub RECORD_MAX : ℕ
RECORD_MAX = 1056768

-- bytes of a fragment's header
abbrev pub HEADER_LEN : ℕ
HEADER_LEN = 4

-- the reason for which a fragment above that limit is refused
abbrev pub REASON_RECORD : ℕ
REASON_RECORD = 26
