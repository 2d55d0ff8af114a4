-- Sizes and limits, each by its one name. All are own. The bytes of a stream and of a read list together, and the counts of
-- segments, are in nr_header.
use Rattle.std.specs.Prelude.{ℕ}
use Rattle.nr_link.specs.Limits.{send_unit as link_send_unit}

-- the maximum of credits that a side may ask for or grant, and that a credit word counts for
abbrev pub credits_max : ℕ
credits_max = 64

-- the unit of the length of a Send, in bytes: its maximum in each direction, unless the sides agree on more
abbrev pub send_unit : ℕ
send_unit = link_send_unit

-- the maximum of an offer that is given, all its chunks together, in bytes
abbrev pub given_max : ℕ
given_max = 1056768

-- the maximum length of a segment of a chunk whose offer isn't given, in bytes
abbrev pub chunk_segment_max : ℕ
chunk_segment_max = 66048

-- how many xids up to the largest one of a client's entries a server remembers, that one among them
abbrev pub window : ℕ
window = 64

-- how many STags and xids there are: the last one is below this
abbrev pub numbers_end : ℕ
numbers_end = 4294967296
