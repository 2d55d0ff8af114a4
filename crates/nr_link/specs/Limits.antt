-- Limits of a link, each by its one name. All are own.
use Rattle.std.specs.Prelude.{ℕ}

-- the maximum payload of a segment that is written, in bytes; one that is received may have more
abbrev pub segment_max : ℕ
segment_max = 4096

-- the Read Requests that a side may have open, and the responses that it may owe before it has written them (RFC 5040
-- leaves the number to the sides)
abbrev pub open_reads_max : ℕ
open_reads_max = 8

-- the unit of the length of a Send, in bytes: its maximum in each direction, unless the sides agree on more
abbrev pub send_unit : ℕ
send_unit = 1024
