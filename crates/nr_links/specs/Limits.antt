-- The limits of what is read of a link. Both are own.
use Rattle.std.specs.Prelude.{ℕ, ◌^◌}

-- the maximum number of bytes that are read of a link
abbrev pub read_max : ℕ
read_max = 2 ^ 40

-- the maximum number of bytes of one read of a link
abbrev pub piece_max : ℕ
piece_max = 65536
