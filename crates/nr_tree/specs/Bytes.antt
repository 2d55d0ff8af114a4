-- Bytes of a file: cut or filled up with zeros, and written over.
use Rattle.std.specs.Prelude.{ℕ, ◌+◌, ◌-◌, List, ◌++◌, length, take, drop, replicate}

-- the first n bytes, with zeros after them if there are fewer
abbrev pub with_length : List ℕ → ℕ → List ℕ
with_length bytes len = take len bytes ++ replicate (len - length bytes) 0

-- a piece written at an offset: what is before it, zeros in a gap, the piece, and what is after it
abbrev pub with_bytes_at : List ℕ → ℕ → List ℕ → List ℕ
with_bytes_at bytes offset piece = with_length bytes offset ++ (piece ++ drop (offset + length piece) bytes)
