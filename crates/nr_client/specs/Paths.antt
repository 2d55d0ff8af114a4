-- The components of a path.
use Rattle.std.specs.Prelude.{ℕ, suc, ◌+◌, ◌==◌, if◌then◌else◌, List, [], ◌∷◌, length, Result, Ok, Err, ltb}
use Rattle.nr_nfs_base.specs.Limits.{name_length_max}
use Rattle.nr_client.specs.declared.client_end.ClientEnd.{ClientEnd}
use Rattle.nr_client.specs.declared.client_end.ClientEnd.TheVariants as client

-- the byte between the components of a path: "/"
abbrev pub slash : ℕ
slash = 47

-- the maximum length of a component in bytes: that of a name
abbrev pub component_max : ℕ
component_max = name_length_max

-- a byte at the front of the first piece
abbrev pub onto_first : ℕ → List (List ℕ) → List (List ℕ)
onto_first byte [] = (byte ∷ []) ∷ []
onto_first byte (piece ∷ pieces) = (byte ∷ piece) ∷ pieces

-- a path cut at each slash
abbrev pub pieces_of : List ℕ → List (List ℕ)
pieces_of [] = [] ∷ []
pieces_of (byte ∷ bytes) = if byte == slash then [] ∷ pieces_of bytes else onto_first byte (pieces_of bytes)

-- the pieces that are not empty, each with its offset in the path; the first piece begins at this offset
abbrev pub with_offsets : ℕ → List (List ℕ) → List (ℕ × List ℕ)
with_offsets at [] = []
with_offsets at ([] ∷ pieces) = with_offsets (suc at) pieces
with_offsets at ((byte ∷ piece) ∷ pieces) = (at, byte ∷ piece) ∷ with_offsets (suc (at + suc (length piece))) pieces

-- the components of a path, each with its offset
abbrev pub components_of : List ℕ → List (ℕ × List ℕ)
components_of path = with_offsets 0 (pieces_of path)

abbrev pub with_name : List ℕ → Result (List (List ℕ)) ClientEnd → Result (List (List ℕ)) ClientEnd
with_name name (Ok names) = Ok (name ∷ names)
with_name name (Err end) = Err end

-- the names of components; or BadPath at the first that is too long
abbrev pub names_in : List (ℕ × List ℕ) → Result (List (List ℕ)) ClientEnd
names_in [] = Ok []
names_in (component ∷ rest) = if ltb component_max (length component.1) then Err (client.BadPath component.0) else with_name component.1 (names_in rest)

abbrev pub path_names : List ℕ → Result (List (List ℕ)) ClientEnd
path_names path = names_in (components_of path)
