-- How a path is cut from its front.
use Rattle.std.specs.Prelude.{◌≡◌, ℕ, suc, ◌==◌, if◌then◌else◌, List, [], ◌∷◌, ◌++◌, Result, Ok, Err}
use Rattle.nr_client.specs.declared.client_end.ClientEnd.{ClientEnd}
use Rattle.nr_client.specs.Paths.{slash}
use Rattle.nr_client.specs.Results.{Gives}

-- the number of bytes before the first slash
abbrev pub piece_length : List ℕ → ℕ
piece_length [] = 0
piece_length (byte ∷ bytes) = if byte == slash then 0 else suc (piece_length bytes)

-- names in front of others
abbrev pub after_names : List (List ℕ) → Result (List (List ℕ)) ClientEnd → Result (List (List ℕ)) ClientEnd
after_names front (Ok names) = Ok (front ++ names)
after_names front (Err end) = Err end

-- the names come after the old ones; else the result is the end, or memory ran out
abbrev pub PushesNames : (old new : List (List ℕ)) → Result (Unit {0}) ClientEnd → Result (List (List ℕ)) ClientEnd → Type 0
PushesNames old new (Ok done) names = after_names old names ≡ Ok new
PushesNames old new (Err end) names = Gives {A = List (List ℕ)} (Err end) (after_names old names)
