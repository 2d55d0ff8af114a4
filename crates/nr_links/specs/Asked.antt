-- The addresses that a dialer or an acceptor was asked for, if they are known.
use Rattle.std.specs.Prelude.{◌≡◌, ⊤, List, ℕ, [], ◌∷◌, ◌++◌, Option, None, Some}

-- this address comes after those before it
abbrev pub Asks : Option (List (List ℕ)) → Option (List (List ℕ)) → List ℕ → Type 0
Asks None new address = ⊤
Asks (Some before) new address = new ≡ Some (before ++ address ∷ [])
