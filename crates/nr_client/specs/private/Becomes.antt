-- The result of a function that changes a value in place.
use Rattle.std.specs.Prelude.{Result, Ok, Err}
use Rattle.nr_client.specs.declared.client_end.ClientEnd.{ClientEnd}

-- what it made of the value, if it succeeded
abbrev pub becomes : {A : Type 0} → A → Result (Unit {0}) ClientEnd → Result A ClientEnd
becomes value (Ok done) = Ok value
becomes value (Err end) = Err end
