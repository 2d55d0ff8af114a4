-- What an endpoint keeps of the incomplete frame. A side that awaits an FPDU and hasn't ended has accepted the peer's hello.
use Rattle.std.specs.Prelude.{◌≡◌, ℕ, ◌≤◌, List, length, take, Bool, Option, is_some, true, false}
use Rattle.nr_wire.specs.Constants.{FPDU_MAX}
use Rattle.nr_wire.specs.declared.stream.Awaited.{Awaited}
use Rattle.nr_wire.specs.declared.stream.Awaited.TheVariants.{Fpdu}
use Rattle.nr_wire.specs.Stream.{IsPartial}
use Rattle.nr_link.specs.declared.end.End.{End}

pub record IsStaged (awaited : Awaited) (ended : Option End) (has_hello : Bool) (staging : List ℕ) (staged : ℕ) : Type 0 where
  pub len : length staging ≡ FPDU_MAX
  pub within : staged ≤ FPDU_MAX
  pub partial : IsPartial awaited (take staged staging)
  pub ended_empty : is_some ended ≡ true → staged ≡ 0
  pub greeted : is_some ended ≡ false → awaited ≡ Fpdu → has_hello ≡ true
