-- The room in which a payload is put together, as contracts see it.
use Rattle.std.specs.Prelude.{ℕ, List, refl}
use Rattle.std.specs.Coded.{Coded, code_by, coded×, coded_ℕ, coded_list}

-- the bytes that were written into it, and how many it has room for
pub record PayloadRoom : Type 0 where
  pub bytes : List ℕ
  pub len : ℕ

abbrev pub payload_room_code : Coded PayloadRoom
payload_room_code =
    code_by (List ℕ × ℕ) (coded× (coded_list coded_ℕ) coded_ℕ) (λ r. (r.bytes, r.len)) (λ p. record { bytes = p.0; len = p.1 }) (λ _. refl)
