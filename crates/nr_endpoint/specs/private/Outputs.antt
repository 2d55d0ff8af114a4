-- What contracts see of output: the bytes that wait; the room after them; and the room beyond that which is kept for bytes that come later.
use Rattle.std.specs.Prelude.{ℕ, List, refl}
use Rattle.std.specs.Coded.{Coded, code_by, coded×, coded_ℕ, coded_list}

pub record OutputView : Type 0 where
  pub items : List ℕ
  pub spare : ℕ
  pub kept : ℕ

abbrev pub output_code : Coded OutputView
output_code = code_by (List ℕ × (ℕ × ℕ)) (coded× (coded_list coded_ℕ) (coded× coded_ℕ coded_ℕ)) (λ o. (o.items, (o.spare, o.kept))) (λ p. record { items = p.0; spare = p.1.0; kept = p.1.1 }) (λ _. refl)
