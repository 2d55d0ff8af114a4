-- A buffer and the part of it that is a region.
use Rattle.std.specs.Prelude.{ℕ, List, refl}
use Rattle.std.specs.Coded.{Coded, code_by, coded×, coded_ℕ, coded_list}
use Rattle.nr_regions.specs.RegisteredMemory.{Outside, outside_window, window_bytes}

-- the bytes of the part, and those of the buffer outside of it
pub record BufferParts : Type 0 where
  pub bytes : List ℕ
  pub outside : Outside

abbrev pub window_in : (start len : ℕ) → List ℕ → BufferParts
window_in start len buf = record { bytes = window_bytes start len buf; outside = outside_window start len buf }

abbrev pub outside_code : Coded Outside
outside_code = code_by (List ℕ × List ℕ) (coded× (coded_list coded_ℕ) (coded_list coded_ℕ)) (λ o. (o.front, o.rest)) (λ p. record { front = p.0; rest = p.1 }) (λ _. refl)

abbrev pub buffer_parts_code : Coded BufferParts
buffer_parts_code = code_by (List ℕ × Outside) (coded× (coded_list coded_ℕ) outside_code) (λ w. (w.bytes, w.outside)) (λ p. record { bytes = p.0; outside = p.1 }) (λ _. refl)
