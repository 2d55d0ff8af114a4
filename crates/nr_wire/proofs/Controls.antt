-- The two bytes that open an ULPDU, and their fields.
use Rattle.std.proofs.Common.{◌≡◌, ℕ, ◌+◌, ◌*◌, ◌/◌, ◌%◌, ◌<◌, Bool, true, false, refl, arith}
use Rattle.std.proofs.lemmas.Bool.{eq-eqb, ne_eqb, eqb-true, eqb-false}
use Rattle.nr_xdr.specs.Item.{bit}
use Rattle.nr_wire.specs.Fields.{has_bit}

abbrev pub first_control : ℕ → Bool → Bool → ℕ
first_control reserved tagged last = 128 * bit tagged + 64 * bit last + 4 * reserved + 1

abbrev pub second_control : ℕ → ℕ → ℕ
second_control spare opcode = 64 * 1 + 16 * spare + opcode

pub first_tagged : (reserved : ℕ) (tagged last : Bool) → reserved < 16 → has_bit 128 (first_control reserved tagged last) ≡ tagged
first_tagged r true true lt = eq-eqb _ _ (omega arith)
first_tagged r true false lt = eq-eqb _ _ (omega arith)
first_tagged r false true lt = ne_eqb _ _ (λ e. omega arith)
first_tagged r false false lt = ne_eqb _ _ (λ e. omega arith)

pub first_last : (reserved : ℕ) (tagged last : Bool) → reserved < 16 → has_bit 64 (first_control reserved tagged last) ≡ last
first_last r true true lt = eq-eqb _ _ (omega arith)
first_last r true false lt = ne_eqb _ _ (λ e. omega arith)
first_last r false true lt = eq-eqb _ _ (omega arith)
first_last r false false lt = ne_eqb _ _ (λ e. omega arith)

pub first_version : (reserved : ℕ) (tagged last : Bool) → first_control reserved tagged last % 4 ≡ 1
first_version r true true = omega arith
first_version r true false = omega arith
first_version r false true = omega arith
first_version r false false = omega arith

pub second_version : (spare opcode : ℕ) → spare < 4 → opcode < 16 → second_control spare opcode / 64 ≡ 1
second_version spare opcode p q = omega arith

pub second_opcode : (spare opcode : ℕ) → opcode < 16 → second_control spare opcode % 16 ≡ opcode
second_opcode spare opcode q = omega arith

-- a bit by its test
bit_of : (value n : ℕ) (b : Bool) → has_bit value n ≡ b → n / value % 2 < 2 → n / value % 2 ≡ bit b
bit_of value n true e lt = eqb-true _ _ e
bit_of value n false e lt = let ne = eqb-false _ _ e in omega (arith, ne)

-- the first byte by its fields
pub first_is : (n : ℕ) → n < 256 → n % 4 ≡ 1 → n ≡ first_control (n / 4 % 16) (has_bit 128 n) (has_bit 64 n)
first_is n lt v =
    let t = bit_of 128 n (has_bit 128 n) refl (omega arith) in
    let l = bit_of 64 n (has_bit 64 n) refl (omega arith) in
    omega (arith, t, l)

pub second_is : (n : ℕ) → n < 256 → n / 64 ≡ 1 → n ≡ second_control (n / 16 % 4) (n % 16)
second_is n lt v = omega arith
