-- What a side says in its private data is read so.
use Rattle.std.proofs.Common.{◌≡◌, ℕ, ◌+◌, ◌-◌, ◌*◌, ◌^◌, ◌<◌, ◌≤◌, min, Bool, true, false, not, cond, ◌&&◌, eqb, List, [], ◌∷◌, ◌++◌, length, None, Some, refl, sym, ap, ◌∙◌, arith, length-append}
use Rattle.std.specs.List.{starts_with}
use Rattle.std.specs.Prelude.{nat_eq, nat_le, if◌then◌else◌, slice_index}
use Rattle.std.proofs.lemmas.Bool.{le-leb, eqb-true}
use Rattle.std.proofs.lemmas.List.{take_at}
use Rattle.std.proofs.Math.Nat.{min-eq_left}
use Rattle.nr_xdr.specs.Item.{bit, hyper, hyper_of}
use Rattle.nr_xdr.proofs.WordBytes.{hyper_of_hyper, length_hyper}
use Rattle.nr_wire.specs.Constants.{NUMBERED_TERMS_LEN, TERMS_LEN, TERMS_NUMBER, TERMS_INVALIDATE, UNITS_MAX}
use Rattle.nr_wire.specs.Fields.{has_bit, hyper_at}
use Rattle.nr_wire.specs.Terms.{flags_in, number_in, terms_key, units_byte, units_of_byte, terms_encoding, terms_in, TermsAreRead}

-- private data with these flags, this byte of units twice, and what follows
abbrev saying : (flags units : ℕ) → List ℕ → List ℕ
saying flags units tail = terms_key ++ (flags ∷ units ∷ units ∷ []) ++ tail

length_saying : (flags units : ℕ) (tail : List ℕ) → length (saying flags units tail) ≡ 8 + length tail
unfolding terms_key
length_saying flags units tail =
    omega (arith, length-append terms_key ((flags ∷ units ∷ units ∷ []) ++ tail), length-append (flags ∷ units ∷ units ∷ []) tail)

said : (private : List ℕ) → nat_le TERMS_LEN (length private) ≡ true → starts_with nat_eq private terms_key ≡ true → terms_in private ≡ Some (record {
  sends = units_of_byte (slice_index private 6);
  receives = units_of_byte (slice_index private 7);
  number = number_in private;
  invalidates = has_bit TERMS_INVALIDATE (flags_in private);
})
unfolding terms_in
said private long key = λ i. cond (long i && key i) (Some (record {
  sends = units_of_byte (slice_index private 6);
  receives = units_of_byte (slice_index private 7);
  number = number_in private;
  invalidates = has_bit TERMS_INVALIDATE (flags_in private);
})) None

long_enough : (flags units : ℕ) (tail : List ℕ) → nat_le TERMS_LEN (length (saying flags units tail)) ≡ true
long_enough flags units tail = le-leb TERMS_LEN (length (saying flags units tail)) (omega (arith, length_saying flags units tail))

begins : (flags units : ℕ) (tail : List ℕ) → starts_with nat_eq (saying flags units tail) terms_key ≡ true
unfolding terms_key
begins flags units tail = refl

flags_by : (none invalidates : Bool) → ℕ
flags_by none invalidates = TERMS_NUMBER * bit (not none) + TERMS_INVALIDATE * bit invalidates

invalidate_said : (none invalidates : Bool) → has_bit TERMS_INVALIDATE (flags_by none invalidates) ≡ invalidates
unfolding flags_by
invalidate_said true true = refl
invalidate_said true false = refl
invalidate_said false true = refl
invalidate_said false false = refl

-- a number that follows is read
follows : (flags units number : ℕ) (more : List ℕ) → has_bit TERMS_NUMBER flags ≡ true → number < 2 ^ 64 →
    number_in (saying flags units (hyper number ++ more)) ≡ number
unfolding terms_key
follows flags units number more set fits =
    let private : List ℕ = saying flags units (hyper number ++ more) in
    ap (λ (b : Bool). cond (b && nat_le NUMBERED_TERMS_LEN (length private)) (hyper_at TERMS_LEN private) 0) set
    ∙ ap (λ (b : Bool). cond b (hyper_at TERMS_LEN private) 0) (le-leb NUMBERED_TERMS_LEN (length private)
    (omega (arith, length_saying flags units (hyper number ++ more), length-append (hyper number) more, length_hyper number)))
    ∙ ap hyper_of (take_at (hyper number) more 8 (length_hyper number))
    ∙ hyper_of_hyper number fits

number_said : (none invalidates : Bool) (units number : ℕ) (more : List ℕ) → (none ≡ true → number ≡ 0) → number < 2 ^ 64 →
    number_in (saying (flags_by none invalidates) units ((if none then [] else hyper number) ++ more)) ≡ number
unfolding flags_by terms_key
number_said true true units number more zero fits = sym (zero refl)
number_said true false units number more zero fits = sym (zero refl)
number_said false true units number more zero fits = follows 3 units number more refl fits
number_said false false units number more zero fits = follows 1 units number more refl fits

units_said : (units : ℕ) → 1 ≤ units → units ≤ UNITS_MAX → units_of_byte (units_byte units) ≡ units
units_said units least most =
    let byte : min (units - 1) (UNITS_MAX - 1) ≡ units - 1 = min-eq_left (omega (arith, least, most)) in
    ap (λ (n : ℕ). min n (UNITS_MAX - 1) + 1) byte ∙ ap (λ (n : ℕ). n + 1) byte ∙ omega (arith, least)

encoded : (units number : ℕ) (invalidates : Bool) (more : List ℕ) →
    terms_encoding units number invalidates ++ more ≡ saying (flags_by (eqb number 0) invalidates) (units_byte units) ((if eqb number 0 then [] else hyper number) ++ more)
unfolding terms_encoding terms_key flags_by
encoded units number invalidates more = refl

fields : (flags units : ℕ) (tail : List ℕ) (sends number : ℕ) (invalidates : Bool) → units_of_byte units ≡ sends → number_in (saying flags units tail) ≡ number →
    has_bit TERMS_INVALIDATE flags ≡ invalidates → terms_in (saying flags units tail) ≡ Some (record { sends = sends; receives = sends; number = number; invalidates = invalidates })
unfolding terms_key
fields flags units tail sends number invalidates sends_is number_is invalidates_is =
    said (saying flags units tail) (long_enough flags units tail) (begins flags units tail)
    ∙ (λ i. Some (record { sends = sends_is i; receives = sends_is i; number = number_is i; invalidates = invalidates_is i }))

pub terms_are_read : TermsAreRead
terms_are_read units number invalidates more least most fits =
    ap terms_in (encoded units number invalidates more)
    ∙ fields (flags_by (eqb number 0) invalidates) (units_byte units) ((if eqb number 0 then [] else hyper number) ++ more) units number invalidates
    (units_said units least most)
    (number_said (eqb number 0) invalidates (units_byte units) number more (eqb-true number 0) fits)
    (invalidate_said (eqb number 0) invalidates)
