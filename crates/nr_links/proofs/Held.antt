-- A byte that is held, and what a source handed out.
use Rattle.std.proofs.Common.{◌≡◌, ℕ, zero, suc, ◌<◌, ◌≤◌, ◌==◌, Bool, true, false, List, [], ◌∷◌, ◌++◌, length, take, Option, None, Some, arith, refl, sym, ap, subst, ◌∙◌, slice_index_or, slice_set}
use Rattle.std.specs.Prelude.{if◌then◌else◌}
use Rattle.std.specs.Option.{option_map}
use Rattle.std.specs.Io.KnownBytes.{Appends, Consumes, Keeps}
use Rattle.nr_outside.specs.Content.{HandsOut}
use Rattle.std.proofs.lemmas.Option.{none-some, same_Some}
use Rattle.std.proofs.lemmas.Bool.{eq-eqb, eqb-true}
use Rattle.nr_links.specs.Peeked.{before_last, given_without, left_with}

-- the last byte is this one
pub last_is : (byte : ℕ) (front : List ℕ) → before_last byte (front ++ byte ∷ []) ≡ Some front
last_is byte [] = ap (λ (b : Bool). if b then Some [] else None) (eq-eqb byte byte refl)
last_is byte (x ∷ []) = ap (option_map (λ (l : List ℕ). x ∷ l)) (last_is byte [])
last_is byte (x ∷ y ∷ xs) = ap (option_map (λ (l : List ℕ). x ∷ l)) (last_is byte (y ∷ xs))

by_byte : (b : Bool) (x byte : ℕ) (front : List ℕ) → (x == byte) ≡ b → (if b then Some [] else None) ≡ Some front → x ∷ [] ≡ front ++ byte ∷ []
by_byte true x byte front e is = ap (λ (n : ℕ). n ∷ []) (eqb-true x byte e) ∙ ap (λ (l : List ℕ). l ++ byte ∷ []) (same_Some [] front is)
by_byte false x byte front e is = absurd (none-some front is)

by_rest : (o : Option (List ℕ)) (x byte : ℕ) (rest front : List ℕ) → ((h : List ℕ) → o ≡ Some h → rest ≡ h ++ byte ∷ []) → option_map (λ (l : List ℕ). x ∷ l) o ≡ Some front
    → x ∷ rest ≡ front ++ byte ∷ []
by_rest None x byte rest front more is = absurd (none-some front is)
by_rest (Some h) x byte rest front more is = ap (λ (l : List ℕ). x ∷ l) (more h refl) ∙ ap (λ (l : List ℕ). l ++ byte ∷ []) (same_Some (x ∷ h) front is)

pub is_last : (byte : ℕ) (given front : List ℕ) → before_last byte given ≡ Some front → given ≡ front ++ byte ∷ []
is_last byte [] front is = absurd (none-some front is)
is_last byte (x ∷ []) front is = by_byte (x == byte) x byte front refl is
is_last byte (x ∷ y ∷ xs) front is = by_rest (before_last byte (y ∷ xs)) x byte (y ∷ xs) front (λ h e. is_last byte (y ∷ xs) h e) is

-- a byte that a source handed out is held: nothing was handed out
held_back : (given given' : Option (List ℕ)) (byte : ℕ) → Appends given given' (byte ∷ []) → Keeps given (given_without (Some byte) given')
held_back None given' byte p = tt
held_back (Some front) None byte p = absurd p
held_back (Some front) (Some given) byte p =
    subst (Keeps (Some front)) (sym (ap (before_last byte) p ∙ last_is byte front)) refl

-- the one byte that was read
one : (buf : List ℕ) (n : ℕ) → n ≤ 1 → (n ≡ 0 → ⊥) → length buf ≡ 1 → take n buf ≡ slice_index_or buf 0 0 ∷ []
one [] n most some len = absurd (omega (arith, len))
one (x ∷ []) zero most some len = absurd (some refl)
one (x ∷ []) (suc zero) most some len = refl
one (x ∷ []) (suc (suc n)) most some len = absurd (omega (arith, most))
one (x ∷ y ∷ xs) n most some len = absurd (omega (arith, len))

pub one_held : (given given' : Option (List ℕ)) (buf : List ℕ) (n : ℕ) → Appends given given' (take n buf) → n ≤ 1 → (n ≡ 0 → ⊥) → length buf ≡ 1
    → Keeps given (given_without (Some (slice_index_or buf 0 0)) given')
one_held given given' buf n p most some len =
    held_back given given' (slice_index_or buf 0 0) (subst (Appends given given') (one buf n most some len) p)

by_front : (byte : ℕ) (given : List ℕ) (o : Option (List ℕ)) → before_last byte given ≡ o → Appends o (Some given) (byte ∷ [])
by_front byte given None e = tt
by_front byte given (Some front) e = is_last byte given front e

-- the byte that is held is handed out
pub handed_out : (given : Option (List ℕ)) (byte : ℕ) → Appends (given_without (Some byte) given) given (byte ∷ [])
handed_out None byte = tt
handed_out (Some given) byte = by_front byte given (before_last byte given) refl

byte_first : (byte : ℕ) (left : Option (List ℕ)) → Consumes (left_with (Some byte) left) (left_with None left) (byte ∷ [])
byte_first byte None = tt
byte_first byte (Some left) = refl

-- it is put at the front of a buffer
pub held_read : (held : Option ℕ) (byte : ℕ) (left left' given given' : Option (List ℕ)) (buf : List ℕ) → held ≡ Some byte → left ≡ left' → given ≡ given' → 0 < length buf
    → HandsOut (left_with held left) (given_without held given) (left_with None left') given' (take 1 (slice_set buf 0 byte))
held_read held byte left left' given given' [] is l g some = absurd (omega (arith, some))
held_read held byte left left' given given' (x ∷ buf) is l g some =
    let out : HandsOut (left_with (Some byte) left') (given_without (Some byte) given') (left_with None left') given' (byte ∷ []) =
    record { from_left = byte_first byte left'; to_given = handed_out given' byte } in
    subst (λ (h : Option ℕ). HandsOut (left_with h left) (given_without h given) (left_with None left') given' (byte ∷ [])) (sym is)
    (subst (λ (o : Option (List ℕ)). HandsOut (left_with (Some byte) o) (given_without (Some byte) given) (left_with None left') given' (byte ∷ [])) (sym l)
    (subst (λ (o : Option (List ℕ)). HandsOut (left_with (Some byte) left') (given_without (Some byte) o) (left_with None left') given' (byte ∷ [])) (sym g) out))
