-- The private data that a side of a link says is short.
use Rattle.std.proofs.Common.{◌≡◌, ℕ, ◌≤◌, Bool, true, false, not, cond, ◌&&◌, eqb, List, [], ◌∷◌, ◌++◌, length, Option, None, Some, refl, arith, lit≤}
use Rattle.std.proofs.lemmas.List.{length-append}
use Rattle.nr_xdr.specs.Item.{hyper}
use Rattle.nr_xdr.proofs.WordBytes.{length_hyper}
use Rattle.nr_wire.specs.Constants.{NUMBERED_TERMS_LEN}
use Rattle.nr_wire.specs.declared.terms.Terms.{Terms}
use Rattle.nr_wire.specs.Terms.{terms_key, terms_flags, units_byte, number_encoding, terms_encoding, terms_in}
use Rattle.nr_link.specs.declared.agreement.SideTerms.{SideTerms}
use Rattle.nr_link.specs.Agreement.{initiator_private, responder_private, responder_private_by}

abbrev IsShort : List ℕ → Type 0
IsShort private = length private ≤ NUMBERED_TERMS_LEN

number_short : (number : ℕ) → length (number_encoding number) ≤ 8
number_short number = by (eqb number 0)
  where
    by : (b : Bool) → length (cond b [] (hyper number)) ≤ 8
    by true = lit≤ tt
    by false = omega (arith, length_hyper number)

terms_short : (units number : ℕ) (invalidates : Bool) → IsShort (terms_encoding units number invalidates)
unfolding terms_encoding terms_key
terms_short units number invalidates =
    let fields : List ℕ = terms_flags number invalidates ∷ units_byte units ∷ units_byte units ∷ [] in
    let last : List ℕ = number_encoding number in
    let key_len : length terms_key ≡ 5 = refl in
    let fields_len : length fields ≡ 3 = refl in
    omega (arith, key_len, fields_len, length-append terms_key (fields ++ last), length-append fields last, number_short number)

pub initiator_short : (t : SideTerms) → IsShort (initiator_private t)
unfolding initiator_private
initiator_short t = by (eqb (units_byte t.units) 0 && (eqb t.number 0 && not t.invalidates))
  where
    by : (b : Bool) → IsShort (cond b [] (terms_encoding t.units t.number t.invalidates))
    by true = lit≤ tt
    by false = terms_short t.units t.number t.invalidates

pub responder_short : (t : SideTerms) (initiator : List ℕ) → IsShort (responder_private t initiator)
unfolding responder_private
responder_short t initiator = by (terms_in initiator)
  where
    by : (o : Option Terms) → IsShort (responder_private_by t o)
    by None = lit≤ tt
    by (Some terms) = terms_short t.units 0 t.invalidates
