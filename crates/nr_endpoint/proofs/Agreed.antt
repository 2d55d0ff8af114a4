-- What is agreed fits the receives of a side.
use Rattle.std.proofs.Common.{◌≡◌, ℕ, ◌*◌, ◌≤◌, min, max, Bool, true, false, if◌then◌else◌, List, [], Option, None, Some, refl, arith}
use Rattle.std.proofs.Math.Nat.{min-le_right}
use Rattle.nr_wire.specs.Constants.{UNITS_MAX}
use Rattle.nr_wire.specs.declared.hello.Side.{Side}
use Rattle.nr_wire.specs.declared.hello.Side.TheVariants.{Initiator, Responder}
use Rattle.nr_wire.specs.declared.terms.Terms.{Terms}
use Rattle.nr_wire.specs.Terms.{terms_in, terms_encoding, terms_key, units_byte, units_of_byte}
use Rattle.nr_link.specs.declared.agreement.SideTerms.{SideTerms}
use Rattle.nr_link.specs.Agreement.{initiator_private, responder_private, responder_private_by, agreement, agreed_by}
use Rattle.nr_link.specs.Limits.{send_unit}
use Rattle.nr_endpoint.specs.Hellos.{own_private, side_agreement, received_max, receive_length_for}

-- these terms, if there are any, say n units in both directions
abbrev Says : ℕ → Option Terms → Type 0
Says n None = Unit {0}
Says n (Some t) = (t.sends ≡ n) × (t.receives ≡ n)

says_if : (b : Bool) (n : ℕ) (t : Terms) → t.sends ≡ n → t.receives ≡ n → Says n (if b then Some t else None)
says_if true n t sends receives = (sends, receives)
says_if false n t sends receives = tt

encoding_says : (units number : ℕ) (invalidates : Bool) → Says (units_of_byte (units_byte units)) (terms_in (terms_encoding units number invalidates))
unfolding terms_in terms_encoding terms_key
encoding_says units number invalidates = says_if _ _ _ refl refl

nothing_says : (n : ℕ) → Says n (terms_in [])
unfolding terms_in
nothing_says n = tt

says_unless : (b : Bool) (n : ℕ) (private : List ℕ) → Says n (terms_in private) → Says n (terms_in (if b then [] else private))
says_unless true n private says = nothing_says n
says_unless false n private says = says

initiator_says : (t : SideTerms) → Says (units_of_byte (units_byte t.units)) (terms_in (initiator_private t))
unfolding initiator_private
initiator_says t = says_unless _ _ _ (encoding_says t.units t.number t.invalidates)

responder_says_by : (t : SideTerms) (said : Option Terms) → Says (units_of_byte (units_byte t.units)) (terms_in (responder_private_by t said))
responder_says_by t None = nothing_says _
responder_says_by t (Some terms) = encoding_says t.units 0 t.invalidates

responder_says : (t : SideTerms) (peer_private : List ℕ) → Says (units_of_byte (units_byte t.units)) (terms_in (responder_private t peer_private))
unfolding responder_private
responder_says t peer_private = responder_says_by t (terms_in peer_private)

-- the units that private data says are those of the receives
units_said : (units : ℕ) → units_of_byte (units_byte units) ≡ min (max units 1) UNITS_MAX
units_said units = omega arith

down_fits : (initiator responder : Option Terms) (n : ℕ) → 1 ≤ n → Says n initiator → (agreed_by initiator responder).down ≤ send_unit * n
down_fits None responder n some says = omega (arith, some)
down_fits (Some i) None n some says = omega (arith, some)
down_fits (Some i) (Some r) n some says = (let receives = says.1 in omega (arith, min-le_right r.sends i.receives, receives))

up_fits : (initiator responder : Option Terms) (n : ℕ) → 1 ≤ n → Says n responder → (agreed_by initiator responder).up ≤ send_unit * n
up_fits None responder n some says = omega (arith, some)
up_fits (Some i) None n some says = omega (arith, some)
up_fits (Some i) (Some r) n some says = (let receives = says.1 in omega (arith, min-le_right i.sends r.receives, receives))

-- a message that a side receives fits its receive
pub agreed_fits : (terms : SideTerms) (side : Side) (peer_private : List ℕ) →
    received_max side (side_agreement side (own_private terms side peer_private) peer_private) ≤ receive_length_for terms
unfolding agreement
agreed_fits t Initiator peer_private =
    omega (arith, units_said t.units, down_fits (terms_in (initiator_private t)) (terms_in peer_private) _ (omega arith) (initiator_says t))
agreed_fits t Responder peer_private =
    omega (arith, units_said t.units, up_fits (terms_in peer_private) (terms_in (responder_private t peer_private)) _ (omega arith) (responder_says t peer_private))
