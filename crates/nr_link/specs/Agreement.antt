-- What both sides of a link agree on by the private data of their hellos: how long a Send may be in each direction, and whether a reply is a
-- Send with Invalidate. All of it is own.
use Rattle.std.specs.Prelude.{◌≡◌, ℕ, ◌*◌, ◌≤◌, min, Bool, false, not, ◌&&◌, ◌==◌, if◌then◌else◌, List, [], Option, None, Some}
use Rattle.nr_wire.specs.Constants.{UNITS_MAX}
use Rattle.nr_wire.specs.declared.terms.Terms.{Terms}
use Rattle.nr_wire.specs.Terms.{terms_encoding, terms_in, units_byte}
use Rattle.nr_link.specs.declared.agreement.SideTerms.{SideTerms}
use Rattle.nr_link.specs.declared.agreement.Agreement.{Agreement}
use Rattle.nr_link.specs.Limits.{send_unit}

-- a side with these units, without a number, and whether it makes or takes Sends with Invalidate
abbrev pub terms_with : (units : ℕ) → (invalidates : Bool) → SideTerms
terms_with units invalidates = record { units = units; number = 0; invalidates = invalidates }

-- one that makes and takes none
abbrev pub sized_terms : (units : ℕ) → SideTerms
sized_terms units = terms_with units false

abbrev pub default_terms : SideTerms
default_terms = sized_terms 1

-- An initiator has private data unless it has one unit and no flags. A responder has its own if that of the initiator is of this project;
-- it says no number of a client.
unfoldable pub initiator_private : SideTerms → List ℕ
initiator_private t = if units_byte t.units == 0 && (t.number == 0 && not t.invalidates) then [] else terms_encoding t.units t.number t.invalidates

abbrev pub responder_private_by : SideTerms → Option Terms → List ℕ
responder_private_by t None = []
responder_private_by t (Some terms) = terms_encoding t.units 0 t.invalidates

unfoldable pub responder_private : SideTerms → (initiator : List ℕ) → List ℕ
responder_private t initiator = responder_private_by t (terms_in initiator)

-- until the peer's hello was accepted, and if one of both has no terms
abbrev pub default_agreement : Agreement
default_agreement = record { up = send_unit; down = send_unit; invalidates = false }

abbrev pub agreed_by : Option Terms → Option Terms → Agreement
agreed_by None responder = default_agreement
agreed_by (Some i) None = default_agreement
agreed_by (Some i) (Some r) = record {
  up = send_unit * min i.sends r.receives;
  down = send_unit * min r.sends i.receives;
  invalidates = i.invalidates && r.invalidates;
}

-- by the private data of both hellos
unfoldable pub agreement : (initiator responder : List ℕ) → Agreement
agreement initiator responder = agreed_by (terms_in initiator) (terms_in responder)

-- the number of a client by the private data of its hello, or 0 if it has none
abbrev pub number_by : Option Terms → ℕ
number_by None = 0
number_by (Some terms) = terms.number

unfoldable pub client_number : (initiator : List ℕ) → ℕ
client_number initiator = number_by (terms_in initiator)

-- a length that a direction may have: from one unit to UNITS_MAX of them
abbrev pub IsSendLimit : ℕ → Type 0
IsSendLimit size = (send_unit ≤ size) × (size ≤ send_unit * UNITS_MAX)

-- Whatever the private data of both hellos is, the agreed lengths are from one unit to UNITS_MAX of them.
abbrev pub AgreementsAreBounded : Type 0
AgreementsAreBounded = (initiator responder : List ℕ) →
    IsSendLimit (agreement initiator responder).up × IsSendLimit (agreement initiator responder).down

-- If a side has no private data, one unit is agreed in each direction.
abbrev pub DefaultsWithoutTerms : Type 0
DefaultsWithoutTerms = (private : List ℕ) → (agreement [] private ≡ default_agreement) × (agreement private [] ≡ default_agreement)
