-- What the hello of a side says in its private data, and what is agreed by the hellos of both (RFC 5044 section 7.1; what they say is own).
use Rattle.std.specs.Prelude.{ℕ, ◌*◌, min, max, Bool, true, false, ◌&&◌, ◌==◌, List, [], Option, None, Some}
use Rattle.nr_wire.specs.Constants.{UNITS_MAX}
use Rattle.nr_wire.specs.declared.hello.Side.{Side}
use Rattle.nr_wire.specs.declared.hello.Side.TheVariants.{Initiator, Responder}
use Rattle.nr_link.specs.declared.agreement.SideTerms.{SideTerms}
use Rattle.nr_link.specs.declared.agreement.Agreement.{Agreement}
use Rattle.nr_link.specs.Agreement.{initiator_private, responder_private, agreement, client_number}
use Rattle.nr_link.specs.Limits.{send_unit}

-- the private data of a side's hello, by that of its peer's, to which a responder answers
abbrev pub own_private : SideTerms → Side → (peer_private : List ℕ) → List ℕ
own_private terms Initiator peer_private = initiator_private terms
own_private terms Responder peer_private = responder_private terms peer_private

-- what it has said as it is opened: a responder has said nothing
abbrev pub first_private : SideTerms → Side → List ℕ
first_private terms Initiator = own_private terms Initiator []
first_private terms Responder = []

-- what is agreed, by a side's private data and by its peer's
abbrev pub side_agreement : Side → (own peer_private : List ℕ) → Agreement
side_agreement Initiator own peer_private = agreement own peer_private
side_agreement Responder own peer_private = agreement peer_private own

-- whether two hellos to a side, on an earlier link and on this one, agree on the same lengths of Sends
abbrev pub has_same_sizes : (earlier : Option Agreement) → Agreement → Bool
has_same_sizes None agreed = true
has_same_sizes (Some earlier) agreed = earlier.up == agreed.up && earlier.down == agreed.down

-- the maximum length of a message that a side receives, in bytes
abbrev pub received_max : Side → Agreement → ℕ
received_max Initiator agreed = agreed.down
received_max Responder agreed = agreed.up

-- An initiator takes a Send with Invalidate if that is agreed, a responder never.
abbrev pub takes_invalidate : Side → Agreement → Bool
takes_invalidate Initiator agreed = agreed.invalidates
takes_invalidate Responder agreed = false

-- The number of the link's client: an initiator's own; a responder's by the initiator's hello, and 0 before it was accepted.
abbrev pub first_client : SideTerms → Side → ℕ
first_client terms Initiator = terms.number
first_client terms Responder = 0

abbrev pub client_heard : SideTerms → Side → (peer_private : List ℕ) → ℕ
client_heard terms Initiator peer_private = terms.number
client_heard terms Responder peer_private = client_number peer_private

-- the length of each receive in bytes: of the units of the side's terms, from 1 to UNITS_MAX
abbrev pub receive_length_for : SideTerms → ℕ
receive_length_for terms = send_unit * min (max terms.units 1) UNITS_MAX
