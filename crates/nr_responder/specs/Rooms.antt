-- The room of a payload.
use Rattle.std.specs.Prelude.{ℕ, ◌+◌, ◌*◌}
use Rattle.nr_wire.specs.Constants.{UNITS_MAX}
use Rattle.nr_link.specs.Limits.{send_unit}
use Rattle.nr_header.specs.Constants.{PAYLOAD_MAX}

-- The maximum of the room of a payload: for a stream that stands in a Send, of however many units that is, for what is read for its call, and for a pad.
abbrev pub payload_room : ℕ
payload_room = send_unit * UNITS_MAX + PAYLOAD_MAX + 3
