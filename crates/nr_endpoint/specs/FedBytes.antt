-- How many bytes of the peer's stream a side has processed: those of its frames, and of the incomplete frame.
use Rattle.std.specs.Prelude.{ℕ, ◌+◌, length}
use Rattle.nr_endpoint.specs.LinkState.{LinkSide}

abbrev pub fed_bytes : LinkSide → ℕ
fed_bytes l = l.state.place + length l.rest
