-- What a responder grants, and the credit word of its messages (RFC 8166 section 3.3).
use Rattle.std.specs.Prelude.{ℕ, ◌*◌, min, nat_lt, if◌then◌else◌}
use Rattle.nr_reduce.specs.ServerState.{ServerState}
use Rattle.nr_responder.specs.declared.granting.Credits.{Credits}

-- as it is opened
abbrev pub opened_credits : (credits low : ℕ) → Credits
opened_credits credits low = record { receives = credits; granted = credits; low = low; word = credits }

-- its receives, the credits that it grants, and the most that it grants while more than half of the receives are in use
abbrev pub grant : Credits → ℕ × (ℕ × ℕ)
grant c = (c.receives, (c.granted, c.low))

-- those of a server
abbrev pub grant_of : ServerState → ℕ × (ℕ × ℕ)
grant_of k = (k.receives, (k.credit, k.low))

-- the credit word of a message by these, if this many receives are in use
abbrev pub word_by : ℕ × (ℕ × ℕ) → ℕ → ℕ
word_by g in_use = if nat_lt g.0 (2 * in_use) then min g.1.1 g.1.0 else g.1.0
