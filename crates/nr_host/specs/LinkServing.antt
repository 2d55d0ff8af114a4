-- A link, which may carry RPC over RDMA or RPC over TCP with record marks (RFC 5531 section 11).
use Rattle.std.specs.Prelude.{◌≡◌, ⊤, ◌⊎◌, ℕ, Bool, true, false, List, [], ◌∷◌, Option, None, Some}
use Rattle.std.specs.Io.KnownBytes.{IsAtEnd, Keeps}
use Rattle.nr_outside.specs.Content.{HandsOut}
use Rattle.nr_links.specs.Peeked.{given_without, left_with}
use Rattle.nr_record_host.specs.RecordRuns.{IsRecordsServed, around}
use Rattle.nr_record_host.specs.RecordRuns as record_ends
use Rattle.nr_host.specs.Connections.{Outside}
use Rattle.nr_host.specs.Ending.{SinkCount, SourceCount}
use Rattle.nr_host.specs.Steps.{IsServed}
use Rattle.nr_host.specs.declared.connection_limits.ConnectionLimits.{ConnectionLimits}
use Rattle.nr_host.specs.declared.conn_end.ConnEnd.TheVariants as ends
use Rattle.nr_host.specs.declared.link_end.LinkEnd.{LinkEnd}
use Rattle.nr_host.specs.declared.link_end.LinkEnd.TheVariants as link_ends

-- the first byte of the hello of an initiator (RFC 5044 section 7.1)
abbrev pub HELLO_BYTE : ℕ
HELLO_BYTE = 77

-- it was served by what it carried
abbrev pub ServesLinkBy : (limits : ConnectionLimits) → (before after : Outside) → LinkEnd → Type 0
ServesLinkBy limits before after (link_ends.Rdma end) = IsServed limits before after end
ServesLinkBy limits before after (link_ends.Record end) =
    IsRecordsServed (around before.left before.given before.sink.taken before.gave before.view) (around after.left after.given after.sink.taken after.gave after.view) end

-- what it carried, by its first byte
abbrev pub IsKindOf : ℕ → LinkEnd → Type 0
IsKindOf byte (link_ends.Rdma end) = byte ≡ HELLO_BYTE
IsKindOf byte (link_ends.Record end) = ¬ (byte ≡ HELLO_BYTE)

abbrev pub ServesByByte : (limits : ConnectionLimits) (byte : ℕ) → (before after : Outside) → LinkEnd → Type 0
ServesByByte limits byte before after end = ServesLinkBy limits before after end × IsKindOf byte end

-- The first read failed, or handed out nothing: the link counts as RPC over RDMA. `left` and `left'` are the bytes
-- still to come before and after.
abbrev pub IsUnread : (left left' : Option (List ℕ)) → LinkEnd → Type 0
IsUnread left left' (link_ends.Rdma ends.LinkRead) = Keeps left left'
IsUnread left left' (link_ends.Rdma ends.Closed) = Keeps left left' × IsAtEnd left'
IsUnread left left' end = ⊥

-- what it carried, by the bytes that were still to come, if they are known
abbrev pub IsKindFor : (left left' : Option (List ℕ)) → LinkEnd → Type 0
IsKindFor None left' end = ⊤
IsKindFor (Some []) left' end = IsUnread (Some []) left' end
IsKindFor (Some (byte ∷ rest)) left' end = IsKindOf byte end ⊎ IsUnread (Some (byte ∷ rest)) left' end

-- A byte that was looked at and not read is still to come, and wasn't handed out.
abbrev pub holding : Option ℕ → Outside → Outside
holding held o = record o { left = left_with held o.left; given = given_without held o.given }

-- A byte that was looked at and not read: the source handed out that byte, and no other. So it is the first byte of the
-- link, and the connection read nothing.
abbrev pub IsHeld : Option ℕ → (left given left' given' : Option (List ℕ)) → Type 0
IsHeld None left given left' given' = ⊤
IsHeld (Some byte) left given left' given' = HandsOut left given left' given' (byte ∷ [])

-- Its first byte was looked at, and it was served by that. `held` is that byte if the connection didn't read it.
pub record LooksAndServes (limits : ConnectionLimits) (before after : Outside) (end : LinkEnd) : Type 0 where
  pub held : Option ℕ
  pub held_is : IsHeld held before.left before.given after.left after.given
  pub serves : ServesLinkBy limits before (holding held after) end
  pub kind : IsKindFor before.left (left_with held after.left) end

-- without record marks it carries RPC over RDMA
abbrev pub IsRdmaServed : (limits : ConnectionLimits) → (before after : Outside) → LinkEnd → Type 0
IsRdmaServed limits before after (link_ends.Rdma end) = IsServed limits before after end
IsRdmaServed limits before after (link_ends.Record end) = ⊥

abbrev pub IsLinkServed : (limits : ConnectionLimits) → (records : Bool) → (before after : Outside) → LinkEnd → Type 0
IsLinkServed limits false before after end = IsRdmaServed limits before after end
IsLinkServed limits true before after end = LooksAndServes limits before after end

-- the fault counts of the source and of the sink
abbrev pub LinkSourceCount : LinkEnd → ℕ → ℕ → Type 0
LinkSourceCount (link_ends.Rdma end) before after = SourceCount end before after
LinkSourceCount (link_ends.Record end) before after = record_ends.SourceCount end before after

abbrev pub LinkSinkCount : LinkEnd → ℕ → ℕ → Type 0
LinkSinkCount (link_ends.Rdma end) before after = SinkCount end before after
LinkSinkCount (link_ends.Record end) before after = record_ends.SinkCount end before after
