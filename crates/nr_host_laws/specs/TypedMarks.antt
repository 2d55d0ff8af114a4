-- That what is written down of a connection as bytes are bytes.
use Rattle.std.specs.Prelude.{◌≡◌, ℕ, List, Some}
use Rattle.std.specs.List.{flat_map}
use Rattle.nr_xdr.specs.Item.{IsBytes}
use Rattle.nr_reduce.specs.declared.mark.Entry.{Entry}
use Rattle.nr_laws.specs.Typed.{IsTyped}
use Rattle.nr_plain.specs.History.{IsHistory, Opening, entries_in, setup_in}
use Rattle.nr_byte_laws.specs.InBytes.{EntriesInBytes, IsInBytes}
use Rattle.nr_host.specs.Connections.{Outside, answers_of}
use Rattle.nr_host.specs.Ending.{Ended}
use Rattle.nr_host.specs.declared.connection_limits.ConnectionLimits.{ConnectionLimits}
use Rattle.nr_host.specs.declared.conn_end.ConnEnd.{ConnEnd}

-- A connection reads a source with these bytes left, over a server that was opened so and has this journal: the bytes
-- are bytes, the first tree holds bytes, and the arguments of the entries are bytes. Those of entries that others add
-- meanwhile are, since each is the entry of a call.
pub record IsOverBytes (first : Opening) (J : List Entry) (left : List ℕ) (before : Outside) : Type 0 where
  pub history : IsHistory first J before.view.seen
  pub known : before.left ≡ Some left
  pub bytes : IsBytes left
  pub tree : IsInBytes (setup_in first).tree
  pub entries : EntriesInBytes J

-- Then its marks are of their types, and the entries that it added are in bytes.
abbrev pub ConnectionsAreTyped : Type 0
ConnectionsAreTyped =
    (limits : ConnectionLimits) (read link : ℕ) (before after : Outside) (end : ConnEnd) (first : Opening) (J : List Entry) (left : List ℕ) (ended : Ended limits read link before after end) →
    IsOverBytes first J left before → IsTyped ended.run × EntriesInBytes (flat_map entries_in (answers_of ended.run))
