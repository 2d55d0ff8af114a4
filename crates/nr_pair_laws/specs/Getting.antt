-- A `get` whose exchanges are answered at places of a journal.
use Rattle.std.specs.Prelude.{◌≡◌, ℕ, List, [], length, Ok}
use Rattle.std.specs.Io.KnownBytes.{Appends}
use Rattle.nr_outside.specs.Streams.{SinkAt}
use Rattle.nr_reduce.specs.declared.call.Outcome.{Outcome}
use Rattle.nr_reduce.specs.declared.mark.Entry.{Entry}
use Rattle.nr_plain.specs.Setup.{Setup}
use Rattle.nr_client.specs.Paths.{path_names}
use Rattle.nr_client.specs.Reading.{bytes_read}
use Rattle.nr_commands.specs.Commands.{Gets}
use Rattle.nr_commands.specs.Sessions.{SessionAt}
use Rattle.nr_service_laws.specs.Exchanges.{tells_get}
use Rattle.nr_pair_laws.specs.FilesAt.{KeepPath}
use Rattle.nr_pair_laws.specs.Pairs.{AreAnsweredFrom}
use Rattle.nr_pair_laws.specs.PutThenGet.{GetsFile, root_handle}

-- A `get` that is done, and whose outcomes are replies at places of a journal from this one on (`AreAnsweredFrom`, which
-- `pairs_are_served` gives), read the file as `GetsFile` has it, if no entry from there on changes what its path leads
-- to; and its output took the bytes that came in the replies.
abbrev pub GetsReadTheFile : Type 0
GetsReadTheFile =
    (s : Setup) (J : List Entry) (uid gid : ℕ) (export path : List ℕ) (names : List (List ℕ)) (out out' : SinkAt) (before after : SessionAt) (text : List ℕ) (from : ℕ)
    (gets : Gets uid gid export path out out' before after (Ok text)) →
    path_names path ≡ Ok names → KeepPath s J root_handle names from (length J) → AreAnsweredFrom s J from [] (tells_get uid gid export path out out' before after (Ok text) gets).made →
    (outcomes : List Outcome) × (GetsFile s J uid gid export path names from outcomes × Appends out.taken out'.taken (bytes_read outcomes))
