-- What a responder fetches of its client's memory for calls with a read list (RFC 8166 section 3.4.5).
use Rattle.std.specs.Prelude.{◌≡◌, ℕ, ◌==◌, ◌&&◌, Bool, true, not, List, [], ◌∷◌, ◌++◌, length, drop, Option, None, Some}
use Rattle.std.specs.List.{list_any}
use Rattle.nr_header.specs.declared.header.ReadSegment.{ReadSegment}
use Rattle.nr_reduce.specs.OfferedRegions.{Region}
use Rattle.nr_reduce.specs.ServerState.{PendingRead}

-- some entry of a read list has bytes: something is to be read
abbrev pub has_bytes : List ReadSegment → Bool
has_bytes read = list_any (λ r. not (r.length == 0)) read

abbrev pub HasBytes : List ReadSegment → Type 0
HasBytes read = has_bytes read ≡ true

-- an open sink region: of the call whose Send has this number, for the entries of its read list at this position
pub record SinkRegion : Type 0 where
  pub number : ℕ
  pub position : ℕ
  pub stag : ℕ
  pub len : ℕ

-- whether it is that of a call at a position
abbrev pub is_sink : (number position : ℕ) → SinkRegion → Bool
is_sink number position s = s.number == number && s.position == position

abbrev pub sink_of_region : Region → SinkRegion
sink_of_region r = record { number = r.call; position = r.position; stag = r.stag; len = length r.bytes }

abbrev pub open_if : Option ℕ → SinkRegion → List SinkRegion → List SinkRegion
open_if None s sinks = s ∷ sinks
open_if (Some until) s sinks = sinks

-- the sinks that are open
abbrev pub open_sinks : List Region → List SinkRegion
open_sinks [] = []
open_sinks (r ∷ regions) = open_if r.until (sink_of_region r) (open_sinks regions)

-- The reads that are open or wait, the oldest first; the sinks that are open; and for each call that is ready the payload that was read with
-- its chunks, or None if it is the stream of its Send.
pub record Fetching : Type 0 where
  pub reads : List PendingRead
  pub sinks : List SinkRegion
  pub payloads : List (Option (List ℕ))

abbrev pub nothing_fetched : Fetching
nothing_fetched = record { reads = []; sinks = []; payloads = [] }

-- with one call more that is ready, and without the first
abbrev pub payload_added : Option (List ℕ) → Fetching → Fetching
payload_added payload f = record f { payloads = f.payloads ++ payload ∷ [] }

abbrev pub payload_taken : Fetching → Fetching
payload_taken f = record f { payloads = drop 1 f.payloads }
