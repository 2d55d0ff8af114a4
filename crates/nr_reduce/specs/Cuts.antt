-- A payload cut at its item, and a payload put together again (RFC 8166 section 3.4.1).
use Rattle.std.specs.Prelude.{◌≡◌, ℕ, ◌==◌, ◌≤◌, not, if◌then◌else◌, List, length, take, Option, None, Some, Result, Ok, Err}
use Rattle.nr_reduce.specs.declared.item.Item.{Item}
use Rattle.nr_reduce.specs.declared.item.Of.{Of}
use Rattle.nr_reduce.specs.declared.fault.PayloadFault.{PayloadFault}
use Rattle.nr_reduce.specs.declared.fault.PayloadFault.TheVariants as faults
use Rattle.nr_reduce.specs.declared.fault.Mismatch.{Mismatch}
use Rattle.nr_reduce.specs.declared.fault.Mismatch.TheVariants as mismatches
use Rattle.nr_reduce.specs.declared.item.Cut.{Cut}
use Rattle.nr_reduce.specs.Items.{item_of, reducible_item, stream_of, moved_of, restored_payload}
use Rattle.nr_reduce.specs.Chunks.{has_moved_length}

-- what is cut of a payload: its item, the stream without it, and its content
abbrev pub cut_at : List ℕ → Option Item → Option Cut
cut_at payload None = None
cut_at payload (Some i) = Some (record { item = i; stream = stream_of payload i; moved = moved_of payload i })

unfoldable pub cut_of : Of → List ℕ → Option Cut
cut_of of payload = cut_at payload (reducible_item of payload)

-- The payload of a stream and of what moved beside it at a position, or the first way in which they don't belong together.
abbrev pub joined_by : Of → List ℕ → ℕ → List ℕ → Option Item → Result (List ℕ) Mismatch
joined_by of stream pos moved None = Err mismatches.NoItem
joined_by of stream pos moved (Some i) =
    if not (i.pos == pos) then Err mismatches.Position
    else (if not (has_moved_length of i moved) then Err mismatches.Length
    else Ok (restored_payload i stream moved))

unfoldable pub rebuilt_of : Of → List ℕ → ℕ → List ℕ → Result (List ℕ) Mismatch
rebuilt_of of stream pos moved = joined_by of stream pos moved (item_of of stream)

-- The answer is that payload or that mismatch, unless memory ran out.
abbrev pub Rebuilds : Result (List ℕ) PayloadFault → Result (List ℕ) Mismatch → Type 0
Rebuilds (Ok payload) rebuilt = rebuilt ≡ Ok payload
Rebuilds (Err (faults.TooLarge need room)) rebuilt = ⊥
Rebuilds (Err (faults.BadChunks why)) rebuilt = rebuilt ≡ Err why
Rebuilds (Err faults.Memory) rebuilt = Unit {0}

-- The payload is the first bytes of a room.
abbrev pub RebuildsInto : Result ℕ Mismatch → (room : List ℕ) → Result (List ℕ) Mismatch → Type 0
RebuildsInto (Ok len) room rebuilt = (rebuilt ≡ Ok (take len room)) × (len ≤ length room)
RebuildsInto (Err why) room rebuilt = rebuilt ≡ Err why
