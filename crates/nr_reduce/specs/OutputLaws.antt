-- All output of a client that is due is its hello and items, and what has left is counted by the items' bytes.
use Rattle.std.specs.Prelude.{◌≡◌, ℕ, List, [], ◌∷◌, ◌++◌, length, None}
use Rattle.nr_wire.specs.declared.hello.Side.{Side}
use Rattle.nr_wire.specs.declared.hello.Side.TheVariants.{Initiator, Responder}
use Rattle.nr_link.specs.OutputItem.{items_encoding, is_send_item, is_response_item, items_written, items_left}
use Rattle.nr_reduce.specs.declared.mark.Mark.{Mark}
use Rattle.nr_reduce.specs.declared.mark.Mark.TheVariants as marks
use Rattle.nr_reduce.specs.declared.mark.LinkParameters.{LinkParameters}
use Rattle.nr_reduce.specs.History.{bytes_sent}
use Rattle.nr_reduce.specs.Written.{ends_written}
use Rattle.nr_reduce.specs.ClientState.{responses_owed}
use Rattle.nr_reduce.specs.Run.{client, server, output_due}
use Rattle.nr_reduce.specs.DueItems.{items_due, hello_due}

-- The output due at a client is its hello, and then the encodings of these items, in order.
abbrev pub ClientOutputIsItems : Type 0
ClientOutputIsItems = (opened : LinkParameters) (link : ℕ) (run : List Mark) →
    output_due opened link Initiator run ≡ hello_due opened link Initiator run ++ items_encoding (items_due opened link Initiator run)

-- While a side hasn't ended, its state counts the bytes of output that were due, and those that were written.
abbrev pub ClientBytes : Type 0
ClientBytes = (opened : LinkParameters) (link : ℕ) (run : List Mark) → (client opened link run).ended ≡ None →
    ((client opened link run).state.due ≡ length (output_due opened link Initiator run))
    × ((client opened link run).state.written ≡ length (bytes_sent link Initiator run))

abbrev pub ServerBytes : Type 0
ServerBytes = (opened : LinkParameters) (link : ℕ) (run : List Mark) → (server opened link run).ended ≡ None →
    ((server opened link run).state.due ≡ length (output_due opened link Responder run))
    × ((server opened link run).state.written ≡ length (bytes_sent link Responder run))

-- And the Sends of a client that have left, and the Read Responses that it owes, are those items of the kind of which all bytes were
-- written, or not all.
abbrev pub ClientCountsItems : Type 0
ClientCountsItems = (opened : LinkParameters) (link : ℕ) (run : List Mark) → (client opened link run).ended ≡ None →
    (ends_written (client opened link run).state.written (client opened link run).state.send_ends
    ≡ items_written is_send_item (length (hello_due opened link Initiator run)) (length (bytes_sent link Initiator run)) (items_due opened link Initiator run))
    × (responses_owed (client opened link run).state
    ≡ items_left is_response_item (length (hello_due opened link Initiator run)) (length (bytes_sent link Initiator run)) (items_due opened link Initiator run))

-- A Wrote makes nothing due: after it the hello and the items are the same, and its bytes are sent. So the counts after each drain go by
-- the same items and by the bytes that it took.
abbrev pub WroteAddsNothing : Type 0
WroteAddsNothing = (opened : LinkParameters) (link : ℕ) (side : Side) (run : List Mark) (bytes : List ℕ) →
    (items_due opened link side (run ++ marks.Wrote link side bytes ∷ []) ≡ items_due opened link side run)
    × (hello_due opened link side (run ++ marks.Wrote link side bytes ∷ []) ≡ hello_due opened link side run)
    × (bytes_sent link side (run ++ marks.Wrote link side bytes ∷ []) ≡ bytes_sent link side run ++ bytes)
