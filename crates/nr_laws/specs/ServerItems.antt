-- All output of a server that is due is its hello and items, and what has left is counted by the items' bytes.
use Rattle.std.specs.Prelude.{◌≡◌, ℕ, ◌+◌, List, ◌++◌, length, None}
use Rattle.nr_wire.specs.declared.hello.Side.TheVariants.{Responder}
use Rattle.nr_link.specs.OutputItem.{items_encoding, is_send_item, items_written, items_left}
use Rattle.nr_reduce.specs.declared.mark.Mark.{Mark}
use Rattle.nr_reduce.specs.declared.mark.LinkParameters.{LinkParameters}
use Rattle.nr_reduce.specs.History.{bytes_sent}
use Rattle.nr_link.specs.SegmentFaults.{is_begun}
use Rattle.nr_reduce.specs.Plans.{one_if}
use Rattle.nr_reduce.specs.ServerState.{receives_in_use}
use Rattle.nr_reduce.specs.Written.{ends_waiting}
use Rattle.nr_reduce.specs.Run.{server, output_due}
use Rattle.nr_reduce.specs.DueItems.{items_due, hello_due}
use Rattle.nr_reduce.specs.Served.{ServedSoFar}
use Rattle.nr_laws.specs.Typed.{IsTyped}

-- The output due at a server is its hello, and then the encodings of these items, in order.
abbrev pub ServerOutputIsItems : Type 0
ServerOutputIsItems = (opened : LinkParameters) (link : ℕ) (run : List Mark) → IsTyped run → ServedSoFar opened link run →
    output_due opened link Responder run ≡ hello_due opened link Responder run ++ items_encoding (items_due opened link Responder run)

-- While it hasn't ended, the messages that its state counts as not yet left are the Sends among the items of which some bytes weren't
-- written.
abbrev pub ServerCountsItems : Type 0
ServerCountsItems = (opened : LinkParameters) (link : ℕ) (run : List Mark) → IsTyped run → ServedSoFar opened link run → (server opened link run).ended ≡ None →
    ends_waiting (server opened link run).state.written (server opened link run).state.message_ends
    ≡ items_left is_send_item (length (hello_due opened link Responder run)) (length (bytes_sent link Responder run)) (items_due opened link Responder run)

-- While it hasn't ended, the receives in use are those of the Sends that are begun or complete, without those whose answers are completely
-- written.
abbrev pub ReceivesFollowSends : Type 0
ReceivesFollowSends = (opened : LinkParameters) (link : ℕ) (run : List Mark) → IsTyped run → ServedSoFar opened link run → (server opened link run).ended ≡ None →
    receives_in_use (server opened link run).state
    + items_written is_send_item (length (hello_due opened link Responder run)) (length (bytes_sent link Responder run)) (items_due opened link Responder run)
    ≡ (server opened link run).state.received.sends + one_if (is_begun (server opened link run).state.received.begun)
