-- Which calls of a client a message may answer: those whose Sends are written completely.
use Rattle.std.specs.Prelude.{◌≡◌, ℕ, ◌+◌, true, nat_le, if◌then◌else◌, List, [], ◌∷◌, ◌++◌, length, None, Some, Contains, slice_get, ◌↔◌}
use Rattle.std.specs.List.{filter}
use Rattle.nr_wire.specs.declared.hello.Side.TheVariants.{Initiator}
use Rattle.nr_link.specs.OutputItem.{OutputItem, item_encoding, is_send_item}
use Rattle.nr_reduce.specs.declared.mark.Mark.{Mark}
use Rattle.nr_reduce.specs.declared.mark.LinkParameters.{LinkParameters}
use Rattle.nr_reduce.specs.History.{bytes_sent}
use Rattle.nr_reduce.specs.ClientState.{OutstandingCall, is_sent}
use Rattle.nr_reduce.specs.Run.{client}
use Rattle.nr_reduce.specs.DueItems.{items_due, hello_due, sent_call_item}
use Rattle.nr_reduce.specs.Asked.{AskedSoFar}
use Rattle.nr_laws.specs.Typed.{IsTyped}

-- The items that are complete in the first `written` bytes, hello included. The first item begins at `at`, after the hello.
abbrev pub complete_items : (at written : ℕ) → List OutputItem → List OutputItem
complete_items at written [] = []
complete_items at written (item ∷ items) =
    (if nat_le (at + length (item_encoding item)) written then item ∷ [] else []) ++ complete_items (at + length (item_encoding item)) written items

-- the Sends among the items due at a client that are complete in the bytes that it has sent
abbrev pub complete_sends : LinkParameters → ℕ → List Mark → List OutputItem
complete_sends opened link run =
    filter is_send_item (complete_items (length (hello_due opened link Initiator run)) (length (bytes_sent link Initiator run)) (items_due opened link Initiator run))

-- While a client hasn't ended, an outstanding call is one that a message may answer if and only if the Send of its number is complete in the
-- bytes sent.
abbrev pub SentCallsAreWritten : Type 0
SentCallsAreWritten = (opened : LinkParameters) (link : ℕ) (run : List Mark) (o : OutstandingCall) → IsTyped run → AskedSoFar opened link run → (client opened link run).ended ≡ None →
    Contains (client opened link run).state.outstanding o →
    (is_sent (client opened link run).state o ≡ true)
    ↔ (slice_get (complete_sends opened link run) o.send ≡ Some (sent_call_item opened (o.send + 1) o))
