-- What a side writes after its hello, as a list of items: messages, accesses, and the last output. An item has one FPDU or several
-- (RFC 5041 section 5.2; RFC 5040 section 5).
use Rattle.std.specs.Prelude.{ℕ, ◌+◌, Bool, true, false, ◌&&◌, nat_lt, nat_le, if◌then◌else◌, List, [], ◌∷◌, ◌++◌, length}
use Rattle.nr_link.specs.declared.end.End.{End}
use Rattle.nr_link.specs.Output.{send, send_invalidating, write, read_request, read_response}
use Rattle.nr_link.specs.Ending.{final_output}

-- The Send with a number; the Send with Invalidate with a number, and its STag; an RDMA Write; the Read Request with a number; a Read
-- Response; the output with which a side ends.
pub data OutputItem : Type 0 where
  SendItem : (number : ℕ) → (message : List ℕ) → OutputItem
  SendInvalidateItem : (number stag : ℕ) → (message : List ℕ) → OutputItem
  WriteItem : (stag to : ℕ) → (bytes : List ℕ) → OutputItem
  ReadRequestItem : (number sink sink_to size stag to : ℕ) → OutputItem
  ReadResponseItem : (stag to : ℕ) → (bytes : List ℕ) → OutputItem
  LastItem : (end : End) → OutputItem

abbrev pub item_encoding : OutputItem → List ℕ
item_encoding (SendItem number message) = send number message
item_encoding (SendInvalidateItem number stag message) = send_invalidating number stag message
item_encoding (WriteItem stag to bytes) = write stag to bytes
item_encoding (ReadRequestItem number sink sink_to size stag to) = read_request number sink sink_to size stag to
item_encoding (ReadResponseItem stag to bytes) = read_response stag to bytes
item_encoding (LastItem end) = final_output end

-- the bytes of items, in order
abbrev pub items_encoding : List OutputItem → List ℕ
items_encoding [] = []
items_encoding (item ∷ items) = item_encoding item ++ items_encoding items

-- whether an item is a Send, and whether it is a Read Response
abbrev pub is_send_item : OutputItem → Bool
is_send_item (SendItem number message) = true
is_send_item (SendInvalidateItem number stag message) = true
is_send_item (WriteItem stag to bytes) = false
is_send_item (ReadRequestItem number sink sink_to size stag to) = false
is_send_item (ReadResponseItem stag to bytes) = false
is_send_item (LastItem end) = false

abbrev pub is_response_item : OutputItem → Bool
is_response_item (SendItem number message) = false
is_response_item (SendInvalidateItem number stag message) = false
is_response_item (WriteItem stag to bytes) = false
is_response_item (ReadRequestItem number sink sink_to size stag to) = false
is_response_item (ReadResponseItem stag to bytes) = true
is_response_item (LastItem end) = false

abbrev pub one_if_true : Bool → ℕ
one_if_true b = if b then 1 else 0

-- The offsets, from the first byte of the hello on, at which the items of a kind end. The first item begins at `at`, after the
-- hello.
abbrev pub item_ends : (OutputItem → Bool) → ℕ → List OutputItem → List ℕ
item_ends is_item at [] = []
item_ends is_item at (item ∷ items) =
    (if is_item item then (at + length (item_encoding item)) ∷ [] else []) ++ item_ends is_item (at + length (item_encoding item)) items

-- How many items of a kind the first `written` bytes contain completely, hello included, and how many they don't.
abbrev pub items_written : (OutputItem → Bool) → (at written : ℕ) → List OutputItem → ℕ
items_written is_item at written [] = 0
items_written is_item at written (item ∷ items) =
    one_if_true (is_item item && nat_le (at + length (item_encoding item)) written)
    + items_written is_item (at + length (item_encoding item)) written items

abbrev pub items_left : (OutputItem → Bool) → (at written : ℕ) → List OutputItem → ℕ
items_left is_item at written [] = 0
items_left is_item at written (item ∷ items) =
    one_if_true (is_item item && nat_lt written (at + length (item_encoding item)))
    + items_left is_item (at + length (item_encoding item)) written items
