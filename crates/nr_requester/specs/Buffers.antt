-- The bytes of the buffers of a call, and a side of a link with another memory.
use Rattle.std.specs.Prelude.{ℕ, List, [], ◌++◌, Option, None, Some}
use Rattle.nr_regions.specs.RegisteredMemory.{RegisteredMemory}
use Rattle.nr_endpoint.specs.LinkState.{LinkSide}
use Rattle.nr_requester.specs.declared.answer.Buffers.{Buffers}

-- what a call's buffers have, one after the other
abbrev pub buffer_bytes : Option (List ℕ) → List ℕ
buffer_bytes None = []
buffer_bytes (Some bytes) = bytes

abbrev pub bytes_of_buffers : Buffers → List ℕ
bytes_of_buffers b = buffer_bytes b.read ++ (buffer_bytes b.write ++ buffer_bytes b.reply)

abbrev pub with_memory : RegisteredMemory → LinkSide → LinkSide
with_memory m link = record link { state = record link.state { memory = m } }
