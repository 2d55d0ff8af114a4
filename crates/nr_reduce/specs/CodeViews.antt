-- What borrowed values stand for, and steps of the code in the terms of the definitions.
use Rattle.std.specs.Prelude.{ℕ, Bool, true, nat_le, ◌&&◌, ◌||◌, ◌==◌, if◌then◌else◌, List, [], ◌∷◌, length, Option, None, Some}
use Rattle.nr_header.specs.declared.header.RdmaSegment.{RdmaSegment}
use Rattle.nr_header.specs.declared.header.ReadSegment.{ReadSegment}
use Rattle.nr_reduce.specs.declared.item.Item.{Item}
use Rattle.nr_reduce.specs.declared.item.Of.{Of}
use Rattle.nr_reduce.specs.declared.holding.Parts.{Parts as BorrowedParts}
use Rattle.nr_reduce.specs.declared.holding.Answer.{Answer as BorrowedAnswer}
use Rattle.nr_reduce.specs.Items.{reducible_item, stream_of, moved_of}
use Rattle.nr_reduce.specs.Chunks.{chunk_total, filled_chunk, are_empty, is_item, total_at}
use Rattle.nr_reduce.specs.Holds.{Parts, Answer, no_segments}

abbrev pub parts_view : BorrowedParts → Parts
parts_view p = record { stream = p.stream.now; moved = p.moved.now }

abbrev pub answer_view : BorrowedAnswer → Answer
answer_view a = record { long = a.long; stream = a.stream.now; moved = a.moved.now }

-- the length of the first chunk, if it has a segment
abbrev pub first_total : List (List RdmaSegment) → Option ℕ
first_total [] = None
first_total ([] ∷ chunks) = None
first_total ((s ∷ chunk) ∷ chunks) = Some (chunk_total (s ∷ chunk))

-- the parts of a reply if this number of bytes may move
abbrev pub parts_for : ℕ → List ℕ → Option Item → Option Parts
parts_for room reply None = Some (record { stream = reply; moved = [] })
parts_for room reply (Some i) =
    if nat_le i.len room then Some (record { stream = stream_of reply i; moved = moved_of reply i }) else None

unfoldable pub parts_of : Of → Option ℕ → List ℕ → Option Parts
parts_of of None reply = Some (record { stream = reply; moved = [] })
parts_of of (Some room) reply = parts_for room reply (reducible_item of reply)

-- a segment that comes back, with those after it
abbrev pub returns_one : (offered back : RdmaSegment) → List RdmaSegment → Bool
returns_one o b after = b.handle == o.handle && (b.offset == o.offset && (nat_le b.length o.length && (b.length == o.length || are_empty after)))

-- the reply chunk of an answer
abbrev pub reply_of_answer : Option (List RdmaSegment) → Answer → Option (List RdmaSegment)
reply_of_answer offered a = if a.long then Some (filled_chunk (no_segments offered) (length a.stream)) else None

-- the chunk of a read list at a position other than 0, if there is one, is that of an item
abbrev pub is_read_chunk_of : Option Item → List ReadSegment → Option ℕ → Bool
is_read_chunk_of item read None = true
is_read_chunk_of item read (Some position) = is_item item position (total_at position read)
