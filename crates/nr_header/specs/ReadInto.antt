-- A header whose lists are read into a room.
use Rattle.std.specs.Prelude.{ℕ, List, Result, Ok, Err}
use Rattle.nr_header.specs.declared.header.ChunkLists.{ChunkLists}
use Rattle.nr_header.specs.declared.header.Body.{Body}
use Rattle.nr_header.specs.declared.header.Body.TheVariants.{Msg, Nomsg, ErrVers, ErrChunk}
use Rattle.nr_header.specs.declared.header.Header.{Header}
use Rattle.nr_header.specs.declared.header.HeaderFields.{HeaderFields}
use Rattle.nr_header.specs.declared.header.MessageKind.{MessageKind}
use Rattle.nr_header.specs.declared.header.MessageKind.TheVariants as kinds
use Rattle.nr_header.specs.declared.fault.HeaderFault.{HeaderFault}
use Rattle.nr_header.specs.Header.{error_body, no_lists}
use Rattle.nr_header.specs.Reading.{header_of}

-- the body of a message of this kind with these lists
abbrev pub body_with : MessageKind → ChunkLists → Body
body_with (kinds.Msg stream_at) lists = Msg lists stream_at
body_with kinds.Nomsg lists = Nomsg lists
body_with (kinds.Error version error) lists = error_body version error

-- the header that was read, with these lists
abbrev pub with_lists : ChunkLists → Result HeaderFields HeaderFault → Result Header HeaderFault
with_lists lists (Ok fields) = Ok (record { xid = fields.xid; credit = fields.credit; body = body_with fields.kind lists })
with_lists lists (Err fault) = Err fault

-- the lists of a message; an error message, and one that can't be read, has none
abbrev pub lists_of_body : Body → ChunkLists
lists_of_body (Msg lists stream_at) = lists
lists_of_body (Nomsg lists) = lists
lists_of_body (ErrVers version low high) = no_lists
lists_of_body (ErrChunk version) = no_lists

abbrev pub lists_read : Result Header HeaderFault → ChunkLists
lists_read (Ok header) = lists_of_body header.body
lists_read (Err fault) = no_lists

abbrev pub lists_in : List ℕ → ChunkLists
lists_in bytes = lists_read (header_of bytes)
