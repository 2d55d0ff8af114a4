-- What reading a header finds, in the room for its lists.
use Rattle.std.specs.Prelude.{◌≡◌, ⊤, [], None, Result, Ok, Err}
use Rattle.nr_header.specs.declared.header.ChunkLists.{ChunkLists}
use Rattle.nr_header.specs.declared.header.Body.{Body}
use Rattle.nr_header.specs.declared.header.MessageKind.{MessageKind}
use Rattle.nr_header.specs.declared.fault.HeaderFault.{HeaderFault}
use Rattle.nr_header.specs.declared.lists.ListsRead.{ListsRead}
use Rattle.nr_header.specs.declared.header.MessageKind.TheVariants as kinds
use Rattle.nr_header.specs.Header.{no_lists}
use Rattle.nr_header.specs.ReadInto.{body_with}

-- room in which nothing was read
abbrev pub nothing_read : ListsRead
nothing_read = record { read = []; write = []; reply = None }

-- the answer is what reading gives, with these lists
abbrev pub MatchesBody : ChunkLists → Result MessageKind HeaderFault → Result Body HeaderFault → Type 0
MatchesBody lists (Ok kind) read = read ≡ Ok (body_with kind lists)
MatchesBody lists (Err fault) read = read ≡ Err fault

-- a message with lists: RDMA_MSG or RDMA_NOMSG
abbrev pub IsListed : MessageKind → Type 0
IsListed (kinds.Msg stream_at) = ⊤
IsListed kinds.Nomsg = ⊤
IsListed (kinds.Error version error) = ⊥

-- the lists are none, if the message is an error message
abbrev pub HasOwnLists : MessageKind → ChunkLists → Type 0
HasOwnLists (kinds.Msg stream_at) lists = ⊤
HasOwnLists kinds.Nomsg lists = ⊤
HasOwnLists (kinds.Error version error) lists = lists ≡ no_lists
