-- What a tree holds are bytes, and the arguments of the entries of a journal.
use Rattle.std.specs.Prelude.{◌≡◌, ℕ, List, Some}
use Rattle.std.specs.FinMap.{get}
use Rattle.std.specs.List.{AllByRecursion}
use Rattle.nr_xdr.specs.Item.{IsBytes}
use Rattle.nr_outside.specs.declared.moment.Moment.{Moment}
use Rattle.nr_reduce.specs.declared.mark.Entry.{Entry as JournalEntry}
use Rattle.nr_tree.specs.Entries.{Entry, Each}
use Rattle.nr_tree.specs.Tree.{Tree}
use Rattle.nr_tree.specs.declared.node.Node.{Node}
use Rattle.nr_tree.specs.declared.node.Content.{Content}
use Rattle.nr_tree.specs.declared.node.Content.TheVariants.{Regular, Directory, Block, Character, Link, Socket, Fifo}
use Rattle.nr_plain.specs.Added.{entries_of_call}
use Rattle.nr_plain.specs.Replies.{plain_reply}
use Rattle.nr_plain.specs.Setup.{Setup}

-- the data of a file, the names in a directory and the path of a symbolic link are bytes
abbrev pub HoldsBytes : Content → Type 0
HoldsBytes (Regular bytes) = IsBytes bytes
HoldsBytes (Directory entries) = Each (λ (e : Entry). IsBytes e.name) entries.list
HoldsBytes (Block device) = Unit {0}
HoldsBytes (Character device) = Unit {0}
HoldsBytes (Link path) = IsBytes path
HoldsBytes Socket = Unit {0}
HoldsBytes Fifo = Unit {0}

-- what the nodes of a tree hold are bytes: those of a tree that a program has are always so
abbrev pub IsInBytes : Tree → Type 0
IsInBytes t = (n : ℕ) (node : Node) → get t.nodes n ≡ Some node → HoldsBytes node.content

-- the arguments of an entry are bytes; so are those of each entry of a journal
abbrev pub EntryInBytes : JournalEntry → Type 0
EntryInBytes e = IsBytes e.args

abbrev pub EntriesInBytes : List JournalEntry → Type 0
EntriesInBytes J = AllByRecursion EntryInBytes J

-- Over a first tree in bytes and a journal in bytes, each reply of the plain server is bytes.
abbrev pub PlainRepliesAreBytes : Type 0
PlainRepliesAreBytes =
    (s : Setup) (J : List JournalEntry) (place : ℕ) (m : Moment) (payload reply : List ℕ) → IsInBytes s.tree → EntriesInBytes J → plain_reply s J place m payload ≡ Some reply → IsBytes reply

-- A call whose payload is bytes adds entries in bytes.
abbrev pub AddedEntriesAreInBytes : Type 0
AddedEntriesAreInBytes = (m : Moment) (payload reply : List ℕ) → IsBytes payload → EntriesInBytes (entries_of_call m payload reply)
