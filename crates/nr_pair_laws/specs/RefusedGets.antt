-- A `get` that ended with a status of NFS, where its path leads to a regular file (RFC 1813 section 2.6).
use Rattle.std.specs.Prelude.{◌≡◌, ℕ, ◌≤◌, false, List, [], ◌∷◌, ◌++◌, length, Some, Ok, Err}
use Rattle.nr_outside.specs.Streams.{SinkAt}
use Rattle.nr_nfs_base.specs.declared.status.Status.{Status}
use Rattle.nr_nfs_base.specs.declared.status.Status.TheVariants.{Acces}
use Rattle.nr_reduce.specs.declared.call.Outcome.{Outcome}
use Rattle.nr_reduce.specs.declared.mark.Entry.{Entry}
use Rattle.nr_tree.specs.Rules.{may, node_of_handle}
use Rattle.nr_tree.specs.Sane.{IsSane}
use Rattle.nr_tree.specs.declared.node.Node.{Node}
use Rattle.nr_tree.specs.declared.rules.Right.TheVariants.{Read}
use Rattle.nr_plain.specs.Journal.{tree_at}
use Rattle.nr_plain.specs.Setup.{Setup}
use Rattle.nr_client.specs.declared.client_end.ClientEnd.TheVariants as client
use Rattle.nr_client.specs.Paths.{path_names}
use Rattle.nr_client.specs.Reading.{read_call, read_result}
use Rattle.nr_client.specs.Requests.{lookup_call}
use Rattle.nr_client.specs.Walking.{object_result}
use Rattle.nr_commands.specs.Commands.{Gets}
use Rattle.nr_commands.specs.Sessions.{SessionAt}
use Rattle.nr_service_laws.specs.Exchanges.{Exchange, tells_get}
use Rattle.nr_service_laws.specs.ReplyEnds.{IsAnsweredBy}
use Rattle.nr_reply_laws.specs.Replies.{AreIds}
use Rattle.nr_pair_laws.specs.FilesAt.{KeepPath, handle_along}
use Rattle.nr_pair_laws.specs.Pairs.{AreAnsweredFrom, IsAnsweredAt}
use Rattle.nr_pair_laws.specs.PutThenGet.{HoldsFile, root_handle}
use Rattle.nr_pair_laws.specs.RefusedCalls.{command_caller}
use Rattle.nr_pair_laws.specs.Refusals.{IsLookupRefusal}

-- A call of a `get` was answered with this outcome, which is read as this status, at this place of the journal; and there
-- the tree has a cause for it. It is a LOOKUP of a name of the path, in what the names before lead to; or a READ of the
-- file, which the caller has no right to read (NFS3ERR_ACCES).
pub data HasCause (s : Setup) (J : List Entry) (uid gid : ℕ) (made : List Exchange) (names : List (List ℕ)) (file : List ℕ) (status : Status) (place : ℕ) : Type 0 where
  OfLookup : (before after : List (List ℕ)) → (name dir : List ℕ) → (o : Outcome) → IsAnsweredBy made (lookup_call uid gid dir name) o → object_result o ≡ Err (client.Nfs status)
      → IsAnsweredAt s J (lookup_call uid gid dir name) o place → before ++ name ∷ after ≡ names → handle_along (tree_at s J place) root_handle before ≡ Some dir
      → (node : Node) → node_of_handle (tree_at s J place) dir ≡ Some node → IsLookupRefusal (command_caller uid gid) node name status → HasCause s J uid gid made names file status place
  OfRead : (offset count : ℕ) → (o : Outcome) → IsAnsweredBy made (read_call uid gid file offset count) o → read_result count o ≡ Err (client.Nfs status)
      → IsAnsweredAt s J (read_call uid gid file offset count) o place → (node : Node) → node_of_handle (tree_at s J place) file ≡ Some node → status ≡ Acces
      → may (command_caller uid gid) Read node ≡ false → HasCause s J uid gid made names file status place

-- The calls of a `get` were answered at places of a journal from this one on (`AreAnsweredFrom`, which `pairs_are_served`
-- gives), where its path leads to a regular file, and no entry from there on changes what the path leads to. If it ended
-- with a status of NFS, a call of it was answered with this status at a place of the journal not before this one, and in
-- the tree at just that place there is such a cause.
abbrev pub GetsEndForACause : Type 0
GetsEndForACause =
    (s : Setup) (J : List Entry) (uid gid : ℕ) (export path : List ℕ) (names : List (List ℕ)) (bytes : List ℕ) (out out' : SinkAt) (before after : SessionAt) (status : Status) (from : ℕ)
    (h : HoldsFile s J names bytes from) (gets : Gets uid gid export path out out' before after (Err (client.Nfs status))) →
    IsSane s.tree → AreIds uid gid → path_names path ≡ Ok names → KeepPath s J root_handle names from (length J) →
    AreAnsweredFrom s J from [] (tells_get uid gid export path out out' before after (Err (client.Nfs status)) gets).made →
    (place : ℕ) × ((from ≤ place) × HasCause s J uid gid (tells_get uid gid export path out out' before after (Err (client.Nfs status)) gets).made names h.file status place)
