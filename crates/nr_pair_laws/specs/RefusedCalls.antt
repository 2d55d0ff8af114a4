-- What the calls of a `get` are refused with where its path leads to a regular file (RFC 1813 sections 3.3.1, 3.3.3, 3.3.6).
use Rattle.std.specs.Prelude.{◌≡◌, ℕ, ◌<◌, ◌≤◌, ◌^◌, false, List, [], ◌∷◌, ◌++◌, Some, Ok, Err}
use Rattle.nr_rpc.specs.declared.cred.Cred.TheVariants as creds
use Rattle.nr_nfs_base.specs.Limits.{transfer_max}
use Rattle.nr_nfs_base.specs.declared.attributes.Attributes.{Attributes}
use Rattle.nr_nfs_base.specs.declared.caller.Caller.{Caller}
use Rattle.nr_nfs_base.specs.declared.status.Status.{Status}
use Rattle.nr_nfs_base.specs.declared.status.Status.TheVariants.{Acces}
use Rattle.nr_reduce.specs.declared.call.Outcome.{Outcome}
use Rattle.nr_reduce.specs.declared.mark.Entry.{Entry}
use Rattle.nr_tree.specs.Rules.{may, node_of_handle}
use Rattle.nr_tree.specs.Sane.{IsSane}
use Rattle.nr_tree.specs.declared.node.Node.{Node}
use Rattle.nr_tree.specs.declared.rules.Right.TheVariants.{Read}
use Rattle.nr_plain.specs.Journal.{tree_at}
use Rattle.nr_plain.specs.Setup.{Setup, caller_of}
use Rattle.nr_client.specs.declared.client_end.ClientEnd.{ClientEnd}
use Rattle.nr_client.specs.declared.client_end.ClientEnd.TheVariants as client
use Rattle.nr_client.specs.Reading.{read_call, read_result}
use Rattle.nr_client.specs.Requests.{getattr_call, getattr_result, lookup_call, machine}
use Rattle.nr_client.specs.Walking.{object_result}
use Rattle.nr_reply_laws.specs.Replies.{AreIds}
use Rattle.nr_pair_laws.specs.FilesAt.{KeepPath, handle_along}
use Rattle.nr_pair_laws.specs.Pairs.{IsAnsweredAt}
use Rattle.nr_pair_laws.specs.PutThenGet.{HoldsFile, root_handle}
use Rattle.nr_pair_laws.specs.Refusals.{IsLookupRefusal}

-- who the server takes a command for (RFC 5531 appendix A)
abbrev pub command_caller : (uid gid : ℕ) → Caller
command_caller uid gid = caller_of (creds.Sys 0 machine uid gid [])

-- The calls of a `get` that are answered at this place. If a LOOKUP of a name of the path has no handle for an outcome, it
-- ends with a status for which its tree has a cause. A GETATTR of the file has its attributes. If a READ of it, of as many
-- bytes as a `get` asks for, has no data, it ends with NFS3ERR_ACCES, and the caller has no right to read the file.
pub record GetsAreRefused (s : Setup) (J : List Entry) (uid gid : ℕ) (names : List (List ℕ)) (file : List ℕ) (place : ℕ) : Type 0 where
  pub lookups : (before after : List (List ℕ)) (name dir : List ℕ) → before ++ name ∷ after ≡ names → handle_along (tree_at s J place) root_handle before ≡ Some dir →
      (o : Outcome) → IsAnsweredAt s J (lookup_call uid gid dir name) o place → (end : ClientEnd) → object_result o ≡ Err end →
      (status : Status) × ((end ≡ client.Nfs status) × ((node : Node) × ((node_of_handle (tree_at s J place) dir ≡ Some node) × IsLookupRefusal (command_caller uid gid) node name status)))
  pub getattr : (o : Outcome) → IsAnsweredAt s J (getattr_call uid gid file) o place → (attributes : Attributes) × (getattr_result o ≡ Ok attributes)
  pub reads : (offset count : ℕ) → offset < 2 ^ 64 → 0 < count → count ≤ transfer_max → (o : Outcome) → IsAnsweredAt s J (read_call uid gid file offset count) o place →
      (end : ClientEnd) → read_result count o ≡ Err end →
      (end ≡ client.Nfs Acces) × ((node : Node) × ((node_of_handle (tree_at s J place) file ≡ Some node) × (may (command_caller uid gid) Read node ≡ false)))

-- So it is at each place up to which no entry changes what the path leads to, from one on at which it leads to the file.
abbrev pub GetsAreRefusedForRights : Type 0
GetsAreRefusedForRights =
    (s : Setup) (J : List Entry) (uid gid : ℕ) (names : List (List ℕ)) (bytes : List ℕ) (from place : ℕ) (h : HoldsFile s J names bytes from) → IsSane s.tree → AreIds uid gid → from ≤ place →
    KeepPath s J root_handle names from place → GetsAreRefused s J uid gid names h.file place
