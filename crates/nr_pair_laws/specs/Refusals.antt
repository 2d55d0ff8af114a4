-- Why LOOKUP, GETATTR and READ are refused where a path leads to a regular file (RFC 1813 sections 3.3.3, 3.3.1, 3.3.6).
use Rattle.std.specs.Prelude.{◌≡◌, ℕ, ◌≤◌, ◌||◌, true, false, List, ◌∷◌, ◌++◌, Option, Some}
use Rattle.nr_nfs_base.specs.declared.attributes.Attributes.{Attributes}
use Rattle.nr_nfs_base.specs.declared.caller.Caller.{Caller}
use Rattle.nr_nfs_base.specs.declared.status.Status.{Status}
use Rattle.nr_nfs_base.specs.declared.status.Status.TheVariants.{Acces, Notdir}
use Rattle.nr_nfs_base.specs.declared.status_union.StatusUnion.TheVariants.{Done, Failed}
use Rattle.nr_nfs_args.specs.declared.bytes.ReadArgs.{ReadArgs}
use Rattle.nr_reduce.specs.declared.mark.Entry.{Entry}
use Rattle.nr_tree.specs.Rules.{has_byte, may, node_of_handle}
use Rattle.nr_tree.specs.Sane.{IsSane}
use Rattle.nr_tree.specs.Tree.{Tree, is_dir}
use Rattle.nr_tree.specs.declared.node.Node.{Node}
use Rattle.nr_tree.specs.declared.rules.Right.TheVariants.{Execute, Read}
use Rattle.nr_ops_file.specs.Attributes.{getattr_reply}
use Rattle.nr_ops_file.specs.Bytes.{read_reply}
use Rattle.nr_ops_list.specs.Lookup.{lookup_reply}
use Rattle.nr_plain.specs.Journal.{tree_at}
use Rattle.nr_plain.specs.Setup.{Setup}
use Rattle.nr_pair_laws.specs.FilesAt.{KeepPath, handle_along}
use Rattle.nr_pair_laws.specs.PutThenGet.{HoldsFile, root_handle}

-- LOOKUP of a name that leads somewhere was refused with this status: the node isn't a directory (NFS3ERR_NOTDIR, which
-- comes only of `.` or `..` after a name that leads to none), or the caller has no right to search it (NFS3ERR_ACCES), or
-- the name has a byte 0 or a slash (NFS3ERR_ACCES), with which no name is made.
pub data IsLookupRefusal (c : Caller) (node : Node) (name : List ℕ) (status : Status) : Type 0 where
  NotADirectory : status ≡ Notdir → is_dir node ≡ false → IsLookupRefusal c node name status
  NoRightToSearch : status ≡ Acces → may c Execute node ≡ false → IsLookupRefusal c node name status
  NotAName : status ≡ Acces → (has_byte 0 name || has_byte 47 name) ≡ true → IsLookupRefusal c node name status

-- In this tree a LOOKUP of each name of the path, in what the names before lead to, is refused for such a cause alone. A
-- GETATTR of the file isn't refused. A READ of it is refused only if the caller has no right to read it (NFS3ERR_ACCES).
pub record RefusesForRights (t : Tree) (names : List (List ℕ)) (file : List ℕ) : Type 0 where
  pub lookups : (before after : List (List ℕ)) (name dir : List ℕ) → before ++ name ∷ after ≡ names → handle_along t root_handle before ≡ Some dir →
      (c : Caller) (status : Status) (part : Option Attributes) → lookup_reply t c (record { dir = dir; name = name }) ≡ Failed status part →
      (node : Node) × ((node_of_handle t dir ≡ Some node) × IsLookupRefusal c node name status)
  pub getattr : (attributes : Attributes) × (getattr_reply t (record { object = file }) ≡ Done attributes)
  pub reads : (c : Caller) (a : ReadArgs) (status : Status) (part : Option Attributes) → a.file ≡ file → read_reply t c a ≡ Failed status part →
      (status ≡ Acces) × ((node : Node) × ((node_of_handle t file ≡ Some node) × (may c Read node ≡ false)))

-- So it is at each place up to which no entry changes what the path leads to, from one on at which it leads to the file.
abbrev pub FilesRefuseForRights : Type 0
FilesRefuseForRights =
    (s : Setup) (J : List Entry) (names : List (List ℕ)) (bytes : List ℕ) (from place : ℕ) (h : HoldsFile s J names bytes from) → IsSane s.tree → from ≤ place → KeepPath s J root_handle names from place →
    RefusesForRights (tree_at s J place) names h.file
