-- READ, WRITE and COMMIT (RFC 1813 sections 3.3.6, 3.3.7 and 3.3.21): the refusals in their order, the tree after, the reply.
use Rattle.std.specs.Prelude.{◌≡◌, ℕ, ◌+◌, ◌≤◌, ◌==◌, true, nat_lt, nat_le, min, not, List, [], ◌∷◌, length, take, drop, Option}
use Rattle.std.specs.Option.{option_map_or}
use Rattle.nr_nfs_base.specs.declared.attributes.Attributes.{Attributes}
use Rattle.nr_nfs_base.specs.declared.caller.Caller.{Caller}
use Rattle.nr_nfs_base.specs.declared.stable.StableHow.TheVariants.{FileSync}
use Rattle.nr_nfs_base.specs.declared.status.Status.{Status}
use Rattle.nr_nfs_base.specs.declared.status.Status.TheVariants.{Acces, Isdir, Inval, Fbig}
use Rattle.nr_nfs_base.specs.declared.status_union.StatusUnion.{StatusUnion}
use Rattle.nr_nfs_base.specs.declared.status_union.StatusUnion.TheVariants.{Done, Failed}
use Rattle.nr_nfs_base.specs.declared.time.Time.{Time}
use Rattle.nr_nfs_base.specs.declared.weak_cache.WccData.{WccData}
use Rattle.nr_nfs_args.specs.declared.bytes.CommitArgs.{CommitArgs}
use Rattle.nr_nfs_args.specs.declared.bytes.ReadArgs.{ReadArgs}
use Rattle.nr_nfs_args.specs.declared.bytes.WriteArgs.{WriteArgs}
use Rattle.nr_nfs_res.specs.declared.bytes.CommitOk.{CommitOk}
use Rattle.nr_nfs_res.specs.declared.bytes.ReadOk.{ReadOk}
use Rattle.nr_nfs_res.specs.declared.bytes.WriteOk.{WriteOk}
use Rattle.nr_tree.specs.Changes.{tree_with_bytes}
use Rattle.nr_tree.specs.Replies.{attributes_at, wcc_data}
use Rattle.nr_tree.specs.Rules.{first, ◌⇒◌, on, after, answer, handle_rule, node_of_handle, number_of_handle, may, space_rule}
use Rattle.nr_tree.specs.Sane.{file_size_max}
use Rattle.nr_tree.specs.Steps.{is_regular_at}
use Rattle.nr_tree.specs.Tree.{Tree, is_dir, is_regular, bytes_of}
use Rattle.nr_tree.specs.declared.node.Node.{Node}
use Rattle.nr_tree.specs.declared.rules.Right.TheVariants.{Read, Write}
use Rattle.nr_tree.specs.declared.rules.Space.{Space}
use Rattle.nr_nfs_base.specs.Limits.{transfer_max}

-- bytes of the file, or of the link's path, that a handle names
abbrev pub bytes_at : Tree → List ℕ → List ℕ
bytes_at t h = option_map_or (λ node. bytes_of node.content) (node_of_handle t h) []

-- what has bytes to be read and written: no directory (ISDIR), and nothing else but a regular file (INVAL)
abbrev pub regular_rules : Node → List (Option Status)
regular_rules node =
    (is_dir node ⇒ Isdir) ∷
    (not (is_regular node) ⇒ Inval) ∷ []

-- ===== READ (section 3.3.6). In order: the handle; a directory (ISDIR); else no regular file (INVAL); no read right (ACCES).

abbrev pub read_of : Caller → Node → List (Option Status)
read_of c node =
    first (regular_rules node) ∷
    (not (may c Read node) ⇒ Acces) ∷ []

abbrev pub read_rules : Tree → Caller → ReadArgs → List (Option Status)
read_rules t c a = handle_rule t a.file ∷ on (node_of_handle t a.file) (read_of c)

-- the bytes from the offset on, as many as are asked for, may be moved and are there
abbrev pub piece_read : List ℕ → ℕ → ℕ → List ℕ
piece_read bytes offset count = take (min count transfer_max) (drop offset bytes)

-- eof is true if the piece reaches the end of the file, or the offset is past it
abbrev pub read_ok : Option Attributes → List ℕ → ℕ → List ℕ → ReadOk
read_ok attributes bytes offset piece = record {
  attributes = attributes;
  count = length piece;
  eof = nat_le (length bytes) (offset + length piece);
  bytes = piece;
}

abbrev pub read_done : Tree → ReadArgs → ReadOk
read_done t a = read_ok (attributes_at t a.file) (bytes_at t a.file) a.offset (piece_read (bytes_at t a.file) a.offset a.count)

abbrev pub read_reply : Tree → Caller → ReadArgs → StatusUnion ReadOk (Option Attributes) Status
read_reply t c a = answer (first (read_rules t c a)) (λ s. Failed s (attributes_at t a.file)) (Done (read_done t a))

-- ===== WRITE (section 3.3.7). In order: the handle; a directory (ISDIR); else no regular file (INVAL); no write right (ACCES); a count unlike
-- the length of the data (INVAL); an end above the maximum of a file (FBIG); the space (NOSPC).

-- the bytes that one call writes: the data, at most transfer_max bytes of it
abbrev pub piece_written : WriteArgs → List ℕ
piece_written a = take transfer_max a.bytes

abbrev pub piece_rules : WriteArgs → List (Option Status)
piece_rules a =
    (not (a.count == length a.bytes) ⇒ Inval) ∷
    (nat_lt file_size_max (a.offset + length (piece_written a)) ⇒ Fbig) ∷ []

abbrev pub write_of : Caller → WriteArgs → Node → List (Option Status)
write_of c a node =
    first (regular_rules node) ∷
    (not (may c Write node) ⇒ Acces) ∷
    first (piece_rules a) ∷ []

abbrev pub write_rules : Tree → Caller → Space → WriteArgs → List (Option Status)
write_rules t c space a =
    handle_rule t a.file ∷
    first (on (node_of_handle t a.file) (write_of c a)) ∷
    space_rule space ∷ []

-- the number of a file that a call may write: its handle names a regular file, and its piece ends within the maximum of one
abbrev pub IsFileToWrite : Tree → WriteArgs → (number : ℕ) → Type 0
IsFileToWrite t a number =
    (number ≡ number_of_handle a.file) × (is_regular_at t number ≡ true) × (a.offset + length (piece_written a) ≤ file_size_max)

abbrev pub write_tree : Tree → Caller → Space → Time → WriteArgs → Tree
write_tree t c space now a =
    after (first (write_rules t c space a)) t (tree_with_bytes t now (number_of_handle a.file) a.offset (piece_written a))

-- what is written is on stable storage at once
abbrev pub write_ok : Tree → Tree → Space → WriteArgs → WriteOk
write_ok old new space a = record {
  wcc = wcc_data old new a.file;
  count = length (piece_written a);
  committed = FileSync;
  verifier = space.verifier;
}

abbrev pub write_reply : Tree → Caller → Space → Time → WriteArgs → StatusUnion WriteOk WccData Status
write_reply t c space now a =
    answer (first (write_rules t c space a)) (λ s. Failed s (wcc_data t t a.file)) (Done (write_ok t (write_tree t c space now a) space a))

-- ===== COMMIT (section 3.3.21). In order: the handle; a directory (ISDIR); else no regular file (INVAL). All is on stable storage
-- already, so nothing changes.

abbrev pub commit_rules : Tree → CommitArgs → List (Option Status)
commit_rules t a = handle_rule t a.file ∷ on (node_of_handle t a.file) regular_rules

abbrev pub commit_done : Tree → Space → CommitArgs → CommitOk
commit_done t space a = record { wcc = wcc_data t t a.file; verifier = space.verifier }

abbrev pub commit_reply : Tree → Space → CommitArgs → StatusUnion CommitOk WccData Status
commit_reply t space a = answer (first (commit_rules t a)) (λ s. Failed s (wcc_data t t a.file)) (Done (commit_done t space a))
