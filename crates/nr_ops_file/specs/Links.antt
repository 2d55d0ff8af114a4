-- READLINK (RFC 1813 section 3.3.5): the refusals in their order, and the reply.
use Rattle.std.specs.Prelude.{Bool, true, false, not, List, [], ◌∷◌, Option}
use Rattle.nr_nfs_base.specs.declared.attributes.Attributes.{Attributes}
use Rattle.nr_nfs_base.specs.declared.status.Status.{Status}
use Rattle.nr_nfs_base.specs.declared.status.Status.TheVariants.{Inval}
use Rattle.nr_nfs_base.specs.declared.status_union.StatusUnion.{StatusUnion}
use Rattle.nr_nfs_base.specs.declared.status_union.StatusUnion.TheVariants.{Done, Failed}
use Rattle.nr_nfs_args.specs.declared.lookup.ReadlinkArgs.{ReadlinkArgs}
use Rattle.nr_nfs_res.specs.declared.lookup.ReadlinkOk.{ReadlinkOk}
use Rattle.nr_ops_file.specs.Bytes.{bytes_at}
use Rattle.nr_tree.specs.Replies.{attributes_at}
use Rattle.nr_tree.specs.Rules.{first, ◌⇒◌, on, answer, handle_rule, node_of_handle}
use Rattle.nr_tree.specs.Tree.{Tree}
use Rattle.nr_tree.specs.declared.node.Node.{Node}
use Rattle.nr_tree.specs.declared.node.Content.{Content}
use Rattle.nr_tree.specs.declared.node.Content.TheVariants.{Regular, Directory, Block, Character, Link, Socket, Fifo}

abbrev pub is_link : Content → Bool
is_link (Regular bytes) = false
is_link (Directory entries) = false
is_link (Block device) = false
is_link (Character device) = false
is_link (Link path) = true
is_link Socket = false
is_link Fifo = false

-- In order: the handle; no symbolic link (INVAL).
abbrev pub readlink_of : Node → List (Option Status)
readlink_of node = (not (is_link node.content) ⇒ Inval) ∷ []

abbrev pub readlink_rules : Tree → ReadlinkArgs → List (Option Status)
readlink_rules t a = handle_rule t a.symlink ∷ on (node_of_handle t a.symlink) readlink_of

abbrev pub readlink_done : Tree → ReadlinkArgs → ReadlinkOk
readlink_done t a = record { attributes = attributes_at t a.symlink; path = bytes_at t a.symlink }

abbrev pub readlink_reply : Tree → ReadlinkArgs → StatusUnion ReadlinkOk (Option Attributes) Status
readlink_reply t a = answer (first (readlink_rules t a)) (λ s. Failed s (attributes_at t a.symlink)) (Done (readlink_done t a))
