-- Of the procedures that change a file: if no rule refuses, the journal has space; and the next number and each next cookie rise by at most one.
use Rattle.std.proofs.Common.{◌≡◌, ℕ, ◌+◌, Option, None, Some}
use Rattle.std.specs.Option.{option_map_or}
use Rattle.nr_nfs_base.specs.declared.caller.Caller.{Caller}
use Rattle.nr_nfs_base.specs.declared.time.Time.{Time}
use Rattle.nr_nfs_args.specs.declared.attributes.SetattrArgs.{SetattrArgs}
use Rattle.nr_nfs_args.specs.declared.bytes.WriteArgs.{WriteArgs}
use Rattle.nr_tree.specs.Rules.{first, node_of_handle, number_of_handle, space_rule}
use Rattle.nr_tree.specs.Steps.{IsBelow}
use Rattle.nr_tree.specs.Tree.{Tree}
use Rattle.nr_tree.specs.Changes.{tree_with_bytes}
use Rattle.nr_tree.specs.declared.node.Node.{Node}
use Rattle.nr_tree.specs.declared.rules.Space.{Space}
use Rattle.nr_tree.proofs.PassedRules.{AllClear, all_clear}
use Rattle.nr_tree.proofs.Bounds.{below_next, below_after, below_tree_with_bytes, below_tree_with_size, below_tree_with_metadata}
use Rattle.nr_ops_file.specs.Attributes.{setattr_rules, setattr_done, setattr_tree, metadata_after, tree_with_size_given, tree_with_attributes}
use Rattle.nr_ops_file.specs.Bytes.{piece_written, write_rules, write_tree}

-- ===== SETATTR

pub setattr_space : (t : Tree) (c : Caller) (space : Space) (args : SetattrArgs) → first (setattr_rules t c space args) ≡ None → space_rule space ≡ None
setattr_space t c space args none = let all : AllClear (setattr_rules t c space args) = all_clear (setattr_rules t c space args) none in all.1.1.0

below_size_given : (limit : ℕ) (t : Tree) (now : Time) (n : ℕ) (size : Option ℕ) → IsBelow limit t → IsBelow limit (tree_with_size_given t now n size)
below_size_given limit t now n None below = below
below_size_given limit t now n (Some size) below = below_tree_with_size limit t now n size below

attributes_by : (limit : ℕ) (t : Tree) (now : Time) (args : SetattrArgs) (o : Option Node) → IsBelow limit t
    → IsBelow limit (option_map_or (λ (node : Node). tree_with_attributes t now (number_of_handle args.object) args.attributes node.metadata) o t)
attributes_by limit t now args None below = below
attributes_by limit t now args (Some node) below =
    let n : ℕ = number_of_handle args.object in
    below_tree_with_metadata limit (tree_with_size_given t now n args.attributes.size) n (metadata_after now args.attributes node.metadata) (below_size_given limit t now n args.attributes.size below)

pub setattr_below : (limit : ℕ) (t : Tree) (c : Caller) (space : Space) (now : Time) (args : SetattrArgs) → IsBelow limit t → IsBelow (limit + 1) (setattr_tree t c space now args)
setattr_below limit t c space now args below =
    below_after limit t (setattr_done t now args) (first (setattr_rules t c space args)) below
    (λ none. below_next limit (setattr_done t now args) (attributes_by limit t now args (node_of_handle t args.object) below))

-- ===== WRITE

pub write_space : (t : Tree) (c : Caller) (space : Space) (args : WriteArgs) → first (write_rules t c space args) ≡ None → space_rule space ≡ None
write_space t c space args none = let all : AllClear (write_rules t c space args) = all_clear (write_rules t c space args) none in all.1.1.0

pub write_below : (limit : ℕ) (t : Tree) (c : Caller) (space : Space) (now : Time) (args : WriteArgs) → IsBelow limit t → IsBelow (limit + 1) (write_tree t c space now args)
write_below limit t c space now args below =
    let done : Tree = tree_with_bytes t now (number_of_handle args.file) args.offset (piece_written args) in
    below_after limit t done (first (write_rules t c space args)) below
    (λ none. below_next limit done (below_tree_with_bytes limit t now (number_of_handle args.file) args.offset (piece_written args) below))
