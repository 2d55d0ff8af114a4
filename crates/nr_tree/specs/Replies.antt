-- What replies say of nodes (RFC 1813 section 2.5, post_op_attr, post_op_fh3 and wcc_data), from the tree before, the tree after and the handle or the number.
use Rattle.std.specs.Prelude.{ℕ, length, List, Option}
use Rattle.std.specs.Option.{option_map}
use Rattle.std.specs.FinMap.{get}
use Rattle.nr_nfs_base.specs.declared.attributes.Attributes.{Attributes}
use Rattle.nr_nfs_base.specs.declared.weak_cache.WccAttributes.{WccAttributes}
use Rattle.nr_nfs_base.specs.declared.weak_cache.WccData.{WccData}
use Rattle.nr_tree.specs.Tree.{Tree, attributes_of, bytes_of}
use Rattle.nr_tree.specs.Rules.{handle_of, node_of_handle, number_of_handle}
use Rattle.nr_tree.specs.declared.node.Node.{Node}

-- the attributes of the node that a handle names, if it is live
abbrev pub attributes_at : Tree → List ℕ → Option Attributes
attributes_at t h = option_map (attributes_of (number_of_handle h)) (node_of_handle t h)

-- of the node under a number its attributes and its handle, if it is live
abbrev pub attributes_of_number : Tree → ℕ → Option Attributes
attributes_of_number t n = option_map (attributes_of n) (get t.nodes n)

abbrev pub handle_of_live : Tree → ℕ → Option (List ℕ)
handle_of_live t n = option_map (λ node. handle_of n) (get t.nodes n)

abbrev pub size_of : Node → ℕ
size_of node = length (bytes_of node.content)

abbrev pub wcc_attributes_of : Node → WccAttributes
wcc_attributes_of node = record { size = size_of node; mtime = node.metadata.mtime; ctime = node.metadata.ctime }

abbrev pub wcc_attributes_at : Tree → List ℕ → Option WccAttributes
wcc_attributes_at t h = option_map wcc_attributes_of (node_of_handle t h)

-- before and after a change
abbrev pub wcc_data : Tree → Tree → List ℕ → WccData
wcc_data old new h = record { before = wcc_attributes_at old h; after = attributes_at new h }
