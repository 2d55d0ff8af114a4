use Rattle.std.proofs.Common.{◌≡◌, ℕ, List, ◌++◌, Option, Some, ap, sym, ◌∙◌, subst}
use Rattle.std.specs.Option.{option_map}
use Rattle.std.specs.FinMap.{get}
use Rattle.nr_nfs_base.specs.Attributes.{attributes_codec}
use Rattle.nr_nfs_base.specs.Codec.{optional}
use Rattle.nr_nfs_base.specs.Names.{handle_codec}
use Rattle.nr_nfs_base.specs.declared.attributes.Attributes.{Attributes}
use Rattle.nr_tree.specs.declared.node.Node.{Node}
use Rattle.nr_tree.specs.Tree.{attributes_of}
use Rattle.nr_tree.specs.Rules.{handle_of}
use Rattle.nr_ops_list.proofs.Written.{Writes, written_then}
use Rattle.nr_ops_list.proofs.listed.write_node.Goals as goal

pub returns-in_ok-writer-in-Some : goal.returns-in_ok-writer-in-Some
returns-in_ok-writer-in-Some c =
    let got : get c.args.tree.now.nodes c.args.number ≡ Some c.in-Some.node.now = sym c.in-Some.ensures in
    subst (λ (p : Option Attributes × Option (List ℕ)). Writes c.args.writer ((optional attributes_codec).items p.0 ++ (optional handle_codec).items p.1) c.write_handle.result)
    (λ i. (
      (ap (λ (a : Attributes). Some a) c.attributes.ensures ∙ sym (ap (option_map (attributes_of c.args.number)) got)) i,
      (sym (ap (option_map (λ (node : Node). handle_of c.args.number)) got)) i,
    ))
    (written_then c.args.writer c.in_ok-writer-in-Some.writer ((optional attributes_codec).items (Some c.attributes.result)) ((optional handle_codec).items (Some (handle_of c.args.number))) c.write_handle.result
    c.in_ok-writer-in-Some.ensures.exact.appended c.write_handle.ensures)
