-- What `stat` and `readlink` print is of the node to which their path leads.
use Rattle.std.proofs.Common.{◌≡◌, ℕ, false, List, [], Option, None, Some, Ok, refl, sym, ap, ◌∙◌}
use Rattle.std.specs.Prelude.{not}
use Rattle.std.specs.Option.{option_map, option_map_or}
use Rattle.std.proofs.lemmas.Option.{same_Some}
use Rattle.nr_nfs_base.specs.declared.attributes.Attributes.{Attributes}
use Rattle.nr_nfs_base.specs.declared.status.Status.TheVariants.{Inval}
use Rattle.nr_nfs_base.specs.declared.status_union.StatusUnion.TheVariants.{Done}
use Rattle.nr_nfs_res.specs.declared.lookup.ReadlinkOk.{ReadlinkOk}
use Rattle.nr_tree.specs.Replies.{attributes_at}
use Rattle.nr_tree.specs.Rules.{first, node_of_handle, number_of_handle}
use Rattle.nr_tree.specs.Tree.{Tree, attributes_of, bytes_of}
use Rattle.nr_tree.specs.declared.node.Content.{Content}
use Rattle.nr_tree.specs.declared.node.Content.TheVariants.{Block, Character, Directory, Fifo, Link, Regular, Socket}
use Rattle.nr_tree.specs.declared.node.Node.{Node}
use Rattle.nr_tree.proofs.PassedRules.{AllClear, all_clear, clear, handled, on_some}
use Rattle.nr_ops_file.specs.Attributes.{getattr_reply}
use Rattle.nr_ops_file.specs.Links.{is_link, readlink_done, readlink_of, readlink_reply, readlink_rules}
use Rattle.nr_plain.specs.Journal.{tree_at}
use Rattle.nr_commands.specs.Printed.{attributes_text, path_text}
use Rattle.nr_pair_laws.proofs.Results.{answer_done}
use Rattle.nr_text_laws.specs.CommandTexts.{LinksAreOfTheNode, StatsAreOfTheNode, file_of, link_in, stat_in}
use Rattle.nr_text_laws.proofs.Finding.{found_files_are_there_lem, value_on}
use Rattle.nr_text_laws.proofs.MadeOf.{value_made}
use Rattle.nr_text_laws.proofs.Replies.{got}

stat_node : (t : Tree) (file text : List ℕ) → stat_in t file ≡ Ok text → (node : Node) × ((node_of_handle t file ≡ Some node) × (text ≡ attributes_text (attributes_of (number_of_handle file) node)))
stat_node t file text is = by (node_of_handle t file) refl (got t file d.0 d.1.0)
  where
    d : (d : Attributes) × ((getattr_reply t (record { object = file }) ≡ Done d) × (attributes_text d ≡ text))
    d = value_made attributes_text (getattr_reply t (record { object = file })) text is

    by : (o : Option Node) → node_of_handle t file ≡ o → option_map (attributes_of (number_of_handle file)) o ≡ Some d.0
        → (node : Node) × ((node_of_handle t file ≡ Some node) × (text ≡ attributes_text (attributes_of (number_of_handle file) node)))
    by None at e = absurd (let wrong = e in cc)
    by (Some v) at e =
        let same : attributes_of (number_of_handle file) v ≡ d.0 = same_Some _ _ e in
        (v, (at, sym d.1.1 ∙ ap (λ (a : Attributes). attributes_text a) (sym same)))

a_link : (c : Content) → not (is_link c) ≡ false → (target : List ℕ) × (c ≡ Link target)
a_link (Regular bytes) is = absurd cc
a_link (Directory entries) is = absurd cc
a_link (Block device) is = absurd cc
a_link (Character device) is = absurd cc
a_link (Link target) is = (target, refl)
a_link Socket is = absurd cc
a_link Fifo is = absurd cc

link_node : (t : Tree) (file text : List ℕ) → link_in t file ≡ Ok text → (node : Node) × ((node_of_handle t file ≡ Some node) × ((target : List ℕ) × ((node.content ≡ Link target) × (text ≡ path_text target))))
link_node t file text is =
    let d = value_made (λ (link : ReadlinkOk). path_text link.path) (readlink_reply t (record { symlink = file })) text is in
    let passed = answer_done (first (readlink_rules t (record { symlink = file }))) (λ s. attributes_at t file) (readlink_done t (record { symlink = file })) d.0 d.1.0 in
    let all : AllClear (readlink_rules t (record { symlink = file })) = all_clear (readlink_rules t (record { symlink = file })) passed.0 in
    let v : (v : Node) × (node_of_handle t file ≡ Some v) = handled t file all.0 in
    let rules : AllClear (readlink_of v.0) = on_some (node_of_handle t file) v.0 readlink_of v.1 all.1 in
    let link = a_link v.0.content (clear (not (is_link v.0.content)) Inval rules.0) in
    let path : d.0.path ≡ link.0 =
    sym (ap (λ (x : ReadlinkOk). x.path) passed.1) ∙ ap (λ (o : Option Node). option_map_or (λ (node : Node). bytes_of node.content) o []) v.1 ∙ ap (λ (c : Content). bytes_of c) link.1 in
    (v.0, (v.1, (link.0, (link.1, sym d.1.1 ∙ ap (λ (p : List ℕ). path_text p) path))))

pub stats_are_of_the_node_lem : StatsAreOfTheNode
stats_are_of_the_node_lem s J from c export path text names of_trees are_names keeps =
    let file = value_on (file_of s.parameters.export export path c (λ i. tree_at s J (of_trees.places i))) (λ file. stat_in (tree_at s J of_trees.last) file) text (sym of_trees.is) in
    let node = stat_node (tree_at s J of_trees.last) file.0 text file.1.1 in
    record {
      file = file.0;
      leads = found_files_are_there_lem s J from s.parameters.export export path names c of_trees.places of_trees.last file.0 of_trees.are are_names keeps file.1.0;
      node = node.0;
      live = node.1.0;
      is = node.1.1;
    }

pub links_are_of_the_node_lem : LinksAreOfTheNode
links_are_of_the_node_lem s J from c export path text names of_trees are_names keeps =
    let file = value_on (file_of s.parameters.export export path c (λ i. tree_at s J (of_trees.places i))) (λ file. link_in (tree_at s J of_trees.last) file) text (sym of_trees.is) in
    let node = link_node (tree_at s J of_trees.last) file.0 text file.1.1 in
    record {
      file = file.0;
      leads = found_files_are_there_lem s J from s.parameters.export export path names c of_trees.places of_trees.last file.0 of_trees.are are_names keeps file.1.0;
      node = node.0;
      live = node.1.0;
      is = node.1.1;
    }
