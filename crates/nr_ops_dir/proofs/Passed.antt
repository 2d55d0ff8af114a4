-- What a call that no rule refuses is known to be: its directory, its name, and for LINK its file.
use Rattle.std.proofs.Common.{◌≡◌, ℕ, ◌<◌, ◌≤◌, true, false, leb, List, length, Option, None, Some, refl, sym, ◌∙◌}
use Rattle.std.specs.Prelude.{is_some}
use Rattle.std.specs.Option.{option_map}
use Rattle.std.proofs.lemmas.Bool.{or_parts, leb-false}
use Rattle.std.specs.FinMap.{get}
use Rattle.nr_nfs_base.specs.declared.caller.Caller.{Caller}
use Rattle.nr_nfs_base.specs.declared.status.Status.TheVariants.{Exist, Isdir, Mlink}
use Rattle.nr_nfs_args.specs.declared.remove.LinkArgs.{LinkArgs}
use Rattle.nr_tree.specs.declared.node.Node.{Node}
use Rattle.nr_tree.specs.declared.rules.Space.{Space}
use Rattle.nr_nfs_base.specs.Limits.{name_length_max}
use Rattle.nr_tree.specs.Entries.{Entry}
use Rattle.nr_tree.specs.Tree.{Tree}
use Rattle.nr_tree.specs.Sane.{skeleton}
use Rattle.nr_tree.specs.Steps.{IsFree, CanAddLink, is_dir_at, links_at}
use Rattle.nr_tree.specs.Changes.{entry_at}
use Rattle.nr_tree.specs.Rules.{first, on, node_of_handle, number_of_handle, handle_rule, name_rules, change_rules, is_dot_name}
use Rattle.nr_tree.proofs.SkeletonChanges.{value_at_at}
use Rattle.nr_tree.proofs.PassedRules.{AllClear, all_clear, clear, handled, got, is_changeable, is_name}
use Rattle.nr_tree.specs.DirectoryGraph.{links_max}
use Rattle.nr_ops_dir.specs.Entries.{number_of_entry, is_taken, directory_rule, links_rule}
use Rattle.nr_ops_dir.specs.Links.{link_place_rules, link_rules}

directory_by : (t : Tree) (c : Caller) (h : List ℕ) (v : Node) → node_of_handle t h ≡ Some v → (o : Option Node) → o ≡ Some v → first (on o (change_rules c)) ≡ None → is_dir_at t (number_of_handle h) ≡ true
directory_by t c h v e None q p = absurd cc
directory_by t c h v e (Some w) q p = is_changeable t c h w (e ∙ sym q) p

-- a directory that may be changed
pub directory_passed : (t : Tree) (c : Caller) (h : List ℕ) → handle_rule t h ≡ None → directory_rule t c (number_of_handle h) ≡ None → is_dir_at t (number_of_handle h) ≡ true
directory_passed t c h handle p =
    let v : (v : Node) × (node_of_handle t h ≡ Some v) = handled t h handle in
    directory_by t c h v.0 v.1 (get t.nodes (number_of_handle h)) (got t h v.0 v.1) p

no_entry : (o : Option Entry) → is_some (option_map (λ (e : Entry). e.number) o) ≡ false → o ≡ None
no_entry None p = refl
no_entry (Some e) p = absurd cc

-- a name that is free, and may be an entry's
pub free_name : (t : Tree) (d : ℕ) (name : List ℕ) → first (name_rules name) ≡ None → is_taken t d name ≡ false → IsFree (skeleton t) d name
free_name t d name p free =
    let ok : (0 < length name) × (length name ≤ name_length_max) = is_name name p in
    record { free = no_entry (entry_at t d name) (or_parts (is_dot_name name) (is_some (number_of_entry t d name)) free).1; not_empty = ok.0; not_too_long = ok.1 }

pub links_passed : (t : Tree) (n : ℕ) → links_rule t n ≡ None → links_at t n < links_max
links_passed t n p = leb-false links_max (links_at t n) (clear (leb links_max (links_at t n)) Mlink p)

-- LINK
pub can_add_link : (t : Tree) (c : Caller) (space : Space) (args : LinkArgs) → first (link_rules t c space args) ≡ None → CanAddLink t (number_of_handle args.dir) args.name (number_of_handle args.file)
can_add_link t c space args none =
    let all : AllClear (link_rules t c space args) = all_clear (link_rules t c space args) none in
    let place : AllClear (link_place_rules t c args) = all_clear (link_place_rules t c args) all.0 in
    let v : (v : Node) × (node_of_handle t args.file ≡ Some v) = handled t args.file place.0 in
    record {
      directory = directory_passed t c args.dir place.1.0 place.1.1.1.1.0;
      free = free_name t (number_of_handle args.dir) args.name place.1.1.1.0 (clear (is_taken t (number_of_handle args.dir) args.name) Exist all.1.0);
      live = value_at_at (λ (node : Node). true) false t.nodes (number_of_handle args.file) v.0 (got t args.file v.0 v.1);
      file = clear (is_dir_at t (number_of_handle args.file)) Isdir place.1.1.0;
      links = links_passed t (number_of_handle args.file) all.1.1.0;
    }
