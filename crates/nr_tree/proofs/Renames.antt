-- RENAME keeps a tree sane: the old target goes, the source entry is taken out, a new one put last.
use Rattle.std.proofs.Common.{◌≡◌, ℕ, ◌-◌, ◌<◌, ◌≤◌, Bool, true, false, cond, List, [], ◌∷◌, Option, None, Some, refl, ap, sym, ◌∙◌, subst, arith}
use Rattle.std.proofs.lemmas.Bool.{cond-true}
use Rattle.std.specs.Option.{option_map_or}
use Rattle.std.specs.Ordering.{nat_cmp}
use Rattle.std.specs.FinMap.{FinMap, get}
use Rattle.nr_nfs_base.specs.declared.time.Time.{Time}
use Rattle.nr_tree.specs.Entries.{Entry, entry_of_name, is_name, list_without}
use Rattle.nr_tree.specs.DirectoryGraph.{DirectoryGraph, set, one_if, entry_removed, IsConsistent, LiesBelow, links_max}
use Rattle.nr_tree.specs.Tree.{Tree, value_at, nodes_with_change, is_dir}
use Rattle.nr_tree.specs.Sane.{IsSane, skeleton_of, skeleton}
use Rattle.nr_tree.specs.Changes.{node_with_entry, node_without_entry, node_with_new_name, tree_without_entry, tree_with_entry_moved, tree_with_new_name, entry_at}
use Rattle.nr_tree.specs.Steps.{IsFree, IsFreeTarget, CanRename}
use Rattle.nr_tree.specs.declared.node.Node.{Node}
use Rattle.nr_tree.proofs.Lists.{set_here_lem, set_all}
use Rattle.nr_tree.proofs.SkeletonChanges.{skeleton_of_node_without_entry, skeleton_of_node_with_new_name}
use Rattle.nr_tree.proofs.Paths.{IsPathUp_same, differ}
use Rattle.nr_tree.proofs.EntryRemoved.{sound_entry_removed, has_entries}
use Rattle.nr_tree.proofs.Contents.{Fit, fit_with_change, fit_node_without_entry, none_without, gone_without, names_at, directory_at, node_at, Named}
use Rattle.nr_tree.proofs.Additions.{add_entry_to, add_entry_to_fit, add_entry_to_live}
use Rattle.nr_tree.proofs.Removals.{IsRemoval, removal}

abbrev Nodes : Type 0
Nodes = FinMap nat_cmp Node

-- a path of the tree with the entry taken out is one of the tree
path_before : (s : DirectoryGraph) (d : ℕ) (name : List ℕ) (h n top : ℕ) → LiesBelow (entry_removed s d name h) (Some h) n top → LiesBelow s None n top
path_before s d name h n top way = (way.0, IsPathUp_same (entry_removed s d name h) (Some h) s None (λ x dir ne free. (dir, refl, refl)) n way.0 top way.1)

-- the new entry's room and place
pub record IsFreePlace (s : DirectoryGraph) (from to : ℕ) (name : List ℕ) (h : ℕ) : Type 0 where
  pub dir : s.dir to ≡ true
  pub free : IsFree s to name
  pub room : s.dir h ≡ true → (to ≡ from → ⊥) → s.links to < links_max
  pub apart : s.dir h ≡ true → LiesBelow s None to h → ⊥

room_in : (s : DirectoryGraph) (from to : ℕ) (name : List ℕ) (h : ℕ) → IsConsistent s None → s.dir from ≡ true → s.dir h ≡ true → ((to ≡ from → ⊥) → s.links to < links_max) → 2 ≤ s.links from → (entry_removed s from name h).links to < links_max
room_in s from to name h sound is dir room two =
    set_all (λ l. l < links_max) from (s.links from - one_if (s.dir h)) s.links to
    (λ z. omega (arith, ap one_if dir, two, sound.links_limit from (sound.dirs_live from is))) room

pub two_links : (s : DirectoryGraph) (d : ℕ) → IsConsistent s None → s.dir d ≡ true → 2 ≤ s.links d
two_links s d sound is = let at = sound.links d (sound.dirs_live d is) ∙ cond-true (s.dir d) _ _ is in omega (arith, at)

pub sane_tree_with_entry_moved : (t : Tree) (now : Time) (from : ℕ) (name : List ℕ) (to : ℕ) (name_to : List ℕ) (e : Entry) → IsSane t → entry_at t from name ≡ Some e
    → IsFreePlace (skeleton t) from to name_to e.number → IsSane (tree_with_entry_moved t now from name to name_to e.number)
sane_tree_with_entry_moved t now from name to name_to e sane found welcome =
    let s : DirectoryGraph = skeleton t in
    let h : ℕ = e.number in
    let is : s.dir from ≡ true = has_entries s from name e sane.skeleton found in
    let v : (v : Node) × (get t.nodes from ≡ Some v) × (is_dir v ≡ true) = directory_at t.nodes from is in
    let b : Bool = value_at is_dir false t.nodes h in
    let nodes : Nodes = nodes_with_change t.nodes from (node_without_entry now name b) in
    let way : skeleton_of t.next nodes ≡ entry_removed s from name h = skeleton_of_node_without_entry t.next t.nodes from v.0 now name h b v.1 v.2 refl in
    let sound : IsConsistent (skeleton_of t.next nodes) (Some h) = subst (λ (k : DirectoryGraph). IsConsistent k (Some h)) (sym way) (sound_entry_removed s from name e sane.skeleton found) in
    let fit : Fit nodes = fit_with_change t.nodes from v.0 (node_without_entry now name b) v.1 sane.contents (λ f. fit_node_without_entry now name b v.0 v.0.content refl f) in
    let dir : (skeleton_of t.next nodes).dir to ≡ true = ap (λ (k : DirectoryGraph). k.dir to) way ∙ welcome.dir in
    let kind : b ≡ (skeleton_of t.next nodes).dir h = sym (ap (λ (k : DirectoryGraph). k.dir h) way) in
    let none : entry_of_name name_to ((entry_removed s from name h).entries to) ≡ None =
    set_all (λ es. entry_of_name name_to es ≡ None) from (list_without name (s.entries from)) s.entries to
    (λ z. none_without name_to name (s.entries from) (ap (λ (d : ℕ). entry_of_name name_to (s.entries d)) (sym z) ∙ welcome.free.free)) (λ ne. welcome.free.free) in
    let ok : IsFree (skeleton_of t.next nodes) to name_to = record { free = ap (λ (k : DirectoryGraph). entry_of_name name_to (k.entries to)) way ∙ none; not_empty = welcome.free.not_empty; not_too_long = welcome.free.not_too_long } in
    let links : (skeleton_of t.next nodes).links to ≡ (entry_removed s from name h).links to = ap (λ (k : DirectoryGraph). k.links to) way in
    let after : Nodes = nodes_with_change nodes to (node_with_entry now name_to h b) in
    let put : IsConsistent (record (skeleton_of t.next after) { parent = set h to (skeleton_of t.next after).parent }) None =
    add_entry_to t.next nodes h to now name_to b sound fit dir kind
    (λ d. let less : (entry_removed s from name h).links to < links_max = room_in s from to name h sane.skeleton is d (welcome.room d) (two_links s from sane.skeleton is) in omega (arith, links, less))
    (λ d below. welcome.apart d (path_before s from name h to h (subst (λ (k : DirectoryGraph). LiesBelow k (Some h) to h) way below))) in
    let live : (skeleton_of t.next after).live h ≡ true = ap (λ (f : ℕ → Bool). f h) (add_entry_to_live t.next nodes h to now name_to b sound fit dir) ∙ sound.detached_live h refl in
    let w : Named after h = node_at after h live in
    let all : Fit after = add_entry_to_fit t.next nodes h to now name_to b sound fit dir ok in
    record {
      contents = fit_with_change after h w.0 (node_with_new_name now to) w.1 all (λ f. f);
      skeleton = subst (λ (k : DirectoryGraph). IsConsistent k None) (sym (skeleton_of_node_with_new_name t.next after h w.0 now to w.1)) put;
    }

-- ===== with an old target

-- the entry of another name stays
pub still_found : (name other : List ℕ) (es : List Entry) (e g : Entry) → entry_of_name name es ≡ Some e → entry_of_name other es ≡ Some g → (g.number ≡ e.number → ⊥) → entry_of_name name (list_without other es) ≡ Some e
still_found name other [] e g found old ne = absurd cc
still_found name other (x ∷ es) e g found old ne = by_tests (is_name name x) (is_name other x) refl refl found old (λ f o. still_found name other es e g f o ne) where
  by_tests : (a b : Bool) → is_name name x ≡ a → is_name other x ≡ b → cond a (Some x) (entry_of_name name es) ≡ Some e → cond b (Some x) (entry_of_name other es) ≡ Some g
      → (entry_of_name name es ≡ Some e → entry_of_name other es ≡ Some g → entry_of_name name (list_without other es) ≡ Some e) → entry_of_name name (cond b es (x ∷ list_without other es)) ≡ Some e
  by_tests true true p q f o k = absurd (ne (let z : x ≡ e = cc in let y : x ≡ g = cc in ap (λ (i : Entry). i.number) (sym y ∙ z)))
  by_tests true false p q f o k = ap (λ (c : Bool). cond c (Some x) (entry_of_name name (list_without other es))) p ∙ f
  by_tests false true p q f o k = f
  by_tests false false p q f o k = ap (λ (c : Bool). cond c (Some x) (entry_of_name name (list_without other es))) p ∙ k f o

-- a directory that has an entry is none that may go
pub not_gone : (s : DirectoryGraph) (d g : ℕ) (name : List ℕ) (e : Entry) → s.dir d ≡ true → entry_of_name name (s.entries d) ≡ Some e → (s.dir g ≡ true → s.entries g ≡ []) → d ≡ g → ⊥
not_gone s d g name e is found bare z =
    let none : s.entries d ≡ [] = ap s.entries z ∙ bare (ap s.dir (sym z) ∙ is) in
    let nothing : entry_of_name name [] ≡ Some e = ap (entry_of_name name) (sym none) ∙ found in absurd cc

over_target : (t : Tree) (now : Time) (from : ℕ) (name : List ℕ) (to : ℕ) (name_to : List ℕ) (e : Entry) (o : Option Entry) → entry_at t to name_to ≡ o → IsSane t → entry_at t from name ≡ Some e
    → CanRename t from name to name_to e.number → IsFreeTarget (skeleton t) e.number o
    → IsSane (tree_with_entry_moved (option_map_or (λ g. tree_without_entry t now to name_to g.number) o t) now from name to name_to e.number)
over_target t now from name to name_to e None target sane found may go =
    sane_tree_with_entry_moved t now from name to name_to e sane found (record {
      dir = may.dir;
      free = record { free = target; not_empty = may.not_empty; not_too_long = may.not_too_long };
      room = may.links;
      apart = may.apart;
    })
over_target t now from name to name_to e (Some g) target sane found may go =
    let s : DirectoryGraph = skeleton t in
    let u : Tree = tree_without_entry t now to name_to g.number in
    let out : IsRemoval t to name_to g u = removal t now to name_to g sane target go.1 in
    let mid : DirectoryGraph = entry_removed s to name_to g.number in
    let k : DirectoryGraph = skeleton u in
    let is : s.dir from ≡ true = has_entries s from name e sane.skeleton found in
    let from_stays : from ≡ g.number → ⊥ = not_gone s from g.number name e is found go.1 in
    let to_stays : to ≡ g.number → ⊥ = not_gone s to g.number name_to g may.dir target go.1 in
    let e_stays : e.number ≡ g.number → ⊥ = λ z. go.0 (sym z) in
    let at_from : entry_of_name name (k.entries from) ≡ Some e =
    ap (entry_of_name name) (out.left.other from from_stays).2
    ∙ set_all (λ es. entry_of_name name es ≡ Some e) to (list_without name_to (s.entries to)) s.entries from
    (λ z. still_found name name_to (s.entries to) e g (ap (λ (d : ℕ). entry_of_name name (s.entries d)) (sym z) ∙ found) target go.0) (λ ne. found) in
    let at_to : k.entries to ≡ list_without name_to (s.entries to) = (out.left.other to to_stays).2 ∙ set_here_lem to (list_without name_to (s.entries to)) s.entries in
    let old_dir : k.dir e.number ≡ true → s.dir e.number ≡ true = λ d. sym (out.left.other e.number e_stays).1 ∙ d in
    let fewer : mid.links to ≤ s.links to = subst (λ (n : ℕ). n ≤ s.links to) (sym (set_here_lem to (s.links to - one_if (s.dir g.number)) s.links)) (omega arith) in
    let same : k.links to ≡ mid.links to = (out.left.other to to_stays).4 in
    sane_tree_with_entry_moved u now from name to name_to e out.sane at_from (record {
      dir = (out.left.other to to_stays).1 ∙ may.dir;
      free = record { free = ap (entry_of_name name_to) at_to ∙ gone_without name_to (s.entries to) (names_at t.nodes to sane.contents may.dir); not_empty = may.not_empty; not_too_long = may.not_too_long };
      room = λ d ne. (let less : s.links to < links_max = may.links (old_dir d) ne in omega (arith, same, fewer, less));
      apart = λ d way. may.apart (old_dir d) (
        way.0,
        IsPathUp_same k None s None
            (λ x dir ne free. (let other : x ≡ g.number → ⊥ = differ k.dir x g.number dir out.left.no_dir in
            (sym (out.left.other x other).1 ∙ dir, refl, sym (out.left.other x other).3))) to way.0 e.number way.1,
      );
    })

pub sane_tree_with_new_name : (t : Tree) (now : Time) (from : ℕ) (name : List ℕ) (to : ℕ) (name_to : List ℕ) (e : Entry) → IsSane t → entry_at t from name ≡ Some e
    → CanRename t from name to name_to e.number → IsSane (tree_with_new_name t now from name to name_to e.number)
sane_tree_with_new_name t now from name to name_to e sane found may = over_target t now from name to name_to e (entry_at t to name_to) refl sane found may may.target
