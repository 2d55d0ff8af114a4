-- The drill's tree is made by steps.
use Rattle.std.proofs.Common.{◌≡◌, ℕ, zero, suc, ◌+◌, ◌*◌, ◌/◌, ◌%◌, ◌<◌, ◌≤◌, ◌^◌, Bool, true, false, cond, eqb, ◌&&◌, List, [], ◌∷◌, ◌++◌, length, Option, None, Some, Result, Ok, Err, OnOk, refl, ap, sym, ◌∙◌, subst, arith, inl, inr, ◌⊎◌}
use Rattle.std.proofs.lemmas.Bool.{cases_eq, false_from_ne_true, and_parts, eqb-true}
use Rattle.std.proofs.lemmas.Bool.Decides.{nat_tests}
use Rattle.std.specs.Prelude.{nat_eq}
use Rattle.std.specs.Cmp.Lexicographic.{pointwise}
use Rattle.std.specs.Option.{option_map, option_map_or}
use Rattle.std.specs.Ordering.{nat_cmp, eq_by_cmp}
use Rattle.std.specs.Cmp.{nat_cmp_total}
use Rattle.std.specs.FinMap.{FinMap, get, insert, empty, get-insert, get-empty}
use Rattle.nr_nfs_base.specs.declared.time.Time.{Time}
use Rattle.nr_nfs_base.specs.Limits.{name_length_max}
use Rattle.nr_tree.specs.Entries.{Entry, entry_of_name}
use Rattle.nr_tree.specs.Tree.{Tree, is_dir, entries_in}
use Rattle.nr_tree.specs.Steps.{IsBelow, IsNew, CanAddNode}
use Rattle.nr_tree.specs.Changes.{next_cookie_of, node_with_entry, tree_with_node}
use Rattle.nr_tree.specs.Roots.{root_node, root_only}
use Rattle.nr_tree.specs.Drill.{time_zero, drill_node, mode_777, mode_666, hello, link, many, file_name, many_entries, IsDrillWith, many_node, hello_node, link_node, with_root, with_hello, with_link, with_many}
use Rattle.nr_tree.specs.declared.node.Node.{Node}
use Rattle.nr_tree.specs.declared.node.Content.{Content}
use Rattle.nr_tree.specs.declared.node.Content.TheVariants.{Regular, Directory, Block, Character, Link, Socket, Fifo}
use Rattle.nr_tree.proofs.NodeMaps.{get_changed, other_key}
use Rattle.nr_tree.proofs.Contents.{none_append}
use Rattle.nr_tree.specs.DirectoryGraph.{links_max}
use Rattle.nr_tree.specs.Sane.{file_size_max}
use Rattle.nr_nfs_base.specs.Limits.{link_target_max}

own_key : (q : ℕ) → eq_by_cmp nat_cmp q q ≡ true
own_key q = grind (arith, nat_tests)

-- ===== what is under each number after a node is added

module _ (t : Tree) (now : Time) (d : ℕ) (name : List ℕ) (node : Node) (ne : d ≡ t.next → ⊥) where
  abbrev u : Tree
  u = tree_with_node t now d name node

  abbrev m : FinMap nat_cmp Node
  m = insert t.nodes t.next node

  abbrev f : Node → Node
  f = node_with_entry now name t.next (is_dir node)

  get_other : (q : ℕ) → (q ≡ t.next → ⊥) → get m q ≡ get t.nodes q
  get_other q other = get-insert nat_cmp_total t.nodes t.next node q ∙ ap (λ (b : Bool). cond b (Some node) (get t.nodes q)) (other_key q t.next other)

  pub at_dir : (v : Node) → get t.nodes d ≡ Some v → get u.nodes d ≡ Some (f v)
  at_dir v e = get_changed m d f d ∙ ap (λ (b : Bool). cond b (option_map f (get m d)) (get m d)) (own_key d) ∙ ap (option_map f) (get_other d ne ∙ e)

  pub at_new : get u.nodes t.next ≡ Some node
  at_new =
      get_changed m d f t.next ∙ ap (λ (b : Bool). cond b (option_map f (get m d)) (get m t.next)) (other_key t.next d (λ z. ne (sym z)))
      ∙ get-insert nat_cmp_total t.nodes t.next node t.next ∙ ap (λ (b : Bool). cond b (Some node) (get t.nodes t.next)) (own_key t.next)

  pub at_rest : (q : ℕ) → (q ≡ d → ⊥) → (q ≡ t.next → ⊥) → get u.nodes q ≡ get t.nodes q
  at_rest q no_dir no_next = get_changed m d f q ∙ ap (λ (b : Bool). cond b (option_map f (get m d)) (get m q)) (other_key q d no_dir) ∙ get_other q no_next

-- ===== numbers and cookies

cookie_up : (now : Time) (name : List ℕ) (n : ℕ) (b : Bool) (limit : ℕ) (v : Node) (c : Content) → v.content ≡ c → next_cookie_of v.content < limit → next_cookie_of (node_with_entry now name n b v).content < limit + 1
cookie_up now name n b limit v (Directory d) e lt = let low : d.next_cookie < limit = rw (e) at lt in rw (e) (omega (arith, low))
cookie_up now name n b limit v (Regular bytes) e lt = rw (e) (omega arith)
cookie_up now name n b limit v (Block device) e lt = rw (e) (omega arith)
cookie_up now name n b limit v (Character device) e lt = rw (e) (omega arith)
cookie_up now name n b limit v (Link path) e lt = rw (e) (omega arith)
cookie_up now name n b limit v Socket e lt = rw (e) (omega arith)
cookie_up now name n b limit v Fifo e lt = rw (e) (omega arith)

is_it : (v w : Node) (o : Option Node) → o ≡ Some w → o ≡ Some v → w ≡ v
is_it v w o a b = let both : Some w ≡ Some v = sym a ∙ b in cc

pub below_add_node : (t : Tree) (now : Time) (d : ℕ) (name : List ℕ) (node : Node) (limit : ℕ) → (d ≡ t.next → ⊥) → IsBelow limit t → (v : Node) × (get t.nodes d ≡ Some v) → next_cookie_of node.content < limit
    → IsBelow (limit + 1) (tree_with_node t now d name node)
below_add_node t now d name node limit ne below dir low = record { next = omega (arith, below.next); cookies = λ n v e. by n v e (cases_eq n d) (cases_eq n t.next) } where
  by : (n : ℕ) (v : Node) → get (tree_with_node t now d name node).nodes n ≡ Some v → (n ≡ d) ⊎ (n ≡ d → ⊥) → (n ≡ t.next) ⊎ (n ≡ t.next → ⊥) → next_cookie_of v.content < limit + 1
  by n v e (inl z) r =
      subst (λ (x : Node). next_cookie_of x.content < limit + 1)
      (is_it v (node_with_entry now name t.next (is_dir node) dir.0) (get (tree_with_node t now d name node).nodes d) (at_dir t now d name node ne dir.0 dir.1) (ap (get (tree_with_node t now d name node).nodes) (sym z) ∙ e))
      (cookie_up now name t.next (is_dir node) limit dir.0 dir.0.content refl (below.cookies d dir.0 dir.1))
  by n v e (inr apart) (inl z) =
      subst (λ (x : Node). next_cookie_of x.content < limit + 1)
      (is_it v node (get (tree_with_node t now d name node).nodes t.next) (at_new t now d name node ne) (ap (get (tree_with_node t now d name node).nodes) (sym z) ∙ e)) (omega (arith, low))
  by n v e (inr apart) (inr other) =
      let less : next_cookie_of v.content < limit = below.cookies n v (sym (at_rest t now d name node ne n apart other) ∙ e) in omega (arith, less)

-- ===== the root alone

abbrev no_nodes : FinMap nat_cmp Node
no_nodes = empty

pub root_at : (now : Time) → get (root_only now).nodes 1 ≡ Some (root_node now)
root_at now = get-insert nat_cmp_total no_nodes 1 (root_node now) 1 ∙ ap (λ (b : Bool). cond b (Some (root_node now)) (get no_nodes 1)) (own_key 1)

pub no_other_at : (now : Time) (q : ℕ) → (q ≡ 1 → ⊥) → get (root_only now).nodes q ≡ None
no_other_at now q ne =
    get-insert nat_cmp_total no_nodes 1 (root_node now) q ∙ ap (λ (b : Bool). cond b (Some (root_node now)) (get no_nodes q)) (other_key q 1 ne) ∙ get-empty nat_cmp q

pub below_root_only : (now : Time) → IsBelow 3 (root_only now)
below_root_only now = record { next = omega arith; cookies = λ n v e. by n v e (cases_eq n 1) } where
  by : (n : ℕ) (v : Node) → get (root_only now).nodes n ≡ Some v → (n ≡ 1) ⊎ (n ≡ 1 → ⊥) → next_cookie_of v.content < 3
  by n v e (inl z) = subst (λ (x : Node). next_cookie_of x.content < 3) (is_it v (root_node now) (get (root_only now).nodes 1) (root_at now) (ap (get (root_only now).nodes) (sym z) ∙ e)) (omega arith)
  by n v e (inr ne) = let none : None ≡ Some v = sym (no_other_at now n ne) ∙ e in absurd cc

-- ===== what may be added

pub can_add : (t : Tree) (d : ℕ) (name : List ℕ) (mode links : ℕ) (content : Content) (v : Node) → get t.nodes d ≡ Some v → is_dir v ≡ true → entry_of_name name (entries_in v) ≡ None
    → 0 < length name → length name ≤ name_length_max → v.metadata.links < links_max → IsNew (drill_node mode links d content) d → CanAddNode t d name (drill_node mode links d content)
can_add t d name mode links content v e dir none some few room new = record {
  directory = ap (λ (o : Option Node). option_map_or is_dir o false) e ∙ dir;
  free = record { free = ap (λ (o : Option Node). entry_of_name name (option_map_or entries_in o [])) e ∙ none; not_empty = some; not_too_long = few };
  new = new;
  links = λ b. subst (λ (k : ℕ). k < links_max) (sym (ap (λ (o : Option Node). option_map_or (λ (node : Node). node.metadata.links) o 0) e)) room;
}

pub new_file : (d : ℕ) (bytes : List ℕ) → length bytes ≤ file_size_max → IsNew (drill_node mode_666 1 d (Regular bytes)) d
new_file d bytes le = record { fit = le; empty = refl; first_cookie = omega arith; parent = refl; links = refl }

pub new_link : (d : ℕ) (path : List ℕ) → 0 < length path → length path ≤ link_target_max → IsNew (drill_node mode_777 1 d (Link path)) d
new_link d path some few = record { fit = (some, few); empty = refl; first_cookie = omega arith; parent = refl; links = refl }

pub new_directory : (d : ℕ) → IsNew (drill_node mode_777 2 d (Directory (record { next_cookie = 1; list = [] }))) d
new_directory d = record { fit = (omega arith, tt); empty = refl; first_cookie = omega arith; parent = refl; links = refl }

-- ===== names of the files differ

tens : (i : ℕ) → i / 10 * 10 + i % 10 ≡ i
tens i = omega arith

other_name : (i j : ℕ) → j < i → pointwise nat_eq (file_name i) (file_name j) ≡ false
other_name i j lt = false_from_ne_true _ (λ t.
    let p : (eqb (48 + i / 10) (48 + j / 10) ≡ true) × ((eqb (48 + i % 10) (48 + j % 10) && true) ≡ true) = and_parts (eqb (48 + i / 10) (48 + j / 10)) _ t in
    let q : (eqb (48 + i % 10) (48 + j % 10) ≡ true) × (true ≡ true) = and_parts (eqb (48 + i % 10) (48 + j % 10)) true p.1 in
    omega (arith, lt, tens i, tens j, eqb-true (48 + i / 10) (48 + j / 10) p.0, eqb-true (48 + i % 10) (48 + j % 10) q.0))

name_free : (i j : ℕ) → j ≤ i → entry_of_name (file_name i) (many_entries j) ≡ None
name_free i zero le = refl
name_free i (suc j) le = none_append (file_name i) (many_entries j) (record { cookie = j + 1; name = file_name j; number = j + 5 }) (name_free i j (omega (arith, le))) (other_name i j (omega (arith, le)))

abbrev file_node : Node
file_node = drill_node mode_666 1 4 (Regular [])

module _ (i : ℕ) (t : Tree) (is : IsDrillWith i t) where
  pub can_add_file : CanAddNode t 4 (file_name i) file_node
  can_add_file = can_add t 4 (file_name i) mode_666 1 (Regular []) (many_node i) is.many_directory refl (name_free i i (omega arith)) (omega arith) (omega arith) (omega arith) (new_file 4 [] (omega arith))

  not_four : 4 ≡ t.next → ⊥
  not_four z = omega (arith, z, is.next)

  abbrev more : Tree
  more = tree_with_node t time_zero 4 (file_name i) file_node

  rest : (q : ℕ) → (q ≡ 4 → ⊥) → (q ≡ i + 5 → ⊥) → get more.nodes q ≡ get t.nodes q
  rest q no_dir no_next = at_rest t time_zero 4 (file_name i) file_node not_four q no_dir (λ z. no_next (z ∙ is.next))

  grown : node_with_entry time_zero (file_name i) t.next false (many_node i) ≡ many_node (suc i)
  grown =
      let cookie : i + 1 + 1 ≡ suc i + 1 = omega arith in
      (λ k. drill_node mode_777 2 1 (Directory (record { next_cookie = cookie k; list = many_entries i ++ record { cookie = i + 1; name = file_name i; number = is.next k } ∷ [] })))

  files_by : (n : ℕ) → 5 ≤ n → n < suc i + 5 → (n ≡ t.next) ⊎ (n ≡ t.next → ⊥) → get more.nodes n ≡ Some file_node
  files_by n low high (inl z) = ap (get more.nodes) z ∙ at_new t time_zero 4 (file_name i) file_node not_four
  files_by n low high (inr ne) =
      rest n (λ z. omega (arith, low, z)) (λ z. ne (z ∙ sym is.next))
      ∙ is.files n low (let apart : n ≡ i + 5 → ⊥ = λ z. ne (z ∙ sym is.next) in omega (arith, apart, high))

  none_by : (n : ℕ) → (n ≡ 0) ⊎ (suc i + 5 ≤ n) → get more.nodes n ≡ None
  none_by n (inl z) = rest n (λ y. omega (arith, z, y)) (λ y. omega (arith, z, y)) ∙ is.nothing_else n (inl z)
  none_by n (inr le) = rest n (λ y. omega (arith, le, y)) (λ y. omega (arith, le, y)) ∙ is.nothing_else n (inr (omega (arith, le)))

  pub drill_more : IsDrillWith (suc i) more
  drill_more = record {
    next = omega (arith, is.next);
    root = rest 1 (λ z. omega (arith, z)) (λ z. omega (arith, z)) ∙ is.root;
    hello_file = rest 2 (λ z. omega (arith, z)) (λ z. omega (arith, z)) ∙ is.hello_file;
    link_node = rest 3 (λ z. omega (arith, z)) (λ z. omega (arith, z)) ∙ is.link_node;
    many_directory = at_dir t time_zero 4 (file_name i) file_node not_four (many_node i) is.many_directory ∙ ap Some grown;
    files = λ n low high. files_by n low high (cases_eq n t.next);
    nothing_else = none_by;
  }

-- ===== the first three nodes

abbrev root_with : ℕ → ℕ → List Entry → Node
root_with links cookie es = drill_node mode_777 links 1 (Directory (record { next_cookie = cookie; list = es }))

no_two : ◌≡◌ {A = ℕ} 1 2 → ⊥
no_two z = omega (arith, z)

no_three : ◌≡◌ {A = ℕ} 1 3 → ⊥
no_three z = omega (arith, z)

no_four : ◌≡◌ {A = ℕ} 1 4 → ⊥
no_four z = omega (arith, z)

root_hello : get with_hello.nodes 1 ≡ Some (root_with 2 2 (record { cookie = 1; name = hello; number = 2 } ∷ []))
root_hello = at_dir with_root time_zero 1 hello hello_node no_two (root_node time_zero) (root_at time_zero)

root_link : get with_link.nodes 1 ≡ Some (root_with 2 3 (record { cookie = 1; name = hello; number = 2 } ∷ record { cookie = 2; name = link; number = 3 } ∷ []))
root_link = at_dir with_hello time_zero 1 link link_node no_three _ root_hello

pub can_add_hello : CanAddNode with_root 1 hello hello_node
can_add_hello = can_add with_root 1 hello mode_666 1 (Regular hello) (root_node time_zero) (root_at time_zero) refl refl (omega arith) (omega arith) (omega arith) (new_file 1 hello (omega arith))

pub can_add_link : CanAddNode with_hello 1 link link_node
can_add_link = can_add with_hello 1 link mode_777 1 (Link hello) _ root_hello refl refl (omega arith) (omega arith) (omega arith) (new_link 1 hello (omega arith) (omega arith))

pub can_add_many : CanAddNode with_link 1 many (many_node 0)
can_add_many = can_add with_link 1 many mode_777 2 (Directory (record { next_cookie = 1; list = [] })) _ root_link refl refl (omega arith) (omega arith) (omega arith) (new_directory 1)

pub below_hello : IsBelow 4 with_hello
below_hello = below_add_node with_root time_zero 1 hello hello_node 3 no_two (below_root_only time_zero) (root_node time_zero, root_at time_zero) (omega arith)

pub below_link : IsBelow 5 with_link
below_link = below_add_node with_hello time_zero 1 link link_node 4 no_three below_hello (_, root_hello) (omega arith)

pub below_many : IsBelow 6 with_many
below_many = below_add_node with_link time_zero 1 many (many_node 0) 5 no_four below_link (_, root_link) (omega arith)

rest_many : (q : ℕ) → (q ≡ 1 → ⊥) → (q ≡ 4 → ⊥) → get with_many.nodes q ≡ get with_link.nodes q
rest_many q a b = at_rest with_link time_zero 1 many (many_node 0) no_four q a b

rest_link : (q : ℕ) → (q ≡ 1 → ⊥) → (q ≡ 3 → ⊥) → get with_link.nodes q ≡ get with_hello.nodes q
rest_link q a b = at_rest with_hello time_zero 1 link link_node no_three q a b

rest_hello : (q : ℕ) → (q ≡ 1 → ⊥) → (q ≡ 2 → ⊥) → get with_hello.nodes q ≡ get with_root.nodes q
rest_hello q a b = at_rest with_root time_zero 1 hello hello_node no_two q a b

nothing : (n : ℕ) → (n ≡ 1 → ⊥) → (n ≡ 2 → ⊥) → (n ≡ 3 → ⊥) → (n ≡ 4 → ⊥) → get with_many.nodes n ≡ None
nothing n a b c d = rest_many n a d ∙ rest_link n a c ∙ rest_hello n a b ∙ no_other_at time_zero n a

nothing_by : (n : ℕ) → (n ≡ 0) ⊎ (5 ≤ n) → get with_many.nodes n ≡ None
nothing_by n (inl z) = nothing n (λ y. omega (arith, z, y)) (λ y. omega (arith, z, y)) (λ y. omega (arith, z, y)) (λ y. omega (arith, z, y))
nothing_by n (inr le) = nothing n (λ y. omega (arith, le, y)) (λ y. omega (arith, le, y)) (λ y. omega (arith, le, y)) (λ y. omega (arith, le, y))

pub drill_begins : IsDrillWith 0 with_many
drill_begins = record {
  next = refl;
  root = at_dir with_link time_zero 1 many (many_node 0) no_four _ root_link;
  hello_file = rest_many 2 (λ z. omega (arith, z)) (λ z. omega (arith, z)) ∙ rest_link 2 (λ z. omega (arith, z)) (λ z. omega (arith, z)) ∙ at_new with_root time_zero 1 hello hello_node no_two;
  link_node = rest_many 3 (λ z. omega (arith, z)) (λ z. omega (arith, z)) ∙ at_new with_hello time_zero 1 link link_node no_three;
  many_directory = at_new with_link time_zero 1 many (many_node 0) no_four;
  files = λ n low high. absurd (omega (arith, low, high));
  nothing_else = nothing_by;
}

-- ===== for the code

pub bounded_by : (limit : ℕ) (t : Tree) → limit ≤ 2 ^ 63 → IsBelow limit t → IsBelow (2 ^ 63) t
bounded_by limit t le below = record { next = omega (arith, le, below.next); cookies = λ n v e. (let low : next_cookie_of v.content < limit = below.cookies n v e in omega (arith, le, low)) }

pub bounded_as : (t u : Tree) (limit : ℕ) → limit ≤ 2 ^ 63 → t ≡ u → IsBelow limit u → IsBelow (2 ^ 63) t
bounded_as t u limit le same below = bounded_by limit t le (subst (IsBelow limit) (sym same) below)

pub allowed_as : (t u : Tree) (v w : Node) (d : ℕ) (name : List ℕ) → t ≡ u → v ≡ w → CanAddNode u d name w → CanAddNode t d name v
allowed_as t u v w d name p q can = subst (λ (x : Tree). CanAddNode x d name v) (sym p) (subst (λ (y : Node). CanAddNode u d name y) (sym q) can)

pub added_as : (t u new : Tree) (v w : Node) (d : ℕ) (name : List ℕ) → t ≡ u → v ≡ w → new ≡ tree_with_node t time_zero d name v → new ≡ tree_with_node u time_zero d name w
added_as t u new v w d name p q made = made ∙ (λ i. tree_with_node (p i) time_zero d name (q i))

pub more_as : (i k : ℕ) (t new : Tree) (v : Node) → v ≡ file_node → k ≡ suc i → IsDrillWith i t → new ≡ tree_with_node t time_zero 4 (file_name i) v → IsDrillWith k new
more_as i k t new v q one is made = subst (λ (n : ℕ). IsDrillWith n new) (sym one) (subst (IsDrillWith (suc i)) (sym (made ∙ ap (λ (w : Node). tree_with_node t time_zero 4 (file_name i) w) q)) (drill_more i t is))

pub below_as : (i k limit : ℕ) (t new : Tree) (v : Node) → v ≡ file_node → k ≡ limit + 1 → 1 < limit → IsDrillWith i t → IsBelow limit t → new ≡ tree_with_node t time_zero 4 (file_name i) v → IsBelow k new
below_as i k limit t new v q one low is below made =
    subst (λ (n : ℕ). IsBelow n new) (sym one)
    (subst (IsBelow (limit + 1)) (sym (made ∙ ap (λ (w : Node). tree_with_node t time_zero 4 (file_name i) w) q))
    (below_add_node t time_zero 4 (file_name i) file_node limit (not_four i t is) below (many_node i, is.many_directory) (omega (arith, low))))

pub on_ok_map : {A E : Type 0} {P Q : Type 0} (r : Result A E) → (P → Q) → OnOk r P → OnOk r Q
on_ok_map (Ok x) f p = f p
on_ok_map (Err e) f p = tt
