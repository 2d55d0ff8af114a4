-- Changes of nodes that may come in either order, and what they leave of other nodes.
use Rattle.std.proofs.Common.{◌≡◌, ℕ, ◌+◌, ◌-◌, ◌≤◌, Bool, true, false, cond, ◌||◌, leb, List, [], ◌∷◌, ◌++◌, Option, None, Some, IfSome, IsTrue, refl, ap, sym, ◌∙◌, subst, arith, inl, inr, ◌⊎◌}
use Rattle.std.proofs.lemmas.Bool.{cases_eq}
use Rattle.std.proofs.lemmas.Bool.Decides.{nat_tests}
use Rattle.std.specs.Prelude.{is_some}
use Rattle.std.specs.Option.{option_map, option_map_or}
use Rattle.std.specs.Ordering.{nat_cmp, eq_by_cmp}
use Rattle.std.specs.Cmp.{nat_cmp_total}
use Rattle.std.specs.FinMap.{FinMap, get, insert, remove, get-insert, get-remove, same_map, nat_cmp-IsAntisymmetric}
use Rattle.nr_nfs_base.specs.declared.time.Time.{Time}
use Rattle.nr_tree.specs.Entries.{Entry, is_name, entry_of_name, list_without, entries_with, entries_without, next_entry}
use Rattle.nr_tree.specs.DirectoryGraph.{one_if}
use Rattle.nr_tree.specs.Tree.{nodes_with_change, is_dir, is_directory, entries_in, entries_of}
use Rattle.nr_tree.specs.private.Room.{IsSource, HasEntryFor}
use Rattle.nr_tree.proofs.Indexes.{same_list}
use Rattle.nr_tree.specs.Changes.{on_entries, node_with_entry, node_without_entry, node_without_link, nodes_with_name_dropped}
use Rattle.nr_tree.specs.declared.node.Node.{Node}
use Rattle.nr_tree.specs.declared.node.Content.{Content}
use Rattle.nr_tree.specs.declared.node.Content.TheVariants.{Regular, Directory, Block, Character, Link, Socket, Fifo}
use Rattle.nr_tree.proofs.NodeMaps.{get_changed, other_key, same_number, changes_commute, turn, other_by}

abbrev Nodes : Type 0
Nodes = FinMap nat_cmp Node

own_key : (q : ℕ) → eq_by_cmp nat_cmp q q ≡ true
own_key q = grind (arith, nat_tests)

-- ===== two changes of one node

get_own : (m : Nodes) (k : ℕ) (f : Node → Node) → get (nodes_with_change m k f) k ≡ option_map f (get m k)
get_own m k f = get_changed m k f k ∙ ap (λ (b : Bool). cond b (option_map f (get m k)) (get m k)) (own_key k)

map_twice : (f g : Node → Node) (b : Bool) (o p : Option Node) → cond b (option_map g (option_map f o)) (cond b (option_map f o) p) ≡ cond b (option_map (λ v. g (f v)) o) p
map_twice f g true None p = refl
map_twice f g true (Some v) p = refl
map_twice f g false o p = refl

pub change_twice : (m : Nodes) (k : ℕ) (f g : Node → Node) → nodes_with_change (nodes_with_change m k f) k g ≡ nodes_with_change m k (λ v. g (f v))
change_twice m k f g =
    same_map nat_cmp_total nat_cmp-IsAntisymmetric _ _ (λ q.
    get_changed (nodes_with_change m k f) k g q
    ∙ (λ i. cond (eq_by_cmp nat_cmp q k) (option_map g (get_own m k f i)) (get_changed m k f q i))
    ∙ map_twice f g (eq_by_cmp nat_cmp q k) (get m k) (get m q)
    ∙ sym (get_changed m k (λ v. g (f v)) q))

same_change : (m : Nodes) (k : ℕ) (f g : Node → Node) (o : Option Node) → get m k ≡ o → ((v : Node) → o ≡ Some v → f v ≡ g v) → nodes_with_change m k f ≡ nodes_with_change m k g
same_change m k f g None e same =
    ap (λ (o : Option Node). option_map_or (λ node. insert m k (f node)) o m) e ∙ sym (ap (λ (o : Option Node). option_map_or (λ node. insert m k (g node)) o m) e)
same_change m k f g (Some v) e same =
    ap (λ (o : Option Node). option_map_or (λ node. insert m k (f node)) o m) e
    ∙ ap (insert m k) (same v refl)
    ∙ sym (ap (λ (o : Option Node). option_map_or (λ node. insert m k (g node)) o m) e)

-- changes of two nodes, or of one if they agree, may come in either order
pub swap_changes : (m : Nodes) (a b : ℕ) (f g : Node → Node) → ((a ≡ b) → (v : Node) → get m a ≡ Some v → g (f v) ≡ f (g v)) → nodes_with_change (nodes_with_change m a f) b g ≡ nodes_with_change (nodes_with_change m b g) a f
swap_changes m a b f g agree = by (cases_eq a b) where
  here : (c : ℕ) → a ≡ c → ((v : Node) → get m a ≡ Some v → g (f v) ≡ f (g v)) → nodes_with_change (nodes_with_change m a f) a g ≡ nodes_with_change (nodes_with_change m a g) a f
  here c z same = change_twice m a f g ∙ same_change m a (λ v. g (f v)) (λ v. f (g v)) (get m a) refl same ∙ sym (change_twice m a g f)

  by : (a ≡ b) ⊎ (a ≡ b → ⊥) → nodes_with_change (nodes_with_change m a f) b g ≡ nodes_with_change (nodes_with_change m b g) a f
  by (inl z) = subst (λ (c : ℕ). nodes_with_change (nodes_with_change m a f) c g ≡ nodes_with_change (nodes_with_change m c g) a f) z (here b z (agree z))
  by (inr ne) = changes_commute m a b f g ne

-- ===== a node dropped

get_dropped : (m : Nodes) (now : Time) (h : ℕ) (v : Node) (b : Bool) (q : ℕ)
    → get (cond b (remove m h) (insert m h (node_without_link now v))) q ≡ cond (eq_by_cmp nat_cmp q h) (cond b None (Some (node_without_link now v))) (get m q)
get_dropped m now h v true q = get-remove nat_cmp_total m h q
get_dropped m now h v false q = get-insert nat_cmp_total m h (node_without_link now v) q

not_changed : (m : Nodes) (k q : ℕ) (f : Node → Node) → (q ≡ k → ⊥) → get (nodes_with_change m k f) q ≡ get m q
not_changed m k q f ne = other_by m k f q (get m k) ne

drop_by : (m : Nodes) (to h : ℕ) (f : Node → Node) (now : Time) (v : Node) (b : Bool) → (to ≡ h → ⊥)
    → cond b (remove (nodes_with_change m to f) h) (insert (nodes_with_change m to f) h (node_without_link now v)) ≡ nodes_with_change (cond b (remove m h) (insert m h (node_without_link now v))) to f
drop_by m to h f now v b ne =
    same_map nat_cmp_total nat_cmp-IsAntisymmetric _ _ (λ q.
    get_dropped (nodes_with_change m to f) now h v b q
    ∙ ap (cond (eq_by_cmp nat_cmp q h) (cond b None (Some (node_without_link now v)))) (get_changed m to f q)
    ∙ turn (eq_by_cmp nat_cmp q h) (eq_by_cmp nat_cmp q to) (cond b None (Some (node_without_link now v))) (option_map f (get m to)) (get m q) (λ x y. ne (sym (same_number q to y) ∙ same_number q h x))
    ∙ sym (get_changed (cond b (remove m h) (insert m h (node_without_link now v))) to f q
    ∙ (λ i. cond (eq_by_cmp nat_cmp q to)
    (option_map f ((get_dropped m now h v b to ∙ ap (λ (c : Bool). cond c (cond b None (Some (node_without_link now v))) (get m to)) (other_key to h ne)) i))
    (get_dropped m now h v b q i))))

-- a change of another node may come after
pub drop_after : (m : Nodes) (to h : ℕ) (f : Node → Node) (now : Time) → (to ≡ h → ⊥) → nodes_with_name_dropped (nodes_with_change m to f) now h ≡ nodes_with_change (nodes_with_name_dropped m now h) to f
drop_after m to h f now ne = by (get m h) refl where
  drops : Nodes → Node → Nodes
  drops n v = cond (is_dir v || leb v.metadata.links 1) (remove n h) (insert n h (node_without_link now v))

  by : (o : Option Node) → get m h ≡ o → nodes_with_name_dropped (nodes_with_change m to f) now h ≡ nodes_with_change (nodes_with_name_dropped m now h) to f
  by None e =
      ap (λ (o : Option Node). option_map_or (drops (nodes_with_change m to f)) o (nodes_with_change m to f)) (not_changed m to h f (λ z. ne (sym z)) ∙ e)
      ∙ sym (ap (λ (n : Nodes). nodes_with_change n to f) (ap (λ (o : Option Node). option_map_or (drops m) o m) e))
  by (Some v) e =
      ap (λ (o : Option Node). option_map_or (drops (nodes_with_change m to f)) o (nodes_with_change m to f)) (not_changed m to h f (λ z. ne (sym z)) ∙ e)
      ∙ drop_by m to h f now v (is_dir v || leb v.metadata.links 1) ne
      ∙ sym (ap (λ (n : Nodes). nodes_with_change n to f) (ap (λ (o : Option Node). option_map_or (drops m) o m) e))

pub not_dropped : (m : Nodes) (now : Time) (h q : ℕ) → (q ≡ h → ⊥) → get (nodes_with_name_dropped m now h) q ≡ get m q
not_dropped m now h q ne = by (get m h) refl where
  drops : Node → Nodes
  drops v = cond (is_dir v || leb v.metadata.links 1) (remove m h) (insert m h (node_without_link now v))

  by : (o : Option Node) → get m h ≡ o → get (nodes_with_name_dropped m now h) q ≡ get m q
  by None e = ap (λ (o : Option Node). get (option_map_or drops o m) q) e
  by (Some v) e =
      ap (λ (o : Option Node). get (option_map_or drops o m) q) e ∙ get_dropped m now h v (is_dir v || leb v.metadata.links 1) q
      ∙ ap (λ (c : Bool). cond c (cond (is_dir v || leb v.metadata.links 1) None (Some (node_without_link now v))) (get m q)) (other_key q h ne)

-- ===== what is known of a node after another change

pub known_after : (m : Nodes) (k q : ℕ) (f : Node → Node) (P : Node → Type 0) → IfSome (get m q) P → (q ≡ k → (v : Node) → get m q ≡ Some v → P (f v)) → IfSome (get (nodes_with_change m k f) q) P
known_after m k q f P had step = by (cases_eq q k) where
  mapped : (o : Option Node) → ((v : Node) → o ≡ Some v → P (f v)) → IfSome (option_map f o) P
  mapped None s = tt
  mapped (Some v) s = s v refl

  by : (q ≡ k) ⊎ (q ≡ k → ⊥) → IfSome (get (nodes_with_change m k f) q) P
  by (inl z) = subst (λ (o : Option Node). IfSome o P) (sym (ap (λ (c : ℕ). get (nodes_with_change m c f) q) (sym z) ∙ get_own m q f)) (mapped (get m q) (step z))
  by (inr ne) = subst (λ (o : Option Node). IfSome o P) (sym (not_changed m k q f ne)) had

-- ===== entries of one directory

found_behind : (b : Bool) (x : Entry) (o : Option Entry) → is_some (cond b (Some x) o) ≡ true → b ≡ false → is_some o ≡ true
found_behind true x o t f = absurd cc
found_behind false x o t f = t

lists_commute : (a b : List ℕ) (es : List Entry) → list_without a (list_without b es) ≡ list_without b (list_without a es)
lists_commute a b [] = refl
lists_commute a b (x ∷ xs) = step (is_name a x) (is_name b x) refl refl (lists_commute a b xs) where
  step : (p q : Bool) → is_name a x ≡ p → is_name b x ≡ q → list_without a (list_without b xs) ≡ list_without b (list_without a xs)
      → list_without a (cond q xs (x ∷ list_without b xs)) ≡ list_without b (cond p xs (x ∷ list_without a xs))
  step true true p q k = ap (λ (n : List ℕ). list_without n xs) (same_list a x.name p ∙ sym (same_list b x.name q))
  step true false p q k = ap (λ (c : Bool). cond c (list_without b xs) (x ∷ list_without a (list_without b xs))) p
  step false true p q k = sym (ap (λ (c : Bool). cond c (list_without a xs) (x ∷ list_without b (list_without a xs))) q)
  step false false p q k =
      ap (λ (c : Bool). cond c (list_without b xs) (x ∷ list_without a (list_without b xs))) p
      ∙ ap (λ (l : List Entry). x ∷ l) k
      ∙ sym (ap (λ (c : Bool). cond c (list_without a xs) (x ∷ list_without b (list_without a xs))) q)

last_step : (b : Bool) (x e : Entry) (xs ws we : List Entry) → (b ≡ false → we ≡ ws ++ e ∷ []) → cond b (xs ++ e ∷ []) (x ∷ we) ≡ cond b xs (x ∷ ws) ++ e ∷ []
last_step true x e xs ws we k = refl
last_step false x e xs ws we k = ap (λ (l : List Entry). x ∷ l) (k refl)

without_last : (name : List ℕ) (es : List Entry) (e : Entry) → is_some (entry_of_name name es) ≡ true → list_without name (es ++ e ∷ []) ≡ list_without name es ++ e ∷ []
without_last name [] e t = absurd cc
without_last name (x ∷ xs) e t =
    last_step (is_name name x) x e xs (list_without name xs) (list_without name (xs ++ e ∷ [])) (λ f. without_last name xs e (found_behind (is_name name x) x (entry_of_name name xs) t f))

contents_commute : (a b : List ℕ) (c : Content) → on_entries (λ d. entries_without d b) (on_entries (λ d. entries_without d a) c) ≡ on_entries (λ d. entries_without d a) (on_entries (λ d. entries_without d b) c)
contents_commute a b (Directory d) = λ i. Directory (record { next_cookie = d.next_cookie; list = lists_commute b a d.list i })
contents_commute a b (Regular bytes) = refl
contents_commute a b (Block device) = refl
contents_commute a b (Character device) = refl
contents_commute a b (Link path) = refl
contents_commute a b Socket = refl
contents_commute a b Fifo = refl

fewer_links : (l x y : ℕ) → l - x - y ≡ l - y - x
fewer_links l x y = omega arith

-- two entries may be taken out in either order
pub without_commute : (now : Time) (a b : List ℕ) (x y : Bool) (v : Node) → node_without_entry now b y (node_without_entry now a x v) ≡ node_without_entry now a x (node_without_entry now b y v)
without_commute now a b x y v = λ i. record v {
  content = contents_commute a b v.content i;
  metadata = record v.metadata { links = fewer_links v.metadata.links (one_if x) (one_if y) i; mtime = now; ctime = now };
}

contents_swap : (a b : List ℕ) (h : ℕ) (c : Content) → is_some (entry_of_name a (entries_of c)) ≡ true
    → on_entries (λ d. entries_without d a) (on_entries (λ d. entries_with d b h) c) ≡ on_entries (λ d. entries_with d b h) (on_entries (λ d. entries_without d a) c)
contents_swap a b h (Directory d) t = λ i. Directory (record { next_cookie = d.next_cookie + 1; list = without_last a d.list (next_entry d b h) t i })
contents_swap a b h (Regular bytes) t = refl
contents_swap a b h (Block device) t = refl
contents_swap a b h (Character device) t = refl
contents_swap a b h (Link path) t = refl
contents_swap a b h Socket t = refl
contents_swap a b h Fifo t = refl

more_and_less : (l x y : ℕ) → x ≤ l → l + y - x ≡ l - x + y
more_and_less l x y le = omega (arith, le)

one_at_most : (b : Bool) → one_if b ≤ 1
one_at_most true = omega arith
one_at_most false = omega arith

-- an entry may be put last before another one is taken out
pub with_then_without : (now : Time) (a b : List ℕ) (h : ℕ) (x y : Bool) (v : Node) → is_some (entry_of_name a (entries_in v)) ≡ true → 1 ≤ v.metadata.links
    → node_without_entry now a x (node_with_entry now b h y v) ≡ node_with_entry now b h y (node_without_entry now a x v)
with_then_without now a b h x y v t le = λ i. record v {
  content = contents_swap a b h v.content t i;
  metadata = record v.metadata { links = more_and_less v.metadata.links (one_if x) (one_if y) (omega (arith, le, one_at_most x)) i; mtime = now; ctime = now };
}

-- ===== a RENAME

map_if : (o : Option Node) (P Q : Node → Type 0) → ((v : Node) → P v → Q v) → IfSome o P → IfSome o Q
map_if None P Q f h = tt
map_if (Some v) P Q f h = f v h

pub if_some : (o : Option Node) (P : Node → Type 0) (v : Node) → o ≡ Some v → IfSome o P → P v
if_some o P v e h = subst (λ (k : Option Node). IfSome k P) e h

is_dir_with : (now : Time) (name : List ℕ) (n : ℕ) (b : Bool) (v : Node) → is_dir (node_with_entry now name n b v) ≡ is_dir v
is_dir_with now name n b v = by v.content where
  by : (c : Content) → is_directory (on_entries (λ d. entries_with d name n) c) ≡ is_directory c
  by (Directory d) = refl
  by (Regular bytes) = refl
  by (Block device) = refl
  by (Character device) = refl
  by (Link path) = refl
  by Socket = refl
  by Fifo = refl

module _ (m : Nodes) (now : Time) (from : ℕ) (name : List ℕ) (to : ℕ) (name_to : List ℕ) (h : ℕ) (b : Bool) where
  abbrev O : Node → Node
  O = node_without_entry now name b

  abbrev W : Node → Node
  W = node_with_entry now name_to h b

  -- the name is free: the entry is put before the old one is taken out
  pub to_free : IfSome (get m from) (IsSource name) → nodes_with_change (nodes_with_change m to W) from O ≡ nodes_with_change (nodes_with_change m from O) to W
  to_free source = swap_changes m to from W O (λ z v e.
      (let s : IsSource name v = if_some (get m from) (IsSource name) v (ap (get m) (sym z) ∙ e) source in
      with_then_without now name name_to h b b v s.2 (let two : 2 ≤ v.metadata.links = s.1 in omega (arith, two))))

  pub source_stays : IfSome (get m from) (IsSource name) → IfSome (get (nodes_with_change m to W) from) (λ n. IsTrue (is_dir n) × (1 ≤ n.metadata.links))
  source_stays source = known_after m to from W (λ n. IsTrue (is_dir n) × (1 ≤ n.metadata.links))
      (map_if (get m from) (IsSource name) (λ n. IsTrue (is_dir n) × (1 ≤ n.metadata.links)) (λ v s. (s.0, (let two : 2 ≤ v.metadata.links = s.1 in omega (arith, two)))) source)
      (λ z v e. (let s : IsSource name v = if_some (get m from) (IsSource name) v e source in
      let two : 2 ≤ v.metadata.links = s.1 in (subst IsTrue (sym (is_dir_with now name_to h b v)) s.0, omega (arith, two))))

  module _ (g : ℕ) (was : Bool) (to_stays : to ≡ g → ⊥) (from_stays : from ≡ g → ⊥) where
    abbrev A : Node → Node
    A = node_without_entry now name_to was

    abbrev D : Nodes
    D = nodes_with_name_dropped m now g

    -- another node's name: its entry goes when the new one is put last
    pub over_other : nodes_with_change (nodes_with_change D from O) to (λ n. W (A n)) ≡ nodes_with_change (nodes_with_change (nodes_with_name_dropped (nodes_with_change m to A) now g) from O) to W
    over_other =
        sym (change_twice (nodes_with_change D from O) to A W)
        ∙ ap (λ (n : Nodes). nodes_with_change n to W) (swap_changes D from to O A (λ z v e. without_commute now name name_to b was v) ∙ ap (λ (n : Nodes). nodes_with_change n from O) (sym (drop_after m to g A now to_stays)))

    pub source_left : IfSome (get m from) (IsSource name) → IfSome (get D from) (λ n. IsTrue (is_dir n) × (1 ≤ n.metadata.links))
    source_left source = subst (λ (o : Option Node). IfSome o (λ n. IsTrue (is_dir n) × (1 ≤ n.metadata.links))) (sym (not_dropped m now g from from_stays))
        (map_if (get m from) (IsSource name) (λ n. IsTrue (is_dir n) × (1 ≤ n.metadata.links)) (λ v s. (s.0, (let two : 2 ≤ v.metadata.links = s.1 in omega (arith, two)))) source)

    pub entry_left : IfSome (get m to) (HasEntryFor name_to was) → (to ≡ from → IfSome (get m to) (λ n. HasEntryFor name_to was (O n))) → IfSome (get (nodes_with_change D from O) to) (HasEntryFor name_to was)
    entry_left had after =
        known_after D from to O (HasEntryFor name_to was) (subst (λ (o : Option Node). IfSome o (HasEntryFor name_to was)) (sym (not_dropped m now g to to_stays)) had)
        (λ z v e. if_some (get m to) (λ n. HasEntryFor name_to was (O n)) v (sym (not_dropped m now g to to_stays) ∙ e) (after z))
