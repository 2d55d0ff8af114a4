use Rattle.std.proofs.Common.{◌≡◌, ℕ, Bool, true, false, arith, List, [], ◌∷◌, Option, None, Some, cond, IfSome, IsTrue, Result, Ok, Err, OnOk, OnErr, ◌≤◌, subst, refl, ap, sym, ◌∙◌}
use Rattle.std.specs.Ordering.{nat_cmp, eq_by_cmp}
use Rattle.std.specs.Cmp.{nat_cmp_total, eq_by_cmp_equiv}
use Rattle.std.specs.BTreeMap.{is_at}
use Rattle.std.specs.Map.{lookup}
use Rattle.std.specs.FinMap.{FinMap, find, get, insert, remove, get-from_entries, get-insert, get-remove, same_map, nat_cmp-IsAntisymmetric}
use Rattle.nr_tree.specs.declared.node.Node.{Node}
use Rattle.nr_tree.specs.Tree.{nodes_of, nodes_with_change}
use Rattle.std.specs.Option.{option_map_or, option_map}
use Rattle.nr_tree.specs.DirectoryGraph.{one_if}
use Rattle.std.proofs.lemmas.Bool.Decides.{nat_tests}

find_lookup : (q : ℕ) (es : List (ℕ × Node)) → find nat_cmp q es ≡ lookup (is_at (nat_cmp q)) es
find_lookup q [] = refl
find_lookup q (e ∷ es) = ap (cond (eq_by_cmp nat_cmp q e.0) (Some e.1)) (find_lookup q es)

-- what the map has at a key is what the entries have there
pub get_node : (es : List (ℕ × Node)) (q : ℕ) → get (nodes_of es) q ≡ lookup (is_at (nat_cmp q)) es
get_node es q = get-from_entries nat_cmp_total es q ∙ find_lookup q es

turned : (a b : ℕ) → is_at (nat_cmp a) b ≡ is_at (nat_cmp b) a
turned a b = (eq_by_cmp_equiv nat_cmp_total).symm a b

pub nodes_insert : (es fs : List (ℕ × Node)) (k : ℕ) (v : Node)
    → ((q : ℕ) → lookup (is_at (nat_cmp q)) fs ≡ cond (is_at (nat_cmp k) q) (Some v) (lookup (is_at (nat_cmp q)) es))
    → nodes_of fs ≡ insert (nodes_of es) k v
nodes_insert es fs k v is =
    same_map nat_cmp_total nat_cmp-IsAntisymmetric _ _
    (λ q. get_node fs q ∙ is q ∙ ap (λ b. cond b (Some v) (lookup (is_at (nat_cmp q)) es)) (turned k q)
    ∙ ap (cond (eq_by_cmp nat_cmp q k) (Some v)) (sym (get_node es q)) ∙ sym (get-insert nat_cmp_total (nodes_of es) k v q))

pub nodes_remove : (es fs : List (ℕ × Node)) (k : ℕ)
    → ((q : ℕ) → lookup (is_at (nat_cmp q)) fs ≡ cond (is_at (nat_cmp k) q) None (lookup (is_at (nat_cmp q)) es))
    → nodes_of fs ≡ remove (nodes_of es) k
nodes_remove es fs k is =
    same_map nat_cmp_total nat_cmp-IsAntisymmetric _ _
    (λ q. get_node fs q ∙ is q ∙ ap (λ b. cond b None (lookup (is_at (nat_cmp q)) es)) (turned k q)
    ∙ ap (cond (eq_by_cmp nat_cmp q k) None) (sym (get_node es q)) ∙ sym (get-remove nat_cmp_total (nodes_of es) k q))

-- a change of the node under a number
pub nodes_changed : (es fs : List (ℕ × Node)) (k : ℕ) (change : Node → Node) (v : Node) → lookup (is_at (nat_cmp k)) es ≡ Some v
    → ((q : ℕ) → lookup (is_at (nat_cmp q)) fs ≡ cond (is_at (nat_cmp k) q) (Some (change v)) (lookup (is_at (nat_cmp q)) es))
    → nodes_of fs ≡ nodes_with_change (nodes_of es) k change
nodes_changed es fs k change v had is =
    nodes_insert es fs k (change v) is
    ∙ sym (ap (λ o. option_map_or (λ node. insert (nodes_of es) k (change node)) o (nodes_of es)) (get_node es k ∙ had))

pub nodes_absent : (es fs : List (ℕ × Node)) (k : ℕ) (change : Node → Node) → lookup (is_at (nat_cmp k)) es ≡ None → fs ≡ es
    → nodes_of fs ≡ nodes_with_change (nodes_of es) k change
nodes_absent es fs k change had same =
    ap nodes_of same
    ∙ sym (ap (λ o. option_map_or (λ node. insert (nodes_of es) k (change node)) o (nodes_of es)) (get_node es k ∙ had))

pub same_number : (k q : ℕ) → eq_by_cmp nat_cmp k q ≡ true → k ≡ q
same_number k q e = grind (arith, nat_tests)

put_back : (es : List (ℕ × Node)) (k q : ℕ) (v : Node) (b : Bool) → is_at (nat_cmp k) q ≡ b → lookup (is_at (nat_cmp k)) es ≡ Some v
    → cond b (Some v) (lookup (is_at (nat_cmp q)) es) ≡ lookup (is_at (nat_cmp q)) es
put_back es k q v true e had = sym had ∙ ap (λ n. lookup (is_at (nat_cmp n)) es) (same_number k q e)
put_back es k q v false e had = refl

-- to put back what is there changes nothing
pub nodes_same : (es fs : List (ℕ × Node)) (k : ℕ) (v : Node) → lookup (is_at (nat_cmp k)) es ≡ Some v
    → ((q : ℕ) → lookup (is_at (nat_cmp q)) fs ≡ cond (is_at (nat_cmp k) q) (Some v) (lookup (is_at (nat_cmp q)) es))
    → nodes_of fs ≡ nodes_of es
nodes_same es fs k v had is =
    same_map nat_cmp_total nat_cmp-IsAntisymmetric _ _
    (λ q. get_node fs q ∙ is q ∙ put_back es k q v (is_at (nat_cmp k) q) refl had ∙ sym (get_node es q))

-- what is known of the node under a number is known of the one that is found
pub there : (es : List (ℕ × Node)) (k : ℕ) (test : Node → Bool) (v : Node) → lookup (is_at (nat_cmp k)) es ≡ Some v
    → IfSome (get (nodes_of es) k) (λ n. IsTrue (test n)) → IsTrue (test v)
there es k test v had known = subst (λ o. IfSome o (λ n. IsTrue (test n))) (get_node es k ∙ had) known

pub on_ok : {A E : Type 0} {P Q : Type 0} (r : Result A E) → (P → Q) → OnOk r P → OnOk r Q
on_ok (Ok x) f p = f p
on_ok (Err e) f p = tt

pub on_err : {A E : Type 0} {P Q : Type 0} (r : Result A E) → (P → Q) → OnErr r P → OnErr r Q
on_err (Ok x) f p = tt
on_err (Err e) f p = f p

pub known : (es : List (ℕ × Node)) (k : ℕ) (P : Node → Type 0) (v : Node) → lookup (is_at (nat_cmp k)) es ≡ Some v
    → IfSome (get (nodes_of es) k) P → P v
known es k P v had h = subst (λ o. IfSome o P) (get_node es k ∙ had) h

pub other_key : (q k : ℕ) → (q ≡ k → ⊥) → eq_by_cmp nat_cmp q k ≡ false
other_key q k ne = grind (arith, nat_tests)

-- what is known of one node stays known when another is put in
pub stays : (m n : FinMap nat_cmp Node) (k d : ℕ) (v : Node) (P : Node → Type 0) → n ≡ insert m k v → (d ≡ k → ⊥) → IfSome (get m d) P → IfSome (get n d) P
stays m n k d v P e ne h =
    subst (λ o. IfSome o P) (sym (ap (λ x. get x d) e ∙ get-insert nat_cmp_total m k v d ∙ ap (λ b. cond b (Some v) (get m d)) (other_key d k ne))) h

undo_at : (m : FinMap nat_cmp Node) (k q : ℕ) (v : Node) (b : Bool) → eq_by_cmp nat_cmp q k ≡ b → get m k ≡ None → cond b None (cond b (Some v) (get m q)) ≡ get m q
undo_at m k q v true e none = sym (ap (get m) (same_number q k e) ∙ none)
undo_at m k q v false e none = refl

-- to put a new node in and to take it out changes nothing
pub undone : (m : FinMap nat_cmp Node) (k : ℕ) (v : Node) → get m k ≡ None → remove (insert m k v) k ≡ m
undone m k v none =
    same_map nat_cmp_total nat_cmp-IsAntisymmetric _ _
    (λ q. get-remove nat_cmp_total (insert m k v) k q ∙ ap (cond (eq_by_cmp nat_cmp q k) None) (get-insert nat_cmp_total m k v q)
    ∙ undo_at m k q v (eq_by_cmp nat_cmp q k) refl none)

pub other_by : (m : FinMap nat_cmp Node) (k : ℕ) (change : Node → Node) (q : ℕ) (o : Option Node) → (q ≡ k → ⊥) → get (option_map_or (λ node. insert m k (change node)) o m) q ≡ get m q
other_by m k change q None ne = refl
other_by m k change q (Some v) ne = get-insert nat_cmp_total m k (change v) q ∙ ap (λ b. cond b (Some (change v)) (get m q)) (other_key q k ne)

-- a change of one node leaves what is known of another
pub stays_changed : (m n : FinMap nat_cmp Node) (k q : ℕ) (change : Node → Node) (P : Node → Type 0) → n ≡ nodes_with_change m k change → (q ≡ k → ⊥) → IfSome (get m q) P → IfSome (get n q) P
stays_changed m n k q change P e ne h = subst (λ o. IfSome o P) (sym (ap (λ x. get x q) e ∙ other_by m k change q (get m k) ne)) h

pub one_le : (b : Bool) (links : ℕ) → 1 ≤ links → one_if b ≤ links
one_le true links le = le
one_le false links le = omega arith

get_by : (m : FinMap nat_cmp Node) (k : ℕ) (f : Node → Node) (q : ℕ) (o : Option Node) (b : Bool) → get m k ≡ o → eq_by_cmp nat_cmp q k ≡ b
    → get (option_map_or (λ node. insert m k (f node)) o m) q ≡ cond b (option_map f o) (get m q)
get_by m k f q None true e t = ap (get m) (same_number q k t) ∙ e
get_by m k f q None false e t = refl
get_by m k f q (Some v) b e t = get-insert nat_cmp_total m k (f v) q ∙ ap (λ c. cond c (Some (f v)) (get m q)) t

pub get_changed : (m : FinMap nat_cmp Node) (k : ℕ) (f : Node → Node) (q : ℕ) → get (nodes_with_change m k f) q ≡ cond (eq_by_cmp nat_cmp q k) (option_map f (get m k)) (get m q)
get_changed m k f q = get_by m k f q (get m k) (eq_by_cmp nat_cmp q k) refl refl

pub turn : (x y : Bool) (p q r : Option Node) → (x ≡ true → y ≡ true → ⊥) → cond x p (cond y q r) ≡ cond y q (cond x p r)
turn true true p q r ne = absurd (ne refl refl)
turn true false p q r ne = refl
turn false true p q r ne = refl
turn false false p q r ne = refl

-- changes of two nodes may come in either order: so what may fail comes first in the code
pub changes_commute : (m : FinMap nat_cmp Node) (a b : ℕ) (f g : Node → Node) → (a ≡ b → ⊥) → nodes_with_change (nodes_with_change m a f) b g ≡ nodes_with_change (nodes_with_change m b g) a f
changes_commute m a b f g ne =
    same_map nat_cmp_total nat_cmp-IsAntisymmetric _ _ (λ q.
    get_changed (nodes_with_change m a f) b g q
    ∙ (λ i. cond (eq_by_cmp nat_cmp q b) (option_map g (other_by m a f b (get m a) (λ z. ne (sym z)) i)) (get_changed m a f q i))
    ∙ turn (eq_by_cmp nat_cmp q b) (eq_by_cmp nat_cmp q a) (option_map g (get m b)) (option_map f (get m a)) (get m q) (λ x y. ne (sym (same_number q a y) ∙ same_number q b x))
    ∙ sym (get_changed (nodes_with_change m b g) a f q
    ∙ (λ i. cond (eq_by_cmp nat_cmp q a) (option_map f (other_by m b g a (get m b) ne i)) (get_changed m b g q i))))
