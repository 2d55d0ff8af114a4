-- What nodes hold by themselves, after a change.
use Rattle.std.proofs.Common.{◌≡◌, ℕ, ◌+◌, ◌<◌, ◌≤◌, Bool, true, false, cond, List, [], ◌∷◌, ◌++◌, length, Option, None, Some, refl, ap, sym, ◌∙◌, subst, arith, nat_eq}
use Rattle.std.specs.Option.{option_map_or}
use Rattle.std.specs.Ordering.{nat_cmp, eq_by_cmp}
use Rattle.std.specs.Cmp.{nat_cmp_total}
use Rattle.std.specs.Cmp.Lexicographic.{pointwise}
use Rattle.std.proofs.lemmas.Cmp.{nat_list_eq_equiv}
use Rattle.std.specs.FinMap.{FinMap, get, insert, remove, get-insert, get-remove}
use Rattle.nr_nfs_base.specs.declared.time.Time.{Time}
use Rattle.nr_nfs_base.specs.Limits.{name_length_max}
use Rattle.nr_tree.specs.Entries.{Entry, entry_of_name, is_name, list_without, CookiesAscend, NamesAreValid}
use Rattle.nr_tree.specs.Tree.{value_at, nodes_with_change, is_dir, entries_in}
use Rattle.nr_tree.specs.Sane.{IsValidContent}
use Rattle.nr_tree.specs.Changes.{node_with_entry, node_without_entry}
use Rattle.nr_tree.specs.declared.node.Node.{Node}
use Rattle.nr_tree.specs.declared.node.Content.{Content}
use Rattle.nr_tree.specs.declared.node.Content.TheVariants.{Regular, Directory, Block, Character, Link, Socket, Fifo}
use Rattle.nr_tree.proofs.SkeletonChanges.{with_change_at, value_at_at}

-- ===== lists

pub rise_from : (low from : ℕ) (es : List Entry) (next : ℕ) → low ≤ from → CookiesAscend from es next → CookiesAscend low es next
rise_from low from [] next le r = omega (arith, le, r)
rise_from low from (e ∷ es) next le r = (omega (arith, le, r.0), r.1)

pub CookiesAscend_append : (from : ℕ) (es : List Entry) (next : ℕ) (e : Entry) → e.cookie ≡ next → CookiesAscend from es next → CookiesAscend from (es ++ e ∷ []) (next + 1)
CookiesAscend_append from [] next e same r = (omega (arith, same, r), omega (arith, same))
CookiesAscend_append from (x ∷ es) next e same r = (r.0, CookiesAscend_append (x.cookie + 1) es next e same r.1)

rise_step : (b : Bool) (from : ℕ) (e : Entry) (es rest : List Entry) (next : ℕ) → from ≤ e.cookie → CookiesAscend (e.cookie + 1) es next → CookiesAscend (e.cookie + 1) rest next → CookiesAscend from (cond b es (e ∷ rest)) next
rise_step true from e es rest next le r k = rise_from from (e.cookie + 1) es next (omega (arith, le)) r
rise_step false from e es rest next le r k = (le, k)

pub CookiesAscend_list_without : (from : ℕ) (name : List ℕ) (es : List Entry) (next : ℕ) → CookiesAscend from es next → CookiesAscend from (list_without name es) next
CookiesAscend_list_without from name [] next r = r
CookiesAscend_list_without from name (e ∷ es) next r = rise_step (is_name name e) from e es (list_without name es) next r.0 r.1 (CookiesAscend_list_without (e.cookie + 1) name es next r.1)

-- a name that isn't found isn't the first one's, and isn't found after it
pub found_none : (b : Bool) (x : Entry) (o : Option Entry) → cond b (Some x) o ≡ None → (b ≡ false) × (o ≡ None)
found_none true x o e = absurd cc
found_none false x o e = (refl, e)

pub none_append : (name : List ℕ) (es : List Entry) (e : Entry) → entry_of_name name es ≡ None → is_name name e ≡ false → entry_of_name name (es ++ e ∷ []) ≡ None
none_append name [] e z f = ap (λ (b : Bool). cond b (Some e) None) f
none_append name (x ∷ es) e z f =
    let p : (is_name name x ≡ false) × (entry_of_name name es ≡ None) = found_none (is_name name x) x (entry_of_name name es) z in
    ap (λ (b : Bool). cond b (Some x) (entry_of_name name (es ++ e ∷ []))) p.0 ∙ none_append name es e p.1 f

pub NamesAreValid_append : (es : List Entry) (e : Entry) → entry_of_name e.name es ≡ None → 0 < length e.name → length e.name ≤ name_length_max → NamesAreValid es → NamesAreValid (es ++ e ∷ [])
NamesAreValid_append [] e z some few n = (some, few, refl, tt)
NamesAreValid_append (x ∷ es) e z some few n =
    let p : (is_name e.name x ≡ false) × (entry_of_name e.name es ≡ None) = found_none (is_name e.name x) x (entry_of_name e.name es) z in
    (n.0, n.1, none_append x.name es e n.2 (nat_list_eq_equiv.symm x.name e.name ∙ p.0), NamesAreValid_append es e p.1 some few n.3)

none_step : (b c : Bool) (x : Entry) (o p : Option Entry) → b ≡ false → o ≡ None → p ≡ None → cond b (Some x) p ≡ None
none_step true c x o p f z k = absurd cc
none_step false c x o p f z k = k

none_cut : (test : Bool) (name : List ℕ) (x : Entry) (es rest : List Entry) → entry_of_name name es ≡ None → is_name name x ≡ false → entry_of_name name rest ≡ None → entry_of_name name (cond test es (x ∷ rest)) ≡ None
none_cut true name x es rest z f k = z
none_cut false name x es rest z f k = ap (λ (b : Bool). cond b (Some x) (entry_of_name name rest)) f ∙ k

-- a name that isn't found isn't found once another is taken out
pub none_without : (name other : List ℕ) (es : List Entry) → entry_of_name name es ≡ None → entry_of_name name (list_without other es) ≡ None
none_without name other [] z = refl
none_without name other (x ∷ es) z =
    let p : (is_name name x ≡ false) × (entry_of_name name es ≡ None) = found_none (is_name name x) x (entry_of_name name es) z in
    none_cut (is_name other x) name x es (list_without other es) p.1 p.0 (none_without name other es p.1)

names_step : (b : Bool) (e : Entry) (es rest : List Entry) → NamesAreValid (e ∷ es) → entry_of_name e.name rest ≡ None → NamesAreValid rest → NamesAreValid (cond b es (e ∷ rest))
names_step true e es rest n z k = n.3
names_step false e es rest n z k = (n.0, n.1, z, k)

pub NamesAreValid_list_without : (name : List ℕ) (es : List Entry) → NamesAreValid es → NamesAreValid (list_without name es)
NamesAreValid_list_without name [] n = tt
NamesAreValid_list_without name (e ∷ es) n = names_step (is_name name e) e es (list_without name es) n (none_without e.name name es n.2) (NamesAreValid_list_without name es n.3)

gone_step : (b : Bool) (name : List ℕ) (x : Entry) (es rest : List Entry) → is_name name x ≡ b → (b ≡ true → entry_of_name name es ≡ None) → entry_of_name name rest ≡ None → entry_of_name name (cond b es (x ∷ rest)) ≡ None
gone_step true name x es rest t h k = h refl
gone_step false name x es rest f h k = ap (λ (c : Bool). cond c (Some x) (entry_of_name name rest)) f ∙ k

same_found : (name : List ℕ) (x : Entry) (es : List Entry) → is_name name x ≡ true → entry_of_name x.name es ≡ None → entry_of_name name es ≡ None
same_found name x [] t z = refl
same_found name x (y ∷ es) t z =
    let p : (is_name x.name y ≡ false) × (entry_of_name x.name es ≡ None) = found_none (is_name x.name y) y (entry_of_name x.name es) z in
    let other : is_name name y ≡ false = differ (is_name name y) refl p.0 in
    ap (λ (c : Bool). cond c (Some y) (entry_of_name name es)) other ∙ same_found name x es t p.1 where
      differ : (b : Bool) → is_name name y ≡ b → is_name x.name y ≡ false → is_name name y ≡ false
      differ false e f = e
      differ true e f =
          let back : pointwise nat_eq x.name name ≡ true = nat_list_eq_equiv.symm x.name name ∙ t in
          let both : pointwise nat_eq x.name y.name ≡ true = nat_list_eq_equiv.congr x.name name y.name back ∙ e in absurd cc

-- a name that was taken out isn't found
pub gone_without : (name : List ℕ) (es : List Entry) → NamesAreValid es → entry_of_name name (list_without name es) ≡ None
gone_without name [] n = refl
gone_without name (x ∷ es) n = gone_step (is_name name x) name x es (list_without name es) refl (λ t. same_found name x es t n.2) (gone_without name es n.3)

-- ===== nodes

pub fit_node_with_entry : (now : Time) (name : List ℕ) (n : ℕ) (b : Bool) (v : Node) (c : Content) → v.content ≡ c → IsValidContent c → entry_of_name name (entries_in v) ≡ None → 0 < length name → length name ≤ name_length_max
    → IsValidContent (node_with_entry now name n b v).content
fit_node_with_entry now name n b v (Directory d) e fit z some few =
    let free : entry_of_name name d.list ≡ None = rw (e) at z in
    rw (e) (
      CookiesAscend_append 1 d.list d.next_cookie (record { cookie = d.next_cookie; name = name; number = n }) refl fit.0,
      NamesAreValid_append d.list (record { cookie = d.next_cookie; name = name; number = n }) free some few fit.1,
    )
fit_node_with_entry now name n b v (Regular bytes) e fit z some few = rw (e) fit
fit_node_with_entry now name n b v (Block device) e fit z some few = rw (e) tt
fit_node_with_entry now name n b v (Character device) e fit z some few = rw (e) tt
fit_node_with_entry now name n b v (Link path) e fit z some few = rw (e) fit
fit_node_with_entry now name n b v Socket e fit z some few = rw (e) tt
fit_node_with_entry now name n b v Fifo e fit z some few = rw (e) tt

pub fit_node_without_entry : (now : Time) (name : List ℕ) (b : Bool) (v : Node) (c : Content) → v.content ≡ c → IsValidContent c → IsValidContent (node_without_entry now name b v).content
fit_node_without_entry now name b v (Directory d) e fit = rw (e) (CookiesAscend_list_without 1 name d.list d.next_cookie fit.0, NamesAreValid_list_without name d.list fit.1)
fit_node_without_entry now name b v (Regular bytes) e fit = rw (e) fit
fit_node_without_entry now name b v (Block device) e fit = rw (e) tt
fit_node_without_entry now name b v (Character device) e fit = rw (e) tt
fit_node_without_entry now name b v (Link path) e fit = rw (e) fit
fit_node_without_entry now name b v Socket e fit = rw (e) tt
fit_node_without_entry now name b v Fifo e fit = rw (e) tt

-- ===== maps

abbrev pub Fit : FinMap nat_cmp Node → Type 0
Fit nodes = (n : ℕ) (node : Node) → get nodes n ≡ Some node → IsValidContent node.content

insert_at : (b : Bool) (w node : Node) (o : Option Node) → cond b (Some w) o ≡ Some node → IsValidContent w.content → (o ≡ Some node → IsValidContent node.content) → IsValidContent node.content
insert_at true w node o e fit k = let same : w ≡ node = cc in subst (λ (x : Node). IsValidContent x.content) same fit
insert_at false w node o e fit k = k e

pub fit_insert : (nodes : FinMap nat_cmp Node) (k : ℕ) (w : Node) → Fit nodes → IsValidContent w.content → Fit (insert nodes k w)
fit_insert nodes k w all fit n node e = insert_at (eq_by_cmp nat_cmp n k) w node (get nodes n) (sym (get-insert nat_cmp_total nodes k w n) ∙ e) fit (all n node)

remove_at : (b : Bool) (node : Node) (o : Option Node) → cond b None o ≡ Some node → (o ≡ Some node → IsValidContent node.content) → IsValidContent node.content
remove_at true node o e k = absurd cc
remove_at false node o e k = k e

pub fit_remove : (nodes : FinMap nat_cmp Node) (k : ℕ) → Fit nodes → Fit (remove nodes k)
fit_remove nodes k all n node e = remove_at (eq_by_cmp nat_cmp n k) node (get nodes n) (sym (get-remove nat_cmp_total nodes k n) ∙ e) (all n node)

pub fit_with_change : (nodes : FinMap nat_cmp Node) (k : ℕ) (v : Node) (change : Node → Node) → get nodes k ≡ Some v → Fit nodes → (IsValidContent v.content → IsValidContent (change v).content) → Fit (nodes_with_change nodes k change)
fit_with_change nodes k v change e all step = subst Fit (sym (with_change_at nodes k v change e)) (fit_insert nodes k (change v) all (step (all k v e)))

abbrev pub Named : FinMap nat_cmp Node → ℕ → Type 0
Named nodes k = (v : Node) × (get nodes k ≡ Some v)

dir_node : (o : Option Node) → option_map_or is_dir o false ≡ true → (v : Node) × (o ≡ Some v) × (is_dir v ≡ true)
dir_node None t = absurd cc
dir_node (Some v) t = (v, refl, t)

-- the node that is seen as a directory, or as live
pub directory_at : (nodes : FinMap nat_cmp Node) (k : ℕ) → value_at is_dir false nodes k ≡ true → (v : Node) × (get nodes k ≡ Some v) × (is_dir v ≡ true)
directory_at nodes k t = dir_node (get nodes k) t

live_node : (o : Option Node) → option_map_or (λ (node : Node). true) o false ≡ true → (v : Node) × (o ≡ Some v)
live_node None t = absurd cc
live_node (Some v) t = (v, refl)

pub node_at : (nodes : FinMap nat_cmp Node) (k : ℕ) → value_at (λ node. true) false nodes k ≡ true → Named nodes k
node_at nodes k t = live_node (get nodes k) t

names_by : (v : Node) (c : Content) → v.content ≡ c → IsValidContent c → NamesAreValid (entries_in v)
names_by v (Directory d) e fit = rw (e) fit.1
names_by v (Regular bytes) e fit = rw (e) tt
names_by v (Block device) e fit = rw (e) tt
names_by v (Character device) e fit = rw (e) tt
names_by v (Link path) e fit = rw (e) tt
names_by v Socket e fit = rw (e) tt
names_by v Fifo e fit = rw (e) tt

-- the names of a directory differ
pub names_at : (nodes : FinMap nat_cmp Node) (k : ℕ) → Fit nodes → value_at is_dir false nodes k ≡ true → NamesAreValid (value_at entries_in [] nodes k)
names_at nodes k fit t =
    let v : (v : Node) × (get nodes k ≡ Some v) × (is_dir v ≡ true) = directory_at nodes k t in
    subst NamesAreValid (sym (value_at_at entries_in [] nodes k v.0 v.1)) (names_by v.0 v.0.content refl (fit k v.0 v.1))
