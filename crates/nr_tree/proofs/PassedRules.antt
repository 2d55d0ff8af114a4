-- What a call that no rule refuses is known to be.
use Rattle.std.proofs.Common.{◌≡◌, ℕ, ◌<◌, ◌≤◌, Bool, true, false, cond, not, eqb, ltb, List, [], ◌∷◌, length, Option, None, Some, refl, ◌∙◌, subst, arith}
use Rattle.std.specs.Prelude.{is_none, is_some}
use Rattle.std.proofs.lemmas.Bool.{eqb-false, ltb-false}
use Rattle.std.specs.FinMap.{get}
use Rattle.nr_nfs_base.specs.declared.status.Status.{Status}
use Rattle.nr_nfs_base.specs.declared.status.Status.TheVariants.{Stale, Badhandle, Notdir, Acces, Nametoolong}
use Rattle.nr_nfs_base.specs.declared.caller.Caller.{Caller}
use Rattle.nr_tree.specs.Tree.{Tree, value_at, is_dir}
use Rattle.nr_tree.specs.Sane.{IsSane}
use Rattle.nr_tree.specs.Rules.{first, or_else, ◌⇒◌, on, after, node_of_handle, number_of_handle, was_given, handle_rule, name_rules, change_rules}
use Rattle.nr_tree.specs.declared.node.Node.{Node}
use Rattle.nr_tree.proofs.SkeletonChanges.{value_at_at}
use Rattle.nr_nfs_base.specs.Limits.{name_length_max}

pub passed : (r o : Option Status) → or_else r o ≡ None → (r ≡ None) × (o ≡ None)
passed None o p = (refl, p)
passed (Some s) o p = absurd cc

pub clear : (b : Bool) (s : Status) → (b ⇒ s) ≡ None → b ≡ false
clear true s p = absurd cc
clear false s p = refl

-- no rule of a list refuses
abbrev pub AllClear : List (Option Status) → Type 0
AllClear [] = Unit {0}
AllClear (rule ∷ rules) = (rule ≡ None) × AllClear rules

pub all_clear : (rules : List (Option Status)) → first rules ≡ None → AllClear rules
all_clear [] p = tt
all_clear (rule ∷ rules) p = let q : (rule ≡ None) × (first rules ≡ None) = passed rule (first rules) p in (q.0, all_clear rules q.1)

pub on_some : {A : Type 0} (o : Option A) (x : A) (rules : A → List (Option Status)) → o ≡ Some x → AllClear (on o rules) → AllClear (rules x)
on_some o x rules e p = subst (λ k. AllClear (on k rules)) e p

pub there : {A : Type 0} (o : Option A) → is_none o ≡ false → (x : A) × (o ≡ Some x)
there None e = absurd cc
there (Some x) e = (x, refl)

pub absent : {A : Type 0} (o : Option A) → is_some o ≡ false → o ≡ None
absent None e = refl
absent (Some x) e = absurd cc

given_by : (b : Bool) (t : Tree) (h : List ℕ) → cond b (is_none (node_of_handle t h) ⇒ Stale) (Some Badhandle) ≡ None → (v : Node) × (node_of_handle t h ≡ Some v)
given_by true t h p = there (node_of_handle t h) (clear (is_none (node_of_handle t h)) Stale p)
given_by false t h p = absurd cc

-- the rule of a handle
pub handled : (t : Tree) (h : List ℕ) → handle_rule t h ≡ None → (v : Node) × (node_of_handle t h ≡ Some v)
handled t h p = given_by (was_given t h) t h p

got_by : (b : Bool) (o : Option Node) (v : Node) → cond b o None ≡ Some v → o ≡ Some v
got_by true o v e = e
got_by false o v e = absurd cc

pub got : (t : Tree) (h : List ℕ) (v : Node) → node_of_handle t h ≡ Some v → get t.nodes (number_of_handle h) ≡ Some v
got t h v e = got_by (eqb (length h) 8) (get t.nodes (number_of_handle h)) v e

is_dir_by : (b : Bool) → not b ≡ false → b ≡ true
is_dir_by true e = refl
is_dir_by false e = absurd cc

-- the rules of a directory that is changed
pub is_changeable : (t : Tree) (c : Caller) (h : List ℕ) (v : Node) → node_of_handle t h ≡ Some v → first (change_rules c v) ≡ None → value_at is_dir false t.nodes (number_of_handle h) ≡ true
is_changeable t c h v e p =
    let all : AllClear (change_rules c v) = all_clear (change_rules c v) p in
    value_at_at is_dir false t.nodes (number_of_handle h) v (got t h v e) ∙ is_dir_by (is_dir v) (clear (not (is_dir v)) Notdir all.0)

-- the rules of a name
pub is_name : (name : List ℕ) → first (name_rules name) ≡ None → (0 < length name) × (length name ≤ name_length_max)
is_name name p =
    let all : AllClear (name_rules name) = all_clear (name_rules name) p in
    let some : length name ≡ 0 → ⊥ = eqb-false (length name) 0 (clear (eqb (length name) 0) Acces all.0) in
    let few : length name ≤ name_length_max = ltb-false name_length_max (length name) (clear (ltb name_length_max (length name)) Nametoolong all.1.1.0) in
    (omega (arith, some), few)

pub sane_after : (t u : Tree) (o : Option Status) → IsSane t → (o ≡ None → IsSane u) → IsSane (after o t u)
sane_after t u None sane k = k refl
sane_after t u (Some s) sane k = sane
