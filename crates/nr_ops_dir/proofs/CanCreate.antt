-- What a CREATE that no rule refuses is known to be.
use Rattle.std.proofs.Common.{◌≡◌, ℕ, ◌<◌, ◌≤◌, Bool, true, false, not, ltb, length, replicate, Option, None, Some, unwrap_or, refl, ap, sym, ◌∙◌, subst, arith}
use Rattle.std.proofs.lemmas.Bool.{ltb-false}
use Rattle.nr_nfs_base.specs.declared.caller.Caller.{Caller}
use Rattle.nr_nfs_base.specs.declared.time.Time.{Time}
use Rattle.nr_nfs_base.specs.declared.status.Status.TheVariants.{Exist, Fbig}
use Rattle.nr_tree.specs.declared.node.Node.{Node}
use Rattle.nr_tree.specs.declared.rules.Space.{Space}
use Rattle.nr_nfs_base.specs.Limits.{name_length_max}
use Rattle.nr_tree.specs.Entries.{Entry}
use Rattle.nr_tree.specs.Tree.{Tree, is_regular}
use Rattle.nr_tree.specs.Sane.{IsSane, file_size_max}
use Rattle.nr_tree.specs.Steps.{is_live_at, CanAddNode, entries_at, is_regular_at}
use Rattle.nr_tree.specs.Changes.{entry_at}
use Rattle.nr_tree.specs.Rules.{first, on, number_of_handle, size_rule}
use Rattle.nr_tree.proofs.SkeletonChanges.{value_at_at}
use Rattle.nr_tree.proofs.PassedRules.{AllClear, all_clear, clear, is_name}
use Rattle.nr_ops_dir.specs.Entries.{number_of_entry, entry_rules}
use Rattle.nr_nfs_args.specs.declared.create.CreateArgs.{CreateArgs}
use Rattle.nr_nfs_args.specs.declared.create.CreateHow.{CreateHow}
use Rattle.nr_nfs_args.specs.declared.create.CreateHow.TheVariants.{Unchecked, Guarded, Exclusive}
use Rattle.nr_tree.proofs.Lists.{Each_found}
use Rattle.nr_tree.proofs.Contents.{node_at, Named}
use Rattle.nr_tree.proofs.StepLemmas.{number_found}
use Rattle.nr_tree.proofs.RenameLemmas.{no_number}
use Rattle.nr_ops_dir.specs.Create.{given_attributes, new_file_rules, new_file, existing_file_rules, size_to_set, file_rules, create_rules}
use Rattle.std.proofs.lemmas.List.{length-replicate}
use Rattle.nr_ops_dir.proofs.Passed.{directory_passed}

some_number : (a b : ℕ) → Some a ≡ Some b → a ≡ b
some_number a b e = ap (λ (o : Option ℕ). unwrap_or o 0) e

not_false : (b : Bool) → not b ≡ false → b ≡ true
not_false true e = refl
not_false false e = absurd cc

size_within : (size : Option ℕ) → size_rule size ≡ None → (n : ℕ) → size ≡ Some n → n ≤ file_size_max
size_within None p n e = absurd cc
size_within (Some m) p n e = let le : m ≤ file_size_max = ltb-false file_size_max m (clear (ltb file_size_max m) Fbig p) in subst (λ (k : ℕ). k ≤ file_size_max) (some_number m n e) le

zeros_within : (size : Option ℕ) → size_rule size ≡ None → length (replicate {A = ℕ} (unwrap_or size 0) 0) ≤ file_size_max
zeros_within None p = omega arith
zeros_within (Some m) p = let le : m ≤ file_size_max = size_within (Some m) p m refl in omega (arith, length-replicate {A = ℕ} m 0, le)

pub can_make_file : (t : Tree) (c : Caller) (space : Space) (now : Time) (args : CreateArgs) → first (create_rules t c space args) ≡ None → number_of_entry t (number_of_handle args.dir) args.name ≡ None
    → CanAddNode t (number_of_handle args.dir) args.name (new_file c now (number_of_handle args.dir) args.how)
can_make_file t c space now args none free =
    let all : AllClear (create_rules t c space args) = all_clear (create_rules t c space args) none in
    let entry : AllClear (entry_rules t c args.dir args.name) = all_clear (entry_rules t c args.dir args.name) all.0 in
    let ok : (0 < length args.name) × (length args.name ≤ name_length_max) = is_name args.name entry.1.0 in
    let rules : first (new_file_rules c (given_attributes args.how)) ≡ None = ap (λ (o : Option ℕ). first (file_rules t c args.how o)) (sym free) ∙ all.1.1.0 in
    let new : AllClear (new_file_rules c (given_attributes args.how)) = all_clear (new_file_rules c (given_attributes args.how)) rules in
    record {
      directory = directory_passed t c args.dir entry.0 entry.1.1.0;
      free = record { free = no_number (entry_at t (number_of_handle args.dir) args.name) free; not_empty = ok.0; not_too_long = ok.1 };
      new = record { fit = zeros_within (given_attributes args.how).size new.1.1.0; empty = refl; first_cookie = omega arith; parent = refl; links = refl };
      links = λ dir. absurd cc;
    }

regular_by : (c : Caller) (how : CreateHow) (v : Node) → first (existing_file_rules c how v) ≡ None → (size : ℕ) → size_to_set how ≡ Some size → (is_regular v ≡ true) × (size ≤ file_size_max)
regular_by c (Unchecked a) v none size e =
    let all : AllClear (existing_file_rules c (Unchecked a) v) = all_clear (existing_file_rules c (Unchecked a) v) none in
    (not_false (is_regular v) (clear (not (is_regular v)) Exist all.0), size_within a.size all.1.1.0 size e)
regular_by c (Guarded a) v none size e = absurd cc
regular_by c (Exclusive verifier) v none size e = absurd cc

-- the file whose size CREATE sets
pub can_set_size : (t : Tree) (c : Caller) (space : Space) (args : CreateArgs) (n : ℕ) → IsSane t → first (create_rules t c space args) ≡ None → number_of_entry t (number_of_handle args.dir) args.name ≡ Some n
    → (size : ℕ) → size_to_set args.how ≡ Some size → (is_regular_at t n ≡ true) × (size ≤ file_size_max)
can_set_size t c space args n sane none found size e =
    let d : ℕ = number_of_handle args.dir in
    let all : AllClear (create_rules t c space args) = all_clear (create_rules t c space args) none in
    let x : (x : Entry) × (entry_at t d args.name ≡ Some x) × (x.number ≡ n) = number_found (entry_at t d args.name) n found in
    let live : is_live_at t x.0.number ≡ true = Each_found (λ (y : Entry). is_live_at t y.number ≡ true) args.name (entries_at t d) x.0 x.1 (sane.skeleton.names_live d) in
    let v : Named t.nodes n = node_at t.nodes n (ap (is_live_at t) (sym x.2) ∙ live) in
    let rules : first (existing_file_rules c args.how v.0) ≡ None =
    ap (λ (o : Option Node). first (on o (existing_file_rules c args.how))) (sym v.1) ∙ ap (λ (o : Option ℕ). first (file_rules t c args.how o)) (sym found) ∙ all.1.1.0 in
    let ok : (is_regular v.0 ≡ true) × (size ≤ file_size_max) = regular_by c args.how v.0 rules size e in
    (value_at_at is_regular false t.nodes n v.0 v.1 ∙ ok.0, ok.1)
