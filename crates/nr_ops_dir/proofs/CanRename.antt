-- What a RENAME that no rule refuses is known to be.
use Rattle.std.proofs.Common.{◌≡◌, ℕ, ◌<◌, ◌≤◌, Bool, true, false, not, cond, ◌&&◌, ◌||◌, eqb, ltb, List, [], ◌∷◌, length, Option, None, Some, refl, ap, sym, ◌∙◌, subst, arith}
use Rattle.std.specs.Option.{option_map}
use Rattle.std.proofs.lemmas.Bool.{or_parts, eqb-false, ltb-false, ne_eqb}
use Rattle.nr_nfs_base.specs.declared.caller.Caller.{Caller}
use Rattle.nr_nfs_base.specs.declared.status.Status.TheVariants.{Exist, Inval}
use Rattle.nr_tree.specs.declared.rules.Space.{Space}
use Rattle.nr_nfs_base.specs.Limits.{name_length_max}
use Rattle.nr_tree.specs.Entries.{Entry}
use Rattle.nr_tree.specs.Tree.{Tree}
use Rattle.nr_tree.specs.Sane.{skeleton, IsSane}
use Rattle.nr_tree.specs.Steps.{is_dir_at, links_at, CanRename, IsFreeTarget, entries_at}
use Rattle.nr_tree.specs.Changes.{entry_at}
use Rattle.nr_tree.specs.Rules.{first, number_of_handle}
use Rattle.nr_tree.proofs.PassedRules.{AllClear, all_clear, clear, on_some, is_name}
use Rattle.nr_ops_dir.specs.Entries.{number_of_entry, has_entries, links_rule}
use Rattle.nr_nfs_args.specs.declared.remove.RenameArgs.{RenameArgs}
use Rattle.nr_tree.specs.Within.{is_within}
use Rattle.nr_tree.proofs.Walks.{not_within_is}
use Rattle.nr_tree.specs.DirectoryGraph.{links_max}
use Rattle.nr_ops_dir.specs.declared.renaming.Move.{Move}
use Rattle.nr_ops_dir.specs.Renaming.{IsMoveOf, is_same_node, exactly_one, target_rule, move_rule, rename_of, both_rules, rename_rules}
use Rattle.nr_ops_dir.proofs.Passed.{directory_passed, links_passed}

pub no_entries : (es : List Entry) → ltb 0 (length es) ≡ false → es ≡ []
no_entries [] z = refl
no_entries (e ∷ es) z = absurd (omega (arith, ltb-false 0 (length (e ∷ es)) z))

-- the directories
pub both_passed : (t : Tree) (c : Caller) (args : RenameArgs) → first (both_rules t c args) ≡ None → is_dir_at t (number_of_handle args.to_dir) ≡ true
both_passed t c args none =
    let all : AllClear (both_rules t c args) = all_clear (both_rules t c args) none in
    directory_passed t c args.to_dir all.1.0 all.1.1.1.1.1.0

free_target : (t : Tree) (n : ℕ) (o : Option Entry) → is_same_node (option_map (λ (e : Entry). e.number) o) n ≡ false → target_rule t n (option_map (λ (e : Entry). e.number) o) ≡ None → IsFreeTarget (skeleton t) n o
free_target t n None other p = tt
free_target t n (Some g) other p =
    let parts = or_parts (exactly_one (is_dir_at t n) (is_dir_at t g.number)) (has_entries t g.number) (clear (exactly_one (is_dir_at t n) (is_dir_at t g.number) || has_entries t g.number) Exist p) in
    (eqb-false g.number n other, λ dir. no_entries (entries_at t g.number) parts.1)

second : (a b : Bool) → (a && b) ≡ false → a ≡ true → b ≡ false
second true b p e = p
second false b p e = absurd cc

change_by : (t : Tree) (d d_to n : ℕ) (target : Option ℕ) (b : Bool) → b ≡ false → cond b None (first (target_rule t n target ∷ move_rule t d d_to n ∷ [])) ≡ None → (target_rule t n target ≡ None) × (move_rule t d d_to n ≡ None)
change_by t d d_to n target true e p = absurd cc
change_by t d d_to n target false e p =
    let all : AllClear (target_rule t n target ∷ move_rule t d d_to n ∷ []) = all_clear (target_rule t n target ∷ move_rule t d d_to n ∷ []) p in
    (all.0, all.1.0)

move_by : (t : Tree) (d d_to : ℕ) (a : Bool) → a ≡ true → cond a (links_rule t d_to) None ≡ None → links_at t d_to < links_max
move_by t d d_to true e p = links_passed t d_to p
move_by t d d_to false e p = absurd cc

both_true : (a : Bool) (d d_to : ℕ) → a ≡ true → (d_to ≡ d → ⊥) → (a && not (eqb d d_to)) ≡ true
both_true true d d_to e ne = ap not (ne_eqb d d_to (λ z. ne (sym z)))
both_true false d d_to e ne = absurd cc

pub can_rename : (t : Tree) (c : Caller) (space : Space) (args : RenameArgs) (m : Move) → IsSane t → first (rename_rules t c space args) ≡ None → IsMoveOf t args m → m.is_done ≡ false
    → CanRename t m.from args.from_name m.to args.to_name m.number
can_rename t c space args m sane none step other =
    let d : ℕ = number_of_handle args.from_dir in
    let d_to : ℕ = number_of_handle args.to_dir in
    let n : ℕ = m.number in
    let target : Option ℕ = number_of_entry t d_to args.to_name in
    let all : AllClear (rename_rules t c space args) = all_clear (rename_rules t c space args) none in
    let both : AllClear (both_rules t c args) = all_clear (both_rules t c args) all.0 in
    let of : AllClear (rename_of t space args n) = on_some (number_of_entry t d args.from_name) n (rename_of t space args) step.node all.1.1.1 in
    let apart : is_same_node target n ≡ false = sym step.done ∙ other in
    let change : (target_rule t n target ≡ None) × (move_rule t d d_to n ≡ None) = change_by t d d_to n target (is_same_node target n) apart of.1.0 in
    let dir_to : is_dir_at t d_to ≡ true = directory_passed t c args.to_dir both.1.0 both.1.1.1.1.1.0 in
    let ok : (0 < length args.to_name) × (length args.to_name ≤ name_length_max) = is_name args.to_name both.1.1.1.0 in
    let can : CanRename t d args.from_name d_to args.to_name n = record {
      entry = step.node;
      dir = dir_to;
      not_empty = ok.0;
      not_too_long = ok.1;
      target = free_target t n (entry_at t d_to args.to_name) apart change.0;
      links = λ dir ne. move_by t d d_to (is_dir_at t n && not (eqb d d_to)) (both_true (is_dir_at t n) d d_to dir ne) change.1;
      apart = λ dir. not_within_is t d_to n sane dir_to (is_within (skeleton t) d_to n) refl (second (is_dir_at t n) (is_within (skeleton t) d_to n) (clear (is_dir_at t n && is_within (skeleton t) d_to n) Inval of.0) dir);
    } in
    subst (λ (k : ℕ). CanRename t k args.from_name m.to args.to_name n) (sym step.source) (subst (λ (k : ℕ). CanRename t d args.from_name k args.to_name n) (sym step.target) can)
