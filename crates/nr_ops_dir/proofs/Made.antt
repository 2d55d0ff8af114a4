-- What MKDIR, SYMLINK, MKNOD and CREATE come to, by the node that was made.
use Rattle.std.proofs.Common.{◌≡◌, ℕ, List, Option, None, Some, Result, Ok, Err, IfOk, MatchResult, sym, ap, ◌∙◌, subst}
use Rattle.std.specs.Option.{option_map_or}
use Rattle.nr_nfs_base.specs.declared.caller.Caller.{Caller}
use Rattle.nr_nfs_base.specs.declared.set_attributes.SetAttributes.{SetAttributes}
use Rattle.nr_nfs_base.specs.declared.time.Time.{Time}
use Rattle.nr_nfs_base.specs.declared.status.Status.{Status}
use Rattle.nr_nfs_base.specs.declared.status_union.StatusUnion.{StatusUnion}
use Rattle.nr_nfs_base.specs.declared.status_union.StatusUnion.TheVariants.{Done, Failed}
use Rattle.nr_nfs_base.specs.declared.weak_cache.WccData.{WccData}
use Rattle.nr_nfs_args.specs.declared.create.CreateArgs.{CreateArgs}
use Rattle.nr_nfs_args.specs.declared.special.MknodArgs.{MknodArgs}
use Rattle.nr_nfs_res.specs.declared.create.CreateOk.{CreateOk}
use Rattle.nr_tree.specs.declared.node.Content.{Content}
use Rattle.nr_tree.specs.declared.node.Content.TheVariants.{Link}
use Rattle.nr_tree.specs.declared.node.Node.{Node}
use Rattle.nr_tree.specs.Tree.{Tree}
use Rattle.nr_tree.specs.Steps.{CanAddNode}
use Rattle.nr_tree.specs.Changes.{tree_with_node}
use Rattle.nr_tree.specs.Rules.{after, answer, number_of_handle}
use Rattle.nr_tree.specs.Replies.{wcc_data}
use Rattle.nr_ops_dir.specs.Create.{new_file, tree_with_file}
use Rattle.nr_ops_dir.specs.Creation.{create_ok, new_node, link_mode, special_content, new_special}
use Rattle.nr_ops_dir.specs.private.Added.{tree_after_addition, results_of_addition, IsSpecial}

-- ===== a node that was made is added

module _ (t : Tree) (h name : List ℕ) (made : Result Node Status) (node : Node) (is : made ≡ Ok node) (allowed : IfOk made (λ n. CanAddNode t (number_of_handle h) name n)) where
  allowed_there : CanAddNode t (number_of_handle h) name node
  allowed_there = subst (λ (r : Result Node Status). IfOk r (λ n. CanAddNode t (number_of_handle h) name n)) is allowed

  pub parent_is : node.parent ≡ number_of_handle h
  parent_is = allowed_there.new.parent

  pub allowed_in_parent : CanAddNode t node.parent name node
  allowed_in_parent = subst (λ (d : ℕ). CanAddNode t d name node) (sym parent_is) allowed_there

  pub added_tree : (now : Time) → tree_with_node t now node.parent name node ≡ tree_after_addition t now h name made
  added_tree now = ap (λ (d : ℕ). tree_with_node t now d name node) parent_is ∙ ap (λ (r : Result Node Status). tree_after_addition t now h name r) (sym is)

  pub added_results : (now : Time) → Done (create_ok t (tree_with_node t now node.parent name node) h name) ≡ results_of_addition t (tree_after_addition t now h name made) h name made
  added_results now =
      ap (λ (new : Tree). Done (create_ok t new h name)) (added_tree now)
      ∙ ap (λ (r : Result Node Status). results_of_addition t (tree_after_addition t now h name made) h name r) (sym is)

-- ===== what a call comes to whose rules refused it or made a node

abbrev pub IsMade : Option Status → (Node → Type 0) → Result Node Status → Type 0
IsMade refusal Is made = MatchResult made (λ n. (refusal ≡ None) × Is n) (λ s. refusal ≡ Some s)

pub made_allowed : (t : Tree) (h name dir : List ℕ) (refusal : Option Status) (Is : Node → Type 0) (made : Result Node Status) → dir ≡ h
    → ((n : Node) → refusal ≡ None → Is n → CanAddNode t (number_of_handle h) name n) → IsMade refusal Is made → IfOk made (λ n. CanAddNode t (number_of_handle dir) name n)
made_allowed t h name dir refusal Is (Ok n) same can is = subst (λ (l : List ℕ). CanAddNode t (number_of_handle l) name n) (sym same) (can n is.0 is.1)
made_allowed t h name dir refusal Is (Err s) same can is = tt

pub made_tree : (t : Tree) (now : Time) (h name : List ℕ) (refusal : Option Status) (Is : Node → Type 0) (want : Tree) (made : Result Node Status)
    → ((n : Node) → Is n → tree_with_node t now (number_of_handle h) name n ≡ want) → IsMade refusal Is made → tree_after_addition t now h name made ≡ after refusal t want
made_tree t now h name refusal Is want (Ok n) same is = same n is.1 ∙ ap (λ (o : Option Status). after o t want) (sym is.0)
made_tree t now h name refusal Is want (Err s) same is = ap (λ (o : Option Status). after o t want) (sym is)

pub made_results : (t : Tree) (now : Time) (h name : List ℕ) (refusal : Option Status) (Is : Node → Type 0) (want : Tree) (made : Result Node Status)
    → ((n : Node) → Is n → tree_with_node t now (number_of_handle h) name n ≡ want) → IsMade refusal Is made
    → results_of_addition t (tree_after_addition t now h name made) h name made ≡ answer refusal (λ s. Failed s (wcc_data t t h)) (Done (create_ok t (after refusal t want) h name))
made_results t now h name refusal Is want (Ok n) same is =
    ap (λ (new : Tree). Done (create_ok t new h name)) (made_tree t now h name refusal Is want (Ok n) same is)
    ∙ ap (λ (o : Option Status). answer o (λ s. Failed s (wcc_data t t h)) (Done (create_ok t (after refusal t want) h name))) (sym is.0)
made_results t now h name refusal Is want (Err s) same is =
    ap (λ (o : Option Status). answer o (λ s. Failed s (wcc_data t t h)) (Done (create_ok t (after refusal t want) h name))) (sym is)

-- the same of the results of a call, for the handle as the code has it
pub made_answer : {E : Type 0} (t : Tree) (now : Time) (h name dir : List ℕ) (refusal : Option Status) (Is : Node → Type 0) (want : Tree) (made : Result Node Status) (r : Result (StatusUnion CreateOk WccData Status) E) → dir ≡ h
    → ((n : Node) → Is n → tree_with_node t now (number_of_handle h) name n ≡ want) → IsMade refusal Is made
    → IfOk r (λ x. x ≡ results_of_addition t (tree_after_addition t now dir name made) dir name made) → IfOk r (λ x. x ≡ answer refusal (λ s. Failed s (wcc_data t t h)) (Done (create_ok t (after refusal t want) h name)))
made_answer t now h name dir refusal Is want made (Err e) same_dir same is p = tt
made_answer t now h name dir refusal Is want made (Ok x) same_dir same is p =
    p ∙ ap (λ (l : List ℕ). results_of_addition t (tree_after_addition t now l name made) l name made) same_dir ∙ made_results t now h name refusal Is want made same is

pub made_change : {E A : Type 0} (t new : Tree) (now : Time) (h name dir : List ℕ) (refusal : Option Status) (Is : Node → Type 0) (want : Tree) (made : Result Node Status) (r : Result A E) → dir ≡ h
    → ((n : Node) → Is n → tree_with_node t now (number_of_handle h) name n ≡ want) → IsMade refusal Is made
    → IfOk r (λ _. new ≡ tree_after_addition t now dir name made) → IfOk r (λ _. new ≡ after refusal t want)
made_change t new now h name dir refusal Is want made (Err e) same_dir same is p = tt
made_change t new now h name dir refusal Is want made (Ok x) same_dir same is p =
    p ∙ ap (λ (l : List ℕ). tree_after_addition t now l name made) same_dir ∙ made_tree t now h name refusal Is want made same is

-- ===== SYMLINK

pub link_made : (c : Caller) (now : Time) (refusal : Option Status) (h : ℕ) (a : SetAttributes) (path : List ℕ) (directory : Result ℕ Status) (made : Result Node Status)
    → MatchResult directory (λ d. (refusal ≡ None) × (d ≡ h)) (λ s. refusal ≡ Some s)
    → MatchResult directory (λ d. made ≡ Ok (new_node c now d link_mode a (Link path))) (λ s. made ≡ Err s)
    → IsMade refusal (λ n. n ≡ new_node c now h link_mode a (Link path)) made
link_made c now refusal h a path (Ok d) made found is =
    subst (IsMade refusal (λ n. n ≡ new_node c now h link_mode a (Link path))) (sym is) (found.0, ap (λ (k : ℕ). new_node c now k link_mode a (Link path)) found.1)
link_made c now refusal h a path (Err s) made found is = subst (IsMade refusal (λ n. n ≡ new_node c now h link_mode a (Link path))) (sym is) found

-- ===== MKNOD

pub special_tree : (t : Tree) (c : Caller) (now : Time) (args : MknodArgs) (n : Node) → IsSpecial c now args n
    → tree_with_node t now (number_of_handle args.dir) args.name n
    ≡ option_map_or (λ content. tree_with_node t now (number_of_handle args.dir) args.name (new_special c now args content)) (special_content args.what) t
special_tree t c now args n is =
    ap (λ (x : Node). tree_with_node t now (number_of_handle args.dir) args.name x) is.1
    ∙ sym (ap (λ (o : Option Content). option_map_or (λ content. tree_with_node t now (number_of_handle args.dir) args.name (new_special c now args content)) o t) is.0)

-- ===== CREATE of a new file

pub file_tree : (t : Tree) (c : Caller) (now : Time) (args : CreateArgs) (o : Option ℕ) → o ≡ None → (n : Node) → n ≡ new_file c now (number_of_handle args.dir) args.how
    → tree_with_node t now (number_of_handle args.dir) args.name n ≡ tree_with_file t c now args o
file_tree t c now args o none n is = ap (λ (x : Node). tree_with_node t now (number_of_handle args.dir) args.name x) is ∙ ap (λ (k : Option ℕ). tree_with_file t c now args k) (sym none)
