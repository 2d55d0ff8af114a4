-- What each procedure of NFS keeps: a call that is no entry leaves the tree; one that is an entry had space; the next number and each
-- next cookie rise by one at most.
use Rattle.std.proofs.Common.{◌≡◌, ℕ, ◌+◌, true, false, Option, None, Some, Result, Ok, Err, refl}
use Rattle.nr_nfs_base.specs.declared.caller.Caller.{Caller}
use Rattle.nr_nfs_base.specs.declared.procedure.NfsProcedure.{NfsProcedure}
use Rattle.nr_nfs_base.specs.declared.procedure.NfsProcedure.TheVariants as nfs
use Rattle.nr_nfs_base.specs.declared.status.Status.{Status}
use Rattle.nr_nfs_base.specs.declared.status_union.StatusUnion.TheVariants.{Done, Failed}
use Rattle.nr_nfs_base.specs.declared.time.Time.{Time}
use Rattle.nr_nfs_args.specs.Arguments.{NfsArguments}
use Rattle.nr_tree.specs.Tree.{Tree}
use Rattle.nr_tree.specs.Rules.{answer, after, first, space_rule}
use Rattle.nr_tree.specs.Steps.{IsBelow}
use Rattle.nr_tree.specs.declared.rules.Space.{Space}
use Rattle.nr_tree.proofs.Bounds.{below_next}
use Rattle.nr_ops_file.specs.Attributes.{setattr_rules}
use Rattle.nr_ops_file.specs.Bytes.{write_rules}
use Rattle.nr_ops_dir.specs.Create.{create_rules}
use Rattle.nr_ops_dir.specs.Creation.{mkdir_rules, symlink_rules, mknod_rules}
use Rattle.nr_ops_dir.specs.Removal.{remove_rules, rmdir_rules}
use Rattle.nr_ops_dir.specs.Renaming.{rename_rules}
use Rattle.nr_ops_dir.specs.Links.{link_rules}
use Rattle.nr_ops_file.proofs.Laws.{setattr_space, setattr_below, write_space, write_below}
use Rattle.nr_ops_dir.proofs.Laws.{create_space, create_below, mkdir_space, mkdir_below, symlink_space, symlink_below, mknod_space, mknod_below, remove_space, remove_below, rmdir_space, rmdir_below, rename_space, rename_below, link_space, link_below}
use Rattle.nr_plain.specs.Programs.{nfs_results, nfs_tree, is_change, is_done, only_reads}
use Rattle.nr_plain.specs.private.Code.{changes_from, tree_from}

-- ===== by the status

passed : {D F : Type 0} (o : Option Status) (part : F) (done : D) → is_done {D = D} {F = F} {S = Status} (answer o (λ s. Failed s part) (Done done)) ≡ true → o ≡ None
passed None part done e = refl
passed (Some s) part done e = absurd cc

kept : {D F : Type 0} (o : Option Status) (part : F) (done : D) (t u : Tree) → is_done {D = D} {F = F} {S = Status} (answer o (λ s. Failed s part) (Done done)) ≡ false → after o t u ≡ t
kept None part done t u e = absurd cc
kept (Some s) part done t u e = refl

-- ===== by the procedure

module _ (t : Tree) (c : Caller) (space : Space) (now : Time) where
  kept_by : (p : NfsProcedure) (a : NfsArguments p) → is_change p (nfs_results t c space now p a) ≡ false → nfs_tree t c space now p a ≡ t
  kept_by nfs.Null a e = refl
  kept_by nfs.Getattr a e = refl
  kept_by nfs.Setattr a e = kept (first (setattr_rules t c space a)) _ _ t _ e
  kept_by nfs.Lookup a e = refl
  kept_by nfs.Access a e = refl
  kept_by nfs.Readlink a e = refl
  kept_by nfs.Read a e = refl
  kept_by nfs.Write a e = kept (first (write_rules t c space a)) _ _ t _ e
  kept_by nfs.Create a e = kept (first (create_rules t c space a)) _ _ t _ e
  kept_by nfs.Mkdir a e = kept (first (mkdir_rules t c space a)) _ _ t _ e
  kept_by nfs.Symlink a e = kept (first (symlink_rules t c space a)) _ _ t _ e
  kept_by nfs.Mknod a e = kept (first (mknod_rules t c space a)) _ _ t _ e
  kept_by nfs.Remove a e = kept (first (remove_rules t c space a)) _ _ t _ e
  kept_by nfs.Rmdir a e = kept (first (rmdir_rules t c space a)) _ _ t _ e
  kept_by nfs.Rename a e = kept (first (rename_rules t c space a)) _ _ t _ e
  kept_by nfs.Link a e = kept (first (link_rules t c space a)) _ _ t _ e
  kept_by nfs.Readdir a e = refl
  kept_by nfs.Readdirplus a e = refl
  kept_by nfs.Fsstat a e = refl
  kept_by nfs.Fsinfo a e = refl
  kept_by nfs.Pathconf a e = refl
  kept_by nfs.Commit a e = refl

  spaced_by : (p : NfsProcedure) (a : NfsArguments p) → is_change p (nfs_results t c space now p a) ≡ true → space_rule space ≡ None
  spaced_by nfs.Null a e = absurd cc
  spaced_by nfs.Getattr a e = absurd cc
  spaced_by nfs.Setattr a e = setattr_space t c space a (passed (first (setattr_rules t c space a)) _ _ e)
  spaced_by nfs.Lookup a e = absurd cc
  spaced_by nfs.Access a e = absurd cc
  spaced_by nfs.Readlink a e = absurd cc
  spaced_by nfs.Read a e = absurd cc
  spaced_by nfs.Write a e = write_space t c space a (passed (first (write_rules t c space a)) _ _ e)
  spaced_by nfs.Create a e = create_space t c space a (passed (first (create_rules t c space a)) _ _ e)
  spaced_by nfs.Mkdir a e = mkdir_space t c space a (passed (first (mkdir_rules t c space a)) _ _ e)
  spaced_by nfs.Symlink a e = symlink_space t c space a (passed (first (symlink_rules t c space a)) _ _ e)
  spaced_by nfs.Mknod a e = mknod_space t c space a (passed (first (mknod_rules t c space a)) _ _ e)
  spaced_by nfs.Remove a e = remove_space t c space a (passed (first (remove_rules t c space a)) _ _ e)
  spaced_by nfs.Rmdir a e = rmdir_space t c space a (passed (first (rmdir_rules t c space a)) _ _ e)
  spaced_by nfs.Rename a e = rename_space t c space a (passed (first (rename_rules t c space a)) _ _ e)
  spaced_by nfs.Link a e = link_space t c space a (passed (first (link_rules t c space a)) _ _ e)
  spaced_by nfs.Readdir a e = absurd cc
  spaced_by nfs.Readdirplus a e = absurd cc
  spaced_by nfs.Fsstat a e = absurd cc
  spaced_by nfs.Fsinfo a e = absurd cc
  spaced_by nfs.Pathconf a e = absurd cc
  spaced_by nfs.Commit a e = absurd cc

  below_by : (limit : ℕ) (p : NfsProcedure) (a : NfsArguments p) → IsBelow limit t → IsBelow (limit + 1) (nfs_tree t c space now p a)
  below_by limit nfs.Null a below = below_next limit t below
  below_by limit nfs.Getattr a below = below_next limit t below
  below_by limit nfs.Setattr a below = setattr_below limit t c space now a below
  below_by limit nfs.Lookup a below = below_next limit t below
  below_by limit nfs.Access a below = below_next limit t below
  below_by limit nfs.Readlink a below = below_next limit t below
  below_by limit nfs.Read a below = below_next limit t below
  below_by limit nfs.Write a below = write_below limit t c space now a below
  below_by limit nfs.Create a below = create_below limit t c space now a below
  below_by limit nfs.Mkdir a below = mkdir_below limit t c space now a below
  below_by limit nfs.Symlink a below = symlink_below limit t c space now a below
  below_by limit nfs.Mknod a below = mknod_below limit t c space now a below
  below_by limit nfs.Remove a below = remove_below limit t c space now a below
  below_by limit nfs.Rmdir a below = rmdir_below limit t c space now a below
  below_by limit nfs.Rename a below = rename_below limit t c space now a below
  below_by limit nfs.Link a below = link_below limit t c space now a below
  below_by limit nfs.Readdir a below = below_next limit t below
  below_by limit nfs.Readdirplus a below = below_next limit t below
  below_by limit nfs.Fsstat a below = below_next limit t below
  below_by limit nfs.Fsinfo a below = below_next limit t below
  below_by limit nfs.Pathconf a below = below_next limit t below
  below_by limit nfs.Commit a below = below_next limit t below

  reads_by : (p : NfsProcedure) (a : NfsArguments p) → only_reads p ≡ true → (nfs_tree t c space now p a ≡ t) × (is_change p (nfs_results t c space now p a) ≡ false)
  reads_by nfs.Null a e = (refl, refl)
  reads_by nfs.Getattr a e = (refl, refl)
  reads_by nfs.Setattr a e = absurd cc
  reads_by nfs.Lookup a e = (refl, refl)
  reads_by nfs.Access a e = (refl, refl)
  reads_by nfs.Readlink a e = (refl, refl)
  reads_by nfs.Read a e = (refl, refl)
  reads_by nfs.Write a e = absurd cc
  reads_by nfs.Create a e = absurd cc
  reads_by nfs.Mkdir a e = absurd cc
  reads_by nfs.Symlink a e = absurd cc
  reads_by nfs.Mknod a e = absurd cc
  reads_by nfs.Remove a e = absurd cc
  reads_by nfs.Rmdir a e = absurd cc
  reads_by nfs.Rename a e = absurd cc
  reads_by nfs.Link a e = absurd cc
  reads_by nfs.Readdir a e = (refl, refl)
  reads_by nfs.Readdirplus a e = (refl, refl)
  reads_by nfs.Fsstat a e = (refl, refl)
  reads_by nfs.Fsinfo a e = (refl, refl)
  reads_by nfs.Pathconf a e = (refl, refl)
  reads_by nfs.Commit a e = (refl, refl)

  -- ===== also of arguments that can't be read

  pub tree_kept : (p : NfsProcedure) (r : Result (NfsArguments p) ℕ) → changes_from t c space now p r ≡ false → tree_from t c space now p r ≡ t
  tree_kept p (Ok a) e = kept_by p a e
  tree_kept p (Err at) e = refl

  pub entry_spaced : (p : NfsProcedure) (r : Result (NfsArguments p) ℕ) → changes_from t c space now p r ≡ true → space_rule space ≡ None
  entry_spaced p (Ok a) e = spaced_by p a e
  entry_spaced p (Err at) e = absurd cc

  pub tree_below : (limit : ℕ) (p : NfsProcedure) (r : Result (NfsArguments p) ℕ) → IsBelow limit t → IsBelow (limit + 1) (tree_from t c space now p r)
  tree_below limit p (Ok a) below = below_by limit p a below
  tree_below limit p (Err at) below = below_next limit t below

  pub only_reads_lem : (p : NfsProcedure) (r : Result (NfsArguments p) ℕ) → only_reads p ≡ true → (tree_from t c space now p r ≡ t) × (changes_from t c space now p r ≡ false)
  only_reads_lem p (Ok a) e = reads_by p a e
  only_reads_lem p (Err at) e = (refl, refl)
