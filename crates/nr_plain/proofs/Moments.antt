-- An answer that adds no entry to the journal doesn't depend on the moment.
use Rattle.std.proofs.Common.{◌≡◌, ℕ, Bool, true, false, cond, eqb, List, [], drop, Option, None, Some, Result, Ok, Err, refl, ap, sym, ◌∙◌}
use Rattle.nr_rpc.specs.Reading.{call_of}
use Rattle.nr_rpc.specs.declared.cred.Cred.{Cred}
use Rattle.nr_rpc.specs.declared.head.CallHead.{CallHead}
use Rattle.nr_rpc.specs.declared.head.CallHead.TheVariants as calls
use Rattle.nr_rpc.specs.declared.head.ReplyHead.TheVariants as replies
use Rattle.nr_nfs_base.specs.Codec.{read_all}
use Rattle.nr_nfs_base.specs.declared.caller.Caller.{Caller}
use Rattle.nr_nfs_base.specs.declared.procedure.NfsProcedure.{NfsProcedure}
use Rattle.nr_nfs_base.specs.declared.procedure.NfsProcedure.TheVariants as nfs
use Rattle.nr_nfs_base.specs.declared.status.Status.{Status}
use Rattle.nr_nfs_base.specs.declared.status_union.StatusUnion.{StatusUnion}
use Rattle.nr_nfs_base.specs.declared.status_union.StatusUnion.TheVariants.{Done, Failed}
use Rattle.nr_nfs_base.specs.declared.time.Time.{Time}
use Rattle.nr_nfs_args.specs.Arguments.{NfsArguments, nfs_arguments_codec}
use Rattle.nr_nfs_res.specs.Results.{NfsResults, nfs_results_codec}
use Rattle.nr_reduce.specs.declared.mark.Entry.{Entry}
use Rattle.nr_outside.specs.declared.moment.Moment.{Moment}
use Rattle.nr_tree.specs.Tree.{Tree}
use Rattle.nr_tree.specs.Rules.{answer, first}
use Rattle.nr_tree.specs.declared.rules.Space.{Space}
use Rattle.nr_ops_file.specs.Attributes.{setattr_rules}
use Rattle.nr_ops_file.specs.Bytes.{write_rules}
use Rattle.nr_ops_dir.specs.Create.{create_rules}
use Rattle.nr_ops_dir.specs.Creation.{mkdir_rules, symlink_rules, mknod_rules}
use Rattle.nr_ops_dir.specs.Removal.{remove_rules, rmdir_rules}
use Rattle.nr_ops_dir.specs.Renaming.{rename_rules}
use Rattle.nr_ops_dir.specs.Links.{link_rules}
use Rattle.nr_plain.specs.Setup.{Parameters, State, caller_of, time_of, space_of}
use Rattle.nr_plain.specs.Programs.{nfs_results, is_done, is_change}
use Rattle.nr_plain.specs.Journal.{nfs_procedure_of}
use Rattle.nr_plain.specs.Replies.{Answer, refusal, accepted, results_reply, entries_if, nfs_by_arguments, nfs_by_procedure, nfs_call, mount_call, program_call, cred_refusal, call_by_cred, answer_to, answer_by, plain_answer}

-- ===== results that change nothing

failed_again : {D F : Type 0} (o : Option Status) (part : F) (done other : D) → is_done {D = D} {F = F} {S = Status} (answer o (λ s. Failed s part) (Done done)) ≡ false
    → answer {R = StatusUnion D F Status} o (λ s. Failed s part) (Done done) ≡ answer o (λ s. Failed s part) (Done other)
failed_again None part done other e = absurd cc
failed_again (Some s) part done other e = refl

module _ (t : Tree) (c : Caller) (space : Space) (now other : Time) where
  results_again : (p : NfsProcedure) (a : NfsArguments p) → is_change p (nfs_results t c space now p a) ≡ false → nfs_results t c space now p a ≡ nfs_results t c space other p a
  results_again nfs.Null a e = refl
  results_again nfs.Getattr a e = refl
  results_again nfs.Setattr a e = failed_again (first (setattr_rules t c space a)) _ _ _ e
  results_again nfs.Lookup a e = refl
  results_again nfs.Access a e = refl
  results_again nfs.Readlink a e = refl
  results_again nfs.Read a e = refl
  results_again nfs.Write a e = failed_again (first (write_rules t c space a)) _ _ _ e
  results_again nfs.Create a e = failed_again (first (create_rules t c space a)) _ _ _ e
  results_again nfs.Mkdir a e = failed_again (first (mkdir_rules t c space a)) _ _ _ e
  results_again nfs.Symlink a e = failed_again (first (symlink_rules t c space a)) _ _ _ e
  results_again nfs.Mknod a e = failed_again (first (mknod_rules t c space a)) _ _ _ e
  results_again nfs.Remove a e = failed_again (first (remove_rules t c space a)) _ _ _ e
  results_again nfs.Rmdir a e = failed_again (first (rmdir_rules t c space a)) _ _ _ e
  results_again nfs.Rename a e = failed_again (first (rename_rules t c space a)) _ _ _ e
  results_again nfs.Link a e = failed_again (first (link_rules t c space a)) _ _ _ e
  results_again nfs.Readdir a e = refl
  results_again nfs.Readdirplus a e = refl
  results_again nfs.Fsstat a e = refl
  results_again nfs.Fsinfo a e = refl
  results_again nfs.Pathconf a e = refl
  results_again nfs.Commit a e = refl

-- ===== answers without entries

-- if the first adds nothing, the second is the same
abbrev Same : Answer → Answer → Type 0
Same x y = x.entries ≡ [] → x ≡ y

no_entry : (b : Bool) (e : Entry) → entries_if b e ≡ [] → b ≡ false
no_entry true e is = absurd cc
no_entry false e is = refl

either : (b : Bool) (x y x' y' : Answer) → Same x x' → Same y y' → Same (cond b x y) (cond b x' y')
either true x y x' y' p q = p
either false x y x' y' p q = q

module _ (prm : Parameters) (st : State) (xid : ℕ) (cred : Cred) (proc : ℕ) (args : List ℕ) (m other : Moment) where
  abbrev entry : Moment → Entry
  entry moment = record { moment = moment; cred = cred; proc = proc; args = args }

  by_arguments : (p : NfsProcedure) (r : Result (NfsArguments p) ℕ) → Same (nfs_by_arguments prm st xid (entry m) p r) (nfs_by_arguments prm st xid (entry other) p r)
  by_arguments p (Ok a) none =
      let results : Moment → NfsResults p = λ (moment : Moment). nfs_results st.tree (caller_of cred) (space_of prm st args) (time_of moment) p a in
      let unchanged : is_change p (results m) ≡ false = no_entry (is_change p (results m)) (entry m) none in
      let same : results m ≡ results other = results_again st.tree (caller_of cred) (space_of prm st args) (time_of m) (time_of other) p a unchanged in
      let entries : entries_if (is_change p (results m)) (entry m) ≡ entries_if (is_change p (results other)) (entry other) =
      none ∙ ap (λ (b : Bool). entries_if b (entry other)) (sym (sym (ap (is_change p) same) ∙ unchanged)) in
      λ i. record { reply = results_reply xid (nfs_results_codec p) (same i); entries = entries i }
  by_arguments p (Err at) none = refl

  by_procedure : (o : Option NfsProcedure) → Same (nfs_by_procedure prm st xid (entry m) o) (nfs_by_procedure prm st xid (entry other) o)
  by_procedure None none = refl
  by_procedure (Some p) none = by_arguments p (read_all (nfs_arguments_codec p) args) none

  by_version : (vers : ℕ) → Same (nfs_call prm st xid vers (entry m)) (nfs_call prm st xid vers (entry other))
  unfolding nfs_call
  by_version vers =
      either (eqb vers 3) (nfs_by_procedure prm st xid (entry m) (nfs_procedure_of proc)) (refusal (replies.ProgMismatch xid 3 3)) (nfs_by_procedure prm st xid (entry other) (nfs_procedure_of proc)) (refusal (replies.ProgMismatch xid 3 3))
      (by_procedure (nfs_procedure_of proc)) (λ none. refl)

  mounted_again : (vers : ℕ) → mount_call prm xid vers (entry m) ≡ mount_call prm xid vers (entry other)
  unfolding mount_call
  mounted_again vers = refl

  -- MOUNT, or no program
  abbrev others : ℕ → ℕ → Moment → Answer
  others prog vers moment = cond (eqb prog 100005) (mount_call prm xid vers (entry moment)) (refusal (accepted xid 1))

  by_program : (prog vers : ℕ) → Same (program_call prm st xid prog vers (entry m)) (program_call prm st xid prog vers (entry other))
  by_program prog vers =
      either (eqb prog 100003) (nfs_call prm st xid vers (entry m)) (others prog vers m) (nfs_call prm st xid vers (entry other)) (others prog vers other)
      (by_version vers) (λ none. ap (λ (x : Answer). cond (eqb prog 100005) x (refusal (accepted xid 1))) (mounted_again vers))

by_cred : (o : Option ℕ) (xid : ℕ) (x y : Answer) → Same x y → Same (call_by_cred o xid x) (call_by_cred o xid y)
by_cred None xid x y same = same
by_cred (Some stat) xid x y same = λ none. refl

module _ (prm : Parameters) (st : State) (m other : Moment) (payload : List ℕ) where
  by_head : (head : CallHead) → Same (answer_to prm st m payload head) (answer_to prm st other payload head)
  by_head (calls.Version2 xid prog vers proc cred args_at) =
      let entry : Moment → Entry = λ (moment : Moment). record { moment = moment; cred = cred; proc = proc; args = drop args_at payload } in
      by_cred (cred_refusal cred) xid (program_call prm st xid prog vers (entry m)) (program_call prm st xid prog vers (entry other)) (by_program prm st xid cred proc (drop args_at payload) m other prog vers)
  by_head (calls.Other xid rpcvers) = λ none. refl

  by_call : (r : Result CallHead ℕ) (a : Answer) → answer_by prm st m payload r ≡ Some a → a.entries ≡ [] → answer_by prm st other payload r ≡ Some a
  by_call (Ok head) a is none =
      let same : answer_to prm st m payload head ≡ a = cc in
      let again : answer_to prm st m payload head ≡ answer_to prm st other payload head = by_head head (ap (λ (x : Answer). x.entries) same ∙ none) in
      ap (λ (x : Answer). Some x) (sym again ∙ same)
  by_call (Err at) a is none = absurd cc

  pub at_every_moment : (a : Answer) → plain_answer prm st m payload ≡ Some a → a.entries ≡ [] → plain_answer prm st other payload ≡ Some a
  at_every_moment a is none = by_call (call_of payload) a is none
