-- What an answer adds to the journal is what its reply says.
use Rattle.std.proofs.Common.{◌≡◌, ℕ, Bool, true, false, not, cond, eqb, ◌&&◌, List, [], ◌++◌, take, drop, Option, None, Some, Result, Ok, Err, refl, ap, sym, ◌∙◌, subst}
use Rattle.std.specs.Option.{option_map}
use Rattle.nr_xdr.specs.Item.{word, pad_len}
use Rattle.nr_xdr.specs.Items.{encodings}
use Rattle.nr_rpc.specs.Reading.{call_of}
use Rattle.nr_rpc.specs.declared.head.CallHead.{CallHead}
use Rattle.nr_rpc.specs.declared.head.CallHead.TheVariants as calls
use Rattle.nr_rpc.specs.declared.head.ReplyHead.TheVariants as replies
use Rattle.nr_nfs_base.specs.Codec.{Codec, read_all, enumeration, word as word_codec}
use Rattle.nr_nfs_base.specs.Status.{status_number}
use Rattle.nr_nfs_base.specs.StatusUnion.{status_union_codec}
use Rattle.nr_nfs_base.specs.declared.procedure.NfsProcedure.{NfsProcedure}
use Rattle.nr_nfs_base.specs.declared.procedure.NfsProcedure.TheVariants as nfs
use Rattle.nr_nfs_base.specs.declared.status.Status.{Status}
use Rattle.nr_nfs_base.specs.declared.status.Status.TheVariants.{Perm, Noent, Io, Nxio, Acces, Exist, Xdev, Nodev, Notdir, Isdir, Inval, Fbig, Nospc, Rofs, Mlink, Nametoolong, Notempty, Dquot, Stale, Remote, Badhandle, NotSync, BadCookie, Notsupp, Toosmall, Serverfault, Badtype, Jukebox}
use Rattle.nr_nfs_base.specs.declared.status_union.StatusUnion.{StatusUnion}
use Rattle.nr_nfs_base.specs.declared.status_union.StatusUnion.TheVariants.{Done, Failed}
use Rattle.nr_nfs_args.specs.Arguments.{NfsArguments, nfs_arguments_codec}
use Rattle.nr_nfs_res.specs.Results.{NfsResults, nfs_result}
use Rattle.nr_reduce.specs.declared.mark.Entry.{Entry}
use Rattle.nr_outside.specs.declared.moment.Moment.{Moment}
use Rattle.nr_plain.specs.Setup.{Parameters, Setup, State, caller_of, time_of, space_of}
use Rattle.nr_plain.specs.Programs.{nfs_results, is_done, only_reads}
use Rattle.nr_plain.specs.Journal.{nfs_procedure_of, state_of}
use Rattle.nr_plain.specs.Replies.{Answer, refusal, accepted, results_reply, entries_if, nfs_answer, nfs_by_arguments, nfs_by_procedure, nfs_call, mount_call, program_call, cred_refusal, call_by_cred, answer_to, answer_by, plain_answer, plain_reply}
use Rattle.nr_plain.specs.Added.{has_word, has_succeeded, entries_by_procedure, entries_by_program, entries_by_cred, entries_by_head, entries_by_call, entries_of_call}
use Rattle.nr_plain.proofs.Serving.{mount_none}

-- ===== the status of results

-- no failure has the number 0
failed_word : (s : Status) (rest : List ℕ) → has_word 0 0 (word (status_number s) ++ rest) ≡ false
unfolding word
failed_word Perm rest = refl
failed_word Noent rest = refl
failed_word Io rest = refl
failed_word Nxio rest = refl
failed_word Acces rest = refl
failed_word Exist rest = refl
failed_word Xdev rest = refl
failed_word Nodev rest = refl
failed_word Notdir rest = refl
failed_word Isdir rest = refl
failed_word Inval rest = refl
failed_word Fbig rest = refl
failed_word Nospc rest = refl
failed_word Rofs rest = refl
failed_word Mlink rest = refl
failed_word Nametoolong rest = refl
failed_word Notempty rest = refl
failed_word Dquot rest = refl
failed_word Stale rest = refl
failed_word Remote rest = refl
failed_word Badhandle rest = refl
failed_word NotSync rest = refl
failed_word BadCookie rest = refl
failed_word Notsupp rest = refl
failed_word Toosmall rest = refl
failed_word Serverfault rest = refl
failed_word Badtype rest = refl
failed_word Jukebox rest = refl

done_says : {D F : Type 0} (done : Codec D) (failed : Codec F) (r : StatusUnion D F Status) (xid : ℕ) → is_done r ≡ has_succeeded (results_reply xid (nfs_result done failed) r)
unfolding status_union_codec enumeration word_codec word pad_len
done_says done failed (Done d) xid = refl
done_says done failed (Failed s f) xid = sym (failed_word s (encodings (failed.items f)))

-- ===== NFS

-- the entries of an answer are those that its reply says
abbrev Says : Option NfsProcedure → Entry → Answer → Type 0
Says o e a = a.entries ≡ entries_by_procedure o a.reply e

module _ (xid : ℕ) (e : Entry) where
  changed : {D F : Type 0} (done : Codec D) (failed : Codec F) (r : StatusUnion D F Status) → entries_if (is_done r) e ≡ entries_if (has_succeeded (results_reply xid (nfs_result done failed) r)) e
  changed done failed r = ap (λ (b : Bool). entries_if b e) (done_says done failed r xid)

  says : (p : NfsProcedure) (r : NfsResults p) → Says (Some p) e (nfs_answer xid e p r)
  says nfs.Null r = refl
  says nfs.Getattr r = refl
  says nfs.Setattr r = changed _ _ r
  says nfs.Lookup r = refl
  says nfs.Access r = refl
  says nfs.Readlink r = refl
  says nfs.Read r = refl
  says nfs.Write r = changed _ _ r
  says nfs.Create r = changed _ _ r
  says nfs.Mkdir r = changed _ _ r
  says nfs.Symlink r = changed _ _ r
  says nfs.Mknod r = changed _ _ r
  says nfs.Remove r = changed _ _ r
  says nfs.Rmdir r = changed _ _ r
  says nfs.Rename r = changed _ _ r
  says nfs.Link r = changed _ _ r
  says nfs.Readdir r = refl
  says nfs.Readdirplus r = refl
  says nfs.Fsstat r = refl
  says nfs.Fsinfo r = refl
  says nfs.Pathconf r = refl
  says nfs.Commit r = refl

  -- GARBAGE_ARGS is another accept status
  garbage_says : false ≡ has_succeeded (refusal (accepted xid 4)).reply
  unfolding word pad_len
  garbage_says = refl

  none_changed : (b : Bool) → [] ≡ entries_if (b && has_succeeded (refusal (accepted xid 4)).reply) e
  none_changed true = ap (λ (x : Bool). entries_if x e) garbage_says
  none_changed false = refl

  module _ (prm : Parameters) (st : State) where
    by_arguments : (p : NfsProcedure) (r : Result (NfsArguments p) ℕ) → Says (Some p) e (nfs_by_arguments prm st xid e p r)
    by_arguments p (Ok a) = says p (nfs_results st.tree (caller_of e.cred) (space_of prm st e.args) (time_of e.moment) p a)
    by_arguments p (Err at) = none_changed (not (only_reads p))

    by_procedure : (o : Option NfsProcedure) → Says o e (nfs_by_procedure prm st xid e o)
    by_procedure None = refl
    by_procedure (Some p) = by_arguments p (read_all (nfs_arguments_codec p) e.args)

-- ===== the programs

module _ (o : Option NfsProcedure) (e : Entry) where
  either_version : (v : Bool) (x y : Answer) → Says o e x → y.entries ≡ [] → (cond v x y).entries ≡ cond v (entries_by_procedure o (cond v x y).reply e) []
  either_version true x y holds none = holds
  either_version false x y holds none = none

  either_program : (b v : Bool) (x y : Answer) → x.entries ≡ cond v (entries_by_procedure o x.reply e) [] → y.entries ≡ []
      → (cond b x y).entries ≡ cond (b && v) (entries_by_procedure o (cond b x y).reply e) []
  either_program true v x y holds none = holds
  either_program false v x y holds none = none

either_none : (b : Bool) (x y : Answer) → x.entries ≡ [] → y.entries ≡ [] → (cond b x y).entries ≡ []
either_none true x y p q = p
either_none false x y p q = q

module _ (prm : Parameters) (st : State) (xid prog vers : ℕ) (e : Entry) where
  by_version : (nfs_call prm st xid vers e).entries ≡ cond (eqb vers 3) (entries_by_procedure (nfs_procedure_of e.proc) (nfs_call prm st xid vers e).reply e) []
  unfolding nfs_call
  by_version =
      either_version (nfs_procedure_of e.proc) e (eqb vers 3) (nfs_by_procedure prm st xid e (nfs_procedure_of e.proc)) (refusal (replies.ProgMismatch xid 3 3))
      (by_procedure xid e prm st (nfs_procedure_of e.proc)) refl

  by_program : (program_call prm st xid prog vers e).entries ≡ entries_by_program prog vers (program_call prm st xid prog vers e).reply e
  by_program =
      either_program (nfs_procedure_of e.proc) e (eqb prog 100003) (eqb vers 3) (nfs_call prm st xid vers e)
      (cond (eqb prog 100005) (mount_call prm xid vers e) (refusal (accepted xid 1))) by_version
      (either_none (eqb prog 100005) (mount_call prm xid vers e) (refusal (accepted xid 1)) (mount_none prm xid vers e) refl)

-- ===== a call

by_cred : (o : Option ℕ) (xid prog vers : ℕ) (e : Entry) (a : Answer) → a.entries ≡ entries_by_program prog vers a.reply e
    → (call_by_cred o xid a).entries ≡ entries_by_cred o (entries_by_program prog vers (call_by_cred o xid a).reply e)
by_cred None xid prog vers e a holds = holds
by_cred (Some stat) xid prog vers e a holds = refl

module _ (prm : Parameters) (st : State) (m : Moment) (payload : List ℕ) where
  by_head : (head : CallHead) → (answer_to prm st m payload head).entries ≡ entries_by_head m payload (answer_to prm st m payload head).reply head
  by_head (calls.Version2 xid prog vers proc cred args_at) =
      let e : Entry = record { moment = m; cred = cred; proc = proc; args = drop args_at payload } in
      by_cred (cred_refusal cred) xid prog vers e (program_call prm st xid prog vers e) (by_program prm st xid prog vers e)
  by_head (calls.Other xid rpcvers) = refl

  by_call : (r : Result CallHead ℕ) (a : Answer) → answer_by prm st m payload r ≡ Some a → a.entries ≡ entries_by_call m payload a.reply r
  by_call (Ok head) a is =
      let same : answer_to prm st m payload head ≡ a = cc in
      subst (λ (x : Answer). x.entries ≡ entries_by_head m payload x.reply head) same (by_head head)
  by_call (Err at) a is = absurd cc

  pub added : (a : Answer) → plain_answer prm st m payload ≡ Some a → a.entries ≡ entries_of_call m payload a.reply
  added a is = by_call (call_of payload) a is

-- ===== a reply of a journal

found : (o : Option Answer) (reply : List ℕ) (e : List ℕ → List Entry) → ((a : Answer) → o ≡ Some a → a.entries ≡ e a.reply)
    → option_map (λ (a : Answer). a.reply) o ≡ Some reply → o ≡ Some (record { reply = reply; entries = e reply })
found None reply e tells is = absurd cc
found (Some a) reply e tells is =
    let same : a.reply ≡ reply = cc in
    let entries : a.entries ≡ e reply = tells a refl ∙ ap e same in
    λ i. Some (record { reply = same i; entries = entries i })

pub answer_of_reply : (s : Setup) (J : List Entry) (place : ℕ) (m : Moment) (payload reply : List ℕ) → plain_reply s J place m payload ≡ Some reply
    → plain_answer s.parameters (state_of s (take place J)) m payload ≡ Some (record { reply = reply; entries = entries_of_call m payload reply })
answer_of_reply s J place m payload reply is =
    let st : State = state_of s (take place J) in
    found (plain_answer s.parameters st m payload) reply (entries_of_call m payload) (added s.parameters st m payload) is
