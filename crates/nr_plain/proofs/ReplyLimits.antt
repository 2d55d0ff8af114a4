-- Each reply is within the limit of its call.
use Rattle.std.proofs.Common.{◌≡◌, ℕ, ◌+◌, ◌≤◌, Bool, true, false, cond, eqb, List, [], ◌∷◌, length, drop, Option, None, Some, Result, Ok, Err, refl, ap, sym, ◌∙◌, subst, arith}
use Rattle.std.specs.Prelude.{find, option_map, unwrap_or, nat_eq, ◌&&◌}
use Rattle.std.specs.Cmp.Lexicographic.{pointwise}
use Rattle.std.proofs.lemmas.Bool.{eqb-true}
use Rattle.std.proofs.lemmas.List.{length-append}
use Rattle.nr_xdr.specs.Item.{IsBytes, word, pad_len}
use Rattle.nr_xdr.specs.Items.{encodings}
use Rattle.nr_xdr.specs.Reading.{Cursor}
use Rattle.nr_xdr.proofs.Chains.{standing}
use Rattle.nr_xdr.proofs.WordBytes.{IsBytes_drop}
use Rattle.nr_rpc.specs.Reading.{call_of, target_of}
use Rattle.nr_rpc.specs.Reply.{reply_head, reply_encoding}
use Rattle.nr_rpc.specs.declared.cred.Cred.{Cred}
use Rattle.nr_rpc.specs.declared.cred.Cred.TheVariants as creds
use Rattle.nr_rpc.specs.declared.head.CallHead.{CallHead}
use Rattle.nr_rpc.specs.declared.head.CallHead.TheVariants as calls
use Rattle.nr_rpc.specs.declared.head.ReplyHead.{ReplyHead}
use Rattle.nr_rpc.specs.declared.head.ReplyHead.TheVariants as replies
use Rattle.nr_nfs_base.specs.Codec.{read_all, value_with_number}
use Rattle.nr_nfs_base.specs.Procedures.{nfs_procedure_number, nfs_procedures, mount_procedure_number, mount_procedures}
use Rattle.nr_nfs_base.specs.declared.procedure.MountProcedure.{MountProcedure}
use Rattle.nr_nfs_base.specs.declared.procedure.MountProcedure.TheVariants as mount
use Rattle.nr_nfs_base.specs.declared.procedure.NfsProcedure.{NfsProcedure}
use Rattle.nr_nfs_args.specs.Arguments.{NfsArguments, MountArguments, nfs_arguments_codec, mount_arguments_codec}
use Rattle.nr_nfs_res.specs.Mount.{umnt_res_codec, umntall_res_codec}
use Rattle.nr_nfs_res.specs.Null.{null_res_codec}
use Rattle.nr_nfs_res.specs.Results.{nfs_results_codec, mount_results_codec}
use Rattle.nr_reduce.proofs.PlanKinds.{largest_small}
use Rattle.nr_plain.specs.ReplySizes.{any_reply_max}
use Rattle.nr_reduce.specs.Largest.{read_reply_max, readdir_reply_max, by_count, read_count, readdir_count, readdirplus_count, reply_limits, limit_of, nfs_reply_max, program_reply_max, target_reply_max, largest_reply}
use Rattle.nr_reduce.specs.declared.mark.Entry.{Entry}
use Rattle.nr_outside.specs.declared.moment.Moment.{Moment}
use Rattle.nr_tree.specs.Sane.{IsSane}
use Rattle.nr_plain.specs.Setup.{Parameters, State, caller_of, time_of, space_of}
use Rattle.nr_plain.specs.Programs.{nfs_results, mount_results}
use Rattle.nr_plain.specs.Journal.{nfs_procedure_of}
use Rattle.nr_plain.specs.Replies.{Answer, refusal, accepted, nfs_by_arguments, nfs_by_procedure, mount_by_arguments, mount_by_procedure, mount_procedure_of, nfs_call, mount_call, program_call, cred_refusal, call_by_cred, answer_to, answer_by, plain_answer}
use Rattle.nr_plain.proofs.ReplyHeads.{same_answer}
use Rattle.nr_plain.proofs.ResultLimits.{results_within, mnt_fits}

-- ===== the least limit

abbrev AtLeast : List (ℕ × ℕ) → Type 0
AtLeast [] = Unit {0}
AtLeast (row ∷ rows) = (32 ≤ row.1) × AtLeast rows

found_at_least : (b : Bool) (row : ℕ × ℕ) (o : Option (ℕ × ℕ)) → 32 ≤ row.1 → 32 ≤ unwrap_or (option_map (λ (r : ℕ × ℕ). r.1) o) 32 → 32 ≤ unwrap_or (option_map (λ (r : ℕ × ℕ). r.1) (cond b (Some row) o)) 32
found_at_least true row o le others = le
found_at_least false row o le others = others

rows_at_least : (proc : ℕ) (rows : List (ℕ × ℕ)) → AtLeast rows → 32 ≤ unwrap_or (option_map (λ (r : ℕ × ℕ). r.1) (find (λ (r : ℕ × ℕ). eqb r.0 proc) rows)) 32
rows_at_least proc [] h = omega arith
rows_at_least proc (row ∷ rows) h = found_at_least (eqb row.0 proc) row (find (λ (r : ℕ × ℕ). eqb r.0 proc) rows) h.0 (rows_at_least proc rows h.1)

limit_at_least : (proc : ℕ) → 32 ≤ limit_of proc
unfolding limit_of
limit_at_least proc =
    let le : (n : ℕ) → 32 ≤ 32 + n = λ n. omega arith in
    rows_at_least proc reply_limits
    (le 80, (le 112, (le 240, (le 88, (le 1112, (le 128, (le 272, (le 272, (le 272, (le 272, (le 112, (le 112, (le 228, (le 200, (le 136, (le 132, (le 108, (le 120, tt))))))))))))))))))

either_at_least : (b : Bool) (x y : ℕ) → 32 ≤ x → 32 ≤ y → 32 ≤ cond b x y
either_at_least true x y p q = p
either_at_least false x y p q = q

count_at_least : (most : ℕ → ℕ) → ((n : ℕ) → 32 ≤ most n) → (o : Option ℕ) → 32 ≤ by_count most o
count_at_least most le None = omega arith
count_at_least most le (Some n) = le n

listing_at_least : (n : ℕ) → 32 ≤ readdir_reply_max n
listing_at_least n = omega arith

nfs_at_least : (proc : ℕ) (c : Cursor) → 32 ≤ nfs_reply_max proc c
nfs_at_least proc c =
    either_at_least (eqb proc 6) _ _ (count_at_least read_reply_max (λ n. omega arith) (read_count c))
    (either_at_least (eqb proc 16) _ _ (count_at_least readdir_reply_max listing_at_least (readdir_count c))
    (either_at_least (eqb proc 17) _ _ (count_at_least readdir_reply_max listing_at_least (readdirplus_count c)) (limit_at_least proc)))

pub at_least : (prog vers proc : ℕ) (c : Cursor) → 32 ≤ program_reply_max prog vers proc c
at_least prog vers proc c =
    either_at_least (eqb prog 100003 && eqb vers 3) _ _ (nfs_at_least proc c) (either_at_least (eqb prog 100005 && (eqb vers 3 && eqb proc 1)) 108 32 (omega arith) (omega arith))

-- ===== refusals are short

pub refusal_size : (head : ReplyHead) → length (refusal head).reply ≤ 32
unfolding word pad_len
refusal_size (replies.Accepted xid stat results_at) = omega arith
refusal_size (replies.ProgMismatch xid low high) = omega arith
refusal_size (replies.RpcMismatch xid low high) = omega arith
refusal_size (replies.AuthError xid stat) = omega arith

pub head_size : (xid : ℕ) → length (reply_head (accepted xid 0)) ≡ 24
unfolding word pad_len
head_size xid = refl

pub results_size : (xid : ℕ) (results : List ℕ) → length (reply_encoding (accepted xid 0) results) ≡ 24 + length results
results_size xid results = omega (arith, length-append (reply_head (accepted xid 0)) results, head_size xid)

-- ===== numbers of procedures

numbered_by : {A : Type 0} (number : A → ℕ) (x v : A) (n : ℕ) (rest : Option A) (b : Bool) → eqb (number x) n ≡ b → cond b (Some x) rest ≡ Some v → (rest ≡ Some v → number v ≡ n) → number v ≡ n
numbered_by {A} number x v n rest true is e others = let same : x ≡ v = cc in ap number (sym same) ∙ eqb-true (number x) n is
numbered_by number x v n rest false is e others = others e

pub numbered : {A : Type 0} (number : A → ℕ) (all : List A) (n : ℕ) (v : A) → value_with_number number all n ≡ Some v → number v ≡ n
numbered number [] n v e = absurd cc
numbered number (x ∷ xs) n v e = numbered_by number x v n (value_with_number number xs n) (eqb (number x) n) refl e (numbered number xs n v)

-- ===== each answer

abbrev Short : ℕ → Answer → Type 0
Short n a = length a.reply ≤ n

where_true : (P : Answer → Type 0) (b : Bool) (x y : Answer) → (b ≡ true → P x) → P y → P (cond b x y)
where_true P true x y p q = p refl
where_true P false x y p q = q

mount_empty : (s : Parameters) (p : MountProcedure) (a : MountArguments p) (c : Cursor) → 24 + length (encodings ((mount_results_codec p).items (mount_results s.export p a))) ≤ program_reply_max 100005 3 (mount_procedure_number p) c
unfolding null_res_codec umnt_res_codec umntall_res_codec
mount_empty s mount.Null a c = omega arith
mount_empty s mount.Mnt a c = omega (arith, mnt_fits (pointwise nat_eq a.dirpath s.export))
mount_empty s mount.Umnt a c = omega arith
mount_empty s mount.Umntall a c = omega arith

module _ (s : Parameters) (st : State) (sane : IsSane st.tree) (xid place : ℕ) (e : Entry) (bytes : IsBytes e.args) where
  abbrev c : Cursor
  c = standing place e.args

  refused : (prog vers proc : ℕ) (head : ReplyHead) → Short (program_reply_max prog vers proc c) (refusal head)
  refused prog vers proc head = omega (arith, refusal_size head, at_least prog vers proc c)

  nfs_read : (p : NfsProcedure) (r : Result (NfsArguments p) ℕ) → read_all (nfs_arguments_codec p) e.args ≡ r → Short (program_reply_max 100003 3 (nfs_procedure_number p) c) (nfs_by_arguments s st xid e p r)
  nfs_read p (Ok a) is =
      omega (
        arith,
        results_size xid (encodings ((nfs_results_codec p).items (nfs_results st.tree (caller_of e.cred) (space_of s st e.args) (time_of e.moment) p a))),
        results_within st.tree (caller_of e.cred) (space_of s st e.args) (time_of e.moment) sane place e.args bytes p a is,
      )
  nfs_read p (Err at) is = refused 100003 3 (nfs_procedure_number p) (accepted xid 4)

  nfs_found : (proc : ℕ) (o : Option NfsProcedure) → nfs_procedure_of proc ≡ o → Short (program_reply_max 100003 3 proc c) (nfs_by_procedure s st xid e o)
  nfs_found proc None is = refused 100003 3 proc (accepted xid 3)
  nfs_found proc (Some p) is =
      subst (λ (n : ℕ). Short (program_reply_max 100003 3 n c) (nfs_by_procedure s st xid e (Some p))) (numbered nfs_procedure_number nfs_procedures proc p is)
      (nfs_read p (read_all (nfs_arguments_codec p) e.args) refl)

  mount_read : (p : MountProcedure) (r : Result (MountArguments p) ℕ) → Short (program_reply_max 100005 3 (mount_procedure_number p) c) (mount_by_arguments s xid p r)
  mount_read p (Ok a) = omega (arith, results_size xid (encodings ((mount_results_codec p).items (mount_results s.export p a))), mount_empty s p a c)
  mount_read p (Err at) = refused 100005 3 (mount_procedure_number p) (accepted xid 4)

  mount_found : (proc : ℕ) (o : Option MountProcedure) → mount_procedure_of proc ≡ o → Short (program_reply_max 100005 3 proc c) (mount_by_procedure s xid e.args o)
  mount_found proc None is = refused 100005 3 proc (accepted xid 3)
  mount_found proc (Some p) is =
      subst (λ (n : ℕ). Short (program_reply_max 100005 3 n c) (mount_by_procedure s xid e.args (Some p))) (numbered mount_procedure_number mount_procedures proc p is)
      (mount_read p (read_all (mount_arguments_codec p) e.args))

  nfs_short : (vers : ℕ) → Short (program_reply_max 100003 vers e.proc c) (nfs_call s st xid vers e)
  unfolding nfs_call
  nfs_short vers =
      where_true (Short (program_reply_max 100003 vers e.proc c)) (eqb vers 3) (nfs_by_procedure s st xid e (nfs_procedure_of e.proc)) (refusal (replies.ProgMismatch xid 3 3))
      (λ is. subst (λ (n : ℕ). Short (program_reply_max 100003 n e.proc c) (nfs_by_procedure s st xid e (nfs_procedure_of e.proc))) (sym (eqb-true vers 3 is)) (nfs_found e.proc (nfs_procedure_of e.proc) refl))
      (refused 100003 vers e.proc (replies.ProgMismatch xid 3 3))

  mount_short : (vers : ℕ) → Short (program_reply_max 100005 vers e.proc c) (mount_call s xid vers e)
  unfolding mount_call
  mount_short vers =
      where_true (Short (program_reply_max 100005 vers e.proc c)) (eqb vers 3) (mount_by_procedure s xid e.args (mount_procedure_of e.proc)) (refusal (replies.ProgMismatch xid 3 3))
      (λ is. subst (λ (n : ℕ). Short (program_reply_max 100005 n e.proc c) (mount_by_procedure s xid e.args (mount_procedure_of e.proc))) (sym (eqb-true vers 3 is)) (mount_found e.proc (mount_procedure_of e.proc) refl))
      (refused 100005 vers e.proc (replies.ProgMismatch xid 3 3))

  program_short : (prog vers : ℕ) → Short (program_reply_max prog vers e.proc c) (program_call s st xid prog vers e)
  program_short prog vers =
      let P : Answer → Type 0 = Short (program_reply_max prog vers e.proc c) in
      where_true P (eqb prog 100003) (nfs_call s st xid vers e) (cond (eqb prog 100005) (mount_call s xid vers e) (refusal (accepted xid 1)))
      (λ is. subst (λ (n : ℕ). Short (program_reply_max n vers e.proc c) (nfs_call s st xid vers e)) (sym (eqb-true prog 100003 is)) (nfs_short vers))
      (where_true P (eqb prog 100005) (mount_call s xid vers e) (refusal (accepted xid 1))
      (λ is. subst (λ (n : ℕ). Short (program_reply_max n vers e.proc c) (mount_call s xid vers e)) (sym (eqb-true prog 100005 is)) (mount_short vers))
      (refused prog vers e.proc (accepted xid 1)))

  cred_short : (prog vers : ℕ) (cred : Cred) (a : Answer) → Short (program_reply_max prog vers e.proc c) a → Short (program_reply_max prog vers e.proc c) (call_by_cred (cred_refusal cred) xid a)
  cred_short prog vers creds.None a short = short
  cred_short prog vers (creds.Sys stamp machine uid gid gids) a short = short
  cred_short prog vers (creds.Other flavor) a short = refused prog vers e.proc (replies.AuthError xid (cond (eqb flavor 1) 1 5))

-- ===== the call

answer_short : (s : Parameters) (st : State) (m : Moment) (payload : List ℕ) (head : CallHead) → IsBytes payload → IsSane st.tree → length (answer_to s st m payload head).reply ≤ target_reply_max payload (target_of (Ok head))
answer_short s st m payload (calls.Version2 xid prog vers proc cred args_at) bytes sane =
    let e : Entry = record { moment = m; cred = cred; proc = proc; args = drop args_at payload } in
    let fits : IsBytes (drop args_at payload) = IsBytes_drop args_at payload bytes in
    cred_short s st sane xid args_at e fits prog vers cred (program_call s st xid prog vers e) (program_short s st sane xid args_at e fits prog vers)
answer_short s st m payload (calls.Other xid rpcvers) bytes sane = refusal_size (replies.RpcMismatch xid 2 2)

pub within_limit : (s : Parameters) (st : State) (m : Moment) (payload : List ℕ) (a : Answer) → IsBytes payload → IsSane st.tree → plain_answer s st m payload ≡ Some a → length a.reply ≤ largest_reply payload
unfolding largest_reply
within_limit s st m payload a bytes sane e = by (call_of payload) e
  where
    by : (r : Result CallHead ℕ) → answer_by s st m payload r ≡ Some a → length a.reply ≤ target_reply_max payload (target_of r)
    by (Ok head) found =
        subst (λ (b : Answer). length b.reply ≤ target_reply_max payload (target_of (Ok head))) (same_answer (answer_to s st m payload head) a found) (answer_short s st m payload head bytes sane)
    by (Err at) found = absurd cc

-- no reply is longer than the maximum
pub any_reply_small : (s : Parameters) (st : State) (m : Moment) (payload : List ℕ) (head : CallHead) (reply : List ℕ) → IsBytes payload → IsSane st.tree → call_of payload ≡ Ok head
    → reply ≡ (answer_to s st m payload head).reply → length reply ≤ any_reply_max
any_reply_small s st m payload head reply bytes sane found is =
    let within = within_limit s st m payload (answer_to s st m payload head) bytes sane (ap (answer_by s st m payload) found) in
    let small = largest_small payload in
    let same = ap length is in omega (arith, within, small, same)
