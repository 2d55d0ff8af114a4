-- The replies of calls that add an entry are short, and every offer holds them.
use Rattle.std.proofs.Common.{◌≡◌, ◌≢◌, ℕ, ◌+◌, ◌*◌, ◌≤◌, Bool, true, false, cond, eqb, List, [], ◌∷◌, length, drop, Option, None, Some, Result, Ok, Err, refl, ap, sym, ◌∙◌, subst, arith}
use Rattle.std.specs.Prelude.{◌&&◌}
use Rattle.std.proofs.lemmas.Bool.{le-leb}
use Rattle.nr_xdr.specs.Items.{encodings}
use Rattle.nr_header.proofs.Lengths.{write_list_segments}
use Rattle.nr_header.specs.WithinLimits.{ListsWithin}
use Rattle.nr_header.specs.declared.header.ChunkLists.{ChunkLists}
use Rattle.nr_header.specs.declared.header.RdmaSegment.{RdmaSegment}
use Rattle.nr_header.specs.Constants.{HEADER_LEN_MIN, SEGMENT_LEN, WRITE_CHUNKS_MAX, WRITE_SEGMENTS_MAX}
use Rattle.nr_rpc.specs.Reading.{call_of, reply_of, target_of}
use Rattle.nr_rpc.specs.declared.cred.Cred.{Cred}
use Rattle.nr_rpc.specs.declared.cred.Cred.TheVariants as creds
use Rattle.nr_rpc.specs.declared.head.CallHead.{CallHead}
use Rattle.nr_rpc.specs.declared.head.CallHead.TheVariants as calls
use Rattle.nr_rpc.specs.declared.head.ReplyHead.TheVariants as replies
use Rattle.nr_nfs_base.specs.Codec.{read_all}
use Rattle.nr_nfs_base.specs.Procedures.{nfs_procedure_number, nfs_procedures}
use Rattle.nr_nfs_base.specs.WeakCache.{wcc_data_codec}
use Rattle.nr_nfs_base.specs.declared.procedure.NfsProcedure.{NfsProcedure}
use Rattle.nr_nfs_base.specs.declared.procedure.NfsProcedure.TheVariants as nfs
use Rattle.nr_nfs_args.specs.Arguments.{NfsArguments, nfs_arguments_codec}
use Rattle.nr_nfs_res.specs.Bytes.{write_ok_codec}
use Rattle.nr_nfs_res.specs.Remove.{link_wcc_codec, rename_wcc_codec}
use Rattle.nr_nfs_res.specs.Results.{nfs_results_codec}
use Rattle.nr_reduce.specs.Holds.{Parts, parts_by, parts_in, answer_size, fits_reply, answer_with, answer_for}
use Rattle.nr_reduce.specs.Items.{if_ends, item_at, before_read, before_target, results_item, results_of, reply_item, reducible_item, from_place, is_nfs}
use Rattle.nr_reduce.specs.Server.{answer_of_target}
use Rattle.nr_reduce.specs.declared.item.Of.TheVariants.{Reply}
use Rattle.nr_reduce.specs.declared.mark.Entry.{Entry}
use Rattle.nr_outside.specs.declared.moment.Moment.{Moment}
use Rattle.nr_tree.specs.Rules.{first}
use Rattle.nr_ops_file.specs.Attributes.{setattr_reply}
use Rattle.nr_ops_file.specs.Bytes.{write_reply}
use Rattle.nr_ops_dir.specs.Create.{create_rules, create_tree}
use Rattle.nr_ops_dir.specs.Creation.{mkdir_rules, mkdir_tree, symlink_rules, symlink_tree, mknod_rules, mknod_tree}
use Rattle.nr_ops_dir.specs.Links.{link_reply}
use Rattle.nr_ops_dir.specs.Removal.{remove_reply, rmdir_reply}
use Rattle.nr_ops_dir.specs.Renaming.{rename_reply}
use Rattle.nr_plain.specs.Setup.{Parameters, State, caller_of, time_of, space_of}
use Rattle.nr_plain.specs.Programs.{nfs_results}
use Rattle.nr_plain.specs.Journal.{nfs_procedure_of}
use Rattle.nr_plain.specs.Replies.{Answer, refusal, accepted, nfs_by_arguments, nfs_by_procedure, nfs_call, mount_call, program_call, cred_refusal, call_by_cred, answer_to, answer_by, plain_answer}
use Rattle.nr_plain.proofs.Lengths.{union_fits, write_size, rename_size, link_size}
use Rattle.nr_plain.proofs.ReplyHeads.{either, same_answer}
use Rattle.nr_plain.proofs.ReplyLimits.{results_size, numbered}
use Rattle.nr_plain.proofs.ResultLimits.{wcc_part, make_fits}
use Rattle.nr_plain.proofs.Serving.{mount_none}
use Rattle.nr_plain.specs.ReplySizes.{results_max, reply_max}
use Rattle.nr_reduce.specs.Limits.{send_unit}

-- ===== offers

header_short : (offer : ChunkLists) → ListsWithin offer → answer_size offer.write ≤ HEADER_LEN_MIN + 8 * WRITE_CHUNKS_MAX + SEGMENT_LEN * WRITE_SEGMENTS_MAX
header_short offer within = omega (arith, write_list_segments offer.write, within.write_chunks, within.write_segments)

abbrev pub Plain : ℕ → Type 0
Plain proc = (eqb proc 6 ≡ false) × (eqb proc 5 ≡ false)

neither : {A : Type 0} (b c d : Bool) (x y : Option A) → c ≡ false → d ≡ false → cond (b && c) x (cond (b && d) y None) ≡ None
neither true c d x y p q = ap (λ (k : Bool). cond k x (cond d y None)) p ∙ ap (λ (k : Bool). cond k y None) q
neither false c d x y p q = refl

-- the reply of a procedure other than READ and READLINK has no item
no_item : (prog vers proc : ℕ) (reply : List ℕ) → Plain proc → reducible_item (Reply prog vers proc) reply ≡ None
unfolding reducible_item reply_item
no_item prog vers proc reply plain = ap (if_ends reply) (by (results_of (reply_of reply)))
  where
    by : (o : Option ℕ) → results_item prog vers proc reply o ≡ None
    by None = refl
    by (Some at) = neither (is_nfs prog vers) (eqb proc 6) (eqb proc 5) (item_at (before_read (from_place at reply))) (item_at (before_target (from_place at reply))) plain.0 plain.1

whole_stream : (prog vers proc : ℕ) (chunks : List (List RdmaSegment)) (reply : List ℕ) → Plain proc → parts_in (Reply prog vers proc) chunks reply ≡ Some (record { stream = reply; moved = [] })
whole_stream prog vers proc [] reply plain = refl
whole_stream prog vers proc ([] ∷ chunks) reply plain = refl
whole_stream prog vers proc ((s ∷ chunk) ∷ chunks) reply plain = ap (parts_by (s ∷ chunk) reply) (no_item prog vers proc reply plain)

-- a reply that fits inline is held
pub inline_held : (offer : ChunkLists) (down : ℕ) (p : Parts) → answer_size offer.write + length p.stream ≤ down → answer_with offer down (Some p) ≢ None
inline_held offer down p le none =
    let is : answer_with offer down (Some p) ≡ Some (record { long = false; stream = p.stream; moved = p.moved }) =
    ap (λ (b : Bool). cond b (Some (record { long = false; stream = p.stream; moved = p.moved })) (cond (fits_reply offer.reply (length p.stream)) (Some (record { long = true; stream = p.stream; moved = p.moved })) None)) (le-leb (answer_size offer.write + length p.stream) down le) in
    absurd cc

pub short_held : (offer : ChunkLists) (down prog vers proc : ℕ) (reply : List ℕ) → ListsWithin offer → send_unit ≤ down → length reply ≤ reply_max → Plain proc → answer_for offer down prog vers proc reply ≢ None
unfolding answer_for
short_held offer down prog vers proc reply within room le plain =
    subst (λ (o : Option Parts). answer_with offer down o ≢ None) (sym (whole_stream prog vers proc offer.write reply plain))
    (inline_held offer down (record { stream = reply; moved = [] }) (omega (arith, header_short offer within, room, le)))

-- ===== each answer

-- an answer that adds an entry is short, and to another procedure than READ and READLINK
abbrev IsChange : ℕ → Answer → Type 0
IsChange proc a = a.entries ≢ [] → (length a.reply ≤ reply_max) × Plain proc

none_added : (proc : ℕ) (a : Answer) → a.entries ≡ [] → IsChange proc a
none_added proc a none some = absurd (some none)

module _ (s : Parameters) (st : State) (xid : ℕ) (e : Entry) where
  abbrev Done : (p : NfsProcedure) → NfsArguments p → Type 0
  Done p a = IsChange (nfs_procedure_number p) (nfs_by_arguments s st xid e p (Ok a))

  abbrev results : (p : NfsProcedure) → NfsArguments p → List ℕ
  results p a = encodings ((nfs_results_codec p).items (nfs_results st.tree (caller_of e.cred) (space_of s st e.args) (time_of e.moment) p a))

  change : (p : NfsProcedure) (a : NfsArguments p) → length (results p a) ≤ results_max → Plain (nfs_procedure_number p) → Done p a
  change p a le plain some = (omega (arith, results_size xid (results p a), le), plain)

  nfs_done : (p : NfsProcedure) (a : NfsArguments p) → Done p a
  nfs_done nfs.Null a = λ some. absurd (some refl)
  nfs_done nfs.Getattr a = λ some. absurd (some refl)
  nfs_done nfs.Setattr a = change nfs.Setattr a (union_fits wcc_data_codec wcc_data_codec (setattr_reply st.tree (caller_of e.cred) (space_of s st e.args) (time_of e.moment) a) results_max (wcc_part results_max (omega arith)) (wcc_part results_max (omega arith))) (refl, refl)
  nfs_done nfs.Lookup a = λ some. absurd (some refl)
  nfs_done nfs.Access a = λ some. absurd (some refl)
  nfs_done nfs.Readlink a = λ some. absurd (some refl)
  nfs_done nfs.Read a = λ some. absurd (some refl)
  nfs_done nfs.Write a = change nfs.Write a (union_fits write_ok_codec wcc_data_codec (write_reply st.tree (caller_of e.cred) (space_of s st e.args) (time_of e.moment) a) results_max (wcc_part results_max (omega arith)) (λ d. omega (arith, write_size d))) (refl, refl)
  nfs_done nfs.Create a = change nfs.Create a (make_fits (first (create_rules st.tree (caller_of e.cred) (space_of s st e.args) a)) _ st.tree (create_tree st.tree (caller_of e.cred) (space_of s st e.args) (time_of e.moment) a) a.dir a.name) (refl, refl)
  nfs_done nfs.Mkdir a = change nfs.Mkdir a (make_fits (first (mkdir_rules st.tree (caller_of e.cred) (space_of s st e.args) a)) _ st.tree (mkdir_tree st.tree (caller_of e.cred) (space_of s st e.args) (time_of e.moment) a) a.dir a.name) (refl, refl)
  nfs_done nfs.Symlink a = change nfs.Symlink a (make_fits (first (symlink_rules st.tree (caller_of e.cred) (space_of s st e.args) a)) _ st.tree (symlink_tree st.tree (caller_of e.cred) (space_of s st e.args) (time_of e.moment) a) a.dir a.name) (refl, refl)
  nfs_done nfs.Mknod a = change nfs.Mknod a (make_fits (first (mknod_rules st.tree (caller_of e.cred) (space_of s st e.args) a)) _ st.tree (mknod_tree st.tree (caller_of e.cred) (space_of s st e.args) (time_of e.moment) a) a.dir a.name) (refl, refl)
  nfs_done nfs.Remove a = change nfs.Remove a (union_fits wcc_data_codec wcc_data_codec (remove_reply st.tree (caller_of e.cred) (space_of s st e.args) (time_of e.moment) a) results_max (wcc_part results_max (omega arith)) (wcc_part results_max (omega arith))) (refl, refl)
  nfs_done nfs.Rmdir a = change nfs.Rmdir a (union_fits wcc_data_codec wcc_data_codec (rmdir_reply st.tree (caller_of e.cred) (space_of s st e.args) (time_of e.moment) a) results_max (wcc_part results_max (omega arith)) (wcc_part results_max (omega arith))) (refl, refl)
  nfs_done nfs.Rename a = change nfs.Rename a (union_fits rename_wcc_codec rename_wcc_codec (rename_reply st.tree (caller_of e.cred) (space_of s st e.args) (time_of e.moment) a) results_max (λ d. omega (arith, rename_size d)) (λ d. omega (arith, rename_size d))) (refl, refl)
  nfs_done nfs.Link a = change nfs.Link a (union_fits link_wcc_codec link_wcc_codec (link_reply st.tree (caller_of e.cred) (space_of s st e.args) (time_of e.moment) a) results_max (λ d. omega (arith, link_size d)) (λ d. omega (arith, link_size d))) (refl, refl)
  nfs_done nfs.Readdir a = λ some. absurd (some refl)
  nfs_done nfs.Readdirplus a = λ some. absurd (some refl)
  nfs_done nfs.Fsstat a = λ some. absurd (some refl)
  nfs_done nfs.Fsinfo a = λ some. absurd (some refl)
  nfs_done nfs.Pathconf a = λ some. absurd (some refl)
  nfs_done nfs.Commit a = λ some. absurd (some refl)

  nfs_read : (p : NfsProcedure) (r : Result (NfsArguments p) ℕ) → IsChange (nfs_procedure_number p) (nfs_by_arguments s st xid e p r)
  nfs_read p (Ok a) = nfs_done p a
  nfs_read p (Err at) = λ some. absurd (some refl)

  nfs_found : (proc : ℕ) (o : Option NfsProcedure) → nfs_procedure_of proc ≡ o → IsChange proc (nfs_by_procedure s st xid e o)
  nfs_found proc None is = λ some. absurd (some refl)
  nfs_found proc (Some p) is =
      subst (λ (n : ℕ). IsChange n (nfs_by_procedure s st xid e (Some p))) (numbered nfs_procedure_number nfs_procedures proc p is) (nfs_read p (read_all (nfs_arguments_codec p) e.args))

  nfs_change : (vers : ℕ) → IsChange e.proc (nfs_call s st xid vers e)
  unfolding nfs_call
  nfs_change vers =
      either (IsChange e.proc) (eqb vers 3) (nfs_by_procedure s st xid e (nfs_procedure_of e.proc)) (refusal (replies.ProgMismatch xid 3 3)) (nfs_found e.proc (nfs_procedure_of e.proc) refl) (λ some. absurd (some refl))

  program_change : (prog vers : ℕ) → IsChange e.proc (program_call s st xid prog vers e)
  program_change prog vers =
      either (IsChange e.proc) (eqb prog 100003) (nfs_call s st xid vers e) (cond (eqb prog 100005) (mount_call s xid vers e) (refusal (accepted xid 1))) (nfs_change vers)
      (either (IsChange e.proc) (eqb prog 100005) (mount_call s xid vers e) (refusal (accepted xid 1)) (none_added e.proc (mount_call s xid vers e) (mount_none s xid vers e)) (λ some. absurd (some refl)))

  cred_change : (cred : Cred) (a : Answer) → IsChange e.proc a → IsChange e.proc (call_by_cred (cred_refusal cred) xid a)
  cred_change creds.None a is = is
  cred_change (creds.Sys stamp machine uid gid gids) a is = is
  cred_change (creds.Other flavor) a is = λ some. absurd (some refl)

-- ===== the call

-- the reply is short, and every offer holds it
abbrev IsHeld : List ℕ → Result CallHead ℕ → Answer → Type 0
IsHeld payload r a = a.entries ≢ [] → (length a.reply ≤ reply_max) × ((offer : ChunkLists) (down : ℕ) → ListsWithin offer → send_unit ≤ down → answer_of_target offer down a.reply (target_of r) ≢ None)

answer_held : (s : Parameters) (st : State) (m : Moment) (payload : List ℕ) (head : CallHead) → IsHeld payload (Ok head) (answer_to s st m payload head)
answer_held s st m payload (calls.Version2 xid prog vers proc cred args_at) some =
    let e : Entry = record { moment = m; cred = cred; proc = proc; args = drop args_at payload } in
    let h : (length (answer_to s st m payload (calls.Version2 xid prog vers proc cred args_at)).reply ≤ reply_max) × Plain proc = cred_change s st xid e cred (program_call s st xid prog vers e) (program_change s st xid e prog vers) some in
    (h.0, λ offer down within room. short_held offer down prog vers proc (answer_to s st m payload (calls.Version2 xid prog vers proc cred args_at)).reply within room h.0 h.1)
answer_held s st m payload (calls.Other xid rpcvers) some = absurd (some refl)

held : (s : Parameters) (st : State) (m : Moment) (payload : List ℕ) (a : Answer) (r : Result CallHead ℕ) → answer_by s st m payload r ≡ Some a → IsHeld payload r a
held s st m payload a (Ok head) found = subst (IsHeld payload (Ok head)) (same_answer (answer_to s st m payload head) a found) (answer_held s st m payload head)
held s st m payload a (Err at) found = absurd cc

pub changes_short : (s : Parameters) (st : State) (m : Moment) (payload : List ℕ) (a : Answer) → plain_answer s st m payload ≡ Some a → a.entries ≢ [] → length a.reply ≤ reply_max
changes_short s st m payload a e some = (held s st m payload a (call_of payload) e some).0

pub changes_held : (s : Parameters) (st : State) (m : Moment) (payload : List ℕ) (a : Answer) (offer : ChunkLists) (down : ℕ) → plain_answer s st m payload ≡ Some a → a.entries ≢ [] → ListsWithin offer → send_unit ≤ down
    → answer_of_target offer down a.reply (target_of (call_of payload)) ≢ None
changes_held s st m payload a offer down e some within room = (held s st m payload a (call_of payload) e some).1 offer down within room
