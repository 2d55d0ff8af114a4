-- The plain server replies in bytes over a tree in bytes, if the arguments of the entries of its journal are bytes.
use Rattle.std.specs.Prelude.{ℕ, Bool, true, false, List, [], ◌∷◌, ◌++◌, length, take, drop, Option, None, Some, Result, Ok, Err}
use Rattle.std.specs.Option.{option_map}
use Rattle.std.specs.List.{AllByRecursion}
use Rattle.std.proofs.Common.{◌≡◌, cond, not, ◌&&◌, eqb, refl, subst}
use Rattle.nr_xdr.specs.Item.{Item, Reads, IsBytes, word as number_word}
use Rattle.nr_xdr.specs.Item.Item.{Unsigned, Hyper, Boolean, Opaque, Fixed}
use Rattle.nr_xdr.specs.Items.{ReadsAll, encodings}
use Rattle.nr_xdr.proofs.WordBytes.{IsBytes_drop}
use Rattle.nr_xdr.proofs.Chains.{IsBytes_left, IsBytes_right}
use Rattle.nr_rpc.specs.Reading.{call_of}
use Rattle.nr_rpc.specs.Reply.{reply_items, reply_encoding}
use Rattle.nr_rpc.specs.Credential.{no_verifier}
use Rattle.nr_rpc.specs.declared.head.CallHead.{CallHead}
use Rattle.nr_rpc.specs.declared.head.CallHead.TheVariants as calls
use Rattle.nr_rpc.specs.declared.head.ReplyHead.{ReplyHead}
use Rattle.nr_rpc.specs.declared.head.ReplyHead.TheVariants as replies
use Rattle.nr_nfs_base.specs.Codec.{Codec, Lawful, opaque, read_all}
use Rattle.nr_nfs_base.specs.Fronts.{write_args_front}
use Rattle.nr_nfs_base.specs.SetAttributes.{set_attributes_codec}
use Rattle.nr_nfs_base.proofs.ReadingAll.{found_all}
use Rattle.nr_nfs_base.specs.declared.caller.Caller.{Caller}
use Rattle.nr_nfs_base.specs.declared.procedure.MountProcedure.{MountProcedure}
use Rattle.nr_nfs_base.specs.declared.procedure.NfsProcedure.{NfsProcedure}
use Rattle.nr_nfs_base.specs.declared.procedure.NfsProcedure.TheVariants as nfs
use Rattle.nr_nfs_base.specs.declared.time.Time.{Time}
use Rattle.nr_nfs_args.specs.Arguments.{NfsArguments, MountArguments, nfs_arguments_codec, mount_arguments_codec}
use Rattle.nr_nfs_args.specs.Bytes.{write_args_codec, write_args_lawful}
use Rattle.nr_nfs_args.specs.Create.{create_args_codec, create_args_lawful, mkdir_args_codec, mkdir_args_lawful}
use Rattle.nr_nfs_args.specs.Special.{symlink_args_codec, symlink_args_lawful, mknod_args_codec, mknod_args_lawful}
use Rattle.nr_nfs_args.specs.Remove.{rename_args_codec, rename_args_lawful, link_args_codec, link_args_lawful}
use Rattle.nr_nfs_args.specs.declared.bytes.WriteArgs.{WriteArgs}
use Rattle.nr_nfs_args.specs.declared.create.CreateArgs.{CreateArgs}
use Rattle.nr_nfs_args.specs.declared.create.MkdirArgs.{MkdirArgs}
use Rattle.nr_nfs_args.specs.declared.remove.LinkArgs.{LinkArgs}
use Rattle.nr_nfs_args.specs.declared.remove.RenameArgs.{RenameArgs}
use Rattle.nr_nfs_args.specs.declared.special.MknodArgs.{MknodArgs}
use Rattle.nr_nfs_args.specs.declared.special.SymlinkArgs.{SymlinkArgs}
use Rattle.nr_nfs_res.specs.Results.{nfs_results_codec, mount_results_codec}
use Rattle.nr_outside.specs.declared.moment.Moment.{Moment}
use Rattle.nr_reduce.specs.declared.mark.Entry.{Entry}
use Rattle.nr_tree.specs.Tree.{Tree}
use Rattle.nr_tree.specs.declared.rules.Space.{Space}
use Rattle.nr_plain.specs.Setup.{Parameters, State, caller_of, time_of, space_of}
use Rattle.nr_plain.specs.Programs.{nfs_tree, nfs_results, only_reads, mount_results}
use Rattle.nr_plain.specs.Journal.{nfs_procedure_of, tree_by_arguments, tree_by_procedure, next_state, state_after, first_state, state_of}
use Rattle.nr_plain.specs.Replies.{Answer, refusal, accepted, results_reply, entries_if, nfs_by_arguments, nfs_by_procedure, mount_by_arguments, mount_by_procedure, mount_procedure_of, cred_refusal, nfs_call, mount_call, program_call, call_by_cred, answer_to, answer_by}
use Rattle.nr_plain.specs.Added.{has_succeeded, entries_by_procedure, entries_by_program, entries_by_cred, entries_by_call}
use Rattle.nr_laws.proofs.Basics.{each_right, each_take}
use Rattle.nr_script.proofs.ByteLists.{no_bytes_lem, bytes_both, OfBytes, AreOfBytes, items_bytes}
use Rattle.nr_byte_laws.specs.InBytes.{AddedEntriesAreInBytes, EntryInBytes, IsInBytes, PlainRepliesAreBytes}
use Rattle.nr_byte_laws.proofs.TreeBytes.{setattr_bytes, write_bytes, create_bytes, mkdir_bytes, symlink_bytes, mknod_bytes, remove_bytes, rmdir_bytes, rename_bytes, link_bytes}
use Rattle.nr_byte_laws.proofs.ResultBytes.{nfs_items, mount_items}

-- ===== arguments

item_read : (item : Item) (bytes : List ℕ) → Reads item bytes → IsBytes bytes → OfBytes item
item_read (Unsigned n) bytes reads h = tt
item_read (Hyper n) bytes reads h = tt
item_read (Boolean b) bytes reads h = tt
item_read (Opaque content) bytes reads h =
    IsBytes_left content reads.pad (IsBytes_right (number_word (length content)) (content ++ reads.pad) (subst IsBytes reads.bytes_are h))
item_read (Fixed content) bytes reads h = IsBytes_left content reads.pad (subst IsBytes reads.bytes_are h)

items_read : (items : List Item) (bytes : List ℕ) → ReadsAll items bytes → IsBytes bytes → AreOfBytes items
items_read [] bytes reads h = tt
items_read (item ∷ items) bytes (front, rest, reads, others, parts) h =
    let all : IsBytes (front ++ rest) = subst IsBytes parts h in
    (item_read item front reads (IsBytes_left front rest all), items_read items rest others (IsBytes_right front rest all))

-- what is read of bytes has bytes
value_read : {A : Type 0} (c : Codec A) → Lawful c → (bytes : List ℕ) (v : A) → IsBytes bytes → read_all c bytes ≡ Ok v → AreOfBytes (c.items v)
value_read c lawful bytes v h e = items_read (c.items v) bytes (found_all c lawful bytes v h e).1 h

create_name : (a : CreateArgs) → AreOfBytes (create_args_codec.items a) → IsBytes a.name
unfolding create_args_codec opaque
create_name a h = h.1.0

mkdir_name : (a : MkdirArgs) → AreOfBytes (mkdir_args_codec.items a) → IsBytes a.name
unfolding mkdir_args_codec opaque
mkdir_name a h = h.1.0

symlink_name : (a : SymlinkArgs) → AreOfBytes (symlink_args_codec.items a) → IsBytes a.name
unfolding symlink_args_codec opaque
symlink_name a h = h.1.0

symlink_path : (a : SymlinkArgs) → AreOfBytes (symlink_args_codec.items a) → IsBytes a.path
unfolding symlink_args_codec opaque
symlink_path a h = (each_right OfBytes (set_attributes_codec.items a.attributes) (Opaque a.path ∷ []) h.1.1).0

mknod_name : (a : MknodArgs) → AreOfBytes (mknod_args_codec.items a) → IsBytes a.name
unfolding mknod_args_codec opaque
mknod_name a h = h.1.0

rename_name : (a : RenameArgs) → AreOfBytes (rename_args_codec.items a) → IsBytes a.to_name
unfolding rename_args_codec opaque
rename_name a h = h.1.1.1.0

link_name : (a : LinkArgs) → AreOfBytes (link_args_codec.items a) → IsBytes a.name
unfolding link_args_codec opaque
link_name a h = h.1.1.0

write_data : (a : WriteArgs) → AreOfBytes (write_args_codec.items a) → IsBytes a.bytes
unfolding write_args_codec opaque
write_data a h = (each_right OfBytes (write_args_front.items (a.file, (a.offset, (a.count, a.stable)))) (Opaque a.bytes ∷ []) h).0

-- ===== the tree after each entry

module _ (t : Tree) (c : Caller) (space : Space) (now : Time) (args : List ℕ) (h : IsBytes args) (is : IsInBytes t) where
  procedure_bytes : (p : NfsProcedure) (a : NfsArguments p) → read_all (nfs_arguments_codec p) args ≡ Ok a → IsInBytes (nfs_tree t c space now p a)
  procedure_bytes nfs.Null a e = is
  procedure_bytes nfs.Getattr a e = is
  procedure_bytes nfs.Setattr a e = setattr_bytes t c space now a is
  procedure_bytes nfs.Lookup a e = is
  procedure_bytes nfs.Access a e = is
  procedure_bytes nfs.Readlink a e = is
  procedure_bytes nfs.Read a e = is
  procedure_bytes nfs.Write a e = write_bytes t c space now a (write_data a (value_read write_args_codec write_args_lawful args a h e)) is
  procedure_bytes nfs.Create a e = create_bytes t c space now a (create_name a (value_read create_args_codec create_args_lawful args a h e)) is
  procedure_bytes nfs.Mkdir a e = mkdir_bytes t c space now a (mkdir_name a (value_read mkdir_args_codec mkdir_args_lawful args a h e)) is
  procedure_bytes nfs.Symlink a e =
      let read = value_read symlink_args_codec symlink_args_lawful args a h e in
      symlink_bytes t c space now a (symlink_name a read) (symlink_path a read) is
  procedure_bytes nfs.Mknod a e = mknod_bytes t c space now a (mknod_name a (value_read mknod_args_codec mknod_args_lawful args a h e)) is
  procedure_bytes nfs.Remove a e = remove_bytes t c space now a is
  procedure_bytes nfs.Rmdir a e = rmdir_bytes t c space now a is
  procedure_bytes nfs.Rename a e = rename_bytes t c space now a (rename_name a (value_read rename_args_codec rename_args_lawful args a h e)) is
  procedure_bytes nfs.Link a e = link_bytes t c space now a (link_name a (value_read link_args_codec link_args_lawful args a h e)) is
  procedure_bytes nfs.Readdir a e = is
  procedure_bytes nfs.Readdirplus a e = is
  procedure_bytes nfs.Fsstat a e = is
  procedure_bytes nfs.Fsinfo a e = is
  procedure_bytes nfs.Pathconf a e = is
  procedure_bytes nfs.Commit a e = is

arguments_bytes : (s : Parameters) (st : State) (e : Entry) (p : NfsProcedure) (r : Result (NfsArguments p) ℕ) → read_all (nfs_arguments_codec p) e.args ≡ r → EntryInBytes e → IsInBytes st.tree →
    IsInBytes (tree_by_arguments s st e p r)
arguments_bytes s st e p (Ok a) read h is = procedure_bytes st.tree (caller_of e.cred) (space_of s st e.args) (time_of e.moment) e.args h is p a read
arguments_bytes s st e p (Err at) read h is = is

found_bytes : (s : Parameters) (st : State) (e : Entry) (o : Option NfsProcedure) → EntryInBytes e → IsInBytes st.tree → IsInBytes (tree_by_procedure s st e o)
found_bytes s st e None h is = is
found_bytes s st e (Some p) h is = arguments_bytes s st e p (read_all (nfs_arguments_codec p) e.args) refl h is

next_bytes : (s : Parameters) (st : State) (e : Entry) → EntryInBytes e → IsInBytes st.tree → IsInBytes (next_state s st e).tree
unfolding next_state
next_bytes s st e h is = found_bytes s st e (nfs_procedure_of e.proc) h is

after_bytes : (s : Parameters) (st : State) (es : List Entry) → AllByRecursion EntryInBytes es → IsInBytes st.tree → IsInBytes (state_after s st es).tree
after_bytes s st [] h is = is
after_bytes s st (e ∷ es) h is = after_bytes s (next_state s st e) es h.1 (next_bytes s st e h.0 is)

-- ===== a reply

head_items : (head : ReplyHead) → AreOfBytes (reply_items head no_verifier)
head_items (replies.Accepted xid stat results_at) = (tt, (tt, (tt, (tt, (no_bytes_lem, (tt, tt))))))
head_items (replies.ProgMismatch xid low high) = (tt, (tt, (tt, (tt, (no_bytes_lem, (tt, (tt, (tt, tt))))))))
head_items (replies.RpcMismatch xid low high) = (tt, (tt, (tt, (tt, (tt, (tt, tt))))))
head_items (replies.AuthError xid stat) = (tt, (tt, (tt, (tt, (tt, tt)))))

reply_bytes : (head : ReplyHead) (results : List ℕ) → IsBytes results → IsBytes (reply_encoding head results)
reply_bytes head results h = bytes_both _ results (items_bytes (reply_items head no_verifier) (head_items head)) h

abbrev AnswerInBytes : Answer → Type 0
AnswerInBytes a = IsBytes a.reply

refused : (head : ReplyHead) → AnswerInBytes (refusal head)
refused head = reply_bytes head [] no_bytes_lem

results_bytes : {R : Type 0} (xid : ℕ) (c : Codec R) (r : R) → AreOfBytes (c.items r) → IsBytes (results_reply xid c r)
results_bytes xid c r h = reply_bytes (accepted xid 0) (encodings (c.items r)) (items_bytes (c.items r) h)

either : (b : Bool) (x y : Answer) → AnswerInBytes x → AnswerInBytes y → AnswerInBytes (cond b x y)
either true x y h k = h
either false x y h k = k

module _ (s : Parameters) (st : State) (is : IsInBytes st.tree) (xid : ℕ) (e : Entry) where
  by_arguments : (p : NfsProcedure) (r : Result (NfsArguments p) ℕ) → AnswerInBytes (nfs_by_arguments s st xid e p r)
  by_arguments p (Ok a) =
      results_bytes xid (nfs_results_codec p) (nfs_results st.tree (caller_of e.cred) (space_of s st e.args) (time_of e.moment) p a)
      (nfs_items st.tree (caller_of e.cred) (space_of s st e.args) (time_of e.moment) is p a)
  by_arguments p (Err at) = refused (accepted xid 4)

  by_procedure : (o : Option NfsProcedure) → AnswerInBytes (nfs_by_procedure s st xid e o)
  by_procedure None = refused (accepted xid 3)
  by_procedure (Some p) = by_arguments p (read_all (nfs_arguments_codec p) e.args)

  mounts : (p : MountProcedure) (r : Result (MountArguments p) ℕ) → AnswerInBytes (mount_by_arguments s xid p r)
  mounts p (Ok a) = results_bytes xid (mount_results_codec p) (mount_results s.export p a) (mount_items s.export p a)
  mounts p (Err at) = refused (accepted xid 4)

  mount_procedure : (o : Option MountProcedure) → AnswerInBytes (mount_by_procedure s xid e.args o)
  mount_procedure None = refused (accepted xid 3)
  mount_procedure (Some p) = mounts p (read_all (mount_arguments_codec p) e.args)

  by_version : (vers : ℕ) → AnswerInBytes (nfs_call s st xid vers e)
  unfolding nfs_call
  by_version vers =
      either (eqb vers 3) (nfs_by_procedure s st xid e (nfs_procedure_of e.proc)) (refusal (replies.ProgMismatch xid 3 3)) (by_procedure (nfs_procedure_of e.proc)) (refused (replies.ProgMismatch xid 3 3))

  mount_version_bytes : (vers : ℕ) → AnswerInBytes (mount_call s xid vers e)
  unfolding mount_call
  mount_version_bytes vers =
      either (eqb vers 3) (mount_by_procedure s xid e.args (mount_procedure_of e.proc)) (refusal (replies.ProgMismatch xid 3 3)) (mount_procedure (mount_procedure_of e.proc)) (refused (replies.ProgMismatch xid 3 3))

  by_program : (prog vers : ℕ) → AnswerInBytes (program_call s st xid prog vers e)
  by_program prog vers =
      either (eqb prog 100003) (nfs_call s st xid vers e) (cond (eqb prog 100005) (mount_call s xid vers e) (refusal (accepted xid 1))) (by_version vers)
      (either (eqb prog 100005) (mount_call s xid vers e) (refusal (accepted xid 1)) (mount_version_bytes vers) (refused (accepted xid 1)))

by_cred : (o : Option ℕ) (xid : ℕ) (a : Answer) → AnswerInBytes a → AnswerInBytes (call_by_cred o xid a)
by_cred None xid a h = h
by_cred (Some stat) xid a h = refused (replies.AuthError xid stat)

by_head : (s : Parameters) (st : State) → IsInBytes st.tree → (m : Moment) (payload : List ℕ) (head : CallHead) → AnswerInBytes (answer_to s st m payload head)
by_head s st is m payload (calls.Version2 xid prog vers proc cred args_at) =
    let e : Entry = record { moment = m; cred = cred; proc = proc; args = drop args_at payload } in
    by_cred (cred_refusal cred) xid (program_call s st xid prog vers e) (by_program s st is xid e prog vers)
by_head s st is m payload (calls.Other xid rpcvers) = refused (replies.RpcMismatch xid 2 2)

by_call : (s : Parameters) (st : State) → IsInBytes st.tree → (m : Moment) (payload : List ℕ) (r : Result CallHead ℕ) (reply : List ℕ) → option_map (λ (a : Answer). a.reply) (answer_by s st m payload r) ≡ Some reply → IsBytes reply
by_call s st is m payload (Ok head) reply e = let same : (answer_to s st m payload head).reply ≡ reply = cc in subst IsBytes same (by_head s st is m payload head)
by_call s st is m payload (Err at) reply e = absurd cc

-- at each place of a journal
pub plain_reply_bytes : PlainRepliesAreBytes
plain_reply_bytes s J place m payload reply is h e =
    by_call s.parameters (state_of s (take place J)) (after_bytes s.parameters (first_state s) (take place J) (each_take EntryInBytes place J h) is) m payload (call_of payload) reply e

-- ===== the entries that a call adds

entry_if : (b : Bool) (e : Entry) → EntryInBytes e → AllByRecursion EntryInBytes (entries_if b e)
entry_if true e h = (h, tt)
entry_if false e h = tt

entries_found : (o : Option NfsProcedure) (reply : List ℕ) (e : Entry) → EntryInBytes e → AllByRecursion EntryInBytes (entries_by_procedure o reply e)
entries_found None reply e h = tt
entries_found (Some p) reply e h = entry_if (not (only_reads p) && has_succeeded reply) e h

entries_program : (b : Bool) (reply : List ℕ) (e : Entry) → EntryInBytes e → AllByRecursion EntryInBytes (cond b (entries_by_procedure (nfs_procedure_of e.proc) reply e) [])
entries_program true reply e h = entries_found (nfs_procedure_of e.proc) reply e h
entries_program false reply e h = tt

entries_cred : (o : Option ℕ) (es : List Entry) → AllByRecursion EntryInBytes es → AllByRecursion EntryInBytes (entries_by_cred o es)
entries_cred None es h = h
entries_cred (Some stat) es h = tt

entries_head : (m : Moment) (payload reply : List ℕ) (r : Result CallHead ℕ) → IsBytes payload → AllByRecursion EntryInBytes (entries_by_call m payload reply r)
entries_head m payload reply (Ok (calls.Version2 xid prog vers proc cred args_at)) h =
    let e : Entry = record { moment = m; cred = cred; proc = proc; args = drop args_at payload } in
    entries_cred (cred_refusal cred) (entries_by_program prog vers reply e) (entries_program (eqb prog 100003 && eqb vers 3) reply e (IsBytes_drop args_at payload h))
entries_head m payload reply (Ok (calls.Other xid rpcvers)) h = tt
entries_head m payload reply (Err at) h = tt

pub entries_bytes : AddedEntriesAreInBytes
entries_bytes m payload reply h = entries_head m payload reply (call_of payload) h
