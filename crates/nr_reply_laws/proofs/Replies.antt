-- What a client reads of the plain server's reply to each of its calls.
use Rattle.std.proofs.Common.{◌≡◌, ℕ, ◌+◌, ◌<◌, ◌^◌, Bool, true, false, cond, List, [], length, Option, None, Some, Result, Ok, Err, inl, inr, sym, ap, subst, ◌∙◌, arith, append-nil}
use Rattle.std.specs.Prelude.{◌⊎◌, ◌==◌, ◌||◌, nat_lt, nat_eq}
use Rattle.std.specs.Cmp.Lexicographic.{pointwise}
use Rattle.nr_xdr.specs.Items.{encodings}
use Rattle.nr_xdr.specs.Reading.{Cursor}
use Rattle.nr_xdr.specs.Sequencing.{◌>>=◌}
use Rattle.nr_xdr.proofs.Chains.{standing}
use Rattle.nr_nfs_base.specs.Attributes.{attributes_codec}
use Rattle.nr_nfs_base.specs.Codec.{Codec, optional, read_all, value_at_end, void}
use Rattle.nr_nfs_base.specs.Laws.{ok_is}
use Rattle.nr_nfs_base.specs.MountStatus.{each_mount_status, mount_status_not_ok, mount_status_number, mount_statuses}
use Rattle.nr_nfs_base.specs.WeakCache.{wcc_data_codec}
use Rattle.nr_nfs_base.specs.declared.mount_status.MountStatus.{MountStatus}
use Rattle.nr_nfs_base.specs.declared.mount_status.MountStatus.TheVariants as mount_status
use Rattle.nr_nfs_base.specs.declared.procedure.MountProcedure.TheVariants as mount
use Rattle.nr_nfs_base.specs.declared.procedure.NfsProcedure.TheVariants as nfs
use Rattle.nr_nfs_base.specs.declared.stable.StableHow.TheVariants as stable
use Rattle.nr_nfs_base.specs.declared.status_union.StatusUnion.{StatusUnion}
use Rattle.nr_nfs_base.specs.declared.status_union.StatusUnion.TheVariants.{Done, Failed}
use Rattle.nr_nfs_args.specs.Attributes.{getattr_args_codec}
use Rattle.nr_nfs_args.specs.Bytes.{read_args_codec, write_args_codec}
use Rattle.nr_nfs_args.specs.Create.{create_args_codec, mkdir_args_codec}
use Rattle.nr_nfs_args.specs.Lookup.{lookup_args_codec, readlink_args_codec}
use Rattle.nr_nfs_args.specs.Mount.{mnt_args_codec}
use Rattle.nr_nfs_args.specs.Remove.{remove_args_codec}
use Rattle.nr_nfs_args.specs.Special.{symlink_args_codec}
use Rattle.nr_nfs_args.specs.declared.bytes.ReadArgs.{ReadArgs}
use Rattle.nr_nfs_args.specs.declared.bytes.WriteArgs.{WriteArgs}
use Rattle.nr_nfs_args.specs.declared.create.CreateHow.TheVariants as hows
use Rattle.nr_nfs_args.specs.Arguments.{MountArguments}
use Rattle.nr_nfs_res.specs.Bytes.{read_ok_codec, write_ok_codec}
use Rattle.nr_nfs_res.specs.Create.{create_ok_codec}
use Rattle.nr_nfs_res.specs.Lookup.{lookup_ok_codec, readlink_ok_codec}
use Rattle.nr_nfs_res.specs.Mount.{mount_ok_codec}
use Rattle.nr_nfs_res.specs.Readdir.{readdir_ok_codec}
use Rattle.nr_nfs_res.specs.Results.{mnt_res_codec, mount_results_codec}
use Rattle.nr_nfs_res.specs.declared.bytes.ReadOk.{ReadOk}
use Rattle.nr_nfs_res.specs.declared.bytes.WriteOk.{WriteOk}
use Rattle.nr_nfs_res.specs.declared.create.CreateOk.{CreateOk}
use Rattle.nr_nfs_res.specs.declared.lookup.LookupOk.{LookupOk}
use Rattle.nr_nfs_res.specs.declared.mount.MountOk.{MountOk}
use Rattle.nr_reduce.specs.declared.call.Outcome.{Outcome}
use Rattle.nr_reduce.specs.declared.call.Outcome.TheVariants as outcomes
use Rattle.nr_tree.specs.Rules.{handle_of}
use Rattle.nr_plain.specs.Programs.{mount_results, mounted}
use Rattle.nr_plain.specs.Replies.{results_reply}
use Rattle.nr_plain.proofs.Lengths.{length_handle}
use Rattle.nr_client.specs.declared.client_end.ClientEnd.{ClientEnd}
use Rattle.nr_client.specs.declared.client_end.ClientEnd.TheVariants as client
use Rattle.nr_client.specs.Listing.{no_progress, readdir_result}
use Rattle.nr_client.specs.Reading.{checked_read, is_bad_read, post_op_attr_len, read_result, results_offset}
use Rattle.nr_client.specs.Requests.{create_result, getattr_result, handle_of as handle_in, lookup_result, mnt_result, nfs_reads, only_mode, directory_mode, readlink_result, remove_result}
use Rattle.nr_client.specs.Results.{mount_done, result_of_reply}
use Rattle.nr_client.specs.Walking.{object_in, object_result}
use Rattle.nr_client.specs.Writing.{checked_write, created_file, created_handle, handle_or, new_file, wcc_data_len, write_result}
use Rattle.nr_reply_laws.specs.Replies.{AnyValue, CreateRepliesAreRead, GetattrRepliesAreRead, HasResults, IsHandle, ListsOn, LookupRepliesAreRead, MkdirRepliesAreRead, MountRepliesAreRead, ReadRepliesAreRead, ReaddirRepliesAreRead, ReadlinkRepliesAreRead, RemoveRepliesAreRead, SymlinkRepliesAreRead, WriteRepliesAreRead}
use Rattle.nr_reply_laws.proofs.Decoding.{IsRead, UnionIs, done_is, failed_is, weaker}
use Rattle.nr_reply_laws.proofs.Procedures.{HasHandle, create_read, getattr_read, lookup_read, mkdir_read, read_read, readdir_read, readlink_read, remove_read, symlink_read, write_read}
use Rattle.nr_reply_laws.proofs.Replied.{IsExecuted, garbage, garbage_read, mnt_replied, nfs_garbage, nfs_read, nfs_replied, results_read}
use Rattle.nr_reply_laws.proofs.Values.{mount_ok_is, read_args_is, void_any, write_args_is}

-- ---- Arguments

-- what is read of the encoding of arguments is what the items of these say
arguments_read : {A : Type 0} (codec : Codec A) (v a : A) (P : A → Type 0) → IsRead codec (codec.items v) P → read_all codec (encodings (codec.items v)) ≡ Ok a → P a
arguments_read {A} codec v a P reads e =
    let bytes = encodings (codec.items v) in
    let f = reads.at 0 [] in
    let is : read_all codec bytes ≡ Ok f.value =
    ap (λ (l : List ℕ). ◌>>=◌ {A = A × Cursor} {B = A} (codec.read (standing 0 l)) value_at_end) (sym (append-nil bytes))
    ∙ ap (λ (r : Result (A × Cursor) ℕ). ◌>>=◌ {A = A × Cursor} {B = A} r value_at_end) f.is in
    subst P (ok_is f.value a (sym is ∙ e)) f.holds

-- ---- Procedures of NFS

-- the results of a procedure that was executed, or the arguments could not be read
abbrev ReadIf : {D F : Type 0} → Codec D → Codec F → (D → Type 0) → List ℕ → Type 0
ReadIf done failed P reply = HasResults P (nfs_reads done failed (outcomes.Reply reply))

pub getattr_lem : GetattrRepliesAreRead
getattr_lem s uid gid file o ids of =
    subst (λ (x : Outcome). HasResults AnyValue (getattr_result x)) (sym of.is)
    (by (nfs_replied s uid gid of.xid ids of.fits nfs.Getattr (encodings (getattr_args_codec.items (record { object = file }))) of.journal of.place of.moment of.reply of.replied))
  where
    by : (of.reply ≡ garbage of.xid) ⊎ IsExecuted s of.xid nfs.Getattr (encodings (getattr_args_codec.items (record { object = file }))) of.reply → ReadIf attributes_codec void AnyValue of.reply
    by (inl is) = nfs_garbage of.xid of.fits attributes_codec void AnyValue of.reply is
    by (inr e) = nfs_read of.xid of.fits attributes_codec void AnyValue of.reply _ e.is (getattr_read e.tree e.arguments)

object_has : (r : Result LookupOk ClientEnd) → HasResults (λ w. IsHandle w.object) r → HasResults IsHandle (object_in r)
object_has (Ok found) is = is
object_has (Err end) is = is

pub lookup_lem : LookupRepliesAreRead
lookup_lem s uid gid dir name o ids of =
    subst (λ (x : Outcome). HasResults IsHandle (object_result x)) (sym of.is)
    (object_has (lookup_result (outcomes.Reply of.reply))
    (by (nfs_replied s uid gid of.xid ids of.fits nfs.Lookup (encodings (lookup_args_codec.items (record { dir = dir; name = name }))) of.journal of.place of.moment of.reply of.replied)))
  where
    by : (of.reply ≡ garbage of.xid) ⊎ IsExecuted s of.xid nfs.Lookup (encodings (lookup_args_codec.items (record { dir = dir; name = name }))) of.reply
        → ReadIf lookup_ok_codec (optional attributes_codec) (λ w. IsHandle w.object) of.reply
    by (inl is) = nfs_garbage of.xid of.fits lookup_ok_codec (optional attributes_codec) (λ w. IsHandle w.object) of.reply is
    by (inr e) = nfs_read of.xid of.fits lookup_ok_codec (optional attributes_codec) (λ w. IsHandle w.object) of.reply _ e.is (lookup_read e.tree e.caller e.arguments)

pub readlink_lem : ReadlinkRepliesAreRead
readlink_lem s uid gid file o sane ids of =
    subst (λ (x : Outcome). HasResults AnyValue (readlink_result x)) (sym of.is)
    (by (nfs_replied s uid gid of.xid ids of.fits nfs.Readlink (encodings (readlink_args_codec.items (record { symlink = file }))) of.journal of.place of.moment of.reply of.replied))
  where
    by : (of.reply ≡ garbage of.xid) ⊎ IsExecuted s of.xid nfs.Readlink (encodings (readlink_args_codec.items (record { symlink = file }))) of.reply → ReadIf readlink_ok_codec (optional attributes_codec) AnyValue of.reply
    by (inl is) = nfs_garbage of.xid of.fits readlink_ok_codec (optional attributes_codec) AnyValue of.reply is
    by (inr e) = nfs_read of.xid of.fits readlink_ok_codec (optional attributes_codec) AnyValue of.reply _ e.is (readlink_read e.tree e.arguments (e.sane sane))

pub remove_lem : RemoveRepliesAreRead
remove_lem s uid gid dir name o ids of =
    subst (λ (x : Outcome). HasResults AnyValue (remove_result x)) (sym of.is)
    (by (nfs_replied s uid gid of.xid ids of.fits nfs.Remove (encodings (remove_args_codec.items (record { dir = dir; name = name }))) of.journal of.place of.moment of.reply of.replied))
  where
    by : (of.reply ≡ garbage of.xid) ⊎ IsExecuted s of.xid nfs.Remove (encodings (remove_args_codec.items (record { dir = dir; name = name }))) of.reply → ReadIf wcc_data_codec wcc_data_codec AnyValue of.reply
    by (inl is) = nfs_garbage of.xid of.fits wcc_data_codec wcc_data_codec AnyValue of.reply is
    by (inr e) = nfs_read of.xid of.fits wcc_data_codec wcc_data_codec AnyValue of.reply _ e.is (remove_read e.tree e.caller e.space e.now e.arguments)

pub mkdir_lem : MkdirRepliesAreRead
mkdir_lem s uid gid dir name o ids of =
    subst (λ (x : Outcome). HasResults AnyValue (create_result x)) (sym of.is)
    (by (nfs_replied s uid gid of.xid ids of.fits nfs.Mkdir args of.journal of.place of.moment of.reply of.replied))
  where
    args : List ℕ
    args = encodings (mkdir_args_codec.items (record { dir = dir; name = name; attributes = only_mode (Some directory_mode) }))

    by : (of.reply ≡ garbage of.xid) ⊎ IsExecuted s of.xid nfs.Mkdir args of.reply → ReadIf create_ok_codec wcc_data_codec AnyValue of.reply
    by (inl is) = nfs_garbage of.xid of.fits create_ok_codec wcc_data_codec AnyValue of.reply is
    by (inr e) = nfs_read of.xid of.fits create_ok_codec wcc_data_codec AnyValue of.reply _ e.is (mkdir_read e.tree e.caller e.space e.now e.arguments)

pub symlink_lem : SymlinkRepliesAreRead
symlink_lem s uid gid dir name path o ids of =
    subst (λ (x : Outcome). HasResults AnyValue (create_result x)) (sym of.is)
    (by (nfs_replied s uid gid of.xid ids of.fits nfs.Symlink args of.journal of.place of.moment of.reply of.replied))
  where
    args : List ℕ
    args = encodings (symlink_args_codec.items (record { dir = dir; name = name; attributes = only_mode None; path = path }))

    by : (of.reply ≡ garbage of.xid) ⊎ IsExecuted s of.xid nfs.Symlink args of.reply → ReadIf create_ok_codec wcc_data_codec AnyValue of.reply
    by (inl is) = nfs_garbage of.xid of.fits create_ok_codec wcc_data_codec AnyValue of.reply is
    by (inr e) = nfs_read of.xid of.fits create_ok_codec wcc_data_codec AnyValue of.reply _ e.is (symlink_read e.tree e.caller e.space e.now e.arguments)

pub readdir_lem : ReaddirRepliesAreRead
readdir_lem s uid gid dir cookie verifier o sane ids of =
    subst (λ (x : Outcome). HasResults ListsOn (readdir_result x)) (sym of.is)
    (by (nfs_replied s uid gid of.xid ids of.fits nfs.Readdir _ of.journal of.place of.moment of.reply of.replied))
  where
    by : {args : List ℕ} → (of.reply ≡ garbage of.xid) ⊎ IsExecuted s of.xid nfs.Readdir args of.reply → ReadIf readdir_ok_codec (optional attributes_codec) ListsOn of.reply
    by (inl is) = nfs_garbage of.xid of.fits readdir_ok_codec (optional attributes_codec) ListsOn of.reply is
    by (inr e) = nfs_read of.xid of.fits readdir_ok_codec (optional attributes_codec) ListsOn of.reply _ e.is (readdir_read e.tree e.caller e.arguments (e.sane sane))

handle_has : (results_at : ℕ) (r : Result CreateOk ClientEnd) → HasResults HasHandle r → HasResults IsHandle (created_handle results_at r)
handle_has results_at (Ok w) (h, (is, short)) = subst (λ (p : Option (List ℕ)). HasResults IsHandle (handle_or results_at p)) (sym is) short
handle_has results_at (Err end) is = is

pub create_lem : CreateRepliesAreRead
create_lem s uid gid dir name o sane ids of =
    subst (λ (x : Outcome). HasResults IsHandle (created_file x)) (sym of.is)
    (handle_has (results_offset (outcomes.Reply of.reply)) (create_result (outcomes.Reply of.reply))
    (by (nfs_replied s uid gid of.xid ids of.fits nfs.Create args of.journal of.place of.moment of.reply of.replied)))
  where
    args : List ℕ
    args = encodings (create_args_codec.items (record { dir = dir; name = name; how = hows.Unchecked new_file }))

    by : (of.reply ≡ garbage of.xid) ⊎ IsExecuted s of.xid nfs.Create args of.reply → ReadIf create_ok_codec wcc_data_codec HasHandle of.reply
    by (inl is) = nfs_garbage of.xid of.fits create_ok_codec wcc_data_codec HasHandle of.reply is
    by (inr e) = nfs_read of.xid of.fits create_ok_codec wcc_data_codec HasHandle of.reply _ e.is (create_read e.tree e.caller e.space e.now e.arguments (e.sane sane))

-- ---- READ and WRITE

not_bad : {A : Type 0} (b : Bool) (end : ClientEnd) (value : A) → b ≡ false → HasResults AnyValue (cond b (Err end) (Ok value))
not_bad false end value is = tt
not_bad true end value is = absurd (let wrong : true ≡ false = is in cc)

read_has : (count results_at : ℕ) (r : Result ReadOk ClientEnd) → HasResults (λ w. is_bad_read count w ≡ false) r → HasResults AnyValue (checked_read count results_at r)
read_has count results_at (Ok w) is = not_bad (is_bad_read count w) (client.BadReply (results_at + (12 + post_op_attr_len w.attributes)) no_progress) w is
read_has count results_at (Err end) is = is

pub read_lem : ReadRepliesAreRead
read_lem s uid gid file offset count o short some few ids of =
    subst (λ (x : Outcome). HasResults AnyValue (read_result count x)) (sym of.is)
    (read_has count (results_offset (outcomes.Reply of.reply)) (nfs_reads read_ok_codec (optional attributes_codec) (outcomes.Reply of.reply))
    (by (nfs_replied s uid gid of.xid ids of.fits nfs.Read (encodings (read_args_codec.items args)) of.journal of.place of.moment of.reply of.replied)))
  where
    args : ReadArgs
    args = record { file = file; offset = offset; count = count }

    by : (of.reply ≡ garbage of.xid) ⊎ IsExecuted s of.xid nfs.Read (encodings (read_args_codec.items args)) of.reply → ReadIf read_ok_codec (optional attributes_codec) (λ w. is_bad_read count w ≡ false) of.reply
    by (inl is) = nfs_garbage of.xid of.fits read_ok_codec (optional attributes_codec) (λ w. is_bad_read count w ≡ false) of.reply is
    by (inr e) =
        nfs_read of.xid of.fits read_ok_codec (optional attributes_codec) (λ w. is_bad_read count w ≡ false) of.reply _ e.is
        (read_read e.tree e.caller e.arguments count (arguments_read read_args_codec args e.arguments (λ w. w.count ≡ count) (read_args_is args short (omega (arith, few))) e.read) some)

write_has : (sent results_at : ℕ) (r : Result WriteOk ClientEnd) → HasResults (λ w. (w.count == 0 || nat_lt sent w.count) ≡ false) r → HasResults AnyValue (checked_write sent results_at r)
write_has sent results_at (Ok w) is = not_bad (w.count == 0 || nat_lt sent w.count) (client.BadReply (results_at + (4 + wcc_data_len w.wcc)) no_progress) w.count is
write_has sent results_at (Err end) is = is

pub write_lem : WriteRepliesAreRead
write_lem s uid gid file offset bytes o short some few ids of =
    subst (λ (x : Outcome). HasResults AnyValue (write_result (length bytes) x)) (sym of.is)
    (write_has (length bytes) (results_offset (outcomes.Reply of.reply)) (nfs_reads write_ok_codec wcc_data_codec (outcomes.Reply of.reply))
    (by (nfs_replied s uid gid of.xid ids of.fits nfs.Write (encodings (write_args_codec.items args)) of.journal of.place of.moment of.reply of.replied)))
  where
    args : WriteArgs
    args = record { file = file; offset = offset; count = length bytes; stable = stable.FileSync; bytes = bytes }

    by : (of.reply ≡ garbage of.xid) ⊎ IsExecuted s of.xid nfs.Write (encodings (write_args_codec.items args)) of.reply
        → ReadIf write_ok_codec wcc_data_codec (λ w. (w.count == 0 || nat_lt (length bytes) w.count) ≡ false) of.reply
    by (inl is) = nfs_garbage of.xid of.fits write_ok_codec wcc_data_codec (λ w. (w.count == 0 || nat_lt (length bytes) w.count) ≡ false) of.reply is
    by (inr e) =
        nfs_read of.xid of.fits write_ok_codec wcc_data_codec (λ w. (w.count == 0 || nat_lt (length bytes) w.count) ≡ false) of.reply _ e.is
        (write_read e.tree e.caller e.space e.now e.arguments bytes (arguments_read write_args_codec args e.arguments (λ w. w.bytes ≡ bytes) (write_args_is args short (omega (arith, few))) e.read) some few)

-- ---- MNT

pub mount_status_fits : (m : MountStatus) → mount_status_number m < 2 ^ 32
mount_status_fits mount_status.Perm = omega arith
mount_status_fits mount_status.Noent = omega arith
mount_status_fits mount_status.Io = omega arith
mount_status_fits mount_status.Acces = omega arith
mount_status_fits mount_status.Notdir = omega arith
mount_status_fits mount_status.Inval = omega arith
mount_status_fits mount_status.Nametoolong = omega arith
mount_status_fits mount_status.Notsupp = omega arith
mount_status_fits mount_status.Serverfault = omega arith

mounted_read : (b : Bool) → IsRead mnt_res_codec (mnt_res_codec.items (cond b (Done mounted) (Failed mount_status.Noent tt))) (UnionIs (λ (w : MountOk). IsHandle w.handle))
mounted_read true =
    done_is mount_status_number mount_statuses mount_status_not_ok each_mount_status mount_status_fits mount_ok_codec void mounted (λ (w : MountOk). IsHandle w.handle)
    (weaker mount_ok_codec (mount_ok_codec.items mounted) (λ (w : MountOk). w.handle ≡ handle_of 1) (λ (w : MountOk). IsHandle w.handle)
    (λ w is. let long = length_handle 1 in omega (arith, long, ap length is)) (mount_ok_is (handle_of 1) (let long = length_handle 1 in omega (arith, long))))
mounted_read false =
    failed_is mount_status_number mount_statuses mount_status_not_ok each_mount_status mount_status_fits mount_ok_codec void mount_status.Noent tt (λ (w : MountOk). IsHandle w.handle) void_any

mount_has : (r : Result (StatusUnion MountOk (Unit {0}) MountStatus) ClientEnd) (w : StatusUnion MountOk (Unit {0}) MountStatus) → r ≡ Ok w → UnionIs (λ (v : MountOk). IsHandle v.handle) w
    → HasResults IsHandle (handle_in (mount_done r))
mount_has r (Done d) is holds = subst (λ (x : Result (StatusUnion MountOk (Unit {0}) MountStatus) ClientEnd). HasResults IsHandle (handle_in (mount_done x))) (sym is) holds
mount_has r (Failed status part) is holds = subst (λ (x : Result (StatusUnion MountOk (Unit {0}) MountStatus) ClientEnd). HasResults IsHandle (handle_in (mount_done x))) (sym is) tt

pub mount_lem : MountRepliesAreRead
mount_lem s uid gid export o ids of =
    subst (λ (x : Outcome). HasResults IsHandle (mnt_result x)) (sym of.is)
    (by (mnt_replied s uid gid of.xid ids of.fits (encodings (mnt_args_codec.items (record { dirpath = export }))) of.journal of.place of.moment of.reply of.replied))
  where
    by : (of.reply ≡ garbage of.xid) ⊎ ((a : MountArguments mount.Mnt) × (of.reply ≡ results_reply of.xid (mount_results_codec mount.Mnt) (mount_results s.parameters.export mount.Mnt a)))
        → HasResults IsHandle (handle_in (mount_done (result_of_reply mnt_res_codec of.reply)))
    by (inl is) =
        subst (λ (r : Result (StatusUnion MountOk (Unit {0}) MountStatus) ClientEnd). HasResults IsHandle (handle_in (mount_done r)))
        (sym (ap (λ (l : List ℕ). result_of_reply mnt_res_codec l) is ∙ garbage_read of.xid of.fits mnt_res_codec)) tt
    by (inr (a, is)) =
        let read = results_read of.xid of.fits mnt_res_codec (mount_results s.parameters.export mount.Mnt a) (UnionIs (λ (w : MountOk). IsHandle w.handle)) (mounted_read (pointwise nat_eq a.dirpath s.parameters.export)) in
        mount_has (result_of_reply mnt_res_codec of.reply) read.0 (ap (λ (l : List ℕ). result_of_reply mnt_res_codec l) is ∙ read.1.0) read.1.1
