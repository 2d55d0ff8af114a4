-- What a client makes of the plain server's reply to each call of a command, at its place.
use Rattle.std.proofs.Common.{◌≡◌, ℕ, suc, ◌<◌, ◌≤◌, ◌^◌, Bool, true, false, cond, List, [], ◌∷◌, length, take, drop, Option, None, Some, Result, Ok, Err, refl, sym, ap, ◌∙◌, arith}
use Rattle.std.specs.Prelude.{nat_eq}
use Rattle.std.specs.Cmp.Lexicographic.{pointwise}
use Rattle.std.specs.Option.{option_map}
use Rattle.std.proofs.lemmas.List.{drop_at}
use Rattle.std.proofs.lemmas.Option.{same_Some}
use Rattle.nr_xdr.specs.Items.{encodings}
use Rattle.nr_rpc.specs.Call.{call_again, call_head}
use Rattle.nr_rpc.specs.declared.cred.Cred.TheVariants as creds
use Rattle.nr_rpc.specs.declared.head.CallHead.{CallHead}
use Rattle.nr_rpc.specs.declared.head.CallHead.TheVariants as heads
use Rattle.nr_rpc.specs.Reading.{call_of}
use Rattle.nr_rpc.proofs.Calls.{call_written}
use Rattle.nr_rpc.proofs.FittingCredentials.{sys_fit}
use Rattle.nr_nfs_base.specs.Attributes.{attributes_codec}
use Rattle.nr_nfs_base.specs.Codec.{Codec, optional, read_all, void}
use Rattle.nr_nfs_base.specs.Limits.{handle_max, link_target_max, mount_path_max, name_length_max}
use Rattle.nr_nfs_base.specs.Procedures.{each_mount_procedure, mount_procedure_number, mount_program, mount_version}
use Rattle.nr_nfs_base.specs.WeakCache.{wcc_data_codec}
use Rattle.nr_nfs_base.specs.declared.attributes.Attributes.{Attributes}
use Rattle.nr_nfs_base.specs.declared.caller.Caller.{Caller}
use Rattle.nr_nfs_base.specs.declared.mount_status.MountStatus.{MountStatus}
use Rattle.nr_nfs_base.specs.declared.mount_status.MountStatus.TheVariants as mount_status
use Rattle.nr_nfs_base.specs.declared.procedure.MountProcedure.{MountProcedure}
use Rattle.nr_nfs_base.specs.declared.procedure.MountProcedure.TheVariants as mount
use Rattle.nr_nfs_base.specs.declared.procedure.NfsProcedure.{NfsProcedure}
use Rattle.nr_nfs_base.specs.declared.procedure.NfsProcedure.TheVariants as nfs
use Rattle.nr_nfs_base.specs.declared.status.Status.{Status}
use Rattle.nr_nfs_base.specs.declared.status_union.StatusUnion.{StatusUnion}
use Rattle.nr_nfs_base.specs.declared.status_union.StatusUnion.TheVariants.{Done, Failed}
use Rattle.nr_nfs_base.specs.declared.weak_cache.WccData.{WccData}
use Rattle.nr_nfs_args.specs.Arguments.{MountArguments, NfsArguments, mount_arguments_codec, nfs_arguments_codec}
use Rattle.nr_nfs_args.specs.Attributes.{getattr_args_codec}
use Rattle.nr_nfs_args.specs.Create.{mkdir_args_codec}
use Rattle.nr_nfs_args.specs.Lookup.{lookup_args_codec, readlink_args_codec}
use Rattle.nr_nfs_args.specs.Mount.{mnt_args_codec}
use Rattle.nr_nfs_args.specs.Remove.{remove_args_codec}
use Rattle.nr_nfs_args.specs.Special.{symlink_args_codec}
use Rattle.nr_nfs_args.specs.declared.attributes.GetattrArgs.{GetattrArgs}
use Rattle.nr_nfs_args.specs.declared.lookup.LookupArgs.{LookupArgs}
use Rattle.nr_nfs_args.specs.declared.lookup.ReadlinkArgs.{ReadlinkArgs}
use Rattle.nr_nfs_args.specs.declared.special.SymlinkArgs.{SymlinkArgs}
use Rattle.nr_nfs_res.specs.Create.{create_ok_codec}
use Rattle.nr_nfs_res.specs.Lookup.{lookup_ok_codec, readlink_ok_codec}
use Rattle.nr_nfs_res.specs.Mount.{mount_ok_codec}
use Rattle.nr_nfs_res.specs.Results.{mnt_res_codec, nfs_result}
use Rattle.nr_nfs_res.specs.declared.create.CreateOk.{CreateOk}
use Rattle.nr_nfs_res.specs.declared.lookup.LookupOk.{LookupOk}
use Rattle.nr_nfs_res.specs.declared.lookup.ReadlinkOk.{ReadlinkOk}
use Rattle.nr_nfs_res.specs.declared.mount.MountOk.{MountOk}
use Rattle.nr_outside.specs.declared.moment.Moment.{Moment}
use Rattle.nr_reduce.specs.ClientState.{call_payload}
use Rattle.nr_reduce.specs.declared.call.Outcome.{Outcome}
use Rattle.nr_reduce.specs.declared.call.Outcome.TheVariants as outcomes
use Rattle.nr_reduce.specs.declared.mark.Entry.{Entry}
use Rattle.nr_tree.specs.Replies.{attributes_at, wcc_data}
use Rattle.nr_tree.specs.Rules.{answer, first, handle_of, number_of_handle}
use Rattle.nr_tree.specs.Sane.{IsSane}
use Rattle.nr_ops_dir.specs.Entries.{number_of_entry}
use Rattle.nr_tree.specs.Tree.{Tree}
use Rattle.nr_tree.specs.declared.rules.Space.{Space}
use Rattle.nr_ops_file.specs.Attributes.{getattr_done, getattr_reply, getattr_rules}
use Rattle.nr_ops_file.specs.Links.{readlink_done, readlink_reply, readlink_rules}
use Rattle.nr_ops_file.proofs.PreferredSizes.{file_short}
use Rattle.nr_ops_dir.specs.Creation.{create_ok, mkdir_rules, mkdir_tree, symlink_rules, symlink_tree}
use Rattle.nr_ops_list.specs.Lookup.{lookup_reply}
use Rattle.nr_plain.specs.Added.{entries_by_call, entries_of_call}
use Rattle.nr_plain.specs.Journal.{state_of, tree_at}
use Rattle.nr_plain.specs.Programs.{is_change, mount_results, mounted}
use Rattle.nr_plain.specs.Replies.{Answer, answer_by, entries_if, mount_by_arguments, mount_by_procedure, mount_call, plain_answer, plain_reply, results_reply}
use Rattle.nr_plain.specs.Setup.{Setup, State, caller_of, space_of, time_of}
use Rattle.nr_plain.proofs.Lengths.{length_handle}
use Rattle.nr_plain.proofs.SaneTrees.{tree_sane}
use Rattle.nr_client.specs.declared.client_end.ClientEnd.{ClientEnd}
use Rattle.nr_client.specs.declared.client_end.ClientEnd.TheVariants as client
use Rattle.nr_client.specs.Requests.{create_result, getattr_call, getattr_result, handle_of as handle_in_reply, lookup_call, lookup_result, machine, mkdir_call, mnt_call, mnt_result, nfs_reads, readlink_call, readlink_result, remove_call, remove_result, symlink_call}
use Rattle.nr_client.specs.Results.{mount_done, result_of_reply}
use Rattle.nr_client.specs.Walking.{object_in as object_in_reply, object_result}
use Rattle.nr_reply_laws.specs.Replies.{AreIds}
use Rattle.nr_reply_laws.proofs.Decoding.{Any, IsRead, weaker}
use Rattle.nr_reply_laws.proofs.Values.{create_ok_none, create_ok_some, lookup_ok_is, mount_ok_is, some_attributes, void_any, wcc_any}
use Rattle.nr_pair_laws.specs.FilesAt.{handle_in}
use Rattle.nr_pair_laws.specs.Pairs.{IsAnsweredAt, place_after}
use Rattle.nr_pair_laws.specs.PutThenGet.{root_handle}
use Rattle.nr_pair_laws.specs.ReadResults.{results_there}
use Rattle.nr_pair_laws.proofs.AtPlace.{answered_at, entry_by, nfs_client_call, results_at, tree_after_call, tree_by}
use Rattle.nr_pair_laws.proofs.Results.{answer_done, lookup_found, lookup_short}
use Rattle.nr_text_laws.specs.CommandTexts.{FitFields, link_in, mkdir_of, object_in, remove_of, result_by, silent, stat_in, symlink_of, tree_there}
use Rattle.nr_text_laws.proofs.Encoded.{attributes_text_read, getattr_args_read, lookup_args_read, mkdir_args_read, mnt_args_read, path_text_read, readlink_args_read, remove_args_read, symlink_args_read}
use Rattle.nr_text_laws.proofs.MadeOf.{ReadsAs, made, made_done, mount_made, mount_result_by, nfs_made, reads_as, value_made}
use Rattle.nr_commands.specs.Printed.{attributes_text, path_text}

-- ---- Results of procedures

-- what LOOKUP finds is the handle of the name, which has eight bytes
pub object_found : (t : Tree) (c : Caller) (dir name h : List ℕ) → object_in t c dir name ≡ Ok h → (handle_in t dir name ≡ Some h) × (length h ≡ 8)
object_found t c dir name h is =
    let d = value_made (λ (d : LookupOk). d.object) (lookup_reply t c (record { dir = dir; name = name })) h is in
    let n = lookup_found t c (record { dir = dir; name = name }) d.0 d.1.0 in
    let h_is : h ≡ handle_of n.0 = sym d.1.1 ∙ n.1.1 in
    (ap (λ (p : Option ℕ). option_map handle_of p) n.1.0 ∙ ap (λ (k : List ℕ). Some k) (sym h_is), ap length h_is ∙ length_handle n.0)

handle_short : (n : ℕ) → length (handle_of n) ≤ handle_max
handle_short n = let long = length_handle n in omega (arith, long)

-- the attributes of a success are those of the node
pub got : (t : Tree) (h : List ℕ) (d : Attributes) → getattr_reply t (record { object = h }) ≡ Done d → attributes_at t h ≡ Some d
got t h d is = by (first (getattr_rules t (record { object = h }))) (attributes_at t h) is
  where
    by : (o : Option Status) (p : Option Attributes) → answer {R = StatusUnion Attributes (Unit {0}) Status} o (λ s. Failed s tt) (getattr_done p) ≡ Done d → p ≡ Some d
    by None None e = absurd cc
    by None (Some a) e = let same : a ≡ d = cc in ap (λ (x : Attributes). Some x) same
    by (Some s) p e = absurd cc

link_short : (t : Tree) (h : List ℕ) (d : ReadlinkOk) → IsSane t → readlink_reply t (record { symlink = h }) ≡ Done d → length d.path < 2 ^ 32
link_short t h d sane is =
    let passed = answer_done (first (readlink_rules t (record { symlink = h }))) (λ s. attributes_at t h) (readlink_done t (record { symlink = h })) d is in
    let short = file_short t h None sane in
    let same = ap (λ (x : ReadlinkOk). length x.path) passed.1 in omega (arith, short, same)

created_read : (v : CreateOk) (o : Option ℕ) → v.object ≡ option_map handle_of o → IsRead create_ok_codec (create_ok_codec.items v) Any
created_read v None is = create_ok_none v is
created_read v (Some n) is = weaker create_ok_codec (create_ok_codec.items v) (λ w. w.object ≡ Some (handle_of n)) Any (λ w same. tt) (create_ok_some v (handle_of n) is (handle_short n))

-- of a value nothing is printed
abbrev pub none_of : {D : Type 0} → D → List ℕ
none_of d = []

none_read : {D : Type 0} (done : Codec D) (d : D) → IsRead done (done.items d) Any → IsRead done (done.items d) (λ w. none_of w ≡ none_of d)
none_read done d reads = weaker done (done.items d) Any (λ w. none_of w ≡ none_of d) (λ w is. refl) reads

-- the results of MKDIR and SYMLINK, by their rules and the tree after
new_read : (t new : Tree) (o : Option Status) (dir name : List ℕ) (fail : Status → WccData) → ReadsAs create_ok_codec none_of (answer {R = StatusUnion CreateOk WccData Status} o (λ s. Failed s (fail s)) (Done (create_ok t new dir name)))
new_read t new None dir name fail = none_read create_ok_codec (create_ok t new dir name) (created_read (create_ok t new dir name) (number_of_entry new (number_of_handle dir) name) refl)
new_read t new (Some s) dir name fail = tt

-- the entry of a call, which stands at its place
placed : (J : List Entry) (place : ℕ) (es : List Entry) (e : Entry) → es ≡ e ∷ [] → take (length es) (drop place J) ≡ es → take 1 (drop place J) ≡ e ∷ []
placed J place es e is at = ap (λ (l : List Entry). take (length l) (drop place J)) (sym is) ∙ at ∙ is

object_by : (r : Result LookupOk ClientEnd) → object_in_reply r ≡ made (λ (d : LookupOk). d.object) r
object_by (Ok d) = refl
object_by (Err end) = refl

root_by : (r : Result MountOk ClientEnd) → handle_in_reply r ≡ made (λ (d : MountOk). d.handle) r
root_by (Ok d) = refl
root_by (Err end) = refl

module _ (s : Setup) (J : List Entry) (uid gid : ℕ) (ids : AreIds uid gid) where
  -- what is made of the reply to a call of NFS, whose results are these
  made_there : {A D F : Type 0} (p : NfsProcedure) (args : List ℕ) (o : Outcome) (place : ℕ) (done : Codec D) (failed : Codec F) (make : D → A) (results : StatusUnion D F Status)
      → (a : IsAnsweredAt s J (nfs_client_call uid gid p args) o place) → a.reply ≡ results_reply a.xid (nfs_result done failed) results → ((part : F) → IsRead failed (failed.items part) Any) → ReadsAs done make results
      → made make (nfs_reads done failed o) ≡ result_by make results
  made_there {A} {D} p args o place done failed make results a is fails reads =
      ap (λ (x : Outcome). made make (nfs_reads done failed x)) (a.is ∙ ap (λ (l : List ℕ). outcomes.Reply l) is) ∙ nfs_made a.xid a.fits done failed make results fails reads

  -- the tree after a change that was done
  changed_there : (p : NfsProcedure) (args : List ℕ) (v : NfsArguments p) (o : Outcome) (place : ℕ) (a : IsAnsweredAt s J (nfs_client_call uid gid p args) o place) → read_all (nfs_arguments_codec p) args ≡ Ok v
      → is_change p (results_at s uid gid p args v J place a.moment) ≡ true → tree_at s J (suc place) ≡ tree_by s uid gid p args v J place a.moment
  changed_there p args v o place a read done =
      let both = answered_at s uid gid a.xid ids a.fits p args v J place a.moment a.reply read a.at.replied in
      let entries : entries_of_call a.moment (call_payload a.xid (nfs_client_call uid gid p args)) a.reply ≡ entry_by uid gid a.moment p args ∷ [] =
      ap (λ (x : Answer). x.entries) both ∙ ap (λ (b : Bool). entries_if b (entry_by uid gid a.moment p args)) done in
      tree_after_call s uid gid p args v J place a.moment read (placed J place _ _ entries a.at.entry)

  pub object_there : (dir name : List ℕ) (o : Outcome) (place : ℕ) → length dir ≤ handle_max → length name ≤ name_length_max → (a : IsAnsweredAt s J (lookup_call uid gid dir name) o place)
      → (object_result o ≡ object_in (tree_at s J place) (caller_of (creds.Sys 0 machine uid gid [])) dir name) × (place_after s J (lookup_call uid gid dir name) o place a ≡ place)
  object_there dir name o place short few a =
      let v : LookupArgs = record { dir = dir; name = name } in
      let args : List ℕ = encodings (lookup_args_codec.items v) in
      let both = answered_at s uid gid a.xid ids a.fits nfs.Lookup args v J place a.moment a.reply (lookup_args_read dir name short few) a.at.replied in
      let none = ap (λ (x : Answer). length x.entries) both in (
        object_by (lookup_result o)
            ∙ made_there nfs.Lookup args o place lookup_ok_codec (optional attributes_codec) (λ (d : LookupOk). d.object) (results_at s uid gid nfs.Lookup args v J place a.moment) a (ap (λ (x : Answer). x.reply) both) some_attributes
            (reads_as lookup_ok_codec (λ (d : LookupOk). d.object) (lookup_reply (tree_at s J place) (caller_of (creds.Sys 0 machine uid gid [])) v)
            (λ d same. lookup_ok_is d (lookup_short (tree_at s J place) (caller_of (creds.Sys 0 machine uid gid [])) v d same))),
        omega (arith, none),
      )

  pub stat_there : (file : List ℕ) (o : Outcome) (place : ℕ) → length file ≤ handle_max → ((d : Attributes) → attributes_at (tree_at s J place) file ≡ Some d → FitFields d)
      → IsAnsweredAt s J (getattr_call uid gid file) o place → made attributes_text (getattr_result o) ≡ stat_in (tree_at s J place) file
  stat_there file o place short fit a =
      let v : GetattrArgs = record { object = file } in
      let args : List ℕ = encodings (getattr_args_codec.items v) in
      let both = answered_at s uid gid a.xid ids a.fits nfs.Getattr args v J place a.moment a.reply (getattr_args_read file short) a.at.replied in
      made_there nfs.Getattr args o place attributes_codec void attributes_text (results_at s uid gid nfs.Getattr args v J place a.moment) a (ap (λ (x : Answer). x.reply) both) (λ part. void_any)
      (reads_as attributes_codec attributes_text (getattr_reply (tree_at s J place) v) (λ d same. attributes_text_read d (fit d (got (tree_at s J place) file d same))))

  pub link_there : (file : List ℕ) (o : Outcome) (place : ℕ) → IsSane s.tree → length file ≤ handle_max → IsAnsweredAt s J (readlink_call uid gid file) o place
      → made (λ (d : ReadlinkOk). path_text d.path) (readlink_result o) ≡ link_in (tree_at s J place) file
  link_there file o place sane short a =
      let v : ReadlinkArgs = record { symlink = file } in
      let args : List ℕ = encodings (readlink_args_codec.items v) in
      let both = answered_at s uid gid a.xid ids a.fits nfs.Readlink args v J place a.moment a.reply (readlink_args_read file short) a.at.replied in
      made_there nfs.Readlink args o place readlink_ok_codec (optional attributes_codec) (λ (d : ReadlinkOk). path_text d.path) (results_at s uid gid nfs.Readlink args v J place a.moment) a (ap (λ (x : Answer). x.reply) both) some_attributes
      (reads_as readlink_ok_codec (λ (d : ReadlinkOk). path_text d.path) (readlink_reply (tree_at s J place) v) (λ d same. path_text_read d (link_short (tree_at s J place) file d (tree_sane s J place sane) same)))

  -- ---- Changes: what is made of their results, and the tree after one that was done

  pub remove_there : (at : List ℕ × List ℕ) (o : Outcome) (place : ℕ) → length at.0 ≤ handle_max → length at.1 ≤ name_length_max → (a : IsAnsweredAt s J (remove_call uid gid at.0 at.1) o place)
      → (made none_of (remove_result o) ≡ silent (results_there s J place a.moment uid gid nfs.Remove (remove_of at)))
      × ((text : List ℕ) → silent (results_there s J place a.moment uid gid nfs.Remove (remove_of at)) ≡ Ok text → tree_at s J (suc place) ≡ tree_there s J place a.moment uid gid nfs.Remove (remove_of at))
  remove_there at o place short few a =
      let args : List ℕ = encodings (remove_args_codec.items (remove_of at)) in
      let read = remove_args_read at short few in
      let both = answered_at s uid gid a.xid ids a.fits nfs.Remove args (remove_of at) J place a.moment a.reply read a.at.replied in
      let results : StatusUnion WccData WccData Status = results_there s J place a.moment uid gid nfs.Remove (remove_of at) in (
        made_there nfs.Remove args o place wcc_data_codec wcc_data_codec none_of results a (ap (λ (x : Answer). x.reply) both) wcc_any
            (reads_as wcc_data_codec none_of results (λ d same. none_read wcc_data_codec d (wcc_any d))),
        (λ text done. changed_there nfs.Remove args (remove_of at) o place a read (made_done none_of results text done)),
      )

  pub mkdir_there : (at : List ℕ × List ℕ) (o : Outcome) (place : ℕ) → length at.0 ≤ handle_max → length at.1 ≤ name_length_max → (a : IsAnsweredAt s J (mkdir_call uid gid at.0 at.1) o place)
      → (made none_of (create_result o) ≡ silent (results_there s J place a.moment uid gid nfs.Mkdir (mkdir_of at)))
      × ((text : List ℕ) → silent (results_there s J place a.moment uid gid nfs.Mkdir (mkdir_of at)) ≡ Ok text → tree_at s J (suc place) ≡ tree_there s J place a.moment uid gid nfs.Mkdir (mkdir_of at))
  mkdir_there at o place short few a =
      let args : List ℕ = encodings (mkdir_args_codec.items (mkdir_of at)) in
      let read = mkdir_args_read at short few in
      let both = answered_at s uid gid a.xid ids a.fits nfs.Mkdir args (mkdir_of at) J place a.moment a.reply read a.at.replied in
      let t : Tree = tree_at s J place in
      let c : Caller = caller_of (creds.Sys 0 machine uid gid []) in
      let space : Space = space_of s.parameters (state_of s (take place J)) args in
      let results : StatusUnion CreateOk WccData Status = results_there s J place a.moment uid gid nfs.Mkdir (mkdir_of at) in (
        made_there nfs.Mkdir args o place create_ok_codec wcc_data_codec none_of results a (ap (λ (x : Answer). x.reply) both) wcc_any
            (new_read t (mkdir_tree t c space (time_of a.moment) (mkdir_of at)) (first (mkdir_rules t c space (mkdir_of at))) at.0 at.1 (λ status. wcc_data t t at.0)),
        (λ text done. changed_there nfs.Mkdir args (mkdir_of at) o place a read (made_done none_of results text done)),
      )

  pub symlink_there : (target : List ℕ) (at : List ℕ × List ℕ) (o : Outcome) (place : ℕ) → length target ≤ link_target_max → length at.0 ≤ handle_max → length at.1 ≤ name_length_max
      → (a : IsAnsweredAt s J (symlink_call uid gid at.0 at.1 target) o place)
      → (made none_of (create_result o) ≡ silent (results_there s J place a.moment uid gid nfs.Symlink (symlink_of target at)))
      × ((text : List ℕ) → silent (results_there s J place a.moment uid gid nfs.Symlink (symlink_of target at)) ≡ Ok text
      → tree_at s J (suc place) ≡ tree_there s J place a.moment uid gid nfs.Symlink (symlink_of target at))
  symlink_there target at o place within short few a =
      let v : SymlinkArgs = symlink_of target at in
      let args : List ℕ = encodings (symlink_args_codec.items v) in
      let read = symlink_args_read target at within short few in
      let both = answered_at s uid gid a.xid ids a.fits nfs.Symlink args v J place a.moment a.reply read a.at.replied in
      let t : Tree = tree_at s J place in
      let c : Caller = caller_of (creds.Sys 0 machine uid gid []) in
      let space : Space = space_of s.parameters (state_of s (take place J)) args in
      let results : StatusUnion CreateOk WccData Status = results_there s J place a.moment uid gid nfs.Symlink v in (
        made_there nfs.Symlink args o place create_ok_codec wcc_data_codec none_of results a (ap (λ (x : Answer). x.reply) both) wcc_any
            (new_read t (symlink_tree t c space (time_of a.moment) v) (first (symlink_rules t c space v)) at.0 at.1 (λ status. wcc_data t t at.0)),
        (λ text done. changed_there nfs.Symlink args v o place a read (made_done none_of results text done)),
      )

  -- ---- MNT

  adds_none : (xid : ℕ) → xid < 2 ^ 32 → (export : List ℕ) (m : Moment) (reply : List ℕ) → entries_of_call m (call_payload xid (mnt_call uid gid export)) reply ≡ []
  unfolding call_payload
  adds_none xid xid_fits export m reply =
      let payload = call_payload xid (mnt_call uid gid export) in
      let head : CallHead = heads.Version2 xid mount_program mount_version (mount_procedure_number mount.Mnt) (creds.Sys 0 machine uid gid []) 0 in
      let fits = sys_fit 0 machine uid gid [] (omega arith) (omega arith) ids.uid_fits ids.gid_fits (omega arith) (λ i. omega arith) in
      ap (λ (r : Result CallHead ℕ). entries_by_call m payload reply r)
      (call_written head (encodings (mnt_args_codec.items (record { dirpath = export }))) (omega arith, omega arith) (xid_fits, omega arith, omega arith, omega arith, fits))

  mnt_reply : (xid : ℕ) → xid < 2 ^ 32 → (export : List ℕ) → length export ≤ mount_path_max → (K : List Entry) (k : ℕ) (m : Moment) (reply : List ℕ) → plain_reply s K k m (call_payload xid (mnt_call uid gid export)) ≡ Some reply
      → reply ≡ results_reply xid mnt_res_codec (mount_results s.parameters.export mount.Mnt (record { dirpath = export }))
  unfolding call_payload mount_call
  mnt_reply xid xid_fits export short K k m reply e =
      let args : List ℕ = encodings (mnt_args_codec.items (record { dirpath = export })) in
      let payload = call_payload xid (mnt_call uid gid export) in
      let head : CallHead = heads.Version2 xid mount_program mount_version (mount_procedure_number mount.Mnt) (creds.Sys 0 machine uid gid []) 0 in
      let fits = sys_fit 0 machine uid gid [] (omega arith) (omega arith) ids.uid_fits ids.gid_fits (omega arith) (λ i. omega arith) in
      let st : State = state_of s (take k K) in
      let read : call_of payload ≡ Ok (call_again head) = call_written head args (omega arith, omega arith) (xid_fits, omega arith, omega arith, omega arith, fits) in
      let answered : plain_answer s.parameters st m payload ≡ Some (mount_by_arguments s.parameters xid mount.Mnt (Ok (record { dirpath = export }))) =
      ap (λ (r : Result CallHead ℕ). answer_by s.parameters st m payload r) read
      ∙ ap (λ (o : Option MountProcedure). Some (mount_by_procedure s.parameters xid (drop (length (call_head head)) payload) o)) (each_mount_procedure mount.Mnt)
      ∙ ap (λ (l : List ℕ). Some (mount_by_arguments s.parameters xid mount.Mnt (read_all (mount_arguments_codec mount.Mnt) l))) (drop_at (call_head head) args (length (call_head head)) refl)
      ∙ ap (λ (r : Result (MountArguments mount.Mnt) ℕ). Some (mount_by_arguments s.parameters xid mount.Mnt r)) (mnt_args_read export short) in
      let same : Some reply ≡ Some (results_reply xid mnt_res_codec (mount_results s.parameters.export mount.Mnt (record { dirpath = export }))) =
      sym e ∙ ap (λ (x : Option Answer). option_map (λ (y : Answer). y.reply) x) answered in
      same_Some _ _ same

  abbrev root_results : Bool → StatusUnion MountOk (Unit {0}) MountStatus
  root_results b = cond b (Done mounted) (Failed mount_status.Noent tt)

  root_made : (b : Bool) → mount_result_by (λ (d : MountOk). d.handle) (root_results b) ≡ cond b (Ok root_handle) (Err (client.Mount mount_status.Noent))
  root_made true = refl
  root_made false = refl

  root_reads : (b : Bool) → ReadsAs mount_ok_codec (λ (d : MountOk). d.handle) (root_results b)
  root_reads true = mount_ok_is (handle_of 1) (handle_short 1)
  root_reads false = tt

  pub mount_there : (export : List ℕ) (o : Outcome) (place : ℕ) → length export ≤ mount_path_max → (a : IsAnsweredAt s J (mnt_call uid gid export) o place)
      → (mnt_result o ≡ cond (pointwise nat_eq export s.parameters.export) (Ok root_handle) (Err (client.Mount mount_status.Noent))) × (place_after s J (mnt_call uid gid export) o place a ≡ place)
  mount_there export o place short a =
      let b = pointwise nat_eq export s.parameters.export in
      let none = ap length (adds_none a.xid a.fits export a.moment a.reply) in
      let is = mnt_reply a.xid a.fits export short (take place J) (length (take place J)) a.moment a.reply a.at.replied in (
        ap mnt_result a.is ∙ root_by (mount_done (result_of_reply mnt_res_codec a.reply)) ∙ ap (λ (l : List ℕ). made (λ (d : MountOk). d.handle) (mount_done (result_of_reply mnt_res_codec l))) is
            ∙ mount_made a.xid a.fits mount_ok_codec void (λ (d : MountOk). d.handle) (root_results b) (λ part. void_any) (root_reads b)
            ∙ root_made b,
        omega (arith, none),
      )
