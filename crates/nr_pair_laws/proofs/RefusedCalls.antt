-- What a client reads of the plain server's refusal of a LOOKUP and a READ, and of the attributes of a file.
use Rattle.std.proofs.Common.{◌≡◌, ℕ, ◌<◌, ◌≤◌, ◌^◌, Bool, true, false, cond, List, length, take, Option, None, Some, Result, Ok, Err, refl, ap, sym, ◌∙◌, subst, arith, eqb-true}
use Rattle.nr_xdr.specs.Items.{encodings}
use Rattle.nr_xdr.specs.Reading.{Cursor}
use Rattle.nr_nfs_base.specs.Attributes.{attributes_codec}
use Rattle.nr_nfs_base.specs.Codec.{Codec, arm_value, optional, void}
use Rattle.nr_nfs_base.specs.Limits.{handle_max, name_length_max, transfer_max}
use Rattle.nr_nfs_base.specs.Status.{each_status, status_not_ok, status_number, statuses}
use Rattle.nr_nfs_base.specs.StatusUnion.{status_union_codec}
use Rattle.nr_nfs_base.specs.declared.attributes.Attributes.{Attributes}
use Rattle.nr_nfs_base.specs.declared.procedure.NfsProcedure.TheVariants as nfs
use Rattle.nr_nfs_base.specs.declared.status.Status.{Status}
use Rattle.nr_nfs_base.specs.declared.status_union.StatusUnion.{StatusUnion}
use Rattle.nr_nfs_base.specs.declared.status_union.StatusUnion.TheVariants.{Done, Failed}
use Rattle.nr_nfs_args.specs.Attributes.{getattr_args_codec}
use Rattle.nr_nfs_args.specs.Bytes.{read_args_codec}
use Rattle.nr_nfs_args.specs.Lookup.{lookup_args_codec}
use Rattle.nr_nfs_args.specs.declared.attributes.GetattrArgs.{GetattrArgs}
use Rattle.nr_nfs_args.specs.declared.bytes.ReadArgs.{ReadArgs}
use Rattle.nr_nfs_args.specs.declared.lookup.LookupArgs.{LookupArgs}
use Rattle.nr_nfs_res.specs.Bytes.{read_ok_codec}
use Rattle.nr_nfs_res.specs.Lookup.{lookup_ok_codec}
use Rattle.nr_nfs_res.specs.Results.{nfs_result}
use Rattle.nr_nfs_res.specs.declared.bytes.ReadOk.{ReadOk}
use Rattle.nr_nfs_res.specs.declared.lookup.LookupOk.{LookupOk}
use Rattle.nr_reduce.specs.declared.call.Outcome.{Outcome}
use Rattle.nr_reduce.specs.declared.call.Outcome.TheVariants as outcomes
use Rattle.nr_reduce.specs.declared.mark.Entry.{Entry}
use Rattle.nr_tree.specs.Rules.{node_of_handle}
use Rattle.nr_tree.specs.Tree.{Tree}
use Rattle.nr_tree.specs.declared.node.Content.TheVariants.{Regular}
use Rattle.nr_tree.specs.declared.node.Node.{Node}
use Rattle.nr_plain.specs.Journal.{tree_at}
use Rattle.nr_plain.specs.Replies.{Answer, results_reply}
use Rattle.nr_plain.specs.Setup.{Setup}
use Rattle.nr_plain.proofs.SaneTrees.{tree_sane}
use Rattle.nr_client.specs.declared.client_end.ClientEnd.{ClientEnd}
use Rattle.nr_client.specs.declared.client_end.ClientEnd.TheVariants as client
use Rattle.nr_client.specs.Reading.{checked_read, is_bad_read, read_call, read_result, results_offset}
use Rattle.nr_client.specs.Requests.{getattr_call, getattr_result, lookup_call, lookup_result, nfs_reads}
use Rattle.nr_client.specs.Results.{nfs_done}
use Rattle.nr_client.specs.Walking.{object_in, object_result}
use Rattle.nr_reply_laws.specs.Replies.{AnyValue, AreIds, HasResults, IsPlainReplyTo, IsRefusal}
use Rattle.nr_reply_laws.proofs.Decoding.{Any, IsRead, union_from, weaker}
use Rattle.nr_reply_laws.proofs.Procedures.{status_fits}
use Rattle.nr_reply_laws.proofs.Replies.{read_lem}
use Rattle.nr_reply_laws.proofs.Values.{attributes_any, lookup_ok_is, read_ok_is, some_attributes}
use Rattle.nr_pair_laws.specs.Pairs.{IsAnsweredAt}
use Rattle.nr_pair_laws.specs.RefusedCalls.{GetsAreRefusedForRights, command_caller}
use Rattle.nr_pair_laws.specs.FilesAt.{handle_along}
use Rattle.nr_pair_laws.specs.PutThenGet.{root_handle}
use Rattle.nr_pair_laws.proofs.AtPlace.{answered_at, results_at}
use Rattle.nr_pair_laws.proofs.Calls.{getattr_args_read, lookup_args_read, read_args_read, same_outcome}
use Rattle.nr_pair_laws.proofs.ReadBack.{results_read}
use Rattle.nr_pair_laws.proofs.Kept.{file_kept, kept}
use Rattle.nr_pair_laws.proofs.Paths.{content_node}
use Rattle.nr_pair_laws.proofs.Refusals.{files_refuse_for_rights_lem, found_in_node, name_long, next_leads, node_there}
use Rattle.nr_pair_laws.proofs.Results.{lookup_short, read_short}

-- ---- Results that are read

-- these have this status, or are a success
abbrev FailsWith : {D F : Type 0} → Status → StatusUnion D F Status → Type 0
FailsWith s (Done d) = ⊥
FailsWith s (Failed status part) = status ≡ s

abbrev IsSuccess : {D F : Type 0} → StatusUnion D F Status → Type 0
IsSuccess (Done d) = Unit {0}
IsSuccess (Failed status part) = ⊥

-- what a client makes of results
abbrev Reads : {D F : Type 0} → Result (StatusUnion D F Status) ClientEnd → Result D ClientEnd → Type 0
Reads read result = nfs_done read ≡ result

module _ (xid : ℕ) (xid_fits : xid < 2 ^ 32) {D F : Type 0} (done : Codec D) (failed : Codec F) where
  failure_items : (s : Status) (part : F) → IsRead failed (failed.items part) Any → IsRead (nfs_result done failed) ((nfs_result done failed).items (Failed s part)) (FailsWith s)
  unfolding status_union_codec
  failure_items s part reads =
      union_from status_number statuses status_not_ok each_status status_fits done failed (Some s) (failed.items part) (FailsWith s)
      (λ place rest. let f = reads.at place rest in record { value = Failed s f.value; after = f.after; is = ap (λ (r : Result (F × Cursor) ℕ). arm_value {B = StatusUnion D F Status} (Failed s) r) f.is; holds = refl })

  success_items : (d : D) → IsRead done (done.items d) Any → IsRead (nfs_result done failed) ((nfs_result done failed).items (Done d)) IsSuccess
  unfolding status_union_codec
  success_items d reads =
      union_from status_number statuses status_not_ok each_status status_fits done failed None (done.items d) IsSuccess
      (λ place rest. let f = reads.at place rest in record { value = Done f.value; after = f.after; is = ap (λ (r : Result (D × Cursor) ℕ). arm_value {B = StatusUnion D F Status} Done r) f.is; holds = tt })

  -- what is read of a success is a value
  success_read : (d : D) → IsRead done (done.items d) Any → (w : D) × (nfs_reads done failed (outcomes.Reply (results_reply xid (nfs_result done failed) (Done d))) ≡ Ok w)
  success_read d reads =
      let r = results_read xid xid_fits (nfs_result done failed) (Done d) IsSuccess (success_items d reads) in
      let b = by r.0 r.1.1 in
      (b.0, ap (λ (x : Result (StatusUnion D F Status) ClientEnd). nfs_done x) r.1.0 ∙ b.1)
    where
      by : (v : StatusUnion D F Status) → IsSuccess v → (w : D) × Reads (Ok v) (Ok w)
      by (Done w) holds = (w, refl)
      by (Failed status part) holds = absurd holds

  -- no value is read of a failure with this status alone
  failure_read : (s : Status) (part : F) → IsRead failed (failed.items part) Any → nfs_reads done failed (outcomes.Reply (results_reply xid (nfs_result done failed) (Failed s part))) ≡ Err (client.Nfs s)
  failure_read s part reads =
      let r = results_read xid xid_fits (nfs_result done failed) (Failed s part) (FailsWith s) (failure_items s part reads) in
      ap (λ (x : Result (StatusUnion D F Status) ClientEnd). nfs_done x) r.1.0 ∙ by r.0 r.1.1
    where
      by : (v : StatusUnion D F Status) → FailsWith s v → Reads (Ok v) (Err (client.Nfs s))
      by (Done w) holds = absurd holds
      by (Failed status rest) holds = ap (λ (k : Status). Err (client.Nfs k)) holds

  -- results of which a client reads no value
  failed_with : (results : StatusUnion D F Status) (end : ClientEnd) → ((d : D) → results ≡ Done d → IsRead done (done.items d) Any) → ((part : F) → IsRead failed (failed.items part) Any)
      → nfs_reads done failed (outcomes.Reply (results_reply xid (nfs_result done failed) results)) ≡ Err end → (s : Status) × ((part : F) × ((results ≡ Failed s part) × (end ≡ client.Nfs s)))
  failed_with (Done d) end of_done of_failed e =
      let w = success_read d (of_done d refl) in
      absurd (let wrong : Ok w.0 ≡ Err end = sym w.1 ∙ e in cc)
  failed_with (Failed s part) end of_done of_failed e =
      let same : Err end ≡ Err (client.Nfs s) = sym e ∙ failure_read s part (of_failed part) in
      (s, (part, (refl, (let is : end ≡ client.Nfs s = cc in is))))

-- ---- The calls of a `get`

-- the results of a READ, whatever their data
abbrev data_read : Outcome → Result ReadOk ClientEnd
data_read = nfs_reads read_ok_codec (optional attributes_codec)

no_object : (r : Result LookupOk ClientEnd) (end : ClientEnd) → object_in r ≡ Err end → r ≡ Err end
no_object (Ok found) end e = absurd cc
no_object (Err why) end e = let same : why ≡ end = cc in ap (λ (w : ClientEnd). Err w) same

module _ (s : Setup) (J : List Entry) (uid gid : ℕ) (ids : AreIds uid gid) (place : ℕ) where
  lookup_fails : (dir name : List ℕ) (o : Outcome) → length dir ≤ handle_max → length name ≤ name_length_max → (a : IsAnsweredAt s J (lookup_call uid gid dir name) o place) → (end : ClientEnd) → object_result o ≡ Err end
      → (status : Status) × ((part : Option Attributes) × ((results_at s uid gid nfs.Lookup (encodings (lookup_args_codec.items (record { dir = dir; name = name }))) (record { dir = dir; name = name }) J place a.moment ≡ Failed status part)
      × (end ≡ client.Nfs status)))
  lookup_fails dir name o short few a end e =
      let v : LookupArgs = record { dir = dir; name = name } in
      let args : List ℕ = encodings (lookup_args_codec.items v) in
      let both = answered_at s uid gid a.xid ids a.fits nfs.Lookup args v J place a.moment a.reply (lookup_args_read dir name short few) a.at.replied in
      failed_with a.xid a.fits lookup_ok_codec (optional attributes_codec) (results_at s uid gid nfs.Lookup args v J place a.moment) end
      (λ d same. weaker lookup_ok_codec (lookup_ok_codec.items d) (λ w. w.object ≡ d.object) Any (λ w is. tt) (lookup_ok_is d (lookup_short (tree_at s J place) (command_caller uid gid) v d same))) some_attributes
      (same_outcome lookup_result o a.reply _ (Err end) a.is (ap (λ (x : Answer). x.reply) both) (no_object (lookup_result o) end e))

  getattr_gives : (file : List ℕ) (o : Outcome) → length file ≤ handle_max → (a : IsAnsweredAt s J (getattr_call uid gid file) o place) → (d : Attributes)
      → results_at s uid gid nfs.Getattr (encodings (getattr_args_codec.items (record { object = file }))) (record { object = file }) J place a.moment ≡ Done d → (w : Attributes) × (getattr_result o ≡ Ok w)
  getattr_gives file o short a d done =
      let v : GetattrArgs = record { object = file } in
      let args : List ℕ = encodings (getattr_args_codec.items v) in
      let both = answered_at s uid gid a.xid ids a.fits nfs.Getattr args v J place a.moment a.reply (getattr_args_read file short) a.at.replied in
      let w = success_read a.xid a.fits attributes_codec void d (attributes_any d) in
      let reply : a.reply ≡ results_reply a.xid (nfs_result attributes_codec void) (Done d) =
      ap (λ (x : Answer). x.reply) both ∙ ap (λ (r : StatusUnion Attributes (Unit {0}) Status). results_reply a.xid (nfs_result attributes_codec void) r) done in
      (w.0, ap getattr_result a.is ∙ ap (λ (l : List ℕ). getattr_result (outcomes.Reply l)) reply ∙ w.1)

  read_fails : (file : List ℕ) (offset count : ℕ) (o : Outcome) → length file ≤ handle_max → offset < 2 ^ 64 → 0 < count → count ≤ transfer_max → (a : IsAnsweredAt s J (read_call uid gid file offset count) o place)
      → (end : ClientEnd) → read_result count o ≡ Err end
      → (status : Status) × ((part : Option Attributes) × ((results_at s uid gid nfs.Read (encodings (read_args_codec.items (record { file = file; offset = offset; count = count }))) (record { file = file; offset = offset; count = count }) J place a.moment ≡ Failed status part)
      × (end ≡ client.Nfs status)))
  read_fails file offset count o short at some few a end e =
      let v : ReadArgs = record { file = file; offset = offset; count = count } in
      let args : List ℕ = encodings (read_args_codec.items v) in
      let both = answered_at s uid gid a.xid ids a.fits nfs.Read args v J place a.moment a.reply (read_args_read file offset count short at (omega (arith, few))) a.at.replied in
      failed_with a.xid a.fits read_ok_codec (optional attributes_codec) (results_at s uid gid nfs.Read args v J place a.moment) end
      (λ d same. weaker read_ok_codec (read_ok_codec.items d) (λ w. (w.bytes ≡ d.bytes) × (w.eof ≡ d.eof)) Any (λ w is. tt) (read_ok_is d (let cut = read_short (tree_at s J place) (command_caller uid gid) v d same in omega (arith, cut)))) some_attributes
      (same_outcome data_read o a.reply _ (Err end) a.is (ap (λ (x : Answer). x.reply) both) (by (data_read o) refl e))
    where
      plain : IsPlainReplyTo s (read_call uid gid file offset count) o
      plain = record { xid = a.xid; fits = a.fits; journal = take place J; place = length (take place J); moment = a.moment; reply = a.reply; is = a.is; replied = a.at.replied }

      refusal : (r : Result ReadOk ClientEnd) → r ≡ Err end → HasResults AnyValue r → IsRefusal end
      refusal (Ok w) is has = absurd cc
      refusal (Err why) is has = let same : why ≡ end = cc in subst IsRefusal same has

      not_bad : (b : Bool) (w : ReadOk) (at : ℕ) (reason : ℕ) → cond b (Err (client.BadReply at reason)) (Ok w) ≡ Err end → IsRefusal end → ⊥
      not_bad true w at reason is refused = let same : client.BadReply at reason ≡ end = cc in absurd (subst IsRefusal (sym same) refused)
      not_bad false w at reason is refused = absurd cc

      by : (r : Result ReadOk ClientEnd) → data_read o ≡ r → checked_read count (results_offset o) r ≡ Err end → data_read o ≡ Err end
      by (Ok w) same is = absurd (not_bad (is_bad_read count w) w _ _ is (refusal (read_result count o) e (read_lem s uid gid file offset count o short some few ids plain)))
      by (Err why) same is = let ends : why ≡ end = cc in same ∙ ap (λ (x : ClientEnd). Err x) ends

-- a handle that leads somewhere has eight bytes
pub handle_long : (t : Tree) (h : List ℕ) (v : Node) → node_of_handle t h ≡ Some v → length h ≤ handle_max
handle_long t h v is = let same = eqb-true (length h) 8 (node_there t h v is) in omega (arith, same)

pub gets_are_refused_for_rights_lem : GetsAreRefusedForRights
gets_are_refused_for_rights_lem s J uid gid names bytes from place h sane ids rises keeps =
    let t = tree_at s J place in
    let refuses = files_refuse_for_rights_lem s J names bytes from place h sane rises keeps in
    let there = file_kept root_handle names (tree_at s J from) t h.file (Regular bytes) (kept s J root_handle names from place rises keeps) h.leads h.holds in
    let node = content_node t h.file (Regular bytes) there.1 in
    let short = handle_long t h.file node.0 node.1.0 in
    record {
      lookups = λ before after name dir is leads o a end e.
          let g = next_leads t before after name dir h.file leads (subst (λ (l : List (List ℕ)). handle_along t root_handle l ≡ Some h.file) (sym is) there.0) in
          let f = found_in_node t dir name g.0 g.1 in
          let long = name_long t dir name f.0 f.1.1.0 (tree_sane s J place sane) f.1.0 f.1.1.1 in
          let fails = lookup_fails s J uid gid ids place dir name o (handle_long t dir f.0 f.1.0) long a end e in
          (fails.0, (fails.1.1.1, refuses.lookups before after name dir is leads (command_caller uid gid) fails.0 fails.1.0 fails.1.1.0));
      getattr = λ o a. getattr_gives s J uid gid ids place h.file o short a refuses.getattr.0 refuses.getattr.1;
      reads = λ offset count at some few o a end e.
          let fails = read_fails s J uid gid ids place h.file offset count o short at some few a end e in
          let why = refuses.reads (command_caller uid gid) (record { file = h.file; offset = offset; count = count }) fails.0 fails.1.0 refl fails.1.1.0 in
          (fails.1.1.1 ∙ ap (λ (k : Status). client.Nfs k) why.0, why.1);
    }
