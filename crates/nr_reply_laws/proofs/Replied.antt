-- What the plain server replies to a call of a client, and what is read of such a reply.
use Rattle.std.proofs.Common.{◌≡◌, ℕ, ◌<◌, ◌^◌, List, [], ◌++◌, length, take, drop, Option, Some, Result, Ok, Err, inl, inr, refl, sym, ap, subst, ◌∙◌, arith, append-nil}
use Rattle.std.specs.Prelude.{◌⊎◌}
use Rattle.std.specs.Option.{option_map}
use Rattle.std.proofs.lemmas.List.{drop_at}
use Rattle.nr_xdr.specs.Items.{encodings}
use Rattle.nr_xdr.specs.Reading.{Cursor}
use Rattle.nr_xdr.specs.Sequencing.{◌>>=◌}
use Rattle.nr_xdr.proofs.Chains.{standing}
use Rattle.nr_rpc.specs.Call.{call_again, call_head}
use Rattle.nr_rpc.specs.Reading.{call_of}
use Rattle.nr_rpc.specs.Reply.{reply_head}
use Rattle.nr_rpc.specs.declared.cred.Cred.{Cred}
use Rattle.nr_rpc.specs.declared.cred.Cred.TheVariants as creds
use Rattle.nr_rpc.specs.declared.head.CallHead.{CallHead}
use Rattle.nr_rpc.specs.declared.head.CallHead.TheVariants as heads
use Rattle.nr_rpc.specs.declared.head.ReplyHead.{ReplyHead}
use Rattle.nr_rpc.proofs.Calls.{call_written}
use Rattle.nr_rpc.proofs.FittingCredentials.{sys_fit}
use Rattle.nr_rpc.proofs.Replies.{reply_written}
use Rattle.nr_nfs_base.specs.Codec.{Codec, read_all, value_at_end}
use Rattle.nr_nfs_base.specs.Procedures.{each_mount_procedure, each_nfs_procedure, mount_procedure_number, mount_program, mount_version, nfs_procedure_number, nfs_program, nfs_version}
use Rattle.nr_nfs_base.specs.Status.{status_number, statuses}
use Rattle.nr_nfs_base.specs.StatusUnion.{status_union_codec}
use Rattle.nr_nfs_base.specs.declared.caller.Caller.{Caller}
use Rattle.nr_nfs_base.specs.declared.procedure.MountProcedure.{MountProcedure}
use Rattle.nr_nfs_base.specs.declared.procedure.MountProcedure.TheVariants as mount
use Rattle.nr_nfs_base.specs.declared.procedure.NfsProcedure.{NfsProcedure}
use Rattle.nr_nfs_base.specs.declared.procedure.NfsProcedure.TheVariants as nfs
use Rattle.nr_nfs_base.specs.declared.status.Status.{Status}
use Rattle.nr_nfs_base.specs.declared.status_union.StatusUnion.{StatusUnion}
use Rattle.nr_nfs_base.specs.declared.status_union.StatusUnion.TheVariants.{Done, Failed}
use Rattle.nr_nfs_base.specs.declared.time.Time.{Time}
use Rattle.nr_nfs_args.specs.Arguments.{MountArguments, NfsArguments, mount_arguments_codec, nfs_arguments_codec}
use Rattle.nr_nfs_res.specs.Results.{mount_results_codec, nfs_results_codec}
use Rattle.nr_outside.specs.declared.moment.Moment.{Moment}
use Rattle.nr_reduce.specs.declared.call.Outcome.TheVariants as outcomes
use Rattle.nr_reduce.specs.declared.mark.Entry.{Entry}
use Rattle.nr_reduce.specs.ClientState.{call_payload}
use Rattle.nr_tree.specs.Sane.{IsSane}
use Rattle.nr_tree.specs.Tree.{Tree}
use Rattle.nr_tree.specs.declared.rules.Space.{Space}
use Rattle.nr_plain.specs.Journal.{state_of}
use Rattle.nr_plain.specs.Programs.{mount_results, nfs_results}
use Rattle.nr_plain.specs.Replies.{Answer, accepted, answer_by, answer_to, mount_by_arguments, mount_by_procedure, mount_call, nfs_by_arguments, nfs_by_procedure, nfs_call, plain_reply, refusal, results_reply}
use Rattle.nr_plain.specs.Setup.{Setup, State, caller_of, space_of, time_of}
use Rattle.nr_plain.proofs.SaneTrees.{tree_sane}
use Rattle.nr_client.specs.declared.client_end.ClientEnd.{ClientEnd}
use Rattle.nr_client.specs.declared.client_end.ClientEnd.TheVariants as client
use Rattle.nr_client.specs.declared.client_end.RpcKind.TheVariants as kinds
use Rattle.nr_client.specs.Requests.{client_call, machine, nfs_reads}
use Rattle.nr_client.specs.Results.{nfs_done, result_by_reading, result_of_reply, results_or}
use Rattle.nr_reply_laws.specs.Replies.{AreIds, HasResults}
use Rattle.nr_reply_laws.proofs.Decoding.{IsRead, UnionIs}

-- ---- The server

abbrev pub garbage : ℕ → List ℕ
garbage xid = (refusal (accepted xid 4)).reply

-- A procedure of NFS was executed with these arguments over a tree, which is sane if the first one is.
pub record IsExecuted (s : Setup) (xid : ℕ) (p : NfsProcedure) (args reply : List ℕ) : Type 0 where
  pub tree : Tree
  pub sane : IsSane s.tree → IsSane tree
  pub caller : Caller
  pub space : Space
  pub now : Time
  pub arguments : NfsArguments p
  pub read : read_all (nfs_arguments_codec p) args ≡ Ok arguments
  pub is : reply ≡ results_reply xid (nfs_results_codec p) (nfs_results tree caller space now p arguments)

same_reply : (a : Answer) (reply : List ℕ) → option_map (λ (x : Answer). x.reply) (Some a) ≡ Some reply → reply ≡ a.reply
same_reply a reply e = let is : Some a.reply ≡ Some reply = e in cc

module _ (s : Setup) (uid gid xid : ℕ) (ids : AreIds uid gid) (xid_fits : xid < 2 ^ 32) where
  cred : Cred
  cred = creds.Sys 0 machine uid gid []

  head_len : (prog vers proc : ℕ) → ℕ
  head_len prog vers proc = length (call_head (heads.Version2 xid prog vers proc (creds.Sys 0 machine uid gid []) 0))

  -- the head of a call is read, and its arguments come after it
  answered : (prog vers proc : ℕ) (args : List ℕ) (entries : List Entry) (k : ℕ) (m : Moment) (reply : List ℕ) → prog < 2 ^ 32 → vers < 2 ^ 32 → proc < 2 ^ 32
      → plain_reply s entries k m (call_payload xid (client_call prog vers proc uid gid args)) ≡ Some reply
      → reply ≡ (answer_to s.parameters (state_of s (take k entries)) m (call_payload xid (client_call prog vers proc uid gid args)) (heads.Version2 xid prog vers proc (creds.Sys 0 machine uid gid []) (head_len prog vers proc))).reply
  unfolding call_payload head_len
  answered prog vers proc args entries k m reply prog_fits vers_fits proc_fits e =
      let payload = call_payload xid (client_call prog vers proc uid gid args) in
      let head : CallHead = heads.Version2 xid prog vers proc (creds.Sys 0 machine uid gid []) 0 in
      let fits = sys_fit 0 machine uid gid [] (omega arith) (omega arith) ids.uid_fits ids.gid_fits (omega arith) (λ i. omega arith) in
      let read : call_of payload ≡ Ok (call_again head) = call_written head args (omega arith, omega arith) (xid_fits, prog_fits, vers_fits, proc_fits, fits) in
      same_reply (answer_to s.parameters (state_of s (take k entries)) m payload (call_again head)) reply
      (ap (λ (r : Result CallHead ℕ). option_map (λ (x : Answer). x.reply) (answer_by s.parameters (state_of s (take k entries)) m payload r)) (sym read) ∙ e)

  arguments_are : (prog vers proc : ℕ) (args : List ℕ) → drop (head_len prog vers proc) (call_payload xid (client_call prog vers proc uid gid args)) ≡ args
  unfolding call_payload head_len
  arguments_are prog vers proc args = drop_at (call_head (heads.Version2 xid prog vers proc (creds.Sys 0 machine uid gid []) 0)) args (head_len prog vers proc) refl

  -- ---- NFS

  by_arguments : (p : NfsProcedure) (t : State) (e : Entry) (reply : List ℕ) → (IsSane s.tree → IsSane t.tree) → (r : Result (NfsArguments p) ℕ) → read_all (nfs_arguments_codec p) e.args ≡ r
      → reply ≡ (nfs_by_arguments s.parameters t xid e p r).reply → (reply ≡ garbage xid) ⊎ IsExecuted s xid p e.args reply
  by_arguments p t e reply sane (Ok a) read is = inr (record { tree = t.tree; sane = sane; caller = caller_of e.cred; space = space_of s.parameters t e.args; now = time_of e.moment; arguments = a; read = read; is = is })
  by_arguments p t e reply sane (Err at) read is = inl is

  procedure_fits : (p : NfsProcedure) → nfs_procedure_number p < 2 ^ 32
  procedure_fits nfs.Null = omega arith
  procedure_fits nfs.Getattr = omega arith
  procedure_fits nfs.Setattr = omega arith
  procedure_fits nfs.Lookup = omega arith
  procedure_fits nfs.Access = omega arith
  procedure_fits nfs.Readlink = omega arith
  procedure_fits nfs.Read = omega arith
  procedure_fits nfs.Write = omega arith
  procedure_fits nfs.Create = omega arith
  procedure_fits nfs.Mkdir = omega arith
  procedure_fits nfs.Symlink = omega arith
  procedure_fits nfs.Mknod = omega arith
  procedure_fits nfs.Remove = omega arith
  procedure_fits nfs.Rmdir = omega arith
  procedure_fits nfs.Rename = omega arith
  procedure_fits nfs.Link = omega arith
  procedure_fits nfs.Readdir = omega arith
  procedure_fits nfs.Readdirplus = omega arith
  procedure_fits nfs.Fsstat = omega arith
  procedure_fits nfs.Fsinfo = omega arith
  procedure_fits nfs.Pathconf = omega arith
  procedure_fits nfs.Commit = omega arith

  pub nfs_replied : (p : NfsProcedure) (args : List ℕ) (entries : List Entry) (k : ℕ) (m : Moment) (reply : List ℕ)
      → plain_reply s entries k m (call_payload xid (client_call nfs_program nfs_version (nfs_procedure_number p) uid gid args)) ≡ Some reply → (reply ≡ garbage xid) ⊎ IsExecuted s xid p args reply
  unfolding nfs_call
  nfs_replied p args entries k m reply e =
      let payload = call_payload xid (client_call nfs_program nfs_version (nfs_procedure_number p) uid gid args) in
      let t = state_of s (take k entries) in
      let entry_with : List ℕ → Entry = λ l. record { moment = m; cred = creds.Sys 0 machine uid gid []; proc = nfs_procedure_number p; args = l } in
      let is = answered nfs_program nfs_version (nfs_procedure_number p) args entries k m reply (omega arith) (omega arith) (procedure_fits p) e in
      let known : reply ≡ (nfs_by_arguments s.parameters t xid (entry_with args) p (read_all (nfs_arguments_codec p) args)).reply =
      is
      ∙ ap (λ (o : Option NfsProcedure). (nfs_by_procedure s.parameters t xid (entry_with (drop (head_len nfs_program nfs_version (nfs_procedure_number p)) payload)) o).reply) (each_nfs_procedure p)
      ∙ ap (λ (l : List ℕ). (nfs_by_arguments s.parameters t xid (entry_with l) p (read_all (nfs_arguments_codec p) l)).reply) (arguments_are nfs_program nfs_version (nfs_procedure_number p) args) in
      by_arguments p t (entry_with args) reply (tree_sane s entries k) (read_all (nfs_arguments_codec p) args) refl known

  -- ---- MNT

  mnt_by_arguments : (reply args : List ℕ) (r : Result (MountArguments mount.Mnt) ℕ) → reply ≡ (mount_by_arguments s.parameters xid mount.Mnt r).reply
      → (reply ≡ garbage xid) ⊎ ((a : MountArguments mount.Mnt) × (reply ≡ results_reply xid (mount_results_codec mount.Mnt) (mount_results s.parameters.export mount.Mnt a)))
  mnt_by_arguments reply args (Ok a) is = inr (a, is)
  mnt_by_arguments reply args (Err at) is = inl is

  pub mnt_replied : (args : List ℕ) (entries : List Entry) (k : ℕ) (m : Moment) (reply : List ℕ)
      → plain_reply s entries k m (call_payload xid (client_call mount_program mount_version (mount_procedure_number mount.Mnt) uid gid args)) ≡ Some reply
      → (reply ≡ garbage xid) ⊎ ((a : MountArguments mount.Mnt) × (reply ≡ results_reply xid (mount_results_codec mount.Mnt) (mount_results s.parameters.export mount.Mnt a)))
  unfolding mount_call
  mnt_replied args entries k m reply e =
      let payload = call_payload xid (client_call mount_program mount_version (mount_procedure_number mount.Mnt) uid gid args) in
      let is = answered mount_program mount_version (mount_procedure_number mount.Mnt) args entries k m reply (omega arith) (omega arith) (omega arith) e in
      mnt_by_arguments reply args (read_all (mount_arguments_codec mount.Mnt) (drop (head_len mount_program mount_version (mount_procedure_number mount.Mnt)) payload))
      (is ∙ ap (λ (o : Option MountProcedure). (mount_by_procedure s.parameters xid (drop (head_len mount_program mount_version (mount_procedure_number mount.Mnt)) payload) o).reply) (each_mount_procedure mount.Mnt))

-- ---- The client

module _ (xid : ℕ) (xid_fits : xid < 2 ^ 32) where
  pub garbage_read : {A : Type 0} (codec : Codec A) → result_of_reply codec (garbage xid) ≡ Err (client.Rpc kinds.Accept 4)
  garbage_read codec = ap (λ (r : Result ReplyHead ℕ). result_by_reading codec (garbage xid) r) (reply_written (accepted xid 4) [] (λ e. absurd cc) (xid_fits, omega arith))

  -- results that are read completely, with nothing after them
  pub results_read : {A : Type 0} (codec : Codec A) (results : A) (P : A → Type 0) → IsRead codec (codec.items results) P → (v : A) × ((result_of_reply codec (results_reply xid codec results) ≡ Ok v) × P v)
  results_read {A} codec results P reads =
      let bytes = encodings (codec.items results) in
      let head = reply_head (accepted xid 0) in
      let reply = results_reply xid codec results in
      let f = reads.at (length head) [] in
      let there : drop (length head) (head ++ bytes) ≡ bytes ++ [] = drop_at head bytes (length head) refl ∙ sym (append-nil bytes) in (
        f.value,
        (
          ap (λ (r : Result ReplyHead ℕ). result_by_reading codec reply r) (reply_written (accepted xid 0) bytes (λ e. absurd cc) (xid_fits, omega arith))
              ∙ ap (λ (l : List ℕ). results_or (◌>>=◌ {A = A × Cursor} {B = A} (codec.read (standing (length head) l)) value_at_end)) there
              ∙ ap (λ (r : Result (A × Cursor) ℕ). results_or (◌>>=◌ {A = A × Cursor} {B = A} r value_at_end)) f.is,
          f.holds,
        ),
      )

  done_has : {D F : Type 0} (P : D → Type 0) (r : Result (StatusUnion D F Status) ClientEnd) (w : StatusUnion D F Status) → r ≡ Ok w → UnionIs P w → HasResults P (nfs_done r)
  done_has {D} {F} P r (Done d) is holds = subst (λ (x : Result (StatusUnion D F Status) ClientEnd). HasResults P (nfs_done x)) (sym is) holds
  done_has {D} {F} P r (Failed status part) is holds = subst (λ (x : Result (StatusUnion D F Status) ClientEnd). HasResults P (nfs_done x)) (sym is) tt

  pub nfs_garbage : {D F : Type 0} (done : Codec D) (failed : Codec F) (P : D → Type 0) (reply : List ℕ) → reply ≡ garbage xid → HasResults P (nfs_reads done failed (outcomes.Reply reply))
  nfs_garbage {D} {F} done failed P reply is =
      subst (λ (r : Result (StatusUnion D F Status) ClientEnd). HasResults P (nfs_done r))
      (sym (ap (λ (l : List ℕ). result_of_reply (status_union_codec status_number statuses done failed) l) is ∙ garbage_read (status_union_codec status_number statuses done failed))) tt

  pub nfs_read : {D F : Type 0} (done : Codec D) (failed : Codec F) (P : D → Type 0) (reply : List ℕ) (results : StatusUnion D F Status) → reply ≡ results_reply xid (status_union_codec status_number statuses done failed) results
      → IsRead (status_union_codec status_number statuses done failed) ((status_union_codec status_number statuses done failed).items results) (UnionIs P) → HasResults P (nfs_reads done failed (outcomes.Reply reply))
  nfs_read done failed P reply results is reads =
      let codec = status_union_codec status_number statuses done failed in
      let read = results_read codec results (UnionIs P) reads in
      done_has P (result_of_reply codec reply) read.0 (ap (λ (l : List ℕ). result_of_reply codec l) is ∙ read.1.0) read.1.1
