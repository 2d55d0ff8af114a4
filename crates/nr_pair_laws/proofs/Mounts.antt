-- MNT gives the handle of the root, and adds no entry.
use Rattle.std.proofs.Common.{◌≡◌, ℕ, ◌<◌, ◌≤◌, ◌^◌, Bool, true, false, cond, List, [], length, take, Result, Ok, Err, inl, inr, ap, sym, ◌∙◌, arith}
use Rattle.std.specs.Prelude.{◌⊎◌, nat_eq}
use Rattle.std.specs.Cmp.Lexicographic.{pointwise}
use Rattle.nr_xdr.specs.Items.{encodings}
use Rattle.nr_rpc.specs.declared.cred.Cred.TheVariants as creds
use Rattle.nr_rpc.specs.declared.head.CallHead.{CallHead}
use Rattle.nr_rpc.specs.declared.head.CallHead.TheVariants as heads
use Rattle.nr_rpc.proofs.Calls.{call_written}
use Rattle.nr_rpc.proofs.FittingCredentials.{sys_fit}
use Rattle.nr_nfs_base.specs.Codec.{void}
use Rattle.nr_nfs_base.specs.Limits.{handle_max}
use Rattle.nr_nfs_base.specs.MountStatus.{each_mount_status, mount_status_not_ok, mount_status_number, mount_statuses}
use Rattle.nr_nfs_base.specs.Procedures.{mount_procedure_number, mount_program, mount_version}
use Rattle.nr_nfs_base.specs.declared.mount_status.MountStatus.{MountStatus}
use Rattle.nr_nfs_base.specs.declared.mount_status.MountStatus.TheVariants as mount_status
use Rattle.nr_nfs_base.specs.declared.procedure.MountProcedure.TheVariants as mount
use Rattle.nr_nfs_base.specs.declared.status_union.StatusUnion.{StatusUnion}
use Rattle.nr_nfs_base.specs.declared.status_union.StatusUnion.TheVariants.{Done, Failed}
use Rattle.nr_nfs_args.specs.Arguments.{MountArguments}
use Rattle.nr_nfs_args.specs.Mount.{mnt_args_codec}
use Rattle.nr_nfs_res.specs.Mount.{mount_ok_codec}
use Rattle.nr_nfs_res.specs.Results.{mnt_res_codec, mount_results_codec}
use Rattle.nr_nfs_res.specs.declared.mount.MountOk.{MountOk}
use Rattle.nr_outside.specs.declared.moment.Moment.{Moment}
use Rattle.nr_reduce.specs.ClientState.{call_payload}
use Rattle.nr_reduce.specs.declared.call.Outcome.{Outcome}
use Rattle.nr_reduce.specs.declared.mark.Entry.{Entry}
use Rattle.nr_tree.specs.Rules.{handle_of}
use Rattle.nr_plain.specs.Added.{entries_by_call, entries_of_call}
use Rattle.nr_plain.specs.Programs.{mount_results, mounted}
use Rattle.nr_plain.specs.Replies.{results_reply}
use Rattle.nr_plain.specs.Setup.{Setup}
use Rattle.nr_plain.proofs.Lengths.{length_handle}
use Rattle.nr_client.specs.declared.client_end.ClientEnd.{ClientEnd}
use Rattle.nr_client.specs.declared.client_end.ClientEnd.TheVariants as client
use Rattle.nr_client.specs.declared.client_end.RpcKind.TheVariants as kinds
use Rattle.nr_client.specs.Requests.{handle_of as handle_in, machine, mnt_call, mnt_result}
use Rattle.nr_client.specs.Results.{mount_done, result_of_reply}
use Rattle.nr_reply_laws.specs.Replies.{AreIds}
use Rattle.nr_reply_laws.proofs.Decoding.{UnionIs, done_is, failed_is}
use Rattle.nr_reply_laws.proofs.Replied.{garbage, garbage_read, mnt_replied, results_read}
use Rattle.nr_reply_laws.proofs.Replies.{mount_status_fits}
use Rattle.nr_reply_laws.proofs.Values.{mount_ok_is, void_any}
use Rattle.nr_pair_laws.specs.Pairs.{IsAnsweredAt, place_after}
use Rattle.nr_pair_laws.proofs.ReadBack.{Gave}

abbrev Read : Type 0
Read = Result (StatusUnion MountOk (Unit {0}) MountStatus) ClientEnd

abbrev read_ok : StatusUnion MountOk (Unit {0}) MountStatus → Read
read_ok results = Ok results

-- a result that has a handle is a success, whose handle is this
root_read : (r : Read) (v : StatusUnion MountOk (Unit {0}) MountStatus) (root : List ℕ) → r ≡ Ok v → UnionIs (λ (w : MountOk). w.handle ≡ handle_of 1) v → Gave (handle_in (mount_done r)) root → root ≡ handle_of 1
root_read r (Done w) root is holds e =
    let known : Gave (handle_in (mount_done (read_ok (Done w)))) root = sym (ap (λ (x : Read). handle_in (mount_done x)) is) ∙ e in
    let same : w.handle ≡ root = cc in sym same ∙ holds
root_read r (Failed status part) root is holds e =
    let wrong : Gave (handle_in (mount_done (read_ok (Failed status part)))) root = sym (ap (λ (x : Read). handle_in (mount_done x)) is) ∙ e in absurd cc

none_read : (r : Read) (v : StatusUnion MountOk (Unit {0}) MountStatus) (root : List ℕ) → r ≡ Ok v → UnionIs (λ (w : MountOk). ⊥) v → Gave (handle_in (mount_done r)) root → root ≡ handle_of 1
none_read r (Done w) root is holds e = absurd holds
none_read r (Failed status part) root is holds e =
    let wrong : Gave (handle_in (mount_done (read_ok (Failed status part)))) root = sym (ap (λ (x : Read). handle_in (mount_done x)) is) ∙ e in absurd cc

module _ (s : Setup) (J : List Entry) (uid gid : ℕ) (ids : AreIds uid gid) where
  adds_none : (xid : ℕ) → xid < 2 ^ 32 → (export : List ℕ) (m : Moment) (reply : List ℕ) → entries_of_call m (call_payload xid (mnt_call uid gid export)) reply ≡ []
  unfolding call_payload
  adds_none xid xid_fits export m reply =
      let payload = call_payload xid (mnt_call uid gid export) in
      let head : CallHead = heads.Version2 xid mount_program mount_version (mount_procedure_number mount.Mnt) (creds.Sys 0 machine uid gid []) 0 in
      let fits = sys_fit 0 machine uid gid [] (omega arith) (omega arith) ids.uid_fits ids.gid_fits (omega arith) (λ i. omega arith) in
      ap (λ (r : Result CallHead ℕ). entries_by_call m payload reply r)
      (call_written head (encodings (mnt_args_codec.items (record { dirpath = export }))) (omega arith, omega arith) (xid_fits, omega arith, omega arith, omega arith, fits))

  pub mounted_at : (export : List ℕ) (o : Outcome) (place : ℕ) (a : IsAnsweredAt s J (mnt_call uid gid export) o place) (root : List ℕ) → mnt_result o ≡ Ok root
      → (root ≡ handle_of 1) × (place_after s J (mnt_call uid gid export) o place a ≡ place)
  mounted_at export o place a root is =
      let none = ap length (adds_none a.xid a.fits export a.moment a.reply) in
      (by (mnt_replied s uid gid a.xid ids a.fits (encodings (mnt_args_codec.items (record { dirpath = export }))) (take place J) (length (take place J)) a.moment a.reply a.at.replied), omega (arith, none))
    where
      given : handle_in (mount_done (result_of_reply mnt_res_codec a.reply)) ≡ Ok root
      given = sym (ap mnt_result a.is) ∙ is

      short : length (handle_of 1) ≤ handle_max
      short = let long = length_handle 1 in omega (arith, long)

      on_test : (b : Bool) → a.reply ≡ results_reply a.xid mnt_res_codec (cond b (Done mounted) (Failed mount_status.Noent tt)) → root ≡ handle_of 1
      on_test true same =
          let r = results_read a.xid a.fits mnt_res_codec (Done mounted) (UnionIs (λ (w : MountOk). w.handle ≡ handle_of 1))
          (done_is mount_status_number mount_statuses mount_status_not_ok each_mount_status mount_status_fits mount_ok_codec void mounted (λ (w : MountOk). w.handle ≡ handle_of 1) (mount_ok_is (handle_of 1) short)) in
          root_read (result_of_reply mnt_res_codec a.reply) r.0 root (ap (λ (l : List ℕ). result_of_reply mnt_res_codec l) same ∙ r.1.0) r.1.1 given
      on_test false same =
          let r = results_read a.xid a.fits mnt_res_codec (Failed mount_status.Noent tt) (UnionIs (λ (w : MountOk). ⊥))
          (failed_is mount_status_number mount_statuses mount_status_not_ok each_mount_status mount_status_fits mount_ok_codec void mount_status.Noent tt (λ (w : MountOk). ⊥) void_any) in
          none_read (result_of_reply mnt_res_codec a.reply) r.0 root (ap (λ (l : List ℕ). result_of_reply mnt_res_codec l) same ∙ r.1.0) r.1.1 given

      by : (a.reply ≡ garbage a.xid) ⊎ ((b : MountArguments mount.Mnt) × (a.reply ≡ results_reply a.xid (mount_results_codec mount.Mnt) (mount_results s.parameters.export mount.Mnt b))) → root ≡ handle_of 1
      by (inl same) =
          let wrong : Gave {A = List ℕ} (Err (client.Rpc kinds.Accept 4)) root =
          sym (ap (λ (r : Read). handle_in (mount_done r)) (ap (λ (l : List ℕ). result_of_reply mnt_res_codec l) same ∙ garbage_read a.xid a.fits mnt_res_codec)) ∙ given in absurd cc
      by (inr (b, same)) = on_test (pointwise nat_eq b.dirpath s.parameters.export) same
