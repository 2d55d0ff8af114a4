-- Any READ of a file reads its bytes.
use Rattle.std.proofs.Common.{◌≡◌, ℕ, ◌+◌, List, length, take, drop, Option, Some, Result, ap, refl, sym, ◌∙◌}
use Rattle.std.specs.Prelude.{nat_le}
use Rattle.std.specs.Option.{option_map}
use Rattle.std.proofs.lemmas.Option.{same_Some}
use Rattle.nr_outside.specs.declared.moment.Moment.{Moment}
use Rattle.nr_rpc.specs.declared.head.CallHead.{CallHead}
use Rattle.nr_nfs_base.specs.Procedures.{each_nfs_procedure, nfs_procedure_number, nfs_program, nfs_version}
use Rattle.nr_nfs_base.specs.declared.procedure.NfsProcedure.{NfsProcedure}
use Rattle.nr_nfs_base.specs.declared.procedure.NfsProcedure.TheVariants as nfs
use Rattle.nr_nfs_args.specs.declared.bytes.ReadArgs.{ReadArgs}
use Rattle.nr_nfs_res.specs.Results.{read_res_codec}
use Rattle.nr_reduce.specs.declared.mark.Entry.{Entry}
use Rattle.nr_tree.specs.declared.node.Content.TheVariants.{Regular}
use Rattle.nr_ops_file.specs.Bytes.{read_reply}
use Rattle.nr_plain.specs.Journal.{state_of, tree_at}
use Rattle.nr_plain.specs.Replies.{Answer, answer_by, call_by_cred, nfs_by_arguments, nfs_by_procedure, nfs_call, plain_reply, program_call, results_reply}
use Rattle.nr_plain.specs.Setup.{Setup, State, caller_of}
use Rattle.nr_pair_laws.specs.FilesAt.{content_at}
use Rattle.nr_pair_laws.specs.PutThenGet.{IsReadCall, ReadsGiveTheFile, root_handle}
use Rattle.nr_pair_laws.proofs.Kept.{file_kept, kept}
use Rattle.nr_pair_laws.proofs.Results.{read_is}

-- the reply to a READ at a place
read_replied : (s : Setup) (J : List Entry) (place : ℕ) (m : Moment) (payload reply : List ℕ) (xid : ℕ) (a : ReadArgs) (c : IsReadCall payload xid a) → plain_reply s J place m payload ≡ Some reply
    → reply ≡ results_reply xid read_res_codec (read_reply (tree_at s J place) (caller_of c.cred) a)
unfolding nfs_call
read_replied s J place m payload reply xid a c e =
    let st : State = state_of s (take place J) in
    let entry : Entry = record { moment = m; cred = c.cred; proc = nfs_procedure_number nfs.Read; args = drop c.args_at payload } in
    same_Some reply (results_reply xid read_res_codec (read_reply (tree_at s J place) (caller_of c.cred) a))
    (sym e
    ∙ ap (λ (r : Result CallHead ℕ). option_map (λ (x : Answer). x.reply) (answer_by s.parameters st m payload r)) c.head
    ∙ ap (λ (o : Option ℕ). Some (call_by_cred o xid (program_call s.parameters st xid nfs_program nfs_version entry)).reply) c.accepted
    ∙ ap (λ (o : Option NfsProcedure). Some (nfs_by_procedure s.parameters st xid entry o).reply) (each_nfs_procedure nfs.Read)
    ∙ ap (λ (r : Result ReadArgs ℕ). Some (nfs_by_arguments s.parameters st xid entry nfs.Read r).reply) c.args)

pub any_read : ReadsGiveTheFile
any_read s J names bytes from place h rises keeps m payload reply xid a c same e =
    let there = file_kept root_handle names (tree_at s J from) (tree_at s J place) h.file (Regular bytes) (kept s J root_handle names from place rises keeps) h.leads h.holds in
    let holds : content_at (tree_at s J place) a.file ≡ Some (Regular bytes) = ap (λ (f : List ℕ). content_at (tree_at s J place) f) same ∙ there.1 in
    record {
      results = read_reply (tree_at s J place) (caller_of c.cred) a;
      is = read_replied s J place m payload reply xid a c e;
      results_are = refl;
      given = λ ok done.
          let r = read_is (tree_at s J place) (caller_of c.cred) a ok bytes holds done in
          (r.0, r.1 ∙ ap (λ (l : List ℕ). nat_le (length bytes) (a.offset + length l)) (sym r.0));
    }
