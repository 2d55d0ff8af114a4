-- An answer depends on the xid in its first word alone.
use Rattle.std.proofs.Common.{◌≡◌, ℕ, ◌==◌, Bool, true, false, List, [], ◌++◌, drop, Option, None, Some, Result, Ok, Err, sym, ap, ◌∙◌, append_assoc}
use Rattle.std.specs.Prelude.{if◌then◌else◌}
use Rattle.std.proofs.lemmas.List.{drop_at}
use Rattle.nr_xdr.specs.Item.{Item, word}
use Rattle.nr_xdr.specs.Items.{encodings}
use Rattle.nr_xdr.proofs.WordBytes.{length_word}
use Rattle.nr_rpc.specs.declared.cred.Cred.{Cred}
use Rattle.nr_rpc.specs.Credential.{no_verifier}
use Rattle.nr_rpc.specs.declared.head.ReplyHead.{ReplyHead}
use Rattle.nr_rpc.specs.declared.head.ReplyHead.TheVariants as replies
use Rattle.nr_rpc.specs.Reply.{reply_encoding, reply_items}
use Rattle.nr_nfs_base.specs.Codec.{read_all}
use Rattle.nr_nfs_base.specs.Procedures.{nfs_program, nfs_version, mount_program, mount_version}
use Rattle.nr_nfs_base.specs.declared.procedure.MountProcedure.{MountProcedure}
use Rattle.nr_nfs_base.specs.declared.procedure.NfsProcedure.{NfsProcedure}
use Rattle.nr_nfs_args.specs.Arguments.{NfsArguments, MountArguments, nfs_arguments_codec, mount_arguments_codec}
use Rattle.nr_nfs_res.specs.Results.{nfs_results_codec, mount_results_codec}
use Rattle.nr_reduce.specs.declared.mark.Entry.{Entry}
use Rattle.nr_plain.specs.Setup.{Parameters, State, caller_of, time_of, space_of}
use Rattle.nr_plain.specs.Programs.{nfs_results, is_change, mount_results}
use Rattle.nr_plain.specs.Journal.{nfs_procedure_of}
use Rattle.nr_plain.specs.Replies.{Answer, GARBAGE_ARGS, PROC_UNAVAIL, PROG_UNAVAIL, SUCCESS, accepted, call_by_cred, cred_refusal, entries_if, mount_by_arguments, mount_by_procedure, mount_call, mount_procedure_of, nfs_by_arguments, nfs_by_procedure, nfs_call, program_call, refusal}
use Rattle.nr_gate_laws.specs.Forwarded.{answer_with_xid}

pub record IsWorded (f : ℕ → Answer) : Type 0 where
  pub rest : List ℕ
  pub entries : List Entry
  pub is : (x : ℕ) → f x ≡ record { reply = word x ++ rest; entries = entries }

-- with another xid it is that answer with it
pub alike : (f : ℕ → Answer) → IsWorded f → (x y : ℕ) → f x ≡ answer_with_xid x (f y)
alike f w x y =
    let others : w.rest ≡ drop 4 (word y ++ w.rest) = sym (drop_at (word y) w.rest 4 (length_word y)) in
    w.is x ∙ ap (λ (l : List ℕ). record { reply = word x ++ l; entries = w.entries }) others ∙ ap (answer_with_xid x) (sym (w.is y))

-- the items of a head after its xid
by_items : (items : List Item) (results : List ℕ) (es : List Entry) → IsWorded (λ x. record { reply = (word x ++ encodings items) ++ results; entries = es })
by_items items results es = record {
  rest = encodings items ++ results;
  entries = es;
  is = λ x. ap (λ (l : List ℕ). record { reply = l; entries = es }) (append_assoc (word x) (encodings items) results);
}

by_test : (b : Bool) (f g : ℕ → Answer) → IsWorded f → IsWorded g → IsWorded (λ x. if b then f x else g x)
by_test true f g p q = p
by_test false f g p q = q

-- the items of a head are its xid and these
abbrev after_xid : ReplyHead → List Item
after_xid head = drop 1 (reply_items head no_verifier)

refused : (stat : ℕ) → IsWorded (λ x. refusal (accepted x stat))
refused stat = by_items (after_xid (accepted 0 stat)) [] []

mismatched : (low high : ℕ) → IsWorded (λ x. refusal (replies.ProgMismatch x low high))
mismatched low high = by_items (after_xid (replies.ProgMismatch 0 low high)) [] []

denied : (stat : ℕ) → IsWorded (λ x. refusal (replies.AuthError x stat))
denied stat = by_items (after_xid (replies.AuthError 0 stat)) [] []

done : (results : List ℕ) (es : List Entry) → IsWorded (λ x. record { reply = reply_encoding (accepted x SUCCESS) results; entries = es })
done results es = by_items (after_xid (accepted 0 SUCCESS)) results es

module _ (s : Parameters) (st : State) (e : Entry) where
  nfs_read : (p : NfsProcedure) (r : Result (NfsArguments p) ℕ) → IsWorded (λ x. nfs_by_arguments s st x e p r)
  nfs_read p (Ok a) =
      let results = nfs_results st.tree (caller_of e.cred) (space_of s st e.args) (time_of e.moment) p a in
      done (encodings ((nfs_results_codec p).items results)) (entries_if (is_change p results) e)
  nfs_read p (Err at) = refused GARBAGE_ARGS

  nfs_found : (o : Option NfsProcedure) → IsWorded (λ x. nfs_by_procedure s st x e o)
  nfs_found None = refused PROC_UNAVAIL
  nfs_found (Some p) = nfs_read p (read_all (nfs_arguments_codec p) e.args)

  mount_read : (p : MountProcedure) (r : Result (MountArguments p) ℕ) → IsWorded (λ x. mount_by_arguments s x p r)
  mount_read p (Ok a) = done (encodings ((mount_results_codec p).items (mount_results s.export p a))) []
  mount_read p (Err at) = refused GARBAGE_ARGS

  mount_found : (o : Option MountProcedure) → IsWorded (λ x. mount_by_procedure s x e.args o)
  mount_found None = refused PROC_UNAVAIL
  mount_found (Some p) = mount_read p (read_all (mount_arguments_codec p) e.args)

  nfs_worded : (vers : ℕ) → IsWorded (λ x. nfs_call s st x vers e)
  unfolding nfs_call
  nfs_worded vers =
      by_test (vers == nfs_version) (λ x. nfs_by_procedure s st x e (nfs_procedure_of e.proc)) (λ x. refusal (replies.ProgMismatch x nfs_version nfs_version))
      (nfs_found (nfs_procedure_of e.proc)) (mismatched nfs_version nfs_version)

  mount_worded : (vers : ℕ) → IsWorded (λ x. mount_call s x vers e)
  unfolding mount_call
  mount_worded vers =
      by_test (vers == mount_version) (λ x. mount_by_procedure s x e.args (mount_procedure_of e.proc)) (λ x. refusal (replies.ProgMismatch x mount_version mount_version))
      (mount_found (mount_procedure_of e.proc)) (mismatched mount_version mount_version)

  program_worded : (prog vers : ℕ) → IsWorded (λ x. program_call s st x prog vers e)
  program_worded prog vers =
      by_test (prog == nfs_program) (λ x. nfs_call s st x vers e) (λ x. if prog == mount_program then mount_call s x vers e else refusal (accepted x PROG_UNAVAIL))
      (nfs_worded vers)
      (by_test (prog == mount_program) (λ x. mount_call s x vers e) (λ x. refusal (accepted x PROG_UNAVAIL)) (mount_worded vers) (refused PROG_UNAVAIL))

  by_refusal : (o : Option ℕ) (prog vers : ℕ) → IsWorded (λ x. call_by_cred o x (program_call s st x prog vers e))
  by_refusal None prog vers = program_worded prog vers
  by_refusal (Some stat) prog vers = denied stat

  pub call_worded : (cred : Cred) (prog vers : ℕ) → IsWorded (λ x. call_by_cred (cred_refusal cred) x (program_call s st x prog vers e))
  call_worded cred prog vers = by_refusal (cred_refusal cred) prog vers
