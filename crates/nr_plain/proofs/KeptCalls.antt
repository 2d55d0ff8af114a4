-- The plain server keeps the calls of its entries.
use Rattle.std.proofs.Common.{◌≡◌, ◌≢◌, ℕ, ◌<◌, Bool, true, false, cond, eqb, List, [], ◌∷◌, length, take, Option, None, Some, Result, Ok, Err, refl, sym, ap, subst, ◌∙◌, arith}
use Rattle.std.specs.Prelude.{◌&&◌, option_map, unwrap_or}
use Rattle.nr_xdr.specs.Item.{IsBytes}
use Rattle.nr_outside.specs.declared.moment.Moment.{Moment}
use Rattle.nr_rpc.specs.Reading.{call_of, xid_of_call}
use Rattle.nr_rpc.specs.declared.head.CallHead.{CallHead}
use Rattle.nr_rpc.specs.declared.head.CallHead.TheVariants as calls
use Rattle.nr_nfs_base.specs.Procedures.{nfs_program, nfs_version}
use Rattle.nr_nfs_base.specs.declared.procedure.NfsProcedure.{NfsProcedure}
use Rattle.nr_reduce.specs.declared.mark.Entry.{Entry}
use Rattle.nr_reduce.specs.NumberedJournal.{call_of_entry}
use Rattle.nr_plain.specs.Setup.{Setup, State}
use Rattle.nr_plain.specs.Journal.{nfs_procedure_of, state_of}
use Rattle.nr_plain.specs.Replies.{Answer, cred_refusal, entries_if, plain_answer, plain_reply}
use Rattle.nr_plain.specs.Added.{entries_by_call, entries_by_cred, entries_by_procedure, entries_of_call}
use Rattle.nr_plain.specs.History.{xid_in}
use Rattle.nr_plain.specs.Numbered.{answer_of_entry}
use Rattle.nr_plain.specs.ReplyLaws.{ServerKeepsCalls}
use Rattle.nr_plain.proofs.Added.{answer_of_reply}
use Rattle.nr_plain.proofs.EntryCalls.{answer_again, entry_fits, moment_is}
use Rattle.nr_plain.proofs.NumberedCalls.{entry_answer}
use Rattle.nr_plain.proofs.OneEntry.{one_at_most}

-- ===== whether a call adds an entry doesn't depend on its moment

none_if : (b : Bool) (e f : Entry) → entries_if b f ≡ [] → entries_if b e ≡ []
none_if true e f none = absurd cc
none_if false e f none = refl

none_procedure : (p : Option NfsProcedure) (reply : List ℕ) (e f : Entry) → entries_by_procedure p reply f ≡ [] → entries_by_procedure p reply e ≡ []
none_procedure None reply e f none = refl
none_procedure (Some p) reply e f none = none_if _ e f none

none_program : (b : Bool) (p : Option NfsProcedure) (reply : List ℕ) (e f : Entry) → cond b (entries_by_procedure p reply f) [] ≡ [] → cond b (entries_by_procedure p reply e) [] ≡ []
none_program true p reply e f none = none_procedure p reply e f none
none_program false p reply e f none = refl

none_cred : (o : Option ℕ) (es fs : List Entry) → (fs ≡ [] → es ≡ []) → entries_by_cred o fs ≡ [] → entries_by_cred o es ≡ []
none_cred None es fs both none = both none
none_cred (Some stat) es fs both none = refl

none_call : (m n : Moment) (payload reply : List ℕ) (r : Result CallHead ℕ) → entries_by_call n payload reply r ≡ [] → entries_by_call m payload reply r ≡ []
none_call m n payload reply (Ok (calls.Version2 xid prog vers proc cred at)) none =
    none_cred (cred_refusal cred) _ _ (none_program (eqb prog nfs_program && eqb vers nfs_version) (nfs_procedure_of proc) reply _ _) none
none_call m n payload reply (Ok (calls.Other xid rpcvers)) none = refl
none_call m n payload reply (Err at) none = refl

-- ===== the reply of the call that is made of the entry

own_reply : (s : Setup) (J : List Entry) (m : Moment) (payload reply : List ℕ) (xid : ℕ) (e : Entry) → IsBytes payload → plain_reply s J (length J) m payload ≡ Some reply →
    entries_of_call m payload reply ≡ e ∷ [] → xid_of_call (call_of payload) ≡ Some xid → plain_reply s J (length J) m (call_of_entry xid e) ≡ Some reply
own_reply s J m payload reply xid e bytes replied one xid_is =
    let st : State = state_of s (take (length J) J) in
    let given : Answer = record { reply = reply; entries = entries_of_call m payload reply } in
    let own : given ≡ answer_of_entry s.parameters st (xid_in payload) e =
    entry_answer s.parameters st m payload (call_of payload) given e (answer_of_reply s J (length J) m payload reply replied) one in
    let same : xid_in payload ≡ xid = ap (λ (o : Option ℕ). unwrap_or o 0) xid_is in
    let fits = entry_fits m payload reply e bytes one in
    let again : plain_answer s.parameters st e.moment (call_of_entry (xid_in payload) e) ≡ Some (answer_of_entry s.parameters st (xid_in payload) e) =
    answer_again s.parameters st (xid_in payload) e fits.0 fits.1 in
    (λ i. option_map (λ (a : Answer). a.reply) (plain_answer s.parameters st (sym (moment_is m payload reply e one) i) (call_of_entry (sym same i) e)))
    ∙ ap (option_map (λ (a : Answer). a.reply)) again
    ∙ ap (λ (a : Answer). Some a.reply) (sym own)

pub server_keeps_calls : ServerKeepsCalls
server_keeps_calls s = record {
  one = λ m payload reply. (let few = one_at_most m payload reply in let short : length (entries_of_call m payload reply) < 2 = omega (arith, few) in short);
  alike = λ m n payload reply some none. some (none_call m n payload reply (call_of payload) none);
  moment = λ m payload reply e one. moment_is m payload reply e one;
  own = λ J m payload reply xid e bytes replied one xid_is. own_reply s J m payload reply xid e bytes replied one xid_is;
}
