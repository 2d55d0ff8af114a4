-- The reply to the call of an entry can be sent back to each call that would add an entry by it.
use Rattle.std.proofs.Common.{◌≡◌, ◌≢◌, ℕ, ◌+◌, ◌^◌, ◌<◌, ◌≤◌, Bool, true, false, cond, eqb, not, List, [], ◌∷◌, ◌++◌, length, drop, take, Option, None, Some, Result, Ok, Err, refl, sym, ap, subst, ◌∙◌, arith}
use Rattle.std.specs.Prelude.{⊤, ◌&&◌}
use Rattle.nr_xdr.specs.Item.{Item, word_of}
use Rattle.nr_xdr.specs.Item.Item.{Unsigned}
use Rattle.nr_xdr.specs.Items.{encodings}
use Rattle.nr_xdr.specs.Reading.{Cursor, Takes}
use Rattle.nr_xdr.specs.Sequencing.{◌>>=◌, number_at}
use Rattle.nr_xdr.proofs.Chains.{each_takes, encodings_read, standing}
use Rattle.nr_xdr.proofs.SequencingSteps.{number_again}
use Rattle.nr_header.specs.WithinLimits.{ListsWithin}
use Rattle.nr_header.specs.declared.header.ChunkLists.{ChunkLists}
use Rattle.nr_outside.specs.declared.moment.Moment.{Moment}
use Rattle.nr_rpc.specs.Constants.{CALL, RPC_VERSION}
use Rattle.nr_rpc.specs.Credential.{Auth, auth_items, auth_of, no_verifier}
use Rattle.nr_rpc.specs.Reading.{auth_at, call_at, call_of, cred_of, head_of, procedure_at, target_of, version2_at}
use Rattle.nr_rpc.specs.declared.head.CallHead.{CallHead}
use Rattle.nr_rpc.specs.declared.head.CallHead.TheVariants as calls
use Rattle.nr_rpc.specs.declared.head.ReplyHead.TheVariants as replies
use Rattle.nr_rpc.proofs.HeadSteps.{expect_again, pair_again}
use Rattle.nr_nfs_base.specs.Procedures.{nfs_procedure_number, nfs_procedures, nfs_program, nfs_version}
use Rattle.nr_nfs_base.specs.declared.procedure.NfsProcedure.{NfsProcedure}
use Rattle.nr_nfs_base.specs.declared.procedure.NfsProcedure.TheVariants as nfs
use Rattle.nr_ops_list.proofs.Sizes.{length_encodings}
use Rattle.nr_reduce.specs.Limits.{send_unit}
use Rattle.nr_reduce.specs.NumberedJournal.{call_of_entry}
use Rattle.nr_reduce.specs.Server.{answer_of_target}
use Rattle.nr_reduce.specs.declared.mark.Entry.{Entry}
use Rattle.nr_plain.specs.Added.{entries_by_call, entries_by_cred, entries_by_procedure, entries_by_program, entries_of_call, has_succeeded}
use Rattle.nr_plain.specs.Journal.{nfs_procedure_of, state_of}
use Rattle.nr_plain.specs.Programs.{only_reads}
use Rattle.nr_plain.specs.Replies.{Answer, answer_by, call_by_cred, cred_refusal, entries_if, plain_answer, plain_reply, program_call, refusal}
use Rattle.nr_plain.specs.ReplyLaws.{ServerFitsChanges}
use Rattle.nr_plain.specs.ReplySizes.{reply_max}
use Rattle.nr_plain.specs.Setup.{Parameters, Setup, State}
use Rattle.nr_plain.proofs.Added.{answer_of_reply}
use Rattle.nr_plain.proofs.Changes.{Plain, changes_short, short_held}
use Rattle.nr_plain.proofs.EntryCalls.{only_own}
use Rattle.nr_plain.proofs.FrontReads.{number_readable, split}
use Rattle.nr_plain.proofs.ReplyHeads.{same_answer}
use Rattle.nr_plain.proofs.ReplyLimits.{numbered, refusal_size}

-- ===== what an entry tells of its call

-- the number of such a procedure is a word, and not that of READ or READLINK
of_change : (p : NfsProcedure) → only_reads p ≡ false → (nfs_procedure_number p < 2 ^ 32) × Plain (nfs_procedure_number p)
of_change nfs.Null reads = absurd cc
of_change nfs.Getattr reads = absurd cc
of_change nfs.Setattr reads = (omega arith, (refl, refl))
of_change nfs.Lookup reads = absurd cc
of_change nfs.Access reads = absurd cc
of_change nfs.Readlink reads = absurd cc
of_change nfs.Read reads = absurd cc
of_change nfs.Write reads = (omega arith, (refl, refl))
of_change nfs.Create reads = (omega arith, (refl, refl))
of_change nfs.Mkdir reads = (omega arith, (refl, refl))
of_change nfs.Symlink reads = (omega arith, (refl, refl))
of_change nfs.Mknod reads = (omega arith, (refl, refl))
of_change nfs.Remove reads = (omega arith, (refl, refl))
of_change nfs.Rmdir reads = (omega arith, (refl, refl))
of_change nfs.Rename reads = (omega arith, (refl, refl))
of_change nfs.Link reads = (omega arith, (refl, refl))
of_change nfs.Readdir reads = absurd cc
of_change nfs.Readdirplus reads = absurd cc
of_change nfs.Fsstat reads = absurd cc
of_change nfs.Fsinfo reads = absurd cc
of_change nfs.Pathconf reads = absurd cc
of_change nfs.Commit reads = absurd cc

-- a call of this procedure that has this reply adds an entry: it changes the tree, and the reply says that it succeeded
record Tells (reply : List ℕ) (proc : ℕ) : Type 0 where
  procedure : NfsProcedure
  found : nfs_procedure_of proc ≡ Some procedure
  changes : only_reads procedure ≡ false
  succeeded : has_succeeded reply ≡ true

number_of : (reply : List ℕ) (proc : ℕ) → Tells reply proc → (proc < 2 ^ 32) × Plain proc
number_of reply proc t = subst (λ (n : ℕ). (n < 2 ^ 32) × Plain n) (numbered nfs_procedure_number nfs_procedures proc t.procedure t.found) (of_change t.procedure t.changes)

tells_if : (reads succeeded : Bool) (e : Entry) → entries_if (not reads && succeeded) e ≢ [] → (reads ≡ false) × (succeeded ≡ true)
tells_if true succeeded e some = absurd (some refl)
tells_if false true e some = (refl, refl)
tells_if false false e some = absurd (some refl)

tells_procedure : (o : Option NfsProcedure) (proc : ℕ) (reply : List ℕ) (e : Entry) → nfs_procedure_of proc ≡ o → entries_by_procedure o reply e ≢ [] → Tells reply proc
tells_procedure None proc reply e is some = absurd (some refl)
tells_procedure (Some p) proc reply e is some =
    let both = tells_if (only_reads p) (has_succeeded reply) e some in record { procedure = p; found = is; changes = both.0; succeeded = both.1 }

tells_program : (b : Bool) (reply : List ℕ) (e : Entry) → cond b (entries_by_procedure (nfs_procedure_of e.proc) reply e) [] ≢ [] → Tells reply e.proc
tells_program true reply e some = tells_procedure (nfs_procedure_of e.proc) e.proc reply e refl some
tells_program false reply e some = absurd (some refl)

tells_cred : (o : Option ℕ) (es : List Entry) → entries_by_cred o es ≢ [] → es ≢ []
tells_cred None es some = some
tells_cred (Some stat) es some = absurd (some refl)

tells_call : (reply : List ℕ) (prog vers : ℕ) (e : Entry) → entries_by_cred (cred_refusal e.cred) (entries_by_program prog vers reply e) ≢ [] → Tells reply e.proc
tells_call reply prog vers e some =
    tells_program (eqb prog nfs_program && eqb vers nfs_version) reply e (tells_cred (cred_refusal e.cred) (entries_by_program prog vers reply e) some)

-- the entry that a call added
tells_entry : (m : Moment) (payload reply : List ℕ) (e : Entry) (r : Result CallHead ℕ) → entries_by_call m payload reply r ≡ e ∷ [] → Tells reply e.proc
tells_entry m payload reply e (Ok (calls.Version2 xid prog vers proc cred at)) is =
    let own : Entry = record { moment = m; cred = cred; proc = proc; args = drop at payload } in
    subst (λ (n : ℕ). Tells reply n) (ap (λ (x : Entry). x.proc) (sym (only_own m payload reply xid prog vers proc at cred e is)))
    (tells_call reply prog vers own (λ none. not_none (sym none ∙ is)))
  where
    not_none : [] ≡ e ∷ [] → ⊥
    not_none wrong = absurd cc
tells_entry m payload reply e (Ok (calls.Other xid rpcvers)) is = absurd cc
tells_entry m payload reply e (Err at) is = absurd cc

-- a short reply by which a call adds an entry can be sent back to it
held_by : (m : Moment) (payload reply : List ℕ) (r : Result CallHead ℕ) (offer : ChunkLists) (down : ℕ) → entries_by_call m payload reply r ≢ [] → length reply ≤ reply_max → ListsWithin offer → send_unit ≤ down
    → answer_of_target offer down reply (target_of r) ≢ None
held_by m payload reply (Ok (calls.Version2 xid prog vers proc cred at)) offer down some short within room =
    let own : Entry = record { moment = m; cred = cred; proc = proc; args = drop at payload } in
    short_held offer down prog vers proc reply within room short (number_of reply proc (tells_call reply prog vers own some)).1
held_by m payload reply (Ok (calls.Other xid rpcvers)) offer down some short within room = absurd (some refl)
held_by m payload reply (Err at) offer down some short within room = absurd (some refl)

succeeds_by : (m : Moment) (payload reply : List ℕ) (r : Result CallHead ℕ) → entries_by_call m payload reply r ≢ [] → has_succeeded reply ≡ true
succeeds_by m payload reply (Ok (calls.Version2 xid prog vers proc cred at)) some =
    let own : Entry = record { moment = m; cred = cred; proc = proc; args = drop at payload } in (tells_call reply prog vers own some).succeeded
succeeds_by m payload reply (Ok (calls.Other xid rpcvers)) some = absurd (some refl)
succeeds_by m payload reply (Err at) some = absurd (some refl)

-- ===== the call of an entry is read as one of its procedure, whatever its xid and its credential are, or not at all

abbrev IsCallOf : ℕ → Result CallHead ℕ → Type 0
IsCallOf proc (Ok (calls.Version2 xid prog vers own cred at)) = (prog ≡ nfs_program) × ((vers ≡ nfs_version) × (own ≡ proc))
IsCallOf proc (Ok (calls.Other xid rpcvers)) = ⊥
IsCallOf proc (Err at) = ⊤

from_version : (xid : ℕ) (c a d after : Cursor) → number_at c ≡ Ok (xid, a) → Takes a d (Unsigned CALL) → Takes d after (Unsigned RPC_VERSION) → call_at c ≡ version2_at xid after
unfolding call_at
from_version xid c a d after first kind version = rw (first, expect_again CALL a d kind, number_again d RPC_VERSION after version) refl

procedure_read : (prog vers proc : ℕ) (c d f after : Cursor) → Takes c d (Unsigned prog) → Takes d f (Unsigned vers) → Takes f after (Unsigned proc) → procedure_at c ≡ Ok ((prog, (vers, proc)), after)
unfolding procedure_at
procedure_read prog vers proc c d f after at_prog at_vers at_proc = rw (number_again c prog d at_prog, pair_again vers proc d f after at_vers at_proc) refl

-- what follows the procedure
abbrev behind : ℕ → (ℕ × (ℕ × ℕ)) × Cursor → Result (CallHead × Cursor) ℕ
behind xid called = do
  cred ← auth_at called.1
  verifier ← auth_at cred.1
  Ok (calls.Version2 xid called.0.0 called.0.1.0 called.0.1.1 (cred_of cred.0) verifier.1.place, verifier.1)

by_verifier : (xid proc : ℕ) (cred : Auth × Cursor) (r : Result (Auth × Cursor) ℕ)
    → IsCallOf proc (head_of (◌>>=◌ {A = Auth × Cursor} {B = CallHead × Cursor} r (λ verifier. Ok (calls.Version2 xid nfs_program nfs_version proc (cred_of cred.0) verifier.1.place, verifier.1))))
by_verifier xid proc cred (Ok verifier) = (refl, (refl, refl))
by_verifier xid proc cred (Err at) = tt

by_cred : (xid proc : ℕ) (r : Result (Auth × Cursor) ℕ) → IsCallOf proc (head_of (◌>>=◌ {A = Auth × Cursor} {B = CallHead × Cursor} r (λ cred.
    ◌>>=◌ {A = Auth × Cursor} {B = CallHead × Cursor} (auth_at cred.1) (λ verifier. Ok (calls.Version2 xid nfs_program nfs_version proc (cred_of cred.0) verifier.1.place, verifier.1)))))
by_cred xid proc (Ok cred) = by_verifier xid proc cred (auth_at cred.1)
by_cred xid proc (Err at) = tt

from_procedure : (xid proc : ℕ) (c after : Cursor) → procedure_at c ≡ Ok ((nfs_program, (nfs_version, proc)), after) → IsCallOf proc (head_of (version2_at xid c))
unfolding version2_at
from_procedure xid proc c after is =
    subst (λ (r : Result ((ℕ × (ℕ × ℕ)) × Cursor) ℕ). IsCallOf proc (head_of (◌>>=◌ {A = (ℕ × (ℕ × ℕ)) × Cursor} {B = CallHead × Cursor} r (behind xid)))) (sym is) (by_cred xid proc (auth_at after))

entry_read : (xid : ℕ) (e : Entry) → e.proc < 2 ^ 32 → IsCallOf e.proc (call_of (call_of_entry xid e))
unfolding call_of call_of_entry
entry_read xid e fits =
    let numbers : List Item = Unsigned CALL ∷ (Unsigned RPC_VERSION ∷ (Unsigned nfs_program ∷ (Unsigned nfs_version ∷ (Unsigned e.proc ∷ [])))) in
    let auths : List Item = auth_items (auth_of e.cred) (auth_items no_verifier []) in
    let first : List ℕ = encodings (Unsigned xid ∷ []) in
    let later : List ℕ = encodings (numbers ++ auths) ++ e.args in
    let last : List ℕ = encodings auths ++ e.args in
    let all : encodings (Unsigned xid ∷ (numbers ++ auths)) ++ e.args ≡ first ++ later = split (Unsigned xid ∷ []) (numbers ++ auths) e.args in
    let c : Cursor = standing 0 (first ++ later) in
    let a : Cursor = standing 4 later in
    let other : ℕ = word_of (take 4 (first ++ later)) in
    let read : number_at c ≡ Ok (other, a) = number_readable xid 0 first later (length_encodings (Unsigned xid ∷ [])) in
    let taken = each_takes numbers (encodings numbers) last a (encodings_read numbers (omega arith, (omega arith, (omega arith, (omega arith, (fits, tt)))))) (split numbers auths e.args) in
    let (b, at_kind, (d, at_version, (f, at_prog, (g, at_vers, (h, at_proc, same))))) = taken in
    let version : call_at c ≡ version2_at other d = from_version other c a b d read at_kind at_version in
    subst (λ (bytes : List ℕ). IsCallOf e.proc (head_of (call_at (standing 0 bytes)))) (sym all)
    (subst (λ (r : Result (CallHead × Cursor) ℕ). IsCallOf e.proc (head_of r)) (sym version)
    (from_procedure other e.proc d h (procedure_read nfs_program nfs_version e.proc d f g h at_prog at_vers at_proc)))

-- ===== so its reply is short, if it succeeded

module _ (prm : Parameters) (st : State) (m : Moment) (payload reply : List ℕ) (proc : ℕ) (p : NfsProcedure) (found : nfs_procedure_of proc ≡ Some p) (changes : only_reads p ≡ false) (succeeded : has_succeeded reply ≡ true) where
  abbrev given : Answer
  given = record { reply = reply; entries = entries_of_call m payload reply }

  -- a call that was accepted adds an entry
  module _ (xid prog vers : ℕ) (e : Entry) (prog_is : prog ≡ nfs_program) (vers_is : vers ≡ nfs_version) (own_is : e.proc ≡ proc) where
    adds_one : cred_refusal e.cred ≡ None → entries_by_cred (cred_refusal e.cred) (entries_by_program prog vers reply e) ≡ e ∷ []
    adds_one accepted =
        ap (λ (o : Option ℕ). entries_by_cred o (entries_by_program prog vers reply e)) accepted
        ∙ (λ i. entries_by_program (prog_is i) (vers_is i) reply e)
        ∙ ap (λ (o : Option NfsProcedure). entries_by_procedure o reply e) (ap nfs_procedure_of own_is ∙ found)
        ∙ ap (λ (b : Bool). entries_if (not b && has_succeeded reply) e) changes
        ∙ ap (λ (b : Bool). entries_if b e) succeeded

    short_by : (o : Option ℕ) → cred_refusal e.cred ≡ o → Some (call_by_cred o xid (program_call prm st xid prog vers e)) ≡ Some given
        → entries_of_call m payload reply ≡ entries_by_cred (cred_refusal e.cred) (entries_by_program prog vers reply e) → plain_answer prm st m payload ≡ Some given → length reply ≤ reply_max
    short_by (Some stat) refused is entries answered =
        subst (λ (a : Answer). length a.reply ≤ reply_max) (same_answer (refusal (replies.AuthError xid stat)) given is) (omega (arith, refusal_size (replies.AuthError xid stat)))
    short_by None accepted is entries answered =
        changes_short prm st m payload given answered (λ none. not_none (sym none ∙ entries ∙ adds_one accepted))
      where
        not_none : [] ≡ e ∷ [] → ⊥
        not_none wrong = absurd cc

  short_reply : (r : Result CallHead ℕ) → call_of payload ≡ r → IsCallOf proc r → plain_answer prm st m payload ≡ Some given → length reply ≤ reply_max
  short_reply (Ok (calls.Version2 xid prog vers own cred at)) read (prog_is, (vers_is, own_is)) answered =
      let e : Entry = record { moment = m; cred = cred; proc = own; args = drop at payload } in
      short_by xid prog vers e prog_is vers_is own_is (cred_refusal cred) refl (sym (ap (answer_by prm st m payload) read) ∙ answered) (ap (entries_by_call m payload reply) read) answered
  short_reply (Ok (calls.Other xid rpcvers)) read of answered = absurd of
  short_reply (Err at) read of answered = absurd (no_answer (sym (ap (answer_by prm st m payload) read) ∙ answered))
    where
      no_answer : None ≡ Some given → ⊥
      no_answer wrong = absurd cc

pub server_fits_changes : ServerFitsChanges
server_fits_changes s J m n o payload asked answer reply xid e offer down adds replied some within room =
    let t = tells_entry o asked answer e (call_of asked) adds in
    let call : List ℕ = call_of_entry xid e in
    let answered = answer_of_reply s J (length J) m call reply replied in
    let short : length reply ≤ reply_max =
    short_reply s.parameters (state_of s (take (length J) J)) m call reply e.proc t.procedure t.found t.changes (succeeds_by n payload reply (call_of payload) some) (call_of call) refl
    (entry_read xid e (number_of answer e.proc t).0) answered in
    held_by n payload reply (call_of payload) offer down some short within room
