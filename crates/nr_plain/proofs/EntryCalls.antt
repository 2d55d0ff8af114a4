-- The call that is made of an entry: its head can be encoded, and its answer is that of the entry.
use Rattle.std.proofs.Common.{◌≡◌, ◌≢◌, ℕ, ◌^◌, ◌<◌, Bool, true, false, cond, eqb, List, [], ◌∷◌, ◌++◌, length, map, drop, Option, None, Some, Result, Ok, Err, inl, inr, refl, sym, ap, subst, ◌∙◌, arith}
use Rattle.std.specs.Prelude.{◌&&◌, All, if◌then◌else◌, unwrap_or}
use Rattle.std.proofs.lemmas.List.{drop_at}
use Rattle.std.proofs.lemmas.List.Elements.{All-cons, All-nil}
use Rattle.nr_xdr.specs.Item.{IsBytes, Item}
use Rattle.nr_xdr.specs.Items.{AllFit, ReadsAll}
use Rattle.nr_outside.specs.declared.moment.Moment.{Moment}
use Rattle.nr_rpc.specs.Call.{CanWriteCall, CallFits, call_head, version2_items}
use Rattle.nr_rpc.specs.Credential.{Auth, CanWriteCred, CredFits, ReadsCred, sys_items}
use Rattle.nr_rpc.specs.Reading.{call_of, xid_of_call}
use Rattle.nr_rpc.specs.declared.cred.Cred.{Cred}
use Rattle.nr_rpc.specs.declared.cred.Cred.TheVariants as creds
use Rattle.nr_rpc.specs.declared.head.CallHead.{CallHead}
use Rattle.nr_rpc.specs.declared.head.CallHead.TheVariants as calls
use Rattle.nr_rpc.proofs.Calls.{call_begins, call_written}
use Rattle.nr_nfs_base.specs.Procedures.{nfs_program, nfs_version}
use Rattle.nr_nfs_base.specs.declared.procedure.NfsProcedure.{NfsProcedure}
use Rattle.nr_reduce.specs.declared.mark.Entry.{Entry}
use Rattle.nr_reduce.specs.declared.mark.TaggedEntry.{TaggedEntry}
use Rattle.nr_reduce.specs.NumberedJournal.{call_of_entry, tagged}
use Rattle.nr_plain.specs.Setup.{Parameters, State}
use Rattle.nr_plain.specs.Journal.{nfs_procedure_of}
use Rattle.nr_plain.specs.Replies.{answer_by, call_by_cred, cred_refusal, entries_if, plain_answer, program_call}
use Rattle.nr_plain.specs.Added.{entries_by_call, entries_by_cred, entries_by_procedure, entries_of_call}
use Rattle.nr_plain.specs.History.{entries_added, xid_in}
use Rattle.nr_plain.specs.Numbered.{EntriesHaveCalls, HasCall, answer_of_entry, head_of_entry}
use Rattle.nr_plain.proofs.OneEntry.{IsFew, few}

-- ===== a head that was read can be encoded

all_fit : (items : List Item) (bytes : List ℕ) → ReadsAll items bytes → AllFit items
all_fit [] bytes r = tt
all_fit (item ∷ items) bytes (front, rest, one, others, is) = (one.fits, all_fit items rest others)

cred_fits : (cred : Cred) (auth : Auth) → ReadsCred cred auth → auth.flavor < 2 ^ 32 → CredFits cred
cred_fits creds.None auth r fits = tt
cred_fits (creds.Sys stamp machine uid gid gids) auth r fits = all_fit (sys_items stamp machine uid gid gids) auth.body r.1.items
cred_fits (creds.Other flavor) auth r fits = subst (λ (n : ℕ). n < 2 ^ 32) r.0 fits

can_write : (cred : Cred) (auth : Auth) → ReadsCred cred auth → CanWriteCred cred
can_write creds.None auth r = tt
can_write (creds.Sys stamp machine uid gid gids) auth r = (r.1.machine_within, r.1.gids_within)
can_write (creds.Other flavor) auth r = r.1

-- the head of a call that has the numbers of a head that was read
numbers_fit : (payload : List ℕ) (xid prog vers proc at : ℕ) (cred : Cred) (e : Entry) → IsBytes payload → call_of payload ≡ Ok (calls.Version2 xid prog vers proc cred at) → e.proc ≡ proc → e.cred ≡ cred
    → CanWriteCall (head_of_entry xid e) × CallFits (head_of_entry xid e)
numbers_fit payload xid prog vers proc at cred e bytes read proc_is cred_is =
    let (front, rest, reads, is) = call_begins payload (calls.Version2 xid prog vers proc cred at) bytes read in
    let (auth, verifier, body_max, verifier_max, cred_read, items, at_is) = reads in
    let f = all_fit (version2_items xid prog vers proc auth verifier) front items in
    let proc_fits : e.proc < 2 ^ 32 = subst (λ (n : ℕ). n < 2 ^ 32) (sym proc_is) f.1.1.1.1.1.0 in
    let can : CanWriteCred e.cred = subst CanWriteCred (sym cred_is) (can_write cred auth cred_read) in
    let fits : CredFits e.cred = subst CredFits (sym cred_is) (cred_fits cred auth cred_read f.1.1.1.1.1.1.0) in
    (can, (f.0, omega arith, omega arith, proc_fits, fits))

-- ===== the entry of a call

only_if : (b : Bool) (own e : Entry) → entries_if b own ≡ e ∷ [] → e ≡ own
only_if true own e is = sym cc
only_if false own e is = absurd cc

only_procedure : (p : Option NfsProcedure) (reply : List ℕ) (own e : Entry) → entries_by_procedure p reply own ≡ e ∷ [] → e ≡ own
only_procedure None reply own e is = absurd cc
only_procedure (Some p) reply own e is = only_if _ own e is

only_program : (b : Bool) (p : Option NfsProcedure) (reply : List ℕ) (own e : Entry) → cond b (entries_by_procedure p reply own) [] ≡ e ∷ [] → e ≡ own
only_program true p reply own e is = only_procedure p reply own e is
only_program false p reply own e is = absurd cc

only_cred : (o : Option ℕ) (es : List Entry) (own e : Entry) → (es ≡ e ∷ [] → e ≡ own) → entries_by_cred o es ≡ e ∷ [] → e ≡ own
only_cred None es own e only is = only is
only_cred (Some stat) es own e only is = absurd cc

-- the entry that a call with this head adds is of its moment, its procedure, its credential and its arguments
pub only_own : (m : Moment) (payload reply : List ℕ) (xid prog vers proc at : ℕ) (cred : Cred) (e : Entry) → entries_by_call m payload reply (Ok (calls.Version2 xid prog vers proc cred at)) ≡ e ∷ []
    → e ≡ record { moment = m; cred = cred; proc = proc; args = drop at payload }
only_own m payload reply xid prog vers proc at cred e is =
    let own : Entry = record { moment = m; cred = cred; proc = proc; args = drop at payload } in
    only_cred (cred_refusal cred) (cond (eqb prog nfs_program && eqb vers nfs_version) (entries_by_procedure (nfs_procedure_of proc) reply own) []) own e
    (only_program (eqb prog nfs_program && eqb vers nfs_version) (nfs_procedure_of proc) reply own e) is

moment_by : (m : Moment) (payload reply : List ℕ) (e : Entry) (r : Result CallHead ℕ) → entries_by_call m payload reply r ≡ e ∷ [] → e.moment ≡ m
moment_by m payload reply e (Ok (calls.Version2 xid prog vers proc cred at)) is = ap (λ (x : Entry). x.moment) (only_own m payload reply xid prog vers proc at cred e is)
moment_by m payload reply e (Ok (calls.Other xid rpcvers)) is = absurd cc
moment_by m payload reply e (Err at) is = absurd cc

pub moment_is : (m : Moment) (payload reply : List ℕ) (e : Entry) → entries_of_call m payload reply ≡ e ∷ [] → e.moment ≡ m
moment_is m payload reply e is = moment_by m payload reply e (call_of payload) is

-- the head of the call of the entry can be encoded
fits_by : (m : Moment) (payload reply : List ℕ) (e : Entry) (r : Result CallHead ℕ) → IsBytes payload → call_of payload ≡ r → entries_by_call m payload reply r ≡ e ∷ []
    → CanWriteCall (head_of_entry (unwrap_or (xid_of_call r) 0) e) × CallFits (head_of_entry (unwrap_or (xid_of_call r) 0) e)
fits_by m payload reply e (Ok (calls.Version2 xid prog vers proc cred at)) bytes read is =
    let own = only_own m payload reply xid prog vers proc at cred e is in
    numbers_fit payload xid prog vers proc at cred e bytes read (ap (λ (x : Entry). x.proc) own) (ap (λ (x : Entry). x.cred) own)
fits_by m payload reply e (Ok (calls.Other xid rpcvers)) bytes read is = absurd cc
fits_by m payload reply e (Err at) bytes read is = absurd cc

pub entry_fits : (m : Moment) (payload reply : List ℕ) (e : Entry) → IsBytes payload → entries_of_call m payload reply ≡ e ∷ []
    → CanWriteCall (head_of_entry (xid_in payload) e) × CallFits (head_of_entry (xid_in payload) e)
entry_fits m payload reply e bytes is = fits_by m payload reply e (call_of payload) bytes refl is

-- the entries that a call of bytes adds, whatever the number of its client
tagged_fits : (client xid : ℕ) (e : Entry) → CanWriteCall (head_of_entry xid e) × CallFits (head_of_entry xid e) → HasCall (tagged client xid e)
tagged_fits client xid e (can, fits) = by (eqb client 0)
  where
    by : (b : Bool) → HasCall (cond b (record { entry = e; client = 0; xid = 0 }) (record { entry = e; client = client; xid = xid }))
    by true = (can, (omega arith, fits.1, fits.2, fits.3, fits.4))
    by false = (can, fits)

pub entries_have_calls : EntriesHaveCalls
entries_have_calls client m payload reply bytes = by (few m payload reply)
  where
    by : IsFew (entries_of_call m payload reply) → All HasCall (entries_added client m payload reply)
    by (inl none) = subst (λ (es : List Entry). All HasCall (map (tagged client (xid_in payload)) es)) (sym none) (All-nil HasCall)
    by (inr one) = subst (λ (es : List Entry). All HasCall (map (tagged client (xid_in payload)) es)) (sym one.1)
        (All-cons HasCall (tagged client (xid_in payload) one.0) [] (tagged_fits client (xid_in payload) one.0 (entry_fits m payload reply one.0 bytes one.1)) (All-nil HasCall))

-- ===== its answer

pub answer_again : (prm : Parameters) (st : State) (xid : ℕ) (e : Entry) → CanWriteCall (head_of_entry xid e) → CallFits (head_of_entry xid e)
    → plain_answer prm st e.moment (call_of_entry xid e) ≡ Some (answer_of_entry prm st xid e)
unfolding call_of_entry
answer_again prm st xid e can fits =
    let head : List ℕ = call_head (calls.Version2 xid nfs_program nfs_version e.proc e.cred 0) in
    let again : call_of (head ++ e.args) ≡ Ok (calls.Version2 xid nfs_program nfs_version e.proc e.cred (length head)) = call_written (head_of_entry xid e) e.args can fits in
    ap (answer_by prm st e.moment (head ++ e.args)) again
    ∙ ap (λ (l : List ℕ). Some (call_by_cred (cred_refusal e.cred) xid (program_call prm st xid nfs_program nfs_version (record { moment = e.moment; cred = e.cred; proc = e.proc; args = l }))))
    (drop_at head e.args (length head) refl)
