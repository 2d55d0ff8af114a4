-- The replies of the entries of a journal, and what one call more adds to them.
use Rattle.std.proofs.Common.{◌≡◌, ℕ, ◌+◌, suc, Bool, true, false, cond, eqb, List, [], ◌∷◌, ◌++◌, length, map, Option, None, Some, Result, Ok, Err, refl, ap, sym, subst, ◌∙◌, arith, append_assoc, drop}
use Rattle.std.specs.Prelude.{◌≢◌, ◌&&◌, unwrap_or}
use Rattle.std.proofs.lemmas.Bool.{eqb-true}
use Rattle.std.proofs.lemmas.List.{append-nil, length-map, map-append}
use Rattle.nr_outside.specs.declared.moment.Moment.{Moment}
use Rattle.nr_rpc.specs.Reading.{call_of, head_xid, xid_of_call}
use Rattle.nr_rpc.specs.declared.head.CallHead.{CallHead}
use Rattle.nr_rpc.specs.declared.head.CallHead.TheVariants as calls
use Rattle.nr_rpc.specs.declared.head.ReplyHead.TheVariants as replies
use Rattle.nr_nfs_base.specs.Procedures.{nfs_program, nfs_version, mount_program}
use Rattle.nr_nfs_base.specs.declared.procedure.NfsProcedure.{NfsProcedure}
use Rattle.nr_nfs_base.specs.Codec.{read_all}
use Rattle.nr_nfs_args.specs.Arguments.{NfsArguments, nfs_arguments_codec}
use Rattle.nr_reduce.specs.declared.mark.Entry.{Entry}
use Rattle.nr_cache.specs.Entries.{KeptEntry}
use Rattle.nr_cache.specs.Caches.{RemembersAll}
use Rattle.nr_plain.specs.Setup.{Parameters, Setup, State}
use Rattle.nr_plain.specs.Journal.{first_state, next_state, state_after, state_of, nfs_procedure_of}
use Rattle.nr_plain.specs.Replies.{Answer, PROG_UNAVAIL, accepted, answer_by, answer_to, call_by_cred, cred_refusal, entries_if, mount_call, nfs_by_arguments, nfs_by_procedure, nfs_call, program_call, refusal}
use Rattle.nr_plain.specs.History.{entries_added, xid_in}
use Rattle.nr_reduce.specs.NumberedJournal.{entries_alone, tagged}
use Rattle.nr_plain.specs.Added.{entries_by_call, entries_by_cred, entries_by_procedure, entries_of_call, has_succeeded}
use Rattle.nr_plain.specs.Stands.{PlainServerState, RepresentsJournal, ExecutesCall}
use Rattle.nr_plain.specs.Numbered.{answer_of_entry, is_changing, kept_entry, kept_from, kept_replies, may_change}
use Rattle.nr_plain.specs.private.Executing.{ExecutesTagged}
use Rattle.nr_reduce.specs.declared.mark.TaggedEntry.{TaggedEntry}
use Rattle.nr_plain.proofs.ReplyHeads.{same_answer}
use Rattle.nr_plain.proofs.Serving.{mount_none}
use Rattle.nr_plain.proofs.Histories.{tagged_alone}

-- ===== one list of entries after the other

pub kept_append : (prm : Parameters) (st : State) (place : ℕ) (T U : List TaggedEntry) →
    kept_from prm st place (T ++ U) ≡ kept_from prm st place T ++ kept_from prm (state_after prm st (entries_alone T)) (place + length T) U
kept_append prm st place [] U = let at : place ≡ place + 0 = omega arith in ap (λ (n : ℕ). kept_from prm st n U) at
kept_append prm st place (t ∷ T) U =
    let next : State = next_state prm st t.entry in
    let at : place + 1 + length T ≡ place + suc (length T) = omega arith in
    ap (λ (E : List KeptEntry). kept_entry prm st place t ++ E)
    (kept_append prm next (place + 1) T U ∙ ap (λ (n : ℕ). kept_from prm next (place + 1) T ++ kept_from prm (state_after prm next (entries_alone T)) n U) at)
    ∙ sym (append_assoc (kept_entry prm st place t) (kept_from prm next (place + 1) T) (kept_from prm (state_after prm next (entries_alone T)) (place + suc (length T)) U))

-- entries of a client without a number are not kept
unnumbered : (prm : Parameters) (st : State) (place xid : ℕ) (es : List Entry) → kept_from prm st place (map (tagged 0 xid) es) ≡ []
unnumbered prm st place xid [] = refl
unnumbered prm st place xid (e ∷ es) = unnumbered prm (next_state prm st e) (place + 1) xid es

pub kept_unnumbered : (s : Setup) (T : List TaggedEntry) (m : Moment) (payload reply : List ℕ) → kept_replies s (T ++ entries_added 0 m payload reply) ≡ kept_replies s T
kept_unnumbered s T m payload reply =
    kept_append s.parameters (first_state s) 0 T (entries_added 0 m payload reply)
    ∙ ap (λ (E : List KeptEntry). kept_replies s T ++ E) (unnumbered s.parameters (state_after s.parameters (first_state s) (entries_alone T)) (0 + length T) (xid_in payload) (entries_of_call m payload reply))
    ∙ append-nil (kept_replies s T)

-- ===== the reply of a change is that of its entry

not_one : (e : Entry) → ◌≡◌ {A = List Entry} [] (e ∷ []) → {A : Type 0} → A
not_one e is = absurd cc

by_arguments : (prm : Parameters) (st : State) (xid : ℕ) (e0 e : Entry) (p : NfsProcedure) (r : Result (NfsArguments p) ℕ) → (nfs_by_arguments prm st xid e0 p r).entries ≡ e ∷ [] → e ≡ e0
by_arguments prm st xid e0 e p (Ok a) is = by _ is
  where
    by : (b : Bool) → entries_if b e0 ≡ e ∷ [] → e ≡ e0
    by true same = sym cc
    by false same = absurd cc
by_arguments prm st xid e0 e p (Err at) is = not_one e is

by_procedure : (prm : Parameters) (st : State) (xid : ℕ) (e0 e : Entry) (o : Option NfsProcedure) → (nfs_by_procedure prm st xid e0 o).entries ≡ e ∷ [] → e ≡ e0
by_procedure prm st xid e0 e None is = not_one e is
by_procedure prm st xid e0 e (Some p) is = by_arguments prm st xid e0 e p (read_all (nfs_arguments_codec p) e0.args) is

-- what a call that adds an entry is of
abbrev IsOwn : (prog vers : ℕ) → (e0 e : Entry) → Type 0
IsOwn prog vers e0 e = (prog ≡ nfs_program) × (vers ≡ nfs_version) × (e ≡ e0)

by_version : (prm : Parameters) (st : State) (xid vers : ℕ) (e0 e : Entry) → (nfs_call prm st xid vers e0).entries ≡ e ∷ [] → (vers ≡ nfs_version) × (e ≡ e0)
unfolding nfs_call
by_version prm st xid vers e0 e is = by (eqb vers nfs_version) refl is
  where
    by : (b : Bool) → eqb vers nfs_version ≡ b → (cond b (nfs_by_procedure prm st xid e0 (nfs_procedure_of e0.proc)) (refusal (replies.ProgMismatch xid nfs_version nfs_version))).entries ≡ e ∷ [] → (vers ≡ nfs_version) × (e ≡ e0)
    by true same of_entry = (eqb-true vers nfs_version same, by_procedure prm st xid e0 e (nfs_procedure_of e0.proc) of_entry)
    by false same of_entry = not_one e of_entry

by_program : (prm : Parameters) (st : State) (xid prog vers : ℕ) (e0 e : Entry) → (program_call prm st xid prog vers e0).entries ≡ e ∷ [] → IsOwn prog vers e0 e
by_program prm st xid prog vers e0 e is = by (eqb prog nfs_program) refl is
  where
    other : (b : Bool) → (cond b (mount_call prm xid vers e0) (refusal (accepted xid PROG_UNAVAIL))).entries ≡ e ∷ [] → IsOwn prog vers e0 e
    other true of_entry = not_one e (sym (mount_none prm xid vers e0) ∙ of_entry)
    other false of_entry = not_one e of_entry

    by : (b : Bool) → eqb prog nfs_program ≡ b → (cond b (nfs_call prm st xid vers e0) (cond (eqb prog mount_program) (mount_call prm xid vers e0) (refusal (accepted xid PROG_UNAVAIL)))).entries ≡ e ∷ [] → IsOwn prog vers e0 e
    by true same of_entry = (let own = by_version prm st xid vers e0 e of_entry in (eqb-true prog nfs_program same, own.0, own.1))
    by false same of_entry = other (eqb prog mount_program) of_entry

by_cred : (o : Option ℕ) (prm : Parameters) (st : State) (xid prog vers : ℕ) (e0 e : Entry) → (call_by_cred o xid (program_call prm st xid prog vers e0)).entries ≡ e ∷ [] → IsOwn prog vers e0 e
by_cred None prm st xid prog vers e0 e is = by_program prm st xid prog vers e0 e is
by_cred (Some stat) prm st xid prog vers e0 e is = not_one e is

change_answer : (prm : Parameters) (st : State) (m : Moment) (payload : List ℕ) (head : CallHead) (e : Entry) → (answer_to prm st m payload head).entries ≡ e ∷ [] →
    answer_to prm st m payload head ≡ answer_of_entry prm st (head_xid head) e
change_answer prm st m payload (calls.Version2 xid prog vers proc cred args_at) e is =
    let e0 : Entry = record { moment = m; cred = cred; proc = proc; args = drop args_at payload } in
    let own : IsOwn prog vers e0 e = by_cred (cred_refusal cred) prm st xid prog vers e0 e is in
    (λ i. call_by_cred (cred_refusal cred) xid (program_call prm st xid (own.0 i) (own.1 i) e0)) ∙ ap (answer_of_entry prm st xid) (sym own.2)
change_answer prm st m payload (calls.Other xid rpcvers) e is = not_one e is

-- by the answer of a call
pub entry_answer : (prm : Parameters) (st : State) (m : Moment) (payload : List ℕ) (r : Result CallHead ℕ) (a : Answer) (e : Entry) → answer_by prm st m payload r ≡ Some a → a.entries ≡ e ∷ [] →
    a ≡ answer_of_entry prm st (unwrap_or (xid_of_call r) 0) e
entry_answer prm st m payload (Ok head) a e found one =
    let same : answer_to prm st m payload head ≡ a = same_answer (answer_to prm st m payload head) a found in
    sym same ∙ change_answer prm st m payload head e (ap (λ (x : Answer). x.entries) same ∙ one)
entry_answer prm st m payload (Err at) a e found one = absurd cc

-- ===== a call that may not change the tree adds no entry

none_by_procedure : (a b : Bool) (o : Option NfsProcedure) (reply : List ℕ) (e : Entry) → (a && (b && is_changing o)) ≡ false → cond (a && b) (entries_by_procedure o reply e) [] ≡ []
none_by_procedure false b o reply e is = refl
none_by_procedure true false o reply e is = refl
none_by_procedure true true None reply e is = refl
none_by_procedure true true (Some p) reply e is = ap (λ (c : Bool). entries_if (c && has_succeeded reply) e) is

none_by_cred : (o : Option ℕ) (es : List Entry) → es ≡ [] → entries_by_cred o es ≡ []
none_by_cred None es is = is
none_by_cred (Some stat) es is = refl

none_by_call : (m : Moment) (payload reply : List ℕ) (r : Result CallHead ℕ) → may_change r ≡ false → entries_by_call m payload reply r ≡ []
none_by_call m payload reply (Ok (calls.Version2 xid prog vers proc cred args_at)) is =
    none_by_cred (cred_refusal cred) _ (none_by_procedure (eqb prog nfs_program) (eqb vers nfs_version) (nfs_procedure_of proc) reply _ is)
none_by_call m payload reply (Ok (calls.Other xid rpcvers)) is = refl
none_by_call m payload reply (Err at) is = refl

pub unchanging : (m : Moment) (payload reply : List ℕ) → may_change (call_of payload) ≡ false → entries_of_call m payload reply ≡ []
unchanging m payload reply is = none_by_call m payload reply (call_of payload) is

-- ===== one call more

-- the entries of the journal, alone
abbrev grows : (s : Setup) (T : List TaggedEntry) (client : ℕ) (m : Moment) (payload reply : List ℕ) → Type 0
grows s T client m payload reply = entries_alone (T ++ entries_added client m payload reply) ≡ entries_alone T ++ entries_of_call m payload reply

alone_added : (s : Setup) (T : List TaggedEntry) (client : ℕ) (m : Moment) (payload reply : List ℕ) → grows s T client m payload reply
alone_added s T client m payload reply =
    map-append (λ (t : TaggedEntry). t.entry) T (entries_added client m payload reply)
    ∙ ap (λ (l : List Entry). entries_alone T ++ l) (tagged_alone client (xid_in payload) (entries_of_call m payload reply))

-- what it remembers
pub executes_with : (s : Setup) (T : List TaggedEntry) (client : ℕ) (m : Moment) (payload reply : List ℕ) (place : ℕ) (new : PlainServerState) →
    ExecutesCall s (entries_alone T) m payload reply place new → RemembersAll (kept_replies s (T ++ entries_added client m payload reply)) new.cache →
    ExecutesTagged s T client m payload reply place new
executes_with s T client m payload reply place new is remembers = record {
  replied = is.replied;
  place_is = is.place_is ∙ length-map T (λ (t : TaggedEntry). t.entry);
  stands = record {
    journal = subst (λ (J : List Entry). RepresentsJournal s J new) (sym (alone_added s T client m payload reply)) is.stands;
    remembers = remembers;
  };
}

-- a call that adds no entry, or is of a client without a number
pub kept_none_added : (s : Setup) (T : List TaggedEntry) (client : ℕ) (m : Moment) (payload reply : List ℕ) → entries_of_call m payload reply ≡ [] →
    kept_replies s (T ++ entries_added client m payload reply) ≡ kept_replies s T
kept_none_added s T client m payload reply none =
    ap (λ (es : List Entry). kept_replies s (T ++ map (tagged client (xid_in payload)) es)) none ∙ ap (kept_replies s) (append-nil T)

-- a change of a client with a number
pub kept_one_added : (s : Setup) (T : List TaggedEntry) (client : ℕ) (m : Moment) (payload reply : List ℕ) (e : Entry) → client ≢ 0 → entries_of_call m payload reply ≡ e ∷ [] →
    reply ≡ (answer_of_entry s.parameters (state_of s (entries_alone T)) (xid_in payload) e).reply →
    kept_replies s (T ++ entries_added client m payload reply) ≡ kept_replies s T ++ record { client = client; xid = xid_in payload; place = length T; reply = reply } ∷ []
kept_one_added s T client m payload reply e numbered one is =
    ap (λ (es : List Entry). kept_replies s (T ++ map (tagged client (xid_in payload)) es)) one
    ∙ kept_append s.parameters (first_state s) 0 T (tagged client (xid_in payload) e ∷ [])
    ∙ ap (λ (E : List KeptEntry). kept_replies s T ++ E) (by (eqb client 0) refl)
  where
    by : (b : Bool) → eqb client 0 ≡ b →
        kept_entry s.parameters (state_of s (entries_alone T)) (0 + length T) (cond b (record { entry = e; client = 0; xid = 0 }) (record { entry = e; client = client; xid = xid_in payload })) ++ []
        ≡ record { client = client; xid = xid_in payload; place = length T; reply = reply } ∷ []
    by true same = absurd (numbered (eqb-true client 0 same))
    by false same =
        let at : 0 + length T ≡ length T = omega arith in
        ap (λ (n : ℕ). kept_entry s.parameters (state_of s (entries_alone T)) n (record { entry = e; client = client; xid = xid_in payload }) ++ []) at
        ∙ ap (λ (b : Bool). cond b [] (record { client = client; xid = xid_in payload; place = length T; reply = (answer_of_entry s.parameters (state_of s (entries_alone T)) (xid_in payload) e).reply } ∷ []) ++ []) same
        ∙ ap (λ (r : List ℕ). record { client = client; xid = xid_in payload; place = length T; reply = r } ∷ []) (sym is)
