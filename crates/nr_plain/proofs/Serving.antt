-- One more call of a procedure of NFS: what the server keeps then.
use Rattle.std.proofs.Common.{◌≡◌, ℕ, ◌+◌, ◌≤◌, ◌^◌, Bool, true, false, cond, eqb, ltb, List, [], ◌∷◌, ◌++◌, length, take, Option, None, Some, Result, Ok, Err, OnOk, refl, ap, sym, ◌∙◌, subst, arith}
use Rattle.std.proofs.Math.Seq.{take-length}
use Rattle.std.proofs.lemmas.Bool.{ltb-false}
use Rattle.std.proofs.lemmas.List.{length-append}
use Rattle.nr_nfs_base.specs.Codec.{read_all}
use Rattle.nr_nfs_base.specs.declared.procedure.NfsProcedure.{NfsProcedure}
use Rattle.nr_nfs_base.specs.declared.status.Status.TheVariants.{Nospc}
use Rattle.nr_nfs_args.specs.Arguments.{NfsArguments, MountArguments, nfs_arguments_codec, mount_arguments_codec}
use Rattle.nr_reduce.specs.declared.mark.Entry.{Entry}
use Rattle.nr_tree.specs.Tree.{Tree}
use Rattle.nr_tree.specs.Rules.{space_rule, entry_cost, IsWithinCapacity}
use Rattle.nr_tree.specs.Sane.{IsSane}
use Rattle.nr_tree.specs.Steps.{IsBelow, IsBounded}
use Rattle.nr_tree.specs.declared.rules.Space.{Space}
use Rattle.nr_tree.proofs.Bounds.{below_mono}
use Rattle.nr_tree.proofs.PassedRules.{clear}
use Rattle.nr_plain.specs.Setup.{Parameters, Setup, State, caller_of, time_of, space_of}
use Rattle.nr_plain.specs.private.Code.{reply_from, changes_from, tree_from}
use Rattle.nr_plain.specs.Journal.{nfs_procedure_of, next_state, state_after, state_of, tree_by_arguments, tree_by_procedure}
use Rattle.nr_nfs_base.specs.declared.procedure.MountProcedure.{MountProcedure}
use Rattle.nr_rpc.specs.declared.head.ReplyHead.TheVariants.{ProgMismatch}
use Rattle.nr_plain.specs.Replies.{Answer, nfs_by_arguments, entries_if, refusal, mount_by_arguments, mount_by_procedure, mount_procedure_of, mount_call, program_call}
use Rattle.nr_plain.specs.Stands.{PlainServerState, RepresentsJournal, IsServing, state_kept, state_after_answer}
use Rattle.nr_plain.proofs.Procedures.{tree_kept, entry_spaced, tree_below}

-- ===== numbers

pub serving_bounded : (k : PlainServerState) → IsServing k → IsBounded k.tree
serving_bounded k is = below_mono (2 ^ 62 + k.count) (2 ^ 63) k.tree (omega (arith, is.counted, is.within, is.capacity)) is.below

pub within_capacity : (k : PlainServerState) (args : List ℕ) → IsServing k → IsWithinCapacity (space_of k.parameters (state_kept k) args)
within_capacity k args is = (is.within, is.capacity)

spaced : (space : Space) → space_rule space ≡ None → space.used + entry_cost + space.arguments ≤ space.capacity
spaced space e = ltb-false space.capacity (space.used + entry_cost + space.arguments) (clear (ltb space.capacity (space.used + entry_cost + space.arguments)) Nospc e)

-- ===== one call

module _ (k : PlainServerState) (e : Entry) (xid : ℕ) (p : NfsProcedure) where
  abbrev space : Space
  space = space_of k.parameters (state_kept k) e.args

  abbrev arguments : Result (NfsArguments p) ℕ
  arguments = read_all (nfs_arguments_codec p) e.args

  abbrev answer : Answer
  answer = nfs_by_arguments k.parameters (state_kept k) xid e p arguments

  reply_by : (r : Result (NfsArguments p) ℕ) → (nfs_by_arguments k.parameters (state_kept k) xid e p r).reply ≡ reply_from xid k.tree (caller_of e.cred) space (time_of e.moment) p r
  reply_by (Ok a) = refl
  reply_by (Err at) = refl

  entries_by : (r : Result (NfsArguments p) ℕ) → (nfs_by_arguments k.parameters (state_kept k) xid e p r).entries ≡ entries_if (changes_from k.tree (caller_of e.cred) space (time_of e.moment) p r) e
  entries_by (Ok a) = refl
  entries_by (Err at) = refl

  tree_by : (r : Result (NfsArguments p) ℕ) → tree_by_arguments k.parameters (state_kept k) e p r ≡ tree_from k.tree (caller_of e.cred) space (time_of e.moment) p r
  tree_by (Ok a) = refl
  tree_by (Err at) = refl

  -- by what the code has of the call
  module _ (t : Tree) (s : Space) (same_tree : t ≡ k.tree) (room : s ≡ space) where
    pub reply_is : (reply : List ℕ) → reply ≡ reply_from xid t (caller_of e.cred) s (time_of e.moment) p arguments → reply ≡ answer.reply
    reply_is reply is = is ∙ (λ i. reply_from xid (same_tree i) (caller_of e.cred) (room i) (time_of e.moment) p arguments) ∙ sym (reply_by arguments)

    tree_is : (tree : Tree) → tree ≡ tree_from t (caller_of e.cred) s (time_of e.moment) p arguments → tree ≡ tree_from k.tree (caller_of e.cred) space (time_of e.moment) p arguments
    tree_is tree is = is ∙ (λ i. tree_from (same_tree i) (caller_of e.cred) (room i) (time_of e.moment) p arguments)

    changes_is : (b : Bool) → b ≡ changes_from t (caller_of e.cred) s (time_of e.moment) p arguments → b ≡ changes_from k.tree (caller_of e.cred) space (time_of e.moment) p arguments
    changes_is b is = is ∙ (λ i. changes_from (same_tree i) (caller_of e.cred) (room i) (time_of e.moment) p arguments)

    module _ (tree : Tree) (b : Bool) (after : tree ≡ tree_from t (caller_of e.cred) s (time_of e.moment) p arguments) (entry : b ≡ changes_from t (caller_of e.cred) s (time_of e.moment) p arguments) where
      same : b ≡ false → tree ≡ k.tree
      same no_entry = tree_is tree after ∙ tree_kept k.tree (caller_of e.cred) space (time_of e.moment) p arguments (sym (changes_is b entry) ∙ no_entry)

      pub costs : b ≡ true → k.cost + entry_cost + length e.args ≤ k.parameters.capacity
      costs is_entry = spaced space (entry_spaced k.tree (caller_of e.cred) space (time_of e.moment) p arguments (sym (changes_is b entry) ∙ is_entry))

      pub serving_entry : (n : ℕ) → n ≡ entry_cost + length e.args → b ≡ true → IsServing k → IsSane tree → IsServing (record { tree = tree; count = k.count + 1; cost = k.cost + n; parameters = k.parameters; cache = k.cache })
      serving_entry n costing is_entry is sane = record {
        sane = sane;
        below =
            let one : 2 ^ 62 + k.count + 1 ≡ 2 ^ 62 + (k.count + 1) = omega arith in
            subst (λ (l : ℕ). IsBelow l tree) one
            (subst (IsBelow (2 ^ 62 + k.count + 1)) (sym (tree_is tree after)) (tree_below k.tree (caller_of e.cred) space (time_of e.moment) (2 ^ 62 + k.count) p arguments is.below));
        counted = omega (arith, is.counted, costing);
        within = omega (arith, costs is_entry, costing);
        capacity = is.capacity;
        remembers = is.remembers;
      }

      pub serving_same : b ≡ false → IsServing k → IsServing (record { tree = tree; count = k.count; cost = k.cost; parameters = k.parameters; cache = k.cache })
      serving_same no_entry is = subst (λ (u : Tree). IsServing (record { tree = u; count = k.count; cost = k.cost; parameters = k.parameters; cache = k.cache })) (sym (same no_entry))
          (record { sane = is.sane; below = is.below; counted = is.counted; within = is.within; capacity = is.capacity; remembers = is.remembers })

      entries_are : (x : Bool) → b ≡ x → answer.entries ≡ entries_if x e
      entries_are x is = entries_by arguments ∙ ap (λ (y : Bool). entries_if y e) (sym (changes_is b entry) ∙ is)

      next_tree : nfs_procedure_of e.proc ≡ Some p → (next_state k.parameters (state_kept k) e).tree ≡ tree
      unfolding next_state
      next_tree of_number = ap (tree_by_procedure k.parameters (state_kept k) e) of_number ∙ tree_by arguments ∙ sym (tree_is tree after)

      next_cost : (next_state k.parameters (state_kept k) e).cost ≡ k.cost + (entry_cost + length e.args)
      unfolding next_state
      next_cost = refl

      pub entry_kept : (n : ℕ) → n ≡ entry_cost + length e.args → b ≡ true → nfs_procedure_of e.proc ≡ Some p → record { tree = tree; count = k.count + 1; cost = k.cost + n; parameters = k.parameters; cache = k.cache } ≡ state_after_answer k answer.entries
      entry_kept n costing is_entry of_number =
          (λ i. record { tree = sym (next_tree of_number) i; count = k.count + 1; cost = (ap (λ (m : ℕ). k.cost + m) costing ∙ sym next_cost) i; parameters = k.parameters; cache = k.cache }) ∙ ap (state_after_answer k) (sym (entries_are true is_entry))

      pub same_kept : b ≡ false → record { tree = tree; count = k.count; cost = k.cost; parameters = k.parameters; cache = k.cache } ≡ state_after_answer k answer.entries
      same_kept no_entry =
          let none : k.count ≡ k.count + 0 = omega arith in
          (λ i. record { tree = same no_entry i; count = none i; cost = k.cost; parameters = k.parameters; cache = k.cache }) ∙ ap (state_after_answer k) (sym (entries_are false no_entry))

-- ===== journals

pub state_append : (prm : Parameters) (st : State) (J K : List Entry) → state_after prm st (J ++ K) ≡ state_after prm (state_after prm st J) K
state_append prm st [] K = refl
state_append prm st (e ∷ J) K = state_append prm (next_state prm st e) J K

pub state_is : (s : Setup) (J : List Entry) (k : PlainServerState) → RepresentsJournal s J k → state_kept k ≡ state_of s J
state_is s J k is =
    let all : state_kept k ≡ state_of s (take (length J) J) = λ i. record { tree = is.tree i; cost = is.cost i } in
    all ∙ ap (state_of s) (take-length J)

pub stands_after : (s : Setup) (J : List Entry) (k : PlainServerState) (es : List Entry) → RepresentsJournal s J k → RepresentsJournal s (J ++ es) (state_after_answer k es)
stands_after s J k es is =
    let state : state_kept k ≡ state_of s J = state_is s J k is in
    let all : state_after k.parameters (state_kept k) es ≡ state_of s (take (length (J ++ es)) (J ++ es)) =
    (λ i. state_after (is.parameters i) (state i) es) ∙ sym (state_append s.parameters (record { tree = s.tree; cost = 0 }) J es) ∙ sym (ap (state_of s) (take-length (J ++ es))) in
    record {
      tree = ap (λ (st : State). st.tree) all;
      cost = ap (λ (st : State). st.cost) all;
      count = omega (arith, is.count, length-append J es);
      parameters = is.parameters;
    }

pub kept_none : (k : PlainServerState) → k ≡ state_after_answer k []
kept_none k = let none : k.count ≡ k.count + 0 = omega arith in λ i. record { tree = k.tree; count = none i; cost = k.cost; parameters = k.parameters; cache = k.cache }

-- ===== MOUNT adds no entry

mount_read : (prm : Parameters) (xid : ℕ) (p : MountProcedure) (r : Result (MountArguments p) ℕ) → (mount_by_arguments prm xid p r).entries ≡ []
mount_read prm xid p (Ok a) = refl
mount_read prm xid p (Err at) = refl

mount_procedure : (prm : Parameters) (xid : ℕ) (args : List ℕ) (o : Option MountProcedure) → (mount_by_procedure prm xid args o).entries ≡ []
mount_procedure prm xid args None = refl
mount_procedure prm xid args (Some p) = mount_read prm xid p (read_all (mount_arguments_codec p) args)

mount_version_by : (prm : Parameters) (xid : ℕ) (e : Entry) (b : Bool) → (cond b (mount_by_procedure prm xid e.args (mount_procedure_of e.proc)) (refusal (ProgMismatch xid 3 3))).entries ≡ []
mount_version_by prm xid e true = mount_procedure prm xid e.args (mount_procedure_of e.proc)
mount_version_by prm xid e false = refl

pub mount_none : (prm : Parameters) (xid vers : ℕ) (e : Entry) → (mount_call prm xid vers e).entries ≡ []
unfolding mount_call
mount_none prm xid vers e = mount_version_by prm xid e (eqb vers 3)

pub mount_kept : (k : PlainServerState) (xid vers : ℕ) (e : Entry) → k ≡ state_after_answer k (mount_call k.parameters xid vers e).entries
mount_kept k xid vers e = kept_none k ∙ ap (state_after_answer k) (sym (mount_none k.parameters xid vers e))

pub any_ok : {A E : Type 0} (r : Result A E) (P : Type 0) → P → OnOk r P
any_ok (Ok x) P holds = holds
any_ok (Err e) P holds = tt

pub mount_program_lem : {A E : Type 0} (r : Result A E) (k : PlainServerState) (xid prog vers : ℕ) (e : Entry) → prog ≡ 100005 → OnOk r (k ≡ state_after_answer k (program_call k.parameters (state_kept k) xid prog vers e).entries)
mount_program_lem r k xid prog vers e is = any_ok r _ (subst (λ (n : ℕ). k ≡ state_after_answer k (program_call k.parameters (state_kept k) xid n vers e).entries) (sym is) (mount_kept k xid vers e))
