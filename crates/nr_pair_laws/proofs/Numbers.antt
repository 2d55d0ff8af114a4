-- Each entry of a call costs at least entry_cost, and raises the next number by one at most.
use Rattle.std.proofs.Common.{◌≡◌, ℕ, zero, suc, ◌+◌, ◌*◌, ◌≤◌, ◌<◌, ◌^◌, Bool, true, false, cond, eqb, ltb, List, [], ◌∷◌, ◌++◌, length, take, drop, Option, None, Some, Result, Ok, Err, refl, ap, sym, ◌∙◌, subst, arith, append_assoc, append-nil, length-append}
use Rattle.std.proofs.Math.Seq.{take-length}
use Rattle.std.proofs.lemmas.Bool.{ltb-false}
use Rattle.std.proofs.lemmas.Option.{same_Some}
use Rattle.nr_outside.specs.declared.moment.Moment.{Moment}
use Rattle.nr_rpc.specs.Constants.{RPC_VERSION}
use Rattle.nr_rpc.specs.Reading.{call_of}
use Rattle.nr_rpc.specs.declared.head.CallHead.{CallHead}
use Rattle.nr_rpc.specs.declared.head.CallHead.TheVariants as calls
use Rattle.nr_rpc.specs.declared.head.ReplyHead.TheVariants as replies
use Rattle.nr_nfs_base.specs.Codec.{read_all}
use Rattle.nr_nfs_base.specs.Procedures.{mount_program, nfs_program, nfs_version}
use Rattle.nr_nfs_base.specs.declared.procedure.NfsProcedure.{NfsProcedure}
use Rattle.nr_nfs_base.specs.declared.status.Status.TheVariants.{Nospc}
use Rattle.nr_nfs_args.specs.Arguments.{NfsArguments, nfs_arguments_codec}
use Rattle.nr_reduce.specs.declared.mark.Entry.{Entry}
use Rattle.nr_tree.specs.Roots.{root_only}
use Rattle.nr_tree.specs.Rules.{entry_cost, space_rule}
use Rattle.nr_tree.specs.Steps.{IsBelow}
use Rattle.nr_tree.specs.declared.rules.Space.{Space}
use Rattle.nr_tree.proofs.Bounds.{below_mono, below_next}
use Rattle.nr_tree.proofs.DrillLemmas.{below_root_only}
use Rattle.nr_tree.proofs.PassedRules.{clear}
use Rattle.nr_plain.specs.Added.{entries_of_call}
use Rattle.nr_plain.specs.History.{AreOfCalls, IsOfCall}
use Rattle.nr_plain.specs.Journal.{first_state, next_state, nfs_procedure_of, state_of, tree_at, tree_by_arguments, tree_by_procedure}
use Rattle.nr_plain.specs.Programs.{is_change, nfs_results}
use Rattle.nr_plain.specs.Replies.{Answer, accepted, answer_by, answer_to, call_by_cred, cred_refusal, entries_if, mount_call, nfs_by_arguments, nfs_by_procedure, nfs_call, plain_answer, program_call, refusal}
use Rattle.nr_plain.specs.Setup.{Parameters, Setup, State, caller_of, space_of, time_of}
use Rattle.nr_plain.proofs.Added.{answer_of_reply}
use Rattle.nr_plain.proofs.Procedures.{entry_spaced, tree_below}
use Rattle.nr_plain.proofs.Serving.{mount_none, state_append}
use Rattle.nr_pair_laws.specs.Numbers.{NumbersOfCallsFit, RootsAreBelow}

-- ---- The cost of an entry

spaced : (space : Space) → space_rule space ≡ None → space.used + entry_cost + space.arguments ≤ space.capacity
spaced space e = ltb-false space.capacity (space.used + entry_cost + space.arguments) (clear (ltb space.capacity (space.used + entry_cost + space.arguments)) Nospc e)

module _ (prm : Parameters) (st : State) (e : Entry) where
  -- there is room for an entry
  abbrev HasRoom : Entry → Type 0
  HasRoom x = st.cost + entry_cost + length x.args ≤ prm.capacity

  -- an answer that adds this entry alone says that there is room for it
  abbrev Costs : Answer → Type 0
  Costs answer = answer.entries ≡ e ∷ [] → HasRoom e

  no_entry : (answer : Answer) → answer.entries ≡ [] → Costs answer
  no_entry answer none is = absurd (let wrong : [] ≡ e ∷ [] = sym none ∙ is in cc)

  the_entry : (b : Bool) (x : Entry) → entries_if b x ≡ e ∷ [] → (b ≡ true → HasRoom x) → HasRoom e
  the_entry true x is room = let same : x ≡ e = cc in subst HasRoom same (room refl)
  the_entry false x is room = absurd cc

  either : (b : Bool) (x y : Answer) → Costs x → Costs y → Costs (cond b x y)
  either true x y of_x of_y = of_x
  either false x y of_x of_y = of_y

  by_arguments : (xid : ℕ) (x : Entry) (p : NfsProcedure) (r : Result (NfsArguments p) ℕ) → Costs (nfs_by_arguments prm st xid x p r)
  by_arguments xid x p (Ok a) is =
      let space : Space = space_of prm st x.args in
      the_entry (is_change p (nfs_results st.tree (caller_of x.cred) space (time_of x.moment) p a)) x is
      (λ changes. spaced space (entry_spaced st.tree (caller_of x.cred) space (time_of x.moment) p (Ok a) changes))
  by_arguments xid x p (Err at) is = absurd cc

  by_procedure : (xid : ℕ) (x : Entry) (o : Option NfsProcedure) → Costs (nfs_by_procedure prm st xid x o)
  by_procedure xid x None is = absurd cc
  by_procedure xid x (Some p) is = by_arguments xid x p (read_all (nfs_arguments_codec p) x.args) is

  by_version : (xid vers : ℕ) (x : Entry) → Costs (nfs_call prm st xid vers x)
  unfolding nfs_call
  by_version xid vers x =
      either (eqb vers nfs_version) (nfs_by_procedure prm st xid x (nfs_procedure_of x.proc)) (refusal (replies.ProgMismatch xid nfs_version nfs_version))
      (by_procedure xid x (nfs_procedure_of x.proc)) (no_entry (refusal (replies.ProgMismatch xid nfs_version nfs_version)) refl)

  by_program : (xid prog vers : ℕ) (x : Entry) → Costs (program_call prm st xid prog vers x)
  by_program xid prog vers x =
      let others : Answer = cond (eqb prog mount_program) (mount_call prm xid vers x) (refusal (accepted xid 1)) in
      either (eqb prog nfs_program) (nfs_call prm st xid vers x) others (by_version xid vers x)
      (either (eqb prog mount_program) (mount_call prm xid vers x) (refusal (accepted xid 1)) (no_entry (mount_call prm xid vers x) (mount_none prm xid vers x)) (no_entry (refusal (accepted xid 1)) refl))

  by_cred : (o : Option ℕ) (xid : ℕ) (answer : Answer) → Costs answer → Costs (call_by_cred o xid answer)
  by_cred None xid answer of_answer = of_answer
  by_cred (Some stat) xid answer of_answer = no_entry (refusal (replies.AuthError xid stat)) refl

  by_head : (m : Moment) (payload : List ℕ) (head : CallHead) → Costs (answer_to prm st m payload head)
  by_head m payload (calls.Version2 xid prog vers proc cred args_at) =
      let x : Entry = record { moment = m; cred = cred; proc = proc; args = drop args_at payload } in
      by_cred (cred_refusal cred) xid (program_call prm st xid prog vers x) (by_program xid prog vers x)
  by_head m payload (calls.Other xid rpcvers) = no_entry (refusal (replies.RpcMismatch xid RPC_VERSION RPC_VERSION)) refl

  by_call : (m : Moment) (payload : List ℕ) (r : Result CallHead ℕ) (answer : Answer) → answer_by prm st m payload r ≡ Some answer → Costs answer
  by_call m payload (Ok head) answer is = subst Costs (same_Some (answer_to prm st m payload head) answer is) (by_head m payload head)
  by_call m payload (Err at) answer is = absurd cc

  -- ---- The tree after an entry

  below_arguments : (limit : ℕ) (p : NfsProcedure) (r : Result (NfsArguments p) ℕ) → IsBelow limit st.tree → IsBelow (limit + 1) (tree_by_arguments prm st e p r)
  below_arguments limit p (Ok a) below = tree_below st.tree (caller_of e.cred) (space_of prm st e.args) (time_of e.moment) limit p (Ok a) below
  below_arguments limit p (Err at) below = below_next limit st.tree below

  below_procedure : (limit : ℕ) (o : Option NfsProcedure) → IsBelow limit st.tree → IsBelow (limit + 1) (tree_by_procedure prm st e o)
  below_procedure limit None below = below_next limit st.tree below
  below_procedure limit (Some p) below = below_arguments limit p (read_all (nfs_arguments_codec p) e.args) below

  below_after_entry : (limit : ℕ) → IsBelow limit st.tree → IsBelow (limit + 1) (next_state prm st e).tree
  unfolding next_state
  below_after_entry limit below = below_procedure limit (nfs_procedure_of e.proc) below

  cost_after_entry : (next_state prm st e).cost ≡ st.cost + (entry_cost + length e.args)
  unfolding next_state
  cost_after_entry = refl

-- ---- The journal

-- by as many entries the next number grew at most, and so much they cost
record IsCounted (prm : Parameters) (n : ℕ) (st : State) : Type 0 where
  below : IsBelow (2 ^ 62 + n) st.tree
  counted : entry_cost * n ≤ st.cost
  within : st.cost ≤ prm.capacity

module _ (s : Setup) where
  one_more : (J : List Entry) (e : Entry) → IsOfCall s J e → IsCounted s.parameters (length J) (state_of s J) → IsCounted s.parameters (length (J ++ e ∷ [])) (state_of s (J ++ e ∷ []))
  one_more J e of is =
      let st : State = state_of s J in
      let all : take (length J) J ≡ J = take-length J in
      let answer : plain_answer s.parameters st of.moment of.payload ≡ Some (record { reply = of.reply; entries = entries_of_call of.moment of.payload of.reply }) =
      ap (λ (l : List Entry). plain_answer s.parameters (state_of s l) of.moment of.payload) (sym all) ∙ answer_of_reply s J (length J) of.moment of.payload of.reply of.replied in
      let room : st.cost + entry_cost + length e.args ≤ s.parameters.capacity = by_call s.parameters st e of.moment of.payload (call_of of.payload) _ answer of.adds in
      let cost = cost_after_entry s.parameters st e in
      let state : state_of s (J ++ e ∷ []) ≡ next_state s.parameters st e = state_append s.parameters (first_state s) J (e ∷ []) in
      let many : length (J ++ e ∷ []) ≡ suc (length J) = length-append J (e ∷ []) ∙ (let one : length J + 1 ≡ suc (length J) = omega arith in one) in
      subst (λ (n : ℕ). IsCounted s.parameters n (state_of s (J ++ e ∷ []))) (sym many)
      (subst (λ (x : State). IsCounted s.parameters (suc (length J)) x) (sym state) (record {
        below = below_mono (2 ^ 62 + length J + 1) (2 ^ 62 + suc (length J)) (next_state s.parameters st e).tree (omega arith) (below_after_entry s.parameters st e (2 ^ 62 + length J) is.below);
        counted = omega (arith, is.counted, cost);
        within = omega (arith, room, cost);
      }))

  counted_at : (J more : List Entry) (k : ℕ) → AreOfCalls s J more → IsCounted s.parameters (length J) (state_of s J) → (n : ℕ) × IsCounted s.parameters n (state_of s (J ++ take k more))
  counted_at J more zero calls is = (length J, subst (λ (l : List Entry). IsCounted s.parameters (length J) (state_of s l)) (sym (append-nil J)) is)
  counted_at J [] (suc k) calls is = (length J, subst (λ (l : List Entry). IsCounted s.parameters (length J) (state_of s l)) (sym (append-nil J)) is)
  counted_at J (e ∷ more) (suc k) (one, rest) is =
      let later = counted_at (J ++ e ∷ []) more k rest (one_more J e one is) in
      (later.0, subst (λ (l : List Entry). IsCounted s.parameters later.0 (state_of s l)) (append_assoc J (e ∷ []) (take k more)) later.1)

-- the next number and the next cookies, at each place
pub below_at : (s : Setup) (J : List Entry) → AreOfCalls s [] J → IsBelow (2 ^ 62) s.tree → s.parameters.capacity < 2 ^ 63 → (k : ℕ) → IsBelow (2 ^ 63) (tree_at s J k)
below_at s J calls below few k =
    let first : IsCounted s.parameters 0 (state_of s []) = record {
      below = below_mono (2 ^ 62) (2 ^ 62 + 0) s.tree (omega arith) below;
      counted = omega arith;
      within = omega arith;
    } in
    let there = counted_at s [] J k calls first in
    below_mono (2 ^ 62 + there.0) (2 ^ 63) (tree_at s J k) (omega (arith, there.1.counted, there.1.within, few)) there.1.below

pub numbers_of_calls_fit_lem : NumbersOfCallsFit
numbers_of_calls_fit_lem s J calls below few k = let there = below_at s J calls below few k in omega (arith, there.next)

pub roots_are_below_lem : RootsAreBelow
roots_are_below_lem now = below_mono 3 (2 ^ 62) (root_only now) (omega arith) (below_root_only now)
