-- A call adds one entry to the journal or none.
use Rattle.std.proofs.Common.{◌≡◌, ℕ, ◌<◌, ◌≤◌, Bool, true, false, List, [], ◌∷◌, ◌++◌, length, Option, None, Some, Result, Ok, Err, ◌⊎◌, inl, inr, ⊎_elim, arith, refl, ap}
use Rattle.std.specs.Prelude.{if◌then◌else◌}
use Rattle.std.proofs.lemmas.List.{length-append}
use Rattle.nr_outside.specs.declared.moment.Moment.{Moment}
use Rattle.nr_rpc.specs.Reading.{call_of}
use Rattle.nr_rpc.specs.declared.head.CallHead.{CallHead}
use Rattle.nr_rpc.specs.declared.head.CallHead.TheVariants as calls
use Rattle.nr_nfs_base.specs.declared.procedure.NfsProcedure.{NfsProcedure}
use Rattle.nr_reduce.specs.declared.mark.Entry.{Entry}
use Rattle.nr_plain.specs.Journal.{nfs_procedure_of}
use Rattle.nr_plain.specs.Replies.{entries_if, cred_refusal}
use Rattle.nr_plain.specs.Added.{entries_by_procedure, entries_by_cred, entries_by_head, entries_by_call, entries_of_call}
use Rattle.nr_plain.specs.History.{AddsOne, AddsNone, CallsAddOneEntryAtMost}

abbrev pub IsFew : List Entry → Type 0
IsFew es = (es ≡ []) ⊎ ((e : Entry) × (es ≡ e ∷ []))

few_if : (b : Bool) (e : Entry) → IsFew (entries_if b e)
few_if true e = inr (e, refl)
few_if false e = inl refl

few_procedure : (p : Option NfsProcedure) (reply : List ℕ) (e : Entry) → IsFew (entries_by_procedure p reply e)
few_procedure None reply e = inl refl
few_procedure (Some p) reply e = few_if _ e

few_of : (b : Bool) (es : List Entry) → IsFew es → IsFew (if b then es else [])
few_of true es few = few
few_of false es few = inl refl

few_cred : (o : Option ℕ) (es : List Entry) → IsFew es → IsFew (entries_by_cred o es)
few_cred None es few = few
few_cred (Some stat) es few = inl refl

few_head : (m : Moment) (payload reply : List ℕ) (head : CallHead) → IsFew (entries_by_head m payload reply head)
few_head m payload reply (calls.Version2 xid prog vers proc cred args_at) = few_cred (cred_refusal cred) _ (few_of _ _ (few_procedure (nfs_procedure_of proc) reply _))
few_head m payload reply (calls.Other xid rpcvers) = inl refl

few_call : (m : Moment) (payload reply : List ℕ) (r : Result CallHead ℕ) → IsFew (entries_by_call m payload reply r)
few_call m payload reply (Ok head) = few_head m payload reply head
few_call m payload reply (Err at) = inl refl

pub few : (m : Moment) (payload reply : List ℕ) → IsFew (entries_of_call m payload reply)
few m payload reply = few_call m payload reply (call_of payload)

pub one_at_most : CallsAddOneEntryAtMost
one_at_most m payload reply = ⊎_elim
    (λ (none : entries_of_call m payload reply ≡ []). let n = ap length none in (let short : length (entries_of_call m payload reply) ≤ 1 = omega (arith, n) in short))
    (λ (one : AddsOne m payload reply). let n = ap length one.1 in (let short : length (entries_of_call m payload reply) ≤ 1 = omega (arith, n) in short))
    (few m payload reply)

module _ (m : Moment) (payload reply : List ℕ) (J : List Entry) (len place : ℕ) (len_is : len ≡ length (J ++ entries_of_call m payload reply)) (place_is : place ≡ length J) where
  pub adds_one : place < len → AddsOne m payload reply
  adds_one more = ⊎_elim
      (λ (none : entries_of_call m payload reply ≡ []). absurd (
      let all = length-append J (entries_of_call m payload reply) in let short = ap length none in omega (arith, more, len_is, place_is, all, short)))
      (λ (one : AddsOne m payload reply). one)
      (few m payload reply)

  pub adds_none : (place < len → ⊥) → AddsNone m payload reply
  adds_none never = ⊎_elim
      (λ (none : entries_of_call m payload reply ≡ []). none)
      (λ (one : AddsOne m payload reply). absurd (never (
      let all = length-append J (entries_of_call m payload reply) in let long = ap length one.1 in omega (arith, len_is, place_is, all, long))))
      (few m payload reply)
