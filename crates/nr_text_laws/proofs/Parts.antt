-- Requests of a command whose calls are answered at places of a journal: one call, MNT, and a request that has its result.
use Rattle.std.proofs.Common.{◌≡◌, ℕ, suc, ◌≤◌, Bool, true, false, cond, List, [], ◌∷◌, ◌++◌, length, Result, Ok, Err, inl, inr, refl, sym, ap, subst, ◌∙◌, arith}
use Rattle.std.specs.Prelude.{◌⊎◌, MatchBool, nat_eq, nat_lt}
use Rattle.std.specs.Cmp.Lexicographic.{pointwise}
use Rattle.std.proofs.lemmas.Bool.{ltb-false}
use Rattle.nr_nfs_base.specs.declared.mount_status.MountStatus.TheVariants as mount_status
use Rattle.nr_reduce.specs.declared.call.Call.{Call}
use Rattle.nr_reduce.specs.declared.call.Outcome.{Outcome}
use Rattle.nr_reduce.specs.declared.mark.Entry.{Entry}
use Rattle.nr_tree.specs.Tree.{Tree}
use Rattle.nr_plain.specs.Journal.{tree_at}
use Rattle.nr_plain.specs.Setup.{Setup}
use Rattle.nr_plain.proofs.Lengths.{length_handle}
use Rattle.nr_words.specs.Limits.{mount_path_max}
use Rattle.nr_client.specs.declared.client_end.ClientEnd.{ClientEnd}
use Rattle.nr_client.specs.declared.client_end.ClientEnd.TheVariants as client
use Rattle.nr_client.specs.Following.{EndsWith, MakesCalls, Next, Unanswered}
use Rattle.nr_client.specs.Following.Next.{Calls, Returns}
use Rattle.nr_client.specs.Requests.{mnt_call, mnt_result}
use Rattle.nr_client.specs.Results.{Gives}
use Rattle.nr_client.specs.Views.{LinkView}
use Rattle.nr_commands.specs.Sessions.{Fails, Request, SessionAt}
use Rattle.nr_service_laws.specs.Exchanges.{Exchange, end_exchanges, made_exchanges, tells_mounts, tells_request, within_exchanges}
use Rattle.nr_reply_laws.specs.Replies.{AreIds}
use Rattle.nr_pair_laws.specs.Pairs.{AreAnsweredFrom, IsAnsweredAt, place_after}
use Rattle.nr_pair_laws.specs.PutThenGet.{root_handle}
use Rattle.nr_text_laws.specs.CommandTexts.{IsUnanswered, root_of}
use Rattle.nr_text_laws.proofs.Replies.{mount_there}

-- ---- Ends

-- a result is what was read, unless memory ran out
pub given : {A : Type 0} (result read : Result A ClientEnd) → Gives result read → IsUnanswered result ⊎ (result ≡ read)
given (Ok value) read gives = inr (sym gives)
given (Err client.DialFault) read gives = inr (sym gives)
given (Err (client.Link end)) read gives = inl tt
given (Err (client.Rpc kind code)) read gives = inr (sym gives)
given (Err (client.Mount status)) read gives = inr (sym gives)
given (Err (client.Nfs status)) read gives = inr (sym gives)
given (Err client.Chunk) read gives = inr (sym gives)
given (Err (client.Version low high)) read gives = inr (sym gives)
given (Err (client.BadReply at reason)) read gives = inr (sym gives)
given (Err (client.BadPath at)) read gives = inr (sym gives)
given (Err client.InputFault) read gives = inr (sym gives)
given (Err client.OutputFault) read gives = inr (sym gives)
given (Err (client.Budget count)) read gives = inr (sym gives)
given (Err client.Memory) read gives = inl tt

-- an end of a part is one of the whole
pub same_end : (A : Type 0) {B : Type 0} (end : ClientEnd) (result : Result B ClientEnd) → result ≡ Err end → IsUnanswered {A = A} (Err end) → IsUnanswered result
same_end A {B} end result is un = subst (λ (r : Result B ClientEnd). IsUnanswered r) (sym is) (by end un)
  where
    by : (e : ClientEnd) → IsUnanswered {A = A} (Err e) → IsUnanswered {A = B} (Err e)
    by client.DialFault u = u
    by (client.Link cause) u = u
    by (client.Rpc kind code) u = u
    by (client.Mount status) u = u
    by (client.Nfs status) u = u
    by client.Chunk u = u
    by (client.Version low high) u = u
    by (client.BadReply at reason) u = u
    by (client.BadPath at) u = u
    by client.InputFault u = u
    by client.OutputFault u = u
    by (client.Budget count) u = u
    by client.Memory u = u

pub no_answer : {A : Type 0} (call : Call) (b b' : LinkView) (end : ClientEnd) (result : Result A ClientEnd) → result ≡ Err end → Unanswered call b b' end → IsUnanswered result
no_answer {A} call b b' end result is (inl (cause, (same, gone))) = subst (λ (r : Result A ClientEnd). IsUnanswered r) (sym (is ∙ ap (λ (e : ClientEnd). Err e) same)) tt
no_answer {A} call b b' end result is (inr (same, still)) = subst (λ (r : Result A ClientEnd). IsUnanswered r) (sym (is ∙ ap (λ (e : ClientEnd). Err e) same)) tt

-- ---- Requests

-- where the calls of a part are, and what it has then; the exchanges after it are answered from its last place on
pub record IsPlaced {A : Type 0} (s : Setup) (J : List Entry) (finds : (trees : ℕ → Tree) → Result A ClientEnd) (from : ℕ) (result : Result A ClientEnd) (rest : List Exchange) : Type 0 where
  pub places : ℕ → ℕ
  pub last : ℕ
  pub first : from ≤ places 0
  pub rise : (i : ℕ) → places i ≤ places (suc i)
  pub ends : (i : ℕ) → places i ≤ last
  pub is : result ≡ finds (λ i. tree_at s J (places i))
  pub later : AreAnsweredFrom s J last [] rest

-- a call that is answered at a place, and how its outcome is read
pub record IsAsked {A : Type 0} (s : Setup) (J : List Entry) (reads : Outcome → Result A ClientEnd) (call : Call) (from : ℕ) (result : Result A ClientEnd) (rest : List Exchange) : Type 0 where
  pub outcome : Outcome
  pub place : ℕ
  pub answered : IsAnsweredAt s J call outcome place
  pub low : from ≤ place
  pub is : result ≡ reads outcome
  pub later : AreAnsweredFrom s J (place_after s J call outcome place answered) [] rest

pub asked : {A : Type 0} (s : Setup) (J : List Entry) (reads : Outcome → Result A ClientEnd) (call : Call) (t t' : SessionAt) (result : Result A ClientEnd) (is : Request reads call t t' result) (from : ℕ) (rest : List Exchange)
    → AreAnsweredFrom s J from [] ((tells_request reads call t t' result is).made ++ rest) → IsUnanswered result ⊎ IsAsked s J reads call from result rest
asked {A} s J reads call t t' result (inl (o, (answers, gives)), counts) from rest (place, (a, (low, later))) = by (given result (reads o) gives)
  where
    by : IsUnanswered result ⊎ (result ≡ reads o) → IsUnanswered result ⊎ IsAsked s J reads call from result rest
    by (inl un) = inl un
    by (inr same) = inr (record { outcome = o; place = place; answered = a; low = low; is = same; later = later })
asked {A} s J reads call t t' result (inr (inl (cause, (same, gone))), counts) from rest are = inl (subst (λ (r : Result A ClientEnd). IsUnanswered r) (sym same) tt)
asked {A} s J reads call t t' result (inr (inr (same, still)), counts) from rest are = inl (subst (λ (r : Result A ClientEnd). IsUnanswered r) (sym same) tt)

-- what a request exchanges, and then more
abbrev pub exchanged : {A : Type 0} (request : List Outcome → Next A) (outcomes : List Outcome) (b m b' : LinkView) (result : Result A ClientEnd) (made : MakesCalls request outcomes b m)
    (ends : EndsWith (request outcomes) m b' result) → List Exchange → List Exchange
exchanged request outcomes b m b' result made ends rest = ((made_exchanges request outcomes b m made).made ++ (end_exchanges (request outcomes) m b' result ends).made) ++ rest

-- a request that makes no call
pub returned : {A : Type 0} (s : Setup) (J : List Entry) (r : Result A ClientEnd) (outcomes : List Outcome) (b m b' : LinkView) (result : Result A ClientEnd)
    (made : MakesCalls (λ later. Returns r) outcomes b m) (ends : EndsWith (Returns r) m b' result) (from : ℕ) (rest : List Exchange)
    → AreAnsweredFrom s J from [] (((made_exchanges (λ later. Returns r) outcomes b m made).made ++ (end_exchanges (Returns r) m b' result ends).made) ++ rest)
    → IsUnanswered result ⊎ ((result ≡ r) × AreAnsweredFrom s J from [] rest)
returned {A} s J r [] b m b' result made ends from rest are = by (given result r ends.0)
  where
    by : IsUnanswered result ⊎ (result ≡ r) → IsUnanswered result ⊎ ((result ≡ r) × AreAnsweredFrom s J from [] rest)
    by (inl un) = inl un
    by (inr same) = inr (same, are)
returned {A} s J r (o ∷ outcomes) b m b' result (call, c, (is, more)) ends from rest are = absurd (let wrong : Returns r ≡ Calls call = is in cc)

-- ---- MNT

pub root_is : (above same : Bool) (root : List ℕ) → Ok root ≡ cond above (Err (client.Budget mount_path_max)) (cond same (Ok root_handle) (Err (client.Mount mount_status.Noent))) → root ≡ root_handle
root_is true same root is = absurd (let wrong = is in cc)
root_is false true root is = let root_same : root ≡ root_handle = cc in root_same
root_is false false root is = absurd (let wrong = is in cc)

pub root_long : (above same : Bool) (root : List ℕ) → Ok root ≡ cond above (Err (client.Budget mount_path_max)) (cond same (Ok root_handle) (Err (client.Mount mount_status.Noent))) → length root ≡ 8
root_long above same root is = ap length (root_is above same root is) ∙ length_handle 1

-- the root, and the place from which the calls after MNT are answered
pub record IsMounted (s : Setup) (J : List Entry) (export : List ℕ) (from : ℕ) (result : Result (List ℕ) ClientEnd) (rest : List Exchange) : Type 0 where
  pub place : ℕ
  pub low : from ≤ place
  pub is : result ≡ root_of s.parameters.export export
  pub later : AreAnsweredFrom s J place [] rest

module _ (s : Setup) (J : List Entry) (uid gid : ℕ) (ids : AreIds uid gid) where
  mounted_by : (above : Bool) (export : List ℕ) → nat_lt mount_path_max (length export) ≡ above → (t t' : SessionAt) (result : Result (List ℕ) ClientEnd)
      (is : MatchBool above (Fails (client.Budget mount_path_max) t t' result) (Request mnt_result (mnt_call uid gid export) t t' result)) (from : ℕ) (rest : List Exchange)
      → AreAnsweredFrom s J from [] ((within_exchanges above (Fails (client.Budget mount_path_max) t t' result) (Request mnt_result (mnt_call uid gid export) t t' result)
      (tells_request mnt_result (mnt_call uid gid export) t t' result) is).made ++ rest)
      → IsUnanswered result ⊎ IsMounted s J export from result rest
  mounted_by true export long t t' result (still, is) from rest are =
      inr (record {
        place = from;
        low = omega arith;
        is = is ∙ ap (λ (b : Bool). cond b (Err (client.Budget mount_path_max)) (cond (pointwise nat_eq export s.parameters.export) (Ok root_handle) (Err (client.Mount mount_status.Noent)))) (sym long);
        later = are;
      })
  mounted_by false export short t t' result is from rest are = by (asked s J mnt_result (mnt_call uid gid export) t t' result is from rest are)
    where
      by : IsUnanswered result ⊎ IsAsked s J mnt_result (mnt_call uid gid export) from result rest → IsUnanswered result ⊎ IsMounted s J export from result rest
      by (inl un) = inl un
      by (inr a) =
          let few = ltb-false mount_path_max (length export) short in
          let there = mount_there s J uid gid ids export a.outcome a.place few a.answered in
          inr (record {
            place = a.place;
            low = a.low;
            is = a.is ∙ there.0
                ∙ ap (λ (b : Bool). cond b (Err (client.Budget mount_path_max)) (cond (pointwise nat_eq export s.parameters.export) (Ok root_handle) (Err (client.Mount mount_status.Noent)))) (sym short);
            later = subst (λ (k : ℕ). AreAnsweredFrom s J k [] rest) there.1 a.later;
          })

  pub mounted : (export : List ℕ) (t t' : SessionAt) (result : Result (List ℕ) ClientEnd)
      (is : MatchBool (nat_lt mount_path_max (length export)) (Fails (client.Budget mount_path_max) t t' result) (Request mnt_result (mnt_call uid gid export) t t' result)) (from : ℕ) (rest : List Exchange)
      → AreAnsweredFrom s J from [] ((tells_mounts uid gid export t t' result is).made ++ rest) → IsUnanswered result ⊎ IsMounted s J export from result rest
  mounted export t t' result is from rest are = mounted_by (nat_lt mount_path_max (length export)) export refl t t' result is from rest are
