-- A request, by how its call ended.
use Rattle.std.proofs.Common.{◌≡◌, ℕ, ◌≤◌, ◌==◌, Bool, true, false, if◌then◌else◌, List, length, Result, Ok, Err, IfErr, IfOk, arith, sym, ap, subst}
use Rattle.std.proofs.lemmas.List.{length-append}
use Rattle.nr_xdr.specs.declared.fault.Memory.{Memory}
use Rattle.nr_rpc.specs.Constants.{GIDS_MAX, MACHINE_MAX}
use Rattle.nr_rpc.specs.Credential.{CanWriteCred}
use Rattle.nr_rpc.specs.Reading.{reply_of}
use Rattle.nr_rpc.specs.Reply.{BeginsReply}
use Rattle.nr_rpc.specs.declared.head.ReplyHead.{ReplyHead}
use Rattle.nr_rpc.specs.declared.head.ReplyHead.TheVariants as heads
use Rattle.nr_nfs_base.specs.Codec.{Codec}
use Rattle.nr_reduce.specs.declared.call.Call.{Call}
use Rattle.nr_client.specs.declared.client_end.ClientEnd.{ClientEnd}
use Rattle.nr_client.specs.declared.client_end.ClientEnd.TheVariants as client
use Rattle.nr_client.specs.declared.client_end.RpcKind.TheVariants as kinds
use Rattle.nr_client.specs.Relations.{CallRelations}
use Rattle.nr_client.specs.Requests.{CountsFaultsOver, client_call, machine}
use Rattle.nr_client.specs.Results.{Gives, IsOfCall, IsOfReply, result_by_reading, result_of_reply, results_in, results_or, results_start}
use Rattle.nr_client.proofs.Sequences.{gives_itself}

-- the results from where they begin, or an end
abbrev results_then : {A : Type 0} → Codec A → List ℕ → Result ℕ ClientEnd → Result A ClientEnd
results_then codec payload (Ok at) = results_or (results_in codec payload at)
results_then codec payload (Err end) = Err end

-- results begin within the reply
pub begins_within : (head : ReplyHead) (xid stat at : ℕ) (bytes : List ℕ) → head ≡ heads.Accepted xid stat at → BeginsReply head bytes → at ≤ length bytes
begins_within head xid stat at bytes same begins =
    let (front, behind, reads, is) = subst (λ (h : ReplyHead). BeginsReply h bytes) same begins in
    let all = ap length is in
    let len = reads.accepted.1 in
    omega (arith, len, all, length-append front behind)

-- ---- The results that a reply is read as, by where they begin

by_status : {A : Type 0} (codec : Codec A) (payload : List ℕ) (stat place at : ℕ) (b : Bool) → (if b then Ok place else Err (client.Rpc kinds.Accept stat)) ≡ Ok at
    → (if b then results_or (results_in codec payload place) else Err (client.Rpc kinds.Accept stat)) ≡ results_or (results_in codec payload at)
by_status codec payload stat place at true is = ap (λ (r : Result ℕ ClientEnd). results_then codec payload r) is
by_status codec payload stat place at false is = absurd cc

no_status : {A : Type 0} (codec : Codec A) (payload : List ℕ) (stat place : ℕ) (end : ClientEnd) (b : Bool) → (if b then Ok place else Err (client.Rpc kinds.Accept stat)) ≡ Err end
    → (if b then results_or (results_in codec payload place) else Err (client.Rpc kinds.Accept stat)) ≡ Err end
no_status codec payload stat place end true is = absurd cc
no_status codec payload stat place end false is = ap (λ (r : Result ℕ ClientEnd). results_then codec payload r) is

pub starts_at : {A : Type 0} (codec : Codec A) (payload : List ℕ) (read : Result ReplyHead ℕ) (at : ℕ) → results_start read ≡ Ok at → result_by_reading codec payload read ≡ results_or (results_in codec payload at)
starts_at codec payload (Ok (heads.Accepted xid stat place)) at is = by_status codec payload stat place at (stat == 0) is
starts_at codec payload (Ok (heads.ProgMismatch xid low high)) at is = absurd cc
starts_at codec payload (Ok (heads.RpcMismatch xid low high)) at is = absurd cc
starts_at codec payload (Ok (heads.AuthError xid stat)) at is = absurd cc
starts_at codec payload (Err place) at is = absurd cc

pub starts_nowhere : {A : Type 0} (codec : Codec A) (payload : List ℕ) (read : Result ReplyHead ℕ) (end : ClientEnd) → results_start read ≡ Err end → result_by_reading codec payload read ≡ Err end
starts_nowhere codec payload (Ok (heads.Accepted xid stat place)) end is = no_status codec payload stat place end (stat == 0) is
starts_nowhere codec payload (Ok (heads.ProgMismatch xid low high)) end is = ap (λ (r : Result ℕ ClientEnd). results_then codec payload r) is
starts_nowhere codec payload (Ok (heads.RpcMismatch xid low high)) end is = ap (λ (r : Result ℕ ClientEnd). results_then codec payload r) is
starts_nowhere codec payload (Ok (heads.AuthError xid stat)) end is = ap (λ (r : Result ℕ ClientEnd). results_then codec payload r) is
starts_nowhere codec payload (Err place) end is = ap (λ (r : Result ℕ ClientEnd). results_then codec payload r) is

pub gives_results : {A : Type 0} (codec : Codec A) (payload : List ℕ) (at : ℕ) (result : Result A ClientEnd) → results_start (reply_of payload) ≡ Ok at → Gives result (results_or (results_in codec payload at))
    → Gives result (result_of_reply codec payload)
gives_results {A} codec payload at result is gives = subst (λ (r : Result A ClientEnd). Gives result r) (sym (starts_at codec payload (reply_of payload) at is)) gives

pub gives_no_results : {A : Type 0} (codec : Codec A) (payload : List ℕ) (end : ClientEnd) → results_start (reply_of payload) ≡ Err end → Gives {A = A} (Err end) (result_of_reply codec payload)
gives_no_results {A} codec payload end is = subst (λ (r : Result A ClientEnd). Gives {A = A} (Err end) r) (sym (starts_nowhere codec payload (reply_of payload) end is)) (gives_itself A end)

-- a reply was read, so no fault count rose
pub no_fault : {A V : Type 0} (rel : CallRelations V) (result : Result A ClientEnd) (v w : V) → IfErr result IsOfReply → rel.faults w ≡ rel.faults v → CountsFaultsOver rel result v w
no_fault rel (Ok value) v w reply same = same
no_fault rel (Err (client.Link end)) v w reply same = absurd reply
no_fault rel (Err client.DialFault) v w reply same = same
no_fault rel (Err (client.Rpc kind code)) v w reply same = same
no_fault rel (Err (client.Mount status)) v w reply same = same
no_fault rel (Err (client.Nfs status)) v w reply same = same
no_fault rel (Err client.Chunk) v w reply same = same
no_fault rel (Err (client.Version low high)) v w reply same = same
no_fault rel (Err (client.BadReply at reason)) v w reply same = same
no_fault rel (Err (client.BadPath at)) v w reply same = same
no_fault rel (Err client.InputFault) v w reply same = same
no_fault rel (Err client.OutputFault) v w reply same = same
no_fault rel (Err (client.Budget count)) v w reply same = same
no_fault rel (Err client.Memory) v w reply same = same

-- the call that was asked for
pub same_asked : {given : Result Call Memory} (call asked : Call) → given ≡ Ok call → IfOk given (λ c. c ≡ asked) → call ≡ asked
same_asked call asked is same = subst (λ (r : Result Call Memory). IfOk r (λ c. c ≡ asked)) is same

-- what holds of the call that was asked for
pub allowed_as : (P : Call → Type 0) (given : Result Call Memory) (asked : Call) → IfOk given (λ c. c ≡ asked) → P asked → IfOk given P
allowed_as P (Ok call) asked same is = subst P (sym same) is
allowed_as P (Err memory) asked same is = tt

-- its credential can be written
pub writable : (given : Result Call Memory) (prog vers proc uid gid : ℕ) (args : List ℕ) → IfOk given (λ c. c ≡ client_call prog vers proc uid gid args) → IfOk given (λ c. CanWriteCred c.cred)
writable (Ok call) prog vers proc uid gid args same = subst (λ (c : Call). CanWriteCred c.cred) (sym same) (machine_fits, none_fit)
  where
    machine_fits : length machine ≤ MACHINE_MAX
    machine_fits = omega arith

    none_fit : 0 ≤ GIDS_MAX
    none_fit = omega arith
writable (Err memory) prog vers proc uid gid args same = tt

-- an end of a reply is one of its call
pub of_call : (end : ClientEnd) → IsOfReply end → IsOfCall end
of_call client.DialFault of_reply = absurd of_reply
of_call (client.Link end) of_reply = absurd of_reply
of_call (client.Rpc kind code) of_reply = tt
of_call (client.Mount status) of_reply = tt
of_call (client.Nfs status) of_reply = tt
of_call client.Chunk of_reply = tt
of_call (client.Version low high) of_reply = tt
of_call (client.BadReply at reason) of_reply = tt
of_call (client.BadPath at) of_reply = absurd of_reply
of_call client.InputFault of_reply = absurd of_reply
of_call client.OutputFault of_reply = absurd of_reply
of_call (client.Budget count) of_reply = absurd of_reply
of_call client.Memory of_reply = tt

pub of_call_result : {A : Type 0} (given : Result A ClientEnd) → IfErr given IsOfReply → IfErr given IsOfCall
of_call_result (Ok value) of_reply = tt
of_call_result (Err end) of_reply = of_call end of_reply
