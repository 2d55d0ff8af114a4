-- What a record asks for, by its head.
use Rattle.std.proofs.Common.{◌≡◌, ℕ, ◌≤◌, List, length, drop, Ok, ◌∙◌, ap, subst, arith}
use Rattle.std.proofs.lemmas.List.{length-append}
use Rattle.nr_rpc.specs.Call.{BeginsCall}
use Rattle.nr_rpc.specs.Credential.{Auth, CanWriteCred, ReadsCred}
use Rattle.nr_rpc.specs.Reading.{call_of}
use Rattle.nr_rpc.specs.declared.cred.Cred.{Cred}
use Rattle.nr_rpc.specs.declared.cred.Cred.TheVariants as creds
use Rattle.nr_rpc.specs.declared.head.CallHead.{CallHead}
use Rattle.nr_rpc.specs.declared.head.CallHead.TheVariants as calls
use Rattle.nr_gate.specs.private.Forwarded.{IsAsked}
use Rattle.nr_gate.specs.declared.asking.RecordCall.TheVariants as records

-- a credential that was read can be written
pub can_write : (cred : Cred) (auth : Auth) → ReadsCred cred auth → CanWriteCred cred
can_write creds.None auth r = tt
can_write (creds.Sys stamp machine uid gid gids) auth r = (r.1.machine_within, r.1.gids_within)
can_write (creds.Other flavor) auth r = r.1

module _ (bytes : List ℕ) (head : CallHead) (xid prog vers proc args_at : ℕ) (cred : Cred) (head_is : head ≡ calls.Version2 xid prog vers proc cred args_at) (begins : BeginsCall head bytes) where
  begins_so : BeginsCall (calls.Version2 xid prog vers proc cred args_at) bytes
  begins_so = subst (λ (h : CallHead). BeginsCall h bytes) head_is begins

  -- its arguments begin within it
  pub args_inside : args_at ≤ length bytes
  args_inside =
      let (front, back, reads, is) = begins_so in
      let (auth, verifier, body_max, verifier_max, read, items, at_is) = reads in
      omega (arith, at_is, ap length is, length-append front back)

  pub writable : CanWriteCred cred
  writable =
      let (front, back, reads, is) = begins_so in
      let (auth, verifier, body_max, verifier_max, read, items, at_is) = reads in
      can_write cred auth read

  pub asked_version2 : (args : List ℕ) → call_of bytes ≡ Ok head → args ≡ drop args_at bytes
      → IsAsked (Ok (records.Version2 xid (record { prog = prog; vers = vers; proc = proc; cred = cred; args = args }))) bytes
  asked_version2 args is args_is = (record { args_at = args_at; head = is ∙ ap Ok head_is; args = args_is }, writable)

pub asked_other : (bytes : List ℕ) (head : CallHead) (xid rpcvers : ℕ) → head ≡ calls.Other xid rpcvers → call_of bytes ≡ Ok head → IsAsked (Ok (records.Other xid)) bytes
asked_other bytes head xid rpcvers head_is is = (rpcvers, is ∙ ap Ok head_is)
