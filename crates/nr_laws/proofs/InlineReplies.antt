-- A reply that a message brings is what its lists convey.
use Rattle.std.proofs.Common.{◌≡◌, ℕ, Bool, true, false, cond, eqb, List, [], Option, None, Some, Result, Ok, Err, refl, ap}
use Rattle.nr_header.specs.declared.header.ChunkLists.{ChunkLists}
use Rattle.nr_rpc.specs.declared.head.ReplyHead.{ReplyHead}
use Rattle.nr_rpc.specs.Reading.{reply_of}
use Rattle.nr_link.specs.Reasons.{REASON_XID}
use Rattle.nr_reduce.specs.declared.call.Outcome.TheVariants as outcomes
use Rattle.nr_reduce.specs.Chunks.{reply_conveyed}
use Rattle.nr_reduce.specs.ClientState.{ClientState, OutstandingCall, client_memory_at}
use Rattle.nr_reduce.specs.ClientMessages.{reply_by_head, reply_by_payload, by_lists, reply_xid}
use Rattle.nr_reduce.specs.ClientMessages.ReplyVerdict.{EndsLink, GivesOutcome}

abbrev pub no_chunks : ChunkLists
no_chunks = record { read = []; write = []; reply = None }

head_brings : (x y : ℕ) (payload p : List ℕ) (r : Result ReplyHead ℕ) → reply_by_head x payload r ≡ GivesOutcome y (Some (outcomes.Reply p)) → payload ≡ p
head_brings x y payload p (Err at) e = absurd cc
head_brings x y payload p (Ok head) e = by (eqb (reply_xid head) x) e
  where
    by : (c : Bool) → cond c (GivesOutcome x (Some (outcomes.Reply payload))) (EndsLink REASON_XID) ≡ GivesOutcome y (Some (outcomes.Reply p)) → payload ≡ p
    by true e = cc
    by false e = absurd cc

pub payload_brings : (x y : ℕ) (o : Option (List ℕ)) (p : List ℕ) → reply_by_payload x o ≡ GivesOutcome y (Some (outcomes.Reply p)) → o ≡ Some p
payload_brings x y None p e = absurd cc
payload_brings x y (Some payload) p e = ap (λ (q : List ℕ). Some q) (head_brings x y payload p (reply_of payload) e)

pub record Conveys (k : ClientState) (place : ℕ) (o : OutstandingCall) (inline : Option (List ℕ)) (lists : ChunkLists) (suits : Bool) (p : List ℕ) : Type 0 where
  pub suited : suits ≡ true
  pub conveys : reply_conveyed o.call.prog o.call.vers o.call.proc inline lists (client_memory_at k place) ≡ Some p

pub lists_bring : (k : ClientState) (place : ℕ) (o : OutstandingCall) (inline : Option (List ℕ)) (lists : ChunkLists) (suits : Bool) (y : ℕ) (p : List ℕ) → by_lists k place o inline lists suits ≡ GivesOutcome y (Some (outcomes.Reply p)) → Conveys k place o inline lists suits p
lists_bring k place o inline lists false y p e = absurd cc
lists_bring k place o inline lists true y p e = by o.is_revoked e
  where
    conveyed : Option (List ℕ)
    conveyed = reply_conveyed o.call.prog o.call.vers o.call.proc inline lists (client_memory_at k place)

    by : (c : Bool) → cond c (GivesOutcome o.xid None) (reply_by_payload o.xid conveyed) ≡ GivesOutcome y (Some (outcomes.Reply p)) → Conveys k place o inline lists true p
    by true e = absurd cc
    by false e = record { suited = refl; conveys = payload_brings o.xid y conveyed p e }
