-- One record more of a connection, forwarded or not.
use Rattle.std.specs.Prelude.{IfOk}
use Rattle.std.proofs.Common.{◌≡◌, ℕ, List, [], ◌∷◌, ◌++◌, None, Some, Result, Ok, Err, inl, inr, refl, sym, subst}
use Rattle.nr_rpc.specs.Constants.{RPC_VERSION}
use Rattle.nr_rpc.specs.Reading.{call_of}
use Rattle.nr_rpc.specs.Reply.{reply_encoding}
use Rattle.nr_rpc.specs.declared.head.CallHead.TheVariants as calls
use Rattle.nr_rpc.specs.declared.head.ReplyHead.TheVariants as replies
use Rattle.nr_reduce.specs.declared.call.Call.{Call}
use Rattle.nr_reduce.specs.declared.call.Form.TheVariants as forms
use Rattle.nr_requester.specs.declared.taking.Done.{Done}
use Rattle.nr_turnstile.specs.declared.turnstile.Pass.{Pass}
use Rattle.nr_record_loop.specs.Connections.{Exchange, HasReason}
use Rattle.nr_record_loop.specs.declared.answering.NoReply.{NoReply}
use Rattle.nr_record_loop.specs.declared.answering.NoReply.TheVariants as reasons
use Rattle.nr_shared.specs.declared.call_end.CallEnd.{CallEnd}
use Rattle.nr_shared.specs.declared.call_end.CallEnd.TheVariants as call_ends
use Rattle.nr_shared.specs.declared.entry.Entry.{Entry}
use Rattle.nr_shared.specs.declared.requester_with_sink.RequesterWithSink.{RequesterWithSink}
use Rattle.nr_shared.specs.declared.shared.Pass.{Pass as SharedPass}
use Rattle.nr_shared.specs.declared.shared.SharedRequester.{SharedRequester}
use Rattle.nr_shared.specs.Sharing.{SharedRests}
use Rattle.nr_shared.specs.Waiting.{Calls, OwnAnswer}
use Rattle.nr_gate.specs.Forwarding.{Asks}
use Rattle.nr_gate.specs.Gating.{EndsRemotely, Forwards, ForwardsAll, Gates, IsForwarded, Makes, Unforwarded}
use Rattle.nr_gate.specs.private.Forwarded.{FailsSo, HasNone, IsAsked, RepliesWith, failure_at}
use Rattle.nr_gate.specs.declared.asking.RecordCall.TheVariants as records
use Rattle.nr_gate.specs.declared.forwarding.Failure.{Failure}
use Rattle.nr_gate.specs.declared.forwarding.Failure.TheVariants as failures
use Rattle.nr_gate.specs.declared.gate_end.GateEnd.{GateEnd}
use Rattle.nr_gate.specs.declared.gate_end.GateEnd.TheVariants as ends

module _ {O C : Type 0} where
  all_end : (p m q : Pass (RequesterWithSink O C) Entry) (xs : List Exchange) (x : Exchange) → ForwardsAll p m xs → Forwards m q x.call x.reply → ForwardsAll p q (xs ++ x ∷ [])
  all_end p m q [] x is one = (q, (subst (λ (s : Pass (RequesterWithSink O C) Entry). Forwards s q x.call x.reply) is one, refl))
  all_end p m q (y ∷ xs) x (n, (first, later)) one = (n, (first, all_end n m q xs x later one))

  -- it was forwarded, or answered at once
  pub gates_one : (end end' : GateEnd) (first p q : Pass (RequesterWithSink O C) Entry) (xs : List Exchange) (call reply : List ℕ)
      → Forwards p q call reply → Gates end first p xs None → Gates end' first q (xs ++ record { call = call; reply = reply } ∷ []) None
  gates_one end end' first p q xs call reply one all = all_end first p q xs (record { call = call; reply = reply }) all one

  -- it wasn't
  pub gates_none : (end end' : GateEnd) (first p q : Pass (RequesterWithSink O C) Entry) (xs : List Exchange) (call : List ℕ) (reason : NoReply)
      → Unforwarded end' reason p q call → Gates end first p xs None → Gates end' first q xs (Some (record { call = call; reason = reason }))
  gates_none end end' first p q xs call reason none all = (p, (all, none))

  -- a record that asks for nothing
  pub asks_none : (end end' : GateEnd) (first p : Pass (RequesterWithSink O C) Entry) (call : List ℕ) (reason : NoReply) → IsAsked (Err reason) call
      → HasReason reason call × ((xs : List Exchange) → Gates end first p xs None → Gates end' first p xs (Some (record { call = call; reason = reason })))
  asks_none end end' first p call reasons.NotCall asked = (asked, λ xs all. (p, (all, refl)))
  asks_none end end' first p call reasons.Memory asked = (tt, λ xs all. (p, (all, inl refl)))
  asks_none end end' first p call reasons.Other asked = absurd asked

  -- a call of another version of RPC is answered at once
  pub at_once : (p : Pass (RequesterWithSink O C) Entry) (call reply : List ℕ) (xid rpcvers : ℕ) → call_of call ≡ Ok (calls.Other xid rpcvers)
      → reply ≡ reply_encoding (replies.RpcMismatch xid RPC_VERSION RPC_VERSION) [] → Forwards p p call reply
  at_once p call reply xid rpcvers head reply_is = inr (record { xid = xid; rpcvers = rpcvers; head = head; reply_is = reply_is; unchanged = refl })

  -- the same of what answers it, which has no answer if memory ran out
  pub mismatched : {S : Type 0} (main_of : S → Pass (RequesterWithSink O C) Entry) (u : S) (call : List ℕ) (xid : ℕ) (result : Result (List ℕ) NoReply)
      → IsAsked (Ok (records.Other xid)) call → IfOk result (λ (reply : List ℕ). reply ≡ reply_encoding (replies.RpcMismatch xid RPC_VERSION RPC_VERSION) [])
      → IfOk result (λ (reply : List ℕ). (first : S) (xs : List Exchange) → ForwardsAll (main_of first) (main_of u) xs → ForwardsAll (main_of first) (main_of u) (xs ++ record { call = call; reply = reply } ∷ []))
  mismatched {S} main_of u call xid (Ok reply) asked is =
      λ first xs all. all_end (main_of first) (main_of u) (main_of u) xs (record { call = call; reply = reply }) all (at_once (main_of u) call reply xid asked.0 asked.1 is)
  mismatched {S} main_of u call xid (Err e) asked is = tt

  module _ (p q : Pass (RequesterWithSink O C) Entry) (bytes : List ℕ) (xid : ℕ) (asked : Call) (asks : Asks bytes xid asked) where
    makes : (result : Result Done CallEnd) → Calls p q asked forms.Auto result → Makes p q bytes result
    makes result made = record { xid = xid; asked = asked; asks = asks; made = made }

    -- the call was made, and its outcome is a reply
    pub replied : (done : Done) (reply : List ℕ) → OwnAnswer p q asked forms.Auto done → RepliesWith done.outcome xid reply → IsForwarded p q bytes reply
    replied done reply answer (payload, (outcome, reply_is)) = record {
      xid = xid;
      asked = asked;
      asks = asks;
      done = done;
      payload = payload;
      answer = answer;
      outcome = outcome;
      reply_is = reply_is;
    }

    -- it is none, or memory ran out
    pub no_reply : (done : Done) (failure : Failure) → OwnAnswer p q asked forms.Auto done → HasNone done.outcome failure → FailsSo failure p q bytes
    no_reply done failures.Memory answer (payload, (outcome, unfit)) = inr (inr (payload, (unfit, record { done = done; makes = makes (Ok done) answer; outcome_is = outcome })))
    no_reply done (failures.Ended ends.Chunk) answer none = record { done = done; makes = makes (Ok done) answer; outcome_is = none }
    no_reply done (failures.Ended (ends.Version low high)) answer none = record { done = done; makes = makes (Ok done) answer; outcome_is = none }
    no_reply done (failures.Ended ends.Closed) answer none = absurd none
    no_reply done (failures.Ended (ends.Cut at)) answer none = absurd none
    no_reply done (failures.Ended ends.LinkRead) answer none = absurd none
    no_reply done (failures.Ended ends.LinkWrite) answer none = absurd none
    no_reply done (failures.Ended (ends.Bad at reason)) answer none = absurd none
    no_reply done (failures.Ended (ends.Budget read)) answer none = absurd none
    no_reply done (failures.Ended ends.Memory) answer none = absurd none
    no_reply done (failures.Ended (ends.Remote end)) answer none = absurd none

    -- it has no outcome
    pub no_outcome : (end : CallEnd) → Calls p q asked forms.Auto (Err end) → FailsSo (failure_at end) p q bytes
    no_outcome call_ends.Memory made = inr (inl (makes (Err call_ends.Memory) made))
    no_outcome (call_ends.Ended end) made = makes (Err (call_ends.Ended end)) made
    no_outcome call_ends.LinkRead made = makes (Err call_ends.LinkRead) made
    no_outcome call_ends.LinkWrite made = makes (Err call_ends.LinkWrite) made
    no_outcome call_ends.Closed made = makes (Err call_ends.Closed) made
    no_outcome (call_ends.Tries n) made = makes (Err (call_ends.Tries n)) made
    no_outcome call_ends.DialFault made = makes (Err call_ends.DialFault) made
    no_outcome (call_ends.Spent left need) made = makes (Err (call_ends.Spent left need)) made
    no_outcome (call_ends.TooLarge need room) made = makes (Err (call_ends.TooLarge need room)) made
    no_outcome (call_ends.Budget read) made = makes (Err (call_ends.Budget read)) made

  -- the remote call of an end
  pub remote_made : (end : CallEnd) (p q : Pass (RequesterWithSink O C) Entry) (bytes : List ℕ) → EndsRemotely (ends.Remote end) p q bytes → Makes p q bytes (Err end)
  remote_made call_ends.Memory p q bytes made = absurd made
  remote_made (call_ends.Ended end) p q bytes made = made
  remote_made call_ends.LinkRead p q bytes made = made
  remote_made call_ends.LinkWrite p q bytes made = made
  remote_made call_ends.Closed p q bytes made = made
  remote_made (call_ends.Tries n) p q bytes made = made
  remote_made call_ends.DialFault p q bytes made = made
  remote_made (call_ends.Spent left need) p q bytes made = made
  remote_made (call_ends.TooLarge need room) p q bytes made = made
  remote_made (call_ends.Budget read) p q bytes made = made

-- a pass that is so of a shared requester, under other names of both
pub rests_with : {I O C D : Type 0} (r r' : SharedRequester I O C D) (p p' : SharedPass I O C D) → r' ≡ r → p ≡ p' → SharedRests r' p' → SharedRests r p
rests_with {I} {O} {C} {D} r r' p p' remote_is pass_is rests =
    subst (λ (x : SharedRequester I O C D). SharedRests x p) remote_is (subst (λ (x : SharedPass I O C D). SharedRests r' x) (sym pass_is) rests)
