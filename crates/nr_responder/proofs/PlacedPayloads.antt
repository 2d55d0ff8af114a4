-- The payload of a call that is completed in the buffer of its sink.
use Rattle.std.proofs.Common.{◌≡◌, ℕ, Bool, true, false, cond, List, take, drop, Option, Some, None, IfSome, sym, ap, subst, ◌∙◌}
use Rattle.nr_xdr.specs.Item.{IsBytes}
use Rattle.nr_rpc.specs.Reading.{call_of}
use Rattle.nr_link.specs.Reasons.{REASON_HEAD}
use Rattle.nr_reduce.specs.declared.item.Item.{Item}
use Rattle.nr_reduce.specs.declared.item.Of.TheVariants as of
use Rattle.nr_reduce.specs.Items.{call_item, item_of, restored_payload}
use Rattle.nr_reduce.specs.Chunks.{has_moved_length, whole, whole_by}
use Rattle.nr_reduce.specs.ServerState.{PendingCall}
use Rattle.nr_reduce.specs.ServerMessages.{by_payload}
use Rattle.nr_reduce.specs.ServerMessages.CallVerdict.{Refuses}
use Rattle.nr_responder.specs.declared.call.Pending.{Pending}
use Rattle.nr_responder.specs.private.CallsRead.{verdict_by}
use Rattle.nr_responder.specs.private.DoneReads.{JudgesPlaced}
use Rattle.nr_responder.specs.Sound.{InBuffer}
use Rattle.nr_responder.proofs.ReadHeads.{whole_head}

-- the item of a call that is kept with it
pub item_in_buffer : (c : Pending) (item : Item) → c.item ≡ Some (Some item) → InBuffer c → (c.inline ≡ true) × (call_item (drop c.stream_at (take c.len c.buf)) ≡ Some item)
item_in_buffer c item is h =
    let found : (c.inline ≡ true) × (Some item ≡ call_item (drop c.stream_at (take c.len c.buf))) = subst (λ (o : Option (Option Item)). IfSome o (λ i. (c.inline ≡ true) × (i ≡ call_item (drop c.stream_at (take c.len c.buf))))) is h.item in
    (found.0, sym found.1)

pub length_refused : (c : PendingCall) (stream moved : List ℕ) (i : Item) → item_of of.Call stream ≡ Some i → has_moved_length of.Call i moved ≡ false → by_payload c (whole of.Call stream (Some moved)) ≡ Refuses REASON_HEAD
length_refused c stream moved i item other =
    ap (λ (o : Option Item). by_payload c (whole_by of.Call stream moved o)) item ∙ ap (λ (b : Bool). by_payload c (cond b (Some (restored_payload i stream moved)) None)) other

-- the payload of a stream and the bytes of its item, with the stream's head
pub record Restored (stream moved : List ℕ) : Type 0 where
  pub payload : List ℕ
  pub is : whole of.Call stream (Some moved) ≡ Some payload
  pub head : call_of payload ≡ call_of stream

pub restored_is : (stream moved : List ℕ) (i : Item) → item_of of.Call stream ≡ Some i → has_moved_length of.Call i moved ≡ true → IsBytes stream → IsBytes moved → Restored stream moved
restored_is stream moved i item same fits bytes =
    let is : whole of.Call stream (Some moved) ≡ Some (restored_payload i stream moved) =
    ap (λ (o : Option Item). whole_by of.Call stream moved o) item ∙ ap (λ (b : Bool). cond b (Some (restored_payload i stream moved)) None) same in
    record { payload = restored_payload i stream moved; is = is; head = whole_head stream moved (restored_payload i stream moved) fits bytes is }

pub judged_placed : (c : PendingCall) (stream bytes payload : List ℕ) (r : Option ℕ) → whole of.Call stream (Some bytes) ≡ Some payload → by_payload c (Some payload) ≡ verdict_by c payload r → JudgesPlaced c stream bytes r
judged_placed c stream bytes payload None is verdict = record { payload = payload; is = is; judged = ap (by_payload c) is ∙ verdict }
judged_placed c stream bytes payload (Some reason) is verdict = ap (by_payload c) is ∙ verdict
