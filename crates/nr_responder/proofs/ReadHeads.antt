-- The head of a stream, and that of the payload of which it is a part.
use Rattle.std.proofs.Common.{◌≡◌, ◌<◌, ℕ, zero, suc, arith, get_or, Bool, true, false, cond, List, ◌++◌, take, drop, replicate, Option, Some, None, Result, Ok, Err, refl, sym, ap, ◌∙◌}
use Rattle.std.proofs.lemmas.List.{take-append-drop, append_assoc}
use Rattle.nr_xdr.specs.Item.{IsBytes, pad_len}
use Rattle.nr_rpc.specs.declared.head.CallHead.{CallHead}
use Rattle.nr_rpc.specs.Reading.{call_of, target_of}
use Rattle.nr_rpc.specs.Call.{BeginsCall}
use Rattle.nr_rpc.proofs.Calls.{begins_call, call_begins}
use Rattle.nr_reduce.specs.declared.item.Item.{Item}
use Rattle.nr_reduce.specs.declared.item.Of.TheVariants as of
use Rattle.nr_reduce.specs.declared.parts.CallParts.{CallParts}
use Rattle.nr_reduce.specs.CallOutlines.{ArePartsOf, parts_payload}
use Rattle.nr_reduce.specs.Chunks.{has_moved_length, whole, whole_by}
use Rattle.nr_reduce.specs.Items.{call_item, item_of, restored_payload, target_item}
use Rattle.nr_reduce.proofs.CallForms.{joined_bytes}
use Rattle.nr_reduce.proofs.ItemSearch.{IsBytes_take, Stands, item_stands}
use Rattle.nr_xdr.proofs.WordBytes.{IsBytes_drop}
use Rattle.nr_reduce.proofs.Places.{call_item_by}

-- what is read of a stream without a head, and of one with it
pub no_head : (stream : List ℕ) → target_of (call_of stream) ≡ None → (None ≡ target_of (call_of stream)) × (None ≡ call_item stream)
no_head stream none = (sym none, call_item_by stream None (sym none))

pub head_is : (stream : List ℕ) (parts : CallParts) (item : Option Item) → ArePartsOf (Some parts) stream → item ≡ call_item (parts_payload parts) → (Some parts.target ≡ target_of (call_of stream)) × (item ≡ call_item stream)
head_is stream parts item are found = (sym are.0.0 ∙ ap (λ (bytes : List ℕ). target_of (call_of bytes)) are.1, found ∙ ap call_item are.1)

-- what follows the item's position doesn't change the head
same_head : (stream rest : List ℕ) (i : Item) → IsBytes stream → IsBytes (take i.pos stream ++ rest) → item_of of.Call stream ≡ Some i → call_of (take i.pos stream ++ rest) ≡ call_of stream
unfolding call_item
same_head stream rest i fits bytes item = by (call_of front) refl stands.again
  where
    front : List ℕ
    front = take i.pos stream

    stands : Stands of.Call stream i
    stands = item_stands of.Call stream i fits item

    by : (r : Result CallHead ℕ) → call_of front ≡ r → target_item front (target_of (call_of front)) ≡ Some i → call_of (front ++ rest) ≡ call_of stream
    by (Ok head) is found =
        let begins : BeginsCall head front = call_begins front head (IsBytes_take i.pos stream fits) is in
        let one : call_of (front ++ rest) ≡ Ok head =
        begins_call (front ++ rest) head bytes (begins.0, begins.1 ++ rest, begins.2, ap (λ (xs : List ℕ). xs ++ rest) begins.3 ∙ append_assoc begins.0 begins.1 rest) in
        let two : call_of stream ≡ Ok head =
        begins_call stream head fits (begins.0, begins.1 ++ drop i.pos stream, begins.2, sym (take-append-drop i.pos stream) ∙ ap (λ (xs : List ℕ). xs ++ drop i.pos stream) begins.3 ∙ append_assoc begins.0 begins.1 (drop i.pos stream)) in
        one ∙ sym two
    by (Err at) is found = absurd (let wrong : target_item front (target_of (Err at)) ≡ Some i = ap (λ (r : Result CallHead ℕ). target_item front (target_of r)) (sym is) ∙ found in cc)

restored_is : (b : Bool) (restored payload : List ℕ) → cond b (Some restored) None ≡ Some payload → restored ≡ payload
restored_is true restored payload is = cc
restored_is false restored payload is = absurd cc

zeros_are_bytes : (n i : ℕ) → get_or (replicate n 0) i 0 < 256
zeros_are_bytes zero i = omega arith
zeros_are_bytes (suc n) zero = omega arith
zeros_are_bytes (suc n) (suc i) = zeros_are_bytes n i

-- the head of a payload is that of its stream
pub whole_head : (stream moved payload : List ℕ) → IsBytes stream → IsBytes moved → whole of.Call stream (Some moved) ≡ Some payload → call_of payload ≡ call_of stream
unfolding restored_payload
whole_head stream moved payload fits bytes is = by (item_of of.Call stream) refl is
  where
    by : (o : Option Item) → item_of of.Call stream ≡ o → whole_by of.Call stream moved (item_of of.Call stream) ≡ Some payload → call_of payload ≡ call_of stream
    by None e w = absurd (let wrong : whole_by of.Call stream moved None ≡ Some payload = ap (λ (o : Option Item). whole_by of.Call stream moved o) (sym e) ∙ w in cc)
    by (Some i) e w =
        let restored : restored_payload i stream moved ≡ payload =
        restored_is (has_moved_length of.Call i moved) (restored_payload i stream moved) payload (ap (λ (o : Option Item). whole_by of.Call stream moved o) (sym e) ∙ w) in
        let rest : IsBytes (take i.len moved ++ (replicate (pad_len i.len) 0 ++ drop i.pos stream)) =
        joined_bytes (take i.len moved) (replicate (pad_len i.len) 0 ++ drop i.pos stream) (IsBytes_take i.len moved bytes)
        (joined_bytes (replicate (pad_len i.len) 0) (drop i.pos stream) (zeros_are_bytes (pad_len i.len)) (IsBytes_drop i.pos stream fits)) in
        ap call_of (sym restored) ∙ same_head stream (take i.len moved ++ (replicate (pad_len i.len) 0 ++ drop i.pos stream)) i fits (joined_bytes (take i.pos stream) _ (IsBytes_take i.pos stream fits) rest) e
