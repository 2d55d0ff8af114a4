-- What a form conveys of a call's payload has, if it has an RPC call head, the target and the xid of that payload's own head.
use Rattle.std.proofs.Common.{◌≡◌, ℕ, zero, suc, ◌-◌, Bool, true, false, cond, eqb, List, [], ◌∷◌, ◌++◌, length, take, drop, replicate, Option, None, Some, Result, Ok, Err, refl, sym, ap, subst, ◌∙◌, arith, append_assoc, append-nil, take_all, take-append-drop, length-take-le, ne_eqb, inl, inr}
use Rattle.std.specs.Prelude.{sum}
use Rattle.std.proofs.lemmas.Bool.{cases_lt}
use Rattle.nr_xdr.specs.Item.{IsBytes, pad_len}
use Rattle.nr_xdr.proofs.Chains.{IsBytes_left}
use Rattle.nr_xdr.proofs.WordBytes.{IsBytes_drop, IsBytes_take}
use Rattle.nr_rpc.specs.declared.head.CallHead.{CallHead}
use Rattle.nr_rpc.specs.Reading.{call_of, target_of}
use Rattle.nr_rpc.proofs.Calls.{call_begins, begins_call}
use Rattle.nr_reduce.specs.declared.call.Form.{Form}
use Rattle.nr_reduce.specs.declared.call.Form.TheVariants as forms
use Rattle.nr_reduce.specs.declared.item.Item.{Item}
use Rattle.nr_reduce.specs.declared.item.Of.TheVariants.{Call}
use Rattle.nr_reduce.specs.Items.{item_of, target_item, call_item, restored_payload}
use Rattle.nr_reduce.specs.Plans.{given_region}
use Rattle.nr_reduce.specs.Chunks.{whole, whole_by, has_moved_length}
use Rattle.nr_reduce.specs.PayloadLaws.{moved_by, given_conveyed}
use Rattle.nr_reduce.proofs.ItemSearch.{item_stands}
use Rattle.nr_laws.specs.Payloads.{form_conveyed}
use Rattle.nr_laws.proofs.Bytes.{bytes_both}
use Rattle.nr_laws.proofs.Basics.{some_is_lem}

-- ---- Bytes

pub bytes_zeros : (n : ℕ) → IsBytes (replicate n 0)
bytes_zeros zero zero = omega arith
bytes_zeros zero (suc i) = omega arith
bytes_zeros (suc n) zero = omega arith
bytes_zeros (suc n) (suc i) = bytes_zeros n i

pub bytes_region : (payload : List ℕ) (at size : ℕ) → IsBytes payload → IsBytes (given_region payload at size)
bytes_region payload at size fits =
    bytes_both (take size (drop at payload)) (replicate (size - length (take size (drop at payload))) 0) (IsBytes_take size (drop at payload) (IsBytes_drop at payload fits)) (bytes_zeros (size - length (take size (drop at payload))))

-- ---- A head that is read is read with bytes after it

head_behind : (x more : List ℕ) (head : CallHead) → IsBytes (x ++ more) → call_of x ≡ Ok head → call_of (x ++ more) ≡ Ok head
head_behind x more head fits e =
    let b = call_begins x head (IsBytes_left x more fits) e in
    begins_call (x ++ more) head fits (b.0, b.1 ++ more, b.2, ap (λ (xs : List ℕ). xs ++ more) b.3 ∙ append_assoc b.0 b.1 more)

same_behind : (x more : List ℕ) (head : CallHead) → IsBytes (x ++ more) → call_of x ≡ Ok head → call_of (x ++ more) ≡ call_of x
same_behind x more head fits e = head_behind x more head fits e ∙ sym e

-- of two that begin alike
same_front_lem : (front x y : List ℕ) (head : CallHead) → IsBytes (front ++ x) → IsBytes (front ++ y) → call_of front ≡ Ok head → call_of (front ++ x) ≡ call_of (front ++ y)
same_front_lem front x y head fx fy e = head_behind front x head fx e ∙ sym (head_behind front y head fy e)

-- ---- What an offer conveys

-- its payload's first bytes, with zeros after all of them
region_head : (own : List ℕ) (size : ℕ) (own_head head : CallHead) → IsBytes own → call_of own ≡ Ok own_head → call_of (given_region own 0 size) ≡ Ok head → call_of (given_region own 0 size) ≡ call_of own
region_head own size own_head head fits is e =
    elim (cases_lt size (length own)) [
      | inl lt ↦
          let len : length (take size own) ≡ size = length-take-le size own (omega (arith, lt)) in
          let front : given_region own 0 size ≡ take size own = ap (λ (n : ℕ). take size own ++ replicate n 0) (let z : size - length (take size own) ≡ 0 = omega (arith, len) in z) ∙ append-nil (take size own) in
          let all : take size own ++ drop size own ≡ own = take-append-drop size own in
          let first : call_of (take size own) ≡ Ok head = ap call_of (sym front) ∙ e in
          ap call_of front ∙ sym (same_behind (take size own) (drop size own) head (subst IsBytes (sym all) fits) first) ∙ ap call_of all
      | inr le ↦
          let zeros : List ℕ = replicate (size - length (take size own)) 0 in
          let front : given_region own 0 size ≡ own ++ zeros = ap (λ (xs : List ℕ). xs ++ zeros) (take_all size own le) in
          ap call_of front ∙ same_behind own zeros own_head (bytes_both own zeros fits (bytes_zeros (size - length (take size own)))) is
    ]

-- a stream with an item has a head before it
item_head : (xs : List ℕ) (i : Item) → item_of Call xs ≡ Some i → (head : CallHead) × (call_of xs ≡ Ok head)
unfolding call_item
item_head xs i e = by (call_of xs) refl e
  where
    by : (r : Result CallHead ℕ) → call_of xs ≡ r → target_item xs (target_of r) ≡ Some i → (head : CallHead) × (call_of xs ≡ Ok head)
    by (Ok head) is e = (head, is)
    by (Err at) is e = absurd cc

restored_head : (own region : List ℕ) (at : ℕ) (i : Item) → IsBytes own → IsBytes region → item_of Call (take at own) ≡ Some i → call_of (restored_payload i (take at own) region) ≡ call_of own
unfolding restored_payload
restored_head own region at i fits bytes e =
    let stream : List ℕ = take at own in
    let ok : IsBytes stream = IsBytes_take at own fits in
    let front : List ℕ = take i.pos stream in
    let back : List ℕ = take i.len region ++ (replicate (pad_len i.len) 0 ++ drop i.pos stream) in
    let head = item_head front i (item_stands Call stream i ok e).again in
    let parts : front ++ (drop i.pos stream ++ drop at own) ≡ own =
    sym (append_assoc front (drop i.pos stream) (drop at own)) ∙ ap (λ (xs : List ℕ). xs ++ drop at own) (take-append-drop i.pos stream) ∙ take-append-drop at own in
    let one : IsBytes (front ++ back) =
    bytes_both front back (IsBytes_take i.pos stream ok)
    (bytes_both (take i.len region) (replicate (pad_len i.len) 0 ++ drop i.pos stream) (IsBytes_take i.len region bytes)
    (bytes_both (replicate (pad_len i.len) 0) (drop i.pos stream) (bytes_zeros (pad_len i.len)) (IsBytes_drop i.pos stream ok))) in
    same_front_lem front back (drop i.pos stream ++ drop at own) head.0 one (subst IsBytes (sym parts) fits) head.1 ∙ ap call_of parts

pub item_by_lem : (stream moved q : List ℕ) (o : Option Item) → whole_by Call stream moved o ≡ Some q → (i : Item) × (o ≡ Some i) × (restored_payload i stream moved ≡ q)
item_by_lem stream moved q None e = absurd cc
item_by_lem stream moved q (Some i) e = by (has_moved_length Call i moved) e
  where
    by : (b : Bool) → cond b (Some (restored_payload i stream moved)) None ≡ Some q → (j : Item) × (Some i ≡ Some j) × (restored_payload j stream moved ≡ q)
    by true e = (i, refl, (let same : Some (restored_payload i stream moved) ≡ Some q = e in cc))
    by false e = absurd cc

-- a prefix, with its item put back
given_item_head : (own region q : List ℕ) (at : ℕ) (lengths : List ℕ) (head : CallHead) → IsBytes own → IsBytes region → whole Call (take at own) (moved_by lengths region) ≡ Some q → call_of q ≡ Ok head → call_of q ≡ call_of own
given_item_head own region q at [] head fits bytes e is =
    let same : take at own ≡ q = some_is_lem (take at own) q e in
    let all : take at own ++ drop at own ≡ own = take-append-drop at own in
    ap call_of (sym same) ∙ sym (same_behind (take at own) (drop at own) head (subst IsBytes (sym all) fits) (ap call_of same ∙ is)) ∙ ap call_of all
given_item_head own region q at (n ∷ lengths) head fits bytes e is =
    let i = item_by_lem (take at own) region q (item_of Call (take at own)) e in
    ap call_of (sym i.2) ∙ restored_head own region at i.0 fits bytes i.1

given_head : (own q : List ℕ) (at : ℕ) (o : Option (List ℕ)) (own_head head : CallHead) → IsBytes own → call_of own ≡ Ok own_head → given_conveyed own at o ≡ Some q → call_of q ≡ Ok head → call_of q ≡ call_of own
given_head own q at None own_head head fits is e read = ap call_of (sym (some_is_lem own q e))
given_head own q zero (Some lengths) own_head head fits is e read =
    let same : given_region own 0 (sum lengths) ≡ q = some_is_lem (given_region own 0 (sum lengths)) q e in
    ap call_of (sym same) ∙ region_head own (sum lengths) own_head head fits is (ap call_of same ∙ read)
given_head own q (suc at) (Some lengths) own_head head fits is e read =
    let region : List ℕ = given_region own (suc at) (sum lengths) in
    let apart : eqb (suc at) 0 ≡ false = ne_eqb (suc at) 0 (λ f. omega (arith, f)) in
    given_item_head own region q (suc at) lengths head fits (bytes_region own (suc at) (sum lengths) fits) (sym (ap (λ (b : Bool). cond b (Some region) (whole Call (take (suc at) own) (moved_by lengths region))) apart) ∙ e) read

-- What a form conveys of a payload with a call head has exactly that head, if it has one.
pub conveyed_head : (form : Form) (own q : List ℕ) (own_head head : CallHead) → IsBytes own → call_of own ≡ Ok own_head → form_conveyed form own ≡ Some q → call_of q ≡ Ok head → call_of q ≡ call_of own
conveyed_head forms.Auto own q own_head head fits is e read = ap call_of (sym (some_is_lem own q e))
conveyed_head forms.Inline own q own_head head fits is e read = ap call_of (sym (some_is_lem own q e))
conveyed_head forms.Chunk own q own_head head fits is e read = ap call_of (sym (some_is_lem own q e))
conveyed_head forms.Long own q own_head head fits is e read = ap call_of (sym (some_is_lem own q e))
conveyed_head (forms.Given offer) own q own_head head fits is e read = given_head own q offer.read_at offer.read own_head head fits is e read
