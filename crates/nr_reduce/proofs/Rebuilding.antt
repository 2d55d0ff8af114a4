-- A reducible payload is its stream with its item put back.
use Rattle.std.proofs.Common.{◌≡◌, ℕ, zero, suc, ◌+◌, ◌≤◌, Bool, true, false, cond, ◌&&◌, ◌||◌, eqb, List, [], ◌∷◌, ◌++◌, length, take, drop, replicate, Option, Some, None, refl, sym, ap, subst, ◌∙◌, arith, append-nil, inl, inr}
use Rattle.std.proofs.lemmas.Bool.{eqb-true, eq-eqb}
use Rattle.std.proofs.lemmas.List.{take-append-drop, take-take, length-take-le, drop-drop, length-drop}
use Rattle.std.specs.List.{list_all}
use Rattle.nr_xdr.specs.Item.{IsBytes, pad_len}
use Rattle.nr_xdr.proofs.SequencingSteps.{chosen}
use Rattle.nr_reduce.specs.declared.item.Item.{Item}
use Rattle.nr_reduce.specs.declared.item.Of.{Of}
use Rattle.nr_reduce.specs.Items.{item_of, ends_with_item, if_ends, reducible_item, stream_of, moved_of, restored_payload}
use Rattle.nr_reduce.specs.Chunks.{whole, whole_by, has_moved_length}
use Rattle.nr_reduce.proofs.ItemSearch.{item_stands}

both : (a b : Bool) → (a && b) ≡ true → (a ≡ true) × (b ≡ true)
both true true e = (refl, refl)
both true false e = absurd cc
both false b e = absurd cc

-- zeros are determined by their number
zeros : (xs : List ℕ) → list_all (λ b. eqb b 0) xs ≡ true → xs ≡ replicate (length xs) 0
zeros [] e = refl
zeros (x ∷ xs) e =
    let h = both (eqb x 0) (list_all (λ b. eqb b 0) xs) e in
    (λ i. eqb-true x 0 h.0 i ∷ zeros xs h.1 i)

-- what a reducible item says
pub record Reducible (of : Of) (payload : List ℕ) (i : Item) : Type 0 where
  pub item : item_of of payload ≡ Some i
  pub size : length payload ≡ i.pos + i.len + pad_len i.len
  pub pad : drop (i.pos + i.len) payload ≡ replicate (pad_len i.len) 0

ending : (of : Of) (payload : List ℕ) (i : Item) (o : Option Item) → item_of of payload ≡ o → if_ends payload o ≡ Some i → Reducible of payload i
ending of payload i None is e = absurd cc
ending of payload i (Some j) is e =
    elim (chosen (ends_with_item payload j) (Some j) None (Some i) e) [
      | inl h ↦
          let same : j ≡ i = (let s : Some j ≡ Some i = h.1 in cc) in
          let parts = both (eqb (length payload) (j.pos + j.len + pad_len j.len)) (list_all (λ b. eqb b 0) (drop (j.pos + j.len) payload)) h.0 in
          let size : length payload ≡ j.pos + j.len + pad_len j.len = eqb-true (length payload) (j.pos + j.len + pad_len j.len) parts.0 in
          subst (λ (k : Item). Reducible of payload k) same (record {
            item = is;
            size = size;
            pad = zeros (drop (j.pos + j.len) payload) parts.1
                ∙ ap (λ (n : ℕ). replicate n 0) (let l = length-drop (j.pos + j.len) payload in omega (arith, l, size));
          })
      | inr h ↦ absurd (let wrong = h.1 in cc)
    ]

pub reducible : (of : Of) (payload : List ℕ) (i : Item) → reducible_item of payload ≡ Some i → Reducible of payload i
unfolding reducible_item
reducible of payload i e = ending of payload i (item_of of payload) refl e

-- The payload is its stream with its item's content put back.
pub restored_moved : (of : Of) (payload : List ℕ) (i : Item) → Reducible of payload i → restored_payload i (stream_of payload i) (moved_of payload i) ≡ payload
unfolding restored_payload
restored_moved of payload i r =
    let enough : i.pos ≤ length payload = omega (arith, r.size) in
    let padded : replicate (pad_len i.len) 0 ≡ drop (i.pos + i.len) payload = sym r.pad in
    let none : drop i.pos (take i.pos payload) ≡ [] = drop_take_all i.pos payload in
    (λ k. take-take i.pos i.pos payload (omega arith) k ++ (take-take i.len i.len (drop i.pos payload) (omega arith) k ++ (padded k ++ none k)))
    ∙ ap (λ (xs : List ℕ). take i.pos payload ++ (take i.len (drop i.pos payload) ++ xs)) (append-nil (drop (i.pos + i.len) payload))
    ∙ ap (λ (xs : List ℕ). take i.pos payload ++ (take i.len (drop i.pos payload) ++ xs)) (sym (drop-drop i.len i.pos payload))
    ∙ ap (λ (xs : List ℕ). take i.pos payload ++ xs) (take-append-drop i.len (drop i.pos payload))
    ∙ take-append-drop i.pos payload
  where
    drop_take_all : (n : ℕ) (xs : List ℕ) → drop n (take n xs) ≡ []
    drop_take_all zero xs = refl
    drop_take_all (suc n) [] = refl
    drop_take_all (suc n) (x ∷ xs) = drop_take_all n xs

pub moved_length : (of : Of) (payload : List ℕ) (i : Item) → Reducible of payload i → length (moved_of payload i) ≡ i.len
moved_length of payload i r = length-take-le i.len (drop i.pos payload) (let l = length-drop i.pos payload in omega (arith, l, r.size))

pub right_length : (of : Of) (i : Item) (moved : List ℕ) → length moved ≡ i.len → has_moved_length of i moved ≡ true
right_length Of.Call i moved e = ap (λ (b : Bool). b || eqb (length moved) (i.len + pad_len i.len)) (eq-eqb (length moved) i.len e)
right_length (Of.Reply prog vers proc) i moved e = eq-eqb (length moved) i.len e

-- rebuild (cut p) is p: the stream and what moved convey the payload.
pub rebuilt : (of : Of) (payload : List ℕ) (i : Item) → IsBytes payload → reducible_item of payload ≡ Some i → whole of (stream_of payload i) (Some (moved_of payload i)) ≡ Some payload
rebuilt of payload i fits e =
    let r = reducible of payload i e in
    let s = item_stands of payload i fits r.item in
    ap (λ (o : Option Item). whole_by of (stream_of payload i) (moved_of payload i) o) s.again
    ∙ ap (λ (b : Bool). cond b (Some (restored_payload i (stream_of payload i) (moved_of payload i))) None) (right_length of i (moved_of payload i) (moved_length of payload i r))
    ∙ ap Some (restored_moved of payload i r)
