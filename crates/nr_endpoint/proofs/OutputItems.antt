-- What a side has to write is its hello and the items that were queued, less the bytes that were written.
use Rattle.std.proofs.Common.{◌≡◌, ℕ, ◌+◌, ◌-◌, ◌^◌, ◌<◌, ◌≤◌, Bool, true, false, cond, nat_lt, List, [], ◌∷◌, ◌++◌, length, take, drop, Some, inl, inr, refl, sym, ap, subst, ◌∙◌, append_assoc, arith, length-append}
use Rattle.std.specs.Prelude.{◌⊎◌, min}
use Rattle.std.proofs.lemmas.List.{append-nil, take-append-drop, take-append-le, take_all, drop_all, drop-drop, take_at, drop_at, length-take, length-drop}
use Rattle.std.proofs.lemmas.Bool.{cases_lt, lt-ltb, le-ltb}
use Rattle.std.proofs.Math.Seq.{take-add}
use Rattle.nr_link.specs.OutputItem.{OutputItem, item_encoding, items_encoding, is_send_item, is_response_item, item_ends, items_written, items_left}
use Rattle.nr_link.specs.OutputItem.OutputItem.{SendItem, SendInvalidateItem, WriteItem, ReadRequestItem, ReadResponseItem, LastItem}
use Rattle.nr_endpoint.specs.SendQueue.{SendQueue, ends_left, ends_passed, written, writable}
use Rattle.nr_endpoint.proofs.SendQueues.{ends_left_append, ends_passed_append}
use Rattle.nr_endpoint.proofs.Queued.{send_some, send_by_some, response_some}
use Rattle.nr_endpoint.proofs.ItemEnds.{encoding_more, end_of_item, ends_more, left_twice, passed_twice, left_kept, EndsAlike, HasBytes, left_counts, written_counts}

-- the maximum of the count of Sends
abbrev pub most : ℕ
most = 2 ^ 64 - 1

-- A queue: of all of the hello so far, and of the encodings of these items, these bytes were written, in this order.
pub record QueueIs (all : List ℕ) (has_hello : Bool) (out : List ℕ) (items : List OutputItem) (q : SendQueue) : Type 0 where
  pub greeted : ℕ
  pub gone : ℕ
  pub hello : q.hello ≡ drop greeted all
  pub fpdus : q.fpdus ≡ drop gone (items_encoding items)
  pub written : out ≡ take greeted all ++ take gone (items_encoding items)
  pub within : gone ≤ length (items_encoding items)
  pub order : (gone ≡ 0) ⊎ (length all ≤ greeted)
  pub early : has_hello ≡ false → (gone ≡ 0) × (greeted ≤ length all)
  pub sends : q.send_ends ≡ ends_left gone (item_ends is_send_item 0 items)
  pub responses : q.response_ends ≡ ends_left gone (item_ends is_response_item 0 items)
  pub left : q.sends_left ≡ min (ends_passed gone (item_ends is_send_item 0 items)) most

-- ---- The items that are counted have bytes

pub sends_some : HasBytes is_send_item
sends_some (SendItem number message) of_kind = send_some number message
sends_some (SendInvalidateItem number stag message) of_kind = send_by_some (Some stag) number message
sends_some (WriteItem stag to bytes) of_kind = absurd cc
sends_some (ReadRequestItem number sink sink_to size stag to) of_kind = absurd cc
sends_some (ReadResponseItem stag to bytes) of_kind = absurd cc
sends_some (LastItem end) of_kind = absurd cc

pub responses_some : HasBytes is_response_item
responses_some (SendItem number message) of_kind = absurd cc
responses_some (SendInvalidateItem number stag message) of_kind = absurd cc
responses_some (WriteItem stag to bytes) of_kind = absurd cc
responses_some (ReadRequestItem number sink sink_to size stag to) of_kind = absurd cc
responses_some (ReadResponseItem stag to bytes) of_kind = response_some stag to bytes
responses_some (LastItem end) of_kind = absurd cc

-- ---- One item more

-- the end of an item that is queued, among the bytes that are left
abbrev pub queued_end : (OutputItem → Bool) → List ℕ → OutputItem → List ℕ
queued_end is fpdus item = cond (is item) (length (fpdus ++ item_encoding item) ∷ []) []

end_left : (is : OutputItem → Bool) (all gone : ℕ) (fpdus : List ℕ) (item : OutputItem) → HasBytes is → gone ≤ all → length fpdus ≡ all - gone →
    ends_left gone (end_of_item is (0 + all) item) ≡ queued_end is fpdus item
end_left is all gone fpdus item some within len = by (is item) refl
  where
    by : (b : Bool) → is item ≡ b → ends_left gone (end_of_item is (0 + all) item) ≡ queued_end is fpdus item
    by false none =
        ap (λ (b : Bool). ends_left gone (cond b ((0 + all + length (item_encoding item)) ∷ []) [])) none
        ∙ sym (ap (λ (b : Bool). cond b (length (fpdus ++ item_encoding item) ∷ []) []) none)
    by true of_kind =
        let one : 1 ≤ length (item_encoding item) = some item of_kind in
        let place : 0 + all + length (item_encoding item) - gone ≡ length (fpdus ++ item_encoding item) = omega (arith, within, len, length-append fpdus (item_encoding item)) in
        ap (λ (b : Bool). ends_left gone (cond b ((0 + all + length (item_encoding item)) ∷ []) [])) of_kind
        ∙ left_kept gone (0 + all + length (item_encoding item)) [] (omega (arith, one, within))
        ∙ ap (λ (n : ℕ). n ∷ []) place
        ∙ sym (ap (λ (b : Bool). cond b (length (fpdus ++ item_encoding item) ∷ []) []) of_kind)

left_more : (is : OutputItem → Bool) (gone : ℕ) (fpdus queued : List ℕ) (items : List OutputItem) (item : OutputItem) → HasBytes is → gone ≤ length (items_encoding items) →
    fpdus ≡ drop gone (items_encoding items) → queued ≡ ends_left gone (item_ends is 0 items) →
    queued ++ queued_end is fpdus item ≡ ends_left gone (item_ends is 0 (items ++ item ∷ []))
left_more is gone fpdus queued items item some within here so_far =
    let all : ℕ = length (items_encoding items) in
    let len : length fpdus ≡ all - gone = ap (λ (bytes : List ℕ). length bytes) here ∙ length-drop gone (items_encoding items) in
    (λ i. so_far i ++ sym (end_left is all gone fpdus item some within len) i)
    ∙ sym (ends_left_append gone (item_ends is 0 items) (end_of_item is (0 + all) item))
    ∙ ap (λ (ends : List ℕ). ends_left gone ends) (sym (ends_more is 0 items item))

cond_count : (b : Bool) (x y : ℕ) → length (cond b (x ∷ []) []) ≡ length (cond b (y ∷ []) [])
cond_count true x y = refl
cond_count false x y = refl

passed_more_lem : (is : OutputItem → Bool) (gone : ℕ) (items : List OutputItem) (item : OutputItem) → HasBytes is → gone ≤ length (items_encoding items) →
    ends_passed gone (item_ends is 0 items) ≡ ends_passed gone (item_ends is 0 (items ++ item ∷ []))
passed_more_lem is gone items item some within =
    let all : ℕ = length (items_encoding items) in
    let rest : List ℕ = drop gone (items_encoding items) in
    let same : length (ends_left gone (end_of_item is (0 + all) item)) ≡ length (end_of_item is (0 + all) item) =
    ap (λ (ends : List ℕ). length ends) (end_left is all gone rest item some within (length-drop gone (items_encoding items)))
    ∙ cond_count (is item) (length (rest ++ item_encoding item)) (0 + all + length (item_encoding item)) in
    let none : ends_passed gone (end_of_item is (0 + all) item) ≡ 0 = omega (arith, same) in
    let sum : ends_passed gone (item_ends is 0 items ++ end_of_item is (0 + all) item) ≡ ends_passed gone (item_ends is 0 items) + ends_passed gone (end_of_item is (0 + all) item) =
    ends_passed_append gone (item_ends is 0 items) (end_of_item is (0 + all) item) in
    omega (arith, none, sum) ∙ ap (λ (ends : List ℕ). ends_passed gone ends) (sym (ends_more is 0 items item))

drop_seam : (n : ℕ) (xs ys : List ℕ) → length xs ≡ n → drop n (xs ++ ys) ≡ ys
drop_seam n xs ys len = drop_at xs ys n len

drop_more_lem : (n : ℕ) (xs ys : List ℕ) → n ≤ length xs → drop n (xs ++ ys) ≡ drop n xs ++ ys
drop_more_lem n xs ys le =
    ap (λ (zs : List ℕ). drop n (zs ++ ys)) (sym (take-append-drop n xs))
    ∙ ap (λ (zs : List ℕ). drop n zs) (append_assoc (take n xs) (drop n xs) ys)
    ∙ drop_seam n (take n xs) (drop n xs ++ ys) (omega (arith, length-take n xs))

encoding_one : (items : List OutputItem) (item : OutputItem) → items_encoding (items ++ item ∷ []) ≡ items_encoding items ++ item_encoding item
encoding_one items item = encoding_more items (item ∷ []) ∙ ap (λ (bytes : List ℕ). items_encoding items ++ bytes) (append-nil (item_encoding item))

-- the queue with one item more
pub record HasItem (q : SendQueue) (item : OutputItem) (after : SendQueue) : Type 0 where
  pub hello : after.hello ≡ q.hello
  pub fpdus : after.fpdus ≡ q.fpdus ++ item_encoding item
  pub sends : after.send_ends ≡ q.send_ends ++ queued_end is_send_item q.fpdus item
  pub responses : after.response_ends ≡ q.response_ends ++ queued_end is_response_item q.fpdus item
  pub left : after.sends_left ≡ q.sends_left

pub with_item : (all : List ℕ) (has_hello : Bool) (out : List ℕ) (items : List OutputItem) (q after : SendQueue) (item : OutputItem) → HasItem q item after →
    QueueIs all has_hello out items q → QueueIs all has_hello out (items ++ item ∷ []) after
with_item all has_hello out items q after item has is = record {
  greeted = is.greeted;
  gone = is.gone;
  hello = has.hello ∙ is.hello;
  fpdus = has.fpdus ∙ ap (λ (bytes : List ℕ). bytes ++ item_encoding item) is.fpdus
      ∙ sym (drop_more_lem is.gone (items_encoding items) (item_encoding item) is.within) ∙ ap (drop is.gone) (sym (encoding_one items item));
  written = is.written ∙ ap (λ (bytes : List ℕ). take is.greeted all ++ bytes)
      (sym (take-append-le is.gone (items_encoding items) (item_encoding item) is.within) ∙ ap (take is.gone) (sym (encoding_one items item)));
  within = omega (arith, is.within, ap (λ (bytes : List ℕ). length bytes) (encoding_one items item), length-append (items_encoding items) (item_encoding item));
  order = is.order;
  early = is.early;
  sends = has.sends ∙ left_more is_send_item is.gone q.fpdus q.send_ends items item sends_some is.within is.fpdus is.sends;
  responses = has.responses ∙ left_more is_response_item is.gone q.fpdus q.response_ends items item responses_some is.within is.fpdus is.responses;
  left = has.left ∙ is.left ∙ ap (λ (n : ℕ). min n most) (passed_more_lem is_send_item is.gone items item sends_some is.within);
}

-- ---- More of the hello

pub with_greeting : (all more : List ℕ) (later : Bool) (out : List ℕ) (items : List OutputItem) (q after : SendQueue) → after ≡ record q { hello = q.hello ++ more } →
    QueueIs all false out items q → QueueIs (all ++ more) later out items after
with_greeting all more later out items q after same is =
    let early : (is.gone ≡ 0) × (is.greeted ≤ length all) = is.early refl in
    subst (λ (k : SendQueue). QueueIs (all ++ more) later out items k) (sym same) (record {
      greeted = is.greeted;
      gone = is.gone;
      hello = ap (λ (bytes : List ℕ). bytes ++ more) is.hello ∙ sym (drop_more_lem is.greeted all more early.1);
      fpdus = is.fpdus;
      written = is.written ∙ ap (λ (bytes : List ℕ). bytes ++ take is.gone (items_encoding items)) (sym (take-append-le is.greeted all more early.1));
      within = is.within;
      order = inl early.0;
      early = λ none. (early.0, omega (arith, early.1, length-append all more));
      sends = is.sends;
      responses = is.responses;
      left = is.left;
    })

-- ---- Some bytes are written

front : (hello fpdus : List ℕ) → take (length hello) (hello ++ fpdus) ≡ hello
front hello fpdus = take_at hello fpdus (length hello) refl

behind : (hello fpdus : List ℕ) → drop (length hello) (hello ++ fpdus) ≡ fpdus
behind hello fpdus = drop_at hello fpdus (length hello) refl

none_taken_lem : (n : ℕ) (bytes : List ℕ) → bytes ≡ [] → take n bytes ≡ []
none_taken_lem n [] none = take_all n [] (omega arith)
none_taken_lem n (byte ∷ bytes) none = absurd (omega (arith, ap (λ (xs : List ℕ). length xs) none))

-- the first n of what may be written are the next bytes of the hello and then of the items
taken_of : (n : ℕ) (hello fpdus : List ℕ) → take n (hello ++ fpdus) ≡ take n hello ++ take (n - length hello) fpdus
taken_of n hello fpdus =
    elim (cases_lt (length hello) n) [
      | inl more ↦ (let sum : length hello + (n - length hello) ≡ n = omega (arith, more) in
          subst (λ (m : ℕ). take m (hello ++ fpdus) ≡ take n hello ++ take (n - length hello) fpdus) sum
          (take-add (length hello) (n - length hello) (hello ++ fpdus)
          ∙ (λ i. front hello fpdus i ++ take (n - length hello) (behind hello fpdus i))
          ∙ ap (λ (bytes : List ℕ). bytes ++ take (n - length hello) fpdus) (sym (take_all n hello (omega (arith, more))))))
      | inr fits ↦ (let none : n - length hello ≡ 0 = omega (arith, fits) in
          take-append-le n hello fpdus fits ∙ sym (append-nil (take n hello)) ∙ sym (ap (λ (m : ℕ). take n hello ++ take m fpdus) none))
    ]

-- and those of the items come only after all of the hello
pub with_written : (all : List ℕ) (has_hello : Bool) (out : List ℕ) (items : List OutputItem) (q : SendQueue) (n : ℕ) → n ≤ length (writable has_hello q) →
    QueueIs all has_hello out items q → QueueIs all has_hello (out ++ take n (writable has_hello q)) items (written n q)
unfolding written
with_written all has_hello out items q n fits is = record {
  greeted = is.greeted + n;
  gone = is.gone + m;
  hello = ap (drop n) is.hello ∙ drop-drop n is.greeted all;
  fpdus = ap (drop m) is.fpdus ∙ drop-drop m is.gone bytes;
  written = ap (λ (more : List ℕ). out ++ more) may ∙ ap (λ (so_far : List ℕ). so_far ++ (take n q.hello ++ take m q.fpdus)) is.written
      ∙ (λ i. (take is.greeted all ++ take is.gone bytes) ++ (take n (is.hello i) ++ take m (is.fpdus i))) ∙ joins is.order;
  within = omega (arith, is.within, few, ap (λ (xs : List ℕ). length xs) is.fpdus, length-drop is.gone bytes);
  order = later is.order;
  early = λ none. (omega (arith, (is.early none).0, none_of none), omega (arith, (is.early none).1, short none, ap (λ (xs : List ℕ). length xs) is.hello, length-drop is.greeted all));
  sends = ap (ends_left m) is.sends ∙ left_twice is.gone m (item_ends is_send_item 0 items);
  responses = ap (ends_left m) is.responses ∙ left_twice is.gone m (item_ends is_response_item 0 items);
  left = (λ i. min (is.left i + ends_passed m (is.sends i)) most) ∙ counted;
}
  where
    m : ℕ
    m = n - length q.hello

    ends : List ℕ
    ends = item_ends is_send_item 0 items

    counted : min (min (ends_passed is.gone ends) most + ends_passed m (ends_left is.gone ends)) most ≡ min (ends_passed (is.gone + m) ends) most
    counted = omega (arith, passed_twice is.gone m ends)

    bytes : List ℕ
    bytes = items_encoding items

    by_hello : (b : Bool) → n ≤ length (q.hello ++ cond b q.fpdus []) → m ≤ length q.fpdus
    by_hello true few_bytes = omega (arith, few_bytes, length-append q.hello q.fpdus)
    by_hello false few_bytes = omega (arith, few_bytes, length-append q.hello [])

    few : m ≤ length q.fpdus
    few = by_hello has_hello fits

    short : has_hello ≡ false → n ≤ length q.hello
    short none = omega (arith, fits, ap (λ (b : Bool). length (q.hello ++ cond b q.fpdus [])) none, length-append q.hello [])

    none_of : has_hello ≡ false → m ≡ 0
    none_of none = omega (arith, short none)

    may_by : (b : Bool) → n ≤ length (q.hello ++ cond b q.fpdus []) → take n (q.hello ++ cond b q.fpdus []) ≡ take n q.hello ++ take m q.fpdus
    may_by true few_bytes = taken_of n q.hello q.fpdus
    may_by false few_bytes =
        let none : m ≡ 0 = omega (arith, few_bytes, length-append q.hello []) in
        ap (take n) (append-nil q.hello) ∙ sym (append-nil (take n q.hello)) ∙ sym (ap (λ (k : ℕ). take n q.hello ++ take k q.fpdus) none)

    may : take n (writable has_hello q) ≡ take n q.hello ++ take m q.fpdus
    may = may_by has_hello fits

    joins : (is.gone ≡ 0) ⊎ (length all ≤ is.greeted) →
        (take is.greeted all ++ take is.gone bytes) ++ (take n (drop is.greeted all) ++ take m (drop is.gone bytes)) ≡ take (is.greeted + n) all ++ take (is.gone + m) bytes
    joins (inl none) =
        let first : take is.gone bytes ≡ [] = ap (λ (k : ℕ). take k bytes) none in
        ap (λ (xs : List ℕ). (take is.greeted all ++ xs) ++ (take n (drop is.greeted all) ++ take m (drop is.gone bytes))) first
        ∙ ap (λ (xs : List ℕ). xs ++ (take n (drop is.greeted all) ++ take m (drop is.gone bytes))) (append-nil (take is.greeted all))
        ∙ sym (append_assoc (take is.greeted all) (take n (drop is.greeted all)) (take m (drop is.gone bytes)))
        ∙ ap (λ (xs : List ℕ). xs ++ take m (drop is.gone bytes)) (sym (take-add is.greeted n all))
        ∙ ap (λ (xs : List ℕ). take (is.greeted + n) all ++ xs)
        (sym (ap (λ (xs : List ℕ). xs ++ take m (drop is.gone bytes)) first) ∙ sym (take-add is.gone m bytes))
    joins (inr whole) =
        let nothing : take n (drop is.greeted all) ≡ [] = none_taken_lem n (drop is.greeted all) (drop_all is.greeted all whole) in
        ap (λ (xs : List ℕ). (take is.greeted all ++ take is.gone bytes) ++ (xs ++ take m (drop is.gone bytes))) nothing
        ∙ append_assoc (take is.greeted all) (take is.gone bytes) (take m (drop is.gone bytes))
        ∙ ap (λ (xs : List ℕ). take is.greeted all ++ xs) (sym (take-add is.gone m bytes))
        ∙ ap (λ (xs : List ℕ). xs ++ take (is.gone + m) bytes) (take_all is.greeted all whole ∙ sym (take_all (is.greeted + n) all (omega (arith, whole))))

    later : (is.gone ≡ 0) ⊎ (length all ≤ is.greeted) → (is.gone + m ≡ 0) ⊎ (length all ≤ is.greeted + n)
    later (inr whole) = inr (omega (arith, whole))
    later (inl none) =
        elim (cases_lt (length q.hello) n) [
          | inl more ↦ inr (omega (arith, more, ap (λ (xs : List ℕ). length xs) is.hello, length-drop is.greeted all))
          | inr all_fits ↦ inl (omega (arith, none, all_fits))
        ]

-- ---- What follows

pub output_whole : (all : List ℕ) (has_hello : Bool) (out : List ℕ) (items : List OutputItem) (q : SendQueue) → QueueIs all has_hello out items q →
    out ++ (q.hello ++ q.fpdus) ≡ all ++ items_encoding items
output_whole all has_hello out items q is =
    (λ i. is.written i ++ (is.hello i ++ is.fpdus i)) ∙ by is.order
  where
    bytes : List ℕ
    bytes = items_encoding items

    by : (is.gone ≡ 0) ⊎ (length all ≤ is.greeted) → (take is.greeted all ++ take is.gone bytes) ++ (drop is.greeted all ++ drop is.gone bytes) ≡ all ++ bytes
    by (inl none) =
        (λ i. (take is.greeted all ++ take (none i) bytes) ++ (drop is.greeted all ++ drop (none i) bytes))
        ∙ ap (λ (xs : List ℕ). xs ++ (drop is.greeted all ++ bytes)) (append-nil (take is.greeted all))
        ∙ sym (append_assoc (take is.greeted all) (drop is.greeted all) bytes)
        ∙ ap (λ (xs : List ℕ). xs ++ bytes) (take-append-drop is.greeted all)
    by (inr whole) =
        (λ i. (take_all is.greeted all whole i ++ take is.gone bytes) ++ (drop_all is.greeted all whole i ++ drop is.gone bytes))
        ∙ append_assoc all (take is.gone bytes) (drop is.gone bytes)
        ∙ ap (λ (xs : List ℕ). all ++ xs) (take-append-drop is.gone bytes)

same_test_lem : (a b c d : ℕ) → ((a < b) → (c < d)) → ((b ≤ a) → (d ≤ c)) → nat_lt a b ≡ nat_lt c d
same_test_lem a b c d less more =
    elim (cases_lt a b) [
      | inl lt ↦ lt-ltb a b lt ∙ sym (lt-ltb c d (less lt))
      | inr le ↦ le-ltb a b le ∙ sym (le-ltb c d (more le))
    ]

ends_alike : (all : List ℕ) (has_hello : Bool) (out : List ℕ) (items : List OutputItem) (q : SendQueue) (is : QueueIs all has_hello out items q) →
    EndsAlike (length all) (length out) is.gone
ends_alike all has_hello out items q is end some =
    let count : length out ≡ length (take is.greeted all) + length (take is.gone (items_encoding items)) =
    ap (λ (xs : List ℕ). length xs) is.written ∙ length-append (take is.greeted all) (take is.gone (items_encoding items)) in
    let hello : length (take is.greeted all) ≡ min is.greeted (length all) = length-take is.greeted all in
    let gone : length (take is.gone (items_encoding items)) ≡ is.gone = length-take is.gone (items_encoding items) ∙ omega (arith, is.within) in
    by count hello gone is.order
  where
    by : length out ≡ length (take is.greeted all) + length (take is.gone (items_encoding items)) → length (take is.greeted all) ≡ min is.greeted (length all) →
        length (take is.gone (items_encoding items)) ≡ is.gone → (is.gone ≡ 0) ⊎ (length all ≤ is.greeted) → nat_lt (length out) (length all + end) ≡ nat_lt is.gone end
    by count hello gone (inl none) =
        same_test_lem (length out) (length all + end) is.gone end (λ lt. omega (arith, none, some)) (λ le. omega (arith, le, count, hello, gone, none, some))
    by count hello gone (inr whole) =
        same_test_lem (length out) (length all + end) is.gone end (λ lt. omega (arith, lt, count, hello, gone, whole)) (λ le. omega (arith, le, count, hello, gone, whole))

pub sends_count : (all : List ℕ) (has_hello : Bool) (out : List ℕ) (items : List OutputItem) (q : SendQueue) → QueueIs all has_hello out items q →
    q.sends_left ≡ min (items_written is_send_item (length all) (length out) items) most
sends_count all has_hello out items q is =
    is.left ∙ ap (λ (n : ℕ). min n most) (sym (written_counts is_send_item (length all) (length out) is.gone items sends_some (ends_alike all has_hello out items q is)))

pub responses_count : (all : List ℕ) (has_hello : Bool) (out : List ℕ) (items : List OutputItem) (q : SendQueue) → QueueIs all has_hello out items q →
    length q.response_ends ≡ items_left is_response_item (length all) (length out) items
responses_count all has_hello out items q is =
    let start : length all + 0 ≡ length all = omega arith in
    ap (λ (xs : List ℕ). length xs) is.responses
    ∙ sym (left_counts is_response_item (length all) (length out) is.gone 0 items responses_some (ends_alike all has_hello out items q is))
    ∙ ap (λ (n : ℕ). items_left is_response_item n (length out) items) start

pub waiting_count : (all : List ℕ) (has_hello : Bool) (out : List ℕ) (items : List OutputItem) (q : SendQueue) → QueueIs all has_hello out items q →
    length q.send_ends ≡ items_left is_send_item (length all) (length out) items
waiting_count all has_hello out items q is =
    let start : length all + 0 ≡ length all = omega arith in
    ap (λ (xs : List ℕ). length xs) is.sends
    ∙ sym (left_counts is_send_item (length all) (length out) is.gone 0 items sends_some (ends_alike all has_hello out items q is))
    ∙ ap (λ (n : ℕ). items_left is_send_item n (length out) items) start
