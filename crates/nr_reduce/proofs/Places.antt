-- A reader at an offset, and the offsets at which the heads of calls and replies end.
use Rattle.std.proofs.Common.{◌≡◌, ℕ, ◌+◌, ◌*◌, ◌/◌, ◌≤◌, eqb, List, [], ◌∷◌, ◌++◌, length, take, drop, Option, Some, None, Result, Ok, Err, refl, sym, ap, subst, ◌∙◌, arith, length-append, zero-add, inl, inr}
use Rattle.std.proofs.lemmas.Bool.{le-ltb}
use Rattle.nr_xdr.specs.declared.fault.ItemFault.{ItemFault}
use Rattle.nr_xdr.specs.Item.{Item as XdrItem, IsBytes, Reads, pad_len}
use Rattle.nr_xdr.specs.Item.Item.{Unsigned, Hyper, Boolean, Opaque, Fixed}
use Rattle.nr_xdr.specs.Items.{ReadsAll}
use Rattle.nr_xdr.specs.Reading.{Cursor, Gives, cursor_past, fixed_at}
use Rattle.nr_xdr.proofs.SequencingSteps.{chosen}
use Rattle.nr_xdr.proofs.WordBytes.{length_word, length_hyper}
use Rattle.nr_rpc.specs.Reading.{call_of, reply_of, target_of, GivesReply}
use Rattle.nr_rpc.specs.declared.fault.HeadFault.{HeadFault}
use Rattle.nr_rpc.specs.declared.fault.HeadFault.TheVariants as faults
use Rattle.nr_rpc.specs.declared.head.CallHead.{CallHead}
use Rattle.nr_rpc.specs.declared.head.CallHead.TheVariants as calls
use Rattle.nr_rpc.specs.declared.head.CallTarget.{CallTarget}
use Rattle.nr_rpc.specs.declared.head.ReplyHead.{ReplyHead}
use Rattle.nr_rpc.specs.declared.head.ReplyHead.TheVariants as replies
use Rattle.nr_rpc.specs.Call.{version2_items}
use Rattle.nr_rpc.specs.Reply.{reply_items}
use Rattle.nr_rpc.proofs.Calls.{call_begins}
use Rattle.nr_rpc.proofs.Replies.{reply_begins}
use Rattle.std.specs.Prelude.{IfSome}
use Rattle.nr_reduce.specs.declared.item.Item.{Item}
use Rattle.nr_reduce.specs.declared.item.Of.{Of}
use Rattle.nr_xdr.specs.Reading.{unsigned_at}
use Rattle.nr_xdr.specs.Sequencing.{◌>>=◌, or_place, number_at}
use Rattle.nr_nfs_base.specs.Codec.{cursor_after}
use Rattle.nr_nfs_base.specs.Fronts.{write_args_front, symlink_args_front, readlink_res_front, read_res_front, read_args_front, readdir_args_front, readdirplus_args_front}
use Rattle.nr_reduce.specs.private.AfterFront.{and_then, value_of, number_after}
use Rattle.nr_reduce.specs.Items.{before_data, before_path, before_target, before_read, from_place, item_at, target_item, call_item, results_of, results_item, reply_item, item_of}
use Rattle.nr_reduce.specs.Largest.{count_of, read_count, readdir_count, readdirplus_count, target_reply_max, largest_reply}
use Rattle.nr_reduce.specs.Plans.{target_offer, write_offer}
use Rattle.nr_reduce.proofs.ItemSearch.{item_stands}

-- ---- A reader at an offset

fixed_there : (n : ℕ) (payload : List ℕ) → n ≤ length payload → pad_len n ≡ 0 → fixed_at n (record { place = 0; rest = payload }) ≡ Ok (take n payload, from_place n payload)
unfolding fixed_at cursor_past
fixed_there n payload le padless =
    let whole : n + pad_len n ≡ n = omega (arith, padless) in
    let same : 0 + n ≡ n = zero-add n in
    rw whole (rw (le-ltb (length payload) n le) (λ i. Ok (take n payload, record { place = same i; rest = drop n payload })))

abbrev found : List ℕ × Cursor → Result (List ℕ × Cursor) ItemFault
found x = Ok x

found_is : (x y : List ℕ × Cursor) → found x ≡ found y → x ≡ y
found_is x y e = cc

by_gives : {X : Type 0} (view : X → List ℕ) (r : Result X ItemFault) (old new : Cursor) (read : Result (List ℕ × Cursor) ItemFault) (bytes : List ℕ) (to : Cursor) → read ≡ Ok (bytes, to) → Gives view r old new read → new ≡ to
by_gives view (Ok x) old new read bytes to is g =
    ap (λ (q : List ℕ × Cursor). q.1) (found_is (view x, new) (bytes, to) (sym g ∙ is))
by_gives view (Err fault) old new read bytes to is g = absurd (let e = sym g.0 ∙ is in cc)

pub reader_there : {X : Type 0} (view : X → List ℕ) (r : Result X ItemFault) (n : ℕ) (payload : List ℕ) (new : Cursor) → n ≤ length payload → pad_len n ≡ 0
    → Gives view r (record { place = 0; rest = payload }) new (fixed_at n (record { place = 0; rest = payload })) → new ≡ from_place n payload
reader_there view r n payload new le padless g =
    by_gives view r (record { place = 0; rest = payload }) new (fixed_at n (record { place = 0; rest = payload })) (take n payload) (from_place n payload) (fixed_there n payload le padless) g

-- ---- Items are multiples of a word

record Words (n : ℕ) : Type 0 where
  count : ℕ
  is : n ≡ 4 * count

padded_words : (n : ℕ) → Words (n + pad_len n)
unfolding pad_len
padded_words n = record { count = (n + 3) / 4; is = omega arith }

sum_words : (m n k : ℕ) → k ≡ m + n → Words m → Words n → Words k
sum_words m n k e p q = record { count = p.count + q.count; is = omega (arith, p.is, q.is) }

item_words : (item : XdrItem) (bytes : List ℕ) → Reads item bytes → Words (length bytes)
item_words (Unsigned n) bytes r = record { count = 1; is = ap length r.bytes_are ∙ length_word n }
item_words (Hyper n) bytes r = record { count = 2; is = ap length r.bytes_are ∙ length_hyper n }
item_words (Boolean b) bytes r = record { count = 1; is = ap length r.bytes_are ∙ length_word _ }
item_words (Opaque s) bytes r =
    let w = padded_words (length s) in record {
      count = 1 + w.count;
      is = omega (arith, w.is, ap length r.bytes_are, length-append {A = ℕ}, length_word (length s), r.pad_is);
    }
item_words (Fixed s) bytes r =
    let w = padded_words (length s) in record {
      count = w.count;
      is = omega (arith, w.is, ap length r.bytes_are, length-append {A = ℕ}, r.pad_is);
    }

each_words : (items : List XdrItem) (bytes : List ℕ) → ReadsAll items bytes → Words (length bytes)
each_words [] bytes e = record { count = 0; is = ap length e }
each_words (item ∷ items) bytes (front, behind, reads, others, parts) =
    sum_words (length front) (length behind) (length bytes) (ap length parts ∙ length-append front behind) (item_words item front reads) (each_words items behind others)

padless : (n : ℕ) → Words n → pad_len n ≡ 0
unfolding pad_len
padless n w = omega (arith, w.is)

-- an offset after a head
pub record Behind (payload : List ℕ) (at : ℕ) : Type 0 where
  pub inside : at ≤ length payload
  pub words : pad_len at ≡ 0

behind_front : (payload front behind : List ℕ) (at : ℕ) → payload ≡ front ++ behind → at ≡ length front → Words (length front) → Behind payload at
behind_front payload front behind at parts is w = record {
  inside = omega (arith, is, ap length parts, length-append front behind);
  words = ap pad_len is ∙ padless (length front) w;
}

by_call : (payload : List ℕ) (r : Result CallHead ℕ) (t : CallTarget) → IsBytes payload → call_of payload ≡ r → target_of r ≡ Some t → Behind payload t.args_at
by_call payload (Ok (calls.Version2 xid prog vers proc cred args_at)) t fits is e =
    let b = call_begins payload (calls.Version2 xid prog vers proc cred args_at) fits is in
    let same : args_at ≡ t.args_at = (let s : record { xid = xid; prog = prog; vers = vers; proc = proc; args_at = args_at } ≡ t = cc in ap (λ (t : CallTarget). t.args_at) s) in
    subst (λ (at : ℕ). Behind payload at) same (behind_front payload b.0 b.1 args_at b.3 b.2.6 (each_words (version2_items xid prog vers proc b.2.0 b.2.1) b.0 b.2.5))
by_call payload (Ok (calls.Other xid rpcvers)) t fits is e = absurd cc
by_call payload (Err at) t fits is e = absurd cc

-- Arguments begin at a multiple of a word.
pub arguments_behind : (payload : List ℕ) (t : CallTarget) → IsBytes payload → target_of (call_of payload) ≡ Some t → Behind payload t.args_at
arguments_behind payload t fits e = by_call payload (call_of payload) t fits refl e

-- So do results.
by_reply : (payload : List ℕ) (r : Result ReplyHead ℕ) (at : ℕ) → IsBytes payload → reply_of payload ≡ r → results_of r ≡ Some at → Behind payload at
by_reply payload (Ok (replies.Accepted xid stat results_at)) at fits is e =
    elim (chosen (eqb stat 0) (Some results_at) None (Some at) e) [
      | inl h ↦
          let b = reply_begins payload (replies.Accepted xid stat results_at) fits is in
          let same : results_at ≡ at = (let s : Some results_at ≡ Some at = h.1 in cc) in
          subst (λ (at : ℕ). Behind payload at) same
          (behind_front payload b.0 b.1 results_at b.3 b.2.accepted.1 (each_words (reply_items (replies.Accepted xid stat results_at) b.2.verifier) b.0 b.2.items))
      | inr h ↦ absurd (let s : None ≡ Some at = h.1 in cc)
    ]
by_reply payload (Ok (replies.ProgMismatch xid low high)) at fits is e = absurd cc
by_reply payload (Ok (replies.RpcMismatch xid low high)) at fits is e = absurd cc
by_reply payload (Ok (replies.AuthError xid stat)) at fits is e = absurd cc
by_reply payload (Err fault) at fits is e = absurd cc

pub results_behind : (payload : List ℕ) (at : ℕ) → IsBytes payload → results_of (reply_of payload) ≡ Some at → Behind payload at
results_behind payload at fits e = by_reply payload (reply_of payload) at fits refl e

-- ---- Items

-- an item is read if what precedes it can be read
item_after : {A : Type 0} (r : Result (A × Cursor) ℕ) → item_at (r >>= λ x. Ok x.1) ≡ and_then (cursor_after r) (λ (c : Cursor). item_at (Ok c))
item_after (Ok x) = refl
item_after (Err at) = refl

pub item_in_write : (c : Cursor) → item_at (before_data c) ≡ and_then (cursor_after (write_args_front.read c)) (λ (c : Cursor). item_at (Ok c))
unfolding before_data
item_in_write c = item_after (write_args_front.read c)

pub item_in_symlink : (c : Cursor) → item_at (before_path c) ≡ and_then (cursor_after (symlink_args_front.read c)) (λ (c : Cursor). item_at (Ok c))
unfolding before_path
item_in_symlink c = item_after (symlink_args_front.read c)

pub item_in_readlink : (c : Cursor) → item_at (before_target c) ≡ and_then (cursor_after (readlink_res_front.read c)) (λ (c : Cursor). item_at (Ok c))
unfolding before_target
item_in_readlink c = item_after (readlink_res_front.read c)

pub item_in_read : (c : Cursor) → item_at (before_read c) ≡ and_then (cursor_after (read_res_front.read c)) (λ (c : Cursor). item_at (Ok c))
unfolding before_read
item_in_read c = item_after (read_res_front.read c)

pub ruleset items_of_calls = (item_in_write, item_in_symlink)

pub ruleset items_of_replies = (item_in_readlink, item_in_read)

-- a count is read if what precedes it can be read
counted : (at : Cursor) → count_of (number_at at) ≡ value_of (unsigned_at at)
counted at = by (unsigned_at at)
  where
    by : (r : Result (ℕ × Cursor) ItemFault) → count_of (or_place r) ≡ value_of r
    by (Ok n) = refl
    by (Err e) = refl

count_in : {A : Type 0} (r : Result (A × Cursor) ℕ) → count_of (r >>= λ x. number_at x.1) ≡ number_after (cursor_after r)
unfolding number_after
count_in (Ok x) = counted x.1
count_in (Err at) = refl

pub count_in_read : (c : Cursor) → read_count c ≡ number_after (cursor_after (read_args_front.read c))
unfolding read_count
count_in_read c = count_in (read_args_front.read c)

pub count_in_readdir : (c : Cursor) → readdir_count c ≡ number_after (cursor_after (readdir_args_front.read c))
unfolding readdir_count
count_in_readdir c = count_in (readdir_args_front.read c)

pub count_in_readdirplus : (c : Cursor) → readdirplus_count c ≡ number_after (cursor_after (readdirplus_args_front.read c))
unfolding readdirplus_count
count_in_readdirplus c = count_in (readdirplus_args_front.read c)

pub ruleset counts = (count_in_read, count_in_readdir, count_in_readdirplus)

pub largest_by : (payload : List ℕ) (o : Option CallTarget) → o ≡ target_of (call_of payload) → target_reply_max payload o ≡ largest_reply payload
unfolding largest_reply
largest_by payload o e = ap (λ (t : Option CallTarget). target_reply_max payload t) e

pub write_offer_by : (payload : List ℕ) (o : Option CallTarget) → o ≡ target_of (call_of payload) → target_offer payload o ≡ write_offer payload
unfolding write_offer
write_offer_by payload o e = ap (λ (t : Option CallTarget). target_offer payload t) e

pub call_item_by : (payload : List ℕ) (o : Option CallTarget) → o ≡ target_of (call_of payload) → target_item payload o ≡ call_item payload
unfolding call_item
call_item_by payload o e = ap (λ (t : Option CallTarget). target_item payload t) e

pub reply_item_by : (prog vers proc : ℕ) (payload : List ℕ) (o : Option ℕ) → o ≡ results_of (reply_of payload) → results_item prog vers proc payload o ≡ reply_item prog vers proc payload
unfolding reply_item
reply_item_by prog vers proc payload o e = ap (λ (at : Option ℕ). results_item prog vers proc payload at) e

-- no results begin in what is no reply
pub no_results : (e : HeadFault) (read : Result ReplyHead ℕ) → GivesReply (Err e) read → None ≡ results_of read
no_results (faults.NotCall at) read g = absurd g
no_results (faults.NotReply at) read g = ap results_of (sym g)
no_results faults.Memory read g = absurd g

pub item_inside : (of : Of) (payload : List ℕ) (o : Option Item) → IsBytes payload → o ≡ item_of of payload → IfSome o (λ i. i.pos ≤ length payload)
item_inside of payload None fits e = tt
item_inside of payload (Some i) fits e = (item_stands of payload i fits (sym e)).enough
