-- An item is found by what precedes it: the stream that is cut off at the item's position has the same item.
use Rattle.std.proofs.Common.{◌≡◌, ℕ, ◌+◌, ◌≤◌, Bool, cond, ◌&&◌, eqb, List, [], ◌∷◌, ◌++◌, length, take, drop, Option, Some, None, Result, Ok, Err, refl, sym, ap, subst, ◌∙◌, arith, append_assoc, append-nil, length-append, inl, inr}
use Rattle.std.proofs.lemmas.List.{take-append-drop, take_at, drop_at}
use Rattle.nr_xdr.specs.Item.{Item as XdrItem, IsBytes}
use Rattle.nr_xdr.specs.Item.Item.{Unsigned}
use Rattle.nr_xdr.specs.Items.{TakesAll}
use Rattle.nr_xdr.specs.Reading.{Cursor, Takes}
use Rattle.nr_xdr.specs.Sequencing.{◌>>=◌, number_at}
use Rattle.nr_xdr.proofs.SequencingSteps.{bind_ok, ok_is, chosen, number_step, number_again}
use Rattle.nr_xdr.proofs.WordBytes.{length_word}
use Rattle.nr_xdr.proofs.Chains.{standing, IsBytes_right, IsBytes_left}
use Rattle.nr_rpc.specs.Reading.{call_of, reply_of, target_of}
use Rattle.nr_rpc.specs.declared.head.CallHead.{CallHead}
use Rattle.nr_rpc.specs.declared.head.CallHead.TheVariants as calls
use Rattle.nr_rpc.specs.declared.head.CallTarget.{CallTarget}
use Rattle.nr_rpc.specs.declared.head.ReplyHead.{ReplyHead}
use Rattle.nr_rpc.specs.declared.head.ReplyHead.TheVariants as replies
use Rattle.nr_rpc.proofs.Calls.{call_begins, begins_call}
use Rattle.nr_rpc.proofs.Replies.{reply_begins, begins_reply}
use Rattle.nr_nfs_base.specs.Codec.{Codec, Lawful}
use Rattle.nr_nfs_base.specs.Laws.{◌⊠◌}
use Rattle.nr_nfs_base.specs.Fronts.{write_args_front, write_args_front_lawful, symlink_args_front, symlink_args_front_lawful, readlink_res_front, readlink_ok_front_lawful, read_res_front, read_ok_front_lawful, success_lawful}
use Rattle.nr_reduce.specs.declared.item.Item.{Item}
use Rattle.nr_reduce.specs.declared.item.Of.{Of}
use Rattle.nr_reduce.specs.Items.{item_of, item_by, item_at, before_data, before_path, before_target, before_read, from_place, target_item, call_item, results_of, results_item, reply_item, is_nfs, READ, READLINK, WRITE, SYMLINK}
use Rattle.nr_reduce.specs.declared.item.Of.TheVariants.{Call, Reply}

-- a step that took some bytes, and takes them again whatever follows
pub record Reaches (read : Cursor → Result Cursor ℕ) (c after : Cursor) : Type 0 where
  pub bytes : List ℕ
  pub rest : c.rest ≡ bytes ++ after.rest
  pub place : after.place ≡ c.place + length bytes
  pub again : (more : List ℕ) → read (standing c.place (bytes ++ more)) ≡ Ok (standing after.place more)

abbrev Local : (Cursor → Result Cursor ℕ) → Type 0
Local read = (c after : Cursor) → IsBytes c.rest → read c ≡ Ok after → Reaches read c after

pub record Retakes (items : List XdrItem) (old new : Cursor) : Type 0 where
  pub bytes : List ℕ
  pub rest : old.rest ≡ bytes ++ new.rest
  pub place : new.place ≡ old.place + length bytes
  pub again : (more : List ℕ) → TakesAll (standing old.place (bytes ++ more)) (standing new.place more) items

takes_all_again : (items : List XdrItem) (old new : Cursor) → TakesAll old new items → Retakes items old new
takes_all_again [] old new e = record {
  bytes = [];
  rest = ap (λ (c : Cursor). c.rest) e;
  place = omega (arith, ap (λ (c : Cursor). c.place) e);
  again = λ more. ap (λ (c : Cursor). standing c.place more) e;
}
takes_all_again (item ∷ items) old new (middle, taken, others) =
    let r = takes_all_again items middle new others in record {
      bytes = taken.bytes ++ r.bytes;
      rest = taken.rest ∙ ap (λ (xs : List ℕ). taken.bytes ++ xs) r.rest ∙ sym (append_assoc taken.bytes r.bytes new.rest);
      place = omega (arith, taken.place, r.place, length-append taken.bytes r.bytes);
      again = λ more. (
        standing middle.place (r.bytes ++ more),
        record { bytes = taken.bytes; reads = taken.reads; rest = append_assoc taken.bytes r.bytes more; place = taken.place },
        r.again more,
      );
    }

abbrev behind : {A : Type 0} → A × Cursor → Result Cursor ℕ
behind x = Ok x.1

of_codec : {A : Type 0} (c : Codec A) → Lawful c → Local (λ at. c.read at >>= λ x. Ok x.1)
of_codec {A} c lawful at after fits e =
    let b = bind_ok (c.read at) (λ x. Ok x.1) after e in
    let taken = lawful.read_is_encoded at b.0.0 b.0.1 fits b.1 in
    let r = takes_all_again (c.items b.0.0) at b.0.1 taken.1 in
    subst (λ (a : Cursor). Reaches (λ at. c.read at >>= λ x. Ok x.1) at a) (ok_is b.0.1 after b.2) (record {
      bytes = r.bytes;
      rest = r.rest;
      place = r.place;
      again = λ more. ap (λ (read : Result (A × Cursor) ℕ). read >>= λ x. Ok x.1)
          (lawful.encoded_is_read (standing at.place (r.bytes ++ more)) b.0.0 (standing b.0.1.place more) taken.0 (r.again more));
    })

-- an item that was found after these bytes
pub record Found (read : Cursor → Result Cursor ℕ) (c : Cursor) (i : Item) : Type 0 where
  pub bytes : List ℕ
  pub behind : List ℕ
  pub rest : c.rest ≡ bytes ++ behind
  pub place : i.pos ≡ c.place + length bytes
  pub least : 4 ≤ length bytes
  pub again : item_at (read (standing c.place bytes)) ≡ Some i

by_ok : (r : Result (ℕ × Cursor) ℕ) (i : Item) → item_by r ≡ Some i → (x : ℕ × Cursor) × (r ≡ Ok x) × (i.pos ≡ x.1.place) × (i ≡ record { pos = x.1.place; len = x.0 })
by_ok (Ok x) i e = (x, refl, (let s : record { pos = x.1.place; len = x.0 } ≡ i = cc in ap (λ (j : Item). j.pos) (sym s)), (let s : record { pos = x.1.place; len = x.0 } ≡ i = cc in sym s))
by_ok (Err at) i e = absurd cc

-- a number was read after a front: the item
found : (read : Cursor → Result Cursor ℕ) → Local read → (c : Cursor) (i : Item) → IsBytes c.rest → item_at (read c) ≡ Some i → Found read c i
found read local c i fits e =
    let r = by_ok (read c >>= number_at) i e in
    let b = bind_ok (read c) number_at r.0 r.1 in
    let p = local c b.0 fits b.1 in
    let inside : IsBytes b.0.rest = IsBytes_right p.bytes b.0.rest (subst IsBytes p.rest fits) in
    let step : (number_at b.0 >>= λ (x : ℕ × Cursor). Ok x) ≡ Ok r.0 = ap (λ (q : Result (ℕ × Cursor) ℕ). q >>= λ (x : ℕ × Cursor). Ok x) b.2 in
    let s = number_step b.0 (λ (x : ℕ × Cursor). Ok x) r.0 inside step in
    let same : s.0 ≡ r.0 = ok_is s.0 r.0 s.3 in
    let taken : Takes b.0 r.0.1 (Unsigned r.0.0) = subst (λ (x : ℕ × Cursor). Takes b.0 x.1 (Unsigned x.0)) same s.1 in
    let len : length taken.bytes ≡ 4 = ap length taken.reads.bytes_are ∙ length_word r.0.0 in record {
      bytes = p.bytes ++ taken.bytes;
      behind = r.0.1.rest;
      rest = p.rest ∙ ap (λ (xs : List ℕ). p.bytes ++ xs) taken.rest ∙ sym (append_assoc p.bytes taken.bytes r.0.1.rest);
      place = omega (arith, r.2, p.place, taken.place, length-append p.bytes taken.bytes);
      least = omega (arith, len, length-append p.bytes taken.bytes);
      again =
          ap (λ (q : Result Cursor ℕ). item_at q) (p.again taken.bytes)
          ∙ ap item_by (number_again (standing b.0.place taken.bytes) r.0.0 (standing r.0.1.place [])
          (record { bytes = taken.bytes; reads = taken.reads; rest = sym (append-nil taken.bytes); place = taken.place }))
          ∙ ap Some (sym r.3);
    }

-- what is cut off at the item's position
pub record Cut (payload front bytes : List ℕ) (start pos : ℕ) : Type 0 where
  pub stream : take pos payload ≡ front ++ bytes
  pub arguments : drop start (take pos payload) ≡ bytes
  pub enough : pos ≤ length payload

cut_at : (payload front behind bytes more : List ℕ) (start pos : ℕ) → payload ≡ front ++ behind → start ≡ length front → drop start payload ≡ bytes ++ more → pos ≡ start + length bytes → Cut payload front bytes start pos
cut_at payload front behind bytes more start pos parts at rest place =
    let back : behind ≡ bytes ++ more = sym (drop_at front behind start (sym at)) ∙ ap (λ (xs : List ℕ). drop start xs) (sym parts) ∙ rest in
    let whole : payload ≡ (front ++ bytes) ++ more = parts ∙ ap (λ (xs : List ℕ). front ++ xs) back ∙ sym (append_assoc front bytes more) in
    let len : length (front ++ bytes) ≡ pos = omega (arith, length-append front bytes, at, place) in
    let stream : take pos payload ≡ front ++ bytes = ap (λ (xs : List ℕ). take pos xs) whole ∙ take_at (front ++ bytes) more pos len in record {
      stream = stream;
      arguments = ap (λ (xs : List ℕ). drop start xs) stream ∙ drop_at front bytes start (sym at);
      enough = omega (arith, len, ap length whole, length-append (front ++ bytes) more);
    }

-- The item comes after its length word, within the payload, and its stream has it.
pub record Stands (of : Of) (payload : List ℕ) (i : Item) : Type 0 where
  pub least : 4 ≤ i.pos
  pub enough : i.pos ≤ length payload
  pub again : item_of of (take i.pos payload) ≡ Some i

IsBytes_drop : (n : ℕ) (xs : List ℕ) → IsBytes xs → IsBytes (drop n xs)
IsBytes_drop n xs fits = IsBytes_right (take n xs) (drop n xs) (subst IsBytes (sym (take-append-drop n xs)) fits)

pub IsBytes_take : (n : ℕ) (xs : List ℕ) → IsBytes xs → IsBytes (take n xs)
IsBytes_take n xs fits = IsBytes_left (take n xs) (drop n xs) (subst IsBytes (sym (take-append-drop n xs)) fits)

local_data : Local before_data
unfolding before_data
local_data = of_codec write_args_front write_args_front_lawful

local_path : Local before_path
unfolding before_path
local_path = of_codec symlink_args_front symlink_args_front_lawful

local_target : Local before_target
unfolding before_target
local_target = of_codec readlink_res_front (success_lawful ⊠ readlink_ok_front_lawful)

local_read : Local before_read
unfolding before_read
local_read = of_codec read_res_front (success_lawful ⊠ read_ok_front_lawful)

-- after a head
after_head : (read : Cursor → Result Cursor ℕ) → Local read → (payload front behind : List ℕ) (start : ℕ) (i : Item) → IsBytes payload → payload ≡ front ++ behind → start ≡ length front → item_at (read (from_place start payload)) ≡ Some i
    → (4 ≤ i.pos) × (i.pos ≤ length payload) × ((bytes : List ℕ) × (take i.pos payload ≡ front ++ bytes)) × (item_at (read (from_place start (take i.pos payload))) ≡ Some i)
after_head read local payload front behind start i fits parts at e =
    let f = found read local (from_place start payload) i (IsBytes_drop start payload fits) e in
    let c = cut_at payload front behind f.bytes f.behind start i.pos parts at f.rest f.place in (
      omega (arith, f.least, f.place),
      c.enough,
      (f.bytes, c.stream),
      ap (λ (xs : List ℕ). item_at (read (standing start xs))) c.arguments ∙ f.again,
    )

in_call : (payload : List ℕ) (i : Item) (r : Result CallHead ℕ) → IsBytes payload → call_of payload ≡ r → target_item payload (target_of r) ≡ Some i → Stands Call payload i
unfolding call_item
in_call payload i (Ok (calls.Version2 xid prog vers proc cred args_at)) fits is e =
    let head = calls.Version2 xid prog vers proc cred args_at in
    let target : CallTarget = record { xid = xid; prog = prog; vers = vers; proc = proc; args_at = args_at } in
    let begins = call_begins payload head fits is in
    let at : args_at ≡ length begins.0 = begins.2.6 in
    let same : (bytes : List ℕ) → take i.pos payload ≡ begins.0 ++ bytes → call_of (take i.pos payload) ≡ Ok head =
    λ bytes stream. begins_call (take i.pos payload) head (IsBytes_take i.pos payload fits) (begins.0, bytes, begins.2, stream) in
    let by_target : (bytes : List ℕ) → take i.pos payload ≡ begins.0 ++ bytes → call_item (take i.pos payload) ≡ target_item (take i.pos payload) (Some target) =
    λ bytes stream. ap (λ (r : Result CallHead ℕ). target_item (take i.pos payload) (target_of r)) (same bytes stream) in
    elim (chosen (is_nfs prog vers && eqb proc WRITE) (item_at (before_data (from_place args_at payload)))
    (cond (is_nfs prog vers && eqb proc SYMLINK) (item_at (before_path (from_place args_at payload))) None) (Some i) e) [
      | inl h ↦
          let a = after_head before_data local_data payload begins.0 begins.1 args_at i fits begins.3 at h.1 in record {
            least = a.0;
            enough = a.1;
            again = by_target a.2.0 a.2.1
                ∙ ap (λ (b : Bool). cond b (item_at (before_data (from_place args_at (take i.pos payload))))
                (cond (is_nfs prog vers && eqb proc SYMLINK) (item_at (before_path (from_place args_at (take i.pos payload)))) None)) h.0
                ∙ a.3;
          }
      | inr h ↦ elim (chosen (is_nfs prog vers && eqb proc SYMLINK) (item_at (before_path (from_place args_at payload))) None (Some i) h.1) [
        | inl g ↦
            let a = after_head before_path local_path payload begins.0 begins.1 args_at i fits begins.3 at g.1 in record {
              least = a.0;
              enough = a.1;
              again = by_target a.2.0 a.2.1
                  ∙ ap (λ (b : Bool). cond b (item_at (before_data (from_place args_at (take i.pos payload))))
                  (cond (is_nfs prog vers && eqb proc SYMLINK) (item_at (before_path (from_place args_at (take i.pos payload)))) None)) h.0
                  ∙ ap (λ (b : Bool). cond b (item_at (before_path (from_place args_at (take i.pos payload)))) None) g.0
                  ∙ a.3;
            }
        | inr g ↦ absurd (let wrong = g.1 in cc)
      ]
    ]
in_call payload i (Ok (calls.Other xid rpcvers)) fits is e = absurd cc
in_call payload i (Err at) fits is e = absurd cc

in_results : (prog vers proc : ℕ) (payload : List ℕ) (i : Item) (r : Result ReplyHead ℕ) → IsBytes payload → reply_of payload ≡ r → results_item prog vers proc payload (results_of r) ≡ Some i
    → Stands (Reply prog vers proc) payload i
unfolding reply_item
in_results prog vers proc payload i (Ok (replies.Accepted xid stat results_at)) fits is e =
    elim (chosen (eqb stat 0) (Some results_at) None (results_of (Ok (replies.Accepted xid stat results_at))) refl) [
      | inl ok ↦
          let head = replies.Accepted xid stat results_at in
          let begins = reply_begins payload head fits is in
          let at : results_at ≡ length begins.0 = begins.2.accepted.1 in
          let e2 : results_item prog vers proc payload (Some results_at) ≡ Some i = ap (λ (o : Option ℕ). results_item prog vers proc payload o) ok.1 ∙ e in
          let by_results : (bytes : List ℕ) → take i.pos payload ≡ begins.0 ++ bytes → reply_item prog vers proc (take i.pos payload) ≡ results_item prog vers proc (take i.pos payload) (Some results_at) =
          λ bytes stream.
          ap (λ (r : Result ReplyHead ℕ). results_item prog vers proc (take i.pos payload) (results_of r)) (begins_reply (take i.pos payload) head (begins.0, bytes, begins.2, stream))
          ∙ ap (λ (o : Option ℕ). results_item prog vers proc (take i.pos payload) o) (sym ok.1) in
          elim (chosen (is_nfs prog vers && eqb proc READ) (item_at (before_read (from_place results_at payload)))
          (cond (is_nfs prog vers && eqb proc READLINK) (item_at (before_target (from_place results_at payload))) None) (Some i) e2) [
            | inl h ↦
                let a = after_head before_read local_read payload begins.0 begins.1 results_at i fits begins.3 at h.1 in record {
                  least = a.0;
                  enough = a.1;
                  again = by_results a.2.0 a.2.1
                      ∙ ap (λ (b : Bool). cond b (item_at (before_read (from_place results_at (take i.pos payload))))
                      (cond (is_nfs prog vers && eqb proc READLINK) (item_at (before_target (from_place results_at (take i.pos payload)))) None)) h.0
                      ∙ a.3;
                }
            | inr h ↦ elim (chosen (is_nfs prog vers && eqb proc READLINK) (item_at (before_target (from_place results_at payload))) None (Some i) h.1) [
              | inl g ↦
                  let a = after_head before_target local_target payload begins.0 begins.1 results_at i fits begins.3 at g.1 in record {
                    least = a.0;
                    enough = a.1;
                    again = by_results a.2.0 a.2.1
                        ∙ ap (λ (b : Bool). cond b (item_at (before_read (from_place results_at (take i.pos payload))))
                        (cond (is_nfs prog vers && eqb proc READLINK) (item_at (before_target (from_place results_at (take i.pos payload)))) None)) h.0
                        ∙ ap (λ (b : Bool). cond b (item_at (before_target (from_place results_at (take i.pos payload)))) None) g.0
                        ∙ a.3;
                  }
              | inr g ↦ absurd (let wrong = g.1 in cc)
            ]
          ]
      | inr bad ↦ absurd (let wrong : results_item prog vers proc payload None ≡ Some i = ap (λ (o : Option ℕ). results_item prog vers proc payload o) bad.1 ∙ e in cc)
    ]
in_results prog vers proc payload i (Ok (replies.ProgMismatch xid low high)) fits is e = absurd cc
in_results prog vers proc payload i (Ok (replies.RpcMismatch xid low high)) fits is e = absurd cc
in_results prog vers proc payload i (Ok (replies.AuthError xid stat)) fits is e = absurd cc
in_results prog vers proc payload i (Err at) fits is e = absurd cc

pub item_stands : (of : Of) (payload : List ℕ) (i : Item) → IsBytes payload → item_of of payload ≡ Some i → Stands of payload i
unfolding call_item reply_item
item_stands Call payload i fits e = in_call payload i (call_of payload) fits refl e
item_stands (Reply prog vers proc) payload i fits e = in_results prog vers proc payload i (reply_of payload) fits refl e
