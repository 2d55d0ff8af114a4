-- Replies that are written into a writer with room: the head, and the results after it.
use Rattle.std.proofs.Common.{◌≡◌, ℕ, ◌≤◌, ◌<◌, List, [], ◌++◌, length, Result, Ok, Err, IfOk, refl, ap, ◌∙◌, arith, length-append}
use Rattle.nr_xdr.specs.Item.{word, pad_len}
use Rattle.nr_xdr.specs.Items.{encodings}
use Rattle.nr_xdr.specs.Room.{Room, HasRoom, Appended}
use Rattle.nr_xdr.specs.declared.fault.Memory.{Memory}
use Rattle.nr_nfs_base.specs.Codec.{Codec, AppendsValue}
use Rattle.nr_rpc.specs.Reply.{reply_head, reply_encoding}
use Rattle.nr_rpc.specs.declared.head.ReplyHead.{ReplyHead}
use Rattle.nr_rpc.specs.declared.head.ReplyHead.TheVariants.{Accepted}
use Rattle.nr_plain.specs.Replies.{results_reply}
use Rattle.nr_plain.specs.ReplySizes.{head_size, results_max, reply_max}

accepted_size : (xid : ℕ) → length (reply_head (Accepted xid 0 0)) ≡ head_size
unfolding word pad_len
accepted_size xid = refl

-- a new room of that many bytes has room for the complete reply
pub reply_has_room : (room : Room) (xid : ℕ) (results : List ℕ) → room ≡ record { bytes = []; left = reply_max } → length results ≤ results_max → HasRoom room (reply_encoding (Accepted xid 0 0) results)
reply_has_room room xid results e le =
    let left : room.left ≡ reply_max = ap (λ (r : Room). r.left) e in
    omega (arith, length-append (reply_head (Accepted xid 0 0)) results, accepted_size xid, left, le)

module _ {R : Type 0} (codec : Codec R) (results : R) (xid : ℕ) (head : ReplyHead) (is_head : head ≡ Accepted xid 0 0) (old : Room) where
  parts : reply_head head ++ encodings (codec.items results) ≡ results_reply xid codec results
  parts = ap (λ (h : ReplyHead). reply_head h ++ encodings (codec.items results)) is_head

  -- both parts were written
  pub reply_written : (mid new : Room) (reply : List ℕ) → old.bytes ≡ [] → Appended old mid (reply_head head) → AppendsValue codec mid results new → reply ≡ new.bytes → reply ≡ results_reply xid codec results
  reply_written mid new reply none first w is =
      is ∙ w.appended.is ∙ ap (λ (b : List ℕ). b ++ encodings (codec.items results)) (first.is ∙ ap (λ (b : List ℕ). b ++ reply_head head) none) ∙ parts

  -- the head was written, and the reply is what a call made of it and the results, if it made one
  pub reply_finished : (mid : Room) (r : Result (List ℕ) Memory) → old.bytes ≡ [] → Appended old mid (reply_head head) → IfOk r (λ o. o ≡ mid.bytes ++ encodings (codec.items results)) → IfOk r (λ o. o ≡ results_reply xid codec results)
  reply_finished mid (Ok reply) none first is =
      is ∙ ap (λ (b : List ℕ). b ++ encodings (codec.items results)) (first.is ∙ ap (λ (b : List ℕ). b ++ reply_head head) none) ∙ parts
  reply_finished mid (Err e) none first is = tt

  -- no room for the head is none for the reply
  pub no_head : old.left < length (reply_head head) → old.left < length (results_reply xid codec results)
  no_head lt = omega (arith, lt, length-append (reply_head head) (encodings (codec.items results)), ap length parts)

  -- nor is there, if there is none for the results after it
  pub no_results : (mid : Room) → Appended old mid (reply_head head) → mid.left < length (encodings (codec.items results)) → old.left < length (results_reply xid codec results)
  no_results mid first lt = omega (arith, lt, first.room, length-append (reply_head head) (encodings (codec.items results)), ap length parts)
