-- A reply with another xid, as its first word is written over; and the reply to a call of another version of RPC.
use Rattle.std.proofs.Common.{◌≡◌, ◌<◌, ◌+◌, ℕ, List, [], ◌++◌, length, take, drop, refl, sym, ap, ◌∙◌, append-nil, arith}
use Rattle.std.specs.Int.{to_be_bytes, w32}
use Rattle.std.proofs.lemmas.List.{drop_all}
use Rattle.nr_xdr.specs.Item.{word}
use Rattle.nr_xdr.proofs.WordBytes.{length_word}
use Rattle.nr_rpc.specs.Reply.{reply_encoding}
use Rattle.nr_rpc.specs.declared.head.ReplyHead.TheVariants as replies
use Rattle.nr_gate.specs.Forwarding.{with_xid}

-- four bytes, the highest first
pub as_word : (xid : ℕ) (first : List ℕ) → first ≡ to_be_bytes w32 xid → first ≡ word xid
unfolding word
as_word xid first is = is

-- the first four bytes are written over
pub written_over : (xid : ℕ) (first reply own : List ℕ) → first ≡ word xid → own ≡ take 0 reply ++ (first ++ drop (0 + length first) reply) → own ≡ with_xid xid reply
written_over xid first reply own first_is own_is =
    let four : 0 + length (word xid) ≡ 4 = omega (arith, length_word xid) in
    own_is ∙ ap (λ (f : List ℕ). take 0 reply ++ (f ++ drop (0 + length f) reply)) first_is ∙ ap (λ (n : ℕ). word xid ++ drop n reply) four

-- there are at most four
pub in_place_of : (xid : ℕ) (first reply : List ℕ) → first ≡ word xid → length reply < 4 → first ≡ with_xid xid reply
in_place_of xid first reply first_is short =
    first_is ∙ sym (ap (λ (l : List ℕ). word xid ++ l) (drop_all 4 reply (omega (arith, short))) ∙ append-nil (word xid))

pub mismatch_length : (xid : ℕ) → length (reply_encoding (replies.RpcMismatch xid 2 2) []) ≡ 24
unfolding word
mismatch_length xid = refl
