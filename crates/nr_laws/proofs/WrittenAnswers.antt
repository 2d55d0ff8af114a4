-- What a server answers, whatever the number of credits in its header: two numbers that are written as the same word make the same message.
use Rattle.std.proofs.Common.{◌≡◌, ℕ, Bool, true, false, cond, [], ◌++◌}
use Rattle.nr_xdr.specs.Item.{word}
use Rattle.nr_xdr.specs.Items.{encodings}
use Rattle.nr_header.specs.declared.header.Body.TheVariants.{Msg, Nomsg}
use Rattle.nr_header.specs.declared.header.ChunkLists.{ChunkLists}
use Rattle.nr_header.specs.Header.{lists_items, header_encoding}
use Rattle.nr_reduce.specs.Holds.{Answer, answer_lists, answer_message}

pub answer_same : (xid credit other : ℕ) (offer : ChunkLists) (a : Answer) → word credit ≡ word other → answer_message xid credit offer a ≡ answer_message xid other offer a
unfolding answer_message
answer_same xid credit other offer a e = by a.long
  where
    lists : ChunkLists
    lists = answer_lists offer a

    by : (b : Bool) → header_encoding (record { xid = xid; credit = credit; body = cond b (Nomsg lists) (Msg lists 0) }) ++ cond b [] a.stream
        ≡ header_encoding (record { xid = xid; credit = other; body = cond b (Nomsg lists) (Msg lists 0) }) ++ cond b [] a.stream
    by true = λ i. (word xid ++ (word 1 ++ (e i ++ (word 1 ++ encodings (lists_items lists))))) ++ []
    by false = λ i. (word xid ++ (word 1 ++ (e i ++ (word 0 ++ encodings (lists_items lists))))) ++ a.stream
