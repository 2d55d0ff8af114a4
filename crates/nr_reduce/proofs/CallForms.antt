-- A call as its head and its arguments, and what is read of both.
use Rattle.std.proofs.Common.{◌≡◌, ℕ, zero, suc, List, [], ◌∷◌, ◌++◌, length, Option, Some, None, refl, sym, ap, ◌∙◌}
use Rattle.nr_header.specs.declared.header.ReadSegment.{ReadSegment}
use Rattle.nr_xdr.specs.Item.{IsBytes}
use Rattle.nr_rpc.specs.Call.{CallFits, call_head, call_of_target}
use Rattle.nr_rpc.specs.Credential.{CanWriteCred}
use Rattle.nr_rpc.specs.declared.cred.Cred.{Cred}
use Rattle.nr_rpc.proofs.Calls.{call_written}
use Rattle.nr_rpc.specs.Reading.{call_of, target_of}
use Rattle.nr_rpc.specs.declared.head.CallTarget.{CallTarget}
use Rattle.nr_reduce.specs.declared.item.Item.{Item}
use Rattle.nr_reduce.specs.Chunks.{item_position, is_read_chunk_at, is_read_chunk_of_item}
use Rattle.nr_reduce.specs.CodeViews.{is_read_chunk_of}
use Rattle.nr_reduce.specs.Items.{call_item, if_ends, reducible_item}
use Rattle.nr_reduce.specs.Largest.{largest_reply, reply_limit_min}
use Rattle.nr_reduce.specs.Plans.{write_offer}
use Rattle.nr_reduce.specs.PlanSizes.{facts_of}
use Rattle.nr_reduce.proofs.Places.{largest_by, write_offer_by, call_item_by}

pub joined_bytes : (xs ys : List ℕ) → IsBytes xs → IsBytes ys → IsBytes (xs ++ ys)
joined_bytes [] ys p q i = q i
joined_bytes (x ∷ xs) ys p q zero = p zero
joined_bytes (x ∷ xs) ys p q (suc i) = joined_bytes xs ys (λ k. p (suc k)) q i

-- the parts of a call whose head was written
pub written_stand : (t : CallTarget) (cred : Cred) (head args : List ℕ) → CanWriteCred cred → CallFits (call_of_target t cred) → head ≡ call_head (call_of_target t cred)
    → target_of (call_of (head ++ args)) ≡ Some (record { xid = t.xid; prog = t.prog; vers = t.vers; proc = t.proc; args_at = length head })
written_stand t cred head args can fits e =
    ap (λ (h : List ℕ). target_of (call_of (h ++ args))) e
    ∙ ap target_of (call_written (call_of_target t cred) args can fits)
    ∙ ap (λ (h : List ℕ). Some (record { xid = t.xid; prog = t.prog; vers = t.vers; proc = t.proc; args_at = length h })) (sym e)

-- what a plan depends on of a payload that is no call
pub no_facts : (payload : List ℕ) → target_of (call_of payload) ≡ None → record { len = length payload; largest = reply_limit_min; offer = None; item = None } ≡ facts_of payload
unfolding reducible_item
no_facts payload e =
    let largest : reply_limit_min ≡ largest_reply payload = largest_by payload None (sym e) in
    let offer : None ≡ write_offer payload = write_offer_by payload None (sym e) in
    let item : None ≡ if_ends payload (call_item payload) = ap (λ (o : Option Item). if_ends payload o) (call_item_by payload None (sym e)) in
    (λ i. record { len = length payload; largest = largest i; offer = offer i; item = item i })

-- the read chunk of the item of a stream
pub read_chunk_is : (stream : List ℕ) (read : List ReadSegment) → is_read_chunk_of (call_item stream) read (item_position read) ≡ is_read_chunk_of_item stream read
unfolding is_read_chunk_of_item
read_chunk_is stream read = by (item_position read)
  where
    by : (o : Option ℕ) → is_read_chunk_of (call_item stream) read o ≡ is_read_chunk_at stream read o
    by None = refl
    by (Some position) = refl
