-- How many bytes the output has of the RDMA Writes of an answer.
use Rattle.std.proofs.Common.{ℕ, ◌+◌, ◌*◌, ◌≤◌, Bool, true, false, cond, eqb, List, [], ◌∷◌, ◌++◌, length, take, drop, All, Option, None, Some, arith, length-append}
use Rattle.std.specs.Prelude.{min, nat_le, IfSome}
use Rattle.std.proofs.lemmas.List.{length-take, length-drop}
use Rattle.nr_header.specs.declared.header.RdmaSegment.{RdmaSegment}
use Rattle.nr_header.specs.declared.header.ChunkLists.{ChunkLists}
use Rattle.nr_header.specs.WithinLimits.{ListsWithin}
use Rattle.nr_link.specs.Limits.{segment_max}
use Rattle.nr_link.specs.Output.{write}
use Rattle.nr_endpoint.specs.OutputSizes.{frame_max}
use Rattle.nr_endpoint.proofs.OutputSizes.{write_len}
use Rattle.nr_rpc.specs.declared.head.CallTarget.{CallTarget}
use Rattle.nr_reduce.specs.Server.{answer_of_target}
use Rattle.nr_reduce.specs.declared.item.Item.{Item}
use Rattle.nr_reduce.specs.declared.item.Of.{Of}
use Rattle.nr_reduce.specs.declared.item.Of.TheVariants.{Reply}
use Rattle.nr_reduce.specs.Items.{moved_of, stream_of, reducible_item}
use Rattle.nr_reduce.specs.Chunks.{chunk_total}
use Rattle.nr_reduce.specs.Holds.{Answer, Parts, answer_for, answer_size, answer_with, answer_writes, first_chunk, fits_reply, no_segments, parts_by, parts_in, writes_into}
use Rattle.nr_responder.specs.HeldBytes.{sent_reply_max, writes_max}

into_len : (chunk : List RdmaSegment) (bytes : List ℕ) → segment_max * length (writes_into chunk bytes) ≤ frame_max * (length bytes + segment_max * length chunk)
into_len [] bytes = omega arith
into_len (s ∷ chunk) bytes = by (eqb (min s.length (length bytes)) 0) (into_len chunk (drop s.length bytes))
  where
    by : (b : Bool) → segment_max * length (writes_into chunk (drop s.length bytes)) ≤ frame_max * (length (drop s.length bytes) + segment_max * length chunk) →
        segment_max * length (cond b [] (write s.handle s.offset (take s.length bytes)) ++ writes_into chunk (drop s.length bytes)) ≤ frame_max * (length bytes + segment_max * length (s ∷ chunk))
    by true rest = (let left = length-drop s.length bytes in omega (arith, rest, left))
    by false rest =
        let one = write_len s.handle s.offset (take s.length bytes) in
        let all = length-append (write s.handle s.offset (take s.length bytes)) (writes_into chunk (drop s.length bytes)) in
        let first = length-take s.length bytes in
        let left = length-drop s.length bytes in
        omega (arith, rest, one, all, first, left)

-- what moves and the stream have no more bytes than the reply
abbrev PartsFit : List ℕ → Option Parts → Type 0
PartsFit reply None = Unit {0}
PartsFit reply (Some p) = length p.stream + length p.moved ≤ length reply

by_item : (chunk : List RdmaSegment) (reply : List ℕ) (o : Option Item) → PartsFit reply (parts_by chunk reply o)
by_item chunk reply None = omega arith
by_item chunk reply (Some i) = by (nat_le i.len (chunk_total chunk))
  where
    by : (b : Bool) → PartsFit reply (cond b (Some (record { stream = stream_of reply i; moved = moved_of reply i })) None)
    by true = omega (arith, length-take i.pos reply, length-take i.len (drop i.pos reply), length-drop i.pos reply)
    by false = tt

parts_fit : (of : Of) (chunks : List (List RdmaSegment)) (reply : List ℕ) → PartsFit reply (parts_in of chunks reply)
parts_fit of [] reply = omega arith
parts_fit of ([] ∷ chunks) reply = omega arith
parts_fit of ((s ∷ chunk) ∷ chunks) reply = by_item (s ∷ chunk) reply (reducible_item of reply)

abbrev pub AnswerFits : List ℕ → Option Answer → Type 0
AnswerFits reply None = Unit {0}
AnswerFits reply (Some a) = length a.stream + length a.moved ≤ length reply

with_fits : (offer : ChunkLists) (down : ℕ) (reply : List ℕ) (o : Option Parts) → PartsFit reply o → AnswerFits reply (answer_with offer down o)
with_fits offer down reply None h = tt
with_fits offer down reply (Some p) h = by (nat_le (answer_size offer.write + length p.stream) down) (fits_reply offer.reply (length p.stream))
  where
    by : (b c : Bool) → AnswerFits reply (cond b (Some (record { long = false; stream = p.stream; moved = p.moved })) (cond c (Some (record { long = true; stream = p.stream; moved = p.moved })) None))
    by true c = h
    by false true = h
    by false false = tt

answer_fits : (offer : ChunkLists) (down prog vers proc : ℕ) (reply : List ℕ) → AnswerFits reply (answer_for offer down prog vers proc reply)
unfolding answer_for
answer_fits offer down prog vers proc reply = with_fits offer down reply (parts_in (Reply prog vers proc) offer.write reply) (parts_fit (Reply prog vers proc) offer.write reply)

pub target_fits : (offer : ChunkLists) (down : ℕ) (reply : List ℕ) (o : Option CallTarget) → AnswerFits reply (answer_of_target offer down reply o)
target_fits offer down reply None = answer_fits offer down 0 0 0 reply
target_fits offer down reply (Some t) = answer_fits offer down t.prog t.vers t.proc reply

first_few : (chunks : List (List RdmaSegment)) → All (λ chunk. length chunk ≤ 16) chunks → length (first_chunk chunks) ≤ 16
first_few [] h = omega arith
first_few (chunk ∷ chunks) h = h 0 chunk (omega arith)

pub reply_few : (o : Option (List RdmaSegment)) → IfSome o (λ chunk. length chunk ≤ 16) → length (no_segments o) ≤ 16
reply_few None h = omega arith
reply_few (Some chunk) h = h

-- the RDMA Writes of an answer
pub writes_len : (offer : ChunkLists) (a : Answer) (n : ℕ) → ListsWithin offer → length a.stream + length a.moved ≤ n → n ≤ sent_reply_max → length (answer_writes offer a) ≤ writes_max
unfolding answer_writes
writes_len offer a n lists fits most = by a.long
  where
    by : (b : Bool) → length (writes_into (first_chunk offer.write) a.moved ++ cond b (writes_into (no_segments offer.reply) a.stream) []) ≤ writes_max
    by true =
        omega (
          arith,
          fits,
          most,
          into_len (first_chunk offer.write) a.moved,
          into_len (no_segments offer.reply) a.stream,
          first_few offer.write lists.chunk_segments,
          reply_few offer.reply lists.reply_segments,
          length-append (writes_into (first_chunk offer.write) a.moved) (writes_into (no_segments offer.reply) a.stream),
        )
    by false = omega (arith, fits, most, into_len (first_chunk offer.write) a.moved, first_few offer.write lists.chunk_segments, length-append (writes_into (first_chunk offer.write) a.moved) [])
