-- The RDMA Writes of some bytes into a chunk, segment by segment.
use Rattle.std.proofs.Common.{◌≡◌, ℕ, ◌+◌, ◌<◌, ◌≤◌, Bool, true, false, eqb, cond, min, List, [], ◌∷◌, ◌++◌, length, take, drop, get_or, sym, ap, ◌∙◌, arith, append_assoc}
use Rattle.std.proofs.lemmas.List.{append-nil, drop_all, drop_more, length-take}
use Rattle.nr_header.specs.declared.header.RdmaSegment.{RdmaSegment}
use Rattle.nr_link.specs.Output.{write}
use Rattle.nr_endpoint.specs.declared.framing.RemoteWrite.{RemoteWrite}
use Rattle.nr_endpoint.specs.Offering.{writes_output}
use Rattle.nr_header.specs.declared.header.ChunkLists.{ChunkLists}
use Rattle.std.specs.Prelude.{Option, Some}
use Rattle.std.specs.Option.{option_map}
use Rattle.nr_reduce.specs.declared.holding.Answer.{Answer as HeldAnswer}
use Rattle.nr_reduce.specs.CodeViews.{answer_view}
use Rattle.nr_responder.specs.Answering.{writes_for}
use Rattle.nr_reduce.specs.Holds.{Answer, answer_writes, first_chunk, no_segments, writes_into}

pub output_push : (ws : List RemoteWrite) (w : RemoteWrite) → writes_output (ws ++ w ∷ []) ≡ writes_output ws ++ write w.stag w.to w.bytes.now
output_push [] w = append-nil (write w.stag w.to w.bytes.now)
output_push (x ∷ ws) w =
    ap (λ (bytes : List ℕ). write x.stag x.to x.bytes.now ++ bytes) (output_push ws w)
    ∙ sym (append_assoc (write x.stag x.to x.bytes.now) (writes_output ws) (write w.stag w.to w.bytes.now))

-- one segment more
pub writes_step : (chunk : List RdmaSegment) (i : ℕ) (d : RdmaSegment) (left out after total first rest : List ℕ) → i < length chunk → out ++ writes_into (drop i chunk) left ≡ total →
    after ≡ out ++ cond (eqb (length first) 0) [] (write (get_or chunk i d).handle (get_or chunk i d).offset first) → first ≡ take (get_or chunk i d).length left → rest ≡ drop (get_or chunk i d).length left →
    after ++ writes_into (drop (i + 1) chunk) rest ≡ total
writes_step chunk i d left out after total first rest lt is more first_is rest_is =
    let s : RdmaSegment = get_or chunk i d in
    let count : length first ≡ min s.length (length left) = omega (arith, ap (λ (xs : List ℕ). length xs) first_is, length-take s.length left) in
    let bytes : List ℕ = cond (eqb (length first) 0) [] (write s.handle s.offset first) in
    (λ t. more t ++ writes_into (drop (i + 1) chunk) (rest_is t))
    ∙ append_assoc out bytes (writes_into (drop (i + 1) chunk) (drop s.length left))
    ∙ (λ t. out ++ (cond (eqb (count t) 0) [] (write s.handle s.offset (first_is t)) ++ writes_into (drop (i + 1) chunk) (drop s.length left)))
    ∙ ap (λ (xs : List RdmaSegment). out ++ writes_into xs left) (sym (drop_more chunk i d lt))
    ∙ is

pub writes_done : (chunk : List RdmaSegment) (i : ℕ) (left out total : List ℕ) → length chunk ≤ i → out ++ writes_into (drop i chunk) left ≡ total → out ≡ total
writes_done chunk i left out total le is = sym (append-nil out) ∙ ap (λ (xs : List RdmaSegment). out ++ writes_into xs left) (sym (drop_all i chunk le)) ∙ is

-- an answer whose stream is in its message, and one whose stream is in the reply chunk
pub answer_short : (offer : ChunkLists) (a : Answer) (before out : List ℕ) → before ≡ [] → a.long ≡ false → out ≡ before ++ writes_into (first_chunk offer.write) a.moved → out ≡ answer_writes offer a
unfolding answer_writes
answer_short offer a before out none short is =
    is ∙ ap (λ (bytes : List ℕ). bytes ++ writes_into (first_chunk offer.write) a.moved) none
    ∙ sym (append-nil (writes_into (first_chunk offer.write) a.moved))
    ∙ ap (λ (b : Bool). writes_into (first_chunk offer.write) a.moved ++ cond b (writes_into (no_segments offer.reply) a.stream) []) (sym short)

pub answer_long : (offer : ChunkLists) (a : Answer) (before between out : List ℕ) → before ≡ [] → a.long ≡ true → between ≡ before ++ writes_into (first_chunk offer.write) a.moved → out ≡ between ++ writes_into (no_segments offer.reply) a.stream → out ≡ answer_writes offer a
unfolding answer_writes
answer_long offer a before between out none long first is =
    is ∙ ap (λ (bytes : List ℕ). bytes ++ writes_into (no_segments offer.reply) a.stream) (first ∙ ap (λ (bytes : List ℕ). bytes ++ writes_into (first_chunk offer.write) a.moved) none)
    ∙ ap (λ (b : Bool). writes_into (first_chunk offer.write) a.moved ++ cond b (writes_into (no_segments offer.reply) a.stream) []) (sym long)

-- the RDMA Writes of an answer that is there
pub writes_is : (offer : ChunkLists) (o : Option HeldAnswer) (a : HeldAnswer) (out : List ℕ) → o ≡ Some a → out ≡ answer_writes offer (answer_view a) → out ≡ writes_for offer (option_map answer_view o)
writes_is offer o a out some is = is ∙ ap (λ (x : Option HeldAnswer). writes_for offer (option_map answer_view x)) (sym some)
