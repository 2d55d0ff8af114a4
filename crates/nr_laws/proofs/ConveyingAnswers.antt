-- An answer conveys its reply by the payloads of its Writes, whatever was offered.
use Rattle.std.proofs.Common.{◌≡◌, ℕ, ◌+◌, ◌-◌, ◌*◌, ◌/◌, ◌≤◌, min, max, zero, suc, Bool, true, false, cond, eqb, leb, List, [], ◌∷◌, ◌++◌, length, take, drop, map, Option, Some, None, refl, sym, ap, subst, ◌∙◌, arith, append_assoc}
use Rattle.std.specs.List.{range_with_len}
use Rattle.std.proofs.Math.Seq.{take-add}
use Rattle.std.proofs.lemmas.Bool.{eqb-true, leb-true}
use Rattle.std.proofs.lemmas.List.{take_at, drop_at, take_all, drop-drop}
use Rattle.std.proofs.lemmas.List.Sums.{sum_by-cons}
use Rattle.nr_xdr.specs.Item.{IsBytes, pad_len}
use Rattle.nr_header.specs.declared.header.RdmaSegment.{RdmaSegment}
use Rattle.nr_header.specs.declared.header.ChunkLists.{ChunkLists}
use Rattle.nr_rpc.specs.declared.head.CallTarget.{CallTarget}
use Rattle.nr_wire.specs.Segment.{Segment}
use Rattle.nr_wire.specs.Segment.Segment.{Tagged, Untagged}
use Rattle.nr_link.specs.Output.{segment_count, segment_payload}
use Rattle.nr_reduce.specs.declared.item.Item.{Item}
use Rattle.nr_reduce.specs.declared.item.Of.TheVariants.{Reply}
use Rattle.nr_reduce.specs.Items.{reducible_item, stream_of, moved_of}
use Rattle.nr_reduce.specs.Chunks.{chunk_total, filled_chunk, whole, some_bytes}
use Rattle.nr_reduce.specs.Holds.{Answer, Parts, parts_by, parts_in, answer_size, fits_reply, answer_with, answer_for, written_chunks, first_chunk, no_segments}
use Rattle.nr_reduce.specs.ChunkBytes.{one_write, write_segments, chunk_segments, answer_segments}
use Rattle.nr_reduce.specs.Server.{answer_of_target}
use Rattle.nr_reduce.proofs.Rebuilding.{reducible, moved_length, rebuilt}
use Rattle.nr_laws.specs.AnswersConvey.{payloads_of, moved_returned, stream_returned, moved_brought, stream_brought, replied_by}
use Rattle.nr_link.specs.Limits.{segment_max}

-- ---- The payloads of an RDMA Write

pub payloads_append : (xs ys : List Segment) → payloads_of (xs ++ ys) ≡ payloads_of xs ++ payloads_of ys
payloads_append [] ys = refl
payloads_append (Tagged last opcode stag to payload ∷ xs) ys = ap (λ (p : List ℕ). payload ++ p) (payloads_append xs ys) ∙ sym (append_assoc payload (payloads_of xs) (payloads_of ys))
payloads_append (Untagged last opcode w queue msn offset payload ∷ xs) ys = payloads_append xs ys

all_pieces_lem : (n : ℕ) → n ≤ segment_max * max 1 ((n + (segment_max - 1)) / segment_max)
all_pieces_lem n = omega arith

pub short_drop : (n : ℕ) (xs : List ℕ) → length xs ≤ n → drop n xs ≡ []
short_drop zero [] h = refl
short_drop zero (x ∷ xs) h = absurd (omega (arith, h))
short_drop (suc n) [] h = refl
short_drop (suc n) (x ∷ xs) h = short_drop n xs (omega (arith, h))

take_then_drop : (n : ℕ) (xs : List ℕ) → take n xs ++ drop n xs ≡ xs
take_then_drop zero xs = refl
take_then_drop (suc n) [] = refl
take_then_drop (suc n) (x ∷ xs) = ap (λ (ys : List ℕ). x ∷ ys) (take_then_drop n xs)

pieces_payloads : (stag to : ℕ) (bytes : List ℕ) (k i : ℕ) → i + k ≡ segment_count bytes → payloads_of (map (one_write stag to bytes) (range_with_len i k)) ≡ drop (segment_max * i) bytes
pieces_payloads stag to bytes zero i all =
    let h = all_pieces_lem (length bytes) in
    sym (short_drop (segment_max * i) bytes (omega (arith, h, all)))
pieces_payloads stag to bytes (suc k) i all =
    ap (λ (xs : List ℕ). segment_payload bytes i ++ xs) (pieces_payloads stag to bytes k (i + 1) (omega (arith, all)))
    ∙ ap (λ (xs : List ℕ). take segment_max (drop (segment_max * i) bytes) ++ xs) (ap (λ (n : ℕ). drop n bytes) (let s : segment_max * (i + 1) ≡ segment_max * i + segment_max = omega arith in s) ∙ more)
    ∙ take_then_drop segment_max (drop (segment_max * i) bytes)
  where
    more : drop (segment_max * i + segment_max) bytes ≡ drop segment_max (drop (segment_max * i) bytes)
    more = sym (drop-drop segment_max (segment_max * i) bytes)

write_payloads : (stag to : ℕ) (bytes : List ℕ) → payloads_of (write_segments stag to bytes) ≡ bytes
write_payloads stag to bytes = pieces_payloads stag to bytes (segment_count bytes) 0 (omega arith)

-- ---- Those of a chunk

none_taken_lem : (n : ℕ) (bytes : List ℕ) → min n (length bytes) ≡ 0 → take n bytes ≡ []
none_taken_lem zero bytes e = refl
none_taken_lem (suc n) [] e = refl
none_taken_lem (suc n) (b ∷ bytes) e = absurd (omega (arith, e))

pub chunk_payloads : (chunk : List RdmaSegment) (bytes : List ℕ) → payloads_of (chunk_segments chunk bytes) ≡ take (chunk_total chunk) bytes
unfolding chunk_total
chunk_payloads [] bytes = refl
chunk_payloads (s ∷ chunk) bytes =
    payloads_append (cond (eqb (min s.length (length bytes)) 0) [] (write_segments s.handle s.offset (take s.length bytes))) (chunk_segments chunk (drop s.length bytes))
    ∙ (λ i. by (eqb (min s.length (length bytes)) 0) refl i ++ chunk_payloads chunk (drop s.length bytes) i)
    ∙ sym (take-add s.length (chunk_total chunk) bytes)
    ∙ ap (λ (n : ℕ). take n bytes) (sym (sum_by-cons (λ (x : RdmaSegment). x.length) s chunk))
  where
    by : (b : Bool) → eqb (min s.length (length bytes)) 0 ≡ b → payloads_of (cond b [] (write_segments s.handle s.offset (take s.length bytes))) ≡ take s.length bytes
    by true is = sym (none_taken_lem s.length bytes (eqb-true (min s.length (length bytes)) 0 is))
    by false is = write_payloads s.handle s.offset (take s.length bytes)

pub filled_total : (chunk : List RdmaSegment) (n : ℕ) → n ≤ chunk_total chunk → chunk_total (filled_chunk chunk n) ≡ n
unfolding chunk_total
filled_total [] n h = (let s : 0 ≡ n = omega (arith, h) in s)
filled_total (s ∷ chunk) n h =
    let all = sum_by-cons (λ (x : RdmaSegment). x.length) s chunk in
    let rest = filled_total chunk (n - min s.length n) (omega (arith, h, all)) in
    sum_by-cons (λ (x : RdmaSegment). x.length) (record { handle = s.handle; length = min s.length n; offset = s.offset }) (filled_chunk chunk (n - min s.length n))
    ∙ omega (arith, rest)

-- ---- What an answer is made of

pub record IsMade (prog vers proc : ℕ) (chunk : List RdmaSegment) (reply stream moved : List ℕ) : Type 0 where
  pub conveys : whole (Reply prog vers proc) stream (some_bytes moved) ≡ Some reply
  pub room : length moved ≤ chunk_total chunk

parts_same : (p q : Parts) → (let o : Option Parts = Some p in o) ≡ Some q → p ≡ q
parts_same p q e = cc

made_whole_lem : (prog vers proc : ℕ) (chunk : List RdmaSegment) (reply : List ℕ) (p : Parts) → (let all : Parts = record { stream = reply; moved = [] } in Some all) ≡ Some p → IsMade prog vers proc chunk reply p.stream p.moved
made_whole_lem prog vers proc chunk reply p e =
    let all : Parts = record { stream = reply; moved = [] } in
    subst (λ (q : Parts). IsMade prog vers proc chunk reply q.stream q.moved) (parts_same all p e) (record { conveys = refl; room = omega arith })

made_moved_lem : (prog vers proc : ℕ) (reply : List ℕ) (i : Item) (moved : List ℕ) → IsBytes reply → reducible_item (Reply prog vers proc) reply ≡ Some i → moved ≡ moved_of reply i
    → whole (Reply prog vers proc) (stream_of reply i) (some_bytes moved) ≡ Some reply
unfolding pad_len
made_moved_lem prog vers proc reply i (b ∷ bytes) fits e is =
    ap (λ (m : List ℕ). whole (Reply prog vers proc) (stream_of reply i) (Some m)) is ∙ rebuilt (Reply prog vers proc) reply i fits e
made_moved_lem prog vers proc reply i [] fits e is =
    let r = reducible (Reply prog vers proc) reply i e in
    let none : i.len ≡ 0 = sym (moved_length (Reply prog vers proc) reply i r) ∙ ap (λ (xs : List ℕ). length xs) (sym is) in
    let pad : pad_len i.len ≡ 0 = ap pad_len none ∙ no_pad in
    ap Some (take_all i.pos reply (let s = r.size in omega (arith, s, none, pad)))
  where
    no_pad : pad_len 0 ≡ 0
    no_pad = refl

made_item_lem : (prog vers proc : ℕ) (chunk : List RdmaSegment) (reply : List ℕ) (o : Option Item) (p : Parts) → IsBytes reply → reducible_item (Reply prog vers proc) reply ≡ o → parts_by chunk reply o ≡ Some p → IsMade prog vers proc chunk reply p.stream p.moved
made_item_lem prog vers proc chunk reply None p fits is e = made_whole_lem prog vers proc chunk reply p e
made_item_lem prog vers proc chunk reply (Some i) p fits is e = by (leb i.len (chunk_total chunk)) refl e
  where
    cut : Parts
    cut = record { stream = stream_of reply i; moved = moved_of reply i }

    by : (b : Bool) → leb i.len (chunk_total chunk) ≡ b → cond b (Some cut) None ≡ Some p → IsMade prog vers proc chunk reply p.stream p.moved
    by false low f = absurd (let wrong : None ≡ Some p = f in cc)
    by true low f =
        let len = moved_length (Reply prog vers proc) reply i (reducible (Reply prog vers proc) reply i is) in
        let room = leb-true i.len (chunk_total chunk) low in
        subst (λ (q : Parts). IsMade prog vers proc chunk reply q.stream q.moved) (parts_same cut p f)
        (record { conveys = made_moved_lem prog vers proc reply i (moved_of reply i) fits is refl; room = omega (arith, len, room) })

pub made : (prog vers proc : ℕ) (chunks : List (List RdmaSegment)) (reply : List ℕ) (p : Parts) → IsBytes reply → parts_in (Reply prog vers proc) chunks reply ≡ Some p → IsMade prog vers proc (first_chunk chunks) reply p.stream p.moved
made prog vers proc [] reply p fits e = made_whole_lem prog vers proc [] reply p e
made prog vers proc ([] ∷ chunks) reply p fits e = made_whole_lem prog vers proc [] reply p e
made prog vers proc ((s ∷ chunk) ∷ chunks) reply p fits e = made_item_lem prog vers proc (s ∷ chunk) reply (reducible_item (Reply prog vers proc) reply) p fits refl e

pub record IsMadeFor (offer : ChunkLists) (prog vers proc : ℕ) (reply : List ℕ) (a : Answer) : Type 0 where
  pub of : IsMade prog vers proc (first_chunk offer.write) reply a.stream a.moved
  pub long : a.long ≡ true → length a.stream ≤ chunk_total (no_segments offer.reply)

answer_same : (a b : Answer) → (let o : Option Answer = Some a in o) ≡ Some b → a ≡ b
answer_same a b e = cc

fits_total : (o : Option (List RdmaSegment)) (n : ℕ) → fits_reply o n ≡ true → n ≤ chunk_total (no_segments o)
fits_total None n e = absurd (let wrong : false ≡ true = e in cc)
fits_total (Some chunk) n e = leb-true n (chunk_total chunk) e

pub made_answer : (offer : ChunkLists) (down prog vers proc : ℕ) (reply : List ℕ) (o : Option Parts) (a : Answer) → ((p : Parts) → o ≡ Some p → IsMade prog vers proc (first_chunk offer.write) reply p.stream p.moved) → answer_with offer down o ≡ Some a
    → IsMadeFor offer prog vers proc reply a
made_answer offer down prog vers proc reply None a h e = absurd (let wrong : None ≡ Some a = e in cc)
made_answer offer down prog vers proc reply (Some p) a h e = by (leb (answer_size offer.write + length p.stream) down) e
  where
    inline : Answer
    inline = record { long = false; stream = p.stream; moved = p.moved }

    chunked : Answer
    chunked = record { long = true; stream = p.stream; moved = p.moved }

    by_reply : (b : Bool) → fits_reply offer.reply (length p.stream) ≡ b → cond b (Some chunked) None ≡ Some a → IsMadeFor offer prog vers proc reply a
    by_reply true fits f = subst (λ (b : Answer). IsMadeFor offer prog vers proc reply b) (answer_same chunked a f) (record { of = h p refl; long = λ yes. fits_total offer.reply (length p.stream) fits })
    by_reply false fits f = absurd (let wrong : None ≡ Some a = f in cc)

    by : (b : Bool) → cond b (Some inline) (cond (fits_reply offer.reply (length p.stream)) (Some chunked) None) ≡ Some a → IsMadeFor offer prog vers proc reply a
    by true f = subst (λ (b : Answer). IsMadeFor offer prog vers proc reply b) (answer_same inline a f) (record { of = h p refl; long = λ yes. absurd (let wrong : false ≡ true = yes in cc) })
    by false f = by_reply (fits_reply offer.reply (length p.stream)) refl f

-- ---- What it brings

pub first_filled : (chunks : List (List RdmaSegment)) (n : ℕ) → n ≤ chunk_total (first_chunk chunks) → chunk_total (first_chunk (written_chunks chunks n)) ≡ n
first_filled [] n h = filled_total [] n h
first_filled (chunk ∷ chunks) n h = filled_total chunk n h

brings : (offer : ChunkLists) (prog vers proc : ℕ) (reply : List ℕ) (a : Answer) → IsMadeFor offer prog vers proc reply a → whole (Reply prog vers proc) (stream_brought offer a) (some_bytes (moved_brought offer a)) ≡ Some reply
brings offer prog vers proc reply a m =
    (λ i. whole (Reply prog vers proc) (stream_is a.long refl i) (some_bytes (moved_is i))) ∙ m.of.conveys
  where
    n : ℕ
    n = length a.moved

    returned : moved_returned offer a ≡ n
    returned = first_filled offer.write n m.of.room

    tail : Bool → List ℕ
    tail b = payloads_of (cond b (chunk_segments (no_segments offer.reply) a.stream) [])

    first : payloads_of (chunk_segments (first_chunk offer.write) a.moved) ≡ a.moved
    first = chunk_payloads (first_chunk offer.write) a.moved ∙ take_all (chunk_total (first_chunk offer.write)) a.moved m.of.room

    all : payloads_of (answer_segments offer a) ≡ a.moved ++ tail a.long
    all = payloads_append (chunk_segments (first_chunk offer.write) a.moved) (cond a.long (chunk_segments (no_segments offer.reply) a.stream) []) ∙ ap (λ (xs : List ℕ). xs ++ tail a.long) first

    moved_is : moved_brought offer a ≡ a.moved
    moved_is = (λ i. take (returned i) (all i)) ∙ take_at a.moved (tail a.long) n refl

    behind : drop (moved_returned offer a) (payloads_of (answer_segments offer a)) ≡ tail a.long
    behind = (λ i. drop (returned i) (all i)) ∙ drop_at a.moved (tail a.long) n refl

    by_long : a.long ≡ true → take (stream_returned offer a) (tail a.long) ≡ a.stream
    by_long long =
        let room = m.long long in
        (λ i. take (chunk_total (no_segments (cond (long i) (Some (filled_chunk (no_segments offer.reply) (length a.stream))) None))) (tail (long i)))
        ∙ (λ i. take (filled_total (no_segments offer.reply) (length a.stream) room i) (chunk_payloads (no_segments offer.reply) a.stream i))
        ∙ ap (λ (xs : List ℕ). take (length a.stream) xs) (take_all (chunk_total (no_segments offer.reply)) a.stream room)
        ∙ take_all (length a.stream) a.stream (omega arith)

    stream_is : (b : Bool) → a.long ≡ b → cond b (take (stream_returned offer a) (drop (moved_returned offer a) (payloads_of (answer_segments offer a)))) a.stream ≡ a.stream
    stream_is false long = refl
    stream_is true long = ap (λ (xs : List ℕ). take (stream_returned offer a) xs) behind ∙ by_long long

conveys_for : (offer : ChunkLists) (down prog vers proc : ℕ) (reply : List ℕ) (a : Answer) → IsBytes reply → answer_for offer down prog vers proc reply ≡ Some a
    → whole (Reply prog vers proc) (stream_brought offer a) (some_bytes (moved_brought offer a)) ≡ Some reply
unfolding answer_for
conveys_for offer down prog vers proc reply a fits e =
    brings offer prog vers proc reply a (made_answer offer down prog vers proc reply (parts_in (Reply prog vers proc) offer.write reply) a (λ p is. made prog vers proc offer.write reply p fits is) e)

pub conveys_by : (offer : ChunkLists) (down : ℕ) (reply : List ℕ) (o : Option CallTarget) (a : Answer) → IsBytes reply → answer_of_target offer down reply o ≡ Some a
    → whole (replied_by o) (stream_brought offer a) (some_bytes (moved_brought offer a)) ≡ Some reply
conveys_by offer down reply None a bytes e = conveys_for offer down 0 0 0 reply a bytes e
conveys_by offer down reply (Some t) a bytes e = conveys_for offer down t.prog t.vers t.proc reply a bytes e
