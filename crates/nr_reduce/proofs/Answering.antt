-- An answer for an offer that holds a reply, filled by its Writes, conveys that reply, and it is what the client takes.
use Rattle.std.proofs.Common.{◌≡◌, ◌≢◌, ℕ, ◌+◌, ◌-◌, ◌≤◌, min, Bool, true, false, cond, ◌&&◌, ◌||◌, eqb, leb, List, [], ◌∷◌, ◌++◌, length, take, drop, Option, Some, None, refl, sym, ap, subst, ◌∙◌, arith, inl, inr}
use Rattle.std.proofs.lemmas.Bool.{eq-eqb, cases_lt, leb-true, le-leb}
use Rattle.std.proofs.lemmas.List.{take_at, take_all}
use Rattle.std.specs.List.{flat_map}
use Rattle.std.proofs.lemmas.Grind.{flat_map-append}
use Rattle.nr_xdr.specs.Item.{IsBytes, pad_len}
use Rattle.nr_xdr.proofs.SequencingSteps.{chosen}
use Rattle.nr_header.specs.declared.header.RdmaSegment.{RdmaSegment}
use Rattle.nr_header.specs.declared.header.ReadSegment.{ReadSegment}
use Rattle.nr_header.specs.declared.header.ChunkLists.{ChunkLists}
use Rattle.nr_regions.specs.RegisteredMemory.{bytes_after_write}
use Rattle.nr_wire.specs.Segment.{encoding}
use Rattle.nr_reduce.specs.ChunkBytes.{bytes_after_segments, chunk_segments, answer_segments, lengths, offered_lists, RegionsHaveLengths, after}
use Rattle.nr_reduce.specs.declared.item.Item.{Item}
use Rattle.nr_reduce.specs.Items.{reducible_item, stream_of, moved_of}
use Rattle.nr_reduce.specs.declared.item.Of.TheVariants.{Reply}
use Rattle.nr_reduce.specs.Plans.{has_segment, segments_from, write_list, reply_chunk}
use Rattle.nr_reduce.specs.Chunks.{Bytes, joined_bytes, chunk_total, filled_chunk, whole, some_bytes, reply_moved, reply_stream, reply_conveyed, are_empty, returns, returns_each, fills_first, returns_none, returns_stream, answers_offer}
use Rattle.nr_reduce.specs.Holds.{Answer, Parts, parts_by, parts_in, answer_size, fits_reply, answer_with, answer_for, written_chunks, first_chunk, no_segments, writes_into, answer_writes, answer_lists}
use Rattle.nr_reduce.proofs.Rebuilding.{reducible, moved_length, rebuilt}
use Rattle.nr_reduce.proofs.WrittenChunks.{laid_append, laid_chunk, laid_other, chunk_spells, joined_filled, chunk_added, added_up, sum_added}

pub answer_spells : (offer : ChunkLists) (a : Answer) → answer_writes offer a ≡ flat_map encoding (answer_segments offer a)
unfolding answer_writes
answer_spells offer a =
    (λ k. chunk_spells (first_chunk offer.write) a.moved k ++ by_long a.long k)
    ∙ sym (flat_map-append encoding (chunk_segments (first_chunk offer.write) a.moved) (cond a.long (chunk_segments (no_segments offer.reply) a.stream) []))
  where
    by_long : (b : Bool) → cond b (writes_into (no_segments offer.reply) a.stream) [] ≡ flat_map encoding (cond b (chunk_segments (no_segments offer.reply) a.stream) [])
    by_long true = chunk_spells (no_segments offer.reply) a.stream
    by_long false = refl

-- ---- Offers whose chunks lie in a region each

first_chunk_lem : (ws : ℕ) (w : Option (List ℕ)) → first_chunk (write_list ws w) ≡ segments_from ws 0 (lengths w)
first_chunk_lem ws None = refl
first_chunk_lem ws (Some ns) = refl

no_segments_lem : (rs : ℕ) (r : Option (List ℕ)) → no_segments (reply_chunk rs r) ≡ segments_from rs 0 (lengths r)
no_segments_lem rs None = refl
no_segments_lem rs (Some ns) = refl

-- ---- What an answer consists of

-- the stream and what moved are the reply's, and what moved has room
record Made (prog vers proc : ℕ) (w : Option (List ℕ)) (reply : List ℕ) (stream moved : List ℕ) : Type 0 where
  conveys : whole (Reply prog vers proc) stream (some_bytes moved) ≡ Some reply
  room : length moved ≤ added_up (lengths w)

made_whole : (prog vers proc : ℕ) (w : Option (List ℕ)) (reply : List ℕ) (p : Parts) → (let all : Parts = record { stream = reply; moved = [] } in Some all) ≡ Some p → Made prog vers proc w reply p.stream p.moved
made_whole prog vers proc w reply p e =
    let all : Parts = record { stream = reply; moved = [] } in
    let same : all ≡ p = (let s : Some all ≡ Some p = e in cc) in
    subst (λ (q : Parts). Made prog vers proc w reply q.stream q.moved) same (record { conveys = refl; room = omega arith })

made_moved : (prog vers proc : ℕ) (reply : List ℕ) (i : Item) (moved : List ℕ) → IsBytes reply → reducible_item (Reply prog vers proc) reply ≡ Some i → moved ≡ moved_of reply i
    → whole (Reply prog vers proc) (stream_of reply i) (some_bytes moved) ≡ Some reply
unfolding pad_len
made_moved prog vers proc reply i (b ∷ bytes) fits e is =
    ap (λ (m : List ℕ). whole (Reply prog vers proc) (stream_of reply i) (Some m)) is ∙ rebuilt (Reply prog vers proc) reply i fits e
made_moved prog vers proc reply i [] fits e is =
    let r = reducible (Reply prog vers proc) reply i e in
    let none : i.len ≡ 0 = sym (moved_length (Reply prog vers proc) reply i r) ∙ ap (λ (xs : List ℕ). length xs) (sym is) in
    let pad : pad_len i.len ≡ 0 = ap pad_len none ∙ no_pad in
    ap Some (take_all i.pos reply (let s = r.size in omega (arith, s, none, pad)))
  where
    no_pad : pad_len 0 ≡ 0
    no_pad = refl

made_item : (prog vers proc : ℕ) (n : ℕ) (ns : List ℕ) (ws : ℕ) (reply : List ℕ) (o : Option Item) (p : Parts) → IsBytes reply → reducible_item (Reply prog vers proc) reply ≡ o
    → parts_by (segments_from ws 0 (n ∷ ns)) reply o ≡ Some p → Made prog vers proc (Some (n ∷ ns)) reply p.stream p.moved
made_item prog vers proc n ns ws reply None p fits is e = made_whole prog vers proc (Some (n ∷ ns)) reply p e
made_item prog vers proc n ns ws reply (Some i) p fits is e =
    let cut : Parts = record { stream = stream_of reply i; moved = moved_of reply i } in
    elim (chosen (leb i.len (chunk_total (segments_from ws 0 (n ∷ ns)))) (Some cut) None (Some p) e) [
      | inl h ↦
          let same : cut ≡ p = (let s : Some cut ≡ Some p = h.1 in cc) in
          let len = moved_length (Reply prog vers proc) reply i (reducible (Reply prog vers proc) reply i is) in
          let added = chunk_added ws 0 (n ∷ ns) in
          let low : i.len ≤ chunk_total (segments_from ws 0 (n ∷ ns)) = leb-true i.len (chunk_total (segments_from ws 0 (n ∷ ns))) h.0 in
          subst (λ (q : Parts). Made prog vers proc (Some (n ∷ ns)) reply q.stream q.moved) same (record {
            conveys = made_moved prog vers proc reply i (moved_of reply i) fits is refl;
            room = omega (arith, len, added, low);
          })
      | inr h ↦ absurd (let wrong = h.1 in cc)
    ]

made : (prog vers proc : ℕ) (ws : ℕ) (w : Option (List ℕ)) (reply : List ℕ) (p : Parts) → IsBytes reply → parts_in (Reply prog vers proc) (write_list ws w) reply ≡ Some p → Made prog vers proc w reply p.stream p.moved
made prog vers proc ws None reply p fits e = made_whole prog vers proc None reply p e
made prog vers proc ws (Some []) reply p fits e = made_whole prog vers proc (Some []) reply p e
made prog vers proc ws (Some (n ∷ ns)) reply p fits e = made_item prog vers proc n ns ws reply (reducible_item (Reply prog vers proc) reply) p fits refl e

-- an answer is made of these, and goes inline or has room in the reply chunk
pub record Answered (offer : ChunkLists) (down prog vers proc : ℕ) (w : Option (List ℕ)) (reply : List ℕ) (a : Answer) : Type 0 where
  pub conveys : whole (Reply prog vers proc) a.stream (some_bytes a.moved) ≡ Some reply
  pub room : length a.moved ≤ added_up (lengths w)
  pub short : a.long ≡ false → answer_size offer.write + length a.stream ≤ down
  pub long : a.long ≡ true → fits_reply offer.reply (length a.stream) ≡ true

answer_made : (offer : ChunkLists) (down prog vers proc : ℕ) (w : Option (List ℕ)) (reply : List ℕ) (o : Option Parts) (a : Answer) → ((p : Parts) → o ≡ Some p → Made prog vers proc w reply p.stream p.moved)
    → answer_with offer down o ≡ Some a → Answered offer down prog vers proc w reply a
answer_made offer down prog vers proc w reply None a h e = absurd cc
answer_made offer down prog vers proc w reply (Some p) a h e =
    let m = h p refl in
    let inline : Answer = record { long = false; stream = p.stream; moved = p.moved } in
    let chunked : Answer = record { long = true; stream = p.stream; moved = p.moved } in
    let small = leb (answer_size offer.write + length p.stream) down in
    let fits = fits_reply offer.reply (length p.stream) in
    elim (chosen small (Some inline) (cond fits (Some chunked) None) (Some a) e) [
      | inl g ↦
          let same : inline ≡ a = (let s : Some inline ≡ Some a = g.1 in cc) in
          subst (λ (b : Answer). Answered offer down prog vers proc w reply b) same (record {
            conveys = m.conveys;
            room = m.room;
            short = λ no. leb-true (answer_size offer.write + length p.stream) down g.0;
            long = λ yes. absurd cc;
          })
      | inr g ↦ elim (chosen fits (Some chunked) None (Some a) g.1) [
        | inl f ↦
            let same : chunked ≡ a = (let s : Some chunked ≡ Some a = f.1 in cc) in
            subst (λ (b : Answer). Answered offer down prog vers proc w reply b) same (record {
              conveys = m.conveys;
              room = m.room;
              short = λ no. absurd cc;
              long = λ yes. f.0;
            })
        | inr f ↦ absurd (let wrong = f.1 in cc)
      ]
    ]

pub answered : (read : List ReadSegment) (ws rs : ℕ) (w r : Option (List ℕ)) (down prog vers proc : ℕ) (reply : List ℕ) (a : Answer) → IsBytes reply
    → answer_for (offered_lists read ws rs w r) down prog vers proc reply ≡ Some a → Answered (offered_lists read ws rs w r) down prog vers proc w reply a
unfolding answer_for
answered read ws rs w r down prog vers proc reply a fits e =
    answer_made (offered_lists read ws rs w r) down prog vers proc w reply (parts_in (Reply prog vers proc) (write_list ws w) reply) a (λ p is. made prog vers proc ws w reply p fits is) e

-- ---- What its Writes leave

-- the first bytes of a region that was written from its front
front_written : (old bytes : List ℕ) → take (length bytes) (bytes_after_write old 0 bytes) ≡ bytes
front_written old bytes = take_at bytes (drop (0 + length bytes) old) (length bytes) refl

moved_left : (read : List ReadSegment) (ws rs : ℕ) (w r : Option (List ℕ)) (a : Answer) (initial : Bytes) → RegionsHaveLengths initial ws rs w r → length a.moved ≤ added_up (lengths w)
    → joined_bytes (after initial (offered_lists read ws rs w r) a) (filled_chunk (segments_from ws 0 (lengths w)) (length a.moved)) ≡ a.moved
moved_left read ws rs w r a initial backs room =
    joined_filled (after initial (offered_lists read ws rs w r) a) ws 0 (lengths w) (length a.moved) room ∙ by_write w backs room
  where
    none : (bytes xs : List ℕ) → length bytes ≤ 0 → take (length bytes) xs ≡ bytes
    none [] xs h = refl
    none (b ∷ bytes) xs h = absurd (omega (arith, h))

    by_reply : (old : List ℕ) (r : Option (List ℕ)) (b : Bool) → ws ≢ rs → bytes_after_segments ws old (cond b (chunk_segments (no_segments (reply_chunk rs r)) a.stream) []) ≡ old
    by_reply old r false ne = refl
    by_reply old None true ne = refl
    by_reply old (Some ns) true ne = laid_other ws rs 0 ns a.stream old ne

    by_write : (w : Option (List ℕ)) → RegionsHaveLengths initial ws rs w r → length a.moved ≤ added_up (lengths w) → take (length a.moved) (after initial (offered_lists read ws rs w r) a ws) ≡ a.moved
    by_write None backs room = none a.moved _ room
    by_write (Some []) backs room = none a.moved _ room
    by_write (Some (n ∷ ns)) backs room =
        let sized = backs.write refl in
        let added = sum_added (n ∷ ns) in
        ap (λ (xs : List ℕ). take (length a.moved) xs)
        (laid_append ws (initial ws) (chunk_segments (segments_from ws 0 (n ∷ ns)) a.moved) (cond a.long (chunk_segments (no_segments (reply_chunk rs r)) a.stream) [])
        ∙ by_reply (bytes_after_segments ws (initial ws) (chunk_segments (segments_from ws 0 (n ∷ ns)) a.moved)) r a.long (backs.apart refl)
        ∙ laid_chunk ws 0 (n ∷ ns) a.moved (initial ws) room (omega (arith, sized, added)))
        ∙ front_written (initial ws) a.moved

stream_left : (read : List ReadSegment) (ws rs : ℕ) (w r : Option (List ℕ)) (a : Answer) (initial : Bytes) → RegionsHaveLengths initial ws rs w r → a.long ≡ true → fits_reply (reply_chunk rs r) (length a.stream) ≡ true
    → joined_bytes (after initial (offered_lists read ws rs w r) a) (filled_chunk (no_segments (reply_chunk rs r)) (length a.stream)) ≡ a.stream
stream_left read ws rs w None a initial backs long fits = absurd cc
stream_left read ws rs w (Some ns) a initial backs long fits =
    let low = leb-true (length a.stream) (chunk_total (segments_from rs 0 ns)) fits in
    let added = chunk_added rs 0 ns in
    joined_filled (after initial (offered_lists read ws rs w (Some ns)) a) rs 0 ns (length a.stream) (omega (arith, low, added)) ∙ by_reply ns backs (omega (arith, low, added))
  where
    none : (bytes xs : List ℕ) → length bytes ≤ 0 → take (length bytes) xs ≡ bytes
    none [] xs h = refl
    none (b ∷ bytes) xs h = absurd (omega (arith, h))

    by_write : (old : List ℕ) (w : Option (List ℕ)) → (has_segment w ≡ true → ws ≢ rs) → bytes_after_segments rs old (chunk_segments (first_chunk (write_list ws w)) a.moved) ≡ old
    by_write old None ne = refl
    by_write old (Some []) ne = refl
    by_write old (Some (n ∷ ns)) ne = laid_other rs ws 0 (n ∷ ns) a.moved old (λ e. ne refl (sym e))

    by_reply : (ns : List ℕ) → RegionsHaveLengths initial ws rs w (Some ns) → length a.stream ≤ added_up ns → take (length a.stream) (after initial (offered_lists read ws rs w (Some ns)) a rs) ≡ a.stream
    by_reply [] backs low = none a.stream _ low
    by_reply (n ∷ ns) backs low =
        let sized = backs.reply refl in
        let added = sum_added (n ∷ ns) in
        let mine = chunk_segments (segments_from rs 0 (n ∷ ns)) a.stream in
        let first = chunk_segments (first_chunk (write_list ws w)) a.moved in
        ap (λ (xs : List ℕ). take (length a.stream) xs)
        (ap (λ (b : Bool). bytes_after_segments rs (initial rs) (first ++ cond b mine [])) long
        ∙ laid_append rs (initial rs) first mine
        ∙ ap (λ (xs : List ℕ). bytes_after_segments rs xs mine) (by_write (initial rs) w backs.apart)
        ∙ laid_chunk rs 0 (n ∷ ns) a.stream (initial rs) low (omega (arith, sized, added)))
        ∙ front_written (initial rs) a.stream

-- An answer for an offer that holds the reply conveys it to the client, by the memory that its Writes leave.
pub conveyed : (read : List ReadSegment) (ws rs : ℕ) (w r : Option (List ℕ)) (down prog vers proc : ℕ) (reply : List ℕ) (a : Answer) (initial : Bytes) → IsBytes reply → RegionsHaveLengths initial ws rs w r
    → answer_for (offered_lists read ws rs w r) down prog vers proc reply ≡ Some a
    → reply_conveyed prog vers proc (cond a.long None (Some a.stream)) (answer_lists (offered_lists read ws rs w r) a) (after initial (offered_lists read ws rs w r) a) ≡ Some reply
unfolding reply_conveyed joined_bytes
conveyed read ws rs w r down prog vers proc reply a initial fits backs e =
    let made = answered read ws rs w r down prog vers proc reply a fits e in
    let memory = after initial (offered_lists read ws rs w r) a in
    (λ k. whole (Reply prog vers proc) (stream_is a.long refl made k) (moved_is made k)) ∙ made.conveys
  where
    memory : Bytes
    memory = after initial (offered_lists read ws rs w r) a

    stream_is : (b : Bool) → a.long ≡ b → Answered (offered_lists read ws rs w r) down prog vers proc w reply a
        → reply_stream memory (cond b None (Some a.stream)) (cond b (Some (filled_chunk (no_segments (reply_chunk rs r)) (length a.stream))) None) ≡ a.stream
    stream_is false long made = refl
    stream_is true long made = stream_left read ws rs w r a initial backs long (made.long long)

    chunks_are : (w : Option (List ℕ)) (m : Bytes) (n : ℕ) → reply_moved m (written_chunks (write_list ws w) n) ≡ some_bytes (joined_bytes m (filled_chunk (segments_from ws 0 (lengths w)) n))
    chunks_are None m n = refl
    chunks_are (Some ns) m n = refl

    moved_is : Answered (offered_lists read ws rs w r) down prog vers proc w reply a → reply_moved memory (written_chunks (write_list ws w) (length a.moved)) ≡ some_bytes a.moved
    moved_is made = chunks_are w memory (length a.moved) ∙ ap some_bytes (moved_left read ws rs w r a initial backs made.room)

-- ---- The lists that come back are those that were offered

filled_empty : (chunk : List RdmaSegment) (n : ℕ) → n ≡ 0 → are_empty (filled_chunk chunk n) ≡ true
filled_empty [] n e = refl
filled_empty (s ∷ chunk) n e =
    let none : min s.length n ≡ 0 = omega (arith, e) in
    (λ k. eq-eqb (min s.length n) 0 none k && filled_empty chunk (n - min s.length n) (omega (arith, e)) k)

filled_returns : (chunk : List RdmaSegment) (n : ℕ) → returns chunk (filled_chunk chunk n) ≡ true
filled_returns [] n = refl
filled_returns (s ∷ chunk) n =
    let others = filled_returns chunk (n - min s.length n) in
    (λ k. eq-eqb s.handle s.handle refl k && (eq-eqb s.offset s.offset refl k && (le-leb (min s.length n) s.length (omega arith) k && (full k && others k))))
  where
    or_true : (a b : Bool) → b ≡ true → (a || b) ≡ true
    or_true true b e = refl
    or_true false b e = e

    full : (eqb (min s.length n) s.length || are_empty (filled_chunk chunk (n - min s.length n))) ≡ true
    full = elim (cases_lt n s.length) [
      | inl lt ↦ or_true (eqb (min s.length n) s.length) _ (filled_empty chunk (n - min s.length n) (omega (arith, lt)))
      | inr le ↦ ap (λ (b : Bool). b || are_empty (filled_chunk chunk (n - min s.length n))) (eq-eqb (min s.length n) s.length (omega (arith, le)))
    ]

pub suits_offer : (read : List ReadSegment) (ws rs : ℕ) (w r : Option (List ℕ)) (down prog vers proc : ℕ) (reply : List ℕ) (a : Answer) → Answered (offered_lists read ws rs w r) down prog vers proc w reply a
    → answers_offer a.long (offered_lists read ws rs w r) (answer_lists (offered_lists read ws rs w r) a) ≡ true
unfolding answers_offer
suits_offer read ws rs w r down prog vers proc reply a made =
    (λ k. each w k && (first w k && by_reply a.long r refl made.long k))
  where
    each : (w : Option (List ℕ)) → returns_each (write_list ws w) (written_chunks (write_list ws w) (length a.moved)) ≡ true
    each None = refl
    each (Some ns) = λ k. filled_returns (segments_from ws 0 ns) (length a.moved) k && true

    first : (w : Option (List ℕ)) → fills_first (written_chunks (write_list ws w) (length a.moved)) ≡ true
    first None = refl
    first (Some ns) = refl

    by_reply : (b : Bool) (r : Option (List ℕ)) → a.long ≡ b → (a.long ≡ true → fits_reply (reply_chunk rs r) (length a.stream) ≡ true)
        → cond b (returns_stream (reply_chunk rs r) (cond b (Some (filled_chunk (no_segments (reply_chunk rs r)) (length a.stream))) None)) (returns_none (reply_chunk rs r) (cond b (Some (filled_chunk (no_segments (reply_chunk rs r)) (length a.stream))) None)) ≡ true
    by_reply false r is h = refl
    by_reply true None is h = absurd (let wrong = h is in cc)
    by_reply true (Some ns) is h = filled_returns (segments_from rs 0 ns) (length a.stream)
