-- Segments and chunks are read if and only if they are encoded.
use Rattle.std.proofs.Common.{◌≡◌, ℕ, zero, suc, ◌+◌, ◌^◌, ◌≤◌, Bool, true, false, ltb, List, [], ◌∷◌, length, Option, Some, None, Result, Ok, Err, refl, sym, ap, subst, ◌∙◌, arith, inl, inr}
use Rattle.std.specs.Prelude.{IfSome}
use Rattle.std.specs.List.{AllByRecursion}
use Rattle.std.proofs.lemmas.Bool.{ltb-false, le-ltb}
use Rattle.nr_xdr.specs.Item.{Item, IsBytes}
use Rattle.nr_xdr.specs.Item.Item.{Unsigned, Boolean}
use Rattle.nr_xdr.specs.Reading.{Cursor, Takes}
use Rattle.nr_xdr.specs.Sequencing.{◌>>=◌}
use Rattle.nr_xdr.specs.Items.{TakesAll}
use Rattle.nr_xdr.proofs.SequencingSteps.{bind_ok, chosen, done, ok_is, number_step, number_again, hyper_step, hyper_placed, boolean_step, boolean_placed}
use Rattle.nr_header.specs.Constants.{CHUNK_SEGMENTS_MAX, REPLY_SEGMENTS_MAX}
use Rattle.nr_header.specs.declared.header.RdmaSegment.{RdmaSegment}
use Rattle.nr_header.specs.Header.{segment_items, segments_items, chunk_items, write_items, reply_items}
use Rattle.nr_header.specs.WithinLimits.{Ends}
use Rattle.nr_header.specs.Reading.{end_at, segment_at, segments_at, chunk_at, write_list_at, reply_chunk_at}

-- from c to d these items were taken, whatever follows
abbrev pub Before : (List Item → List Item) → Cursor → Cursor → Type 0
Before items c d = (more : List Item) (after : Cursor) → TakesAll d after more → TakesAll c after (items more)

-- what was read of some items, and what follows them
abbrev pub Again : {A : Type 0} → Result (A × Cursor) ℕ → A → List Item → Cursor → Type 0
Again read value more after = (d : Cursor) × (read ≡ Ok (value, d)) × TakesAll d after more

abbrev pub SegmentEnds : RdmaSegment → Type 0
SegmentEnds s = Ends s.offset s.length

pub record TookSegment (s : RdmaSegment) (c d : Cursor) : Type 0 where
  pub before : Before (segment_items s) c d
  pub ends : SegmentEnds s
  pub fits : IsBytes d.rest

pub segment_take : (place : ℕ) (c : Cursor) (x : RdmaSegment × Cursor) → IsBytes c.rest → segment_at place c ≡ Ok x → TookSegment x.0 c x.1
unfolding segment_at
segment_take place c x fits e =
    let handle = number_step c _ x fits e in
    let len = number_step handle.0.1 _ x handle.2 handle.3 in
    let offset = hyper_step len.0.1 _ x len.2 len.3 in
    let made : RdmaSegment × Cursor = (record { handle = handle.0.0; length = len.0.0; offset = offset.0.0 }, offset.0.1) in
    elim (chosen (ltb (2 ^ 64) (offset.0.0 + len.0.0)) (Err place) (Ok made) (Ok x) offset.3) [
      | inl past ↦ absurd (let wrong : Err place ≡ done x = past.1 in cc)
      | inr within ↦ subst (λ (y : RdmaSegment × Cursor). TookSegment y.0 c y.1) (ok_is made x within.1) (record {
        before = λ more after others. (handle.0.1, handle.1, (len.0.1, len.1, (offset.0.1, offset.1, others)));
        ends = ltb-false (2 ^ 64) (offset.0.0 + len.0.0) within.0;
        fits = offset.2;
      })
    ]

pub segment_again : (place : ℕ) (s : RdmaSegment) (more : List Item) (c after : Cursor) → SegmentEnds s → TakesAll c after (segment_items s more) → Again (segment_at place c) s more after
unfolding segment_at
segment_again place s more c after ends (a, at_handle, (b, at_len, (d, at_offset, others))) =
    (d, rw (number_again c s.handle a at_handle, number_again a s.length b at_len, hyper_placed b s.offset d at_offset, le-ltb (2 ^ 64) (s.offset + s.length) ends) refl, others)

pub record TookSegments (ss : List RdmaSegment) (c d : Cursor) : Type 0 where
  pub before : Before (segments_items ss) c d
  pub ends : AllByRecursion SegmentEnds ss
  pub fits : IsBytes d.rest

-- the first of some segments, and the others
segments_more : (s : RdmaSegment) (ss : List RdmaSegment) (c d after : Cursor) (x : List RdmaSegment × Cursor) → TookSegment s c d → TookSegments ss d after
    → done {A = List RdmaSegment × Cursor} (s ∷ ss, after) ≡ done x → TookSegments x.0 c x.1 × (length x.0 ≡ suc (length ss))
segments_more s ss c d after x first others e =
    let made : List RdmaSegment × Cursor = (s ∷ ss, after) in
    subst (λ (y : List RdmaSegment × Cursor). TookSegments y.0 c y.1 × (length y.0 ≡ suc (length ss))) (ok_is made x e) (
      record {
        before = λ more end behind. first.before (segments_items ss more) end (others.before more end behind);
        ends = (first.ends, others.ends);
        fits = others.fits;
      },
      refl,
    )

pub segments_take : (n : ℕ) (c : Cursor) (x : List RdmaSegment × Cursor) → IsBytes c.rest → segments_at n c ≡ Ok x → TookSegments x.0 c x.1 × (length x.0 ≡ n)
unfolding segments_at
segments_take zero c x fits e =
    subst (λ (y : List RdmaSegment × Cursor). TookSegments y.0 c y.1 × (length y.0 ≡ 0)) (ok_is ([], c) x e)
    (record { before = λ more after behind. behind; ends = tt; fits = fits }, refl)
segments_take (suc n) c x fits e =
    let first = bind_ok (segment_at c.place c) _ x e in
    let s = segment_take c.place c first.0 fits first.1 in
    let others = bind_ok (segments_at n first.0.1) _ x first.2 in
    let ss = segments_take n first.0.1 others.0 s.fits others.1 in
    let both = segments_more first.0.0 others.0.0 c first.0.1 others.0.1 x s ss.0 others.2 in
    (both.0, both.1 ∙ ap suc ss.1)

pub segments_again : (ss : List RdmaSegment) (more : List Item) (c after : Cursor) → AllByRecursion SegmentEnds ss → TakesAll c after (segments_items ss more)
    → Again (segments_at (length ss) c) ss more after
unfolding segments_at
segments_again [] more c after ends taken = (c, refl, taken)
segments_again (s ∷ ss) more c after ends taken =
    let (d, first, behind) = segment_again c.place s (segments_items ss more) c after ends.0 taken in
    let (f, others, last) = segments_again ss more d after ends.1 behind in
    (f, rw (first, others) refl, last)

pub record TookChunk (max : ℕ) (chunk : List RdmaSegment) (c d : Cursor) : Type 0 where
  pub before : Before (chunk_items chunk) c d
  pub ends : AllByRecursion SegmentEnds chunk
  pub within : length chunk ≤ max
  pub fits : IsBytes d.rest

pub chunk_take : (max : ℕ) (c : Cursor) (x : List RdmaSegment × Cursor) → IsBytes c.rest → chunk_at max c ≡ Ok x → TookChunk max x.0 c x.1
unfolding chunk_at
chunk_take max c x fits e =
    let count = number_step c _ x fits e in
    elim (chosen (ltb max count.0.0) (Err c.place) (segments_at count.0.0 count.0.1) (Ok x) count.3) [
      | inl above ↦ absurd (let wrong : Err c.place ≡ done x = above.1 in cc)
      | inr within ↦
          let ss = segments_take count.0.0 count.0.1 x count.2 within.1 in
          let counted : Takes c count.0.1 (Unsigned (length x.0)) = subst (λ (n : ℕ). Takes c count.0.1 (Unsigned n)) (sym ss.1) count.1 in
          record {
            before = λ more after behind. (count.0.1, counted, ss.0.before more after behind);
            ends = ss.0.ends;
            within = omega (arith, ltb-false max count.0.0 within.0, ss.1);
            fits = ss.0.fits;
          }
    ]

pub chunk_again : (max : ℕ) (chunk : List RdmaSegment) (more : List Item) (c after : Cursor) → length chunk ≤ max → AllByRecursion SegmentEnds chunk → TakesAll c after (chunk_items chunk more)
    → Again (chunk_at max c) chunk more after
unfolding chunk_at
chunk_again max chunk more c after within ends (a, at_count, others) =
    let (d, read, last) = segments_again chunk more a after ends others in
    (d, rw (number_again c (length chunk) a at_count, le-ltb max (length chunk) within) read, last)

-- ---- write lists

pub end_take : (c d : Cursor) → IsBytes c.rest → end_at c ≡ Ok d → Takes c d (Boolean false) × IsBytes d.rest
unfolding end_at
end_take c d fits e =
    let more = boolean_step c _ d fits e in
    elim (chosen more.0.0 (Err c.place) (Ok more.0.1) (Ok d) more.3) [
      | inl goes ↦ absurd (let wrong : Err c.place ≡ done d = goes.1 in cc)
      | inr stops ↦
          let is = ok_is more.0.1 d stops.1 in (
            subst (λ (x : Cursor). Takes c x (Boolean false)) is (subst (λ (b : Bool). Takes c more.0.1 (Boolean b)) stops.0 more.1),
            subst (λ (x : Cursor). IsBytes x.rest) is more.2,
          )
    ]

pub end_again : (c d : Cursor) → Takes c d (Boolean false) → end_at c ≡ Ok d
unfolding end_at
end_again c d taken = rw (boolean_placed c false d taken) refl

pub record TookWrite (room : ℕ) (chunks : List (List RdmaSegment)) (c d : Cursor) : Type 0 where
  pub before : Before (write_items chunks) c d
  pub small : AllByRecursion (λ chunk. length chunk ≤ CHUNK_SEGMENTS_MAX) chunks
  pub ends : AllByRecursion (AllByRecursion SegmentEnds) chunks
  pub within : length chunks ≤ room
  pub fits : IsBytes d.rest

write_none : (room : ℕ) (c d : Cursor) (x : List (List RdmaSegment) × Cursor) → Takes c d (Boolean false) → IsBytes d.rest
    → done {A = List (List RdmaSegment) × Cursor} ([], d) ≡ done x → TookWrite room x.0 c x.1
write_none room c d x taken fits e =
    let made : List (List RdmaSegment) × Cursor = ([], d) in
    subst (λ (y : List (List RdmaSegment) × Cursor). TookWrite room y.0 c y.1) (ok_is made x e) (record {
      before = λ more after behind. (d, taken, behind);
      small = tt;
      ends = tt;
      within = omega arith;
      fits = fits;
    })

write_more : (room : ℕ) (chunk : List RdmaSegment) (chunks : List (List RdmaSegment)) (c d f after : Cursor) (x : List (List RdmaSegment) × Cursor)
    → Takes c d (Boolean true) → TookChunk CHUNK_SEGMENTS_MAX chunk d f → TookWrite room chunks f after
    → done {A = List (List RdmaSegment) × Cursor} (chunk ∷ chunks, after) ≡ done x → TookWrite (suc room) x.0 c x.1
write_more room chunk chunks c d f after x taken first others e =
    let made : List (List RdmaSegment) × Cursor = (chunk ∷ chunks, after) in
    subst (λ (y : List (List RdmaSegment) × Cursor). TookWrite (suc room) y.0 c y.1) (ok_is made x e) (record {
      before = λ more end behind. (d, taken, first.before (write_items chunks more) end (others.before more end behind));
      small = (first.within, others.small);
      ends = (first.ends, others.ends);
      within = omega (arith, others.within);
      fits = others.fits;
    })

pub write_list_take : (room : ℕ) (c : Cursor) (x : List (List RdmaSegment) × Cursor) → IsBytes c.rest → write_list_at room c ≡ Ok x → TookWrite room x.0 c x.1
unfolding write_list_at
write_list_take zero c x fits e =
    let end = bind_ok (end_at c) _ x e in
    let t = end_take c end.0 fits end.1 in
    write_none 0 c end.0 x t.0 t.1 end.2
write_list_take (suc room) c x fits e =
    let more = boolean_step c _ x fits e in
    elim (chosen more.0.0 (chunk_at CHUNK_SEGMENTS_MAX more.0.1 >>= λ chunk. write_list_at room chunk.1 >>= λ others. Ok (chunk.0 ∷ others.0, others.1)) (Ok ([], more.0.1)) (Ok x) more.3) [
      | inl goes ↦
          let chunk = bind_ok (chunk_at CHUNK_SEGMENTS_MAX more.0.1) _ x goes.1 in
          let k = chunk_take CHUNK_SEGMENTS_MAX more.0.1 chunk.0 more.2 chunk.1 in
          let others = bind_ok (write_list_at room chunk.0.1) _ x chunk.2 in
          let ks = write_list_take room chunk.0.1 others.0 k.fits others.1 in
          write_more room chunk.0.0 others.0.0 c more.0.1 chunk.0.1 others.0.1 x (subst (λ (b : Bool). Takes c more.0.1 (Boolean b)) goes.0 more.1) k ks others.2
      | inr stops ↦ write_none (suc room) c more.0.1 x (subst (λ (b : Bool). Takes c more.0.1 (Boolean b)) stops.0 more.1) more.2 stops.1
    ]

pub write_list_again : (chunks : List (List RdmaSegment)) (room : ℕ) (more : List Item) (c after : Cursor) → length chunks ≤ room
    → AllByRecursion (λ chunk. length chunk ≤ CHUNK_SEGMENTS_MAX) chunks → AllByRecursion (AllByRecursion SegmentEnds) chunks
    → TakesAll c after (write_items chunks more) → Again (write_list_at room c) chunks more after
unfolding write_list_at
write_list_again [] zero more c after within small ends (d, taken, behind) = (d, rw (end_again c d taken) refl, behind)
write_list_again [] (suc room) more c after within small ends (d, taken, behind) = (d, rw (boolean_placed c false d taken) refl, behind)
write_list_again (chunk ∷ chunks) zero more c after within small ends taken = absurd (omega (arith, within))
write_list_again (chunk ∷ chunks) (suc room) more c after within small ends (d, taken, behind) =
    let (f, first, others) = chunk_again CHUNK_SEGMENTS_MAX chunk (write_items chunks more) d after small.0 ends.0 behind in
    let (g, read, last) = write_list_again chunks room more f after (omega (arith, within)) small.1 ends.1 others in
    (g, rw (boolean_placed c true d taken, first, read) refl, last)

-- ---- reply chunks

pub record TookReply (reply : Option (List RdmaSegment)) (c d : Cursor) : Type 0 where
  pub before : Before (reply_items reply) c d
  pub ends : IfSome reply (AllByRecursion SegmentEnds)
  pub within : IfSome reply (λ chunk. length chunk ≤ REPLY_SEGMENTS_MAX)
  pub fits : IsBytes d.rest

pub reply_chunk_take : (c : Cursor) (x : Option (List RdmaSegment) × Cursor) → IsBytes c.rest → reply_chunk_at c ≡ Ok x → TookReply x.0 c x.1
unfolding reply_chunk_at
reply_chunk_take c x fits e =
    let more = boolean_step c _ x fits e in
    elim (chosen more.0.0 (chunk_at REPLY_SEGMENTS_MAX more.0.1 >>= λ chunk. Ok (Some chunk.0, chunk.1)) (Ok (None, more.0.1)) (Ok x) more.3) [
      | inl goes ↦
          let chunk = bind_ok (chunk_at REPLY_SEGMENTS_MAX more.0.1) _ x goes.1 in
          let k = chunk_take REPLY_SEGMENTS_MAX more.0.1 chunk.0 more.2 chunk.1 in
          let taken : Takes c more.0.1 (Boolean true) = subst (λ (b : Bool). Takes c more.0.1 (Boolean b)) goes.0 more.1 in
          let made : Option (List RdmaSegment) × Cursor = (Some chunk.0.0, chunk.0.1) in
          subst (λ (y : Option (List RdmaSegment) × Cursor). TookReply y.0 c y.1) (ok_is made x chunk.2) (record {
            before = λ others after behind. (more.0.1, taken, k.before others after behind);
            ends = k.ends;
            within = k.within;
            fits = k.fits;
          })
      | inr stops ↦
          let taken : Takes c more.0.1 (Boolean false) = subst (λ (b : Bool). Takes c more.0.1 (Boolean b)) stops.0 more.1 in
          let made : Option (List RdmaSegment) × Cursor = (None, more.0.1) in
          subst (λ (y : Option (List RdmaSegment) × Cursor). TookReply y.0 c y.1) (ok_is made x stops.1) (record {
            before = λ others after behind. (more.0.1, taken, behind);
            ends = tt;
            within = tt;
            fits = more.2;
          })
    ]

pub reply_chunk_again : (reply : Option (List RdmaSegment)) (more : List Item) (c after : Cursor) → IfSome reply (λ chunk. length chunk ≤ REPLY_SEGMENTS_MAX)
    → IfSome reply (AllByRecursion SegmentEnds) → TakesAll c after (reply_items reply more) → Again (reply_chunk_at c) reply more after
unfolding reply_chunk_at
reply_chunk_again None more c after within ends (d, taken, behind) = (d, rw (boolean_placed c false d taken) refl, behind)
reply_chunk_again (Some chunk) more c after within ends (d, taken, behind) =
    let (f, read, last) = chunk_again REPLY_SEGMENTS_MAX chunk more d after within ends behind in
    (f, rw (boolean_placed c true d taken, read) refl, last)
