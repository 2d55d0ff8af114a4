-- A chunk that came back: the bytes that came in it are the first ones of its region.
use Rattle.std.proofs.Common.{◌≡◌, ℕ, ◌+◌, ◌-◌, ◌≤◌, min, Bool, true, false, ◌&&◌, ◌||◌, eqb, leb, List, [], ◌∷◌, take, refl, sym, ap, ◌∙◌, arith}
use Rattle.std.specs.Prelude.{sum}
use Rattle.std.proofs.lemmas.Bool.{eqb-true, leb-true}
use Rattle.std.proofs.lemmas.List.Sums.{sum_by-cons}
use Rattle.nr_header.specs.declared.header.RdmaSegment.{RdmaSegment}
use Rattle.nr_reduce.specs.Plans.{segments_from}
use Rattle.nr_reduce.specs.Chunks.{Bytes, filled_chunk, chunk_total, joined_bytes, returns, are_empty}
use Rattle.nr_reduce.proofs.WrittenChunks.{added_up, sum_added, chunk_added, joined_filled}

-- what holds of a segment that came back, and of those after it
record OneBack (o b : RdmaSegment) (os bs : List RdmaSegment) : Type 0 where
  handle : b.handle ≡ o.handle
  offset : b.offset ≡ o.offset
  within : leb b.length o.length ≡ true
  full : (eqb b.length o.length || are_empty bs) ≡ true
  rest : returns os bs ≡ true

and_first : (a b : Bool) → (a && b) ≡ true → a ≡ true
and_first true b e = refl
and_first false b e = absurd cc

and_second : (a b : Bool) → (a && b) ≡ true → b ≡ true
and_second true b e = e
and_second false b e = absurd cc

one_back : (o b : RdmaSegment) (os bs : List RdmaSegment) → returns (o ∷ os) (b ∷ bs) ≡ true → OneBack o b os bs
one_back o b os bs e =
    let h : Bool = eqb b.handle o.handle in
    let at : Bool = eqb b.offset o.offset in
    let w : Bool = leb b.length o.length in
    let f : Bool = eqb b.length o.length || are_empty bs in
    let r : Bool = returns os bs in
    let e1 : (at && (w && (f && r))) ≡ true = and_second h (at && (w && (f && r))) e in
    let e2 : (w && (f && r)) ≡ true = and_second at (w && (f && r)) e1 in
    let e3 : (f && r) ≡ true = and_second w (f && r) e2 in
    record {
      handle = eqb-true b.handle o.handle (and_first h (at && (w && (f && r))) e);
      offset = eqb-true b.offset o.offset (and_first at (w && (f && r)) e1);
      within = and_first w (f && r) e2;
      full = and_first f r e3;
      rest = and_second f r e3;
    }

total_cons : (b : RdmaSegment) (bs : List RdmaSegment) → chunk_total (b ∷ bs) ≡ b.length + chunk_total bs
unfolding chunk_total
total_cons b bs = sum_by-cons (λ (s : RdmaSegment). s.length) b bs

total_none : chunk_total [] ≡ 0
unfolding chunk_total
total_none = refl

empty_total : (bs : List RdmaSegment) → are_empty bs ≡ true → chunk_total bs ≡ 0
empty_total [] e = total_none
empty_total (b ∷ bs) e =
    let none : b.length ≡ 0 = eqb-true b.length 0 (and_first (eqb b.length 0) (are_empty bs) e) in
    let rest : chunk_total bs ≡ 0 = empty_total bs (and_second (eqb b.length 0) (are_empty bs) e) in
    total_cons b bs ∙ omega (arith, none, rest)

pub record IsFilled (offered back : List RdmaSegment) : Type 0 where
  pub filled : back ≡ filled_chunk offered (chunk_total back)
  pub within : chunk_total back ≤ chunk_total offered

filled_one : (o b : RdmaSegment) (os bs : List RdmaSegment) (t : ℕ) → b.handle ≡ o.handle → b.offset ≡ o.offset → min o.length t ≡ b.length → t - min o.length t ≡ chunk_total bs → bs ≡ filled_chunk os (chunk_total bs) → b ∷ bs ≡ filled_chunk (o ∷ os) t
filled_one o b os bs t handle offset len left rest =
    (λ i. record { handle = handle i; length = sym len i; offset = offset i } ∷ rest i)
    ∙ (λ i. record { handle = o.handle; length = min o.length t; offset = o.offset } ∷ filled_chunk os (sym left i))

more_filled : (o b : RdmaSegment) (offered back : List RdmaSegment) → OneBack o b offered back → IsFilled offered back → IsFilled (o ∷ offered) (b ∷ back)
more_filled o b offered back h ih = by (eqb b.length o.length) refl h.full
  where
    t : chunk_total (b ∷ back) ≡ b.length + chunk_total back
    t = total_cons b back

    whole : min o.length (chunk_total (b ∷ back)) ≡ b.length → b.length ≤ o.length → IsFilled (o ∷ offered) (b ∷ back)
    whole len le = record {
      filled = filled_one o b offered back (chunk_total (b ∷ back)) h.handle h.offset len (omega (arith, len, t)) ih.filled;
      within = (let in_rest = ih.within in omega (arith, t, le, in_rest, total_cons o offered));
    }

    by : (c : Bool) → eqb b.length o.length ≡ c → (c || are_empty back) ≡ true → IsFilled (o ∷ offered) (b ∷ back)
    by true is f = (let same : b.length ≡ o.length = eqb-true b.length o.length is in whole (omega (arith, same, t)) (omega (arith, same)))
    by false is f = (let le : b.length ≤ o.length = leb-true b.length o.length h.within in let none = empty_total back f in whole (omega (arith, le, none, t)) le)

pub came_filled : (offered back : List RdmaSegment) → returns offered back ≡ true → IsFilled offered back
came_filled [] [] e = record { filled = refl; within = omega (arith, total_none) }
came_filled [] (b ∷ back) e = absurd cc
came_filled (o ∷ offered) [] e = absurd cc
came_filled (o ∷ offered) (b ∷ back) e = more_filled o b offered back (one_back o b offered back e) (came_filled offered back (one_back o b offered back e).rest)

-- what came in a chunk of a region
pub came_back : (memory : Bytes) (stag : ℕ) (lengths : List ℕ) (back : List RdmaSegment) → returns (segments_from stag 0 lengths) back ≡ true → (joined_bytes memory back ≡ take (chunk_total back) (memory stag)) × (chunk_total back ≤ sum lengths)
came_back memory stag lengths back e =
    let f : IsFilled (segments_from stag 0 lengths) back = came_filled (segments_from stag 0 lengths) back e in
    let most : chunk_total back ≤ added_up lengths = (let le = f.within in omega (arith, le, chunk_added stag 0 lengths)) in (
      ap (joined_bytes memory) f.filled ∙ joined_filled memory stag 0 lengths (chunk_total back) most,
      (let s : sum lengths ≡ added_up lengths = sum_added lengths in omega (arith, most, s)),
    )
