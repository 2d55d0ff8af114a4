-- The chunks of a read list have at most its bytes.
use Rattle.std.proofs.Common.{◌≡◌, ℕ, ◌+◌, ◌≤◌, Bool, true, false, not, ◌||◌, eqb, cond, List, [], ◌∷◌, length, replicate, refl, sym, ap, ◌∙◌, arith}
use Rattle.std.specs.Prelude.{sum_by}
use Rattle.std.specs.List.{list_any, filter}
use Rattle.std.proofs.lemmas.Bool.{eqb-true, eq-eqb}
use Rattle.std.proofs.lemmas.List.{length-replicate}
use Rattle.std.proofs.lemmas.List.Sums.{sum_by-cons}
use Rattle.nr_header.specs.declared.header.ReadSegment.{ReadSegment}
use Rattle.nr_header.specs.declared.header.ChunkLists.{ChunkLists}
use Rattle.nr_header.specs.WithinLimits.{read_total}
use Rattle.nr_reduce.specs.Chunks.{at_position, positions, total_at}
use Rattle.nr_reduce.specs.ServerReads.{chunks_of, regions_from}
use Rattle.nr_responder.specs.Fetching.{open_sinks}
use Rattle.nr_responder.specs.HeldBytes.{sizes, sinks_count, sinks_share, sinks_total}

-- no position stands twice
abbrev Distinct : List ℕ → Type 0
Distinct [] = Unit {0}
Distinct (p ∷ ps) = (list_any (λ q. eqb q p) ps ≡ false) × Distinct ps

none_filtered : (keep : ℕ → Bool) (p : ℕ) (ps : List ℕ) → list_any (λ q. eqb q p) ps ≡ false → list_any (λ q. eqb q p) (filter keep ps) ≡ false
none_filtered keep p [] none = refl
none_filtered keep p (q ∷ ps) none = by (none_filtered keep p ps) (eqb q p) refl (keep q) none
  where
    by : (list_any (λ q. eqb q p) ps ≡ false → list_any (λ q. eqb q p) (filter keep ps) ≡ false) → (b : Bool) → eqb q p ≡ b → (k : Bool) → (b || list_any (λ q. eqb q p) ps) ≡ false →
        list_any (λ q. eqb q p) (cond k (q ∷ filter keep ps) (filter keep ps)) ≡ false
    by rest true e k h = absurd cc
    by rest false e true h = ap (λ (b : Bool). b || list_any (λ q. eqb q p) (filter keep ps)) e ∙ rest h
    by rest false e false h = rest h

distinct_filtered : (keep : ℕ → Bool) (ps : List ℕ) → Distinct ps → Distinct (filter keep ps)
distinct_filtered keep [] h = tt
distinct_filtered keep (p ∷ ps) h = by (keep p) (distinct_filtered keep ps h.1)
  where
    by : (k : Bool) → Distinct (filter keep ps) → Distinct (cond k (p ∷ filter keep ps) (filter keep ps))
    by true rest = (none_filtered keep p ps h.0, rest)
    by false rest = rest

itself_out : (p : ℕ) (ps : List ℕ) → list_any (λ q. eqb q p) (filter (λ q. not (eqb q p)) ps) ≡ false
itself_out p [] = refl
itself_out p (q ∷ ps) = by (eqb q p) refl (itself_out p ps)
  where
    by : (b : Bool) → eqb q p ≡ b → list_any (λ q. eqb q p) (filter (λ q. not (eqb q p)) ps) ≡ false → list_any (λ q. eqb q p) (cond (not b) (q ∷ filter (λ q. not (eqb q p)) ps) (filter (λ q. not (eqb q p)) ps)) ≡ false
    by true e rest = rest
    by false e rest = ap (λ (b : Bool). b || list_any (λ q. eqb q p) (filter (λ q. not (eqb q p)) ps)) e ∙ rest

positions_distinct : (read : List ReadSegment) → Distinct (positions read)
positions_distinct [] = tt
positions_distinct (r ∷ read) = (itself_out r.position (positions read), distinct_filtered (λ p. not (eqb p r.position)) (positions read) (positions_distinct read))

-- the bytes of the chunks at these positions
abbrev chunks_total : List ReadSegment → List ℕ → ℕ
chunks_total read ps = sizes (λ p. total_at p read) ps

-- an entry adds its bytes to its chunk alone
total_cons : (p : ℕ) (r : ReadSegment) (read : List ReadSegment) → total_at p (r ∷ read) ≡ cond (eqb r.position p) r.length 0 + total_at p read
unfolding total_at
total_cons p r read = by (eqb r.position p)
  where
    by : (b : Bool) → sum_by (λ (q : ReadSegment). q.length) (cond b (r ∷ at_position p read) (at_position p read)) ≡ cond b r.length 0 + sum_by (λ (q : ReadSegment). q.length) (at_position p read)
    by true = sum_by-cons (λ (q : ReadSegment). q.length) r (at_position p read)
    by false = omega arith

total_none : (p : ℕ) → total_at p [] ≡ 0
unfolding total_at
total_none p = refl

none_more : (r : ReadSegment) (read : List ReadSegment) (ps : List ℕ) → list_any (λ q. eqb q r.position) ps ≡ false → chunks_total (r ∷ read) ps ≡ chunks_total read ps
none_more r read [] none = refl
none_more r read (p ∷ ps) none = by (none_more r read ps) (eqb p r.position) refl (eqb r.position p) refl none
  where
    by : (list_any (λ q. eqb q r.position) ps ≡ false → chunks_total (r ∷ read) ps ≡ chunks_total read ps) → (b : Bool) → eqb p r.position ≡ b → (c : Bool) → eqb r.position p ≡ c → (b || list_any (λ q. eqb q r.position) ps) ≡ false →
        total_at p (r ∷ read) + chunks_total (r ∷ read) ps ≡ total_at p read + chunks_total read ps
    by rest true e c f h = absurd cc
    by rest false e true f h = absurd (let same : p ≡ r.position = sym (eqb-true r.position p f) in let wrong : false ≡ true = sym e ∙ eq-eqb p r.position same in cc)
    by rest false e false f h =
        let none_here : cond (eqb r.position p) r.length 0 ≡ 0 = ap (λ (b : Bool). cond b r.length 0) f in
        omega (arith, total_cons p r read, none_here, rest h)

one_more : (r : ReadSegment) (read : List ReadSegment) (ps : List ℕ) → Distinct ps → chunks_total (r ∷ read) ps ≤ r.length + chunks_total read ps
one_more r read [] h = omega arith
one_more r read (p ∷ ps) h = by (one_more r read ps h.1) (eqb r.position p) refl
  where
    by : chunks_total (r ∷ read) ps ≤ r.length + chunks_total read ps → (b : Bool) → eqb r.position p ≡ b → total_at p (r ∷ read) + chunks_total (r ∷ read) ps ≤ r.length + (total_at p read + chunks_total read ps)
    by rest true e =
        let same : r.position ≡ p = eqb-true r.position p e in
        let one : total_at p (r ∷ read) ≡ r.length + total_at p read = total_cons p r read ∙ ap (λ (b : Bool). cond b r.length 0 + total_at p read) e in
        let none : list_any (λ q. eqb q r.position) ps ≡ false = ap (λ (n : ℕ). list_any (λ q. eqb q n) ps) same ∙ h.0 in
        let others = none_more r read ps none in
        omega (arith, one, others)
    by rest false e =
        let none_here : cond (eqb r.position p) r.length 0 ≡ 0 = ap (λ (b : Bool). cond b r.length 0) e in
        omega (arith, total_cons p r read, none_here, rest)

none_total : (ps : List ℕ) → chunks_total [] ps ≡ 0
none_total [] = refl
none_total (p ∷ ps) = (let one = total_none p in let rest = none_total ps in omega (arith, one, rest))

chunks_within : (read : List ReadSegment) (ps : List ℕ) → Distinct ps → chunks_total read ps ≤ read_total read
chunks_within [] ps h = (let none = none_total ps in omega (arith, none))
chunks_within (r ∷ read) ps h =
    (let more = one_more r read ps h in let rest = chunks_within read ps h in let sum = sum_by-cons (λ (q : ReadSegment). q.length) r read in omega (arith, more, rest, sum))

-- ---- The sinks of a call

from_sizes : (number place stag : ℕ) (lists : ChunkLists) (ps : List ℕ) → sinks_total (open_sinks (regions_from number place stag lists ps)) ≡ chunks_total lists.read ps
from_sizes number place stag lists [] = refl
from_sizes number place stag lists (p ∷ ps) =
    (let rest = from_sizes number place (stag + 1) lists ps in let len = length-replicate {A = ℕ} (total_at p lists.read) 0 in omega (arith, rest, len))

pub sinks_within : (number place stag : ℕ) (lists : ChunkLists) → sinks_total (open_sinks (regions_from number place stag lists (chunks_of lists))) ≤ read_total lists.read
sinks_within number place stag lists =
    let sum = from_sizes number place stag lists (chunks_of lists) in
    let most = chunks_within lists.read (chunks_of lists) (distinct_filtered (λ p. not (eqb (total_at p lists.read) 0)) (positions lists.read) (positions_distinct lists.read)) in
    omega (arith, sum, most)

-- each has the number of its call
pub own_share : (number place stag n : ℕ) (lists : ChunkLists) (ps : List ℕ) → sinks_share n (open_sinks (regions_from number place stag lists ps)) ≤ cond (eqb number n) (sinks_total (open_sinks (regions_from number place stag lists ps))) 0
own_share number place stag n lists ps = by (eqb number n) refl stag ps
  where
    by : (b : Bool) → eqb number n ≡ b → (stag : ℕ) (ps : List ℕ) → sinks_share n (open_sinks (regions_from number place stag lists ps)) ≤ cond b (sinks_total (open_sinks (regions_from number place stag lists ps))) 0
    by true e stag [] = omega arith
    by false e stag [] = omega arith
    by true e stag (p ∷ ps) =
        let rest = by true e (stag + 1) ps in
        let one : cond (eqb number n) (length (replicate {A = ℕ} (total_at p lists.read) 0)) 0 ≡ length (replicate {A = ℕ} (total_at p lists.read) 0) = ap (λ (b : Bool). cond b (length (replicate {A = ℕ} (total_at p lists.read) 0)) 0) e in
        omega (arith, rest, one)
    by false e stag (p ∷ ps) =
        let rest = by false e (stag + 1) ps in
        let one : cond (eqb number n) (length (replicate {A = ℕ} (total_at p lists.read) 0)) 0 ≡ 0 = ap (λ (b : Bool). cond b (length (replicate {A = ℕ} (total_at p lists.read) 0)) 0) e in
        omega (arith, rest, one)

abbrev one_if : Bool → ℕ
one_if b = cond b 1 0

-- and there is one for each chunk, no more than the read list has segments
pub own_count : (number place stag n : ℕ) (lists : ChunkLists) (ps : List ℕ) → sinks_count n (open_sinks (regions_from number place stag lists ps)) ≤ cond (eqb number n) (length ps) 0
own_count number place stag n lists ps = by (eqb number n) refl stag ps
  where
    by : (b : Bool) → eqb number n ≡ b → (stag : ℕ) (ps : List ℕ) → sinks_count n (open_sinks (regions_from number place stag lists ps)) ≤ cond b (length ps) 0
    by true e stag [] = omega arith
    by false e stag [] = omega arith
    by true e stag (p ∷ ps) =
        let rest = by true e (stag + 1) ps in
        let one : one_if (eqb number n) ≡ 1 = ap one_if e in
        omega (arith, rest, one)
    by false e stag (p ∷ ps) =
        let rest = by false e (stag + 1) ps in
        let one : one_if (eqb number n) ≡ 0 = ap one_if e in
        omega (arith, rest, one)

filter_few : (p : ℕ → Bool) (xs : List ℕ) → length (filter p xs) ≤ length xs
filter_few p [] = omega arith
filter_few p (x ∷ xs) = by (p x) (filter_few p xs)
  where
    by : (b : Bool) → length (filter p xs) ≤ length xs → length (cond b (x ∷ filter p xs) (filter p xs)) ≤ length (x ∷ xs)
    by true rest = omega (arith, rest)
    by false rest = omega (arith, rest)

positions_few : (read : List ReadSegment) → length (positions read) ≤ length read
positions_few [] = omega arith
positions_few (r ∷ read) =
    let rest = positions_few read in
    let fewer = filter_few (λ p. not (eqb p r.position)) (positions read) in
    omega (arith, rest, fewer)

pub chunks_few : (lists : ChunkLists) → length (chunks_of lists) ≤ length lists.read
chunks_few lists =
    let fewer = filter_few (λ p. not (eqb (total_at p lists.read) 0)) (positions lists.read) in
    let few = positions_few lists.read in
    omega (arith, fewer, few)
