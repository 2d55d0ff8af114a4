-- A call that becomes pending gets a sink for each of its reads.
use Rattle.std.proofs.Common.{◌≡◌, ℕ, ◌+◌, ◌≤◌, ◌<◌, Bool, true, false, not, cond, ◌||◌, ◌&&◌, eqb, inl, inr, List, [], ◌∷◌, ◌++◌, length, replicate, Option, None, Some, refl, sym, ap, ◌∙◌, arith, eq-eqb, ne_eqb, eqb-true, append_assoc}
use Rattle.std.specs.Prelude.{find, sum_by}
use Rattle.std.specs.List.{filter, list_any}
use Rattle.std.proofs.lemmas.List.{length-replicate}
use Rattle.std.proofs.lemmas.List.Sums.{sum_by-cons}
use Rattle.nr_header.specs.declared.header.ReadSegment.{ReadSegment}
use Rattle.nr_header.specs.declared.header.ChunkLists.{ChunkLists}
use Rattle.nr_regions.specs.declared.right.Right.TheVariants.{Sink}
use Rattle.nr_reduce.specs.Chunks.{at_position, total_at, positions}
use Rattle.nr_reduce.specs.OfferedRegions.{Region}
use Rattle.nr_reduce.specs.ServerState.{ServerState, PendingCall, PendingRead, next_stag}
use Rattle.nr_reduce.specs.ServerReads.{chunks_of, regions_from, regions_of, stag_by, read_of, reads_from, reads_of}
use Rattle.nr_laws.proofs.LinkInvariants.{HasSink, HaveSinks, AreAtMost}
use Rattle.nr_laws.proofs.Sinks.{sinks_append}
use Rattle.nr_laws.proofs.Basics.{above_zero}

-- ---- Totals

total_append : (p : ℕ) (xs ys : List ReadSegment) → total_at p (xs ++ ys) ≡ total_at p xs + total_at p ys
unfolding total_at
total_append p [] ys = omega arith
total_append p (x ∷ xs) ys = by (eqb x.position p) (total_append p xs ys)
  where
    sum_of : List ReadSegment → ℕ
    sum_of rs = sum_by (λ (r : ReadSegment). r.length) rs

    by : (b : Bool) → sum_of (at_position p (xs ++ ys)) ≡ sum_of (at_position p xs) + sum_of (at_position p ys)
        → sum_of (cond b (x ∷ at_position p (xs ++ ys)) (at_position p (xs ++ ys))) ≡ sum_of (cond b (x ∷ at_position p xs) (at_position p xs)) + sum_of (at_position p ys)
    by true e = omega (arith, e, sum_by-cons (λ (r : ReadSegment). r.length) x (at_position p (xs ++ ys)), sum_by-cons (λ (r : ReadSegment). r.length) x (at_position p xs))
    by false e = e

total_own : (r : ReadSegment) (rs : List ReadSegment) → total_at r.position (r ∷ rs) ≡ r.length + total_at r.position rs
unfolding total_at
total_own r rs =
    ap (λ (b : Bool). sum_by (λ (x : ReadSegment). x.length) (cond b (r ∷ at_position r.position rs) (at_position r.position rs))) (eq-eqb r.position r.position refl)
    ∙ sum_by-cons (λ (x : ReadSegment). x.length) r (at_position r.position rs)

-- ---- Positions

any_kept_value : (p : ℕ) (q : ℕ → Bool) (ps : List ℕ) → q p ≡ true → list_any (λ x. eqb x p) ps ≡ true → list_any (λ x. eqb x p) (filter q ps) ≡ true
any_kept_value p q [] is e = absurd cc
any_kept_value p q (x ∷ ps) is e = by (eqb x p) (q x) refl refl e (any_kept_value p q ps is)
  where
    differ : false ≡ true → ⊥
    differ e = absurd cc

    by : (a b : Bool) → eqb x p ≡ a → q x ≡ b → (a || list_any (λ y. eqb y p) ps) ≡ true → (list_any (λ y. eqb y p) ps ≡ true → list_any (λ y. eqb y p) (filter q ps) ≡ true)
        → list_any (λ y. eqb y p) (cond b (x ∷ filter q ps) (filter q ps)) ≡ true
    by true true xp qx e later = ap (λ (a : Bool). a || list_any (λ y. eqb y p) (filter q ps)) xp
    by true false xp qx e later = absurd (differ (sym qx ∙ ap q (eqb-true x p xp) ∙ is))
    by false true xp qx e later = ap (λ (a : Bool). a || list_any (λ y. eqb y p) (filter q ps)) xp ∙ later e
    by false false xp qx e later = later e

position_there : (front : List ReadSegment) (r : ReadSegment) (rest : List ReadSegment) → list_any (λ x. eqb x r.position) (positions (front ++ r ∷ rest)) ≡ true
position_there [] r rest = ap (λ (b : Bool). b || list_any (λ x. eqb x r.position) (filter (λ p. not (eqb p r.position)) (positions rest))) (eq-eqb r.position r.position refl)
position_there (f ∷ front) r rest = by (eqb f.position r.position) refl (position_there front r rest)
  where
    all : List ℕ
    all = positions (front ++ r ∷ rest)

    by : (b : Bool) → eqb f.position r.position ≡ b → list_any (λ x. eqb x r.position) all ≡ true → (eqb f.position r.position || list_any (λ x. eqb x r.position) (filter (λ p. not (eqb p f.position)) all)) ≡ true
    by true is e = ap (λ (b : Bool). b || list_any (λ x. eqb x r.position) (filter (λ p. not (eqb p f.position)) all)) is
    by false is e =
        ap (λ (b : Bool). b || list_any (λ x. eqb x r.position) (filter (λ p. not (eqb p f.position)) all)) is
        ∙ any_kept_value r.position (λ p. not (eqb p f.position)) all (other is) e
      where
        other : eqb f.position r.position ≡ false → not (eqb r.position f.position) ≡ true
        other e = ap (λ (b : Bool). not b) (ne_eqb r.position f.position (λ same. differ (sym e ∙ eq-eqb f.position r.position (sym same))))
          where
            differ : false ≡ true → ⊥
            differ e = absurd cc

chunk_there : (lists : ChunkLists) (front : List ReadSegment) (r : ReadSegment) (rest : List ReadSegment) → front ++ r ∷ rest ≡ lists.read → 0 < r.length → list_any (λ x. eqb x r.position) (chunks_of lists) ≡ true
chunk_there lists front r rest is some =
    let all : total_at r.position lists.read ≡ total_at r.position front + (r.length + total_at r.position rest) =
    ap (λ (rs : List ReadSegment). total_at r.position rs) (sym is) ∙ total_append r.position front (r ∷ rest) ∙ ap (λ (n : ℕ). total_at r.position front + n) (total_own r rest) in
    any_kept_value r.position (λ p. not (eqb (total_at p lists.read) 0)) (positions lists.read)
    (ap (λ (b : Bool). not b) (ne_eqb (total_at r.position lists.read) 0 (λ e. omega (arith, e, all, some))))
    (ap (λ (rs : List ReadSegment). list_any (λ x. eqb x r.position) (positions rs)) (sym is) ∙ position_there front r rest)

-- ---- The regions of a call

abbrev for_chunk : ℕ → ℕ → Region → Bool
for_chunk number position g = eqb g.call number && eqb g.position position

record GivenOutcome (number place stag : ℕ) (lists : ChunkLists) (ps : List ℕ) (position : ℕ) : Type 0 where
  from : stag ≤ stag_by (find (for_chunk number position) (regions_from number place stag lists ps))
  sink : (r : PendingRead) → r.sink ≡ stag_by (find (for_chunk number position) (regions_from number place stag lists ps)) → r.number ≡ number → r.position ≡ position
      → r.at + r.size ≤ total_at position lists.read → HasSink place r (regions_from number place stag lists ps)

given : (number place stag : ℕ) (lists : ChunkLists) (ps : List ℕ) (position : ℕ) → list_any (λ x. eqb x position) ps ≡ true → GivenOutcome number place stag lists ps position
given number place stag lists [] position e = absurd cc
given number place stag lists (p ∷ ps) position e = by (eqb p position) refl e (λ rest. given number place (stag + 1) lists ps position rest)
  where
    g : Region
    g = record { call = number; position = p; stag = stag; right = Sink; bytes = replicate (total_at p lists.read) 0; from = place; until = None }

    others : List Region
    others = regions_from number place (stag + 1) lists ps

    first : (b : Bool) → eqb p position ≡ b → find (for_chunk number position) (g ∷ others) ≡ cond b (Some g) (find (for_chunk number position) others)
    first b is = λ i. cond (eq-eqb number number refl i && is i) (Some g) (find (for_chunk number position) others)

    by : (b : Bool) → eqb p position ≡ b → (b || list_any (λ x. eqb x position) ps) ≡ true → (list_any (λ x. eqb x position) ps ≡ true → GivenOutcome number place (stag + 1) lists ps position) → GivenOutcome number place stag lists (p ∷ ps) position
    by true is e later =
        let mine : stag_by (find (for_chunk number position) (g ∷ others)) ≡ stag = ap (λ (o : Option Region). stag_by o) (first true is) in
        record {
          from = omega (arith, mine);
          sink = λ r sink_is number_is position_is room. inl (record {
            stag = sym (sink_is ∙ mine);
            call = sym number_is;
            position = eqb-true p position is ∙ sym position_is;
            right = refl;
            lives = refl;
            before = omega arith;
            room = omega (arith, room, ap (λ (x : ℕ). total_at x lists.read) (eqb-true p position is), length-replicate {A = ℕ} (total_at p lists.read) 0);
          });
        }
    by false is e later =
        let rest = later e in
        let mine : stag_by (find (for_chunk number position) (g ∷ others)) ≡ stag_by (find (for_chunk number position) others) = ap (λ (o : Option Region). stag_by o) (first false is) in
        record {
          from = omega (arith, mine, rest.from);
          sink = λ r sink_is number_is position_is room. inr ((λ same. omega (arith, same, sink_is, mine, rest.from)), rest.sink r (sink_is ∙ mine) number_is position_is room);
        }

-- after regions of other calls, with smaller STags
sink_behind : (place n : ℕ) (r : PendingRead) (old news : List Region) → AreAtMost (λ (g : Region). g.stag) n old → n < r.sink → HasSink place r news → HasSink place r (old ++ news)
sink_behind place n r [] news below lt h = h
sink_behind place n r (g ∷ old) news below lt h = inr ((λ same. omega (arith, same, lt, below.0)), sink_behind place n r old news below.1 lt h)

found_behind_lem : (number position n : ℕ) (old news : List Region) → AreAtMost (λ (g : Region). g.call) n old → n < number → find (for_chunk number position) (old ++ news) ≡ find (for_chunk number position) news
found_behind_lem number position n [] news below lt = refl
found_behind_lem number position n (g ∷ old) news below lt =
    ap (λ (b : Bool). cond (b && eqb g.position position) (Some g) (find (for_chunk number position) (old ++ news))) (ne_eqb g.call number (λ same. omega (arith, same, lt, below.0)))
    ∙ found_behind_lem number position n old news below.1 lt

-- the STags and the calls of the regions so far
pub record AreKnown (k : ServerState) : Type 0 where
  pub stags : AreAtMost (λ (g : Region). g.stag) (length k.regions) k.regions
  pub calls : AreAtMost (λ (g : Region). g.call) k.received.sends k.regions

-- each read of the call has its sink
new_sinks : (k : ServerState) (place : ℕ) (c : PendingCall) (before read : List ReadSegment) → AreKnown k → c.number ≡ k.received.sends + 1 → before ++ read ≡ c.lists.read
    → HaveSinks place (k.regions ++ regions_of k place c) (reads_from (k.regions ++ regions_of k place c) c.number before read)
new_sinks k place c before [] a new is = tt
new_sinks k place c before (r ∷ read) a new is =
    sinks_append place all _ _ (by (eqb r.length 0) refl)
    (new_sinks k place c (before ++ r ∷ []) read a new (append_assoc before (r ∷ []) read ∙ is))
  where
    news : List Region
    news = regions_of k place c

    all : List Region
    all = k.regions ++ news

    x : PendingRead
    x = read_of all c.number (total_at r.position before) r

    by : (b : Bool) → eqb r.length 0 ≡ b → HaveSinks place all (cond b [] (x ∷ []))
    by true zero_is = tt
    by false zero_is =
        let some : 0 < r.length = above_zero r.length zero_is in
        let g = given c.number place (next_stag k) c.lists (chunks_of c.lists) r.position (chunk_there c.lists before r read is some) in
        let same : x.sink ≡ stag_by (find (for_chunk c.number r.position) news) =
        ap (λ (o : Option Region). stag_by o) (found_behind_lem c.number r.position k.received.sends k.regions news a.calls (omega (arith, new))) in
        let room : total_at r.position before + r.length ≤ total_at r.position c.lists.read =
        omega (arith, ap (λ (rs : List ReadSegment). total_at r.position rs) (sym is), total_append r.position before (r ∷ read), total_own r read) in
        (sink_behind place (length k.regions) x k.regions news a.stags (omega (arith, same, g.from)) (g.sink x same refl refl room), tt)

pub sinks_opened : (k : ServerState) (place : ℕ) (c : PendingCall) → AreKnown k → c.number ≡ k.received.sends + 1 → HaveSinks place (k.regions ++ regions_of k place c) (reads_of (k.regions ++ regions_of k place c) c)
sinks_opened k place c a new = new_sinks k place c [] c.lists.read a new refl
