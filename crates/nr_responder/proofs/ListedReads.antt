-- The sinks and the reads of a read list, entry by entry.
use Rattle.std.proofs.Common.{◌≡◌, ◌≢◌, ℕ, zero, suc, ◌+◌, ◌<◌, ◌≤◌, Bool, true, false, not, cond, eqb, ◌||◌, ◌&&◌, List, [], ◌∷◌, ◌++◌, length, take, drop, get_or, Some, None, refl, sym, ap, ◌∙◌, arith, append_assoc}
use Rattle.std.specs.Prelude.{sum_by, find, replicate}
use Rattle.std.specs.List.{filter, list_any}
use Rattle.std.proofs.lemmas.Bool.{eqb-true, eq-eqb, ne_eqb}
use Rattle.std.proofs.lemmas.List.{drop_more, length-replicate}
use Rattle.std.proofs.lemmas.List.Sums.{sum_by-cons}
use Rattle.nr_header.specs.Constants.{PAYLOAD_MAX}
use Rattle.nr_header.specs.declared.header.ReadSegment.{ReadSegment}
use Rattle.nr_header.specs.declared.header.ChunkLists.{ChunkLists}
use Rattle.nr_header.specs.WithinLimits.{read_total}
use Rattle.nr_reduce.specs.Chunks.{at_position, positions, total_at}
use Rattle.nr_regions.specs.declared.right.Right.TheVariants.{Sink}
use Rattle.nr_reduce.specs.OfferedRegions.{Region}
use Rattle.nr_reduce.specs.ServerState.{PendingRead}
use Rattle.nr_reduce.specs.ServerReads.{regions_from, reads_from, stag_by}
use Rattle.nr_responder.specs.private.CallsRead.{chunk_here, has_bytes_at, read_here, sink_buffer, sinks_from}

-- ---- Positions

abbrev here : List ReadSegment → ReadSegment → List ℕ
here before r = cond (list_any (λ q. eqb q.position r.position) before) [] (r.position ∷ [])

abbrev others : ReadSegment → List ℕ → List ℕ
others x ps = filter (λ p. not (eqb p x.position)) ps

filter_append : (f : ℕ → Bool) (xs ys : List ℕ) → filter f (xs ++ ys) ≡ filter f xs ++ filter f ys
filter_append f [] ys = refl
filter_append f (x ∷ xs) ys = by (f x) (filter_append f xs ys)
  where
    by : (b : Bool) → filter f (xs ++ ys) ≡ filter f xs ++ filter f ys → cond b (x ∷ filter f (xs ++ ys)) (filter f (xs ++ ys)) ≡ cond b (x ∷ filter f xs) (filter f xs) ++ filter f ys
    by true rest = ap (λ (zs : List ℕ). x ∷ zs) rest
    by false rest = rest

one_position : (x r : ReadSegment) (before : List ReadSegment) → others x (here before r) ≡ cond (eqb x.position r.position || list_any (λ q. eqb q.position r.position) before) [] (r.position ∷ [])
one_position x r before = by (list_any (λ q. eqb q.position r.position) before) (eqb x.position r.position) refl
  where
    by : (a b : Bool) → eqb x.position r.position ≡ b → others x (cond a [] (r.position ∷ [])) ≡ cond (b || a) [] (r.position ∷ [])
    by true true e = refl
    by true false e = refl
    by false true e = ap (λ (c : Bool). cond (not c) (r.position ∷ []) []) (eq-eqb r.position x.position (sym (eqb-true x.position r.position e)))
    by false false e = ap (λ (c : Bool). cond (not c) (r.position ∷ []) []) (ne_eqb r.position x.position (λ same. (let two : true ≡ false = sym (eq-eqb x.position r.position (sym same)) ∙ e in absurd cc)))

positions_more : (before : List ReadSegment) (r : ReadSegment) → positions (before ++ r ∷ []) ≡ positions before ++ here before r
positions_more [] r = refl
positions_more (x ∷ before) r =
    ap (λ (ps : List ℕ). x.position ∷ others x ps) (positions_more before r)
    ∙ ap (λ (ps : List ℕ). x.position ∷ ps) (filter_append (λ p. not (eqb p x.position)) (positions before) (here before r))
    ∙ ap (λ (ps : List ℕ). (x.position ∷ others x (positions before)) ++ ps) (one_position x r before)

pub chunks_more : (read before : List ReadSegment) (r : ReadSegment) → filter (has_bytes_at read) (positions (before ++ r ∷ [])) ≡ filter (has_bytes_at read) (positions before) ++ chunk_here before r read
chunks_more read before r =
    ap (filter (has_bytes_at read)) (positions_more before r) ∙ filter_append (has_bytes_at read) (positions before) (here before r) ∙ ap (λ (ps : List ℕ). filter (has_bytes_at read) (positions before) ++ ps) (by (list_any (λ q. eqb q.position r.position) before))
  where
    by : (b : Bool) → filter (has_bytes_at read) (cond b [] (r.position ∷ [])) ≡ cond b [] (cond (eqb (total_at r.position read) 0) [] (r.position ∷ []))
    by true = refl
    by false = two (eqb (total_at r.position read) 0)
      where
        two : (b : Bool) → cond (not b) (r.position ∷ []) [] ≡ cond b [] (r.position ∷ [])
        two true = refl
        two false = refl

pub take_more : {X : Type 0} (xs : List X) (i : ℕ) (d : X) → i < length xs → take (i + 1) xs ≡ take i xs ++ get_or xs i d ∷ []
take_more xs i d lt = ap (λ n. take n xs) (let e : i + 1 ≡ suc i = omega arith in e) ∙ by xs i lt
  where
    by : (ys : List _) (n : ℕ) → n < length ys → take (suc n) ys ≡ take n ys ++ get_or ys n d ∷ []
    by [] n lt = absurd (omega (arith, lt))
    by (y ∷ ys) zero lt = refl
    by (y ∷ ys) (suc n) lt = ap (λ zs. y ∷ zs) (by ys n (omega (arith, lt)))

-- ---- The STag of a sink

abbrev found_in : (number position : ℕ) → List Region → ℕ
found_in number position regions = stag_by (find (λ r. eqb r.call number && eqb r.position position) regions)

pub sink_here : (number next position : ℕ) (lists : ChunkLists) (p : ℕ) (ps : List ℕ) → p ≡ position → found_in number position (regions_from number 0 next lists (p ∷ ps)) ≡ next
sink_here number next position lists p ps is =
    λ i. stag_by (cond (eq-eqb number number refl i && eq-eqb p position is i) (Some (record { call = number; position = p; stag = next; right = Sink; bytes = replicate (total_at p lists.read) 0; from = 0; until = None })) (find (λ r. eqb r.call number && eqb r.position position) (regions_from number 0 (next + 1) lists ps)))

pub sink_later : (number next position : ℕ) (lists : ChunkLists) (p : ℕ) (ps : List ℕ) → p ≢ position → found_in number position (regions_from number 0 next lists (p ∷ ps)) ≡ found_in number position (regions_from number 0 (next + 1) lists ps)
sink_later number next position lists p ps ne =
    λ i. stag_by (cond (eq-eqb number number refl i && ne_eqb p position ne i) (Some (record { call = number; position = p; stag = next; right = Sink; bytes = replicate (total_at p lists.read) 0; from = 0; until = None })) (find (λ r. eqb r.call number && eqb r.position position) (regions_from number 0 (next + 1) lists ps)))

-- ---- Bytes

pub total_within : (p : ℕ) (read : List ReadSegment) → total_at p read ≤ read_total read
unfolding total_at
total_within p [] = omega arith
total_within p (r ∷ read) = by (eqb r.position p) (total_within p read)
  where
    by : (b : Bool) → sum_by (λ q. q.length) (at_position p read) ≤ sum_by (λ q. q.length) read → sum_by (λ q. q.length) (cond b (r ∷ at_position p read) (at_position p read)) ≤ sum_by (λ q. q.length) (r ∷ read)
    by true h = omega (arith, h, sum_by-cons (λ (q : ReadSegment). q.length) r (at_position p read), sum_by-cons (λ (q : ReadSegment). q.length) r read)
    by false h = omega (arith, h, sum_by-cons (λ (q : ReadSegment). q.length) r read)

pub total_first : (i : ℕ) (read : List ReadSegment) → read_total (take i read) ≤ read_total read
total_first zero read = omega arith
total_first (suc i) [] = omega arith
total_first (suc i) (r ∷ read) = (let h = total_first i read in omega (arith, h, sum_by-cons (λ (q : ReadSegment). q.length) r (take i read), sum_by-cons (λ (q : ReadSegment). q.length) r read))

-- ---- Reads

pub reads_step : (regions : List Region) (number : ℕ) (read : List ReadSegment) (i : ℕ) (d : ReadSegment) (now after all : List PendingRead) → i < length read → now ++ reads_from regions number (take i read) (drop i read) ≡ all → after ≡ now ++ read_here regions number (take i read) (get_or read i d) →
    after ++ reads_from regions number (take (i + 1) read) (drop (i + 1) read) ≡ all
reads_step regions number read i d now after all lt so_far one =
    let r : ReadSegment = get_or read i d in
    let left : drop i read ≡ r ∷ drop (i + 1) read = drop_more read i d lt in
    (λ j. one j ++ reads_from regions number (take_more read i d lt j) (drop (i + 1) read))
    ∙ append_assoc now (read_here regions number (take i read) r) (reads_from regions number (take i read ++ r ∷ []) (drop (i + 1) read))
    ∙ ap (λ (rs : List ReadSegment). now ++ reads_from regions number (take i read) rs) (sym left)
    ∙ so_far

pub no_entry : ReadSegment
no_entry = record { position = 0; handle = 0; length = 0; offset = 0 }

take_taken : {X : Type 0} (m n : ℕ) (us : List X) → m ≤ n → take m (take n us) ≡ take m us
take_taken zero n us le = refl
take_taken (suc m) zero us le = absurd (omega (arith, le))
take_taken (suc m) (suc n) [] le = refl
take_taken (suc m) (suc n) (u ∷ us) le = ap (λ vs. u ∷ vs) (take_taken m n us (omega (arith, le)))

pub front_kept : {X : Type 0} (xs ys zs : List X) → take (length xs) ys ≡ xs → length xs ≤ length ys → take (length ys) zs ≡ ys → take (length xs) zs ≡ xs
front_kept xs ys zs first le second = sym (take_taken (length xs) (length ys) zs le) ∙ ap (λ us. take (length xs) us) second ∙ first

pub total_fits : (p n i : ℕ) (before read : List ReadSegment) → n ≡ total_at p before → before ≡ take i read → read_total read ≤ PAYLOAD_MAX → n ≤ PAYLOAD_MAX
total_fits p n i before read is first all =
    let front : n ≡ total_at p (take i read) = is ∙ ap (total_at p) first in
    omega (arith, front, total_within p (take i read), total_first i read, all)

pub total_small : (p n : ℕ) (read : List ReadSegment) → n ≡ total_at p read → read_total read ≤ PAYLOAD_MAX → n ≤ PAYLOAD_MAX
total_small p n read is all = omega (arith, is, total_within p read, all)

pub buffer_small : (p : ℕ) (read : List ReadSegment) (buf : List ℕ) → buf ≡ sink_buffer read p → read_total read ≤ PAYLOAD_MAX → length buf ≤ PAYLOAD_MAX
buffer_small p read buf is all = (let len : length buf ≡ total_at p read = ap (λ (xs : List ℕ). length xs) is ∙ length-replicate (total_at p read) 0 in omega (arith, len, total_within p read, all))

-- the sinks don't depend on the other lists
pub same_sinks : (number next : ℕ) (lists : ChunkLists) (ps : List ℕ) → regions_from number 0 next lists ps ≡ sinks_from number next lists.read ps
same_sinks number next lists [] = refl
same_sinks number next lists (p ∷ ps) = ap (λ (rs : List Region). record { call = number; position = p; stag = next; right = Sink; bytes = replicate (total_at p lists.read) 0; from = 0; until = None } ∷ rs) (same_sinks number (next + 1) lists ps)
