-- The reads of a pending call whose read list has one position: their sink, and what they leave.
use Rattle.std.proofs.Common.{◌≡◌, ◌≢◌, ℕ, ◌+◌, ◌≤◌, ◌<◌, Bool, true, false, cond, ◌||◌, not, eqb, List, [], ◌∷◌, ◌++◌, sum_by, refl, sym, ap, ◌∙◌, arith, eq-eqb, ne_eqb, eqb-true}
use Rattle.std.specs.List.{filter, list_any}
use Rattle.std.proofs.lemmas.List.Sums.{sum_by-cons}
use Rattle.nr_header.specs.declared.header.ReadSegment.{ReadSegment}
use Rattle.nr_header.specs.declared.header.ChunkLists.{ChunkLists}
use Rattle.nr_reduce.specs.Chunks.{positions, total_at, at_position}
use Rattle.nr_reduce.specs.Plans.{entries_from}
use Rattle.nr_reduce.specs.OfferedRegions.{Region}
use Rattle.nr_reduce.specs.ServerState.{PendingRead}
use Rattle.nr_reduce.specs.ServerReads.{chunks_of, sink_of, read_of, reads_from}
use Rattle.nr_reduce.proofs.WrittenChunks.{added_up}

-- ---- Reads of one position

abbrev pub one_read : (number position sink handle at n : ℕ) → List PendingRead
one_read number position sink handle at n = cond (eqb n 0) [] (record { number = number; position = position; sink = sink; at = at; size = n; stag = handle; to = at } ∷ [])

abbrev pub own_reads : (number position sink handle at : ℕ) → List ℕ → List PendingRead
own_reads number position sink handle at [] = []
own_reads number position sink handle at (n ∷ ns) = one_read number position sink handle at n ++ own_reads number position sink handle (at + n) ns

at_append : (position : ℕ) (xs ys : List ReadSegment) → at_position position (xs ++ ys) ≡ at_position position xs ++ at_position position ys
at_append position [] ys = refl
at_append position (x ∷ xs) ys = by (eqb x.position position) (at_append position xs ys)
  where
    by : (b : Bool) → at_position position (xs ++ ys) ≡ at_position position xs ++ at_position position ys → cond b (x ∷ at_position position (xs ++ ys)) (at_position position (xs ++ ys)) ≡ cond b (x ∷ at_position position xs) (at_position position xs) ++ at_position position ys
    by true e = ap (λ (rs : List ReadSegment). x ∷ rs) e
    by false e = e

sum_append : (xs ys : List ReadSegment) → sum_by (λ (r : ReadSegment). r.length) (xs ++ ys) ≡ sum_by (λ (r : ReadSegment). r.length) xs + sum_by (λ (r : ReadSegment). r.length) ys
sum_append [] ys = omega arith
sum_append (x ∷ xs) ys =
    omega (arith, sum_append xs ys, sum_by-cons (λ (r : ReadSegment). r.length) x (xs ++ ys), sum_by-cons (λ (r : ReadSegment). r.length) x xs)

total_more : (position handle n offset : ℕ) (before : List ReadSegment) → total_at position (before ++ record { position = position; handle = handle; length = n; offset = offset } ∷ []) ≡ total_at position before + n
unfolding total_at
total_more position handle n offset before =
    let r : ReadSegment = record { position = position; handle = handle; length = n; offset = offset } in
    ap (λ (rs : List ReadSegment). sum_by (λ (x : ReadSegment). x.length) rs) (at_append position before (r ∷ []))
    ∙ sum_append (at_position position before) (at_position position (r ∷ []))
    ∙ ap (λ (b : Bool). sum_by (λ (x : ReadSegment). x.length) (at_position position before) + sum_by (λ (x : ReadSegment). x.length) (cond b (r ∷ []) [])) (eq-eqb position position refl)
    ∙ (let s = sum_by-cons (λ (x : ReadSegment). x.length) r [] in omega (arith, s))

pub total_own : (position handle offset : ℕ) (lengths : List ℕ) → total_at position (entries_from position handle offset lengths) ≡ added_up lengths
unfolding total_at
total_own position handle offset [] = refl
total_own position handle offset (n ∷ ns) =
    let r : ReadSegment = record { position = position; handle = handle; length = n; offset = offset } in
    let rest = entries_from position handle (offset + n) ns in
    ap (λ (b : Bool). sum_by (λ (x : ReadSegment). x.length) (cond b (r ∷ at_position position rest) (at_position position rest))) (eq-eqb position position refl)
    ∙ sum_by-cons (λ (x : ReadSegment). x.length) r (at_position position rest) ∙ ap (λ (m : ℕ). n + m) (total_own position handle (offset + n) ns)

pub reads_own : (regions : List Region) (number position handle offset : ℕ) (before : List ReadSegment) (lengths : List ℕ) → total_at position before ≡ offset
    → reads_from regions number before (entries_from position handle offset lengths) ≡ own_reads number position (sink_of regions number position) handle offset lengths
reads_own regions number position handle offset before [] e = refl
reads_own regions number position handle offset before (n ∷ ns) e =
    let r : ReadSegment = record { position = position; handle = handle; length = n; offset = offset } in
    (λ i. cond (eqb n 0) [] (read_of regions number (e i) r ∷ [])
    ++ reads_own regions number position handle (offset + n) (before ++ r ∷ []) ns (total_more position handle n offset before ∙ ap (λ (m : ℕ). m + n) e) i)

others_none : (position handle offset : ℕ) (lengths : List ℕ) → filter (λ p. not (eqb p position)) (positions (entries_from position handle offset lengths)) ≡ []
others_none position handle offset [] = refl
others_none position handle offset (n ∷ ns) =
    let rest = positions (entries_from position handle (offset + n) ns) in
    ap (λ (b : Bool). cond (not b) (position ∷ filter (λ p. not (eqb p position)) (filter (λ p. not (eqb p position)) rest)) (filter (λ p. not (eqb p position)) (filter (λ p. not (eqb p position)) rest))) (eq-eqb position position refl)
    ∙ ap (λ (ps : List ℕ). filter (λ p. not (eqb p position)) ps) (others_none position handle (offset + n) ns)

positions_own : (position handle offset n : ℕ) (ns : List ℕ) → positions (entries_from position handle offset (n ∷ ns)) ≡ position ∷ []
positions_own position handle offset n ns = ap (λ (ps : List ℕ). position ∷ ps) (others_none position handle (offset + n) ns)

-- which chunks have bytes
abbrev pub own_chunks : ℕ → ℕ → List ℕ
own_chunks position total = cond (not (eqb total 0)) (position ∷ []) []

pub chunks_own : (lists : ChunkLists) (position handle : ℕ) (lengths : List ℕ) → lists.read ≡ entries_from position handle 0 lengths → chunks_of lists ≡ own_chunks position (added_up lengths)
chunks_own lists position handle [] is = ap (λ (read : List ReadSegment). filter (λ p. not (eqb (total_at p read) 0)) (positions read)) is
chunks_own lists position handle (n ∷ ns) is =
    ap (λ (read : List ReadSegment). filter (λ p. not (eqb (total_at p read) 0)) (positions read)) is
    ∙ ap (λ (ps : List ℕ). filter (λ p. not (eqb (total_at p (entries_from position handle 0 (n ∷ ns))) 0)) ps) (positions_own position handle 0 n ns)
    ∙ ap (λ (t : ℕ). cond (not (eqb t 0)) (position ∷ []) []) (total_own position handle 0 (n ∷ ns))

-- no bytes, no reads
pub reads_none : (number position sink handle at : ℕ) (lengths : List ℕ) → added_up lengths ≡ 0 → own_reads number position sink handle at lengths ≡ []
reads_none number position sink handle at [] e = refl
reads_none number position sink handle at (n ∷ ns) e =
    (λ i. one_read number position sink handle at (none i) ++ own_reads number position sink handle (at + n) ns) ∙ reads_none number position sink handle (at + n) ns (omega (arith, e))
  where
    none : n ≡ 0
    none = omega (arith, e)

-- ---- Lists of reads

abbrev pub into : ℕ → List PendingRead → List PendingRead
into sink reads = filter (λ r. eqb r.sink sink) reads

pub into_append : (sink : ℕ) (xs ys : List PendingRead) → into sink (xs ++ ys) ≡ into sink xs ++ into sink ys
into_append sink [] ys = refl
into_append sink (x ∷ xs) ys = by (eqb x.sink sink) (into_append sink xs ys)
  where
    by : (b : Bool) → into sink (xs ++ ys) ≡ into sink xs ++ into sink ys → cond b (x ∷ into sink (xs ++ ys)) (into sink (xs ++ ys)) ≡ cond b (x ∷ into sink xs) (into sink xs) ++ into sink ys
    by true e = ap (λ (rs : List PendingRead). x ∷ rs) e
    by false e = e

-- all reads go into sinks from 1 on and below this STag
abbrev pub SinksBelow : ℕ → List PendingRead → Type 0
SinksBelow n [] = Unit {0}
SinksBelow n (r ∷ reads) = (0 < r.sink) × (r.sink < n) × SinksBelow n reads

pub below_append : (n : ℕ) (xs ys : List PendingRead) → SinksBelow n xs → SinksBelow n ys → SinksBelow n (xs ++ ys)
below_append n [] ys h g = g
below_append n (x ∷ xs) ys h g = (h.0, h.1, below_append n xs ys h.2 g)

pub below_more : (n m : ℕ) (reads : List PendingRead) → n ≤ m → SinksBelow n reads → SinksBelow m reads
below_more n m [] le h = tt
below_more n m (r ∷ reads) le h = (h.0, (let a = h.1 in omega (arith, a, le)), below_more n m reads le h.2)

pub into_none : (sink n : ℕ) (reads : List PendingRead) → n ≤ sink → SinksBelow n reads → into sink reads ≡ []
into_none sink n [] le h = refl
into_none sink n (r ∷ reads) le h = ap (λ (b : Bool). cond b (r ∷ into sink reads) (into sink reads)) (ne_eqb r.sink sink (λ e. let a = h.1 in omega (arith, a, e, le))) ∙ into_none sink n reads le h.2

pub into_zero : (n : ℕ) (reads : List PendingRead) → SinksBelow n reads → into 0 reads ≡ []
into_zero n [] h = refl
into_zero n (r ∷ reads) h = ap (λ (b : Bool). cond b (r ∷ into 0 reads) (into 0 reads)) (ne_eqb r.sink 0 (λ e. let a = h.0 in omega (arith, a, e))) ∙ into_zero n reads h.2

one_into : (number position sink handle at n other : ℕ) → (sink ≡ other → into other (one_read number position sink handle at n) ≡ one_read number position sink handle at n) × (sink ≢ other → into other (one_read number position sink handle at n) ≡ [])
one_into number position sink handle at n other = by (eqb n 0)
  where
    r : PendingRead
    r = record { number = number; position = position; sink = sink; at = at; size = n; stag = handle; to = at }

    by : (b : Bool) → (sink ≡ other → into other (cond b [] (r ∷ [])) ≡ cond b [] (r ∷ [])) × (sink ≢ other → into other (cond b [] (r ∷ [])) ≡ [])
    by true = ((λ e. refl), (λ e. refl))
    by false = ((λ e. ap (λ (b : Bool). cond b (r ∷ []) []) (eq-eqb sink other e)), (λ e. ap (λ (b : Bool). cond b (r ∷ []) []) (ne_eqb sink other e)))

pub own_into : (number position sink handle at : ℕ) (lengths : List ℕ) → into sink (own_reads number position sink handle at lengths) ≡ own_reads number position sink handle at lengths
own_into number position sink handle at [] = refl
own_into number position sink handle at (n ∷ ns) =
    into_append sink (one_read number position sink handle at n) (own_reads number position sink handle (at + n) ns)
    ∙ (λ i. (one_into number position sink handle at n sink).0 refl i ++ own_into number position sink handle (at + n) ns i)

pub own_other : (number position sink handle at other : ℕ) (lengths : List ℕ) → sink ≢ other → into other (own_reads number position sink handle at lengths) ≡ []
own_other number position sink handle at other [] ne = refl
own_other number position sink handle at other (n ∷ ns) ne =
    into_append other (one_read number position sink handle at n) (own_reads number position sink handle (at + n) ns)
    ∙ (λ i. (one_into number position sink handle at n other).1 ne i ++ own_other number position sink handle (at + n) other ns ne i)

pub own_below : (number position sink handle at m : ℕ) (lengths : List ℕ) → 0 < sink → sink < m → SinksBelow m (own_reads number position sink handle at lengths)
own_below number position sink handle at m [] some lt = tt
own_below number position sink handle at m (n ∷ ns) some lt = below_append m (one_read number position sink handle at n) (own_reads number position sink handle (at + n) ns) (by (eqb n 0)) (own_below number position sink handle (at + n) m ns some lt)
  where
    by : (b : Bool) → SinksBelow m (cond b [] (record { number = number; position = position; sink = sink; at = at; size = n; stag = handle; to = at } ∷ []))
    by true = tt
    by false = (some, lt, tt)

-- reads of one number
abbrev pub OfNumber : ℕ → List PendingRead → Type 0
OfNumber number [] = Unit {0}
OfNumber number (r ∷ reads) = (r.number ≡ number) × OfNumber number reads

pub number_append : (number : ℕ) (xs ys : List PendingRead) → OfNumber number xs → OfNumber number ys → OfNumber number (xs ++ ys)
number_append number [] ys h g = g
number_append number (x ∷ xs) ys h g = (h.0, number_append number xs ys h.1 g)

pub number_right : (number : ℕ) (xs ys : List PendingRead) → OfNumber number (xs ++ ys) → OfNumber number ys
number_right number [] ys h = h
number_right number (x ∷ xs) ys h = number_right number xs ys h.1

pub own_number : (number position sink handle at : ℕ) (lengths : List ℕ) → OfNumber number (own_reads number position sink handle at lengths)
own_number number position sink handle at [] = tt
own_number number position sink handle at (n ∷ ns) = number_append number (one_read number position sink handle at n) (own_reads number position sink handle (at + n) ns) (by (eqb n 0)) (own_number number position sink handle (at + n) ns)
  where
    by : (b : Bool) → OfNumber number (cond b [] (record { number = number; position = position; sink = sink; at = at; size = n; stag = handle; to = at } ∷ []))
    by true = tt
    by false = (refl, tt)

-- if nothing is left to be read for a number, nothing is left that goes into its sink
pub nothing_left_lem : (number sink : ℕ) (reads : List PendingRead) → OfNumber number (into sink reads) → list_any (λ r. eqb r.number number) reads ≡ false → into sink reads ≡ []
nothing_left_lem number sink [] h e = refl
nothing_left_lem number sink (r ∷ reads) h e = by (eqb r.sink sink) h (eqb r.number number) refl e (λ g f. nothing_left_lem number sink reads g f)
  where
    by : (b : Bool) → OfNumber number (cond b (r ∷ into sink reads) (into sink reads)) → (c : Bool) → eqb r.number number ≡ c → (c || list_any (λ r. eqb r.number number) reads) ≡ false → (OfNumber number (into sink reads) → list_any (λ r. eqb r.number number) reads ≡ false → into sink reads ≡ []) → cond b (r ∷ into sink reads) (into sink reads) ≡ []
    by true h true is e rest = absurd cc
    by true h false is e rest = absurd (let t : true ≡ false = sym (eq-eqb r.number number h.0) ∙ is in cc)
    by false h true is e rest = absurd cc
    by false h false is e rest = rest h e

-- reads of another number go into another sink
pub into_kept : (number other sink : ℕ) (reads : List PendingRead) → number ≢ other → OfNumber number (into sink reads) → into sink (filter (λ r. not (eqb r.number other)) reads) ≡ into sink reads
into_kept number other sink [] ne h = refl
into_kept number other sink (r ∷ reads) ne h = by (eqb r.number other) refl (eqb r.sink sink) refl h (λ g. into_kept number other sink reads ne g)
  where
    kept : List PendingRead
    kept = filter (λ r. not (eqb r.number other)) reads

    by : (b : Bool) → eqb r.number other ≡ b → (c : Bool) → eqb r.sink sink ≡ c → OfNumber number (cond c (r ∷ into sink reads) (into sink reads)) → (OfNumber number (into sink reads) → into sink kept ≡ into sink reads)
        → into sink (cond (not b) (r ∷ kept) kept) ≡ cond c (r ∷ into sink reads) (into sink reads)
    by true is true own h rest = absurd (ne (sym h.0 ∙ eqb-true r.number other is))
    by true is false own h rest = rest h
    by false is true own h rest = ap (λ (b : Bool). cond b (r ∷ into sink kept) (into sink kept)) own ∙ ap (λ (rs : List PendingRead). r ∷ rs) (rest h.1)
    by false is false own h rest = ap (λ (b : Bool). cond b (r ∷ into sink kept) (into sink kept)) own ∙ rest h
