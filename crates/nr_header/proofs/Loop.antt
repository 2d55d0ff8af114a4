-- Lists read element after element, as loops do.
use Rattle.std.proofs.Common.{◌≡◌, ℕ, ◌-◌, ◌+◌, ◌≤◌, ◌<◌, Bool, true, false, cond, Option, Some, None, List, [], ◌∷◌, ◌++◌, Result, Ok, Err, refl, sym, ap, ◌∙◌, arith}
use Rattle.nr_xdr.specs.Reading.{Cursor}
use Rattle.nr_xdr.specs.declared.decode.DecodeError.{DecodeError}
use Rattle.nr_xdr.specs.Matching.{MatchesRead, MatchesStep}
use Rattle.nr_xdr.specs.Sequencing.{◌>>=◌}
use Rattle.nr_xdr.proofs.Fronts.{with_front, regroup, nothing_before, none_behind, left_is, none_left}
use Rattle.nr_header.specs.Constants.{CHUNK_SEGMENTS_MAX}
use Rattle.nr_header.specs.declared.header.RdmaSegment.{RdmaSegment}
use Rattle.nr_header.specs.declared.header.ReadSegment.{ReadSegment}
use Rattle.nr_header.specs.Reading.{optional_at, more_at, end_at, entry_at, segment_at, chunk_at, other_position, read_list_at, segments_at, write_list_at}

-- what follows an optional element, or the word 0 instead of it
abbrev pub either : {A B : Type 0} → Option A → Cursor → (A → Cursor → Result B ℕ) → (Cursor → Result B ℕ) → Result B ℕ
either (Some a) d some none = some a d
either None d some none = none d

abbrev present : {A : Type 0} → A × Cursor → Result (Option A × Cursor) ℕ
present x = Ok (Some x.0, x.1)

abbrev absent : {A : Type 0} → Cursor → Result (Option A × Cursor) ℕ
absent d = Ok (None, d)

element_then : {A B : Type 0} (read : Result (A × Cursor) ℕ) (some : A → Cursor → Result B ℕ) (none : Cursor → Result B ℕ)
    → (read >>= λ x. some x.0 x.1) ≡ ((read >>= present) >>= λ o. either o.0 o.1 some none)
element_then (Ok x) some none = refl
element_then (Err at) some none = refl

optional_by : {A B : Type 0} (more : Bool) (d : Cursor) (element : Cursor → Result (A × Cursor) ℕ) (some : A → Cursor → Result B ℕ) (none : Cursor → Result B ℕ)
    → cond more (element d >>= λ x. some x.0 x.1) (none d) ≡ (cond more (element d >>= present) (absent d) >>= λ o. either o.0 o.1 some none)
optional_by true d element some none = element_then (element d) some none
optional_by false d element some none = refl

optional_then : {A B : Type 0} (more : Result (Bool × Cursor) ℕ) (element : Cursor → Result (A × Cursor) ℕ) (some : A → Cursor → Result B ℕ) (none : Cursor → Result B ℕ)
    → (more >>= λ m. cond m.0 (element m.1 >>= λ x. some x.0 x.1) (none m.1))
    ≡ ((more >>= λ m. cond m.0 (element m.1 >>= present) (absent m.1)) >>= λ o. either o.0 o.1 some none)
optional_then (Ok m) element some none = optional_by m.0 m.1 element some none
optional_then (Err at) element some none = refl

-- elements that were read, with no more after them
front_alone : {A : Type 0} (front : List A) (end : Result Cursor ℕ) → with_front front (end >>= λ d. Ok ([], d)) ≡ (end >>= λ d. Ok (front, d))
front_alone front (Ok d) = none_behind front d
front_alone front (Err at) = refl

-- the end of a list of which all elements are read
pub ends_read : {A : Type 0} (read : Result (List A × Cursor) ℕ) (end : Result Cursor ℕ) (result : Result Unit DecodeError) (front : List A) (new : Cursor)
    → MatchesStep result new end → read ≡ (end >>= λ d. Ok (front, d)) → MatchesRead (λ _. front) result new read
ends_read read end (Ok x) front new step is = rw (is, step) refl
ends_read read end (Err error) front new step is = rw (is, step) refl

-- a read list whose first entries are read
module _ (front : List ReadSegment) (count i : ℕ) (zero_allowed : Bool) (seen : ℕ) (c : Cursor) (total : Result (List ReadSegment × Cursor) ℕ) where
  abbrev pub ReadSoFar : Type 0
  ReadSoFar = with_front front (read_list_at (count - i) zero_allowed seen c) ≡ total

  next : Result (Option ReadSegment × Cursor) ℕ
  next = optional_at (entry_at c.place zero_allowed seen) c

  entry_then : ReadSegment → Cursor → Result (List ReadSegment × Cursor) ℕ
  entry_then e d = read_list_at (count - (i + 1)) zero_allowed (other_position seen e.position) d >>= λ others. Ok (e ∷ others.0, others.1)

  read_step : i < count → read_list_at (count - i) zero_allowed seen c ≡ (next >>= λ o. either o.0 o.1 entry_then (λ d. Ok ([], d)))
  unfolding read_list_at next entry_then
  read_step lt = rw (left_is count i lt) (optional_then (more_at c) (entry_at c.place zero_allowed seen) entry_then (λ d. Ok ([], d)))

  pub entry_goes : (e : ReadSegment) (after : Cursor) → i < count → optional_at (entry_at c.place zero_allowed seen) c ≡ Ok (Some e, after)
      → ReadSoFar → with_front (front ++ e ∷ []) (read_list_at (count - (i + 1)) zero_allowed (other_position seen e.position) after) ≡ total
  unfolding next entry_then
  entry_goes e after lt read so_far =
      let rest = read_list_at (count - (i + 1)) zero_allowed (other_position seen e.position) after in
      let one : with_front front (read_list_at (count - i) zero_allowed seen c) ≡ with_front (front ++ e ∷ []) rest =
      ap (with_front front) (read_step lt ∙ ap (λ (o : Result (Option ReadSegment × Cursor) ℕ). o >>= λ o. either o.0 o.1 entry_then (λ d. Ok ([], d))) read) ∙ regroup front e rest in
      sym one ∙ so_far

  pub list_stops : (d : Cursor) → i < count → optional_at (entry_at c.place zero_allowed seen) c ≡ Ok (None, d) → ReadSoFar → total ≡ Ok (front, d)
  unfolding next
  list_stops d lt read so_far =
      let one : with_front front (read_list_at (count - i) zero_allowed seen c) ≡ Ok (front, d) =
      ap (with_front front) (read_step lt ∙ ap (λ (o : Result (Option ReadSegment × Cursor) ℕ). o >>= λ o. either o.0 o.1 entry_then (λ d. Ok ([], d))) read) ∙ none_behind front d in
      sym so_far ∙ one

  pub entry_fails : (at : ℕ) → i < count → optional_at (entry_at c.place zero_allowed seen) c ≡ Err at → ReadSoFar → total ≡ Err at
  unfolding next
  entry_fails at lt read so_far =
      let one : with_front front (read_list_at (count - i) zero_allowed seen c) ≡ Err at =
      ap (with_front front) (read_step lt ∙ ap (λ (o : Result (Option ReadSegment × Cursor) ℕ). o >>= λ o. either o.0 o.1 entry_then (λ d. Ok ([], d))) read) in
      sym so_far ∙ one

  pub list_tail : count ≤ i → ReadSoFar → total ≡ (end_at c >>= λ d. Ok (front, d))
  unfolding read_list_at
  list_tail le so_far =
      let one : with_front front (read_list_at (count - i) zero_allowed seen c) ≡ (end_at c >>= λ d. Ok (front, d)) = rw (none_left count i le) (front_alone front (end_at c)) in
      sym so_far ∙ one

pub list_begins : (count : ℕ) (zero_allowed : Bool) (c : Cursor) → with_front [] (read_list_at (count - 0) zero_allowed 0 c) ≡ read_list_at count zero_allowed 0 c
list_begins count zero_allowed c =
    let all : count - 0 ≡ count = omega arith in
    rw all (nothing_before (read_list_at count zero_allowed 0 c))

-- segments of which the first are read
module _ (front : List RdmaSegment) (count i : ℕ) (c : Cursor) (total : Result (List RdmaSegment × Cursor) ℕ) where
  abbrev pub SegmentsSoFar : Type 0
  SegmentsSoFar = with_front front (segments_at (count - i) c) ≡ total

  pub segment_goes : (s : RdmaSegment) (after : Cursor) → i < count → segment_at c.place c ≡ Ok (s, after)
      → SegmentsSoFar → with_front (front ++ s ∷ []) (segments_at (count - (i + 1)) after) ≡ total
  unfolding segments_at
  segment_goes s after lt read so_far =
      let rest = segments_at (count - (i + 1)) after in
      let one : with_front front (segments_at (count - i) c) ≡ with_front (front ++ s ∷ []) rest = rw (left_is count i lt, read) (regroup front s rest) in
      sym one ∙ so_far

  pub segment_fails : (at : ℕ) → i < count → segment_at c.place c ≡ Err at → SegmentsSoFar → total ≡ Err at
  unfolding segments_at
  segment_fails at lt e so_far =
      let one : with_front front (segments_at (count - i) c) ≡ Err at = rw (left_is count i lt, e) refl in
      sym so_far ∙ one

  pub segments_end : count ≤ i → SegmentsSoFar → total ≡ Ok (front, c)
  unfolding segments_at
  segments_end le so_far =
      let one : with_front front (segments_at (count - i) c) ≡ Ok (front, c) = rw (none_left count i le) (none_behind front c) in
      sym so_far ∙ one

pub segments_begin : (count : ℕ) (c : Cursor) → with_front [] (segments_at (count - 0) c) ≡ segments_at count c
segments_begin count c =
    let all : count - 0 ≡ count = omega arith in
    rw all (nothing_before (segments_at count c))

-- a write list whose first chunks are read
module _ (front : List (List RdmaSegment)) (count i : ℕ) (c : Cursor) (total : Result (List (List RdmaSegment) × Cursor) ℕ) where
  abbrev pub WriteSoFar : Type 0
  WriteSoFar = with_front front (write_list_at (count - i) c) ≡ total

  next_chunk : Result (Option (List RdmaSegment) × Cursor) ℕ
  next_chunk = optional_at (chunk_at CHUNK_SEGMENTS_MAX) c

  chunk_then : List RdmaSegment → Cursor → Result (List (List RdmaSegment) × Cursor) ℕ
  chunk_then chunk d = write_list_at (count - (i + 1)) d >>= λ others. Ok (chunk ∷ others.0, others.1)

  write_step : i < count → write_list_at (count - i) c ≡ (next_chunk >>= λ o. either o.0 o.1 chunk_then (λ d. Ok ([], d)))
  unfolding write_list_at next_chunk chunk_then
  write_step lt = rw (left_is count i lt) (optional_then (more_at c) (chunk_at CHUNK_SEGMENTS_MAX) chunk_then (λ d. Ok ([], d)))

  pub chunk_goes : (chunk : List RdmaSegment) (after : Cursor) → i < count → optional_at (chunk_at CHUNK_SEGMENTS_MAX) c ≡ Ok (Some chunk, after)
      → WriteSoFar → with_front (front ++ chunk ∷ []) (write_list_at (count - (i + 1)) after) ≡ total
  unfolding next_chunk chunk_then
  chunk_goes chunk after lt read so_far =
      let rest = write_list_at (count - (i + 1)) after in
      let one : with_front front (write_list_at (count - i) c) ≡ with_front (front ++ chunk ∷ []) rest =
      ap (with_front front) (write_step lt ∙ ap (λ (o : Result (Option (List RdmaSegment) × Cursor) ℕ). o >>= λ o. either o.0 o.1 chunk_then (λ d. Ok ([], d))) read) ∙ regroup front chunk rest in
      sym one ∙ so_far

  pub chunks_stop : (d : Cursor) → i < count → optional_at (chunk_at CHUNK_SEGMENTS_MAX) c ≡ Ok (None, d) → WriteSoFar → total ≡ Ok (front, d)
  unfolding next_chunk
  chunks_stop d lt read so_far =
      let one : with_front front (write_list_at (count - i) c) ≡ Ok (front, d) =
      ap (with_front front) (write_step lt ∙ ap (λ (o : Result (Option (List RdmaSegment) × Cursor) ℕ). o >>= λ o. either o.0 o.1 chunk_then (λ d. Ok ([], d))) read) ∙ none_behind front d in
      sym so_far ∙ one

  pub chunk_fails : (at : ℕ) → i < count → optional_at (chunk_at CHUNK_SEGMENTS_MAX) c ≡ Err at → WriteSoFar → total ≡ Err at
  unfolding next_chunk
  chunk_fails at lt read so_far =
      let one : with_front front (write_list_at (count - i) c) ≡ Err at =
      ap (with_front front) (write_step lt ∙ ap (λ (o : Result (Option (List RdmaSegment) × Cursor) ℕ). o >>= λ o. either o.0 o.1 chunk_then (λ d. Ok ([], d))) read) in
      sym so_far ∙ one

  pub chunks_tail : count ≤ i → WriteSoFar → total ≡ (end_at c >>= λ d. Ok (front, d))
  unfolding write_list_at
  chunks_tail le so_far =
      let one : with_front front (write_list_at (count - i) c) ≡ (end_at c >>= λ d. Ok (front, d)) = rw (none_left count i le) (front_alone front (end_at c)) in
      sym so_far ∙ one

pub chunks_begin : (count : ℕ) (c : Cursor) → with_front [] (write_list_at (count - 0) c) ≡ write_list_at count c
chunks_begin count c =
    let all : count - 0 ≡ count = omega arith in
    rw all (nothing_before (write_list_at count c))
