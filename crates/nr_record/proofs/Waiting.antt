-- Records that wait and are taken, a value without bytes, and the number of bytes that were read.
use Rattle.std.proofs.Common.{◌≡◌, ℕ, zero, suc, ◌+◌, ◌-◌, ◌%◌, ◌^◌, ◌<◌, ◌≤◌, eqb, ◌&&◌, if◌then◌else◌, Bool, true, false, ltb, leb, List, [], ◌∷◌, ◌++◌, length, drop, take, get_or, slice_index_or, Option, None, Some, refl, sym, ap, ◌∙◌, subst, inl, append_assoc, append-nil, length-append, arith}
use Rattle.std.proofs.lemmas.List.{take-append-drop, length-drop, take_all}
use mathlib.Core.Option.{some}
use lib.ListN.{get_elem?}
use Rattle.nr_xdr.specs.Item.{IsBytes}
use Rattle.nr_xdr.specs.Fields.{word_at}
use Rattle.nr_record.specs.declared.fault.RecordFault.{RecordFault}
use Rattle.nr_record.specs.declared.fault.RecordFault.TheVariants.{Bad, Memory}
use Rattle.nr_record.specs.declared.records.WaitingRecord.{WaitingRecord}
use Rattle.nr_record.specs.Constants.{RECORD_MAX, HEADER_LEN, REASON_RECORD}
use Rattle.nr_record.specs.Records.{fragments, Cut, contents, encoding, encodings}
use Rattle.nr_record.specs.RecordsState.{RecordsState, KeepsWaiting, waiting_from, IsState, Stands, RepresentsStream}
use Rattle.nr_record.specs.private.Step.{with_record, ended, with_header, with_byte, with_payload}
use Rattle.nr_record.proofs.Lists.{waiting_length}

-- the first record that waits
pub record First (k : RecordsState) (cuts : List Cut) (taken : ℕ) (w : WaitingRecord) (others : List WaitingRecord) : Type 0 where
  pub place : w.at ≡ length (encodings (take taken cuts))
  pub below : taken < length cuts
  pub is : get_elem? (contents cuts) taken ≡ some w.bytes
  pub rest : others ≡ drop (suc taken) (waiting_from 0 cuts)

record FirstFrom (at : ℕ) (cuts : List Cut) (n : ℕ) (w : WaitingRecord) (others : List WaitingRecord) : Type 0 where
  place : w.at ≡ at + length (encodings (take n cuts))
  below : n < length cuts
  is : get_elem? (contents cuts) n ≡ some w.bytes
  rest : others ≡ drop (suc n) (waiting_from at cuts)

first_from : (at : ℕ) (cuts : List Cut) (n : ℕ) (w : WaitingRecord) (others : List WaitingRecord) → drop n (waiting_from at cuts) ≡ w ∷ others → FirstFrom at cuts n w others
first_from at [] zero w others e = absurd (let z = ap length e in omega arith)
first_from at [] (suc n) w others e = absurd (let z = ap length e in omega arith)
first_from at (c ∷ cuts) zero w others e = let h = ap (λ (l : List WaitingRecord). (get_or l 0 w).at) e in record {
  place = omega (arith, h);
  below = omega arith;
  is = ap (λ (l : List WaitingRecord). some (get_or l 0 w).bytes) e;
  rest = sym (ap (drop 1) e);
}
first_from at (c ∷ cuts) (suc n) w others e = let h = first_from (at + length (encoding c)) cuts n w others e in record {
  place = omega (arith, h.place, length-append (encoding c) (encodings (take n cuts)));
  below = omega (arith, h.below);
  is = h.is;
  rest = h.rest;
}

pub first_of : (State : List (List ℕ) → List ℕ → List ℕ → ℕ → Type 0) (k : RecordsState) (stream : List ℕ) (taken : ℕ) (s : Stands State k stream taken) (w : WaitingRecord) (others : List WaitingRecord) → k.waiting ≡ w ∷ others → First k s.cuts taken w others
first_of State k stream taken s w others e = let h = first_from 0 s.cuts taken w others (sym s.waiting_is ∙ e) in record { place = omega (arith, h.place); below = h.below; is = h.is; rest = h.rest }

pub none_of : (State : List (List ℕ) → List ℕ → List ℕ → ℕ → Type 0) (k : RecordsState) (stream : List ℕ) (taken : ℕ) (s : Stands State k stream taken) → k.waiting ≡ [] → taken ≡ length s.cuts
none_of State k stream taken s e = omega (arith, s.taken_some, ap length (sym s.waiting_is ∙ e), length-drop taken (waiting_from 0 s.cuts), waiting_length 0 s.cuts)

pub start_of : (State : List (List ℕ) → List ℕ → List ℕ → ℕ → Type 0) (k : RecordsState) (stream : List ℕ) (taken : ℕ) (s : Stands State k stream taken) → k.waiting ≡ [] → k.start ≡ length (encodings (take taken s.cuts))
start_of State k stream taken s e = s.start_is ∙ ap (λ (l : List Cut). length (encodings l)) (sym (take_all taken s.cuts (omega (arith, none_of State k stream taken s e))))

-- the first record that waits is taken
pub next_stands : (k : RecordsState) (stream : List ℕ) (taken : ℕ) (w : WaitingRecord) (others : List WaitingRecord) → RepresentsStream k stream taken → k.waiting ≡ w ∷ others → RepresentsStream (record k { waiting = others }) stream (taken + 1)
next_stands k stream taken w others s e = record {
  cuts = s.cuts;
  begun = s.begun;
  partial = s.partial;
  unread = s.unread;
  within = s.within;
  begun_within = s.begun_within;
  stream_is = s.stream_is;
  taken_some = omega (arith, first.below);
  waiting_is = first.rest ∙ ap (λ (n : ℕ). drop n (waiting_from 0 s.cuts)) one;
  start_is = s.start_is;
  count_is = s.count_is;
  state = same k.fault s.begun s.partial s.unread (length (encodings s.cuts ++ fragments s.begun)) s.state;
} where
  first : First k s.cuts taken w others
  first = first_of (IsState k.fault k) k stream taken s w others e

  one : suc taken ≡ taken + 1
  one = omega arith

  same : (f : Option RecordFault) (begun : List (List ℕ)) (partial unread : List ℕ) (place : ℕ) → IsState f k begun partial unread place → IsState f (record k { waiting = others }) begun partial unread place
  same None begun partial unread place h = h
  same (Some Memory) begun partial unread place h = h
  same (Some (Bad at reason)) begun partial unread place h = h

-- a list by its first element
pub by_first : {A : Type 0} (xs : List A) (x : A) → 0 < length xs → x ≡ slice_index_or xs 0 x → xs ≡ x ∷ drop 1 xs
by_first [] x any e = absurd (omega arith)
by_first (y ∷ ys) x any e = ap (λ z. z ∷ ys) (sym e)

pub by_none : {A : Type 0} (xs : List A) → length xs ≤ 0 → xs ≡ []
by_none [] none = refl
by_none (y ∷ ys) none = absurd (omega arith)

-- nothing was fed
pub new_stands : (waiting : List WaitingRecord) (payload head : List ℕ) (last : Bool) → waiting ≡ [] → payload ≡ [] → head ≡ [] → RepresentsStream (record { waiting = waiting; start = 0; count = 0; payload = payload; head = head; last = last; left = 0; fault = None }) [] 0
new_stands waiting payload head last w p h = record {
  cuts = [];
  begun = [];
  partial = [];
  unread = [];
  within = tt;
  begun_within = omega arith;
  stream_is = refl;
  taken_some = omega arith;
  waiting_is = w;
  start_is = refl;
  count_is = refl;
  state = (refl, inl (record { none_left = refl; short = omega (arith, ap length h); bytes = subst IsBytes (sym h) (λ i. omega arith); partial_is = sym h; payload_is = p }));
}

-- the number of bytes that were read
ended_count : (k : RecordsState) → (ended k).count ≡ k.count
unfolding ended
ended_count k = either_count (eqb k.left 0 && k.last) where
  either_count : (b : Bool) → (if b then with_record k else k).count ≡ k.count
  either_count true = refl
  either_count false = refl

header_count : (n : ℕ) (k : RecordsState) → (with_header n k).count ≡ k.count
unfolding with_header
header_count n k = either_count (ltb RECORD_MAX (length k.payload + n % 2 ^ 31)) where
  l : RecordsState
  l = record k { last = leb (2 ^ 31) n; left = n % 2 ^ 31 }

  either_count : (b : Bool) → (if b then record k { fault = Some (Bad (k.count - HEADER_LEN) REASON_RECORD) } else ended l).count ≡ k.count
  either_count true = refl
  either_count false = ended_count l

pub byte_count : (byte : ℕ) (k : RecordsState) → (with_byte byte k).count ≡ k.count + 1
unfolding with_byte
byte_count byte k = either_count (ltb (length (k.head ++ byte ∷ [])) HEADER_LEN) where
  l : RecordsState
  l = record k { count = k.count + 1; head = [] }

  either_count : (b : Bool) → (if b then record k { count = k.count + 1; head = k.head ++ byte ∷ [] } else with_header (word_at 0 (k.head ++ byte ∷ [])) l).count ≡ k.count + 1
  either_count true = refl
  either_count false = header_count (word_at 0 (k.head ++ byte ∷ [])) l

pub payload_count : (bytes : List ℕ) (k : RecordsState) → (with_payload bytes k).count ≡ k.count + length bytes
unfolding with_payload
payload_count bytes k = ended_count (record k { count = k.count + length bytes; payload = k.payload ++ bytes; left = k.left - length bytes })

-- the records that wait
pub keeps_same : (k l : RecordsState) → l.waiting ≡ k.waiting → KeepsWaiting k l
keeps_same k l e = ([], e ∙ sym (append-nil k.waiting))

pub keeps_on : (k l m : RecordsState) → KeepsWaiting k l → KeepsWaiting l m → KeepsWaiting k m
keeps_on k l m a b = (a.0 ++ b.0, b.1 ∙ (ap (λ (w : List WaitingRecord). w ++ b.0) a.1 ∙ append_assoc k.waiting a.0 b.0))

ended_keeps : (k : RecordsState) → KeepsWaiting k (ended k)
unfolding ended
ended_keeps k = either_keeps (eqb k.left 0 && k.last) where
  either_keeps : (b : Bool) → KeepsWaiting k (if b then with_record k else k)
  either_keeps true = (record { at = k.start; bytes = k.payload } ∷ [], refl)
  either_keeps false = keeps_same k k refl

header_keeps : (n : ℕ) (k : RecordsState) → KeepsWaiting k (with_header n k)
unfolding with_header
header_keeps n k = either_keeps (ltb RECORD_MAX (length k.payload + n % 2 ^ 31)) where
  l : RecordsState
  l = record k { last = leb (2 ^ 31) n; left = n % 2 ^ 31 }

  either_keeps : (b : Bool) → KeepsWaiting k (if b then record k { fault = Some (Bad (k.count - HEADER_LEN) REASON_RECORD) } else ended l)
  either_keeps true = keeps_same k (record k { fault = Some (Bad (k.count - HEADER_LEN) REASON_RECORD) }) refl
  either_keeps false = ended_keeps l

pub byte_keeps : (byte : ℕ) (k : RecordsState) → KeepsWaiting k (with_byte byte k)
unfolding with_byte
byte_keeps byte k = either_keeps (ltb (length (k.head ++ byte ∷ [])) HEADER_LEN) where
  l : RecordsState
  l = record k { count = k.count + 1; head = [] }

  either_keeps : (b : Bool) → KeepsWaiting k (if b then record k { count = k.count + 1; head = k.head ++ byte ∷ [] } else with_header (word_at 0 (k.head ++ byte ∷ [])) l)
  either_keeps true = keeps_same k (record k { count = k.count + 1; head = k.head ++ byte ∷ [] }) refl
  either_keeps false = header_keeps (word_at 0 (k.head ++ byte ∷ [])) l

pub payload_keeps : (bytes : List ℕ) (k : RecordsState) → KeepsWaiting k (with_payload bytes k)
unfolding with_payload
payload_keeps bytes k = ended_keeps (record k { count = k.count + length bytes; payload = k.payload ++ bytes; left = k.left - length bytes })

pub by_itself : {A : Type 0} (xs : List A) → xs ≡ drop 1 xs → xs ≡ []
by_itself [] e = refl
by_itself (y ∷ ys) e = absurd (let z = ap length e in omega arith)

pub through : (stream done rest piece : List ℕ) (n : ℕ) → piece ≡ done ++ rest → ((stream ++ done) ++ take n rest) ++ drop n rest ≡ stream ++ piece
through stream done rest piece n is =
    append_assoc (stream ++ done) (take n rest) (drop n rest)
    ∙ (ap (λ (l : List ℕ). (stream ++ done) ++ l) (take-append-drop n rest) ∙ (append_assoc stream done rest ∙ ap (λ (l : List ℕ). stream ++ l) (sym is)))

pub onward : (done rest piece more : List ℕ) (n : ℕ) → piece ≡ done ++ rest → more ≡ drop n rest → piece ≡ (done ++ take n rest) ++ more
onward done rest piece more n is e =
    is ∙ (ap (λ (l : List ℕ). done ++ l) (sym (take-append-drop n rest)) ∙ (sym (append_assoc done (take n rest) (drop n rest)) ∙ ap (λ (l : List ℕ). (done ++ take n rest) ++ l) (sym e)))
