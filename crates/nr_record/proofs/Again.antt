-- However a stream is cut, its records and its fault are the same, and what is written is read back.
use Rattle.std.proofs.Common.{◌≡◌, ℕ, ◌+◌, ◌*◌, ◌^◌, ◌≤◌, List, [], ◌∷◌, ◌++◌, length, Option, None, Some, refl, sym, ap, ◌∙◌, subst, append_assoc, append-nil, length-append, arith}
use Rattle.std.specs.List.{concat, AllByRecursion}
use Rattle.nr_xdr.specs.Item.{bit}
use Rattle.nr_xdr.proofs.WordBytes.{length_word}
use Rattle.nr_record.specs.declared.fault.RecordFault.{RecordFault}
use Rattle.nr_record.specs.declared.fault.RecordFault.TheVariants.{Bad, Memory}
use Rattle.nr_record.specs.Constants.{RECORD_MAX}
use Rattle.nr_record.specs.Records.{header, fragments, IsShort, contents, encodings, as_one, IsBegun, IsAboveAt, RecordsEncode}
use Rattle.nr_record.specs.RecordsState.{RecordsState, IsInLimit, IsContentInLimit, IsOutOfMemory, IsState, RepresentsStream, read_in, rest_in}
use Rattle.nr_record.proofs.Unique.{parts, one_list, one_reading, begun_none, written}
use Rattle.nr_record.proofs.Begun.{all_short, all_fit, header_begun, records_encoded, all_read, cut_alike}
use Rattle.nr_record.proofs.Above.{none_above, bad_above, none_list}

-- the fragments of a record that is begun
begun_alone : (begun : List (List ℕ)) → length (concat begun) ≤ RECORD_MAX → IsBegun (fragments begun)
begun_alone begun within =
    subst IsBegun (append-nil (fragments begun)) (header_begun begun [] (all_short begun RECORD_MAX within (omega arith)) (λ i. omega arith) (omega arith))

fault_place : (f : Option RecordFault) (k : RecordsState) (begun : List (List ℕ)) (partial unread : List ℕ) (place at reason : ℕ) → f ≡ Some (Bad at reason) → IsState f k begun partial unread place → at ≡ place
fault_place f k begun partial unread place at reason e h = (subst (λ (g : Option RecordFault). IsState g k begun partial unread place) e h).0

regrouped_front : (e f p u stream : List ℕ) → stream ≡ (e ++ (f ++ p)) ++ u → stream ≡ (e ++ f) ++ (p ++ u)
regrouped_front e f p u stream is = is ∙ (ap (λ (l : List ℕ). l ++ u) (sym (append_assoc e f p)) ∙ append_assoc (e ++ f) p u)

bad_alike : (k l : RecordsState) (stream : List ℕ) (i j at reason other : ℕ) (s : RepresentsStream k stream i) (t : RepresentsStream l stream j) → k.fault ≡ Some (Bad at reason) → l.fault ≡ Some (Bad at other) → contents s.cuts ≡ contents t.cuts
bad_alike k l stream i j at reason other s t a b =
    let e : List ℕ = encodings s.cuts in let f : List ℕ = fragments s.begun in let g : List ℕ = encodings t.cuts in let h : List ℕ = fragments t.begun in
    let here : at ≡ length (e ++ f) = fault_place k.fault k s.begun s.partial s.unread (length (e ++ f)) at reason a s.state in
    let there : at ≡ length (g ++ h) = fault_place l.fault l t.begun t.partial t.unread (length (g ++ h)) at other b t.state in
    let front : (e ++ f ≡ g ++ h) × (s.partial ++ s.unread ≡ t.partial ++ t.unread) =
    parts (e ++ f) (g ++ h) (s.partial ++ s.unread) (t.partial ++ t.unread) at (sym here) (sym there) (sym (regrouped_front e f s.partial s.unread stream s.stream_is) ∙ regrouped_front g h t.partial t.unread stream t.stream_is) in
    ap contents (one_list s.cuts t.cuts f h (all_fit s.cuts s.within) (all_fit t.cuts t.within) (begun_alone s.begun s.begun_within) (begun_alone t.begun t.begun_within) front.0).0

pub alike : (k l : RecordsState) (stream : List ℕ) (i j : ℕ) (s : RepresentsStream k stream i) (t : RepresentsStream l stream j) → ¬ (IsOutOfMemory k) → ¬ (IsOutOfMemory l) → (contents s.cuts ≡ contents t.cuts) × (k.fault ≡ l.fault)
alike k l stream i j s t some_k some_l = by_faults k.fault l.fault refl refl where
  by_faults : (f g : Option RecordFault) → k.fault ≡ f → l.fault ≡ g → (contents s.cuts ≡ contents t.cuts) × (k.fault ≡ l.fault)
  by_faults None None a b = (cut_alike k l stream i j s t a b, a ∙ sym b)
  by_faults None (Some Memory) a b = absurd (some_l b)
  by_faults None (Some (Bad at reason)) a b = absurd (none_above k stream i at s a (bad_above l stream j at reason t b).1)
  by_faults (Some Memory) g a b = absurd (some_k a)
  by_faults (Some (Bad at reason)) None a b = absurd (none_above l stream j at t b (bad_above k stream i at reason s a).1)
  by_faults (Some (Bad at reason)) (Some Memory) a b = absurd (some_l b)
  by_faults (Some (Bad at reason)) (Some (Bad place other)) a b =
      let x = bad_above k stream i at reason s a in let y = bad_above l stream j place other t b in
      let low = x.2 place y.1 in let high = y.2 at x.1 in
      let same : at ≡ place = omega (arith, low, high) in let why : reason ≡ other = x.0 ∙ sym y.0 in
      (bad_alike k l stream i j at reason other s t a (b ∙ (λ n. Some (Bad (sym same n) other))), a ∙ ((λ n. Some (Bad (same n) (why n))) ∙ sym b))

as_within : (records : List (List ℕ)) → AllByRecursion IsInLimit records → AllByRecursion IsContentInLimit (as_one records)
as_within [] all = tt
as_within (r ∷ rs) all = (all.0, as_within rs all.1)

limit_short : (records : List (List ℕ)) → AllByRecursion IsInLimit records → AllByRecursion IsShort records
limit_short [] all = tt
limit_short (r ∷ rs) all = (omega (arith, all.0), limit_short rs all.1)

none_written : (records : List (List ℕ)) (at : ℕ) → AllByRecursion IsInLimit records → ¬ (IsAboveAt (encodings (as_one records)) at)
none_written records at all a =
    none_list (as_one records) a.cuts [] a.begun a.last a.len a.more (as_within records all) a.fit a.begun_fit a.short a.above begun_none
    (λ e. omega (arith, ap length e, length-append (fragments a.begun) (header a.last a.len ++ a.more), length-append (header a.last a.len) a.more, length_word (2 ^ 31 * bit a.last + a.len)))
    (append-nil (encodings (as_one records)) ∙ a.stream_is)

pub read_back : (k : RecordsState) (records : List (List ℕ)) (taken : ℕ) (s : RepresentsStream k (encodings (as_one records)) taken) → AllByRecursion IsInLimit records → ¬ (IsOutOfMemory k) → (k.fault ≡ None) × (contents s.cuts ≡ records) × (rest_in s ≡ [])
read_back k records taken s all some = by_fault k.fault refl where
  stream : List ℕ
  stream = encodings (as_one records)

  by_fault : (f : Option RecordFault) → k.fault ≡ f → (k.fault ≡ None) × (contents s.cuts ≡ records) × (rest_in s ≡ [])
  by_fault None e =
      let once = one_reading (read_in s) (contents s.cuts) records (rest_in s) [] (records_encoded k stream taken s)
      (subst (λ (b : List ℕ). RecordsEncode b records []) (sym (all_read k stream taken s e)) (written records (limit_short records all))) in
      (e, once.0, once.1)
  by_fault (Some Memory) e = absurd (some e)
  by_fault (Some (Bad at reason)) e = absurd (none_written records at all (bad_above k stream taken at reason s e).1)
