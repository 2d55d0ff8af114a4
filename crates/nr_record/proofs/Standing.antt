-- Each step keeps what a `Records` stands for.
use Rattle.std.proofs.Common.{◌≡◌, ℕ, zero, suc, ◌+◌, ◌-◌, ◌*◌, ◌%◌, ◌^◌, ◌<◌, ◌≤◌, eqb, ◌&&◌, if◌then◌else◌, Bool, true, false, ltb, leb, List, [], ◌∷◌, ◌++◌, length, drop, Option, None, Some, refl, sym, ap, ◌∙◌, subst, inl, inr, ⊎_elim, append_assoc, append-nil, length-append, arith}
use Rattle.std.specs.List.{concat}
use Rattle.std.proofs.lemmas.Bool.{and_parts, and_cases, eqb-true, eqb-false, cases_lt, ltb-true, ltb-false, leb-true, leb-false}
use Rattle.std.proofs.lemmas.List.{take_all}
use Rattle.nr_xdr.specs.Item.{IsBytes, word, word_of, bit}
use Rattle.nr_xdr.specs.Fields.{word_at}
use Rattle.nr_xdr.proofs.WordBytes.{length_word, word_word_of, word_of_below}
use Rattle.nr_record.specs.declared.fault.RecordFault.{RecordFault}
use Rattle.nr_record.specs.declared.fault.RecordFault.TheVariants.{Bad, Memory}
use Rattle.nr_record.specs.declared.records.WaitingRecord.{WaitingRecord}
use Rattle.nr_record.specs.Constants.{RECORD_MAX, HEADER_LEN, REASON_RECORD}
use Rattle.nr_record.specs.Records.{header, fragment, fragments, Cut, content, encodings}
use Rattle.nr_record.specs.RecordsState.{RecordsState, IsContentInLimit, waiting_from, InHeader, InFragment, IsState, Stands, RepresentsStream}
use Rattle.nr_record.specs.private.Step.{with_record, ended, with_header, with_byte, with_payload, with_fault}
use Rattle.nr_record.proofs.Lists.{encodings_end, fragments_end, concat_end, waiting_end, waiting_length, drop_end, all_end, read_more, count_more}

abbrev pub State : Type 1
State = List (List ℕ) → List ℕ → List ℕ → ℕ → Type 0

-- all bytes were read, and a fragment has its header
abbrev pub Middle : RecordsState → State
Middle k begun partial unread place = (unread ≡ []) × InFragment k.payload k.head k.last k.left begun partial

-- all bytes were read, and a header is there
pub record AtHeader (n : ℕ) (k : RecordsState) (begun : List (List ℕ)) (partial : List ℕ) (unread : List ℕ) (place : ℕ) : Type 0 where
  pub read : unread ≡ []
  pub no_head : k.head ≡ []
  pub payload_is : k.payload ≡ concat begun
  pub partial_is : partial ≡ word n
  pub below : n < 2 ^ 32

faultless : (k : RecordsState) (stream : List ℕ) (taken : ℕ) → k.fault ≡ None → RepresentsStream k stream taken → Stands (IsState None k) k stream taken
faultless k stream taken e s = subst (λ (f : Option RecordFault). Stands (IsState f k) k stream taken) e s

unfaulted : (k : RecordsState) (stream : List ℕ) (taken : ℕ) → k.fault ≡ None → Stands (IsState None k) k stream taken → RepresentsStream k stream taken
unfaulted k stream taken e s = subst (λ (f : Option RecordFault). Stands (IsState f k) k stream taken) (sym e) s

flat : (e f p u stream : List ℕ) → stream ≡ (e ++ (f ++ p)) ++ u → u ≡ [] → stream ≡ e ++ (f ++ p)
flat e f p u stream is none = is ∙ (ap (λ (l : List ℕ). (e ++ (f ++ p)) ++ l) none ∙ append-nil (e ++ (f ++ p)))

flat_again : (e x stream : List ℕ) → stream ≡ e ++ x → stream ≡ (e ++ x) ++ []
flat_again e x stream is = is ∙ sym (append-nil (e ++ x))

either_stands : (b : Bool) (x y : RecordsState) (stream : List ℕ) (taken : ℕ) → (b ≡ true → RepresentsStream x stream taken) → (b ≡ false → RepresentsStream y stream taken) → RepresentsStream (if b then x else y) stream taken
either_stands true x y stream taken one other = one refl
either_stands false x y stream taken one other = other refl

-- memory ran out, and nothing was read
pub fault_stands : (k : RecordsState) (stream : List ℕ) (taken : ℕ) → k.fault ≡ None → RepresentsStream k stream taken → RepresentsStream (with_fault k) (stream ++ []) taken
fault_stands k stream taken e start = let s = faultless k stream taken e start in record {
  cuts = s.cuts;
  begun = s.begun;
  partial = s.partial;
  unread = s.unread;
  within = s.within;
  begun_within = s.begun_within;
  stream_is = append-nil stream ∙ s.stream_is;
  taken_some = s.taken_some;
  waiting_is = s.waiting_is;
  start_is = s.start_is;
  count_is = s.count_is;
  state = s.state.1;
}

-- after a fault more bytes are not read
pub later_stands : (k : RecordsState) (stream more : List ℕ) (taken : ℕ) (fault : RecordFault) → k.fault ≡ Some fault → RepresentsStream k stream taken → RepresentsStream k (stream ++ more) taken
later_stands k stream more taken fault e start = subst (λ (f : Option RecordFault). Stands (IsState f k) k (stream ++ more) taken) (sym e) (by_fault fault (subst (λ (f : Option RecordFault). Stands (IsState f k) k stream taken) e start)) where
  by_fault : (f : RecordFault) → Stands (IsState (Some f) k) k stream taken → Stands (IsState (Some f) k) k (stream ++ more) taken
  by_fault f s = record {
    cuts = s.cuts;
    begun = s.begun;
    partial = s.partial;
    unread = s.unread ++ more;
    within = s.within;
    begun_within = s.begun_within;
    stream_is = ap (λ (l : List ℕ). l ++ more) s.stream_is ∙ append_assoc (encodings s.cuts ++ (fragments s.begun ++ s.partial)) s.unread more;
    taken_some = s.taken_some;
    waiting_is = s.waiting_is;
    start_is = s.start_is;
    count_is = s.count_is;
    state = still f s.begun s.partial s.unread (length (encodings s.cuts ++ fragments s.begun)) s.state;
  } where
    still : (f : RecordFault) (begun : List (List ℕ)) (partial unread : List ℕ) (place : ℕ) → IsState (Some f) k begun partial unread place → IsState (Some f) k begun partial (unread ++ more) place
    still Memory begun partial unread place h = h
    still (Bad at reason) begun partial unread place h = h

-- a fragment with nothing missing ends, and the last one ends its record
pub ended_stands : (k : RecordsState) (stream : List ℕ) (taken : ℕ) → k.fault ≡ None → Stands (Middle k) k stream taken → RepresentsStream (ended k) stream taken
unfolding ended
ended_stands k stream taken none s = either_stands (eqb k.left 0 && k.last) (with_record k) k stream taken
    (λ y. let t = and_parts (eqb k.left 0) k.last y in ends (eqb-true k.left 0 t.0) t.1)
    (λ n. ⊎_elim goes_on (λ le. let z : k.left ≡ 0 = omega (arith, le) in next_fragment z (⊎_elim (λ (c : eqb k.left 0 ≡ false). absurd (eqb-false k.left 0 c z)) (λ (c : k.last ≡ false). c) (and_cases (eqb k.left 0) k.last n))) (cases_lt 0 k.left)) where
      e : List ℕ
      e = encodings s.cuts

      f : List ℕ
      f = fragments s.begun

      m : InFragment k.payload k.head k.last k.left s.begun s.partial
      m = s.state.1

      is : stream ≡ e ++ (f ++ s.partial)
      is = flat e f s.partial s.unread stream s.stream_is s.state.0

      cut : Cut
      cut = record { before = s.begun; last = m.came }

      -- nothing is missing
      partial_is : (last : Bool) → k.left ≡ 0 → k.last ≡ last → s.partial ≡ fragment last m.came
      partial_is last a b = let z : length m.came + k.left ≡ length m.came = omega (arith, a) in
          m.partial_is ∙ (ap (λ (l : Bool). header l (length m.came + k.left) ++ m.came) b ∙ ap (λ (n : ℕ). header last n ++ m.came) z)

      short : length k.head < HEADER_LEN
      short = omega (arith, ap length m.no_head)

      bytes : IsBytes k.head
      bytes = subst IsBytes (sym m.no_head) (λ i. omega arith)

      goes_on : 0 < k.left → RepresentsStream k stream taken
      goes_on any = unfaulted k stream taken none (record {
        cuts = s.cuts;
        begun = s.begun;
        partial = s.partial;
        unread = s.unread;
        within = s.within;
        begun_within = s.begun_within;
        stream_is = s.stream_is;
        taken_some = s.taken_some;
        waiting_is = s.waiting_is;
        start_is = s.start_is;
        count_is = s.count_is;
        state = (s.state.0, inr (any, m));
      })

      whole_fragment : k.left ≡ 0 → k.last ≡ false → f ++ s.partial ≡ fragments (s.begun ++ m.came ∷ []) ++ []
      whole_fragment a b = ap (λ (l : List ℕ). f ++ l) (partial_is false a b) ∙ (sym (fragments_end s.begun m.came) ∙ sym (append-nil (fragments (s.begun ++ m.came ∷ []))))

      next_fragment : k.left ≡ 0 → k.last ≡ false → RepresentsStream k stream taken
      next_fragment a b = unfaulted k stream taken none (record {
        cuts = s.cuts;
        begun = s.begun ++ m.came ∷ [];
        partial = [];
        unread = [];
        within = s.within;
        begun_within = omega (arith, m.within, ap length m.payload_is, ap length (concat_end s.begun m.came));
        stream_is = flat_again e (fragments (s.begun ++ m.came ∷ []) ++ []) stream (is ∙ ap (λ (l : List ℕ). e ++ l) (whole_fragment a b));
        taken_some = s.taken_some;
        waiting_is = s.waiting_is;
        start_is = s.start_is;
        count_is = s.count_is ∙ ap (λ (l : List ℕ). length (e ++ l)) (whole_fragment a b);
        state = (refl, inl (record { none_left = a; short = short; bytes = bytes; partial_is = sym m.no_head; payload_is = m.payload_is ∙ sym (concat_end s.begun m.came) }));
      })

      whole_record : k.left ≡ 0 → k.last ≡ true → e ++ (f ++ s.partial) ≡ encodings (s.cuts ++ cut ∷ []) ++ []
      whole_record a b = ap (λ (l : List ℕ). e ++ (f ++ l)) (partial_is true a b) ∙ (sym (encodings_end s.cuts cut) ∙ sym (append-nil (encodings (s.cuts ++ cut ∷ []))))

      waits : k.waiting ++ record { at = k.start; bytes = k.payload } ∷ [] ≡ drop taken (waiting_from 0 (s.cuts ++ cut ∷ []))
      waits = let old : List WaitingRecord = waiting_from 0 s.cuts in let place : k.start ≡ 0 + length e = omega (arith, s.start_is) in
          ap (λ (l : List WaitingRecord). l ++ record { at = k.start; bytes = k.payload } ∷ []) s.waiting_is
          ∙ (ap (λ (n : ℕ). drop taken old ++ record { at = n; bytes = k.payload } ∷ []) place
          ∙ (ap (λ (l : List ℕ). drop taken old ++ record { at = 0 + length e; bytes = l } ∷ []) m.payload_is
          ∙ (sym (drop_end taken old (record { at = 0 + length e; bytes = content cut }) (omega (arith, s.taken_some, waiting_length 0 s.cuts)))
          ∙ ap (drop taken) (sym (waiting_end 0 s.cuts cut)))))

      ends : k.left ≡ 0 → k.last ≡ true → RepresentsStream (with_record k) stream taken
      ends a b = unfaulted (with_record k) stream taken none (record {
        cuts = s.cuts ++ cut ∷ [];
        begun = [];
        partial = [];
        unread = [];
        within = all_end IsContentInLimit s.cuts cut s.within (omega (arith, m.within, ap length m.payload_is));
        begun_within = omega arith;
        stream_is = flat_again (encodings (s.cuts ++ cut ∷ [])) [] stream (is ∙ whole_record a b);
        taken_some = omega (arith, s.taken_some, length-append s.cuts (cut ∷ []));
        waiting_is = waits;
        start_is = s.count_is ∙ (ap length (whole_record a b) ∙ ap length (append-nil (encodings (s.cuts ++ cut ∷ []))));
        count_is = s.count_is ∙ ap length (whole_record a b);
        state = (refl, inl (record { none_left = a; short = short; bytes = bytes; partial_is = sym m.no_head; payload_is = refl }));
      })

-- more payload of a fragment is read
pub payload_stands : (k : RecordsState) (more stream : List ℕ) (taken : ℕ) → k.fault ≡ None → 0 < k.left → length more ≤ k.left → RepresentsStream k stream taken → RepresentsStream (with_payload more k) (stream ++ more) taken
unfolding with_payload
payload_stands k more stream taken none any fits start = ended_stands l (stream ++ more) taken none (⊎_elim (λ h. absurd (omega (arith, h.none_left))) (λ h. grown h.1) s.state.1) where
  s : Stands (IsState None k) k stream taken
  s = faultless k stream taken none start

  l : RecordsState
  l = record k { count = k.count + length more; payload = k.payload ++ more; left = k.left - length more }

  e : List ℕ
  e = encodings s.cuts

  f : List ℕ
  f = fragments s.begun

  grown : InFragment k.payload k.head k.last k.left s.begun s.partial → Stands (Middle l) l (stream ++ more) taken
  grown m = record {
    cuts = s.cuts;
    begun = s.begun;
    partial = s.partial ++ more;
    unread = [];
    within = s.within;
    begun_within = s.begun_within;
    stream_is = read_more e f s.partial more stream (flat e f s.partial s.unread stream s.stream_is s.state.0);
    taken_some = s.taken_some;
    waiting_is = s.waiting_is;
    start_is = s.start_is;
    count_is = count_more e f s.partial more k.count s.count_is;
    state = (
      refl,
      record {
        came = m.came ++ more;
        no_head = m.no_head;
        partial_is = ap (λ (x : List ℕ). x ++ more) m.partial_is ∙ (append_assoc (header k.last (length m.came + k.left)) m.came more ∙ ap (λ (n : ℕ). header k.last n ++ (m.came ++ more)) same);
        payload_is = ap (λ (x : List ℕ). x ++ more) m.payload_is ∙ append_assoc (concat s.begun) m.came more;
        within = omega (arith, m.within, length-append k.payload more, fits);
      },
    );
  } where
    same : length m.came + k.left ≡ length (m.came ++ more) + (k.left - length more)
    same = omega (arith, fits, length-append m.came more)

-- the high bit of a word, and its other bits
pub halves : (n : ℕ) → n < 2 ^ 32 → n ≡ 2 ^ 31 * bit (leb (2 ^ 31) n) + n % 2 ^ 31
halves n below = by_bit (leb (2 ^ 31) n) refl where
  by_bit : (b : Bool) → leb (2 ^ 31) n ≡ b → n ≡ 2 ^ 31 * bit b + n % 2 ^ 31
  by_bit true e = omega (arith, below, leb-true (2 ^ 31) n e)
  by_bit false e = omega (arith, below, leb-false (2 ^ 31) n e)

-- a header is read: its fragment begins, or is refused
pub header_stands : (n : ℕ) (k : RecordsState) (stream : List ℕ) (taken : ℕ) → k.fault ≡ None → Stands (AtHeader n k) k stream taken → RepresentsStream (with_header n k) stream taken
unfolding with_header
header_stands n k stream taken none s = either_stands (ltb RECORD_MAX (length k.payload + len)) refused l_ended stream taken above (λ y. ended_stands l stream taken none (begins y)) where
  len : ℕ
  len = n % 2 ^ 31

  last : Bool
  last = leb (2 ^ 31) n

  refused : RecordsState
  refused = record k { fault = Some (Bad (k.count - HEADER_LEN) REASON_RECORD) }

  l : RecordsState
  l = record k { last = last; left = len }

  l_ended : RecordsState
  l_ended = ended l

  h : AtHeader n k s.begun s.partial s.unread (length (encodings s.cuts ++ fragments s.begun))
  h = s.state

  partial_is : s.partial ≡ header last len
  partial_is = h.partial_is ∙ ap word (halves n h.below)

  above : ltb RECORD_MAX (length k.payload + len) ≡ true → RepresentsStream refused stream taken
  above y = record {
    cuts = s.cuts;
    begun = s.begun;
    partial = s.partial;
    unread = s.unread;
    within = s.within;
    begun_within = s.begun_within;
    stream_is = s.stream_is;
    taken_some = s.taken_some;
    waiting_is = s.waiting_is;
    start_is = s.start_is;
    count_is = s.count_is;
    state = (
      omega (arith, s.count_is, length-append (encodings s.cuts) (fragments s.begun ++ s.partial), length-append (fragments s.begun) s.partial, length-append (encodings s.cuts) (fragments s.begun), ap length h.partial_is, length_word n),
      refl,
      record { last = last; len = len; short = omega arith; partial_is = partial_is; above = omega (arith, ltb-true RECORD_MAX (length k.payload + len) y, ap length h.payload_is) },
    );
  }

  begins : ltb RECORD_MAX (length k.payload + len) ≡ false → Stands (Middle l) l stream taken
  begins y = record {
    cuts = s.cuts;
    begun = s.begun;
    partial = s.partial;
    unread = s.unread;
    within = s.within;
    begun_within = s.begun_within;
    stream_is = s.stream_is;
    taken_some = s.taken_some;
    waiting_is = s.waiting_is;
    start_is = s.start_is;
    count_is = s.count_is;
    state = (
      h.read,
      record {
        came = [];
        no_head = h.no_head;
        partial_is = partial_is ∙ (let z : len ≡ 0 + len = omega arith in ap (header last) z ∙ sym (append-nil (header last (0 + len))));
        payload_is = h.payload_is ∙ sym (append-nil (concat s.begun));
        within = ltb-false RECORD_MAX (length k.payload + len) y;
      },
    );
  }

pub bytes_end : (xs : List ℕ) (b : ℕ) → IsBytes xs → b < 256 → IsBytes (xs ++ b ∷ [])
bytes_end [] b all lt zero = lt
bytes_end [] b all lt (suc i) = omega arith
bytes_end (x ∷ xs) b all lt zero = all 0
bytes_end (x ∷ xs) b all lt (suc i) = bytes_end xs b (λ j. all (suc j)) lt i

-- one more byte of a header is read
pub byte_stands : (byte : ℕ) (k : RecordsState) (stream : List ℕ) (taken : ℕ) → byte < 256 → k.fault ≡ None → k.left ≡ 0 → RepresentsStream k stream taken → RepresentsStream (with_byte byte k) (stream ++ byte ∷ []) taken
unfolding with_byte
byte_stands byte k stream taken lt none out start = either_stands (ltb (length head) HEADER_LEN) l with_word (stream ++ byte ∷ []) taken
    (λ y. unfaulted l (stream ++ byte ∷ []) taken none (goes_on (ltb-true (length head) HEADER_LEN y)))
    (λ n. header_stands (word_at 0 head) full (stream ++ byte ∷ []) taken none (read (ltb-false (length head) HEADER_LEN n))) where
      s : Stands (IsState None k) k stream taken
      s = faultless k stream taken none start

      head : List ℕ
      head = k.head ++ byte ∷ []

      l : RecordsState
      l = record k { count = k.count + 1; head = head }

      full : RecordsState
      full = record k { count = k.count + 1; head = [] }

      with_word : RecordsState
      with_word = with_header (word_at 0 head) full

      h : InHeader k.payload k.head k.left s.begun s.partial
      h = ⊎_elim (λ i. i) (λ i. absurd (omega (arith, i.0))) s.state.1

      partial_is : s.partial ++ byte ∷ [] ≡ head
      partial_is = ap (λ (x : List ℕ). x ++ byte ∷ []) h.partial_is

      goes_on : length head < HEADER_LEN → Stands (IsState None l) l (stream ++ byte ∷ []) taken
      goes_on short = record {
        cuts = s.cuts;
        begun = s.begun;
        partial = s.partial ++ byte ∷ [];
        unread = [];
        within = s.within;
        begun_within = s.begun_within;
        stream_is = read_more (encodings s.cuts) (fragments s.begun) s.partial (byte ∷ []) stream (flat (encodings s.cuts) (fragments s.begun) s.partial s.unread stream s.stream_is s.state.0);
        taken_some = s.taken_some;
        waiting_is = s.waiting_is;
        start_is = s.start_is;
        count_is = count_more (encodings s.cuts) (fragments s.begun) s.partial (byte ∷ []) k.count s.count_is;
        state = (refl, inl (record { none_left = out; short = short; bytes = bytes_end k.head byte h.bytes lt; partial_is = partial_is; payload_is = h.payload_is }));
      }

      four : HEADER_LEN ≤ length head → length head ≡ 4
      four le = omega (arith, le, h.short, length-append k.head (byte ∷ []))

      read : HEADER_LEN ≤ length head → Stands (AtHeader (word_at 0 head) full) full (stream ++ byte ∷ []) taken
      read le = record {
        cuts = s.cuts;
        begun = s.begun;
        partial = s.partial ++ byte ∷ [];
        unread = [];
        within = s.within;
        begun_within = s.begun_within;
        stream_is = read_more (encodings s.cuts) (fragments s.begun) s.partial (byte ∷ []) stream (flat (encodings s.cuts) (fragments s.begun) s.partial s.unread stream s.stream_is s.state.0);
        taken_some = s.taken_some;
        waiting_is = s.waiting_is;
        start_is = s.start_is;
        count_is = count_more (encodings s.cuts) (fragments s.begun) s.partial (byte ∷ []) k.count s.count_is;
        state = record {
          read = refl;
          no_head = refl;
          payload_is = h.payload_is;
          partial_is = partial_is ∙ (sym (word_word_of head (four le) all) ∙ ap (λ (x : List ℕ). word (word_of x)) (sym (take_all 4 head (omega (arith, four le)))));
          below = subst (λ (x : List ℕ). word_of x < 2 ^ 32) (sym (take_all 4 head (omega (arith, four le)))) (word_of_below head all);
        };
      } where
        all : IsBytes head
        all = bytes_end k.head byte h.bytes lt
