-- What a `Records` has read are encodings of records, and a proper prefix of one.
use Rattle.std.proofs.Common.{◌≡◌, ℕ, zero, suc, ◌+◌, ◌-◌, ◌%◌, ◌^◌, ◌<◌, ◌≤◌, Bool, true, false, leb, List, [], ◌∷◌, ◌++◌, length, replicate, Option, None, Some, refl, sym, ap, ◌∙◌, subst, ⊎_elim, append_assoc, append-nil, length-append, arith}
use Rattle.std.specs.List.{concat, AllByRecursion}
use Rattle.std.proofs.lemmas.List.{length-replicate}
use Rattle.nr_xdr.specs.Item.{IsBytes, word, word_of}
use Rattle.nr_xdr.proofs.WordBytes.{word_word_of, word_of_below}
use Rattle.nr_record.specs.declared.fault.RecordFault.{RecordFault}
use Rattle.nr_record.specs.declared.fault.RecordFault.TheVariants.{Bad, Memory}
use Rattle.nr_record.specs.Constants.{RECORD_MAX, HEADER_LEN}
use Rattle.nr_record.specs.Records.{header, fragment, fragments, Cut, IsShort, Fits, contents, encodings, IsBegun, RecordsEncode}
use Rattle.nr_record.specs.RecordsState.{RecordsState, IsContentInLimit, InHeader, InFragment, IsLess, IsAbove, IsState, RepresentsStream, read_in, rest_in}
use Rattle.nr_record.proofs.Lists.{fragments_end, all_end}
use Rattle.nr_record.proofs.Standing.{halves, bytes_end}
use Rattle.nr_record.proofs.Unique.{one_list}

pub all_short : (fs : List (List ℕ)) (m : ℕ) → length (concat fs) ≤ m → m < 2 ^ 31 → AllByRecursion IsShort fs
all_short [] m le lt = tt
all_short (f ∷ fs) m le lt = let h = length-append f (concat fs) in (omega (arith, h), all_short fs m (omega (arith, h)) lt)

pub within_fits : (c : Cut) → IsContentInLimit c → Fits c
within_fits c w = let h = length-append (concat c.before) c.last in (all_short c.before RECORD_MAX (omega (arith, h)) (omega arith), omega (arith, h))

pub all_fit : (cuts : List Cut) → AllByRecursion IsContentInLimit cuts → AllByRecursion Fits cuts
all_fit [] all = tt
all_fit (c ∷ cuts) all = (within_fits c all.0, all_fit cuts all.1)

-- the rest goes on to the end of its fragment, and an empty last fragment after it if that isn't the last
begun_with : (last : Bool) (begun : List (List ℕ)) (payload front missing : List ℕ) → AllByRecursion IsShort begun → IsShort payload → 0 < length missing
    → fragment last payload ≡ front ++ missing → IsBegun (fragments begun ++ front)
begun_with true begun payload front missing all short some e = record {
  cut = record { before = begun; last = payload };
  fits = (all, short);
  missing = missing;
  some = some;
  encoded = ap (λ (l : List ℕ). fragments begun ++ l) e ∙ sym (append_assoc (fragments begun) front missing);
}
begun_with false begun payload front missing all short some e = record {
  cut = record { before = begun ++ payload ∷ []; last = [] };
  fits = (all_end IsShort begun payload all short, omega arith);
  missing = missing ++ fragment true [];
  some = omega (arith, some, length-append missing (fragment true []));
  encoded =
      ap (λ (l : List ℕ). l ++ fragment true []) (fragments_end begun payload ∙ ap (λ (l : List ℕ). fragments begun ++ l) e)
      ∙ (ap (λ (l : List ℕ). l ++ fragment true []) (sym (append_assoc (fragments begun) front missing)) ∙ append_assoc (fragments begun ++ front) missing (fragment true []));
}

zeros_are : (n : ℕ) (head : List ℕ) → IsBytes head → IsBytes (head ++ replicate n 0)
zeros_are zero head all = subst IsBytes (sym (append-nil head)) all
zeros_are (suc n) head all = subst IsBytes (append_assoc head (0 ∷ []) (replicate n 0)) (zeros_are n (head ++ 0 ∷ []) (bytes_end head 0 all (omega arith)))

-- a header that is begun goes on with zeros
pub header_begun : (begun : List (List ℕ)) (head : List ℕ) → AllByRecursion IsShort begun → IsBytes head → length head < HEADER_LEN → IsBegun (fragments begun ++ head)
header_begun begun head all bytes short =
    begun_with last begun payload head (zeros ++ payload) all (omega (arith, length-replicate {A = ℕ} len 0)) (omega (arith, length-append zeros payload, length-replicate {A = ℕ} (4 - length head) 0)) whole where
      zeros : List ℕ
      zeros = replicate (4 - length head) 0

      full : List ℕ
      full = head ++ zeros

      four : length full ≡ 4
      four = omega (arith, short, length-append head zeros, length-replicate {A = ℕ} (4 - length head) 0)

      are : IsBytes full
      are = zeros_are (4 - length head) head bytes

      n : ℕ
      n = word_of full

      last : Bool
      last = leb (2 ^ 31) n

      len : ℕ
      len = n % 2 ^ 31

      payload : List ℕ
      payload = replicate len 0

      is_header : header last (length payload) ≡ full
      is_header = ap (λ (m : ℕ). header last m) (length-replicate {A = ℕ} len 0) ∙ (ap word (sym (halves n (word_of_below full are))) ∙ word_word_of full four are)

      whole : fragment last payload ≡ head ++ (zeros ++ payload)
      whole = ap (λ (l : List ℕ). l ++ payload) is_header ∙ append_assoc head zeros payload

-- a fragment that is begun goes on with zeros
fragment_begun : (begun : List (List ℕ)) (last : Bool) (came : List ℕ) (left : ℕ) → AllByRecursion IsShort begun → 0 < left → length came + left < 2 ^ 31 → IsBegun (fragments begun ++ (header last (length came + left) ++ came))
fragment_begun begun last came left all some short =
    begun_with last begun (came ++ zeros) (header last (length came + left) ++ came) zeros all (omega (arith, len)) (omega (arith, length-replicate {A = ℕ} left 0)) whole where
      zeros : List ℕ
      zeros = replicate left 0

      len : length (came ++ zeros) ≡ length came + left
      len = length-append came zeros ∙ ap (λ (m : ℕ). length came + m) (length-replicate {A = ℕ} left 0)

      whole : fragment last (came ++ zeros) ≡ (header last (length came + left) ++ came) ++ zeros
      whole = ap (λ (m : ℕ). header last m ++ (came ++ zeros)) len ∙ sym (append_assoc (header last (length came + left)) came zeros)

less_begun : (k : RecordsState) (begun : List (List ℕ)) (partial : List ℕ) → length (concat begun) ≤ RECORD_MAX → IsLess k begun partial → IsBegun (fragments begun ++ partial)
less_begun k begun partial within less = let all : AllByRecursion IsShort begun = all_short begun RECORD_MAX within (omega arith) in ⊎_elim
    (λ (h : InHeader k.payload k.head k.left begun partial). subst (λ (l : List ℕ). IsBegun (fragments begun ++ l)) (sym h.partial_is) (header_begun begun k.head all h.bytes h.short))
    (λ (h : (0 < k.left) × InFragment k.payload k.head k.last k.left begun partial). let m = h.1 in subst (λ (l : List ℕ). IsBegun (fragments begun ++ l)) (sym m.partial_is)
    (fragment_begun begun k.last m.came k.left all h.0 (omega (arith, m.within, ap length m.payload_is, length-append (concat begun) m.came))))
    less

above_begun : (begun : List (List ℕ)) (partial : List ℕ) → length (concat begun) ≤ RECORD_MAX → IsAbove begun partial → IsBegun (fragments begun ++ partial)
above_begun begun partial within a = let all : AllByRecursion IsShort begun = all_short begun RECORD_MAX within (omega arith) in
    let z : 0 + a.len ≡ a.len = omega arith in
    subst (λ (l : List ℕ). IsBegun (fragments begun ++ l)) (append-nil (header a.last (0 + a.len)) ∙ (ap (header a.last) z ∙ sym a.partial_is)) (fragment_begun begun a.last [] a.len all (omega (arith, a.above, within)) (omega (arith, a.short)))

pub state_begun : (f : Option RecordFault) (k : RecordsState) (begun : List (List ℕ)) (partial unread : List ℕ) (place : ℕ) → length (concat begun) ≤ RECORD_MAX → IsState f k begun partial unread place → IsBegun (fragments begun ++ partial)
state_begun None k begun partial unread place within s = less_begun k begun partial within s.1
state_begun (Some Memory) k begun partial unread place within s = less_begun k begun partial within s
state_begun (Some (Bad at reason)) k begun partial unread place within s = above_begun begun partial within s.2

pub records_encoded : (k : RecordsState) (stream : List ℕ) (taken : ℕ) (s : RepresentsStream k stream taken) → RecordsEncode (read_in s) (contents s.cuts) (rest_in s)
records_encoded k stream taken s = record {
  cuts = s.cuts;
  fit = all_fit s.cuts s.within;
  records_are = refl;
  bytes_are = refl;
  begun = state_begun k.fault k s.begun s.partial s.unread (length (encodings s.cuts ++ fragments s.begun)) s.begun_within s.state;
}

pub all_read : (k : RecordsState) (stream : List ℕ) (taken : ℕ) (s : RepresentsStream k stream taken) → k.fault ≡ None → read_in s ≡ stream
all_read k stream taken s e = sym (s.stream_is ∙ (ap (λ (l : List ℕ). read_in s ++ l) (none k.fault e s.state) ∙ append-nil (read_in s))) where
  none : (f : Option RecordFault) → f ≡ None → IsState f k s.begun s.partial s.unread (length (encodings s.cuts ++ fragments s.begun)) → s.unread ≡ []
  none f e h = (subst (λ (g : Option RecordFault). IsState g k s.begun s.partial s.unread (length (encodings s.cuts ++ fragments s.begun))) e h).0

pub cut_alike : (k l : RecordsState) (stream : List ℕ) (i j : ℕ) (s : RepresentsStream k stream i) (t : RepresentsStream l stream j) → k.fault ≡ None → l.fault ≡ None → contents s.cuts ≡ contents t.cuts
cut_alike k l stream i j s t a b =
    let p = records_encoded k stream i s in let q = records_encoded l stream j t in
    ap contents (one_list s.cuts t.cuts (rest_in s) (rest_in t) (all_fit s.cuts s.within) (all_fit t.cuts t.within) p.begun q.begun (all_read k stream i s a ∙ sym (all_read l stream j t b))).0
