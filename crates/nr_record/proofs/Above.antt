-- A fragment above the limit is found exactly if there is one: the first of them.
use Rattle.std.proofs.Common.{◌≡◌, ℕ, ◌+◌, ◌*◌, ◌^◌, ◌<◌, ◌≤◌, Bool, true, false, List, [], ◌∷◌, ◌++◌, length, Option, None, Some, Result, Ok, Err, OnOk, IfErr, sym, ap, ◌∙◌, subst, ⊎_elim, append_assoc, append-nil, length-append, arith}
use Rattle.std.specs.List.{concat, AllByRecursion}
use Rattle.std.proofs.lemmas.Bool.{true≢false, false≢true}
use Rattle.nr_xdr.specs.Item.{bit}
use Rattle.nr_xdr.proofs.WordBytes.{length_word}
use Rattle.nr_record.specs.declared.fault.RecordFault.{RecordFault}
use Rattle.nr_record.specs.declared.fault.RecordFault.TheVariants.{Bad, Memory}
use Rattle.nr_record.specs.Constants.{RECORD_MAX, REASON_RECORD}
use Rattle.nr_record.specs.Records.{header, fragment, fragments, Cut, encoding, IsShort, Fits, encodings, IsBegun, IsAboveAt}
use Rattle.nr_record.specs.RecordsState.{RecordsState, IsContentInLimit, InHeader, InFragment, IsLess, IsAbove, IsState, Stands, RepresentsStream, IsFaultOf}
use Rattle.nr_record.proofs.Unique.{parts, same_header, same_fragment, one_encoding, no_more, regrouped}
use Rattle.nr_record.proofs.Begun.{all_short, within_fits, all_fit, state_begun}

-- a fragment and a header at one offset have one length
same_front : (l m : Bool) (a : List ℕ) (n : ℕ) (x y : List ℕ) → IsShort a → n < 2 ^ 31 → fragment l a ++ x ≡ header m n ++ y → length a ≡ n
same_front l m a n x y p q e =
    let h = parts (header l (length a)) (header m n) (a ++ x) y 4 (length_word (2 ^ 31 * bit l + length a)) (length_word (2 ^ 31 * bit m + n)) (sym (append_assoc (header l (length a)) a x) ∙ e) in
    (same_header l m (length a) n p q h.0).1

-- in a record within the limit no fragment is above it
none_in : (sum : ℕ) (bs : List (List ℕ)) (b x : List ℕ) (gs : List (List ℕ)) (m : Bool) (n : ℕ) (y : List ℕ) → AllByRecursion IsShort bs → IsShort b → AllByRecursion IsShort gs → n < 2 ^ 31
    → sum + length (concat bs ++ b) ≤ RECORD_MAX → RECORD_MAX < sum + (length (concat gs) + n) → ¬ ((fragments bs ++ fragment true b) ++ x ≡ fragments gs ++ (header m n ++ y))
none_in sum [] b x [] m n y p q r lt le above e = let h = same_front true m b n x y q lt e in absurd (omega (arith, h, le, above))
none_in sum [] b x (g ∷ gs) m n y p q r lt le above e =
    absurd (true≢false (same_fragment true false b g x (fragments gs ++ (header m n ++ y)) q r.0 (e ∙ append_assoc (fragment false g) (fragments gs) (header m n ++ y))).last)
none_in sum (c ∷ bs) b x [] m n y p q r lt le above e =
    let h = same_front false m c n ((fragments bs ++ fragment true b) ++ x) y p.0 lt (sym (regrouped (fragment false c) (fragments bs) (fragment true b) x) ∙ e) in
    absurd (omega (arith, h, le, above, length-append (c ++ concat bs) b, length-append c (concat bs)))
none_in sum (c ∷ bs) b x (g ∷ gs) m n y p q r lt le above e =
    let s = same_fragment false false c g ((fragments bs ++ fragment true b) ++ x) (fragments gs ++ (header m n ++ y)) p.0 r.0
    (sym (regrouped (fragment false c) (fragments bs) (fragment true b) x) ∙ (e ∙ append_assoc (fragment false g) (fragments gs) (header m n ++ y))) in
    let len : length c ≡ length g = ap length s.payload in
    none_in (sum + length c) bs b x gs m n y p.1 q r.1 lt
    (omega (arith, le, length-append (c ++ concat bs) b, length-append c (concat bs), length-append (concat bs) b))
    (omega (arith, above, len, length-append g (concat gs)))
    s.rest

-- what stands after the fragments of a record that is begun: what is less than a fragment has no header above the limit
none_less : (k : RecordsState) (begun : List (List ℕ)) (partial : List ℕ) (sum : ℕ) (gs : List (List ℕ)) (m : Bool) (n : ℕ) (y : List ℕ) → IsLess k begun partial → sum ≡ length (concat begun) → AllByRecursion IsShort gs → n < 2 ^ 31
    → RECORD_MAX < sum + (length (concat gs) + n) → ¬ (partial ≡ fragments gs ++ (header m n ++ y))
none_less k begun partial sum [] m n y less is r lt above e = ⊎_elim
    (λ (h : InHeader k.payload k.head k.left begun partial). absurd (omega (arith, h.short, ap length h.partial_is, ap length e, length-append (header m n) y, length_word (2 ^ 31 * bit m + n))))
    (λ (h : (0 < k.left) × InFragment k.payload k.head k.last k.left begun partial). let i = h.1 in
    let small : length i.came + k.left < 2 ^ 31 = omega (arith, i.within, ap length i.payload_is, length-append (concat begun) i.came) in
    let t = parts (header k.last (length i.came + k.left)) (header m n) i.came y 4 (length_word (2 ^ 31 * bit k.last + (length i.came + k.left))) (length_word (2 ^ 31 * bit m + n)) (sym i.partial_is ∙ e) in
    let len = (same_header k.last m (length i.came + k.left) n small lt t.0).1 in
    absurd (omega (arith, len, is, above, i.within, ap length i.payload_is, length-append (concat begun) i.came)))
    less
none_less k begun partial sum (g ∷ gs) m n y less is r lt above e = ⊎_elim
    (λ (h : InHeader k.payload k.head k.left begun partial). absurd (omega (arith, h.short, ap length h.partial_is, ap length e, length-append (fragment false g ++ fragments gs) (header m n ++ y), length-append (fragment false g) (fragments gs), length-append (header false (length g)) g, length_word (2 ^ 31 * bit false + length g))))
    (λ (h : (0 < k.left) × InFragment k.payload k.head k.last k.left begun partial). let i = h.1 in
    let small : length i.came + k.left < 2 ^ 31 = omega (arith, i.within, ap length i.payload_is, length-append (concat begun) i.came) in
    let rest : List ℕ = fragments gs ++ (header m n ++ y) in
    let t = parts (header k.last (length i.came + k.left)) (header false (length g)) i.came (g ++ rest) 4 (length_word (2 ^ 31 * bit k.last + (length i.came + k.left))) (length_word (2 ^ 31 * bit false + length g))
    (sym i.partial_is ∙ (e ∙ (append_assoc (fragment false g) (fragments gs) (header m n ++ y) ∙ append_assoc (header false (length g)) g rest))) in
    let len = (same_header k.last false (length i.came + k.left) (length g) small r.0 t.0).1 in
    absurd (omega (arith, len, ap length t.1, length-append g rest, h.0)))
    less

none_begun : (k : RecordsState) (whole : List (List ℕ)) (partial : List ℕ) (sum : ℕ) (begun gs : List (List ℕ)) (m : Bool) (n : ℕ) (y : List ℕ) → IsLess k whole partial → sum + length (concat begun) ≡ length (concat whole) → length (concat whole) ≤ RECORD_MAX
    → AllByRecursion IsShort begun → AllByRecursion IsShort gs → n < 2 ^ 31 → RECORD_MAX < sum + (length (concat gs) + n) → ¬ (fragments begun ++ partial ≡ fragments gs ++ (header m n ++ y))
none_begun k whole partial sum [] gs m n y less is within p r lt above e = none_less k whole partial sum gs m n y less (omega (arith, is)) r lt above e
none_begun k whole partial sum (b ∷ begun) [] m n y less is within p r lt above e =
    let h = same_front false m b n (fragments begun ++ partial) y p.0 lt (sym (append_assoc (fragment false b) (fragments begun) partial) ∙ e) in
    absurd (omega (arith, h, is, within, above, length-append b (concat begun)))
none_begun k whole partial sum (b ∷ begun) (g ∷ gs) m n y less is within p r lt above e =
    let s = same_fragment false false b g (fragments begun ++ partial) (fragments gs ++ (header m n ++ y)) p.0 r.0
    (sym (append_assoc (fragment false b) (fragments begun) partial) ∙ (e ∙ append_assoc (fragment false g) (fragments gs) (header m n ++ y))) in
    let len : length b ≡ length g = ap length s.payload in
    none_begun k whole partial (sum + length b) begun gs m n y less (omega (arith, is, length-append b (concat begun))) within p.1 r.1 lt (omega (arith, above, len, length-append g (concat gs))) s.rest

pub none_list : (cuts ds : List Cut) (rest : List ℕ) (gs : List (List ℕ)) (m : Bool) (n : ℕ) (y : List ℕ) → AllByRecursion IsContentInLimit cuts → AllByRecursion Fits ds → AllByRecursion IsShort gs → n < 2 ^ 31 → RECORD_MAX < length (concat gs) + n
    → IsBegun rest → ¬ (rest ≡ fragments gs ++ (header m n ++ y)) → ¬ (encodings cuts ++ rest ≡ (encodings ds ++ fragments gs) ++ (header m n ++ y))
none_list [] [] rest gs m n y p q r lt above begun other e = other e
none_list [] (d ∷ ds) rest gs m n y p q r lt above begun other e =
    no_more d ((encodings ds ++ fragments gs) ++ (header m n ++ y)) rest q.0 begun (e ∙ regrouped (encoding d) (encodings ds) (fragments gs) (header m n ++ y))
none_list (c ∷ cuts) [] rest gs m n y p q r lt above begun other e = let f = within_fits c p.0 in
    none_in 0 c.before c.last (encodings cuts ++ rest) gs m n y f.0 f.1 r lt (omega (arith, p.0)) (omega (arith, above)) (sym (append_assoc (encoding c) (encodings cuts) rest) ∙ e)
none_list (c ∷ cuts) (d ∷ ds) rest gs m n y p q r lt above begun other e =
    let s = one_encoding c d (encodings cuts ++ rest) ((encodings ds ++ fragments gs) ++ (header m n ++ y)) (within_fits c p.0) q.0
    (sym (append_assoc (encoding c) (encodings cuts) rest) ∙ (e ∙ regrouped (encoding d) (encodings ds) (fragments gs) (header m n ++ y))) in
    none_list cuts ds rest gs m n y p.1 q.1 r lt above begun other s.1

pub none_above : (k : RecordsState) (stream : List ℕ) (taken at : ℕ) → RepresentsStream k stream taken → k.fault ≡ None → ¬ (IsAboveAt stream at)
none_above k stream taken at start none a =
    none_list s.cuts a.cuts (fragments s.begun ++ s.partial) a.begun a.last a.len a.more s.within a.fit a.begun_fit a.short a.above
    (state_begun None k s.begun s.partial s.unread (length (encodings s.cuts ++ fragments s.begun)) s.begun_within s.state)
    (none_begun k s.begun s.partial 0 s.begun a.begun a.last a.len a.more s.state.1 (omega arith) s.begun_within (all_short s.begun RECORD_MAX s.begun_within (omega arith)) a.begun_fit a.short (omega (arith, a.above)))
    (sym flat ∙ a.stream_is) where
      s : Stands (IsState None k) k stream taken
      s = subst (λ (f : Option RecordFault). Stands (IsState f k) k stream taken) none start

      read : List ℕ
      read = encodings s.cuts ++ (fragments s.begun ++ s.partial)

      flat : stream ≡ read
      flat = s.stream_is ∙ (ap (λ (l : List ℕ). read ++ l) s.state.0 ∙ append-nil read)

-- the fragments of a record that is begun lie within those of a record that goes on as it does
first_cut : (begun : List (List ℕ)) (z : List ℕ) (bs : List (List ℕ)) (b x : List ℕ) → AllByRecursion IsShort begun → AllByRecursion IsShort bs → IsShort b → fragments begun ++ z ≡ (fragments bs ++ fragment true b) ++ x → length (fragments begun) ≤ length (fragments bs)
first_cut [] z bs b x p q r e = omega arith
first_cut (g ∷ begun) z [] b x p q r e = absurd (false≢true (same_fragment false true g b (fragments begun ++ z) x p.0 r (sym (append_assoc (fragment false g) (fragments begun) z) ∙ e)).last)
first_cut (g ∷ begun) z (c ∷ bs) b x p q r e =
    let s = same_fragment false false g c (fragments begun ++ z) ((fragments bs ++ fragment true b) ++ x) p.0 q.0 (sym (append_assoc (fragment false g) (fragments begun) z) ∙ (e ∙ regrouped (fragment false c) (fragments bs) (fragment true b) x)) in
    let h = first_cut begun z bs b x p.1 q.1 r s.rest in
    omega (arith, h, ap (λ (l : List ℕ). length (fragment false l)) s.payload, length-append (fragment false g) (fragments begun), length-append (fragment false c) (fragments bs))

first_begun : (sum : ℕ) (begun : List (List ℕ)) (z : List ℕ) (gs : List (List ℕ)) (m : Bool) (n : ℕ) (y : List ℕ) → sum + length (concat begun) ≤ RECORD_MAX → AllByRecursion IsShort begun → AllByRecursion IsShort gs → n < 2 ^ 31
    → RECORD_MAX < sum + (length (concat gs) + n) → fragments begun ++ z ≡ fragments gs ++ (header m n ++ y) → length (fragments begun) ≤ length (fragments gs)
first_begun sum [] z gs m n y le p r lt above e = omega arith
first_begun sum (b ∷ begun) z [] m n y le p r lt above e =
    let h = same_front false m b n (fragments begun ++ z) y p.0 lt (sym (append_assoc (fragment false b) (fragments begun) z) ∙ e) in
    absurd (omega (arith, h, le, above, length-append b (concat begun)))
first_begun sum (b ∷ begun) z (g ∷ gs) m n y le p r lt above e =
    let s = same_fragment false false b g (fragments begun ++ z) (fragments gs ++ (header m n ++ y)) p.0 r.0
    (sym (append_assoc (fragment false b) (fragments begun) z) ∙ (e ∙ append_assoc (fragment false g) (fragments gs) (header m n ++ y))) in
    let len : length b ≡ length g = ap length s.payload in
    let h = first_begun (sum + length b) begun z gs m n y (omega (arith, le, length-append b (concat begun))) p.1 r.1 lt (omega (arith, above, len, length-append g (concat gs))) s.rest in
    omega (arith, h, ap (λ (l : List ℕ). length (fragment false l)) s.payload, length-append (fragment false b) (fragments begun), length-append (fragment false g) (fragments gs))

first_list : (cuts ds : List Cut) (begun : List (List ℕ)) (z : List ℕ) (gs : List (List ℕ)) (m : Bool) (n : ℕ) (y : List ℕ) → AllByRecursion IsContentInLimit cuts → AllByRecursion Fits ds → length (concat begun) ≤ RECORD_MAX → AllByRecursion IsShort begun → AllByRecursion IsShort gs
    → n < 2 ^ 31 → RECORD_MAX < length (concat gs) + n → encodings cuts ++ (fragments begun ++ z) ≡ (encodings ds ++ fragments gs) ++ (header m n ++ y) → length (encodings cuts ++ fragments begun) ≤ length (encodings ds ++ fragments gs)
first_list [] [] begun z gs m n y p q le all r lt above e = first_begun 0 begun z gs m n y (omega (arith, le)) all r lt (omega (arith, above)) e
first_list [] (d ∷ ds) begun z gs m n y p q le all r lt above e =
    let h = first_cut begun z d.before d.last ((encodings ds ++ fragments gs) ++ (header m n ++ y)) all q.0.0 q.0.1 (e ∙ regrouped (encoding d) (encodings ds) (fragments gs) (header m n ++ y)) in
    omega (arith, h, length-append (encoding d ++ encodings ds) (fragments gs), length-append (encoding d) (encodings ds), length-append (fragments d.before) (fragment true d.last))
first_list (c ∷ cuts) [] begun z gs m n y p q le all r lt above e = let f = within_fits c p.0 in
    absurd (none_in 0 c.before c.last (encodings cuts ++ (fragments begun ++ z)) gs m n y f.0 f.1 r lt (omega (arith, p.0)) (omega (arith, above)) (sym (append_assoc (encoding c) (encodings cuts) (fragments begun ++ z)) ∙ e))
first_list (c ∷ cuts) (d ∷ ds) begun z gs m n y p q le all r lt above e =
    let s = one_encoding c d (encodings cuts ++ (fragments begun ++ z)) ((encodings ds ++ fragments gs) ++ (header m n ++ y)) (within_fits c p.0) q.0
    (sym (append_assoc (encoding c) (encodings cuts) (fragments begun ++ z)) ∙ (e ∙ regrouped (encoding d) (encodings ds) (fragments gs) (header m n ++ y))) in
    let h = first_list cuts ds begun z gs m n y p.1 q.1 le all r lt above s.1 in
    omega (
      arith,
      h,
      ap (λ (x : Cut). length (encoding x)) s.0,
      length-append (encoding c ++ encodings cuts) (fragments begun),
      length-append (encoding c) (encodings cuts),
      length-append (encodings cuts) (fragments begun),
      length-append (encoding d ++ encodings ds) (fragments gs),
      length-append (encoding d) (encodings ds),
      length-append (encodings ds) (fragments gs),
    )

pub bad_above : (k : RecordsState) (stream : List ℕ) (taken at reason : ℕ) → RepresentsStream k stream taken → k.fault ≡ Some (Bad at reason) → (reason ≡ REASON_RECORD) × IsAboveAt stream at × ((other : ℕ) → IsAboveAt stream other → at ≤ other)
bad_above k stream taken at reason start bad = (s.state.1, here, first) where
  s : Stands (IsState (Some (Bad at reason)) k) k stream taken
  s = subst (λ (f : Option RecordFault). Stands (IsState f k) k stream taken) bad start

  a : IsAbove s.begun s.partial
  a = s.state.2

  e : List ℕ
  e = encodings s.cuts

  f : List ℕ
  f = fragments s.begun

  all : AllByRecursion IsShort s.begun
  all = all_short s.begun RECORD_MAX s.begun_within (omega arith)

  here : IsAboveAt stream at
  here = record {
    cuts = s.cuts;
    fit = all_fit s.cuts s.within;
    begun = s.begun;
    begun_fit = all;
    last = a.last;
    len = a.len;
    short = a.short;
    more = s.unread;
    above = a.above;
    stream_is = s.stream_is ∙ (ap (λ (l : List ℕ). l ++ s.unread) (sym (append_assoc e f s.partial)) ∙ (append_assoc (e ++ f) s.partial s.unread ∙ ap (λ (l : List ℕ). (e ++ f) ++ (l ++ s.unread)) a.partial_is));
    at_is = s.state.0;
  }

  first : (other : ℕ) → IsAboveAt stream other → at ≤ other
  first other b =
      let h = first_list s.cuts b.cuts s.begun (s.partial ++ s.unread) b.begun b.last b.len b.more s.within b.fit s.begun_within all b.begun_fit b.short b.above
      (sym (s.stream_is ∙ (append_assoc e (f ++ s.partial) s.unread ∙ ap (λ (l : List ℕ). e ++ l) (append_assoc f s.partial s.unread))) ∙ b.stream_is) in
      omega (arith, h, s.state.0, b.at_is)

pub answer_ok : (r : Result Unit RecordFault) (k : RecordsState) (stream : List ℕ) (taken : ℕ) → RepresentsStream k stream taken → OnOk r (k.fault ≡ None) → OnOk r ((at : ℕ) → ¬ (IsAboveAt stream at))
answer_ok (Ok x) k stream taken s e = λ at. none_above k stream taken at s e
answer_ok (Err f) k stream taken s e = tt

pub answer_err : (r : Result Unit RecordFault) (k : RecordsState) (stream : List ℕ) (taken : ℕ) → RepresentsStream k stream taken → IfErr r (λ fault. k.fault ≡ Some fault) → IfErr r (IsFaultOf stream)
answer_err (Ok x) k stream taken s e = tt
answer_err (Err (Bad at reason)) k stream taken s e = bad_above k stream taken at reason s e
answer_err (Err Memory) k stream taken s e = tt
