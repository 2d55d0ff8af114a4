-- A stream encodes its records in one way.
use Rattle.std.proofs.Common.{◌≡◌, ℕ, ◌+◌, ◌*◌, ◌^◌, ◌<◌, Bool, true, false, List, [], ◌∷◌, ◌++◌, length, take, drop, refl, sym, ap, ◌∙◌, append_assoc, append-nil, length-append, arith}
use Rattle.std.specs.List.{AllByRecursion}
use Rattle.std.proofs.lemmas.Bool.{true≢false, false≢true}
use Rattle.std.proofs.lemmas.List.{take_at, drop_at}
use Rattle.nr_xdr.specs.Item.{word_of, bit}
use Rattle.nr_xdr.proofs.WordBytes.{length_word, word_of_word}
use Rattle.nr_record.specs.Records.{header, fragment, fragments, Cut, encoding, IsShort, Fits, contents, encodings, IsBegun, RecordsEncode, as_one}

pub parts : (p q x y : List ℕ) (n : ℕ) → length p ≡ n → length q ≡ n → p ++ x ≡ q ++ y → (p ≡ q) × (x ≡ y)
parts p q x y n lp lq e = (sym (take_at p x n lp) ∙ (ap (take n) e ∙ take_at q y n lq), sym (drop_at p x n lp) ∙ (ap (drop n) e ∙ drop_at q y n lq))

pub same_header : (l m : Bool) (n k : ℕ) → n < 2 ^ 31 → k < 2 ^ 31 → header l n ≡ header m k → (l ≡ m) × (n ≡ k)
same_header l m n k a b e = by_bits l m (sym (word_of_word (2 ^ 31 * bit l + n) (small l n a)) ∙ (ap word_of e ∙ word_of_word (2 ^ 31 * bit m + k) (small m k b))) where
  small : (l : Bool) (n : ℕ) → n < 2 ^ 31 → 2 ^ 31 * bit l + n < 2 ^ 32
  small true n a = omega arith
  small false n a = omega arith

  by_bits : (l m : Bool) → 2 ^ 31 * bit l + n ≡ 2 ^ 31 * bit m + k → (l ≡ m) × (n ≡ k)
  by_bits true true e = (refl, omega (arith, e))
  by_bits true false e = absurd (omega (arith, e, a, b))
  by_bits false true e = absurd (omega (arith, e, a, b))
  by_bits false false e = (refl, omega (arith, e))

pub record SameFragment (l m : Bool) (a b x y : List ℕ) : Type 0 where
  pub last : l ≡ m
  pub payload : a ≡ b
  pub rest : x ≡ y

pub same_fragment : (l m : Bool) (a b x y : List ℕ) → IsShort a → IsShort b → fragment l a ++ x ≡ fragment m b ++ y → SameFragment l m a b x y
same_fragment l m a b x y p q e =
    let h = parts (header l (length a)) (header m (length b)) (a ++ x) (b ++ y) 4 (length_word (2 ^ 31 * bit l + length a)) (length_word (2 ^ 31 * bit m + length b))
    (sym (append_assoc (header l (length a)) a x) ∙ (e ∙ append_assoc (header m (length b)) b y)) in
    let s = same_header l m (length a) (length b) p q h.0 in
    let t = parts a b x y (length a) refl (sym s.1) h.1 in
    record { last = s.0; payload = t.0; rest = t.1 }

record SameCut (cs : List (List ℕ)) (a : List ℕ) (ds : List (List ℕ)) (b x y : List ℕ) : Type 0 where
  before : cs ≡ ds
  last : a ≡ b
  rest : x ≡ y

pub regrouped : (f g h x : List ℕ) → ((f ++ g) ++ h) ++ x ≡ f ++ ((g ++ h) ++ x)
regrouped f g h x = ap (λ (l : List ℕ). l ++ x) (append_assoc f g h) ∙ append_assoc f (g ++ h) x

same_cut : (cs : List (List ℕ)) (a : List ℕ) (ds : List (List ℕ)) (b x y : List ℕ) → AllByRecursion IsShort cs → IsShort a → AllByRecursion IsShort ds → IsShort b
    → (fragments cs ++ fragment true a) ++ x ≡ (fragments ds ++ fragment true b) ++ y → SameCut cs a ds b x y
same_cut [] a [] b x y a_all a_short b_all b_short e = let s = same_fragment true true a b x y a_short b_short e in record { before = refl; last = s.payload; rest = s.rest }
same_cut [] a (d ∷ ds) b x y a_all a_short b_all b_short e =
    absurd (true≢false (same_fragment true false a d x ((fragments ds ++ fragment true b) ++ y) a_short b_all.0 (e ∙ regrouped (fragment false d) (fragments ds) (fragment true b) y)).last)
same_cut (c ∷ cs) a [] b x y a_all a_short b_all b_short e =
    absurd (false≢true (same_fragment false true c b ((fragments cs ++ fragment true a) ++ x) y a_all.0 b_short (sym (regrouped (fragment false c) (fragments cs) (fragment true a) x) ∙ e)).last)
same_cut (c ∷ cs) a (d ∷ ds) b x y a_all a_short b_all b_short e =
    let s = same_fragment false false c d ((fragments cs ++ fragment true a) ++ x) ((fragments ds ++ fragment true b) ++ y) a_all.0 b_all.0
    (sym (regrouped (fragment false c) (fragments cs) (fragment true a) x) ∙ (e ∙ regrouped (fragment false d) (fragments ds) (fragment true b) y)) in
    let t = same_cut cs a ds b x y a_all.1 a_short b_all.1 b_short s.rest in
    record { before = λ i. s.payload i ∷ t.before i; last = t.last; rest = t.rest }

pub one_encoding : (c d : Cut) (x y : List ℕ) → Fits c → Fits d → encoding c ++ x ≡ encoding d ++ y → (c ≡ d) × (x ≡ y)
one_encoding c d x y p q e = let s = same_cut c.before c.last d.before d.last x y p.0 p.1 q.0 q.1 e in ((λ i. record { before = s.before i; last = s.last i }), s.rest)

-- the rest is shorter than any encoding that it begins
pub no_more : (d : Cut) (more rest : List ℕ) → Fits d → IsBegun rest → ¬ (rest ≡ encoding d ++ more)
no_more d more rest fits b e =
    let whole : encoding d ++ (more ++ b.missing) ≡ encoding b.cut ++ [] =
    sym (append_assoc (encoding d) more b.missing) ∙ (ap (λ (l : List ℕ). l ++ b.missing) (sym e) ∙ (sym b.encoded ∙ sym (append-nil (encoding b.cut)))) in
    let s = one_encoding d b.cut (more ++ b.missing) [] fits b.fits whole in
    absurd (omega (arith, ap length s.1, length-append more b.missing, b.some))

pub one_list : (cs ds : List Cut) (rest left : List ℕ) → AllByRecursion Fits cs → AllByRecursion Fits ds → IsBegun rest → IsBegun left → encodings cs ++ rest ≡ encodings ds ++ left → (cs ≡ ds) × (rest ≡ left)
one_list [] [] rest left p q a b e = (refl, e)
one_list [] (d ∷ ds) rest left p q a b e = absurd (no_more d (encodings ds ++ left) rest q.0 a (e ∙ append_assoc (encoding d) (encodings ds) left))
one_list (c ∷ cs) [] rest left p q a b e = absurd (no_more c (encodings cs ++ rest) left p.0 b (sym e ∙ append_assoc (encoding c) (encodings cs) rest))
one_list (c ∷ cs) (d ∷ ds) rest left p q a b e =
    let s = one_encoding c d (encodings cs ++ rest) (encodings ds ++ left) p.0 q.0 (sym (append_assoc (encoding c) (encodings cs) rest) ∙ (e ∙ append_assoc (encoding d) (encodings ds) left)) in
    let t = one_list cs ds rest left p.1 q.1 a b s.1 in
    ((λ i. s.0 i ∷ t.0 i), t.1)

pub one_reading : (bytes : List ℕ) (records others : List (List ℕ)) (rest left : List ℕ) → RecordsEncode bytes records rest → RecordsEncode bytes others left → (records ≡ others) × (rest ≡ left)
one_reading bytes records others rest left r s =
    let t = one_list r.cuts s.cuts rest left r.fit s.fit r.begun s.begun (sym r.bytes_are ∙ s.bytes_are) in
    (r.records_are ∙ (ap contents t.0 ∙ sym s.records_are), t.1)

-- nothing is begun
pub begun_none : IsBegun []
begun_none = record { cut = record { before = []; last = [] }; fits = (tt, omega arith); missing = fragment true []; some = omega (arith, length-append (header true 0) [], length_word (2 ^ 31 * bit true + 0)); encoded = refl }

pub written : (records : List (List ℕ)) → AllByRecursion IsShort records → RecordsEncode (encodings (as_one records)) records []
written records short = record { cuts = as_one records; fit = fit records short; records_are = same records; bytes_are = sym (append-nil (encodings (as_one records))); begun = begun_none } where
  fit : (rs : List (List ℕ)) → AllByRecursion IsShort rs → AllByRecursion Fits (as_one rs)
  fit [] all = tt
  fit (r ∷ rs) all = ((tt, all.0), fit rs all.1)

  same : (rs : List (List ℕ)) → rs ≡ contents (as_one rs)
  same [] = refl
  same (r ∷ rs) = ap (λ (l : List (List ℕ)). r ∷ l) (same rs)
