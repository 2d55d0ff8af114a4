-- Items that are written one after the other into a writer with room.
use Rattle.std.proofs.Common.{◌≡◌, ℕ, ◌+◌, ◌≤◌, ◌<◌, List, [], ◌∷◌, ◌++◌, length, drop, map, get_or, Result, Ok, Err, OnOk, OnErr, refl, sym, ap, subst, ◌∙◌, append_assoc, length-append, arith}
use Rattle.std.proofs.lemmas.List.{append-nil, drop_more, drop_all}
use Rattle.nr_xdr.specs.Item.{Item, encoding}
use Rattle.nr_xdr.specs.Item.Item.{Unsigned}
use Rattle.nr_xdr.specs.Items.{encodings}
use Rattle.nr_xdr.specs.Room.{Room, Appended}

pub encodings_append : (xs ys : List Item) → encodings (xs ++ ys) ≡ encodings xs ++ encodings ys
encodings_append [] ys = refl
encodings_append (x ∷ xs) ys = ap (λ (b : List ℕ). encoding x ++ b) (encodings_append xs ys) ∙ sym (append_assoc (encoding x) (encodings xs) (encodings ys))

pub size_append : (xs ys : List Item) → length (encodings (xs ++ ys)) ≡ length (encodings xs) + length (encodings ys)
size_append xs ys = ap length (encodings_append xs ys) ∙ length-append (encodings xs) (encodings ys)

-- nothing is appended
pub appended_nothing : (a : Room) → Appended a a []
appended_nothing a = record { is = sym (append-nil a.bytes); room = omega arith }

-- what is appended in two parts
pub appended_both : {a b c : Room} {x y : List ℕ} → Appended a b x → Appended b c y → Appended a c (x ++ y)
appended_both {a} {b} {c} {x} {y} p q = record {
  is = q.is ∙ ap (λ (z : List ℕ). z ++ y) p.is ∙ append_assoc a.bytes x y;
  room = omega (arith, p.room, q.room, length-append x y);
}

-- no room for the first part is none for both
pub lacks_more : (n : ℕ) (x y : List ℕ) → n < length x → n < length (x ++ y)
lacks_more n x y lt = omega (arith, lt, length-append x y)

-- nor is there, if there is none for the second after the first was written
pub lacks_then : {a b : Room} {x : List ℕ} (y : List ℕ) → Appended a b x → b.left < length y → a.left < length (x ++ y)
lacks_then {a} {b} {x} y p lt = omega (arith, lt, p.room, length-append x y)

-- the second part, after the first
pub ok_then : {E : Type 0} {a b : Room} {x z : List ℕ} (c : Room) (y : List ℕ) (r : Result (Unit {0}) E) → x ++ y ≡ z → Appended a b x → OnOk r (Appended b c y) → OnOk r (Appended a c z)
ok_then {E} {a} c y (Ok u) e p q = subst (Appended a c) e (appended_both p q)
ok_then c y (Err f) e p q = tt

pub err_then : {E : Type 0} {a b : Room} {x z : List ℕ} (y : List ℕ) (r : Result (Unit {0}) E) → x ++ y ≡ z → Appended a b x → OnErr r (b.left < length y) → OnErr r (a.left < length z)
err_then y (Ok u) e p q = tt
err_then {E} {a} y (Err f) e p q = subst (λ (w : List ℕ). a.left < length w) e (lacks_then y p q)

pub err_first : {z : List ℕ} (n : ℕ) (x y : List ℕ) → x ++ y ≡ z → n < length x → n < length z
err_first n x y e lt = subst (λ (w : List ℕ). n < length w) e (lacks_more n x y lt)

-- what holds, holds after an Err
pub on_refusal : {A E : Type 0} {Q : Type 0} (r : Result A E) → Q → OnErr r Q
on_refusal (Ok x) q = tt
on_refusal (Err e) q = q

-- ---- Numbers, written by a loop

abbrev words : List ℕ → List ℕ
words ns = encodings (map Unsigned ns)

-- what is left of the numbers at i, written after mid, is all of them written after old
pub record WordsLeft (old mid : Room) (ns : List ℕ) (i : ℕ) : Type 0 where
  pub bytes : mid.bytes ++ encodings (map Unsigned (drop i ns)) ≡ old.bytes ++ encodings (map Unsigned ns)
  pub room : old.left + length (encodings (map Unsigned (drop i ns))) ≤ mid.left + length (encodings (map Unsigned ns))

pub words_begin : (old : Room) (ns : List ℕ) → WordsLeft old old ns 0
words_begin old ns = record { bytes = refl; room = omega arith }

next_words : (ns : List ℕ) (i n : ℕ) → i < length ns → n ≡ get_or ns i 0 → words (drop i ns) ≡ encoding (Unsigned n) ++ words (drop (i + 1) ns)
next_words ns i n lt is =
    ap words (drop_more ns i 0 lt) ∙ ap (λ (m : ℕ). encoding (Unsigned m) ++ words (drop (i + 1) ns)) (sym is)

pub words_more : (old mid after : Room) (ns : List ℕ) (i n : ℕ) → i < length ns → n ≡ get_or ns i 0 → Appended mid after (encoding (Unsigned n)) → WordsLeft old mid ns i → WordsLeft old after ns (i + 1)
words_more old mid after ns i n lt is w so_far =
    let next = next_words ns i n lt is in
    let others = words (drop (i + 1) ns) in
    record {
      bytes = ap (λ (b : List ℕ). b ++ others) w.is ∙ append_assoc mid.bytes (encoding (Unsigned n)) others ∙ ap (λ (b : List ℕ). mid.bytes ++ b) (sym next) ∙ so_far.bytes;
      room = omega (arith, so_far.room, w.room, ap length next, length-append (encoding (Unsigned n)) others);
    }

pub words_done : (old mid : Room) (ns : List ℕ) (i : ℕ) → length ns ≤ i → WordsLeft old mid ns i → Appended old mid (encodings (map Unsigned ns))
words_done old mid ns i le so_far =
    let none : words (drop i ns) ≡ [] = ap words (drop_all i ns le) in
    record {
      is = sym (append-nil mid.bytes) ∙ ap (λ (b : List ℕ). mid.bytes ++ b) (sym none) ∙ so_far.bytes;
      room = omega (arith, so_far.room);
    }

pub words_fail : (old mid : Room) (ns : List ℕ) (i n : ℕ) → i < length ns → n ≡ get_or ns i 0 → mid.left < length (encoding (Unsigned n)) → WordsLeft old mid ns i → old.left < length (encodings (map Unsigned ns))
words_fail old mid ns i n lt is less so_far =
    omega (arith, so_far.room, less, ap length (next_words ns i n lt is), length-append (encoding (Unsigned n)) (words (drop (i + 1) ns)))
