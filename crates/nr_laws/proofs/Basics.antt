-- Facts of lists, options and numbers that several proofs take.
use Rattle.std.proofs.Common.{◌≡◌, ◌≢◌, ℕ, zero, suc, ◌<◌, Bool, true, false, ◌&&◌, cond, eqb, List, [], ◌∷◌, ◌++◌, take, drop, Option, None, Some, refl, sym, ◌∙◌, arith}
use Rattle.std.specs.List.{AllByRecursion, filter}

pub first_is_lem : {X : Type 0} (a b : X) (xs ys : List X) → a ∷ xs ≡ b ∷ ys → a ≡ b
first_is_lem a b xs ys e = cc

pub rest_is_lem : {X : Type 0} (a b : X) (xs ys : List X) → a ∷ xs ≡ b ∷ ys → xs ≡ ys
rest_is_lem a b xs ys e = cc

pub some_is_lem : {X : Type 0} (x y : X) → Some x ≡ Some y → x ≡ y
some_is_lem x y e = cc

pub some_not : {X : Type 0} (x : X) → Some x ≢ None
some_not x e = cc

pub none_some_lem : {X : Type 0} (x : X) (o : Option X) → o ≡ None → o ≡ Some x → ⊥
none_some_lem x o none some = (let wrong : None ≡ Some x = sym none ∙ some in cc)

pub none_one_lem : {X W : Type 0} (x : X) (xs : List X) → xs ≡ [] → xs ≡ x ∷ [] → W
none_one_lem x xs none one = absurd (let wrong : [] ≡ x ∷ [] = sym none ∙ one in cc)

pub above_zero : (n : ℕ) → eqb n 0 ≡ false → 0 < n
above_zero zero e = absurd cc
above_zero (suc n) e = omega arith

pub and_false : (b c : Bool) → b ≡ false → (b && c) ≡ false
and_false true c e = absurd cc
and_false false c e = refl

pub and_second : (b c : Bool) → c ≡ false → (b && c) ≡ false
and_second true c e = e
and_second false c e = refl

pub each_append : {X : Type 0} (P : X → Type 0) (xs ys : List X) → AllByRecursion P xs → AllByRecursion P ys → AllByRecursion P (xs ++ ys)
each_append P [] ys h k = k
each_append P (x ∷ xs) ys h k = (h.0, each_append P xs ys h.1 k)

pub each_right : {X : Type 0} (P : X → Type 0) (xs ys : List X) → AllByRecursion P (xs ++ ys) → AllByRecursion P ys
each_right P [] ys h = h
each_right P (x ∷ xs) ys h = each_right P xs ys h.1

pub each_take : {X : Type 0} (P : X → Type 0) (n : ℕ) (xs : List X) → AllByRecursion P xs → AllByRecursion P (take n xs)
each_take P zero xs h = tt
each_take P (suc n) [] h = tt
each_take P (suc n) (x ∷ xs) h = (h.0, each_take P n xs h.1)

pub each_drop : {X : Type 0} (P : X → Type 0) (n : ℕ) (xs : List X) → AllByRecursion P xs → AllByRecursion P (drop n xs)
each_drop P zero xs h = h
each_drop P (suc n) [] h = tt
each_drop P (suc n) (x ∷ xs) h = each_drop P n xs h.1

pub each_all : {X : Type 0} (P Q : X → Type 0) (xs : List X) → ((x : X) → P x → Q x) → AllByRecursion P xs → AllByRecursion Q xs
each_all P Q [] f h = tt
each_all P Q (x ∷ xs) f h = (f x h.0, each_all P Q xs f h.1)

-- two lists, split at an element of one of them
pub data PartedTwo {X : Type 0} (xs ys pre : List X) (m : X) (post : List X) : Type 0 where
  InFirst : (more : List X) → xs ≡ pre ++ m ∷ more → PartedTwo xs ys pre m post
  InSecond : (rest : List X) → pre ≡ xs ++ rest → ys ≡ rest ++ m ∷ post → PartedTwo xs ys pre m post

two_more : {X : Type 0} (x z : X) (xs ys pre : List X) (m : X) (post : List X) → x ≡ z → PartedTwo xs ys pre m post → PartedTwo (x ∷ xs) ys (z ∷ pre) m post
two_more x z xs ys pre m post e (InFirst more is) = InFirst more (λ i. e i ∷ is i)
two_more x z xs ys pre m post e (InSecond rest is then) = InSecond rest (λ i. sym e i ∷ is i) then

pub parted_two : {X : Type 0} (xs ys pre : List X) (m : X) (post : List X) → xs ++ ys ≡ pre ++ m ∷ post → PartedTwo xs ys pre m post
parted_two [] ys pre m post e = InSecond pre refl e
parted_two (x ∷ xs) ys [] m post e = InFirst xs (λ i. first_is_lem x m (xs ++ ys) post e i ∷ xs)
parted_two (x ∷ xs) ys (p ∷ pre) m post e = two_more x p xs ys pre m post (first_is_lem x p (xs ++ ys) (pre ++ m ∷ post) e) (parted_two xs ys pre m post (rest_is_lem x p (xs ++ ys) (pre ++ m ∷ post) e))

pub each_filter : {X : Type 0} (P Q : X → Type 0) (p : X → Bool) (xs : List X) → ((x : X) → p x ≡ true → P x → Q x) → AllByRecursion P xs → AllByRecursion Q (filter p xs)
each_filter {X} P Q p [] f h = tt
each_filter {X} P Q p (x ∷ xs) f h = by (p x) refl (each_filter P Q p xs f h.1)
  where
    by : (b : Bool) → p x ≡ b → AllByRecursion Q (filter p xs) → AllByRecursion Q (cond b (x ∷ filter p xs) (filter p xs))
    by true e rest = (f x e h.0, rest)
    by false e rest = rest

pub each_kept : {X : Type 0} (P : X → Type 0) (p : X → Bool) (xs : List X) → AllByRecursion P xs → AllByRecursion P (filter p xs)
each_kept P p xs h = each_filter P P p xs (λ x e k. k) h
