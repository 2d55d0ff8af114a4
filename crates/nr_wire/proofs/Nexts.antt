-- What an answer says of the test, the reason and the value that it was made of.
use Rattle.std.proofs.Common.{◌≡◌, ℕ, Bool, true, false, cond, Option, None, Some, refl, ◌↔◌}
use Rattle.nr_wire.specs.Hello.{value_unless}
use Rattle.nr_wire.specs.Next.{Next, IfWhole, frame_answer}
use Rattle.nr_wire.specs.Next.Next.{Whole, More, Bad}

-- the answer if a frame is complete, its flaw, its value and its length
abbrev pub answer : {V : Type 0} → Bool → Option ℕ → V → ℕ → Next V
answer whole flaw value len = cond whole (frame_answer (value_unless flaw value) len) More

abbrev fine : {V : Type 0} → V → ℕ → Next V
fine value len = Whole value len

abbrev none : {V : Type 0} → Next V
none = More

abbrev some : ℕ → Option ℕ
some n = Some n

abbrev bad : {V : Type 0} → ℕ → Next V
bad reason = Bad reason

pub more_iff : {V : Type 0} (whole : Bool) (flaw : Option ℕ) (value : V) (len : ℕ) → (answer whole flaw value len ≡ More) ↔ (whole ≡ false)
more_iff {V} true None value len = (λ e. let wrong : fine value len ≡ none = e in cc, λ e. absurd cc)
more_iff {V} true (Some reason) value len = (λ e. let wrong : bad {V = V} reason ≡ none = e in cc, λ e. absurd cc)
more_iff false flaw value len = (λ e. refl, λ e. refl)

pub bad_iff : {V : Type 0} (whole : Bool) (flaw : Option ℕ) (value : V) (len reason : ℕ) → (answer whole flaw value len ≡ Bad reason) ↔ ((whole ≡ true) × (flaw ≡ Some reason))
bad_iff {V} true None value len reason = (λ e. absurd (let wrong : fine value len ≡ bad reason = e in cc), λ e. absurd (let wrong : None ≡ some reason = e.1 in cc))
bad_iff {V} true (Some r) value len reason = (λ e. (refl, let same : bad {V = V} r ≡ bad reason = e in cc), λ e. let same : some r ≡ some reason = e.1 in cc)
bad_iff {V} false flaw value len reason = (λ e. absurd (let wrong : none ≡ bad {V = V} reason = e in cc), λ e. absurd (let wrong : false ≡ true = e.0 in cc))

-- a complete frame without a flaw
pub record Fine {V : Type 0} (whole : Bool) (flaw : Option ℕ) (value found : V) (len n : ℕ) : Type 0 where
  pub whole_is : whole ≡ true
  pub flaw_is : flaw ≡ None
  pub value_is : value ≡ found
  pub len_is : len ≡ n

fine_parts : {V : Type 0} (value found : V) (len n : ℕ) → fine value len ≡ fine found n → (value ≡ found) × (len ≡ n)
fine_parts value found len n e = (cc, cc)

pub fine_from : {V : Type 0} (whole : Bool) (flaw : Option ℕ) (value found : V) (len n : ℕ) → answer whole flaw value len ≡ Whole found n → Fine whole flaw value found len n
fine_from true None value found len n e = let parts = fine_parts value found len n e in record { whole_is = refl; flaw_is = refl; value_is = parts.0; len_is = parts.1 }
fine_from {V} true (Some r) value found len n e = absurd (let wrong : bad {V = V} r ≡ fine found n = e in cc)
fine_from {V} false flaw value found len n e = absurd (let wrong : none {V = V} ≡ fine found n = e in cc)

pub whole_by : {V : Type 0} (whole : Bool) (flaw : Option ℕ) (value found : V) (len n : ℕ) → Fine whole flaw value found len n → answer whole flaw value len ≡ Whole found n
whole_by whole flaw value found len n f = λ i. answer (f.whole_is i) (f.flaw_is i) (f.value_is i) (f.len_is i)

-- a fact of what is complete follows from the equation with it
pub if_whole : {V : Type 0} (r : Next V) (P : V → ℕ → Type 0) → ((value : V) (len : ℕ) → r ≡ Whole value len → P value len) → IfWhole r P
if_whole (Whole value len) P law = law value len refl
if_whole More P law = tt
if_whole (Bad reason) P law = tt
