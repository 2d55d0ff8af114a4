-- A call with a read list: its reads, and what holds of the server once its sinks are registered.
use Rattle.std.proofs.Common.{◌≡◌, ◌≢◌, ℕ, ◌≤◌, Bool, true, false, not, ◌&&◌, ◌||◌, eqb, cond, List, [], ◌∷◌, ◌++◌, refl, sym, ap, ◌∙◌, arith}
use Rattle.std.specs.List.{AllByRecursion, list_any}
use Rattle.std.proofs.lemmas.Bool.{eqb-true, eq-eqb, ne_eqb}
use Rattle.std.proofs.lemmas.List.Sums.{sum_by-cons}
use Rattle.nr_header.specs.declared.header.ReadSegment.{ReadSegment}
use Rattle.std.specs.Prelude.{sum_by}
use Rattle.nr_reduce.specs.Chunks.{total_at, at_position}
use Rattle.nr_reduce.specs.OfferedRegions.{Region}
use Rattle.nr_reduce.specs.ServerState.{PendingCall, PendingRead}
use Rattle.nr_reduce.specs.ServerReads.{is_over, is_read, is_read_at, read_of, reads_from}

-- ---- Reads of one call

abbrev pub AreOf : ℕ → List PendingRead → Type 0
AreOf n reads = AllByRecursion (λ r. r.number ≡ n) reads

reads_one : (n : ℕ) (b : Bool) (r : PendingRead) (rest : List PendingRead) → r.number ≡ n → AreOf n rest → AreOf n (cond b [] (r ∷ []) ++ rest)
reads_one n true r rest own h = h
reads_one n false r rest own h = (own, h)

pub reads_own : (regions : List Region) (n : ℕ) (before read : List ReadSegment) → AreOf n (reads_from regions n before read)
reads_own regions n before [] = tt
reads_own regions n before (r ∷ read) =
    reads_one n (eqb r.length 0) (read_of regions n (total_at r.position before) r) (reads_from regions n (before ++ r ∷ []) read) refl (reads_own regions n (before ++ r ∷ []) read)

-- ---- Reads of another call change nothing of a call

any_other : (p : PendingRead → Bool) (reads new : List PendingRead) → list_any p new ≡ false → list_any p (reads ++ new) ≡ list_any p reads
any_other p [] new none = none
any_other p (r ∷ reads) new none = ap (λ (b : Bool). p r || b) (any_other p reads new none)

none_of_number : (n m : ℕ) (new : List PendingRead) → m ≢ n → AreOf n new → list_any (λ r. eqb r.number m) new ≡ false
none_of_number n m [] ne h = refl
none_of_number n m (r ∷ new) ne h = ap (λ (b : Bool). b || list_any (λ x. eqb x.number m) new) (ne_eqb r.number m (λ e. ne (sym e ∙ h.0))) ∙ none_of_number n m new ne h.1

none_at_number : (n m p : ℕ) (new : List PendingRead) → m ≢ n → AreOf n new → list_any (λ r. eqb r.number m && eqb r.position p) new ≡ false
none_at_number n m p [] ne h = refl
none_at_number n m p (r ∷ new) ne h =
    ap (λ (b : Bool). (b && eqb r.position p) || list_any (λ x. eqb x.number m && eqb x.position p) new) (ne_eqb r.number m (λ e. ne (sym e ∙ h.0))) ∙ none_at_number n m p new ne h.1

pub same_read : (n m : ℕ) (reads new : List PendingRead) → m ≢ n → AreOf n new → is_read (reads ++ new) m ≡ is_read reads m
same_read n m reads new ne h = ap (λ (b : Bool). not b) (any_other (λ r. eqb r.number m) reads new (none_of_number n m new ne h))

pub same_read_at : (n m p : ℕ) (reads new : List PendingRead) → m ≢ n → AreOf n new → is_read_at (reads ++ new) m p ≡ is_read_at reads m p
same_read_at n m p reads new ne h = ap (λ (b : Bool). not b) (any_other (λ r. eqb r.number m && eqb r.position p) reads new (none_at_number n m p new ne h))

any_pushed : (calls : List PendingCall) (c : PendingCall) (m : ℕ) → c.number ≢ m → list_any (λ x. eqb x.number m) (calls ++ c ∷ []) ≡ list_any (λ x. eqb x.number m) calls
any_pushed [] c m ne = ap (λ (b : Bool). b || false) (ne_eqb c.number m ne)
any_pushed (x ∷ calls) c m ne = ap (λ (b : Bool). eqb x.number m || b) (any_pushed calls c m ne)

-- a region of another call is over as before
pub over_unread : (calls : List PendingCall) (c : PendingCall) (reads new : List PendingRead) (g : Region) → g.call ≢ c.number → AreOf c.number new → is_over (calls ++ c ∷ []) (reads ++ new) g ≡ is_over calls reads g
over_unread calls c reads new g ne h =
    λ i. cond (any_pushed calls c g.call (λ e. ne (sym e)) i) (same_read c.number g.call reads new ne h i) (same_read_at c.number g.call g.position reads new ne h i)

-- ---- A chunk with bytes is read

-- the total of a position with an entry that has no bytes before the others
pub total_more : (r : ReadSegment) (read : List ReadSegment) (p : ℕ) → r.length ≡ 0 → total_at p read ≡ 0 → total_at p (r ∷ read) ≡ 0
unfolding total_at
total_more r read p none total = by (eqb r.position p)
  where
    rest : List ReadSegment
    rest = at_position p read

    by : (b : Bool) → sum_by (λ x. x.length) (cond b (r ∷ rest) rest) ≡ 0
    by true = sum_by-cons (λ (x : ReadSegment). x.length) r rest ∙ (let sum : sum_by (λ x. x.length) rest ≡ 0 = total in omega (arith, none, sum))
    by false = total

pub some_read : (regions : List Region) (n p : ℕ) (before read : List ReadSegment) → total_at p read ≢ 0 → list_any (λ r. eqb r.number n) (reads_from regions n before read) ≡ true
unfolding total_at
some_read regions n p before [] some = absurd (some refl)
some_read regions n p before (r ∷ read) some = by (some_read regions n p (before ++ r ∷ []) read) (eqb r.length 0) refl (eqb r.position p) refl
  where
    rest : List PendingRead
    rest = reads_from regions n (before ++ r ∷ []) read

    here : Bool → List PendingRead
    here b = cond b [] (read_of regions n (total_at r.position before) r ∷ []) ++ rest

    by : (total_at p read ≢ 0 → list_any (λ x. eqb x.number n) rest ≡ true) → (b : Bool) → eqb r.length 0 ≡ b → (c : Bool) → eqb r.position p ≡ c → list_any (λ x. eqb x.number n) (here (eqb r.length 0)) ≡ true
    by others true none c at = ap (λ (b : Bool). list_any (λ x. eqb x.number n) (here b)) none ∙ others (λ e. some (total_more r read p (eqb-true r.length 0 none) e))
    by others false long c at = ap (λ (b : Bool). list_any (λ x. eqb x.number n) (here b)) long ∙ ap (λ (b : Bool). b || list_any (λ x. eqb x.number n) rest) (eq-eqb n n refl)

-- ---- Calls that are ready

-- the number of a call that is ready is that of a pending one
pub ready_before : (n : ℕ) (calls : List PendingCall) (xid number : ℕ) → list_any (λ c. eqb c.xid xid) calls ≡ true → AllByRecursion (λ c. c.xid ≡ xid → c.number ≡ number) calls → AllByRecursion (λ c. c.number ≤ n) calls → number ≤ n
ready_before n [] xid number there own before = absurd cc
ready_before n (c ∷ calls) xid number there own before = by (λ (e : list_any (λ d. eqb d.xid xid) calls ≡ true). ready_before n calls xid number e own.1 before.1) (eqb c.xid xid) refl there
  where
    by : (list_any (λ d. eqb d.xid xid) calls ≡ true → number ≤ n) → (b : Bool) → eqb c.xid xid ≡ b → (b || list_any (λ d. eqb d.xid xid) calls) ≡ true → number ≤ n
    by rest true is e = (let same = own.0 (eqb-true c.xid xid is) in let le = before.0 in omega (arith, same, le))
    by rest false is e = rest e
