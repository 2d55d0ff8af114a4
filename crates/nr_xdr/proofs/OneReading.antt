-- No reading begins another of its type: both would be read at one offset.
use Rattle.std.proofs.Common.{◌≡◌, ℕ, ◌+◌, List, ◌++◌, length, Result, Ok, refl, sym, ap, ◌∙◌, arith}
use Rattle.nr_xdr.specs.declared.fault.ItemFault.{ItemFault}
use Rattle.nr_xdr.specs.Item.{Item, Reads, AreOfOneType}
use Rattle.nr_xdr.specs.Item.Item.{Unsigned, Hyper, Boolean, Opaque, Fixed}
use Rattle.nr_xdr.specs.Reading.{Cursor, Takes, unsigned_at, hyper_at, boolean_at, opaque_at, fixed_at}
use Rattle.nr_xdr.proofs.Cursors.{ok_parts}
use Rattle.nr_xdr.proofs.Items.{unsigned_again, hyper_again, boolean_again, opaque_again, fixed_again}

at_front : List ℕ → Cursor
at_front rest = record { place = 0; rest = rest }

behind : List ℕ → List ℕ → Cursor
behind bytes more = record { place = 0 + length bytes; rest = more }

takes_front : (item : Item) (bytes more rest : List ℕ) → Reads item bytes → rest ≡ bytes ++ more → Takes (at_front rest) (behind bytes more) item
unfolding at_front behind
takes_front item bytes more rest reads e = record { bytes = bytes; reads = reads; rest = e; place = refl }

abbrev done : {A : Type 0} → A → Result A ItemFault
done x = Ok x

one_answer : {A : Type 0} (read : Result (A × Cursor) ItemFault) (x y : A) (c d : Cursor) → read ≡ Ok (x, c) → read ≡ Ok (y, d) → (x ≡ y) × (c ≡ d)
one_answer read x y c d e f = ok_parts x y c d (sym e ∙ f)

rest_of : (x y more others : List ℕ) → behind x more ≡ behind y others → more ≡ others
unfolding behind
rest_of x y more others e = ap (λ (c : Cursor). c.rest) e

pub one_reading_of : (a b : Item) (x y more others : List ℕ) → AreOfOneType a b → Reads a x → Reads b y → x ++ more ≡ y ++ others → (a ≡ b) × (more ≡ others)
one_reading_of (Unsigned m) (Unsigned n) x y more others h p q e =
    let c = at_front (x ++ more) in
    let one = one_answer (unsigned_at c) m n (behind x more) (behind y others)
    (unsigned_again c m (behind x more) (takes_front (Unsigned m) x more (x ++ more) p refl))
    (unsigned_again c n (behind y others) (takes_front (Unsigned n) y others (x ++ more) q e)) in
    (ap Unsigned one.0, rest_of x y more others one.1)
one_reading_of (Hyper m) (Hyper n) x y more others h p q e =
    let c = at_front (x ++ more) in
    let one = one_answer (hyper_at c) m n (behind x more) (behind y others)
    (hyper_again c m (behind x more) (takes_front (Hyper m) x more (x ++ more) p refl))
    (hyper_again c n (behind y others) (takes_front (Hyper n) y others (x ++ more) q e)) in
    (ap Hyper one.0, rest_of x y more others one.1)
one_reading_of (Boolean m) (Boolean n) x y more others h p q e =
    let c = at_front (x ++ more) in
    let one = one_answer (boolean_at c) m n (behind x more) (behind y others)
    (boolean_again c m (behind x more) (takes_front (Boolean m) x more (x ++ more) p refl))
    (boolean_again c n (behind y others) (takes_front (Boolean n) y others (x ++ more) q e)) in
    (ap Boolean one.0, rest_of x y more others one.1)
one_reading_of (Opaque m) (Opaque n) x y more others h p q e =
    let c = at_front (x ++ more) in
    let max = length m + length n in
    let one = one_answer (opaque_at max c) m n (behind x more) (behind y others)
    (opaque_again c max m (behind x more) (omega arith) (takes_front (Opaque m) x more (x ++ more) p refl))
    (opaque_again c max n (behind y others) (omega arith) (takes_front (Opaque n) y others (x ++ more) q e)) in
    (ap Opaque one.0, rest_of x y more others one.1)
one_reading_of (Fixed m) (Fixed n) x y more others h p q e =
    let c = at_front (x ++ more) in
    let one = one_answer (fixed_at (length n) c) m n (behind x more) (behind y others)
    (fixed_again c (length n) m (behind x more) h (takes_front (Fixed m) x more (x ++ more) p refl))
    (fixed_again c (length n) n (behind y others) refl (takes_front (Fixed n) y others (x ++ more) q e)) in
    (ap Fixed one.0, rest_of x y more others one.1)
one_reading_of _ _ x y more others h p q e = absurd h
