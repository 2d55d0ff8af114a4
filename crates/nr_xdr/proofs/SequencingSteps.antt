-- The steps of a reading: what a step that didn't fail took, and that what is taken is read.
use Rattle.std.proofs.Common.{◌≡◌, ℕ, ◌≤◌, Bool, true, false, cond, List, length, Result, Ok, Err, refl, ap, inl, inr, ◌⊎◌}
use Rattle.nr_xdr.specs.declared.fault.ItemFault.{ItemFault}
use Rattle.nr_xdr.specs.Item.{IsBytes}
use Rattle.nr_xdr.specs.Item.Item.{Unsigned, Hyper, Boolean, Opaque}
use Rattle.nr_xdr.specs.Reading.{Cursor, Takes, unsigned_at, hyper_at, boolean_at, opaque_at}
use Rattle.nr_xdr.specs.Sequencing.{◌>>=◌, or_place, number_at}
use Rattle.nr_xdr.proofs.Items.{unsigned_takes, unsigned_again, hyper_takes, hyper_again, boolean_takes, boolean_again, opaque_takes, opaque_again}
use Rattle.nr_xdr.proofs.Chains.{IsBytes_after}

-- the value of a step that did not fail
pub bind_ok : {A B : Type 0} (r : Result A ℕ) (f : A → Result B ℕ) (y : B) → (r >>= f) ≡ Ok y → (x : A) × (r ≡ Ok x) × (f x ≡ Ok y)
bind_ok (Ok x) f y e = (x, refl, e)
bind_ok (Err at) f y e = absurd cc

abbrev pub done : {A : Type 0} → A → Result A ℕ
done x = Ok x

pub ok_is : {A : Type 0} (x y : A) → done x ≡ done y → x ≡ y
ok_is x y e = cc

or_place_ok : {A : Type 0} (r : Result A ItemFault) (x : A) → or_place r ≡ Ok x → r ≡ Ok x
or_place_ok (Ok y) x e = ap Ok (ok_is y x e)
or_place_ok (Err fault) x e = absurd cc

-- which way a choice went
pub chosen : {A : Type 0} (b : Bool) (x y z : A) → cond b x y ≡ z → ((b ≡ true) × (x ≡ z)) ⊎ ((b ≡ false) × (y ≡ z))
chosen true x y z e = inl (refl, e)
chosen false x y z e = inr (refl, e)

-- Each step: what was read, that the cursor after it took the item, that bytes are left, and what follows.
pub number_step : {B : Type 0} (c : Cursor) (f : ℕ × Cursor → Result B ℕ) (y : B) → IsBytes c.rest → (number_at c >>= f) ≡ Ok y
    → (x : ℕ × Cursor) × Takes c x.1 (Unsigned x.0) × IsBytes x.1.rest × (f x ≡ Ok y)
number_step c f y fits e =
    let a = bind_ok (number_at c) f y e in
    let taken = unsigned_takes c a.0.0 a.0.1 fits (or_place_ok (unsigned_at c) a.0 a.1) in
    (a.0, taken, IsBytes_after c a.0.1 (Unsigned a.0.0) taken fits, a.2)

pub number_again : (c : Cursor) (n : ℕ) (after : Cursor) → Takes c after (Unsigned n) → number_at c ≡ Ok (n, after)
number_again c n after taken = ap or_place (unsigned_again c n after taken)

pub hyper_step : {B : Type 0} (c : Cursor) (f : ℕ × Cursor → Result B ℕ) (y : B) → IsBytes c.rest → (or_place (hyper_at c) >>= f) ≡ Ok y
    → (x : ℕ × Cursor) × Takes c x.1 (Hyper x.0) × IsBytes x.1.rest × (f x ≡ Ok y)
hyper_step c f y fits e =
    let a = bind_ok (or_place (hyper_at c)) f y e in
    let taken = hyper_takes c a.0.0 a.0.1 fits (or_place_ok (hyper_at c) a.0 a.1) in
    (a.0, taken, IsBytes_after c a.0.1 (Hyper a.0.0) taken fits, a.2)

pub hyper_placed : (c : Cursor) (n : ℕ) (after : Cursor) → Takes c after (Hyper n) → or_place (hyper_at c) ≡ Ok (n, after)
hyper_placed c n after taken = ap or_place (hyper_again c n after taken)

pub boolean_step : {B : Type 0} (c : Cursor) (f : Bool × Cursor → Result B ℕ) (y : B) → IsBytes c.rest → (or_place (boolean_at c) >>= f) ≡ Ok y
    → (x : Bool × Cursor) × Takes c x.1 (Boolean x.0) × IsBytes x.1.rest × (f x ≡ Ok y)
boolean_step c f y fits e =
    let a = bind_ok (or_place (boolean_at c)) f y e in
    let taken = boolean_takes c a.0.0 a.0.1 fits (or_place_ok (boolean_at c) a.0 a.1) in
    (a.0, taken, IsBytes_after c a.0.1 (Boolean a.0.0) taken fits, a.2)

pub boolean_placed : (c : Cursor) (b : Bool) (after : Cursor) → Takes c after (Boolean b) → or_place (boolean_at c) ≡ Ok (b, after)
boolean_placed c b after taken = ap or_place (boolean_again c b after taken)

pub opaque_step : {B : Type 0} (max : ℕ) (c : Cursor) (f : List ℕ × Cursor → Result B ℕ) (y : B) → IsBytes c.rest → (or_place (opaque_at max c) >>= f) ≡ Ok y
    → (x : List ℕ × Cursor) × Takes c x.1 (Opaque x.0) × (length x.0 ≤ max) × IsBytes x.1.rest × (f x ≡ Ok y)
opaque_step max c f y fits e =
    let a = bind_ok (or_place (opaque_at max c)) f y e in
    let taken = opaque_takes c max a.0.0 a.0.1 fits (or_place_ok (opaque_at max c) a.0 a.1) in
    (a.0, taken.0, taken.1, IsBytes_after c a.0.1 (Opaque a.0.0) taken.0 fits, a.2)

pub opaque_placed : (max : ℕ) (c : Cursor) (bytes : List ℕ) (after : Cursor) → length bytes ≤ max → Takes c after (Opaque bytes) → or_place (opaque_at max c) ≡ Ok (bytes, after)
opaque_placed max c bytes after le taken = ap or_place (opaque_again c max bytes after le taken)
