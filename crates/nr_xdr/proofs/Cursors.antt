-- A cursor goes on by the bytes of an item if and only if it takes the item.
use Rattle.std.proofs.Common.{◌≡◌, ℕ, ◌+◌, ◌≤◌, Bool, true, false, cond, List, ◌++◌, length, take, drop, Result, Ok, Err, IfOk, IsOkAnd, refl, sym, ap, ◌∙◌, arith}
use Rattle.std.proofs.lemmas.List.{take_at, drop_at, take-append-drop, length-append, length-take-le}
use Rattle.nr_xdr.specs.declared.fault.ItemFault.{ItemFault}
use Rattle.nr_xdr.specs.Item.{Item, Reads}
use Rattle.nr_xdr.specs.Reading.{Cursor, Takes, cursor_past, Gives}

-- a test that did not fail
pub guard_ok : {A : Type 0} (b : Bool) (d : ItemFault) (x : Result A ItemFault) (y : A) → cond b (Err d) x ≡ Ok y → (b ≡ false) × (x ≡ Ok y)
guard_ok true d x y e = absurd cc
guard_ok false d x y e = (refl, e)

abbrev done : {A : Type 0} → A → Result A ItemFault
done x = Ok x

ok_is : {A : Type 0} (x y : A) → done x ≡ done y → x ≡ y
ok_is x y e = cc

pub ok_parts : {A : Type 0} (x y : A) (c d : Cursor) → done {A = A × Cursor} (x, c) ≡ done {A = A × Cursor} (y, d) → (x ≡ y) × (c ≡ d)
ok_parts {A} x y c d e =
    let p : ◌≡◌ {A = A × Cursor} (x, c) (y, d) = ok_is {A = A × Cursor} (x, c) (y, d) e in
    (ap (λ (q : A × Cursor). q.0) p, ap (λ (q : A × Cursor). q.1) p)

pub cursor_is : (c d : Cursor) → c.place ≡ d.place → c.rest ≡ d.rest → c ≡ d
cursor_is c d e f =
    let by_place = λ (p : ℕ). record c { place = p } in
    let by_rest = λ (r : List ℕ). record d { rest = r } in
    ap by_place e ∙ ap by_rest f

pub past_takes : (c : Cursor) (k : ℕ) (item : Item) → k ≤ length c.rest → Reads item (take k c.rest) → Takes c (cursor_past k c) item
unfolding cursor_past
past_takes c k item le reads = record {
  bytes = take k c.rest;
  reads = reads;
  rest = sym (take-append-drop k c.rest);
  place = ap (λ (n : ℕ). c.place + n) (sym (length-take-le k c.rest le));
}

-- what a cursor took was at its front, and it is after it
pub record Took (c after : Cursor) (bytes : List ℕ) (k : ℕ) : Type 0 where
  pub enough : k ≤ length c.rest
  pub front : take k c.rest ≡ bytes
  pub past : cursor_past k c ≡ after

pub takes_past : (c after : Cursor) (bytes : List ℕ) (k : ℕ) → c.rest ≡ bytes ++ after.rest → after.place ≡ c.place + length bytes → length bytes ≡ k → Took c after bytes k
unfolding cursor_past
takes_past c after bytes k rest place len = record {
  enough = omega (arith, ap length rest, length-append bytes after.rest);
  front = ap (take k) rest ∙ take_at bytes after.rest k len;
  past = cursor_is (cursor_past k c) after (ap (λ (n : ℕ). c.place + n) (sym len) ∙ sym place) (ap (drop k) rest ∙ drop_at bytes after.rest k len);
}

pub found_by : {X Y : Type 0} (view : X → Y) (r : Result X ItemFault) (old new : Cursor) (read : Result (Y × Cursor) ItemFault) (P : Y → Type 0) → ((y : Y) → read ≡ Ok (y, new) → P y) → Gives view r old new read → IfOk r (λ x. P (view x))
found_by view (Ok x) old new read P law g = law (view x) g
found_by view (Err e) old new read P law g = tt

pub only_by : {X Y : Type 0} (view : X → Y) (r : Result X ItemFault) (old new after : Cursor) (read : Result (Y × Cursor) ItemFault) (y : Y) → read ≡ Ok (y, after) → Gives view r old new read → IsOkAnd r (λ x. view x ≡ y) × (new ≡ after)
only_by view (Ok x) old new after read y e g = ok_parts (view x) y new after (sym g ∙ e)
only_by view (Err f) old new after read y e g = absurd (let wrong : Err f ≡ done {A = _ × Cursor} (y, after) = sym g.0 ∙ e in cc)
