-- The steps of a reading: what a step that didn't fail took.
use Rattle.std.proofs.Common.{◌≡◌, ℕ, ◌≤◌, cond, eqb, length, Result, Ok, Err, refl, subst, arith, inl, inr}
use Rattle.std.proofs.lemmas.Bool.{eqb-true}
use Rattle.nr_xdr.specs.Item.{IsBytes}
use Rattle.nr_xdr.specs.Item.Item.{Unsigned, Opaque}
use Rattle.nr_xdr.specs.Reading.{Cursor, Takes, opaque_at}
use Rattle.nr_xdr.proofs.Chains.{IsBytes_opaque}
use Rattle.nr_rpc.specs.Constants.{AUTH_BODY_MAX}
use Rattle.nr_rpc.specs.Credential.{Auth}
use Rattle.nr_xdr.specs.Sequencing.{◌>>=◌, or_place, number_at}
use Rattle.nr_xdr.proofs.SequencingSteps.{bind_ok, chosen, done, ok_is, number_step, number_again, opaque_step, opaque_placed}
use Rattle.nr_rpc.specs.Reading.{expect_at, pair_at, auth_at}

expect_ok : (wanted n : ℕ) (c d after : Cursor) → cond (eqb n wanted) (Ok d) (Err c.place) ≡ done after → (n ≡ wanted) × (d ≡ after)
expect_ok wanted n c d after e =
    elim (chosen (eqb n wanted) (Ok d) (Err c.place) (done after) e) [
      | inl way ↦ (eqb-true n wanted way.0, ok_is d after way.1)
      | inr way ↦ absurd (let wrong : Err c.place ≡ done after = way.1 in cc)
    ]

-- a number of a known value that was read, and what follows
pub expect_step : {B : Type 0} (wanted : ℕ) (c : Cursor) (f : Cursor → Result B ℕ) (y : B) → IsBytes c.rest → (expect_at wanted c >>= f) ≡ Ok y
    → (after : Cursor) × Takes c after (Unsigned wanted) × IsBytes after.rest × (f after ≡ Ok y)
unfolding expect_at
expect_step wanted c f y fits e =
    let a = bind_ok (expect_at wanted c) f y e in
    let n = number_step c (λ n. cond (eqb n.0 wanted) (Ok n.1) (Err c.place)) a.0 fits a.1 in
    let is = expect_ok wanted n.0.0 c n.0.1 a.0 n.3 in (
      a.0,
      subst (λ (d : Cursor). Takes c d (Unsigned wanted)) is.1 (subst (λ (m : ℕ). Takes c n.0.1 (Unsigned m)) is.0 n.1),
      subst (λ (d : Cursor). IsBytes d.rest) is.1 n.2,
      a.2,
    )

pub expect_again : (wanted : ℕ) (c after : Cursor) → Takes c after (Unsigned wanted) → expect_at wanted c ≡ Ok after
unfolding expect_at
expect_again wanted c after taken = rw (number_again c wanted after taken) (grind (arith))

-- two numbers that were read, and what follows
pub record TakesPair (first second : ℕ) (c after : Cursor) : Type 0 where
  pub behind_first : Cursor
  pub at_first : Takes c behind_first (Unsigned first)
  pub at_second : Takes behind_first after (Unsigned second)

pub pair_step : {B : Type 0} (c : Cursor) (f : (ℕ × ℕ) × Cursor → Result B ℕ) (y : B) → IsBytes c.rest → (pair_at c >>= f) ≡ Ok y
    → (x : (ℕ × ℕ) × Cursor) × TakesPair x.0.0 x.0.1 c x.1 × IsBytes x.1.rest × (f x ≡ Ok y)
unfolding pair_at
pair_step c f y fits e =
    let a = bind_ok (pair_at c) f y e in
    let first = number_step c (λ first. number_at first.1 >>= λ second. Ok ((first.0, second.0), second.1)) a.0 fits a.1 in
    let second = number_step first.0.1 (λ second. Ok ((first.0.0, second.0), second.1)) a.0 first.2 first.3 in
    let made : (ℕ × ℕ) × Cursor = ((first.0.0, second.0.0), second.0.1) in
    let taken : TakesPair first.0.0 second.0.0 c second.0.1 = record { behind_first = first.0.1; at_first = first.1; at_second = second.1 } in
    let is = ok_is made a.0 second.3 in (
      a.0,
      subst (λ (x : (ℕ × ℕ) × Cursor). TakesPair x.0.0 x.0.1 c x.1) is taken,
      subst (λ (x : (ℕ × ℕ) × Cursor). IsBytes x.1.rest) is second.2,
      a.2,
    )

pub pair_again : (first second : ℕ) (c middle after : Cursor) → Takes c middle (Unsigned first) → Takes middle after (Unsigned second) → pair_at c ≡ Ok ((first, second), after)
unfolding pair_at
pair_again first second c middle after at_first at_second = rw (number_again c first middle at_first, number_again middle second after at_second) refl

-- a flavor and a body that were read
pub record TakesAuth (auth : Auth) (c after : Cursor) : Type 0 where
  pub behind_flavor : Cursor
  pub flavor : Takes c behind_flavor (Unsigned auth.flavor)
  pub body : Takes behind_flavor after (Opaque auth.body)
  pub within : length auth.body ≤ AUTH_BODY_MAX

-- a flavor and a body that were read, and what follows
pub auth_step : {B : Type 0} (c : Cursor) (f : Auth × Cursor → Result B ℕ) (y : B) → IsBytes c.rest → (auth_at c >>= f) ≡ Ok y
    → (x : Auth × Cursor) × TakesAuth x.0 c x.1 × IsBytes x.0.body × IsBytes x.1.rest × (f x ≡ Ok y)
unfolding auth_at
auth_step c f y fits e =
    let a = bind_ok (auth_at c) f y e in
    let flavor = number_step c (λ flavor. or_place (opaque_at AUTH_BODY_MAX flavor.1) >>= λ body. Ok (record { flavor = flavor.0; body = body.0 }, body.1)) a.0 fits a.1 in
    let body = opaque_step AUTH_BODY_MAX flavor.0.1 (λ body. Ok (record { flavor = flavor.0.0; body = body.0 }, body.1)) a.0 flavor.2 flavor.3 in
    let made : Auth × Cursor = (record { flavor = flavor.0.0; body = body.0.0 }, body.0.1) in
    let taken : TakesAuth made.0 c made.1 = record { behind_flavor = flavor.0.1; flavor = flavor.1; body = body.1; within = body.2 } in
    let bytes : IsBytes body.0.0 = IsBytes_opaque flavor.0.1 body.0.1 body.0.0 body.1 flavor.2 in
    let is = ok_is made a.0 body.4 in (
      a.0,
      subst (λ (x : Auth × Cursor). TakesAuth x.0 c x.1) is taken,
      subst (λ (x : Auth × Cursor). IsBytes x.0.body) is bytes,
      subst (λ (x : Auth × Cursor). IsBytes x.1.rest) is body.3,
      a.2,
    )

pub auth_again : (auth : Auth) (c after : Cursor) → TakesAuth auth c after → auth_at c ≡ Ok (auth, after)
unfolding auth_at
auth_again auth c after t = rw (number_again c auth.flavor t.behind_flavor t.flavor, opaque_placed AUTH_BODY_MAX t.behind_flavor auth.body after t.within t.body) refl
