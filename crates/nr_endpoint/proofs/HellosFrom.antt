-- A side after its peer's hello, case by case.
use Rattle.std.proofs.Common.{◌≡◌, ℕ, Bool, true, false, cond, not, Option, Result, Ok, Err, refl, ap}
use Rattle.nr_wire.specs.declared.hello.Side.{Side}
use Rattle.nr_wire.specs.declared.hello.Side.TheVariants.{Initiator, Responder}
use Rattle.nr_wire.specs.Hello.{Hello}
use Rattle.nr_link.specs.Frames.{Frame}
use Rattle.nr_endpoint.specs.Hellos.{has_same_sizes}
use Rattle.nr_endpoint.specs.LinkState.{LinkState}
use Rattle.nr_endpoint.specs.Judging.{agreed_with, has_other_sizes, with_other_sizes, with_hello_from, with_peer_hello}

-- a hello that is refused for what it says, one that is accepted, and one that agrees on other lengths of Sends than an earlier one
pub refused_from : (side : Side) (f : Frame) (reason : ℕ) (s : LinkState) → with_hello_from side f (Err reason) s ≡ with_peer_hello f (Err reason) s
refused_from Initiator f reason s = refl
refused_from Responder f reason s = refl

pub accepted_from : (side : Side) (f : Frame) (hello : Hello) (s : LinkState) → has_other_sizes side s hello.private ≡ false → with_hello_from side f (Ok hello) s ≡ with_peer_hello f (Ok hello) s
accepted_from Initiator f hello s is = refl
accepted_from Responder f hello s is = ap (λ (b : Bool). cond b (with_other_sizes f s) (with_peer_hello f (Ok hello) s)) is

pub other_from : (side : Side) (f : Frame) (hello : Hello) (s : LinkState) → has_other_sizes side s hello.private ≡ true → with_hello_from side f (Ok hello) s ≡ with_other_sizes f s
other_from Initiator f hello s is = absurd cc
other_from Responder f hello s is = ap (λ (b : Bool). cond b (with_other_sizes f s) (with_peer_hello f (Ok hello) s)) is

either_hello : (P : LinkState → Type 0) (b : Bool) (other same : LinkState) → (b ≡ true → P other) → P same → P (cond b other same)
either_hello P true other same is not = is refl
either_hello P false other same is not = not

-- a property of all of them
pub hello_by : (P : LinkState → Type 0) (side : Side) (f : Frame) (r : Result Hello ℕ) (s : LinkState) → P (with_peer_hello f r s) →
    ((hello : Hello) → side ≡ Responder → r ≡ Ok hello → has_other_sizes side s hello.private ≡ true → P (with_other_sizes f s)) → P (with_hello_from side f r s)
hello_by P Initiator f r s is other = is
hello_by P Responder f (Err reason) s is other = is
hello_by P Responder f (Ok hello) s is other =
    either_hello P (has_other_sizes Responder s hello.private) (with_other_sizes f s) (with_peer_hello f (Ok hello) s) (λ differs. other hello refl refl differs) is

pub hello_from : (P : LinkState → Type 0) (side : Side) (f : Frame) (r : Result Hello ℕ) (s : LinkState) → P (with_peer_hello f r s) → P (with_other_sizes f s) → P (with_hello_from side f r s)
hello_from P side f r s is other = hello_by P side f r s is (λ hello of whole differs. other)
