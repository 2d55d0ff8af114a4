-- The bytes of a call's buffers, and what holds of an Ok.
use Rattle.std.specs.Prelude.{Result, Ok, Err, IfOk, OnOk}
use Rattle.std.proofs.Common.{◌≡◌, ℕ, List, [], ◌++◌, ◌∙◌, append_assoc}
use Rattle.nr_requester.specs.declared.answer.Buffers.{Buffers}
use Rattle.nr_requester.specs.Buffers.{buffer_bytes, bytes_of_buffers}

pub joined : (b : Buffers) (x0 x1 x2 x3 s1 s2 s3 : List ℕ) → x0 ≡ [] → x1 ≡ x0 ++ s1 → x2 ≡ x1 ++ s2 → x3 ≡ x2 ++ s3 → s1 ≡ buffer_bytes b.read → s2 ≡ buffer_bytes b.write → s3 ≡ buffer_bytes b.reply → x3 ≡ bytes_of_buffers b
joined b x0 x1 x2 x3 s1 s2 s3 e0 e1 e2 e3 r w p =
    e3 ∙ (λ i. e2 i ++ p i) ∙ (λ i. (e1 i ++ w i) ++ buffer_bytes b.reply) ∙ (λ i. ((e0 i ++ r i) ++ buffer_bytes b.write) ++ buffer_bytes b.reply)
    ∙ append_assoc (buffer_bytes b.read) (buffer_bytes b.write) (buffer_bytes b.reply)

pub any_ok : {T E : Type 0} (r : Result T E) (P : Type 0) → P → OnOk r P
any_ok (Ok x) P h = h
any_ok (Err e) P h = tt

pub if_ok_as : {T E : Type 0} (r : Result T E) (P Q : T → Type 0) → ((x : T) → P x → Q x) → IfOk r P → IfOk r Q
if_ok_as (Ok x) P Q f h = f x h
if_ok_as (Err e) P Q f h = h
