-- The bytes of a begun Send, and of a message in its buffer.
use Rattle.std.proofs.Common.{◌≡◌, ℕ, ◌+◌, ◌-◌, ◌<◌, ◌≤◌, List, [], ◌++◌, length, take, drop, replicate, Option, None, Some, IfSome, inl, inr, refl, ap, sym, subst, ◌∙◌, arith, append_assoc, length-append, length-drop}
use Rattle.std.proofs.lemmas.List.{length-take, length-replicate, take_all, take_at, take-take, take-append-le, drop_all, append-nil}
use Rattle.std.proofs.Math.Seq.{take-append-add}
use Rattle.std.proofs.lemmas.Bool.{cases_lt}
use Rattle.nr_link.specs.KeptSends.{kept_within, begun_within}
use Rattle.nr_endpoint.specs.Receives.{IsReceive}
use Rattle.nr_endpoint.specs.Views.{begun_send, begun}
use Rattle.nr_endpoint.specs.declared.receive_queue.BegunSend.{BegunSend}

-- the first bytes of some, with more after them
first_kept : (n m : ℕ) (x d : List ℕ) → length x ≡ m → take m (take n (x ++ d)) ≡ take n x
first_kept n m x d h =
    elim (cases_lt m n) [
      | inl lt ↦ take-take m n (x ++ d) (omega arith) ∙ (take_at x d m h ∙ sym (take_all n x (omega arith)))
      | inr le ↦ take_all m (take n (x ++ d)) (omega (arith, length-take n (x ++ d))) ∙ take-append-le n x d (omega arith)
    ]

no_zeros : (a : List ℕ) (n : ℕ) → n ≡ 0 → a ++ replicate n 0 ≡ a
no_zeros a n z = rw z (append-nil a)

-- nothing came of a Send that is just begun
pub nothing_begun : (n : ℕ) (buf : List ℕ) → begun_send n (record { buf = buf; len = 0 }) ≡ []
nothing_begun n buf = no_zeros [] (0 - n) (omega arith)

pub begun_send_len : (n : ℕ) (b : BegunSend) → length b.buf ≡ n → length (begun_send n b) ≡ b.len
begun_send_len n b h =
    omega (arith, length-append (take b.len b.buf) (replicate (b.len - n) 0), length-take b.len b.buf, length-replicate {A = ℕ} (b.len - n) 0)

-- bytes that are written into a buffer: all of them if they fit it, or else its rest
pub written_all : (n : ℕ) (buf bytes : List ℕ) (at : ℕ) → length buf ≡ n → at < n → length bytes ≤ n - at →
    take at buf ++ (bytes ++ drop (at + length bytes) buf) ≡ take n (take at buf ++ (bytes ++ drop (at + length bytes) buf))
written_all n buf bytes at h lt fits =
    sym (take_all n (take at buf ++ (bytes ++ drop (at + length bytes) buf))
    (omega (arith, length-append (take at buf) (bytes ++ drop (at + length bytes) buf), length-append bytes (drop (at + length bytes) buf), length-take at buf, length-drop (at + length bytes) buf)))

pub written_part : (n : ℕ) (buf bytes : List ℕ) (at : ℕ) → length buf ≡ n → at < n → n - at < length bytes →
    take at buf ++ (take (n - at) bytes ++ drop (at + length (take (n - at) bytes)) buf) ≡ take n (take at buf ++ (bytes ++ drop (at + length bytes) buf))
written_part n buf bytes at h lt past =
    let none : drop (at + length (take (n - at) bytes)) buf ≡ [] = drop_all (at + length (take (n - at) bytes)) buf (omega (arith, length-take (n - at) bytes)) in
    let left : take at buf ++ (take (n - at) bytes ++ drop (at + length (take (n - at) bytes)) buf) ≡ take at buf ++ take (n - at) bytes =
    rw (none, append-nil (take (n - at) bytes)) refl in
    let count : length (take at buf) + (n - at) ≡ n = omega (arith, length-take at buf) in
    let right : take n (take at buf ++ (bytes ++ drop (at + length bytes) buf)) ≡ take at buf ++ take (n - at) (bytes ++ drop (at + length bytes) buf) =
    subst (λ (m : ℕ). take m (take at buf ++ (bytes ++ drop (at + length bytes) buf)) ≡ take at buf ++ take (n - at) (bytes ++ drop (at + length bytes) buf)) count
    (take-append-add (take at buf) (bytes ++ drop (at + length bytes) buf) (n - at)) in
    let first : take (n - at) (bytes ++ drop (at + length bytes) buf) ≡ take (n - at) bytes = take-append-le (n - at) bytes (drop (at + length bytes) buf) (omega arith) in
    left ∙ sym (right ∙ (λ i. take at buf ++ first i))

-- a payload that begins within the buffer
pub extended_within : (n : ℕ) (buf p : List ℕ) (len : ℕ) → length buf ≡ n → len < n →
    begun_send n (record { buf = take n (take len buf ++ (p ++ drop (len + length p) buf)); len = len + length p }) ≡ kept_within n (begun_send n (record { buf = buf; len = len }) ++ p)
extended_within n buf p len h lt =
    let before : take len buf ++ replicate (len - n) 0 ≡ take len buf = no_zeros (take len buf) (len - n) (omega arith) in
    let count : length (take len buf ++ p) ≡ len + length p = omega (arith, length-append (take len buf) p, length-take len buf) in
    let bytes : take (len + length p) (take n (take len buf ++ (p ++ drop (len + length p) buf))) ≡ take n (take len buf ++ p) =
    rw (← append_assoc (take len buf) p (drop (len + length p) buf)) (first_kept n (len + length p) (take len buf ++ p) (drop (len + length p) buf) count) in
    (λ i. bytes i ++ replicate (sym count i - n) 0) ∙ (λ i. kept_within n (sym before i ++ p))

-- a payload that begins beyond the buffer
pub extended_past : (n : ℕ) (buf p : List ℕ) (len : ℕ) → length buf ≡ n → n ≤ len →
    begun_send n (record { buf = buf; len = len + length p }) ≡ kept_within n (begun_send n (record { buf = buf; len = len }) ++ p)
extended_past n buf p len h le =
    let all : take len buf ≡ buf = take_all len buf (omega arith) in
    let more : take (len + length p) buf ≡ buf = take_all (len + length p) buf (omega arith) in
    let begun_len : length (take len buf ++ replicate (len - n) 0) ≡ len = begun_send_len n (record { buf = buf; len = len }) h in
    let count : length ((take len buf ++ replicate (len - n) 0) ++ p) ≡ len + length p =
    omega (arith, length-append (take len buf ++ replicate (len - n) 0) p) in
    let bytes : take n ((take len buf ++ replicate (len - n) 0) ++ p) ≡ buf =
    rw (all, append_assoc buf (replicate (len - n) 0) p) (take_at buf (replicate (len - n) 0 ++ p) n h) in
    λ i. (more ∙ sym bytes) i ++ replicate (sym count i - n) 0

pub kept_short : (n : ℕ) (x : List ℕ) → length x ≤ n → kept_within n x ≡ x
kept_short n x le = (λ i. take_all n x le i ++ replicate (length x - n) 0) ∙ no_zeros x (length x - n) (omega arith)

-- a message that fits its buffer is the first bytes of it
pub message_bytes : (n : ℕ) (b : BegunSend) (x : List ℕ) → begun_send n b ≡ kept_within n x → b.len ≡ length x → length x ≤ n → take b.len b.buf ≡ x
message_bytes n b x e count le = sym (no_zeros (take b.len b.buf) (b.len - n) (omega arith)) ∙ (e ∙ kept_short n x le)

-- what is kept of a begun Send is kept by later segments
pub kept_same : (n : ℕ) (b : BegunSend) → length b.buf ≡ n → kept_within n (begun_send n b) ≡ begun_send n b
kept_same n b h =
    elim (cases_lt b.len n) [
      | inl lt ↦ kept_short n (begun_send n b) (omega (arith, begun_send_len n b h))
      | inr le ↦ (let all : take b.len b.buf ≡ b.buf = take_all b.len b.buf (omega arith) in
          let bytes : take n (take b.len b.buf ++ replicate (b.len - n) 0) ≡ take b.len b.buf =
          rw all (take_at b.buf (replicate (b.len - n) 0) n h) in
          λ i. bytes i ++ replicate (begun_send_len n b h i - n) 0)
    ]

pub kept_begun : (n : ℕ) (b : Option BegunSend) → IfSome b (λ b. IsReceive n b.buf) → begun_within n (begun n b) ≡ begun n b
kept_begun n None h = refl
kept_begun n (Some b) h = ap Some (kept_same n b h)
