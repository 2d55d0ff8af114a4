-- A Send has at least one byte, so one that becomes due ends later than what was written.
use Rattle.std.proofs.Common.{ℕ, zero, suc, ◌+◌, ◌*◌, ◌<◌, ◌≤◌, Bool, true, false, cond, eqb, List, [], ◌∷◌, ◌++◌, length, arith, length-append}
use Rattle.std.specs.List.{AllByRecursion, flat_map, range_with_len}
use Rattle.std.proofs.Math.Nat.{le-max_left}
use Rattle.nr_wire.specs.Fields.{half_word}
use Rattle.nr_wire.specs.Segment.{Segment, encoding, ulpdu_size}
use Rattle.nr_wire.proofs.HalfWords.{length_half_word}
use Rattle.nr_link.specs.Limits.{segment_max}
use Rattle.nr_link.specs.Output.{cut, send, segment_count, segment_payload}
use Rattle.nr_reduce.specs.declared.mark.LinkParameters.{LinkParameters}
use Rattle.nr_reduce.specs.History.{AcceptedCall}
use Rattle.nr_reduce.specs.ClientState.{OutstandingCall, ClientState}
use Rattle.nr_reduce.specs.Client.{call_output, call_ends, outstanding_of, submitted_ends}

longer : (xs ys : List ℕ) → 0 < length xs → 0 < length (xs ++ ys)
longer xs ys lt = (let both = length-append xs ys in omega (arith, both, lt))

two_bytes : (n : ℕ) (rest : List ℕ) → 0 < length (half_word n ++ rest)
two_bytes n rest = longer (half_word n) rest (let two = length_half_word n in omega (arith, two))

segment_some : (s : Segment) → 0 < length (encoding s)
unfolding encoding half_word
segment_some s = two_bytes (ulpdu_size s) _

any_some : (f : ℕ → List ℕ) → ((i : ℕ) → 0 < length (f i)) → (n : ℕ) → 1 ≤ n → 0 < length (flat_map f (range_with_len 0 n))
any_some f some zero le = absurd (omega (arith, le))
any_some f some (suc n) le = longer (f 0) (flat_map f (range_with_len 1 n)) (some 0)

cut_some_lem : (segment : Bool → ℕ → List ℕ → Segment) (bytes : List ℕ) → 0 < length (cut segment bytes)
unfolding cut
cut_some_lem segment bytes =
    any_some (λ (i : ℕ). encoding (segment (eqb (i + 1) (segment_count bytes)) (segment_max * i) (segment_payload bytes i)))
    (λ i. segment_some (segment (eqb (i + 1) (segment_count bytes)) (segment_max * i) (segment_payload bytes i))) (segment_count bytes) (le-max_left 1 _)

send_some : (msn : ℕ) (message : List ℕ) → 0 < length (send msn message)
unfolding send
send_some msn message = cut_some_lem _ message

call_some : (opened : LinkParameters) (msn : ℕ) (o : OutstandingCall) → 0 < length (call_output opened msn o)
call_some opened msn o = send_some msn _

pub calls_later : (opened : LinkParameters) (written due msn : ℕ) (os : List OutstandingCall) → written ≤ due → AllByRecursion (λ end. written < end) (call_ends opened due msn os)
calls_later opened written due msn [] le = tt
calls_later opened written due msn (o ∷ os) le =
    let some : 0 < length (call_output opened msn o) = call_some opened msn o in
    ((omega (arith, le, some)), calls_later opened written (due + length (call_output opened msn o)) (msn + 1) os (omega (arith, le)))

pub submit_later : (opened : LinkParameters) (k : ClientState) (a : AcceptedCall) → k.written ≤ k.due → AllByRecursion (λ end. k.written < end) (submitted_ends opened k a)
submit_later opened k a le = by k.has_hello
  where
    by : (b : Bool) → AllByRecursion (λ end. k.written < end) (cond b ((k.due + length (cond b (call_output opened (k.sends + 1) (outstanding_of k a)) [])) ∷ []) [])
    by true = (let some : 0 < length (call_output opened (k.sends + 1) (outstanding_of k a)) = call_some opened (k.sends + 1) (outstanding_of k a) in (omega (arith, le, some), tt))
    by false = tt
