-- The ends above what is written: what a side adds to its output is above, and a Wrote of everything leaves none.
use Rattle.std.proofs.Common.{◌≡◌, ℕ, zero, suc, ◌+◌, ◌≤◌, ◌<◌, Bool, true, false, cond, leb, ltb, ◌⊎◌, inl, inr, List, [], ◌∷◌, ◌++◌, length, Option, None, Some, refl, ap, ◌∙◌, arith, length-append, lt-ltb, le-ltb}
use Rattle.std.specs.List.{filter, flat_map, range_with_len}
use Rattle.std.proofs.lemmas.Bool.{le-leb, lt-leb, cases_lt}
use Rattle.nr_wire.specs.Fields.{half_word}
use Rattle.nr_wire.specs.Segment.{Segment, encoding}
use Rattle.nr_link.specs.Output.{cut, segment_count, send, read_response, send_by, send_invalidating}
use Rattle.nr_link.specs.ReceiveState.{ReadRequest}
use Rattle.nr_header.specs.declared.header.ChunkLists.{ChunkLists}
use Rattle.nr_reduce.specs.declared.mark.LinkParameters.{LinkParameters}
use Rattle.nr_reduce.specs.History.{ExecutedCall}
use Rattle.nr_reduce.specs.Holds.{Answer, answer_message, answer_writes}
use Rattle.nr_reduce.specs.Written.{ends_written, ends_waiting}
use Rattle.nr_reduce.specs.ClientState.{ClientState, OutstandingCall}
use Rattle.nr_reduce.specs.Client.{call_output, call_ends, response_output}
use Rattle.nr_rpc.specs.Reading.{call_of, target_of}
use Rattle.nr_reduce.specs.ServerState.{ServerState, credit_word}
use Rattle.nr_reduce.specs.Server.{send_ends_from, offer_of, answer_of_target, answer_output, execution_output, stag_named}

abbrev pub AreAbove : ℕ → List ℕ → Type 0
AreAbove n [] = Unit {0}
AreAbove n (end ∷ ends) = (n < end) × AreAbove n ends

pub waiting_append : (n : ℕ) (xs ys : List ℕ) → ends_waiting n (xs ++ ys) ≡ ends_waiting n xs + ends_waiting n ys
waiting_append n [] ys = omega arith
waiting_append n (x ∷ xs) ys = by (ltb n x) (waiting_append n xs ys)
  where
    by : (b : Bool) → ends_waiting n (xs ++ ys) ≡ ends_waiting n xs + ends_waiting n ys
        → length (cond b (x ∷ filter (ltb n) (xs ++ ys)) (filter (ltb n) (xs ++ ys))) ≡ length (cond b (x ∷ filter (ltb n) xs) (filter (ltb n) xs)) + ends_waiting n ys
    by true h = omega (arith, h)
    by false h = h

pub all_waiting_lem : (n : ℕ) (ends : List ℕ) → AreAbove n ends → ends_waiting n ends ≡ length ends
all_waiting_lem n [] h = refl
all_waiting_lem n (e ∷ ends) h =
    ap (λ (b : Bool). length (cond b (e ∷ filter (ltb n) ends) (filter (ltb n) ends))) (lt-ltb n e h.0) ∙ ap (λ (m : ℕ). suc m) (all_waiting_lem n ends h.1)

pub one_waiting : (n end : ℕ) → n < end → ends_waiting n (end ∷ []) ≡ 1
one_waiting n end lt = all_waiting_lem n (end ∷ []) (lt, tt)

pub left_waiting : (n : ℕ) (ends : List ℕ) → ends_written n ends + ends_waiting n ends ≡ length ends
left_waiting n [] = refl
left_waiting n (e ∷ ends) = by (cases_lt n e) (left_waiting n ends)
  where
    left : List ℕ
    left = filter (λ end. leb end n) ends

    above : List ℕ
    above = filter (ltb n) ends

    by : (n < e) ⊎ (e ≤ n) → length left + length above ≡ length ends → length (cond (leb e n) (e ∷ left) left) + length (cond (ltb n e) (e ∷ above) above) ≡ suc (length ends)
    by (inl lt) h = (λ i. length (cond (lt-leb e n lt i) (e ∷ left) left) + length (cond (lt-ltb n e lt i) (e ∷ above) above)) ∙ omega (arith, h)
    by (inr le) h = (λ i. length (cond (le-leb e n le i) (e ∷ left) left) + length (cond (le-ltb n e le i) (e ∷ above) above)) ∙ omega (arith, h)

-- ---- A message and a Read Response have bytes

encoding_some : (segment : Segment) → 0 < length (encoding segment)
unfolding encoding half_word
encoding_some segment = omega arith

flat_some : (f : ℕ → List ℕ) (n : ℕ) → 0 < n → 0 < length (f 0) → 0 < length (flat_map f (range_with_len 0 n))
flat_some f zero some first = absurd (omega (arith, some))
flat_some f (suc n) some first = omega (arith, first, length-append (f 0) (flat_map f (range_with_len (0 + 1) n)))

cut_some_lem : (segment : Bool → ℕ → List ℕ → Segment) (bytes : List ℕ) → 0 < length (cut segment bytes)
unfolding cut
cut_some_lem segment bytes = flat_some _ (segment_count bytes) (omega arith) (encoding_some _)

pub send_some : (msn : ℕ) (message : List ℕ) → 0 < length (send msn message)
unfolding send
send_some msn message = cut_some_lem _ message

pub named_some : (named : Option ℕ) (msn : ℕ) (message : List ℕ) → 0 < length (send_by named msn message)
unfolding send_invalidating
named_some None msn message = send_some msn message
named_some (Some stag) msn message = cut_some_lem _ message

response_some : (stag to : ℕ) (bytes : List ℕ) → 0 < length (read_response stag to bytes)
unfolding read_response
response_some stag to bytes = cut_some_lem _ bytes

pub output_some : (k : ClientState) (place : ℕ) (r : ReadRequest) → 0 < length (response_output k place (Some r))
output_some k place r = response_some _ _ _

pub execution_some : (k : ServerState) (e : ExecutedCall) → 0 < length (execution_output k e)
unfolding execution_output
execution_some k e = by (offer_of k e.xid) (answer_of_target (offer_of k e.xid) k.down_max e.reply (target_of (call_of e.payload)))
  where
    by : (offer : ChunkLists) (a : Option Answer) → 0 < length (answer_output k e.xid offer a)
    by offer None = send_some _ _
    by offer (Some a) =
        omega (
          arith,
          named_some (stag_named k.invalidates offer) (k.messages_queued + 1) (answer_message e.xid (credit_word k) offer a),
          length-append (answer_writes offer a) (send_by (stag_named k.invalidates offer) (k.messages_queued + 1) (answer_message e.xid (credit_word k) offer a)),
        )

-- ---- The ends of what is added

pub calls_above : (opened : LinkParameters) (n due msn : ℕ) (os : List OutstandingCall) → n ≤ due → AreAbove n (call_ends opened due msn os)
calls_above opened n due msn [] le = tt
calls_above opened n due msn (o ∷ os) le =
    let some : 0 < length (call_output opened msn o) = send_some _ _ in
    ((omega (arith, le, some)), calls_above opened n (due + length (call_output opened msn o)) (msn + 1) os (omega (arith, le)))

pub calls_length : (opened : LinkParameters) (due msn : ℕ) (os : List OutstandingCall) → length (call_ends opened due msn os) ≡ length os
calls_length opened due msn [] = refl
calls_length opened due msn (o ∷ os) = ap (λ (m : ℕ). suc m) (calls_length opened (due + length (call_output opened msn o)) (msn + 1) os)

pub sends_above : (n due msn : ℕ) (ms : List (List ℕ)) → n ≤ due → AreAbove n (send_ends_from due msn ms)
sends_above n due msn [] le = tt
sends_above n due msn (m ∷ ms) le =
    let some = send_some msn m in
    ((omega (arith, le, some)), sends_above n (due + length (send msn m)) (msn + 1) ms (omega (arith, le)))

pub sends_length : (due msn : ℕ) (ms : List (List ℕ)) → length (send_ends_from due msn ms) ≡ length ms
sends_length due msn [] = refl
sends_length due msn (m ∷ ms) = ap (λ (k : ℕ). suc k) (sends_length (due + length (send msn m)) (msn + 1) ms)
