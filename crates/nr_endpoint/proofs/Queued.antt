-- What is queued has bytes: a hello, a Read Response, what a side writes last.
use Rattle.std.proofs.Common.{◌≡◌, ℕ, zero, suc, ◌+◌, ◌<◌, ◌≤◌, Bool, List, ◌∷◌, ◌++◌, length, Option, None, Some, Result, Ok, Err, replicate, ap, arith, length-append}
use Rattle.std.specs.Prelude.{OnErr}
use Rattle.std.specs.List.{flat_map, range_with_len}
use Rattle.nr_wire.specs.declared.hello.Side.{Side}
use Rattle.nr_wire.specs.declared.hello.Side.TheVariants.{Responder}
use Rattle.nr_wire.specs.Hello.{Hello, hello_encoding, key}
use Rattle.nr_wire.specs.Segment.{Segment, encoding, tail_len, ulpdu_size}
use Rattle.nr_wire.specs.Segment.Segment.{Untagged}
use Rattle.nr_wire.specs.Constants.{OPCODE_READ_REQUEST}
use Rattle.nr_regions.specs.RegisteredMemory.{bytes_at}
use Rattle.nr_link.specs.ReceiveState.{read_request_in}
use Rattle.nr_link.specs.Output.{cut, send, send_by, send_invalidating, segment_count, read_response, terminate_message, hello_with, refusing_hello, read_request}
use Rattle.nr_link.specs.Reasons.{REASON_SIZES}
use Rattle.nr_link.specs.Ending.{final_output, rejection}
use Rattle.nr_link.specs.declared.end.End.{End}
use Rattle.nr_endpoint.specs.SendQueue.{SendQueue, output_len, with_hello, with_response, with_end}
use Rattle.nr_endpoint.specs.Judging.{reply_hello, with_effect, fetch_access}
use Rattle.nr_endpoint.specs.LinkState.{LinkState}
use Rattle.nr_endpoint.proofs.WholeFrames.{longer_by}

middle_some : (a b c : List ℕ) (x : ℕ) → 1 ≤ length (a ++ (x ∷ b) ++ c)
middle_some a b c x = omega (arith, length-append (a ++ (x ∷ b)) c, length-append a (x ∷ b))

hello_some : (hello : Hello) → 1 ≤ length (hello_encoding hello)
unfolding hello_encoding
hello_some hello = middle_some (key hello.side) _ hello.private hello.flags

encoding_some : (segment : Segment) → 1 ≤ length (encoding segment)
unfolding encoding
encoding_some segment = omega (arith, longer_by 0 0 (replicate (tail_len (ulpdu_size segment)) 0) segment)

flat_some : (f : ℕ → List ℕ) (n : ℕ) → 1 ≤ n → 1 ≤ length (f 0) → 1 ≤ length (flat_map f (range_with_len 0 n))
flat_some f zero some first = absurd (omega (arith, some))
flat_some f (suc n) some first = omega (arith, first, length-append (f 0) (flat_map f (range_with_len (0 + 1) n)))

cut_some_lem : (segment : Bool → ℕ → List ℕ → Segment) (bytes : List ℕ) → 1 ≤ length (cut segment bytes)
unfolding cut
cut_some_lem segment bytes = flat_some _ (segment_count bytes) (omega arith) (encoding_some _)

pub response_some : (stag to : ℕ) (bytes : List ℕ) → 1 ≤ length (read_response stag to bytes)
unfolding read_response
response_some stag to bytes = cut_some_lem _ bytes

pub send_some : (msn : ℕ) (message : List ℕ) → 1 ≤ length (send msn message)
unfolding send
send_some msn message = cut_some_lem _ message

pub send_by_some : (named : Option ℕ) (msn : ℕ) (message : List ℕ) → 1 ≤ length (send_by named msn message)
unfolding send_invalidating
send_by_some None msn message = send_some msn message
send_by_some (Some stag) msn message = cut_some_lem _ message

terminate_some : (word : ℕ) → 1 ≤ length (terminate_message word)
unfolding terminate_message
terminate_some word = encoding_some _

pub request_some : (msn sink at size stag to : ℕ) → 1 ≤ length (read_request msn sink at size stag to)
unfolding read_request
request_some msn sink at size stag to = encoding_some _

own_some : (side : Side) (private : List ℕ) → 1 ≤ length (hello_with side private)
unfolding hello_with
own_some side private = hello_some _

refusing_some : 1 ≤ length refusing_hello
unfolding refusing_hello
refusing_some = hello_some _

-- ---- The queue has more output with it

pub hello_queues : (private : List ℕ) (q : SendQueue) → output_len q < output_len (with_hello (reply_hello Responder private) q)
hello_queues private q = omega (arith, own_some Responder private, length-append q.hello (hello_with Responder private))

response_queues : (stag to : ℕ) (bytes : List ℕ) (q : SendQueue) → output_len q < output_len (with_response stag to bytes q)
response_queues stag to bytes q = omega (arith, response_some stag to bytes, length-append q.fpdus (read_response stag to bytes))

pub request_queues : (s : LinkState) (last : Bool) (w queue msn offset : ℕ) (payload : List ℕ) →
    output_len s.send_queue < output_len (with_effect (Untagged last OPCODE_READ_REQUEST w queue msn offset payload) s).send_queue
unfolding with_effect
request_queues s last w queue msn offset payload =
    response_queues (read_request_in payload).sink (read_request_in payload).sink_to (bytes_at s.memory (fetch_access (read_request_in payload))) s.send_queue

pub rejection_queues : (side : Side) (end : End) (q : SendQueue) → rejection side end ≡ refusing_hello → output_len q < output_len (with_end side end q)
unfolding with_end
rejection_queues side end q is =
    omega (arith, refusing_some, ap (λ (bytes : List ℕ). length bytes) is, length-append q.hello (rejection side end), length-append q.fpdus (final_output end))

pub terminate_queues : (side : Side) (end : End) (word : ℕ) (q : SendQueue) → final_output end ≡ terminate_message word → output_len q < output_len (with_end side end q)
unfolding with_end
terminate_queues side end word q is =
    omega (arith, terminate_some word, ap (λ (bytes : List ℕ). length bytes) is, length-append q.hello (rejection side end), length-append q.fpdus (final_output end))

pub sizes_queue : (q : SendQueue) → output_len q < output_len (with_hello (terminate_message REASON_SIZES) q)
sizes_queue q = omega (arith, terminate_some REASON_SIZES, length-append q.hello (terminate_message REASON_SIZES))

-- what holds anyway holds if there is an error
pub on_any_err : {T E P : Type 0} (r : Result T E) → P → OnErr r P
on_any_err (Ok x) p = tt
on_any_err (Err e) p = p
