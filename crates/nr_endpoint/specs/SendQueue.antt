-- What a side of a link has to write: its hello, and after it FPDUs (RFC 5044 sections 4 and 7.1).
use Rattle.std.specs.Prelude.{ℕ, ◌+◌, ◌-◌, ◌^◌, min, nat_lt, Bool, if◌then◌else◌, List, [], ◌∷◌, ◌++◌, length, drop, map, Option, None, Some}
use Rattle.std.specs.List.{filter}
use Rattle.nr_wire.specs.declared.hello.Side.{Side}
use Rattle.nr_wire.specs.declared.hello.Side.TheVariants.{Initiator, Responder}
use Rattle.nr_link.specs.declared.end.End.{End}
use Rattle.nr_link.specs.Output.{msn_word, terminate_message, send_by, write, read_response, read_request, hello_with}
use Rattle.nr_link.specs.Ending.{final_output, rejection}

-- The bytes of the hello and of the FPDUs that weren't written yet. For each Send and for each Read Response among the FPDUs, in
-- order, the number of bytes of them up to its end. How many Sends were written completely. The numbers of the last Send and of
-- the last Read Request, modulo 2 ^ 32. The messages of Sends that are held back, in the order in which they will be queued.
pub record SendQueue : Type 0 where
  pub hello : List ℕ
  pub fpdus : List ℕ
  pub send_ends : List ℕ
  pub response_ends : List ℕ
  pub sends_left : ℕ
  pub last_send : ℕ
  pub last_request : ℕ
  pub held : List (List ℕ)

-- how many bytes the messages have that are held back
abbrev pub held_len : List (List ℕ) → ℕ
held_len [] = 0
held_len (message ∷ held) = length message + held_len held

-- how many bytes of output it has
abbrev pub output_len : SendQueue → ℕ
output_len q = length q.hello + length q.fpdus

-- An initiator has its hello to write from the start.
abbrev pub first_hello : Side → (private : List ℕ) → List ℕ
first_hello Initiator private = hello_with Initiator private
first_hello Responder private = []

abbrev pub initial_queue : Side → (private : List ℕ) → SendQueue
initial_queue side private = record { hello = first_hello side private; fpdus = []; send_ends = []; response_ends = []; sends_left = 0; last_send = 0; last_request = 0; held = [] }

-- the number after another (RFC 5041 section 4.3)
abbrev pub next_number : ℕ → ℕ
next_number n = msn_word (n + 1)

-- ---- What is queued

abbrev pub with_hello : List ℕ → SendQueue → SendQueue
with_hello bytes q = record q { hello = q.hello ++ bytes }

abbrev pub with_fpdus : List ℕ → SendQueue → SendQueue
with_fpdus bytes q = record q { fpdus = q.fpdus ++ bytes }

-- a Send, with Invalidate if there is an STag
abbrev pub send_output : SendQueue → Option ℕ → List ℕ → List ℕ
send_output q named message = send_by named (next_number q.last_send) message

abbrev pub with_send_by : Option ℕ → List ℕ → SendQueue → SendQueue
with_send_by named message q = record q {
  fpdus = q.fpdus ++ send_output q named message;
  send_ends = q.send_ends ++ length (q.fpdus ++ send_output q named message) ∷ [];
  last_send = next_number q.last_send;
}

abbrev pub with_send : List ℕ → SendQueue → SendQueue
with_send message q = with_send_by None message q

-- a message is held back; and the first one that is held is queued
abbrev pub with_held : List ℕ → SendQueue → SendQueue
with_held message q = record q { held = q.held ++ message ∷ [] }

abbrev pub with_held_sent : List ℕ → SendQueue → SendQueue
with_held_sent message q = record q {
  fpdus = q.fpdus ++ send_output q None message;
  send_ends = q.send_ends ++ length (q.fpdus ++ send_output q None message) ∷ [];
  last_send = next_number q.last_send;
  held = drop 1 q.held;
}

-- an RDMA Write of some bytes into the peer's region, from `to` on
abbrev pub with_write : (stag to : ℕ) → List ℕ → SendQueue → SendQueue
with_write stag to bytes q = with_fpdus (write stag to bytes) q

-- a Read Request for `len` bytes of the peer's region, from `to` on, into an own region, from `at` on
abbrev pub with_request : (sink at len stag to : ℕ) → SendQueue → SendQueue
with_request sink at len stag to q = record q {
  fpdus = q.fpdus ++ read_request (next_number q.last_request) sink at len stag to;
  last_request = next_number q.last_request;
}

abbrev pub with_response : (stag to : ℕ) → List ℕ → SendQueue → SendQueue
with_response stag to bytes q = record q {
  fpdus = q.fpdus ++ read_response stag to bytes;
  response_ends = q.response_ends ++ length (q.fpdus ++ read_response stag to bytes) ∷ [];
}

-- the Terminate with a word, if there is one
abbrev pub terminate_by : Option ℕ → List ℕ
terminate_by None = []
terminate_by (Some word) = terminate_message word

-- what a side writes last, if it ends
unfoldable pub with_end : Side → End → SendQueue → SendQueue
with_end side end q = record q { hello = q.hello ++ rejection side end; fpdus = q.fpdus ++ final_output end }

-- ---- What is written

-- The bytes that may be written: no FPDU goes before the peer's hello was accepted (RFC 5044 section 7.1).
abbrev pub writable : Bool → SendQueue → List ℕ
writable has_hello q = q.hello ++ (if has_hello then q.fpdus else [])

-- The ends that are left once n bytes were written, and how many went by. A count saturates at 2 ^ 64 - 1.
abbrev pub ends_left : ℕ → List ℕ → List ℕ
ends_left n ends = map (λ end. end - n) (filter (nat_lt n) ends)

abbrev pub ends_passed : ℕ → List ℕ → ℕ
ends_passed n ends = length ends - length (ends_left n ends)

abbrev pub fpdus_written : ℕ → SendQueue → SendQueue
fpdus_written n q = record q {
  fpdus = drop n q.fpdus;
  send_ends = ends_left n q.send_ends;
  response_ends = ends_left n q.response_ends;
  sends_left = min (q.sends_left + ends_passed n q.send_ends) (2 ^ 64 - 1);
}

-- the first n bytes were written
unfoldable pub written : ℕ → SendQueue → SendQueue
written n q = fpdus_written (n - length q.hello) (record q { hello = drop n q.hello })
