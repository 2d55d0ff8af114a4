-- How many bytes a queue has, by the messages that haven't left it.
use Rattle.std.proofs.Common.{ℕ, ◌≤◌, Bool, true, false, List, length, arith}
use Rattle.nr_endpoint.specs.SendQueue.{SendQueue, next_number, with_send, with_response, written}
use Rattle.nr_endpoint.specs.OutputSizes.{send_frames_max}
use Rattle.nr_endpoint.proofs.OutputSizes.{response_len, response_within, send_len, send_within, written_within}
use Rattle.nr_requester.specs.HeldBytes.{last_max, region_max, receive_max, response_max, QueueFits}

pub send_fits : (q : SendQueue) (message : List ℕ) → length message ≤ receive_max → QueueFits false q → QueueFits false (with_send message q)
send_fits q message small fits = send_within send_frames_max response_max 0 0 0 0 q message (omega (arith, send_len (next_number q.last_send) message small)) (omega arith) fits

pub response_fits : (q : SendQueue) (stag to : ℕ) (bytes : List ℕ) → length bytes ≤ region_max → QueueFits false q → QueueFits false (with_response stag to bytes q)
response_fits q stag to bytes small fits = response_within send_frames_max response_max 0 0 0 0 q stag to bytes (omega (arith, small, response_len stag to bytes)) (omega arith) fits

pub ended_fits : (q : SendQueue) (ended : Bool) → QueueFits false q → QueueFits ended q
ended_fits q true fits n = omega (arith, fits n)
ended_fits q false fits n = fits n

pub written_fits : (ended : Bool) (n : ℕ) (q : SendQueue) → QueueFits ended q → QueueFits ended (written n q)
written_fits ended n q fits = written_within send_frames_max response_max (last_max ended) 0 n q fits
