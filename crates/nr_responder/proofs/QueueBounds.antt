-- How many bytes a queue has, by the Sends that haven't left it, and by the reads that wait.
use Rattle.std.proofs.Common.{◌≡◌, ℕ, ◌+◌, ◌*◌, ◌≤◌, List, [], ◌∷◌, length, refl, arith, Option}
use Rattle.nr_wire.specs.declared.hello.Side.{Side}
use Rattle.nr_link.specs.declared.end.End.{End}
use Rattle.nr_wire.specs.Constants.{UNITS_MAX}
use Rattle.nr_link.specs.Limits.{send_unit}
use Rattle.nr_link.specs.Output.{read_request}
use Rattle.nr_endpoint.specs.SendQueue.{SendQueue, next_number, with_end, with_fpdus, with_request, with_send, with_send_by, written}
use Rattle.nr_endpoint.specs.OutputSizes.{frame_max, request_max}
use Rattle.nr_endpoint.proofs.OutputSizes.{appended_within, end_within, request_len, send_len, send_by_len, send_within, send_by_within, written_within}
use Rattle.nr_reduce.specs.ServerState.{PendingRead}
use Rattle.nr_responder.specs.HeldBytes.{answer_max, requests_max, writes_max, QueueFits, QueueMost}
use Rattle.nr_responder.specs.private.Reading.{with_requests}

-- a queue with fewer bytes, for more calls
pub more_calls : (q : SendQueue) (w c w2 c2 : ℕ) → request_max * w2 + requests_max * c ≤ request_max * w + requests_max * c2 → QueueFits q w c → QueueFits q w2 c2
more_calls q w c w2 c2 le fits n = (let h = fits n in omega (arith, le, h))

-- a Send alone
pub send_fits : (q : SendQueue) (message : List ℕ) (w c w2 c2 : ℕ) → length message ≤ send_unit * UNITS_MAX → w2 ≤ w → c ≤ c2 + 1 → request_max * w2 ≤ requests_max * c2 → QueueFits q w c → QueueFits (with_send message q) w2 c2
send_fits q message w c w2 c2 short fewer one waits fits =
    send_within answer_max 0 (requests_max * c) (request_max * w) (requests_max * c2) (request_max * w2) q message (omega (arith, fewer, one, send_len (next_number q.last_send) message short)) waits fits

-- a Send, and RDMA Writes before it
pub sends_fit : (q : SendQueue) (writes : List ℕ) (named : Option ℕ) (message : List ℕ) (w c w2 c2 : ℕ) → length writes ≤ writes_max → length message ≤ send_unit * UNITS_MAX → w2 ≤ w → c ≤ c2 + 1 → request_max * w2 ≤ requests_max * c2 → QueueFits q w c → QueueFits (with_send_by named message (with_fpdus writes q)) w2 c2
sends_fit q writes named message w c w2 c2 small short fewer one waits fits =
    send_by_within answer_max 0 (requests_max * c + length writes) (request_max * w) (requests_max * c2) (request_max * w2) (with_fpdus writes q) named message
    (omega (arith, small, fewer, one, send_by_len named (next_number q.last_send) message short)) waits
    (appended_within answer_max 0 (requests_max * c) (request_max * w) (requests_max * c + length writes) (request_max * w) q writes (omega arith) fits)

-- Read Requests, for reads that waited
pub requests_fit : (reads : List PendingRead) (q : SendQueue) (w c w2 : ℕ) → w2 + length reads ≤ w → QueueFits q w c → QueueFits (with_requests reads q) w2 c
requests_fit [] q w c w2 le fits = more_calls q w c w2 c (omega (arith, le)) fits
requests_fit (r ∷ reads) q w c w2 le fits = requests_fit reads (with_request r.sink r.at r.size r.stag r.to q) (w2 + length reads) c w2 (omega arith) one
  where
    out : List ℕ
    out = read_request (next_number q.last_request) r.sink r.at r.size r.stag r.to

    one : QueueFits (with_request r.sink r.at r.size r.stag r.to q) (w2 + length reads) c
    one =
        appended_within answer_max 0 (requests_max * c) (request_max * w) (requests_max * c) (request_max * (w2 + length reads)) q out
        (omega (arith, le, request_len (next_number q.last_request) r.sink r.at r.size r.stag r.to)) fits

pub requests_hello : (reads : List PendingRead) (q : SendQueue) → (with_requests reads q).hello ≡ q.hello
requests_hello [] q = refl
requests_hello (r ∷ reads) q = requests_hello reads (with_request r.sink r.at r.size r.stag r.to q)

pub requests_held : (reads : List PendingRead) (q : SendQueue) → (with_requests reads q).held ≡ q.held
requests_held [] q = refl
requests_held (r ∷ reads) q = requests_held reads (with_request r.sink r.at r.size r.stag r.to q)

-- what was written
pub written_fits : (n : ℕ) (q : SendQueue) (w c : ℕ) → QueueFits q w c → QueueFits (written n q) w c
written_fits n q w c fits = written_within answer_max 0 (requests_max * c) (request_max * w) n q fits

-- ---- Once the side has ended

pub most_of_fits : (q : SendQueue) (w c : ℕ) → QueueFits q w c → QueueMost q c
most_of_fits q w c fits n = (let h = fits n in omega (arith, h))

pub end_most : (side : Side) (end : End) (q : SendQueue) (w c : ℕ) → QueueFits q w c → QueueMost (with_end side end q) c
end_most side end q w c fits n = (let h = end_within answer_max 0 (requests_max * c) (request_max * w) side end q fits n in omega (arith, h))

pub written_most : (n : ℕ) (q : SendQueue) (c : ℕ) → QueueMost q c → QueueMost (written n q) c
written_most n q c fits = written_within answer_max 0 (requests_max * c + frame_max) 0 n q fits
