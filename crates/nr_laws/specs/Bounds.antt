-- How much a side holds for its peer at a time, whatever the peer sends.
use Rattle.std.specs.Prelude.{ℕ, ◌+◌, ◌*◌, ◌≤◌, List, length, Option, None, Some}
use Rattle.std.specs.List.{AllByRecursion}
use Rattle.nr_header.specs.Constants.{HEADER_LEN_MIN}
use Rattle.nr_link.specs.Limits.{open_reads_max}
use Rattle.nr_reduce.specs.declared.mark.Mark.{Mark}
use Rattle.nr_reduce.specs.declared.mark.LinkParameters.{LinkParameters}
use Rattle.nr_reduce.specs.declared.outline.Plan.{Plan}
use Rattle.nr_reduce.specs.Asked.{AskedSoFar}
use Rattle.nr_reduce.specs.ClientState.{OutstandingCall, responses_owed}
use Rattle.nr_reduce.specs.ServerReads.{open_reads}
use Rattle.nr_reduce.specs.ServerState.{receives_in_use}
use Rattle.nr_reduce.specs.Served.{ServedSoFar}
use Rattle.nr_reduce.specs.Run.{client, server}
use Rattle.nr_laws.specs.Resuming.{ResumesArePlanned}
use Rattle.nr_laws.specs.Typed.{IsTyped}

-- On every link a client owes at most open_reads_max Read Responses that haven't completely left,
abbrev pub ClientOwesFewResponses : Type 0
ClientOwesFewResponses = (opened : LinkParameters) (link : ℕ) (run : List Mark) → responses_owed (client opened link run).state ≤ open_reads_max

-- a server has at most the same number of Read Requests open,
abbrev pub ServerReadsFew : Type 0
ServerReadsFew = (opened : LinkParameters) (link : ℕ) (run : List Mark) → length (open_reads (server opened link run).state) ≤ open_reads_max

-- and a server that keeps its law uses no more receives than it has: those of pending calls, of a Send that is begun, and of answers
-- that haven't completely left.
abbrev pub ServerUsesItsReceives : Type 0
ServerUsesItsReceives = (opened : LinkParameters) (link : ℕ) (run : List Mark) → IsTyped run → ServedSoFar opened link run → receives_in_use (server opened link run).state ≤ opened.receives

-- how many segments a chunk has, and how many the lists of a plan have together
abbrev pub chunk_segments : Option (List ℕ) → ℕ
chunk_segments None = 0
chunk_segments (Some lengths) = length lengths

abbrev pub segments_in : Plan → ℕ
segments_in p = length p.read + (chunk_segments p.write + chunk_segments p.reply)

-- If a client keeps its law, and sends no calls again but such as were planned, the lists of each call that it has outstanding have together at most
-- the segments for which a Send of the length that it has agreed on has room: its header has HEADER_LEN_MIN bytes that are no segments, and 16 or more for each
-- segment (RFC 8166 section 4.3). In 1024 bytes that is 62, in 16384 it is 1022.
abbrev pub ClientOffersFewSegments : Type 0
ClientOffersFewSegments = (opened : LinkParameters) (link : ℕ) (run : List Mark) → ResumesArePlanned opened → IsTyped run → AskedSoFar opened link run →
    AllByRecursion (λ (o : OutstandingCall). HEADER_LEN_MIN + 16 * segments_in o.plan ≤ (client opened link run).state.up_max) (client opened link run).state.outstanding
