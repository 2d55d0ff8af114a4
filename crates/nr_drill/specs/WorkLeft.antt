-- The work left in a drain, as numbers of which the first that a step changes falls.
use Rattle.std.specs.Prelude.{◌≡◌, ℕ, ◌+◌, ◌<◌, ◌⊎◌, Bool, false, ◌==◌, ◌&&◌, if◌then◌else◌, List, [], ◌∷◌, ◌++◌, length, filter, sum_by, is_none, Option, Result, Ok, Err}
use Rattle.nr_wire.specs.declared.hello.Side.TheVariants.{Initiator, Responder}
use Rattle.nr_wire.specs.Constants.{OPCODE_SEND}
use Rattle.nr_wire.specs.Segment.{Segment}
use Rattle.nr_wire.specs.Segment.Segment.{Tagged, Untagged}
use Rattle.nr_link.specs.declared.end.End.{End}
use Rattle.nr_link.specs.Frames.{Frame, frames_completed, is_hello}
use Rattle.nr_link.specs.Ending.{frame_segment}
use Rattle.nr_reduce.specs.History.{bytes_received}
use Rattle.nr_reduce.specs.Run.{client, server, end_of_side}
use Rattle.nr_drill.specs.Drill.{Setting, Drill, pipes_of, unwritten, after_all_up, after_work, after_all_down}

-- the last segment of a Send (RFC 5040 section 4)
abbrev pub is_send_segment : Result Segment ℕ → Bool
is_send_segment (Ok (Untagged last opcode word queue msn offset payload)) = opcode == OPCODE_SEND && last
is_send_segment (Ok (Tagged last opcode stag to payload)) = false
is_send_segment (Err reason) = false

abbrev pub is_send : Frame → Bool
is_send f = if is_hello f then false else is_send_segment (frame_segment f)

-- the bytes of the last frames of Sends that wait for the server, or that its client has yet to write
abbrev pub frame_len : Frame → ℕ
frame_len f = length f.bytes

unfoldable pub send_bytes_left : Setting → Drill → ℕ → ℕ
send_bytes_left s d link =
    sum_by frame_len (filter is_send (frames_completed Initiator (bytes_received link Responder d.marks)
    ((pipes_of link d).up ++ unwritten (s.opened link) link Initiator d.marks)))

abbrev pub stays : Option End → ℕ
stays end = if is_none end then 1 else 0

-- Of a link: the sides that haven't ended; the calls that wait to be sent again; the bytes of the last frames of Sends still to go up; the Read
-- Requests that are open or owed; the calls that are complete and not executed; the bytes that wait for the client; those that wait for the server.
unfoldable pub work_left : Setting → Drill → ℕ → List ℕ
work_left s d link =
    let opened = s.opened link in
    (stays (end_of_side opened link Initiator d.marks) + stays (end_of_side opened link Responder d.marks))
    ∷ length (client opened link d.marks).state.waiting
    ∷ send_bytes_left s d link
    ∷ length (server opened link d.marks).state.reads
    ∷ length (server opened link d.marks).state.ready
    ∷ length (pipes_of link d).down
    ∷ length (pipes_of link d).up
    ∷ []

-- the first number that differs is smaller
abbrev pub IsLess : List ℕ → List ℕ → Type 0
IsLess [] old = ⊥
IsLess (n ∷ new) [] = ⊥
IsLess (n ∷ new) (m ∷ old) = (n < m) ⊎ ((n ≡ m) × IsLess new old)

-- a step of a drain: all up, one call executed, or all down
pub data DrainStep : Type 0 where
  AllUp : DrainStep
  Work : DrainStep
  AllDown : DrainStep

abbrev pub after_step : Setting → ℕ → DrainStep → Drill → Drill
after_step s link AllUp d = after_all_up s link d
after_step s link Work d = after_work s link d
after_step s link AllDown d = after_all_down s link d
