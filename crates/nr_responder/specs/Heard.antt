-- What a side knows of the frames of the client's stream: where the last one began, and the number that the client's hello says, which is own.
use Rattle.std.specs.Prelude.{◌≡◌, ℕ, if◌then◌else◌, List, [], ◌∷◌}
use Rattle.nr_link.specs.Agreement.{client_number}
use Rattle.nr_link.specs.Frames.{is_hello}
use Rattle.nr_endpoint.specs.LinkState.{LinkState, LinkSide}
use Rattle.nr_reduce.specs.declared.mark.Mark.{Mark}
use Rattle.nr_reduce.specs.Events.{RunEvent}
use Rattle.nr_reduce.specs.Events.RunEvent.{FrameReceived, CallSubmitted, MemoryRevoked, CallExecuted, QueueWritten, ServerTold}
use Rattle.nr_reduce.specs.Hellos.{private_of}
use Rattle.nr_reduce.specs.NumberedJournal.{number_heard}
use Rattle.nr_reduce.specs.Served.{last_frame_at}

-- after an event
abbrev pub last_after : ℕ → RunEvent → ℕ
last_after last (FrameReceived f) = f.at
last_after last (CallSubmitted place a) = last
last_after last (MemoryRevoked place xid) = last
last_after last (CallExecuted call) = last
last_after last (QueueWritten taken) = last
last_after last (ServerTold what) = last

abbrev pub client_after : ℕ → RunEvent → ℕ
client_after client (FrameReceived f) = if is_hello f then client_number (private_of f) else client
client_after client (CallSubmitted place a) = client
client_after client (MemoryRevoked place xid) = client
client_after client (CallExecuted call) = client
client_after client (QueueWritten taken) = client
client_after client (ServerTold what) = client

-- after some of them
abbrev pub last_after_all : ℕ → List RunEvent → ℕ
last_after_all last [] = last
last_after_all last (event ∷ events) = last_after_all (last_after last event) events

abbrev pub client_after_all : ℕ → List RunEvent → ℕ
client_after_all client [] = client
client_after_all client (event ∷ events) = client_after_all (client_after client event) events

-- A side after these events.
pub record Hears (before : LinkState) (events : List RunEvent) (after : LinkState) : Type 0 where
  pub last : after.last ≡ last_after_all before.last events
  pub client : after.client ≡ client_after_all before.client events

-- It has received no frame more.
pub record SameHeard (before after : LinkSide) : Type 0 where
  pub last : after.state.last ≡ before.state.last
  pub client : after.state.client ≡ before.state.client

-- by these marks
pub record KeepsHeard (link : ℕ) (run : List Mark) (s : LinkState) : Type 0 where
  pub last : s.last ≡ last_frame_at link run
  pub client : s.client ≡ number_heard run link
