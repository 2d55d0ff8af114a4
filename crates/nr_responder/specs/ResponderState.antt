-- What contracts see of a responder: its side of the link; the calls that it has not answered, in the order of their Sends; the xids of
-- those that wait to be executed, in the order in which they became ready; its credits; what it fetches; the whole staging buffer, which
-- begins with the bytes of the frame that isn't complete; and how many bytes the buffers have that it keeps for payloads of calls that are
-- read, with those of buffers outside their regions.
use Rattle.std.specs.Prelude.{◌≡◌, ℕ, ◌+◌, ◌-◌, ◌*◌, max, if◌then◌else◌, is_some, List, [], ◌++◌, length, drop, Option, None}
use Rattle.nr_wire.specs.declared.hello.Side.TheVariants.{Responder}
use Rattle.nr_link.specs.declared.end.End.{End}
use Rattle.nr_link.specs.SegmentFaults.{is_begun}
use Rattle.nr_endpoint.specs.SendQueue.{SendQueue, writable, written}
use Rattle.nr_endpoint.specs.LinkState.{LinkState, LinkSide, initial_link}
use Rattle.nr_endpoint.specs.EndpointState.{bytes_of, cut_frame_len}
use Rattle.nr_link.specs.declared.agreement.SideTerms.{SideTerms}
use Rattle.nr_reduce.specs.Plans.{one_if}
use Rattle.nr_reduce.specs.ServerState.{PendingCall}
use Rattle.nr_responder.specs.declared.granting.Credits.{Credits}
use Rattle.nr_responder.specs.Fetching.{Fetching, nothing_fetched}
use Rattle.nr_responder.specs.Granting.{grant, opened_credits, word_by}

pub record ResponderSide : Type 0 where
  pub link : LinkSide
  pub calls : List PendingCall
  pub ready : List ℕ
  pub credits : Credits
  pub fetching : Fetching

pub record ResponderState : Type 0 where
  pub side : ResponderSide
  pub staging : List ℕ
  pub rooms : ℕ

-- the side as it is opened with this number of credits, the most that it grants while more than half of the receives are in use, and these
-- terms: its first region gets the STag 1
abbrev pub opened_side : (credits low : ℕ) → SideTerms → ResponderSide
opened_side credits low terms = record { link = initial_link Responder credits 1 terms None; calls = []; ready = []; credits = opened_credits credits low; fetching = nothing_fetched }

-- A feed changes the staging buffer only in two prefixes: that of the bytes which are staged after it, and that of the frame which the
-- bytes staged before it begin, as far as it was fed.
pub record KeepsStaging (before after : ResponderState) (piece : List ℕ) : Type 0 where
  pub others : drop (max (length after.side.link.rest) (cut_frame_len before.side.link.awaited before.side.link.rest piece)) after.staging
      ≡ drop (max (length after.side.link.rest) (cut_frame_len before.side.link.awaited before.side.link.rest piece)) before.staging
  pub len : length after.staging ≡ length before.staging

-- all bytes that it has to write
abbrev pub queued_bytes : SendQueue → List ℕ
queued_bytes q = q.hello ++ q.fpdus

abbrev pub queue : ResponderSide → List ℕ
queue v = queued_bytes v.link.state.send_queue

-- why it takes no more input, once it has ended
abbrev pub end_of : ResponderSide → Option End
end_of v = v.link.state.ended

-- what may be written: all of it, but that nothing but a hello goes before the client's
abbrev pub may_write : ResponderSide → List ℕ
may_write v = writable v.link.state.has_hello v.link.state.send_queue

-- how many of its Sends haven't left the queue
abbrev pub unsent : LinkState → ℕ
unsent s = length s.send_queue.send_ends

-- How many receives are in use: one for each call that isn't answered, for each Send that hasn't left the queue, and for a Send that is begun.
abbrev pub receives_used : ResponderSide → ℕ
receives_used v = length v.calls + (unsent v.link.state + one_if (is_begun v.link.state.receive_queue.received.begun))

-- the credit word of a message that is queued now (RFC 8166 section 3.3)
abbrev pub present_word : ResponderSide → ℕ
present_word v = word_by (grant v.credits) (receives_used v)

-- with this credit word for the messages that are due for the next frame
abbrev pub with_word : ℕ → ResponderSide → ResponderSide
with_word word v = record v { credits = record v.credits { word = word } }

-- it grants this many credits from now on, unless it has ended
abbrev pub with_granted : ℕ → ResponderSide → ResponderSide
with_granted credits v = record v { credits = record v.credits { granted = credits } }

abbrev pub granting : ℕ → ResponderState → ResponderState
granting credits v = if is_some (end_of v.side) then v else record v { side = with_granted credits v.side }

-- The size of an item of each list, in bytes: of a call that isn't answered, of one that is ready, of the receive of a message whose answer hasn't left
-- with the end of its Send, of a Read Request that is open or waits, and of a sink.
abbrev pub call_size : ℕ
call_size = 184

abbrev pub ready_size : ℕ
ready_size = 72

abbrev pub unsent_size : ℕ
unsent_size = 32

abbrev pub read_size : ℕ
read_size = 40

abbrev pub sink_size : ℕ
sink_size = 32

-- how many bytes the lists have
abbrev pub lists_held : ResponderSide → ℕ
lists_held v = call_size * length v.calls + (ready_size * length v.ready + (unsent_size * unsent v.link.state + (read_size * length v.fetching.reads + sink_size * length v.fetching.sinks)))

-- How many bytes are kept: the staging buffer, the receives, of which one is lent for each call that isn't answered and for each Send that hasn't left,
-- the regions, the output, the buffers for payloads of calls that are read, with the bytes outside of regions, and the lists.
abbrev pub bytes_held_by : ResponderState → ℕ
bytes_held_by v =
    length v.staging + bytes_of v.side.link.state + v.side.link.state.receive_queue.receive_length * (length v.side.calls + unsent v.side.link.state) + v.rooms + lists_held v.side

-- n receives are posted again
abbrev pub posted_times : ℕ → LinkSide → LinkSide
posted_times n l = record {
  awaited = l.awaited;
  rest = l.rest;
  state = record l.state { receive_queue = record l.state.receive_queue { free = l.state.receive_queue.free + n; lent = l.state.receive_queue.lent - n } };
}

-- the side of the link after n bytes of its queue were written and m receives are posted again
abbrev pub drained_posted : LinkState → ℕ → ℕ → LinkState
drained_posted s n posts = record s {
  receive_queue = record s.receive_queue { free = s.receive_queue.free + posts; lent = s.receive_queue.lent - posts };
  send_queue = written n s.send_queue;
}

-- how many Sends left with them
abbrev pub left_by : LinkState → ℕ → ℕ
left_by s n = unsent s - length (written n s.send_queue).send_ends

-- after n bytes of what may be written were: the receive of each message whose answer left is posted again
abbrev pub after_drain : ResponderSide → ℕ → ResponderSide
after_drain v n = record {
  link = record { awaited = v.link.awaited; rest = v.link.rest; state = drained_posted v.link.state n (left_by v.link.state n) };
  calls = v.calls;
  ready = v.ready;
  credits = v.credits;
  fetching = v.fetching;
}
