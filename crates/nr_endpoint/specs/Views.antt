-- The values of the code as the definitions see them.
use Rattle.std.specs.Prelude.{ℕ, ◌-◌, List, [], ◌∷◌, ◌++◌, take, replicate, Option, None, Some}
use Rattle.nr_link.specs.ReceiveState.{ReadRequest as PlainReadRequest}
use Rattle.nr_endpoint.specs.declared.faults.ReadRequest.{ReadRequest}
use Rattle.nr_link.specs.SegmentFaults.{ExpectedResponse}
use Rattle.nr_endpoint.specs.declared.event.Event.{Event}
use Rattle.nr_endpoint.specs.declared.event.Event.TheVariants as events
use Rattle.nr_endpoint.specs.declared.reads.OpenRead.{OpenRead}
use Rattle.nr_endpoint.specs.declared.receive_queue.BegunSend.{BegunSend}
use Rattle.nr_endpoint.specs.declared.receive_queue.ReceivedMessage.{ReceivedMessage}
use Rattle.nr_endpoint.specs.ReceiveQueue.{DeliveredEvent}
use Rattle.nr_endpoint.specs.ReceiveQueue.DeliveredEvent.{MessageReceived, ReadDone}

-- an event is delivered with the receive buffer, of which the message is the first bytes
abbrev pub delivery : Event → DeliveredEvent
delivery (events.Message number invalidated buf len) = MessageReceived number invalidated (take len buf)
delivery events.ReadDone = ReadDone

-- each message comes after the reads that were done before it, and after the last message come those that were done since
abbrev pub deliveries : List ReceivedMessage → ℕ → List DeliveredEvent
deliveries [] reads_done = replicate reads_done ReadDone
deliveries (m ∷ messages) reads_done = replicate m.reads_done ReadDone ++ MessageReceived m.number m.invalidated (take m.len m.buf) ∷ deliveries messages reads_done

-- how many reads were done before the first message, and the messages once one of those was delivered to the owner
abbrev pub reads_first : List ReceivedMessage → ℕ
reads_first [] = 0
reads_first (m ∷ messages) = m.reads_done

abbrev pub without_first_read : List ReceivedMessage → List ReceivedMessage
without_first_read [] = []
without_first_read (m ∷ messages) = record { reads_done = m.reads_done - 1; number = m.number; invalidated = m.invalidated; buf = m.buf; len = m.len } ∷ messages

abbrev pub expected : OpenRead → ExpectedResponse
expected r = record { sink = r.sink; at = r.at; left = r.end - r.at }

-- the bytes so far of a begun Send whose receive has n bytes: those beyond it are counted, and are zeros here
abbrev pub begun_send : ℕ → BegunSend → List ℕ
begun_send n b = take b.len b.buf ++ replicate (b.len - n) 0

abbrev pub begun : ℕ → Option BegunSend → Option (List ℕ)
begun n None = None
begun n (Some b) = Some (begun_send n b)

-- the fields of a Read Request
abbrev pub read_request_view : ReadRequest → PlainReadRequest
read_request_view r = record { sink = r.sink; sink_to = r.sink_to; size = r.size; stag = r.stag; to = r.to }
