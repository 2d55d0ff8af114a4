-- What an answer makes of a responder.
use Rattle.std.specs.Prelude.{◌≡◌, ℕ, ◌≤◌, Bool, List, [], length, drop, Option, Some, None, slice_get, if◌then◌else◌}
use Rattle.std.specs.List.{remove}
use Rattle.nr_rpc.specs.Reading.{call_of, target_of}
use Rattle.nr_header.specs.declared.header.ChunkLists.{ChunkLists}
use Rattle.nr_endpoint.specs.declared.framing.RemoteWrite.{RemoteWrite}
use Rattle.nr_endpoint.specs.LinkState.{LinkSide}
use Rattle.nr_endpoint.specs.Calls.{after_calls}
use Rattle.nr_endpoint.specs.Offering.{answer_calls, writes_output}
use Rattle.nr_reduce.specs.Holds.{Answer, answer_message, answer_writes, chunk_error}
use Rattle.nr_reduce.specs.ServerState.{PendingCall}
use Rattle.nr_reduce.specs.Server.{answer_of_target, stag_named}
use Rattle.nr_responder.specs.declared.call.Sent.{Sent}
use Rattle.nr_responder.specs.declared.call.Sent.TheVariants as sents
use Rattle.nr_responder.specs.Fetching.{payload_taken}
use Rattle.nr_responder.specs.HeldBytes.{writes_max}
use Rattle.nr_responder.specs.ResponderState.{ResponderSide, present_word}

-- the message of an answer, and the bytes of its RDMA Writes: ERR_CHUNK if the offer doesn't hold the reply
abbrev pub message_for : (xid credits : ℕ) → ChunkLists → Option Answer → List ℕ
message_for xid credits offer None = chunk_error xid credits
message_for xid credits offer (Some answer) = answer_message xid credits offer answer

abbrev pub writes_for : ChunkLists → Option Answer → List ℕ
writes_for offer None = []
writes_for offer (Some answer) = answer_writes offer answer

-- the STag that the Send of an answer names, if Sends with Invalidate are agreed: ERR_CHUNK names none
abbrev pub name_for : (invalidates : Bool) → ChunkLists → Option Answer → Option ℕ
name_for invalidates offer None = None
name_for invalidates offer (Some answer) = stag_named invalidates offer

-- how the reply to a call with this stream is sent back, if a Send of the responder has at most `down` bytes
abbrev pub answer_to : (down : ℕ) → PendingCall → (stream reply : List ℕ) → Option Answer
answer_to down call stream reply = answer_of_target call.lists down reply (target_of (call_of stream))

-- by RDMA_MSG, by RDMA_NOMSG, or by ERR_CHUNK
abbrev pub sent_as : Option Answer → Sent
sent_as None = sents.Chunk
sent_as (Some answer) = if answer.long then sents.Long else sents.Inline

-- the answer to a call with this stream was queued, by what its side had agreed on
pub record Queues (call : PendingCall) (stream reply : List ℕ) (credits : ℕ) (before after : LinkSide) (sent : Sent) : Type 0 where
  pub writes : List RemoteWrite
  pub written : writes_output writes ≡ writes_for call.lists (answer_to before.state.agreed.down call stream reply)
  pub link : after ≡ after_calls before (answer_calls writes (name_for before.state.agreed.invalidates call.lists (answer_to before.state.agreed.down call stream reply))
      (message_for call.xid credits call.lists (answer_to before.state.agreed.down call stream reply)))
  pub sent_is : sent ≡ sent_as (answer_to before.state.agreed.down call stream reply)

-- with the answer to the call at a place queued
abbrev pub answered_by : ℕ → List RemoteWrite → (named : Option ℕ) → List ℕ → ResponderSide → ResponderSide
answered_by at writes named message v = record {
  link = after_calls v.link (answer_calls writes named message);
  calls = remove v.calls at;
  ready = drop 1 v.ready;
  credits = v.credits;
  fetching = payload_taken v.fetching;
}

-- the payload of a call that is ready: the stream of its Send, or what was read
abbrev pub IsPayload : PendingCall → Option (List ℕ) → List ℕ → Type 0
IsPayload call None stream = call.inline ≡ Some stream
IsPayload call (Some payload) stream = stream ≡ payload

-- A call that was the first to be ready is answered, by what is agreed: its message has at most the bytes of a Send of the responder.
pub record Answers (before after : ResponderSide) (xid : ℕ) (reply : List ℕ) (sent : Sent) : Type 0 where
  pub at : ℕ
  pub call : PendingCall
  pub place : slice_get before.calls at ≡ Some call
  pub own : call.xid ≡ xid
  pub stream : List ℕ
  pub payload : Option (List ℕ)
  pub first : slice_get before.fetching.payloads 0 ≡ Some payload
  pub conveyed : IsPayload call payload stream
  pub writes : List RemoteWrite
  pub written : writes_output writes ≡ writes_for call.lists (answer_to before.link.state.agreed.down call stream reply)
  pub short : length (message_for xid (present_word before) call.lists (answer_to before.link.state.agreed.down call stream reply)) ≤ before.link.state.agreed.down
  pub few : length (writes_output writes) ≤ writes_max
  pub state : after ≡ answered_by at writes (name_for before.link.state.agreed.invalidates call.lists (answer_to before.link.state.agreed.down call stream reply))
      (message_for xid (present_word before) call.lists (answer_to before.link.state.agreed.down call stream reply)) before
  pub sent_is : sent ≡ sent_as (answer_to before.link.state.agreed.down call stream reply)
