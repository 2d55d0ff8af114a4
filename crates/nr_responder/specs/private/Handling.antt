-- What a responder makes of a message that its side of the link delivered.
use Rattle.std.specs.Prelude.{◌≡◌, ◌≢◌, ℕ, ◌+◌, ◌<◌, ◌≤◌, length, map, List, [], ◌∷◌, ◌++◌, drop, Option, None, Some, Result, Ok, Err, ◌⊎◌, true, false}
use Rattle.nr_header.specs.declared.header.RdmaSegment.{RdmaSegment}
use Rattle.nr_header.specs.declared.header.ChunkLists.{ChunkLists}
use Rattle.nr_header.specs.Constants.{PAYLOAD_MAX, READ_SEGMENTS_MAX}
use Rattle.nr_header.specs.WithinLimits.{read_total}
use Rattle.nr_xdr.specs.Fields.{word_at}
use Rattle.nr_rpc.specs.declared.head.CallHead.{CallHead}
use Rattle.nr_rpc.specs.Reading.{call_of, head_xid}
use Rattle.nr_link.specs.Limits.{send_unit}
use Rattle.nr_link.specs.Reasons.{REASON_HEAD, REASON_STAGS, REASON_XID}
use Rattle.nr_reduce.specs.Limits.{numbers_end}
use Rattle.nr_endpoint.specs.ReceiveQueue.DeliveredEvent.{MessageReceived, ReadDone}
use Rattle.nr_endpoint.specs.LinkState.{LinkSide}
use Rattle.nr_endpoint.specs.Calls.{after_call}
use Rattle.nr_endpoint.specs.Calls.Call.{NextEvent, Stop, Send, OutOfMemory}
use Rattle.nr_reduce.specs.Holds.{chunk_error, version_error}
use Rattle.nr_reduce.specs.ServerState.{PendingCall, PendingRead, ServerState, credit_word, is_pending, next_stag}
use Rattle.nr_reduce.specs.ServerReads.{chunks_of, is_read}
use Rattle.nr_reduce.specs.ServerMessages.{by_payload, verdict}
use Rattle.nr_reduce.specs.ServerMessages.CallVerdict.{Refuses as RefusedFor}
use Rattle.nr_reduce.specs.ServerMessages.Verdict.{EndsLink, OtherVersion, BadChunks, MakesPending}
use Rattle.nr_reduce.specs.ServerFrames.{FrameEffect, no_effect, by_message}
use Rattle.nr_responder.specs.Fetching.{HasBytes, payload_added}
use Rattle.nr_responder.specs.ResponderState.{ResponderSide}
use Rattle.nr_responder.specs.Keeping.{IsServer}
use Rattle.nr_responder.specs.private.CallsRead.{HasNoBytes, IsStreamAlone, payload_at_once, reading_call}
use Rattle.nr_responder.specs.private.ReadsDone.{HandlesRead, ReadHandled}
use Rattle.nr_responder.specs.Views.{IsCall}

-- a pending call without a read chunk
abbrev pub inline_call : ServerState → ℕ → List (List RdmaSegment) → Option (List RdmaSegment) → List ℕ → PendingCall
inline_call k xid write reply stream = record { number = k.received.sends + 1; xid = xid; lists = record { read = []; write = write; reply = reply }; inline = Some stream }

-- the effect of a message that is refused by an error message
abbrev pub refused_effect : ServerState → List ℕ → FrameEffect
refused_effect k message = record (no_effect k) { errors = message ∷ [] }

abbrev pub on_link : ResponderSide → LinkSide → ResponderSide
on_link v l = record { link = l; calls = v.calls; ready = v.ready; credits = v.credits; fetching = v.fetching }

abbrev pub with_ready : ResponderSide → LinkSide → PendingCall → ResponderSide
with_ready v l c = record { link = l; calls = v.calls ++ c ∷ []; ready = v.ready ++ c.xid ∷ []; credits = v.credits; fetching = payload_added None v.fetching }

-- the side that ran out of memory
abbrev pub out : ResponderSide → ResponderSide
out v = on_link v (after_call v.link OutOfMemory)

abbrev pub OrOut : ResponderSide → LinkSide → ResponderSide → Type 0
OrOut v l after = (after ≡ on_link v l) ⊎ (after ≡ out v)

-- the server of a run whose calls and reads a responder keeps: nothing is read for a Send that comes now
pub record IsServerOf (k : ServerState) (v : ResponderSide) : Type 0 where
  pub calls : k.calls ≡ v.calls
  pub credits : credit_word k ≡ v.credits.word
  pub reads : k.reads ≡ v.fetching.reads
  pub new_read : is_read k.reads (k.received.sends + 1) ≡ true
  pub ready : v.ready ≡ map (λ r. r.xid) k.ready
  pub next : next_stag k ≡ v.link.state.memory.next
  pub place : ℕ
  pub is_server : IsServer k place

-- ---- What the code made of a message with a number

abbrev pub begun_call : (number : ℕ) → List ℕ → ChunkLists → ℕ → PendingCall
begun_call number message lists stream_at = record { number = number; xid = word_at 0 message; lists = lists; inline = Some (drop stream_at message) }

-- the xid of a call whose stream stands in its message, or why the link ends
pub data ReadsXid (message : List ℕ) (stream_at : ℕ) (result : Result ℕ ℕ) : Type 0 where
  ReadsNoCall : (at : ℕ) → call_of (drop stream_at message) ≡ Err at → result ≡ Err REASON_HEAD → ReadsXid message stream_at result
  ReadsOther : (head : CallHead) → call_of (drop stream_at message) ≡ Ok head → head_xid head ≢ word_at 0 message → result ≡ Err REASON_XID → ReadsXid message stream_at result
  ReadsOwn : (head : CallHead) → call_of (drop stream_at message) ≡ Ok head → head_xid head ≡ word_at 0 message → result ≡ Ok (word_at 0 message) → ReadsXid message stream_at result

-- of one with a call whose stream stands in it
pub data Begins (before after : ResponderSide) (number : ℕ) (message : List ℕ) (lists : ChunkLists) (stream_at : ℕ) : Type 0 where
  NoCall : (at : ℕ) → call_of (drop stream_at message) ≡ Err at → OrOut before (after_call before.link (Stop REASON_HEAD)) after → Begins before after number message lists stream_at
  OtherXid : (head : CallHead) → call_of (drop stream_at message) ≡ Ok head → head_xid head ≢ word_at 0 message → OrOut before (after_call before.link (Stop REASON_XID)) after →
      Begins before after number message lists stream_at
  IsReady : (head : CallHead) → call_of (drop stream_at message) ≡ Ok head → head_xid head ≡ word_at 0 message → after ≡ with_ready before before.link (begun_call number message lists stream_at) →
      Begins before after number message lists stream_at

-- of one with a call with a read list: its sinks need more STags than are left; its reads begin; it has no bytes to be read, and is ready
-- with its stream or ends the link; or it has bytes to be read, and memory ran out
pub data FetchesCall (before after : ResponderSide) (c : PendingCall) : Type 0 where
  Spends : numbers_end < before.link.state.memory.next + length (chunks_of c.lists) → OrOut before (after_call before.link (Stop REASON_STAGS)) after → FetchesCall before after c
  ReadsChunks : before.link.state.memory.next + length (chunks_of c.lists) ≤ numbers_end → read_total c.lists.read ≤ PAYLOAD_MAX → length c.lists.read ≤ READ_SEGMENTS_MAX → chunks_of c.lists ≢ [] → after ≡ reading_call before c → FetchesCall before after c
  IsComplete : HasNoBytes c.lists.read → IsStreamAlone c → after ≡ with_ready before before.link c → FetchesCall before after c
  EndsFor : (reason : ℕ) → 5 ≤ reason → HasNoBytes c.lists.read → by_payload c (payload_at_once c) ≡ RefusedFor reason → OrOut before (after_call before.link (Stop reason)) after → FetchesCall before after c
  RunsOut : HasBytes c.lists.read → after ≡ out before → FetchesCall before after c

-- by what holds of each server whose calls are kept
abbrev pub OfServers : (ServerState → Type 0) → ResponderSide → Type 0
OfServers P before = (k : ServerState) → IsServerOf k before → P k

-- something is to be read for the call of the message, which isn't refused without it
pub record HasReadChunk (k : ServerState) (message : List ℕ) : Type 0 where
  pub call : PendingCall
  pub judged : verdict k message ≡ MakesPending call
  pub bytes : HasBytes call.lists.read

-- a message with a call with a read list
pub record IsReadCall (k : ServerState) (message : List ℕ) (xid : ℕ) (lists : ChunkLists) (inline : Option (List ℕ)) : Type 0 where
  pub own : is_pending k xid ≡ false
  pub pending : verdict k message ≡ MakesPending (record { number = k.received.sends + 1; xid = xid; lists = lists; inline = inline })

-- The server has output of its own for a message, or the message makes a call pending of which something is to be read: it may run out of memory.
pub data MessageTakes (k : ServerState) (message : List ℕ) : Type 0 where
  EndsFor : (reason : ℕ) → ((place : ℕ) → (by_message k place (Some message)).refusal ≡ Some reason) → 5 ≤ reason → MessageTakes k message
  ErrorFor : (answer : List ℕ) → ((place : ℕ) → by_message k place (Some message) ≡ refused_effect k answer) → MessageTakes k message
  ReadsFor : HasReadChunk k message → MessageTakes k message

pub data Makes (before : ResponderSide) (number : ℕ) (message : List ℕ) (after : ResponderSide) : Type 0 where
  Ends : (reason : ℕ) → 5 ≤ reason → OfServers (λ k. verdict k message ≡ EndsLink reason) before → OrOut before (after_call before.link (Stop reason)) after → Makes before number message after
  RefusesVersion : OfServers (λ k. verdict k message ≡ OtherVersion) before →
      OrOut before (after_call before.link (Send (version_error (word_at 0 message) (word_at 4 message) before.credits.word))) after → Makes before number message after
  RefusesChunks : OfServers (λ k. verdict k message ≡ BadChunks) before →
      OrOut before (after_call before.link (Send (chunk_error (word_at 0 message) before.credits.word))) after → Makes before number message after
  Calls : (lists : ChunkLists) (stream_at : ℕ) → OfServers (λ k. IsCall k message lists stream_at) before → Begins before after number message lists stream_at → Makes before number message after
  Fetches : (xid : ℕ) (lists : ChunkLists) (inline : Option (List ℕ)) → OfServers (λ k. IsReadCall k message xid lists inline) before → before.link.state.memory.next + length (chunks_of lists) ≤ numbers_end → read_total lists.read ≤ PAYLOAD_MAX → length lists.read ≤ READ_SEGMENTS_MAX → chunks_of lists ≢ [] →
      after ≡ reading_call before (record { number = number; xid = xid; lists = lists; inline = inline }) → Makes before number message after
  Completes : (xid : ℕ) (lists : ChunkLists) (inline : Option (List ℕ)) → OfServers (λ k. IsReadCall k message xid lists inline) before → HasNoBytes lists.read →
      IsStreamAlone (record { number = number; xid = xid; lists = lists; inline = inline }) →
      after ≡ with_ready before before.link (record { number = number; xid = xid; lists = lists; inline = inline }) → Makes before number message after
  EndsAtOnce : (xid : ℕ) (lists : ChunkLists) (inline : Option (List ℕ)) (reason : ℕ) → 5 ≤ reason → OfServers (λ k. IsReadCall k message xid lists inline) before → HasNoBytes lists.read →
      by_payload (record { number = number; xid = xid; lists = lists; inline = inline }) (payload_at_once (record { number = number; xid = xid; lists = lists; inline = inline })) ≡ RefusedFor reason →
      OrOut before (after_call before.link (Stop reason)) after → Makes before number message after
  LeavesReads : OfServers (λ k. MessageTakes k message) before → after ≡ out before → Makes before number message after
  -- no server of a run is so
  NoServer : OfServers (λ k. number ≢ k.received.sends + 1) before → Makes before number message after

-- ---- What it is for a server

-- It stops the link for the reason of the server, queues the server's error message, or has one call more, which is ready or is read.
pub data Handled (k : ServerState) (message : List ℕ) (before after : ResponderSide) : Type 0 where
  Stopped : (reason : ℕ) → ((place : ℕ) → (by_message k place (Some message)).refusal ≡ Some reason) → 5 ≤ reason → after ≡ on_link before (after_call (after_call before.link NextEvent) (Stop reason)) → Handled k message before after
  Refused : (answer : List ℕ) → ((place : ℕ) → by_message k place (Some message) ≡ refused_effect k answer) → length answer ≤ send_unit → after ≡ on_link before (after_call (after_call before.link NextEvent) (Send answer)) → Handled k message before after
  Ready : (xid : ℕ) (write : List (List RdmaSegment)) (reply : Option (List RdmaSegment)) (stream : List ℕ) (head : CallHead) → is_pending k xid ≡ false →
      verdict k message ≡ MakesPending (inline_call k xid write reply stream) → call_of stream ≡ Ok head → head_xid head ≡ xid →
      after ≡ with_ready before (after_call before.link NextEvent) (inline_call k xid write reply stream) → Handled k message before after
  Fetched : (c : PendingCall) → c.number ≡ k.received.sends + 1 → is_pending k c.xid ≡ false → verdict k message ≡ MakesPending c →
      (after_call before.link NextEvent).state.memory.next + length (chunks_of c.lists) ≤ numbers_end → read_total c.lists.read ≤ PAYLOAD_MAX → length c.lists.read ≤ READ_SEGMENTS_MAX → chunks_of c.lists ≢ [] →
      after ≡ reading_call (on_link before (after_call before.link NextEvent)) c → Handled k message before after
  Completed : (c : PendingCall) → c.number ≡ k.received.sends + 1 → is_pending k c.xid ≡ false → verdict k message ≡ MakesPending c → HasNoBytes c.lists.read → IsStreamAlone c →
      after ≡ with_ready before (after_call before.link NextEvent) c → Handled k message before after

-- what was made of what the link delivered
pub record IsHandled (k : ServerState) (before after : ResponderSide) : Type 0 where
  pub credits : credit_word k ≡ before.credits.word
  pub none : before.link.state.receive_queue.deliveries ≡ [] → after ≡ before
  pub some : (number : ℕ) (invalidated : Option ℕ) (m : List ℕ) → before.link.state.receive_queue.deliveries ≡ MessageReceived number invalidated m ∷ [] → number ≡ k.received.sends + 1 → Handled k m before after
  pub read : before.link.state.receive_queue.deliveries ≡ ReadDone ∷ [] → (r : PendingRead) (rest : List PendingRead) → before.fetching.reads ≡ r ∷ rest → ReadHandled (on_link before (after_call before.link NextEvent)) r rest after

-- what the code made of it
pub record IsTaken (before after : ResponderSide) : Type 0 where
  pub none : before.link.state.receive_queue.deliveries ≡ [] → after ≡ before
  pub some : (number : ℕ) (invalidated : Option ℕ) (m : List ℕ) → before.link.state.receive_queue.deliveries ≡ MessageReceived number invalidated m ∷ [] →
      Makes (on_link before (after_call before.link NextEvent)) number m after
  pub read : before.link.state.receive_queue.deliveries ≡ ReadDone ∷ [] → (r : PendingRead) (rest : List PendingRead) → before.fetching.reads ≡ r ∷ rest →
      HandlesRead (on_link before (after_call before.link NextEvent)) r rest after
