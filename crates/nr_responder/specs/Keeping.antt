-- What a responder keeps of the state of a server of a run.
use Rattle.std.specs.Prelude.{◌≡◌, ℕ, ◌+◌, ◌-◌, ◌<◌, ◌≤◌, ◌==◌, nat_lt, true, false, List, [], ◌∷◌, length, map, Option, None, Some, is_some, ◌⊎◌}
use Rattle.std.specs.List.{AllByRecursion, list_any, filter}
use Rattle.nr_wire.specs.declared.hello.Side.TheVariants.{Initiator, Responder}
use Rattle.nr_wire.specs.declared.stream.Awaited.TheVariants.{Hello as HelloFrom, Fpdu}
use Rattle.nr_regions.specs.declared.right.Right.TheVariants.{Sink}
use Rattle.nr_regions.specs.RegisteredMemory.{NoneIsDead}
use Rattle.nr_link.specs.Input.{InputState}
use Rattle.nr_link.specs.declared.agreement.Agreement.{Agreement}
use Rattle.nr_link.specs.Agreement.{IsSendLimit}
use Rattle.nr_link.specs.KeptSends.{received_within}
use Rattle.nr_link.specs.Output.{msn_word}
use Rattle.nr_link.specs.SegmentFaults.{ExpectedResponse, is_begun}
use Rattle.nr_endpoint.specs.Hellos.{receive_length_for}
use Rattle.nr_endpoint.specs.SendQueue.{SendQueue, output_len}
use Rattle.nr_endpoint.specs.LinkState.{LinkState, LinkSide}
use Rattle.nr_endpoint.specs.Laws.{KeepsInput}
use Rattle.nr_reduce.specs.declared.mark.LinkParameters.{LinkParameters}
use Rattle.nr_reduce.specs.Plans.{one_if}
use Rattle.nr_reduce.specs.OfferedMemory.{AreOffered, AreReceived, HoldsRegions}
use Rattle.nr_reduce.specs.EndRules.{EndState}
use Rattle.nr_reduce.specs.ServerState.{PendingCall, PendingRead, ReadyCall, ServerState, next_stag}
use Rattle.nr_reduce.specs.ServerReads.{open_reads, is_read, is_over}
use Rattle.nr_reduce.specs.StandingLaws.{StagsFrom}
use Rattle.nr_responder.specs.Fetching.{open_sinks}
use Rattle.nr_responder.specs.Granting.{grant, grant_of}
use Rattle.nr_responder.specs.ResponderState.{ResponderSide, unsent, end_of, queue, may_write}

-- no two pending calls have one number, or one xid, nor have two calls that are ready one xid
abbrev pub OwnNumbers : List PendingCall → Type 0
OwnNumbers [] = Unit {0}
OwnNumbers (c ∷ calls) = (list_any (λ d. d.number == c.number) calls ≡ false) × OwnNumbers calls

abbrev pub OwnXids : List PendingCall → Type 0
OwnXids [] = Unit {0}
OwnXids (c ∷ calls) = (list_any (λ d. d.xid == c.xid) calls ≡ false) × OwnXids calls

abbrev pub OwnReady : List ReadyCall → Type 0
OwnReady [] = Unit {0}
OwnReady (r ∷ ready) = (list_any (λ q. q.xid == r.xid) ready ≡ false) × OwnReady ready

-- A call that is ready is the pending call of its xid, and nothing is left to be read for it.
pub record IsReadyOf (calls : List PendingCall) (reads : List PendingRead) (r : ReadyCall) : Type 0 where
  pub pending : list_any (λ c. c.xid == r.xid) calls ≡ true
  pub own : AllByRecursion (λ c. c.xid ≡ r.xid → c.number ≡ r.number) calls
  pub read : is_read reads r.number ≡ true

-- its payload is the stream of its Send
abbrev pub IsInline : List PendingCall → ReadyCall → Type 0
IsInline calls r = AllByRecursion (λ c. c.xid ≡ r.xid → c.inline ≡ Some r.payload) calls

-- or it was read with its chunks
abbrev pub HasPayload : List PendingCall → ReadyCall → Option (List ℕ) → Type 0
HasPayload calls r None = IsInline calls r
HasPayload calls r (Some payload) = payload ≡ r.payload

abbrev pub ArePayloads : List PendingCall → List ReadyCall → List (Option (List ℕ)) → Type 0
ArePayloads calls [] [] = Unit {0}
ArePayloads calls [] (p ∷ payloads) = ⊥
ArePayloads calls (r ∷ ready) [] = ⊥
ArePayloads calls (r ∷ ready) (p ∷ payloads) = HasPayload calls r p × ArePayloads calls ready payloads

-- The state of a server, as it comes along a run after n bytes were received: its regions are sinks under the STags from 1 on,
-- those that are over are closed and no others, nothing has the number of a Send that hasn't come, and a Send may be from one unit to
-- UNITS_MAX of them long.
pub record IsServer (k : ServerState) (place : ℕ) : Type 0 where
  pub offered : AreOffered place k.regions
  pub accesses : AreReceived place k.accesses_received
  pub numbered : StagsFrom 1 k.regions
  pub sinks : AllByRecursion (λ r. r.right ≡ Sink) k.regions
  pub calls_before : AllByRecursion (λ c. c.number ≤ k.received.sends) k.calls
  pub reads_before : AllByRecursion (λ r. r.number ≤ k.received.sends) k.reads
  pub regions_before : AllByRecursion (λ r. r.call ≤ k.received.sends) k.regions
  pub closed : AllByRecursion (λ r. is_some r.until ≡ is_over k.calls k.reads r) k.regions
  pub numbers : OwnNumbers k.calls
  pub xids : OwnXids k.calls
  pub ready_xids : OwnReady k.ready
  pub ready : AllByRecursion (IsReadyOf k.calls k.reads) k.ready
  pub idle : k.reads ≡ [] → k.response_bytes ≡ 0
  pub up : IsSendLimit k.up_max
  pub down : IsSendLimit k.down_max

-- Before the client's hello it has nothing to write. After it FPDUs come.
pub data Begins (link : LinkSide) : Type 0 where
  BeforeHello : link.state.place ≡ 0 → link.awaited ≡ HelloFrom Initiator → link.state.has_hello ≡ false → link.state.send_queue.fpdus ≡ [] → Begins link
  AfterHello : 0 < link.state.place → link.awaited ≡ Fpdu → link.state.has_hello ≡ true → Begins link

-- the reads whose Read Requests are sent, each with the offset at which its response goes on
abbrev pub open_response : PendingRead → ExpectedResponse
open_response r = record { sink = r.sink; at = r.at; left = r.size }

abbrev pub later_responses : List PendingRead → List ExpectedResponse
later_responses [] = []
later_responses (r ∷ reads) = open_response r ∷ later_responses reads

abbrev pub open_responses : ℕ → List PendingRead → List ExpectedResponse
open_responses response_bytes [] = []
open_responses response_bytes (r ∷ reads) = record { sink = r.sink; at = r.at + response_bytes; left = r.size - response_bytes } ∷ later_responses reads

-- The offsets in all output that is due at which messages end, after n bytes were written, if the queue begins with `hello` bytes
-- of a hello: those of the messages that wait, as offsets in the FPDUs of the queue.
unfoldable pub ends_queued : (written hello : ℕ) → List ℕ → List ℕ
ends_queued written hello ends = map (λ end. end - written - hello) (filter (nat_lt written) ends)

-- a message has left, or its end lies after the hello in the queue
abbrev pub IsEnd : (written hello end : ℕ) → Type 0
IsEnd written hello end = (end ≤ written) ⊎ (written + hello < end)

-- The send queue has the bytes that are due and not written, and knows the offsets at which the messages among them end.
pub record QueueHas (written due messages requests : ℕ) (ends : List ℕ) (q : SendQueue) : Type 0 where
  pub due_is : written + output_len q ≡ due
  pub ends_are : q.send_ends ≡ ends_queued written (length q.hello) ends
  pub each : AllByRecursion (IsEnd written (length q.hello)) ends
  pub sends : q.last_send ≡ msn_word messages
  pub requests_are : q.last_request ≡ msn_word requests
  pub responses : q.response_ends ≡ []

abbrev pub QueueKeeps : ServerState → SendQueue → Type 0
QueueKeeps k q = QueueHas k.written k.due k.messages_queued k.requests_sent k.message_ends q

-- What an endpoint keeps of a server's state. Its receives are as long as its terms ask for, and a Send is as long at most as both hellos agree.
pub record LinkKeeps (opened : LinkParameters) (k : ServerState) (s : LinkState) : Type 0 where
  pub live : s.ended ≡ None
  pub side : s.side ≡ Responder
  pub received : s.receive_queue.received ≡ received_within (receive_length_for opened.server) k.received
  pub receive_length : s.receive_queue.receive_length ≡ receive_length_for opened.server
  pub message_max : s.message_max ≡ k.up_max
  pub fits : k.up_max ≤ receive_length_for opened.server
  pub terms : s.terms ≡ opened.server
  pub up : s.agreed.up ≡ k.up_max
  pub down : s.agreed.down ≡ k.down_max
  pub invalidates : s.agreed.invalidates ≡ k.invalidates
  pub free : s.receive_queue.free + (unsent s + length k.calls + one_if (is_begun k.received.begun)) ≡ opened.receives
  pub lent : s.receive_queue.lent ≡ length k.calls + unsent s
  pub told : s.receive_queue.deliveries ≡ []
  pub reads : s.reads ≡ open_responses k.response_bytes (open_reads k)
  pub memory : HoldsRegions k.regions k.accesses_received s.place s.memory
  pub none_dead : NoneIsDead s.memory
  pub next : s.memory.next ≡ next_stag k
  pub queue : QueueKeeps k s.send_queue

-- What a responder keeps of a server's state.
pub record Keeps (opened : LinkParameters) (k : ServerState) (input_now : InputState) (v : ResponderSide) : Type 0 where
  pub link : LinkKeeps opened k v.link.state
  pub input : KeepsInput v.link input_now
  pub begins : Begins v.link
  pub server : IsServer k v.link.state.place
  pub calls : v.calls ≡ k.calls
  pub ready : v.ready ≡ map (λ r. r.xid) k.ready
  pub credits : grant v.credits ≡ grant_of k
  pub reads : v.fetching.reads ≡ k.reads
  pub sinks : v.fetching.sinks ≡ open_sinks k.regions
  pub payloads : ArePayloads k.calls k.ready v.fetching.payloads
  pub quiet : v.link.state.place ≡ 0 → (v.ready ≡ []) × (k.message_ends ≡ [])

-- What both hellos agree on is what the server has agreed on: from one unit to UNITS_MAX of them in each direction.
pub record KeepsAgreed (k : ServerState) (agreed : Agreement) : Type 0 where
  pub up : agreed.up ≡ k.up_max
  pub down : agreed.down ≡ k.down_max
  pub invalidates : agreed.invalidates ≡ k.invalidates
  pub up_limit : IsSendLimit agreed.up
  pub down_limit : IsSendLimit agreed.down

-- One that has ended keeps why, and the calls, the credits and what is agreed of the server as it ended. All of its queue may be written.
pub record KeepsEnded (end : EndState ServerState) (v : ResponderSide) : Type 0 where
  pub over : is_some end.ended ≡ true
  pub why : end_of v ≡ end.ended
  pub calls : v.calls ≡ end.state.calls
  pub ready : v.ready ≡ map (λ r. r.xid) end.state.ready
  pub credits : grant v.credits ≡ grant_of end.state
  pub agreed : KeepsAgreed end.state v.link.state.agreed
  pub sendable : may_write v ≡ queue v

abbrev pub KeepsEnd : LinkParameters → EndState ServerState → InputState → ResponderSide → Type 0
KeepsEnd opened end input v = ((end.ended ≡ None) × Keeps opened end.state input v) ⊎ KeepsEnded end v
