-- A payload that is conveyed is bytes if what conveys it is, and so is the outcome that a message of bytes brings.
use Rattle.std.specs.List.{AllByRecursion}
use Rattle.std.proofs.Common.{ℕ, Bool, true, false, cond, eqb, List, [], ◌∷◌, ◌++◌, take, drop, replicate, Option, None, Some, Result, Ok, Err}
use Rattle.nr_xdr.specs.Item.{IsBytes, pad_len}
use Rattle.nr_xdr.proofs.WordBytes.{IsBytes_take, IsBytes_drop}
use Rattle.nr_header.specs.declared.fault.HeaderFault.{HeaderFault}
use Rattle.nr_header.specs.declared.fault.HeaderFault.TheVariants as faults
use Rattle.nr_header.specs.declared.header.RdmaSegment.{RdmaSegment}
use Rattle.nr_header.specs.declared.header.ChunkLists.{ChunkLists}
use Rattle.nr_header.specs.declared.header.Body.{Body}
use Rattle.nr_header.specs.declared.header.Body.TheVariants.{Msg, Nomsg, ErrVers, ErrChunk}
use Rattle.nr_header.specs.declared.header.Header.{Header}
use Rattle.nr_header.specs.Reading.{header_of}
use Rattle.nr_rpc.specs.Reading.{reply_of}
use Rattle.nr_rpc.specs.declared.head.ReplyHead.{ReplyHead}
use Rattle.nr_link.specs.Reasons.{REASON_XID}
use Rattle.nr_reduce.specs.declared.call.Outcome.TheVariants as outcomes
use Rattle.nr_reduce.specs.declared.item.Item.{Item}
use Rattle.nr_reduce.specs.declared.item.Of.{Of}
use Rattle.nr_reduce.specs.declared.item.Of.TheVariants as items
use Rattle.nr_reduce.specs.Items.{item_of, restored_payload}
use Rattle.nr_reduce.specs.Chunks.{answers_offer, has_moved_length, joined_bytes, reply_conveyed, reply_moved, reply_stream, segment_bytes, some_bytes, whole, whole_by}
use Rattle.nr_reduce.specs.Client.{outcomes_of}
use Rattle.nr_reduce.specs.ClientMessages.{ReplyVerdict, answered_call, by_call, by_lists, reply_by_body, reply_by_head, reply_by_header, reply_by_payload, reply_verdict, reply_xid}
use Rattle.nr_reduce.specs.ClientMessages.ReplyVerdict.{EndsLink, GivesOutcome}
use Rattle.nr_reduce.specs.ClientState.{ClientState, OutstandingCall, client_memory_at}
use Rattle.nr_reduce.specs.Plans.{lists_of}
use Rattle.nr_laws.proofs.Bytes.{bytes_both}
use Rattle.nr_laws.proofs.CallTargets.{bytes_zeros}
use Rattle.nr_script.proofs.ByteLists.{flat_bytes, no_bytes_lem}
use Rattle.nr_byte_laws.specs.DueBytes.{CompletedInBytes, OutcomeIsBytes}

-- ===== payloads

pub bytes_if : (b : Bool) (xs ys : List ℕ) → IsBytes xs → IsBytes ys → IsBytes (cond b xs ys)
bytes_if true xs ys h g = h
bytes_if false xs ys h g = g

restored_bytes : (i : Item) (stream moved : List ℕ) → IsBytes stream → IsBytes moved → IsBytes (restored_payload i stream moved)
unfolding restored_payload
restored_bytes i stream moved fits bytes =
    bytes_both (take i.pos stream) (take i.len moved ++ (replicate (pad_len i.len) 0 ++ drop i.pos stream)) (IsBytes_take i.pos stream fits)
    (bytes_both (take i.len moved) (replicate (pad_len i.len) 0 ++ drop i.pos stream) (IsBytes_take i.len moved bytes)
    (bytes_both (replicate (pad_len i.len) 0) (drop i.pos stream) (bytes_zeros (pad_len i.len)) (IsBytes_drop i.pos stream fits)))

abbrev pub IfBytes : Option (List ℕ) → Type 0
IfBytes None = Unit {0}
IfBytes (Some bytes) = IsBytes bytes

whole_by_lem : (of : Of) (stream moved : List ℕ) (o : Option Item) → IsBytes stream → IsBytes moved → IfBytes (whole_by of stream moved o)
whole_by_lem of stream moved None h g = tt
whole_by_lem of stream moved (Some i) h g = by (has_moved_length of i moved)
  where
    by : (b : Bool) → IfBytes (cond b (Some (restored_payload i stream moved)) None)
    by true = restored_bytes i stream moved h g
    by false = tt

pub whole_bytes_lem : (of : Of) (stream : List ℕ) (o : Option (List ℕ)) → IsBytes stream → IfBytes o → IfBytes (whole of stream o)
whole_bytes_lem of stream None h g = h
whole_bytes_lem of stream (Some moved) h g = whole_by_lem of stream moved (item_of of stream) h g

-- ===== replies

abbrev pub MemoryOfBytes : (ℕ → List ℕ) → Type 0
MemoryOfBytes memory = (stag : ℕ) → IsBytes (memory stag)

joined_lem : (memory : ℕ → List ℕ) → MemoryOfBytes memory → (chunk : List RdmaSegment) → IsBytes (joined_bytes memory chunk)
unfolding joined_bytes
joined_lem memory h chunk =
    flat_bytes (segment_bytes memory) chunk (λ s. IsBytes_take s.length (drop s.offset (memory s.handle)) (IsBytes_drop s.offset (memory s.handle) (h s.handle)))

some_lem : (bytes : List ℕ) → IsBytes bytes → IfBytes (some_bytes bytes)
some_lem [] h = tt
some_lem (b ∷ bytes) h = h

moved_lem : (memory : ℕ → List ℕ) → MemoryOfBytes memory → (write : List (List RdmaSegment)) → IfBytes (reply_moved memory write)
moved_lem memory h [] = tt
moved_lem memory h (chunk ∷ chunks) = some_lem (joined_bytes memory chunk) (joined_lem memory h chunk)

stream_lem : (memory : ℕ → List ℕ) → MemoryOfBytes memory → (inline : Option (List ℕ)) (reply : Option (List RdmaSegment)) → IfBytes inline → IsBytes (reply_stream memory inline reply)
stream_lem memory h (Some inline) reply g = g
stream_lem memory h None None g = no_bytes_lem
stream_lem memory h None (Some chunk) g = joined_lem memory h chunk

reply_bytes : (prog vers proc : ℕ) (inline : Option (List ℕ)) (lists : ChunkLists) (memory : ℕ → List ℕ) → IfBytes inline → MemoryOfBytes memory → IfBytes (reply_conveyed prog vers proc inline lists memory)
unfolding reply_conveyed
reply_bytes prog vers proc inline lists memory g h =
    whole_bytes_lem (items.Reply prog vers proc) (reply_stream memory inline lists.reply) (reply_moved memory lists.write) (stream_lem memory h inline lists.reply g) (moved_lem memory h lists.write)

-- ===== outcomes

abbrev GivesBytes : ReplyVerdict → Type 0
GivesBytes (EndsLink reason) = Unit {0}
GivesBytes (GivesOutcome xid None) = Unit {0}
GivesBytes (GivesOutcome xid (Some outcome)) = OutcomeIsBytes outcome

head_gives : (xid : ℕ) (payload : List ℕ) (r : Result ReplyHead ℕ) → IsBytes payload → GivesBytes (reply_by_head xid payload r)
head_gives xid payload (Err at) h = tt
head_gives xid payload (Ok head) h = by (eqb (reply_xid head) xid)
  where
    by : (b : Bool) → GivesBytes (cond b (GivesOutcome xid (Some (outcomes.Reply payload))) (EndsLink REASON_XID))
    by true = h
    by false = tt

payload_gives : (xid : ℕ) (o : Option (List ℕ)) → IfBytes o → GivesBytes (reply_by_payload xid o)
payload_gives xid None h = tt
payload_gives xid (Some payload) h = head_gives xid payload (reply_of payload) h

lists_give : (k : ClientState) (place : ℕ) (o : OutstandingCall) (inline : Option (List ℕ)) (lists : ChunkLists) (b : Bool) → IfBytes inline → MemoryOfBytes (client_memory_at k place) → GivesBytes (by_lists k place o inline lists b)
lists_give k place o inline lists false g h = tt
lists_give k place o inline lists true g h = by o.is_revoked
  where
    by : (b : Bool) → GivesBytes (cond b (GivesOutcome o.xid None) (reply_by_payload o.xid (reply_conveyed o.call.prog o.call.vers o.call.proc inline lists (client_memory_at k place))))
    by true = tt
    by false =
        payload_gives o.xid (reply_conveyed o.call.prog o.call.vers o.call.proc inline lists (client_memory_at k place))
        (reply_bytes o.call.prog o.call.vers o.call.proc inline lists (client_memory_at k place) g h)

body_gives : (k : ClientState) (place : ℕ) (o : OutstandingCall) (message : List ℕ) (b : Body) → IsBytes message → MemoryOfBytes (client_memory_at k place) → GivesBytes (reply_by_body k place o message b)
body_gives k place o message (Msg lists at) m h =
    lists_give k place o (Some (drop at message)) lists (answers_offer false (lists_of o.stag o.plan) lists) (IsBytes_drop at message m) h
body_gives k place o message (Nomsg lists) m h = lists_give k place o None lists (answers_offer true (lists_of o.stag o.plan) lists) tt h
body_gives k place o message (ErrVers version low high) m h = tt
body_gives k place o message (ErrChunk version) m h = tt

call_gives : (k : ClientState) (place : ℕ) (message : List ℕ) (b : Body) (o : Option OutstandingCall) → IsBytes message → MemoryOfBytes (client_memory_at k place) → GivesBytes (by_call k place message b o)
call_gives k place message b None m h = tt
call_gives k place message b (Some o) m h = body_gives k place o message b m h

header_gives : (k : ClientState) (place : ℕ) (message : List ℕ) (r : Result Header HeaderFault) → IsBytes message → MemoryOfBytes (client_memory_at k place) → GivesBytes (reply_by_header k place message r)
header_gives k place message (Ok header) m h = call_gives k place message header.body (answered_call k header.xid) m h
header_gives k place message (Err faults.Short) m h = tt
header_gives k place message (Err (faults.Version version)) m h = tt
header_gives k place message (Err (faults.Kind kind)) m h = tt
header_gives k place message (Err (faults.BadChunks at)) m h = tt

given_outcomes : (v : ReplyVerdict) → GivesBytes v → AllByRecursion CompletedInBytes (outcomes_of v)
given_outcomes (EndsLink reason) h = tt
given_outcomes (GivesOutcome xid None) h = tt
given_outcomes (GivesOutcome xid (Some outcome)) h = (h, tt)

-- the outcome that a message of bytes brings to a client whose memory holds bytes
pub brought_bytes : (k : ClientState) (place : ℕ) (message : List ℕ) → IsBytes message → MemoryOfBytes (client_memory_at k place) → AllByRecursion CompletedInBytes (outcomes_of (reply_verdict k place message))
unfolding reply_verdict
brought_bytes k place message m h = given_outcomes (reply_by_header k place message (header_of message)) (header_gives k place message (header_of message) m h)
