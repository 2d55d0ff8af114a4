-- What a server writes are bytes, whatever its client sends, and so is each payload that waits to be executed.
use Rattle.std.specs.Prelude.{not, ◌||◌, min}
use Rattle.std.specs.List.{AllByRecursion}
use Rattle.std.proofs.Common.{◌≡◌, ℕ, ◌+◌, Bool, true, false, cond, eqb, ltb, leb, List, [], ◌∷◌, ◌++◌, length, take, drop, Option, None, Some, Result, Ok, Err, refl, sym, ap, subst}
use Rattle.nr_xdr.specs.Item.{IsBytes}
use Rattle.nr_xdr.specs.Fields.{word_at}
use Rattle.nr_xdr.proofs.WordBytes.{IsBytes_take, IsBytes_drop}
use Rattle.nr_wire.specs.declared.hello.Side.TheVariants.{Responder}
use Rattle.nr_wire.specs.Segment.{Segment}
use Rattle.nr_header.specs.declared.fault.HeaderFault.{HeaderFault}
use Rattle.nr_header.specs.declared.header.RdmaSegment.{RdmaSegment}
use Rattle.nr_header.specs.declared.header.ReadSegment.{ReadSegment}
use Rattle.nr_header.specs.declared.header.ChunkLists.{ChunkLists}
use Rattle.nr_header.specs.declared.header.Body.{Body}
use Rattle.nr_header.specs.declared.header.Body.TheVariants.{Msg, Nomsg, ErrVers, ErrChunk}
use Rattle.nr_header.specs.declared.header.Header.{Header}
use Rattle.nr_header.specs.Header.{header_encoding}
use Rattle.nr_header.specs.Reading.{header_of}
use Rattle.nr_rpc.specs.Reading.{call_of, target_of, head_xid}
use Rattle.nr_rpc.specs.declared.head.CallHead.{CallHead}
use Rattle.nr_rpc.specs.declared.head.CallTarget.{CallTarget}
use Rattle.nr_link.specs.declared.end.End.{End}
use Rattle.nr_link.specs.declared.end.End.TheVariants as ends
use Rattle.nr_link.specs.Reasons.{REASON_XID}
use Rattle.nr_link.specs.Frames.{Frame, is_hello}
use Rattle.nr_link.specs.Output.{refusing_hello, write}
use Rattle.nr_reduce.specs.Hellos.{server_hello}
use Rattle.nr_link.specs.ReceiveState.{begun_bytes}
use Rattle.nr_wire.specs.Constants.{REASON_FLAGS}
use Rattle.nr_link.specs.Ending.{frame_segment, tagged_access, final_output, rejection, last_output}
use Rattle.nr_link.proofs.TakenSegments.{frame_read}
use Rattle.nr_reduce.specs.declared.item.Item.{Item}
use Rattle.nr_reduce.specs.declared.item.Of.{Of}
use Rattle.nr_reduce.specs.declared.item.Of.TheVariants as items
use Rattle.nr_reduce.specs.declared.mark.Mark.{Mark}
use Rattle.nr_reduce.specs.declared.mark.LinkParameters.{LinkParameters}
use Rattle.nr_reduce.specs.History.{ExecutedCall}
use Rattle.nr_reduce.specs.Events.{RunEvent}
use Rattle.nr_reduce.specs.Events.RunEvent.{FrameReceived, CallSubmitted, MemoryRevoked, CallExecuted, QueueWritten, ServerTold}
use Rattle.nr_reduce.specs.Items.{reducible_item}
use Rattle.nr_reduce.specs.Chunks.{total_at, item_position, is_read_chunk_of_item, call_stream, call_moved, call_conveyed}
use Rattle.nr_reduce.specs.OfferedRegions.{Region, region_grants}
use Rattle.nr_reduce.specs.Holds.{Answer, Parts, parts_by, parts_in, answer_with, answer_for, fits_reply, answer_size, writes_into, first_chunk, no_segments, answer_writes, answer_body, answer_message, chunk_error, version_error}
use Rattle.nr_reduce.specs.ServerState.{PendingCall, PendingRead, ReadyCall, ServerState, credit_word, next_stag, is_pending}
use Rattle.nr_reduce.specs.ServerReads.{chunks_of, regions_from, regions_of, reads_of, sink_of, is_read, is_over}
use Rattle.nr_reduce.specs.ServerMessages.{Verdict, CallVerdict, verdict, by_need, by_stream, by_body, by_header, by_payload, by_head, has_position, no_stream, chunk_bytes, pending_payload}
use Rattle.nr_reduce.specs.ServerMessages.CallVerdict.{Refuses, IsReady}
use Rattle.nr_reduce.specs.ServerMessages.Verdict.{EndsLink, OtherVersion, BadChunks, MakesPending}
use Rattle.nr_reduce.specs.ServerFrames.{effect_in, FrameEffect, no_effect, with_verdict, ready_if_whole, message_effect, with_access, frame_effect}
use Rattle.nr_reduce.specs.Server.{stag_named, with_own_hello, server_rules, server_output, server_state_after, sends_from, newly_open_reads, requests_from, effect_output, offer_of, answer_of_target, answer_output, execution_output, received_by, tagged_accesses, with_effect, initial_server}
use Rattle.nr_reduce.specs.Run.{server, output_due}
use Rattle.nr_laws.specs.Typed.{IsTyped}
use Rattle.nr_laws.proofs.EventOutputs.{IsNext}
use Rattle.nr_laws.proofs.Basics.{each_append, each_kept}
use Rattle.nr_laws.proofs.Bytes.{bytes_both}
use Rattle.nr_laws.proofs.CallTargets.{bytes_zeros}
use Rattle.nr_laws.proofs.EachEffect.{EffectCase, effect_case, read_over}
use Rattle.nr_laws.proofs.EachEffect.EffectCase.{Unchanged, OfMessage, OfRead, OfRefusal, OfCall}
use Rattle.nr_laws.proofs.ServerEvents.{received_bytes, completed_bytes}
use Rattle.nr_laws.proofs.Words.{payload_bytes_lem, payload_by}
use Rattle.nr_script.proofs.ByteLists.{no_bytes_lem}
use Rattle.nr_byte_laws.proofs.ByteStreams.{header_bytes, named_bytes, send_bytes, write_bytes, request_bytes, server_hello_bytes, refusing_bytes, final_bytes}
use Rattle.nr_byte_laws.proofs.ByteRuns.{RegionOfBytes, AccessOfBytes, found_each, memory_bytes, regions_closed_lem, CarriesBytes, KeepsBytes, run_bytes}
use Rattle.nr_byte_laws.proofs.PayloadBytes.{IfBytes, bytes_if, whole_bytes_lem}
use Rattle.nr_byte_laws.proofs.ByteClients.{access_bytes}

-- ===== messages and answers

chunk_error_bytes : (xid credit : ℕ) → IsBytes (chunk_error xid credit)
unfolding chunk_error
chunk_error_bytes xid credit = header_bytes (record { xid = xid; credit = credit; body = ErrChunk _ })

version_error_bytes : (xid version credit : ℕ) → IsBytes (version_error xid version credit)
unfolding version_error
version_error_bytes xid version credit = header_bytes (record { xid = xid; credit = credit; body = ErrVers version _ _ })

-- an answer whose stream and content are bytes
abbrev IfAnswer : Option Answer → Type 0
IfAnswer None = Unit {0}
IfAnswer (Some a) = IsBytes a.stream × IsBytes a.moved

abbrev IfParts : Option Parts → Type 0
IfParts None = Unit {0}
IfParts (Some p) = IsBytes p.stream × IsBytes p.moved

parts_by_lem : (chunk : List RdmaSegment) (reply : List ℕ) (o : Option Item) → IsBytes reply → IfParts (parts_by chunk reply o)
parts_by_lem chunk reply None h = (h, no_bytes_lem)
parts_by_lem chunk reply (Some i) h = by (leb i.len _)
  where
    by : (b : Bool) → IfParts (cond b (Some (record { stream = take i.pos reply; moved = take i.len (drop i.pos reply) })) None)
    by true = (IsBytes_take i.pos reply h, IsBytes_take i.len (drop i.pos reply) (IsBytes_drop i.pos reply h))
    by false = tt

parts_bytes : (of : Of) (chunks : List (List RdmaSegment)) (reply : List ℕ) → IsBytes reply → IfParts (parts_in of chunks reply)
parts_bytes of [] reply h = (h, no_bytes_lem)
parts_bytes of ([] ∷ chunks) reply h = (h, no_bytes_lem)
parts_bytes of ((s ∷ chunk) ∷ chunks) reply h = parts_by_lem (s ∷ chunk) reply (reducible_item of reply) h

with_parts : (offer : ChunkLists) (down : ℕ) (o : Option Parts) → IfParts o → IfAnswer (answer_with offer down o)
with_parts offer down None h = tt
with_parts offer down (Some p) h = by (leb (answer_size offer.write + length p.stream) down) (fits_reply offer.reply (length p.stream))
  where
    by : (b c : Bool) → IfAnswer (cond b (Some (record { long = false; stream = p.stream; moved = p.moved })) (cond c (Some (record { long = true; stream = p.stream; moved = p.moved })) None))
    by true c = h
    by false true = h
    by false false = tt

answer_bytes : (offer : ChunkLists) (down prog vers proc : ℕ) (reply : List ℕ) → IsBytes reply → IfAnswer (answer_for offer down prog vers proc reply)
unfolding answer_for
answer_bytes offer down prog vers proc reply h = with_parts offer down (parts_in (items.Reply prog vers proc) offer.write reply) (parts_bytes (items.Reply prog vers proc) offer.write reply h)

target_bytes : (offer : ChunkLists) (down : ℕ) (reply : List ℕ) (t : Option CallTarget) → IsBytes reply → IfAnswer (answer_of_target offer down reply t)
target_bytes offer down reply None h = answer_bytes offer down 0 0 0 reply h
target_bytes offer down reply (Some t) h = answer_bytes offer down t.prog t.vers t.proc reply h

into_bytes_lem : (chunk : List RdmaSegment) (bytes : List ℕ) → IsBytes bytes → IsBytes (writes_into chunk bytes)
into_bytes_lem [] bytes h = no_bytes_lem
into_bytes_lem (s ∷ chunk) bytes h =
    bytes_both (cond (eqb (min s.length (length bytes)) 0) [] (write s.handle s.offset (take s.length bytes))) (writes_into chunk (drop s.length bytes))
    (bytes_if (eqb (min s.length (length bytes)) 0) [] (write s.handle s.offset (take s.length bytes)) no_bytes_lem (write_bytes s.handle s.offset (take s.length bytes) (IsBytes_take s.length bytes h)))
    (into_bytes_lem chunk (drop s.length bytes) (IsBytes_drop s.length bytes h))

writes_bytes : (offer : ChunkLists) (a : Answer) → IsBytes a.stream → IsBytes a.moved → IsBytes (answer_writes offer a)
unfolding answer_writes
writes_bytes offer a stream moved =
    bytes_both (writes_into (first_chunk offer.write) a.moved) (cond a.long (writes_into (no_segments offer.reply) a.stream) []) (into_bytes_lem (first_chunk offer.write) a.moved moved)
    (bytes_if a.long (writes_into (no_segments offer.reply) a.stream) [] (into_bytes_lem (no_segments offer.reply) a.stream stream) no_bytes_lem)

answer_message_bytes : (xid credit : ℕ) (offer : ChunkLists) (a : Answer) → IsBytes a.stream → IsBytes (answer_message xid credit offer a)
unfolding answer_message
answer_message_bytes xid credit offer a stream =
    bytes_both (header_encoding (record { xid = xid; credit = credit; body = answer_body offer a })) (cond a.long [] a.stream)
    (header_bytes (record { xid = xid; credit = credit; body = answer_body offer a })) (bytes_if a.long [] a.stream no_bytes_lem stream)

output_bytes_lem : (k : ServerState) (xid : ℕ) (offer : ChunkLists) (o : Option Answer) → IfAnswer o → IsBytes (answer_output k xid offer o)
output_bytes_lem k xid offer None h = send_bytes (k.messages_queued + 1) (chunk_error xid (credit_word k)) (chunk_error_bytes xid (credit_word k))
output_bytes_lem k xid offer (Some a) h =
    bytes_both (answer_writes offer a) _ (writes_bytes offer a h.0 h.1) (named_bytes (stag_named k.invalidates offer) (k.messages_queued + 1) (answer_message xid (credit_word k) offer a) (answer_message_bytes xid (credit_word k) offer a h.0))

execution_bytes : (k : ServerState) (e : ExecutedCall) → IsBytes e.reply → IsBytes (execution_output k e)
unfolding execution_output
execution_bytes k e h = output_bytes_lem k e.xid (offer_of k e.xid) _ (target_bytes (offer_of k e.xid) _ e.reply (target_of (call_of e.payload)) h)

-- ===== payloads

stream_bytes : (inline : Option (List ℕ)) (chunk : ℕ → List ℕ) → IfBytes inline → ((p : ℕ) → IsBytes (chunk p)) → IsBytes (call_stream inline chunk)
stream_bytes None chunk h each = each 0
stream_bytes (Some inline) chunk h each = h

moved_bytes : (o : Option ℕ) (chunk : ℕ → List ℕ) → ((p : ℕ) → IsBytes (chunk p)) → IfBytes (call_moved o chunk)
moved_bytes None chunk each = tt
moved_bytes (Some p) chunk each = each p

conveyed_bytes : (inline : Option (List ℕ)) (read : List ReadSegment) (chunk : ℕ → List ℕ) → IfBytes inline → ((p : ℕ) → IsBytes (chunk p)) → IfBytes (call_conveyed inline read chunk)
unfolding call_conveyed
conveyed_bytes inline read chunk h each =
    whole_bytes_lem items.Call (call_stream inline chunk) (call_moved (item_position read) chunk) (stream_bytes inline chunk h each) (moved_bytes (item_position read) chunk each)

-- ===== a server

abbrev PendingOfBytes : PendingCall → Type 0
PendingOfBytes c = IfBytes c.inline

abbrev pub ReadyOfBytes : ReadyCall → Type 0
ReadyOfBytes r = IsBytes r.payload

pub record ServerOfBytes (k : ServerState) : Type 0 where
  pub begun : IsBytes (begun_bytes k.received.begun)
  pub calls : AllByRecursion (λ (c : PendingCall). IfBytes c.inline) k.calls
  pub regions : AllByRecursion RegionOfBytes k.regions
  pub accesses : AllByRecursion AccessOfBytes k.accesses_received
  pub ready : AllByRecursion ReadyOfBytes k.ready

payload_of_bytes : (k : ServerState) (place : ℕ) (c : PendingCall) → AllByRecursion RegionOfBytes k.regions → AllByRecursion AccessOfBytes k.accesses_received → PendingOfBytes c → IfBytes (pending_payload k place c)
unfolding pending_payload
payload_of_bytes k place c regions accesses h =
    conveyed_bytes c.inline c.lists.read (chunk_bytes k place c) h (λ p. memory_bytes (region_grants place k.regions) k.regions k.accesses_received (sink_of k.regions c.number p) regions accesses)

-- what a frame makes of it
record EffectOfBytes (s : FrameEffect) : Type 0 where
  calls : AllByRecursion PendingOfBytes s.calls
  regions : AllByRecursion RegionOfBytes s.regions
  ready : AllByRecursion ReadyOfBytes s.ready
  errors : AllByRecursion IsBytes s.errors

abbrev IfReady : CallVerdict → Type 0
IfReady (Refuses reason) = Unit {0}
IfReady (IsReady r) = ReadyOfBytes r

head_ready : (c : PendingCall) (payload : List ℕ) (r : Result CallHead ℕ) → IsBytes payload → IfReady (by_head c payload r)
head_ready c payload (Err at) h = tt
head_ready c payload (Ok head) h = by (eqb (head_xid head) c.xid)
  where
    by : (b : Bool) → IfReady (cond b (IsReady (record { number = c.number; xid = c.xid; payload = payload })) (Refuses REASON_XID))
    by true = h
    by false = tt

payload_ready : (c : PendingCall) (o : Option (List ℕ)) → IfBytes o → IfReady (by_payload c o)
payload_ready c None h = tt
payload_ready c (Some payload) h = head_ready c payload (call_of payload) h

verdict_effect : (v : CallVerdict) (s : FrameEffect) → IfReady v → EffectOfBytes s → EffectOfBytes (with_verdict v s)
verdict_effect (Refuses reason) s r h = record { calls = h.calls; regions = h.regions; ready = h.ready; errors = h.errors }
verdict_effect (IsReady call) s r h = record { calls = h.calls; regions = h.regions; ready = (r, tt); errors = h.errors }

whole_effect : (k : ServerState) (place : ℕ) (c : PendingCall) (s : FrameEffect) → AllByRecursion RegionOfBytes k.regions → AllByRecursion AccessOfBytes k.accesses_received → PendingOfBytes c → EffectOfBytes s →
    EffectOfBytes (ready_if_whole k place c s)
whole_effect k place c s regions accesses own h = by (is_read s.reads c.number)
  where
    by : (b : Bool) → EffectOfBytes (cond b (with_verdict (by_payload c (pending_payload k place c)) s) s)
    by true = verdict_effect (by_payload c (pending_payload k place c)) s (payload_ready c (pending_payload k place c) (payload_of_bytes k place c regions accesses own)) h
    by false = h

none_of_bytes : (k : ServerState) → ServerOfBytes k → EffectOfBytes (no_effect k)
none_of_bytes k h = record { calls = h.calls; regions = h.regions; ready = tt; errors = tt }

new_regions : (number place stag : ℕ) (lists : ChunkLists) (ps : List ℕ) → AllByRecursion RegionOfBytes (regions_from number place stag lists ps)
new_regions number place stag lists [] = tt
new_regions number place stag lists (p ∷ ps) = (bytes_zeros _, new_regions number place (stag + 1) lists ps)

-- a verdict on a message of bytes
abbrev VerdictOfBytes : Verdict → Type 0
VerdictOfBytes (EndsLink reason) = Unit {0}
VerdictOfBytes OtherVersion = Unit {0}
VerdictOfBytes BadChunks = Unit {0}
VerdictOfBytes (MakesPending c) = PendingOfBytes c

verdict_if : (b : Bool) (v w : Verdict) → VerdictOfBytes v → VerdictOfBytes w → VerdictOfBytes (cond b v w)
verdict_if true v w h g = h
verdict_if false v w h g = g

need_verdict : (k : ServerState) (c : PendingCall) → PendingOfBytes c → VerdictOfBytes (by_need k c)
need_verdict k c h = verdict_if (ltb 4294967296 (next_stag k + length (chunks_of c.lists))) (EndsLink 30) (MakesPending c) tt h

stream_verdict : (k : ServerState) (lists : ChunkLists) (xid : ℕ) (o : Option (List ℕ)) → IfBytes o → VerdictOfBytes (by_stream k lists xid o)
stream_verdict k lists xid None h = need_verdict k (record { number = k.received.sends + 1; xid = xid; lists = lists; inline = None }) tt
stream_verdict k lists xid (Some stream) h =
    let c : PendingCall = record { number = k.received.sends + 1; xid = xid; lists = lists; inline = Some stream } in
    verdict_if (is_read_chunk_of_item stream lists.read) (by_need k c) BadChunks (need_verdict k c h) tt

empty_stream : (read : List ReadSegment) → IfBytes (no_stream read)
empty_stream read = by (eqb (total_at 0 read) 0)
  where
    by : (b : Bool) → IfBytes (cond b (Some []) None)
    by true = no_bytes_lem
    by false = tt

body_verdict : (k : ServerState) (xid : ℕ) (message : List ℕ) (b : Body) → IsBytes message → VerdictOfBytes (by_body k xid message b)
body_verdict k xid message (Msg lists at) h = stream_verdict k lists xid (Some (drop at message)) (IsBytes_drop at message h)
body_verdict k xid message (Nomsg lists) h =
    verdict_if (has_position lists.read) (by_stream k lists xid (no_stream lists.read)) BadChunks (stream_verdict k lists xid (no_stream lists.read) (empty_stream lists.read)) tt
body_verdict k xid message (ErrVers version low high) h = tt
body_verdict k xid message (ErrChunk version) h = tt

header_verdict : (k : ServerState) (message : List ℕ) (r : Result Header HeaderFault) → IsBytes message → VerdictOfBytes (by_header k message r)
header_verdict k message (Ok header) h = body_verdict k header.xid message header.body h
header_verdict k message (Err fault) h = tt

message_verdict : (k : ServerState) (message : List ℕ) → IsBytes message → VerdictOfBytes (verdict k message)
unfolding verdict
message_verdict k message h =
    verdict_if (not (eqb (word_at 4 message) 1)) OtherVersion _ tt
    (verdict_if (eqb (word_at 12 message) 3 || eqb (word_at 12 message) 4) (EndsLink 17) _ tt
    (verdict_if (is_pending k (word_at 0 message)) (EndsLink 20) (by_header k message (header_of message)) tt (header_verdict k message (header_of message) h)))

judged_effect : (k : ServerState) (place : ℕ) (message : List ℕ) (v : Verdict) → VerdictOfBytes v → ServerOfBytes k → EffectOfBytes (message_effect k place message v)
judged_effect k place message (EndsLink reason) v h = record { calls = h.calls; regions = h.regions; ready = tt; errors = tt }
judged_effect k place message OtherVersion v h = record { calls = h.calls; regions = h.regions; ready = tt; errors = (version_error_bytes (word_at 0 message) (word_at 4 message) (credit_word k), tt) }
judged_effect k place message BadChunks v h = record { calls = h.calls; regions = h.regions; ready = tt; errors = (chunk_error_bytes (word_at 0 message) (credit_word k), tt) }
judged_effect k place message (MakesPending c) v h =
    let regions : List Region = k.regions ++ regions_of k place c in
    let s : FrameEffect = record (no_effect k) { calls = k.calls ++ c ∷ []; reads = k.reads ++ reads_of regions c; regions = regions } in
    whole_effect k place c s h.regions h.accesses v (record {
      calls = each_append PendingOfBytes k.calls (c ∷ []) h.calls (v, tt);
      regions = each_append RegionOfBytes k.regions (regions_of k place c) h.regions (new_regions c.number place (next_stag k) c.lists (chunks_of c.lists));
      ready = tt;
      errors = tt;
    })

effect_bytes : (k : ServerState) (f : Frame) (segment : Segment) → frame_segment f ≡ Ok segment → IsBytes (payload_by segment) → ServerOfBytes k → (e : FrameEffect) → EffectCase k f segment e → EffectOfBytes e
effect_bytes k f segment is b h e (Unchanged own) = subst EffectOfBytes (sym own) (none_of_bytes k h)
effect_bytes k f segment is b h e (OfMessage message done own) =
    subst EffectOfBytes (sym own)
    (judged_effect k f.end message (verdict k message) (message_verdict k message (completed_bytes k.received segment message h.begun b done)) h)
effect_bytes k f segment is b h e (OfRead r reads last at own) = subst EffectOfBytes (sym own) (record { calls = h.calls; regions = h.regions; ready = tt; errors = tt })
effect_bytes k f segment is b h e (OfRefusal r reads c last at found test own) =
    subst EffectOfBytes (sym own) (record {
      calls = each_kept PendingOfBytes (λ other. not (eqb other.number c.number)) k.calls h.calls;
      regions = h.regions;
      ready = tt;
      errors = (chunk_error_bytes c.xid (credit_word k), tt);
    })
effect_bytes k f segment is b h e (OfCall r reads c last at found own) =
    subst EffectOfBytes (sym own)
    (whole_effect (with_access k f segment) f.end c (read_over k reads) h.regions
    (each_append AccessOfBytes k.accesses_received (tagged_access f segment) h.accesses (access_bytes f segment b))
    (found_each PendingOfBytes (λ x. eqb x.number r.number) k.calls c found h.calls)
    (record { calls = h.calls; regions = h.regions; ready = tt; errors = tt }))

frame_effect_lem : (k : ServerState) (f : Frame) → IsBytes f.bytes → ServerOfBytes k → EffectOfBytes (frame_effect k f)
unfolding frame_effect
frame_effect_lem k f b h = by (frame_segment f) refl
  where
    by : (r : Result Segment ℕ) → frame_segment f ≡ r → EffectOfBytes (frame_effect k f)
    by (Ok segment) is = effect_bytes k f segment is (payload_bytes_lem f.bytes segment b (frame_read f segment is)) h (frame_effect k f) (effect_case k f segment is)
    by (Err reason) is = subst EffectOfBytes (sym (ap (λ (r : Result Segment ℕ). effect_in k f r) is)) (none_of_bytes k h)

-- ===== what it writes

sends_bytes : (msn : ℕ) (messages : List (List ℕ)) → AllByRecursion IsBytes messages → IsBytes (sends_from msn messages)
sends_bytes msn [] h = no_bytes_lem
sends_bytes msn (message ∷ messages) h = bytes_both _ (sends_from (msn + 1) messages) (send_bytes msn message h.0) (sends_bytes (msn + 1) messages h.1)

requests_bytes : (msn : ℕ) (reads : List PendingRead) → IsBytes (requests_from msn reads)
requests_bytes msn [] = no_bytes_lem
requests_bytes msn (r ∷ reads) = bytes_both _ (requests_from (msn + 1) reads) (request_bytes msn r.sink r.at r.size r.stag r.to) (requests_bytes (msn + 1) reads)

server_written_lem : (o : LinkParameters) (place : ℕ) (k : ServerState) (e : RunEvent) → IsNext place e → CarriesBytes (record { state = k; ended = None }) e → ServerOfBytes k → IsBytes (server_output o k e)
unfolding server_output
server_written_lem o place k (FrameReceived f) next c h =
    bytes_if (is_hello f) (server_hello o f) (effect_output k (frame_effect k f)) (server_hello_bytes o f)
    (bytes_both (sends_from (k.messages_queued + 1) (frame_effect k f).errors) (requests_from (k.requests_sent + 1) (newly_open_reads (frame_effect k f)))
    (sends_bytes (k.messages_queued + 1) (frame_effect k f).errors (frame_effect_lem k f next.2 h).errors) (requests_bytes (k.requests_sent + 1) (newly_open_reads (frame_effect k f))))
server_written_lem o place k (CallSubmitted p a) next c h = no_bytes_lem
server_written_lem o place k (MemoryRevoked p xid) next c h = no_bytes_lem
server_written_lem o place k (CallExecuted e) next c h = execution_bytes k e c
server_written_lem o place k (QueueWritten taken) next c h = no_bytes_lem
server_written_lem o place k (ServerTold what) next c h = no_bytes_lem

rejection_bytes : (end : End) → IsBytes (rejection Responder end)
rejection_bytes (ends.Bad at reason) = bytes_if (eqb reason REASON_FLAGS) refusing_hello [] refusing_bytes no_bytes_lem
rejection_bytes (ends.Denied stag offset why) = no_bytes_lem
rejection_bytes (ends.NoBuffer msn) = no_bytes_lem
rejection_bytes (ends.Terminated reason) = no_bytes_lem
rejection_bytes ends.Memory = no_bytes_lem

final_of_server : (end : End) → IsBytes (last_output Responder end)
final_of_server end = bytes_both (rejection Responder end) (final_output end) (rejection_bytes end) (final_bytes end)

-- ===== what it knows then

begun_after : (k : ServerState) (f : Frame) (r : Result Segment ℕ) → frame_segment f ≡ r → IsBytes f.bytes → IsBytes (begun_bytes k.received.begun) → IsBytes (begun_bytes (received_by k.received r).begun)
begun_after k f (Ok segment) is b h = received_bytes k.received segment h (payload_bytes_lem f.bytes segment b (frame_read f segment is))
begun_after k f (Err reason) is b h = h

accesses_after : (f : Frame) (r : Result Segment ℕ) → frame_segment f ≡ r → IsBytes f.bytes → AllByRecursion AccessOfBytes (tagged_accesses f r)
accesses_after f (Ok segment) is b = access_bytes f segment (payload_bytes_lem f.bytes segment b (frame_read f segment is))
accesses_after f (Err reason) is b = tt

frame_after : (k : ServerState) (f : Frame) → IsBytes f.bytes → ServerOfBytes k → ServerOfBytes (with_effect k f (frame_effect k f))
frame_after k f b h =
    let s = frame_effect k f in
    let e = frame_effect_lem k f b h in
    record {
      begun = begun_after k f (frame_segment f) refl b h.begun;
      calls = e.calls;
      regions = regions_closed_lem (is_over s.calls s.reads) f.end s.regions e.regions;
      accesses = each_append AccessOfBytes k.accesses_received (tagged_accesses f (frame_segment f)) h.accesses (accesses_after f (frame_segment f) refl b);
      ready = each_append ReadyOfBytes k.ready s.ready h.ready e.ready;
    }

rest_ready : (calls : List ReadyCall) → AllByRecursion ReadyOfBytes calls → AllByRecursion ReadyOfBytes (drop 1 calls)
rest_ready [] h = tt
rest_ready (c ∷ calls) h = h.1

server_after : (o : LinkParameters) (place : ℕ) (k : ServerState) (e : RunEvent) → IsNext place e → CarriesBytes (record { state = k; ended = None }) e → ServerOfBytes k → ServerOfBytes (server_state_after o k e)
unfolding server_state_after
server_after o place k (FrameReceived f) next c h = by (is_hello f)
  where
    by : (b : Bool) → ServerOfBytes (cond b (with_own_hello o k f) (with_effect k f (frame_effect k f)))
    by true = record { begun = h.begun; calls = h.calls; regions = h.regions; accesses = h.accesses; ready = h.ready }
    by false = frame_after k f next.2 h
server_after o place k (CallSubmitted p a) next c h = h
server_after o place k (MemoryRevoked p xid) next c h = h
server_after o place k (CallExecuted e) next c h = record {
  begun = h.begun;
  calls = each_kept PendingOfBytes (λ x. not (eqb x.xid e.xid)) k.calls h.calls;
  regions = h.regions;
  accesses = h.accesses;
  ready = rest_ready k.ready h.ready;
}
server_after o place k (QueueWritten taken) next c h = record { begun = h.begun; calls = h.calls; regions = h.regions; accesses = h.accesses; ready = h.ready }
server_after o place k (ServerTold what) next c h = record { begun = h.begun; calls = h.calls; regions = h.regions; accesses = h.accesses; ready = h.ready }

server_keeps : (o : LinkParameters) → KeepsBytes (server_rules o) ServerOfBytes
server_keeps o = record {
  written = λ place k e next c h. server_written_lem o place k e next c h;
  after = λ place k e next c h. server_after o place k e next c h;
  last = final_of_server;
}

begins : (o : LinkParameters) → ServerOfBytes (initial_server o).state
begins o = record { begun = no_bytes_lem; calls = tt; regions = tt; accesses = tt; ready = tt }

-- On every link of a run that is of its types, what its server has to write are bytes, and so are the payloads of its calls that are complete.
pub server_due : (o : LinkParameters) (link : ℕ) (run : List Mark) → IsTyped run → IsBytes (output_due o link Responder run)
unfolding output_due
server_due o link run typed = (run_bytes (server_rules o) ServerOfBytes (server_keeps o) (initial_server o) link Responder run typed (begins o)).0

pub ready_bytes : (o : LinkParameters) (link : ℕ) (run : List Mark) → IsTyped run → AllByRecursion ReadyOfBytes (server o link run).state.ready
unfolding server
ready_bytes o link run typed = (run_bytes (server_rules o) ServerOfBytes (server_keeps o) (initial_server o) link Responder run typed (begins o)).1.ready
