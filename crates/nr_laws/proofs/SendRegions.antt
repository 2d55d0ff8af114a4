-- Each region of a server is a read chunk of a call whose Send it received.
use Rattle.std.proofs.Common.{◌≡◌, ℕ, zero, ◌+◌, ◌-◌, Bool, true, false, cond, not, ◌&&◌, eqb, List, [], ◌∷◌, ◌++◌, length, Option, None, Some, Result, Ok, Err, refl, sym, ap, subst, ◌∙◌, arith, append_assoc, append-nil}
use Rattle.std.specs.Prelude.{Contains, replicate}
use Rattle.std.specs.List.{AllByRecursion}
use Rattle.std.proofs.lemmas.List.Elements.{All-contains, All-from_recursion, Contains-append_right}
use Rattle.nr_wire.specs.Constants.{OPCODE_READ_RESPONSE}
use Rattle.nr_wire.specs.declared.hello.Side.TheVariants.{Responder}
use Rattle.nr_wire.specs.Segment.{Segment}
use Rattle.nr_wire.specs.Segment.Segment.{Tagged, Untagged}
use Rattle.nr_link.specs.declared.end.End.{End}
use Rattle.nr_link.specs.Frames.{Frame, is_hello}
use Rattle.nr_link.specs.ReceiveState.{message_completed}
use Rattle.nr_link.specs.Ending.{frame_segment}
use Rattle.nr_reduce.specs.declared.mark.LinkParameters.{LinkParameters}
use Rattle.nr_header.specs.declared.header.ChunkLists.{ChunkLists}
use Rattle.nr_regions.specs.declared.right.Right.TheVariants.{Sink}
use Rattle.nr_reduce.specs.Chunks.{total_at, is_read_chunk_of_item}
use Rattle.nr_reduce.specs.Events.{RunEvent, events}
use Rattle.nr_reduce.specs.Events.RunEvent.{FrameReceived, CallSubmitted, MemoryRevoked, CallExecuted, QueueWritten, ServerTold}
use Rattle.nr_reduce.specs.EndRules.{EndState, next_end_state, next_end_state_by, next_end_state_in, end_state_after}
use Rattle.nr_reduce.specs.OfferedRegions.{Region, closed_if, regions_closed}
use Rattle.nr_reduce.specs.ServerState.{ServerState, PendingCall, PendingRead, next_stag}
use Rattle.nr_reduce.specs.ServerReads.{open_reads, chunks_of, regions_from, regions_of, reads_of, is_read, is_over}
use Rattle.nr_reduce.specs.ServerMessages.{Verdict, CallVerdict, verdict, by_payload, pending_payload, chunk_bytes}
use Rattle.nr_reduce.specs.ServerMessages.CallVerdict.{Refuses, IsReady}
use Rattle.nr_reduce.specs.ServerMessages.Verdict.{EndsLink, OtherVersion, BadChunks, MakesPending}
use Rattle.nr_reduce.specs.ServerFrames.{FrameEffect, no_effect, with_verdict, ready_if_whole, with_refused_call, is_stream_read, read_effect, response_effect, call_of_number, message_effect, by_message, with_access, effect_in, frame_effect}
use Rattle.nr_reduce.specs.Server.{server_rules, server_end, server_state_after, initial_server, with_effect, with_own_hello}
use Rattle.nr_reduce.specs.Run.{server}
use Rattle.nr_reduce.specs.RunLaws.{server_by}
use Rattle.nr_reduce.proofs.Steps.{end_state_after_append}
use Rattle.nr_laws.specs.ServerRegions.{IsChunkOfFrame, IsChunkOfSend, ServerRegionsAreChunks}
use Rattle.nr_laws.proofs.Basics.{each_all, each_append}

-- ---- The regions of a frame are those before, and after them the chunks of the call that it makes pending

abbrev pub chunks_by : ServerState → ℕ → Verdict → List Region
chunks_by k place (EndsLink reason) = []
chunks_by k place OtherVersion = []
chunks_by k place BadChunks = []
chunks_by k place (MakesPending c) = regions_of k place c

abbrev pub chunks_of_message : ServerState → ℕ → Option (List ℕ) → List Region
chunks_of_message k place None = []
chunks_of_message k place (Some message) = chunks_by k place (verdict k message)

abbrev pub chunks_in : ServerState → Frame → Result Segment ℕ → List Region
chunks_in k f (Err reason) = []
chunks_in k f (Ok (Tagged last opcode stag to payload)) = []
chunks_in k f (Ok (Untagged last opcode w queue msn offset payload)) = chunks_of_message k f.end (message_completed k.received (Untagged last opcode w queue msn offset payload))

whole_same : (k : ServerState) (place : ℕ) (c : PendingCall) (s : FrameEffect) → (ready_if_whole k place c s).regions ≡ s.regions
whole_same k place c s = by (is_read s.reads c.number) (by_payload c (pending_payload k place c))
  where
    by : (b : Bool) (o : CallVerdict) → (cond b (with_verdict o s) s).regions ≡ s.regions
    by true (Refuses reason) = refl
    by true (IsReady r) = refl
    by false o = refl

message_chunks : (k : ServerState) (place : ℕ) (message : List ℕ) (v : Verdict) → (message_effect k place message v).regions ≡ k.regions ++ chunks_by k place v
message_chunks k place message (EndsLink reason) = sym (append-nil k.regions)
message_chunks k place message OtherVersion = sym (append-nil k.regions)
message_chunks k place message BadChunks = sym (append-nil k.regions)
message_chunks k place message (MakesPending c) =
    whole_same k place c (record (no_effect k) { calls = k.calls ++ c ∷ []; reads = k.reads ++ reads_of (k.regions ++ regions_of k place c) c; regions = k.regions ++ regions_of k place c })

by_message_chunks : (k : ServerState) (place : ℕ) (o : Option (List ℕ)) → (by_message k place o).regions ≡ k.regions ++ chunks_of_message k place o
by_message_chunks k place None = sym (append-nil k.regions)
by_message_chunks k place (Some message) = message_chunks k place message (verdict k message)

read_same : (k : ServerState) (place : ℕ) (r : PendingRead) (o : Option PendingCall) (s : FrameEffect) → (read_effect k place r o s).regions ≡ s.regions
read_same k place r None s = refl
read_same k place r (Some c) s = by (is_stream_read c r s.reads && not (is_read_chunk_of_item (chunk_bytes k place c 0) c.lists.read))
  where
    by : (b : Bool) → (cond b (with_refused_call k c s) (ready_if_whole k place c s)).regions ≡ s.regions
    by true = refl
    by false = whole_same k place c s

response_same : (k : ServerState) (place : ℕ) (reads : List PendingRead) → (response_effect k place reads).regions ≡ k.regions
response_same k place [] = refl
response_same k place (r ∷ reads) = read_same k place r (call_of_number k r.number) (record (no_effect k) { reads = reads; kept = length (open_reads k) - 1 })

in_chunks : (k : ServerState) (f : Frame) (r : Result Segment ℕ) → (effect_in k f r).regions ≡ k.regions ++ chunks_in k f r
in_chunks k f (Err reason) = sym (append-nil k.regions)
in_chunks k f (Ok (Tagged last opcode stag to payload)) = by (eqb opcode OPCODE_READ_RESPONSE && last) ∙ sym (append-nil k.regions)
  where
    t : ServerState
    t = with_access k f (Tagged last opcode stag to payload)

    by : (b : Bool) → (cond b (response_effect t f.end t.reads) (no_effect t)).regions ≡ k.regions
    by true = response_same t f.end t.reads
    by false = refl
in_chunks k f (Ok (Untagged last opcode w queue msn offset payload)) = by_message_chunks k f.end (message_completed k.received (Untagged last opcode w queue msn offset payload))

pub frame_chunks : (k : ServerState) (f : Frame) → (frame_effect k f).regions ≡ k.regions ++ chunks_in k f (frame_segment f)
unfolding frame_effect
frame_chunks k f = in_chunks k f (frame_segment f)

-- ---- One event

abbrev pub state_at : LinkParameters → List RunEvent → EndState ServerState
state_at opened es = end_state_after (server_rules opened) (initial_server opened) es

-- an event that doesn't end a server counts; any other leaves what it knows
pub counts_or_not : (opened : LinkParameters) (P : ServerState → Type 0) (r : EndState ServerState) (e : RunEvent) → P r.state → ((next_end_state (server_rules opened) r e).ended ≡ None → P (server_state_after opened r.state e)) → P (next_end_state (server_rules opened) r e).state
counts_or_not opened P r e same next = by_ended r.ended refl
  where
    by_why : (o : Option End) → server_end opened r.state e ≡ o → r.ended ≡ None → P (next_end_state_by (server_rules opened) r.state e o).state
    by_why None is live = next (ap (λ (o : Option End). (next_end_state_in (server_rules opened) r.state e o).ended) live ∙ ap (λ (o : Option End). (next_end_state_by (server_rules opened) r.state e o).ended) is)
    by_why (Some end) is live = same

    by_ended : (o : Option End) → r.ended ≡ o → P (next_end_state_in (server_rules opened) r.state e o).state
    by_ended None live = by_why (server_end opened r.state e) refl live
    by_ended (Some end) live = same

-- what an event makes of a server that it doesn't end
pub counted : (opened : LinkParameters) (r : EndState ServerState) (e : RunEvent) → (next_end_state (server_rules opened) r e).ended ≡ None → (next_end_state (server_rules opened) r e).state ≡ server_state_after opened r.state e
counted opened r e stays = by_ended r.ended stays
  where
    by_why : (o : Option End) → (next_end_state_by (server_rules opened) r.state e o).ended ≡ None → (next_end_state_by (server_rules opened) r.state e o).state ≡ server_state_after opened r.state e
    by_why None is = refl
    by_why (Some end) is = absurd (let wrong : Some end ≡ None = is in cc)

    by_ended : (o : Option End) → (next_end_state_in (server_rules opened) r.state e o).ended ≡ None → (next_end_state_in (server_rules opened) r.state e o).state ≡ server_state_after opened r.state e
    by_ended None is = by_why (server_end opened r.state e) is
    by_ended (Some end) is = absurd (let wrong : Some end ≡ None = is in cc)

pub each_region_closed : (P : Region → Type 0) → ((b : Bool) (place : ℕ) (r : Region) → P r → P (closed_if b place r)) → (test : Region → Bool) (place : ℕ) (xs : List Region) → AllByRecursion P xs → AllByRecursion P (regions_closed test place xs)
unfolding regions_closed
each_region_closed P keeps test place [] h = tt
each_region_closed P keeps test place (x ∷ xs) h = (keeps (test x) place x h.0, each_region_closed P keeps test place xs h.1)

-- each chunk of a call is one of them, and isn't closed
chunks_each : (P : Region → Type 0) (number place stag : ℕ) (lists : ChunkLists) (ps : List ℕ) (all pre : List Region) → all ≡ pre ++ regions_from number place stag lists ps → ((r : Region) → Contains all (record r { until = None }) → r.until ≡ None → P r)
    → AllByRecursion P (regions_from number place stag lists ps)
chunks_each P number place stag lists [] all pre is has = tt
chunks_each P number place stag lists (p ∷ ps) all pre is has =
    let own : Region = record { call = number; position = p; stag = stag; right = Sink; bytes = replicate (total_at p lists.read) 0; from = place; until = None } in
    let rest : List Region = regions_from number place (stag + 1) lists ps in (
      has own (subst (λ (xs : List Region). Contains xs own) (sym is) (Contains-append_right pre (own ∷ rest) own (zero, omega (arith), refl))) refl,
      chunks_each P number place (stag + 1) lists ps all (pre ++ own ∷ []) (is ∙ sym (append_assoc pre (own ∷ []) rest)) has,
    )

-- so is each new region of a frame that doesn't end the server
pub new_each : (opened : LinkParameters) (es : List RunEvent) (f : Frame) (P : Region → Type 0) → (next_end_state (server_rules opened) (state_at opened es) (FrameReceived f)).ended ≡ None → is_hello f ≡ false
    → ((r : Region) → IsChunkOfFrame opened es f r → r.until ≡ None → P r)
    → (r : Result Segment ℕ) → frame_segment f ≡ r → AllByRecursion P (chunks_in (server_by opened es) f r)
new_each opened es f P stays behind has (Err reason) is = tt
new_each opened es f P stays behind has (Ok (Tagged last opcode stag to payload)) is = tt
new_each opened es f P stays behind has (Ok (Untagged last opcode w queue msn offset payload)) is = by_whole (message_completed k.received segment) refl
  where
    k : ServerState
    k = server_by opened es

    segment : Segment
    segment = Untagged last opcode w queue msn offset payload

    by_verdict : (message : List ℕ) → message_completed k.received segment ≡ Some message → (v : Verdict) → verdict k message ≡ v → AllByRecursion P (chunks_by k f.end v)
    by_verdict message whole (EndsLink reason) own = tt
    by_verdict message whole OtherVersion own = tt
    by_verdict message whole BadChunks own = tt
    by_verdict message whole (MakesPending c) own =
        chunks_each P c.number f.end (next_stag k) c.lists (chunks_of c.lists) (regions_of k f.end c) [] refl
        (λ r there none. has r (record { call = c; is_made = record { segment = segment; message = message; stays = stays; behind_hello = behind; is_segment = is; whole = whole; is_pending = own }; chunk = there }) none)

    by_whole : (o : Option (List ℕ)) → message_completed k.received segment ≡ o → AllByRecursion P (chunks_of_message k f.end o)
    by_whole None whole = tt
    by_whole (Some message) whole = by_verdict message whole (verdict k message) refl

-- ---- Each region is a chunk

chunk_more : (opened : LinkParameters) (es more : List RunEvent) (r : Region) → IsChunkOfSend opened es r → IsChunkOfSend opened (es ++ more) r
chunk_more opened es more r h = record {
  earlier = h.earlier;
  later = h.later ++ more;
  frame = h.frame;
  is_received = ap (λ (xs : List RunEvent). xs ++ more) h.is_received ∙ append_assoc h.earlier (FrameReceived h.frame ∷ h.later) more;
  own = h.own;
}

chunk_closed : (opened : LinkParameters) (es : List RunEvent) (b : Bool) (place : ℕ) (r : Region) → IsChunkOfSend opened es r → IsChunkOfSend opened es (closed_if b place r)
chunk_closed opened es false place r h = h
chunk_closed opened es true place r h = record { earlier = h.earlier; later = h.later; frame = h.frame; is_received = h.is_received; own = record { call = h.own.call; is_made = h.own.is_made; chunk = h.own.chunk } }

frame_event : (opened : LinkParameters) (es : List RunEvent) (f : Frame) → AllByRecursion (IsChunkOfSend opened es) (server_by opened es).regions → (next_end_state (server_rules opened) (state_at opened es) (FrameReceived f)).ended ≡ None
    → AllByRecursion (IsChunkOfSend opened (es ++ FrameReceived f ∷ [])) (server_state_after opened (server_by opened es) (FrameReceived f)).regions
unfolding server_state_after
frame_event opened es f h stays = by (is_hello f) refl
  where
    k : ServerState
    k = server_by opened es

    P : Region → Type 0
    P = IsChunkOfSend opened (es ++ FrameReceived f ∷ [])

    old : AllByRecursion P k.regions
    old = each_all (IsChunkOfSend opened es) P k.regions (chunk_more opened es (FrameReceived f ∷ [])) h

    by : (b : Bool) → is_hello f ≡ b → AllByRecursion P (cond b (with_own_hello opened k f) (with_effect k f (frame_effect k f))).regions
    by true is = old
    by false is =
        each_region_closed P (chunk_closed opened (es ++ FrameReceived f ∷ [])) (is_over (frame_effect k f).calls (frame_effect k f).reads) f.end (frame_effect k f).regions
        (subst (AllByRecursion P) (sym (frame_chunks k f))
        (each_append P k.regions (chunks_in k f (frame_segment f)) old
        (new_each opened es f P stays is (λ r own none. record { earlier = es; later = []; frame = f; is_received = refl; own = own }) (frame_segment f) refl)))

-- a fact of each region that stands after more events, and that the frames keep
pub regions_along : (opened : LinkParameters) (P : List RunEvent → Region → Type 0) → ((es more : List RunEvent) (r : Region) → P es r → P (es ++ more) r)
    → ((es : List RunEvent) (f : Frame) → AllByRecursion (P es) (server_by opened es).regions → (next_end_state (server_rules opened) (state_at opened es) (FrameReceived f)).ended ≡ None
    → AllByRecursion (P (es ++ FrameReceived f ∷ [])) (server_state_after opened (server_by opened es) (FrameReceived f)).regions)
    → (front es : List RunEvent) → AllByRecursion (P front) (server_by opened front).regions → AllByRecursion (P (front ++ es)) (server_by opened (front ++ es)).regions
unfolding server_state_after
regions_along opened P more frames front [] h = subst (λ (xs : List RunEvent). AllByRecursion (P xs) (server_by opened xs).regions) (sym (append-nil front)) h
regions_along opened P more frames front (e ∷ es) h =
    let one : AllByRecursion (P (front ++ e ∷ [])) (next_end_state (server_rules opened) (state_at opened front) e).state.regions =
    counts_or_not opened (λ (k : ServerState). AllByRecursion (P (front ++ e ∷ [])) k.regions) (state_at opened front) e (same e) (by e) in
    let next = subst (λ (r : EndState ServerState). AllByRecursion (P (front ++ e ∷ [])) r.state.regions) (sym (end_state_after_append (server_rules opened) (initial_server opened) front (e ∷ []))) one in
    subst (λ (xs : List RunEvent). AllByRecursion (P xs) (server_by opened xs).regions) (append_assoc front (e ∷ []) es) (regions_along opened P more frames (front ++ e ∷ []) es next)
  where
    same : (x : RunEvent) → AllByRecursion (P (front ++ x ∷ [])) (server_by opened front).regions
    same x = each_all (P front) (P (front ++ x ∷ [])) (server_by opened front).regions (more front (x ∷ [])) h

    by : (x : RunEvent) → (next_end_state (server_rules opened) (state_at opened front) x).ended ≡ None → AllByRecursion (P (front ++ x ∷ [])) (server_state_after opened (server_by opened front) x).regions
    by (FrameReceived f) stays = frames front f h stays
    by (CallSubmitted place a) stays = same (CallSubmitted place a)
    by (MemoryRevoked place xid) stays = same (MemoryRevoked place xid)
    by (CallExecuted call) stays = same (CallExecuted call)
    by (QueueWritten taken) stays = same (QueueWritten taken)
    by (ServerTold what) stays = same (ServerTold what)

pub region_of_list : (P : Region → Type 0) (xs : List Region) (r : Region) → AllByRecursion P xs → Contains xs r → P r
region_of_list P xs r h there = All-contains P xs r (All-from_recursion P xs h) there

pub server_regions_are_chunks : ServerRegionsAreChunks
unfolding server
server_regions_are_chunks opened link run r there =
    region_of_list (IsChunkOfSend opened (events link Responder run)) _ r
    (regions_along opened (IsChunkOfSend opened) (chunk_more opened) (frame_event opened) [] (events link Responder run) tt) there
