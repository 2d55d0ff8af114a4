-- A segment of a Read Response at a responder: the access of a peer that doesn't end its side is one to a sink.
use Rattle.std.proofs.Common.{◌≡◌, ◌≢◌, ℕ, ◌+◌, ◌-◌, ◌<◌, Bool, true, false, not, ◌&&◌, ◌||◌, eqb, cond, nat_lt, List, [], ◌∷◌, ◌++◌, length, take, drop, Option, Some, None, Result, Ok, Err, refl, sym, ap, subst, ◌∙◌, arith, is_some, append-nil, inl, inr}
use Rattle.std.specs.Prelude.{find, ◌⊎◌}
use Rattle.std.specs.List.{AllByRecursion}
use Rattle.std.proofs.lemmas.Bool.{eqb-true, eqb-false}
use Rattle.nr_wire.specs.declared.stream.Awaited.TheVariants.{Fpdu}
use Rattle.nr_wire.specs.declared.hello.Side.TheVariants.{Responder}
use Rattle.nr_wire.specs.Constants.{OPCODE_SEND, OPCODE_SEND_INVALIDATE, OPCODE_READ_REQUEST, OPCODE_READ_RESPONSE}
use Rattle.nr_wire.specs.Segment.{Segment}
use Rattle.nr_wire.specs.Segment.Segment.{Tagged, Untagged}
use Rattle.nr_regions.specs.declared.denied.Denied.{Denied}
use Rattle.nr_regions.specs.declared.denied.Denied.TheVariants.{Bounds as WrongBounds, Right as WrongRight}
use Rattle.nr_regions.specs.declared.right.Kind.TheVariants.{Response, Write}
use Rattle.nr_regions.specs.declared.right.Right.{Right}
use Rattle.nr_regions.specs.declared.right.Right.TheVariants.{Sink, Fetch, Fill}
use Rattle.nr_regions.specs.RegisteredMemory.{Region as HeldRegion, RegisteredMemory, Access, same_right, denial, denial_in, region_offer, live_region, right_for, after_place, after_place_in}
use Rattle.nr_regions.proofs.Holding.{none_dead_place}
use Rattle.nr_regions.specs.Access.{Grant, TaggedSegment, access_of_tagged, contents}
use Rattle.nr_regions.specs.Events.{after_event, after_arrival}
use Rattle.nr_regions.specs.Events.MemoryEvent.{Arrive}
use Rattle.nr_link.specs.declared.end.End.{End}
use Rattle.nr_link.specs.Reasons.{REASON_RESPONSE}
use Rattle.nr_link.specs.Frames.{Frame}
use Rattle.nr_link.specs.ReceiveState.{read_request_in}
use Rattle.nr_link.specs.SegmentFaults.{ExpectedResponse, is_expected}
use Rattle.nr_link.specs.Ending.{segment_taken, kind_of, frame_segment}
use Rattle.nr_endpoint.specs.LinkState.{LinkState}
use Rattle.nr_endpoint.specs.Judging.{segment_end, next_frame, with_frame, with_fpdu, with_effect as with_segment_effect, fetch_access, reads_after, expected_response}
use Rattle.nr_endpoint.specs.SegmentEnds.{denied_if, bad_if, tagged_end, RequestIsFine}
use Rattle.nr_endpoint.proofs.Alive.{alive_tagged, alive_request, alive_send}
use Rattle.nr_reduce.specs.declared.mark.LinkParameters.{LinkParameters}
use Rattle.nr_reduce.specs.OfferedRegions.{Region, region_grants, regions_closed}
use Rattle.nr_reduce.specs.OfferedMemory.{registered_region, held_if_open, region_at, HoldsRegions}
use Rattle.nr_reduce.specs.StandingLaws.{StagsFrom}
use Rattle.nr_reduce.specs.ServerState.{PendingRead, ServerState}
use Rattle.nr_reduce.specs.ServerReads.{is_over, open_reads}
use Rattle.nr_reduce.specs.ServerFrames.{no_effect, effect_in, frame_effect}
use Rattle.nr_reduce.specs.Server.{with_effect, received_by, response_bytes_after, tagged_accesses, effect_output}
use Rattle.nr_reduce.proofs.MemorySteps.{holds_access, received_one, offered_later}
use Rattle.nr_responder.specs.Keeping.{IsServer, LinkKeeps, open_responses, later_responses}
use Rattle.nr_responder.proofs.SendFrames.{server_reads, frame_lives, framed}
use Rattle.nr_responder.proofs.ServerSteps.{none_new, quiet_output, closed_same}
use Rattle.nr_responder.proofs.Supported.{supported}

-- ---- Which accesses live

pub found_all : {X : Type 0} (P : X → Type 0) (test : X → Bool) (xs : List X) (x : X) → AllByRecursion P xs → find test xs ≡ Some x → P x
found_all P test [] x h is = absurd cc
found_all {X} P test (y ∷ xs) x h is = by (λ (e : find test xs ≡ Some x). found_all P test xs x h.1 e) (test y) is
  where
    by : (find test xs ≡ Some x → P x) → (b : Bool) → cond b (Some y) (find test xs) ≡ Some x → P x
    by rest true e = subst P (let s : y ≡ x = cc in s) h.0
    by rest false e = rest e

not_denied_lem : (stag to : ℕ) (why : Option Denied) (others : Option End) → denied_if stag to why others ≡ None → why ≡ None
not_denied_lem stag to None others is = refl
not_denied_lem stag to (Some why) others is = absurd cc

not_bad : (at reason : ℕ) (b : Bool) → bad_if at reason b None ≡ None → b ≡ false
not_bad at reason true is = absurd cc
not_bad at reason false is = refl

only_sink : (r : Right) → same_right Sink r ≡ true → r ≡ Sink
only_sink Fetch is = absurd cc
only_sink Fill is = absurd cc
only_sink Sink is = refl

-- an access that lacks nothing is to a region with its right
right_by : (long same : Bool) → cond long (Some WrongBounds) (cond same None (Some WrongRight)) ≡ None → same ≡ true
right_by true same is = absurd cc
right_by false true is = refl
right_by false false is = absurd cc

right_of : (o : Option HeldRegion) (access : Access) → denial_in (region_offer o) access ≡ None → (r : HeldRegion) × ((o ≡ Some r) × (same_right r.right access.right ≡ true))
right_of None access is = absurd cc
right_of (Some r) access is = (r, (refl, right_by (nat_lt (length r.buf) (access.to + access.len)) (same_right r.right access.right) is))

held_of : (u : Option ℕ) (region r : HeldRegion) → held_if_open u region ≡ Some r → region ≡ r
held_of None region r is = (let h : region ≡ r = cc in h)
held_of (Some until) region r is = absurd cc

registered_sink : (o : Option Region) (grants : List Grant) (accesses : List TaggedSegment) (r : HeldRegion) → ((x : Region) → o ≡ Some x → x.right ≡ Sink) → registered_region grants accesses o ≡ Some r → r.right ≡ Sink
registered_sink None grants accesses r sinks is = absurd cc
registered_sink (Some x) grants accesses r sinks is =
    ap (λ (h : HeldRegion). h.right) (sym (held_of x.until (record { right = x.right; buf = contents grants x.stag x.bytes accesses }) r is)) ∙ sinks x refl

sink_access : (opened : LinkParameters) (k : ServerState) (s : LinkState) (access : Access) → LinkKeeps opened k s → IsServer k s.place → denial s.memory access ≡ None → access.right ≡ Sink
unfolding denial
sink_access opened k s access h is none =
    let found = right_of (live_region s.memory access.stag) access none in
    let right : found.0.right ≡ Sink =
    registered_sink (region_at k.regions access.stag) (region_grants s.place k.regions) k.accesses_received found.0
    (λ x at. found_all (λ (r : Region). r.right ≡ Sink) (λ (r : Region). eqb r.stag access.stag) k.regions x is.sinks at) (sym (h.memory access.stag) ∙ found.1.0) in
    only_sink access.right (ap (λ (r : Right). same_right r access.right) (sym right) ∙ found.1.1)

response_by : (b : Bool) → right_for (cond b Response Write) ≡ Sink → b ≡ true
response_by true is = refl
response_by false is = absurd cc

-- ---- The segment of a frame that lives

pub record IsSend (s : LinkState) (bytes : List ℕ) : Type 0 where
  pub last : Bool
  pub w : ℕ
  pub queue_number : ℕ
  pub msn : ℕ
  pub offset : ℕ
  pub payload : List ℕ
  pub side : s.side ≡ Responder
  pub reads : segment_taken false bytes ≡ Ok (Untagged last OPCODE_SEND w queue_number msn offset payload)

-- a segment of the Read Response that is awaited
pub record IsResponse (s : LinkState) (bytes : List ℕ) : Type 0 where
  pub last : Bool
  pub stag : ℕ
  pub to : ℕ
  pub payload : List ℕ
  pub side : s.side ≡ Responder
  pub reads : segment_taken false bytes ≡ Ok (Tagged last OPCODE_READ_RESPONSE stag to payload)
  pub allowed : denial s.memory (record { right = Sink; stag = stag; to = to; len = length payload }) ≡ None
  pub expected : is_expected (expected_response s.reads) last stag to (length payload) ≡ true

abbrev pub Lives : LinkState → List ℕ → Type 0
Lives s bytes = IsSend s bytes ⊎ IsResponse s bytes

tagged_lives : (opened : LinkParameters) (k : ServerState) (s : LinkState) (bytes : List ℕ) (last : Bool) (opcode stag to : ℕ) (payload : List ℕ) → LinkKeeps opened k s → IsServer k s.place →
    segment_taken false bytes ≡ Ok (Tagged last opcode stag to payload) → segment_end s (next_frame s bytes) (Tagged last opcode stag to payload) ≡ None → IsResponse s bytes
unfolding tagged_end
tagged_lives opened k s bytes last opcode stag to payload h is reads lives =
    let access : Access = record { right = right_for (kind_of opcode); stag = stag; to = to; len = length payload } in
    let ends : tagged_end s last opcode stag to payload ≡ None = alive_tagged s (next_frame s bytes) last opcode stag to payload refl lives in
    let both = allowed_by stag to (denial s.memory access) (eqb opcode OPCODE_READ_RESPONSE && not (is_expected (expected_response s.reads) last stag to (length payload))) ends in
    let response : eqb opcode OPCODE_READ_RESPONSE ≡ true = response_by (eqb opcode OPCODE_READ_RESPONSE) (sink_access opened k s access h is both.0) in
    let same : opcode ≡ OPCODE_READ_RESPONSE = eqb-true opcode OPCODE_READ_RESPONSE response in
    record {
      last = last;
      stag = stag;
      to = to;
      payload = payload;
      side = h.side;
      reads = reads ∙ ap (λ (o : ℕ). Ok (Tagged last o stag to payload)) same;
      allowed = subst (λ (b : Bool). denial s.memory (record { right = right_for (cond b Response Write); stag = stag; to = to; len = length payload }) ≡ None) response both.0;
      expected = expected_by (is_expected (expected_response s.reads) last stag to (length payload)) (subst (λ (b : Bool). (b && not (is_expected (expected_response s.reads) last stag to (length payload))) ≡ false) response both.1);
    }
  where
    allowed_by : (stag to : ℕ) (why : Option Denied) (b : Bool) → denied_if stag to why (bad_if s.place REASON_RESPONSE b None) ≡ None → (why ≡ None) × (b ≡ false)
    allowed_by stag to None b e = (refl, not_bad s.place REASON_RESPONSE b e)
    allowed_by stag to (Some why) b e = absurd cc

    expected_by : (b : Bool) → not b ≡ false → b ≡ true
    expected_by true e = refl
    expected_by false e = absurd cc

no_request_lem : (opened : LinkParameters) (k : ServerState) (s : LinkState) (bytes : List ℕ) (last : Bool) (w queue msn offset : ℕ) (payload : List ℕ) → LinkKeeps opened k s → IsServer k s.place →
    segment_end s (next_frame s bytes) (Untagged last OPCODE_READ_REQUEST w queue msn offset payload) ≢ None
no_request_lem opened k s bytes last w queue msn offset payload h is lives =
    let fine : RequestIsFine s payload = alive_request s (next_frame s bytes) last w queue msn offset payload refl lives in
    let two : Fetch ≡ Sink = sink_access opened k s (fetch_access (read_request_in payload)) h is fine.allowed in
    absurd cc

plain_send : (a b : Bool) → (a || b) ≡ true → b ≡ false → a ≡ true
plain_send true b is none = refl
plain_send false b is none = absurd (let wrong : true ≡ false = sym is ∙ none in cc)

by_opcode : (opened : LinkParameters) (k : ServerState) (s : LinkState) (bytes : List ℕ) (last : Bool) (opcode w queue msn offset : ℕ) (payload : List ℕ) → LinkKeeps opened k s → IsServer k s.place →
    segment_taken false bytes ≡ Ok (Untagged last opcode w queue msn offset payload) → segment_end s (next_frame s bytes) (Untagged last opcode w queue msn offset payload) ≡ None →
    (b : Bool) → eqb opcode OPCODE_READ_REQUEST ≡ b → IsSend s bytes
by_opcode opened k s bytes last opcode w queue msn offset payload h is reads lives true request =
    absurd (no_request_lem opened k s bytes last w queue msn offset payload h is
    (subst (λ (o : ℕ). segment_end s (next_frame s bytes) (Untagged last o w queue msn offset payload) ≡ None) (eqb-true opcode OPCODE_READ_REQUEST request) lives))
by_opcode opened k s bytes last opcode w queue msn offset payload h is reads lives false request =
    let by_form = supported bytes (Untagged last opcode w queue msn offset payload) reads in
    let known = by_form.untagged last opcode w queue msn offset payload refl in
    let any = (alive_send s (next_frame s bytes) last opcode w queue msn offset payload refl known (eqb-false opcode OPCODE_READ_REQUEST request) lives).0 in
    let send : opcode ≡ OPCODE_SEND = eqb-true opcode OPCODE_SEND (plain_send (eqb opcode OPCODE_SEND) (eqb opcode OPCODE_SEND_INVALIDATE) any (by_form.plain last opcode w queue msn offset payload refl)) in
    record { last = last; w = w; queue_number = queue; msn = msn; offset = offset; payload = payload; side = h.side; reads = reads ∙ ap (λ (o : ℕ). Ok (Untagged last o w queue msn offset payload)) send }

never : (f : Frame) (reason : ℕ) (s : LinkState) → (with_fpdu f (Err reason) s).ended ≢ None
unfolding with_fpdu
never f reason s e = absurd cc

pub frame_is : (opened : LinkParameters) (k : ServerState) (s : LinkState) (bytes : List ℕ) → LinkKeeps opened k s → IsServer k s.place → (with_frame s Fpdu bytes).ended ≡ None → Lives s bytes
frame_is opened k s bytes h is lives = by (segment_taken false bytes) refl
  where
    ended : (reason : ℕ) → segment_taken false bytes ≡ Err reason → with_frame s Fpdu bytes ≡ with_fpdu (next_frame s bytes) (Err reason) s
    ended reason e = ap (λ (r : Result Segment ℕ). with_fpdu (next_frame s bytes) r s) (server_reads s bytes h.side ∙ e)

    by : (r : Result Segment ℕ) → segment_taken false bytes ≡ r → Lives s bytes
    by (Err reason) e = absurd (never (next_frame s bytes) reason s (sym (ap (λ (t : LinkState). t.ended) (ended reason e)) ∙ lives))
    by (Ok (Tagged last opcode stag to payload)) e =
        inr (tagged_lives opened k s bytes last opcode stag to payload h is e (frame_lives s bytes (Tagged last opcode stag to payload) h.side e lives).0)
    by (Ok (Untagged last opcode w queue msn offset payload)) e =
        inl (by_opcode opened k s bytes last opcode w queue msn offset payload h is e (frame_lives s bytes (Untagged last opcode w queue msn offset payload) h.side e lives).0 (eqb opcode OPCODE_READ_REQUEST) refl)

-- ---- What a segment of a Read Response makes of the memory

below : (n : ℕ) (regions : List Region) (stag : ℕ) (r : Region) → StagsFrom n regions → region_at regions stag ≡ Some r → stag < n + length regions
below n [] stag r numbered is = absurd cc
below n (x ∷ regions) stag r numbered is = by (λ (e : region_at regions stag ≡ Some r). below (n + 1) regions stag r numbered.1 e) (eqb x.stag stag) refl is
  where
    by : (region_at regions stag ≡ Some r → stag < n + 1 + length regions) → (b : Bool) → eqb x.stag stag ≡ b → cond b (Some x) (region_at regions stag) ≡ Some r → stag < n + length (x ∷ regions)
    by rest true same e = (let at : x.stag ≡ n = numbered.0 in let here : x.stag ≡ stag = eqb-true x.stag stag same in omega (arith, at, here))
    by rest false other e = (let lt = rest e in omega (arith, lt))

abbrev pub response_access : LinkState → List ℕ → ℕ → ℕ → List ℕ → TaggedSegment
response_access s bytes stag to payload = record { kind = Response; stag = stag; to = to; payload = payload; end = s.place + length bytes }

arrives : (m : RegisteredMemory) (a : TaggedSegment) → denial m (access_of_tagged a) ≡ None → after_event m (Arrive a) ≡ after_place m a.stag a.to a.payload
unfolding after_event
arrives m a none = ap (λ (o : Option Denied). after_arrival o m a) none

pub placed_next : (m : RegisteredMemory) (stag to : ℕ) (payload : List ℕ) → (after_place m stag to payload).next ≡ m.next
unfolding after_place
placed_next m stag to payload = by (live_region m stag)
  where
    by : (o : Option HeldRegion) → (after_place_in o m stag to payload).next ≡ m.next
    by None = refl
    by (Some r) = refl

pub response_memory : (opened : LinkParameters) (k : ServerState) (s : LinkState) (bytes : List ℕ) (stag to : ℕ) (payload : List ℕ) → LinkKeeps opened k s → IsServer k s.place → 0 < length bytes →
    denial s.memory (record { right = Sink; stag = stag; to = to; len = length payload }) ≡ None →
    HoldsRegions k.regions (k.accesses_received ++ response_access s bytes stag to payload ∷ []) (s.place + length bytes) (after_place s.memory stag to payload)
response_memory opened k s bytes stag to payload h is some none =
    let a : TaggedSegment = response_access s bytes stag to payload in
    subst (λ (m : RegisteredMemory). HoldsRegions k.regions (k.accesses_received ++ a ∷ []) (s.place + length bytes) m) (arrives s.memory a none)
    (holds_access k.regions k.accesses_received s.place s.memory a is.offered is.accesses
    (λ x r at. (let lt = below 1 k.regions x r is.numbered at in let next = h.next in omega (arith, lt, next))) (omega (arith, some)) h.memory)

-- ---- A segment that isn't the last of its response

abbrev pub with_part : ServerState → TaggedSegment → ServerState
with_part k a = record k { accesses_received = k.accesses_received ++ a ∷ []; response_bytes = k.response_bytes + length a.payload }

reads_go_on : (n received : ℕ) (reads : List PendingRead) → reads_after false n (open_responses received reads) ≡ open_responses (received + n) reads
reads_go_on n received [] = refl
reads_go_on n received (r ∷ reads) = λ i. record {
  sink = r.sink;
  at = (let e : r.at + received + n ≡ r.at + (received + n) = omega arith in e) i;
  left = (let e : r.size - received - n ≡ r.size - (received + n) = omega arith in e) i;
} ∷ later_responses reads

pub part_state : (k : ServerState) (f : Frame) (stag to : ℕ) (payload : List ℕ) → frame_segment f ≡ Ok (Tagged false OPCODE_READ_RESPONSE stag to payload) →
    AllByRecursion (λ r. is_over k.calls k.reads r ≡ true → is_some r.until ≡ true) k.regions →
    with_effect k f (no_effect k) ≡ with_part k (record { kind = Response; stag = stag; to = to; payload = payload; end = f.end })
part_state k f stag to payload is closed =
    let none : drop (length (open_reads k)) (open_reads k) ≡ [] = none_new 8 k.reads in
    let sent : k.requests_sent + length (drop (length (open_reads k)) (open_reads k)) ≡ k.requests_sent = (let e : length (drop (length (open_reads k)) (open_reads k)) ≡ 0 = ap (λ (xs : List PendingRead). length xs) none in omega (arith, e)) in
    let regions : regions_closed (is_over k.calls k.reads) f.end k.regions ≡ k.regions = closed_same (is_over k.calls k.reads) f.end k.regions closed in
    let due : k.due + length (effect_output k (no_effect k)) ≡ k.due = omega (arith, ap (λ (xs : List ℕ). length xs) (quiet_output k)) in
    let none_queued : k.messages_queued + 0 ≡ k.messages_queued = omega arith in
    λ i. record {
      received = received_by k.received (is i);
      calls = k.calls;
      reads = k.reads;
      response_bytes = response_bytes_after k (is i);
      requests_sent = sent i;
      regions = regions i;
      accesses_received = k.accesses_received ++ tagged_accesses f (is i);
      messages_queued = none_queued i;
      due = due i;
      written = k.written;
      message_ends = append-nil k.message_ends i;
      ready = append-nil k.ready i;
      receives = k.receives;
      credit = k.credit;
      low = k.low;
      up_max = k.up_max;
      down_max = k.down_max;
      invalidates = k.invalidates;
    }

pub part_effect : (k : ServerState) (f : Frame) (stag to : ℕ) (payload : List ℕ) → frame_segment f ≡ Ok (Tagged false OPCODE_READ_RESPONSE stag to payload) → frame_effect k f ≡ no_effect k
unfolding frame_effect
part_effect k f stag to payload is = ap (λ (r : Result Segment ℕ). effect_in k f r) is

-- the side after it
pub part_link : (s : LinkState) (bytes : List ℕ) (stag to : ℕ) (payload : List ℕ) →
    framed s bytes (Tagged false OPCODE_READ_RESPONSE stag to payload)
    ≡ record s { last = s.place; place = s.place + length bytes; memory = after_place s.memory stag to payload; reads = reads_after false (length payload) s.reads }
unfolding with_segment_effect
part_link s bytes stag to payload = refl

pub response_part_keeps : (opened : LinkParameters) (k : ServerState) (s : LinkState) (bytes : List ℕ) (stag to : ℕ) (payload : List ℕ) → LinkKeeps opened k s → IsServer k s.place → 0 < length bytes →
    denial s.memory (record { right = Sink; stag = stag; to = to; len = length payload }) ≡ None →
    LinkKeeps opened (with_part k (response_access s bytes stag to payload))
    (record s { last = s.place; place = s.place + length bytes; memory = after_place s.memory stag to payload; reads = reads_after false (length payload) s.reads })
response_part_keeps opened k s bytes stag to payload h is some none = record {
  live = h.live;
  side = h.side;
  received = h.received;
  receive_length = h.receive_length;
  message_max = h.message_max;
  fits = h.fits;
  terms = h.terms;
  up = h.up;
  down = h.down;
  invalidates = h.invalidates;
  free = h.free;
  lent = h.lent;
  told = h.told;
  reads = ap (reads_after false (length payload)) h.reads ∙ reads_go_on (length payload) k.response_bytes (open_reads k);
  memory = response_memory opened k s bytes stag to payload h is some none;
  none_dead = none_dead_place s.memory stag to payload h.none_dead;
  next = placed_next s.memory stag to payload ∙ h.next;
  queue = h.queue;
}

pub none_expected : (k : ServerState) (s : LinkState) (last : Bool) (stag to n : ℕ) → s.reads ≡ open_responses k.response_bytes (open_reads k) → is_expected (expected_response s.reads) last stag to n ≡ true → k.reads ≢ []
none_expected k s last stag to n reads is none =
    let nothing : s.reads ≡ [] = reads ∙ ap (λ (xs : List PendingRead). open_responses k.response_bytes (take 8 xs)) none in
    absurd (let two : false ≡ true = ap (λ (xs : List ExpectedResponse). is_expected (expected_response xs) last stag to n) (sym nothing) ∙ is in cc)

pub response_part_server : (opened : LinkParameters) (k : ServerState) (s : LinkState) (bytes : List ℕ) (stag to : ℕ) (payload : List ℕ) → LinkKeeps opened k s → IsServer k s.place →
    is_expected (expected_response s.reads) false stag to (length payload) ≡ true → IsServer (with_part k (response_access s bytes stag to payload)) (s.place + length bytes)
response_part_server opened k s bytes stag to payload h is expected = record {
  offered = offered_later s.place (s.place + length bytes) k.regions (omega arith) is.offered;
  accesses = received_one s.place k.accesses_received (response_access s bytes stag to payload) (omega arith) is.accesses;
  numbered = is.numbered;
  sinks = is.sinks;
  calls_before = is.calls_before;
  reads_before = is.reads_before;
  regions_before = is.regions_before;
  closed = is.closed;
  numbers = is.numbers;
  xids = is.xids;
  ready_xids = is.ready_xids;
  ready = is.ready;
  idle = λ none. absurd (none_expected k s false stag to (length payload) h.reads expected none);
  up = is.up;
  down = is.down;
}
