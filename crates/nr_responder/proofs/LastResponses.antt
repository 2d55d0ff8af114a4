-- The last segment of a Read Response: what the oldest read that is done makes of the server of a run.
use Rattle.std.proofs.Common.{◌≡◌, ℕ, ◌+◌, ◌≤◌, Bool, true, false, ◌&&◌, eqb, cond, List, [], ◌∷◌, ◌++◌, length, take, Option, Some, None, Ok, refl, sym, ap, subst, ◌∙◌, arith, is_some, append-nil}
use Rattle.std.specs.Prelude.{find}
use Rattle.std.specs.List.{AllByRecursion}
use Rattle.std.proofs.lemmas.Bool.{eqb-true, eq-eqb, ne_eqb}
use Rattle.nr_wire.specs.Constants.{OPCODE_READ_RESPONSE}
use Rattle.nr_wire.specs.Segment.Segment.{Tagged}
use Rattle.nr_wire.specs.declared.hello.Side.TheVariants.{Responder}
use Rattle.nr_regions.specs.declared.right.Kind.TheVariants.{Response}
use Rattle.nr_regions.specs.declared.right.Right.TheVariants.{Sink}
use Rattle.nr_regions.specs.RegisteredMemory.{RegisteredMemory, NoneIsDead, bytes_in, live_region, held_region}
use Rattle.nr_regions.specs.Access.{Grant, TaggedSegment, contents}
use Rattle.nr_regions.proofs.Holding.{live_parts}
use Rattle.nr_endpoint.specs.Hellos.{receive_length_for}
use Rattle.nr_link.specs.Frames.{Frame}
use Rattle.nr_link.specs.Ending.{frame_segment}
use Rattle.nr_link.specs.KeptSends.{received_within}
use Rattle.nr_link.specs.SegmentFaults.{is_begun}
use Rattle.nr_endpoint.specs.LinkState.{LinkState}
use Rattle.nr_reduce.specs.declared.mark.LinkParameters.{LinkParameters}
use Rattle.nr_reduce.specs.Plans.{one_if}
use Rattle.nr_reduce.specs.OfferedRegions.{Region, region_grants, region_bytes, region_bytes_by, regions_closed}
use Rattle.nr_reduce.specs.OfferedMemory.{AreOffered, AreReceived, HoldsRegions, region_at, registered_region, held_if_open}
use Rattle.nr_reduce.specs.StandingLaws.{StagsFrom}
use Rattle.nr_reduce.specs.ServerState.{PendingCall, PendingRead, ReadyCall, ServerState, next_stag}
use Rattle.nr_reduce.specs.ServerReads.{is_over, stag_by, sink_of}
use Rattle.nr_reduce.specs.ServerFrames.{FrameEffect}
use Rattle.nr_reduce.specs.Server.{with_effect, received_by, response_bytes_after, tagged_accesses, requests_from}
use Rattle.nr_reduce.proofs.MemorySteps.{holds_closed, received_one, offered_closed, offered_later}
use Rattle.nr_reduce.proofs.OwnStags.{closed_length}
use Rattle.nr_responder.specs.ResponderState.{unsent}
use Rattle.nr_responder.specs.Keeping.{OwnNumbers, OwnXids, OwnReady, IsReadyOf, IsServer, LinkKeeps, QueueKeeps, later_responses}
use Rattle.nr_responder.specs.Fetching.{SinkRegion, sink_of_region, open_if, open_sinks, is_sink}
use Rattle.nr_responder.specs.private.Reading.{bytes_of_sink, sink_bytes, over_sinks, released, opening, with_requests}
use Rattle.nr_responder.specs.private.ReadsDone.{side_after_done}
use Rattle.nr_responder.proofs.Responses.{found_all}
use Rattle.nr_responder.proofs.ReadEffects.{requested_has, requests_ends, opened_now}
use Rattle.nr_responder.proofs.Sinks.{none_released, closed_all, closed_stags, closed_now, releases, released_next}

-- ---- The server after it

abbrev pub last_access : Frame → ℕ → ℕ → List ℕ → TaggedSegment
last_access f stag to payload = record { kind = Response; stag = stag; to = to; payload = payload; end = f.end }

-- the effect of a read that is done on these calls and reads
abbrev pub done_effect : ServerState → List PendingCall → List PendingRead → List ReadyCall → ℕ → FrameEffect
done_effect k calls reads ready kept = record { calls = calls; reads = reads; regions = k.regions; ready = ready; errors = []; kept = kept; refusal = None }

abbrev pub after_done : ServerState → TaggedSegment → List PendingCall → List PendingRead → List ReadyCall → ℕ → ServerState
after_done k a calls reads ready kept = record k {
  calls = calls;
  reads = reads;
  response_bytes = 0;
  requests_sent = k.requests_sent + length (opening kept reads);
  regions = regions_closed (is_over calls reads) a.end k.regions;
  accesses_received = k.accesses_received ++ a ∷ [];
  due = k.due + length (requests_from (k.requests_sent + 1) (opening kept reads));
  ready = k.ready ++ ready;
}

pub done_state : (k : ServerState) (f : Frame) (stag to : ℕ) (payload : List ℕ) (calls : List PendingCall) (reads : List PendingRead) (ready : List ReadyCall) (kept : ℕ) → frame_segment f ≡ Ok (Tagged true OPCODE_READ_RESPONSE stag to payload) →
    with_effect k f (done_effect k calls reads ready kept) ≡ after_done k (last_access f stag to payload) calls reads ready kept
done_state k f stag to payload calls reads ready kept is =
    let none_queued : k.messages_queued + 0 ≡ k.messages_queued = omega arith in
    λ i. record {
      received = received_by k.received (is i);
      calls = calls;
      reads = reads;
      response_bytes = response_bytes_after k (is i);
      requests_sent = k.requests_sent + length (opening kept reads);
      regions = regions_closed (is_over calls reads) f.end k.regions;
      accesses_received = k.accesses_received ++ tagged_accesses f (is i);
      messages_queued = none_queued i;
      due = k.due + length (requests_from (k.requests_sent + 1) (opening kept reads));
      written = k.written;
      message_ends = append-nil k.message_ends i;
      ready = k.ready ++ ready;
      receives = k.receives;
      credit = k.credit;
      low = k.low;
      up_max = k.up_max;
      down_max = k.down_max;
      invalidates = k.invalidates;
    }

-- ---- The side of the link once the read was delivered

pub record TakesLast (k : ServerState) (f : Frame) (a : TaggedSegment) (rest : List PendingRead) (opened : LinkParameters) (t : LinkState) : Type 0 where
  pub live : t.ended ≡ None
  pub side : t.side ≡ Responder
  pub received : t.receive_queue.received ≡ received_within (receive_length_for opened.server) k.received
  pub receive_length : t.receive_queue.receive_length ≡ receive_length_for opened.server
  pub message_max : t.message_max ≡ k.up_max
  pub fits : k.up_max ≤ receive_length_for opened.server
  pub terms : t.terms ≡ opened.server
  pub up : t.agreed.up ≡ k.up_max
  pub down : t.agreed.down ≡ k.down_max
  pub invalidates : t.agreed.invalidates ≡ k.invalidates
  pub free : t.receive_queue.free + (unsent t + length k.calls + one_if (is_begun k.received.begun)) ≡ opened.receives
  pub lent : t.receive_queue.lent ≡ length k.calls + unsent t
  pub told : t.receive_queue.deliveries ≡ []
  pub reads : t.reads ≡ later_responses (take 7 rest)
  pub memory : HoldsRegions k.regions (k.accesses_received ++ a ∷ []) f.end t.memory
  pub none_dead : NoneIsDead t.memory
  pub next : t.memory.next ≡ next_stag k
  pub queue : QueueKeeps k t.send_queue
  pub place : t.place ≡ f.end
  pub last : t.last ≡ f.at

pub done_link : (opened : LinkParameters) (k : ServerState) (f : Frame) (a : TaggedSegment) (rest reads : List PendingRead) (calls : List PendingCall) (ready : List ReadyCall) (kept : ℕ) (t : LinkState) → TakesLast k f a rest opened t → AreReceived f.at k.accesses_received → AreOffered f.at k.regions →
    f.at ≤ f.end → a.end ≡ f.end → length calls ≡ length k.calls → kept ≤ 8 → t.reads ≡ later_responses (take kept reads) →
    LinkKeeps opened (after_done k a calls reads ready kept) (side_after_done t (opening kept reads) (over_sinks calls reads (open_sinks k.regions)))
done_link opened k f a rest reads calls ready kept t h arrived was_offered le at same few opens =
    let over : List SinkRegion = over_sinks calls reads (open_sinks k.regions) in
    let accesses : List TaggedSegment = k.accesses_received ++ a ∷ [] in
    let received : AreReceived f.end accesses = subst (λ (n : ℕ). AreReceived n accesses) at (received_one f.at k.accesses_received a (omega (arith, le, at)) arrived) in
    let offered : AreOffered f.end k.regions = offered_later f.at f.end k.regions le was_offered in
    let closed : HoldsRegions (regions_closed (is_over calls reads) f.end k.regions) accesses f.end (released over t.memory) =
    holds_closed (is_over calls reads) k.regions accesses f.end f.end t.memory (released over t.memory) (omega arith) received (releases calls reads f.end k.regions accesses t.memory offered h.memory) h.memory in
    let ends : (with_requests (opening kept reads) t.send_queue).send_ends ≡ t.send_queue.send_ends = requests_ends (opening kept reads) t.send_queue in
    let count : length (with_requests (opening kept reads) t.send_queue).send_ends ≡ unsent t = ap (λ (xs : List ℕ). length xs) ends in
    record {
      live = h.live;
      side = h.side;
      received = h.received;
      receive_length = h.receive_length;
      message_max = h.message_max;
      fits = h.fits;
      terms = h.terms;
      up = h.up;
      down = h.down;
      invalidates = h.invalidates;
      free = (let all = h.free in omega (arith, all, same, count));
      lent = (let all = h.lent in omega (arith, all, same, count));
      told = h.told;
      reads = opened_now kept reads t.reads few opens;
      memory = subst (λ (n : ℕ). HoldsRegions (regions_closed (is_over calls reads) a.end k.regions) accesses n (released over t.memory)) (sym h.place)
          (subst (λ (n : ℕ). HoldsRegions (regions_closed (is_over calls reads) n k.regions) accesses f.end (released over t.memory)) (sym at) closed);
      none_dead = none_released over t.memory h.none_dead;
      next = released_next over t.memory ∙ h.next ∙ ap (λ (n : ℕ). 1 + n) (sym (closed_length (is_over calls reads) a.end k.regions));
      queue = requested_has k.written k.due k.messages_queued k.requests_sent k.message_ends (opening kept reads) t.send_queue h.queue;
    }

-- ---- What holds of the server then

pub record EffectHolds (k : ServerState) (calls : List PendingCall) (reads : List PendingRead) (ready : List ReadyCall) : Type 0 where
  pub calls_before : AllByRecursion (λ c. c.number ≤ k.received.sends) calls
  pub reads_before : AllByRecursion (λ r. r.number ≤ k.received.sends) reads
  pub over : (g : Region) → is_over k.calls k.reads g ≡ true → is_over calls reads g ≡ true
  pub numbers : OwnNumbers calls
  pub xids : OwnXids calls
  pub ready_xids : OwnReady (k.ready ++ ready)
  pub ready_of : AllByRecursion (IsReadyOf calls reads) (k.ready ++ ready)

still_closed : (k : ServerState) (calls : List PendingCall) (reads : List PendingRead) (regions : List Region) → ((g : Region) → is_over k.calls k.reads g ≡ true → is_over calls reads g ≡ true) →
    AllByRecursion (λ r. is_some r.until ≡ is_over k.calls k.reads r) regions → AllByRecursion (λ r. is_some r.until ≡ true → is_over calls reads r ≡ true) regions
still_closed k calls reads [] over h = tt
still_closed k calls reads (r ∷ regions) over h = ((λ closed. over r (sym h.0 ∙ closed)), still_closed k calls reads regions over h.1)

pub done_server : (k : ServerState) (f : Frame) (a : TaggedSegment) (calls : List PendingCall) (reads : List PendingRead) (ready : List ReadyCall) (kept : ℕ) → IsServer k f.at → f.at ≤ a.end → EffectHolds k calls reads ready →
    IsServer (after_done k a calls reads ready kept) a.end
done_server k f a calls reads ready kept is le e = record {
  offered = offered_closed (is_over calls reads) f.at a.end k.regions le is.offered;
  accesses = received_one f.at k.accesses_received a le is.accesses;
  numbered = closed_stags (is_over calls reads) a.end 1 k.regions is.numbered;
  sinks = closed_all (λ r. r.right ≡ Sink) (is_over calls reads) a.end k.regions (λ r h. h) is.sinks;
  calls_before = e.calls_before;
  reads_before = e.reads_before;
  regions_before = closed_all (λ r. r.call ≤ k.received.sends) (is_over calls reads) a.end k.regions (λ r h. h) is.regions_before;
  closed = closed_now calls reads a.end k.regions (still_closed k calls reads k.regions e.over is.closed);
  numbers = e.numbers;
  xids = e.xids;
  ready_xids = e.ready_xids;
  ready = e.ready_of;
  idle = λ none. refl;
  up = is.up;
  down = is.down;
}

-- ---- What its sinks hold

abbrev is_own : ℕ → ℕ → Region → Bool
is_own number position r = eqb r.call number && eqb r.position position

abbrev sink_if : Option Region → Option SinkRegion
sink_if None = None
sink_if (Some r) = Some (sink_of_region r)

-- the first open sink of a call whose regions are open is that of its first region
find_open : (number position : ℕ) (regions : List Region) → AllByRecursion (λ r. r.call ≡ number → r.until ≡ None) regions → find (is_sink number position) (open_sinks regions) ≡ sink_if (find (is_own number position) regions)
find_open number position [] h = refl
find_open number position (r ∷ regions) h = by (find_open number position regions h.1) r.until refl (eqb r.call number) refl
  where
    rest : List SinkRegion
    rest = open_sinks regions

    here : (c : Bool) → find (is_sink number position) rest ≡ sink_if (find (is_own number position) regions) → cond c (Some (sink_of_region r)) (find (is_sink number position) rest) ≡ sink_if (cond c (Some r) (find (is_own number position) regions))
    here true e = refl
    here false e = e

    by : find (is_sink number position) (open_sinks regions) ≡ sink_if (find (is_own number position) regions) → (u : Option ℕ) → r.until ≡ u → (b : Bool) → eqb r.call number ≡ b →
        find (is_sink number position) (open_if r.until (sink_of_region r) rest) ≡ sink_if (cond (is_own number position r) (Some r) (find (is_own number position) regions))
    by others None opened b own = ap (λ (o : Option ℕ). find (is_sink number position) (open_if o (sink_of_region r) rest)) opened ∙ here (is_own number position r) others
    by others (Some until) closed true own = absurd (let two : Some until ≡ None = sym closed ∙ h.0 (eqb-true r.call number own) in cc)
    by others (Some until) closed false own =
        ap (λ (o : Option ℕ). find (is_sink number position) (open_if o (sink_of_region r) rest)) closed
        ∙ others
        ∙ sym (ap (λ (b : Bool). sink_if (cond (b && eqb r.position position) (Some r) (find (is_own number position) regions))) own)

-- a region that is found is the one under its STag
found_at : (test : Region → Bool) (place : ℕ) (regions : List Region) (r : Region) → AreOffered place regions → find test regions ≡ Some r → region_at regions r.stag ≡ Some r
found_at test place [] r offered is = absurd cc
found_at test place (x ∷ regions) r offered is = by (λ (e : find test regions ≡ Some r). found_at test place regions r offered.1.1.1 e) (test x) is
  where
    here : x ≡ r → region_at (x ∷ regions) r.stag ≡ Some r
    here same = ap (λ (b : Bool). cond b (Some x) (region_at regions r.stag)) (eq-eqb x.stag r.stag (ap (λ (y : Region). y.stag) same)) ∙ ap (λ (y : Region). Some y) same

    later : region_at regions r.stag ≡ Some r → (b : Bool) → eqb x.stag r.stag ≡ b → cond b (Some x) (region_at regions r.stag) ≡ Some r
    later there true is_x =
        let fresh : region_at regions r.stag ≡ None = ap (region_at regions) (sym (eqb-true x.stag r.stag is_x)) ∙ offered.1.1.0 in
        absurd (let two : Some r ≡ None = sym there ∙ fresh in cc)
    later there false is_x = there

    by : (find test regions ≡ Some r → region_at regions r.stag ≡ Some r) → (b : Bool) → cond b (Some x) (find test regions) ≡ Some r → region_at (x ∷ regions) r.stag ≡ Some r
    by rest true e = here (let same : x ≡ r = cc in same)
    by rest false e = ap (λ (b : Bool). cond b (Some x) (region_at regions r.stag)) refl ∙ later (rest e) (eqb x.stag r.stag) refl

pub no_zero_stag : (n : ℕ) (regions : List Region) → StagsFrom (n + 1) regions → region_at regions 0 ≡ None
no_zero_stag n [] h = refl
no_zero_stag n (r ∷ regions) h =
    ap (λ (b : Bool). cond b (Some r) (region_at regions 0)) (ne_eqb r.stag 0 (λ e. (let at : r.stag ≡ n + 1 = h.0 in omega (arith, at, e)))) ∙ no_zero_stag (n + 1) regions h.1

-- what an open region holds in the memory
bytes_by : (o : Option Region) (u : Option ℕ) (m : RegisteredMemory) (r : Region) (gs : List Grant) (accesses : List TaggedSegment) → r.until ≡ u → u ≡ None → live_region m r.stag ≡ registered_region gs accesses (Some r) →
    bytes_in (held_region m r.stag) ≡ contents gs r.stag r.bytes accesses
bytes_by o u m r gs accesses is opened live =
    ap bytes_in (live_parts m r.stag (record { right = r.right; buf = contents gs r.stag r.bytes accesses }) (live ∙ ap (λ (x : Option ℕ). held_if_open x (record { right = r.right; buf = contents gs r.stag r.bytes accesses })) (is ∙ opened))).1

found_true : (test : Region → Bool) (regions : List Region) (r : Region) → find test regions ≡ Some r → test r ≡ true
found_true test [] r is = absurd cc
found_true test (x ∷ regions) r is = by (λ (e : find test regions ≡ Some r). found_true test regions r e) (test x) refl is
  where
    by : (find test regions ≡ Some r → test r ≡ true) → (b : Bool) → test x ≡ b → cond b (Some x) (find test regions) ≡ Some r → test r ≡ true
    by rest true passes e = subst (λ (y : Region). test y ≡ true) (let same : x ≡ r = cc in same) passes
    by rest false fails e = rest e

and_left : (a b : Bool) → (a && b) ≡ true → a ≡ true
and_left true b e = refl
and_left false b e = absurd cc

own_open : (number position : ℕ) (regions : List Region) (r : Region) → AllByRecursion (λ x. x.call ≡ number → x.until ≡ None) regions → find (is_own number position) regions ≡ Some r → r.until ≡ None
own_open number position regions r opens found =
    found_all (λ (x : Region). x.call ≡ number → x.until ≡ None) (is_own number position) regions r opens found
    (eqb-true r.call number (and_left (eqb r.call number) (eqb r.position position) (found_true (is_own number position) regions r found)))

pub sink_holds : (k : ServerState) (place number position : ℕ) (accesses : List TaggedSegment) (m : RegisteredMemory) → AreOffered place k.regions → StagsFrom 1 k.regions → AllByRecursion (λ r. r.call ≡ number → r.until ≡ None) k.regions →
    HoldsRegions k.regions accesses place m → region_bytes (region_grants place k.regions) k.regions accesses (sink_of k.regions number position) ≡ sink_bytes m (open_sinks k.regions) number position
unfolding region_bytes
sink_holds k place number position accesses m offered numbered opens holds =
    by (find (is_own number position) k.regions) refl
    ∙ sym (ap (bytes_of_sink m) (find_open number position k.regions opens))
  where
    gs : List Grant
    gs = region_grants place k.regions

    by : (o : Option Region) → find (is_own number position) k.regions ≡ o → region_bytes_by gs accesses (region_at k.regions (stag_by (find (is_own number position) k.regions))) ≡ bytes_of_sink m (sink_if (find (is_own number position) k.regions))
    by None is =
        ap (λ (o : Option Region). region_bytes_by gs accesses (region_at k.regions (stag_by o))) is
        ∙ ap (region_bytes_by gs accesses) (no_zero_stag 0 k.regions numbered)
        ∙ sym (ap (λ (o : Option Region). bytes_of_sink m (sink_if o)) is)
    by (Some r) is =
        let at : region_at k.regions r.stag ≡ Some r = found_at (is_own number position) place k.regions r offered is in
        let own : r.until ≡ None = own_open number position k.regions r opens is in
        ap (λ (o : Option Region). region_bytes_by gs accesses (region_at k.regions (stag_by o))) is
        ∙ ap (region_bytes_by gs accesses) at
        ∙ sym (bytes_by (Some r) r.until m r gs accesses refl own (holds r.stag ∙ ap (registered_region gs accesses) at))
        ∙ sym (ap (λ (o : Option Region). bytes_of_sink m (sink_if o)) is)
