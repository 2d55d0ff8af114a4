-- What a side's memory holds is by allowed segments alone, and what a client discloses by allowed requests.
use Rattle.std.proofs.Common.{◌≡◌, ℕ, ◌+◌, ◌≤◌, Bool, true, false, cond, eqb, List, [], ◌∷◌, ◌++◌, length, take, drop, Option, None, Some, Result, Ok, Err, append-nil, refl, sym, ap, subst, ◌∙◌, arith, inl, inr, ◌⊎◌, eqb-true}
use Rattle.std.specs.Prelude.{slice_get}
use Rattle.std.specs.List.{find}
use Rattle.std.proofs.lemmas.List.{length-take-le, length-drop}
use Rattle.nr_wire.specs.declared.hello.Side.TheVariants.{Initiator, Responder}
use Rattle.nr_wire.specs.Segment.{Segment}
use Rattle.nr_wire.specs.Segment.Segment.{Tagged, Untagged}
use Rattle.nr_wire.specs.Constants.{OPCODE_READ_REQUEST}
use Rattle.nr_regions.specs.declared.right.Right.TheVariants.{Fetch}
use Rattle.nr_regions.specs.declared.denied.Denied.TheVariants as denials
use Rattle.nr_regions.specs.RegisteredMemory.{Access, denial_in}
use Rattle.nr_regions.specs.Access.{Allowed, Grant, TaggedSegment, access_of_tagged, grant_at, grant_offer, grant_denial, contents}
use Rattle.nr_regions.proofs.Contents.{allowed_iff}
use Rattle.nr_link.specs.declared.end.End.{End as Stop}
use Rattle.nr_link.specs.ReceiveState.{ReadRequest, read_request_of, read_request_in}
use Rattle.nr_link.specs.Ending as ending
use Rattle.nr_reduce.specs.Events.{RunEvent, events}
use Rattle.nr_reduce.specs.Events.RunEvent.{FrameReceived, CallSubmitted, MemoryRevoked, CallExecuted, QueueWritten, ServerTold}
use Rattle.nr_link.specs.Frames.{Frame, is_hello}
use Rattle.nr_reduce.specs.declared.mark.LinkParameters.{LinkParameters}
use Rattle.nr_reduce.specs.EndRules.{EndMachine, EndState, output_for_by, output_for_in, next_end_state, next_end_state_by, next_end_state_in, end_state_after}
use Rattle.nr_reduce.specs.OfferedRegions.{Region, region_grants, region_bytes, region_bytes_by}
use Rattle.nr_reduce.specs.Client.{client_segment, client_rules, client_output, initial_client, calls_output, call_output, outstanding_of, client_end, response_output, segment_request}
use Rattle.nr_reduce.specs.Server.{server_rules, initial_server}
use Rattle.nr_reduce.specs.ClientState.{ClientState, client_memory_at}
use Rattle.nr_reduce.specs.ServerState.{ServerState}
use Rattle.nr_reduce.specs.Run.{client, server, grants_of, placed_bytes}
use Rattle.nr_reduce.proofs.OfferedMemory.{none_found_lem}
use Rattle.nr_reduce.proofs.Touches.{client_allows}
use Rattle.nr_reduce.proofs.OwnStags.{AreNumbered, own_stags, client_numbers, server_numbers}
use Rattle.nr_laws.specs.PlacedBytes.{IsBrought, HoldsAllowed, ClientBytesAreAllowed, ServerBytesAreAllowed, ReadsAreAllowed, IsSubmittedCall, IsOwnOutput, AnswersRequest, NothingElseIsDisclosed}
use Rattle.nr_laws.proofs.SubmittedCalls.{outstanding_are_submitted, submitted_more, each_at}
use Rattle.nr_laws.proofs.Memory.{Gathering}
use Rattle.nr_laws.proofs.ClientMemory.{client_gathers}
use Rattle.nr_laws.proofs.ServerMemory.{server_gathers}
use Rattle.nr_laws.proofs.RegionLengths.{settled_fits, fits_found}
use Rattle.nr_laws.proofs.Frozen.{found_at_lem}
use Rattle.nr_laws.proofs.BroughtBytes.{Has, LieWithin, FromSegment, HoldsSegments, holds_segments, FromFrame, from_frames}

-- the segments for a region that its grants allow lie within it
lie_within : (place n : ℕ) (regions : List Region) (r : Region) (accesses : List TaggedSegment) → AreNumbered n regions → find (λ x. eqb x.stag r.stag) regions ≡ Some r → LieWithin (region_grants place regions) r.stag (length r.bytes) accesses
lie_within place n regions r [] numbers there = tt
lie_within place n regions r (a ∷ accesses) numbers there =
    ((λ own none. settled_fits place n regions r a numbers (ap (λ (s : ℕ). find (λ (x : Region). eqb x.stag s) regions) own ∙ there) none), lie_within place n regions r accesses numbers there)

-- what a side's memory holds for a region, of the accesses that it kept
holds_allowed : {S : Type 0} (rules : EndMachine S) (accesses : S → List TaggedSegment) → Gathering rules accesses → (initial : EndState S) → accesses initial.state ≡ [] → (es : List RunEvent) (place n : ℕ) (regions : List Region) (r : Region) → AreNumbered n regions
    → find (λ x. eqb x.stag r.stag) regions ≡ Some r
    → HoldsAllowed rules initial es (region_grants place regions) r (region_bytes (region_grants place regions) regions (accesses (end_state_after rules initial es).state) r.stag)
unfolding region_bytes
holds_allowed {S} rules accesses goes initial none es place n regions r numbers there =
    let is : region_bytes_by grants kept (find (λ (x : Region). eqb x.stag r.stag) regions) ≡ contents grants r.stag r.bytes kept = ap (λ (o : Option Region). region_bytes_by grants kept o) there in
    let h : HoldsSegments grants r.stag r.bytes kept = holds_segments grants r.stag (length r.bytes) r.bytes kept refl (lie_within place n regions r kept numbers there) in
    record { len = ap length is ∙ h.len; each = λ at byte e. by at byte (h.each at byte (ap (λ (xs : List ℕ). slice_get xs at) (sym is) ∙ e)) }
  where
    grants : List Grant
    grants = region_grants place regions

    kept : List TaggedSegment
    kept = accesses (end_state_after rules initial es).state

    brought : (at byte : ℕ) → (f : FromSegment grants r.stag kept at byte) → Has (accesses initial.state) f.tagged ⊎ FromFrame rules initial es f.tagged → IsBrought rules initial es grants r.stag at byte
    brought at byte f (inl first) = absurd (let t : Has [] f.tagged = subst (λ (xs : List TaggedSegment). Has xs f.tagged) none first in t)
    brought at byte f (inr frame) = record {
      earlier = frame.earlier;
      later = frame.later;
      frame = frame.frame;
      segment = frame.segment;
      tagged = f.tagged;
      is_received = frame.is_received;
      stays = frame.stays;
      behind_hello = frame.behind_hello;
      is_segment = frame.is_segment;
      is_tagged = frame.is_tagged;
      own = f.own;
      allowed = (allowed_iff grants (access_of_tagged f.tagged) frame.frame.end (own_stags place n regions numbers)).1 (ap (λ (end : ℕ). grant_denial grants (access_of_tagged f.tagged) end) (sym frame.end_is) ∙ f.allowed);
      begins = f.begins;
      byte_is = f.byte_is;
    }

    by : (at byte : ℕ) → (slice_get r.bytes at ≡ Some byte) ⊎ FromSegment grants r.stag kept at byte → (slice_get r.bytes at ≡ Some byte) ⊎ IsBrought rules initial es grants r.stag at byte
    by at byte (inl own) = inl own
    by at byte (inr f) = inr (brought at byte f (from_frames rules accesses goes initial [] es f.tagged f.there))

pub client_bytes_are_allowed : ClientBytesAreAllowed
unfolding placed_bytes grants_of client
client_bytes_are_allowed opened link run r there =
    let es = events link Initiator run in
    let numbers = (client_numbers opened es).regions in
    let regions = (end_state_after (client_rules opened) (initial_client opened) es).state.regions in
    holds_allowed (client_rules opened) (λ (k : ClientState). k.accesses_received) (client_gathers opened) (initial_client opened) refl es _ opened.first_stag regions r numbers (found_at_lem opened.first_stag there.0 regions r numbers there.1 there.2)

pub server_bytes_are_allowed : ServerBytesAreAllowed
unfolding placed_bytes grants_of server
server_bytes_are_allowed opened link run r there =
    let es = events link Responder run in
    let numbers = server_numbers opened es in
    let regions = (end_state_after (server_rules opened) (initial_server opened) es).state.regions in
    holds_allowed (server_rules opened) (λ (k : ServerState). k.accesses_received) (server_gathers opened) (initial_server opened) refl es _ 1 regions r numbers (found_at_lem 1 there.0 regions r numbers there.1 there.2)

-- ---- What a client discloses

-- an event that doesn't end an end has the output and finds the state that its rules say
record Goes {S : Type 0} (rules : EndMachine S) (r : EndState S) (e : RunEvent) : Type 0 where
  live : r.ended ≡ None
  none : rules.end_at r.state e ≡ None

preserved : {S : Type 0} (rules : EndMachine S) (r : EndState S) (e : RunEvent) → (next_end_state rules r e).ended ≡ None → Goes rules r e
preserved {S} rules r e stays = by r.ended refl stays
  where
    by_why : (o : Option Stop) → r.ended ≡ None → rules.end_at r.state e ≡ o → (next_end_state_by rules r.state e o).ended ≡ None → Goes rules r e
    by_why None live none stays = record { live = live; none = none }
    by_why (Some end) live none stays = absurd (let t : Some end ≡ None = stays in cc)

    by : (o : Option Stop) → r.ended ≡ o → (next_end_state_in rules r.state e o).ended ≡ None → Goes rules r e
    by None is stays = by_why (rules.end_at r.state e) is refl stays
    by (Some end) is stays = absurd (let t : Some end ≡ None = stays in cc)

-- a Read Request is an access to what it asks for
pub request_access : (s : Segment) (q : ReadRequest) → read_request_of s ≡ Some q → ending.access_of s ≡ Some (record { right = Fetch; stag = q.stag; to = q.to; len = q.size })
request_access (Tagged last opcode stag to payload) q e = absurd cc
request_access (Untagged last opcode w queue msn offset payload) q e = by (eqb opcode OPCODE_READ_REQUEST) e
  where
    reads : ReadRequest → Access
    reads x = record { right = Fetch; stag = x.stag; to = x.to; len = x.size }

    by : (b : Bool) → cond b (Some (read_request_in payload)) None ≡ Some q → cond b (Some (reads (read_request_in payload))) None ≡ Some (reads q)
    by true e = (let same : read_request_in payload ≡ q = cc in ap (λ (x : ReadRequest). Some (reads x)) same)
    by false e = absurd cc

found_own : (stag : ℕ) (regions : List Region) (r : Region) → find (λ x. eqb x.stag stag) regions ≡ Some r → r.stag ≡ stag
found_own stag [] r e = absurd cc
found_own stag (x ∷ regions) r e = by (eqb x.stag stag) refl e (λ later. found_own stag regions r later)
  where
    by : (b : Bool) → eqb x.stag stag ≡ b → cond b (Some x) (find (λ y. eqb y.stag stag) regions) ≡ Some r → (find (λ y. eqb y.stag stag) regions ≡ Some r → r.stag ≡ stag) → r.stag ≡ stag
    by true is e later = (let same : x ≡ r = (let t : Some x ≡ Some r = e in cc) in ap (λ (q : Region). q.stag) (sym same) ∙ eqb-true x.stag stag is)
    by false is e later = later e

-- what lacks nothing lies within the region of its STag
fits : (place n end : ℕ) (regions : List Region) (r : Region) (a : Access) → AreNumbered n regions → find (λ x. eqb x.stag a.stag) regions ≡ Some r → grant_denial (region_grants place regions) a end ≡ None → a.to + a.len ≤ length r.bytes
unfolding grant_denial grant_at region_grants
fits place n end regions r a numbers there e = fits_found place n a.stag end regions r a numbers there e

-- and has one
has_region : (place end : ℕ) (regions : List Region) (a : Access) → find (λ x. eqb x.stag a.stag) regions ≡ None → grant_denial (region_grants place regions) a end ≡ None → ⊥
unfolding grant_denial grant_at region_grants
has_region place end regions a none e =
    let wrong : Some denials.NoStag ≡ None = ap (λ (o : Option Grant). denial_in (grant_offer o) a) (sym (none_found_lem place end a.stag regions none)) ∙ e in cc

-- an allowed access reads as many bytes as it asks for
read_length : (place n end : ℕ) (regions : List Region) (accesses : List TaggedSegment) (a : Access) → AreNumbered n regions → Allowed (region_grants place regions) a end
    → a.to + a.len ≤ length (region_bytes (region_grants place regions) regions accesses a.stag)
unfolding region_bytes
read_length place n end regions accesses a numbers allowed = by (find (λ (x : Region). eqb x.stag a.stag) regions) refl
  where
    grants : List Grant
    grants = region_grants place regions

    none : grant_denial grants a end ≡ None
    none = (allowed_iff grants a end (own_stags place n regions numbers)).0 allowed

    by : (o : Option Region) → find (λ (x : Region). eqb x.stag a.stag) regions ≡ o → a.to + a.len ≤ length (region_bytes_by grants accesses o)
    by None is = absurd (has_region place end regions a is none)
    by (Some r) is =
        let own : r.stag ≡ a.stag = found_own a.stag regions r is in
        let there : find (λ (x : Region). eqb x.stag r.stag) regions ≡ Some r = ap (λ (s : ℕ). find (λ (x : Region). eqb x.stag s) regions) own ∙ is in
        let h = (holds_segments grants r.stag (length r.bytes) r.bytes accesses refl (lie_within place n regions r accesses numbers there)).len in
        let f = fits place n end regions r a numbers is none in
        omega (arith, h, f)

-- the bytes that are asked for are all there
taken_length : (size to : ℕ) (bytes : List ℕ) → to + size ≤ length bytes → length (take size (drop to bytes)) ≡ size
taken_length size to bytes le =
    let d = length-drop to bytes in
    length-take-le size (drop to bytes) (omega (arith, d, le))

pub reads_are_allowed : ReadsAreAllowed
unfolding client_output
reads_are_allowed opened link run earlier later f segment request is behind own asks stays =
    let g = preserved (client_rules opened) before (FrameReceived f) stays in
    let allowed = client_allows opened earlier f segment access behind own (request_access segment request asks) g.none in
    record {
      bytes = take request.size (drop request.to (client_memory_at k f.end request.stag));
      output = ap (λ (o : Option Stop). output_for_in (client_rules opened) k (FrameReceived f) o) g.live
          ∙ ap (λ (o : Option Stop). output_for_by (client_rules opened) k (FrameReceived f) o) g.none
          ∙ ap (λ (b : Bool). cond b (calls_output opened 1 k.outstanding) (response_output k f.end (segment_request (client_segment k f)))) behind
          ∙ ap (λ (r : Result Segment ℕ). response_output k f.end (segment_request r)) own
          ∙ ap (λ (o : Option ReadRequest). response_output k f.end o) asks;
      stand = refl;
      len = taken_length request.size request.to (client_memory_at k f.end request.stag)
          (read_length f.end opened.first_stag f.end k.regions k.accesses_received access (client_numbers opened earlier).regions allowed);
      allowed = allowed;
    }
  where
    before : EndState ClientState
    before = end_state_after (client_rules opened) (initial_client opened) earlier

    k : ClientState
    k = before.state

    access : Access
    access = record { right = Fetch; stag = request.stag; to = request.to; len = request.size }

-- ---- What else it writes

own_none : (opened : LinkParameters) (received : List RunEvent) (ended : Option Stop) → IsOwnOutput opened received ended []
own_none opened received ended = inl (1, [], ((λ o c. (let lt = c.1 in absurd (omega (arith, lt)))), refl))

pub nothing_else_is_disclosed : NothingElseIsDisclosed
unfolding client_output
nothing_else_is_disclosed opened link run earlier later event is = by_ended before.ended refl
  where
    before : EndState ClientState
    before = end_state_after (client_rules opened) (initial_client opened) earlier

    k : ClientState
    k = before.state

    here : List RunEvent
    here = earlier ++ event ∷ []

    after : Option Stop
    after = (next_end_state (client_rules opened) before event).ended

    none : IsOwnOutput opened here after []
    none = own_none opened here after

    frame : (f : Frame) → event ≡ FrameReceived f → before.ended ≡ None → client_end k (FrameReceived f) ≡ None → IsOwnOutput opened here after (client_output opened k (FrameReceived f)) ⊎ AnswersRequest opened before event
    frame f same live quiet = by_hello (is_hello f) refl
      where
        stays : (next_end_state (client_rules opened) before (FrameReceived f)).ended ≡ None
        stays = ap (λ (o : Option Stop). (next_end_state_in (client_rules opened) k (FrameReceived f) o).ended) live ∙ ap (λ (o : Option Stop). (next_end_state_by (client_rules opened) k (FrameReceived f) o).ended) quiet

        by_request : (s : Segment) → client_segment k f ≡ Ok s → is_hello f ≡ false → (o : Option ReadRequest) → read_request_of s ≡ o → IsOwnOutput opened here after (response_output k f.end o) ⊎ AnswersRequest opened before event
        by_request s own behind None asks = inl none
        by_request s own behind (Some q) asks = inr (record {
          frame = f;
          segment = s;
          request = q;
          is = same;
          behind_hello = behind;
          is_segment = own;
          asks = asks;
          disclosed = reads_are_allowed opened link run earlier later f s q (is ∙ ap (λ (e : RunEvent). earlier ++ e ∷ later) same) behind own asks stays;
        })

        by_segment : (r : Result Segment ℕ) → client_segment k f ≡ r → is_hello f ≡ false → IsOwnOutput opened here after (response_output k f.end (segment_request r)) ⊎ AnswersRequest opened before event
        by_segment (Err reason) own behind = inl none
        by_segment (Ok s) own behind = by_request s own behind (read_request_of s) refl

        by_hello : (b : Bool) → is_hello f ≡ b → IsOwnOutput opened here after (cond b (calls_output opened 1 k.outstanding) (response_output k f.end (segment_request (client_segment k f)))) ⊎ AnswersRequest opened before event
        by_hello true e = inl (inl (1, k.outstanding, ((λ o c. submitted_more opened earlier (event ∷ []) o (outstanding_are_submitted opened earlier o c)), refl)))
        by_hello false e = by_segment (client_segment k f) refl e

    by_event : (e : RunEvent) → event ≡ e → before.ended ≡ None → client_end k e ≡ None → IsOwnOutput opened here after (client_output opened k e) ⊎ AnswersRequest opened before event
    by_event (FrameReceived f) same live quiet = frame f same live quiet
    by_event (CallSubmitted place a) same live quiet = inl (sent k.has_hello)
      where
        made : IsSubmittedCall opened here (outstanding_of k a)
        made = record { earlier = earlier; later = []; place = place; call = a; is_submitted = ap (λ (e : RunEvent). earlier ++ e ∷ []) same; own = refl }

        sent : (b : Bool) → IsOwnOutput opened here after (cond b (call_output opened (k.sends + 1) (outstanding_of k a)) [])
        sent true = inl (
          k.sends + 1,
          outstanding_of k a ∷ [],
          (
            (λ o c. each_at (IsSubmittedCall opened here) (outstanding_of k a ∷ []) (made, tt) o c),
            sym (append-nil (call_output opened (k.sends + 1) (outstanding_of k a))),
          ),
        )
        sent false = none
    by_event (MemoryRevoked place xid) same live quiet = inl none
    by_event (CallExecuted call) same live quiet = inl none
    by_event (QueueWritten taken) same live quiet = inl none
    by_event (ServerTold what) same live quiet = inl none

    by_why : (o : Option Stop) → client_end k event ≡ o → before.ended ≡ None → IsOwnOutput opened here after (output_for_by (client_rules opened) k event o) ⊎ AnswersRequest opened before event
    by_why None quiet live = by_event event refl live quiet
    by_why (Some end) ends live = inl (inr (
      end,
      (
        ap (λ (o : Option Stop). (next_end_state_in (client_rules opened) k event o).ended) live ∙ ap (λ (o : Option Stop). (next_end_state_by (client_rules opened) k event o).ended) ends,
        refl,
      ),
    ))

    by_ended : (o : Option Stop) → before.ended ≡ o → IsOwnOutput opened here after (output_for_in (client_rules opened) k event o) ⊎ AnswersRequest opened before event
    by_ended None live = by_why (client_end k event) refl live
    by_ended (Some end) live = inl none
