-- A frame that doesn't end a side lacks nothing of what the side offered.
use Rattle.std.proofs.Common.{◌≡◌, ℕ, Bool, false, cond, not, eqb, ltb, length, List, [], ◌∷◌, Option, Some, None, Result, Ok, refl, sym, ap, ◌∙◌}
use Rattle.nr_wire.specs.declared.hello.Side.TheVariants.{Initiator, Responder}
use Rattle.nr_wire.specs.Hello.{hello_of}
use Rattle.nr_wire.specs.Segment.{Segment}
use Rattle.nr_wire.specs.Segment.Segment.{Tagged, Untagged}
use Rattle.nr_regions.specs.Access.{Grant}
use Rattle.nr_regions.specs.declared.denied.Denied.{Denied}
use Rattle.nr_link.specs.declared.end.End.{End as Stop}
use Rattle.nr_reduce.specs.declared.mark.LinkParameters.{LinkParameters}
use Rattle.nr_link.specs.Frames.{Frame, is_hello}
use Rattle.nr_link.specs.SegmentFaults.{SegmentReason, Readiness, first_fault, missing_fault, segment_reason, reason_if, next_msn, next_offset, no_buffer, is_malformed, is_too_many, message_length_is, terminate_fault, is_unexpected}
use Rattle.nr_link.specs.ReceiveState.{is_send, message_completed}
use Rattle.nr_link.specs.Reasons.{REASON_MSN, REASON_OFFSET, REASON_FORM, REASON_RESPONSE, REASON_REQUESTS, REASON_SHORT, REASON_LONG}
use Rattle.nr_link.specs.SegmentFaults.SegmentReason.{Reason, NoBuffer, AccessDenied, PeerTerminated}
use Rattle.nr_link.specs.Ending.{missing_access, end_of_fault, frame_segment, frame_end, frame_end_by, hello_end, access_of}
use Rattle.nr_reduce.specs.OfferedRegions.{region_grants}
use Rattle.nr_reduce.specs.Events.{RunEvent}
use Rattle.nr_reduce.specs.Events.RunEvent.{FrameReceived}
use Rattle.nr_reduce.specs.Client.{client_end, client_segment, or_message_end, client_readiness as client_ready, client_rules, initial_client, or_other_sizes}
use Rattle.nr_reduce.specs.ClientState.{ClientState}
use Rattle.nr_reduce.specs.Server.{server_end, or_refusal, server_readiness as server_ready, server_rules, initial_server}
use Rattle.nr_reduce.specs.ServerState.{ServerState}
use Rattle.std.specs.Prelude.{option_and_then}
use Rattle.nr_regions.specs.RegisteredMemory.{Access}
use Rattle.nr_regions.specs.Access.{Allowed, HaveOwnStags, grant_denial}
use Rattle.nr_regions.proofs.Contents.{allowed_iff}
use Rattle.nr_reduce.specs.EndRules.{end_state_after}
use Rattle.nr_reduce.proofs.OwnStags.{own_stags, client_numbers, server_numbers}

-- if none stands, none of them does
abbrev pub AreNone : {X : Type 0} → List (Option X) → Type 0
AreNone [] = Unit {0}
AreNone (x ∷ xs) = (x ≡ None) × AreNone xs

pub all_none : {X : Type 0} (xs : List (Option X)) → first_fault xs ≡ None → AreNone xs
all_none [] e = tt
all_none (None ∷ xs) e = (refl, all_none xs e)
all_none (Some x ∷ xs) e = absurd cc

pub no_lack : (o : Option Denied) → missing_fault o ≡ None → o ≡ None
no_lack None e = refl
no_lack (Some why) e = absurd cc

no_fault_no_missing : (r : Readiness Denied) (segment : Segment) → segment_reason r segment ≡ None → r.missing ≡ None
unfolding segment_reason
no_fault_no_missing r (Tagged last opcode stag to payload) e =
    let flaws : List (Option (SegmentReason Denied)) = missing_fault r.missing ∷ reason_if REASON_RESPONSE (is_unexpected r opcode last stag to (length payload)) ∷ [] in
    let all : AreNone flaws = all_none flaws e in
    no_lack r.missing all.0
no_fault_no_missing r (Untagged last opcode w queue msn offset payload) e =
    let message : Option (List ℕ) = message_completed r.received (Untagged last opcode w queue msn offset payload) in
    let flaws : List (Option (SegmentReason Denied)) =
    reason_if REASON_MSN (not (eqb msn (next_msn r.received queue)))
    ∷ reason_if REASON_OFFSET (not (eqb offset (next_offset r.received queue)))
    ∷ no_buffer r (is_send opcode) msn
    ∷ reason_if REASON_FORM (is_malformed opcode last payload)
    ∷ missing_fault r.missing
    ∷ reason_if REASON_REQUESTS (is_too_many r opcode)
    ∷ reason_if REASON_LONG (message_length_is (ltb r.message_max) message)
    ∷ reason_if REASON_SHORT (message_length_is (λ n. ltb n 16) message)
    ∷ terminate_fault opcode payload
    ∷ [] in
    let all : AreNone flaws = all_none flaws e in
    no_lack r.missing all.1.1.1.1.0

pub no_flaw : (f : Frame) (segment : Segment) (o : Option (SegmentReason Denied)) → end_of_fault f segment o ≡ None → o ≡ None
no_flaw f segment None e = refl
no_flaw f segment (Some (Reason reason)) e = absurd cc
no_flaw f segment (Some (NoBuffer msn)) e = absurd cc
no_flaw f segment (Some (AccessDenied why)) e = absurd cc
no_flaw f segment (Some (PeerTerminated word)) e = absurd cc

lacks_nothing : (ready : Option Denied → Readiness Denied) → ((o : Option Denied) → (ready o).missing ≡ o) → (grants : List Grant) (f : Frame) (segment : Segment) (read : Result Segment ℕ) → read ≡ Ok segment
    → frame_end_by ready grants f read ≡ None → missing_access grants f segment ≡ None
lacks_nothing ready keeps grants f segment read is e =
    let by_piece : end_of_fault f segment (segment_reason (ready (missing_access grants f segment)) segment) ≡ None = ap (λ (r : Result Segment ℕ). frame_end_by ready grants f r) (sym is) ∙ e in
    sym (keeps (missing_access grants f segment)) ∙ no_fault_no_missing (ready (missing_access grants f segment)) segment (no_flaw f segment _ by_piece)

-- What a client's peer reaches by a frame that doesn't end it is allowed by what the client offers at that frame.
pub client_touched : (k : ClientState) (f : Frame) (segment : Segment) → is_hello f ≡ false → client_segment k f ≡ Ok segment → client_end k (FrameReceived f) ≡ None → missing_access (region_grants f.end k.regions) f segment ≡ None
unfolding client_end
client_touched k f segment later is e =
    let ends : Option Stop = frame_end_by (client_ready k) (region_grants f.end k.regions) f (client_segment k f) in
    let others : or_message_end k f ends ≡ None =
    ap (λ (b : Bool). cond b (or_other_sizes k f (hello_end (hello_of Responder f.bytes))) (or_message_end k f ends)) (sym later) ∙ e in
    lacks_nothing (client_ready k) (λ o. refl) (region_grants f.end k.regions) f segment (client_segment k f) is (by_end ends others)
  where
    by_end : (o : Option Stop) → or_message_end k f o ≡ None → o ≡ None
    by_end None e = refl
    by_end (Some end) e = absurd cc

-- and a server's
pub server_touched : (opened : LinkParameters) (k : ServerState) (f : Frame) (segment : Segment) → is_hello f ≡ false → frame_segment f ≡ Ok segment → server_end opened k (FrameReceived f) ≡ None → missing_access (region_grants f.end k.regions) f segment ≡ None
unfolding server_end frame_end
server_touched opened k f segment later is e =
    let others : or_refusal k f (frame_end (server_ready opened k) (region_grants f.end k.regions) f) ≡ None =
    ap (λ (b : Bool). cond b (hello_end (hello_of Initiator f.bytes)) (or_refusal k f (frame_end (server_ready opened k) (region_grants f.end k.regions) f))) (sym later) ∙ e in
    lacks_nothing (server_ready opened k) (λ o. refl) (region_grants f.end k.regions) f segment (frame_segment f) is (by_end (frame_end (server_ready opened k) (region_grants f.end k.regions) f) others)
  where
    by_end : (o : Option Stop) → or_refusal k f o ≡ None → o ≡ None
    by_end None e = refl
    by_end (Some end) e = absurd cc

-- ---- Allowed accesses

allowed : (grants : List Grant) (f : Frame) (segment : Segment) (access : Access) → HaveOwnStags grants → access_of segment ≡ Some access → missing_access grants f segment ≡ None → Allowed grants access f.end
allowed grants f segment access own is none =
    (allowed_iff grants access f.end own).1 (ap (λ (o : Option Access). option_and_then (λ (a : Access). grant_denial grants a f.end) o) (sym is) ∙ none)

pub client_allows : (opened : LinkParameters) (events : List RunEvent) (f : Frame) (segment : Segment) (access : Access) → is_hello f ≡ false →
    client_segment (end_state_after (client_rules opened) (initial_client opened) events).state f ≡ Ok segment → access_of segment ≡ Some access →
    client_end (end_state_after (client_rules opened) (initial_client opened) events).state (FrameReceived f) ≡ None →
    Allowed (region_grants f.end (end_state_after (client_rules opened) (initial_client opened) events).state.regions) access f.end
client_allows opened events f segment access later is accesses_received e =
    let k : ClientState = (end_state_after (client_rules opened) (initial_client opened) events).state in
    allowed (region_grants f.end k.regions) f segment access (own_stags f.end opened.first_stag k.regions (client_numbers opened events).regions) accesses_received (client_touched k f segment later is e)

pub server_allows : (opened : LinkParameters) (events : List RunEvent) (f : Frame) (segment : Segment) (access : Access) → is_hello f ≡ false → frame_segment f ≡ Ok segment → access_of segment ≡ Some access →
    server_end opened (end_state_after (server_rules opened) (initial_server opened) events).state (FrameReceived f) ≡ None →
    Allowed (region_grants f.end (end_state_after (server_rules opened) (initial_server opened) events).state.regions) access f.end
server_allows opened events f segment access later is accesses_received e =
    let k : ServerState = (end_state_after (server_rules opened) (initial_server opened) events).state in
    allowed (region_grants f.end k.regions) f segment access (own_stags f.end 1 k.regions (server_numbers opened events)) accesses_received (server_touched opened k f segment later is e)
