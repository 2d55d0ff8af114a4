-- For which reasons a frame ends a side, and what makes the other reasons.
use Rattle.std.proofs.Common.{◌≡◌, ℕ, Bool, true, false, cond, List, [], ◌∷◌, ◌++◌, length, take, Option, Some, None, Result, Ok, Err, IfSome, Contains, inl, inr, refl, sym, subst, ◌∙◌, append_assoc, eqb, arith}
use Rattle.std.specs.Prelude.{◌⊎◌, is_some, IfErr, ◌||◌, nat_lt, not}
use Rattle.std.proofs.lemmas.List.{append-nil}
use Rattle.std.proofs.lemmas.List.Elements.{Contains-append_left, Contains-push}
use Rattle.nr_wire.specs.Constants.{HELLO_LEN, OPCODE_READ_RESPONSE, OPCODE_TERMINATE, REASON_KEY, REASON_FLAGS, REASON_REVISION, REASON_PRIVATE, REASON_LENGTH, REASON_DDP_VERSION, REASON_RDMAP_VERSION, REASON_OPCODE, REASON_TAGGED, REASON_QUEUE}
use Rattle.nr_wire.specs.declared.hello.Side.{Side}
use Rattle.nr_wire.specs.declared.hello.Side.TheVariants.{Initiator, Responder}
use Rattle.nr_wire.specs.declared.stream.Awaited.{Awaited}
use Rattle.nr_wire.specs.declared.stream.Awaited.TheVariants.{Hello as HelloFrom, Fpdu}
use Rattle.nr_wire.specs.Hello.{Hello, hello_of, hello_reason, value_unless}
use Rattle.nr_wire.specs.Segment.{Segment, segment_of, frame_reason}
use Rattle.nr_wire.specs.Segment.Segment.{Tagged, Untagged}
use Rattle.nr_regions.specs.declared.denied.Denied.{Denied}
use Rattle.nr_regions.specs.RegisteredMemory.{Access, after_place}
use Rattle.nr_link.specs.declared.end.End.{End}
use Rattle.nr_link.specs.declared.end.End.TheVariants as ends
use Rattle.nr_link.specs.Frames.{Frame}
use Rattle.nr_link.specs.Reasons.{REASON_MSN, REASON_OFFSET, REASON_FORM, REASON_RESPONSE, REASON_REQUESTS, REASON_SHORT, REASON_LONG, REASON_SIZES}
use Rattle.nr_link.specs.ReceiveState.{is_send, message_completed}
use Rattle.nr_link.specs.SegmentFaults.{Readiness, SegmentReason, segment_reason, first_fault, reason_if, missing_fault, no_buffer, message_length_is, terminate_fault, next_msn, next_offset, is_begun, is_malformed, is_unexpected, is_too_many}
use Rattle.nr_link.specs.SegmentFaults.SegmentReason.{Reason, NoBuffer, AccessDenied, PeerTerminated}
use Rattle.nr_link.specs.Ending.{end_of_fault, denied_at, access_of, is_not_taken, segment_taken}
use Rattle.nr_xdr.specs.Fields.{word_at}
use Rattle.nr_link.specs.declared.agreement.SideTerms.{SideTerms}
use Rattle.nr_link.specs.declared.agreement.Agreement.{Agreement}
use Rattle.nr_endpoint.specs.LinkState.{LinkState, LinkSide, has_ended, initial_link}
use Rattle.nr_endpoint.specs.Judging.{readiness, missing_access, segment_end, next_frame, with_frame, with_segment_by, with_fpdu, with_peer_hello, with_effect, with_read_response, next_segment}
use Rattle.nr_endpoint.specs.Calls.{Call, IsStopReason, after_call, after_calls}
use Rattle.nr_endpoint.specs.Calls.Call.{Feed, FeedOne, NextEvent, Post, Stop, OutOfMemory, Send, WriteRemote, ReadRemote, Drain, Register, Release, SendInvalidate, Hold, SendHeld, Invalidate}
use Rattle.nr_endpoint.specs.Laws.{IsFrameReason, IsFrameEnd, FramesEndForThese, NoFrameStops, OthersComeFromStop, MemoryComesFromOutOfMemory, IsHelloReason}
use Rattle.nr_endpoint.proofs.AlongFrames.{feed_keeps, feed_one_keeps}
use Rattle.nr_endpoint.specs.Hellos.{takes_invalidate}
use Rattle.nr_endpoint.proofs.HellosFrom.{hello_from}

-- ---- Reasons of a frame alone

some_if : (P : ℕ → Type 0) (b : Bool) (reason : ℕ) (others : Option ℕ) → P reason → IfSome others P → IfSome (cond b (Some reason) others) P
some_if P true reason others this rest = this
some_if P false reason others this rest = rest

value_error : {V : Type 0} (P : ℕ → Type 0) (flaw : Option ℕ) (value : V) → IfSome flaw P → IfErr (value_unless flaw value) P
value_error P None value is = tt
value_error P (Some reason) value is = is

hello_flaw_by : (b1 b2 b3 b4 : Bool) → IfSome
    (cond b1 (Some REASON_KEY) (cond b2 (Some REASON_FLAGS) (cond b3 (Some REASON_REVISION) (cond b4 (Some REASON_PRIVATE) None))))
    IsHelloReason
hello_flaw_by b1 b2 b3 b4 =
    let P : ℕ → Type 0 = IsHelloReason in
    some_if P b1 REASON_KEY _ (omega arith, omega arith)
    (some_if P b2 REASON_FLAGS _ (omega arith, omega arith)
    (some_if P b3 REASON_REVISION _ (omega arith, omega arith)
    (some_if P b4 REASON_PRIVATE None (omega arith, omega arith) tt)))

hello_flaw_lem : (side : Side) (head : List ℕ) → IfSome (hello_reason side head) IsHelloReason
unfolding hello_reason
hello_flaw_lem side head = hello_flaw_by _ _ _ _

pub reason_of_hello : (side : Side) (frame : List ℕ) → IfErr (hello_of side frame) IsHelloReason
unfolding hello_of
reason_of_hello side frame = value_error IsHelloReason (hello_reason side (take HELLO_LEN frame)) _ (hello_flaw_lem side (take HELLO_LEN frame))

flaw_reason : (b1 b2 b3 b4 b5 b6 : Bool) → IfSome
    (cond b1 (Some REASON_LENGTH) (cond b2 (Some REASON_DDP_VERSION) (cond b3 (Some REASON_RDMAP_VERSION) (cond b4 (Some REASON_OPCODE) (cond b5 (Some REASON_TAGGED) (cond b6 (Some REASON_QUEUE) None))))))
    (IsFrameReason Fpdu)
flaw_reason b1 b2 b3 b4 b5 b6 =
    let P : ℕ → Type 0 = IsFrameReason Fpdu in
    some_if P b1 REASON_LENGTH _ (inl (omega arith, omega arith))
    (some_if P b2 REASON_DDP_VERSION _ (inl (omega arith, omega arith))
    (some_if P b3 REASON_RDMAP_VERSION _ (inl (omega arith, omega arith))
    (some_if P b4 REASON_OPCODE _ (inl (omega arith, omega arith))
    (some_if P b5 REASON_TAGGED _ (inl (omega arith, omega arith))
    (some_if P b6 REASON_QUEUE None (inl (omega arith, omega arith)) tt)))))

own_reason : (frame : List ℕ) → IfErr (segment_of frame) (IsFrameReason Fpdu)
unfolding segment_of frame_reason
own_reason frame = value_error (IsFrameReason Fpdu) _ _ (flaw_reason _ _ _ _ _ _)

taken_reason : (b : Bool) (r : Result Segment ℕ) → IfErr r (IsFrameReason Fpdu) → IfErr (cond b (Err REASON_OPCODE) r) (IsFrameReason Fpdu)
taken_reason true r is = inl (omega arith, omega arith)
taken_reason false r is = is

pub fpdu_reason : (s : LinkState) (frame : List ℕ) → IfErr (next_segment s frame) (IsFrameReason Fpdu)
unfolding segment_taken
fpdu_reason s frame = taken_reason (is_not_taken (takes_invalidate s.side s.agreed) frame (segment_of frame)) (segment_of frame) (own_reason frame)

-- ---- Reasons of a segment after others

abbrev Fault : Type 0
Fault = SegmentReason Denied

abbrev IsFault : Fault → Type 0
IsFault (Reason reason) = IsFrameReason Fpdu reason
IsFault (NoBuffer msn) = Unit {0}
IsFault (AccessDenied why) = Unit {0}
IsFault (PeerTerminated word) = Unit {0}

abbrev MayBe : Option Fault → Type 0
MayBe fault = IfSome fault IsFault

abbrev EachMayBe : List (Option Fault) → Type 0
EachMayBe [] = Unit {0}
EachMayBe (x ∷ others) = MayBe x × EachMayBe others

first_of_lem : (faults : List (Option Fault)) → EachMayBe faults → MayBe (first_fault faults)
first_of_lem [] is = tt
first_of_lem (None ∷ others) is = first_of_lem others is.1
first_of_lem (Some x ∷ others) is = is.0

reason_fault : (reason : ℕ) (b : Bool) → IsFrameReason Fpdu reason → MayBe (reason_if reason b)
reason_fault reason true is = is
reason_fault reason false is = tt

missing_fault_lem : (why : Option Denied) → MayBe (missing_fault why)
missing_fault_lem None = tt
missing_fault_lem (Some why) = tt

unless_fault : (b : Bool) (x : Option Fault) → MayBe x → MayBe (cond b None x)
unless_fault true x is = tt
unless_fault false x is = is

if_fault : (b : Bool) (x : Option Fault) → MayBe x → MayBe (cond b x None)
if_fault true x is = is
if_fault false x is = tt

buffer_fault : (r : Readiness Denied) (b : Bool) (msn : ℕ) → MayBe (no_buffer r b msn)
buffer_fault r true msn = unless_fault (is_begun r.received.begun || r.has_receive) (Some (NoBuffer msn)) tt
buffer_fault r false msn = tt

untagged_faults : (b1 b2 b4 b6 b7 b8 : Bool) (buffer missing terminate : Option Fault) → MayBe buffer → MayBe missing → MayBe terminate →
    MayBe (first_fault (reason_if REASON_MSN b1 ∷ reason_if REASON_OFFSET b2 ∷ buffer ∷ reason_if REASON_FORM b4 ∷ missing ∷ reason_if REASON_REQUESTS b6
    ∷ reason_if REASON_LONG b7 ∷ reason_if REASON_SHORT b8 ∷ terminate ∷ []))
untagged_faults b1 b2 b4 b6 b7 b8 buffer missing terminate is3 is5 is9 =
    first_of_lem (reason_if REASON_MSN b1 ∷ reason_if REASON_OFFSET b2 ∷ buffer ∷ reason_if REASON_FORM b4 ∷ missing ∷ reason_if REASON_REQUESTS b6
    ∷ reason_if REASON_LONG b7 ∷ reason_if REASON_SHORT b8 ∷ terminate ∷ []) (
      reason_fault REASON_MSN b1 (inl (omega arith, omega arith)),
      (
        reason_fault REASON_OFFSET b2 (inl (omega arith, omega arith)),
        (
          is3,
          (
            reason_fault REASON_FORM b4 (inl (omega arith, omega arith)),
            (
              is5,
              (
                reason_fault REASON_REQUESTS b6 (inl (omega arith, omega arith)),
                (
                  reason_fault REASON_LONG b7 (inr refl),
                  (
                    reason_fault REASON_SHORT b8 (inl (omega arith, omega arith)),
                    (is9, tt),
                  ),
                ),
              ),
            ),
          ),
        ),
      ),
    )

tagged_faults : (missing : Option Fault) (b : Bool) → MayBe missing → MayBe (first_fault (missing ∷ reason_if REASON_RESPONSE b ∷ []))
tagged_faults missing b is =
    first_of_lem (missing ∷ reason_if REASON_RESPONSE b ∷ []) (is, (reason_fault REASON_RESPONSE b (inl (omega arith, omega arith)), tt))

segment_reason_may_be : (r : Readiness Denied) (segment : Segment) → MayBe (segment_reason r segment)
unfolding segment_reason
segment_reason_may_be r (Tagged last opcode stag to payload) =
    tagged_faults (missing_fault r.missing) (is_unexpected r opcode last stag to (length payload)) (missing_fault_lem r.missing)
segment_reason_may_be r (Untagged last opcode w queue msn offset payload) =
    untagged_faults (not (eqb msn (next_msn r.received queue))) (not (eqb offset (next_offset r.received queue))) (is_malformed opcode last payload) (is_too_many r opcode)
    (message_length_is (nat_lt r.message_max) (message_completed r.received (Untagged last opcode w queue msn offset payload)))
    (message_length_is (λ n. nat_lt n 16) (message_completed r.received (Untagged last opcode w queue msn offset payload)))
    (no_buffer r (is_send opcode) msn) (missing_fault r.missing) (terminate_fault opcode payload)
    (buffer_fault r (is_send opcode) msn) (missing_fault_lem r.missing) (if_fault (eqb opcode OPCODE_TERMINATE) (Some (PeerTerminated (word_at 0 payload))) tt)

denied_end : (access : Option Access) (why : Denied) (place : ℕ) → IsFrameEnd Fpdu place (denied_at access why)
denied_end None why place = refl
denied_end (Some access) why place = refl

fault_end : (f : Frame) (segment : Segment) (fault : Option (SegmentReason Denied)) → IfSome fault IsFault → IfSome (end_of_fault f segment fault) (IsFrameEnd Fpdu f.at)
fault_end f segment None is = tt
fault_end f segment (Some (Reason reason)) is = (refl, is)
fault_end f segment (Some (NoBuffer msn)) is = refl
fault_end f segment (Some (AccessDenied why)) is = denied_end (access_of segment) why f.at
fault_end f segment (Some (PeerTerminated word)) is = refl

pub segment_end_is : (s : LinkState) (f : Frame) (segment : Segment) → IfSome (segment_end s f segment) (IsFrameEnd Fpdu f.at)
unfolding segment_end
segment_end_is s f segment = fault_end f segment (segment_reason (readiness s (missing_access s.memory segment)) segment) (segment_reason_may_be (readiness s (missing_access s.memory segment)) segment)

-- ---- A frame

not_ended_lem : (P : End → Type 0) (e : Option End) → e ≡ None → IfSome e P
not_ended_lem P None is = tt
not_ended_lem P (Some end) is = absurd cc

placed_ended : (s : LinkState) (b last : Bool) (n : ℕ) → (cond b (with_read_response last n s) s).ended ≡ s.ended
placed_ended s true last n = refl
placed_ended s false last n = refl

pub effect_ended : (s : LinkState) (segment : Segment) → (with_effect segment s).ended ≡ s.ended
unfolding with_effect
effect_ended s (Tagged last opcode stag to payload) = placed_ended (record s { memory = after_place s.memory stag to payload }) (eqb opcode OPCODE_READ_RESPONSE) last (length payload)
effect_ended s (Untagged last opcode w queue msn offset payload) = refl

by_end_lem : (s : LinkState) (f : Frame) (segment : Segment) (e : Option End) → s.ended ≡ None → IfSome e (IsFrameEnd Fpdu f.at) → IfSome (with_segment_by f segment e s).ended (IsFrameEnd Fpdu f.at)
by_end_lem s f segment (Some end) live is = is
by_end_lem s f segment None live is = not_ended_lem (IsFrameEnd Fpdu f.at) (with_effect segment s).ended (effect_ended s segment ∙ live)

fpdu_end : (s : LinkState) (f : Frame) (r : Result Segment ℕ) → s.ended ≡ None → IfErr r (IsFrameReason Fpdu) → IfSome (with_fpdu f r s).ended (IsFrameEnd Fpdu f.at)
unfolding with_fpdu
fpdu_end s f (Ok segment) live is = by_end_lem s f segment (segment_end s f segment) live (segment_end_is s f segment)
fpdu_end s f (Err reason) live is = (refl, is)

hello_frame_reason : (side : Side) (reason : ℕ) → IsHelloReason reason → IsFrameReason (HelloFrom side) reason
hello_frame_reason Initiator reason is = is
hello_frame_reason Responder reason is = inl is

hello_end_lem : (side : Side) (s : LinkState) (f : Frame) (r : Result Hello ℕ) → s.ended ≡ None → IfErr r IsHelloReason → IfSome (with_peer_hello f r s).ended (IsFrameEnd (HelloFrom side) f.at)
unfolding with_peer_hello
hello_end_lem side s f (Ok hello) live is = not_ended_lem (IsFrameEnd (HelloFrom side) f.at) s.ended live
hello_end_lem side s f (Err reason) live is = (refl, hello_frame_reason side reason is)

pub frames_end_for_these : FramesEndForThese
frames_end_for_these s (HelloFrom Initiator) frame live = hello_end_lem Initiator s (next_frame s frame) (hello_of Initiator frame) live (reason_of_hello Initiator frame)
frames_end_for_these s (HelloFrom Responder) frame live =
    hello_from (λ t. IfSome t.ended (IsFrameEnd (HelloFrom Responder) s.place)) Responder (next_frame s frame) (hello_of Responder frame) s
    (hello_end_lem Responder s (next_frame s frame) (hello_of Responder frame) live (reason_of_hello Responder frame)) (refl, inr refl)
frames_end_for_these s Fpdu frame live = fpdu_end s (next_frame s frame) (next_segment s frame) live (fpdu_reason s frame)

-- ---- The reasons of `stop` are others

no_hello_stops : (reason : ℕ) → IsHelloReason reason → IsStopReason reason → ⊥
no_hello_stops reason (low, high) (inl is) = omega (arith, high, is)
no_hello_stops reason (low, high) (inr (inl is)) = omega (arith, high, is)
no_hello_stops reason (low, high) (inr (inr (inl is))) = omega (arith, high, is)
no_hello_stops reason (low, high) (inr (inr (inr (inl is)))) = omega (arith, high, is)
no_hello_stops reason (low, high) (inr (inr (inr (inr (inl is))))) = omega (arith, high, is)
no_hello_stops reason (low, high) (inr (inr (inr (inr (inr (inl is)))))) = omega (arith, high, is)
no_hello_stops reason (low, high) (inr (inr (inr (inr (inr (inr (inl is))))))) = omega (arith, high, is)
no_hello_stops reason (low, high) (inr (inr (inr (inr (inr (inr (inr (inl is)))))))) = omega (arith, high, is)
no_hello_stops reason (low, high) (inr (inr (inr (inr (inr (inr (inr (inr is)))))))) = omega (arith, high, is)

pub no_sizes_stop : (reason : ℕ) → reason ≡ REASON_SIZES → IsStopReason reason → ⊥
no_sizes_stop reason same (inl is) = omega (arith, same, is)
no_sizes_stop reason same (inr (inl is)) = omega (arith, same, is)
no_sizes_stop reason same (inr (inr (inl is))) = omega (arith, same, is)
no_sizes_stop reason same (inr (inr (inr (inl is)))) = omega (arith, same, is)
no_sizes_stop reason same (inr (inr (inr (inr (inl is))))) = omega (arith, same, is)
no_sizes_stop reason same (inr (inr (inr (inr (inr (inl is)))))) = omega (arith, same, is)
no_sizes_stop reason same (inr (inr (inr (inr (inr (inr (inl is))))))) = omega (arith, same, is)
no_sizes_stop reason same (inr (inr (inr (inr (inr (inr (inr (inl is)))))))) = omega (arith, same, is)
no_sizes_stop reason same (inr (inr (inr (inr (inr (inr (inr (inr is)))))))) = omega (arith, same, is)

pub no_frame_stops : NoFrameStops
no_frame_stops (HelloFrom Initiator) reason is stops = no_hello_stops reason is stops
no_frame_stops (HelloFrom Responder) reason (inl is) stops = no_hello_stops reason is stops
no_frame_stops (HelloFrom Responder) reason (inr is) stops = no_sizes_stop reason is stops
no_frame_stops Fpdu reason (inl (low, high)) (inl is) = omega (arith, high, is)
no_frame_stops Fpdu reason (inl (low, high)) (inr (inl is)) = omega (arith, high, is)
no_frame_stops Fpdu reason (inl (low, high)) (inr (inr (inl is))) = omega (arith, high, is)
no_frame_stops Fpdu reason (inl (low, high)) (inr (inr (inr (inl is)))) = omega (arith, high, is)
no_frame_stops Fpdu reason (inl (low, high)) (inr (inr (inr (inr (inl is))))) = omega (arith, high, is)
no_frame_stops Fpdu reason (inl (low, high)) (inr (inr (inr (inr (inr (inl is)))))) = omega (arith, high, is)
no_frame_stops Fpdu reason (inl (low, high)) (inr (inr (inr (inr (inr (inr (inl is))))))) = omega (arith, high, is)
no_frame_stops Fpdu reason (inl (low, high)) (inr (inr (inr (inr (inr (inr (inr (inl is)))))))) = omega (arith, high, is)
no_frame_stops Fpdu reason (inl (low, high)) (inr (inr (inr (inr (inr (inr (inr (inr is)))))))) = omega (arith, high, is)
no_frame_stops Fpdu reason (inr long) (inl is) = omega (arith, long, is)
no_frame_stops Fpdu reason (inr long) (inr (inl is)) = omega (arith, long, is)
no_frame_stops Fpdu reason (inr long) (inr (inr (inl is))) = omega (arith, long, is)
no_frame_stops Fpdu reason (inr long) (inr (inr (inr (inl is)))) = omega (arith, long, is)
no_frame_stops Fpdu reason (inr long) (inr (inr (inr (inr (inl is))))) = omega (arith, long, is)
no_frame_stops Fpdu reason (inr long) (inr (inr (inr (inr (inr (inl is)))))) = omega (arith, long, is)
no_frame_stops Fpdu reason (inr long) (inr (inr (inr (inr (inr (inr (inl is))))))) = omega (arith, long, is)
no_frame_stops Fpdu reason (inr long) (inr (inr (inr (inr (inr (inr (inr (inl is)))))))) = omega (arith, long, is)
no_frame_stops Fpdu reason (inr long) (inr (inr (inr (inr (inr (inr (inr (inr is)))))))) = omega (arith, long, is)

-- ---- What makes an End

abbrev HasCause : List Call → End → Type 0
HasCause calls (ends.Bad at reason) = ((a : Awaited) × IsFrameReason a reason) ⊎ Contains calls (Stop reason)
HasCause calls (ends.Denied stag offset why) = Unit {0}
HasCause calls (ends.NoBuffer msn) = Unit {0}
HasCause calls (ends.Terminated reason) = Unit {0}
HasCause calls ends.Memory = Contains calls OutOfMemory

abbrev Caused : List Call → Awaited → LinkState → Type 0
Caused calls a s = IfSome s.ended (HasCause calls)

cause_stays : (calls others : List Call) (end : End) → HasCause calls end → HasCause (calls ++ others) end
cause_stays calls others (ends.Bad at reason) (inl frame) = inl frame
cause_stays calls others (ends.Bad at reason) (inr stop) = inr (Contains-append_left calls others (Stop reason) stop)
cause_stays calls others (ends.Denied stag offset why) is = tt
cause_stays calls others (ends.NoBuffer msn) is = tt
cause_stays calls others (ends.Terminated reason) is = tt
cause_stays calls others ends.Memory is = Contains-append_left calls others OutOfMemory is

caused_stays : (calls others : List Call) (e : Option End) → IfSome e (HasCause calls) → IfSome e (HasCause (calls ++ others))
caused_stays calls others None is = tt
caused_stays calls others (Some end) is = cause_stays calls others end is

frame_cause : (calls : List Call) (a : Awaited) (place : ℕ) (end : End) → IsFrameEnd a place end → HasCause calls end
frame_cause calls a place (ends.Bad at reason) is = inl (a, is.1)
frame_cause calls a place (ends.Denied stag offset why) is = tt
frame_cause calls a place (ends.NoBuffer msn) is = tt
frame_cause calls a place (ends.Terminated reason) is = tt
frame_cause calls a place ends.Memory is = absurd is

some_cause : (calls : List Call) (a : Awaited) (place : ℕ) (e : Option End) → IfSome e (IsFrameEnd a place) → IfSome e (HasCause calls)
some_cause calls a place None is = tt
some_cause calls a place (Some end) is = frame_cause calls a place end is

no_end : (e : Option End) → is_some e ≡ false → e ≡ None
no_end None is = refl
no_end (Some end) is = absurd cc

frame_caused : (calls : List Call) (a : Awaited) (s : LinkState) (frame : List ℕ) → has_ended s ≡ false → Caused calls a s → Caused calls Fpdu (with_frame s a frame)
frame_caused calls a s frame live is = some_cause calls a s.place (with_frame s a frame).ended (frames_end_for_these s a frame (no_end s.ended live))

unless_caused : (calls : List Call) (s after : LinkState) (b : Bool) → after.ended ≡ s.ended → IfSome s.ended (HasCause calls) → IfSome (cond b s after).ended (HasCause calls)
unless_caused calls s after true same is = is
unless_caused calls s after false same is = subst (λ (e : Option End). IfSome e (HasCause calls)) (sym same) is

ended_caused : (calls : List Call) (s after : LinkState) (b : Bool) → IfSome s.ended (HasCause calls) → IfSome after.ended (HasCause calls) → IfSome (cond b s after).ended (HasCause calls)
ended_caused calls s after true is then = is
ended_caused calls s after false is then = then

call_caused : (done : List Call) (link : LinkSide) (call : Call) → IfSome link.state.ended (HasCause done) → IfSome (after_call link call).state.ended (HasCause (done ++ call ∷ []))
unfolding after_call
call_caused done link (Feed piece) is =
    feed_keeps (Caused (done ++ Feed piece ∷ [])) (frame_caused (done ++ Feed piece ∷ [])) link piece (caused_stays done (Feed piece ∷ []) link.state.ended is)
call_caused done link (FeedOne piece) is =
    feed_one_keeps (Caused (done ++ FeedOne piece ∷ [])) (frame_caused (done ++ FeedOne piece ∷ [])) link piece (caused_stays done (FeedOne piece ∷ []) link.state.ended is)
call_caused done link NextEvent is = caused_stays done (NextEvent ∷ []) link.state.ended is
call_caused done link Post is = caused_stays done (Post ∷ []) link.state.ended is
call_caused done link (Stop reason) is = ended_caused (done ++ Stop reason ∷ []) link.state _ (has_ended link.state) (caused_stays done (Stop reason ∷ []) link.state.ended is) (inr (Contains-push done (Stop reason)))
call_caused done link OutOfMemory is = ended_caused (done ++ OutOfMemory ∷ []) link.state _ (has_ended link.state) (caused_stays done (OutOfMemory ∷ []) link.state.ended is) (Contains-push done OutOfMemory)
call_caused done link (Send message) is = unless_caused (done ++ Send message ∷ []) link.state _ (has_ended link.state) refl (caused_stays done (Send message ∷ []) link.state.ended is)
call_caused done link (SendInvalidate stag message) is =
    unless_caused (done ++ SendInvalidate stag message ∷ []) link.state _ (has_ended link.state) refl (caused_stays done (SendInvalidate stag message ∷ []) link.state.ended is)
call_caused done link (Hold message) is = unless_caused (done ++ Hold message ∷ []) link.state _ (has_ended link.state) refl (caused_stays done (Hold message ∷ []) link.state.ended is)
call_caused done link (SendHeld message) is = unless_caused (done ++ SendHeld message ∷ []) link.state _ (has_ended link.state) refl (caused_stays done (SendHeld message ∷ []) link.state.ended is)
call_caused done link (WriteRemote stag to bytes) is = unless_caused (done ++ WriteRemote stag to bytes ∷ []) link.state _ (has_ended link.state) refl (caused_stays done (WriteRemote stag to bytes ∷ []) link.state.ended is)
call_caused done link (ReadRemote sink at stag to len) is =
    unless_caused (done ++ ReadRemote sink at stag to len ∷ []) link.state _ (has_ended link.state) refl (caused_stays done (ReadRemote sink at stag to len ∷ []) link.state.ended is)
call_caused done link (Drain count) is = caused_stays done (Drain count ∷ []) link.state.ended is
call_caused done link (Register buf right) is = caused_stays done (Register buf right ∷ []) link.state.ended is
call_caused done link (Release stag) is = caused_stays done (Release stag ∷ []) link.state.ended is
call_caused done link (Invalidate stag) is = caused_stays done (Invalidate stag ∷ []) link.state.ended is

calls_caused : (done : List Call) (link : LinkSide) (calls : List Call) → IfSome link.state.ended (HasCause done) → IfSome (after_calls link calls).state.ended (HasCause (done ++ calls))
unfolding after_calls
calls_caused done link [] is = subst (λ (all : List Call). IfSome link.state.ended (HasCause all)) (sym (append-nil done)) is
calls_caused done link (call ∷ calls) is =
    subst (λ (all : List Call). IfSome (after_calls (after_call link call) calls).state.ended (HasCause all)) (append_assoc done (call ∷ []) calls)
    (calls_caused (done ++ call ∷ []) (after_call link call) calls (call_caused done link call is))

initial_live : (side : Side) (receives first_stag : ℕ) (terms : SideTerms) (earlier : Option Agreement) → (initial_link side receives first_stag terms earlier).state.ended ≡ None
unfolding initial_link
initial_live side receives first_stag terms earlier = refl

cause_of_lem : (side : Side) (receives first_stag : ℕ) (terms : SideTerms) (earlier : Option Agreement) (calls : List Call) (end : End) → (after_calls (initial_link side receives first_stag terms earlier) calls).state.ended ≡ Some end → HasCause calls end
cause_of_lem side receives first_stag terms earlier calls end is =
    let start : LinkSide = initial_link side receives first_stag terms earlier in
    subst (λ (e : Option End). IfSome e (HasCause calls)) is (calls_caused [] start calls (not_ended_lem (HasCause []) start.state.ended (initial_live side receives first_stag terms earlier)))

stopped : (calls : List Call) (reason : ℕ) → ((a : Awaited) × IsFrameReason a reason) ⊎ Contains calls (Stop reason) → IsStopReason reason → Contains calls (Stop reason)
stopped calls reason (inl frame) stops = absurd (no_frame_stops frame.0 reason frame.1 stops)
stopped calls reason (inr stop) stops = stop

pub others_come_from_stop : OthersComeFromStop
others_come_from_stop side receives first_stag terms earlier calls at reason is stops = stopped calls reason (cause_of_lem side receives first_stag terms earlier calls (ends.Bad at reason) is) stops

pub memory_comes_from_out_of_memory : MemoryComesFromOutOfMemory
memory_comes_from_out_of_memory side receives first_stag terms earlier calls is = cause_of_lem side receives first_stag terms earlier calls ends.Memory is
