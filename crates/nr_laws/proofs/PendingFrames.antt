-- Pending calls and sinks after each frame at a server.
use Rattle.std.proofs.Common.{◌≡◌, ℕ, ◌-◌, ◌≤◌, Bool, true, false, not, cond, ◌&&◌, eqb, List, [], ◌∷◌, ◌++◌, length, take, drop, Option, None, Some, Ok, refl, sym, ap, subst, ◌∙◌, arith, append-nil}
use Rattle.nr_wire.specs.Constants.{OPCODE_READ_RESPONSE}
use Rattle.nr_wire.specs.Segment.{Segment}
use Rattle.nr_wire.specs.Segment.Segment.{Tagged}
use Rattle.nr_reduce.specs.declared.mark.LinkParameters.{LinkParameters}
use Rattle.nr_reduce.specs.Chunks.{is_read_chunk_of_item}
use Rattle.nr_link.specs.Frames.{Frame}
use Rattle.nr_link.specs.ReceiveState.{begun_bytes}
use Rattle.nr_link.specs.Ending.{frame_segment}
use Rattle.nr_reduce.specs.OfferedRegions.{Region}
use Rattle.nr_reduce.specs.Events.RunEvent.{FrameReceived}
use Rattle.nr_reduce.specs.ServerState.{ServerState, PendingCall, PendingRead}
use Rattle.nr_reduce.specs.ServerFrames.{FrameEffect, frame_effect, effect_in, message_effect, no_effect, response_effect, read_effect, with_refused_call, ready_if_whole, with_verdict, call_of_number, with_access, is_stream_read}
use Rattle.nr_reduce.specs.ServerMessages.{Verdict, CallVerdict, verdict, by_payload, pending_payload, chunk_bytes}
use Rattle.nr_reduce.specs.ServerReads.{open_reads, regions_of, reads_of}
use Rattle.nr_reduce.specs.Server.{server_state_after}
use Rattle.nr_reduce.specs.ServerMessages.Verdict.{EndsLink, OtherVersion, BadChunks, MakesPending}
use Rattle.nr_reduce.specs.ServerMessages.CallVerdict.{Refuses, IsReady}
use Rattle.nr_laws.proofs.FrameContents.{Carries, SentMessage, part_segment, last_segment}
use Rattle.nr_laws.proofs.FrameContents.FrameContent.{PartFrame, SendFrame, TaggedFrame}
use Rattle.nr_laws.proofs.LinkInvariants.{PendingAgree, HaveSinks}
use Rattle.nr_laws.proofs.TotalsAtServer.{after_is_lem, step_is, with_by}
use Rattle.nr_laws.proofs.PendingSends.{AfterEffect, pending_agree_message, pending_agree_same, verdict_new}
use Rattle.nr_laws.proofs.PendingExecuted.{pending_agree_read}
use Rattle.nr_laws.proofs.Sinks.{sink_later, sinks_closed, sinks_more, sinks_append, sinks_taken, sinks_dropped, sinks_kept}
use Rattle.nr_laws.proofs.NewSinks.{AreKnown, sinks_opened}
use Rattle.nr_laws.proofs.EachEffect.{whole_rule}
use Rattle.nr_laws.proofs.ReadContents.{segment_is}

pub pending_agree_send_up : (opened : LinkParameters) (s : ServerState) (f : Frame) (message : SentMessage) → PendingAgree s → Carries false s.received.sends s.received.requests f (SendFrame message) → (frame_effect s f).refusal ≡ None → PendingAgree (server_state_after opened s (FrameReceived f))
pending_agree_send_up opened s f message w p goes_on =
    let segment : Segment = last_segment s.received.sends message in
    let is : frame_segment f ≡ Ok segment = segment_is s.received.sends s.received.requests f (SendFrame message) segment p refl in
    let whole : List ℕ = begun_bytes s.received.begun ++ message.payload in
    let st = effect_in s f (Ok segment) in
    let unended : st.refusal ≡ None = ap (λ (x : FrameEffect). x.refusal) (sym (step_is s f (Ok segment) is)) ∙ goes_on in
    let t = with_by s f (Ok segment) st in
    subst (λ (t2 : ServerState). PendingAgree t2) (sym (after_is_lem opened s f (Ok segment) p.behind is))
    (pending_agree_message s t f.end whole (verdict s whole) refl w (record { sends_are = refl; calls = refl; reads = refl; ready = refl }) unended)

-- a segment of a Send that isn't its last
pub pending_agree_part_up : (opened : LinkParameters) (s : ServerState) (f : Frame) (named : Bool) (offset : ℕ) (payload : List ℕ) → PendingAgree s → Carries false s.received.sends s.received.requests f (PartFrame named offset payload) → PendingAgree (server_state_after opened s (FrameReceived f))
pending_agree_part_up opened s f named offset payload w p =
    let segment : Segment = part_segment s.received.sends offset payload in
    let is : frame_segment f ≡ Ok segment = segment_is s.received.sends s.received.requests f (PartFrame named offset payload) segment p refl in
    let t = with_by s f (Ok segment) (effect_in s f (Ok segment)) in
    subst (λ (t2 : ServerState). PendingAgree t2) (sym (after_is_lem opened s f (Ok segment) p.behind is))
    (pending_agree_same s t w refl refl (append-nil s.ready) (omega arith))

pending_agree_response : (s t : ServerState) (f : Frame) (segment : Segment) (reads : List PendingRead) → s.reads ≡ reads → PendingAgree s → AfterEffect s t (response_effect (with_access s f segment) f.end reads) 0
    → (response_effect (with_access s f segment) f.end reads).refusal ≡ None → PendingAgree t
pending_agree_response s t f segment [] is w b goes_on = pending_agree_same s t w b.calls b.reads (b.ready ∙ append-nil s.ready) (omega (arith, b.sends_are))
pending_agree_response s t f segment (r ∷ others) is w b goes_on =
    let k = with_access s f segment in
    pending_agree_read s t k f.end r others (call_of_number k r.number) (record (no_effect k) { reads = others; kept = length (open_reads k) - 1 }) w is refl refl refl refl b goes_on

pub pending_agree_tagged_up : (opened : LinkParameters) (s : ServerState) (f : Frame) (last : Bool) (opcode stag to : ℕ) (payload : List ℕ) → PendingAgree s → Carries false s.received.sends s.received.requests f (TaggedFrame last opcode stag to payload) → (frame_effect s f).refusal ≡ None
    → PendingAgree (server_state_after opened s (FrameReceived f))
pending_agree_tagged_up opened s f last opcode stag to payload w p goes_on =
    let segment : Segment = Tagged last opcode stag to payload in
    let is : frame_segment f ≡ Ok segment = segment_is s.received.sends s.received.requests f (TaggedFrame last opcode stag to payload) segment p refl in
    subst (λ (t2 : ServerState). PendingAgree t2) (sym (after_is_lem opened s f (Ok segment) p.behind is))
    (by (eqb opcode OPCODE_READ_RESPONSE && last) (with_by s f (Ok segment) (effect_in s f (Ok segment)))
    (record { sends_are = omega arith; calls = refl; reads = refl; ready = refl })
    (ap (λ (x : FrameEffect). x.refusal) (sym (step_is s f (Ok segment) is)) ∙ goes_on))
  where
    k : ServerState
    k = with_access s f (Tagged last opcode stag to payload)

    by : (b : Bool) (t : ServerState) → AfterEffect s t (cond b (response_effect k f.end s.reads) (no_effect k)) 0 → (cond b (response_effect k f.end s.reads) (no_effect k)).refusal ≡ None → PendingAgree t
    by true t b goes_on = pending_agree_response s t f (Tagged last opcode stag to payload) s.reads refl w b goes_on
    by false t b goes_on = pending_agree_same s t w b.calls b.reads (b.ready ∙ append-nil s.ready) (omega (arith, b.sends_are))

-- ---- Sinks

-- a step leaves its reads with sinks
abbrev StepSinks : ℕ → FrameEffect → Type 0
StepSinks place st = HaveSinks place st.regions st.reads

ready_sinks : (place : ℕ) (st : FrameEffect) (o : CallVerdict) → StepSinks place st → StepSinks place (with_verdict o st)
ready_sinks place st (Refuses reason) h = h
ready_sinks place st (IsReady x) h = h

whole_sinks : (k : ServerState) (place : ℕ) (c : PendingCall) (st : FrameEffect) (at : ℕ) → StepSinks at st → StepSinks at (ready_if_whole k place c st)
whole_sinks k place c st at h = whole_rule (StepSinks at) k place c st (λ g. ready_sinks at st (by_payload c (pending_payload k place c)) g) h

message_sinks : (k : ServerState) (place : ℕ) (message : List ℕ) (v : Verdict) → verdict k message ≡ v → AreKnown k → HaveSinks place k.regions k.reads → StepSinks place (message_effect k place message v)
message_sinks k place message (EndsLink reason) is a h = h
message_sinks k place message OtherVersion is a h = h
message_sinks k place message BadChunks is a h = h
message_sinks k place message (MakesPending c) is a h =
    let new = verdict_new k message c is in
    let regions = k.regions ++ regions_of k place c in
    whole_sinks k place c _ place (sinks_append place regions k.reads (reads_of regions c) (sinks_more place k.regions (regions_of k place c) k.reads h) (sinks_opened k place c a new.0.number))

read_sinks : (k : ServerState) (place : ℕ) (r : PendingRead) (o : Option PendingCall) (st : FrameEffect) (at : ℕ) → StepSinks at st → StepSinks at (read_effect k place r o st)
read_sinks k place r None st at h = h
read_sinks k place r (Some c) st at h = by (is_stream_read c r st.reads && not (is_read_chunk_of_item (chunk_bytes k place c 0) c.lists.read))
  where
    by : (b : Bool) → StepSinks at (cond b (with_refused_call k c st) (ready_if_whole k place c st))
    by true = sinks_append at st.regions (take st.kept st.reads) _ (sinks_taken at st.kept st.regions st.reads h)
        (sinks_kept at (λ (x : PendingRead). not (eqb x.number c.number)) st.regions (drop st.kept st.reads) (sinks_dropped at st.kept st.regions st.reads h))
    by false = whole_sinks k place c st at h

response_sinks : (k : ServerState) (place : ℕ) (reads : List PendingRead) (at : ℕ) → k.reads ≡ reads → HaveSinks at k.regions k.reads → StepSinks at (response_effect k place reads)
response_sinks k place [] at is h = h
response_sinks k place (r ∷ others) at is h =
    read_sinks k place r (call_of_number k r.number) (record (no_effect k) { reads = others; kept = length (open_reads k) - 1 }) at (subst (λ (rs : List PendingRead). HaveSinks at k.regions rs) is h).1

pub later_sinks : (place at : ℕ) (regions : List Region) (reads : List PendingRead) → place ≤ at → HaveSinks place regions reads → HaveSinks at regions reads
later_sinks place at regions [] le h = tt
later_sinks place at regions (r ∷ reads) le h = (sink_later place at r regions le h.0, later_sinks place at regions reads le h.1)

pub sinks_send_up : (opened : LinkParameters) (s : ServerState) (f : Frame) (place : ℕ) (message : SentMessage) → AreKnown s → HaveSinks place s.regions s.reads → place ≤ f.end → Carries false s.received.sends s.received.requests f (SendFrame message)
    → HaveSinks f.end (server_state_after opened s (FrameReceived f)).regions (server_state_after opened s (FrameReceived f)).reads
sinks_send_up opened s f place message a h le p =
    let segment : Segment = last_segment s.received.sends message in
    let is : frame_segment f ≡ Ok segment = segment_is s.received.sends s.received.requests f (SendFrame message) segment p refl in
    let whole : List ℕ = begun_bytes s.received.begun ++ message.payload in
    let st = effect_in s f (Ok segment) in
    subst (λ (t : ServerState). HaveSinks f.end t.regions t.reads) (sym (after_is_lem opened s f (Ok segment) p.behind is))
    (sinks_closed f.end f.end st.calls st.reads st.regions (omega arith) (message_sinks s f.end whole (verdict s whole) refl a (later_sinks place f.end s.regions s.reads le h)))

pub sinks_part_up : (opened : LinkParameters) (s : ServerState) (f : Frame) (place : ℕ) (named : Bool) (offset : ℕ) (payload : List ℕ) → HaveSinks place s.regions s.reads → place ≤ f.end → Carries false s.received.sends s.received.requests f (PartFrame named offset payload)
    → HaveSinks f.end (server_state_after opened s (FrameReceived f)).regions (server_state_after opened s (FrameReceived f)).reads
sinks_part_up opened s f place named offset payload h le p =
    let segment : Segment = part_segment s.received.sends offset payload in
    let is : frame_segment f ≡ Ok segment = segment_is s.received.sends s.received.requests f (PartFrame named offset payload) segment p refl in
    let st = effect_in s f (Ok segment) in
    subst (λ (t : ServerState). HaveSinks f.end t.regions t.reads) (sym (after_is_lem opened s f (Ok segment) p.behind is))
    (sinks_closed f.end f.end st.calls st.reads st.regions (omega arith) (later_sinks place f.end s.regions s.reads le h))

pub sinks_tagged_up : (opened : LinkParameters) (s : ServerState) (f : Frame) (place : ℕ) (last : Bool) (opcode stag to : ℕ) (payload : List ℕ) → HaveSinks place s.regions s.reads → place ≤ f.end
    → Carries false s.received.sends s.received.requests f (TaggedFrame last opcode stag to payload) → HaveSinks f.end (server_state_after opened s (FrameReceived f)).regions (server_state_after opened s (FrameReceived f)).reads
sinks_tagged_up opened s f place last opcode stag to payload h le p =
    let segment : Segment = Tagged last opcode stag to payload in
    let is : frame_segment f ≡ Ok segment = segment_is s.received.sends s.received.requests f (TaggedFrame last opcode stag to payload) segment p refl in
    let st = effect_in s f (Ok segment) in
    subst (λ (t : ServerState). HaveSinks f.end t.regions t.reads) (sym (after_is_lem opened s f (Ok segment) p.behind is))
    (sinks_closed f.end f.end st.calls st.reads st.regions (omega arith) (by (eqb opcode OPCODE_READ_RESPONSE && last)))
  where
    k : ServerState
    k = with_access s f (Tagged last opcode stag to payload)

    by : (b : Bool) → StepSinks f.end (cond b (response_effect k f.end s.reads) (no_effect k))
    by true = response_sinks k f.end s.reads f.end refl (later_sinks place f.end s.regions s.reads le h)
    by false = later_sinks place f.end s.regions s.reads le h
