-- All regions of a server are sinks: it offers nothing to be read.
use Rattle.std.proofs.Common.{◌≡◌, ℕ, suc, ◌+◌, ◌<◌, Bool, true, false, cond, ◌&&◌, eqb, List, [], ◌∷◌, ◌++◌, length, Option, Some, None, Result, Ok, Err, refl, sym, ap, ◌∙◌, arith}
use Rattle.std.specs.Prelude.{map}
use Rattle.nr_wire.specs.Segment.{Segment}
use Rattle.nr_wire.specs.Segment.Segment.{Tagged, Untagged}
use Rattle.nr_header.specs.declared.header.ChunkLists.{ChunkLists}
use Rattle.nr_regions.specs.Access.{Grant}
use Rattle.nr_regions.specs.declared.right.Right.TheVariants.{Fetch}
use Rattle.nr_link.specs.Frames.{Frame, is_hello}
use Rattle.nr_link.specs.Ending.{frame_segment}
use Rattle.nr_link.specs.ReceiveState.{message_completed}
use Rattle.nr_reduce.specs.declared.mark.LinkParameters.{LinkParameters}
use Rattle.nr_reduce.specs.OfferedRegions.{Region, region_grant, region_grants, closed_if, regions_closed}
use Rattle.nr_reduce.specs.Events.{RunEvent}
use Rattle.nr_reduce.specs.Events.RunEvent.{FrameReceived, CallSubmitted, MemoryRevoked, CallExecuted, QueueWritten, ServerTold}
use Rattle.nr_reduce.specs.EndRules.{EndState, end_state_after}
use Rattle.nr_reduce.specs.ServerState.{ServerState, PendingCall, PendingRead, next_stag}
use Rattle.nr_reduce.specs.ServerReads.{regions_from, regions_of, chunks_of, is_read, is_over}
use Rattle.nr_reduce.specs.ServerMessages.{Verdict, CallVerdict, verdict, by_payload, pending_payload}
use Rattle.nr_reduce.specs.ServerMessages.Verdict.{EndsLink, OtherVersion, BadChunks, MakesPending}
use Rattle.nr_reduce.specs.ServerMessages.CallVerdict.{Refuses, IsReady}
use Rattle.nr_reduce.specs.ServerFrames.{FrameEffect, no_effect, with_verdict, ready_if_whole, message_effect, with_refused_call, read_effect, call_of_number, response_effect, by_message, with_access, effect_in, frame_effect}
use Rattle.nr_reduce.specs.Server.{server_rules, server_state_after, initial_server, with_effect, with_own_hello}
use Rattle.nr_reduce.specs.Run.{server}
use Rattle.std.specs.Prelude.{slice_index_or}
use Rattle.nr_regions.specs.declared.right.Right.TheVariants as rights
use Rattle.nr_regions.specs.Access.{Allowed}
use Rattle.nr_regions.specs.RegisteredMemory.{Access}
use Rattle.nr_reduce.proofs.OwnStags.{kept_after}
use Rattle.nr_laws.specs.Touches.{StopsAt, ServerRefusesRequests}
use Rattle.nr_laws.proofs.Touched.{server_touched}
use Rattle.nr_laws.proofs.AllowedBytes.{request_access}
use Rattle.std.proofs.Common.{inl, inr, ◌⊎◌, zero}

abbrev AreSinks : List Region → Type 0
AreSinks [] = Unit {0}
AreSinks (r ∷ regions) = (r.right ≡ rights.Sink) × AreSinks regions

sinks_append : (xs ys : List Region) → AreSinks xs → AreSinks ys → AreSinks (xs ++ ys)
sinks_append [] ys h k = k
sinks_append (x ∷ xs) ys h k = (h.0, sinks_append xs ys h.1 k)

closed_right : (b : Bool) (place : ℕ) (r : Region) → (closed_if b place r).right ≡ r.right
closed_right true place r = refl
closed_right false place r = refl

sinks_closed : (test : Region → Bool) (place : ℕ) (regions : List Region) → AreSinks regions → AreSinks (regions_closed test place regions)
unfolding regions_closed
sinks_closed test place [] h = tt
sinks_closed test place (r ∷ regions) h = (closed_right (test r) place r ∙ h.0, sinks_closed test place regions h.1)

sinks_from : (number place stag : ℕ) (lists : ChunkLists) (ps : List ℕ) → AreSinks (regions_from number place stag lists ps)
sinks_from number place stag lists [] = tt
sinks_from number place stag lists (p ∷ ps) = (refl, sinks_from number place (stag + 1) lists ps)

effect_if : (b : Bool) (s t : FrameEffect) → AreSinks s.regions → AreSinks t.regions → AreSinks (cond b s t).regions
effect_if true s t h g = h
effect_if false s t h g = g

effect_verdict : (v : CallVerdict) (s : FrameEffect) → AreSinks s.regions → AreSinks (with_verdict v s).regions
effect_verdict (Refuses reason) s h = h
effect_verdict (IsReady r) s h = h

effect_whole : (k : ServerState) (place : ℕ) (c : PendingCall) (s : FrameEffect) → AreSinks s.regions → AreSinks (ready_if_whole k place c s).regions
effect_whole k place c s h = effect_if (is_read s.reads c.number) _ s (effect_verdict (by_payload c (pending_payload k place c)) s h) h

effect_message : (k : ServerState) (place : ℕ) (message : List ℕ) (v : Verdict) → AreSinks k.regions → AreSinks (message_effect k place message v).regions
effect_message k place message (EndsLink reason) h = h
effect_message k place message OtherVersion h = h
effect_message k place message BadChunks h = h
effect_message k place message (MakesPending c) h =
    effect_whole k place c _ (sinks_append k.regions (regions_of k place c) h (sinks_from c.number place (next_stag k) c.lists (chunks_of c.lists)))

effect_read : (k : ServerState) (place : ℕ) (r : PendingRead) (o : Option PendingCall) (s : FrameEffect) → AreSinks s.regions → AreSinks (read_effect k place r o s).regions
effect_read k place r None s h = h
effect_read k place r (Some c) s h = effect_if _ (with_refused_call k c s) (ready_if_whole k place c s) h (effect_whole k place c s h)

effect_response : (k : ServerState) (place : ℕ) (reads : List PendingRead) → AreSinks k.regions → AreSinks (response_effect k place reads).regions
effect_response k place [] h = h
effect_response k place (r ∷ reads) h = effect_read k place r (call_of_number k r.number) _ h

effect_by_message : (k : ServerState) (place : ℕ) (o : Option (List ℕ)) → AreSinks k.regions → AreSinks (by_message k place o).regions
effect_by_message k place None h = h
effect_by_message k place (Some message) h = effect_message k place message (verdict k message) h

effect_in_lem : (k : ServerState) (f : Frame) (r : Result Segment ℕ) → AreSinks k.regions → AreSinks (effect_in k f r).regions
effect_in_lem k f (Err reason) h = h
effect_in_lem k f (Ok (Tagged last opcode stag to payload)) h =
    let t : ServerState = with_access k f (Tagged last opcode stag to payload) in
    effect_if (eqb opcode 2 && last) (response_effect t f.end k.reads) (no_effect t) (effect_response t f.end k.reads h) h
effect_in_lem k f (Ok (Untagged last opcode w queue msn offset payload)) h = effect_by_message k f.end (message_completed k.received (Untagged last opcode w queue msn offset payload)) h

effect_frame : (k : ServerState) (f : Frame) → AreSinks k.regions → AreSinks (frame_effect k f).regions
unfolding frame_effect
effect_frame k f h = effect_in_lem k f (frame_segment f) h

server_after : (opened : LinkParameters) (k : ServerState) (event : RunEvent) → AreSinks k.regions → AreSinks (server_state_after opened k event).regions
unfolding server_state_after
server_after opened k (FrameReceived f) h = by (is_hello f)
  where
    by : (b : Bool) → AreSinks (cond b (with_own_hello opened k f) (with_effect k f (frame_effect k f))).regions
    by true = h
    by false = sinks_closed (is_over (frame_effect k f).calls (frame_effect k f).reads) f.end (frame_effect k f).regions (effect_frame k f h)
server_after opened k (CallSubmitted place a) h = h
server_after opened k (MemoryRevoked place xid) h = h
server_after opened k (CallExecuted e) h = h
server_after opened k (QueueWritten taken) h = h
server_after opened k (ServerTold what) h = h

sinks : (opened : LinkParameters) (es : List RunEvent) → AreSinks (end_state_after (server_rules opened) (initial_server opened) es).state.regions
sinks opened es = kept_after (server_rules opened) (λ (k : ServerState). AreSinks k.regions) (server_after opened) (initial_server opened) es tt

-- so is each grant
grant_at_lem : (place k : ℕ) (regions : List Region) (g : Grant) → AreSinks regions → k < length (map (region_grant place) regions) → slice_index_or (map (region_grant place) regions) k g ≡ g → g.right ≡ rights.Sink
grant_at_lem place k [] g h lt is = absurd (omega (arith, lt))
grant_at_lem place zero (r ∷ regions) g h lt is = ap (λ (x : Grant). x.right) (sym is) ∙ h.0
grant_at_lem place (suc k) (r ∷ regions) g h lt is = grant_at_lem place k regions g h.1 (omega (arith, lt)) is

pub server_refuses_requests : ServerRefusesRequests
unfolding region_grants
server_refuses_requests opened link run earlier later f segment request is live behind own asks =
    by (server_touched opened link run earlier later f segment access is live behind own (request_access segment request asks))
  where
    before : EndState ServerState
    before = end_state_after (server_rules opened) (initial_server opened) earlier

    access : Access
    access = record { right = Fetch; stag = request.stag; to = request.to; len = request.size }

    by : Allowed (region_grants f.end before.state.regions) access f.end ⊎ StopsAt (server_rules opened) before f (server opened link run) → StopsAt (server_rules opened) before f (server opened link run)
    by (inr stops) = stops
    by (inl a) =
        let sink : a.grant.right ≡ rights.Sink = grant_at_lem f.end a.there.0 before.state.regions a.grant (sinks opened earlier) a.there.1 a.there.2 in
        let wrong : rights.Sink ≡ Fetch = sym sink ∙ a.right in absurd cc
