-- What a server's memory holds: each tagged segment that it received was allowed, so a sink holds its bytes with them laid over.
use Rattle.std.proofs.Common.{◌≡◌, ℕ, ◌≤◌, Bool, true, false, cond, List, [], ◌++◌, Option, None, Some, Result, Ok, refl, sym, subst, ◌∙◌, arith, append-nil, inl, inr, ap}
use Rattle.nr_wire.specs.Segment.{Segment, segment_of}
use Rattle.nr_wire.specs.Segment.Segment.{Tagged, Untagged}
use Rattle.nr_regions.specs.Access.{TaggedSegment}
use Rattle.nr_link.specs.declared.end.End.{End as Stop}
use Rattle.nr_link.specs.Frames.{Frame, is_hello}
use Rattle.nr_link.specs.Ending.{frame_segment, tagged_access, missing_access}
use Rattle.nr_reduce.specs.declared.mark.LinkParameters.{LinkParameters}
use Rattle.nr_reduce.specs.declared.mark.Told.{Told}
use Rattle.nr_reduce.specs.OfferedRegions.{Region, region_grants, regions_closed}
use Rattle.nr_reduce.specs.Events.{RunEvent}
use Rattle.nr_reduce.specs.Events.RunEvent.{FrameReceived, CallSubmitted, MemoryRevoked, CallExecuted, QueueWritten, ServerTold}
use Rattle.nr_reduce.specs.EndRules.{next_end_state_by, next_end_state_in, end_state_after}
use Rattle.nr_reduce.specs.ServerState.{ServerState, PendingCall}
use Rattle.nr_reduce.specs.ServerReads.{regions_of, is_over}
use Rattle.nr_reduce.specs.ServerMessages.{CallVerdict, pending_payload, by_payload}
use Rattle.nr_reduce.specs.ServerMessages.CallVerdict.{Refuses, IsReady}
use Rattle.nr_reduce.specs.ServerFrames.{FrameEffect, with_verdict, frame_effect}
use Rattle.nr_reduce.specs.Server.{server_rules, server_end, server_state_after, initial_server, with_effect, tagged_accesses, with_own_hello}
use Rattle.nr_reduce.proofs.Touches.{server_touched}
use Rattle.nr_laws.proofs.EventOutputs.{IsNext, GoesOn, along, place_after, places_after}
use Rattle.nr_laws.proofs.ReadFrames.{server_read}
use Rattle.nr_laws.proofs.Memory.{Gathering, Settled, settled_later, settled_closed, settled_append, settled_more}
use Rattle.nr_laws.proofs.ServerAlong.{ServerGood}
use Rattle.nr_laws.proofs.EachEffect.{each_effect}

-- ---- The regions of a frame are those before, and new ones after them

record HasNew (old : List Region) (s : FrameEffect) : Type 0 where
  new : List Region
  is : s.regions ≡ old ++ new

none_new : (old : List Region) (s : FrameEffect) → s.regions ≡ old → HasNew old s
none_new old s e = record { new = []; is = e ∙ sym (append-nil old) }

new_verdict : (old : List Region) (v : CallVerdict) (s : FrameEffect) → HasNew old s → HasNew old (with_verdict v s)
new_verdict old (Refuses reason) s h = record { new = h.new; is = h.is }
new_verdict old (IsReady r) s h = record { new = h.new; is = h.is }

new_effect : (k : ServerState) (f : Frame) → HasNew k.regions (frame_effect k f)
new_effect k f =
    each_effect k (λ m. Unit {0}) (HasNew k.regions) (record {
      judged = judged;
      ends = λ message reason good is. none_new k.regions _ refl;
      version = λ message good. none_new k.regions _ refl;
      chunks = λ message good. none_new k.regions _ refl;
      pending = λ place message c good is. record { new = regions_of k place c; is = refl };
    }) (record { unchanged = none_new k.regions _ refl; judged = judged; read = λ r reads is. none_new k.regions _ refl; refused = λ r reads c is found. none_new k.regions _ refl }) f (λ s m is e. tt)
  where
    judged : (t : ServerState) (place : ℕ) (c : PendingCall) (s : FrameEffect) → HasNew k.regions s → HasNew k.regions (with_verdict (by_payload c (pending_payload t place c)) s)
    judged t place c s h = new_verdict k.regions (by_payload c (pending_payload t place c)) s h

-- ---- Each access was allowed

access_settled : (k : ServerState) (f : Frame) (s : Segment) → missing_access (region_grants f.end k.regions) f s ≡ None → Settled f.end k.regions (tagged_access f s)
access_settled k f (Tagged last opcode stag to payload) none = (omega arith, none, tt)
access_settled k f (Untagged last opcode w queue msn offset payload) none = tt

-- with the access of a frame that is allowed, by the regions before it
pub accesses_settled : (place : ℕ) (k : ServerState) (f : Frame) (s : Segment) → place ≤ f.end → missing_access (region_grants f.end k.regions) f s ≡ None → Settled place k.regions k.accesses_received
    → Settled f.end k.regions (k.accesses_received ++ tagged_access f s)
accesses_settled place k f s le none h =
    settled_more f.end k.regions k.accesses_received (tagged_access f s) (settled_later place f.end k.regions k.accesses_received le h) (access_settled k f s none)

segment_settled : (opened : LinkParameters) (place : ℕ) (k : ServerState) (f : Frame) (s : Segment) → place ≤ f.end → is_hello f ≡ false → frame_segment f ≡ Ok s → server_end opened k (FrameReceived f) ≡ None → Settled place k.regions k.accesses_received
    → Settled f.end (with_effect k f (frame_effect k f)).regions (with_effect k f (frame_effect k f)).accesses_received
segment_settled opened place k f s le behind is stays h =
    let e : FrameEffect = frame_effect k f in
    let n : HasNew k.regions e = new_effect k f in
    let all : List TaggedSegment = k.accesses_received ++ tagged_access f s in
    subst (λ (r : Result Segment ℕ). Settled f.end (regions_closed (is_over e.calls e.reads) f.end e.regions) (k.accesses_received ++ tagged_accesses f r)) (sym is)
    (settled_closed (is_over e.calls e.reads) f.end f.end e.regions all (omega arith)
    (subst (λ (rs : List Region). Settled f.end rs all) (sym n.is) (settled_append f.end k.regions n.new all (accesses_settled place k f s le (server_touched opened k f s behind is stays) h))))

frame_settled : (opened : LinkParameters) (place : ℕ) (k : ServerState) (f : Frame) → IsNext place (FrameReceived f) → ServerGood (record { state = k; ended = None }) (FrameReceived f) → Settled place k.regions k.accesses_received
    → (o : Option Stop) → server_end opened k (FrameReceived f) ≡ o → Settled f.end (next_end_state_by (server_rules opened) k (FrameReceived f) o).state.regions (next_end_state_by (server_rules opened) k (FrameReceived f) o).state.accesses_received
unfolding server_state_after
frame_settled opened place k f next good h (Some end) is = settled_later place f.end k.regions k.accesses_received (let l = next.1 in omega (arith, l)) h
frame_settled opened place k f next (inl g) h None is =
    subst (λ (b : Bool). Settled f.end (cond b (with_own_hello opened k f) (with_effect k f (frame_effect k f))).regions (cond b (with_own_hello opened k f) (with_effect k f (frame_effect k f))).accesses_received) (sym g.0) (settled_later place f.end k.regions k.accesses_received (let l = next.1 in omega (arith, l)) h)
frame_settled opened place k f next (inr (s, behind, own)) h None is =
    subst (λ (b : Bool). Settled f.end (cond b (with_own_hello opened k f) (with_effect k f (frame_effect k f))).regions (cond b (with_own_hello opened k f) (with_effect k f (frame_effect k f))).accesses_received) (sym behind) (segment_settled opened place k f s (let l = next.1 in omega (arith, l)) behind own is h)

-- what a server is told changes no region, also if it ends it
told_settled : (opened : LinkParameters) (place : ℕ) (k : ServerState) (what : Told) (o : Option Stop) → Settled place k.regions k.accesses_received
    → Settled place (next_end_state_by (server_rules opened) k (ServerTold what) o).state.regions (next_end_state_by (server_rules opened) k (ServerTold what) o).state.accesses_received
unfolding server_state_after
told_settled opened place k what None h = h
told_settled opened place k what (Some end) h = h

settled_step : (opened : LinkParameters) (place : ℕ) (k : ServerState) (ended : Option Stop) (e : RunEvent) → IsNext place e → ServerGood (record { state = k; ended = ended }) e → Settled place k.regions k.accesses_received
    → Settled (place_after place e) (next_end_state_in (server_rules opened) k e ended).state.regions (next_end_state_in (server_rules opened) k e ended).state.accesses_received
unfolding server_end server_state_after
settled_step opened place k None (FrameReceived f) next good h = frame_settled opened place k f next good h (server_end opened k (FrameReceived f)) refl
settled_step opened place k None (CallSubmitted q a) next good h = h
settled_step opened place k None (MemoryRevoked q xid) next good h = h
settled_step opened place k None (CallExecuted x) next good h = h
settled_step opened place k None (QueueWritten taken) next good h = h
settled_step opened place k None (ServerTold what) next good h = told_settled opened place k what (server_end opened k (ServerTold what)) h
settled_step opened place k (Some end) (FrameReceived f) next good h = settled_later place f.end k.regions k.accesses_received (let l = next.1 in omega (arith, l)) h
settled_step opened place k (Some end) (CallSubmitted q a) next good h = h
settled_step opened place k (Some end) (MemoryRevoked q xid) next good h = h
settled_step opened place k (Some end) (CallExecuted x) next good h = h
settled_step opened place k (Some end) (QueueWritten taken) next good h = h
settled_step opened place k (Some end) (ServerTold what) next good h = h

pub settled_along : (opened : LinkParameters) (es : List RunEvent) → GoesOn (server_rules opened) ServerGood 0 (initial_server opened) es
    → Settled (places_after 0 es) (end_state_after (server_rules opened) (initial_server opened) es).state.regions (end_state_after (server_rules opened) (initial_server opened) es).state.accesses_received
settled_along opened es g =
    along (server_rules opened) (λ k e. []) (λ end. []) ServerGood (λ es place r outs. Settled place r.state.regions r.state.accesses_received)
    (λ es place r outs e next good h. settled_step opened place r.state r.ended e next good h) [] 0 (initial_server opened) [] es g tt

pub server_gathers : (opened : LinkParameters) → Gathering (server_rules opened) (λ (k : ServerState). k.accesses_received)
unfolding server_state_after
server_gathers opened k (FrameReceived f) lives = by (is_hello f) refl
  where
    by : (b : Bool) → is_hello f ≡ b → (cond b (with_own_hello opened k f) (with_effect k f (frame_effect k f))).accesses_received ≡ cond b k.accesses_received (k.accesses_received ++ tagged_accesses f (segment_of f.bytes))
    by true first = refl
    by false behind = ap (λ (r : Result Segment ℕ). k.accesses_received ++ tagged_accesses f r) (server_read opened k f behind lives)
server_gathers opened k (CallSubmitted p a) lives = refl
server_gathers opened k (MemoryRevoked p xid) lives = refl
server_gathers opened k (CallExecuted e) lives = refl
server_gathers opened k (QueueWritten taken) lives = refl
server_gathers opened k (ServerTold what) lives = refl
