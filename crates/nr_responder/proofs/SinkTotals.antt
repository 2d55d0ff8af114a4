-- The bytes of the regions, as sinks are registered, written and released.
use Rattle.std.proofs.Common.{◌≡◌, ℕ, ◌+◌, ◌-◌, ◌^◌, ◌<◌, ◌≤◌, Bool, true, false, not, cond, eqb, List, [], ◌∷◌, length, map, Option, None, Some, Result, Ok, Err, refl, sym, ap, subst, ◌∙◌, arith}
use Rattle.std.specs.List.{filter}
use Rattle.nr_regions.specs.declared.denied.Denied.{Denied}
use Rattle.nr_regions.specs.declared.denied.Denied.TheVariants.{NoStag}
use Rattle.nr_regions.specs.declared.right.Kind.{Kind}
use Rattle.nr_regions.specs.RegisteredMemory.{Region as HeldRegion, RegisteredMemory, Claim, IsHeld, held_region, live_region, region_offer, denial_in, denial, bytes_after_write, after_place, after_place_in, after_register, after_release, initial_memory, right_for, AreHeldFrom}
use Rattle.nr_regions.specs.Table.{region_len}
use Rattle.nr_regions.proofs.Holding.{live_parts, within, length_bytes_after_write}
use Rattle.nr_regions.proofs.Totals.{sound_initial, sound_register, sound_release, sound_change}
use Rattle.nr_wire.specs.Constants.{OPCODE_READ_RESPONSE}
use Rattle.nr_wire.specs.declared.hello.Side.TheVariants.{Responder}
use Rattle.nr_wire.specs.declared.stream.Awaited.{Awaited}
use Rattle.nr_wire.specs.declared.stream.Awaited.TheVariants.{Hello as HelloFrom, Fpdu}
use Rattle.nr_wire.specs.Hello.{Hello, hello_of}
use Rattle.nr_wire.specs.Segment.{Segment}
use Rattle.nr_wire.specs.Segment.Segment.{Tagged, Untagged}
use Rattle.nr_link.specs.declared.end.End.{End}
use Rattle.nr_link.specs.Frames.{Frame}
use Rattle.nr_link.specs.Ending.{kind_of}
use Rattle.nr_endpoint.specs.LinkState.{LinkState, LinkSide, has_ended, initial_link}
use Rattle.nr_endpoint.specs.Judging.{segment_end, next_frame, next_segment, with_frame, with_segment_by, with_fpdu, with_peer_hello, with_effect, with_read_response}
use Rattle.nr_endpoint.specs.SegmentEnds.{denied_if, tagged_end}
use Rattle.nr_endpoint.specs.Calls.{after_call}
use Rattle.nr_endpoint.specs.Calls.Call.{FeedOne}
use Rattle.nr_endpoint.proofs.AlongFrames.{feed_one_keeps}
use Rattle.nr_endpoint.proofs.Alive.{alive_tagged}
use Rattle.nr_endpoint.proofs.HellosFrom.{hello_from}
use Rattle.nr_reduce.specs.OfferedRegions.{Region}
use Rattle.nr_responder.specs.declared.call.OpenSink.{OpenSink}
use Rattle.nr_responder.specs.Fetching.{SinkRegion}
use Rattle.nr_responder.specs.HeldBytes.{RegionsHave, sinks_total}
use Rattle.nr_responder.specs.Sound.{claims_of}
use Rattle.nr_responder.specs.Views.{sink_view}
use Rattle.nr_responder.specs.private.CallsRead.{registered}
use Rattle.nr_responder.specs.private.Reading.{released}
use Rattle.nr_responder.proofs.HeldSinks.{held_above}
use Rattle.nr_link.specs.declared.agreement.SideTerms.{SideTerms}

-- ---- As it is opened

first_memory : (credits : ℕ) (terms : SideTerms) → (initial_link Responder credits 1 terms None).state.memory ≡ initial_memory 1
unfolding initial_link
first_memory credits terms = refl

none_held : RegionsHave (initial_memory 1) 0
unfolding initial_memory
none_held = sound_initial region_len 1 (omega arith)

pub opened_have : (l : LinkSide) (credits : ℕ) (terms : SideTerms) → l ≡ initial_link Responder credits 1 terms None → RegionsHave l.state.memory 0
opened_have l credits terms is = subst (λ (m : RegisteredMemory). RegionsHave m 0) (sym (ap (λ (x : LinkSide). x.state.memory) is ∙ first_memory credits terms)) none_held

-- ---- A frame

abbrev denied : Denied → Option Denied
denied why = Some why

-- an access that is allowed leaves the lengths of the regions
placed_by : (m : RegisteredMemory) (stag to : ℕ) (kind : Kind) (payload : List ℕ) (total : ℕ) (o : Option HeldRegion) → live_region m stag ≡ o →
    denial_in (region_offer o) (record { right = right_for kind; stag = stag; to = to; len = length payload }) ≡ None → RegionsHave m total → RegionsHave (after_place_in o m stag to payload) total
unfolding held_region
placed_by m stag to kind payload total None is allowed have = absurd (let wrong : denied NoStag ≡ None = allowed in cc)
placed_by m stag to kind payload total (Some region) is allowed have =
    let there = (live_parts m stag region is).1 in
    let after : HeldRegion = record { right = region.right; buf = bytes_after_write region.buf to payload } in
    let len : length after.buf ≡ length region.buf = length_bytes_after_write region.buf to payload (within region.right region.buf (record { kind = kind; stag = stag; to = to; payload = payload; end = 0 }) allowed) in
    sound_change region_len m.next total m.held stag region after have there len

placed_have : (m : RegisteredMemory) (stag to : ℕ) (kind : Kind) (payload : List ℕ) (total : ℕ) → denial m (record { right = right_for kind; stag = stag; to = to; len = length payload }) ≡ None → RegionsHave m total →
    RegionsHave (after_place m stag to payload) total
unfolding denial after_place
placed_have m stag to kind payload total allowed have = placed_by m stag to kind payload total (live_region m stag) refl allowed have

tagged_allowed : (stag to : ℕ) (d : Option Denied) (others : Option End) → denied_if stag to d others ≡ None → d ≡ None
tagged_allowed stag to None others e = refl
tagged_allowed stag to (Some why) others e = absurd cc

allowed_lem : (s : LinkState) (last : Bool) (opcode stag to : ℕ) (payload : List ℕ) → tagged_end s last opcode stag to payload ≡ None →
    denial s.memory (record { right = right_for (kind_of opcode); stag = stag; to = to; len = length payload }) ≡ None
unfolding tagged_end
allowed_lem s last opcode stag to payload e = tagged_allowed stag to _ _ e

read_have : (s : LinkState) (last : Bool) (n : ℕ) (b : Bool) (total : ℕ) → RegionsHave s.memory total → RegionsHave (cond b (with_read_response last n s) s).memory total
read_have s last n true total h = h
read_have s last n false total h = h

segment_have : (s : LinkState) (f : Frame) (segment : Segment) (e : Option End) (total : ℕ) → f.at ≡ s.place → segment_end s f segment ≡ e → RegionsHave s.memory total → RegionsHave (with_segment_by f segment e s).memory total
unfolding with_effect
segment_have s f segment (Some end) total at lives h = h
segment_have s f (Tagged last opcode stag to payload) None total at lives h =
    let m = placed_have s.memory stag to (kind_of opcode) payload total (allowed_lem s last opcode stag to payload (alive_tagged s f last opcode stag to payload at lives)) h in
    let placed : LinkState = record s { memory = after_place s.memory stag to payload } in
    read_have placed last (length payload) (eqb opcode OPCODE_READ_RESPONSE) total m
segment_have s f (Untagged last opcode w queue msn offset payload) None total at lives h = h

fpdu_have : (s : LinkState) (f : Frame) (r : Result Segment ℕ) (total : ℕ) → f.at ≡ s.place → RegionsHave s.memory total → RegionsHave (with_fpdu f r s).memory total
unfolding with_fpdu
fpdu_have s f (Ok segment) total at h = segment_have s f segment (segment_end s f segment) total at refl h
fpdu_have s f (Err reason) total at h = h

hello_have : (s : LinkState) (f : Frame) (r : Result Hello ℕ) (total : ℕ) → RegionsHave s.memory total → RegionsHave (with_peer_hello f r s).memory total
unfolding with_peer_hello
hello_have s f (Ok hello) total h = h
hello_have s f (Err reason) total h = h

frame_have : (total : ℕ) (a : Awaited) (s : LinkState) (frame : List ℕ) → has_ended s ≡ false → RegionsHave s.memory total → RegionsHave (with_frame s a frame).memory total
frame_have total (HelloFrom side) s frame live h =
    hello_from (λ t. RegionsHave t.memory total) side (next_frame s frame) (hello_of side frame) s (hello_have s (next_frame s frame) (hello_of side frame) total h) h
frame_have total Fpdu s frame live h = fpdu_have s (next_frame s frame) (next_segment s frame) total refl h

-- one step on a piece
pub fed_one_have : (total : ℕ) (link : LinkSide) (piece : List ℕ) → RegionsHave link.state.memory total → RegionsHave (after_call link (FeedOne piece)).state.memory total
fed_one_have total link piece h = feed_one_keeps (λ a s. RegionsHave s.memory total) (frame_have total) link piece h

-- ---- Sinks are registered

-- the bytes of regions
abbrev pub regions_total : List Region → ℕ
regions_total [] = 0
regions_total (r ∷ regions) = length r.bytes + regions_total regions

pub registered_have : (regions : List Region) (m : RegisteredMemory) (total : ℕ) → m.next + length regions ≤ 2 ^ 32 → regions_total regions < 2 ^ 64 → RegionsHave m total → RegionsHave (registered regions m) (total + regions_total regions)
unfolding after_register
registered_have [] m total fits small h = subst (λ (n : ℕ). RegionsHave m n) (omega arith) h
registered_have (r ∷ regions) m total fits small h =
    let one : RegionsHave (after_register m r.right r.bytes) (total + length r.bytes) = sound_register region_len m.next total m.held (record { right = r.right; buf = r.bytes }) h (omega (arith, fits)) (omega (arith, small)) in
    let rest = registered_have regions (after_register m r.right r.bytes) (total + length r.bytes) (omega (arith, fits)) (omega (arith, small)) one in
    subst (λ (n : ℕ). RegionsHave (registered regions (after_register m r.right r.bytes)) n) (omega arith) rest

-- ---- Sinks are released

abbrev pub claim_of_sink : SinkRegion → Claim
claim_of_sink s = record { stag = s.stag; len = s.len }

pub held_view : (m : RegisteredMemory) (low : ℕ) (sinks : List OpenSink) → AreHeldFrom m low (claims_of sinks) → AreHeldFrom m low (map claim_of_sink (map sink_view sinks))
held_view m low [] h = h
held_view m low (s ∷ sinks) h = (h.0, (h.1.0, held_view m (s.registration.stag + 1) sinks h.1.1))

one_released : (m : RegisteredMemory) (s : SinkRegion) (total : ℕ) → IsHeld m (claim_of_sink s) → RegionsHave m total → RegionsHave (after_release m s.stag) (total - s.len)
unfolding after_release held_region
one_released m s total h have = subst (λ (n : ℕ). RegionsHave (after_release m s.stag) (total - n)) h.len (sound_release region_len m.next total m.held s.stag h.region have h.there)

pub released_have : (p : SinkRegion → Bool) (m : RegisteredMemory) (low : ℕ) (sinks : List SinkRegion) (base : ℕ) → AreHeldFrom m low (map claim_of_sink sinks) → RegionsHave m (base + sinks_total sinks) →
    RegionsHave (released (filter p sinks) m) (base + sinks_total (filter (λ s. not (p s)) sinks))
released_have p m low [] base held have = have
released_have p m low (s ∷ sinks) base held have =
    by
    (released_have p (after_release m s.stag) (s.stag + 1) sinks base (held_above m (s.stag + 1) s.stag (map claim_of_sink sinks) (omega arith) held.1.1)
    (subst (λ (n : ℕ). RegionsHave (after_release m s.stag) n) (omega arith) (one_released m s (base + sinks_total (s ∷ sinks)) held.1.0 have)))
    (released_have p m (s.stag + 1) sinks (base + s.len) held.1.1 (subst (λ (n : ℕ). RegionsHave m n) (omega arith) have)) (p s)
  where
    by : RegionsHave (released (filter p sinks) (after_release m s.stag)) (base + sinks_total (filter (λ s. not (p s)) sinks)) → RegionsHave (released (filter p sinks) m) ((base + s.len) + sinks_total (filter (λ s. not (p s)) sinks)) →
        (b : Bool) → RegionsHave (released (cond b (s ∷ filter p sinks) (filter p sinks)) m) (base + sinks_total (cond (not b) (s ∷ filter (λ s. not (p s)) sinks) (filter (λ s. not (p s)) sinks)))
    by out left true = out
    by out left false = subst (λ (n : ℕ). RegionsHave (released (filter p sinks) m) n) (omega arith) left
