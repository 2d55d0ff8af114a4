-- A frame of the peer leaves the vectors of a side within their bounds.
use Rattle.std.proofs.Common.{◌≡◌, ℕ, ◌≤◌, Bool, true, false, cond, eqb, List, [], ◌∷◌, ◌++◌, length, take, drop, Option, None, Some, Result, Ok, Err, refl, sym, ap, subst, ◌∙◌, inl, inr, arith, length-append, ◌+◌}
use Rattle.std.proofs.lemmas.Bool.{eqb-true, cases_eq}
use Rattle.std.proofs.lemmas.List.{length-take, length-drop}
use Rattle.std.specs.List.{AllByRecursion}
use Rattle.std.specs.FinMap.{get, insert}
use Rattle.nr_regions.specs.declared.denied.Denied.{Denied}
use Rattle.nr_regions.specs.declared.denied.Denied.TheVariants.{NoStag}
use Rattle.nr_regions.specs.declared.right.Kind.{Kind}
use Rattle.nr_regions.specs.RegisteredMemory.{Region, RegisteredMemory, Access, held_region, live_region, region_offer, denial_in, denial, bytes_in, bytes_at, bytes_after_write, after_place, after_place_in, right_for}
use Rattle.nr_regions.proofs.Holding.{next_after_place, live_parts, within, get_insert_here, get_insert_other, length_bytes_after_write}
use Rattle.nr_regions.proofs.Totals.{sound_change}
use Rattle.nr_wire.specs.Constants.{OPCODE_READ_RESPONSE, OPCODE_READ_REQUEST}
use Rattle.nr_wire.specs.declared.hello.Side.{Side}
use Rattle.nr_wire.specs.declared.hello.Side.TheVariants.{Initiator, Responder}
use Rattle.nr_wire.specs.declared.stream.Awaited.{Awaited}
use Rattle.nr_wire.specs.declared.stream.Awaited.TheVariants.{Hello as HelloFrom, Fpdu}
use Rattle.nr_wire.specs.Hello.{Hello, hello_of}
use Rattle.nr_wire.specs.Segment.{Segment}
use Rattle.nr_wire.specs.Segment.Segment.{Tagged, Untagged}
use Rattle.nr_link.specs.declared.end.End.{End}
use Rattle.nr_link.specs.declared.end.End.TheVariants as ends
use Rattle.nr_link.specs.Frames.{Frame}
use Rattle.nr_link.specs.Limits.{open_reads_max}
use Rattle.nr_link.specs.Output.{read_response, terminate_message}
use Rattle.nr_link.specs.Reasons.{REASON_SIZES}
use Rattle.nr_link.specs.ReceiveState.{read_request_in}
use Rattle.nr_link.specs.Ending.{rejection, kind_of}
use Rattle.nr_endpoint.specs.SendQueue.{SendQueue, with_hello, with_end}
use Rattle.nr_endpoint.specs.ReceiveQueue.{with_segment, with_read_done}
use Rattle.nr_link.specs.Agreement.{IsSendLimit}
use Rattle.nr_link.proofs.Agreements.{agreements_bounded}
use Rattle.nr_endpoint.specs.Hellos.{own_private, side_agreement}
use Rattle.nr_endpoint.specs.LinkState.{LinkState, LinkSide, has_ended}
use Rattle.nr_endpoint.specs.Judging.{segment_end, next_frame, next_segment, with_end_of, with_frame, with_segment_by, with_fpdu, with_peer_hello, with_hello_from, with_other_sizes, has_other_sizes, with_effect, with_read_request, with_read_response, reply_hello, fetch_access}
use Rattle.nr_endpoint.specs.SegmentEnds.{RequestIsFine, denied_if, tagged_end}
use Rattle.nr_endpoint.specs.Calls.{after_call}
use Rattle.nr_endpoint.specs.Calls.Call.{FeedOne}
use Rattle.nr_endpoint.proofs.AlongFrames.{feed_one_keeps}
use Rattle.nr_endpoint.proofs.Alive.{alive_tagged, alive_request}
use Rattle.nr_requester.specs.HeldBytes.{region_max, response_max, last_max, FitsSend, QueueFits, RegionsFit, LinkFits, region_size, RegionsHave}
use Rattle.nr_endpoint.specs.OutputSizes.{send_frames_max, hello_max}
use Rattle.nr_endpoint.proofs.OutputSizes.{end_within, terminate_len}
use Rattle.nr_requester.proofs.OutputBounds.{response_fits, ended_fits}

-- both: its vectors are within their bounds, and its regions have this number together
abbrev pub Fits : (size : ℕ → ℕ) (len total : ℕ) → LinkState → Type 0
Fits size len total s = LinkFits len s × RegionsHave size s.memory total

-- ---- What it writes last

no_rejection : (side : Side) (end : End) → side ≡ Initiator → length (rejection side end) ≡ 0
no_rejection side end is = ap (λ (x : Side). length (rejection x end)) is

pub end_fits : (size : ℕ → ℕ) (s : LinkState) (end : End) (len total : ℕ) → has_ended s ≡ false → Fits size len total s → Fits size len total (with_end_of end s)
unfolding with_end
end_fits size s end len total live f = (
  record {
    side = f.0.side;
    receives = f.0.receives;
    receive_length = f.0.receive_length;
    receive = f.0.receive;
    up = f.0.up;
    down = f.0.down;
    hello = (let none = ap last_max live in omega (arith, f.0.hello, none, length-append s.send_queue.hello (rejection s.side end), no_rejection s.side end f.0.side));
    queue = end_within send_frames_max response_max 0 0 s.side end s.send_queue (subst (λ (b : Bool). QueueFits b s.send_queue) live f.0.queue);
    responses = f.0.responses;
    messages = f.0.messages;
    stag = f.0.stag;
    regions = f.0.regions;
  },
  f.1,
)

-- ---- An access is placed

abbrev denied : Denied → Option Denied
denied why = Some why

abbrev or_region : Region → Option Region → Region
or_region x None = x
or_region x (Some y) = y

same_region : (x y : Region) → Some x ≡ Some y → x ≡ y
same_region x y e = ap (or_region x) e

-- an access that is allowed leaves the lengths of the regions
placed_by : (size : ℕ → ℕ) (m : RegisteredMemory) (stag to : ℕ) (kind : Kind) (payload : List ℕ) (total : ℕ) (o : Option Region) → live_region m stag ≡ o →
    denial_in (region_offer o) (record { right = right_for kind; stag = stag; to = to; len = length payload }) ≡ None → RegionsFit m → RegionsHave size m total →
    RegionsFit (after_place_in o m stag to payload) × RegionsHave size (after_place_in o m stag to payload) total
unfolding held_region
placed_by size m stag to kind payload total None is allowed fit have = absurd (let wrong : denied NoStag ≡ None = allowed in cc)
placed_by size m stag to kind payload total (Some region) is allowed fit have =
    let there = (live_parts m stag region is).1 in
    let after : Region = record { right = region.right; buf = bytes_after_write region.buf to payload } in
    let len : length after.buf ≡ length region.buf = length_bytes_after_write region.buf to payload (within region.right region.buf (record { kind = kind; stag = stag; to = to; payload = payload; end = 0 }) allowed) in (
      λ q r e. elim (cases_eq q stag) [
        | inl same ↦ (let is : r ≡ after = same_region r after (sym e ∙ ap (λ (k : ℕ). get (insert m.held stag after) k) same ∙ get_insert_here m.held stag after) in
            omega (arith, len, fit stag region there, ap (λ (x : Region). length x.buf) is))
        | inr other ↦ fit q r (sym (get_insert_other m.held stag after q other) ∙ e)
      ],
      sound_change (region_size size) m.next total m.held stag region after have there (ap size len),
    )

placed_fits : (size : ℕ → ℕ) (m : RegisteredMemory) (stag to : ℕ) (kind : Kind) (payload : List ℕ) (total : ℕ) → denial m (record { right = right_for kind; stag = stag; to = to; len = length payload }) ≡ None → RegionsFit m → RegionsHave size m total →
    RegionsFit (after_place m stag to payload) × RegionsHave size (after_place m stag to payload) total
unfolding denial after_place
placed_fits size m stag to kind payload total allowed fit have = placed_by size m stag to kind payload total (live_region m stag) refl allowed fit have

-- ---- A segment that doesn't end the side

tagged_allowed : (stag to : ℕ) (d : Option Denied) (others : Option End) → denied_if stag to d others ≡ None → d ≡ None
tagged_allowed stag to None others e = refl
tagged_allowed stag to (Some why) others e = absurd cc

allowed_lem : (s : LinkState) (last : Bool) (opcode stag to : ℕ) (payload : List ℕ) → tagged_end s last opcode stag to payload ≡ None →
    denial s.memory (record { right = right_for (kind_of opcode); stag = stag; to = to; len = length payload }) ≡ None
unfolding tagged_end
allowed_lem s last opcode stag to payload e = tagged_allowed stag to _ _ e

read_fits : (size : ℕ → ℕ) (s : LinkState) (last : Bool) (n : ℕ) (b : Bool) (len total : ℕ) → Fits size len total s → Fits size len total (cond b (with_read_response last n s) s)
read_fits size s last n true len total f = (
  record {
    side = f.0.side;
    receives = by last f.0.receives;
    receive_length = by_length last f.0.receive_length;
    receive = f.0.receive;
    up = f.0.up;
    down = f.0.down;
    hello = f.0.hello;
    queue = f.0.queue;
    responses = f.0.responses;
    messages = f.0.messages;
    stag = f.0.stag;
    regions = f.0.regions;
  },
  f.1,
)
  where
    by : (l : Bool) → s.receive_queue.receives ≡ 1 → (cond l (with_read_done s.receive_queue) s.receive_queue).receives ≡ 1
    by true e = e
    by false e = e

    by_length : (l : Bool) → s.receive_queue.receive_length ≡ len → (cond l (with_read_done s.receive_queue) s.receive_queue).receive_length ≡ len
    by_length true e = e
    by_length false e = e
read_fits size s last n false len total f = f

reached_short : (m : RegisteredMemory) (access : Access) → RegionsFit m → length (bytes_at m access) ≤ region_max
reached_short m access fit = by (live_region m access.stag) refl
  where
    by : (o : Option Region) → live_region m access.stag ≡ o → length (take access.len (drop access.to (bytes_in o))) ≤ region_max
    by None is = omega (arith, length-take {A = ℕ} access.len (drop access.to []), length-drop {A = ℕ} access.to [])
    by (Some region) is = omega (arith, length-take access.len (drop access.to region.buf), length-drop access.to region.buf, fit access.stag region (live_parts m access.stag region is).1)

-- the queue after a Read Request; its hello stays
record QueueLeft (most : ℕ) (q : SendQueue) : Type 0 where
  pub hello : length q.hello ≤ most
  pub queue : QueueFits false q
  pub responses : length q.response_ends ≤ open_reads_max
  pub messages : AllByRecursion FitsSend q.held

answered_fits : (most : ℕ) (s : LinkState) (f : Frame) (last : Bool) (opcode w queue msn offset : ℕ) (payload : List ℕ) (b : Bool) → eqb opcode OPCODE_READ_REQUEST ≡ b → f.at ≡ s.place →
    segment_end s f (Untagged last opcode w queue msn offset payload) ≡ None → RegionsFit s.memory → QueueLeft most s.send_queue →
    QueueLeft most (with_read_request (cond b (Some (read_request_in payload)) None) s.memory s.send_queue)
answered_fits most s f last opcode w queue msn offset payload false is at lives fit left = left
answered_fits most s f last opcode w queue msn offset payload true is at lives fit left =
    let same : opcode ≡ OPCODE_READ_REQUEST = eqb-true opcode OPCODE_READ_REQUEST is in
    let goes : segment_end s f (Untagged last OPCODE_READ_REQUEST w queue msn offset payload) ≡ None = subst (λ (o : ℕ). segment_end s f (Untagged last o w queue msn offset payload) ≡ None) same lives in
    let fine : RequestIsFine s payload = alive_request s f last w queue msn offset payload at goes in
    let r = read_request_in payload in
    record {
      hello = left.hello;
      queue = response_fits s.send_queue r.sink r.sink_to (bytes_at s.memory (fetch_access r)) (reached_short s.memory (fetch_access r) fit) left.queue;
      responses = omega (arith, fine.few, length-append s.send_queue.response_ends (length (s.send_queue.fpdus ++ read_response r.sink r.sink_to (bytes_at s.memory (fetch_access r))) ∷ []));
      messages = left.messages;
    }

-- ---- A frame

segment_fits : (size : ℕ → ℕ) (s : LinkState) (f : Frame) (segment : Segment) (e : Option End) (len total : ℕ) → has_ended s ≡ false → f.at ≡ s.place → segment_end s f segment ≡ e → Fits size len total s → Fits size len total (with_segment_by f segment e s)
unfolding with_effect with_segment
segment_fits size s f segment (Some end) len total live at lives h = end_fits size s end len total live h
segment_fits size s f (Tagged last opcode stag to payload) None len total live at lives h =
    let m = placed_fits size s.memory stag to (kind_of opcode) payload total (allowed_lem s last opcode stag to payload (alive_tagged s f last opcode stag to payload at lives)) h.0.regions h.1 in
    let placed : LinkState = record s { memory = after_place s.memory stag to payload } in
    let after = read_fits size placed last (length payload) (eqb opcode OPCODE_READ_RESPONSE) len total (
      record { side = h.0.side; receives = h.0.receives; receive_length = h.0.receive_length; receive = h.0.receive; up = h.0.up; down = h.0.down; hello = h.0.hello; queue = h.0.queue; responses = h.0.responses; messages = h.0.messages; stag = (let same = next_after_place s.memory stag to payload in let some = h.0.stag in omega (arith, same, some)); regions = m.0 },
      m.1,
    ) in
    (record { side = after.0.side; receives = after.0.receives; receive_length = after.0.receive_length; receive = after.0.receive; up = after.0.up; down = after.0.down; hello = after.0.hello; queue = after.0.queue; responses = after.0.responses; messages = after.0.messages; stag = after.0.stag; regions = after.0.regions }, after.1)
segment_fits size s f (Untagged last opcode w queue msn offset payload) None len total live at lives h =
    let left = answered_fits (hello_max + last_max (has_ended s)) s f last opcode w queue msn offset payload (eqb opcode OPCODE_READ_REQUEST) refl at lives h.0.regions
    (record { hello = h.0.hello; queue = subst (λ (b : Bool). QueueFits b s.send_queue) live h.0.queue; responses = h.0.responses; messages = h.0.messages }) in (
      record {
        side = h.0.side;
        receives = h.0.receives;
        receive_length = h.0.receive_length;
        receive = h.0.receive;
        up = h.0.up;
        down = h.0.down;
        hello = left.hello;
        queue = subst (λ (b : Bool). QueueFits b (with_read_request (cond (eqb opcode OPCODE_READ_REQUEST) (Some (read_request_in payload)) None) s.memory s.send_queue)) (sym live) left.queue;
        responses = left.responses;
        messages = left.messages;
        stag = h.0.stag;
        regions = h.0.regions;
      },
      h.1,
    )

fpdu_fits : (size : ℕ → ℕ) (s : LinkState) (f : Frame) (r : Result Segment ℕ) (len total : ℕ) → has_ended s ≡ false → f.at ≡ s.place → Fits size len total s → Fits size len total (with_fpdu f r s)
unfolding with_fpdu
fpdu_fits size s f (Ok segment) len total live at h = segment_fits size s f segment (segment_end s f segment) len total live at refl h
fpdu_fits size s f (Err reason) len total live at h = end_fits size s (ends.Bad f.at reason) len total live h

no_reply : (side : Side) (private : List ℕ) → side ≡ Initiator → length (reply_hello side private) ≡ 0
no_reply side private is = ap (λ (x : Side). length (reply_hello x private)) is

agreed_limits : (side : Side) (own peer_private : List ℕ) → IsSendLimit (side_agreement side own peer_private).up × IsSendLimit (side_agreement side own peer_private).down
agreed_limits Initiator own peer_private = agreements_bounded own peer_private
agreed_limits Responder own peer_private = agreements_bounded peer_private own

hello_fits : (size : ℕ → ℕ) (s : LinkState) (f : Frame) (r : Result Hello ℕ) (len total : ℕ) → has_ended s ≡ false → Fits size len total s → Fits size len total (with_peer_hello f r s)
unfolding with_peer_hello
hello_fits size s f (Ok hello) len total live h = (
  record {
    side = h.0.side;
    receives = h.0.receives;
    receive_length = h.0.receive_length;
    receive = h.0.receive;
    up = (agreed_limits s.side (own_private s.terms s.side hello.private) hello.private).0;
    down = (agreed_limits s.side (own_private s.terms s.side hello.private) hello.private).1;
    hello =
        let own : List ℕ = own_private s.terms s.side hello.private in
        omega (arith, h.0.hello, length-append s.send_queue.hello (reply_hello s.side own), no_reply s.side own h.0.side);
    queue = h.0.queue;
    responses = h.0.responses;
    messages = h.0.messages;
    stag = h.0.stag;
    regions = h.0.regions;
  },
  h.1,
)
hello_fits size s f (Err reason) len total live h = end_fits size s (ends.Bad f.at reason) len total live h

-- other lengths are agreed than before: a Terminate follows the hello
sizes_fits : (size : ℕ → ℕ) (s : LinkState) (f : Frame) (hello : Hello) (b : Bool) (len total : ℕ) → has_ended s ≡ false → Fits size len total s → Fits size len total (cond b (with_other_sizes f s) (with_peer_hello f (Ok hello) s))
sizes_fits size s f hello true len total live h = (
  record {
    side = h.0.side;
    receives = h.0.receives;
    receive_length = h.0.receive_length;
    receive = h.0.receive;
    up = h.0.up;
    down = h.0.down;
    hello = (let none = ap last_max live in omega (arith, h.0.hello, none, length-append s.send_queue.hello (terminate_message REASON_SIZES), terminate_len REASON_SIZES));
    queue = ended_fits (with_hello (terminate_message REASON_SIZES) s.send_queue) true (subst (λ (b : Bool). QueueFits b s.send_queue) live h.0.queue);
    responses = h.0.responses;
    messages = h.0.messages;
    stag = h.0.stag;
    regions = h.0.regions;
  },
  h.1,
)
sizes_fits size s f hello false len total live h = hello_fits size s f (Ok hello) len total live h

hello_from_fits : (size : ℕ → ℕ) (side : Side) (s : LinkState) (f : Frame) (r : Result Hello ℕ) (len total : ℕ) → has_ended s ≡ false → Fits size len total s → Fits size len total (with_hello_from side f r s)
hello_from_fits size Initiator s f r len total live h = hello_fits size s f r len total live h
hello_from_fits size Responder s f (Err reason) len total live h = hello_fits size s f (Err reason) len total live h
hello_from_fits size Responder s f (Ok hello) len total live h = sizes_fits size s f hello (has_other_sizes Responder s hello.private) len total live h

frame_fits : (size : ℕ → ℕ) (len total : ℕ) (a : Awaited) (s : LinkState) (frame : List ℕ) → has_ended s ≡ false → Fits size len total s → Fits size len total (with_frame s a frame)
frame_fits size len total (HelloFrom side) s frame live h = hello_from_fits size side s (next_frame s frame) (hello_of side frame) len total live h
frame_fits size len total Fpdu s frame live h = fpdu_fits size s (next_frame s frame) (next_segment s frame) len total live refl h

-- one step on a piece
pub fed_one_fits : (size : ℕ → ℕ) (len total : ℕ) (link : LinkSide) (piece : List ℕ) → Fits size len total link.state → Fits size len total (after_call link (FeedOne piece)).state
fed_one_fits size len total link piece h = feed_one_keeps (λ a s. Fits size len total s) (frame_fits size len total) link piece h
