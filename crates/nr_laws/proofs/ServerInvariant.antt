-- What a server keeps after each frame: totals, reads, pending calls, sinks, and the bounds of its regions.
use Rattle.std.proofs.Common.{◌≡◌, ℕ, suc, ◌+◌, ◌≤◌, ◌<◌, Bool, true, false, List, [], ◌∷◌, ◌++◌, length, None, Ok, refl, sym, ap, subst, ◌∙◌, arith, length-append}
use Rattle.nr_wire.specs.Segment.{Segment}
use Rattle.nr_wire.specs.Segment.Segment.{Tagged}
use Rattle.nr_header.specs.declared.header.ChunkLists.{ChunkLists}
use Rattle.nr_reduce.proofs.OwnLimits.{ServerLimits, server_event}
use Rattle.nr_reduce.specs.declared.mark.LinkParameters.{LinkParameters}
use Rattle.nr_link.specs.Frames.{Frame}
use Rattle.nr_link.specs.Ending.{frame_segment}
use Rattle.nr_reduce.specs.OfferedRegions.{Region, regions_closed, closed_if}
use Rattle.nr_reduce.specs.Events.RunEvent.{FrameReceived}
use Rattle.nr_reduce.specs.ClientState.{ClientState}
use Rattle.nr_reduce.specs.ServerState.{ServerState, PendingCall, next_stag}
use Rattle.nr_reduce.specs.ServerFrames.{FrameEffect, frame_effect, effect_in}
use Rattle.nr_reduce.specs.ServerMessages.{verdict}
use Rattle.nr_reduce.specs.ServerReads.{is_over, regions_of, regions_from, chunks_of}
use Rattle.nr_reduce.specs.Server.{server_state_after, server_end, refusal_end}
use Rattle.nr_reduce.specs.ServerMessages.Verdict.{MakesPending}
use Rattle.nr_laws.proofs.FrameContents.{SentMessage, CompletesMessage, last_segment, FrameContent, Carries, part_segment}
use Rattle.nr_laws.proofs.FrameContents.FrameContent.{PartFrame, SendFrame, TaggedFrame}
use Rattle.nr_laws.proofs.LinkInvariants.{Transit, TotalsAgree, ReadsAgree, PendingAgree, HaveSinks, AreAtMost, WithinWindow}
use Rattle.nr_laws.proofs.TotalsAtServer.{after_is_lem, totals_send_up, totals_tagged_up, step_is, totals_part_up}
use Rattle.nr_laws.proofs.DistinctKeys.{below_more, below_append}
use Rattle.nr_laws.proofs.PendingSends.{verdict_new}
use Rattle.nr_laws.proofs.ReadsAtServer.{reads_send_up, reads_tagged_up, moved, reads_part_up}
use Rattle.nr_laws.proofs.PendingFrames.{pending_agree_send_up, pending_agree_tagged_up, sinks_send_up, sinks_tagged_up, pending_agree_part_up, sinks_part_up}
use Rattle.nr_laws.proofs.NewSinks.{AreKnown}
use Rattle.nr_laws.proofs.EndsOfFrames.{server_send, server_part}
use Rattle.nr_laws.proofs.AllowedResponses.{server_response_taken}
use Rattle.nr_laws.proofs.EachEffect.{held_messages, held_responses, send_effect, tagged_effect_lem}
use Rattle.nr_reduce.proofs.OwnStags.{closed_length, closed_stag}
use Rattle.nr_laws.proofs.SendFrames.{at_front}
use Rattle.nr_laws.proofs.ReadContents.{segment_is}

record Below (sends : ℕ) (regions : List Region) : Type 0 where
  stags : AreAtMost (λ (g : Region). g.stag) (length regions) regions
  calls : AreAtMost (λ (g : Region). g.call) sends regions

below_closed : (key : Region → ℕ) → ((b : Bool) (at : ℕ) (g : Region) → key (closed_if b at g) ≡ key g) → (n at : ℕ) (test : Region → Bool) (regions : List Region) → AreAtMost key n regions → AreAtMost key n (regions_closed test at regions)
unfolding regions_closed
below_closed key same n at test [] h = tt
below_closed key same n at test (g ∷ regions) h = (omega (arith, same (test g) at g, h.0), below_closed key same n at test regions h.1)

same_call_lem : (b : Bool) (at : ℕ) (g : Region) → (closed_if b at g).call ≡ g.call
same_call_lem true at g = refl
same_call_lem false at g = refl

closed_below : (sends at : ℕ) (test : Region → Bool) (regions : List Region) → Below sends regions → Below sends (regions_closed test at regions)
closed_below sends at test regions b = record {
  stags = subst (λ (n : ℕ). AreAtMost (λ (g : Region). g.stag) n (regions_closed test at regions)) (sym (closed_length test at regions)) (below_closed (λ (g : Region). g.stag) closed_stag (length regions) at test regions b.stags);
  calls = below_closed (λ (g : Region). g.call) same_call_lem sends at test regions b.calls;
}

pub length_from : (number place stag : ℕ) (lists : ChunkLists) (ps : List ℕ) → length (regions_from number place stag lists ps) ≡ length ps
length_from number place stag lists [] = refl
length_from number place stag lists (p ∷ ps) = ap (λ (n : ℕ). suc n) (length_from number place (stag + 1) lists ps)

stags_from : (number place stag m : ℕ) (lists : ChunkLists) (ps : List ℕ) → stag + length ps ≤ m + 1 → AreAtMost (λ (g : Region). g.stag) m (regions_from number place stag lists ps)
stags_from number place stag m lists [] le = tt
stags_from number place stag m lists (p ∷ ps) le = (omega (arith, le), stags_from number place (stag + 1) m lists ps (omega (arith, le)))

calls_from : (number place stag : ℕ) (lists : ChunkLists) (ps : List ℕ) → AreAtMost (λ (g : Region). g.call) number (regions_from number place stag lists ps)
calls_from number place stag lists [] = tt
calls_from number place stag lists (p ∷ ps) = (omega arith, calls_from number place (stag + 1) lists ps)

more_below : (n m : ℕ) (regions : List Region) → n ≤ m → Below n regions → Below m regions
more_below n m regions le b = record { stags = b.stags; calls = below_more (λ (g : Region). g.call) n m regions le b.calls }

message_below : (k : ServerState) (f : Frame) (message : SentMessage) → CompletesMessage k.received message → Below k.received.sends k.regions → frame_segment f ≡ Ok (last_segment k.received.sends message)
    → Below (k.received.sends + 1) (frame_effect k f).regions
message_below k f message completes b is =
    send_effect k (λ m. Unit {0}) (λ st. Below (k.received.sends + 1) st.regions)
    (held_messages k (λ m. Unit {0}) (λ calls reads regions. Below (k.received.sends + 1) regions) (more_below k.received.sends (k.received.sends + 1) k.regions (omega arith) b) pending) f message completes tt is
  where
    pending : (place : ℕ) (message : List ℕ) (c : PendingCall) → Unit {0} → verdict k message ≡ MakesPending c → Below (k.received.sends + 1) (k.regions ++ regions_of k place c)
    pending place message c good is =
        let new = verdict_new k message c is in
        let news = regions_of k place c in
        let all : length (k.regions ++ news) ≡ length k.regions + length (chunks_of c.lists) = length-append k.regions news ∙ ap (λ (n : ℕ). length k.regions + n) (length_from c.number place (next_stag k) c.lists (chunks_of c.lists)) in
        record {
          stags = below_append (λ (g : Region). g.stag) (length (k.regions ++ news)) k.regions news
              (below_more (λ (g : Region). g.stag) (length k.regions) (length (k.regions ++ news)) k.regions (omega (arith, all)) b.stags)
              (stags_from c.number place (next_stag k) (length (k.regions ++ news)) c.lists (chunks_of c.lists) (omega (arith, all)));
          calls = below_append (λ (g : Region). g.call) (k.received.sends + 1) k.regions news
              (below_more (λ (g : Region). g.call) k.received.sends (k.received.sends + 1) k.regions (omega arith) b.calls)
              (below_more (λ (g : Region). g.call) c.number (k.received.sends + 1) news (omega (arith, new.0.number)) (calls_from c.number place (next_stag k) c.lists (chunks_of c.lists)));
        }

response_below : (k : ServerState) (f : Frame) (last : Bool) (opcode stag to : ℕ) (payload : List ℕ) → Below k.received.sends k.regions → frame_segment f ≡ Ok (Tagged last opcode stag to payload) → Below k.received.sends (frame_effect k f).regions
response_below k f last opcode stag to payload b is =
    tagged_effect_lem k (λ st. Below k.received.sends st.regions) (held_responses k (λ calls reads regions. Below k.received.sends regions) b (λ c s g. g) (λ r reads is. b)) f last opcode stag to payload is

-- ---- All of the server

-- what the server's side of a matched link keeps
pub record ServerAgrees (opened : LinkParameters) (k : ClientState) (s : ServerState) (w : Transit) (place : ℕ) : Type 0 where
  pub counts : TotalsAgree k s w
  pub reads : ReadsAgree s w
  pub waits : PendingAgree s
  pub sinks : HaveSinks place s.regions s.reads
  pub regions : AreKnown s
  pub limits : ServerLimits s

-- A Send that is received ends the server only by the refusal of its effect; and if it doesn't, all is kept.
pub server_takes_send : (opened : LinkParameters) (k : ClientState) (s : ServerState) (w : Transit) (place : ℕ) (f : Frame) (message : SentMessage) (rest : List FrameContent) → ServerAgrees opened k s w place → WithinWindow opened k → w.up ≡ SendFrame message ∷ rest
    → Carries false s.received.sends s.received.requests f (SendFrame message) → 16 ≤ length message.bytes → length message.bytes ≤ s.up_max → place < f.end
    → (server_end opened s (FrameReceived f) ≡ refusal_end f (frame_effect s f).refusal) × ((frame_effect s f).refusal ≡ None → ServerAgrees opened k (server_state_after opened s (FrameReceived f)) (moved w (frame_effect s f) rest) f.end)
server_takes_send opened k s w place f message rest j g head p long short lt =
    let segment : Segment = last_segment s.received.sends message in
    let is : frame_segment f ≡ Ok segment = segment_is s.received.sends s.received.requests f (SendFrame message) segment p refl in
    let st = effect_in s f (Ok segment) in
    let new = subst (λ (e : FrameEffect). Below (s.received.sends + 1) e.regions) (step_is s f (Ok segment) is) (message_below s f message (at_front s.received.begun w.up w.queued_up (SendFrame message) rest head j.counts.whole_up).1 (record { stags = j.regions.stags; calls = j.regions.calls }) is) in
    let below = closed_below (s.received.sends + 1) f.end (is_over st.calls st.reads) st.regions new in (
      server_send opened k s w f message rest j.counts g head p long short,
      (λ goes_on. record {
        counts = totals_send_up opened k s w f message rest j.counts head p goes_on;
        reads = reads_send_up opened s w f message rest j.reads head p goes_on;
        waits = pending_agree_send_up opened s f message j.waits p goes_on;
        sinks = sinks_send_up opened s f place message j.regions j.sinks (omega (arith, lt)) p;
        regions = subst (λ (t : ServerState). AreKnown t) (sym (after_is_lem opened s f (Ok segment) p.behind is)) (record { stags = below.stags; calls = below.calls });
        limits = server_event opened s (FrameReceived f) j.limits;
      }),
    )

-- a segment of a Send that isn't its last doesn't end it
pub server_takes_part : (opened : LinkParameters) (k : ClientState) (s : ServerState) (w : Transit) (place : ℕ) (f : Frame) (named : Bool) (offset : ℕ) (payload : List ℕ) (rest : List FrameContent) → ServerAgrees opened k s w place → WithinWindow opened k → w.up ≡ PartFrame named offset payload ∷ rest
    → Carries false s.received.sends s.received.requests f (PartFrame named offset payload) → place < f.end
    → (server_end opened s (FrameReceived f) ≡ refusal_end f (frame_effect s f).refusal) × ServerAgrees opened k (server_state_after opened s (FrameReceived f)) (moved w (frame_effect s f) rest) f.end
server_takes_part opened k s w place f named offset payload rest j g head p lt =
    let segment : Segment = part_segment s.received.sends offset payload in
    let is : frame_segment f ≡ Ok segment = segment_is s.received.sends s.received.requests f (PartFrame named offset payload) segment p refl in
    let st = effect_in s f (Ok segment) in
    let below = closed_below s.received.sends f.end (is_over st.calls st.reads) st.regions (record { stags = j.regions.stags; calls = j.regions.calls }) in (
      server_part opened k s w f named offset payload rest j.counts g head p,
      record {
        counts = totals_part_up opened k s w f named offset payload rest j.counts head p;
        reads = reads_part_up opened s w f named offset payload rest j.reads head p;
        waits = pending_agree_part_up opened s f named offset payload j.waits p;
        sinks = sinks_part_up opened s f place named offset payload j.sinks (omega (arith, lt)) p;
        regions = subst (λ (t : ServerState). AreKnown t) (sym (after_is_lem opened s f (Ok segment) p.behind is)) (record { stags = below.stags; calls = below.calls });
        limits = server_event opened s (FrameReceived f) j.limits;
      },
    )

-- and so does a segment of a Response: it is the one expected, and reaches a region that is live
pub server_takes_response : (opened : LinkParameters) (k : ClientState) (s : ServerState) (w : Transit) (place : ℕ) (f : Frame) (last : Bool) (opcode stag to : ℕ) (payload : List ℕ) (rest : List FrameContent) → ServerAgrees opened k s w place
    → w.up ≡ TaggedFrame last opcode stag to payload ∷ rest → Carries false s.received.sends s.received.requests f (TaggedFrame last opcode stag to payload) → place < f.end
    → (server_end opened s (FrameReceived f) ≡ refusal_end f (frame_effect s f).refusal) × ((frame_effect s f).refusal ≡ None → ServerAgrees opened k (server_state_after opened s (FrameReceived f)) (moved w (frame_effect s f) rest) f.end)
server_takes_response opened k s w place f last opcode stag to payload rest j head p lt =
    let segment : Segment = Tagged last opcode stag to payload in
    let is : frame_segment f ≡ Ok segment = segment_is s.received.sends s.received.requests f (TaggedFrame last opcode stag to payload) segment p refl in
    let st = effect_in s f (Ok segment) in
    let new = subst (λ (e : FrameEffect). Below s.received.sends e.regions) (step_is s f (Ok segment) is) (response_below s f last opcode stag to payload (record { stags = j.regions.stags; calls = j.regions.calls }) is) in
    let below = closed_below s.received.sends f.end (is_over st.calls st.reads) st.regions new in (
      server_response_taken opened s w f place last opcode stag to payload rest j.reads j.sinks lt head p,
      (λ goes_on. record {
        counts = totals_tagged_up opened k s w f last opcode stag to payload rest j.counts j.waits.numbers head p;
        reads = reads_tagged_up opened s w f last opcode stag to payload rest j.reads head p;
        waits = pending_agree_tagged_up opened s f last opcode stag to payload j.waits p goes_on;
        sinks = sinks_tagged_up opened s f place last opcode stag to payload j.sinks (omega (arith, lt)) p;
        regions = subst (λ (t : ServerState). AreKnown t) (sym (after_is_lem opened s f (Ok segment) p.behind is)) (record { stags = below.stags; calls = below.calls });
        limits = server_event opened s (FrameReceived f) j.limits;
      }),
    )
