-- What a server accesses stays offered after each frame that a side of a matched link receives.
use Rattle.std.proofs.Common.{◌≡◌, ℕ, ◌≤◌, ◌<◌, true, eqb, List, [], ◌∷◌, ◌++◌, Ok, refl, sym, ap, subst, ◌∙◌, arith, None, false}
use Rattle.std.specs.List.{AllByRecursion, list_any}
use Rattle.std.proofs.lemmas.Bool.{eq-eqb}
use Rattle.nr_wire.specs.declared.hello.Side.TheVariants.{Initiator, Responder}
use Rattle.nr_wire.specs.Segment.{Segment}
use Rattle.nr_wire.specs.Segment.Segment.{Tagged}
use Rattle.nr_link.specs.Frames.{Frame}
use Rattle.nr_link.specs.Ending.{frame_segment}
use Rattle.nr_reduce.specs.declared.mark.LinkParameters.{LinkParameters}
use Rattle.nr_reduce.specs.Plans.{one_if}
use Rattle.nr_reduce.specs.Events.RunEvent.{FrameReceived}
use Rattle.nr_reduce.specs.ClientState.{ClientState}
use Rattle.nr_reduce.specs.ServerState.{ServerState, PendingCall}
use Rattle.nr_reduce.specs.Client.{client_state_after, client_end}
use Rattle.nr_reduce.specs.Server.{server_state_after, server_end}
use Rattle.nr_reduce.specs.ServerFrames.{frame_effect}
use Rattle.nr_laws.proofs.FrameContents.{FrameContent, frame_bytes, total_of, sends_in, requests_in, client_frames, server_frames, Carries, last_segment, part_segment, written_segment, IsSent}
use Rattle.nr_laws.proofs.FrameContents.FrameContent.{HelloFrame, PartFrame, SendFrame, RequestFrame, TaggedFrame}
use Rattle.nr_laws.proofs.LinkInvariants.{Transit}
use Rattle.nr_laws.proofs.Totals.{total_append}
use Rattle.nr_laws.proofs.CompletedFrames.{is_piece}
use Rattle.nr_laws.proofs.Writable.{IsOutput, proper_one, stream_first, stream_at_lem}
use Rattle.nr_laws.proofs.AgreeingEnds.{EndsAgree, IsPlace, frame_of}
use Rattle.nr_laws.proofs.GuardsAtServer.{each_at}
use Rattle.nr_laws.proofs.AnsweredCalls.{message_xids, times, executed_less}
use Rattle.nr_laws.proofs.AnsweredSteps.{given_to}
use Rattle.nr_laws.proofs.OfferedAccesses.{MessageOffered, AccessesAgree}
use Rattle.nr_laws.proofs.EffectsOffered.{EffectOffered, effect_send, effect_tagged, effect_part}
use Rattle.nr_laws.proofs.AccessesAtClient.{accessed_hello_down, accessed_piece_down}
use Rattle.nr_laws.proofs.AccessesAtServer.{accessed_hello_up, accessed_frame_up}
use Rattle.nr_laws.proofs.SendFrames.{at_front}
use Rattle.nr_laws.proofs.ReadContents.{segment_is, carries_at_client, carries_at_server}

-- ---- The client

-- what the frame at the front has, after the hello
pub front_piece_down : (opened : LinkParameters) (k : ClientState) (s : ServerState) (u : List FrameContent) (q : FrameContent) (d all_up all_down : List FrameContent) (w : Transit) (p : FrameContent) (rest : List FrameContent) (n r place : ℕ) → EndsAgree opened k s u (q ∷ d) all_up all_down w → w.down ≡ p ∷ rest
    → n ≡ total_of sends_in (q ∷ d) → r ≡ total_of requests_in (q ∷ d) → 0 < place → IsSent k.received.sends k.received.requests (frame_of (frame_bytes opened Responder (written_segment n r p)) place) p
front_piece_down opened k s u q d all_up all_down w p rest n r place l first sends requests at =
    let stream : IsOutput (q ∷ d ++ p ∷ (rest ++ w.queued_down)) = subst IsOutput (sym l.parts_down ∙ ap (λ (ps : List FrameContent). q ∷ d ++ (ps ++ w.queued_down)) first) l.stream_down in
    let proper = stream_at_lem q d p (rest ++ w.queued_down) stream in
    let f = frame_of (frame_bytes opened Responder (written_segment n r p)) place in
    subst (λ (x : ℕ). IsSent x k.received.requests f p) (sends ∙ sym l.sends_down) (subst (λ (x : ℕ). IsSent n x f p) (requests ∙ sym l.requests_down) (is_piece opened Responder n r place p (proper_one n r p proper) at))

pub accessed_down : (opened : LinkParameters) (k : ClientState) (s : ServerState) (u d all_up all_down : List FrameContent) (w : Transit) (p : FrameContent) (rest : List FrameContent) (n r place at : ℕ) → EndsAgree opened k s u d all_up all_down w → w.down ≡ p ∷ rest
    → n ≡ total_of sends_in d → r ≡ total_of requests_in d → IsPlace d place → client_end k (FrameReceived (frame_of (frame_bytes opened Responder (written_segment n r p)) place)) ≡ None → AccessesAgree opened k s d all_up all_down at
    → AccessesAgree opened (client_state_after opened k (FrameReceived (frame_of (frame_bytes opened Responder (written_segment n r p)) place))) s (d ++ p ∷ []) (all_up ++ client_frames opened k (FrameReceived (frame_of (frame_bytes opened Responder (written_segment n r p)) place))) all_down at
accessed_down opened k s u [] all_up all_down w p rest n r place at l first sends requests is stays h =
    let stream : IsOutput (p ∷ (rest ++ w.queued_down)) = subst IsOutput (sym l.parts_down ∙ ap (λ (ps : List FrameContent). ps ++ w.queued_down) first) l.stream_down in
    let hello : p ≡ HelloFrame = stream_first p (rest ++ w.queued_down) stream in
    let f = frame_of (frame_bytes opened Responder (written_segment n r p)) place in
    subst (λ (q : FrameContent). AccessesAgree opened (client_state_after opened k (FrameReceived f)) s (q ∷ []) (all_up ++ client_frames opened k (FrameReceived f)) all_down at) (sym hello)
    (accessed_hello_down opened k s [] all_up all_down at f h (ap (λ (x : ℕ). eqb x 0) is))
accessed_down opened k s u (q ∷ d) all_up all_down w p rest n r place at l first sends requests is stays h =
    accessed_piece_down opened k s (q ∷ d) all_up all_down at p (rest ++ w.queued_down) (frame_of (frame_bytes opened Responder (written_segment n r p)) place) h (at_front k.received.begun w.down w.queued_down p rest first l.counts.whole_down)
    (carries_at_client k k.received.sends k.received.requests (frame_of (frame_bytes opened Responder (written_segment n r p)) place) p stays (front_piece_down opened k s u q d all_up all_down w p rest n r place l first sends requests is))

-- ---- The server

piece_offered : (opened : LinkParameters) (k : ClientState) (s : ServerState) (u d all_up all_down : List FrameContent) (w : Transit) (p : FrameContent) (rest : List FrameContent) (at : ℕ) (f : Frame) → EndsAgree opened k s u d all_up all_down w → w.up ≡ p ∷ rest → Carries false s.received.sends s.received.requests f p
    → AccessesAgree opened k s d all_up all_down at → EffectOffered k.regions (frame_effect s f)
piece_offered opened k s u d all_up all_down w HelloFrame rest at f l first piece h = absurd (let wrong = piece.is_segment in cc)
piece_offered opened k s u d all_up all_down w (PartFrame named offset payload) rest at f l first piece h =
    let segment : Segment = part_segment s.received.sends offset payload in
    let reads : frame_segment f ≡ Ok segment = segment_is s.received.sends s.received.requests f (PartFrame named offset payload) segment piece refl in
    effect_part k.regions s f offset payload h.calls h.waiting reads
piece_offered opened k s u d all_up all_down w (SendFrame message) rest at f l first piece h =
    let segment : Segment = last_segment s.received.sends message in
    let reads : frame_segment f ≡ Ok segment = segment_is s.received.sends s.received.requests f (SendFrame message) segment piece refl in
    let own : MessageOffered k.regions (SendFrame message) =
    each_at (MessageOffered k.regions) u (SendFrame message) (rest ++ w.queued_up) (subst (AllByRecursion (MessageOffered k.regions)) (sym l.parts_up ∙ ap (λ (ps : List FrameContent). u ++ (ps ++ w.queued_up)) first) h.up_said) in
    effect_send k.regions s f message (at_front s.received.begun w.up w.queued_up (SendFrame message) rest first l.counts.whole_up).1 own h.calls h.waiting reads
piece_offered opened k s u d all_up all_down w (RequestFrame sink at_sink size stag to) rest at f l first piece h =
    absurd (omega (arith, l.no_reads, ap (total_of requests_in) l.parts_up, total_append requests_in u (w.up ++ w.queued_up), total_append requests_in w.up w.queued_up, ap (total_of requests_in) first))
piece_offered opened k s u d all_up all_down w (TaggedFrame last opcode stag to payload) rest at f l first piece h =
    let segment : Segment = Tagged last opcode stag to payload in
    let reads : frame_segment f ≡ Ok segment = segment_is s.received.sends s.received.requests f (TaggedFrame last opcode stag to payload) segment piece refl in
    effect_tagged k.regions s f last opcode stag to payload h.calls h.waiting reads

pub accessed_up : (opened : LinkParameters) (k : ClientState) (s : ServerState) (u d all_up all_down : List FrameContent) (w : Transit) (p : FrameContent) (rest : List FrameContent) (n r place at : ℕ) → EndsAgree opened k s u d all_up all_down w → w.up ≡ p ∷ rest
    → n ≡ total_of sends_in u → r ≡ total_of requests_in u → IsPlace u place → server_end opened s (FrameReceived (frame_of (frame_bytes opened Initiator (written_segment n r p)) place)) ≡ None
    → ((x : ℕ) → given_to x (all_down ++ server_frames opened s (FrameReceived (frame_of (frame_bytes opened Initiator (written_segment n r p)) place))) (server_state_after opened s (FrameReceived (frame_of (frame_bytes opened Initiator (written_segment n r p)) place))).calls ≤ 1)
    → AccessesAgree opened k s d all_up all_down at
    → AccessesAgree opened k (server_state_after opened s (FrameReceived (frame_of (frame_bytes opened Initiator (written_segment n r p)) place))) d all_up (all_down ++ server_frames opened s (FrameReceived (frame_of (frame_bytes opened Initiator (written_segment n r p)) place))) at
accessed_up opened k s [] d all_up all_down w p rest n r place at l first sends requests is stays once h =
    accessed_hello_up opened k s d all_up all_down at (frame_of (frame_bytes opened Initiator (written_segment n r p)) place) h (ap (λ (x : ℕ). eqb x 0) is)
accessed_up opened k s (q ∷ u) d all_up all_down w p rest n r place at l first sends requests is stays once h =
    let stream : IsOutput (q ∷ u ++ p ∷ (rest ++ w.queued_up)) = subst IsOutput (sym l.parts_up ∙ ap (λ (ps : List FrameContent). q ∷ u ++ (ps ++ w.queued_up)) first) l.stream_up in
    let proper = stream_at_lem q u p (rest ++ w.queued_up) stream in
    let f = frame_of (frame_bytes opened Initiator (written_segment n r p)) place in
    let piece : Carries false s.received.sends s.received.requests f p =
    carries_at_server opened s s.received.sends s.received.requests f p stays
    (subst (λ (x : ℕ). IsSent x s.received.requests f p) (sends ∙ sym l.sends_up) (subst (λ (x : ℕ). IsSent n x f p) (requests ∙ sym l.requests_up) (is_piece opened Initiator n r place p (proper_one n r p proper) is))) in
    accessed_frame_up opened k s d all_up all_down at f h piece.behind (piece_offered opened k s (q ∷ u) d all_up all_down w p rest at f l first piece h) once

-- no message answers a call that is pending
pub pending_unanswered : (xid : ℕ) (all_down : List FrameContent) (calls : List PendingCall) → ((x : ℕ) → given_to x all_down calls ≤ 1) → list_any (λ (c : PendingCall). eqb c.xid xid) calls ≡ true → times xid (message_xids all_down) ≡ 0
pending_unanswered xid all_down calls once there = omega (arith, once xid, executed_less xid xid calls there, ap one_if (eq-eqb xid xid refl))
