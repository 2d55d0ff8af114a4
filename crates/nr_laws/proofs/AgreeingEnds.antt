-- All that holds between both ends of a link of which neither has ended, given the frames that each side received and sent.
use Rattle.std.proofs.Common.{◌≡◌, ℕ, ◌+◌, ◌<◌, true, false, cond, eqb, List, [], ◌∷◌, ◌++◌, length, replicate, Option, Some, None, Result, Ok, refl, sym, ap, subst, ◌∙◌, arith, append_assoc, append-nil}
use Rattle.nr_xdr.specs.Item.{IsBytes}
use Rattle.nr_xdr.proofs.Chains.{IsBytes_left, IsBytes_right}
use Rattle.nr_wire.specs.declared.hello.Side.TheVariants.{Initiator, Responder}
use Rattle.nr_wire.specs.Hello.{hello_of}
use Rattle.nr_wire.specs.Fields.{half_word}
use Rattle.nr_wire.specs.Segment.{Segment, encoding, header, payload_in, ulpdu_size, tail_len}
use Rattle.nr_wire.specs.Segment.Segment.{Tagged}
use Rattle.nr_link.specs.declared.end.End.{End}
use Rattle.nr_link.specs.Frames.{Frame, is_hello}
use Rattle.nr_link.specs.Ending.{frame_segment, frame_end, hello_end}
use Rattle.nr_reduce.specs.Hellos.{server_hello}
use Rattle.nr_reduce.specs.declared.mark.LinkParameters.{LinkParameters}
use Rattle.nr_reduce.specs.Events.RunEvent.{FrameReceived}
use Rattle.nr_reduce.specs.OfferedRegions.{region_grants}
use Rattle.nr_reduce.specs.ClientState.{ClientState}
use Rattle.nr_reduce.specs.ServerState.{ServerState}
use Rattle.nr_reduce.specs.ServerFrames.{FrameEffect, effect_in, frame_effect}
use Rattle.nr_reduce.specs.Server.{server_end, server_state_after, server_output, server_readiness, or_refusal, refusal_end, newly_open_reads, effect_output, with_effect, with_own_hello, received_by}
use Rattle.nr_laws.proofs.FirstHellos.{first_hello, first_of_server}
use Rattle.nr_laws.proofs.FrameContents.{FrameContent, frame_bytes, output_bytes, total_of, sends_in, requests_in, hellos_in, effect_frames, server_frames, Carries, SentMessage, CompletesMessage, part_segment, last_segment, written_segment, IsSent, written_last, written_part}
use Rattle.nr_laws.proofs.FrameContents.FrameContent.{HelloFrame, PartFrame, SendFrame, RequestFrame, TaggedFrame}
use Rattle.nr_laws.proofs.LinkInvariants.{Transit, TotalsAgree, PendingAgree}
use Rattle.nr_laws.proofs.Totals.{total_append}
use Rattle.nr_laws.proofs.CompletedFrames.{is_piece}
use Rattle.nr_laws.proofs.TotalsAtServer.{totals_hello_up, totals_send_up, totals_tagged_up, after_is_lem, step_is, with_by, reads_said, hello_said, totals_part_up}
use Rattle.nr_laws.proofs.PendingFrames.{pending_agree_send_up, pending_agree_tagged_up, pending_agree_part_up}
use Rattle.nr_laws.proofs.OwnXids.{OwnXids}
use Rattle.nr_laws.proofs.OutputFrames.{step_said}
use Rattle.nr_laws.proofs.Writable.{IsWritable, IsOutput, proper_one, stream_more, stream_none, stream_first, stream_at_lem}
use Rattle.nr_laws.proofs.ServerOutputs.{CallsFit}
use Rattle.nr_laws.proofs.ServerOutput.{SaysFine, fine_send, fine_tagged, fine_part}
use Rattle.nr_laws.proofs.Outputs.{CallsShort}
use Rattle.nr_laws.proofs.SendFrames.{at_front}
use Rattle.nr_laws.proofs.Bytes.{bytes_both}
use Rattle.nr_link.specs.ReceiveState.{ReceiveState, begun_bytes}
use Rattle.nr_laws.proofs.ReadContents.{segment_is, carries_at_server}

-- `u` and `d` are what the server and the client received, `all_up` and `all_down` what the client and the server sent or queued
pub record EndsAgree (opened : LinkParameters) (k : ClientState) (s : ServerState) (u d all_up all_down : List FrameContent) (w : Transit) : Type 0 where
  pub parts_up : u ++ (w.up ++ w.queued_up) ≡ all_up
  pub parts_down : d ++ (w.down ++ w.queued_down) ≡ all_down
  pub counts : TotalsAgree k s w
  pub waits : PendingAgree s
  pub outs : OwnXids opened k
  pub fits : CallsFit s.calls
  pub short : CallsShort opened k.outstanding
  pub stream_up : IsOutput all_up
  pub begins_up : 0 < total_of hellos_in all_up
  pub stream_down : IsOutput all_down
  pub hellos_down : total_of hellos_in all_down ≡ total_of hellos_in u
  pub no_reads : total_of requests_in all_up ≡ 0
  pub sends_up : s.received.sends ≡ total_of sends_in u
  pub requests_up : s.received.requests ≡ total_of requests_in u
  pub sends_down : k.received.sends ≡ total_of sends_in d
  pub requests_down : k.received.requests ≡ total_of requests_in d
  pub requests_sent : s.requests_sent ≡ total_of requests_in all_down
  pub bytes_up : IsBytes (begun_bytes s.received.begun)

-- the first frame is at offset 0, and no other is
abbrev pub IsPlace : List FrameContent → ℕ → Type 0
IsPlace [] place = place ≡ 0
IsPlace (p ∷ ps) place = 0 < place

-- the frame of these bytes at an offset
abbrev pub frame_of : List ℕ → ℕ → Frame
frame_of bytes place = record { at = place; end = place + length bytes; bytes = bytes }

-- ---- A server that a frame doesn't end

refusal_by : (s : ServerState) (f : Frame) (found : Option End) (refusal : Option ℕ) → (frame_effect s f).refusal ≡ refusal → or_refusal s f found ≡ None → refusal ≡ None
refusal_by s f (Some end) refusal is e = absurd cc
refusal_by s f None None is e = refl
refusal_by s f None (Some reason) is e = absurd (let wrong : refusal_end f (Some reason) ≡ None = ap (λ (r : Option ℕ). refusal_end f r) (sym is) ∙ e in cc)

pub not_refused_lem : (opened : LinkParameters) (s : ServerState) (f : Frame) → is_hello f ≡ false → server_end opened s (FrameReceived f) ≡ None → (frame_effect s f).refusal ≡ None
unfolding server_end
not_refused_lem opened s f behind e =
    refusal_by s f (frame_end (server_readiness opened s) (region_grants f.end s.regions) f) (frame_effect s f).refusal refl
    ((λ i. cond (sym behind i) (hello_end (hello_of Initiator f.bytes)) (or_refusal s f (frame_end (server_readiness opened s) (region_grants f.end s.regions) f))) ∙ e)

pub says_hello : (opened : LinkParameters) (s : ServerState) (f : Frame) → is_hello f ≡ true → server_frames opened s (FrameReceived f) ≡ HelloFrame ∷ []
unfolding server_frames
says_hello opened s f is = λ i. cond (is i) (HelloFrame ∷ []) (effect_frames (frame_effect s f))

pub says_frame : (opened : LinkParameters) (s : ServerState) (f : Frame) → is_hello f ≡ false → server_frames opened s (FrameReceived f) ≡ effect_frames (frame_effect s f)
unfolding server_frames
says_frame opened s f is = λ i. cond (is i) (HelloFrame ∷ []) (effect_frames (frame_effect s f))

pub after_hello : (opened : LinkParameters) (s : ServerState) (f : Frame) → is_hello f ≡ true → server_state_after opened s (FrameReceived f) ≡ with_own_hello opened s f
unfolding server_state_after
after_hello opened s f is = λ i. cond (is i) (with_own_hello opened s f) (with_effect s f (frame_effect s f))

output_hello : (opened : LinkParameters) (s : ServerState) (f : Frame) → is_hello f ≡ true → server_output opened s (FrameReceived f) ≡ server_hello opened f
unfolding server_output
output_hello opened s f is = λ i. cond (is i) (server_hello opened f) (effect_output s (frame_effect s f))

output_frame : (opened : LinkParameters) (s : ServerState) (f : Frame) → is_hello f ≡ false → server_output opened s (FrameReceived f) ≡ effect_output s (frame_effect s f)
unfolding server_output
output_frame opened s f is = λ i. cond (is i) (server_hello opened f) (effect_output s (frame_effect s f))

-- ---- What is kept

abbrev pub taken_up : Transit → List FrameContent → List FrameContent → Transit
taken_up w rest said = record { queued_up = w.queued_up; up = rest; queued_down = w.queued_down ++ said; down = w.down }

server_linked : (opened : LinkParameters) (k : ClientState) (s t : ServerState) (u d all_up all_down : List FrameContent) (w : Transit) (p : FrameContent) (rest said : List FrameContent) → EndsAgree opened k s u d all_up all_down w → w.up ≡ p ∷ rest
    → TotalsAgree k t (taken_up w rest said) → PendingAgree t → CallsFit t.calls → IsOutput (all_down ++ said) → total_of hellos_in said ≡ hellos_in p
    → t.received.sends ≡ s.received.sends + sends_in p → t.received.requests ≡ s.received.requests + requests_in p → t.requests_sent ≡ s.requests_sent + total_of requests_in said → IsBytes (begun_bytes t.received.begun)
    → EndsAgree opened k t (u ++ p ∷ []) d all_up (all_down ++ said) (taken_up w rest said)
server_linked opened k s t u d all_up all_down w p rest said l first counts waits fits stream hellos sends requests asked begun = record {
  parts_up = append_assoc u (p ∷ []) (rest ++ w.queued_up) ∙ ap (λ (ps : List FrameContent). u ++ (ps ++ w.queued_up)) (sym first) ∙ l.parts_up;
  parts_down =
      ap (λ (ps : List FrameContent). d ++ ps) (sym (append_assoc w.down w.queued_down said)) ∙ sym (append_assoc d (w.down ++ w.queued_down) said) ∙ ap (λ (ps : List FrameContent). ps ++ said) l.parts_down;
  counts = counts;
  waits = waits;
  outs = l.outs;
  fits = fits;
  short = l.short;
  stream_up = l.stream_up;
  begins_up = l.begins_up;
  stream_down = stream;
  hellos_down = omega (arith, total_append hellos_in all_down said, total_append hellos_in u (p ∷ []), hellos, l.hellos_down);
  no_reads = l.no_reads;
  sends_up = omega (arith, sends, l.sends_up, total_append sends_in u (p ∷ []));
  requests_up = omega (arith, requests, l.requests_up, total_append requests_in u (p ∷ []));
  sends_down = l.sends_down;
  requests_down = l.requests_down;
  requests_sent = omega (arith, asked, l.requests_sent, total_append requests_in all_down said);
  bytes_up = begun;
}

-- the messages of the server so far
pub messages_said : (opened : LinkParameters) (k : ClientState) (s : ServerState) (u d all_up all_down : List FrameContent) (w : Transit) → EndsAgree opened k s u d all_up all_down w → s.messages_queued ≡ total_of sends_in all_down
messages_said opened k s u d all_up all_down w l =
    omega (arith, l.counts.messages_down, l.sends_down, ap (total_of sends_in) l.parts_down, total_append sends_in d (w.down ++ w.queued_down), total_append sends_in w.down w.queued_down)

pub record ServerTook (opened : LinkParameters) (k : ClientState) (s : ServerState) (u d all_up all_down : List FrameContent) (w : Transit) (p : FrameContent) (rest : List FrameContent) (f : Frame) : Type 0 where
  pub said : List FrameContent
  pub said_is : said ≡ server_frames opened s (FrameReceived f)
  pub output : server_output opened s (FrameReceived f) ≡ output_bytes opened Responder (total_of sends_in all_down) (total_of requests_in all_down) said
  pub linked : EndsAgree opened k (server_state_after opened s (FrameReceived f)) (u ++ p ∷ []) d all_up (all_down ++ said) (taken_up w rest said)

-- the payload of an FPDU of bytes is bytes
pub payload_bytes : (segment : Segment) → IsBytes (encoding segment) → IsBytes (payload_in segment)
unfolding encoding
payload_bytes segment h =
    let tail : List ℕ = replicate (tail_len (ulpdu_size segment)) 0 in
    let front : List ℕ = half_word (ulpdu_size segment) ++ header 0 0 segment in
    IsBytes_right front (payload_in segment) (IsBytes_left (front ++ payload_in segment) tail h)

-- a hello that is due changes no call
pub waits_greeted : (opened : LinkParameters) (s : ServerState) (f : Frame) → PendingAgree s → PendingAgree (with_own_hello opened s f)
waits_greeted opened s f h = record { numbers = h.numbers; xids = h.xids; calls_below = h.calls_below; reads_below = h.reads_below; ready_apart = h.ready_apart; ready_calls = h.ready_calls; whole_calls = h.whole_calls }

-- the client's hello
took_hello : (opened : LinkParameters) (k : ClientState) (s : ServerState) (u d all_up all_down : List FrameContent) (w : Transit) (rest : List FrameContent) (f : Frame) → EndsAgree opened k s u d all_up all_down w → w.up ≡ HelloFrame ∷ rest
    → u ≡ [] → is_hello f ≡ true → f.bytes ≡ first_hello opened Initiator → ServerTook opened k s u d all_up all_down w HelloFrame rest f
took_hello opened k s u d all_up all_down w rest f l first none is bytes =
    let says = says_hello opened s f is in
    let after = after_hello opened s f is in
    let empty : all_down ≡ [] = stream_none all_down l.stream_down (l.hellos_down ∙ ap (total_of hellos_in) none) in
    let counts : TotalsAgree k (server_state_after opened s (FrameReceived f)) (taken_up w rest (HelloFrame ∷ [])) =
    subst (λ (said : List FrameContent). TotalsAgree k (server_state_after opened s (FrameReceived f)) (taken_up w rest said)) says (totals_hello_up opened k s w f rest l.counts first is) in
    record {
      said = HelloFrame ∷ [];
      said_is = sym says;
      output = output_hello opened s f is ∙ first_of_server opened f bytes ∙ sym (append-nil (first_hello opened Responder));
      linked =
          server_linked opened k s (server_state_after opened s (FrameReceived f)) u d all_up all_down w HelloFrame rest (HelloFrame ∷ []) l first counts
          (subst (λ (t : ServerState). PendingAgree t) (sym after) (waits_greeted opened s f l.waits)) (subst (λ (t : ServerState). CallsFit t.calls) (sym after) l.fits)
          (subst (λ (ps : List FrameContent). IsOutput (ps ++ HelloFrame ∷ [])) (sym empty) tt) refl
          (omega (arith, ap (λ (t : ServerState). t.received.sends) after)) (omega (arith, ap (λ (t : ServerState). t.received.requests) after)) (omega (arith, ap (λ (t : ServerState). t.requests_sent) after))
          (subst (λ (t : ServerState). IsBytes (begun_bytes t.received.begun)) (sym after) l.bytes_up);
    }

-- another frame, by what its effect sends
took_frame : (opened : LinkParameters) (k : ClientState) (s : ServerState) (u d all_up all_down : List FrameContent) (w : Transit) (p : FrameContent) (rest : List FrameContent) (f : Frame) (r : Result Segment ℕ) → EndsAgree opened k s u d all_up all_down w → w.up ≡ p ∷ rest
    → is_hello f ≡ false → frame_segment f ≡ r → 0 < total_of hellos_in all_down → hellos_in p ≡ 0 → SaysFine (frame_effect s f)
    → TotalsAgree k (server_state_after opened s (FrameReceived f)) (taken_up w rest (effect_frames (frame_effect s f))) → PendingAgree (server_state_after opened s (FrameReceived f))
    → (with_by s f r (effect_in s f r)).received.sends ≡ s.received.sends + sends_in p → (with_by s f r (effect_in s f r)).received.requests ≡ s.received.requests + requests_in p → IsBytes (begun_bytes (received_by s.received r).begun)
    → ServerTook opened k s u d all_up all_down w p rest f
took_frame opened k s u d all_up all_down w p rest f r l first behind is some no_hello fine counts waits sends requests begun =
    let said = effect_frames (frame_effect s f) in
    let after = after_is_lem opened s f r behind is in
    let effect = step_is s f r is in
    record {
      said = said;
      said_is = sym (says_frame opened s f behind);
      output =
          output_frame opened s f behind ∙ step_said opened s (frame_effect s f)
          ∙ (λ i. output_bytes opened Responder (messages_said opened k s u d all_up all_down w l i) (l.requests_sent i) said);
      linked =
          server_linked opened k s (server_state_after opened s (FrameReceived f)) u d all_up all_down w p rest said l first counts waits
          (subst CallsFit (ap (λ (e : FrameEffect). e.calls) effect ∙ ap (λ (t : ServerState). t.calls) (sym after)) fine.fit)
          (stream_more all_down said l.stream_down some fine.proper)
          (hello_said (frame_effect s f) ∙ sym no_hello)
          (ap (λ (t : ServerState). t.received.sends) after ∙ sends) (ap (λ (t : ServerState). t.received.requests) after ∙ requests)
          (omega (arith, ap (λ (t : ServerState). t.requests_sent) after, ap (λ (e : FrameEffect). length (newly_open_reads e)) effect, reads_said (frame_effect s f)))
          (subst (λ (t : ServerState). IsBytes (begun_bytes t.received.begun)) (sym after) begun);
    }

no_bytes : IsBytes []
no_bytes = λ i. omega arith

-- the bytes of a message that a segment completes
pub message_bytes : (h : ReceiveState) (message : SentMessage) → CompletesMessage h message → IsBytes (begun_bytes h.begun) → IsBytes message.payload → IsBytes message.bytes
message_bytes h message completes front rest = subst IsBytes completes (bytes_both (begun_bytes h.begun) message.payload front rest)

-- a frame after the hello
took_piece : (opened : LinkParameters) (k : ClientState) (s : ServerState) (u d all_up all_down : List FrameContent) (w : Transit) (p : FrameContent) (rest : List FrameContent) (f : Frame) → EndsAgree opened k s u d all_up all_down w → w.up ≡ p ∷ rest
    → IsWritable p → 0 < total_of hellos_in all_down → Carries false s.received.sends s.received.requests f p → IsBytes f.bytes → f.bytes ≡ frame_bytes opened Initiator (written_segment s.received.sends s.received.requests p)
    → server_end opened s (FrameReceived f) ≡ None → ServerTook opened k s u d all_up all_down w p rest f
took_piece opened k s u d all_up all_down w HelloFrame rest f l first proper some piece bytes is stays = absurd proper
took_piece opened k s u d all_up all_down w (PartFrame named offset payload) rest f l first proper some piece bytes is stays =
    let segment : Segment = part_segment s.received.sends offset payload in
    let reads : frame_segment f ≡ Ok segment = segment_is s.received.sends s.received.requests f (PartFrame named offset payload) segment piece refl in
    took_frame opened k s u d all_up all_down w (PartFrame named offset payload) rest f (Ok segment) l first piece.behind reads some refl (fine_part s f offset payload l.fits reads)
    (totals_part_up opened k s w f named offset payload rest l.counts first piece)
    (pending_agree_part_up opened s f named offset payload l.waits piece) (omega arith) (omega arith)
    (bytes_both (begun_bytes s.received.begun) payload l.bytes_up (payload_bytes (written_part s.received.sends named offset payload) (subst IsBytes is bytes)))
took_piece opened k s u d all_up all_down w (SendFrame message) rest f l first proper some piece bytes is stays =
    let segment : Segment = last_segment s.received.sends message in
    let reads : frame_segment f ≡ Ok segment = segment_is s.received.sends s.received.requests f (SendFrame message) segment piece refl in
    let goes_on = not_refused_lem opened s f piece.behind stays in
    let front = at_front s.received.begun w.up w.queued_up (SendFrame message) rest first l.counts.whole_up in
    let fine = fine_send s f message front.1 (message_bytes s.received message front.1 l.bytes_up (payload_bytes (written_last s.received.sends message) (subst IsBytes is bytes))) l.fits reads in
    took_frame opened k s u d all_up all_down w (SendFrame message) rest f (Ok segment) l first piece.behind reads some refl fine
    (totals_send_up opened k s w f message rest l.counts first piece goes_on)
    (pending_agree_send_up opened s f message l.waits piece goes_on) refl (omega arith) no_bytes
took_piece opened k s u d all_up all_down w (RequestFrame sink at size stag to) rest f l first proper some piece bytes is stays =
    absurd (omega (arith, l.no_reads, ap (total_of requests_in) l.parts_up, total_append requests_in u (w.up ++ w.queued_up), total_append requests_in w.up w.queued_up, ap (total_of requests_in) first))
took_piece opened k s u d all_up all_down w (TaggedFrame last opcode stag to payload) rest f l first proper some piece bytes is stays =
    let segment : Segment = Tagged last opcode stag to payload in
    let reads : frame_segment f ≡ Ok segment = segment_is s.received.sends s.received.requests f (TaggedFrame last opcode stag to payload) segment piece refl in
    let goes_on = not_refused_lem opened s f piece.behind stays in
    took_frame opened k s u d all_up all_down w (TaggedFrame last opcode stag to payload) rest f (Ok segment) l first piece.behind reads some refl (fine_tagged s f last opcode stag to payload l.fits reads)
    (totals_tagged_up opened k s w f last opcode stag to payload rest l.counts l.waits.numbers first piece)
    (pending_agree_tagged_up opened s f last opcode stag to payload l.waits piece goes_on) (omega arith) (omega arith) l.bytes_up

pub server_took : (opened : LinkParameters) (k : ClientState) (s : ServerState) (u d all_up all_down : List FrameContent) (w : Transit) (p : FrameContent) (rest : List FrameContent) (n r place : ℕ) → EndsAgree opened k s u d all_up all_down w → w.up ≡ p ∷ rest
    → n ≡ total_of sends_in u → r ≡ total_of requests_in u → IsPlace u place → IsBytes (frame_bytes opened Initiator (written_segment n r p))
    → server_end opened s (FrameReceived (frame_of (frame_bytes opened Initiator (written_segment n r p)) place)) ≡ None
    → ServerTook opened k s u d all_up all_down w p rest (frame_of (frame_bytes opened Initiator (written_segment n r p)) place)
server_took opened k s [] d all_up all_down w p rest n r place l first sends requests at bytes stays =
    let stream : IsOutput (p ∷ (rest ++ w.queued_up)) = subst IsOutput (sym l.parts_up ∙ ap (λ (ps : List FrameContent). ps ++ w.queued_up) first) l.stream_up in
    let hello : p ≡ HelloFrame = stream_first p (rest ++ w.queued_up) stream in
    let f = frame_of (frame_bytes opened Initiator (written_segment n r p)) place in
    subst (λ (q : FrameContent). ServerTook opened k s [] d all_up all_down w q rest f) (sym hello)
    (took_hello opened k s [] d all_up all_down w rest f l (first ∙ ap (λ (q : FrameContent). q ∷ rest) hello) refl (ap (λ (x : ℕ). eqb x 0) at) (ap (λ (q : FrameContent). frame_bytes opened Initiator (written_segment n r q)) hello))
server_took opened k s (q ∷ u) d all_up all_down w p rest n r place l first sends requests at bytes stays =
    let stream : IsOutput (q ∷ u ++ p ∷ (rest ++ w.queued_up)) = subst IsOutput (sym l.parts_up ∙ ap (λ (ps : List FrameContent). q ∷ u ++ (ps ++ w.queued_up)) first) l.stream_up in
    let proper = stream_at_lem q u p (rest ++ w.queued_up) stream in
    let f = frame_of (frame_bytes opened Initiator (written_segment n r p)) place in
    let n_is : n ≡ s.received.sends = sends ∙ sym l.sends_up in
    let r_is : r ≡ s.received.requests = requests ∙ sym l.requests_up in
    let begun : 0 < total_of hellos_in (q ∷ u) = hello_there q u (p ∷ (rest ++ w.queued_up)) stream in
    took_piece opened k s (q ∷ u) d all_up all_down w p rest f l first proper (omega (arith, begun, l.hellos_down))
    (carries_at_server opened s s.received.sends s.received.requests f p stays (subst (λ (x : ℕ). IsSent x s.received.requests f p) n_is (subst (λ (x : ℕ). IsSent n x f p) r_is (is_piece opened Initiator n r place p (proper_one n r p proper) at))))
    bytes (λ i. frame_bytes opened Initiator (written_segment (n_is i) (r_is i) p)) stays
  where
    hello_there : (q : FrameContent) (ps qs : List FrameContent) → IsOutput (q ∷ ps ++ qs) → 0 < total_of hellos_in (q ∷ ps)
    hello_there HelloFrame ps qs h = omega arith
    hello_there (PartFrame named offset payload) ps qs h = absurd h
    hello_there (SendFrame message) ps qs h = absurd h
    hello_there (RequestFrame sink at size stag to) ps qs h = absurd h
    hello_there (TaggedFrame last opcode stag to payload) ps qs h = absurd h
