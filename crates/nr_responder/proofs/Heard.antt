-- Where the last frame of the client's stream began, and the number in its hello: of a side of the link after a frame, and of marks.
use Rattle.std.proofs.Common.{◌≡◌, ℕ, ◌+◌, ◌<◌, Bool, true, false, eqb, cond, List, [], ◌∷◌, ◌++◌, length, Option, None, Some, Result, Ok, Err, refl, sym, ap, subst, ◌∙◌, arith}
use Rattle.std.specs.Prelude.{map}
use Rattle.std.proofs.lemmas.Bool.{eq-eqb, ne_eqb}
use Rattle.std.proofs.lemmas.List.{append-nil}
use Rattle.nr_wire.specs.Constants.{OPCODE_READ_RESPONSE}
use Rattle.nr_wire.specs.declared.hello.Side.{Side}
use Rattle.nr_wire.specs.declared.hello.Side.TheVariants.{Initiator, Responder}
use Rattle.nr_wire.specs.declared.stream.Awaited.{Awaited}
use Rattle.nr_wire.specs.declared.stream.Awaited.TheVariants.{Hello as HelloFrom, Fpdu}
use Rattle.nr_wire.specs.Hello.{Hello, hello_of}
use Rattle.nr_wire.specs.Segment.{Segment}
use Rattle.nr_wire.specs.Segment.Segment.{Tagged, Untagged}
use Rattle.nr_wire.specs.Stream.{Split, split, AreFrames}
use Rattle.nr_wire.proofs.Splits.{split_Splits}
use Rattle.nr_link.specs.Agreement.{client_number}
use Rattle.nr_link.specs.declared.end.End.{End}
use Rattle.nr_link.specs.Frames.{Frame, frames_from, frames_of, is_hello}
use Rattle.nr_link.specs.Input.{InputState, initial_input, input_after, input_of}
use Rattle.nr_link.proofs.Inputs.{input_of_append, input_of_none}
use Rattle.nr_endpoint.specs.Hellos.{client_heard}
use Rattle.nr_endpoint.specs.LinkState.{LinkState, LinkSide}
use Rattle.nr_endpoint.specs.Judging.{next_frame, next_segment, segment_end, with_effect, with_fpdu, with_frame, with_peer_hello, with_read_response, with_segment_by}
use Rattle.nr_reduce.specs.declared.mark.Mark.{Mark}
use Rattle.nr_reduce.specs.declared.mark.Mark.TheVariants as marks
use Rattle.nr_reduce.specs.Events.{RunEvent}
use Rattle.nr_reduce.specs.Events.RunEvent.{FrameReceived}
use Rattle.nr_reduce.specs.Hellos.{private_of}
use Rattle.nr_reduce.specs.History.{bytes_received, fed_at}
use Rattle.nr_reduce.specs.NumberedJournal.{number_heard, number_in_frames}
use Rattle.nr_reduce.specs.Served.{last_at, last_frame_at}
use Rattle.nr_reduce.proofs.Standing.{received_one}
use Rattle.nr_responder.specs.Heard.{client_after_all, last_after_all, Hears, KeepsHeard, SameHeard}
use Rattle.nr_responder.specs.Keeping.{Begins}
use Rattle.nr_responder.specs.Keeping.Begins.{BeforeHello, AfterHello}
use Rattle.nr_responder.specs.Steps.{received_events}
use Rattle.nr_responder.proofs.Frames.{hello_private}
use Rattle.nr_responder.proofs.Pieces.{client_parts, events_parts, last_parts}

-- ---- A frame

placed_heard : (b last : Bool) (n : ℕ) (s : LinkState) → (cond b (with_read_response last n s) s).client ≡ s.client
placed_heard true last n s = refl
placed_heard false last n s = refl

effect_heard : (segment : Segment) (s : LinkState) → (with_effect segment s).client ≡ s.client
unfolding with_effect
effect_heard (Tagged last opcode stag to payload) s = placed_heard (eqb opcode OPCODE_READ_RESPONSE) last (length payload) _
effect_heard (Untagged last opcode w queue msn offset payload) s = refl

segment_heard : (s : LinkState) (f : Frame) (segment : Segment) (e : Option End) → (with_segment_by f segment e s).ended ≡ None →
    ((with_segment_by f segment e s).last ≡ f.at) × ((with_segment_by f segment e s).client ≡ s.client)
segment_heard s f segment (Some end) live = absurd (let wrong : Some end ≡ None = live in cc)
segment_heard s f segment None live = (refl, effect_heard segment s)

fpdu_heard : (s : LinkState) (f : Frame) (r : Result Segment ℕ) → (with_fpdu f r s).ended ≡ None → ((with_fpdu f r s).last ≡ f.at) × ((with_fpdu f r s).client ≡ s.client)
unfolding with_fpdu
fpdu_heard s f (Ok segment) live = segment_heard s f segment (segment_end s f segment) live
fpdu_heard s f (Err reason) live = absurd cc

hello_heard : (s : LinkState) (frame : List ℕ) (r : Result Hello ℕ) → hello_of Initiator frame ≡ r → s.side ≡ Responder → (with_peer_hello (next_frame s frame) r s).ended ≡ None →
    ((with_peer_hello (next_frame s frame) r s).last ≡ s.place) × ((with_peer_hello (next_frame s frame) r s).client ≡ client_number (private_of (next_frame s frame)))
unfolding with_peer_hello
hello_heard s frame (Ok hello) reads side live = (refl, (λ i. client_heard s.terms (side i) (hello_private Initiator frame hello reads i)))
hello_heard s frame (Err reason) reads side live = absurd cc

-- what it knows then it knows on
pub same_hears : (s : LinkState) (es : List RunEvent) (l m : LinkSide) → SameHeard l m → Hears s es l.state → Hears s es m.state
same_hears s es l m same h = record { last = same.last ∙ h.last; client = same.client ∙ h.client }

-- A side that a frame didn't end knows where the frame began, and the number that it says, if it is the hello.
pub frame_heard : (l : LinkSide) (frame : List ℕ) → Begins l → l.state.side ≡ Responder → (with_frame l.state l.awaited frame).ended ≡ None →
    Hears l.state (FrameReceived (next_frame l.state frame) ∷ []) (with_frame l.state l.awaited frame)
frame_heard l frame (BeforeHello place awaited hello none) side live =
    let s : LinkState = l.state in
    let f : Frame = next_frame s frame in
    let as_hello : (with_frame s (HelloFrom Initiator) frame).ended ≡ None = subst (λ (a : Awaited). (with_frame s a frame).ended ≡ None) awaited live in
    let h = hello_heard s frame (hello_of Initiator frame) refl side as_hello in
    let first : is_hello f ≡ true = eq-eqb s.place 0 place in
    subst (λ (a : Awaited). Hears s (FrameReceived f ∷ []) (with_frame s a frame)) (sym awaited)
    (record { last = h.0; client = h.1 ∙ sym (ap (λ (b : Bool). cond b (client_number (private_of f)) s.client) first) })
frame_heard l frame (AfterHello place awaited hello) side live =
    let s : LinkState = l.state in
    let f : Frame = next_frame s frame in
    let as_fpdu : (with_frame s Fpdu frame).ended ≡ None = subst (λ (a : Awaited). (with_frame s a frame).ended ≡ None) awaited live in
    let h = fpdu_heard s f (next_segment s frame) as_fpdu in
    let later : is_hello f ≡ false = ne_eqb s.place 0 (λ e. omega (arith, e, place)) in
    subst (λ (a : Awaited). Hears s (FrameReceived f ∷ []) (with_frame s a frame)) (sym awaited)
    (record { last = h.0; client = h.1 ∙ sym (ap (λ (b : Bool). cond b (client_number (private_of f)) s.client) later) })

-- ---- Marks

last_is : (n : ℕ) (f : Frame) (frames : List Frame) → last_at (f ∷ frames) ≡ last_after_all n (map FrameReceived (f ∷ frames))
last_is n f [] = refl
last_is n f (g ∷ frames) = last_is f.at g frames

last_of : (frames : List Frame) → last_at frames ≡ last_after_all 0 (map FrameReceived frames)
last_of [] = refl
last_of (f ∷ frames) = last_is 0 f frames

-- no frame after the first is a hello
later_heard : (client at : ℕ) (frames : List (List ℕ)) → 0 < at → client_after_all client (map FrameReceived (frames_from at frames)) ≡ client
later_heard client at [] some = refl
later_heard client at (bytes ∷ frames) some =
    let f : Frame = record { at = at; end = at + length bytes; bytes = bytes } in
    let later : is_hello f ≡ false = ne_eqb at 0 (λ e. omega (arith, e, some)) in
    ap (λ (b : Bool). client_after_all (cond b (client_number (private_of f)) client) (map FrameReceived (frames_from (at + length bytes) frames))) later
    ∙ later_heard client (at + length bytes) frames (omega (arith, some))

client_of : (frames : List (List ℕ)) → AreFrames (HelloFrom Initiator) frames → number_in_frames (frames_from 0 frames) ≡ client_after_all 0 (map FrameReceived (frames_from 0 frames))
client_of [] each = refl
client_of (bytes ∷ frames) each = (let long = each.0.fields in sym (later_heard (client_number (private_of (record { at = 0; end = 0 + length bytes; bytes = bytes }))) (0 + length bytes) frames (omega (arith, long))))

abbrev events_of : List ℕ → List RunEvent
events_of stream = received_events (initial_input Initiator) stream

last_stream : (stream : List ℕ) → last_at (frames_of Initiator stream) ≡ last_after_all 0 (events_of stream)
unfolding frames_of
last_stream stream = last_of (frames_from 0 (split (HelloFrom Initiator) stream).frames)

client_stream : (stream : List ℕ) → number_in_frames (frames_of Initiator stream) ≡ client_after_all 0 (events_of stream)
unfolding frames_of
client_stream stream = client_of (split (HelloFrom Initiator) stream).frames (split_Splits (HelloFrom Initiator) stream).each

-- the events of a longer stream
events_longer : (x y : List ℕ) → events_of (x ++ y) ≡ events_of x ++ received_events (input_of Initiator x) y
events_longer x y =
    let same : input_after (initial_input Initiator) x ≡ input_of Initiator x =
    sym (ap (λ (i : InputState). input_after i x) (input_of_none Initiator)) ∙ sym (input_of_append Initiator [] x) in
    events_parts (initial_input Initiator) x y ∙ ap (λ (i : InputState). events_of x ++ received_events i y) same

-- a side that knew it of a run knows it with a piece more
pub fed_heard : (link : ℕ) (run : List Mark) (mark : Mark) (piece : List ℕ) (s t : LinkState) → fed_at link Responder mark ≡ piece → KeepsHeard link run s →
    Hears s (received_events (input_of Initiator (bytes_received link Responder run)) piece) t → KeepsHeard link (run ++ mark ∷ []) t
unfolding last_frame_at number_heard
fed_heard link run mark piece s t fed keeps hears =
    let x : List ℕ = bytes_received link Responder run in
    let all : bytes_received link Responder (run ++ mark ∷ []) ≡ x ++ piece = received_one link Responder run mark ∙ ap (λ (bytes : List ℕ). x ++ bytes) fed in
    let more : List RunEvent = received_events (input_of Initiator x) piece in
    record {
      last =
          hears.last
          ∙ ap (λ (n : ℕ). last_after_all n more) (keeps.last ∙ last_stream x)
          ∙ sym (ap (λ (es : List RunEvent). last_after_all 0 es) (events_longer x piece) ∙ last_parts 0 (events_of x) more)
          ∙ sym (last_stream (x ++ piece))
          ∙ ap (λ (bytes : List ℕ). last_at (frames_of Initiator bytes)) (sym all);
      client =
          hears.client
          ∙ ap (λ (n : ℕ). client_after_all n more) (keeps.client ∙ client_stream x)
          ∙ sym (ap (λ (es : List RunEvent). client_after_all 0 es) (events_longer x piece) ∙ client_parts 0 (events_of x) more)
          ∙ sym (client_stream (x ++ piece))
          ∙ ap (λ (bytes : List ℕ). number_in_frames (frames_of Initiator bytes)) (sym all);
    }

-- and with a mark at which nothing was fed to it
pub same_heard : (link : ℕ) (run : List Mark) (mark : Mark) (s t : LinkState) → fed_at link Responder mark ≡ [] → t.last ≡ s.last → t.client ≡ s.client → KeepsHeard link run s → KeepsHeard link (run ++ mark ∷ []) t
unfolding last_frame_at number_heard
same_heard link run mark s t fed last client keeps =
    let x : List ℕ = bytes_received link Responder run in
    let same : bytes_received link Responder (run ++ mark ∷ []) ≡ x = received_one link Responder run mark ∙ ap (λ (bytes : List ℕ). x ++ bytes) fed ∙ append-nil x in
    record {
      last = last ∙ keeps.last ∙ ap (λ (bytes : List ℕ). last_at (frames_of Initiator bytes)) (sym same);
      client = client ∙ keeps.client ∙ ap (λ (bytes : List ℕ). number_in_frames (frames_of Initiator bytes)) (sym same);
    }

-- and of no marks as it is opened
pub first_heard : (link : ℕ) (s : LinkState) → s.last ≡ 0 → s.client ≡ 0 → KeepsHeard link [] s
unfolding last_frame_at number_heard frames_of split bytes_received
first_heard link s last client = record { last = last; client = client }
