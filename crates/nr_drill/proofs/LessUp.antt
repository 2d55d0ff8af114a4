-- Feeding a server all that waits for it leaves less work.
use Rattle.std.specs.Prelude.{◌-◌, ◌&&◌, ◌||◌, ◌<◌, ◌≤◌, not, filter, sum_by}
use Rattle.std.specs.List.{concat, AllByRecursion}
use Rattle.std.proofs.Common.{◌≡◌, ◌≢◌, ℕ, suc, ◌+◌, ◌⊎◌, inl, inr, arith, cond, eqb, Bool, true, false, List, [], ◌∷◌, ◌++◌, length, map, take, drop, Option, None, Some, Result, Ok, Err, refl, sym, ap, subst, ◌∙◌, append-nil, ne_eqb}
use Rattle.std.proofs.Math.Seq.{drop-length}
use Rattle.std.proofs.lemmas.List.Sums.{sum_by-cons}
use Rattle.std.proofs.lemmas.List.{take_all, length-append, take-append-drop}
use Rattle.nr_wire.specs.Constants.{OPCODE_READ_RESPONSE, OPCODE_SEND, OPCODE_SEND_INVALIDATE, REASON_OPCODE}
use Rattle.nr_wire.specs.declared.hello.Side.{Side}
use Rattle.nr_wire.specs.declared.hello.Side.TheVariants.{Initiator, Responder}
use Rattle.nr_wire.specs.declared.stream.Awaited.TheVariants.{Hello as HelloFrom}
use Rattle.nr_wire.specs.Segment.{Segment, opcode_of, opcode_in, segment_of, frame_reason}
use Rattle.nr_wire.specs.Fields.{half_word_of}
use Rattle.nr_wire.specs.Segment.Segment.{Tagged, Untagged}
use Rattle.nr_wire.specs.Stream.{AreFrames, awaited_after, split}
use Rattle.nr_wire.proofs.Frames.{fields_some}
use Rattle.nr_wire.proofs.Splits.{split_Splits}
use Rattle.nr_link.specs.declared.end.End.{End}
use Rattle.nr_link.specs.Frames.{Frame, frames_from, frames_of, frames_completed, is_hello}
use Rattle.nr_link.specs.Limits.{open_reads_max}
use Rattle.nr_reduce.specs.Hellos.{server_hello}
use Rattle.nr_link.specs.ReceiveState.{begun_bytes}
use Rattle.nr_link.specs.Ending.{frame_segment, is_not_taken, opcode_is_judged, segment_taken}
use Rattle.nr_link.proofs.TakenSegments.{frame_read, read_opcode}
use Rattle.nr_link.proofs.Streams.{frames_completed_split}
use Rattle.nr_reduce.specs.declared.mark.Mark.{Mark}
use Rattle.nr_reduce.specs.declared.mark.Mark.TheVariants as marks
use Rattle.nr_reduce.specs.declared.mark.LinkParameters.{LinkParameters}
use Rattle.nr_reduce.specs.History.{bytes_received}
use Rattle.nr_reduce.specs.Events.{RunEvent}
use Rattle.nr_reduce.specs.Events.RunEvent.{FrameReceived}
use Rattle.nr_reduce.specs.EndRules.{EndState, live, end_state_after, next_end_state_by, output_for_all, output_for_by}
use Rattle.nr_reduce.specs.ClientState.{ClientState, WaitingCall}
use Rattle.nr_reduce.specs.ServerState.{ServerState, PendingCall, PendingRead, ReadyCall}
use Rattle.nr_reduce.specs.ServerReads.{open_reads, is_read}
use Rattle.nr_reduce.specs.ServerMessages.{CallVerdict, by_payload, pending_payload, chunk_bytes}
use Rattle.nr_reduce.specs.ServerMessages.CallVerdict.{Refuses, IsReady}
use Rattle.nr_reduce.specs.Chunks.{is_read_chunk_of_item}
use Rattle.nr_reduce.specs.ServerFrames.{FrameEffect, no_effect, with_verdict, ready_if_whole, with_refused_call, is_stream_read, read_effect, call_of_number, response_effect, tagged_effect, by_message, with_access, effect_in, frame_effect}
use Rattle.nr_reduce.specs.Server.{with_own_hello, server_rules, server_end, server_output, server_state_after, sends_from, requests_from, newly_open_reads, effect_output, with_effect}
use Rattle.nr_reduce.specs.Client.{client_rules}
use Rattle.nr_reduce.specs.Run.{client, server, end_of_side}
use Rattle.nr_reduce.proofs.Steps.{ended_stays}
use Rattle.nr_drill.specs.Drill.{Setting, Drill, Pipes, unwritten, after_output, settled, pipes_of, with_mark, with_pipes, after_feeding, after_feeding_up, after_up, after_all_up}
use Rattle.nr_drill.specs.WorkLeft.{frame_len, is_send, is_send_segment, send_bytes_left, work_left, stays, IsLess}
use Rattle.nr_drill.proofs.Lawful.{Keeps, lawful_mark, lawful_settled, again_mark, other_side_lem}
use Rattle.nr_drill.proofs.LessWork.{own, not_own, same_client, same_server, settled_leaves, settled_down, more_left, set_pipes, set_room, down_leaves_up}

-- ===== what a frame that is no Send makes of a server

-- it takes a read away, or leaves reads and what is ready, and nothing is due for it
abbrev Lessens : ServerState → FrameEffect → Type 0
Lessens k e = (length e.reads < length k.reads) ⊎ ((e.reads ≡ k.reads) × (e.ready ≡ []) × (e.errors ≡ []) × (newly_open_reads e ≡ []))

nothing_done : (k : ServerState) → Lessens k (no_effect k)
nothing_done k = inr (refl, refl, refl, drop-length (take open_reads_max k.reads))

filter_le : {X : Type 0} (p : X → Bool) (xs : List X) → length (filter p xs) ≤ length xs
filter_le p [] = omega arith
filter_le {X = X} p (x ∷ xs) = by (p x) (filter_le p xs)
  where
    by : (b : Bool) → length (filter p xs) ≤ length xs → length (cond b (x ∷ filter p xs) (filter p xs)) ≤ suc (length xs)
    by true le = omega (arith, le)
    by false le = omega (arith, le)

kept_le_lem : {X : Type 0} (n : ℕ) (p : X → Bool) (xs : List X) → length (take n xs ++ filter p (drop n xs)) ≤ length xs
kept_le_lem n p xs =
    omega (arith, length-append (take n xs) (filter p (drop n xs)), filter_le p (drop n xs), length-append (take n xs) (drop n xs), ap (λ (ys : List _). length ys) (take-append-drop n xs))

verdict_reads : (v : CallVerdict) (e : FrameEffect) → (with_verdict v e).reads ≡ e.reads
verdict_reads (Refuses reason) e = refl
verdict_reads (IsReady r) e = refl

whole_reads : (k : ServerState) (place : ℕ) (c : PendingCall) (e : FrameEffect) → (ready_if_whole k place c e).reads ≡ e.reads
whole_reads k place c e = by (is_read e.reads c.number)
  where
    v : CallVerdict
    v = by_payload c (pending_payload k place c)

    by : (b : Bool) → (cond b (with_verdict v e) e).reads ≡ e.reads
    by true = verdict_reads v e
    by false = refl

read_le : (k : ServerState) (place : ℕ) (r : PendingRead) (c : Option PendingCall) (e : FrameEffect) → length (read_effect k place r c e).reads ≤ length e.reads
read_le k place r None e = omega arith
read_le k place r (Some c) e = by (is_stream_read c r e.reads && not (is_read_chunk_of_item (chunk_bytes k place c 0) c.lists.read))
  where
    by : (b : Bool) → length (cond b (with_refused_call k c e) (ready_if_whole k place c e)).reads ≤ length e.reads
    by true = kept_le_lem e.kept (λ x. not (eqb x.number c.number)) e.reads
    by false = omega (arith, ap (λ (rs : List PendingRead). length rs) (whole_reads k place c e))

response_lessens : (k : ServerState) (place : ℕ) (reads : List PendingRead) → k.reads ≡ reads → Lessens k (response_effect k place reads)
response_lessens k place [] is = nothing_done k
response_lessens k place (r ∷ reads) is =
    let e : FrameEffect = record (no_effect k) { reads = reads; kept = length (open_reads k) - 1 } in
    let le = read_le k place r (call_of_number k r.number) e in
    inl (omega (arith, le, ap (λ (rs : List PendingRead). length rs) is))

tagged_lessens : (k : ServerState) (place opcode : ℕ) (last : Bool) → Lessens k (tagged_effect k place opcode last)
tagged_lessens k place opcode last = by (eqb opcode OPCODE_READ_RESPONSE && last)
  where
    by : (b : Bool) → Lessens k (cond b (response_effect k place k.reads) (no_effect k))
    by true = response_lessens k place k.reads refl
    by false = nothing_done k

-- a frame that a server takes is no Send with Invalidate
not_named : (f : Frame) (s : Segment) → frame_segment f ≡ Ok s → eqb (opcode_in s) OPCODE_SEND_INVALIDATE ≡ false
unfolding frame_segment segment_taken
not_named f s is = by (eqb (opcode_of f.bytes) OPCODE_SEND_INVALIDATE) refl
  where
    reads : segment_of f.bytes ≡ Ok s
    reads = frame_read f s is

    by : (b : Bool) → eqb (opcode_of f.bytes) OPCODE_SEND_INVALIDATE ≡ b → eqb (opcode_in s) OPCODE_SEND_INVALIDATE ≡ false
    by false e = ap (λ (n : ℕ). eqb n OPCODE_SEND_INVALIDATE) (sym (read_opcode f.bytes s reads)) ∙ e
    by true e =
        let bad : segment_taken false f.bytes ≡ Err REASON_OPCODE = (λ i. cond (e i && opcode_is_judged (reads i)) (Err REASON_OPCODE) (segment_of f.bytes)) in
        absurd (let wrong : Err REASON_OPCODE ≡ Ok s = sym bad ∙ is in cc)

neither_ends : (a b last : Bool) → a && last ≡ false → b ≡ false → (a || b) && last ≡ false
neither_ends a true last e none = absurd cc
neither_ends true false last e none = e
neither_ends false false last e none = refl

effect_lessens : (k : ServerState) (f : Frame) (r : Result Segment ℕ) → frame_segment f ≡ r → is_send_segment r ≡ false → Lessens k (effect_in k f r)
effect_lessens k f (Err reason) is e = nothing_done k
effect_lessens k f (Ok (Untagged last opcode w queue msn offset payload)) is e =
    let none : (eqb opcode OPCODE_SEND || eqb opcode OPCODE_SEND_INVALIDATE) && last ≡ false =
    neither_ends (eqb opcode OPCODE_SEND) (eqb opcode OPCODE_SEND_INVALIDATE) last e (not_named f (Untagged last opcode w queue msn offset payload) is) in
    subst (λ (b : Bool). Lessens k (by_message k f.end (cond b (Some (begun_bytes k.received.begun ++ payload)) None))) (sym none) (nothing_done k)
effect_lessens k f (Ok (Tagged last opcode stag to payload)) is e = tagged_lessens (with_access k f (Tagged last opcode stag to payload)) f.end opcode last

-- ===== and what such frames make of it

-- what they leave, and what is due for them
abbrev pub Lowers : ServerState → ServerState → List ℕ → Type 0
Lowers k left out = (length left.reads < length k.reads) ⊎ ((left.reads ≡ k.reads) × (left.ready ≡ k.ready) × (out ≡ []))

not_send : (f : Frame) → is_hello f ≡ false → is_send f ≡ false → is_send_segment (frame_segment f) ≡ false
not_send f appended none = (λ i. cond (sym appended i) false (is_send_segment (frame_segment f))) ∙ none

frame_lowers : (o : LinkParameters) (k : ServerState) (f : Frame) → is_hello f ≡ false → is_send f ≡ false → Lowers k (server_state_after o k (FrameReceived f)) (server_output o k (FrameReceived f))
unfolding server_state_after server_output frame_effect
frame_lowers o k f appended none =
    subst (λ (b : Bool). Lowers k (cond b (with_own_hello o k f) (with_effect k f e)) (cond b (server_hello o f) (effect_output k e))) (sym appended) (by (effect_lessens k f (frame_segment f) refl (not_send f appended none)))
  where
    e : FrameEffect
    e = frame_effect k f

    by : Lessens k e → Lowers k (with_effect k f e) (effect_output k e)
    by (inl lt) = inl lt
    by (inr (reads, ready, errors, opened)) = inr (
      reads,
      ap (λ (rs : List ReadyCall). k.ready ++ rs) ready ∙ append-nil k.ready,
      (λ i. sends_from (k.messages_queued + 1) (errors i) ++ requests_from (k.requests_sent + 1) (opened i)),
    )

lowers_through : (a b c : ServerState) (xs ys : List ℕ) → Lowers a b xs → Lowers b c ys → Lowers a c (xs ++ ys)
lowers_through a b c xs ys (inl lt) (inl also) = inl (omega (arith, lt, also))
lowers_through a b c xs ys (inl lt) (inr (reads, ready, none)) = inl (omega (arith, lt, ap (λ (rs : List PendingRead). length rs) reads))
lowers_through a b c xs ys (inr (reads, ready, none)) (inl lt) = inl (omega (arith, lt, ap (λ (rs : List PendingRead). length rs) reads))
lowers_through a b c xs ys (inr (reads, ready, none)) (inr (reads_too, ready_too, none_too)) = inr (reads_too ∙ reads, ready_too ∙ ready, (λ i. none i ++ none_too i))

-- frames of which none is a hello or a Send, by a server that they don't end
pub frames_lower : (o : LinkParameters) (k : ServerState) (fs : List Frame) → AllByRecursion (λ (f : Frame). is_hello f ≡ false) fs → AllByRecursion (λ (f : Frame). is_send f ≡ false) fs →
    (end_state_after (server_rules o) (live k) (map FrameReceived fs)).ended ≡ None →
    Lowers k (end_state_after (server_rules o) (live k) (map FrameReceived fs)).state (output_for_all (server_rules o) (live k) (map FrameReceived fs))
frames_lower o k [] appended none stays = inr (refl, refl, refl)
frames_lower o k (f ∷ fs) appended none unended = by (server_end o k (FrameReceived f)) unended (frames_lower o (server_state_after o k (FrameReceived f)) fs appended.1 none.1)
  where
    event : RunEvent
    event = FrameReceived f

    more : List RunEvent
    more = map FrameReceived fs

    next : ServerState
    next = server_state_after o k event

    by : (end : Option End) → (end_state_after (server_rules o) (next_end_state_by (server_rules o) k event end) more).ended ≡ None →
        ((end_state_after (server_rules o) (live next) more).ended ≡ None → Lowers next (end_state_after (server_rules o) (live next) more).state (output_for_all (server_rules o) (live next) more)) →
        Lowers k (end_state_after (server_rules o) (next_end_state_by (server_rules o) k event end) more).state (output_for_by (server_rules o) k event end ++ output_for_all (server_rules o) (next_end_state_by (server_rules o) k event end) more)
    by None e later =
        lowers_through k next (end_state_after (server_rules o) (live next) more).state (server_output o k event) (output_for_all (server_rules o) (live next) more)
        (frame_lowers o k f appended.0 none.0) (later e)
    by (Some end) e later = absurd (let wrong : Some end ≡ None = sym (ap (λ (r : EndState ServerState). r.ended) (ended_stays (server_rules o) k end more).0) ∙ e in cc)

-- ===== the frames that are completed

-- a frame after the first byte is no hello
later_frames : (at : ℕ) (fs : List (List ℕ)) → 0 < at → AllByRecursion (λ (f : Frame). is_hello f ≡ false) (frames_from at fs)
later_frames at [] some = tt
later_frames at (f ∷ fs) some = (ne_eqb at 0 (λ e. omega (arith, e, some)), later_frames (at + length f) fs (omega (arith, some)))

pub some_bytes_lem : (side : Side) (fs : List (List ℕ)) → fs ≢ [] → AreFrames (HelloFrom side) fs → 0 < length (concat fs)
some_bytes_lem side [] some h = absurd (some refl)
some_bytes_lem side (f ∷ fs) some h = (let a = h.0.fields in let b = fields_some (HelloFrom side) in omega (arith, a, b, length-append f (concat fs)))

-- if the first frame was received, those that more bytes complete are none
pub behind_hello : (side : Side) (got more : List ℕ) → frames_of side got ≢ [] → AllByRecursion (λ (f : Frame). is_hello f ≡ false) (frames_completed side got more)
unfolding frames_of
behind_hello side got more heard =
    let fs = (split (HelloFrom side) got).frames in
    let some : fs ≢ [] = (λ none. heard (ap (λ (xs : List (List ℕ)). frames_from 0 xs) none)) in
    subst (λ (all : List Frame). AllByRecursion (λ (f : Frame). is_hello f ≡ false) all) (sym (frames_completed_split side got more))
    (later_frames (length (concat fs)) (split (awaited_after (HelloFrom side) fs) ((split (HelloFrom side) got).rest ++ more)).frames
    (some_bytes_lem side fs some (split_Splits (HelloFrom side) got).each))

-- a Send has bytes
empty_by : (b : Bool) → is_send_segment (cond b (Err REASON_OPCODE) (segment_of [])) ≡ false
unfolding segment_of frame_reason half_word_of
empty_by true = refl
empty_by false = refl

empty_not_send : is_send_segment (segment_taken false []) ≡ false
unfolding segment_taken
empty_not_send = empty_by (is_not_taken false [] (segment_of []))

send_has_bytes : (at end : ℕ) (bytes : List ℕ) → is_send (record { at = at; end = end; bytes = bytes }) ≡ true → 0 < length bytes
unfolding frame_segment
send_has_bytes at end [] e = by (eqb at 0) e
  where
    by : (b : Bool) → cond b false (is_send_segment (segment_taken false [])) ≡ true → 0 < 0
    by true e = absurd cc
    by false e = absurd (let wrong = sym empty_not_send ∙ e in cc)
send_has_bytes at end (b ∷ bytes) e = omega arith

-- of some frames, none is a Send, or the Sends have bytes
no_send : (fs : List Frame) → AllByRecursion (λ (f : Frame). is_send f ≡ false) fs ⊎ (0 < sum_by frame_len (filter is_send fs))
no_send [] = inl tt
no_send (f ∷ fs) = by (is_send f) refl (no_send fs)
  where
    by : (b : Bool) → is_send f ≡ b → AllByRecursion (λ (x : Frame). is_send x ≡ false) fs ⊎ (0 < sum_by frame_len (filter is_send fs)) →
        ((is_send f ≡ false) × AllByRecursion (λ (x : Frame). is_send x ≡ false) fs) ⊎ (0 < sum_by frame_len (cond b (f ∷ filter is_send fs) (filter is_send fs)))
    by true is rest = inr (let some = send_has_bytes f.at f.end f.bytes is in let sum = sum_by-cons frame_len f (filter is_send fs) in omega (arith, some, sum))
    by false is (inl none) = inl (is, none)
    by false is (inr some) = inr some

no_sum : (fs : List Frame) → AllByRecursion (λ (f : Frame). is_send f ≡ false) fs → sum_by frame_len (filter is_send fs) ≡ 0
no_sum [] h = refl
no_sum (f ∷ fs) h = (λ i. sum_by frame_len (cond (h.0 i) (f ∷ filter is_send fs) (filter is_send fs))) ∙ no_sum fs h.1

-- nothing more completes nothing
none_completed : (side : Side) (got : List ℕ) → frames_completed side got [] ≡ []
unfolding frames_completed
none_completed side got = ap (λ (xs : List ℕ). drop (length (frames_of side got)) (frames_of side xs)) (append-nil got) ∙ drop-length (frames_of side got)

-- ===== all up

-- the drill whose server was fed all that waited
abbrev fed_up : ℕ → List ℕ → Drill → Drill
fed_up link bytes d = with_pipes link (record (pipes_of link d) { up = [] }) (with_mark (marks.Fed link Responder bytes) d)

fed_less : (s : Setting) (link : ℕ) (bytes : List ℕ) (d : Drill) → Keeps s link d → link - 1 < length d.pipes → frames_of Initiator (bytes_received link Responder d.marks) ≢ [] →
    (pipes_of link d).up ≡ bytes → 0 < length bytes → IsLess (work_left s (settled s link (fed_up link bytes d)) link) (work_left s d link)
unfolding work_left send_bytes_left end_of_side
fed_less s link bytes d h room heard waits some = by_end before.ended refl
  where
    o : LinkParameters
    o = s.opened link

    run : List Mark
    run = d.marks

    mark : Mark
    mark = marks.Fed link Responder bytes

    mid : Drill
    mid = fed_up link bytes d

    new : Drill
    new = settled s link mid

    before : EndState ServerState
    before = server o link run

    got : List ℕ
    got = bytes_received link Responder run

    fs : List Frame
    fs = frames_completed Initiator got bytes

    es : List RunEvent
    es = map FrameReceived fs

    after : EndState ServerState
    after = end_state_after (server_rules o) before es

    down_events : List RunEvent
    down_events = map FrameReceived (frames_completed Responder (bytes_received link Initiator run) bytes)

    server_is : server o link mid.marks ≡ after
    server_is = same_server o link run mark es (own link es)

    client_end : (client o link new.marks).ended ≡ (client o link run).ended
    client_end = (settled_leaves s o link mid).client_end ∙ ap (λ (r : EndState ClientState). r.ended) (same_client o link run mark [] (not_own link down_events))

    server_end_is : (server o link new.marks).ended ≡ after.ended
    server_end_is = (settled_leaves s o link mid).server_end ∙ ap (λ (r : EndState ServerState). r.ended) server_is

    reads : (server o link new.marks).state.reads ≡ after.state.reads
    reads = (settled_leaves s o link mid).reads ∙ ap (λ (r : EndState ServerState). r.state.reads) server_is

    ready : (server o link new.marks).state.ready ≡ after.state.ready
    ready = (settled_leaves s o link mid).ready ∙ ap (λ (r : EndState ServerState). r.state.ready) server_is

    none : unwritten o link Initiator mid.marks ≡ []
    none = more_left o link Initiator run mark refl h.0.client ∙ (λ i. h.1.client i ++ output_for_all (client_rules o) (client o link run) (not_own link down_events i))

    out : List ℕ
    out = unwritten o link Responder mid.marks

    out_is : out ≡ output_for_all (server_rules o) before es
    out_is = more_left o link Responder run mark refl h.0.server ∙ (λ i. h.1.server i ++ output_for_all (server_rules o) before (own link es i))

    set : pipes_of link mid ≡ record (pipes_of link d) { up = [] }
    set = set_pipes link (record (pipes_of link d) { up = [] }) (with_mark mark d) room

    up : (pipes_of link new).up ≡ []
    up =
        ap (λ (x : Drill). (pipes_of link x).up) (settled_down s link mid none)
        ∙ down_leaves_up link out mid (set_room link (record (pipes_of link d) { up = [] }) (with_mark mark d) room) ∙ ap (λ (p : Pipes). p.up) set

    kept : Keeps s link new
    kept = lawful_settled s link mid (again_mark o link run mark (other_side_lem (eqb link link) _) h.2) (lawful_mark o link run mark h.0 refl refl tt tt tt tt)

    waiting : length (client o link new.marks).state.waiting ≡ length (client o link run).state.waiting
    waiting = ap (λ (ws : List WaitingCall). length ws) ((settled_leaves s o link mid).waits ∙ ap (λ (r : EndState ClientState). r.state.waiting) (same_client o link run mark [] (not_own link down_events)))

    up_less : length (pipes_of link new).up < length (pipes_of link d).up
    up_less = omega (arith, some, ap (λ (xs : List ℕ). length xs) up, ap (λ (xs : List ℕ). length xs) waits)

    same_down : out ≡ [] → (pipes_of link new).down ≡ (pipes_of link d).down
    same_down nothing =
        ap (λ (x : Drill). (pipes_of link x).down) (settled_down s link mid none ∙ ap (λ (xs : List ℕ). after_output link Responder xs mid) nothing) ∙ ap (λ (p : Pipes). p.down) set

    sent_after : sum_by frame_len (filter is_send (frames_completed Initiator (bytes_received link Responder new.marks) ((pipes_of link new).up ++ unwritten o link Initiator new.marks))) ≡ 0
    sent_after =
        (λ i. sum_by frame_len (filter is_send (frames_completed Initiator (bytes_received link Responder new.marks) (up i ++ kept.1.client i))))
        ∙ ap (λ (all : List Frame). sum_by frame_len (filter is_send all)) (none_completed Initiator (bytes_received link Responder new.marks))

    sent_before : sum_by frame_len (filter is_send (frames_completed Initiator got ((pipes_of link d).up ++ unwritten o link Initiator run))) ≡ sum_by frame_len (filter is_send fs)
    sent_before = ap (λ (xs : List ℕ). sum_by frame_len (filter is_send (frames_completed Initiator got xs))) ((λ i. waits i ++ h.1.client i) ∙ append-nil bytes)

    sides : after.ended ≡ before.ended → stays (client o link new.marks).ended + stays (server o link new.marks).ended ≡ stays (client o link run).ended + stays before.ended
    sides same = (λ i. stays (client_end i) + stays ((server_end_is ∙ same) i))

    -- none of the first six numbers changes
    Same : Type 0
    Same = (after.state.reads ≡ before.state.reads) × (after.state.ready ≡ before.state.ready) × (output_for_all (server_rules o) before es ≡ [])

    last : Same → IsLess (length (server o link new.marks).state.reads ∷ length (server o link new.marks).state.ready ∷ length (pipes_of link new).down ∷ length (pipes_of link new).up ∷ [])
        (length before.state.reads ∷ length before.state.ready ∷ length (pipes_of link d).down ∷ length (pipes_of link d).up ∷ [])
    last (same_reads, same_ready, nothing) = inr (
      ap (λ (rs : List PendingRead). length rs) (reads ∙ same_reads),
      inr (ap (λ (rs : List ReadyCall). length rs) (ready ∙ same_ready), inr (ap (λ (xs : List ℕ). length xs) (same_down (out_is ∙ nothing)), inl up_less)),
    )

    by_frames : Lowers before.state after.state (output_for_all (server_rules o) before es) →
        IsLess (length (server o link new.marks).state.reads ∷ length (server o link new.marks).state.ready ∷ length (pipes_of link new).down ∷ length (pipes_of link new).up ∷ [])
        (length before.state.reads ∷ length before.state.ready ∷ length (pipes_of link d).down ∷ length (pipes_of link d).up ∷ [])
    by_frames (inl lt) = inl (omega (arith, lt, ap (λ (rs : List PendingRead). length rs) reads))
    by_frames (inr same) = last same

    -- if no end changes: a Send goes up, or none does
    by_sends : after.ended ≡ before.ended →
        (AllByRecursion (λ (f : Frame). is_send f ≡ false) fs → Lowers before.state after.state (output_for_all (server_rules o) before es)) → IsLess (work_left s new link) (work_left s d link)
    by_sends same lower = by_send (no_send fs)
      where
        by_send : AllByRecursion (λ (f : Frame). is_send f ≡ false) fs ⊎ (0 < sum_by frame_len (filter is_send fs)) → IsLess (work_left s new link) (work_left s d link)
        by_send (inr more) = inr (sides same, inr (waiting, inl (omega (arith, more, sent_before, sent_after))))
        by_send (inl absent) = inr (sides same, inr (waiting, inr (sent_after ∙ sym (sent_before ∙ no_sum fs absent), by_frames (lower absent))))

    by_after : before.ended ≡ None → (end : Option End) → after.ended ≡ end → IsLess (work_left s new link) (work_left s d link)
    by_after lives (Some end) is =
        let c = ap (λ (e : Option End). stays e) client_end in
        let r : stays (server o link new.marks).ended ≡ 0 = ap (λ (e : Option End). stays e) (server_end_is ∙ is) in
        let was : stays before.ended ≡ 1 = ap (λ (e : Option End). stays e) lives in
        inl (omega (arith, c, r, was))
    by_after lives None is =
        let alive : before ≡ live before.state = (λ i. record { state = before.state; ended = lives i }) in
        by_sends (is ∙ sym lives) (λ absent.
        subst (λ (r : EndState ServerState). Lowers before.state (end_state_after (server_rules o) r es).state (output_for_all (server_rules o) r es)) (sym alive)
        (frames_lower o before.state fs (behind_hello Initiator got bytes heard) absent (ap (λ (r : EndState ServerState). (end_state_after (server_rules o) r es).ended) (sym alive) ∙ is)))

    by_end : (end : Option End) → before.ended ≡ end → IsLess (work_left s new link) (work_left s d link)
    by_end None is = by_after is after.ended refl
    by_end (Some end) is =
        let was : before ≡ record { state = before.state; ended = Some end } = (λ i. record { state = before.state; ended = is i }) in
        let stands = ended_stays (server_rules o) before.state end es in
        let same : after ≡ before = ap (λ (r : EndState ServerState). end_state_after (server_rules o) r es) was ∙ stands.0 ∙ sym was in
        by_sends (ap (λ (r : EndState ServerState). r.ended) same) (λ absent. inr (
          ap (λ (r : EndState ServerState). r.state.reads) same,
          ap (λ (r : EndState ServerState). r.state.ready) same,
          ap (λ (r : EndState ServerState). output_for_all (server_rules o) r es) was ∙ stands.1,
        ))

no_bytes_less : (n : ℕ) (bytes : List ℕ) → length bytes ≡ n → bytes ≢ [] → 0 < n
no_bytes_less n [] is some = absurd (some refl)
no_bytes_less n (b ∷ bytes) is some = omega (arith, is)

-- a piece that has bytes
feeding_up : (link : ℕ) (bytes : List ℕ) (rest : Pipes) (d : Drill) → bytes ≢ [] → after_feeding link Responder bytes rest d ≡ with_pipes link rest (with_mark (marks.Fed link Responder bytes) d)
feeding_up link [] rest d some = absurd (some refl)
feeding_up link (b ∷ bytes) rest d some = refl

-- If the server has the client's hello and bytes wait for it, feeding it all of them leaves less work.
pub up_less_lem : (s : Setting) (link : ℕ) (d : Drill) → Keeps s link d → link - 1 < length d.pipes → frames_of Initiator (bytes_received link Responder d.marks) ≢ [] → (pipes_of link d).up ≢ [] →
    IsLess (work_left s (after_all_up s link d) link) (work_left s d link)
unfolding after_up
up_less_lem s link d h room heard some =
    let pipes = pipes_of link d in
    let n = length pipes.up in
    let all : take n pipes.up ≡ pipes.up = take_all n pipes.up (omega arith) in
    let is : after_feeding_up link n d ≡ fed_up link pipes.up d =
    (λ i. after_feeding link Responder (all i) (record pipes { up = drop-length pipes.up i }) d) ∙ feeding_up link pipes.up (record pipes { up = [] }) d some in
    subst (λ (x : Drill). IsLess (work_left s (settled s link x) link) (work_left s d link)) (sym is) (fed_less s link pipes.up d h room heard refl (no_bytes_less n pipes.up refl some))
