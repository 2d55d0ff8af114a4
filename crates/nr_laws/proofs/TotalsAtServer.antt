-- Totals agree after each event of the server.
use Rattle.std.proofs.Common.{◌≡◌, ℕ, ◌+◌, ◌-◌, ◌≤◌, ◌<◌, Bool, true, false, not, cond, ◌&&◌, eqb, List, [], ◌∷◌, ◌++◌, length, map, take, drop, Option, None, Some, Result, Ok, refl, sym, ap, subst, ◌∙◌, arith, eqb-true, length-append, length-take}
use Rattle.std.specs.Prelude.{find, min}
use Rattle.std.specs.List.{filter, list_any, range_with_len}
use Rattle.std.proofs.lemmas.Option.{same_Some}
use Rattle.nr_wire.specs.Constants.{OPCODE_WRITE, OPCODE_READ_RESPONSE}
use Rattle.nr_wire.specs.Segment.{Segment}
use Rattle.nr_wire.specs.Segment.Segment.{Tagged}
use Rattle.nr_reduce.specs.declared.mark.LinkParameters.{LinkParameters}
use Rattle.nr_link.specs.Limits.{open_reads_max}
use Rattle.nr_link.specs.Output.{segment_count}
use Rattle.nr_reduce.specs.Chunks.{is_read_chunk_of_item}
use Rattle.nr_link.specs.Frames.{Frame, is_hello}
use Rattle.nr_link.specs.ReceiveState.{begun_bytes}
use Rattle.nr_link.specs.Ending.{frame_segment}
use Rattle.nr_reduce.specs.Events.RunEvent.{FrameReceived, CallExecuted, QueueWritten}
use Rattle.nr_reduce.specs.ServerState.{ServerState, PendingCall, PendingRead, credit_word}
use Rattle.nr_reduce.specs.ServerFrames.{FrameEffect, frame_effect, effect_in, message_effect, no_effect, ready_if_whole, with_verdict, with_refused_call, read_effect, response_effect, call_of_number, is_stream_read, with_access}
use Rattle.nr_reduce.specs.ServerMessages.{Verdict, CallVerdict, verdict, by_payload, pending_payload, chunk_bytes}
use Rattle.nr_reduce.specs.ServerReads.{open_reads, reads_of, regions_of, is_over}
use Rattle.nr_reduce.specs.Server.{with_own_hello, effect_output, send_ends_from, execution_output, with_effect, newly_open_reads, server_state_after, offer_of, answer_of_target, received_by, response_bytes_after, tagged_accesses, stag_named}
use Rattle.nr_reduce.specs.ServerMessages.Verdict.{EndsLink, OtherVersion, BadChunks, MakesPending}
use Rattle.nr_reduce.specs.ServerMessages.CallVerdict.{Refuses, IsReady}
use Rattle.nr_reduce.specs.OfferedRegions.{regions_closed}
use Rattle.nr_reduce.specs.ClientState.{ClientState}
use Rattle.nr_header.specs.declared.header.RdmaSegment.{RdmaSegment as Part}
use Rattle.nr_header.specs.declared.header.ChunkLists.{ChunkLists}
use Rattle.nr_rpc.specs.Reading.{call_of, target_of}
use Rattle.nr_reduce.specs.History.{ExecutedCall}
use Rattle.nr_reduce.specs.Holds.{Answer, answer_message, chunk_error, first_chunk, no_segments}
use Rattle.nr_laws.proofs.FrameContents.{FrameContent, SentMessage, Carries, part_segment, last_segment, send_frames, errors_frames, total_of, sends_in, requests_in, responses_in, hellos_in, one_if_response, effect_frames, request_frame, write_frames, answer_frames, tagged_frames, tagged_frame, server_frames}
use Rattle.nr_laws.proofs.FrameContents.FrameContent.{HelloFrame, PartFrame, SendFrame, TaggedFrame}
use Rattle.nr_laws.proofs.LinkInvariants.{Transit, TotalsAgree, AreDistinct, AreSends}
use Rattle.nr_laws.proofs.Totals.{total_append, total_map_zero, total_map_one, others, length_fewer, any_found, length_newly}
use Rattle.nr_laws.proofs.SendFrames.{send_counts, sends_zero, sends_one, effect_sends, answer_sends, queued_more, none_queued, at_front}
use Rattle.nr_laws.proofs.EachEffect.{whole_rule}
use Rattle.nr_laws.proofs.EndsWaiting.{waiting_append, all_waiting_lem, one_waiting, sends_above, sends_length, execution_some}
use Rattle.nr_reduce.specs.Written.{ends_waiting}
use Rattle.nr_reduce.proofs.WholeWrotes.{ServerEnds, none_waiting}
use Rattle.nr_laws.proofs.ReadContents.{segment_is}

-- ---- What a step counts: the calls and error messages of `new` Sends more, and how many reads stay open

pub record EffectTotals (k : ServerState) (st : FrameEffect) (new kept : ℕ) : Type 0 where
  pub counted : length st.errors + length st.calls ≡ length k.calls + new
  pub kept_is : st.kept ≡ kept
  pub kept_there : kept ≤ length (take open_reads_max st.reads)

shape_ready : (k : ServerState) (st : FrameEffect) (new kept : ℕ) (o : CallVerdict) → EffectTotals k st new kept → EffectTotals k (with_verdict o st) new kept
shape_ready k st new kept (Refuses reason) h = record { counted = h.counted; kept_is = h.kept_is; kept_there = h.kept_there }
shape_ready k st new kept (IsReady r) h = record { counted = h.counted; kept_is = h.kept_is; kept_there = h.kept_there }

shape_whole : (k c_k : ServerState) (place : ℕ) (c : PendingCall) (st : FrameEffect) (new kept : ℕ) → EffectTotals k st new kept → EffectTotals k (ready_if_whole c_k place c st) new kept
shape_whole k c_k place c st new kept h = whole_rule (λ x. EffectTotals k x new kept) c_k place c st (λ g. shape_ready k st new kept (by_payload c (pending_payload c_k place c)) g) h

-- more reads at the end
taken_more : (n : ℕ) (xs ys : List PendingRead) → length (take n xs) ≤ length (take n (xs ++ ys))
taken_more n xs ys = omega (arith, length-take n xs, length-take n (xs ++ ys), length-append xs ys)

pub shape_message : (k : ServerState) (place : ℕ) (message : List ℕ) (v : Verdict) → (message_effect k place message v).refusal ≡ None → EffectTotals k (message_effect k place message v) 1 (length (open_reads k))
shape_message k place message (EndsLink reason) e = absurd cc
shape_message k place message OtherVersion e = record { counted = omega arith; kept_is = refl; kept_there = omega arith }
shape_message k place message BadChunks e = record { counted = omega arith; kept_is = refl; kept_there = omega arith }
shape_message k place message (MakesPending c) e =
    let regions = k.regions ++ regions_of k place c in
    shape_whole k k place c _ 1 (length (open_reads k)) (record {
      counted = omega (arith, length-append k.calls (c ∷ []));
      kept_is = refl;
      kept_there = taken_more open_reads_max k.reads (reads_of regions c);
    })

-- ---- A Response's last segment

taken_tail : (n : ℕ) (r : PendingRead) (xs : List PendingRead) → length (take n (r ∷ xs)) - 1 ≤ length (take n xs)
taken_tail n r xs = omega (arith, length-take n (r ∷ xs), length-take n xs)

taken_front : (n m : ℕ) (xs ys : List PendingRead) → n ≤ length (take m xs) → n ≤ length (take m (take n xs ++ ys))
taken_front n m xs ys le =
    omega (arith, length-take m xs, length-take n xs, length-take m (take n xs ++ ys), length-append (take n xs) ys, le)

found_by : {X : Type 0} (key : X → ℕ) (n : ℕ) (y x : X) (rest : Option X) (b : Bool) → eqb (key y) n ≡ b → cond b (Some y) rest ≡ Some x → (rest ≡ Some x → key x ≡ n) → key x ≡ n
found_by key n y x rest true e is more = ap key (sym (same_Some y x is)) ∙ eqb-true (key y) n e
found_by key n y x rest false e is more = more is

pub found_has : {X : Type 0} (key : X → ℕ) (n : ℕ) (xs : List X) (x : X) → find (λ y. eqb (key y) n) xs ≡ Some x → key x ≡ n
found_has key n [] x e = absurd cc
found_has key n (y ∷ xs) x e = found_by key n y x (find (λ z. eqb (key z) n) xs) (eqb (key y) n) refl e (found_has key n xs x)

shape_read : (k c_k : ServerState) (place : ℕ) (r : PendingRead) (o : Option PendingCall) (st : FrameEffect) (kept : ℕ) → st.calls ≡ k.calls → st.errors ≡ [] → AreDistinct (λ (c : PendingCall). c.number) k.calls
    → find (λ (c : PendingCall). eqb c.number r.number) k.calls ≡ o
    → EffectTotals k st 0 kept → EffectTotals k (read_effect c_k place r o st) 0 kept
shape_read k c_k place r None st kept same none apart is h = h
shape_read k c_k place r (Some c) st kept same none apart is h =
    by (is_stream_read c r st.reads && not (is_read_chunk_of_item (chunk_bytes c_k place c 0) c.lists.read))
  where
    number_is : c.number ≡ r.number
    number_is = found_has (λ (c : PendingCall). c.number) r.number k.calls c is

    fewer : length (others (λ (c : PendingCall). c.number) c.number st.calls) + 1 ≡ length k.calls
    fewer =
        ap (λ (cs : List PendingCall). length (others (λ (c : PendingCall). c.number) c.number cs) + 1) same
        ∙ length_fewer (λ (c : PendingCall). c.number) c.number k.calls apart
        (ap (λ (n : ℕ). list_any (λ (c : PendingCall). eqb c.number n) k.calls) number_is ∙ any_found (λ (c : PendingCall). eqb c.number r.number) k.calls c is)

    by : (b : Bool) → EffectTotals k (cond b (with_refused_call c_k c st) (ready_if_whole c_k place c st)) 0 kept
    by true = record {
      counted = omega (arith, fewer);
      kept_is = h.kept_is;
      kept_there = subst (λ (n : ℕ). kept ≤ length (take open_reads_max (take n st.reads ++ filter (λ (x : PendingRead). not (eqb x.number c.number)) (drop n st.reads)))) (sym h.kept_is) (taken_front kept open_reads_max st.reads (filter (λ (x : PendingRead). not (eqb x.number c.number)) (drop kept st.reads)) h.kept_there);
    }
    by false = shape_whole k c_k place c st 0 kept h

-- ---- What the server sends by a step

sends_said : (st : FrameEffect) → total_of sends_in (effect_frames st) ≡ length st.errors
sends_said st =
    total_append sends_in (errors_frames st.errors) (map request_frame (newly_open_reads st))
    ∙ omega (arith, sends_one sends_in (λ (m : List ℕ). m) st.errors (λ named offset payload. refl) (λ x. refl), total_map_zero sends_in request_frame (newly_open_reads st) (λ x. refl))

pub reads_said : (st : FrameEffect) → total_of requests_in (effect_frames st) ≡ length (newly_open_reads st)
reads_said st =
    total_append requests_in (errors_frames st.errors) (map request_frame (newly_open_reads st))
    ∙ omega (arith, sends_zero requests_in (λ (m : List ℕ). m) st.errors (λ named offset payload. refl) (λ x. refl), total_map_one requests_in request_frame (newly_open_reads st) (λ x. refl))

pub hello_said : (st : FrameEffect) → total_of hellos_in (effect_frames st) ≡ 0
hello_said st =
    total_append hellos_in (errors_frames st.errors) (map request_frame (newly_open_reads st))
    ∙ omega (arith, sends_zero hellos_in (λ (m : List ℕ). m) st.errors (λ named offset payload. refl) (λ x. refl), total_map_zero hellos_in request_frame (newly_open_reads st) (λ x. refl))

-- ---- Counts after a frame

-- what it does to the counts of a server: `new` Sends more, `gone` reads ended
record FrameTotals (s t : ServerState) (st : FrameEffect) (up rest : List FrameContent) (new kept gone : ℕ) : Type 0 where
  shape : EffectTotals s st new kept
  kept_gone : kept + gone ≡ length (open_reads s)
  sends : t.received.sends ≡ s.received.sends + new
  answers : t.messages_queued ≡ s.messages_queued + length st.errors
  messages : ends_waiting t.written t.message_ends ≡ ends_waiting s.written s.message_ends + length st.errors
  within : t.written ≤ t.due
  calls : length t.calls ≡ length st.calls
  opened : length (open_reads t) ≡ length (take open_reads_max st.reads)
  up_sends : total_of sends_in up ≡ new + total_of sends_in rest
  up_responses : total_of responses_in up ≡ gone + total_of responses_in rest
  up_hello : total_of hellos_in up ≡ total_of hellos_in rest

totals_moved : (opened : LinkParameters) (k : ClientState) (s t : ServerState) (w : Transit) (st : FrameEffect) (rest : List FrameContent) (new kept gone : ℕ) → TotalsAgree k s w → FrameTotals s t st w.up rest new kept gone → AreSends t.received.begun (rest ++ w.queued_up)
    → TotalsAgree k t (record { queued_up = w.queued_up; up = rest; queued_down = w.queued_down ++ effect_frames st; down = w.down })
totals_moved opened k s t w st rest new kept gone c m begun =
    let sends = sends_said st in
    let sends_all = total_append sends_in w.queued_down (effect_frames st) in
    let reads = reads_said st in
    let reads_all = total_append requests_in w.queued_down (effect_frames st) in
    let newly : st.kept + length (newly_open_reads st) ≡ length (take open_reads_max st.reads) =
    length_newly open_reads_max st.kept st.reads (subst (λ (n : ℕ). n ≤ length (take open_reads_max st.reads)) (sym m.shape.kept_is) m.shape.kept_there) in
    record {
      hello = omega (arith, c.hello, m.up_hello, hello_said st, total_append hellos_in w.queued_down (effect_frames st));
      calls_up = omega (arith, c.calls_up, m.sends, m.up_sends);
      messages_down = omega (arith, c.messages_down, m.answers, sends, sends_all);
      sends = c.sends;
      messages = omega (arith, c.messages, m.messages, sends, sends_all);
      all_sends = c.all_sends;
      within_up = c.within_up;
      within_down = m.within;
      out = c.out;
      waiting = omega (arith, c.waiting, m.answers, m.calls, m.sends, m.shape.counted);
      whole_up = begun;
      whole_down = queued_more k.received.begun w.down w.queued_down (effect_frames st) c.whole_down (effect_sends st);
      reads = omega (arith, c.reads, m.opened, newly, m.shape.kept_is, m.kept_gone, m.up_responses, reads, reads_all);
      responses = c.responses;
    }

-- the errors of a frame end above what is written
errors_wait : (s : ServerState) (errors : List (List ℕ)) → s.written ≤ s.due
    → ends_waiting s.written (s.message_ends ++ send_ends_from s.due (s.messages_queued + 1) errors) ≡ ends_waiting s.written s.message_ends + length errors
errors_wait s errors le =
    let news = send_ends_from s.due (s.messages_queued + 1) errors in
    waiting_append s.written s.message_ends news
    ∙ ap (λ (n : ℕ). ends_waiting s.written s.message_ends + n) (all_waiting_lem s.written news (sends_above s.written s.due (s.messages_queued + 1) errors le) ∙ sends_length s.due (s.messages_queued + 1) errors)

-- the state after a frame, by the segment that the frame holds
abbrev pub with_by : ServerState → Frame → Result Segment ℕ → FrameEffect → ServerState
with_by k f r st = record {
  received = received_by k.received r;
  calls = st.calls;
  reads = st.reads;
  response_bytes = response_bytes_after k r;
  requests_sent = k.requests_sent + length (newly_open_reads st);
  regions = regions_closed (is_over st.calls st.reads) f.end st.regions;
  accesses_received = k.accesses_received ++ tagged_accesses f r;
  messages_queued = k.messages_queued + length st.errors;
  due = k.due + length (effect_output k st);
  written = k.written;
  message_ends = k.message_ends ++ send_ends_from k.due (k.messages_queued + 1) st.errors;
  ready = k.ready ++ st.ready;
  receives = k.receives;
  credit = k.credit;
  low = k.low;
  up_max = k.up_max;
  down_max = k.down_max;
  invalidates = k.invalidates;
}

pub after_is_lem : (opened : LinkParameters) (s : ServerState) (f : Frame) (r : Result Segment ℕ) → is_hello f ≡ false → frame_segment f ≡ r → server_state_after opened s (FrameReceived f) ≡ with_by s f r (effect_in s f r)
unfolding server_state_after frame_effect
after_is_lem opened s f r behind is = λ i. cond (behind i) (with_own_hello opened s f) (with_by s f (is i) (effect_in s f (is i)))

pub step_is : (s : ServerState) (f : Frame) (r : Result Segment ℕ) → frame_segment f ≡ r → frame_effect s f ≡ effect_in s f r
unfolding frame_effect
step_is s f r is = λ i. effect_in s f (is i)

-- ---- The server receives a segment of a Send

abbrev pub up_one : Transit → List FrameContent → List FrameContent → Transit
up_one w rest said = record { queued_up = w.queued_up; up = rest; queued_down = w.queued_down ++ said; down = w.down }

totals_frame_lem : (opened : LinkParameters) (k : ClientState) (s : ServerState) (w : Transit) (f : Frame) (segment : Segment) (rest : List FrameContent) → is_hello f ≡ false → frame_segment f ≡ Ok segment
    → TotalsAgree k (with_by s f (Ok segment) (effect_in s f (Ok segment))) (up_one w rest (effect_frames (effect_in s f (Ok segment)))) → TotalsAgree k (server_state_after opened s (FrameReceived f)) (up_one w rest (effect_frames (frame_effect s f)))
totals_frame_lem opened k s w f segment rest behind is h =
    subst (λ (st : FrameEffect). TotalsAgree k (server_state_after opened s (FrameReceived f)) (up_one w rest (effect_frames st))) (sym (step_is s f (Ok segment) is))
    (subst (λ (t : ServerState). TotalsAgree k t (up_one w rest (effect_frames (effect_in s f (Ok segment))))) (sym (after_is_lem opened s f (Ok segment) behind is)) h)

pub totals_send_up : (opened : LinkParameters) (k : ClientState) (s : ServerState) (w : Transit) (f : Frame) (message : SentMessage) (rest : List FrameContent) → TotalsAgree k s w → w.up ≡ SendFrame message ∷ rest
    → Carries false s.received.sends s.received.requests f (SendFrame message) → (frame_effect s f).refusal ≡ None
    → TotalsAgree k (server_state_after opened s (FrameReceived f)) (record { queued_up = w.queued_up; up = rest; queued_down = w.queued_down ++ effect_frames (frame_effect s f); down = w.down })
totals_send_up opened k s w f message rest c first p goes_on =
    let segment : Segment = last_segment s.received.sends message in
    let is : frame_segment f ≡ Ok segment = segment_is s.received.sends s.received.requests f (SendFrame message) segment p refl in
    let whole : List ℕ = begun_bytes s.received.begun ++ message.payload in
    let st = effect_in s f (Ok segment) in
    let unended : st.refusal ≡ None = ap (λ (x : FrameEffect). x.refusal) (sym (step_is s f (Ok segment) is)) ∙ goes_on in
    let t = with_by s f (Ok segment) st in
    let front = at_front s.received.begun w.up w.queued_up (SendFrame message) rest first c.whole_up in
    let m : FrameTotals s t st w.up rest 1 (length (open_reads s)) 0 = record {
      shape = shape_message s f.end whole (verdict s whole) unended;
      kept_gone = omega arith;
      sends = refl;
      answers = refl;
      messages = errors_wait s st.errors c.within_down;
      within = omega (arith, c.within_down);
      calls = refl;
      opened = refl;
      up_sends = ap (total_of sends_in) first;
      up_responses = ap (total_of responses_in) first;
      up_hello = omega (arith, ap (total_of hellos_in) first);
    } in
    totals_frame_lem opened k s w f segment rest p.behind is (totals_moved opened k s t w st rest 1 (length (open_reads s)) 0 c m front.2)

pub totals_part_up : (opened : LinkParameters) (k : ClientState) (s : ServerState) (w : Transit) (f : Frame) (named : Bool) (offset : ℕ) (payload : List ℕ) (rest : List FrameContent) → TotalsAgree k s w → w.up ≡ PartFrame named offset payload ∷ rest
    → Carries false s.received.sends s.received.requests f (PartFrame named offset payload)
    → TotalsAgree k (server_state_after opened s (FrameReceived f)) (record { queued_up = w.queued_up; up = rest; queued_down = w.queued_down ++ effect_frames (frame_effect s f); down = w.down })
totals_part_up opened k s w f named offset payload rest c first p =
    let segment : Segment = part_segment s.received.sends offset payload in
    let is : frame_segment f ≡ Ok segment = segment_is s.received.sends s.received.requests f (PartFrame named offset payload) segment p refl in
    let st = effect_in s f (Ok segment) in
    let t = with_by s f (Ok segment) st in
    let front = at_front s.received.begun w.up w.queued_up (PartFrame named offset payload) rest first c.whole_up in
    let m : FrameTotals s t st w.up rest 0 (length (open_reads s)) 0 = record {
      shape = record { counted = omega arith; kept_is = refl; kept_there = omega arith };
      kept_gone = omega arith;
      sends = omega arith;
      answers = omega arith;
      messages = errors_wait s [] c.within_down;
      within = omega (arith, c.within_down);
      calls = refl;
      opened = refl;
      up_sends = ap (total_of sends_in) first;
      up_responses = ap (total_of responses_in) first;
      up_hello = omega (arith, ap (total_of hellos_in) first);
    } in
    totals_frame_lem opened k s w f segment rest p.behind is (totals_moved opened k s t w st rest 0 (length (open_reads s)) 0 c m front.1)

-- ---- The server receives a tagged segment

shape_response : (s : ServerState) (f : Frame) (segment : Segment) (reads : List PendingRead) → s.reads ≡ reads → 0 < length (take open_reads_max reads) → AreDistinct (λ (c : PendingCall). c.number) s.calls
    → EffectTotals s (response_effect (with_access s f segment) f.end reads) 0 (length (take open_reads_max reads) - 1)
shape_response s f segment [] is some apart = absurd (omega (arith, some))
shape_response s f segment (r ∷ reads) is some apart =
    let k = with_access s f segment in
    let st : FrameEffect = record (no_effect k) { reads = reads; kept = length (open_reads k) - 1 } in
    let kept_is : length (open_reads k) - 1 ≡ length (take open_reads_max (r ∷ reads)) - 1 = ap (λ (xs : List PendingRead). length (take open_reads_max xs) - 1) is in
    shape_read s k f.end r (call_of_number k r.number) st (length (take open_reads_max (r ∷ reads)) - 1) refl refl apart refl
    (record { counted = omega arith; kept_is = kept_is; kept_there = taken_tail open_reads_max r reads })

abbrev tagged_moves : ServerState → Frame → (last : Bool) → (opcode stag to : ℕ) → List ℕ → List FrameContent → List FrameContent → Bool → Type 0
tagged_moves s f last opcode stag to payload up rest ends =
    (kept : ℕ) × (gone : ℕ) × FrameTotals s (with_by s f (Ok (Tagged last opcode stag to payload)) (cond ends (response_effect (with_access s f (Tagged last opcode stag to payload)) f.end s.reads) (no_effect (with_access s f (Tagged last opcode stag to payload)))))
    (cond ends (response_effect (with_access s f (Tagged last opcode stag to payload)) f.end s.reads) (no_effect (with_access s f (Tagged last opcode stag to payload))))
    up rest 0 kept gone

moves_tagged : (s : ServerState) (f : Frame) (last : Bool) (opcode stag to : ℕ) (payload : List ℕ) (up rest : List FrameContent) (ends : Bool) → (opcode_ends : (eqb opcode OPCODE_READ_RESPONSE && last) ≡ ends)
    → up ≡ TaggedFrame last opcode stag to payload ∷ rest → total_of responses_in up ≤ length (open_reads s) → AreDistinct (λ (c : PendingCall). c.number) s.calls → s.written ≤ s.due
    → tagged_moves s f last opcode stag to payload up rest ends
moves_tagged s f last opcode stag to payload up rest true is first few apart within =
    let one : total_of responses_in up ≡ 1 + total_of responses_in rest = ap (total_of responses_in) first ∙ ap (λ (b : Bool). one_if_response b + total_of responses_in rest) is in
    let some : 0 < length (take open_reads_max s.reads) = omega (arith, one, few) in (
      length (open_reads s) - 1,
      1,
      record {
        shape = shape_response s f (Tagged last opcode stag to payload) s.reads refl some apart;
        kept_gone = omega (arith, some);
        sends = omega arith;
        answers = refl;
        messages = errors_wait s (response_effect (with_access s f (Tagged last opcode stag to payload)) f.end s.reads).errors within;
        within = omega (arith, within);
        calls = refl;
        opened = refl;
        up_sends = ap (total_of sends_in) first;
        up_responses = one;
        up_hello = omega (arith, ap (total_of hellos_in) first);
      },
    )
moves_tagged s f last opcode stag to payload up rest false is first few apart within = (
  length (open_reads s),
  0,
  record {
    shape = record { counted = omega arith; kept_is = refl; kept_there = omega arith };
    kept_gone = omega arith;
    sends = omega arith;
    answers = omega arith;
    messages = errors_wait s [] within;
    within = omega (arith, within);
    calls = refl;
    opened = refl;
    up_sends = ap (total_of sends_in) first;
    up_responses = ap (total_of responses_in) first ∙ ap (λ (b : Bool). one_if_response b + total_of responses_in rest) is;
    up_hello = omega (arith, ap (total_of hellos_in) first);
  },
)

pub totals_tagged_up : (opened : LinkParameters) (k : ClientState) (s : ServerState) (w : Transit) (f : Frame) (last : Bool) (opcode stag to : ℕ) (payload : List ℕ) (rest : List FrameContent) → TotalsAgree k s w
    → AreDistinct (λ (c : PendingCall). c.number) s.calls → w.up ≡ TaggedFrame last opcode stag to payload ∷ rest
    → Carries false s.received.sends s.received.requests f (TaggedFrame last opcode stag to payload)
    → TotalsAgree k (server_state_after opened s (FrameReceived f)) (record { queued_up = w.queued_up; up = rest; queued_down = w.queued_down ++ effect_frames (frame_effect s f); down = w.down })
totals_tagged_up opened k s w f last opcode stag to payload rest c apart first p =
    let segment : Segment = Tagged last opcode stag to payload in
    let is : frame_segment f ≡ Ok segment = segment_is s.received.sends s.received.requests f (TaggedFrame last opcode stag to payload) segment p refl in
    let st = effect_in s f (Ok segment) in
    let t = with_by s f (Ok segment) st in
    let m = moves_tagged s f last opcode stag to payload w.up rest (eqb opcode OPCODE_READ_RESPONSE && last) refl first (omega (arith, c.reads)) apart c.within_down in
    totals_frame_lem opened k s w f segment rest p.behind is
    (totals_moved opened k s t w st rest 0 m.0 m.1 c m.2 (at_front s.received.begun w.up w.queued_up (TaggedFrame last opcode stag to payload) rest first c.whole_up))

-- ---- The server executes a call, and writes

pub fills_none : (one : FrameContent → ℕ) → ((last : Bool) (stag to : ℕ) (payload : List ℕ) → one (TaggedFrame last OPCODE_WRITE stag to payload) ≡ 0) → (chunk : List Part) (bytes : List ℕ) → total_of one (write_frames chunk bytes) ≡ 0
unfolding tagged_frames
fills_none one none [] bytes = refl
fills_none one none (p ∷ chunk) bytes =
    total_append one (cond (eqb (min p.length (length bytes)) 0) [] (tagged_frames OPCODE_WRITE p.handle p.offset (take p.length bytes))) (write_frames chunk (drop p.length bytes))
    ∙ omega (arith, fills_none one none chunk (drop p.length bytes), by (eqb (min p.length (length bytes)) 0))
  where
    by : (b : Bool) → total_of one (cond b [] (tagged_frames OPCODE_WRITE p.handle p.offset (take p.length bytes))) ≡ 0
    by true = refl
    by false = total_map_zero one (tagged_frame OPCODE_WRITE p.handle p.offset (take p.length bytes)) (range_with_len 0 (segment_count (take p.length bytes))) (λ i. none _ _ _ _)

pub long_none : (one : FrameContent → ℕ) → ((last : Bool) (stag to : ℕ) (payload : List ℕ) → one (TaggedFrame last OPCODE_WRITE stag to payload) ≡ 0) → (b : Bool) (chunk : List Part) (bytes : List ℕ) → total_of one (cond b (write_frames chunk bytes) []) ≡ 0
long_none one none true chunk bytes = fills_none one none chunk bytes
long_none one none false chunk bytes = refl

pub answer_counts : (one : FrameContent → ℕ) (n : ℕ) → ((last : Bool) (stag to : ℕ) (payload : List ℕ) → one (TaggedFrame last OPCODE_WRITE stag to payload) ≡ 0) → ((named : Bool) (offset : ℕ) (payload : List ℕ) → one (PartFrame named offset payload) ≡ 0) → ((message : SentMessage) → one (SendFrame message) ≡ n)
    → (s : ServerState) (xid : ℕ) (offer : ChunkLists) (a : Option Answer) → total_of one (answer_frames s xid offer a) ≡ n
answer_counts one n none parts is s xid offer None = send_counts one n parts is None (chunk_error xid (credit_word s))
answer_counts one n none parts is s xid offer (Some a) =
    let moved = write_frames (first_chunk offer.write) a.moved in
    let long = cond a.long (write_frames (no_segments offer.reply) a.stream) [] in
    let named = stag_named s.invalidates offer in
    let message = answer_message xid (credit_word s) offer a in
    total_append one moved (long ++ send_frames named message)
    ∙ omega (arith, total_append one long (send_frames named message), fills_none one none (first_chunk offer.write) a.moved, long_none one none a.long (no_segments offer.reply) a.stream, send_counts one n parts is named message)

pub totals_executes : (opened : LinkParameters) (k : ClientState) (s : ServerState) (w : Transit) (e : ExecutedCall) → TotalsAgree k s w
    → AreDistinct (λ (c : PendingCall). c.xid) s.calls → list_any (λ (c : PendingCall). eqb c.xid e.xid) s.calls ≡ true
    → TotalsAgree k (server_state_after opened s (CallExecuted e)) (record { queued_up = w.queued_up; up = w.up; queued_down = w.queued_down ++ server_frames opened s (CallExecuted e); down = w.down })
unfolding server_state_after server_frames
totals_executes opened k s w e c apart there =
    let offer = offer_of s e.xid in
    let answer = answer_of_target offer s.down_max e.reply (target_of (call_of e.payload)) in
    let said = answer_frames s e.xid offer answer in
    let fewer = length_fewer (λ (c : PendingCall). c.xid) e.xid s.calls apart there in
    record {
      hello = omega (arith, c.hello, total_append hellos_in w.queued_down said, answer_counts hellos_in 0 (λ last stag to payload. refl) (λ named offset payload. refl) (λ message. refl) s e.xid offer answer);
      calls_up = c.calls_up;
      messages_down = omega (arith, c.messages_down, total_append sends_in w.queued_down said, answer_counts sends_in 1 (λ last stag to payload. refl) (λ named offset payload. refl) (λ message. refl) s e.xid offer answer);
      sends = c.sends;
      messages = omega (
        arith,
        c.messages,
        total_append sends_in w.queued_down said,
        answer_counts sends_in 1 (λ last stag to payload. refl) (λ named offset payload. refl) (λ message. refl) s e.xid offer answer,
        waiting_append s.written s.message_ends ((s.due + length (execution_output s e)) ∷ []),
        one_waiting s.written (s.due + length (execution_output s e)) (omega (arith, c.within_down, execution_some s e)),
      );
      all_sends = c.all_sends;
      within_up = c.within_up;
      within_down = omega (arith, c.within_down);
      out = c.out;
      waiting = omega (arith, c.waiting, fewer);
      whole_up = c.whole_up;
      whole_down = queued_more k.received.begun w.down w.queued_down said c.whole_down (answer_sends s e.xid offer answer);
      reads = omega (arith, c.reads, total_append requests_in w.queued_down said, answer_counts requests_in 0 (λ last stag to payload. refl) (λ named offset payload. refl) (λ message. refl) s e.xid offer answer);
      responses = c.responses;
    }

-- what was queued is in transit
pub totals_writes_down : (opened : LinkParameters) (k : ClientState) (s : ServerState) (w : Transit) (taken : ℕ) → s.written + taken ≡ s.due → ServerEnds s → TotalsAgree k s w
    → TotalsAgree k (server_state_after opened s (QueueWritten taken)) (record { queued_up = w.queued_up; up = w.up; queued_down = []; down = w.down ++ w.queued_down })
unfolding server_state_after
totals_writes_down opened k s w taken all ends c = record {
  hello = omega (arith, c.hello, total_append hellos_in w.down w.queued_down);
  calls_up = c.calls_up;
  messages_down = omega (arith, c.messages_down, total_append sends_in w.down w.queued_down);
  sends = c.sends;
  messages = ap (λ (n : ℕ). ends_waiting n s.message_ends) all ∙ none_waiting s.due s.message_ends ends.messages;
  all_sends = c.all_sends;
  within_up = c.within_up;
  within_down = omega (arith, all);
  out = c.out;
  waiting = c.waiting;
  whole_up = c.whole_up;
  whole_down = none_queued k.received.begun (w.down ++ w.queued_down) c.whole_down;
  reads = omega (arith, c.reads, total_append requests_in w.down w.queued_down);
  responses = c.responses;
}

-- ---- The server receives the client's hello

pub totals_hello_up : (opened : LinkParameters) (k : ClientState) (s : ServerState) (w : Transit) (f : Frame) (rest : List FrameContent) → TotalsAgree k s w → w.up ≡ HelloFrame ∷ rest → is_hello f ≡ true
    → TotalsAgree k (server_state_after opened s (FrameReceived f)) (record { queued_up = w.queued_up; up = rest; queued_down = w.queued_down ++ server_frames opened s (FrameReceived f); down = w.down })
unfolding server_state_after server_frames
totals_hello_up opened k s w f rest c first is =
    let one = HelloFrame ∷ [] in
    let m : TotalsAgree k (with_own_hello opened s f) (record { queued_up = w.queued_up; up = rest; queued_down = w.queued_down ++ one; down = w.down }) = record {
      hello = omega (arith, c.hello, ap (total_of hellos_in) first, total_append hellos_in w.queued_down one);
      calls_up = omega (arith, c.calls_up, ap (total_of sends_in) first);
      messages_down = omega (arith, c.messages_down, total_append sends_in w.queued_down one);
      sends = c.sends;
      messages = omega (arith, c.messages, total_append sends_in w.queued_down one);
      all_sends = c.all_sends;
      within_up = c.within_up;
      within_down = omega (arith, c.within_down);
      out = c.out;
      waiting = c.waiting;
      whole_up = at_front s.received.begun w.up w.queued_up HelloFrame rest first c.whole_up;
      whole_down = queued_more k.received.begun w.down w.queued_down one c.whole_down refl;
      reads = omega (arith, c.reads, ap (total_of responses_in) first, total_append requests_in w.queued_down one);
      responses = c.responses;
    } in
    subst (λ (b : Bool). TotalsAgree k (cond b (with_own_hello opened s f) (with_effect s f (frame_effect s f))) (record { queued_up = w.queued_up; up = rest; queued_down = w.queued_down ++ cond b (HelloFrame ∷ []) (effect_frames (frame_effect s f)); down = w.down })) (sym is) m
