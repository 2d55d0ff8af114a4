-- Reads agree after each frame at the server.
use Rattle.std.proofs.Common.{◌≡◌, ℕ, zero, suc, ◌-◌, ◌≤◌, Bool, true, false, not, cond, ◌&&◌, eqb, List, [], ◌∷◌, ◌++◌, length, map, take, drop, Option, None, Some, Ok, refl, sym, ap, subst, ◌∙◌, arith, append_assoc, length-append, length-take, take-append-drop}
use Rattle.std.specs.List.{filter, range_with_len}
use Rattle.std.proofs.lemmas.List.{take-append-le, map-append}
use Rattle.nr_wire.specs.Constants.{OPCODE_READ_RESPONSE}
use Rattle.nr_wire.specs.Segment.{Segment}
use Rattle.nr_wire.specs.Segment.Segment.{Tagged}
use Rattle.nr_reduce.specs.declared.mark.LinkParameters.{LinkParameters}
use Rattle.nr_link.specs.Limits.{open_reads_max}
use Rattle.nr_reduce.specs.Chunks.{is_read_chunk_of_item}
use Rattle.nr_link.specs.Frames.{Frame}
use Rattle.nr_link.specs.ReceiveState.{begun_bytes}
use Rattle.nr_link.specs.Ending.{frame_segment}
use Rattle.nr_reduce.specs.Events.RunEvent.{FrameReceived}
use Rattle.nr_reduce.specs.ServerState.{ServerState, PendingCall, PendingRead}
use Rattle.nr_reduce.specs.ServerFrames.{FrameEffect, frame_effect, effect_in, message_effect, no_effect, ready_if_whole, with_verdict, with_refused_call, read_effect, response_effect, call_of_number, is_stream_read, with_access}
use Rattle.nr_reduce.specs.ServerMessages.{Verdict, CallVerdict, verdict, by_payload, pending_payload, chunk_bytes}
use Rattle.nr_reduce.specs.ServerReads.{open_reads, is_read, reads_of, regions_of}
use Rattle.nr_reduce.specs.Server.{newly_open_reads, server_state_after}
use Rattle.nr_reduce.specs.ServerMessages.Verdict.{EndsLink, OtherVersion, BadChunks, MakesPending}
use Rattle.nr_reduce.specs.ServerMessages.CallVerdict.{Refuses, IsReady}
use Rattle.nr_laws.proofs.FrameContents.{FrameContent, Carries, request_frame, effect_frames, SentMessage, last_segment, part_segment, send_frames, errors_frames, part_frame, last_part, last_index}
use Rattle.nr_laws.proofs.FrameContents.FrameContent.{HelloFrame, PartFrame, SendFrame, RequestFrame, TaggedFrame}
use Rattle.nr_laws.proofs.LinkInvariants.{Transit, AreResponses, ContinuesRead, requests_of, ReadsAgree}
use Rattle.nr_laws.proofs.TotalsAtServer.{shape_message, after_is_lem, step_is, with_by}
use Rattle.nr_laws.proofs.EachEffect.{whole_rule}
use Rattle.nr_laws.proofs.ReadContents.{segment_is}

-- ---- What stays at the front of the reads

take_less : {A : Type 0} (n m : ℕ) (xs : List A) → n ≤ m → take n (take m xs) ≡ take n xs
take_less zero m xs le = refl
take_less (suc n) zero xs le = absurd (omega (arith, le))
take_less (suc n) (suc m) [] le = refl
take_less (suc n) (suc m) (x ∷ xs) le = ap (λ (ys : List _). x ∷ ys) (take_less n m xs (omega (arith, le)))

front_ready : (st : FrameEffect) (xs : List PendingRead) (o : CallVerdict) → take st.kept st.reads ≡ xs → take (with_verdict o st).kept (with_verdict o st).reads ≡ xs
front_ready st xs (Refuses reason) h = h
front_ready st xs (IsReady r) h = h

front_whole : (k : ServerState) (place : ℕ) (c : PendingCall) (st : FrameEffect) (xs : List PendingRead) → take st.kept st.reads ≡ xs → take (ready_if_whole k place c st).kept (ready_if_whole k place c st).reads ≡ xs
front_whole k place c st xs h = whole_rule (λ x. take x.kept x.reads ≡ xs) k place c st (λ g. front_ready st xs (by_payload c (pending_payload k place c)) g) h

taken_again : {A : Type 0} (n : ℕ) (xs : List A) → take (length (take n xs)) xs ≡ take n xs
taken_again zero xs = refl
taken_again (suc n) [] = refl
taken_again (suc n) (x ∷ xs) = ap (λ (ys : List _). x ∷ ys) (taken_again n xs)

front_message : (k : ServerState) (place : ℕ) (message : List ℕ) (v : Verdict) → take (message_effect k place message v).kept (message_effect k place message v).reads ≡ open_reads k
front_message k place message (EndsLink reason) = taken_again open_reads_max k.reads
front_message k place message OtherVersion = taken_again open_reads_max k.reads
front_message k place message BadChunks = taken_again open_reads_max k.reads
front_message k place message (MakesPending c) =
    let regions = k.regions ++ regions_of k place c in
    front_whole k place c _ (open_reads k)
    (take-append-le (length (open_reads k)) k.reads (reads_of regions c) (omega (arith, length-take open_reads_max k.reads)) ∙ taken_again open_reads_max k.reads)

front_read_lem : (k : ServerState) (place : ℕ) (r : PendingRead) (o : Option PendingCall) (st : FrameEffect) (xs : List PendingRead) → st.kept ≤ length st.reads → take st.kept st.reads ≡ xs → take (read_effect k place r o st).kept (read_effect k place r o st).reads ≡ xs
front_read_lem k place r None st xs le h = h
front_read_lem k place r (Some c) st xs le h = by (is_stream_read c r st.reads && not (is_read_chunk_of_item (chunk_bytes k place c 0) c.lists.read))
  where
    by : (b : Bool) → take (cond b (with_refused_call k c st) (ready_if_whole k place c st)).kept (cond b (with_refused_call k c st) (ready_if_whole k place c st)).reads ≡ xs
    by true =
        take-append-le st.kept (take st.kept st.reads) (filter (λ (x : PendingRead). not (eqb x.number c.number)) (drop st.kept st.reads)) (omega (arith, length-take st.kept st.reads, le))
        ∙ take_less st.kept st.kept st.reads (omega arith) ∙ h
    by false = front_whole k place c st xs h

-- at least the reads that stay are there
kept_read : (k : ServerState) (place : ℕ) (r : PendingRead) (o : Option PendingCall) (st : FrameEffect) → st.kept ≤ length (take open_reads_max st.reads) → st.kept ≤ length st.reads
    → (read_effect k place r o st).kept ≤ length (take open_reads_max (read_effect k place r o st).reads)
kept_read k place r None st le all = le
kept_read k place r (Some c) st le all = by (is_stream_read c r st.reads && not (is_read_chunk_of_item (chunk_bytes k place c 0) c.lists.read))
  where
    whole_same : (b : Bool) (o : CallVerdict) → (cond b (with_verdict o st) st).kept ≤ length (take open_reads_max (cond b (with_verdict o st) st).reads)
    whole_same true (Refuses reason) = le
    whole_same true (IsReady ready) = le
    whole_same false o = le

    by : (b : Bool) → (cond b (with_refused_call k c st) (ready_if_whole k place c st)).kept ≤ length (take open_reads_max (cond b (with_refused_call k c st) (ready_if_whole k place c st)).reads)
    by true =
        let others = filter (λ (x : PendingRead). not (eqb x.number c.number)) (drop st.kept st.reads) in
        omega (arith, le, all, length-take open_reads_max st.reads, length-take st.kept st.reads, length-take open_reads_max (take st.kept st.reads ++ others), length-append (take st.kept st.reads) others)
    by false = whole_same (is_read st.reads c.number) (by_payload c (pending_payload k place c))

-- the reads that are open after a step: those that stay, and those that are opened by it
open_parts_lem : (st : FrameEffect) (xs : List PendingRead) → st.kept ≤ length (take open_reads_max st.reads) → take st.kept st.reads ≡ xs → take open_reads_max st.reads ≡ xs ++ newly_open_reads st
open_parts_lem st xs le h =
    sym (take-append-drop st.kept (take open_reads_max st.reads))
    ∙ ap (λ (ys : List PendingRead). ys ++ newly_open_reads st) (take_less st.kept open_reads_max st.reads (omega (arith, length-take open_reads_max st.reads, le)) ∙ h)

-- ---- Read Requests among what is sent

pub requests_append : (xs ys : List FrameContent) → requests_of (xs ++ ys) ≡ requests_of xs ++ requests_of ys
requests_append [] ys = refl
requests_append (HelloFrame ∷ xs) ys = requests_append xs ys
requests_append (PartFrame named offset payload ∷ xs) ys = requests_append xs ys
requests_append (SendFrame message ∷ xs) ys = requests_append xs ys
requests_append (RequestFrame sink at size stag to ∷ xs) ys = ap (λ (zs : List FrameContent). RequestFrame sink at size stag to ∷ zs) (requests_append xs ys)
requests_append (TaggedFrame last opcode stag to payload ∷ xs) ys = requests_append xs ys

pub send_asks_none : (named : Option ℕ) (message : List ℕ) → requests_of (send_frames named message) ≡ []
unfolding send_frames
send_asks_none named message = by (range_with_len 0 (last_index message))
  where
    by : (is : List ℕ) → requests_of (map (part_frame named message) is ++ SendFrame (last_part named message) ∷ []) ≡ []
    by [] = refl
    by (i ∷ is) = by is

none_of_sends : (messages : List (List ℕ)) → requests_of (errors_frames messages) ≡ []
none_of_sends [] = refl
none_of_sends (m ∷ messages) = requests_append (send_frames None m) (errors_frames messages) ∙ (λ i. send_asks_none None m i ++ none_of_sends messages i)

all_of_reads : (rs : List PendingRead) → requests_of (map request_frame rs) ≡ map request_frame rs
all_of_reads [] = refl
all_of_reads (r ∷ rs) = ap (λ (zs : List FrameContent). request_frame r ∷ zs) (all_of_reads rs)

requests_said : (st : FrameEffect) → requests_of (effect_frames st) ≡ map request_frame (newly_open_reads st)
requests_said st =
    requests_append (errors_frames st.errors) (map request_frame (newly_open_reads st))
    ∙ (λ i. none_of_sends st.errors i ++ all_of_reads (newly_open_reads st) i)

abbrev pub moved : Transit → FrameEffect → List FrameContent → Transit
moved w st rest = record { queued_up = w.queued_up; up = rest; queued_down = w.queued_down ++ effect_frames st; down = w.down }

reads_moved : (s t : ServerState) (w : Transit) (st : FrameEffect) (rest : List FrameContent) (answered asked : List PendingRead) → t.reads ≡ st.reads → st.kept ≤ length (take open_reads_max st.reads) → take st.kept st.reads ≡ answered ++ asked
    → AreResponses t.response_bytes answered (rest ++ w.queued_up) → requests_of (w.down ++ w.queued_down) ≡ map request_frame asked → ReadsAgree t (moved w st rest)
reads_moved s t w st rest answered asked same le parts answers requests = record {
  answered = answered;
  asked = asked ++ newly_open_reads st;
  parts = ap (λ (xs : List PendingRead). take open_reads_max xs) same ∙ open_parts_lem st (answered ++ asked) le parts ∙ append_assoc answered asked (newly_open_reads st);
  answers = answers;
  requests =
      ap (λ (xs : List FrameContent). requests_of xs) (sym (append_assoc w.down w.queued_down (effect_frames st)))
      ∙ requests_append (w.down ++ w.queued_down) (effect_frames st)
      ∙ (λ i. requests i ++ requests_said st i)
      ∙ sym (map-append request_frame asked (newly_open_reads st));
}

pub reads_send_up : (opened : LinkParameters) (s : ServerState) (w : Transit) (f : Frame) (message : SentMessage) (rest : List FrameContent) → ReadsAgree s w → w.up ≡ SendFrame message ∷ rest
    → Carries false s.received.sends s.received.requests f (SendFrame message) → (frame_effect s f).refusal ≡ None → ReadsAgree (server_state_after opened s (FrameReceived f)) (moved w (frame_effect s f) rest)
reads_send_up opened s w f message rest c first p goes_on =
    let segment : Segment = last_segment s.received.sends message in
    let is : frame_segment f ≡ Ok segment = segment_is s.received.sends s.received.requests f (SendFrame message) segment p refl in
    let whole : List ℕ = begun_bytes s.received.begun ++ message.payload in
    let st = effect_in s f (Ok segment) in
    let unended : st.refusal ≡ None = ap (λ (x : FrameEffect). x.refusal) (sym (step_is s f (Ok segment) is)) ∙ goes_on in
    let shape = shape_message s f.end whole (verdict s whole) unended in
    let t = with_by s f (Ok segment) st in
    let answers : AreResponses s.response_bytes c.answered (rest ++ w.queued_up) = subst (λ (ps : List FrameContent). AreResponses s.response_bytes c.answered (ps ++ w.queued_up)) first c.answers in
    let m : ReadsAgree t (moved w st rest) =
    reads_moved s t w st rest c.answered c.asked refl (subst (λ (n : ℕ). n ≤ length (take open_reads_max st.reads)) (sym shape.kept_is) shape.kept_there)
    (front_message s f.end whole (verdict s whole) ∙ c.parts) answers c.requests in
    subst (λ (st2 : FrameEffect). ReadsAgree (server_state_after opened s (FrameReceived f)) (moved w st2 rest)) (sym (step_is s f (Ok segment) is))
    (subst (λ (t2 : ServerState). ReadsAgree t2 (moved w st rest)) (sym (after_is_lem opened s f (Ok segment) p.behind is)) m)

-- a segment of a Send that isn't its last
pub reads_part_up : (opened : LinkParameters) (s : ServerState) (w : Transit) (f : Frame) (named : Bool) (offset : ℕ) (payload : List ℕ) (rest : List FrameContent) → ReadsAgree s w → w.up ≡ PartFrame named offset payload ∷ rest
    → Carries false s.received.sends s.received.requests f (PartFrame named offset payload) → ReadsAgree (server_state_after opened s (FrameReceived f)) (moved w (frame_effect s f) rest)
reads_part_up opened s w f named offset payload rest c first p =
    let segment : Segment = part_segment s.received.sends offset payload in
    let is : frame_segment f ≡ Ok segment = segment_is s.received.sends s.received.requests f (PartFrame named offset payload) segment p refl in
    let st = effect_in s f (Ok segment) in
    let t = with_by s f (Ok segment) st in
    let answers : AreResponses s.response_bytes c.answered (rest ++ w.queued_up) = subst (λ (ps : List FrameContent). AreResponses s.response_bytes c.answered (ps ++ w.queued_up)) first c.answers in
    let m : ReadsAgree t (moved w st rest) = reads_moved s t w st rest c.answered c.asked refl (omega arith) (taken_again open_reads_max s.reads ∙ c.parts) answers c.requests in
    subst (λ (st2 : FrameEffect). ReadsAgree (server_state_after opened s (FrameReceived f)) (moved w st2 rest)) (sym (step_is s f (Ok segment) is))
    (subst (λ (t2 : ServerState). ReadsAgree t2 (moved w st rest)) (sym (after_is_lem opened s f (Ok segment) p.behind is)) m)

-- ---- The server receives a segment of a Read Response

-- the reads of which the first is answered
record Headed (s : ServerState) (r : PendingRead) (rs asked : List PendingRead) : Type 0 where
  others : List PendingRead
  reads_are : s.reads ≡ r ∷ others
  taken_are : take 7 others ≡ rs ++ asked

headed : (s : ServerState) (reads : List PendingRead) (r : PendingRead) (rs asked : List PendingRead) → s.reads ≡ reads → take open_reads_max reads ≡ r ∷ (rs ++ asked) → Headed s r rs asked
headed s [] r rs asked is e = absurd cc
headed s (x ∷ others) r rs asked is e =
    let same : x ≡ r = head_same x r (take 7 others) (rs ++ asked) e in
    record { others = others; reads_are = is ∙ ap (λ (y : PendingRead). y ∷ others) same; taken_are = ap (λ (xs : List PendingRead). drop 1 xs) e }
  where
    head_same : (x r : PendingRead) (xs ys : List PendingRead) → x ∷ xs ≡ r ∷ ys → x ≡ r
    head_same x r xs ys e = cc

abbrev tagged_after : ServerState → Frame → (last : Bool) → (stag to : ℕ) → List ℕ → FrameEffect
tagged_after s f last stag to payload = effect_in s f (Ok (Tagged last OPCODE_READ_RESPONSE stag to payload))

reads_segment : (s : ServerState) (w : Transit) (f : Frame) (last : Bool) (stag to : ℕ) (payload : List ℕ) (rest : List FrameContent) (r : PendingRead) (rs asked : List PendingRead)
    → open_reads s ≡ r ∷ (rs ++ asked) → ContinuesRead last s.response_bytes (length payload) r rs (λ c qs. AreResponses c qs (rest ++ w.queued_up)) → requests_of (w.down ++ w.queued_down) ≡ map request_frame asked
    → ReadsAgree (with_by s f (Ok (Tagged last OPCODE_READ_RESPONSE stag to payload)) (tagged_after s f last stag to payload)) (moved w (tagged_after s f last stag to payload) rest)
reads_segment s w f false stag to payload rest r rs asked parts goes requests =
    let st = no_effect (with_access s f (Tagged false OPCODE_READ_RESPONSE stag to payload)) in
    let t = with_by s f (Ok (Tagged false OPCODE_READ_RESPONSE stag to payload)) st in
    reads_moved s t w st rest (r ∷ rs) asked refl (omega arith) (taken_again open_reads_max s.reads ∙ parts) goes.1 requests
reads_segment s w f true stag to payload rest r rs asked parts goes requests =
    let segment : Segment = Tagged true OPCODE_READ_RESPONSE stag to payload in
    let k = with_access s f segment in
    let h = headed s s.reads r rs asked refl parts in
    let st0 : FrameEffect = record (no_effect k) { reads = h.others; kept = length (open_reads k) - 1 } in
    let total_of : length (open_reads s) - 1 ≡ length (take 7 h.others) = ap (λ (xs : List PendingRead). length (take open_reads_max xs) - 1) h.reads_are ∙ omega arith in
    let le : length (open_reads s) - 1 ≤ length h.others = omega (arith, total_of, length-take 7 h.others) in
    let front : take (length (open_reads s) - 1) h.others ≡ rs ++ asked =
    ap (λ (n : ℕ). take n h.others) total_of ∙ taken_again 7 h.others ∙ h.taken_are in
    let st = read_effect k f.end r (call_of_number k r.number) st0 in
    let stepped : tagged_after s f true stag to payload ≡ st = ap (λ (xs : List PendingRead). response_effect k f.end xs) h.reads_are in
    let t = with_by s f (Ok segment) st in
    let kept_le : st.kept ≤ length (take open_reads_max st.reads) = kept_read k f.end r (call_of_number k r.number) st0 (omega (arith, le, total_of, length-take 7 h.others, length-take open_reads_max h.others)) le in
    let m : ReadsAgree t (moved w st rest) = reads_moved s t w st rest rs asked refl kept_le (front_read_lem k f.end r (call_of_number k r.number) st0 (rs ++ asked) le front) goes.1 requests in
    subst (λ (x : FrameEffect). ReadsAgree (with_by s f (Ok segment) x) (moved w x rest)) (sym stepped) m

pub reads_tagged_up : (opened : LinkParameters) (s : ServerState) (w : Transit) (f : Frame) (last : Bool) (opcode stag to : ℕ) (payload : List ℕ) (rest : List FrameContent) → ReadsAgree s w → w.up ≡ TaggedFrame last opcode stag to payload ∷ rest
    → Carries false s.received.sends s.received.requests f (TaggedFrame last opcode stag to payload) → ReadsAgree (server_state_after opened s (FrameReceived f)) (moved w (frame_effect s f) rest)
reads_tagged_up opened s w f last opcode stag to payload rest c first p =
    by c.answered c.parts (subst (λ (ps : List FrameContent). AreResponses s.response_bytes c.answered (ps ++ w.queued_up)) first c.answers)
  where
    by : (answered : List PendingRead) → open_reads s ≡ answered ++ c.asked → AreResponses s.response_bytes answered (TaggedFrame last opcode stag to payload ∷ (rest ++ w.queued_up)) → ReadsAgree (server_state_after opened s (FrameReceived f)) (moved w (frame_effect s f) rest)
    by [] parts answers = absurd answers
    by (r ∷ rs) parts answers =
        let segment : Segment = Tagged last OPCODE_READ_RESPONSE stag to payload in
        let is : frame_segment f ≡ Ok segment =
        segment_is s.received.sends s.received.requests f (TaggedFrame last opcode stag to payload) (Tagged last opcode stag to payload) p refl
        ∙ ap (λ (o : ℕ). Ok (Tagged last o stag to payload)) answers.0 in
        let st = effect_in s f (Ok segment) in
        subst (λ (st2 : FrameEffect). ReadsAgree (server_state_after opened s (FrameReceived f)) (moved w st2 rest)) (sym (step_is s f (Ok segment) is))
        (subst (λ (t2 : ServerState). ReadsAgree t2 (moved w st rest)) (sym (after_is_lem opened s f (Ok segment) p.behind is))
        (reads_segment s w f last stag to payload rest r rs c.asked parts answers.3 c.requests))
