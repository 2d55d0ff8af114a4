-- What a server accesses stays offered when its client receives a frame, accepts a call, and writes its queue.
use Rattle.std.proofs.Common.{◌≡◌, ℕ, ◌+◌, ◌≤◌, ◌<◌, Bool, true, false, cond, not, eqb, List, [], ◌∷◌, ◌++◌, map, take, drop, Option, None, Some, Result, Ok, refl, sym, ap, subst, ◌∙◌, arith, inl, inr}
use Rattle.std.specs.List.{AllByRecursion, range_with_len}
use Rattle.std.proofs.lemmas.Bool.{eqb-true, eq-eqb}
use Rattle.nr_xdr.specs.Item.{IsBytes}
use Rattle.nr_xdr.specs.Fields.{word_at}
use Rattle.nr_wire.specs.Constants.{OPCODE_READ_REQUEST, OPCODE_READ_RESPONSE, QUEUE_READ_REQUEST}
use Rattle.nr_wire.specs.Segment.{Segment}
use Rattle.nr_wire.specs.Segment.Segment.{Tagged, Untagged}
use Rattle.nr_link.specs.Frames.{Frame, is_hello}
use Rattle.nr_link.specs.Output.{msn_word, segment_count}
use Rattle.nr_link.specs.ReceiveState.{begun_bytes, ReadRequest}
use Rattle.nr_reduce.proofs.OwnLimits.{ClientLimits, planned_as}
use Rattle.nr_reduce.specs.declared.mark.LinkParameters.{LinkParameters}
use Rattle.nr_reduce.specs.declared.outline.Plan.{Plan}
use Rattle.nr_reduce.specs.Limits.{numbers_end}
use Rattle.nr_reduce.specs.Plans.{Buffer, buffers, regions_needed, call_message, HasWordPosition}
use Rattle.nr_reduce.specs.History.{AcceptedCall}
use Rattle.nr_reduce.specs.Events.RunEvent.{FrameReceived, CallSubmitted, QueueWritten}
use Rattle.nr_reduce.specs.OfferedRegions.{Region, closed_if, regions_closed}
use Rattle.nr_reduce.specs.ClientState.{ClientState, OutstandingCall, WaitingCall, call_payload, plan_for, stag_for, waiting_call, waiting_regions, client_memory_at, region_of}
use Rattle.nr_reduce.specs.Client.{client_state_after, outstanding_of, regions_unless_waiting, with_segment, segment_request, with_hello}
use Rattle.nr_reduce.specs.SubmitAnswer.{next_sent_xid}
use Rattle.nr_reduce.specs.Asked.{IsPlannedAs, IsResent}
use Rattle.nr_reduce.proofs.Placing.{segment_waiting}
use Rattle.nr_reduce.specs.ServerState.{ServerState}
use Rattle.nr_laws.proofs.WaitingCalls.{IsSentAgain, sent_again, first_there, others_there}
use Rattle.nr_laws.proofs.FrameContents.{FrameContent, client_frames, response_frames, tagged_frame, tagged_frames, Carries, SentMessage, CompletesMessage, last_segment, part_segment, send_frames, calls_frames}
use Rattle.nr_laws.proofs.FrameContents.FrameContent.{HelloFrame, PartFrame, SendFrame, RequestFrame, TaggedFrame}
use Rattle.nr_laws.proofs.TotalsAtClient.{after_is_lem, says_is, request_payload}
use Rattle.nr_laws.proofs.ClientFrame.{says_hello, after_hello}
use Rattle.nr_laws.proofs.OwnEvents.{planned}
use Rattle.nr_laws.proofs.AnsweredCalls.{message_xids, times, xids_append, times_append}
use Rattle.nr_laws.proofs.OfferedPlans.{planned_offered}
use Rattle.nr_laws.proofs.OfferedAccesses.{CallOffered, MessageOffered, CallAsked, ReadOffered, IsLive, IsEarly, AccessesAgree, OffersMore, WaitsOffered, waits_more, offers_same, offers_left, offers_right, offers_closed, lists_more, message_more, read_more_lem, accesses_more, SendOffered, send_more}
use Rattle.nr_laws.proofs.Basics.{each_append, each_all, each_kept}
use Rattle.nr_laws.proofs.SendFrames.{each_send, each_sends}
use Rattle.nr_laws.proofs.Outputs.{message_of_call}
use Rattle.nr_laws.proofs.LinkInvariants.{AreSends}
use Rattle.nr_laws.proofs.ReadContents.{plain_is}
use Rattle.nr_laws.proofs.PlainSegments.{plain_segment}

-- ---- More regions, and more that is received

more_live : (d ps : List FrameContent) (g : Region) → IsLive (message_xids d) g → IsLive (message_xids (d ++ ps)) g
more_live d ps g (inl h) = inl h
more_live d ps g (inr h) = inr (omega (arith, h, ap (λ (xs : List ℕ). times g.call xs) (xids_append d ps), times_append g.call (message_xids d) (message_xids ps)))

-- the client goes on with more regions, and says messages that they offer
preserved : (opened : LinkParameters) (k t : ClientState) (s : ServerState) (d e all_up said all_down : List FrameContent) (place : ℕ) → AccessesAgree opened k s d all_up all_down place → OffersMore k.regions t.regions
    → AllByRecursion (IsEarly place) t.regions → AllByRecursion (IsLive (message_xids e)) t.regions → AllByRecursion (MessageOffered t.regions) said → AllByRecursion (CallAsked opened t.regions) t.outstanding → AllByRecursion (WaitsOffered t.regions) t.waiting
    → AccessesAgree opened t s e (all_up ++ said) all_down place
preserved opened k t s d e all_up said all_down place h more early lives says asked resent = record {
  early = early;
  lives = lives;
  up_said = each_append (MessageOffered t.regions) all_up said (each_all (MessageOffered k.regions) (MessageOffered t.regions) all_up (message_more k.regions t.regions more) h.up_said) says;
  asked = asked;
  resent = resent;
  calls = each_all (CallOffered k.regions) (CallOffered t.regions) s.calls (λ c x. lists_more k.regions t.regions c.xid c.lists more x) h.calls;
  waiting = each_all (ReadOffered k.regions s.calls) (ReadOffered t.regions s.calls) (drop 8 s.reads) (read_more_lem k.regions t.regions more s.calls) h.waiting;
  down_said = accesses_more k.regions t.regions more [] all_down h.down_said;
}

-- ---- A call is submitted

new_early : (xid from place : ℕ) → from ≤ place → (bs : List Buffer) → AllByRecursion (IsEarly place) (map (region_of xid from) bs)
new_early xid from place le [] = tt
new_early xid from place le (b ∷ bs) = (le, new_early xid from place le bs)

new_live : (answered : List ℕ) (xid place : ℕ) (bs : List Buffer) → AllByRecursion (IsLive answered) (map (region_of xid place) bs)
new_live answered xid place [] = tt
new_live answered xid place (b ∷ bs) = (inl refl, new_live answered xid place bs)

-- a call that is sent again has its regions
taken_early : (x : Option WaitingCall) (place : ℕ) (o : OutstandingCall) → AllByRecursion (IsEarly place) (regions_unless_waiting x place o)
taken_early None place o = new_early o.xid place place (omega arith) (buffers o.stag o.plan)
taken_early (Some w) place o = tt

taken_live : (x : Option WaitingCall) (answered : List ℕ) (place : ℕ) (o : OutstandingCall) → AllByRecursion (IsLive answered) (regions_unless_waiting x place o)
taken_live None answered place o = new_live answered o.xid place (buffers o.stag o.plan)
taken_live (Some w) answered place o = tt

taken_offered : (opened : LinkParameters) (k : ClientState) (place : ℕ) (a : AcceptedCall) → AllByRecursion (WaitsOffered k.regions) k.waiting
    → ((from : ℕ) → SendOffered (map (region_of a.xid from) (buffers (outstanding_of k a).stag (outstanding_of k a).plan)) (message_of_call opened (outstanding_of k a)))
    → (x : Option WaitingCall) → waiting_call k a.xid ≡ x → CallAsked opened (k.regions ++ regions_unless_waiting x place (outstanding_of k a)) (outstanding_of k a)
taken_offered opened k place a h own None e =
    let o = outstanding_of k a in
    let new : List Region = map (region_of a.xid place) (buffers o.stag o.plan) in
    send_more new (k.regions ++ new) (offers_right k.regions new) (message_of_call opened o) (own place)
taken_offered opened k place a h own (Some w) e =
    let o = outstanding_of k a in
    let again : IsSentAgain k a w = sent_again k a w e in
    let there : WaitsOffered k.regions w = first_there (WaitsOffered k.regions) k.waiting a.xid w h e in
    let same : map (region_of w.xid 0) (buffers w.stag w.plan) ≡ map (region_of a.xid 0) (buffers o.stag o.plan) = λ i. map (region_of (sym again.xid i) 0) (buffers (sym again.stag i) (sym again.plan i)) in
    let more : OffersMore (map (region_of a.xid 0) (buffers o.stag o.plan)) k.regions = subst (λ (rs : List Region). OffersMore rs k.regions) same there in
    send_more (map (region_of a.xid 0) (buffers o.stag o.plan)) (k.regions ++ []) (λ xid stag right n x. offers_left k.regions [] xid stag right n (more xid stag right n x)) (message_of_call opened o) (own 0)

pub accessed_submit : (opened : LinkParameters) (k : ClientState) (s : ServerState) (d all_up all_down : List FrameContent) (place : ℕ) (a : AcceptedCall) (plan : Plan) → AccessesAgree opened k s d all_up all_down place → plan_for k a.xid a.call a.form ≡ Ok plan → a.xid ≡ next_sent_xid k → IsResent k.has_hello k.next_xid k.waiting a.call a.form → a.xid < numbers_end
    → stag_for k a.xid + regions_needed plan ≤ numbers_end → IsBytes (call_payload a.xid a.call) → HasWordPosition a.form → ClientLimits k
    → AccessesAgree opened (client_state_after opened k (CallSubmitted place a)) s d (all_up ++ client_frames opened k (CallSubmitted place a)) all_down place
unfolding client_state_after client_frames
accessed_submit opened k s d all_up all_down place a plan h is own resent small stags bytes typed limits =
    let t = client_state_after opened k (CallSubmitted place a) in
    let o = outstanding_of k a in
    let new : List Region = regions_unless_waiting (waiting_call k a.xid) place o in
    let more : OffersMore k.regions t.regions = offers_left k.regions new in
    let same : o.plan ≡ plan = planned (call_payload a.xid a.call) (plan_for k a.xid a.call a.form) plan is in
    let p : IsPlannedAs a.xid a.call a.form plan = planned_as k a.xid a.call a.form plan limits own resent is in
    let one : CallAsked opened t.regions o =
    taken_offered opened k place a h.resent
    (λ from. subst (λ (q : Plan). SendOffered (map (region_of a.xid from) (buffers o.stag q)) (call_message a.xid opened.wished o.stag q)) (sym same)
    (planned_offered (call_payload a.xid a.call) a.form p.up p.down a.xid opened.wished from o.stag plan p.up_fits p.planned bytes typed small stags))
    (waiting_call k a.xid) refl in
    preserved opened k t s d d all_up (client_frames opened k (CallSubmitted place a)) all_down place h more
    (each_append (IsEarly place) k.regions new h.early (taken_early (waiting_call k a.xid) place o))
    (each_append (IsLive (message_xids d)) k.regions new h.lives (taken_live (waiting_call k a.xid) (message_xids d) place o))
    (by t.regions o one k.has_hello)
    (each_append (CallAsked opened t.regions) k.outstanding (o ∷ []) (each_all (CallAsked opened k.regions) (CallAsked opened t.regions) k.outstanding (λ x. send_more k.regions t.regions more (message_of_call opened x)) h.asked) (one, tt))
    (others_there (WaitsOffered t.regions) k.waiting a.xid (each_all (WaitsOffered k.regions) (WaitsOffered t.regions) k.waiting (waits_more k.regions t.regions more) h.resent))
  where
    by : (regions : List Region) (o : OutstandingCall) → CallAsked opened regions o → (b : Bool) → AllByRecursion (MessageOffered regions) (cond b (send_frames None (message_of_call opened o)) [])
    by regions o one true = each_send (MessageOffered regions) None (λ offset payload. tt) (message_of_call opened o) one
    by regions o one false = tt

-- ---- A client that was reopened offers what its calls offer that wait, from the start

pub first_early : (place : ℕ) (ws : List WaitingCall) → AllByRecursion (IsEarly place) (waiting_regions ws)
first_early place [] = tt
first_early place (w ∷ ws) = each_append (IsEarly place) (map (region_of w.xid 0) (buffers w.stag w.plan)) (waiting_regions ws) (new_early w.xid 0 place (omega arith) (buffers w.stag w.plan)) (first_early place ws)

pub first_live : (ws : List WaitingCall) → AllByRecursion (IsLive []) (waiting_regions ws)
first_live [] = tt
first_live (w ∷ ws) = each_append (IsLive []) (map (region_of w.xid 0) (buffers w.stag w.plan)) (waiting_regions ws) (new_live [] w.xid 0 (buffers w.stag w.plan)) (first_live ws)

pub first_offered : (ws : List WaitingCall) → AllByRecursion (WaitsOffered (waiting_regions ws)) ws
first_offered [] = tt
first_offered (w ∷ ws) =
    let own : List Region = map (region_of w.xid 0) (buffers w.stag w.plan) in
    let others : List Region = waiting_regions ws in
    (offers_left own others, each_all (WaitsOffered others) (WaitsOffered (own ++ others)) ws (waits_more others (own ++ others) (offers_right own others)) (first_offered ws))

-- ---- A queue is written

pub accessed_written_up : (taken : ℕ) (opened : LinkParameters) (k : ClientState) (s : ServerState) (d all_up all_down : List FrameContent) (place : ℕ) → AccessesAgree opened k s d all_up all_down place
    → AccessesAgree opened (client_state_after opened k (QueueWritten taken)) s d all_up all_down place
unfolding client_state_after
accessed_written_up taken opened k s d all_up all_down place h =
    record { early = h.early; lives = h.lives; up_said = h.up_said; asked = h.asked; resent = h.resent; calls = h.calls; waiting = h.waiting; down_said = h.down_said }

-- ---- A frame is received

asked_said : (opened : LinkParameters) (regions : List Region) (os : List OutstandingCall) → AllByRecursion (CallAsked opened regions) os → AllByRecursion (MessageOffered regions) (calls_frames opened os)
asked_said opened regions os h = each_sends (MessageOffered regions) (λ offset payload. tt) (message_of_call opened) os h

pub accessed_hello_down : (opened : LinkParameters) (k : ClientState) (s : ServerState) (d all_up all_down : List FrameContent) (place : ℕ) (f : Frame) → AccessesAgree opened k s d all_up all_down place → is_hello f ≡ true
    → AccessesAgree opened (client_state_after opened k (FrameReceived f)) s (d ++ HelloFrame ∷ []) (all_up ++ client_frames opened k (FrameReceived f)) all_down place
accessed_hello_down opened k s d all_up all_down place f h is =
    subst (λ (t : ClientState). AccessesAgree opened t s (d ++ HelloFrame ∷ []) (all_up ++ client_frames opened k (FrameReceived f)) all_down place) (sym (after_hello opened k f is))
    (subst (λ (ps : List FrameContent). AccessesAgree opened (with_hello opened k f) s (d ++ HelloFrame ∷ []) (all_up ++ ps) all_down place) (sym (says_hello opened k f is))
    (preserved opened k (with_hello opened k f) s d (d ++ HelloFrame ∷ []) all_up (calls_frames opened k.outstanding) all_down place h (offers_same k.regions) h.early
    (each_all (IsLive (message_xids d)) (IsLive (message_xids (d ++ HelloFrame ∷ []))) k.regions (more_live d (HelloFrame ∷ [])) h.lives) (asked_said opened k.regions k.outstanding h.asked) h.asked h.resent))

-- what the client says for a Read Request are no messages
response_said : (regions : List Region) (k : ClientState) (place : ℕ) (q : Option ReadRequest) → AllByRecursion (MessageOffered regions) (response_frames k place q)
unfolding tagged_frames
response_said regions k place None = tt
response_said regions k place (Some q) = cuts OPCODE_READ_RESPONSE q.sink q.sink_to (take q.size (drop q.to (client_memory_at k place q.stag))) (range_with_len 0 (segment_count (take q.size (drop q.to (client_memory_at k place q.stag)))))
  where
    cuts : (opcode stag to : ℕ) (bytes : List ℕ) (is : List ℕ) → AllByRecursion (MessageOffered regions) (map (tagged_frame opcode stag to bytes) is)
    cuts opcode stag to bytes [] = tt
    cuts opcode stag to bytes (i ∷ is) = (tt, cuts opcode stag to bytes is)

-- a frame leaves the calls that wait
frame_waits : (k : ClientState) (f : Frame) (r : Result Segment ℕ) (regions : List Region) → OffersMore k.regions regions → AllByRecursion (WaitsOffered k.regions) k.waiting → AllByRecursion (WaitsOffered regions) (with_segment k f r).waiting
frame_waits k f r regions more h =
    subst (AllByRecursion (WaitsOffered regions)) (sym (segment_waiting k f r)) (each_all (WaitsOffered k.regions) (WaitsOffered regions) k.waiting (waits_more k.regions regions more) h)

-- a frame that closes no region
other_frame : (opened : LinkParameters) (k : ClientState) (s : ServerState) (d all_up all_down : List FrameContent) (place : ℕ) (p : FrameContent) (f : Frame) (segment : Segment) → AccessesAgree opened k s d all_up all_down place → is_hello f ≡ false → plain_segment k f ≡ Ok segment
    → (with_segment k f (Ok segment)).regions ≡ k.regions → (with_segment k f (Ok segment)).outstanding ≡ k.outstanding
    → AccessesAgree opened (client_state_after opened k (FrameReceived f)) s (d ++ p ∷ []) (all_up ++ client_frames opened k (FrameReceived f)) all_down place
other_frame opened k s d all_up all_down place p f segment h behind is same outs =
    let t = with_segment k f (Ok segment) in
    let more : OffersMore k.regions t.regions = subst (OffersMore k.regions) (sym same) (offers_same k.regions) in
    subst (λ (x : ClientState). AccessesAgree opened x s (d ++ p ∷ []) (all_up ++ client_frames opened k (FrameReceived f)) all_down place) (sym (after_is_lem opened k f (Ok segment) behind is))
    (subst (λ (ps : List FrameContent). AccessesAgree opened t s (d ++ p ∷ []) (all_up ++ ps) all_down place) (sym (says_is opened k f (Ok segment) behind is))
    (preserved opened k t s d (d ++ p ∷ []) all_up (response_frames k f.end (segment_request (Ok segment))) all_down place h more
    (subst (AllByRecursion (IsEarly place)) (sym same) h.early)
    (subst (AllByRecursion (IsLive (message_xids (d ++ p ∷ [])))) (sym same) (each_all (IsLive (message_xids d)) (IsLive (message_xids (d ++ p ∷ []))) k.regions (more_live d (p ∷ [])) h.lives))
    (response_said t.regions k f.end (segment_request (Ok segment)))
    (subst (AllByRecursion (CallAsked opened t.regions)) (sym outs) (each_all (CallAsked opened k.regions) (CallAsked opened t.regions) k.outstanding (λ o. send_more k.regions t.regions more (message_of_call opened o)) h.asked))
    (frame_waits k f (Ok segment) t.regions more h.resent)))

-- a message closes the regions of the call that it answers
closed_early : (test : Region → Bool) (end place : ℕ) (regions : List Region) → AllByRecursion (IsEarly place) regions → AllByRecursion (IsEarly place) (regions_closed test end regions)
unfolding regions_closed
closed_early test end place [] h = tt
closed_early test end place (g ∷ regions) h = (by (test g), closed_early test end place regions h.1)
  where
    by : (b : Bool) → IsEarly place (closed_if b end g)
    by true = h.0
    by false = h.0

closed_live : (end : ℕ) (d : List FrameContent) (message : SentMessage) (regions : List Region) → AllByRecursion (IsLive (message_xids d)) regions
    → AllByRecursion (IsLive (message_xids (d ++ SendFrame message ∷ []))) (regions_closed (λ r. eqb r.call (word_at 0 message.bytes)) end regions)
unfolding regions_closed
closed_live end d message [] h = tt
closed_live end d message (g ∷ regions) h = (by (eqb g.call (word_at 0 message.bytes)) refl, closed_live end d message regions h.1)
  where
    more : times g.call (message_xids (d ++ SendFrame message ∷ [])) ≡ times g.call (message_xids d) + times g.call (word_at 0 message.bytes ∷ [])
    more = ap (λ (xs : List ℕ). times g.call xs) (xids_append d (SendFrame message ∷ [])) ∙ times_append g.call (message_xids d) (word_at 0 message.bytes ∷ [])

    by : (b : Bool) → eqb g.call (word_at 0 message.bytes) ≡ b → IsLive (message_xids (d ++ SendFrame message ∷ [])) (closed_if b end g)
    by true e =
        let same : eqb (word_at 0 message.bytes) g.call ≡ true = eq-eqb (word_at 0 message.bytes) g.call (sym (eqb-true g.call (word_at 0 message.bytes) e)) in
        inr (omega (arith, more, ap (λ (b : Bool). Rattle.nr_reduce.specs.Plans.one_if b) same))
    by false e = more_live d (SendFrame message ∷ []) g h.0

message_frame : (opened : LinkParameters) (k : ClientState) (s : ServerState) (d all_up all_down : List FrameContent) (place : ℕ) (message : SentMessage) (f : Frame) → AccessesAgree opened k s d all_up all_down place → CompletesMessage k.received message
    → Carries k.invalidates k.received.sends k.received.requests f (SendFrame message)
    → AccessesAgree opened (client_state_after opened k (FrameReceived f)) s (d ++ SendFrame message ∷ []) (all_up ++ client_frames opened k (FrameReceived f)) all_down place
message_frame opened k s d all_up all_down place message f h completes piece =
    let segment : Segment = last_segment k.received.sends message in
    let is : plain_segment k f ≡ Ok segment = plain_is k f (SendFrame message) segment piece refl in
    let t = with_segment k f (Ok segment) in
    let whole : List ℕ = begun_bytes k.received.begun ++ message.payload in
    let same : message.bytes ≡ whole = sym completes in
    let regions : List Region = regions_closed (λ r. eqb r.call (word_at 0 whole)) f.end k.regions in
    let more : OffersMore k.regions regions = offers_closed (λ r. eqb r.call (word_at 0 whole)) f.end k.regions in
    subst (λ (x : ClientState). AccessesAgree opened x s (d ++ SendFrame message ∷ []) (all_up ++ client_frames opened k (FrameReceived f)) all_down place) (sym (after_is_lem opened k f (Ok segment) piece.behind is))
    (subst (λ (ps : List FrameContent). AccessesAgree opened t s (d ++ SendFrame message ∷ []) (all_up ++ ps) all_down place) (sym (says_is opened k f (Ok segment) piece.behind is))
    (preserved opened k t s d (d ++ SendFrame message ∷ []) all_up [] all_down place h more
    (closed_early (λ r. eqb r.call (word_at 0 whole)) f.end place k.regions h.early)
    (subst (λ (m : List ℕ). AllByRecursion (IsLive (message_xids (d ++ SendFrame message ∷ []))) (regions_closed (λ r. eqb r.call (word_at 0 m)) f.end k.regions)) same (closed_live f.end d message k.regions h.lives))
    tt
    (each_kept (CallAsked opened regions) (λ o. not (eqb o.xid (word_at 0 whole))) k.outstanding (each_all (CallAsked opened k.regions) (CallAsked opened regions) k.outstanding (λ o. send_more k.regions regions more (message_of_call opened o)) h.asked))
    (frame_waits k f (Ok segment) regions more h.resent)))

pub accessed_piece_down : (opened : LinkParameters) (k : ClientState) (s : ServerState) (d all_up all_down : List FrameContent) (place : ℕ) (p : FrameContent) (ps : List FrameContent) (f : Frame) → AccessesAgree opened k s d all_up all_down place → AreSends k.received.begun (p ∷ ps)
    → Carries k.invalidates k.received.sends k.received.requests f p → AccessesAgree opened (client_state_after opened k (FrameReceived f)) s (d ++ p ∷ []) (all_up ++ client_frames opened k (FrameReceived f)) all_down place
accessed_piece_down opened k s d all_up all_down place HelloFrame ps f h sends piece = absurd (let wrong = piece.is_segment in cc)
accessed_piece_down opened k s d all_up all_down place (PartFrame named offset payload) ps f h sends piece =
    let segment : Segment = part_segment k.received.sends offset payload in
    let is : plain_segment k f ≡ Ok segment = plain_is k f (PartFrame named offset payload) segment piece refl in
    other_frame opened k s d all_up all_down place (PartFrame named offset payload) f segment h piece.behind is refl refl
accessed_piece_down opened k s d all_up all_down place (SendFrame message) ps f h sends piece = message_frame opened k s d all_up all_down place message f h sends.1 piece
accessed_piece_down opened k s d all_up all_down place (RequestFrame sink at size stag to) ps f h sends piece =
    let segment : Segment = Untagged true OPCODE_READ_REQUEST 0 QUEUE_READ_REQUEST (msn_word (k.received.requests + 1)) 0 (request_payload sink at size stag to) in
    let is : plain_segment k f ≡ Ok segment = plain_is k f (RequestFrame sink at size stag to) segment piece refl in
    other_frame opened k s d all_up all_down place (RequestFrame sink at size stag to) f segment h piece.behind is refl refl
accessed_piece_down opened k s d all_up all_down place (TaggedFrame last opcode stag to payload) ps f h sends piece =
    let segment : Segment = Tagged last opcode stag to payload in
    let is : plain_segment k f ≡ Ok segment = plain_is k f (TaggedFrame last opcode stag to payload) segment piece refl in
    other_frame opened k s d all_up all_down place (TaggedFrame last opcode stag to payload) f segment h piece.behind is refl refl
