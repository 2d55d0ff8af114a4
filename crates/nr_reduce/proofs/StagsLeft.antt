-- The STags that a client gives are numbers, while it keeps its law.
use Rattle.std.proofs.Common.{◌≡◌, ℕ, ◌+◌, ◌≤◌, Bool, true, false, cond, ◌&&◌, eqb, List, [], ◌∷◌, ◌++◌, length, Option, Some, None, Result, Ok, Err, refl, sym, ap, subst, ◌∙◌, arith, append_assoc, append-nil}
use Rattle.std.specs.Prelude.{map}
use Rattle.std.proofs.lemmas.Bool.{eqb-true}
use Rattle.nr_wire.specs.declared.hello.Side.TheVariants.{Initiator, Responder}
use Rattle.nr_wire.specs.Segment.{Segment}
use Rattle.nr_link.specs.declared.end.End.{End as Stop}
use Rattle.nr_link.specs.Frames.{Frame, is_hello, frames_completed}
use Rattle.nr_link.specs.ReceiveState.{ReadRequest, message_completed, read_request_of}
use Rattle.nr_reduce.specs.declared.call.Submission.TheVariants as submissions
use Rattle.nr_reduce.specs.declared.mark.Mark.{Mark}
use Rattle.nr_reduce.specs.declared.mark.Mark.TheVariants as marks
use Rattle.nr_reduce.specs.declared.mark.LinkParameters.{LinkParameters}
use Rattle.nr_reduce.specs.declared.outline.Plan.{Plan}
use Rattle.nr_reduce.specs.Limits.{numbers_end}
use Rattle.nr_reduce.specs.Plans.{TooLarge}
use Rattle.nr_reduce.specs.History.{AcceptedCall, bytes_received}
use Rattle.nr_reduce.specs.AtEachMark.{AtEachMark}
use Rattle.nr_reduce.specs.Opening.{IsOpened}
use Rattle.nr_reduce.specs.Matched.{IsPrefixOf}
use Rattle.nr_reduce.specs.Events.{RunEvent, if_own, events_at, events}
use Rattle.nr_reduce.specs.Events.RunEvent.{FrameReceived, CallSubmitted, MemoryRevoked, CallExecuted, QueueWritten, ServerTold}
use Rattle.nr_reduce.specs.EndRules.{EndState, next_end_state, next_end_state_by, next_end_state_in, end_state_after}
use Rattle.nr_reduce.specs.ClientState.{ClientState, call_payload, plan_for, stags_taken}
use Rattle.nr_reduce.specs.Client.{client_rules, client_end, client_state_after, plan_or, with_message, with_request, with_segment, with_hello, due_with_response, client_segment}
use Rattle.nr_reduce.specs.Run.{client}
use Rattle.nr_reduce.specs.Asked.{AskedSoFar, AskedMark}
use Rattle.nr_reduce.proofs.Steps.{client_one}

abbrev next_stag_after : LinkParameters → ℕ → List Mark → ℕ
next_stag_after opened link run = (client opened link run).state.stag

-- ---- Events that offer nothing

abbrev OffersNothing : RunEvent → Type 0
OffersNothing (FrameReceived f) = Unit {0}
OffersNothing (CallSubmitted place a) = ⊥
OffersNothing (MemoryRevoked place xid) = Unit {0}
OffersNothing (CallExecuted call) = Unit {0}
OffersNothing (QueueWritten taken) = Unit {0}
OffersNothing (ServerTold what) = Unit {0}

abbrev OfferNothing : List RunEvent → Type 0
OfferNothing [] = Unit {0}
OfferNothing (event ∷ es) = OffersNothing event × OfferNothing es

pub request_stag : (m : ClientState) (due : ℕ) (r : Option ReadRequest) → (with_request m due r).stag ≡ m.stag
request_stag m due None = refl
request_stag m due (Some r) = refl

pub message_stag : (k : ClientState) (place : ℕ) (message : Option (List ℕ)) → (with_message k place message).stag ≡ k.stag
message_stag k place None = refl
message_stag k place (Some message) = refl

by_segment : (k : ClientState) (f : Frame) (r : Result Segment ℕ) → (with_segment k f r).stag ≡ k.stag
by_segment k f (Err reason) = refl
by_segment k f (Ok segment) =
    request_stag (with_message k f.end (message_completed k.received segment)) (due_with_response k f segment) (read_request_of segment) ∙ message_stag k f.end (message_completed k.received segment)

stag_after : (opened : LinkParameters) (k : ClientState) (event : RunEvent) → OffersNothing event → (client_state_after opened k event).stag ≡ k.stag
unfolding client_state_after
stag_after opened k (FrameReceived f) h = by (is_hello f)
  where
    by : (b : Bool) → (cond b (with_hello opened k f) (with_segment k f (client_segment k f))).stag ≡ k.stag
    by true = refl
    by false = by_segment k f (client_segment k f)
stag_after opened k (CallSubmitted place a) h = absurd h
stag_after opened k (MemoryRevoked place xid) h = refl
stag_after opened k (CallExecuted call) h = refl
stag_after opened k (QueueWritten taken) h = refl
stag_after opened k (ServerTold what) h = refl

stag_next : (opened : LinkParameters) (r : EndState ClientState) (event : RunEvent) → OffersNothing event → (next_end_state (client_rules opened) r event).state.stag ≡ r.state.stag
stag_next opened r event h = by_end r.state r.ended
  where
    by_why : (k : ClientState) (why : Option Stop) → (next_end_state_by (client_rules opened) k event why).state.stag ≡ k.stag
    by_why k None = stag_after opened k event h
    by_why k (Some end) = refl

    by_end : (k : ClientState) (ended : Option Stop) → (next_end_state_in (client_rules opened) k event ended).state.stag ≡ k.stag
    by_end k None = by_why k (client_end k event)
    by_end k (Some end) = refl

stag_all : (opened : LinkParameters) (r : EndState ClientState) (es : List RunEvent) → OfferNothing es → (end_state_after (client_rules opened) r es).state.stag ≡ r.state.stag
stag_all opened r [] h = refl
stag_all opened r (event ∷ es) h = stag_all opened (next_end_state (client_rules opened) r event) es h.1 ∙ stag_next opened r event h.0

nothing_if : (b : Bool) (es : List RunEvent) → OfferNothing es → OfferNothing (if_own b es)
nothing_if true es h = h
nothing_if false es h = tt

nothing_frames : (fs : List Frame) → OfferNothing (map FrameReceived fs)
nothing_frames [] = tt
nothing_frames (f ∷ fs) = (tt, nothing_frames fs)

-- ---- One mark

abbrev IsLeft : LinkParameters → ℕ → List Mark → Mark → Type 0
IsLeft opened link before mark = (end_state_after (client_rules opened) (client opened link before) (events_at link Initiator before mark)).state.stag ≤ numbers_end

left_nothing : (opened : LinkParameters) (link : ℕ) (before : List Mark) (mark : Mark) → next_stag_after opened link before ≤ numbers_end → OfferNothing (events_at link Initiator before mark) → IsLeft opened link before mark
left_nothing opened link before mark low h = (let e = stag_all opened (client opened link before) (events_at link Initiator before mark) h in omega (arith, e, low))

submit_one : (opened : LinkParameters) (k : ClientState) (ended : Option Stop) (place : ℕ) (a : AcceptedCall) (plan : Plan) → ended ≡ None → plan_for k a.xid a.call a.form ≡ Ok plan
    → (next_end_state_in (client_rules opened) k (CallSubmitted place a) ended).state.stag ≡ k.stag + stags_taken k a.xid plan
unfolding client_state_after client_end
submit_one opened k None place a plan stays e = ap (λ (r : Result Plan TooLarge). k.stag + stags_taken k a.xid (plan_or (call_payload a.xid a.call) r)) e
submit_one opened k (Some end) place a plan stays e = absurd cc

left_mark : (opened : LinkParameters) (link : ℕ) (before : List Mark) (mark : Mark) → next_stag_after opened link before ≤ numbers_end → AskedMark IsPrefixOf opened link before mark → IsLeft opened link before mark
left_mark opened link before (marks.Submit l call form (submissions.Accepted xid)) low h = by (eqb l link) refl
  where
    a : AcceptedCall
    a = record { xid = xid; call = call; form = form }

    place : ℕ
    place = length (bytes_received link Initiator before)

    by : (b : Bool) → eqb l link ≡ b → (end_state_after (client_rules opened) (client opened link before) (if_own (b && true) (CallSubmitted place a ∷ []))).state.stag ≤ numbers_end
    by false is = low
    by true is =
        let goes = h (eqb-true l link is) in
        let e = submit_one opened (client opened link before).state (client opened link before).ended place a goes.plan goes.stays goes.planned in
        let room = goes.stags in
        omega (arith, e, room)
left_mark opened link before (marks.Submit l call form (submissions.Refused why)) low h = low
left_mark opened link before (marks.Submit l call form submissions.Dropped) low h = low
left_mark opened link before (marks.Wrote l s bytes) low h = left_nothing opened link before (marks.Wrote l s bytes) low (nothing_if _ (QueueWritten (length bytes) ∷ []) (tt, tt))
left_mark opened link before (marks.Fed l s bytes) low h = left_nothing opened link before (marks.Fed l s bytes) low (nothing_if _ (map FrameReceived (frames_completed Responder (bytes_received link Initiator before) bytes)) (nothing_frames _))
left_mark opened link before (marks.Execute l xid moment payload place reply) low h = left_nothing opened link before (marks.Execute l xid moment payload place reply) low
    (nothing_if _ (CallExecuted (record { xid = xid; moment = moment; payload = payload; place = place; reply = reply }) ∷ []) (tt, tt))
left_mark opened link before (marks.Done l xid outcome) low h = low
left_mark opened link before (marks.Lost l xid) low h = low
left_mark opened link before (marks.Forget l xid) low h = low
left_mark opened link before (marks.Revoke l xid bytes) low h = left_nothing opened link before (marks.Revoke l xid bytes) low (nothing_if _ (MemoryRevoked (length (bytes_received link Initiator before)) xid ∷ []) (tt, tt))
left_mark opened link before (marks.Drop l) low h = low
left_mark opened link before (marks.Told l what) low h = left_nothing opened link before (marks.Told l what) low (nothing_if _ (ServerTold what ∷ []) (tt, tt))

left_from : (opened : LinkParameters) (link : ℕ) (before run : List Mark) → next_stag_after opened link before ≤ numbers_end → AtEachMark (AskedMark IsPrefixOf opened link) before run → next_stag_after opened link (before ++ run) ≤ numbers_end
left_from opened link before [] low h = subst (λ (r : List Mark). next_stag_after opened link r ≤ numbers_end) (sym (append-nil before)) low
left_from opened link before (mark ∷ run) low h =
    let one = ap (λ (r : EndState ClientState). r.state.stag) (client_one opened link before mark) in
    let left = left_mark opened link before mark low h.0 in
    subst (λ (r : List Mark). next_stag_after opened link r ≤ numbers_end) (append_assoc before (mark ∷ []) run)
    (left_from opened link (before ++ mark ∷ []) run (omega (arith, one, left)) h.1)

pub stags_left_lem : (opened : LinkParameters) (link : ℕ) (run : List Mark) → IsOpened opened → AskedSoFar opened link run → (client opened link run).state.stag ≤ numbers_end
unfolding client events
stags_left_lem opened link run numbers asked = left_from opened link [] run (let f = numbers.stag_fits in omega (arith, f)) asked
