-- A client says what it has to, from event to event.
use Rattle.std.proofs.Common.{◌≡◌, ℕ, ◌+◌, ◌<◌, Bool, true, false, cond, List, [], ◌∷◌, ◌++◌, length, take, drop, map, Option, None, Some, Result, Ok, Err, refl, sym, ap, subst, ◌∙◌, arith, append-nil, length-append, inl, inr, eqb-true}
use Rattle.nr_xdr.specs.Item.{IsBytes}
use Rattle.nr_wire.specs.declared.stream.Awaited.TheVariants.{Fpdu}
use Rattle.nr_wire.specs.Segment.{Segment}
use Rattle.nr_link.specs.declared.end.End.{End as Stop}
use Rattle.nr_link.specs.declared.end.End.TheVariants as ends
use Rattle.nr_link.specs.Frames.{Frame, is_hello}
use Rattle.nr_link.specs.ReceiveState.{ReadRequest, read_request_of, message_completed}
use Rattle.nr_link.specs.SegmentFaults.{segment_reason}
use Rattle.nr_link.specs.Ending.{missing_access, is_hello_reason}
use Rattle.nr_link.proofs.TakenSegments.{taken_read}
use Rattle.nr_reduce.proofs.OwnLimits.{ClientLimits}
use Rattle.nr_reduce.specs.declared.mark.LinkParameters.{LinkParameters}
use Rattle.nr_reduce.specs.declared.outline.Plan.{Plan}
use Rattle.nr_reduce.specs.History.{AcceptedCall}
use Rattle.nr_reduce.specs.declared.mark.Told.{Told}
use Rattle.nr_reduce.specs.Events.{RunEvent}
use Rattle.nr_reduce.specs.Events.RunEvent.{FrameReceived, CallSubmitted, MemoryRevoked, CallExecuted, QueueWritten, ServerTold}
use Rattle.nr_reduce.specs.EndRules.{next_end_state_by, next_end_state_in}
use Rattle.nr_reduce.specs.OfferedRegions.{region_grants}
use Rattle.nr_reduce.specs.ClientState.{ClientState, OutstandingCall, WaitingCall, plan_for, client_memory_at, first_of}
use Rattle.nr_reduce.specs.Client.{client_segment, client_rules, client_end, client_state_after, client_readiness, segment_request, outstanding_of, is_revoked_waiting, with_message, with_request, with_segment, with_hello, due_with_response}
use Rattle.nr_reduce.specs.RunLaws.{as_submitted}
use Rattle.nr_reduce.specs.SubmitAnswer.{next_sent_xid}
use Rattle.nr_reduce.specs.Asked.{IsResent}
use Rattle.nr_laws.proofs.PlannedSizes.{short_call}
use Rattle.nr_laws.proofs.EventOutputs.{IsNext, place_after, outputs_by, outputs_in}
use Rattle.nr_laws.proofs.Outputs.{Output, IsShort, CallsShort, message_of_call, message_outputs, call_sends, client_says, response_outputs, response_segments, final_outputs, terminate_segment, CallShort}
use Rattle.nr_laws.proofs.Outputs.Output.{ASegment}
use Rattle.nr_laws.proofs.Brought.{AreFrom}
use Rattle.nr_laws.proofs.Words.{message_words, terminate_word_lem, from_append, payload_bytes_lem}
use Rattle.nr_laws.proofs.TaggedSegments.{tagged_response}
use Rattle.nr_laws.proofs.Completions.{Completes, completes_none, completes_append, completes_message, completes_calls, completes_tagged, completes_final}
use Rattle.nr_laws.proofs.ClientSays.{IsGoodCall, ClientGood, accepted_in, accepted_append, asked, asked_quiet, asked_submit, client_after, HasHello, ClientSays, short_revoked, submitted_messages, map_more, client_has_no_fault, formed, response_words}
use Rattle.nr_laws.proofs.Basics.{above_zero, each_append, each_kept}
use Rattle.nr_reduce.proofs.Waiting.{submitted_append, revoked_same}

-- ---- What is said for a frame

pub final_words : (end : Stop) → AreFrom Fpdu (final_outputs end)
final_words (ends.Bad at reason) = by (is_hello_reason reason)
  where
    by : (b : Bool) → AreFrom Fpdu (cond b [] (ASegment (terminate_segment reason) ∷ []))
    by true = tt
    by false = (terminate_word_lem reason, tt)
final_words (ends.Denied stag offset why) = (terminate_word_lem _, tt)
final_words (ends.NoBuffer msn) = (terminate_word_lem _, tt)
final_words (ends.Terminated reason) = tt
final_words ends.Memory = tt

calls_words : (opened : LinkParameters) (msn : ℕ) (os : List OutstandingCall) → CallsShort opened os → AreFrom Fpdu (call_sends opened msn os)
calls_words opened msn [] h = tt
calls_words opened msn (o ∷ os) h =
    from_append (message_outputs msn (message_of_call opened o)) (call_sends opened (msn + 1) os) (message_words msn (message_of_call opened o) h.0) (calls_words opened (msn + 1) os h.1)

-- some outputs that bring no message
record IsQuiet (outs : List Output) : Type 0 where
  words : AreFrom Fpdu outs
  completes : Completes outs []

quiet_none : IsQuiet []
quiet_none = record { words = tt; completes = completes_none }

quiet_final : (end : Stop) → IsQuiet (final_outputs end)
quiet_final end = record { words = final_words end; completes = completes_final end }

quiet_response : (k : ClientState) (place : ℕ) (o : Option ReadRequest) → ((q : ReadRequest) → o ≡ Some q → AreFrom Fpdu (response_outputs k place (Some q))) → IsQuiet (response_outputs k place o)
quiet_response k place None h = quiet_none
quiet_response k place (Some q) h =
    let held : List ℕ = take q.size (drop q.to (client_memory_at k place q.stag)) in
    let tagged = tagged_response q.sink q.sink_to held in
    record { words = h q refl; completes = completes_tagged (response_segments q.sink q.sink_to held) tagged }

segment_quiet : (k : ClientState) (f : Frame) → IsBytes f.bytes → is_hello f ≡ false → client_end k (FrameReceived f) ≡ None → IsQuiet (response_outputs k f.end (segment_request (client_segment k f)))
segment_quiet k f bytes behind stays = by (client_segment k f) refl
  where
    by : (r : Result Segment ℕ) → client_segment k f ≡ r → IsQuiet (response_outputs k f.end (segment_request r))
    by (Err reason) is = quiet_none
    by (Ok segment) is =
        quiet_response k f.end (read_request_of segment)
        (λ q own. response_words k f.end segment (payload_bytes_lem f.bytes segment bytes (taken_read k.invalidates f.bytes segment is)) q own
        (λ last opcode w queue msn offset payload same.
        formed (client_readiness k (missing_access (region_grants f.end k.regions) f segment)) last opcode w queue msn offset payload
        (subst (λ (s : Segment). segment_reason (client_readiness k (missing_access (region_grants f.end k.regions) f segment)) s ≡ None) same (client_has_no_fault k f segment behind is stays))))

-- ---- A step that accepts no call and receives no hello

record Step (opened : LinkParameters) (place : ℕ) (k after : ClientState) (ended : Option Stop) : Type 0 where
  short : CallsShort opened k.outstanding → CallsShort opened after.outstanding
  count : after.sends ≡ k.sends
  hello : after.has_hello ≡ k.has_hello
  greeted : ended ≡ None → HasHello place after.has_hello
  waits : k.has_hello ≡ false → map as_submitted after.outstanding ≡ map as_submitted k.outstanding

pub same_asked : (opened : LinkParameters) (es : List RunEvent) (e : RunEvent) → accepted_in (e ∷ []) ≡ [] → accepted_in (es ++ e ∷ []) ≡ accepted_in es
same_asked opened es e none = accepted_append es (e ∷ []) ∙ ap (λ (xs : List AcceptedCall). accepted_in es ++ xs) none ∙ append-nil (accepted_in es)

quiet_step : (opened : LinkParameters) (es : List RunEvent) (e : RunEvent) (place later : ℕ) (k after : ClientState) (ended now : Option Stop) (outs more : List Output) → accepted_in (e ∷ []) ≡ []
    → Step opened later k after now → IsQuiet more → ClientSays opened es place k ended outs → ClientSays opened (es ++ e ∷ []) later after now (outs ++ more)
quiet_step opened es e place later k after ended now outs more none s q p =
    let same : accepted_in (es ++ e ∷ []) ≡ accepted_in es = same_asked opened es e none in
    let calls : asked opened (es ++ e ∷ []) ≡ asked opened es = asked_quiet opened es (e ∷ []) none in
    record {
      short = s.short p.short;
      count = s.count ∙ p.count ∙ ap (λ (xs : List AcceptedCall). length xs) (sym same);
      greeted = s.greeted;
      waits = λ no_hello. (let was : k.has_hello ≡ false = sym s.hello ∙ no_hello in
          s.waits was ∙ p.waits was ∙ sym calls);
      words = from_append outs more p.words q.words;
      completes = subst (λ (ms : List (List ℕ)). Completes (outs ++ more) ms)
          (append-nil (cond k.has_hello (map (message_of_call opened) (asked opened es)) [])
          ∙ (λ i. cond (sym s.hello i) (map (message_of_call opened) (sym calls i)) []))
          (completes_append outs more (cond k.has_hello (map (message_of_call opened) (asked opened es)) []) [] p.completes q.completes);
    }

stays_step : (opened : LinkParameters) (place : ℕ) (k : ClientState) (end : Stop) → Step opened place k k (Some end)
stays_step opened place k end = record { short = λ h. h; count = refl; hello = refl; greeted = λ e. absurd cc; waits = λ h. refl }

-- ---- Frames

request_fields : (opened : LinkParameters) (k m : ClientState) (due : ℕ) (o : Option ReadRequest) → (CallsShort opened k.outstanding → CallsShort opened m.outstanding) × (m.sends ≡ k.sends) × (m.has_hello ≡ k.has_hello)
    → (CallsShort opened k.outstanding → CallsShort opened (with_request m due o).outstanding) × ((with_request m due o).sends ≡ k.sends) × ((with_request m due o).has_hello ≡ k.has_hello)
request_fields opened k m due None h = h
request_fields opened k m due (Some q) h = h

message_fields : (opened : LinkParameters) (k : ClientState) (place : ℕ) (o : Option (List ℕ)) → (CallsShort opened k.outstanding → CallsShort opened (with_message k place o).outstanding) × ((with_message k place o).sends ≡ k.sends) × ((with_message k place o).has_hello ≡ k.has_hello)
message_fields opened k place None = ((λ h. h), refl, refl)
message_fields opened k place (Some message) = ((λ h. each_kept (CallShort opened) _ k.outstanding h), refl, refl)

segment_fields : (opened : LinkParameters) (k : ClientState) (f : Frame) (r : Result Segment ℕ) → (CallsShort opened k.outstanding → CallsShort opened (with_segment k f r).outstanding) × ((with_segment k f r).sends ≡ k.sends) × ((with_segment k f r).has_hello ≡ k.has_hello)
segment_fields opened k f (Err reason) = ((λ h. h), refl, refl)
segment_fields opened k f (Ok segment) = request_fields opened k (with_message k f.end (message_completed k.received segment)) (due_with_response k f segment) (read_request_of segment) (message_fields opened k f.end (message_completed k.received segment))

behind_greeted : (place : ℕ) (b : Bool) → 0 < place → HasHello place b → b ≡ true
behind_greeted place b some (inl h) = absurd (let z = h.0 in omega (arith, z, some))
behind_greeted place b some (inr h) = h.1

first_greeted : (place : ℕ) (b : Bool) → place ≡ 0 → HasHello place b → b ≡ false
first_greeted place b none (inl h) = h.1
first_greeted place b none (inr h) = absurd (let z = h.0 in omega (arith, z, none))

segment_step : (opened : LinkParameters) (place : ℕ) (k : ClientState) (f : Frame) → 0 < f.at → f.at ≡ place → place < f.end → HasHello place k.has_hello → Step opened f.end k (with_segment k f (client_segment k f)) None
segment_step opened place k f behind at goes greeted =
    let h = segment_fields opened k f (client_segment k f) in
    let has : k.has_hello ≡ true = behind_greeted place k.has_hello (omega (arith, behind, at)) greeted in
    record {
      short = h.0;
      count = h.1;
      hello = h.2;
      greeted = λ e. inr (omega (arith, goes), h.2 ∙ has);
      waits = λ no_hello. absurd (let t : true ≡ false = sym has ∙ no_hello in cc);
    }

hello_step : (opened : LinkParameters) (es : List RunEvent) (place : ℕ) (k : ClientState) (outs : List Output) (f : Frame) → f.at ≡ 0 → f.at ≡ place → place < f.end → ClientSays opened es place k None outs
    → ClientSays opened (es ++ FrameReceived f ∷ []) f.end (with_hello opened k f) None (outs ++ call_sends opened 1 k.outstanding)
hello_step opened es place k outs f first at goes p =
    let no_hello : k.has_hello ≡ false = first_greeted place k.has_hello (sym at ∙ first) (p.greeted refl) in
    let same : accepted_in (es ++ FrameReceived f ∷ []) ≡ accepted_in es = same_asked opened es (FrameReceived f) refl in
    let calls : asked opened (es ++ FrameReceived f ∷ []) ≡ asked opened es = asked_quiet opened es (FrameReceived f ∷ []) refl in
    record {
      short = p.short;
      count = p.count ∙ ap (λ (xs : List AcceptedCall). length xs) (sym same);
      greeted = λ e. inr (omega (arith, goes), refl);
      waits = λ e. absurd cc;
      words = from_append outs (call_sends opened 1 k.outstanding) p.words (calls_words opened 1 k.outstanding p.short);
      completes = subst (λ (ms : List (List ℕ)). Completes (outs ++ call_sends opened 1 k.outstanding) ms)
          (sym (submitted_messages opened k.outstanding)
          ∙ ap (λ (os : List OutstandingCall). map (message_of_call opened) os) (p.waits no_hello ∙ sym calls))
          (completes_append outs (call_sends opened 1 k.outstanding) [] (map (message_of_call opened) k.outstanding)
          (subst (λ (b : Bool). Completes outs (cond b (map (message_of_call opened) (asked opened es)) [])) no_hello p.completes) (completes_calls opened 1 k.outstanding));
    }

-- ---- A call

-- before the hello no call is sent again, so a new one isn't revoked
new_unrevoked : (k : ClientState) (a : AcceptedCall) → k.has_hello ≡ false → IsResent k.has_hello k.next_xid k.waiting a.call a.form → as_submitted (outstanding_of k a) ≡ outstanding_of k a
new_unrevoked k a no_hello resent = λ i. record own { is_revoked = sym (by k.waiting resent) i }
  where
    own : OutstandingCall
    own = outstanding_of k a

    by : (ws : List WaitingCall) → IsResent k.has_hello k.next_xid ws a.call a.form → is_revoked_waiting (first_of ws a.xid) ≡ false
    by [] again = refl
    by (w ∷ ws) again = absurd (let wrong : true ≡ false = sym again.greeted ∙ no_hello in cc)

call_step : (opened : LinkParameters) (es : List RunEvent) (place p : ℕ) (k : ClientState) (outs : List Output) (a : AcceptedCall) (plan : Plan) → k ≡ (client_after opened es).state → a.xid ≡ next_sent_xid k → IsResent k.has_hello k.next_xid k.waiting a.call a.form → plan_for k a.xid a.call a.form ≡ Ok plan → ClientLimits k → ClientSays opened es place k None outs
    → ClientSays opened (es ++ CallSubmitted p a ∷ []) place (client_state_after opened k (CallSubmitted p a)) None
    (outs ++ cond k.has_hello (message_outputs (k.sends + 1) (message_of_call opened (outstanding_of k a))) [])
unfolding client_state_after
call_step opened es place p k outs a plan at next resent planned l h =
    let own : OutstandingCall = outstanding_of k a in
    let before : List AcceptedCall = accepted_in es in
    let more : accepted_in (es ++ CallSubmitted p a ∷ []) ≡ before ++ a ∷ [] = accepted_append es (CallSubmitted p a ∷ []) in
    let all : asked opened (es ++ CallSubmitted p a ∷ []) ≡ asked opened es ++ own ∷ [] = asked_submit opened es p a k at in
    let short : IsShort (message_of_call opened own) = short_call opened k a plan next resent planned l in
    record {
      short = each_append (CallShort opened) k.outstanding (own ∷ []) h.short (short, tt);
      count = (let c = h.count in let l = ap (λ (xs : List AcceptedCall). length xs) more in let n = length-append before (a ∷ []) in omega (arith, c, l, n));
      greeted = h.greeted;
      waits = λ no_hello. submitted_append k.outstanding (own ∷ [])
          ∙ (λ i. h.waits no_hello i ++ new_unrevoked k a no_hello resent i ∷ [])
          ∙ sym all;
      words = from_append outs (says k.has_hello) h.words (words_by k.has_hello short);
      completes = completes_by k.has_hello refl all;
    }
  where
    says : Bool → List Output
    says b = cond b (message_outputs (k.sends + 1) (message_of_call opened (outstanding_of k a))) []

    words_by : (b : Bool) → IsShort (message_of_call opened (outstanding_of k a)) → AreFrom Fpdu (says b)
    words_by true s = message_words (k.sends + 1) (message_of_call opened (outstanding_of k a)) s
    words_by false s = tt

    completes_by : (b : Bool) → k.has_hello ≡ b → asked opened (es ++ CallSubmitted p a ∷ []) ≡ asked opened es ++ outstanding_of k a ∷ []
        → Completes (outs ++ says b) (cond b (map (message_of_call opened) (asked opened (es ++ CallSubmitted p a ∷ []))) [])
    completes_by true is all =
        subst (λ (ms : List (List ℕ)). Completes (outs ++ says true) ms)
        (sym (map_more opened (asked opened es) (outstanding_of k a ∷ [])) ∙ ap (λ (os : List OutstandingCall). map (message_of_call opened) os) (sym all))
        (completes_append outs (says true) (map (message_of_call opened) (asked opened es)) (message_of_call opened (outstanding_of k a) ∷ [])
        (subst (λ (c : Bool). Completes outs (cond c (map (message_of_call opened) (asked opened es)) [])) is h.completes) (completes_message (k.sends + 1) (message_of_call opened (outstanding_of k a))))
    completes_by false is all =
        completes_append outs [] [] [] (subst (λ (c : Bool). Completes outs (cond c (map (message_of_call opened) (asked opened es)) [])) is h.completes) completes_none

-- ---- Each event

abbrev Next : LinkParameters → List RunEvent → ℕ → ClientState → Option Stop → List Output → RunEvent → Type 0
Next opened es place k ended outs e =
    ClientSays opened (es ++ e ∷ []) (place_after place e) (next_end_state_in (client_rules opened) k e ended).state (next_end_state_in (client_rules opened) k e ended).ended
    (outs ++ outputs_in (client_rules opened) (client_says opened) final_outputs k e ended)

frame_says : (opened : LinkParameters) (es : List RunEvent) (place : ℕ) (k : ClientState) (outs : List Output) (f : Frame) → IsNext place (FrameReceived f) → ClientSays opened es place k None outs → Next opened es place k None outs (FrameReceived f)
unfolding client_state_after client_says
frame_says opened es place k outs f next p = by_end (client_end k (FrameReceived f)) refl
  where
    by_hello : (b : Bool) → is_hello f ≡ b → client_end k (FrameReceived f) ≡ None
        → ClientSays opened (es ++ FrameReceived f ∷ []) f.end (cond b (with_hello opened k f) (with_segment k f (client_segment k f))) None
        (outs ++ cond b (call_sends opened 1 k.outstanding) (response_outputs k f.end (segment_request (client_segment k f))))
    by_hello true is stays = hello_step opened es place k outs f (eqb-true f.at 0 is) next.0 next.1 p
    by_hello false is stays =
        quiet_step opened es (FrameReceived f) place f.end k (with_segment k f (client_segment k f)) None None outs _ refl
        (segment_step opened place k f (above_zero f.at is) next.0 next.1 (p.greeted refl)) (segment_quiet k f next.2 is stays) p

    by_end : (o : Option Stop) → client_end k (FrameReceived f) ≡ o
        → ClientSays opened (es ++ FrameReceived f ∷ []) f.end (next_end_state_by (client_rules opened) k (FrameReceived f) o).state (next_end_state_by (client_rules opened) k (FrameReceived f) o).ended
        (outs ++ outputs_by (client_rules opened) (client_says opened) final_outputs k (FrameReceived f) o)
    by_end None stays = by_hello (is_hello f) refl stays
    by_end (Some end) stays = quiet_step opened es (FrameReceived f) place f.end k k None (Some end) outs (final_outputs end) refl (stays_step opened f.end k end) (quiet_final end) p

revoke_says : (opened : LinkParameters) (es : List RunEvent) (place : ℕ) (k : ClientState) (outs : List Output) (q xid : ℕ) → ClientSays opened es place k None outs → Next opened es place k None outs (MemoryRevoked q xid)
unfolding client_state_after client_says client_end
revoke_says opened es place k outs q xid p =
    quiet_step opened es (MemoryRevoked q xid) place place k (client_state_after opened k (MemoryRevoked q xid)) None None outs [] refl
    (record { short = λ h. short_revoked opened xid k.outstanding h; count = refl; hello = refl; greeted = p.greeted; waits = λ h. revoked_same xid k.outstanding }) quiet_none p

written_says : (taken : ℕ) (opened : LinkParameters) (es : List RunEvent) (place : ℕ) (k : ClientState) (outs : List Output) → ClientSays opened es place k None outs → Next opened es place k None outs (QueueWritten taken)
unfolding client_state_after client_says client_end
written_says taken opened es place k outs p =
    quiet_step opened es (QueueWritten taken) place place k (client_state_after opened k (QueueWritten taken)) None None outs [] refl
    (record { short = λ h. h; count = refl; hello = refl; greeted = p.greeted; waits = λ h. refl }) quiet_none p

executed_says : (opened : LinkParameters) (es : List RunEvent) (place : ℕ) (k : ClientState) (outs : List Output) (x : Rattle.nr_reduce.specs.History.ExecutedCall) → ClientSays opened es place k None outs → Next opened es place k None outs (CallExecuted x)
unfolding client_state_after client_says client_end
executed_says opened es place k outs x p =
    quiet_step opened es (CallExecuted x) place place k k None None outs [] refl
    (record { short = λ h. h; count = refl; hello = refl; greeted = p.greeted; waits = λ h. refl }) quiet_none p

told_says : (opened : LinkParameters) (es : List RunEvent) (place : ℕ) (k : ClientState) (outs : List Output) (what : Told) → ClientSays opened es place k None outs → Next opened es place k None outs (ServerTold what)
unfolding client_state_after client_says client_end
told_says opened es place k outs what p =
    quiet_step opened es (ServerTold what) place place k k None None outs [] refl
    (record { short = λ h. h; count = refl; hello = refl; greeted = p.greeted; waits = λ h. refl }) quiet_none p

submitted_says : (opened : LinkParameters) (es : List RunEvent) (place : ℕ) (k : ClientState) (outs : List Output) (q : ℕ) (a : AcceptedCall) → k ≡ (client_after opened es).state → IsGoodCall opened (record { state = k; ended = None }) a → ClientSays opened es place k None outs → Next opened es place k None outs (CallSubmitted q a)
unfolding client_says client_end
submitted_says opened es place k outs q a at good p = call_step opened es place q k outs a good.plan at good.next good.resent good.planned good.limits p

ended_says : (opened : LinkParameters) (es : List RunEvent) (place later : ℕ) (k : ClientState) (outs : List Output) (e : RunEvent) (end : Stop) → accepted_in (e ∷ []) ≡ [] → ClientSays opened es place k (Some end) outs → ClientSays opened (es ++ e ∷ []) later k (Some end) (outs ++ [])
ended_says opened es place later k outs e end none p = quiet_step opened es e place later k k (Some end) (Some end) outs [] none (stays_step opened later k end) quiet_none p

pub client_step : (opened : LinkParameters) (es : List RunEvent) (place : ℕ) (k : ClientState) (ended : Option Stop) (outs : List Output) (e : RunEvent) → k ≡ (client_after opened es).state → IsNext place e → ClientGood opened (record { state = k; ended = ended }) e
    → ClientSays opened es place k ended outs → Next opened es place k ended outs e
client_step opened es place k None outs (FrameReceived f) at next good p = frame_says opened es place k outs f next p
client_step opened es place k None outs (CallSubmitted q a) at next good p = submitted_says opened es place k outs q a at good p
client_step opened es place k None outs (MemoryRevoked q xid) at next good p = revoke_says opened es place k outs q xid p
client_step opened es place k None outs (CallExecuted x) at next good p = executed_says opened es place k outs x p
client_step opened es place k None outs (QueueWritten taken) at next good p = written_says taken opened es place k outs p
client_step opened es place k None outs (ServerTold what) at next good p = told_says opened es place k outs what p
client_step opened es place k (Some end) outs (FrameReceived f) at next good p = ended_says opened es place f.end k outs (FrameReceived f) end refl p
client_step opened es place k (Some end) outs (CallSubmitted q a) at next good p = absurd (let s = good.stays in cc)
client_step opened es place k (Some end) outs (MemoryRevoked q xid) at next good p = ended_says opened es place place k outs (MemoryRevoked q xid) end refl p
client_step opened es place k (Some end) outs (CallExecuted x) at next good p = ended_says opened es place place k outs (CallExecuted x) end refl p
client_step opened es place k (Some end) outs (QueueWritten taken) at next good p = ended_says opened es place place k outs (QueueWritten taken) end refl p
client_step opened es place k (Some end) outs (ServerTold what) at next good p = ended_says opened es place place k outs (ServerTold what) end refl p
