-- The regions of a call that is done are closed.
use Rattle.std.proofs.Common.{◌≡◌, ℕ, ◌+◌, ◌≤◌, ◌<◌, Bool, true, false, cond, eqb, List, [], ◌∷◌, ◌++◌, map, Option, None, Some, Result, Ok, refl, sym, ap, subst, ◌∙◌, arith, eq-eqb, zero, suc, length, inl, inr, ◌⊎◌}
use Rattle.std.specs.Prelude.{slice_index_or}
use Rattle.std.specs.List.{find}
use Rattle.nr_xdr.specs.Fields.{word_at}
use Rattle.nr_wire.specs.declared.hello.Side.TheVariants.{Initiator}
use Rattle.nr_wire.specs.Segment.{Segment}
use Rattle.nr_link.specs.declared.end.End.{End as Stop}
use Rattle.nr_link.specs.Frames.{Frame, is_hello}
use Rattle.nr_link.specs.ReceiveState.{message_completed, read_request_of}
use Rattle.nr_reduce.specs.declared.mark.Mark.{Mark}
use Rattle.nr_reduce.specs.declared.mark.Mark.TheVariants as marks
use Rattle.nr_reduce.specs.declared.mark.LinkParameters.{LinkParameters}
use Rattle.nr_reduce.specs.History.{CompletedCall, is_abandoned}
use Rattle.nr_reduce.specs.Plans.{Buffer, buffers}
use Rattle.nr_reduce.specs.Events.{RunEvent, events}
use Rattle.nr_reduce.specs.Events.RunEvent.{FrameReceived, CallSubmitted, MemoryRevoked, CallExecuted, QueueWritten, ServerTold}
use Rattle.nr_reduce.specs.EndRules.{EndState, next_end_state, next_end_state_by, next_end_state_in, end_state_after}
use Rattle.nr_reduce.specs.OfferedRegions.{Region, until_at, closed_if, regions_closed}
use Rattle.nr_reduce.specs.ClientState.{ClientState, OutstandingCall, client_memory_at, region_of, WaitingCall, waiting_call}
use Rattle.nr_reduce.specs.Client.{client_segment, client_rules, client_end, client_state_after, initial_client, outstanding_of, with_message, with_segment, with_hello, due_with_response, regions_unless_waiting}
use Rattle.nr_reduce.specs.Matched.{IsPrefixOf}
use Rattle.nr_reduce.specs.Asked.{AskedMark, AskedSoFar, IsCompleted}
use Rattle.nr_reduce.specs.Run.{client, placed_bytes}
use Rattle.nr_reduce.proofs.Placing.{segment_next, sent_after, submit_rises, revoked_first, segment_waiting}
use Rattle.nr_reduce.proofs.Steps.{end_state_after_append}
use Rattle.nr_laws.specs.Typed.{TypedMark, IsTyped}
use Rattle.nr_laws.specs.ClientRegions.{IsMessageOf, IsClosedForCall}
use Rattle.nr_laws.specs.HandedBack.{Stands, DoneHandsBack}
use Rattle.nr_laws.proofs.EventOutputs.{GoesOn, first_preserve, later_preserve}
use Rattle.nr_laws.proofs.ClientSays.{ClientGood}
use Rattle.nr_laws.proofs.ClientRun.{client_goes}
use Rattle.nr_laws.proofs.DoneCalls.{GivesBy, gives_by, verdict_xid}
use Rattle.nr_laws.proofs.ClosedForCalls.{client_regions_close_with_calls}
use Rattle.nr_laws.proofs.HandedBack.{closed_regions_stand, closed_regions_hold_what_stood}
use Rattle.nr_laws.proofs.LinkInvariants.{AreAtMost}
use Rattle.nr_laws.proofs.OnceByXid.{at_mark, before_mark}
use Rattle.nr_laws.proofs.Outcomes.{client_by, WasGiven, outcome_given}
use Rattle.nr_laws.proofs.OwnXids.{OwnXids, own_xids_begin, own_xids_came, own_xids_accepts, own_xids_revokes, own_xids_writes}
use Rattle.nr_laws.proofs.RevokedEvents.{NoRevoke, no_revoke, revoke_at}
use Rattle.nr_laws.proofs.Revoked.{frame_regions, request_regions}
use Rattle.nr_laws.proofs.ReadFrames.{client_read}
use Rattle.nr_reduce.specs.SubmitAnswer.{first_xid_or, next_sent_xid}

-- ---- The xids of outstanding calls are below the one that is sent next

own_event : (opened : LinkParameters) (k : ClientState) (ended : Option Stop) (e : RunEvent) → ClientGood opened (record { state = k; ended = ended }) e → OwnXids opened k → OwnXids opened (client_state_after opened k e)
unfolding client_state_after
own_event opened k ended (FrameReceived f) good h = own_xids_came opened k f h
own_event opened k ended (CallSubmitted p a) good h = own_xids_accepts opened k p a good.next good.resent h
own_event opened k ended (MemoryRevoked p xid) good h = own_xids_revokes opened k p xid h
own_event opened k ended (CallExecuted e) good h = h
own_event opened k ended (QueueWritten taken) good h = own_xids_writes taken opened k h
own_event opened k ended (ServerTold what) good h = h

-- a fact that each event keeps
keeps_next : (opened : LinkParameters) (P : ClientState → Type 0) → ((k : ClientState) (ended : Option Stop) (e : RunEvent) → ClientGood opened (record { state = k; ended = ended }) e → P k → P (client_state_after opened k e))
    → (k : ClientState) (ended : Option Stop) (e : RunEvent) → ClientGood opened (record { state = k; ended = ended }) e → P k → P (next_end_state_in (client_rules opened) k e ended).state
keeps_next opened P step k (Some end) e good h = h
keeps_next opened P step k None e good h = by_why (client_end k e)
  where
    by_why : (o : Option Stop) → P (next_end_state_by (client_rules opened) k e o).state
    by_why None = step k None e good h
    by_why (Some end) = h

keeps_all : (opened : LinkParameters) (P : ClientState → Type 0) → ((k : ClientState) (ended : Option Stop) (e : RunEvent) → ClientGood opened (record { state = k; ended = ended }) e → P k → P (client_state_after opened k e))
    → (place : ℕ) (r : EndState ClientState) (es : List RunEvent) → GoesOn (client_rules opened) (ClientGood opened) place r es → P r.state → P (end_state_after (client_rules opened) r es).state
keeps_all opened P step place r [] g h = h
keeps_all opened P step place r (e ∷ es) g h = keeps_all opened P step _ (next_end_state (client_rules opened) r e) es g.2 (keeps_next opened P step r.state r.ended e g.1 h)

found_below : (p : OutstandingCall → Bool) (n : ℕ) (os : List OutstandingCall) (o : OutstandingCall) → find p os ≡ Some o → AreAtMost (λ (x : OutstandingCall). x.xid + 1) n os → o.xid + 1 ≤ n
found_below p n [] o e h = absurd (let wrong : None ≡ Some o = e in cc)
found_below p n (x ∷ os) o e h = by (p x) e (λ g. found_below p n os o g h.1)
  where
    by : (b : Bool) → cond b (Some x) (find p os) ≡ Some o → (find p os ≡ Some o → o.xid + 1 ≤ n) → o.xid + 1 ≤ n
    by true e later = (let same : x ≡ o = (let s : Some x ≡ Some o = e in cc) in subst (λ (q : OutstandingCall). q.xid + 1 ≤ n) same h.0)
    by false e later = later e

-- ---- The regions of a call are closed

abbrev AreClosed : ℕ → List Region → Type 0
AreClosed x [] = Unit {0}
AreClosed x (r ∷ regions) = (r.call ≡ x → (place : ℕ) × (r.until ≡ Some place)) × AreClosed x regions

closed_at : (x k : ℕ) (regions : List Region) (r : Region) → AreClosed x regions → k < length regions → slice_index_or regions k r ≡ r → r.call ≡ x → (place : ℕ) × (r.until ≡ Some place)
closed_at x k [] r h lt is own = absurd (omega (arith, lt))
closed_at x zero (y ∷ regions) r h lt is own = (let c = h.0 (ap (λ (q : Region). q.call) is ∙ own) in (c.0, ap (λ (q : Region). q.until) (sym is) ∙ c.1))
closed_at x (suc k) (y ∷ regions) r h lt is own = closed_at x k regions r h.1 (omega (arith, lt)) is own

closed_again : (test : Region → Bool) (place x : ℕ) (regions : List Region) → AreClosed x regions → AreClosed x (regions_closed test place regions)
unfolding regions_closed
closed_again test place x [] h = tt
closed_again test place x (r ∷ regions) h = (by (test r), closed_again test place x regions h.1)
  where
    by : (b : Bool) → (closed_if b place r).call ≡ x → (p : ℕ) × ((closed_if b place r).until ≡ Some p)
    by true own = (let c = h.0 own in (c.0, ap (λ (o : Option ℕ). until_at place o) c.1))
    by false own = h.0 own

closed_now : (place x : ℕ) (regions : List Region) → AreClosed x (regions_closed (λ r. eqb r.call x) place regions)
unfolding regions_closed
closed_now place x [] = tt
closed_now place x (r ∷ regions) = (by (eqb r.call x) refl, closed_now place x regions)
  where
    some : (o : Option ℕ) → (p : ℕ) × (until_at place o ≡ Some p)
    some None = (place, refl)
    some (Some u) = (u, refl)

    by : (b : Bool) → eqb r.call x ≡ b → (closed_if b place r).call ≡ x → (p : ℕ) × ((closed_if b place r).until ≡ Some p)
    by true is own = some r.until
    by false is own = absurd (let wrong : false ≡ true = sym is ∙ eq-eqb r.call x own in cc)

closed_append : (x : ℕ) (rs ss : List Region) → AreClosed x rs → AreClosed x ss → AreClosed x (rs ++ ss)
closed_append x [] ss h g = g
closed_append x (r ∷ rs) ss h g = (h.0, closed_append x rs ss h.1 g)

closed_new : (x xid place : ℕ) (bs : List Buffer) → x < xid → AreClosed x (map (region_of xid place) bs)
closed_new x xid place [] lt = tt
closed_new x xid place (b ∷ bs) lt = ((λ own. absurd (omega (arith, own, lt))), closed_new x xid place bs lt)

-- a frame leaves the xid that is sent next
next_stays : (k : ClientState) (f : Frame) (r : Result Segment ℕ) → next_sent_xid (with_segment k f r) ≡ next_sent_xid k
next_stays k f r = λ i. first_xid_or (segment_next k f r i) (segment_waiting k f r i)

record HasClosedRegions (opened : LinkParameters) (x : ℕ) (k : ClientState) : Type 0 where
  regions : AreClosed x k.regions
  low : x < next_sent_xid k

closed_event : (opened : LinkParameters) (x : ℕ) (k : ClientState) (ended : Option Stop) (e : RunEvent) → ClientGood opened (record { state = k; ended = ended }) e → HasClosedRegions opened x k → HasClosedRegions opened x (client_state_after opened k e)
unfolding client_state_after
closed_event opened x k ended (FrameReceived f) good h = by (is_hello f)
  where
    by : (b : Bool) → HasClosedRegions opened x (cond b (with_hello opened k f) (with_segment k f (client_segment k f)))
    by true = record { regions = h.regions; low = h.low }
    by false = (let same : next_sent_xid (with_segment k f (client_segment k f)) ≡ next_sent_xid k = next_stays k f (client_segment k f) in let low = h.low in record {
      regions = frame_regions (λ (rs : List Region). AreClosed x rs) k f (λ test. closed_again test f.end x k.regions) h.regions (client_segment k f);
      low = omega (arith, same, low);
    })
closed_event opened x k ended (CallSubmitted p a) good h =
    let low = h.low in
    let next = good.next in
    let rises : a.xid < sent_after a.xid k.next_xid k.waiting = submit_rises k.has_hello a.xid k.next_xid k.waiting a.call a.form good.next good.resent in
    record {
      regions = closed_append x k.regions (regions_unless_waiting (waiting_call k a.xid) p (outstanding_of k a)) h.regions (by (waiting_call k a.xid));
      low = omega (arith, low, next, rises);
    }
  where
    by : (w : Option WaitingCall) → AreClosed x (regions_unless_waiting w p (outstanding_of k a))
    by None = (let low = h.low in let next = good.next in closed_new x a.xid p (buffers (outstanding_of k a).stag (outstanding_of k a).plan) (omega (arith, low, next)))
    by (Some w) = tt
closed_event opened x k ended (MemoryRevoked p xid) good h = (let same = revoked_first xid k.next_xid k.waiting in let low = h.low in record { regions = closed_again (λ r. eqb r.call xid) p x k.regions h.regions; low = omega (arith, same, low) })
closed_event opened x k ended (CallExecuted e) good h = h
closed_event opened x k ended (QueueWritten taken) good h = record { regions = h.regions; low = h.low }
closed_event opened x k ended (ServerTold what) good h = record { regions = h.regions; low = h.low }

closed_message : (k : ClientState) (f : Frame) (s : Segment) (message : List ℕ) (x : ℕ) → message_completed k.received s ≡ Some message → x ≡ word_at 0 message → AreClosed x (with_segment k f (Ok s)).regions
closed_message k f s message x whole own =
    subst (λ (rs : List Region). AreClosed x rs) (sym (request_regions (with_message k f.end (message_completed k.received s)) (due_with_response k f s) (read_request_of s)))
    (subst (λ (o : Option (List ℕ)). AreClosed x (with_message k f.end o).regions) (sym whole)
    (subst (λ (n : ℕ). AreClosed x (regions_closed (λ r. eqb r.call n) f.end k.regions)) own (closed_now f.end x k.regions)))

closed_frame : (opened : LinkParameters) (k : ClientState) (f : Frame) (s : Segment) (message : List ℕ) (x : ℕ) → is_hello f ≡ false → client_segment k f ≡ Ok s → message_completed k.received s ≡ Some message → x ≡ word_at 0 message → x < next_sent_xid k
    → HasClosedRegions opened x (client_state_after opened k (FrameReceived f))
unfolding client_state_after
closed_frame opened k f s message x behind is whole own low =
    subst (λ (b : Bool). HasClosedRegions opened x (cond b (with_hello opened k f) (with_segment k f (client_segment k f)))) (sym behind)
    (subst (λ (r : Result Segment ℕ). HasClosedRegions opened x (with_segment k f r)) (sym is)
    (let same : next_sent_xid (with_segment k f (Ok s)) ≡ next_sent_xid k = next_stays k f (Ok s) in record { regions = closed_message k f s message x whole own; low = omega (arith, same, low) }))

closed_by_outcome : (opened : LinkParameters) (link : ℕ) (run : List Mark) (c : CompletedCall) → IsTyped run → AskedSoFar opened link run → WasGiven opened (events link Initiator run) c → HasClosedRegions opened c.xid (client opened link run).state
unfolding client
closed_by_outcome opened link run c typed asked w =
    let rules = client_rules opened in
    let before : EndState ClientState = client_by opened w.earlier in
    let k : ClientState = before.state in
    let g = client_goes opened link run typed asked in
    let all : GoesOn rules (ClientGood opened) 0 (initial_client opened) (w.earlier ++ FrameReceived w.frame ∷ w.later) = subst (λ (es : List RunEvent). GoesOn rules (ClientGood opened) 0 (initial_client opened) es) w.is g.goes in
    let rest = later_preserve rules (ClientGood opened) 0 (initial_client opened) w.earlier (FrameReceived w.frame ∷ w.later) all in
    let numbers : OwnXids opened k = keeps_all opened (λ (t : ClientState). OwnXids opened t) (own_event opened) 0 (initial_client opened) w.earlier (first_preserve rules (ClientGood opened) 0 (initial_client opened) w.earlier (FrameReceived w.frame ∷ w.later) all) (own_xids_begin opened) in
    let by : GivesBy k w.frame.end w.message c.xid (Some c.outcome) = gives_by k w.frame.end w.message c.xid (Some c.outcome) w.given in
    let under = found_below _ (next_sent_xid k) k.outstanding by.call by.is_call numbers.below in
    let same = by.call_xid in
    let now : HasClosedRegions opened c.xid (client_state_after opened k (FrameReceived w.frame)) =
    closed_frame opened k w.frame w.segment w.message c.xid w.behind (client_read k w.frame w.behind w.stays ∙ w.is_segment) w.whole (verdict_xid k w.frame.end w.message c.xid (Some c.outcome) w.given) (omega (arith, under, same)) in
    let after : EndState ClientState = next_end_state rules before (FrameReceived w.frame) in
    let is_after : after ≡ record { state = client_state_after opened k (FrameReceived w.frame); ended = None } =
    ap (λ (o : Option Stop). next_end_state_in rules k (FrameReceived w.frame) o) w.live ∙ ap (λ (o : Option Stop). next_end_state_by rules k (FrameReceived w.frame) o) w.stays in
    let final : client_by opened (events link Initiator run) ≡ end_state_after rules after w.later = ap (λ (es : List RunEvent). client_by opened es) w.is ∙ end_state_after_append rules (initial_client opened) w.earlier (FrameReceived w.frame ∷ w.later) in
    subst (λ (r : EndState ClientState). HasClosedRegions opened c.xid r.state) (sym final)
    (keeps_all opened (λ (t : ClientState). HasClosedRegions opened c.xid t) (closed_event opened c.xid) w.frame.end after w.later rest.2 (subst (λ (r : EndState ClientState). HasClosedRegions opened c.xid r.state) (sym is_after) now))

-- A region of a call that wasn't given up was closed by the call's message, and holds what it held at the end of that frame.
closing_message : (opened : LinkParameters) (link : ℕ) (run : List Mark) (r : Region) (place : ℕ) → is_abandoned link r.call run ≡ false → (c : IsClosedForCall opened (events link Initiator run) r place)
    → IsMessageOf (client_by opened c.earlier).state c.event r.call place
closing_message opened link run r place kept c = by c.why
  where
    by : IsMessageOf (client_by opened c.earlier).state c.event r.call place ⊎ (c.event ≡ MemoryRevoked place r.call) → IsMessageOf (client_by opened c.earlier).state c.event r.call place
    by (inl m) = m
    by (inr revoked) =
        absurd (revoke_at r.call place c.earlier c.later (subst (NoRevoke r.call) (c.is_received ∙ ap (λ (e : RunEvent). c.earlier ++ e ∷ c.later) revoked) (no_revoke link r.call run kept)))

held_at_message : (opened : LinkParameters) (link : ℕ) (run : List Mark) (r : Region) (place : ℕ) → IsTyped run → AskedSoFar opened link run → (c : IsClosedForCall opened (events link Initiator run) r place)
    → IsMessageOf (client_by opened c.earlier).state c.event r.call place → placed_bytes opened link Initiator run r.stag ≡ client_memory_at (client_by opened c.earlier).state place r.stag
held_at_message opened link run r place typed asked c m =
    closed_regions_hold_what_stood opened link run c.earlier c.later m.frame m.segment m.message (record r { until = None }) typed asked
    (c.is_received ∙ ap (λ (e : RunEvent). c.earlier ++ e ∷ c.later) m.is)
    (subst (λ (e : RunEvent). (next_end_state (client_rules opened) (client_by opened c.earlier) e).ended ≡ None) m.is c.stays)
    m.behind_hello m.is_segment m.whole m.own c.was_live refl
    ∙ ap (λ (n : ℕ). client_memory_at (client_by opened c.earlier).state n r.stag) m.ends_there

pub done_hands_back : DoneHandsBack
done_hands_back opened link run before xid outcome r typed asked at there own =
    let mark : Mark = marks.Done link xid outcome in
    let done : IsCompleted opened link before xid outcome = at_mark (AskedMark IsPrefixOf opened link) run before mark at.after at.is asked refl in
    let c : CompletedCall = record { xid = xid; outcome = outcome } in
    let all_closed = closed_by_outcome opened link before c (before_mark TypedMark run before mark at.after at.is typed) (before_mark (AskedMark IsPrefixOf opened link) run before mark at.after at.is asked)
    (outcome_given opened link before c done.is_received) in
    let closed = closed_at xid there.0 (client opened link before).state.regions r all_closed.regions there.1 there.2 own in
    let typed_before = before_mark TypedMark run before mark at.after at.is typed in
    let asked_before = before_mark (AskedMark IsPrefixOf opened link) run before mark at.after at.is asked in
    let c : IsClosedForCall opened (events link Initiator before) r closed.0 = client_regions_close_with_calls opened link before r closed.0 there closed.1 in
    let m = closing_message opened link before r closed.0 (ap (λ (n : ℕ). is_abandoned link n before) own ∙ done.awaited.kept) c in
    let still : Stands opened link run before r = subst (λ (whole : List Mark). Stands opened link whole before r) (sym at.is)
    (closed_regions_stand opened link before (mark ∷ at.after) r closed.0 (subst IsTyped at.is typed) (subst (λ (whole : List Mark). AskedSoFar opened link whole) at.is asked) there closed.1) in
    record {
      place = closed.0;
      closed = closed.1;
      closes = c;
      message = m;
      stood = still ∙ held_at_message opened link before r closed.0 typed_before asked_before c m;
      stands = still;
    }
