-- The lists of an outstanding call of a client that keeps its law have few segments: its Send has room for them.
use Rattle.std.proofs.Common.{◌≡◌, ℕ, ◌+◌, ◌*◌, ◌≤◌, ◌<◌, Bool, true, false, cond, eqb, List, [], ◌∷◌, map, Option, None, Some, Result, Ok, Err, refl, sym, ap, subst, ◌∙◌, arith, eqb-true}
use Rattle.std.specs.List.{AllByRecursion}
use Rattle.nr_header.specs.Constants.{HEADER_LEN_MIN}
use Rattle.nr_wire.specs.Segment.{Segment}
use Rattle.nr_link.specs.declared.end.End.{End as Stop}
use Rattle.nr_link.specs.Frames.{Frame, is_hello}
use Rattle.nr_link.specs.ReceiveState.{ReadRequest, message_completed, read_request_of}
use Rattle.nr_wire.specs.declared.hello.Side.TheVariants.{Initiator}
use Rattle.nr_reduce.specs.declared.mark.LinkParameters.{LinkParameters}
use Rattle.nr_reduce.specs.declared.outline.Plan.{Plan}
use Rattle.nr_reduce.specs.ClientState.{ClientState, OutstandingCall, WaitingCall, call_payload, plan_for, plan_unless, first_of, waiting_from}
use Rattle.nr_reduce.specs.Client.{client_segment, client_rules, client_end, client_state_after, due_with_response, initial_client, outstanding_of, plan_or, revoked_call, revoked_waiting, has_same_sizes, with_hello, with_message, with_request, with_segment}
use Rattle.nr_reduce.specs.EndRules.{next_end_state_by, next_end_state_in}
use Rattle.nr_reduce.specs.Events.{RunEvent, events}
use Rattle.nr_reduce.specs.Events.RunEvent.{FrameReceived, CallSubmitted, MemoryRevoked, CallExecuted, QueueWritten, ServerTold}
use Rattle.nr_reduce.specs.Hellos.{client_private, private_of, client_agreement, agreement_with}
use Rattle.nr_reduce.specs.History.{AcceptedCall}
use Rattle.nr_reduce.specs.Limits.{send_unit}
use Rattle.nr_reduce.specs.Plans.{TooLarge, plan_of, plan_size, regions_needed, reply_size, write_size}
use Rattle.nr_reduce.specs.declared.mark.ResumedCall.{ResumedCall}
use Rattle.nr_reduce.specs.Opening.{IsResumed, lengths_before}
use Rattle.nr_reduce.specs.SubmitAnswer.{first_xid_or, next_sent_xid}
use Rattle.nr_reduce.specs.Asked.{IsResent}
use Rattle.nr_reduce.proofs.Placing.{segment_waiting}
use Rattle.nr_reduce.proofs.Unresumed.{HasOpening, opening_segment}
use Rattle.nr_link.specs.declared.agreement.Agreement.{Agreement}
use Rattle.nr_reduce.specs.Run.{client}
use Rattle.nr_laws.specs.Bounds.{ClientOffersFewSegments, chunk_segments, segments_in}
use Rattle.nr_link.proofs.Agreements.{agreements_bounded}
use Rattle.nr_laws.proofs.PlannedSizes.{plan_fits, planned_size}
use Rattle.nr_laws.proofs.SizesAgain.{hello_same, lengths_same}
use Rattle.nr_laws.proofs.WaitingCalls.{others_there}
use Rattle.std.proofs.lemmas.Bool.{eq-eqb}
use Rattle.nr_laws.proofs.EventOutputs.{IsNext, along, place_after}
use Rattle.nr_laws.proofs.ClientSays.{ClientGood}
use Rattle.nr_laws.proofs.ClientRun.{client_goes}
use Rattle.nr_laws.proofs.AgreedSizes.{segment_sizes, segment_hello}
use Rattle.nr_laws.proofs.Basics.{each_append, each_kept}

-- the lists of a plan leave room in a Send of this length
abbrev Fits : ℕ → Plan → Type 0
Fits n p = HEADER_LEN_MIN + 16 * segments_in p ≤ n

write_room : (w : Option (List ℕ)) → 16 * chunk_segments w ≤ write_size w
write_room None = omega arith
write_room (Some lengths) = omega arith

reply_room : (r : Option (List ℕ)) → 16 * chunk_segments r ≤ reply_size r
reply_room None = omega arith
reply_room (Some lengths) = omega arith

few_in_plan : (up : ℕ) (p : Plan) → plan_size p ≤ up → Fits up p
unfolding plan_size
few_in_plan up p h = omega (arith, h, write_room p.write, reply_room p.reply)

-- ---- Along the events: before the first frame a Send has the least length, which no hello makes shorter. A client that was reopened sends its
-- calls again once a hello agreed on the lengths by which they were planned.

abbrev AllFit : ℕ → List OutstandingCall → Type 0
AllFit up os = AllByRecursion (λ (o : OutstandingCall). Fits up o.plan) os

abbrev AllFitAgain : ℕ → List WaitingCall → Type 0
AllFitAgain up ws = AllByRecursion (λ (w : WaitingCall). Fits up w.plan) ws

record FewAt (opened : LinkParameters) (place : ℕ) (k : ClientState) : Type 0 where
  least : send_unit ≤ k.up_max
  first : place ≡ 0 → k.up_max ≡ send_unit
  fit : AllFit k.up_max k.outstanding
  resends : AllFitAgain (lengths_before opened.agreed).up k.waiting
  again : k.has_hello ≡ true → (lengths_before opened.agreed).up ≤ k.up_max
  opening : HasOpening opened k

fit_more : (n m : ℕ) (os : List OutstandingCall) → n ≤ m → AllFit n os → AllFit m os
fit_more n m [] le h = tt
fit_more n m (o ∷ os) le h = (omega (arith, le, h.0), fit_more n m os le h.1)

fit_revoked : (up xid : ℕ) (os : List OutstandingCall) → AllFit up os → AllFit up (map (revoked_call xid) os)
fit_revoked up xid [] h = tt
fit_revoked up xid (o ∷ os) h = (by (eqb o.xid xid), fit_revoked up xid os h.1)
  where
    by : (b : Bool) → Fits up (cond b (record o { is_revoked = true }) o).plan
    by true = h.0
    by false = h.0

again_revoked : (up xid : ℕ) (ws : List WaitingCall) → AllFitAgain up ws → AllFitAgain up (map (revoked_waiting xid) ws)
again_revoked up xid [] h = tt
again_revoked up xid (w ∷ ws) h = (by (eqb w.xid xid), again_revoked up xid ws h.1)
  where
    by : (b : Bool) → Fits up (cond b (record w { is_revoked = true }) w).plan
    by true = h.0
    by false = h.0

again_first : (opened : LinkParameters) (stag : ℕ) (rs : List ResumedCall) → AllByRecursion (IsResumed (lengths_before opened.agreed)) rs → AllFitAgain (lengths_before opened.agreed).up (waiting_from stag rs)
again_first opened stag [] h = tt
again_first opened stag (r ∷ rs) h =
    let own = h.0 in (
      few_in_plan (lengths_before opened.agreed).up r.plan (let most = planned_size r.xid r.call r.form r.plan own.planned in let up = own.up in omega (arith, most, up)),
      again_first opened (stag + regions_needed r.plan) rs h.1,
    )

fit_message : (up : ℕ) (k : ClientState) (place : ℕ) (o : Option (List ℕ)) → AllFit up k.outstanding → AllFit up (with_message k place o).outstanding
fit_message up k place None h = h
fit_message up k place (Some message) h = each_kept (λ (o : OutstandingCall). Fits up o.plan) _ k.outstanding h

fit_request : (up : ℕ) (m : ClientState) (due : ℕ) (o : Option ReadRequest) → AllFit up m.outstanding → AllFit up (with_request m due o).outstanding
fit_request up m due None h = h
fit_request up m due (Some q) h = h

fit_segment : (up : ℕ) (k : ClientState) (f : Frame) (r : Result Segment ℕ) → AllFit up k.outstanding → AllFit up (with_segment k f r).outstanding
fit_segment up k f (Err reason) h = h
fit_segment up k f (Ok s) h =
    fit_request up (with_message k f.end (message_completed k.received s)) (due_with_response k f s) (read_request_of s) (fit_message up k f.end (message_completed k.received s) h)

few_hello : (opened : LinkParameters) (place : ℕ) (k : ClientState) (f : Frame) → place ≡ 0 → 0 < f.end → is_hello f ≡ true → client_end k (FrameReceived f) ≡ None → FewAt opened place k → FewAt opened f.end (with_hello opened k f)
unfolding client_agreement
few_hello opened place k f first some is stays h =
    let a : Agreement = agreement_with opened.client f in
    let bounds = agreements_bounded (client_private opened) (private_of f) in
    let limits = bounds.0 in
    let up : k.up_max ≡ send_unit = h.first first in
    let same : has_same_sizes opened.agreed a ≡ true = (λ i. has_same_sizes (sym h.opening.1 i) (agreement_with (sym h.opening.0 i) f)) ∙ hello_same k f is stays in
    record {
      least = limits.0;
      first = λ e. absurd (omega (arith, e, some));
      fit = fit_more k.up_max (with_hello opened k f).up_max k.outstanding (omega (arith, up, limits.0)) h.fit;
      resends = h.resends;
      again = λ e. (lengths_same opened.agreed a bounds.0 bounds.1 same).0;
      opening = h.opening;
    }

few_segment : (opened : LinkParameters) (place : ℕ) (k : ClientState) (f : Frame) (r : Result Segment ℕ) → 0 < f.end → FewAt opened place k → FewAt opened f.end (with_segment k f r)
few_segment opened place k f r some h =
    let same = (segment_sizes k f r).0 in
    record {
      least = omega (arith, same, h.least);
      first = λ e. absurd (omega (arith, e, some));
      fit = subst (λ (n : ℕ). AllFit n (with_segment k f r).outstanding) (sym same) (fit_segment k.up_max k f r h.fit);
      resends = subst (AllFitAgain (lengths_before opened.agreed).up) (sym (segment_waiting k f r)) h.resends;
      again = λ e. (let less = h.again (sym (segment_hello k f r) ∙ e) in omega (arith, less, same));
      opening = opening_segment opened k f r h.opening;
    }

few_later : (opened : LinkParameters) (place end : ℕ) (k : ClientState) → 0 < end → FewAt opened place k → FewAt opened end k
few_later opened place end k some h = record { least = h.least; first = λ e. absurd (omega (arith, e, some)); fit = h.fit; resends = h.resends; again = h.again; opening = h.opening }

few_frame : (opened : LinkParameters) (place : ℕ) (k : ClientState) (f : Frame) → IsNext place (FrameReceived f) → FewAt opened place k → (o : Option Stop) → client_end k (FrameReceived f) ≡ o → FewAt opened f.end (next_end_state_by (client_rules opened) k (FrameReceived f) o).state
unfolding client_state_after
few_frame opened place k f next h (Some end) stops = few_later opened place f.end k (let l = next.1 in omega (arith, l)) h
few_frame opened place k f next h None stays = by (is_hello f) refl
  where
    by : (b : Bool) → is_hello f ≡ b → FewAt opened f.end (cond b (with_hello opened k f) (with_segment k f (client_segment k f)))
    by true is = few_hello opened place k f (sym next.0 ∙ eqb-true f.at 0 is) (let l = next.1 in omega (arith, l)) is stays h
    by false is = few_segment opened place k f (client_segment k f) (let l = next.1 in omega (arith, l)) h

-- a new call is planned for the present length, and one that is sent again for what the hello agreed on again
few_in_call : (opened : LinkParameters) (place : ℕ) (k : ClientState) (a : AcceptedCall) (plan : Plan) → plan_for k a.xid a.call a.form ≡ Ok plan → a.xid ≡ next_sent_xid k → IsResent k.has_hello k.next_xid k.waiting a.call a.form → FewAt opened place k → Fits k.up_max plan
unfolding plan_for
few_in_call opened place k a plan planned own resent h = by k.waiting planned own resent h.resends
  where
    anew : Result Plan TooLarge
    anew = plan_of (call_payload a.xid a.call) a.form k.up_max k.down_max

    by : (ws : List WaitingCall) → plan_unless (first_of ws a.xid) anew ≡ Ok plan → a.xid ≡ first_xid_or k.next_xid ws → IsResent k.has_hello k.next_xid ws a.call a.form → AllFitAgain (lengths_before opened.agreed).up ws → Fits k.up_max plan
    by [] planned own resent fit = few_in_plan k.up_max plan (plan_fits a.xid k.up_max k.down_max a.call a.form plan planned)
    by (w ∷ ws) planned own resent fit = waits (eqb w.xid a.xid) (eq-eqb w.xid a.xid (sym own)) planned
      where
        fits : Fits k.up_max w.plan
        fits = (let room = fit.0 in let up = h.again resent.greeted in omega (arith, room, up))

        waits : (b : Bool) → b ≡ true → plan_unless (cond b (Some w) None) anew ≡ Ok plan → Fits k.up_max plan
        waits true e planned = (let same : w.plan ≡ plan = cc in subst (Fits k.up_max) same fits)
        waits false e planned = absurd cc

few_call : (opened : LinkParameters) (place q : ℕ) (k : ClientState) (a : AcceptedCall) (plan : Plan) → plan_for k a.xid a.call a.form ≡ Ok plan → a.xid ≡ next_sent_xid k → IsResent k.has_hello k.next_xid k.waiting a.call a.form → FewAt opened place k → FewAt opened place (client_state_after opened k (CallSubmitted q a))
unfolding client_state_after
few_call opened place q k a plan planned own resent h =
    let same : (outstanding_of k a).plan ≡ plan = ap (λ (r : Result Plan TooLarge). plan_or (call_payload a.xid a.call) r) planned in
    let one : Fits k.up_max (outstanding_of k a).plan = subst (Fits k.up_max) (sym same) (few_in_call opened place k a plan planned own resent h) in
    record {
      least = h.least;
      first = h.first;
      fit = each_append (λ (o : OutstandingCall). Fits k.up_max o.plan) k.outstanding (outstanding_of k a ∷ []) h.fit (one, tt);
      resends = others_there (λ (w : WaitingCall). Fits (lengths_before opened.agreed).up w.plan) k.waiting a.xid h.resends;
      again = h.again;
      opening = h.opening;
    }

few_step : (opened : LinkParameters) (place : ℕ) (k : ClientState) (ended : Option Stop) (e : RunEvent) → IsNext place e → ClientGood opened (record { state = k; ended = ended }) e → FewAt opened place k → FewAt opened (place_after place e) (next_end_state_in (client_rules opened) k e ended).state
unfolding client_end client_state_after
few_step opened place k None (FrameReceived f) next good h = few_frame opened place k f next h (client_end k (FrameReceived f)) refl
few_step opened place k None (CallSubmitted q a) next good h = few_call opened place q k a good.plan good.planned good.next good.resent h
few_step opened place k None (MemoryRevoked q xid) next good h = record { least = h.least; first = h.first; fit = fit_revoked k.up_max xid k.outstanding h.fit; resends = again_revoked (lengths_before opened.agreed).up xid k.waiting h.resends; again = h.again; opening = h.opening }
few_step opened place k None (CallExecuted x) next good h = h
few_step opened place k None (QueueWritten taken) next good h = record { least = h.least; first = h.first; fit = h.fit; resends = h.resends; again = h.again; opening = h.opening }
few_step opened place k None (ServerTold what) next good h = record { least = h.least; first = h.first; fit = h.fit; resends = h.resends; again = h.again; opening = h.opening }
few_step opened place k (Some end) (FrameReceived f) next good h = few_later opened place f.end k (let l = next.1 in omega (arith, l)) h
few_step opened place k (Some end) (CallSubmitted q a) next good h = h
few_step opened place k (Some end) (MemoryRevoked q xid) next good h = h
few_step opened place k (Some end) (CallExecuted x) next good h = h
few_step opened place k (Some end) (QueueWritten taken) next good h = h
few_step opened place k (Some end) (ServerTold what) next good h = h

pub client_offers_few_segments : ClientOffersFewSegments
unfolding client
client_offers_few_segments opened link run resumes typed asked =
    (along (client_rules opened) (λ k e. []) (λ end. []) (ClientGood opened) (λ es place r outs. FewAt opened place r.state)
    (λ es place r outs e next good h. few_step opened place r.state r.ended e next good h)
    [] 0 (initial_client opened) [] (events link Initiator run) (client_goes opened link run typed asked).goes (record { least = omega arith; first = λ e. refl; fit = tt; resends = again_first opened opened.first_stag opened.resumed resumes; again = λ e. absurd cc; opening = (refl, refl) })).fit
