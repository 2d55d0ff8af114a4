-- The link that a client goes on over is opened in range: the xids of the calls that it sends again rise, and each is planned for lengths of Sends
-- up to those that were agreed on.
use Rattle.std.proofs.Common.{◌≡◌, ℕ, ◌+◌, ◌≤◌, ◌<◌, Bool, true, false, not, cond, eqb, eqb-true, List, [], ◌∷◌, ◌++◌, map, Option, None, Some, Result, Ok, Err, refl, sym, ap, subst, ◌∙◌, arith, append_assoc, append-nil, ◌⊎◌, inl, inr}
use Rattle.std.specs.List.{AllByRecursion, filter, find, flat_map}
use Rattle.std.proofs.lemmas.Bool.{eq-eqb}
use Rattle.nr_rpc.specs.Credential.{CanWriteCred}
use Rattle.nr_wire.specs.declared.hello.Side.TheVariants.{Initiator}
use Rattle.nr_wire.specs.Segment.{Segment}
use Rattle.nr_link.specs.declared.agreement.Agreement.{Agreement}
use Rattle.nr_link.specs.declared.end.End.{End as Stop}
use Rattle.nr_link.specs.Agreement.{IsSendLimit}
use Rattle.nr_link.specs.Frames.{Frame, is_hello}
use Rattle.nr_link.proofs.Agreements.{agreements_bounded}
use Rattle.nr_reduce.specs.declared.mark.LinkParameters.{LinkParameters}
use Rattle.nr_reduce.specs.declared.mark.Mark.{Mark}
use Rattle.nr_reduce.specs.declared.mark.ResumedCall.{ResumedCall}
use Rattle.nr_reduce.specs.declared.outline.Plan.{Plan}
use Rattle.nr_reduce.specs.Limits.{numbers_end, send_unit}
use Rattle.nr_reduce.specs.Plans.{TooLarge, plan_of, regions_needed}
use Rattle.nr_reduce.specs.History.{AcceptedCall, accepted_calls, is_abandoned}
use Rattle.nr_reduce.specs.Events.{RunEvent, events}
use Rattle.nr_reduce.specs.Events.RunEvent.{FrameReceived, CallSubmitted, MemoryRevoked, CallExecuted, QueueWritten, ServerTold}
use Rattle.nr_reduce.specs.EndRules.{next_end_state_by, next_end_state_in}
use Rattle.nr_reduce.specs.Hellos.{client_private, private_of, client_agreement, agreement_with}
use Rattle.nr_reduce.specs.ClientState.{ClientState, OutstandingCall, WaitingCall, call_payload, first_of, plan_for, plan_unless, stag_after, waiting_from}
use Rattle.nr_reduce.specs.Client.{client_segment, client_rules, client_end, client_state_after, initial_client, outstanding_of, plan_or, revoked_call, revoked_waiting, has_same_sizes, with_hello, with_segment}
use Rattle.nr_reduce.specs.Run.{client}
use Rattle.nr_reduce.specs.SubmitAnswer.{first_xid_or, next_sent_xid}
use Rattle.nr_reduce.specs.Asked.{IsPlannedAs, IsResent, AskedSoFar}
use Rattle.nr_reduce.specs.Opening.{IsOpened, IsResumed, AreResumed, lengths_before}
use Rattle.nr_reduce.specs.Reopening.{resumed_as, resumed_of, resumed_again, calls_kept, last_agreement, reopened}
use Rattle.nr_reduce.proofs.OwnLimits.{client_limits_of}
use Rattle.nr_reduce.proofs.OwnStags.{client_known}
use Rattle.nr_reduce.proofs.Placing.{segment_waiting}
use Rattle.nr_reduce.proofs.Unresumed.{HasOpening, opening_segment}
use Rattle.nr_reduce.proofs.XidsFollow.{xids_waiting}
use Rattle.nr_laws.specs.Reopened.{AgreedInRange, ReopenedLinksAreOpened}
use Rattle.nr_laws.specs.Typed.{IsTyped}
use Rattle.nr_laws.proofs.AcceptedEvents.{accepted_events}
use Rattle.nr_laws.proofs.AgreedSizes.{segment_sizes, segment_hello}
use Rattle.nr_laws.proofs.Basics.{each_all, each_append, each_kept}
use Rattle.nr_laws.proofs.ClientRun.{client_goes}
use Rattle.nr_laws.proofs.ClientSays.{ClientGood, IsGoodCall, accepted_in, accepted_append}
use Rattle.nr_laws.proofs.EventOutputs.{IsNext, along, place_after, places_after}
use Rattle.nr_laws.proofs.OwnXids.{segment_out}
use Rattle.nr_laws.proofs.ResumedCalls.{next_least}
use Rattle.nr_laws.proofs.RisingCalls.{IsRising, xids_out, AreBelow, call_under, under_more, under_new, RisesAt, rises_segment, rises_hello, rises_call, rises_revoked, rises_written, rises_first}
use Rattle.nr_laws.proofs.SizesAgain.{hello_same, lengths_same}
use Rattle.nr_laws.proofs.WaitingCalls.{others_there}

-- ---- A call that can be sent again on the next link

abbrev limits : ClientState → Agreement
limits k = lengths_before (last_agreement k)

resumed_larger : (a b : Agreement) (r : ResumedCall) → a.up ≤ b.up → a.down ≤ b.down → IsResumed a r → IsResumed b r
resumed_larger a b r up down h = (
    let less = h.up in
    let fewer = h.down in
    record { planned = h.planned; up = omega (arith, less, up); down = omega (arith, fewer, down); writable = h.writable })

record IsAgain (agreed : Agreement) (accepted : List AcceptedCall) (o : OutstandingCall) : Type 0 where
  own : AcceptedCall
  found : call_under o.xid accepted ≡ Some own
  resumed : IsResumed agreed (record { xid = o.xid; call = o.call; form = own.form; plan = o.plan })

abbrev AllAgain : Agreement → List AcceptedCall → List OutstandingCall → Type 0
AllAgain agreed accepted os = AllByRecursion (IsAgain agreed accepted) os

abbrev AllWait : Agreement → List WaitingCall → Type 0
AllWait agreed ws = AllByRecursion (λ (w : WaitingCall). IsResumed agreed (resumed_again w)) ws

all_larger : (a b : Agreement) (accepted : List AcceptedCall) (os : List OutstandingCall) → a.up ≤ b.up → a.down ≤ b.down → AllAgain a accepted os → AllAgain b accepted os
all_larger a b accepted os up down h =
    each_all (IsAgain a accepted) (IsAgain b accepted) os (λ o g. record { own = g.own; found = g.found; resumed = resumed_larger a b (record { xid = o.xid; call = o.call; form = g.own.form; plan = o.plan }) up down g.resumed }) h

all_wait_larger : (a b : Agreement) (ws : List WaitingCall) → a.up ≤ b.up → a.down ≤ b.down → AllWait a ws → AllWait b ws
all_wait_larger a b ws up down h = each_all (λ (w : WaitingCall). IsResumed a (resumed_again w)) (λ (w : WaitingCall). IsResumed b (resumed_again w)) ws (λ w g. resumed_larger a b (resumed_again w) up down g) h

all_more : (agreed : Agreement) (accepted more : List AcceptedCall) (os : List OutstandingCall) → AllAgain agreed accepted os → AllAgain agreed (accepted ++ more) os
all_more agreed accepted more os h =
    each_all (IsAgain agreed accepted) (IsAgain agreed (accepted ++ more)) os (λ o g. record { own = g.own; found = under_more o.xid accepted more g.own g.found; resumed = g.resumed }) h

all_revoked : (agreed : Agreement) (accepted : List AcceptedCall) (xid : ℕ) (os : List OutstandingCall) → AllAgain agreed accepted os → AllAgain agreed accepted (map (revoked_call xid) os)
all_revoked agreed accepted xid [] h = tt
all_revoked agreed accepted xid (o ∷ os) h = (by (eqb o.xid xid), all_revoked agreed accepted xid os h.1)
  where
    by : (b : Bool) → IsAgain agreed accepted (cond b (record o { is_revoked = true }) o)
    by true = record { own = h.0.own; found = h.0.found; resumed = h.0.resumed }
    by false = h.0

wait_revoked : (agreed : Agreement) (xid : ℕ) (ws : List WaitingCall) → AllWait agreed ws → AllWait agreed (map (revoked_waiting xid) ws)
wait_revoked agreed xid [] h = tt
wait_revoked agreed xid (w ∷ ws) h = (by (eqb w.xid xid), wait_revoked agreed xid ws h.1)
  where
    by : (b : Bool) → IsResumed agreed (resumed_again (cond b (record w { is_revoked = true }) w))
    by true = h.0
    by false = h.0

wait_first : (agreed : Agreement) (first stag next : ℕ) (rs : List ResumedCall) → AreResumed agreed first rs next → AllWait agreed (waiting_from stag rs)
wait_first agreed first stag next [] h = tt
wait_first agreed first stag next (r ∷ rs) h =
    let own = h.1.0 in
    (record { planned = own.planned; up = own.up; down = own.down; writable = own.writable }, wait_first agreed (r.xid + 1) (stag + regions_needed r.plan) next rs h.1.1)

-- ---- Along the events of a client

record OpensAt (opened : LinkParameters) (accepted : List AcceptedCall) (place : ℕ) (k : ClientState) : Type 0 where
  first : place ≡ 0 → k.has_hello ≡ false
  unheard : k.has_hello ≡ false → (k.up_max ≡ send_unit) × (k.down_max ≡ send_unit)
  rises : RisesAt accepted k
  calls : AllAgain (limits k) accepted k.outstanding
  waits : AllWait (limits k) k.waiting
  opening : HasOpening opened k

module _ (opened : LinkParameters) (range : AgreedInRange opened) where
  opens_later : (accepted : List AcceptedCall) (place end : ℕ) (k : ClientState) → 0 < end → OpensAt opened accepted place k → OpensAt opened accepted end k
  opens_later accepted place end k some h =
      record { first = λ e. absurd (omega (arith, e, some)); unheard = h.unheard; rises = h.rises; calls = h.calls; waits = h.waits; opening = h.opening }

  opens_hello : (accepted : List AcceptedCall) (place : ℕ) (k : ClientState) (f : Frame) → place ≡ 0 → 0 < f.end → is_hello f ≡ true → client_end k (FrameReceived f) ≡ None → OpensAt opened accepted place k → OpensAt opened accepted f.end (with_hello opened k f)
  unfolding client_agreement
  opens_hello accepted place k f first some is stays h =
      let a : Agreement = agreement_with opened.client f in
      let bounds = agreements_bounded (client_private opened) (private_of f) in
      let same : has_same_sizes opened.agreed a ≡ true = (λ i. has_same_sizes (sym h.opening.1 i) (agreement_with (sym h.opening.0 i) f)) ∙ hello_same k f is stays in
      let less = lengths_same opened.agreed a bounds.0 bounds.1 same in
      let own : limits k ≡ lengths_before opened.agreed =
      ap (λ (b : Bool). lengths_before (cond b (Some (record { up = k.up_max; down = k.down_max; invalidates = k.invalidates })) k.agreed)) (h.first first) ∙ ap lengths_before h.opening.1 in
      let agreed : Agreement = limits (with_hello opened k f) in
      let up : (limits k).up ≤ agreed.up = (let e = ap (λ (x : Agreement). x.up) own in let l = less.0 in omega (arith, e, l)) in
      let down : (limits k).down ≤ agreed.down = (let e = ap (λ (x : Agreement). x.down) own in let l = less.1 in omega (arith, e, l)) in
      record {
        first = λ e. absurd (omega (arith, e, some));
        unheard = λ e. absurd cc;
        rises = rises_hello opened accepted k f h.rises;
        calls = all_larger (limits k) agreed accepted k.outstanding up down h.calls;
        waits = all_wait_larger (limits k) agreed k.waiting up down h.waits;
        opening = h.opening;
      }

  opens_segment : (accepted : List AcceptedCall) (place : ℕ) (k : ClientState) (f : Frame) (r : Result Segment ℕ) → 0 < f.end → OpensAt opened accepted place k → OpensAt opened accepted f.end (with_segment k f r)
  opens_segment accepted place k f r some h = record {
    first = λ e. absurd (omega (arith, e, some));
    unheard = λ e. (let s = h.unheard (sym hello ∙ e) in (sizes.0 ∙ s.0, sizes.1 ∙ s.1));
    rises = rises_segment accepted k f r h.rises;
    calls = by_calls (segment_out k f r);
    waits = subst (λ (ws : List WaitingCall). AllWait (limits t) ws) (sym (segment_waiting k f r)) (subst (λ (a : Agreement). AllWait a k.waiting) (sym own) h.waits);
    opening = opening;
  }
    where
      t : ClientState
      t = with_segment k f r

      hello : t.has_hello ≡ k.has_hello
      hello = segment_hello k f r

      sizes : (t.up_max ≡ k.up_max) × (t.down_max ≡ k.down_max) × (t.invalidates ≡ k.invalidates)
      sizes = segment_sizes k f r

      opening : HasOpening opened t
      opening = opening_segment opened k f r h.opening

      own : limits t ≡ limits k
      own = λ i. lengths_before (cond (hello i) (Some (record { up = sizes.0 i; down = sizes.1 i; invalidates = sizes.2 i })) ((opening.1 ∙ sym h.opening.1) i))

      by_calls : (t.outstanding ≡ k.outstanding) ⊎ ((p : OutstandingCall → Bool) × (t.outstanding ≡ filter p k.outstanding)) → AllAgain (limits t) accepted t.outstanding
      by_calls (inl same) = subst (λ (a : Agreement). AllAgain a accepted t.outstanding) (sym own) (subst (AllAgain (limits k) accepted) (sym same) h.calls)
      by_calls (inr left) = subst (λ (a : Agreement). AllAgain a accepted t.outstanding) (sym own) (subst (AllAgain (limits k) accepted) (sym left.1) (each_kept (IsAgain (limits k) accepted) left.0 k.outstanding h.calls))

  opens_frame : (accepted : List AcceptedCall) (place : ℕ) (k : ClientState) (f : Frame) → IsNext place (FrameReceived f) → OpensAt opened accepted place k → (o : Option Stop) → client_end k (FrameReceived f) ≡ o
      → OpensAt opened accepted f.end (next_end_state_by (client_rules opened) k (FrameReceived f) o).state
  unfolding client_state_after
  opens_frame accepted place k f next h (Some end) stops = opens_later accepted place f.end k (let l = next.1 in omega (arith, l)) h
  opens_frame accepted place k f next h None stays = by (is_hello f) refl
    where
      by : (b : Bool) → is_hello f ≡ b → OpensAt opened accepted f.end (cond b (with_hello opened k f) (with_segment k f (client_segment k f)))
      by true is = opens_hello accepted place k f (sym next.0 ∙ eqb-true f.at 0 is) (let l = next.1 in omega (arith, l)) is stays h
      by false is = opens_segment accepted place k f (client_segment k f) (let l = next.1 in omega (arith, l)) h

  -- ---- A call is accepted

  -- the lengths that a client goes by are what it agreed on last, or one unit, which is no more
  within : (has_hello : Bool) (agreed : Option Agreement) (up down : ℕ) (invalidates : Bool) → (has_hello ≡ false → (up ≡ send_unit) × (down ≡ send_unit)) → agreed ≡ opened.agreed
      → (up ≤ (lengths_before (cond has_hello (Some (record { up = up; down = down; invalidates = invalidates })) agreed)).up) × (down ≤ (lengths_before (cond has_hello (Some (record { up = up; down = down; invalidates = invalidates })) agreed)).down)
  within true agreed up down invalidates unheard is = (omega arith, omega arith)
  within false agreed up down invalidates unheard is =
      let one = unheard refl in
      let least = range.0.0 in
      let fewest = range.1.0 in
      let same_up = ap (λ (x : Option Agreement). (lengths_before x).up) is in
      let same_down = ap (λ (x : Option Agreement). (lengths_before x).down) is in
      (omega (arith, one.0, least, same_up), omega (arith, one.1, fewest, same_down))

  resumed_now : (accepted : List AcceptedCall) (place : ℕ) (k : ClientState) (a : AcceptedCall) (ended : Option Stop) → (good : IsGoodCall opened (record { state = k; ended = ended }) a) → OpensAt opened accepted place k
      → IsResumed (limits k) (record { xid = a.xid; call = a.call; form = a.form; plan = good.plan })
  unfolding plan_for
  resumed_now accepted place k a ended good h = by k.waiting good.planned good.next good.resent h.waits
    where
      anew : Result Plan TooLarge
      anew = plan_of (call_payload a.xid a.call) a.form k.up_max k.down_max

      goal : Type 0
      goal = IsResumed (limits k) (record { xid = a.xid; call = a.call; form = a.form; plan = good.plan })

      by : (ws : List WaitingCall) → plan_unless (first_of ws a.xid) anew ≡ Ok good.plan → a.xid ≡ first_xid_or k.next_xid ws → IsResent k.has_hello k.next_xid ws a.call a.form → AllWait (limits k) ws → goal
      by [] planned own resent waits =
          let fit = within k.has_hello k.agreed k.up_max k.down_max k.invalidates h.unheard h.opening.1 in
          record { planned = record { up = k.up_max; down = k.down_max; up_fits = good.limits.up; down_fits = good.limits.down; planned = planned }; up = fit.0; down = fit.1; writable = good.writable }
      by (w ∷ ws) planned own resent waits = again (eqb w.xid a.xid) (eq-eqb w.xid a.xid (sym own)) planned
        where
          again : (b : Bool) → b ≡ true → plan_unless (cond b (Some w) None) anew ≡ Ok good.plan → goal
          again true e planned =
              let plan_is : w.plan ≡ good.plan = cc in
              let same : resumed_again w ≡ record { xid = a.xid; call = a.call; form = a.form; plan = good.plan } =
              λ i. record { xid = sym own i; call = sym resent.call_is i; form = sym resent.form_is i; plan = plan_is i } in
              subst (IsResumed (limits k)) same waits.0
          again false e planned = absurd cc

  opens_call : (accepted : List AcceptedCall) (place p : ℕ) (k : ClientState) (a : AcceptedCall) (ended : Option Stop) → IsGoodCall opened (record { state = k; ended = ended }) a → OpensAt opened accepted place k
      → OpensAt opened (accepted ++ a ∷ []) place (client_state_after opened k (CallSubmitted p a))
  unfolding client_state_after
  opens_call accepted place p k a ended good h = record {
    first = h.first;
    unheard = h.unheard;
    rises = rises_call opened accepted p k a ended good h.rises;
    calls = each_append (IsAgain (limits k) (accepted ++ a ∷ [])) k.outstanding (o ∷ []) (all_more (limits k) accepted (a ∷ []) k.outstanding h.calls) (one, tt);
    waits = others_there (λ (w : WaitingCall). IsResumed (limits k) (resumed_again w)) k.waiting a.xid h.waits;
    opening = h.opening;
  }
    where
      o : OutstandingCall
      o = outstanding_of k a

      plan_is : o.plan ≡ good.plan
      plan_is = ap (λ (r : Result Plan TooLarge). plan_or (call_payload a.xid a.call) r) good.planned

      one : IsAgain (limits k) (accepted ++ a ∷ []) o
      one = record {
        own = a;
        found = under_new accepted a (subst (λ (n : ℕ). AreBelow n accepted) (sym good.next) h.rises.below);
        resumed = subst (λ (plan : Plan). IsResumed (limits k) (record { xid = a.xid; call = a.call; form = a.form; plan = plan })) (sym plan_is) (resumed_now accepted place k a ended good h);
      }

  opens_revoked : (accepted : List AcceptedCall) (place p xid : ℕ) (k : ClientState) → OpensAt opened accepted place k → OpensAt opened accepted place (client_state_after opened k (MemoryRevoked p xid))
  unfolding client_state_after
  opens_revoked accepted place p xid k h = record {
    first = h.first;
    unheard = h.unheard;
    rises = rises_revoked opened accepted p xid k h.rises;
    calls = all_revoked (limits k) accepted xid k.outstanding h.calls;
    waits = wait_revoked (limits k) xid k.waiting h.waits;
    opening = h.opening;
  }

  opens_written : (accepted : List AcceptedCall) (place taken : ℕ) (k : ClientState) → OpensAt opened accepted place k → OpensAt opened accepted place (client_state_after opened k (QueueWritten taken))
  unfolding client_state_after
  opens_written accepted place taken k h = record { first = h.first; unheard = h.unheard; rises = rises_written opened accepted taken k h.rises; calls = h.calls; waits = h.waits; opening = h.opening }

  -- the calls that were accepted by an event
  more_accepted : (es : List RunEvent) (e : RunEvent) (place : ℕ) (k : ClientState) → accepted_in (e ∷ []) ≡ [] → OpensAt opened (accepted_in es) place k → OpensAt opened (accepted_in (es ++ e ∷ [])) place k
  more_accepted es e place k none h =
      subst (λ (calls : List AcceptedCall). OpensAt opened calls place k) (sym (accepted_append es (e ∷ []) ∙ ap (λ (calls : List AcceptedCall). accepted_in es ++ calls) none ∙ append-nil (accepted_in es))) h

  opens_step : (es : List RunEvent) (place : ℕ) (k : ClientState) (ended : Option Stop) (e : RunEvent) → IsNext place e → ClientGood opened (record { state = k; ended = ended }) e → OpensAt opened (accepted_in es) place k
      → OpensAt opened (accepted_in (es ++ e ∷ [])) (place_after place e) (next_end_state_in (client_rules opened) k e ended).state
  unfolding client_end client_state_after
  opens_step es place k None (FrameReceived f) next good h =
      more_accepted es (FrameReceived f) f.end (next_end_state_by (client_rules opened) k (FrameReceived f) (client_end k (FrameReceived f))).state refl (opens_frame (accepted_in es) place k f next h (client_end k (FrameReceived f)) refl)
  opens_step es place k None (CallSubmitted p a) next good h =
      subst (λ (calls : List AcceptedCall). OpensAt opened calls place (client_state_after opened k (CallSubmitted p a))) (sym (accepted_append es (CallSubmitted p a ∷ []))) (opens_call (accepted_in es) place p k a None good h)
  opens_step es place k None (MemoryRevoked p xid) next good h = more_accepted es (MemoryRevoked p xid) place (client_state_after opened k (MemoryRevoked p xid)) refl (opens_revoked (accepted_in es) place p xid k h)
  opens_step es place k None (CallExecuted x) next good h = more_accepted es (CallExecuted x) place k refl h
  opens_step es place k None (QueueWritten taken) next good h = more_accepted es (QueueWritten taken) place (client_state_after opened k (QueueWritten taken)) refl (opens_written (accepted_in es) place taken k h)
  opens_step es place k None (ServerTold what) next good h = more_accepted es (ServerTold what) place k refl h
  opens_step es place k (Some end) (FrameReceived f) next good h = more_accepted es (FrameReceived f) f.end k refl (opens_later (accepted_in es) place f.end k (let l = next.1 in omega (arith, l)) h)
  opens_step es place k (Some end) (CallSubmitted p a) next good h = absurd (let wrong = good.stays in cc)
  opens_step es place k (Some end) (MemoryRevoked p xid) next good h = more_accepted es (MemoryRevoked p xid) place k refl h
  opens_step es place k (Some end) (CallExecuted x) next good h = more_accepted es (CallExecuted x) place k refl h
  opens_step es place k (Some end) (QueueWritten taken) next good h = more_accepted es (QueueWritten taken) place k refl h
  opens_step es place k (Some end) (ServerTold what) next good h = more_accepted es (ServerTold what) place k refl h

  opens_of : (link : ℕ) (run : List Mark) → IsOpened opened → IsTyped run → AskedSoFar opened link run → (place : ℕ) × OpensAt opened (accepted_calls link run) place (client opened link run).state
  unfolding client
  opens_of link run o typed asked =
      let es : List RunEvent = events link Initiator run in
      let all = along (client_rules opened) (λ k e. []) (λ end. []) (ClientGood opened) (λ es place r outs. OpensAt opened (accepted_in es) place r.state)
      (λ es place r outs e next good h. opens_step es place r.state r.ended e next good h)
      [] 0 (initial_client opened) [] es (client_goes opened link run typed asked).goes
      (record {
        first = λ e. refl;
        unheard = λ e. (refl, refl);
        rises = rises_first opened o;
        calls = tt;
        waits = wait_first (lengths_before opened.agreed) 1 opened.first_stag opened.first_xid opened.resumed o.resumed;
        opening = (refl, refl);
      }) in
      (places_after 0 es, subst (λ (calls : List AcceptedCall). OpensAt opened calls (places_after 0 es) (client opened link run).state) (accepted_events link run) all)

-- ---- What the next link sends again

resumed_least : (agreed : Agreement) (first least next : ℕ) (rs : List ResumedCall) → least ≤ first → AreResumed agreed first rs next → AreResumed agreed least rs next
resumed_least agreed first least next [] le h = omega (arith, le, h)
resumed_least agreed first least next (r ∷ rs) le h = ((let lt = h.0 in omega (arith, le, lt)), h.1)

module _ (agreed : Agreement) (accepted : List AcceptedCall) (p : ResumedCall → Bool) (next : ℕ) where
  one_more : (first : ℕ) (r : ResumedCall) (rs : List ResumedCall) → first ≤ r.xid → IsResumed agreed r → AreResumed agreed (r.xid + 1) (filter p rs) next → AreResumed agreed first (filter p (r ∷ rs)) next
  one_more first r rs lt own rest = by (p r)
    where
      by : (b : Bool) → AreResumed agreed first (cond b (r ∷ filter p rs) (filter p rs)) next
      by true = (lt, (own, rest))
      by false = resumed_least agreed (r.xid + 1) first next (filter p rs) (omega (arith, lt)) rest

  again_waits : (first : ℕ) (ws : List WaitingCall) → IsRising first (xids_waiting ws) next → AllWait agreed ws → AreResumed agreed first (filter p (map resumed_again ws)) next
  again_waits first [] rises h = rises
  again_waits first (w ∷ ws) rises h = one_more first (resumed_again w) (map resumed_again ws) rises.0 h.0 (again_waits (w.xid + 1) ws rises.1 h.1)

  again_all : (first : ℕ) (os : List OutstandingCall) (ws : List WaitingCall) → IsRising first (xids_out os ++ xids_waiting ws) next → AllAgain agreed accepted os → AllWait agreed ws
      → AreResumed agreed first (filter p (flat_map (resumed_of accepted) os ++ map resumed_again ws)) next
  again_all first [] ws rises h waits = again_waits first ws rises waits
  again_all first (o ∷ os) ws rises h waits =
      let own = h.0 in
      let r : ResumedCall = record { xid = o.xid; call = o.call; form = own.own.form; plan = o.plan } in
      let rs : List ResumedCall = flat_map (resumed_of accepted) os ++ map resumed_again ws in
      let same : flat_map (resumed_of accepted) (o ∷ os) ++ map resumed_again ws ≡ r ∷ rs =
      ap (λ (x : Option AcceptedCall). (resumed_as o x ++ flat_map (resumed_of accepted) os) ++ map resumed_again ws) own.found in
      subst (λ (xs : List ResumedCall). AreResumed agreed first (filter p xs) next) (sym same) (one_more first r rs rises.0 own.resumed (again_all (o.xid + 1) os ws rises.1 h.1 waits))

-- ---- The opening of the next link

-- of a first link nothing was agreed on before
pub first_in_range : (opened : LinkParameters) → opened.agreed ≡ None → AgreedInRange opened
first_in_range opened none =
    subst (λ (agreed : Option Agreement). IsSendLimit (lengths_before agreed).up × IsSendLimit (lengths_before agreed).down) (sym none) ((omega arith, omega arith), (omega arith, omega arith))

-- what it agreed on last
last_in_range : (opened : LinkParameters) (link : ℕ) (run : List Mark) → AgreedInRange opened → HasOpening opened (client opened link run).state
    → IsSendLimit (limits (client opened link run).state).up × IsSendLimit (limits (client opened link run).state).down
last_in_range opened link run range opening = by k.has_hello
  where
    k : ClientState
    k = (client opened link run).state

    by : (b : Bool) → IsSendLimit (lengths_before (cond b (Some (record { up = k.up_max; down = k.down_max; invalidates = k.invalidates })) k.agreed)).up
        × IsSendLimit (lengths_before (cond b (Some (record { up = k.up_max; down = k.down_max; invalidates = k.invalidates })) k.agreed)).down
    by true = (let h = client_limits_of opened link run in (h.up, h.down))
    by false = subst (λ (x : Option Agreement). IsSendLimit (lengths_before x).up × IsSendLimit (lengths_before x).down) (sym opening.1) range

pub reopened_links_are_opened : ReopenedLinksAreOpened
unfolding reopened calls_kept
reopened_links_are_opened opened link run o range typed asked stags =
    let k : ClientState = (client opened link run).state in
    let h = (opens_of opened range link run o typed asked).1 in
    let least = next_least opened link run in
    let numbers = (client_known opened link run).next in
    let xid = o.xid in
    let stag = o.stag in (
      record {
        xid = omega (arith, xid, least);
        xid_fits = h.rises.fits;
        stag = omega (arith, stag, numbers);
        stag_fits = stags;
        resumed = again_all (limits k) (accepted_calls link run) (λ r. not (is_abandoned link r.xid run)) k.next_xid 1 k.outstanding k.waiting h.rises.rising h.calls h.waits;
        wished = o.wished;
        wished_fits = o.wished_fits;
        granted = o.granted;
        granted_fits = o.granted_fits;
        receives = o.receives;
      },
      last_in_range opened link run range h.opening,
    )
