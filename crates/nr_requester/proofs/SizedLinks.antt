-- On a link that was opened in range, what a client agreed on last is no less than what its calls were planned for.
use Rattle.std.proofs.Common.{◌≡◌, ℕ, ◌+◌, ◌<◌, ◌≤◌, Bool, true, false, cond, not, ◌&&◌, eqb, eqb-true, List, [], ◌∷◌, ◌++◌, length, map, Option, None, Some, Result, Ok, Err, refl, sym, ap, subst, ◌∙◌, arith, append-nil, append_assoc, length-append}
use Rattle.std.specs.List.{AllByRecursion, concat, filter, find}
use Rattle.std.proofs.lemmas.Bool.{and_parts, eq-eqb}
use Rattle.std.proofs.lemmas.List.Folds.{concat-append}
use Rattle.nr_xdr.specs.Fields.{word_at}
use Rattle.nr_wire.specs.declared.hello.Side.{Side}
use Rattle.nr_wire.specs.declared.hello.Side.TheVariants.{Initiator, Responder}
use Rattle.nr_wire.specs.declared.stream.Awaited.{Awaited}
use Rattle.nr_wire.specs.declared.stream.Awaited.TheVariants.{Hello as HelloFrom, Fpdu}
use Rattle.nr_wire.specs.Hello.{hello_of}
use Rattle.nr_wire.specs.Segment.{Segment}
use Rattle.nr_wire.specs.Stream.{AreFrames, awaited_after, split}
use Rattle.nr_wire.proofs.Frames.{fields_some}
use Rattle.nr_wire.proofs.Splits.{split_Splits, split_append}
use Rattle.nr_link.specs.declared.agreement.Agreement.{Agreement}
use Rattle.nr_link.specs.declared.end.End.{End}
use Rattle.nr_link.specs.declared.end.End.TheVariants as ends
use Rattle.nr_link.specs.Agreement.{IsSendLimit}
use Rattle.nr_link.specs.Ending.{frame_end_by, hello_end}
use Rattle.nr_link.specs.Frames.{Frame, frames_completed, frames_from, is_hello}
use Rattle.nr_link.specs.Reasons.{REASON_SIZES}
use Rattle.nr_link.specs.ReceiveState.{ReadRequest, message_completed, read_request_of}
use Rattle.nr_link.proofs.Agreements.{agreements_bounded}
use Rattle.nr_link.proofs.Streams.{frames_completed_split}
use Rattle.nr_reduce.specs.declared.call.Call.{Call}
use Rattle.nr_reduce.specs.declared.call.Form.{Form}
use Rattle.nr_reduce.specs.declared.call.Submission.TheVariants as submissions
use Rattle.nr_reduce.specs.declared.mark.LinkParameters.{LinkParameters}
use Rattle.nr_reduce.specs.declared.mark.Mark.{Mark}
use Rattle.nr_reduce.specs.declared.mark.Mark.TheVariants as marks
use Rattle.nr_reduce.specs.declared.mark.ResumedCall.{ResumedCall}
use Rattle.nr_reduce.specs.declared.outline.Plan.{Plan}
use Rattle.nr_reduce.specs.Limits.{send_unit}
use Rattle.nr_reduce.specs.Plans.{TooLarge, plan_of, regions_needed}
use Rattle.nr_reduce.specs.Asked.{AskedMark, AskedSoFar, IsAccepted, IsResent}
use Rattle.nr_reduce.specs.AtEachMark.{AtEachMark}
use Rattle.nr_reduce.specs.ClientState.{ClientState, OutstandingCall, WaitingCall, call_payload, first_of, others_than, plan_for, plan_unless, waiting_from}
use Rattle.nr_reduce.specs.Client.{client_end, client_readiness, client_rules, client_segment, client_state_after, due_with_response, has_same_sizes, initial_client, or_message_end, or_other_sizes, outstanding_of, plan_or, revoked_call, revoked_waiting, with_hello, with_message, with_request, with_segment}
use Rattle.nr_reduce.specs.EndRules.{EndState, end_state_after, next_end_state, next_end_state_by, next_end_state_in}
use Rattle.nr_reduce.specs.Events.{RunEvent, events, events_at, if_own}
use Rattle.nr_reduce.specs.Events.RunEvent.{FrameReceived, CallSubmitted, MemoryRevoked, CallExecuted, QueueWritten, ServerTold}
use Rattle.nr_reduce.specs.Hellos.{agreement_with, client_agreement, client_private, private_of}
use Rattle.nr_reduce.specs.History.{AcceptedCall, accepted_at, accepted_calls, bytes_received, fed_at, same_side}
use Rattle.nr_reduce.specs.Matched.{IsPrefixOf}
use Rattle.nr_reduce.specs.OfferedRegions.{region_grants}
use Rattle.nr_reduce.specs.Opening.{AreResumed, IsOpened, IsResumed, lengths_before}
use Rattle.nr_reduce.specs.Reopening.{last_agreement, resumed_again}
use Rattle.nr_reduce.specs.Run.{client}
use Rattle.nr_reduce.specs.SubmitAnswer.{first_xid_or, next_sent_xid}
use Rattle.nr_reduce.proofs.OwnLimits.{client_limits_of}
use Rattle.nr_reduce.proofs.OwnStags.{kept_after}
use Rattle.nr_reduce.proofs.Placing.{segment_waiting, sent_after_submit, sent_rises}
use Rattle.nr_reduce.proofs.Standing.{AtEachMark_more, itself, received_one}
use Rattle.nr_reduce.proofs.Steps.{client_one}
use Rattle.nr_reduce.proofs.Unresumed.{HasOpening, has_opening, opening_after, opening_segment}
use Rattle.nr_requester.specs.Reopening.{AgreedInRange}
use Rattle.nr_requester.proofs.AllMarks.{received_same}
use Rattle.nr_requester.proofs.AnsweredRegions.{IsSilent}
use Rattle.nr_requester.proofs.AnswerSteps.{accepted_one, all_append, all_as, all_filter}
use Rattle.nr_requester.proofs.SizedCalls.{AllAgain, AllWait, AreBelow, IsAgain, IsWithin, again_more, again_revoked, again_within, all_wait, below_one, found_new, limits, resumed_within}

-- ---- What a segment leaves

record SegmentLeaves (k t : ClientState) : Type 0 where
  hello : t.has_hello ≡ k.has_hello
  up : t.up_max ≡ k.up_max
  down : t.down_max ≡ k.down_max
  invalidates : t.invalidates ≡ k.invalidates
  calls : (agreed : Agreement) (accepted : List AcceptedCall) → AllAgain agreed accepted k.outstanding → AllAgain agreed accepted t.outstanding

segment_leaves : (k : ClientState) (f : Frame) (r : Result Segment ℕ) → SegmentLeaves k (with_segment k f r)
segment_leaves k f (Err reason) = record { hello = refl; up = refl; down = refl; invalidates = refl; calls = λ agreed accepted h. h }
segment_leaves k f (Ok segment) =
    let m = by (message_completed k.received segment) (due_with_response k f segment) (read_request_of segment) in
    record { hello = m.hello; up = m.up; down = m.down; invalidates = m.invalidates; calls = m.calls }
  where
    by : (m : Option (List ℕ)) (due : ℕ) (q : Option ReadRequest) → SegmentLeaves k (with_request (with_message k f.end m) due q)
    by None due None = record { hello = refl; up = refl; down = refl; invalidates = refl; calls = λ agreed accepted h. h }
    by None due (Some q) = record { hello = refl; up = refl; down = refl; invalidates = refl; calls = λ agreed accepted h. h }
    by (Some m) due None =
        record { hello = refl; up = refl; down = refl; invalidates = refl; calls = λ agreed accepted h. all_filter (IsAgain agreed accepted) (λ (o : OutstandingCall). not (eqb o.xid (word_at 0 m))) k.outstanding h }
    by (Some m) due (Some q) =
        record { hello = refl; up = refl; down = refl; invalidates = refl; calls = λ agreed accepted h. all_filter (IsAgain agreed accepted) (λ (o : OutstandingCall). not (eqb o.xid (word_at 0 m))) k.outstanding h }

-- ---- A client, after so many bytes of complete frames

record Sized (opened : LinkParameters) (accepted : List AcceptedCall) (place : ℕ) (k : ClientState) : Type 0 where
  heard : k.has_hello ≡ true → 0 < place
  unheard : k.has_hello ≡ false → (k.up_max ≡ send_unit) × (k.down_max ≡ send_unit)
  within : IsWithin (lengths_before opened.agreed) (limits k)
  opening : HasOpening opened k
  calls : AllAgain (limits k) accepted k.outstanding

-- a hello that doesn't end a client agrees on what an earlier one did
hello_same : (k : ClientState) (f : Frame) → is_hello f ≡ true → client_end k (FrameReceived f) ≡ None → has_same_sizes k.agreed (agreement_with k.terms f) ≡ true
unfolding client_end
hello_same k f first stays =
    by (hello_end (hello_of Responder f.bytes))
    (sym (ap (λ (b : Bool). cond b (or_other_sizes k f (hello_end (hello_of Responder f.bytes))) (or_message_end k f (frame_end_by (client_readiness k) (region_grants f.end k.regions) f (client_segment k f)))) first) ∙ stays)
  where
    same : (b : Bool) → cond b None (Some (ends.Bad f.at REASON_SIZES)) ≡ None → b ≡ true
    same true e = refl
    same false e = absurd cc

    by : (o : Option End) → or_other_sizes k f o ≡ None → has_same_sizes k.agreed (agreement_with k.terms f) ≡ true
    by None e = same (has_same_sizes k.agreed (agreement_with k.terms f)) e
    by (Some end) e = absurd cc

lengths_same : (agreed : Option Agreement) (a : Agreement) → IsSendLimit a.up → IsSendLimit a.down → has_same_sizes agreed a ≡ true → IsWithin (lengths_before agreed) a
lengths_same None a up down e = (up.0, down.0)
lengths_same (Some earlier) a up down e =
    let both = and_parts (eqb earlier.up a.up) (eqb earlier.down a.down) e in
    let same_up = eqb-true earlier.up a.up both.0 in
    let same_down = eqb-true earlier.down a.down both.1 in
    (omega (arith, same_up), omega (arith, same_down))

module _ (opened : LinkParameters) (accepted : List AcceptedCall) where
  sized_later : (place end : ℕ) (k : ClientState) → 0 < end → Sized opened accepted place k → Sized opened accepted end k
  sized_later place end k some h = record { heard = λ e. some; unheard = h.unheard; within = h.within; opening = h.opening; calls = h.calls }

  -- the first frame is the hello
  sized_hello : (place end : ℕ) (k : ClientState) (f : Frame) → place ≡ 0 → 0 < end → is_hello f ≡ true → client_end k (FrameReceived f) ≡ None → Sized opened accepted place k → Sized opened accepted end (with_hello opened k f)
  unfolding client_agreement
  sized_hello place end k f first some is stays h =
      let a : Agreement = agreement_with opened.client f in
      let bounds = agreements_bounded (client_private opened) (private_of f) in
      let same : has_same_sizes opened.agreed a ≡ true = (λ i. has_same_sizes (sym h.opening.1 i) (agreement_with (sym h.opening.0 i) f)) ∙ hello_same k f is stays in
      let more : IsWithin (lengths_before opened.agreed) a = lengths_same opened.agreed a bounds.0 bounds.1 same in
      let none : k.has_hello ≡ false = unheard_at k.has_hello (λ e. (let lt = h.heard e in absurd (omega (arith, first, lt)))) in
      let own : limits k ≡ lengths_before opened.agreed =
      ap (λ (b : Bool). lengths_before (cond b (Some (record { up = k.up_max; down = k.down_max; invalidates = k.invalidates })) k.agreed)) none ∙ ap lengths_before h.opening.1 in
      record {
        heard = λ e. some;
        unheard = λ e. absurd cc;
        within = more;
        opening = h.opening;
        calls = again_within (limits k) (limits (with_hello opened k f)) accepted k.outstanding (subst (λ (b : Agreement). IsWithin b (limits (with_hello opened k f))) (sym own) more) h.calls;
      }
    where
      unheard_at : (b : Bool) → (b ≡ true → ⊥) → b ≡ false
      unheard_at true e = absurd (e refl)
      unheard_at false e = refl

  sized_segment : (place end : ℕ) (k : ClientState) (f : Frame) → 0 < end → Sized opened accepted place k → Sized opened accepted end (with_segment k f (client_segment k f))
  sized_segment place end k f some h =
      let r : Result Segment ℕ = client_segment k f in
      let t : ClientState = with_segment k f r in
      let l : SegmentLeaves k t = segment_leaves k f r in
      let opening : HasOpening opened t = opening_segment opened k f r h.opening in
      let own : limits t ≡ limits k =
      (λ i. lengths_before (cond (l.hello i) (Some (record { up = l.up i; down = l.down i; invalidates = l.invalidates i })) ((opening.1 ∙ sym h.opening.1) i))) in
      record {
        heard = λ e. some;
        unheard = λ e. (let was = h.unheard (sym l.hello ∙ e) in (l.up ∙ was.0, l.down ∙ was.1));
        within = subst (λ (b : Agreement). IsWithin (lengths_before opened.agreed) b) (sym own) h.within;
        opening = opening;
        calls = subst (λ (b : Agreement). AllAgain b accepted t.outstanding) (sym own) (l.calls (limits k) accepted h.calls);
      }

  -- ---- Frames that follow each other

  sized_frame : (place : ℕ) (r : EndState ClientState) (bytes : List ℕ) → 0 < length bytes → Sized opened accepted place r.state →
      Sized opened accepted (place + length bytes) (next_end_state (client_rules opened) r (FrameReceived (record { at = place; end = place + length bytes; bytes = bytes }))).state
  unfolding client_state_after
  sized_frame place r bytes some h = by_end r.state r.ended h
    where
      f : Frame
      f = record { at = place; end = place + length bytes; bytes = bytes }

      later : 0 < place + length bytes
      later = omega (arith, some)

      by_kind : (k : ClientState) (b : Bool) → is_hello f ≡ b → client_end k (FrameReceived f) ≡ None → Sized opened accepted place k → Sized opened accepted (place + length bytes) (cond b (with_hello opened k f) (with_segment k f (client_segment k f)))
      by_kind k true is stays g = sized_hello place (place + length bytes) k f (eqb-true place 0 is) later is stays g
      by_kind k false is stays g = sized_segment place (place + length bytes) k f later g

      by_why : (k : ClientState) (why : Option End) → client_end k (FrameReceived f) ≡ why → Sized opened accepted place k → Sized opened accepted (place + length bytes) (next_end_state_by (client_rules opened) k (FrameReceived f) why).state
      by_why k None stays g = by_kind k (is_hello f) refl stays g
      by_why k (Some end) stops g = sized_later place (place + length bytes) k later g

      by_end : (k : ClientState) (ended : Option End) → Sized opened accepted place k → Sized opened accepted (place + length bytes) (next_end_state_in (client_rules opened) k (FrameReceived f) ended).state
      by_end k None g = by_why k (client_end k (FrameReceived f)) refl g
      by_end k (Some end) g = sized_later place (place + length bytes) k later g

  abbrev AreSome : List (List ℕ) → Type 0
  AreSome fs = AllByRecursion (λ (bytes : List ℕ). 0 < length bytes) fs

  sized_frames : (place : ℕ) (r : EndState ClientState) (fs : List (List ℕ)) → AreSome fs → Sized opened accepted place r.state →
      Sized opened accepted (place + length (concat fs)) (end_state_after (client_rules opened) r (map FrameReceived (frames_from place fs))).state
  sized_frames place r [] some h = subst (λ (n : ℕ). Sized opened accepted n r.state) (let same : place ≡ place + 0 = omega arith in same) h
  sized_frames place r (bytes ∷ fs) some h =
      let next : EndState ClientState = next_end_state (client_rules opened) r (FrameReceived (record { at = place; end = place + length bytes; bytes = bytes })) in
      let same : place + length bytes + length (concat fs) ≡ place + length (bytes ++ concat fs) = (let all = length-append bytes (concat fs) in omega (arith, all)) in
      subst (λ (n : ℕ). Sized opened accepted n (end_state_after (client_rules opened) next (map FrameReceived (frames_from (place + length bytes) fs))).state) same
      (sized_frames (place + length bytes) next fs some.1 (sized_frame place r bytes some.0 h))

  -- ---- Events that bring no frame and submit no call

  sized_silent : (place : ℕ) (r : EndState ClientState) (event : RunEvent) → IsSilent event → Sized opened accepted place r.state → Sized opened accepted place (next_end_state (client_rules opened) r event).state
  unfolding client_end client_state_after
  sized_silent place r event silent h = by_end r.state r.ended event silent h
    where
      by_end : (k : ClientState) (ended : Option End) (event : RunEvent) → IsSilent event → Sized opened accepted place k → Sized opened accepted place (next_end_state_in (client_rules opened) k event ended).state
      by_end k (Some end) event silent g = g
      by_end k None (FrameReceived f) silent g = absurd silent
      by_end k None (CallSubmitted p a) silent g = absurd silent
      by_end k None (MemoryRevoked p xid) silent g =
          record { heard = g.heard; unheard = g.unheard; within = g.within; opening = g.opening; calls = again_revoked (limits k) accepted xid k.outstanding g.calls }
      by_end k None (CallExecuted call) silent g = g
      by_end k None (QueueWritten taken) silent g = record { heard = g.heard; unheard = g.unheard; within = g.within; opening = g.opening; calls = g.calls }
      by_end k None (ServerTold what) silent g = g

  sized_if : (place : ℕ) (r : EndState ClientState) (b : Bool) (event : RunEvent) → IsSilent event → Sized opened accepted place r.state → Sized opened accepted place (end_state_after (client_rules opened) r (if_own b (event ∷ []))).state
  sized_if place r true event silent h = sized_silent place r event silent h
  sized_if place r false event silent h = h

-- ---- A call is accepted

-- the lengths by which a client plans are what was agreed on last, or one unit, which is no more
up_to : (opened : LinkParameters) → AgreedInRange opened → (has_hello : Bool) (agreed : Option Agreement) (up down : ℕ) (invalidates : Bool) → (has_hello ≡ false → (up ≡ send_unit) × (down ≡ send_unit)) → agreed ≡ opened.agreed →
    (up ≤ (lengths_before (cond has_hello (Some (record { up = up; down = down; invalidates = invalidates })) agreed)).up) × (down ≤ (lengths_before (cond has_hello (Some (record { up = up; down = down; invalidates = invalidates })) agreed)).down)
up_to opened range true agreed up down invalidates unheard is = (omega arith, omega arith)
up_to opened range false agreed up down invalidates unheard is =
    let one = unheard refl in
    let least = range.0.0 in
    let fewest = range.1.0 in
    let same_up = ap (λ (x : Option Agreement). (lengths_before x).up) is in
    let same_down = ap (λ (x : Option Agreement). (lengths_before x).down) is in
    (omega (arith, one.0, least, same_up), omega (arith, one.1, fewest, same_down))

module _ (opened : LinkParameters) (link : ℕ) (before : List Mark) (opens : IsOpened opened) (range : AgreedInRange opened) (call : Call) (form : Form) (xid place : ℕ) (is : IsAccepted opened link before call form xid) (h : Sized opened (accepted_calls link before) place (client opened link before).state) where
  abbrev k : ClientState
  k = (client opened link before).state

  abbrev a : AcceptedCall
  a = record { xid = xid; call = call; form = form }

  planned_now : IsResumed (limits k) (record { xid = xid; call = call; form = form; plan = is.plan })
  unfolding plan_for
  planned_now = by k.waiting is.planned is.next is.resent (all_wait opened link before opens)
    where
      anew : Result Plan TooLarge
      anew = plan_of (call_payload xid call) form k.up_max k.down_max

      goal : Type 0
      goal = IsResumed (limits k) (record { xid = xid; call = call; form = form; plan = is.plan })

      by : (ws : List WaitingCall) → plan_unless (first_of ws xid) anew ≡ Ok is.plan → xid ≡ first_xid_or k.next_xid ws → IsResent k.has_hello k.next_xid ws call form → AllWait (lengths_before opened.agreed) ws → goal
      by [] planned own resent waits =
          let fit = up_to opened range k.has_hello k.agreed k.up_max k.down_max k.invalidates h.unheard h.opening.1 in
          let bounds = client_limits_of opened link before in
          record { planned = record { up = k.up_max; down = k.down_max; up_fits = bounds.up; down_fits = bounds.down; planned = planned }; up = fit.0; down = fit.1; writable = is.writable }
      by (w ∷ ws) planned own resent waits = again (eqb w.xid xid) (eq-eqb w.xid xid (sym own)) planned
        where
          again : (b : Bool) → b ≡ true → plan_unless (cond b (Some w) None) anew ≡ Ok is.plan → goal
          again true e planned =
              let plan_is : w.plan ≡ is.plan = cc in
              let same : resumed_again w ≡ record { xid = xid; call = call; form = form; plan = is.plan } =
              (λ i. record { xid = sym own i; call = sym resent.call_is i; form = sym resent.form_is i; plan = plan_is i }) in
              subst (λ (r : ResumedCall). IsResumed (limits k) r) same (resumed_within (lengths_before opened.agreed) (limits k) (resumed_again w) h.within waits.0)
          again false e planned = absurd cc

  sized_call : (p : ℕ) → AreBelow xid (accepted_calls link before) → Sized opened (accepted_calls link before ++ a ∷ []) place (client_state_after opened k (CallSubmitted p a))
  unfolding client_state_after
  sized_call p below =
      let o : OutstandingCall = outstanding_of k a in
      let plan_is : o.plan ≡ is.plan = ap (λ (r : Result Plan TooLarge). plan_or (call_payload xid call) r) is.planned in
      record {
        heard = h.heard;
        unheard = h.unheard;
        within = h.within;
        opening = h.opening;
        calls = all_append (IsAgain (limits k) (accepted_calls link before ++ a ∷ [])) k.outstanding (o ∷ []) (again_more (limits k) (accepted_calls link before) (a ∷ []) k.outstanding h.calls) (
          record {
            own = a;
            found = found_new (accepted_calls link before) a below;
            resumed = subst (λ (plan : Plan). IsResumed (limits k) (record { xid = xid; call = call; form = form; plan = plan })) (sym plan_is) planned_now;
          },
          tt,
        );
      }

  sized_submit : (p : ℕ) → AreBelow xid (accepted_calls link before) → Sized opened (accepted_calls link before ++ a ∷ []) place (next_end_state (client_rules opened) (client opened link before) (CallSubmitted p a)).state
  unfolding client_end
  sized_submit p below = by k (client opened link before).ended is.stays (sized_call p below)
    where
      by : (k : ClientState) (ended : Option End) → ended ≡ None → Sized opened (accepted_calls link before ++ a ∷ []) place (client_state_after opened k (CallSubmitted p a)) →
          Sized opened (accepted_calls link before ++ a ∷ []) place (next_end_state_in (client_rules opened) k (CallSubmitted p a) ended).state
      by k None e g = g
      by k (Some end) e g = absurd cc

-- ---- Each mark

-- how many bytes of complete frames a client received
abbrev place_at : ℕ → List Mark → ℕ
place_at link run = length (concat (split (HelloFrom Responder) (bytes_received link Initiator run)).frames)

abbrev SizedAt : LinkParameters → ℕ → List Mark → Type 0
SizedAt opened link run = Sized opened (accepted_calls link run) (place_at link run) (client opened link run).state

-- what a mark makes of it
abbrev SizedBy : LinkParameters → ℕ → List Mark → Mark → Type 0
SizedBy opened link before mark = Sized opened (accepted_calls link before ++ accepted_at link mark) (place_at link (before ++ mark ∷ [])) (end_state_after (client_rules opened) (client opened link before) (events_at link Initiator before mark)).state

-- a mark that feeds nothing
place_stays : (link : ℕ) (before : List Mark) (mark : Mark) → fed_at link Initiator mark ≡ [] → place_at link before ≡ place_at link (before ++ mark ∷ [])
place_stays link before mark none = ap (λ (xs : List ℕ). length (concat (split (HelloFrom Responder) xs).frames)) (sym (received_same link before mark none))

none_added : (b : Bool) → ◌≡◌ {A = List AcceptedCall} [] (cond b [] [])
none_added true = refl
none_added false = refl

sized_quiet : (opened : LinkParameters) (link : ℕ) (before : List Mark) (mark : Mark) → fed_at link Initiator mark ≡ [] → [] ≡ accepted_at link mark →
    Sized opened (accepted_calls link before) (place_at link before) (end_state_after (client_rules opened) (client opened link before) (events_at link Initiator before mark)).state → SizedBy opened link before mark
sized_quiet opened link before mark no_feed none h =
    let t : ClientState = (end_state_after (client_rules opened) (client opened link before) (events_at link Initiator before mark)).state in
    subst (λ (n : ℕ). Sized opened (accepted_calls link before ++ accepted_at link mark) n t) (place_stays link before mark no_feed)
    (subst (λ (more : List AcceptedCall). Sized opened (accepted_calls link before ++ more) (place_at link before) t) none
    (subst (λ (calls : List AcceptedCall). Sized opened calls (place_at link before) t) (sym (append-nil (accepted_calls link before))) h))

some_frames : (a : Awaited) (fs : List (List ℕ)) → AreFrames a fs → AllByRecursion (λ (bytes : List ℕ). 0 < length bytes) fs
some_frames a [] h = tt
some_frames a (f ∷ fs) h = ((let least = h.0.fields in omega (arith, least, fields_some a)), some_frames Fpdu fs h.1)

sized_fed : (opened : LinkParameters) (link : ℕ) (before : List Mark) (l : ℕ) (side : Side) (bytes : List ℕ) → SizedAt opened link before → SizedBy opened link before (marks.Fed l side bytes)
sized_fed opened link before l side bytes h = by (eqb l link && same_side side Initiator) refl
  where
    r : EndState ClientState
    r = client opened link before

    got : List ℕ
    got = bytes_received link Initiator before

    old : List (List ℕ)
    old = (split (HelloFrom Responder) got).frames

    fs : List (List ℕ)
    fs = (split (awaited_after (HelloFrom Responder) old) ((split (HelloFrom Responder) got).rest ++ bytes)).frames

    place : ℕ
    place = place_at link before

    by : (b : Bool) → (eqb l link && same_side side Initiator) ≡ b →
        Sized opened (accepted_calls link before ++ []) (place_at link (before ++ marks.Fed l side bytes ∷ [])) (end_state_after (client_rules opened) r (if_own b (map FrameReceived (frames_completed Responder got bytes)))).state
    by false is =
        subst (λ (n : ℕ). Sized opened (accepted_calls link before ++ []) n r.state) (place_stays link before (marks.Fed l side bytes) (ap (λ (b : Bool). cond b bytes []) is))
        (subst (λ (calls : List AcceptedCall). Sized opened calls place r.state) (sym (append-nil (accepted_calls link before))) h)
    by true is =
        let frames : frames_completed Responder got bytes ≡ frames_from place fs = frames_completed_split Responder got bytes in
        let splits = split_Splits (awaited_after (HelloFrom Responder) old) ((split (HelloFrom Responder) got).rest ++ bytes) in
        let all : bytes_received link Initiator (before ++ marks.Fed l side bytes ∷ []) ≡ got ++ bytes = received_one link Initiator before (marks.Fed l side bytes) ∙ ap (λ (b : Bool). got ++ cond b bytes []) is in
        let whole : place + length (concat fs) ≡ place_at link (before ++ marks.Fed l side bytes ∷ []) =
        sym (ap (λ (xs : List ℕ). length (concat (split (HelloFrom Responder) xs).frames)) all
        ∙ ap (λ (s : Rattle.nr_wire.specs.Stream.Split). length (concat s.frames)) (split_append (HelloFrom Responder) got bytes)
        ∙ ap (λ (xs : List ℕ). length xs) (concat-append old fs) ∙ length-append (concat old) (concat fs)) in
        subst (λ (n : ℕ). Sized opened (accepted_calls link before ++ []) n (end_state_after (client_rules opened) r (map FrameReceived (frames_completed Responder got bytes))).state) whole
        (subst (λ (xs : List Frame). Sized opened (accepted_calls link before ++ []) (place + length (concat fs)) (end_state_after (client_rules opened) r (map FrameReceived xs)).state) (sym frames)
        (subst (λ (calls : List AcceptedCall). Sized opened calls (place + length (concat fs)) (end_state_after (client_rules opened) r (map FrameReceived (frames_from place fs))).state) (sym (append-nil (accepted_calls link before)))
        (sized_frames opened (accepted_calls link before) place r fs (some_frames _ fs splits.each) h)))

sized_accepted : (opened : LinkParameters) (link : ℕ) (before : List Mark) (l : ℕ) (call : Call) (form : Form) (xid : ℕ) → IsOpened opened → AgreedInRange opened → (l ≡ link → IsAccepted opened link before call form xid) → AreBelow (next_sent_xid (client opened link before).state) (accepted_calls link before) →
    SizedAt opened link before → SizedBy opened link before (marks.Submit l call form (submissions.Accepted xid))
sized_accepted opened link before l call form xid opens range asked below h =
    subst (λ (n : ℕ). Sized opened (accepted_calls link before ++ accepted_at link mark) n (end_state_after (client_rules opened) r (events_at link Initiator before mark)).state) (place_stays link before mark refl) (by (eqb l link) refl)
  where
    mark : Mark
    mark = marks.Submit l call form (submissions.Accepted xid)

    r : EndState ClientState
    r = client opened link before

    a : AcceptedCall
    a = record { xid = xid; call = call; form = form }

    p : ℕ
    p = length (bytes_received link Initiator before)

    by : (b : Bool) → eqb l link ≡ b → Sized opened (accepted_calls link before ++ cond b (a ∷ []) []) (place_at link before) (end_state_after (client_rules opened) r (if_own (b && true) (CallSubmitted p a ∷ []))).state
    by true own =
        let is : IsAccepted opened link before call form xid = asked (eqb-true l link own) in
        sized_submit opened link before opens range call form xid (place_at link before) is h p (subst (λ (n : ℕ). AreBelow n (accepted_calls link before)) (sym is.next) below)
    by false own = subst (λ (calls : List AcceptedCall). Sized opened calls (place_at link before) r.state) (sym (append-nil (accepted_calls link before))) h

sized_mark : (opened : LinkParameters) (link : ℕ) (before : List Mark) (mark : Mark) → IsOpened opened → AgreedInRange opened → AskedMark IsPrefixOf opened link before mark → AreBelow (next_sent_xid (client opened link before).state) (accepted_calls link before) →
    SizedAt opened link before → SizedBy opened link before mark
sized_mark opened link before (marks.Submit l call form (submissions.Accepted xid)) opens range asked below h = sized_accepted opened link before l call form xid opens range asked below h
sized_mark opened link before (marks.Submit l call form (submissions.Refused why)) opens range asked below h = sized_quiet opened link before (marks.Submit l call form (submissions.Refused why)) refl (none_added (eqb l link)) h
sized_mark opened link before (marks.Submit l call form submissions.Dropped) opens range asked below h = sized_quiet opened link before (marks.Submit l call form submissions.Dropped) refl (none_added (eqb l link)) h
sized_mark opened link before (marks.Wrote l side bytes) opens range asked below h =
    sized_quiet opened link before (marks.Wrote l side bytes) refl refl (sized_if opened (accepted_calls link before) (place_at link before) (client opened link before) _ (QueueWritten (length bytes)) tt h)
sized_mark opened link before (marks.Fed l side bytes) opens range asked below h = sized_fed opened link before l side bytes h
sized_mark opened link before (marks.Execute l xid moment payload place reply) opens range asked below h =
    sized_quiet opened link before (marks.Execute l xid moment payload place reply) refl refl
    (sized_if opened (accepted_calls link before) (place_at link before) (client opened link before) _ (CallExecuted (record { xid = xid; moment = moment; payload = payload; place = place; reply = reply })) tt h)
sized_mark opened link before (marks.Done l xid outcome) opens range asked below h = sized_quiet opened link before (marks.Done l xid outcome) refl refl h
sized_mark opened link before (marks.Lost l xid) opens range asked below h = sized_quiet opened link before (marks.Lost l xid) refl refl h
sized_mark opened link before (marks.Forget l xid) opens range asked below h = sized_quiet opened link before (marks.Forget l xid) refl refl h
sized_mark opened link before (marks.Revoke l xid bytes) opens range asked below h =
    sized_quiet opened link before (marks.Revoke l xid bytes) refl refl
    (sized_if opened (accepted_calls link before) (place_at link before) (client opened link before) _ (MemoryRevoked (length (bytes_received link Initiator before)) xid) tt h)
sized_mark opened link before (marks.Drop l) opens range asked below h = sized_quiet opened link before (marks.Drop l) refl refl h
sized_mark opened link before (marks.Told l what) opens range asked below h =
    sized_quiet opened link before (marks.Told l what) refl refl (sized_if opened (accepted_calls link before) (place_at link before) (client opened link before) _ (ServerTold what) tt h)

sized_from : (opened : LinkParameters) (link : ℕ) (before run : List Mark) → IsOpened opened → AgreedInRange opened → AtEachMark (AskedMark IsPrefixOf opened link) before run → AreBelow (next_sent_xid (client opened link before).state) (accepted_calls link before) →
    SizedAt opened link before → SizedAt opened link (before ++ run)
sized_from opened link before [] opens range asked below h = subst (λ (all : List Mark). SizedAt opened link all) (sym (append-nil before)) h
sized_from opened link before (mark ∷ run) opens range asked below h =
    let next : SizedAt opened link (before ++ mark ∷ []) =
    subst (λ (calls : List AcceptedCall). Sized opened calls (place_at link (before ++ mark ∷ [])) (client opened link (before ++ mark ∷ [])).state) (sym (accepted_one link before mark))
    (subst (λ (e : EndState ClientState). Sized opened (accepted_calls link before ++ accepted_at link mark) (place_at link (before ++ mark ∷ [])) e.state) (sym (client_one opened link before mark)) (sized_mark opened link before mark opens range asked.0 below h)) in
    subst (λ (all : List Mark). SizedAt opened link all) (append_assoc before (mark ∷ []) run)
    (sized_from opened link (before ++ mark ∷ []) run opens range asked.1 (below_one opened link before mark asked.0 below) next)

sized_first : (opened : LinkParameters) (link : ℕ) → SizedAt opened link []
unfolding client events accepted_calls
sized_first opened link = record { heard = λ e. absurd cc; unheard = λ e. (refl, refl); within = (omega arith, omega arith); opening = (refl, refl); calls = tt }

none_accepted : (opened : LinkParameters) (link : ℕ) → AreBelow (next_sent_xid (client opened link []).state) (accepted_calls link [])
unfolding accepted_calls
none_accepted opened link = tt

-- ---- What a client of a run has

module _ (opened : LinkParameters) (link : ℕ) (run : List Mark) (opens : IsOpened opened) (range : AgreedInRange opened) (asked : AskedSoFar opened link run) where
  sized : SizedAt opened link run
  sized = sized_from opened link [] run opens range asked (none_accepted opened link) (sized_first opened link)

  pub calls_again : AllAgain (limits (client opened link run).state) (accepted_calls link run) (client opened link run).state.outstanding
  calls_again = sized.calls

  pub waits_again : AllWait (limits (client opened link run).state) (client opened link run).state.waiting
  waits_again =
      all_as (client opened link run).state.waiting (λ (w : WaitingCall) g. resumed_within (lengths_before opened.agreed) (limits (client opened link run).state) (resumed_again w) sized.within g) (all_wait opened link run opens)

  -- the lengths that were agreed on last are from one unit to the most units
  pub limits_in_range : IsSendLimit (limits (client opened link run).state).up × IsSendLimit (limits (client opened link run).state).down
  limits_in_range = by k.has_hello
    where
      k : ClientState
      k = (client opened link run).state

      by : (b : Bool) → IsSendLimit (lengths_before (cond b (Some (record { up = k.up_max; down = k.down_max; invalidates = k.invalidates })) k.agreed)).up
          × IsSendLimit (lengths_before (cond b (Some (record { up = k.up_max; down = k.down_max; invalidates = k.invalidates })) k.agreed)).down
      by true = (let bounds = client_limits_of opened link run in (bounds.up, bounds.down))
      by false = subst (λ (x : Option Agreement). IsSendLimit (lengths_before x).up × IsSendLimit (lengths_before x).down) (sym (has_opening opened link run).1) range
